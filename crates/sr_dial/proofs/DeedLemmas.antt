-- What lines ask.
use Rattle.std.proofs.Common.{◌≡◌, ℕ, List, ap, refl, subst, sym}
use Rattle.std.specs.Prelude.{Result}
use Rattle.sr_cell.specs.declared.fault.Fault.{Fault}
use Rattle.sr_cell.specs.declared.table.Table.{Table}
use Rattle.sr_model.specs.Queries as model
use Rattle.sr_query.specs.declared.query.Query.{Query}
use Rattle.sr_reader.specs.declared.script.Event as code
use Rattle.sr_reader.specs.declared.script.Event.TheVariants as read
use Rattle.sr_reader.specs.Read.{Means}
use Rattle.sr_links.specs.Steps.{Deed, WasCut, Resumed}
use Rattle.sr_dial.specs.Calls.{Task, Do, Explain, Say}
use Rattle.sr_dial.specs.Known.{IsDeed, IsPlain, IsTask}

-- what neither resumes nor cuts leaves the link as it is
plain-deed : (schema : List Table) (event : code.Event) (deed : Deed) → IsDeed schema event deed → ((n : ℕ) → event ≡ read.Resume n → ⊥) → ((n : ℕ) → event ≡ read.Cut n → ⊥) → IsPlain deed
plain-deed schema (read.Query n query) deed (meaning, means, is) resume cut = subst IsPlain (sym is) tt
plain-deed schema (read.Write n sql) deed is resume cut = subst IsPlain (sym is) tt
plain-deed schema (read.Evict n place) deed is resume cut = subst IsPlain (sym is) tt
plain-deed schema (read.Cut n) deed is resume cut = absurd (cut n refl)
plain-deed schema (read.Resume n) deed is resume cut = absurd (resume n refl)
plain-deed schema (read.Exec statement) deed is resume cut = absurd is
plain-deed schema (read.Explain n query) deed is resume cut = absurd is
plain-deed schema (read.Push n) deed is resume cut = absurd is
plain-deed schema (read.ToServer n) deed is resume cut = absurd is
plain-deed schema (read.ToClient n) deed is resume cut = absurd is
plain-deed schema (read.Settle n) deed is resume cut = absurd is

-- a line that asks to explain asks for nothing else
pub explains-text : (schema : List Table) (event : code.Event) (n : ℕ) (query : Result Query Fault) (task : Task) (P : Task → Type 0) → event ≡ read.Explain n query → IsTask schema event task
    → ((text : Result model.Query Fault) → Means schema query text → P (Explain text)) → P task
explains-text schema event n query (Do deed) P same is each = absurd (subst (λ e. IsDeed schema e deed) same is)
explains-text schema event n query (Explain text) P same is each = each text (subst (λ e. IsTask schema e (Explain text)) same is)
explains-text schema event n query (Say text) P same is each = absurd is

explains-none : (schema : List Table) (event : code.Event) (text : Result model.Query Fault) → IsTask schema event (Explain text) → ((n : ℕ) (query : Result Query Fault) → event ≡ read.Explain n query → ⊥) → ⊥
explains-none schema (read.Explain n query) text is none = none n query refl
explains-none schema (read.Query n query) text is none = is
explains-none schema (read.Write n sql) text is none = is
explains-none schema (read.Evict n place) text is none = is
explains-none schema (read.Cut n) text is none = is
explains-none schema (read.Resume n) text is none = is
explains-none schema (read.Exec statement) text is none = is
explains-none schema (read.Push n) text is none = is
explains-none schema (read.ToServer n) text is none = is
explains-none schema (read.ToClient n) text is none = is
explains-none schema (read.Settle n) text is none = is

-- any other line asks for a deed, which leaves the link as it is
pub does-deed : (schema : List Table) (event : code.Event) (task : Task) (P : Task → Type 0) → IsTask schema event task → ((n : ℕ) → event ≡ read.Resume n → ⊥) → ((n : ℕ) → event ≡ read.Cut n → ⊥)
    → ((n : ℕ) (query : Result Query Fault) → event ≡ read.Explain n query → ⊥) → ((deed : Deed) → IsDeed schema event deed → IsPlain deed → P (Do deed)) → P task
does-deed schema event (Do deed) P is resume cut explain each = each deed is (plain-deed schema event deed is resume cut)
does-deed schema event (Explain text) P is resume cut explain each = absurd (explains-none schema event text is explain)
does-deed schema event (Say text) P is resume cut explain each = absurd is

-- the deed of a line that resumes, or cuts
pub resumes-task : (schema : List Table) (event : code.Event) (n : ℕ) (task : Task) → event ≡ read.Resume n → IsTask schema event task → task ≡ Do Resumed
resumes-task schema event n (Do deed) same is = ap Do (subst (λ e. IsDeed schema e deed) same is)
resumes-task schema event n (Explain text) same is = absurd (subst (λ e. IsTask schema e (Explain text)) same is)
resumes-task schema event n (Say text) same is = absurd is

pub cuts-task : (schema : List Table) (event : code.Event) (n : ℕ) (task : Task) → event ≡ read.Cut n → IsTask schema event task → task ≡ Do WasCut
cuts-task schema event n (Do deed) same is = ap Do (subst (λ e. IsDeed schema e deed) same is)
cuts-task schema event n (Explain text) same is = absurd (subst (λ e. IsTask schema e (Explain text)) same is)
cuts-task schema event n (Say text) same is = absurd is

-- what is asked by a line that asks for something
pub asked-text : (schema : List Table) (event : code.Event) (n : ℕ) (query : Result Query Fault) → event ≡ read.Explain n query → (task : Task) × IsTask schema event task → (text : Result model.Query Fault) × Means schema query text
asked-text schema event n query same (task, is) = explains-text schema event n query task (λ task. (text : Result model.Query Fault) × Means schema query text) same is (λ text means. (text, means))

pub asked-deed : (schema : List Table) (event : code.Event) → ((n : ℕ) → event ≡ read.Resume n → ⊥) → ((n : ℕ) → event ≡ read.Cut n → ⊥) → ((n : ℕ) (query : Result Query Fault) → event ≡ read.Explain n query → ⊥)
    → (task : Task) × IsTask schema event task → (deed : Deed) × IsDeed schema event deed
asked-deed schema event resume cut explain (task, is) = does-deed schema event task (λ task. (deed : Deed) × IsDeed schema event deed) is resume cut explain (λ deed is plain. (deed, is))
