-- Messages that are laid by, and messages that are refused.
use Rattle.std.proofs.Common.{◌≡◌, ℕ, Bool, true, false, List, [], ◌∷◌, ◌++◌, refl, sym, ◌∙◌, ap, subst, arith, Option, Some, None}
use Rattle.std.specs.Prelude.{not, ◌==◌, ◌↔◌}
use Rattle.std.specs.Option.{is_some}
use Rattle.std.proofs.lemmas.Bool.{eqb-true}
use Rattle.sr_cell.specs.declared.fault.Fault.{Fault}
use Rattle.sr_cell.specs.declared.table.Table.{Table}
use Rattle.sr_cell.specs.Cells.{Row}
use Rattle.sr_message.specs.declared.message.Message.{Message}
use Rattle.sr_message.specs.declared.message.Message.TheVariants.{Hello, Resume, Ask, Write, Welcome, Notice, Rows, Reply, Written, Refused, Lapse}
use Rattle.sr_model.specs.Queries.{Query}
use Rattle.sr_wire.specs.declared.bad_frame.BadFrame.{BadFrame}
use Rattle.sr_wire.specs.declared.bad_frame.BadFrame.TheVariants.{Number, Shape}
use Rattle.sr_session.specs.Sessions.{Database}
use Rattle.sr_session.specs.Laws.{OutAsksKeys}
use Rattle.sr_session.specs.Misfits.{misfit, or_else, rows_suit}
use Rattle.sr_session.specs.Rules.{Laid, IsForRequest, lays}
use Rattle.sr_session.specs.Rules as rules
use Rattle.sr_session.specs.Tidy.{by_message}
use Rattle.sr_session.specs.Walks.{Request, AskOut, WriteOut, ResumeOut, IsAskOf, IsLaid}
use Rattle.sr_session.proofs.NeverLemmas.{never-refused}
use Rattle.sr_session.proofs.TidyLemmas.{rules-keep-tidy}
use Rattle.sr_session.specs.Bases.{basis_of}
use Rattle.sr_session.specs.Brought.{told_after, told_basis, told_where}
use Rattle.sr_client.proofs.ByToldLemmas.{by-told, where-laid}
use Rattle.sr_client.specs.declared.client.Client.{Client}
use Rattle.sr_client.specs.declared.client.Request as code
use Rattle.sr_client.specs.declared.client.Request.TheVariants as request
use Rattle.sr_client.specs.declared.steps.Took.{Took}
use Rattle.sr_client.specs.declared.steps.Took.TheVariants as took
use Rattle.sr_client.specs.Stands.{Hidden, Facts, Stands, Truly, IsFit, past_of, out_of, request_of, given_up}
use Rattle.sr_client.specs.Steps.{Goes, SaysTook, Takes, is_bad}
use Rattle.sr_client.proofs.AskedLemmas.{keys-asked}
use Rattle.sr_client.proofs.GiveUpLemmas.{given-stands}
use Rattle.sr_client.proofs.MoveLemmas.{takes-by}
use Rattle.sr_client.proofs.OverLemmas.{on, over, stands-over}
use Rattle.sr_client.proofs.SuitLemmas.{or-none, not-false, fit-more}

-- ---- laid by

abbrev pub laid : Client → Message → Client
laid c m = record c { laid = c.laid ++ m ∷ [] }

-- rows are for the ask that is out
rows-for : (schema : List Table) (r : Request) (pre : List Message) (version k part : ℕ) (rows : List Row) → misfit schema (Some r) pre version (Rows k part rows) ≡ None → IsAskOf (Some r) k
rows-for schema (AskOut number query meaning fresh parts) pre version k part rows fit =
    eqb-true k number (not-false (k == number) (or-none (not (k == number)) Number (or_else (not (rows_suit schema parts pre part rows)) Shape None) fit))
rows-for schema (WriteOut number) pre version k part rows fit = absurd (cc)
rows-for schema (ResumeOut number) pre version k part rows fit = absurd (cc)

is-for : (schema : List Table) (r : Request) (pre : List Message) (version : ℕ) (m : Message) → misfit schema (Some r) pre version m ≡ None → IsForRequest r m
is-for schema r pre version (Rows k part rows) fit = rows-for schema r pre version k part rows fit
is-for schema r pre version (Notice w told) fit = tt
is-for schema r pre version (Lapse w) fit = tt
is-for schema r pre version (Reply k w) fit = tt
is-for schema r pre version (Written k w) fit = tt
is-for schema r pre version (Refused k fault) fit = tt
is-for schema r pre version (Welcome k w kept) fit = tt
is-for schema r pre version (Hello wire client n) fit = tt
is-for schema r pre version (Resume wire client n v holdings) fit = tt
is-for schema r pre version (Ask n mode parts) fit = tt
is-for schema r pre version (Write n sql) fit = tt

-- some database, of which nothing is asked
abbrev nothing : Database
nothing = record { schema = []; log_limit = 0; versions = [] }

module _ (c : Client) (m : Message) (r : code.Request) (out : c.out ≡ Some r) (fit : IsFit c m) (is : IsLaid m) where
  module _ (h : Hidden) (f : Facts c h) where
    own : IsForRequest (request_of h.meaning r) m
    own = is-for c.schema (request_of h.meaning r) c.laid c.version m (subst (λ o. misfit c.schema (out_of h.meaning o) c.laid c.version m ≡ None) out (fit h.meaning))

    step : (b : rules.Basis) → rules.TakeStep b (past_of c h) m Laid (past_of (laid c m) h)
    step b = lays (request_of h.meaning r) m (ap (out_of h.meaning) out) is own

    laid-facts : Facts (laid c m) h
    laid-facts = record {
      tables = f.tables;
      tidy = rules-keep-tidy (basis_of (on c nothing) c.store.limits) (past_of c h) (past_of (laid c m) h) Laid f.tidy (by_message m Laid (past_of (laid c m) h) (step (basis_of (on c nothing) c.store.limits)));
      down = f.down;
      meant = f.meant;
      fit = fit-more c.schema (out_of h.meaning c.out) c.version [] c.laid m f.fit (fit h.meaning);
      store = f.store;
      settled = f.settled;
      keeps = f.keeps;
      queries = f.queries;
      last = f.last;
      rows = f.rows;
      few = f.few;
      from = f.from;
      short = f.short;
      ends = f.ends;
    }

  pub takes-laid : Stands c → Takes c m (laid c m) took.Laid
  takes-laid stands = takes-by c (laid c m) m took.Laid (λ h f. record {
    outcome = Laid;
    next = past_of (laid c m) h;
    is = refl;
    link = refl;
    draws = omega arith;
    stands = (h, laid-facts h f, refl);
    over = λ db here t. (
      step h f (basis_of (on c db) c.store.limits),
      stands-over (laid c m) h db (laid-facts h f) (record { sound = here.sound; within = here.within; are_true = here.are_true }),
    );
  }) (λ h f. by-told c (laid c m) (told_after c.schema (past_of c h) m) (λ told. told) (λ b. rules.TakeStep b (past_of c h) m Laid (past_of (laid c m) h))
      (λ told. ap (λ o. told_where c.schema o c.laid m told) (ap (out_of h.meaning) out) ∙ where-laid c.schema (request_of h.meaning r) c.laid m told is)
      (λ told own. (own, step h f (told_basis c.schema c.store.limits told)))) stands

-- what is not refused, and ends no request, may be laid by
only-laid : (schema : List Table) (out : Option Request) (pre : List Message) (version : ℕ) (m : Message) → misfit schema out pre version m ≡ None → ((k w : ℕ) → m ≡ Reply k w → ⊥) → ((k w : ℕ) → m ≡ Written k w → ⊥)
    → ((k : ℕ) (fault : Fault) → m ≡ Refused k fault → ⊥) → ((k w : ℕ) (kept : Bool) → m ≡ Welcome k w kept → ⊥) → IsLaid m
only-laid schema out pre version (Notice w told) fit reply written refused welcome = tt
only-laid schema out pre version (Lapse w) fit reply written refused welcome = tt
only-laid schema out pre version (Rows k part rows) fit reply written refused welcome = tt
only-laid schema out pre version (Reply k w) fit reply written refused welcome = absurd (reply k w refl)
only-laid schema out pre version (Written k w) fit reply written refused welcome = absurd (written k w refl)
only-laid schema out pre version (Refused k fault) fit reply written refused welcome = absurd (refused k fault refl)
only-laid schema out pre version (Welcome k w kept) fit reply written refused welcome = absurd (welcome k w kept refl)
only-laid schema out pre version (Hello wire client n) fit reply written refused welcome = absurd (cc)
only-laid schema out pre version (Resume wire client n v holdings) fit reply written refused welcome = absurd (cc)
only-laid schema out pre version (Ask n mode asks) fit reply written refused welcome = absurd (cc)
only-laid schema out pre version (Write n sql) fit reply written refused welcome = absurd (cc)

pub may-lay : (c : Client) (m : Message) → Stands c → IsFit c m → ((k w : ℕ) → m ≡ Reply k w → ⊥) → ((k w : ℕ) → m ≡ Written k w → ⊥) → ((k : ℕ) (fault : Fault) → m ≡ Refused k fault → ⊥)
    → ((k w : ℕ) (kept : Bool) → m ≡ Welcome k w kept → ⊥) → IsLaid m
may-lay c m stands fit reply written refused welcome = only-laid c.schema (out_of stands.0.meaning c.out) c.laid c.version m (fit stands.0.meaning) reply written refused welcome

-- ---- refused

pub out-keys : (c : Client) (h : Hidden) → Facts c h → OutAsksKeys c.schema (out_of h.meaning c.out)
out-keys c h f = by c.out refl
  where
    by : (out : Option code.Request) → c.out ≡ out → OutAsksKeys c.schema (out_of h.meaning out)
    by None e = tt
    by (Some (request.Ask o)) e = keys-asked c o h (subst (λ out. Facts (record c { out = out }) h) e f)
    by (Some (request.Write n)) e = tt
    by (Some (request.Resume n)) e = tt

-- what is promised is not refused
pub takes-bad : (c : Client) (m : Message) (why : BadFrame) (cuts : ℕ) → ((meaning : Query) → misfit c.schema (out_of meaning c.out) c.laid c.version m ≡ Some why) → Stands c
    → Takes c m (given_up c cuts) (took.Bad why)
takes-bad c m why cuts bad stands = record {
  by_rules = over c (λ db past. Truly db past m → Goes db (SaysTook (took.Bad why)) (rules.TakeStep (basis_of db c.store.limits) past m) (given_up c cuts)) (λ h f db here t.
      let never : misfit c.schema (out_of h.meaning c.out) c.laid c.version m ≡ None =
      never-refused (on c db) (past_of c h) t.connection t.session m t.rest here.sound f.tables (out-keys c h f) t.is_open t.first in
      absurd (let wrong : Some why ≡ None = sym (bad h.meaning) ∙ never in cc));
  moves = λ past s good. absurd (let wrong : true ≡ false = good in cc);
  ruled = λ past s good. absurd (let wrong : true ≡ false = good in cc);
  stands = given-stands c c cuts stands refl;
}

-- some request is out
pub some-of : (out : Option code.Request) → is_some out ≡ true → (r : code.Request) × (out ≡ Some r)
some-of None some = absurd (cc)
some-of (Some r) some = (r, refl)

pub none-of : (out : Option code.Request) → is_some out ≡ false → out ≡ None
none-of None none = refl
none-of (Some r) none = absurd (cc)

-- ---- what was told of a message

pub bad-iff : (why w : BadFrame) (reason : Option BadFrame) → reason ≡ Some why → (took.Bad why ≡ took.Bad w) ↔ (reason ≡ Some w)
bad-iff why w reason is = (
  λ e. let same : why ≡ w = cc in is ∙ ap (λ x. Some x) same,
  λ e. let some : Some why ≡ Some w = sym is ∙ e in let same : why ≡ w = cc in ap took.Bad same,
)

pub good-iff : (t : Took) (w : BadFrame) (reason : Option BadFrame) → reason ≡ None → is_bad t ≡ false → (t ≡ took.Bad w) ↔ (reason ≡ Some w)
good-iff t w reason none good = (
  λ e. absurd (let wrong : true ≡ false = ap is_bad (sym e) ∙ good in cc),
  λ e. absurd (let wrong : Some w ≡ None = sym e ∙ none in cc),
)

-- what the call tells, of the client's schema as it read it
pub misfit-of : (c : Client) (m : Message) (schema : List Table) (why : Option BadFrame) → schema ≡ c.schema
    → ((meaning : Query) → why ≡ misfit schema (out_of meaning c.out) c.laid c.version m) → (meaning : Query) → misfit c.schema (out_of meaning c.out) c.laid c.version m ≡ why
misfit-of c m schema why schema_is gives meaning = sym (gives meaning ∙ ap (λ s. misfit s (out_of meaning c.out) c.laid c.version m) schema_is)
