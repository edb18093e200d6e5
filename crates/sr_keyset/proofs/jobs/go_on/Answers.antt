use Rattle.std.proofs.Common.{List, ℕ, refl, sym, ◌∙◌, ap}
use Rattle.sr_semi.specs.declared.stage.Next.TheVariants.{Run}
use Rattle.sr_keyset.proofs.Handing.{fewer-text, on-joined, on-plain, on-text}
use Rattle.sr_keyset.proofs.jobs.go_on.Goals as goal

pub returns-in-Run-clause-hands : goal.returns-in-Run-clause-hands
returns-in-Run-clause-hands c =
    on-text c.args.tables.now c.args.going c.args.answer.now c.hand_query.result (record { semi = c.answered.new.self; number = c.args.going.number; client = c.args.going.client; sql = c.args.going.sql }) c.as_str.result.now
    (sym c.in_ok-text.ensures.next ∙ (c.in-Run.is ∙ ap (λ (t : List ℕ). Run t) (sym c.as_str.ensures))) c.in_ok-text.ensures.stage refl refl refl c.hand_query.ensures

pub returns-in-Run-clause-fewer : goal.returns-in-Run-clause-fewer
returns-in-Run-clause-fewer c =
    fewer-text c.args.tables.now c.args.going c.args.answer.now c.hand_query.result (record { semi = c.answered.new.self; number = c.args.going.number; client = c.args.going.client; sql = c.args.going.sql }) c.as_str.result.now
    (sym c.in_ok-text.ensures.next ∙ (c.in-Run.is ∙ ap (λ (t : List ℕ). Run t) (sym c.as_str.ensures))) c.in_ok-text.ensures.stage c.hand_query.ensures

pub returns-in-Joined-clause-hands : goal.returns-in-Joined-clause-hands
returns-in-Joined-clause-hands c =
    on-joined c.args.tables.now c.args.going c.args.answer.now c.hand_joined.result c.in-Joined.version c.in-Joined.keys c.in-Joined.rows (sym c.in_ok-text.ensures.next ∙ c.in-Joined.is) c.hand_joined.ensures

pub returns-clause-hands : goal.returns-clause-hands
returns-clause-hands c =
    on-plain c.args.tables.now c.args.going c.args.answer.now c.hand_query-in-Plain.result (sym c.in_ok-text.ensures.next ∙ c.in-Plain.is) c.hand_query-in-Plain.ensures
