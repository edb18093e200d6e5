use Rattle.std.proofs.Common.{◌≡◌, ◌++◌, ◌∷◌, [], ap, ◌∙◌}
use Rattle.sr_regions.proofs.Naming.{named-more}
use Rattle.sr_regions.proofs.index.Index.add.Goals as goal

pub returns-clause-stays : goal.returns-clause-stays
returns-clause-stays c =
    let numbers : c.push.new.self ≡ c.numbers_at-2.result.now ++ c.args.number ∷ [] = c.in_ok-push.ensures.pushed ∙ ap (λ ns. ns ++ c.args.number ∷ []) (c.in_ok-extend.ensures.extended ∙ ap (λ ns. ns ++ c.numbers_at-2.result.now) c.new-numbers.ensures) in
    named-more c.args.self.now (record { numbers = c.insert.new.self }) c.args.key.now c.in_ok-copy.field-0 c.numbers_at-2.result.now c.push.new.self c.args.number
    c.in_ok-copy.ensures numbers (λ q. c.in_ok-insert.ensures.updates.0 q) c.numbers_at-2.ensures
