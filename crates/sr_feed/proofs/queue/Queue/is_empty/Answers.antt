use Rattle.std.proofs.Common.{◌≡◌, ℕ, sym, ◌∙◌, true, nat_eq, arith}
use Rattle.std.proofs.lemmas.Bool.Decides.{nat_tests}
use Rattle.sr_feed.proofs.Frames.{no_bytes, no_messages}
use Rattle.sr_feed.proofs.queue.Queue.is_empty.Goals as goal

is_none : (n : ℕ) → nat_eq n 0 ≡ true → n ≡ 0
is_none n is = grind (arith, nat_tests)

none_is : (n : ℕ) → n ≡ 0 → nat_eq n 0 ≡ true
none_is n is = grind (arith, nat_tests)

pub returns : goal.returns
returns c = (
  λ none. sym c.self.view_is ∙ no_bytes c.self.inside.frames c.self.invariant (sym c.left.ensures ∙ is_none c.left.result none),
  λ none. none_is c.left.result (c.left.ensures ∙ no_messages c.self.inside.frames c.self.invariant (c.self.view_is ∙ none)),
)
