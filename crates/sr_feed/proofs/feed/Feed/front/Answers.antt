use Rattle.std.proofs.Common.{◌≡◌, ℕ, ◌-◌, List, ◌++◌, length, take, drop, sym, ap, ◌∙◌, arith, rules}
use Rattle.std.proofs.lemmas.Grind.{common_steps}
use Rattle.std.proofs.lemmas.List.{take_all, length-drop}
use Rattle.sr_wire.specs.Reading.{decoded}
use Rattle.sr_feed.proofs.feed.Feed.front.Goals as goal

-- the slice of what is not read yet
left_is : (now items bytes : List ℕ) (read : ℕ) → drop read items ≡ now → bytes ≡ items → take (length bytes - read) (drop read bytes) ≡ now
left_is now items bytes read view same = take_all (length bytes - read) (drop read bytes) (omega (arith, length-drop read bytes)) ∙ ap (drop read) same ∙ view

cut_behind : (bytes frame rest : List ℕ) → bytes ≡ frame ++ rest → bytes ≡ frame ++ drop (length frame) bytes
cut_behind bytes frame rest is = grind (arith, common_steps)

pub returns-in-Ok-clause-given : goal.returns-in-Ok-clause-given
returns-in-Ok-clause-given c = ap decoded (sym (left_is _ _ c.deref.result.now c.self.inside.read c.self.view_is c.deref.ensures.value)) ∙ c.in-Ok.ensures.exact

pub returns-in-Ok-clause-first : goal.returns-in-Ok-clause-first
returns-in-Ok-clause-first c = cut_behind _ _ c.in-Ok.ensures.first.0 (sym (left_is _ _ c.deref.result.now c.self.inside.read c.self.view_is c.deref.ensures.value) ∙ c.in-Ok.ensures.first.1)

pub returns-in-Err-clause-given : goal.returns-in-Err-clause-given
returns-in-Err-clause-given c = (ap decoded (sym (left_is _ _ c.deref.result.now c.self.inside.read c.self.view_is c.deref.ensures.value)) ∙ c.in-Err.ensures.exact, search rules)
