use Rattle.std.proofs.Common.{◌≡◌, map, drop}
use Rattle.sr_words.specs.Words.{load_words}
use Rattle.sr_words.proofs.Loads.{behind}
use Rattle.sr_words.proofs.value.load_words.Given as goal

abbrev pub invariant-loop-word : goal.invariant-loop-word
invariant-loop-word l = load_words (map (λ w. w.now) l.words) ≡ behind l.loads (load_words (map (λ w. w.now) (drop l.word-index l.words)))
