-- How runs of `generate` end.
use Rattle.std.proofs.Common.{◌≡◌, ℕ, ◌⊎◌, List, false, Option, inl, inr, subst}
use Rattle.sr_generate.specs.Script.{script}
use Rattle.sr_io.specs.Told.{Writing}
use Rattle.sr_words.specs.declared.command.GenerateWords.{GenerateWords}
use Rattle.sr_cli.specs.Generate.{Refuses, SummarizedInPart}
use Rattle.sr_cli.specs.declared.report.Refusal.{Refusal}
use Rattle.sr_cli.specs.declared.report.Refusal.TheVariants.{Read, Write, Link, Memory, TooLong, Line, Setup, Load}
use Rattle.sr_cli.specs.Leaves.{Reported}
use Rattle.sr_cli.proofs.LeavesLemmas.{InWant, NamesLine, NamesRefused, Report, reported-is}

-- what the status says
module _ (words : GenerateWords) (before after : Writing) (refusal : Refusal) (status : ℕ) (told last : Option (List ℕ)) (reported : Reported refusal status told last) (why : Refuses words before after refusal) where
  rep : Report refusal status told last
  rep = reported-is refusal status told last reported

  being : (r : Refusal) → refusal ≡ r → Refuses words before after r
  being r is = subst (Refuses words before after) is why

  pub part-by : words.whole_script ≡ false → status ≡ 4 → SummarizedInPart (script words.seed words.events) before.written after.written
  part-by summary is = being Write (rep.write is) summary

  pub want-by : words.whole_script ≡ false → status ≡ 9 → (after ≡ before) ⊎ SummarizedInPart (script words.seed words.events) before.written after.written
  want-by summary is = by (rep.memory is)
    where
      by : InWant refusal → (after ≡ before) ⊎ SummarizedInPart (script words.seed words.events) before.written after.written
      by (inl named) = being Memory named summary
      by (inr (inl (line, place, named))) = absurd (being (Line line place) named)
      by (inr (inr (inl (line, fault, named)))) = absurd (being (Setup line fault) named)
      by (inr (inr (inr (table, fault, named)))) = absurd (being (Load table fault) named)

  no-line : NamesLine refusal told last → (status ≡ 4) ⊎ (status ≡ 9)
  no-line (line, place, named, said) = absurd (being (Line line place) named)

  none-refused : NamesRefused refusal told last → (status ≡ 4) ⊎ (status ≡ 9)
  none-refused (inl (line, fault, named, said)) = absurd (being (Setup line fault) named)
  none-refused (inr (table, fault, named, said)) = absurd (being (Load table fault) named)

  pub only-by : (status ≡ 4) ⊎ (status ≡ 9)
  only-by = by rep.only
    where
      by : (status ≡ 3) ⊎ (status ≡ 4) ⊎ (status ≡ 5) ⊎ (status ≡ 6) ⊎ (status ≡ 7) ⊎ (status ≡ 9) ⊎ (status ≡ 10) → (status ≡ 4) ⊎ (status ≡ 9)
      by (inl is) = absurd (being Read (rep.read is))
      by (inr (inl is)) = inl is
      by (inr (inr (inl is))) = absurd (being Link (rep.link is))
      by (inr (inr (inr (inl is)))) = no-line (rep.line is)
      by (inr (inr (inr (inr (inl is))))) = none-refused (rep.refused is)
      by (inr (inr (inr (inr (inr (inl is)))))) = inr is
      by (inr (inr (inr (inr (inr (inr is)))))) = absurd (being TooLong (rep.too_long is))
