use Rattle.std.proofs.Common.{◌≡◌, ℕ, List, [], map, Option, Some, None, sym, ap, subst, codes, ◌∙◌}
use Rattle.std.specs.Prelude.{option_map, unwrap_or}
use Rattle.clap.specs.Words.{found_of, matched_of, raw_values}
use Rattle.clap.specs.Walk.{rows_of}
use Rattle.clap.proofs.WalkLemmas.{raw_values-rows}
use Rattle.clap.specs.declared.parser.matches.Found.{Found}
use Rattle.sr_words.specs.Words.{load_words, loads_of}
use Rattle.sr_words.specs.Reads.{Reads}
use Rattle.sr_words.proofs.said.loads_of.Goals as goal

-- the loads of these words are said
said : (found : Found) (words : Option (List (List ℕ))) → words ≡ option_map raw_values (matched_of found (codes "loads"))
    → loads_of (rows_of found) ≡ load_words (unwrap_or words [])
said found words is = ap (λ o. load_words (unwrap_or o [])) (sym (raw_values-rows found (codes "loads")) ∙ sym is)

pub returns-in-Some : goal.returns-in-Some
returns-in-Some c =
    let is = said (found_of c.args.found.now) (Some (map (λ v. v.now) c.in-Some.words.now)) (ap (option_map (λ s. map (λ v. v.now) s.now)) (sym c.in-Some.is) ∙ c.get_strs.ensures) in
    subst (λ o. Reads o c.load_words.result) (sym is) c.load_words.ensures

pub returns-in-None : goal.returns-in-None
returns-in-None c =
    said (found_of c.args.found.now) None (ap (option_map (λ s. map (λ v. v.now) s.now)) (sym c.in-None.is) ∙ c.get_strs.ensures)
    ∙ ap Some (sym c.new.ensures)
