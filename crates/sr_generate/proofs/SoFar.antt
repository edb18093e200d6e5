-- What of a text was written so far.
use Rattle.std.proofs.Common.{◌≡◌, ℕ, ◌+◌, ◌-◌, ◌<◌, ◌≤◌, zero, suc, List, [], ◌++◌, length, take, Option, Some, None, refl, sym, ap, subst, ◌∙◌, append_assoc, append-nil, arith, length-append}
use Rattle.std.specs.Io.KnownBytes.{Appends}
use Rattle.std.proofs.lemmas.List.{take-append-le}
use Rattle.std.proofs.Math.Seq.{take-append-add, take-append_seam}
use Rattle.sr_io.proofs.SoFar.{Appends-append}
use Rattle.sr_io.specs.Pieces.{WritesPrefix}
use Rattle.sr_generate.specs.Script.{create_line, line_at, lines_from, script}

-- all but the rest was written
pub record SoFar (first now : Option (List ℕ)) (all rest : List ℕ) : Type 0 where
  pub done : List ℕ
  pub written : Appends first now done
  pub split : all ≡ done ++ rest

-- one piece more
pub more_written : (first mid last : Option (List ℕ)) (all piece rest : List ℕ) → SoFar first mid all (piece ++ rest) → Appends mid last piece → SoFar first last all rest
more_written first mid last all piece rest so wrote = record {
  done = so.done ++ piece;
  written = Appends-append first mid last so.done piece so.written wrote;
  split = so.split ∙ sym (append_assoc so.done piece rest);
}

-- a part of one piece more
pub part_written : (first mid last : Option (List ℕ)) (all piece rest : List ℕ) → SoFar first mid all (piece ++ rest) → WritesPrefix mid last piece → WritesPrefix first last all
part_written first mid last all piece rest so wrote =
    let same : take (length so.done + wrote.count) all ≡ so.done ++ take wrote.count piece =
    ap (take (length so.done + wrote.count)) so.split ∙ take-append-add so.done (piece ++ rest) wrote.count
    ∙ ap (λ t. so.done ++ t) (take-append-le wrote.count piece rest wrote.within) in
    record {
      count = length so.done + wrote.count;
      within = omega (arith, ap length so.split, length-append so.done (piece ++ rest), length-append piece rest, wrote.within);
      appended = subst (Appends first last) (sym same) (Appends-append first mid last so.done (take wrote.count piece) so.written wrote.appended);
    }

-- no more
pub none_written : (first now : Option (List ℕ)) (all rest : List ℕ) → SoFar first now all rest → WritesPrefix first now all
none_written first now all rest so = record {
  count = length so.done;
  within = omega (arith, ap length so.split, length-append so.done rest);
  appended = subst (Appends first now) (sym (ap (take (length so.done)) so.split ∙ take-append_seam so.done rest)) so.written;
}

pub all_written : (first now : Option (List ℕ)) (all : List ℕ) → SoFar first now all [] → Appends first now all
all_written first now all so = subst (Appends first now) (sym (so.split ∙ append-nil so.done)) so.written

-- a line more of those that are left
pub line_more : (left number state : ℕ) → 0 < left → lines_from left number state ≡ (line_at number state).line ++ lines_from (left - 1) (number + 1) (line_at number state).state
unfolding lines_from
line_more zero number state some = absurd (omega (arith, some))
line_more (suc left) number state some = let e : suc left - 1 ≡ left = omega arith in rw e refl

pub no_line_more : (left number state : ℕ) → left ≡ 0 → lines_from left number state ≡ []
unfolding lines_from
no_line_more left number state none = rw none refl

Appends-none : (known : Option (List ℕ)) → Appends known known []
Appends-none None = tt
Appends-none (Some bytes) = sym (append-nil bytes)

-- nothing but a part of the front was written
pub front_written : (first last : Option (List ℕ)) (piece rest : List ℕ) → WritesPrefix first last piece → WritesPrefix first last (piece ++ rest)
front_written first last piece rest wrote =
    part_written first first last (piece ++ rest) piece rest (record { done = []; written = Appends-none first; split = refl }) wrote

-- the first line was written
pub started : (first now : Option (List ℕ)) (seed events : ℕ) → Appends first now create_line → SoFar first now (script seed events) (lines_from (200 + events - 0) 0 seed)
started first now seed events wrote =
    let e : 200 + events - 0 ≡ 200 + events = omega arith in
    record { done = create_line; written = wrote; split = ap (λ n. create_line ++ lines_from n 0 seed) (sym e) }

next_line : (lines number state : ℕ) → number < lines
    → lines_from (lines - number) number state ≡ (line_at number state).line ++ lines_from (lines - (number + 1)) (number + 1) (line_at number state).state
next_line lines number state more =
    let e : lines - number - 1 ≡ lines - (number + 1) = omega arith in
    line_more (lines - number) number state (omega arith)
    ∙ ap (λ n. (line_at number state).line ++ lines_from n (number + 1) (line_at number state).state) e

-- a line more was written
pub line_written : (first mid last : Option (List ℕ)) (all line : List ℕ) (lines number state after : ℕ) → number < lines
    → SoFar first mid all (lines_from (lines - number) number state) → line ≡ (line_at number state).line → after ≡ (line_at number state).state
    → Appends mid last line → SoFar first last all (lines_from (lines - (number + 1)) (number + 1) after)
line_written first mid last all line lines number state after more so is then wrote =
    let rest = λ (s : ℕ). lines_from (lines - (number + 1)) (number + 1) s in
    subst (λ s. SoFar first last all (rest s)) (sym then)
    (more_written first mid last all line (rest (line_at number state).state)
    (subst (SoFar first mid all) (next_line lines number state more ∙ ap (λ l. l ++ rest (line_at number state).state) (sym is)) so) wrote)

-- a part of a line was written
pub line_torn : (first mid last : Option (List ℕ)) (all line : List ℕ) (lines number state : ℕ) → number < lines
    → SoFar first mid all (lines_from (lines - number) number state) → line ≡ (line_at number state).line → WritesPrefix mid last line → WritesPrefix first last all
line_torn first mid last all line lines number state more so is wrote =
    let rest = lines_from (lines - (number + 1)) (number + 1) (line_at number state).state in
    part_written first mid last all line rest (subst (SoFar first mid all) (next_line lines number state more ∙ ap (λ l. l ++ rest) (sym is)) so) wrote

-- all lines were written
pub ended : (first now : Option (List ℕ)) (all : List ℕ) (lines number state : ℕ) → lines ≤ number → SoFar first now all (lines_from (lines - number) number state) → Appends first now all
ended first now all lines number state past so =
    all_written first now all (subst (SoFar first now all) (no_line_more (lines - number) number state (omega arith)) so)
