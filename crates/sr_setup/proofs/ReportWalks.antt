-- The lines of a report's script, read one after another.
use Rattle.std.proofs.Common.{◌≡◌, ℕ, zero, suc, ◌+◌, ◌<◌, ◌≤◌, List, [], ◌∷◌, ◌++◌, length, drop, refl, sym, ◌∙◌, ap, subst, arith, append_assoc, append-nil}
use Rattle.std.specs.Prelude.{Option, Some, None, IsTrue, slice_index_or}
use Rattle.std.specs.List.{AllZip}
use Rattle.std.proofs.lemmas.List.{drop_all}
use Rattle.std.proofs.lemmas.Slice.Zip.{AllZip-long}
use Rattle.sr_cell.specs.declared.table.Table.{Table}
use Rattle.sr_cell.proofs.Lists.{AllZip-push}
use Rattle.sr_lines.specs.Lines.{lines_of}
use Rattle.sr_reader.proofs.Stages.{few_lines}
use Rattle.sr_setup.specs.Files.{first_fault}
use Rattle.sr_setup.specs.ReportFiles.{Saying, report_fault, saying_of, in_front, sayings, IsReportLine, AreReportLines, IsReported}
use Rattle.sr_setup.specs.Lined.{text_seen, IsOwnText, IsReadFor, IsReportText}
use Rattle.sr_setup.specs.declared.report_line.ReportText.{ReportText}
use Rattle.sr_setup.specs.declared.report_line.ReportText.TheVariants as text
use Rattle.sr_setup.specs.declared.report_script.ReportLine.{ReportLine}
use Rattle.sr_setup.proofs.ClientWalks.{first_good}
use Rattle.sr_setup.proofs.ReportLines.{own_words}

-- ---- a text by its place

at_place : {A B : Type 0} (R : A → B → Type 0) (xs : List A) (ys : List B) (i : ℕ) (d y : B) → AllZip R xs ys → i < length ys → slice_index_or ys i d ≡ y → (x : A) × (drop i xs ≡ x ∷ drop (i + 1) xs) × R x y
at_place R [] [] i d y all inside is = absurd (omega (arith, inside))
at_place R [] (b ∷ ys) i d y all inside is = absurd all
at_place R (a ∷ xs) [] i d y all inside is = absurd all
at_place R (a ∷ xs) (b ∷ ys) zero d y all inside is = (a, refl, subst (λ z. R a z) is all.0)
at_place R (a ∷ xs) (b ∷ ys) (suc i) d y all inside is =
    let more = at_place R xs ys i d y all.1 (omega (arith, inside)) is in
    let next : suc i + 1 ≡ suc (i + 1) = omega arith in
    (more.0, rw next more.1, more.2)

-- ---- the walk

-- these lines were read for what stands in front of the rest
pub record Walked (id : ℕ) (script : List ℕ) (tables : List Table) (number : ℕ) (rest : List (List ℕ)) (lines : List ReportLine) : Type 0 where
  pub before : List (ℕ × Saying)
  pub are : AllZip (IsReportLine id tables) lines before
  pub split : sayings 1 (lines_of script) ≡ before ++ sayings number rest
  pub inside : first_fault (report_fault id) number rest ≡ None

pub walked_start : (id : ℕ) (script : List ℕ) (tables : List Table) → first_fault (report_fault id) 1 (lines_of script) ≡ None → Walked id script tables 1 (lines_of script) []
walked_start id script tables inside = record { before = []; are = tt; split = refl; inside = inside }

module _ (id : ℕ) (script : List ℕ) (tables : List Table) (number : ℕ) (rest after : List (List ℕ)) (line : List ℕ) (lines : List ReportLine) (walked : Walked id script tables number rest lines) (cut : rest ≡ line ∷ after) where
  good : (report_fault id line ≡ None) × (first_fault (report_fault id) (number + 1) after ≡ None)
  good = first_good (report_fault id) number line after (subst (λ z. first_fault (report_fault id) number z ≡ None) cut walked.inside)

  pub own_text : (item : ReportText) → IsReportText line item → IsOwnText id item
  own_text text.Silent is = tt
  own_text (text.Event words) is = own_words id line _ is good.0
  own_text (text.Aggregate sql) is = tt

  front_is : (said : Option Saying) → saying_of line ≡ said → sayings 1 (lines_of script) ≡ walked.before ++ in_front number said (sayings (number + 1) after)
  front_is said is =
      walked.split ∙ ap (λ (z : List (List ℕ)). walked.before ++ sayings number z) cut ∙ ap (λ (z : Option Saying). walked.before ++ in_front number z (sayings (number + 1) after)) is

  quiet : saying_of line ≡ None → Walked id script tables (number + 1) after lines
  quiet is = record { before = walked.before; are = walked.are; split = front_is None is; inside = good.1 }

  says : (saying : Saying) (new : ReportLine) → saying_of line ≡ Some saying → IsReportLine id tables new (number, saying) → Walked id script tables (number + 1) after (lines ++ new ∷ [])
  says saying new is reads = record {
    before = walked.before ++ (number, saying) ∷ [];
    are = AllZip-push (IsReportLine id tables) lines walked.before new (number, saying) walked.are reads;
    split = front_is (Some saying) is ∙ sym (append_assoc walked.before ((number, saying) ∷ []) (sayings (number + 1) after));
    inside = good.1;
  }

  by_none : (said : Option Saying) → saying_of line ≡ said → IsReadFor id tables number said None → Walked id script tables (number + 1) after lines
  by_none None is reads = quiet is
  by_none (Some saying) is reads = absurd reads

  by_some : (said : Option Saying) (new : ReportLine) → saying_of line ≡ said → IsReadFor id tables number said (Some new) → Walked id script tables (number + 1) after (lines ++ new ∷ [])
  by_some None new is reads = absurd reads
  by_some (Some saying) new is reads = says saying new is reads

  -- nothing was read for the line, or this
  module _ (item : ReportText) (made : Option ReportLine) (is : IsReportText line item) (reads : IsReadFor id tables number (text_seen item) made) where
    pub walked_none : made ≡ None → Walked id script tables (number + 1) after lines
    walked_none same = by_none (text_seen item) is (subst (λ (z : Option ReportLine). IsReadFor id tables number (text_seen item) z) same reads)

    pub walked_some : (new : ReportLine) → made ≡ Some new → Walked id script tables (number + 1) after (lines ++ new ∷ [])
    walked_some new same = by_some (text_seen item) new is (subst (λ (z : Option ReportLine). IsReadFor id tables number (text_seen item) z) same reads)

pub walked_all : (id : ℕ) (script : List ℕ) (tables : List Table) (number : ℕ) (lines : List ReportLine) → Walked id script tables number [] lines → AreReportLines id script tables lines
walked_all id script tables number lines walked = subst (AllZip (IsReportLine id tables) lines) (sym (walked.split ∙ append-nil walked.before)) walked.are

-- ---- a text by its place in the loop

pub text_here : (script : List ℕ) (texts items : List ReportText) (i : ℕ) (d item : ReportText) → items ≡ texts → AllZip IsReportText (lines_of script) texts → i < length items → slice_index_or items i d ≡ item
    → (line : List ℕ) × (drop i (lines_of script) ≡ line ∷ drop (i + 1) (lines_of script)) × IsReportText line item
text_here script texts items i d item same are inside is =
    at_place IsReportText (lines_of script) items i d item (subst (AllZip IsReportText (lines_of script)) (sym same) are) inside is

pub none_left : (script : List ℕ) (texts : List ReportText) (i : ℕ) → AllZip IsReportText (lines_of script) texts → length texts ≤ i → drop i (lines_of script) ≡ []
none_left script texts i are past = drop_all i (lines_of script) (let long = AllZip-long IsReportText (lines_of script) texts are in omega (arith, past, long))

-- ---- how many there are

few_in_front : (number n : ℕ) (said : Option Saying) (later : List (ℕ × Saying)) → length later ≤ n → length (in_front number said later) ≤ n + 1
few_in_front number n None later few = omega (arith, few)
few_in_front number n (Some saying) later few = omega (arith, few)

few_sayings : (number : ℕ) (lines : List (List ℕ)) → length (sayings number lines) ≤ length lines
few_sayings number [] = omega arith
few_sayings number (line ∷ lines) =
    let later : length (sayings (number + 1) lines) ≤ length lines = few_sayings (number + 1) lines in
    let all : length (in_front number (saying_of line) (sayings (number + 1) lines)) ≤ length lines + 1 = few_in_front number (length lines) (saying_of line) (sayings (number + 1) lines) later in
    omega (arith, all)

pub few_read : (id : ℕ) (script : List ℕ) (tables : List Table) (lines : List ReportLine) → AreReportLines id script tables lines → length lines ≤ length script
few_read id script tables lines are =
    let long = AllZip-long (IsReportLine id tables) lines (sayings 1 (lines_of script)) are in
    let few = few_sayings 1 (lines_of script) in
    let most = few_lines script in
    omega (arith, long, few, most)
