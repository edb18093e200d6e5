-- What is said of a file that is refused.
use Rattle.std.proofs.Common.{◌≡◌, ◌≢◌, ℕ, List, ◌++◌, refl, sym, ap, subst, append_assoc, ◌∙◌}
use Rattle.std.specs.Prelude.{codes, decimal}
use Rattle.sr_generate.specs.Script.{line_feed}
use Rattle.sr_cell.specs.declared.fault.Fault.{Fault}
use Rattle.sr_cell.specs.declared.fault.Why.{Why}
use Rattle.sr_cell.specs.declared.fault.Why.TheVariants.{LongText, BadToken, Grammar, Deep, UnknownTable, UnknownColumn, Ambiguous, WrongType, OutOfDomain, NotKeyJoin, Repeated, WrongCount, Mixed, TooWide, TooManyTables, NotAWrite, NotAQuery, DuplicateKey, DomainCell, LongCell, KeyChange, TableFull, TooManyChanges, DuplicateName, TooManyColumns, NoKey, BadDomain, BadHeader, BadRecord, BadNumber, BadUtf8, BadNull, NullCell}
use Rattle.sr_script.specs.TraceText.{why_text}
use Rattle.sr_cli.specs.Errors.{load_text}

from_left : (a b c d : List ℕ) → a ++ b ++ c ++ d ≡ a ++ (b ++ (c ++ d))
from_left a b c d = append_assoc (a ++ b) c d ∙ append_assoc a b (c ++ d)

pub unknown_text : (table : List ℕ) (fault : Fault) → fault.why ≡ UnknownTable → load_text table fault ≡ codes "load " ++ (table ++ (codes " unknown" ++ line_feed))
unknown_text table fault is =
    subst (λ why. load_text table (record { why = why; at = fault.at }) ≡ codes "load " ++ table ++ codes " " ++ (codes "unknown" ++ line_feed)) (sym is) refl
    ∙ from_left (codes "load ") table (codes " ") (codes "unknown" ++ line_feed)

by_reason : (table : List ℕ) (at : ℕ) (why : Why) → why ≢ UnknownTable
    → load_text table (record { why = why; at = at }) ≡ codes "load " ++ table ++ codes " " ++ (decimal at ++ codes " " ++ why_text why ++ line_feed)
by_reason table at LongText other = refl
by_reason table at BadToken other = refl
by_reason table at Grammar other = refl
by_reason table at Deep other = refl
by_reason table at UnknownTable other = absurd (other refl)
by_reason table at UnknownColumn other = refl
by_reason table at Ambiguous other = refl
by_reason table at WrongType other = refl
by_reason table at OutOfDomain other = refl
by_reason table at NotKeyJoin other = refl
by_reason table at Repeated other = refl
by_reason table at WrongCount other = refl
by_reason table at Mixed other = refl
by_reason table at TooWide other = refl
by_reason table at TooManyTables other = refl
by_reason table at NotAWrite other = refl
by_reason table at NotAQuery other = refl
by_reason table at DuplicateKey other = refl
by_reason table at DomainCell other = refl
by_reason table at LongCell other = refl
by_reason table at KeyChange other = refl
by_reason table at TableFull other = refl
by_reason table at TooManyChanges other = refl
by_reason table at DuplicateName other = refl
by_reason table at TooManyColumns other = refl
by_reason table at NoKey other = refl
by_reason table at BadDomain other = refl
by_reason table at BadHeader other = refl
by_reason table at BadRecord other = refl
by_reason table at BadNumber other = refl
by_reason table at BadUtf8 other = refl
by_reason table at BadNull other = refl
by_reason table at NullCell other = refl

pub reason_text : (table : List ℕ) (fault : Fault) → fault.why ≢ UnknownTable
    → load_text table fault ≡ codes "load " ++ (table ++ (codes " " ++ (decimal fault.at ++ (codes " " ++ (why_text fault.why ++ line_feed)))))
reason_text table fault other =
    by_reason table fault.at fault.why other
    ∙ (from_left (codes "load ") table (codes " ") (decimal fault.at ++ codes " " ++ why_text fault.why ++ line_feed)
    ∙ ap (λ (x : List ℕ). codes "load " ++ (table ++ (codes " " ++ x))) (from_left (decimal fault.at) (codes " ") (why_text fault.why) line_feed))
