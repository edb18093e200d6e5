-- An entry for all columns tells as much as one without columns did.
use Rattle.std.proofs.Common.{◌≡◌, ℕ, zero, suc, ◌+◌, ◌<◌, ◌≤◌, Bool, true, false, not, ◌&&◌, ◌||◌, [], ◌∷◌, length, refl, ◌∙◌, ap, arith, Option, Some, None}
use Rattle.std.specs.Prelude.{◌==◌}
use Rattle.sr_cell.specs.declared.change.Change.{Change}
use Rattle.sr_cell.specs.Attrs.{has_column}
use Rattle.sr_cell.specs.Cells.{Row}
use Rattle.sr_box.specs.Rows.{has_row}
use Rattle.sr_message.specs.Agree.{same_from, agree}
use Rattle.sr_model.specs.SortedRows.{row_eq}
use Rattle.sr_session.specs.Wires.{RowsDiffer, AllColumnsAreToldAll, WorkedTouches}

-- the first twelve columns are in the set of all
has-all : (c : ℕ) → c < 12 → has_column 4095 c ≡ true
has-all zero h = refl
has-all (suc zero) h = refl
has-all (suc (suc zero)) h = refl
has-all (suc (suc (suc zero))) h = refl
has-all (suc (suc (suc (suc zero)))) h = refl
has-all (suc (suc (suc (suc (suc zero))))) h = refl
has-all (suc (suc (suc (suc (suc (suc zero)))))) h = refl
has-all (suc (suc (suc (suc (suc (suc (suc zero))))))) h = refl
has-all (suc (suc (suc (suc (suc (suc (suc (suc zero)))))))) h = refl
has-all (suc (suc (suc (suc (suc (suc (suc (suc (suc zero))))))))) h = refl
has-all (suc (suc (suc (suc (suc (suc (suc (suc (suc (suc zero)))))))))) h = refl
has-all (suc (suc (suc (suc (suc (suc (suc (suc (suc (suc (suc zero))))))))))) h = refl
has-all (suc (suc (suc (suc (suc (suc (suc (suc (suc (suc (suc (suc c)))))))))))) h = absurd (omega (arith, h))

same-all : (c : ℕ) (p q : Row) → c + length p ≤ 12 → same_from c 4095 p q ≡ row_eq p q
same-all c [] [] few = refl
same-all c [] (w ∷ q) few = refl
same-all c (v ∷ p) [] few = refl
same-all c (v ∷ p) (w ∷ q) few = rw (has-all c (omega (arith, few)), same-all (c + 1) p q (omega (arith, few))) refl

never-agree : (c : Change) → RowsDiffer c → agree 4095 c.before c.after ≡ false
never-agree c differ = by c.before c.after differ
  where
    by : (one other : Option Row) → ((p q : Row) → one ≡ Some p → other ≡ Some q → (length p ≤ 12) × (row_eq p q ≡ false)) → agree 4095 one other ≡ false
    by None other d = refl
    by (Some p) None d = refl
    by (Some p) (Some q) d = let h = d p q refl refl in let few = h.0 in same-all 0 p q (omega (arith, few)) ∙ h.1

pub all_columns_are_told_all : AllColumnsAreToldAll
all_columns_are_told_all h c all differ =
    let none : agree h.attrs c.before c.after ≡ false = ap (λ a. agree a c.before c.after) all ∙ never-agree c differ in
    rw none (by (h.table == c.table) (has_row h.rects c.before) (has_row h.rects c.after))
  where
    by : (t b a : Bool) → (t && ((b || a) && not (b && a && false))) ≡ (t && (b || a))
    by false b a = refl
    by true true true = refl
    by true true false = refl
    by true false true = refl
    by true false false = refl

pub worked_touches : WorkedTouches
worked_touches = record { unheld = refl; held = refl; changed = refl; left = refl; elsewhere = refl; over_wire_1 = refl }
