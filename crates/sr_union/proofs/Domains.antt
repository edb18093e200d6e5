-- Columns without a bad domain are inner, and have a first value.
use Rattle.std.proofs.Common.{◌≡◌, ℕ, ◌+◌, true, false, List, [], ◌∷◌, refl, arith}
use Rattle.std.specs.Prelude.{Bool, Some, None, if◌then◌else◌}
use Rattle.std.proofs.lemmas.Int.{ints}
use Rattle.sr_cell.specs.declared.table.Column.{Column}
use Rattle.sr_cell.specs.declared.table.Kind.{Kind}
use Rattle.sr_cell.specs.declared.table.Kind.TheVariants.{Num as Numbers, Str as Texts}
use Rattle.sr_cell.specs.Names.{is_bad_by, is_bad_domain, bad_domain_from}
use Rattle.sr_cell.specs.Columns.{in_kind}
use Rattle.sr_box.specs.Corners.{first_value, have_first}
use Rattle.sr_union.specs.Grid.{is_inner_kind, all_inner}

kind-inner : (k : Kind) (c : Column) → is_bad_by k c ≡ false → (is_inner_kind k c.lo c.hi ≡ true) × (in_kind k c.lo c.hi c.nullable (first_value k c.lo) ≡ true)
kind-inner Numbers c good = (grind (arith, ints), grind (arith, ints))
kind-inner Texts c good = (refl, refl)

pub good-inner : (columns : List Column) (number : ℕ) → bad_domain_from number columns ≡ None → (all_inner columns ≡ true) × (have_first columns ≡ true)
good-inner [] number good = (refl, refl)
good-inner (c ∷ columns) number good = go (is_bad_domain c) refl good (good-inner columns (number + 1))
  where
    go : (b : Bool) → is_bad_domain c ≡ b → (if b then Some number else bad_domain_from (number + 1) columns) ≡ None
        → (bad_domain_from (number + 1) columns ≡ None → (all_inner columns ≡ true) × (have_first columns ≡ true)) → (all_inner (c ∷ columns) ≡ true) × (have_first (c ∷ columns) ≡ true)
    go true is none behind = absurd (cc)
    go false is none behind =
        let one = kind-inner c.kind c is in let more = behind none in
        let a = one.0 in let b = one.1 in let d = more.0 in let e = more.1 in (grind (arith, a, d), grind (arith, b, e))
