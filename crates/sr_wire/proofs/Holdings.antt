-- Holdings of each wire: those of the first have no columns of their own.
use Rattle.std.proofs.Common.{◌≡◌, ℕ, List, ◌++◌, sym, ap, ◌∙◌, refl}
use Rattle.std.proofs.lemmas.Bool.{ne_eqb}
use Rattle.sr_message.specs.declared.message.Holding.{Holding}
use Rattle.sr_bytes.specs.Reading.{Reader, items}
use Rattle.sr_wire.specs.Reading.{a_holding}

-- over any other wire a holding is read as over wire 2
pub later_wire : (w : ℕ) → (w ≡ 1 → ⊥) → a_holding w ≡ a_holding 2
later_wire w other = rw (ne_eqb w 1 other) refl

-- what is left behind the first item, where the wire's holdings are read so
pub left_of : (w : ℕ) (r : Reader Holding) (n m : ℕ) (bytes rest : List ℕ) (now front : List Holding) → items (a_holding w) n bytes ≡ now → a_holding w ≡ r
    → items r n bytes ≡ front ++ items r m rest → now ≡ front ++ items (a_holding w) m rest
left_of w r n m bytes rest now front view same e =
    sym view ∙ ap (λ q. items q n bytes) same ∙ e ∙ ap (λ q. front ++ items q m rest) (sym same)
