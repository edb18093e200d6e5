-- Keys in pieces.
use Rattle.std.proofs.Common.{◌≡◌, ℕ, ◌≤◌, ◌<◌, List, [], ◌∷◌, ◌++◌, map, length, take, drop, refl, sym, ◌∙◌, ap, arith, zero, suc, length-drop, append_assoc}
use Rattle.std.proofs.Math.ListN.{drop_of_length-le}
use Rattle.std.proofs.Math.Seq.{take-nil}
use Rattle.sr_cell.specs.declared.cell.Cell.{Cell}
use Rattle.sr_outbox.specs.declared.item.Asked.{Asked}
use Rattle.sr_outbox.specs.declared.item.Item.{Item}
use Rattle.sr_outbox.specs.declared.item.Item.TheVariants.{Rows}
use Rattle.sr_outbox.specs.Items.{key_pieces}

-- more fuel than keys changes nothing
pieces-fuel : (n m : ℕ) (keys : List Cell) → length keys ≤ n → length keys ≤ m → key_pieces n keys ≡ key_pieces m keys
pieces-fuel n m [] a b = refl
pieces-fuel zero m (key ∷ keys) a b = absurd (omega arith)
pieces-fuel (suc n) zero (key ∷ keys) a b = absurd (omega arith)
pieces-fuel (suc n) (suc m) (key ∷ keys) a b =
    let short : length (drop 255 keys) ≤ n = omega (arith, length-drop 255 keys) in
    let short_too : length (drop 255 keys) ≤ m = omega (arith, length-drop 255 keys) in
    ap (λ ps. (key ∷ take 255 keys) ∷ ps) (pieces-fuel n m (drop 255 keys) short short_too)

-- the first piece, and those behind it
pub pieces-first : (keys : List Cell) → (keys ≡ [] → ⊥) → key_pieces (length keys) keys ≡ take 256 keys ∷ key_pieces (length (drop 256 keys)) (drop 256 keys)
pieces-first [] some = absurd (some refl)
pieces-first (key ∷ keys) some =
    ap (λ ps. (key ∷ take 255 keys) ∷ ps) (pieces-fuel (length keys) (length (drop 255 keys)) (drop 255 keys) (omega (arith, length-drop 255 keys)) (omega arith))

-- one message more, and those of the keys behind it
pub pieces-step : (before : List Item) (asked : Asked) (piece left later : List Cell) → 0 < length left → piece ≡ take 256 left → later ≡ drop 256 left
    → (before ++ Rows asked piece ∷ []) ++ map (Rows asked) (key_pieces (length later) later) ≡ before ++ map (Rows asked) (key_pieces (length left) left)
pieces-step before asked piece [] later some first rest = absurd (omega arith)
pieces-step before asked piece (key ∷ keys) later some first rest =
    rw (first, rest) (append_assoc before (Rows asked (take 256 (key ∷ keys)) ∷ []) (map (Rows asked) (key_pieces (length (drop 256 (key ∷ keys))) (drop 256 (key ∷ keys))))
    ∙ ap (λ ps. before ++ map (Rows asked) ps) (sym (pieces-first (key ∷ keys) (λ none. absurd (cc)))))

pub pieces-shorter : (left later : List Cell) → 0 < length left → later ≡ drop 256 left → length later < length left
pieces-shorter left later some rest = rw rest (omega (arith, length-drop 256 left))

no_longer : (n : ℕ) (keys : List Cell) → drop n keys ≡ [] → length keys ≤ n
no_longer n keys none = omega (arith, length-drop n keys, ap length none)

take-long : (n : ℕ) (keys : List Cell) → length keys ≤ n → take n keys ≡ keys
take-long n [] few = take-nil n
take-long zero (key ∷ keys) few = absurd (omega arith)
take-long (suc n) (key ∷ keys) few = ap (λ rest. key ∷ rest) (take-long n keys (omega arith))

-- all keys, where none is behind
pub take-all : (n : ℕ) (keys : List Cell) → n ≤ 256 → drop n keys ≡ [] → take n keys ≡ take 256 keys
take-all n keys few none =
    let short = no_longer n keys none in
    let shorter : length keys ≤ 256 = omega arith in
    take-long n keys short ∙ sym (take-long 256 keys shorter)

pub drop-all : (n : ℕ) (keys : List Cell) → n ≤ 256 → drop n keys ≡ [] → [] ≡ drop 256 keys
drop-all n keys few none =
    let short = no_longer n keys none in
    let shorter : length keys ≤ 256 = omega arith in
    sym (drop_of_length-le keys shorter)
