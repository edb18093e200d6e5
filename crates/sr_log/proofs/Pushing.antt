-- A push: one entry comes, and the first ones go.
use Rattle.std.proofs.Common.{◌≡◌, ℕ, ◌+◌, ◌-◌, ◌≤◌, List, [], ◌∷◌, ◌++◌, length, take, drop, sym, ap, arith, length-drop, ◌∙◌}
use Rattle.std.proofs.lemmas.List.{drop-map, drop-drop, drop-append-le, map-append, length_push, take_all}
use Rattle.sr_cell.specs.declared.change.Change.{Change}
use Rattle.sr_log.specs.declared.entry.Entry.{Entry}
use Rattle.sr_log.specs.Kept.{floor, kept}
use Rattle.sr_log.specs.Held.{changes_of, numbered}
use Rattle.sr_log.proofs.Least.{floor-within}
use Rattle.sr_log.proofs.Numbers.{entry, length-changes, numbered_rest, numbered_more}

record Next (limit last n : ℕ) (entries came : List Entry) (c : List Change) : Type 0 where
  changes : changes_of came ≡ changes_of entries ++ c ∷ []
  within : n ≤ length came
  numbers : drop n came ≡ numbered (last + n) (changes_of (drop n came))
  rest : changes_of (drop n came) ≡ kept limit (changes_of came)

one_next : (limit last version n : ℕ) (entries came : List Entry) (c : List Change) →
    entries ≡ numbered last (changes_of entries) → version ≡ last + length (changes_of entries) →
    came ≡ entries ++ entry (version + 1) c ∷ [] → n ≡ floor limit (changes_of came) → Next limit last n entries came c
one_next limit last version n entries came c numbers newest is drops =
    let changes : changes_of came ≡ changes_of entries ++ c ∷ [] =
    ap (λ es. changes_of es) is ∙ map-append (λ (e : Entry). e.changes) entries (entry (version + 1) c ∷ []) in
    let within : n ≤ length came = omega (arith, drops, floor-within limit (changes_of came), length-changes came) in
    let numbers_then : came ≡ numbered last (changes_of came) =
    rw is (numbered_more last (version + 1) entries c numbers (omega (arith, newest, length-changes entries))) in
    record {
      changes = changes;
      within = within;
      numbers = numbered_rest last n came numbers_then within;
      rest = sym (drop-map (λ (e : Entry). e.changes) n came) ∙ ap (λ k. drop k (changes_of came)) drops;
    }

-- the entries after the gone ones, as a slice has them
pub slice_rest : (gone : ℕ) (entries seen : List Entry) → seen ≡ entries → take (length seen - gone) (drop gone seen) ≡ drop gone entries
slice_rest gone entries seen is = take_all (length seen - gone) (drop gone seen) (omega (arith, length-drop gone seen)) ∙ ap (λ es. drop gone es) is

-- one entry came, and n more are to go, where some are gone already
pub record Came (limit last gone n : ℕ) (entries came seen : List Entry) (c : List Change) : Type 0 where
  pub slice : take (length seen - gone) (drop gone seen) ≡ drop gone came
  pub drops : n ≡ floor limit (changes_of (drop gone came))
  pub changes : changes_of (drop gone came) ≡ changes_of (drop gone entries) ++ c ∷ []
  pub len : length came ≡ length entries + 1
  pub within : gone + n ≤ length came
  pub numbers : drop (gone + n) came ≡ numbered (last + n) (changes_of (drop (gone + n) came))
  pub rest : changes_of (drop (gone + n) came) ≡ kept limit (changes_of (drop gone came))

pub one_came : (limit last version gone n : ℕ) (entries came seen : List Entry) (c : List Change) →
    gone ≤ length entries → drop gone entries ≡ numbered last (changes_of (drop gone entries)) → version ≡ last + length (changes_of (drop gone entries)) →
    came ≡ entries ++ entry (version + 1) c ∷ [] → seen ≡ came → n ≡ floor limit (changes_of (take (length seen - gone) (drop gone seen))) →
    Came limit last gone n entries came seen c
one_came limit last version gone n entries came seen c there numbers newest is same drops_seen =
    let len : length came ≡ length entries + 1 = ap (λ es. length es) is ∙ length_push entries (entry (version + 1) c) in
    let slice : take (length seen - gone) (drop gone seen) ≡ drop gone came = slice_rest gone came seen same in
    let drops : n ≡ floor limit (changes_of (drop gone came)) = drops_seen ∙ ap (λ es. floor limit (changes_of es)) slice in
    let one_more : drop gone came ≡ drop gone entries ++ entry (version + 1) c ∷ [] =
    ap (λ es. drop gone es) is ∙ drop-append-le gone entries (entry (version + 1) c ∷ []) there in
    let next = one_next limit last version n (drop gone entries) (drop gone came) c numbers newest one_more drops in
    record {
      slice = slice;
      drops = drops;
      changes = next.changes;
      len = len;
      within = omega (arith, next.within, length-drop gone came, there, len);
      numbers = rw (drop-drop n gone came) at next.numbers;
      rest = rw (drop-drop n gone came) at next.rest;
    }
