-- The numbers of the entries.
use Rattle.std.proofs.Common.{◌≡◌, ℕ, zero, suc, ◌+◌, ◌-◌, ◌≤◌, List, [], ◌∷◌, ◌++◌, length, take, drop, refl, sym, ap, arith, inl, inr, ◌∙◌}
use Rattle.std.specs.Prelude.{min, nat_lt, filter}
use Rattle.std.proofs.lemmas.Bool.{cases_lt, lt-ltb, le-ltb}
use Rattle.std.proofs.lemmas.List.{drop-map, drop_all, length-drop, map-append, take_all, drop_min}
use Rattle.sr_cell.specs.declared.change.Change.{Change}
use Rattle.sr_log.specs.declared.entry.Entry.{Entry}
use Rattle.sr_log.specs.Held.{changes_of, numbered}

abbrev pub entry : ℕ → List Change → Entry
entry version changes = record { version = version; changes = changes }

pub length-changes : (entries : List Entry) → length (changes_of entries) ≡ length entries
length-changes [] = refl
length-changes (e ∷ later) = ap suc (length-changes later)

numbered-drop : (last n : ℕ) (all : List (List Change)) → n ≤ length all → drop n (numbered last all) ≡ numbered (last + n) (drop n all)
numbered-drop last zero all within = ap (λ f. numbered f all) (omega arith)
numbered-drop last (suc n) [] within = absurd (omega (arith, within))
numbered-drop last (suc n) (c ∷ later) within = numbered-drop (last + 1) n later (omega (arith, within)) ∙ ap (λ f. numbered f (drop n later)) (omega arith)

numbered-push : (last : ℕ) (all : List (List Change)) (c : List Change) → numbered last (all ++ c ∷ []) ≡ numbered last all ++ entry (last + length all + 1) c ∷ []
numbered-push last [] c = ap (λ v. entry v c ∷ []) (omega arith)
numbered-push last (x ∷ later) c =
    ap (λ es. entry (last + 1) x ∷ es)
    (numbered-push (last + 1) later c ∙ ap (λ v. numbered (last + 1) later ++ entry v c ∷ []) (omega arith))

all_above : (version last : ℕ) (all : List (List Change)) → version ≤ last → filter (λ e. nat_lt version e.version) (numbered last all) ≡ numbered last all
all_above version last [] below = refl
all_above version last (c ∷ later) below =
    rw (lt-ltb version (last + 1) (omega (arith, below)))
    (ap (λ es. entry (last + 1) c ∷ es) (all_above version (last + 1) later (omega (arith, below))))

above-drop : (version last : ℕ) (all : List (List Change)) → last ≤ version → filter (λ e. nat_lt version e.version) (numbered last all) ≡ drop (version - last) (numbered last all)
above-drop version last [] from = sym (drop_all (version - last) [] (omega arith))
above-drop version last (c ∷ later) from = elim (cases_lt version (last + 1)) [
  | inl below ↦
      let none : version - last ≡ 0 = omega (arith, below) in
      all_above version last (c ∷ later) (omega (arith, below)) ∙ ap (λ n. drop n (numbered last (c ∷ later))) (sym none)
  | inr above ↦
      let some : version - last ≡ suc (version - (last + 1)) = omega (arith, above) in
      rw (le-ltb version (last + 1) above) (above-drop version (last + 1) later above ∙ ap (λ n. drop n (numbered last (c ∷ later))) (sym some))
]

-- The entries behind the first ones are those above a version.
pub tail_above : (version last first : ℕ) (entries : List Entry) → last ≤ version → first ≡ min (version - last) (length entries) → entries ≡ numbered last (changes_of entries) →
    take (length entries - first) (drop first entries) ≡ filter (λ e. nat_lt version e.version) (numbered last (changes_of entries))
tail_above version last first entries from place is =
    take_all (length entries - first) (drop first entries) (omega (arith, length-drop first entries))
    ∙ ap (λ k. drop k entries) place
    ∙ drop_min (version - last) entries
    ∙ ap (λ es. drop (version - last) es) is
    ∙ sym (above-drop version last (changes_of entries) from)

-- The first entries may go,
pub numbered_rest : (last n : ℕ) (entries : List Entry) → entries ≡ numbered last (changes_of entries) → n ≤ length entries → drop n entries ≡ numbered (last + n) (changes_of (drop n entries))
numbered_rest last n entries is within =
    ap (λ es. drop n es) is
    ∙ numbered-drop last n (changes_of entries) (omega (arith, within, length-changes entries))
    ∙ ap (λ all. numbered (last + n) all) (drop-map (λ (e : Entry). e.changes) n entries)

-- and one may come.
pub numbered_more : (last version : ℕ) (entries : List Entry) (c : List Change) → entries ≡ numbered last (changes_of entries) → version ≡ last + length entries + 1 → entries ++ entry version c ∷ [] ≡ numbered last (changes_of (entries ++ entry version c ∷ []))
numbered_more last version entries c is next =
    ap (λ es. es ++ entry version c ∷ []) is
    ∙ ap (λ v. numbered last (changes_of entries) ++ entry v c ∷ []) (omega (arith, next, length-changes entries))
    ∙ sym (numbered-push last (changes_of entries) c)
    ∙ ap (λ all. numbered last all) (sym (map-append (λ (e : Entry). e.changes) entries (entry version c ∷ [])))
