-- The items of a log's entries make the notices that a subscription is told.
use Rattle.std.proofs.Common.{◌≡◌, ℕ, zero, suc, ◌+◌, ◌-◌, ◌≤◌, ◌<◌, Bool, true, false, List, [], ◌∷◌, ◌++◌, map, length, drop, Option, Some, None, refl, sym, ◌∙◌, ap, subst, arith}
use Rattle.std.specs.Prelude.{filter, flat_map, nat_lt, slice_get, if◌then◌else◌}
use Rattle.std.proofs.lemmas.Bool.Decides.{nat_tests}
use Rattle.std.proofs.lemmas.List.{map-append}
use Rattle.std.proofs.lemmas.List.Concat.{flat_map-cons}
use Rattle.sr_cell.specs.declared.change.Change.{Change}
use Rattle.sr_message.specs.declared.message.Holding.{Holding}
use Rattle.sr_message.specs.declared.message.Message.{Message}
use Rattle.sr_message.specs.declared.message.Message.TheVariants.{Notice}
use Rattle.sr_message.specs.Tells.{tell_of}
use Rattle.sr_subs.specs.Subscription.{touches}
use Rattle.sr_log.specs.Held.{Held, numbered, entries_above}
use Rattle.sr_log.specs.declared.entry.Entry.{Entry}
use Rattle.sr_session.specs.Sessions.{notice}
use Rattle.sr_tables.specs.Stored.{Stored}
use Rattle.sr_outbox.specs.Left.{picked, first_changes, entries_from, changes_after, message_of, messages}
use Rattle.sr_outbox.specs.Items.{touched_from, notice_item, notice_items}
use Rattle.sr_outbox.specs.Noticed.{noticed}

-- ---- what stands at a place

at-drop : {X : Type 0} (n : ℕ) (xs : List X) (x : X) (rest : List X) → drop n xs ≡ x ∷ rest → slice_get xs n ≡ Some x
at-drop {X} zero [] x rest is = absurd (cc)
at-drop {X} zero (y ∷ xs) x rest is = let same : y ≡ x = cc in ap Some same
at-drop {X} (suc n) [] x rest is = absurd (cc)
at-drop {X} (suc n) (y ∷ xs) x rest is = at-drop n xs x rest is

past-drop : {X : Type 0} (n : ℕ) (xs : List X) (x : X) (rest : List X) → drop n xs ≡ x ∷ rest → drop (suc n) xs ≡ rest
past-drop {X} zero [] x rest is = absurd (cc)
past-drop {X} zero (y ∷ xs) x rest is = let same : xs ≡ rest = cc in same
past-drop {X} (suc n) [] x rest is = absurd (cc)
past-drop {X} (suc n) (y ∷ xs) x rest is = past-drop n xs x rest is

one-on : (n : ℕ) → suc n ≡ n + 1
one-on n = omega arith

-- ---- entries above a version

abbrev nothing : List Entry
nothing = []

drop-nil : (n : ℕ) → drop n nothing ≡ nothing
drop-nil zero = refl
drop-nil (suc n) = refl

one-above : (v last : ℕ) (changes : List Change) (later : List (List Change)) (b : Bool) → nat_lt v (last + 1) ≡ b
    → filter (λ (e : Entry). nat_lt v e.version) (numbered (last + 1) later) ≡ drop (v - (last + 1)) (numbered (last + 1) later)
    → filter (λ (e : Entry). nat_lt v e.version) (numbered last (changes ∷ later)) ≡ drop (v - last) (numbered last (changes ∷ later))
one-above v last changes later true is others =
    let le : v ≤ last = grind (arith, nat_tests, is) in
    let none : v - (last + 1) ≡ 0 = omega (arith, le) in
    let none_too : v - last ≡ 0 = omega (arith, le) in
    rw (is, none_too) (ap (λ es. record { version = last + 1; changes = changes } ∷ es) (others ∙ ap (λ n. drop n (numbered (last + 1) later)) none))
one-above v last changes later false is others =
    let gt : last < v = grind (arith, nat_tests, is) in
    let one : v - last ≡ suc (v - (last + 1)) = omega (arith, gt) in
    rw (is, one) others

above-drop : (v last : ℕ) (kept : List (List Change)) → filter (λ (e : Entry). nat_lt v e.version) (numbered last kept) ≡ drop (v - last) (numbered last kept)
above-drop v last [] = sym (drop-nil (v - last))
above-drop v last (changes ∷ later) = one-above v last changes later (nat_lt v (last + 1)) refl (above-drop v (last + 1) later)

place-version : (n last : ℕ) (kept : List (List Change)) (e : Entry) → slice_get (numbered last kept) n ≡ Some e → e.version ≡ last + n + 1
place-version n last [] e at = absurd (cc)
place-version zero last (changes ∷ later) e at =
    let same : record { version = last + 1; changes = changes } ≡ e = cc in
    sym (ap (λ (x : Entry). x.version) same) ∙ omega arith
place-version (suc n) last (changes ∷ later) e at = let behind = place-version n (last + 1) later e at in omega (arith, behind)

none-more : (n : ℕ) → 0 + n ≡ n
none-more n = omega arith

one-more : (n m : ℕ) → suc (n + m) ≡ suc n + m
one-more n m = omega arith

get-drop : (n m : ℕ) (es : List Entry) → slice_get (drop n es) m ≡ slice_get es (n + m)
get-drop zero m es = ap (slice_get es) (sym (none-more m))
get-drop (suc n) m [] = refl
get-drop (suc n) m (e ∷ es) = get-drop n m es ∙ ap (slice_get (e ∷ es)) (one-more n m)

drop-drop : (n m : ℕ) (es : List Entry) → drop (suc (n + m)) es ≡ drop (suc m) (drop n es)
drop-drop zero m es = ap (λ k. drop (suc k) es) (none-more m)
drop-drop (suc n) m [] = refl
drop-drop (suc n) m (e ∷ es) = ap (λ k. drop k es) (sym (one-more n m)) ∙ drop-drop n m es

-- behind one of the entries above a version are those above its version
later-entries : (log : Held) (v place : ℕ) (e : Entry) → slice_get (entries_above v log) place ≡ Some e → nat_lt v log.floor ≡ false
    → entries_from e.version log ≡ drop (suc place) (entries_above v log)
later-entries log v place e at reaches =
    let all = numbered log.floor log.kept in
    let first = above-drop v log.floor log.kept in
    let there : slice_get all ((v - log.floor) + place) ≡ Some e = sym (get-drop (v - log.floor) place all) ∙ (ap (λ es. slice_get es place) (sym first) ∙ at) in
    let version = place-version ((v - log.floor) + place) log.floor log.kept e there in
    let back : nat_lt e.version log.floor ≡ false = grind (arith, nat_tests, version) in
    let size : e.version - log.floor ≡ suc ((v - log.floor) + place) = omega (arith, version) in
    rw back (above-drop e.version log.floor log.kept
    ∙ (ap (λ n. drop n all) size ∙ (drop-drop (v - log.floor) place all ∙ ap (drop (suc place)) (sym first))))

-- ---- the changes that touch a subscription

pick : (n : ℕ) (subs : List Holding) (c : Change) (rest all : List Change) (b : Bool) → touches subs c ≡ b → slice_get all n ≡ Some c
    → picked (touched_from (n + 1) subs rest) all ≡ filter (touches subs) rest → picked (touched_from n subs (c ∷ rest)) all ≡ filter (touches subs) (c ∷ rest)
pick n subs c rest all true is at others = rw (is, at) (ap (λ cs. c ∷ cs) others)
pick n subs c rest all false is at others = rw is others

picked-touched : (n : ℕ) (subs : List Holding) (rest all : List Change) → drop n all ≡ rest → picked (touched_from n subs rest) all ≡ filter (touches subs) rest
picked-touched n subs [] all is = refl
picked-touched n subs (c ∷ rest) all is =
    pick n subs c rest all (touches subs c) refl (at-drop n all c rest is)
    (picked-touched (n + 1) subs rest all (ap (λ m. drop m all) (sym (one-on n)) ∙ past-drop n all c rest is))

none-touch : (n : ℕ) (subs : List Holding) (cs : List Change) → filter (touches subs) cs ≡ [] → touched_from n subs cs ≡ []
none-touch n subs [] none = refl
none-touch n subs (c ∷ cs) none = by (touches subs c) refl (none-touch (n + 1) subs cs)
  where
    by : (b : Bool) → touches subs c ≡ b → (filter (touches subs) cs ≡ [] → touched_from (n + 1) subs cs ≡ []) → touched_from n subs (c ∷ cs) ≡ []
    by true is others = absurd (let wrong : c ∷ filter (touches subs) cs ≡ [] = (rw is at none) in cc)
    by false is others = rw is (others (rw is at none))

-- ---- notices

notice-made : (tables : Stored) (log : Held) (version above : ℕ) (places : List ℕ) (changes fs : List Change) → picked places changes ≡ fs → (fs ≡ [] → places ≡ [])
    → changes_after above log ≡ changes → messages tables log (notice_item version above places) ≡ notice version (map tell_of fs)
notice-made tables log version above [] changes [] is none there = refl
notice-made tables log version above [] changes (f ∷ fs) is none there = absurd (cc)
notice-made tables log version above (p ∷ places) changes [] is none there = absurd (let wrong = none refl in cc)
notice-made tables log version above (p ∷ places) changes (f ∷ fs) is none there =
    ap (λ cs. Notice version (map tell_of cs) ∷ []) (ap (picked (p ∷ places)) there ∙ is)

made-from : (tables : Stored) (log : Held) (subs : List Holding) (v n above : ℕ) (es : List Entry) → nat_lt v log.floor ≡ false → drop n (entries_above v log) ≡ es
    → entries_from above log ≡ es → messages tables log (notice_items subs above es) ≡ noticed subs es
made-from tables log subs v n above [] reaches is from = refl
made-from tables log subs v n above (e ∷ es) reaches is from =
    let next = past-drop n (entries_above v log) e es is in
    let later = later-entries log v n e (at-drop n (entries_above v log) e es is) reaches ∙ next in
    map-append (message_of tables log) (notice_item e.version above (touched_from 0 subs e.changes)) (notice_items subs e.version es)
    ∙ (ap (λ ms. ms ++ messages tables log (notice_items subs e.version es))
    (notice-made tables log e.version above (touched_from 0 subs e.changes) e.changes (filter (touches subs) e.changes) (picked-touched 0 subs e.changes e.changes refl)
    (none-touch 0 subs e.changes) (ap first_changes from))
    ∙ (ap (λ ms. notice e.version (map tell_of (filter (touches subs) e.changes)) ++ ms) (made-from tables log subs v (suc n) e.version es reaches next later)
    ∙ sym (flat_map-cons (λ (entry : Entry). notice entry.version (map tell_of (filter (touches subs) entry.changes))) e es)))

reaching : (v : ℕ) (log : Held) → (v < log.floor → ⊥) → nat_lt v log.floor ≡ false
reaching v log there = grind (arith, nat_tests, there)

-- so where the log reaches back to a version
pub notices-made : (tables : Stored) (log : Held) (subs : List Holding) (v : ℕ) → (v < log.floor → ⊥)
    → messages tables log (notice_items subs v (entries_above v log)) ≡ noticed subs (entries_above v log)
notices-made tables log subs v there =
    let reaches = reaching v log there in
    made-from tables log subs v 0 v (entries_above v log) reaches refl (rw reaches refl)
