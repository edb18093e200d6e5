-- Each record of a file takes a byte at least, so that the records that a reader gives are all that the definition counts.
use Rattle.std.specs.Prelude.{◌&&◌, ◌==◌, Bool, true, false, if◌then◌else◌}
use Rattle.std.proofs.Common.{◌≡◌, ℕ, zero, suc, ◌+◌, ◌<◌, ◌≤◌, List, [], ◌∷◌, ◌++◌, length, Some, None, refl, ap, inl, inr, arith, subst}
use Rattle.std.proofs.lemmas.Bool.{cases_Bool}
use Rattle.csv.specs.declared.parser.Config.{Config}
use Rattle.csv.specs.declared.parser.Terminator.{Terminator}
use Rattle.csv.specs.declared.parser.Terminator.TheVariants as term
use Rattle.csv.specs.declared.parser.State.{State}
use Rattle.csv.specs.declared.parser.State.TheVariants as st
use Rattle.csv.specs.declared.parser.Action.{Action}
use Rattle.csv.specs.declared.parser.Action.TheVariants as act
use Rattle.csv.specs.Machine.{Read, ends_at_end, is_end, in_field, start_field, start_record, step, ends_with, is_byte, after_end, fields_after, field_after, next_record}
use Rattle.csv.specs.Reading.{AreRecords, Reached, default_config, records, records_from, strip_bom}

-- after a record's end, the end of the text ends no other record

after_is : (t : Terminator) (c : ℕ) → ends_at_end (after_end t c) ≡ false
after_is term.CRLF c = elim (cases_Bool (c == 13)) [ inl holds ↦ rw holds refl | inr fails ↦ rw fails refl ]
after_is (term.Any t) c = refl

-- a step that ends a record leaves such a state
abbrev Ends : State × Action → Type 0
Ends x = is_end x.1 ≡ true → ends_at_end x.0 ≡ false

either : (b : Bool) (x y : State × Action) → Ends x → Ends y → Ends (if b then x else y)
either true x y f g = f
either false x y f g = g

skips : (s : State) → Ends (s, act.Skip)
skips s e = cc e

copies : (s : State) → Ends (s, act.Copy)
copies s e = cc e

in_field_ends : (cfg : Config) (c : ℕ) → Ends (in_field cfg c)
in_field_ends cfg c =
    either (c == cfg.delimiter) (st.StartField, act.EndField) (if ends_with cfg.terminator c then (after_end cfg.terminator c, act.EndRecord) else (st.InField, act.Copy)) (λ e. cc e)
    (either (ends_with cfg.terminator c) (after_end cfg.terminator c, act.EndRecord) (st.InField, act.Copy) (λ e. after_is cfg.terminator c) (copies st.InField))

start_field_ends : (cfg : Config) (c : ℕ) → Ends (start_field cfg c)
start_field_ends cfg c = either (cfg.quoting && (c == cfg.quote)) (st.InQuoted, act.Skip) (in_field cfg c) (skips st.InQuoted) (in_field_ends cfg c)

start_record_ends : (cfg : Config) (c : ℕ) → Ends (start_record cfg c)
start_record_ends cfg c =
    either (ends_with cfg.terminator c) (st.StartRecord, act.Skip) (if is_byte cfg.comment c then (st.InComment, act.Skip) else start_field cfg c) (skips st.StartRecord)
    (either (is_byte cfg.comment c) (st.InComment, act.Skip) (start_field cfg c) (skips st.InComment) (start_field_ends cfg c))

step_ends : (cfg : Config) (s : State) (c : ℕ) → Ends (step cfg s c)
step_ends cfg st.StartRecord c = start_record_ends cfg c
step_ends cfg st.StartField c = start_field_ends cfg c
step_ends cfg st.InField c = in_field_ends cfg c
step_ends cfg st.InQuoted c =
    either (cfg.quoting && (c == cfg.quote)) (st.AfterQuote, act.Skip) (if cfg.quoting && is_byte cfg.escape c then (st.InEscape, act.Skip) else (st.InQuoted, act.Copy)) (skips st.AfterQuote)
    (either (cfg.quoting && is_byte cfg.escape c) (st.InEscape, act.Skip) (st.InQuoted, act.Copy) (skips st.InEscape) (copies st.InQuoted))
step_ends cfg st.InEscape c = copies st.InQuoted
step_ends cfg st.AfterQuote c =
    either (cfg.quoting && cfg.double_quote && (c == cfg.quote)) (st.InQuoted, act.Copy) (in_field cfg c) (copies st.InQuoted) (in_field_ends cfg c)
step_ends cfg st.InComment c = either (c == 10) (st.StartRecord, act.Skip) (st.InComment, act.Skip) (skips st.StartRecord) (skips st.InComment)
step_ends cfg st.AfterCr c = either (c == 10) (st.StartRecord, act.Skip) (start_record cfg c) (skips st.StartRecord) (start_record_ends cfg c)

-- a record leaves no more text than there was, in such a state
record Leaves (xs : List ℕ) (p : Read) : Type 0 where
  pub less : length p.2 ≤ length xs
  pub state : ends_at_end p.1 ≡ false

leaves : (cfg : Config) (s : State) (fields : List (List ℕ)) (field xs : List ℕ) (p : Read) → next_record cfg s fields field xs ≡ Some p → Leaves xs p
unfolding next_record
leaves cfg s fields field [] p e = elim (cases_Bool (ends_at_end s)) [
  | inl holds ↦
      let same : (fields ++ (field ∷ []), st.StartRecord, []) ≡ p = cc (rw holds at e) in
      subst (λ (q : Read). Leaves [] q) same (record { less = omega arith; state = refl })
  | inr fails ↦ cc (rw fails at e)
]
leaves cfg s fields field (c ∷ rest) p e = elim (cases_Bool (is_end (step cfg s c).1)) [
  | inl holds ↦
      let same : (fields_after (step cfg s c).1 fields field, (step cfg s c).0, rest) ≡ p = cc (rw holds at e) in
      subst (λ (q : Read). Leaves (c ∷ rest) q) same (record { less = omega arith; state = step_ends cfg s c holds })
  | inr fails ↦
      let more = leaves cfg (step cfg s c).0 (fields_after (step cfg s c).1 fields field) (field_after (step cfg s c).1 c field) rest p (rw fails at e) in
      record { less = omega (arith, more.less); state = more.state }
]

-- from such a state a record takes a byte
takes : (cfg : Config) (s : State) (xs : List ℕ) (p : Read) → ends_at_end s ≡ false → next_record cfg s [] [] xs ≡ Some p → length p.2 < length xs
unfolding next_record
takes cfg s [] p fails e = cc (rw fails at e)
takes cfg s (c ∷ rest) p fails e = elim (cases_Bool (is_end (step cfg s c).1)) [
  | inl holds ↦
      let same : (fields_after (step cfg s c).1 [] [], (step cfg s c).0, rest) ≡ p = cc (rw holds at e) in
      subst (λ (q : Read). length q.2 < length (c ∷ rest)) same (omega arith)
  | inr not_end ↦
      let more = leaves cfg (step cfg s c).0 (fields_after (step cfg s c).1 [] []) (field_after (step cfg s c).1 c []) rest p (rw not_end at e) in
      omega (arith, more.less)
]

-- so there are no more records than bytes
pub are_few : (cfg : Config) (s : State) (xs : List ℕ) (rows : List (List (List ℕ))) (last : State) (ys : List ℕ) → ends_at_end s ≡ false → Reached cfg s xs rows last ys
    → length rows ≤ length xs
unfolding Reached
are_few cfg s xs [] last ys fails h = omega arith
are_few cfg s xs (r ∷ rs) last ys fails h =
    let less = takes cfg s xs h.0 fails h.1 in
    let more = are_few cfg h.0.1 h.0.2 rs last ys (leaves cfg s [] [] xs h.0 h.1).state h.3 in
    omega (arith, less, more)

-- and the definition, which counts more turns, gives just them
pub are_all : (cfg : Config) (n : ℕ) (s : State) (xs : List ℕ) (rows : List (List (List ℕ))) (last : State) (ys : List ℕ) → length rows ≤ n → Reached cfg s xs rows last ys
    → next_record cfg last [] [] ys ≡ None → records_from cfg n s xs ≡ rows
unfolding Reached records_from
are_all cfg zero s xs [] last ys few h end = refl
are_all cfg (suc n) s xs [] last ys few h end = rw (h.0, h.1, end) refl
are_all cfg zero s xs (r ∷ rs) last ys few h end = absurd (omega (arith, few))
are_all cfg (suc n) s xs (r ∷ rs) last ys few h end =
    let more = are_all cfg n h.0.1 h.0.2 rs last ys (omega (arith, few)) h.3 end in
    rw (h.1, h.2) (ap (λ (t : List (List (List ℕ))). h.0.0 ∷ t) more)

pub are_records : (xs : List ℕ) (rows : List (List (List ℕ))) → AreRecords default_config st.StartRecord xs rows → (records default_config xs ≡ rows) × (length rows ≤ length xs)
are_records xs rows h =
    let few = are_few default_config st.StartRecord xs rows h.0 h.1 refl h.2 in
    (are_all default_config (length xs + 1) st.StartRecord xs rows h.0 h.1 (omega (arith, few)) h.2 h.3, few)

-- a mark at the start of a file only takes from it
pub strip_le : (xs : List ℕ) → length (strip_bom xs) ≤ length xs
unfolding strip_bom
strip_le [] = omega arith
strip_le (a ∷ []) = omega arith
strip_le (a ∷ b ∷ []) = omega arith
strip_le (a ∷ b ∷ c ∷ rest) = elim (cases_Bool ((a == 0xEF) && (b == 0xBB) && (c == 0xBF))) [
  | inl holds ↦ rw holds (omega arith)
  | inr fails ↦ rw fails (omega arith)
]
