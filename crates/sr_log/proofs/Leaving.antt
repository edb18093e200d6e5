-- What is left when one version more is left out.
use Rattle.std.proofs.Common.{◌≡◌, ℕ, ◌+◌, ◌-◌, ◌<◌, ◌≤◌, List, length, drop, get_or, sym, ap, arith, ◌∙◌}
use Rattle.std.proofs.lemmas.List.{get_or-map}
use Rattle.std.proofs.lemmas.List.Sums.{sum_by-drop_more}
use Rattle.sr_log.specs.declared.entry.Entry.{Entry}
use Rattle.sr_log.specs.Kept.{total, floor}
use Rattle.sr_log.specs.Held.{changes_of}
use Rattle.sr_log.proofs.Least.{more_left, floor-more}
use Rattle.sr_log.proofs.Numbers.{length-changes}

total-next : (entries : List Entry) (i : ℕ) (e : Entry) → i < length entries → e ≡ get_or entries i e → total (drop i (changes_of entries)) ≡ length e.changes + total (drop (i + 1) (changes_of entries))
total-next entries i e within is =
    sum_by-drop_more length (changes_of entries) i e.changes (omega (arith, within, length-changes entries))
    ∙ ap (λ changes. length changes + total (drop (i + 1) (changes_of entries)))
    (get_or-map (λ (e : Entry). e.changes) entries i e e.changes within ∙ sym (ap (λ (e : Entry). e.changes) is))

-- a turn of the loop
pub record Left (limit left dropped : ℕ) (entries : List Entry) (e : Entry) : Type 0 where
  pub enough : length e.changes ≤ left
  pub left_then : left - length e.changes ≡ total (drop (dropped + 1) (changes_of entries))
  pub dropped_then : dropped + 1 + floor limit (drop (dropped + 1) (changes_of entries)) ≡ floor limit (changes_of entries)

pub left_next : (limit left dropped : ℕ) (entries : List Entry) (e : Entry) →
    left ≡ total (drop dropped (changes_of entries)) → dropped + floor limit (drop dropped (changes_of entries)) ≡ floor limit (changes_of entries) →
    limit < left → e ≡ get_or entries dropped e → Left limit left dropped entries e
left_next limit left dropped entries e left_is dropped_is many is =
    let over : limit < total (drop dropped (changes_of entries)) = omega (arith, left_is, many) in
    let there : dropped < length entries = omega (arith, over, more_left (changes_of entries) dropped (omega (arith, over)), length-changes entries) in
    let next = total-next entries dropped e there is in
    let more = floor-more limit (changes_of entries) dropped over in
    record { enough = omega (arith, left_is, next); left_then = omega (arith, left_is, next); dropped_then = omega (arith, dropped_is, more) }
