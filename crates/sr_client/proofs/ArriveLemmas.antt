-- What arrives, one message after another.
use Rattle.std.proofs.Common.{◌≡◌, ℕ, zero, suc, ◌+◌, ◌<◌, ◌≤◌, true, false, List, [], ◌∷◌, ◌++◌, length, map, refl, sym, ◌∙◌, ap, arith, append_assoc, append-nil}
use Rattle.std.specs.Prelude.{◌==◌, slice_set, slice_index_or, if◌then◌else◌}
use Rattle.std.proofs.lemmas.Bool.Decides.{nat_tests}
use Rattle.sr_cell.specs.declared.table.Table.{Table}
use Rattle.sr_cell.specs.Cells.{Row}
use Rattle.sr_message.specs.declared.message.AskPart.{AskPart}
use Rattle.sr_message.specs.declared.message.Message.{Message}
use Rattle.sr_message.specs.declared.message.Message.TheVariants.{Hello, Resume, Ask, Write, Welcome, Notice, Rows, Reply, Written, Refused, Lapse}
use Rattle.sr_store.specs.declared.store.Arrival.{Arrival}
use Rattle.sr_session.specs.Arrivals.{arrived_at}
use Rattle.sr_session.proofs.RowLemmas.{arrived-append}
use Rattle.sr_client.specs.Arriving.{arrival_of, unfilled, arrivals_from, arrivals_of, more_at, with_message, with_messages}

-- ---- rows more of one part

-- no part has that number
pub more-past : (n : ℕ) (rows : List Row) (arrivals : List Arrival) → length arrivals ≤ n → more_at n rows arrivals ≡ arrivals
more-past n rows [] past = refl
more-past zero rows (r ∷ arrivals) past = absurd (omega (arith, past))
more-past (suc n) rows (r ∷ arrivals) past = ap (λ rs. r ∷ rs) (more-past n rows arrivals (omega (arith, past)))

-- the arrival of that number is set to the same with rows more
pub more-set : (n : ℕ) (rows new : List Row) (arrivals : List Arrival) (d : Arrival) → n < length arrivals → new ≡ (slice_index_or arrivals n d).rows ++ rows
    → slice_set arrivals n (record (slice_index_or arrivals n d) { rows = new }) ≡ more_at n rows arrivals
more-set n rows new [] d within is = absurd (omega (arith, within))
more-set zero rows new (r ∷ arrivals) d within is = ap (λ rows. record r { rows = rows } ∷ arrivals) is
more-set (suc n) rows new (r ∷ arrivals) d within is = ap (λ rs. r ∷ rs) (more-set n rows new arrivals d (omega (arith, within)) is)

more-length : (n : ℕ) (rows : List Row) (arrivals : List Arrival) → length (more_at n rows arrivals) ≡ length arrivals
more-length n rows [] = refl
more-length zero rows (r ∷ arrivals) = refl
more-length (suc n) rows (r ∷ arrivals) = ap (λ k. suc k) (more-length n rows arrivals)

message-length : (m : Message) (arrivals : List Arrival) → length (with_message m arrivals) ≡ length arrivals
message-length (Rows k part rows) arrivals = more-length part rows arrivals
message-length (Notice w told) arrivals = refl
message-length (Lapse w) arrivals = refl
message-length (Reply k w) arrivals = refl
message-length (Written k w) arrivals = refl
message-length (Refused k fault) arrivals = refl
message-length (Welcome k w kept) arrivals = refl
message-length (Hello wire client number) arrivals = refl
message-length (Resume wire client number version holdings) arrivals = refl
message-length (Ask number fresh parts) arrivals = refl
message-length (Write number sql) arrivals = refl

-- messages leave as many arrivals
pub messages-length : (ms : List Message) (arrivals : List Arrival) → length (with_messages ms arrivals) ≡ length arrivals
messages-length [] arrivals = refl
messages-length (m ∷ ms) arrivals = messages-length ms (with_message m arrivals) ∙ message-length m arrivals

-- ---- all messages

-- a message that brings no rows of these parts leaves them
still : (schema : List Table) (i : ℕ) (asks : List AskPart) (pre : List Message) (m : Message) → ((k : ℕ) → i ≤ k → arrived_at k (m ∷ []) ≡ []) → arrivals_from i schema asks (pre ++ m ∷ []) ≡ arrivals_from i schema asks pre
still schema i [] pre m none = refl
still schema i (ask ∷ asks) pre m none =
    let same : arrived_at i (pre ++ m ∷ []) ≡ arrived_at i pre = arrived-append i pre (m ∷ []) ∙ (ap (λ rows. arrived_at i pre ++ rows) (none i (omega arith)) ∙ append-nil (arrived_at i pre)) in
    ap (λ rows. arrival_of schema ask rows ∷ arrivals_from (i + 1) schema asks (pre ++ m ∷ [])) same
    ∙ ap (λ rest. arrival_of schema ask (arrived_at i pre) ∷ rest) (still schema (i + 1) asks pre m (λ k above. none k (omega (arith, above))))

own-rows : (i k : ℕ) (rows : List Row) → arrived_at i (Rows k i rows ∷ []) ≡ rows
own-rows i k rows = let same : (i == i) ≡ true = grind (arith, nat_tests) in ap (λ b. (if b then rows else []) ++ []) same ∙ append-nil rows

other-rows : (i k part : ℕ) (rows : List Row) → (part ≡ i → ⊥) → arrived_at i (Rows k part rows ∷ []) ≡ []
other-rows i k part rows other = let different : (part == i) ≡ false = grind (arith, nat_tests, other) in ap (λ b. (if b then rows else []) ++ []) different

-- rows are put behind those of their part
rows-come : (schema : List Table) (i n k : ℕ) (asks : List AskPart) (pre : List Message) (rows : List Row) → more_at n rows (arrivals_from i schema asks pre) ≡ arrivals_from i schema asks (pre ++ Rows k (i + n) rows ∷ [])
rows-come schema i n k [] pre rows = refl
rows-come schema i zero k (ask ∷ asks) pre rows =
    let here : i + zero ≡ i = omega arith in
    let own : arrived_at i pre ++ rows ≡ arrived_at i (pre ++ Rows k i rows ∷ []) = ap (λ more. arrived_at i pre ++ more) (sym (own-rows i k rows)) ∙ sym (arrived-append i pre (Rows k i rows ∷ [])) in
    let rest = still schema (i + 1) asks pre (Rows k i rows) (λ j above. other-rows j k i rows (λ same. omega (arith, above, same))) in
    ap (λ come. arrival_of schema ask come ∷ arrivals_from (i + 1) schema asks pre) own
    ∙ (ap (λ more. arrival_of schema ask (arrived_at i (pre ++ Rows k i rows ∷ [])) ∷ more) (sym rest)
    ∙ ap (λ part. arrivals_from i schema (ask ∷ asks) (pre ++ Rows k part rows ∷ [])) (sym here))
rows-come schema i (suc n) k (ask ∷ asks) pre rows =
    let next : (i + 1) + n ≡ i + suc n = omega arith in
    let same : arrived_at i (pre ++ Rows k (i + suc n) rows ∷ []) ≡ arrived_at i pre =
    arrived-append i pre (Rows k (i + suc n) rows ∷ []) ∙ (ap (λ come. arrived_at i pre ++ come) (other-rows i k (i + suc n) rows (λ e. omega (arith, e))) ∙ append-nil (arrived_at i pre)) in
    ap (λ rest. arrival_of schema ask (arrived_at i pre) ∷ rest) (rows-come schema (i + 1) n k asks pre rows ∙ ap (λ part. arrivals_from (i + 1) schema asks (pre ++ Rows k part rows ∷ [])) next)
    ∙ ap (λ come. arrival_of schema ask come ∷ arrivals_from (i + 1) schema asks (pre ++ Rows k (i + suc n) rows ∷ [])) (sym same)

from-first : (part : ℕ) → 0 + part ≡ part
from-first part = omega arith

message-comes : (schema : List Table) (asks : List AskPart) (pre : List Message) (m : Message) → with_message m (arrivals_of schema asks pre) ≡ arrivals_of schema asks (pre ++ m ∷ [])
message-comes schema asks pre (Rows k part rows) = rows-come schema 0 part k asks pre rows ∙ ap (λ n. arrivals_of schema asks (pre ++ Rows k n rows ∷ [])) (from-first part)
message-comes schema asks pre (Notice w told) = sym (still schema 0 asks pre (Notice w told) (λ k above. refl))
message-comes schema asks pre (Lapse w) = sym (still schema 0 asks pre (Lapse w) (λ k above. refl))
message-comes schema asks pre (Reply k w) = sym (still schema 0 asks pre (Reply k w) (λ k above. refl))
message-comes schema asks pre (Written k w) = sym (still schema 0 asks pre (Written k w) (λ k above. refl))
message-comes schema asks pre (Refused k fault) = sym (still schema 0 asks pre (Refused k fault) (λ k above. refl))
message-comes schema asks pre (Welcome k w kept) = sym (still schema 0 asks pre (Welcome k w kept) (λ k above. refl))
message-comes schema asks pre (Hello wire client number) = sym (still schema 0 asks pre (Hello wire client number) (λ k above. refl))
message-comes schema asks pre (Resume wire client number version holdings) = sym (still schema 0 asks pre (Resume wire client number version holdings) (λ k above. refl))
message-comes schema asks pre (Ask number fresh parts) = sym (still schema 0 asks pre (Ask number fresh parts) (λ k above. refl))
message-comes schema asks pre (Write number sql) = sym (still schema 0 asks pre (Write number sql) (λ k above. refl))

messages-come : (schema : List Table) (asks : List AskPart) (pre ms : List Message) → with_messages ms (arrivals_of schema asks pre) ≡ arrivals_of schema asks (pre ++ ms)
messages-come schema asks pre [] = ap (arrivals_of schema asks) (sym (append-nil pre))
messages-come schema asks pre (m ∷ ms) =
    ap (with_messages ms) (message-comes schema asks pre m) ∙ (messages-come schema asks (pre ++ m ∷ []) ms ∙ ap (arrivals_of schema asks) (append_assoc pre (m ∷ []) ms))

no-rows-yet : (schema : List Table) (i : ℕ) (asks : List AskPart) → arrivals_from i schema asks [] ≡ map (unfilled schema) asks
no-rows-yet schema i [] = refl
no-rows-yet schema i (ask ∷ asks) = ap (λ rest. unfilled schema ask ∷ rest) (no-rows-yet schema (i + 1) asks)

-- the arrivals without rows, once all messages have brought theirs
pub arrivals_are : (schema : List Table) (asks : List AskPart) (ms : List Message) → with_messages ms (map (unfilled schema) asks) ≡ arrivals_of schema asks ms
arrivals_are schema asks ms = ap (with_messages ms) (sym (no-rows-yet schema 0 asks)) ∙ messages-come schema asks [] ms
