-- What the parts of an event keep to.
use Rattle.std.proofs.Common.{◌≡◌, ℕ, Bool, true, false, List, [], ◌∷◌, ◌++◌, ◌<◌, refl, sym, ap, subst, arith, append-nil, append_assoc, ◌∙◌}
use Rattle.std.specs.Prelude.{◌==◌, ◌&&◌, ◌||◌, nat_eq, nat_le, Option, Some, None, Ok, Err, IsTrue, codes, length, slice_index_or, if◌then◌else◌}
use Rattle.std.specs.List.{list_all, starts_with}
use Rattle.std.specs.Char.{is_ascii}
use Rattle.std.specs.Str.{bytes_eq, IsAscii}
use Rattle.std.proofs.lemmas.Bool.Decides.{nat_tests}
use Rattle.std.proofs.lemmas.List.Sums.{AllPass-from_list_all}
use Rattle.std.proofs.lemmas.Str.Ascii.{IsAscii-from_all}
use Rattle.std.proofs.lemmas.Str.{IsUtf8-from_ascii, is_utf8-from_IsUtf8}
use Rattle.std.specs.Str.Parse.{digits_value}
use Rattle.sr_lines.specs.Script.{Words, ExecSql, QuerySql, WriteSql, ExplainSql, PushTo, ToServer, ToClient, Settle, Evict, Cut, Resume, part_of, behind, are_digits, client_number, place_number, Reading, text, ending, number, last_client, client_text, client_place, event_of, Silent, is_blank, line_of}
use Rattle.sr_lines.specs.Parts.{is_client, names_client, EventsNameClients, IsEnd, FaultsLeaveEnds}

-- ---- ends

end_all : (line : List ℕ) → IsEnd line line
end_all line = ([], refl)

end_none : (line : List ℕ) → IsEnd [] line
end_none line = (line, sym (append-nil line))

end_more : (b : ℕ) (line rest : List ℕ) → IsEnd rest line → IsEnd rest (b ∷ line)
end_more b line rest end = (b ∷ end.0, ap (λ z. b ∷ z) end.1)

end_cut : (b : ℕ) (line : List ℕ) (space : Bool) → IsEnd (behind line) line → IsEnd (if space then line else behind line) (b ∷ line)
end_cut b line true end = end_more b line line (end_all line)
end_cut b line false end = end_more b line (behind line) end

end_behind : (line : List ℕ) → IsEnd (behind line) line
end_behind [] = end_all []
end_behind (b ∷ line) = end_cut b line (b == 32) (end_behind line)

-- what stands behind the first space of an end
end_next : (rest line : List ℕ) → IsEnd rest line → IsEnd (behind rest) line
end_next rest line end =
    let more = end_behind rest in
    (end.0 ++ more.0, end.1 ∙ (ap (λ z. end.0 ++ z) more.1 ∙ sym (append_assoc end.0 more.0 (behind rest))))

-- ---- clients

both : (a b c : Bool) (v n : ℕ) → (if a && b && c then Some v else None) ≡ Some n → ((b && c) ≡ true) × (v ≡ n)
both true true true v n is = (refl, cc)
both true true false v n is = absurd cc
both true false c v n is = absurd cc
both false b c v n is = absurd cc

client_is : (clients : ℕ) (part : List ℕ) (n : ℕ) → client_number clients part ≡ Some n → is_client clients n ≡ true
client_is clients part n is =
    let v = digits_value 10 part in
    let p = both (are_digits 3 part) (nat_le 1 v) (nat_le v clients) v n is in
    subst (λ z. is_client clients z ≡ true) p.1 p.0

-- ---- readings

-- an event names a client that there is, and a fault leaves an end of the line
abbrev Keeps : ℕ → List ℕ → Reading → Type 0
Keeps clients line (Ok words) = IsTrue (names_client clients words)
Keeps clients line (Err rest) = IsEnd rest line

either : (clients : ℕ) (line : List ℕ) (b : Bool) (x y : Reading) → Keeps clients line x → Keeps clients line y → Keeps clients line (if b then x else y)
either clients line true x y first second = first
either clients line false x y first second = second

of_text : (clients : ℕ) (line rest : List ℕ) (made : List ℕ → Words) → ((sql : List ℕ) → IsTrue (names_client clients (made sql))) → Keeps clients line (text made rest)
of_text clients line [] made fits = end_none line
of_text clients line (b ∷ sql) made fits = fits (b ∷ sql)

of_ending : (clients : ℕ) (line rest : List ℕ) (words : Words) → IsTrue (names_client clients words) → IsEnd (behind rest) line → Keeps clients line (ending words rest)
of_ending clients line rest words fits end = either clients line (length (part_of rest) == length rest) (Ok words) (Err (behind rest)) fits end

of_number : (clients : ℕ) (line rest : List ℕ) (o : Option ℕ) (made : ℕ → Reading) → IsEnd rest line → ((n : ℕ) → o ≡ Some n → Keeps clients line (made n)) → Keeps clients line (number o made rest)
of_number clients line rest None made end each = end
of_number clients line rest (Some n) made end each = each n refl

of_last : (clients : ℕ) (line : List ℕ) (made : ℕ → Words) → ((n : ℕ) → is_client clients n ≡ true → IsTrue (names_client clients (made n))) → Keeps clients line (last_client clients made (behind line))
of_last clients line made fits =
    let rest = behind line in
    of_number clients line rest (client_number clients (part_of rest)) (λ n. ending (made n) rest) (end_behind line)
    (λ n is. of_ending clients line rest (made n) (fits n (client_is clients (part_of rest) n is)) (end_next rest line (end_behind line)))

of_client_text : (clients : ℕ) (line : List ℕ) (made : ℕ → List ℕ → Words) → ((n : ℕ) (sql : List ℕ) → is_client clients n ≡ true → IsTrue (names_client clients (made n sql)))
    → Keeps clients line (client_text clients made (behind line))
of_client_text clients line made fits =
    let rest = behind line in
    of_number clients line rest (client_number clients (part_of rest)) (λ n. text (made n) (behind rest)) (end_behind line)
    (λ n is. of_text clients line (behind rest) (made n) (λ sql. fits n sql (client_is clients (part_of rest) n is)))

of_client_place : (clients : ℕ) (line : List ℕ) (made : ℕ → ℕ → Words) → ((n place : ℕ) → is_client clients n ≡ true → IsTrue (names_client clients (made n place)))
    → Keeps clients line (client_place clients made (behind line))
of_client_place clients line made fits =
    let rest = behind line in
    let second = end_next rest line (end_behind line) in
    of_number clients line rest (client_number clients (part_of rest)) (λ n. number (place_number (part_of (behind rest))) (λ place. ending (made n place) (behind rest)) (behind rest)) (end_behind line)
    (λ n is. of_number clients line (behind rest) (place_number (part_of (behind rest))) (λ place. ending (made n place) (behind rest)) second
    (λ place _. of_ending clients line (behind rest) (made n place) (fits n place (client_is clients (part_of rest) n is)) (end_next (behind rest) line second)))

of_event : (clients : ℕ) (line : List ℕ) → Keeps clients line (event_of clients line)
of_event clients line =
    let word = part_of line in
    let rest = behind line in
    let or = either clients line in
    or (bytes_eq word (codes "exec")) _ _ (of_text clients line rest ExecSql (λ _. refl))
    (or (bytes_eq word (codes "query")) _ _ (of_client_text clients line QuerySql (λ _ _ is. is))
    (or (bytes_eq word (codes "write")) _ _ (of_client_text clients line WriteSql (λ _ _ is. is))
    (or (bytes_eq word (codes "explain")) _ _ (of_client_text clients line ExplainSql (λ _ _ is. is))
    (or (bytes_eq word (codes "push")) _ _ (of_last clients line PushTo (λ _ is. is))
    (or (bytes_eq word (codes "toserver")) _ _ (of_last clients line ToServer (λ _ is. is))
    (or (bytes_eq word (codes "toclient")) _ _ (of_last clients line ToClient (λ _ is. is))
    (or (bytes_eq word (codes "settle")) _ _ (of_last clients line Settle (λ _ is. is))
    (or (bytes_eq word (codes "cut")) _ _ (of_last clients line Cut (λ _ is. is))
    (or (bytes_eq word (codes "resume")) _ _ (of_last clients line Resume (λ _ is. is))
    (or (bytes_eq word (codes "evict")) _ _ (of_client_place clients line Evict (λ _ _ is. is)) (end_all line)))))))))))

pub events_name_clients : EventsNameClients
events_name_clients clients line words is = subst (Keeps clients line) is (of_event clients line)

pub faults_leave_ends : FaultsLeaveEnds
faults_leave_ends clients line rest is = subst (Keeps clients line) is (of_event clients line)

-- ---- silent lines

below : (b : ℕ) → is_ascii b ≡ true → b < 128
below b is = grind (arith, nat_tests)

ascii : (line : List ℕ) → list_all is_ascii line ≡ true → IsAscii line
ascii line all = IsAscii-from_all line (λ k d inside. below (slice_index_or line k d) (AllPass-from_list_all is_ascii line all k d inside))

pub silent_line : (line : List ℕ) → list_all is_ascii line ≡ true → (is_blank line || starts_with nat_eq line (codes "#")) ≡ true → line_of 1 line ≡ Ok Silent
silent_line line all quiet = rw (is_utf8-from_IsUtf8 line (IsUtf8-from_ascii line (ascii line all)), quiet) refl
