-- A line that begins with the word of an event, and what of it is made.
use Rattle.std.proofs.Common.{◌≡◌, ℕ, List, refl, ap}
use Rattle.std.specs.Prelude.{Result, Ok, Err, codes, MatchResult, IsOkAnd}
use Rattle.std.specs.Borrow.{Bor}
use Rattle.sr_lines.specs.Script as script
use Rattle.sr_lines.specs.Script.{Reading, part_of, behind, text, last_client, client_text, client_place, event_of}
use Rattle.sr_reader.specs.declared.words.Words.{Words}
use Rattle.sr_reader.specs.LineSeen.{made_of, reading_seen, words_seen}

-- what is made of what was read, in the words of a script
pub mapped : {A : Type 0} (Post : A → Words → Type 0) (made : A → script.Words) (read : Result A (Bor (List ℕ))) (result : Result Words (Bor (List ℕ))) → ((x : A) (words : Words) → Post x words → words_seen words ≡ made x)
    → MatchResult read (λ x. IsOkAnd result (Post x)) (λ rest. result ≡ Err rest) → reading_seen result ≡ made_of made read
mapped Post made (Ok x) (Ok words) is did = ap Ok (is x words did)
mapped Post made (Ok x) (Err rest) is did = absurd did
mapped Post made (Err rest) result is did = ap reading_seen did

pub says-exec : (clients : ℕ) (line : List ℕ) → part_of line ≡ codes "exec" → text script.ExecSql (behind line) ≡ event_of clients line
says-exec clients line is = rw is refl

pub says-query : (clients : ℕ) (line : List ℕ) → part_of line ≡ codes "query" → client_text clients script.QuerySql (behind line) ≡ event_of clients line
says-query clients line is = rw is refl

pub says-write : (clients : ℕ) (line : List ℕ) → part_of line ≡ codes "write" → client_text clients script.WriteSql (behind line) ≡ event_of clients line
says-write clients line is = rw is refl

pub says-explain : (clients : ℕ) (line : List ℕ) → part_of line ≡ codes "explain" → client_text clients script.ExplainSql (behind line) ≡ event_of clients line
says-explain clients line is = rw is refl

pub says-push : (clients : ℕ) (line : List ℕ) → part_of line ≡ codes "push" → last_client clients script.PushTo (behind line) ≡ event_of clients line
says-push clients line is = rw is refl

pub says-toserver : (clients : ℕ) (line : List ℕ) → part_of line ≡ codes "toserver" → last_client clients script.ToServer (behind line) ≡ event_of clients line
says-toserver clients line is = rw is refl

pub says-toclient : (clients : ℕ) (line : List ℕ) → part_of line ≡ codes "toclient" → last_client clients script.ToClient (behind line) ≡ event_of clients line
says-toclient clients line is = rw is refl

pub says-settle : (clients : ℕ) (line : List ℕ) → part_of line ≡ codes "settle" → last_client clients script.Settle (behind line) ≡ event_of clients line
says-settle clients line is = rw is refl

pub says-cut : (clients : ℕ) (line : List ℕ) → part_of line ≡ codes "cut" → last_client clients script.Cut (behind line) ≡ event_of clients line
says-cut clients line is = rw is refl

pub says-resume : (clients : ℕ) (line : List ℕ) → part_of line ≡ codes "resume" → last_client clients script.Resume (behind line) ≡ event_of clients line
says-resume clients line is = rw is refl

pub says-evict : (clients : ℕ) (line : List ℕ) → part_of line ≡ codes "evict" → client_place clients script.Evict (behind line) ≡ event_of clients line
says-evict clients line is = rw is refl
