-- Where the query of an aggregate begins and ends, its text may be cut.
use Rattle.std.proofs.Common.{◌≡◌, ℕ, zero, suc, ◌-◌, ◌<◌, Bool, true, false, List, [], ◌∷◌, ◌++◌, length, take, drop, map, get_or, Option, Some, None, refl, sym, ap, subst, ◌∙◌, append_assoc, arith}
use Rattle.std.specs.Prelude.{codes, if◌then◌else◌, bytes_eq, ◌&&◌, ◌||◌, nat_lt, Ok, Err}
use Rattle.std.specs.Char.{to_ascii_uppercase, to_ascii_lowercase}
use Rattle.std.specs.Str.{IsCharBoundary}
use Rattle.std.proofs.lemmas.Str.{IsCharBoundary-before_ascii}
use Rattle.std.proofs.lemmas.Bool.Decides.{nat_tests}
use Rattle.std.proofs.lemmas.Slice.Eq.{bytes_eq-Decides}
use Rattle.sr_token.specs.declared.token.TokenKind.{TokenKind}
use Rattle.sr_token.specs.declared.token.TokenKind.TheVariants as code
use Rattle.sr_token.specs.Tokens.{Lexeme, Found, Bad as None_there, tokens_from}
use Rattle.sr_token.specs.Spans.{AreSpans, slice}
use Rattle.sr_cell.specs.declared.fault.Why.TheVariants.{LongText}
use Rattle.sr_grammar.specs.Tokens.{Key, Named, Mark, Bad, Tok, is, is_reserved, lexeme_seen, lower, of_kind, seen, tokens_of, upper, word_seen}
use Rattle.sr_grammar.specs.Words.{place_of}
use Rattle.sr_grammar_laws.specs.Reading.{Reading, Got, Fails, Reader, and_then as ◌>>=◌, nothing, one, taken}
use Rattle.sr_grammar_laws.specs.Readers.{end, key, list, mark, maybe}
use Rattle.sr_grammar_laws.proofs.Good.{bind_ok}
use Rattle.sr_grammar.specs.declared.statement.Name.{Name}
use Rattle.sr_agg.specs.declared.statement.Aggregate.{Aggregate}
use Rattle.sr_agg.specs.declared.statement.Listed.{Listed}
use Rattle.sr_agg.specs.Statement.{aggregate, ends, grouping, is_none, item, of_reading, outer, rest, table_ahead, up_to_end, whole}
use Rattle.sr_agg.specs.Views.{MayCut}
use Rattle.sr_agg.proofs.Reading.{leaves-item, leaves-list, leaves-one}

-- FROM, GROUP and the semicolon
abbrev pub may_begin : Tok → Bool
may_begin t = is Key (codes "FROM") t || (is Named (codes "group") t || is Mark (codes ";") t)

-- a text that begins with a byte of ASCII
abbrev BeginsAscii : List ℕ → Type 0
BeginsAscii [] = ⊥
BeginsAscii (b ∷ text) = b < 128

up-ascii : (text : List ℕ) → upper text ≡ codes "FROM" → BeginsAscii text
up-ascii [] e = absurd cc
up-ascii (b ∷ text) e = let k : to_ascii_uppercase b ≡ 70 = cc in grind (arith, nat_tests)

low-ascii : (text : List ℕ) → lower text ≡ codes "group" → BeginsAscii text
low-ascii [] e = absurd cc
low-ascii (b ∷ text) e = let k : to_ascii_lowercase b ≡ 103 = cc in grind (arith, nat_tests)

mark-ascii : (text : List ℕ) → text ≡ codes ";" → BeginsAscii text
mark-ascii [] e = absurd cc
mark-ascii (b ∷ text) e = let k : b ≡ 59 = cc in omega (arith, k)

token-ascii : (kind : TokenKind) (from : ℕ) (text : List ℕ) → may_begin (seen kind from text) ≡ true → BeginsAscii text
token-ascii code.Word from text h = by (is_reserved (upper text)) refl h
  where
    by : (r : Bool) → is_reserved (upper text) ≡ r → may_begin (word_seen from text) ≡ true → BeginsAscii text
    by true e h = let k : (bytes_eq (upper text) (codes "FROM") || false) ≡ true = rw e at h in up-ascii text ((bytes_eq-Decides (upper text) (codes "FROM")).0 (grind (arith, k)))
    by false e h = let k : (bytes_eq (lower text) (codes "group") || false) ≡ true = rw e at h in low-ascii text ((bytes_eq-Decides (lower text) (codes "group")).0 (grind (arith, k)))
token-ascii code.Number from text h = absurd cc
token-ascii code.Quoted from text h = absurd cc
token-ascii code.Mark from text h = mark-ascii text ((bytes_eq-Decides text (codes ";")).0 h)

first-of : (text : List ℕ) (from : ℕ) (b : ℕ) (more : List ℕ) → drop from text ≡ b ∷ more → (from < length text) × (get_or text from 0 ≡ b)
first-of [] zero b more e = absurd cc
first-of [] (suc from) b more e = absurd cc
first-of (c ∷ text) zero b more e = (omega arith, cc)
first-of (c ∷ text) (suc from) b more e = let ih = first-of text from b more e in (omega (arith, ih.0), ih.1)

cut-at : (text : List ℕ) (from to : ℕ) (token : List ℕ) → token ≡ slice text from to → BeginsAscii token → IsCharBoundary text from
cut-at text from to [] is ascii = absurd ascii
cut-at text from to (b ∷ token) is ascii = by (to - from) (drop from text) refl is
  where
    by : (n : ℕ) (rest : List ℕ) → drop from text ≡ rest → (b ∷ token) ≡ take n rest → IsCharBoundary text from
    by zero rest e is = absurd cc
    by (suc n) [] e is = absurd cc
    by (suc n) (c ∷ rest) e is =
        let same : b ≡ c = cc in
        let f = first-of text from c rest e in
        IsCharBoundary-before_ascii text from f.0 (rw (f.1, sym same) ascii)

-- where such a token begins
token-cut : (text : List ℕ) (at : ℕ) (ls : List Lexeme) (front : List Tok) (t : Tok) (back : List Tok) → AreSpans text at ls → map lexeme_seen ls ≡ front ++ t ∷ back → may_begin t ≡ true → IsCharBoundary text t.from
token-cut text at [] [] t back spans is may = absurd cc
token-cut text at [] (f ∷ front) t back spans is may = absurd cc
token-cut text at (None_there from ∷ ls) [] t back spans is may =
    let same : lexeme_seen (None_there from) ≡ t = cc in
    let k : may_begin (lexeme_seen (None_there from)) ≡ true = ap may_begin same ∙ may in
    absurd cc
token-cut text at (Found kind from to token ∷ ls) [] t back spans is may =
    let same : seen kind from token ≡ t = cc in
    let k : may_begin (seen kind from token) ≡ true = ap may_begin same ∙ may in
    subst (λ (z : Tok). IsCharBoundary text z.from) same (place-of kind from token (cut-at text from to token spans.3 (token-ascii kind from token k)))
  where
    place-of : (kind : TokenKind) (from : ℕ) (token : List ℕ) → IsCharBoundary text from → IsCharBoundary text (seen kind from token).from
    place-of code.Word from token b = by (is_reserved (upper token)) refl
      where
        by : (r : Bool) → is_reserved (upper token) ≡ r → IsCharBoundary text (word_seen from token).from
        by true e = rw e b
        by false e = rw e b
    place-of code.Number from token b = b
    place-of code.Quoted from token b = b
    place-of code.Mark from token b = b
token-cut text at (None_there from ∷ ls) (f ∷ front) t back spans is may =
    let none : ls ≡ [] = spans.2 in
    let rest : map lexeme_seen ls ≡ front ++ t ∷ back = cc in
    absurd (no-more front (ap (map lexeme_seen) (sym none) ∙ rest))
  where
    no-more : (front : List Tok) → [] ≡ front ++ t ∷ back → ⊥
    no-more [] e = cc
    no-more (x ∷ front) e = cc
token-cut text at (Found kind from to token ∷ ls) (f ∷ front) t back spans is may =
    let rest : map lexeme_seen ls ≡ front ++ t ∷ back = cc in
    token-cut text to ls front t back spans.4 rest may

-- ---- where an aggregate has such tokens

-- one of the tokens begins there
abbrev pub At : List Tok → ℕ → Type 0
At ts place = (front : List Tok) × (t : Tok) × (back : List Tok) × (ts ≡ front ++ t ∷ back) × (may_begin t ≡ true) × (t.from ≡ place)

abbrev pub AtIfAny : List Tok → Option ℕ → Type 0
AtIfAny ts None = Unit {0}
AtIfAny ts (Some place) = At ts place

later : (ts x more : List Tok) (place : ℕ) → ts ≡ x ++ more → At more place → At ts place
later ts x more place e h = (x ++ h.0, h.1, h.2, e ∙ (ap (λ zs. x ++ zs) h.3 ∙ sym (append_assoc x h.0 (h.1 ∷ h.2))), h.4, h.5)

later-if-any : (ts x more : List Tok) (until : Option ℕ) → ts ≡ x ++ more → AtIfAny more until → AtIfAny ts until
later-if-any ts x more None e h = tt
later-if-any ts x more (Some place) e h = later ts x more place e h

from-at : (ts : List Tok) (place : ℕ) (left : List Tok) → one (place_of Key (codes "FROM")) ts ≡ Got place left → At ts place
from-at [] place left e = absurd cc
from-at (t ∷ ts) place left e = by (is Key (codes "FROM") t) refl e
  where
    by : (b : Bool) → is Key (codes "FROM") t ≡ b → taken (if b then Some t.from else None) t ts ≡ Got place left → At (t ∷ ts) place
    by true is e = let same : t.from ≡ place = cc in ([], t, ts, refl, rw is refl, same)
    by false is e = absurd cc

ends-may : (t : Tok) (ts : List Tok) → ends (t ∷ ts) ≡ true → may_begin t ≡ true
ends-may t ts h = by (is Key (codes "FROM") t) (is Named (codes "group") t) (is Mark (codes ";") t) (is_none ts) h
  where
    by : (k n m o : Bool) → (n || (m && o)) ≡ true → (k || (n || m)) ≡ true
    by true n m o h = refl
    by false true m o h = refl
    by false false true o h = refl
    by false false false o h = absurd cc

until-at : (ts : List Tok) (until : Option ℕ) (left : List Tok) → up_to_end ts ≡ Got until left → AtIfAny ts until
until-at [] until left e = let same : None ≡ until = cc in subst (AtIfAny []) same tt
until-at (t ∷ ts) until left e = by (ends (t ∷ ts)) refl (of_kind Bad t) e (until-at ts until left)
  where
    by : (b : Bool) → ends (t ∷ ts) ≡ b → (d : Bool) → (if b then Got (Some t.from) (t ∷ ts) else (if d then Fails false (t ∷ ts) else up_to_end ts)) ≡ Got until left
        → (up_to_end ts ≡ Got until left → AtIfAny ts until) → AtIfAny (t ∷ ts) until
    by true is d e ih = let same : Some t.from ≡ until = cc in subst (AtIfAny (t ∷ ts)) same ([], t, ts, refl, ends-may t ts is, refl)
    by false is true e ih = absurd cc
    by false is false e ih = later-if-any (t ∷ ts) (t ∷ []) ts until refl (ih e)

rest-at : (ts : List Tok) (until : Option ℕ) (left : List Tok) → rest ts ≡ Got until left → AtIfAny ts until
unfolding rest
rest-at ts until left e = by (ends ts) e
  where
    by : (b : Bool) → (if b then Fails false ts else up_to_end ts) ≡ Got until left → AtIfAny ts until
    by true e = absurd cc
    by false e = until-at ts until left e

module _ (items : List Listed) (from : ℕ) (table : Option (List ℕ)) (until : Option ℕ) where
  abbrev behind_groups : Option (List Name) → Reader Aggregate
  behind_groups groups = do
    _ ← maybe (is Mark (codes ";")) (mark (codes ";"))
    nothing (record { items = items; from = from; table = table; until = until; groups = groups })

  abbrev behind_rest : Reader Aggregate
  behind_rest = do
    groups ← grouping
    behind_groups groups

  kept-behind : (ts : List Tok) (a : Aggregate) (left : List Tok) → behind_rest ts ≡ Got a left → (a.from ≡ from) × (a.until ≡ until)
  kept-behind ts a left e =
      let b = bind_ok (grouping ts) behind_groups a left e in
      let d = bind_ok (maybe (is Mark (codes ";")) (mark (codes ";")) b.1) (λ _. nothing (record { items = items; from = from; table = table; until = until; groups = b.0 })) a left b.3 in
      let made : record { items = items; from = from; table = table; until = until; groups = b.0 } ≡ a = cc in
      (sym (ap (λ (z : Aggregate). z.from) made), sym (ap (λ (z : Aggregate). z.until) made))

module _ (items : List Listed) (from : ℕ) where
  abbrev behind_table : Option (List ℕ) → Reader Aggregate
  behind_table table = do
    until ← rest
    behind_rest items from table until

  abbrev behind_from : Reader Aggregate
  behind_from = do
    table ← table_ahead
    behind_table table

  rest-behind : (ts : List Tok) (a : Aggregate) (left : List Tok) → behind_from ts ≡ Got a left → (a.from ≡ from) × AtIfAny ts a.until
  rest-behind ts a left e =
      let b = bind_ok (table_ahead ts) behind_table a left e in
      let same : ts ≡ b.1 = cc in
      let d = bind_ok (rest b.1) (behind_rest items from b.0) a left b.3 in
      let k = kept-behind items from b.0 d.0 d.1 a left d.3 in
      let at : AtIfAny b.1 d.0 = rest-at b.1 d.0 d.1 d.2 in
      (k.0, subst (λ zs. AtIfAny zs a.until) (sym same) (subst (AtIfAny b.1) (sym k.1) at))

abbrev behind_items : List Listed → Reader Aggregate
behind_items items = do
  from ← key (codes "FROM")
  behind_from items from

abbrev behind_select : Reader Aggregate
behind_select = do
  items ← list Mark (codes ",") item
  behind_items items

places : (ts : List Tok) (a : Aggregate) (left : List Tok) → aggregate ts ≡ Got a left → At ts a.from × AtIfAny ts a.until
unfolding aggregate
places ts a left e =
    let b = bind_ok (key (codes "SELECT") ts) (λ _. behind_select) a left e in
    let d = bind_ok (list Mark (codes ",") item b.1) behind_items a left b.3 in
    let f = bind_ok (key (codes "FROM") d.1) (behind_from d.0) a left d.3 in
    let r = rest-behind d.0 f.0 f.1 a left f.3 in
    let l1 = leaves-one (place_of Key (codes "SELECT")) ts b.0 b.1 b.2 in
    let l2 = leaves-list Mark (codes ",") item leaves-item b.1 d.0 d.1 d.2 in
    let l3 = leaves-one (place_of Key (codes "FROM")) d.1 f.0 f.1 f.2 in
    let from : At ts f.0 = later ts l1.0 b.1 f.0 l1.1 (later b.1 l2.0 d.1 f.0 l2.1 (from-at d.1 f.0 f.1 f.2)) in
    (subst (At ts) (sym r.0) from, later-if-any ts l1.0 b.1 a.until l1.1 (later-if-any b.1 l2.0 d.1 a.until l2.1 (later-if-any d.1 l3.0 f.1 a.until l3.1 r.1)))

whole-places : (ts : List Tok) (a : Aggregate) (left : List Tok) → whole ts ≡ Got a left → At ts a.from × AtIfAny ts a.until
unfolding whole
whole-places ts a left e =
    let b = bind_ok (aggregate ts) _ a left e in
    let h = places ts b.0 b.1 b.2 in
    let same : b.0 ≡ a = of-end b.0 b.1 b.3 in
    (subst (λ (z : Aggregate). At ts z.from) same h.0, subst (λ (z : Aggregate). AtIfAny ts z.until) same h.1)
  where
    of-end : (z : Aggregate) (zs : List Tok) → end z zs ≡ Got a left → z ≡ a
    of-end z [] e = cc
    of-end z (t ∷ zs) e = absurd cc

at-cut : (text : List ℕ) (place : ℕ) → AreSpans text 0 (tokens_from text 0) → At (tokens_of text) place → IsCharBoundary text place
at-cut text place spans h = subst (IsCharBoundary text) h.5 (token-cut text 0 (tokens_from text 0) h.0 h.1 h.2 spans h.3 h.4)

if-any-cut : (text : List ℕ) (until : Option ℕ) → AreSpans text 0 (tokens_from text 0) → AtIfAny (tokens_of text) until → MayCut text until
if-any-cut text None spans h = tt
if-any-cut text (Some place) spans h = at-cut text place spans h

-- the text of an aggregate may be cut where its query begins, and where that ends
pub cuts : (text : List ℕ) (a : Aggregate) → AreSpans text 0 (tokens_from text 0) → outer text ≡ Ok a → IsCharBoundary text a.from × MayCut text a.until
cuts text a spans e = by (nat_lt 65536 (length text)) (whole (tokens_of text)) refl e
  where
    done : (z : Aggregate) (left : List Tok) → whole (tokens_of text) ≡ Got z left → z ≡ a → IsCharBoundary text a.from × MayCut text a.until
    done z left is same =
        let h = whole-places (tokens_of text) a left (is ∙ ap (λ (x : Aggregate). Got x left) same) in
        (at-cut text a.from spans h.0, if-any-cut text a.until spans h.1)

    by : (b : Bool) (read : Reading Aggregate) → whole (tokens_of text) ≡ read → (if b then Err (record { why = LongText; at = 65536 }) else of_reading text read) ≡ Ok a → IsCharBoundary text a.from × MayCut text a.until
    by true read is e = absurd cc
    by false (Got z left) is e = done z left is cc
    by false (Fails deep left) is e = absurd cc
