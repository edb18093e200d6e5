-- Fields one behind the other: what is spelled is read again, and what is read was spelled.
use Rattle.std.proofs.Common.{◌≡◌, ℕ, Bool, List, ◌++◌, refl, ap, ◌∙◌, append_assoc}
use Rattle.std.specs.Prelude.{IsTrue}
use Rattle.sr_cell.specs.Columns.{are_bytes}
use Rattle.sr_bytes.specs.Reading.{Got, Reader, read_on, ◌>>=◌, give}
use Rattle.sr_bytes.specs.Laws.{IsExact}
use Rattle.sr_bytes.proofs.Steps.{step_of, got_value, got_rest, rest_bytes, behind}
use Rattle.sr_wire.specs.Reading.{one, two, three, four}

-- how values of a type are read and spelled
pub record Format (A : Type 0) : Type 0 where
  pub reader : Reader A
  pub bytes_of : A → List ℕ
  pub has : A → Bool
  pub exact : IsExact reader bytes_of has

-- the first field, and what is read behind it
pub record First {A B : Type 0} (p : Format A) (f : A → Reader B) (bytes : List ℕ) (y : B) (rest : List ℕ) : Type 0 where
  pub value : A
  pub left : List ℕ
  pub parts : bytes ≡ p.bytes_of value ++ left
  pub has : IsTrue (p.has value)
  pub fits : IsTrue (are_bytes left)
  pub next : f value left ≡ Got y rest

pub first_of_all : {A B : Type 0} (p : Format A) (f : A → Reader B) (bytes : List ℕ) (y : B) (rest : List ℕ)
    → IsTrue (are_bytes bytes) → read_on (p.reader bytes) f ≡ Got y rest → First p f bytes y rest
first_of_all p f bytes y rest fits e =
    let s = step_of (p.reader bytes) f y rest e in
    let e = p.exact.spelled bytes s.value s.left fits s.first in
    record {
      value = s.value;
      left = s.left;
      parts = e.0;
      has = e.1;
      fits = rest_bytes bytes (p.bytes_of s.value) s.left e.0 fits;
      next = s.second;
    }

-- ---- one field

pub record AreOne {A Y : Type 0} (p : Format A) (make : A → Y) (bytes : List ℕ) (y : Y) (rest : List ℕ) : Type 0 where
  pub first : A
  pub is : make first ≡ y
  pub parts : bytes ≡ p.bytes_of first ++ rest
  pub has_first : IsTrue (p.has first)

pub one_spelled : {A Y : Type 0} (p : Format A) (make : A → Y) (bytes : List ℕ) (y : Y) (rest : List ℕ)
    → IsTrue (are_bytes bytes) → one p.reader make bytes ≡ Got y rest → AreOne p make bytes y rest
one_spelled p make bytes y rest fits e =
    let a = first_of_all p (λ a. give (make a)) bytes y rest fits e in
    record {
      first = a.value;
      is = got_value (make a.value) y a.left rest a.next;
      parts = a.parts ∙ ap (λ (t : List ℕ). p.bytes_of a.value ++ t) (got_rest (make a.value) y a.left rest a.next);
      has_first = a.has;
    }

pub one_again : {A Y : Type 0} (p : Format A) (make : A → Y) (a : A) (rest : List ℕ) → IsTrue (p.has a) → one p.reader make (p.bytes_of a ++ rest) ≡ Got (make a) rest
one_again p make a rest ha = rw (p.exact.again a rest ha) refl

-- ---- two

pub record AreTwo {A B Y : Type 0} (p : Format A) (q : Format B) (make : A → B → Y) (bytes : List ℕ) (y : Y) (rest : List ℕ) : Type 0 where
  pub first : A
  pub second : B
  pub is : make first second ≡ y
  pub parts : bytes ≡ (p.bytes_of first ++ q.bytes_of second) ++ rest
  pub has_first : IsTrue (p.has first)
  pub has_second : IsTrue (q.has second)

pub two_spelled : {A B Y : Type 0} (p : Format A) (q : Format B) (make : A → B → Y) (bytes : List ℕ) (y : Y) (rest : List ℕ)
    → IsTrue (are_bytes bytes) → two p.reader q.reader make bytes ≡ Got y rest → AreTwo p q make bytes y rest
two_spelled p q make bytes y rest fits e =
    let a = first_of_all p (λ a. q.reader >>= λ b. give (make a b)) bytes y rest fits e in
    let b = one_spelled q (make a.value) a.left y rest a.fits a.next in
    record {
      first = a.value;
      second = b.first;
      is = b.is;
      parts = behind bytes (p.bytes_of a.value) (q.bytes_of b.first) a.left rest a.parts b.parts;
      has_first = a.has;
      has_second = b.has_first;
    }

pub two_again : {A B Y : Type 0} (p : Format A) (q : Format B) (make : A → B → Y) (a : A) (b : B) (rest : List ℕ)
    → IsTrue (p.has a) → IsTrue (q.has b) → two p.reader q.reader make ((p.bytes_of a ++ q.bytes_of b) ++ rest) ≡ Got (make a b) rest
two_again p q make a b rest ha hb =
    ap (two p.reader q.reader make) (append_assoc (p.bytes_of a) (q.bytes_of b) rest)
    ∙ ap (λ r. read_on r (λ x. q.reader >>= λ y. give (make x y))) (p.exact.again a (q.bytes_of b ++ rest) ha)
    ∙ one_again q (make a) b rest hb

-- ---- three

pub record AreThree {A B C Y : Type 0} (p : Format A) (q : Format B) (s : Format C) (make : A → B → C → Y) (bytes : List ℕ) (y : Y) (rest : List ℕ) : Type 0 where
  pub first : A
  pub second : B
  pub third : C
  pub is : make first second third ≡ y
  pub parts : bytes ≡ (p.bytes_of first ++ (q.bytes_of second ++ s.bytes_of third)) ++ rest
  pub has_first : IsTrue (p.has first)
  pub has_second : IsTrue (q.has second)
  pub has_third : IsTrue (s.has third)

pub three_spelled : {A B C Y : Type 0} (p : Format A) (q : Format B) (s : Format C) (make : A → B → C → Y) (bytes : List ℕ) (y : Y) (rest : List ℕ)
    → IsTrue (are_bytes bytes) → three p.reader q.reader s.reader make bytes ≡ Got y rest → AreThree p q s make bytes y rest
three_spelled p q s make bytes y rest fits e =
    let a = first_of_all p (λ a. q.reader >>= λ b. s.reader >>= λ c. give (make a b c)) bytes y rest fits e in
    let b = two_spelled q s (make a.value) a.left y rest a.fits a.next in
    record {
      first = a.value;
      second = b.first;
      third = b.second;
      is = b.is;
      parts = behind bytes (p.bytes_of a.value) (q.bytes_of b.first ++ s.bytes_of b.second) a.left rest a.parts b.parts;
      has_first = a.has;
      has_second = b.has_first;
      has_third = b.has_second;
    }

pub three_again : {A B C Y : Type 0} (p : Format A) (q : Format B) (s : Format C) (make : A → B → C → Y) (a : A) (b : B) (c : C) (rest : List ℕ)
    → IsTrue (p.has a) → IsTrue (q.has b) → IsTrue (s.has c)
    → three p.reader q.reader s.reader make ((p.bytes_of a ++ (q.bytes_of b ++ s.bytes_of c)) ++ rest) ≡ Got (make a b c) rest
three_again p q s make a b c rest ha hb hc =
    ap (three p.reader q.reader s.reader make) (append_assoc (p.bytes_of a) (q.bytes_of b ++ s.bytes_of c) rest)
    ∙ ap (λ r. read_on r (λ x. q.reader >>= λ y. s.reader >>= λ z. give (make x y z))) (p.exact.again a ((q.bytes_of b ++ s.bytes_of c) ++ rest) ha)
    ∙ two_again q s (make a) b c rest hb hc

-- ---- four

pub record AreFour {A B C D Y : Type 0} (p : Format A) (q : Format B) (s : Format C) (t : Format D) (make : A → B → C → D → Y) (bytes : List ℕ) (y : Y) (rest : List ℕ)
    : Type 0 where
  pub first : A
  pub second : B
  pub third : C
  pub fourth : D
  pub is : make first second third fourth ≡ y
  pub parts : bytes ≡ (p.bytes_of first ++ (q.bytes_of second ++ (s.bytes_of third ++ t.bytes_of fourth))) ++ rest
  pub has_first : IsTrue (p.has first)
  pub has_second : IsTrue (q.has second)
  pub has_third : IsTrue (s.has third)
  pub has_fourth : IsTrue (t.has fourth)

pub four_spelled : {A B C D Y : Type 0} (p : Format A) (q : Format B) (s : Format C) (t : Format D) (make : A → B → C → D → Y) (bytes : List ℕ) (y : Y) (rest : List ℕ)
    → IsTrue (are_bytes bytes) → four p.reader q.reader s.reader t.reader make bytes ≡ Got y rest → AreFour p q s t make bytes y rest
four_spelled p q s t make bytes y rest fits e =
    let a = first_of_all p (λ a. q.reader >>= λ b. s.reader >>= λ c. t.reader >>= λ d. give (make a b c d)) bytes y rest fits e in
    let b = three_spelled q s t (make a.value) a.left y rest a.fits a.next in
    record {
      first = a.value;
      second = b.first;
      third = b.second;
      fourth = b.third;
      is = b.is;
      parts = behind bytes (p.bytes_of a.value) (q.bytes_of b.first ++ (s.bytes_of b.second ++ t.bytes_of b.third)) a.left rest a.parts b.parts;
      has_first = a.has;
      has_second = b.has_first;
      has_third = b.has_second;
      has_fourth = b.has_third;
    }

pub four_again : {A B C D Y : Type 0} (p : Format A) (q : Format B) (s : Format C) (t : Format D) (make : A → B → C → D → Y) (a : A) (b : B) (c : C) (d : D) (rest : List ℕ)
    → IsTrue (p.has a) → IsTrue (q.has b) → IsTrue (s.has c) → IsTrue (t.has d)
    → four p.reader q.reader s.reader t.reader make ((p.bytes_of a ++ (q.bytes_of b ++ (s.bytes_of c ++ t.bytes_of d))) ++ rest) ≡ Got (make a b c d) rest
four_again p q s t make a b c d rest ha hb hc hd =
    ap (four p.reader q.reader s.reader t.reader make) (append_assoc (p.bytes_of a) (q.bytes_of b ++ (s.bytes_of c ++ t.bytes_of d)) rest)
    ∙ ap (λ r. read_on r (λ x. q.reader >>= λ y. s.reader >>= λ z. t.reader >>= λ w. give (make x y z w)))
    (p.exact.again a ((q.bytes_of b ++ (s.bytes_of c ++ t.bytes_of d)) ++ rest) ha)
    ∙ three_again q s t (make a) b c d rest hb hc hd
