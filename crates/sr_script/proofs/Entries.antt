-- Rects: the constrained columns with their spans, and which texts these have.
use Rattle.std.proofs.Common.{◌≡◌, ℕ, Bool, true, false, List, [], ◌∷◌, ◌++◌, Option, Some, None, map, refl, sym, ap, ap₂, subst, ◌∙◌, append_assoc, arith}
use Rattle.std.specs.Prelude.{ℤ, ◌&&◌, int_le, codes, bytes_eq}
use Rattle.std.specs.List.{list_all, list_any, AllByRecursion}
use Rattle.std.proofs.lemmas.Int.{ints}
use Rattle.std.specs.Cmp.{first_so, second_so}
use Rattle.std.proofs.lemmas.Bool.{not-true, or_parts}
use Rattle.sr_cell.specs.declared.table.Kind.{Kind}
use Rattle.sr_cell.specs.declared.table.Kind.TheVariants.{Num as Numbers, Str as Texts}
use Rattle.sr_cell.specs.declared.table.Column.{Column}
use Rattle.sr_box.specs.declared.span.Span.{Span}
use Rattle.sr_box.specs.declared.span.Span.TheVariants.{Full, Nums, Strs, Null}
use Rattle.sr_box.specs.Points.{Rect, rect_fits}
use Rattle.sr_box.specs.Spans.{fits_kind, span_fits}
use Rattle.sr_lines.specs.Texts.{joined, number_text, bytes_text}
use Rattle.sr_script.specs.TraceText.{bound_text, span_text, spans_text, rect_text, rects_text}
use Rattle.sr_script.specs.Printable.{is_name, are_different, is_signed, has_signed_ends}
use Rattle.sr_script.proofs.Plain.{is_stop, first_is, others_are, number_cut, number_numeral, no_numeral}
use Rattle.sr_script.proofs.Quoted.{text_cut, no_text, no_n, null_rest}
use Rattle.sr_script.proofs.Listed.{IsCut, list_cut}
use Rattle.sr_script.proofs.Named.{no_same, name_cut, name_begins}

pub data Entry : Type 0 where
  entry : List ℕ → Span → Entry

abbrev ends_text : Span → List ℕ
ends_text Full = []
ends_text (Nums lo hi) = number_text lo ++ (codes ".." ++ number_text hi)
ends_text (Strs lo hi) = bytes_text lo ++ (codes ".." ++ bound_text hi)
ends_text Null = codes "null"

abbrev entry_text : Entry → List ℕ
entry_text (entry name s) = name ++ (codes " " ++ ends_text s)

-- both ends are numbers that an i64 holds, or texts, or it is Null
abbrev has_ends : Span → Bool
has_ends Full = false
has_ends (Nums lo hi) = is_signed lo && is_signed hi
has_ends (Strs lo hi) = true
has_ends Null = true

abbrev Fits : Entry → Type 0
Fits (entry name s) = (is_name name ≡ true) × (has_ends s ≡ true)

-- ---- the text of one entry

bound_cut : (h k : Option (List ℕ)) (x y : List ℕ) (p q : ℕ) → is_stop p ≡ true → is_stop q ≡ true → bound_text h ++ (p ∷ x) ≡ bound_text k ++ (q ∷ y) → (h ≡ k) × (p ∷ x ≡ q ∷ y)
bound_cut None None x y p q s t e = (refl, e)
bound_cut (Some h) (Some k) x y p q s t e = let same = text_cut h k x y p q s t e in (ap Some same.0, same.1)
bound_cut None (Some k) x y p q s t e = absurd (no_text [] p x k (q ∷ y) refl s e)
bound_cut (Some h) None x y p q s t e = absurd (no_text [] q y h (p ∷ x) refl t (sym e))

dots : (a b after : List ℕ) → (a ++ (codes ".." ++ b)) ++ after ≡ a ++ (46 ∷ 46 ∷ (b ++ after))
dots a b after = append_assoc a (46 ∷ 46 ∷ b) after

after_dots : (x y : List ℕ) → 46 ∷ 46 ∷ x ≡ 46 ∷ 46 ∷ y → x ≡ y
after_dots x y e = cc

ends_cut : (s t : Span) (x y : List ℕ) (p q : ℕ) → has_ends s ≡ true → has_ends t ≡ true → is_stop p ≡ true → is_stop q ≡ true
    → ends_text s ++ (p ∷ x) ≡ ends_text t ++ (q ∷ y) → (s ≡ t) × (p ∷ x ≡ q ∷ y)
ends_cut Full t x y p q f g h k e = absurd cc
ends_cut (Nums a b) Full x y p q f g h k e = absurd cc
ends_cut (Strs a b) Full x y p q f g h k e = absurd cc
ends_cut Null Full x y p q f g h k e = absurd cc
ends_cut (Nums a b) (Nums c d) x y p q f g h k e =
    let low = number_cut a c (46 ∷ (number_text b ++ (p ∷ x))) (46 ∷ (number_text d ++ (q ∷ y))) 46 46 (first_so _ _ f) (first_so _ _ g) refl refl
    (sym (dots (number_text a) (number_text b) (p ∷ x)) ∙ e ∙ dots (number_text c) (number_text d) (q ∷ y)) in
    let high = number_cut b d x y p q (second_so (is_signed a) _ f) (second_so (is_signed c) _ g) h k (after_dots _ _ low.1) in
    (ap₂ Nums low.0 high.0, high.1)
ends_cut (Strs a b) (Strs c d) x y p q f g h k e =
    let low = text_cut a c (46 ∷ (bound_text b ++ (p ∷ x))) (46 ∷ (bound_text d ++ (q ∷ y))) 46 46 refl refl
    (sym (dots (bytes_text a) (bound_text b) (p ∷ x)) ∙ e ∙ dots (bytes_text c) (bound_text d) (q ∷ y)) in
    let high = bound_cut b d x y p q h k (after_dots _ _ low.1) in
    (ap₂ Strs low.0 high.0, high.1)
ends_cut (Nums a b) (Strs c d) x y p q f g h k e =
    absurd (no_text (number_text a) 46 (46 ∷ (number_text b ++ (p ∷ x))) c (46 ∷ 46 ∷ (bound_text d ++ (q ∷ y))) (number_numeral a (first_so _ _ f)) refl
    (sym (dots (number_text a) (number_text b) (p ∷ x)) ∙ e ∙ dots (bytes_text c) (bound_text d) (q ∷ y)))
ends_cut (Strs a b) (Nums c d) x y p q f g h k e =
    absurd (no_text (number_text c) 46 (46 ∷ (number_text d ++ (q ∷ y))) a (46 ∷ 46 ∷ (bound_text b ++ (p ∷ x))) (number_numeral c (first_so _ _ g)) refl
    (sym (dots (number_text c) (number_text d) (q ∷ y)) ∙ sym e ∙ dots (bytes_text a) (bound_text b) (p ∷ x)))
ends_cut Null Null x y p q f g h k e = (refl, null_rest (p ∷ x) (q ∷ y) e)
ends_cut (Nums a b) Null x y p q f g h k e =
    absurd (no_numeral (number_text a) 46 110 (46 ∷ (number_text b ++ (p ∷ x))) _ (number_numeral a (first_so _ _ f)) refl refl refl
    (sym (dots (number_text a) (number_text b) (p ∷ x)) ∙ e))
ends_cut Null (Nums c d) x y p q f g h k e =
    absurd (no_numeral (number_text c) 46 110 (46 ∷ (number_text d ++ (q ∷ y))) _ (number_numeral c (first_so _ _ g)) refl refl refl
    (sym (dots (number_text c) (number_text d) (q ∷ y)) ∙ sym e))
ends_cut (Strs a b) Null x y p q f g h k e = absurd (no_n _ a (46 ∷ 46 ∷ (bound_text b ++ (p ∷ x))) (sym e ∙ dots (bytes_text a) (bound_text b) (p ∷ x)))
ends_cut Null (Strs c d) x y p q f g h k e = absurd (no_n _ c (46 ∷ 46 ∷ (bound_text d ++ (q ∷ y))) (e ∙ dots (bytes_text c) (bound_text d) (q ∷ y)))

entry_is : (name after : List ℕ) (s : Span) → (name ++ (codes " " ++ ends_text s)) ++ after ≡ name ++ (32 ∷ (ends_text s ++ after))
entry_is name after s = append_assoc name (32 ∷ ends_text s) after

entry_cut : (a b : Entry) (x y : List ℕ) (p q : ℕ) → Fits a → Fits b → is_stop p ≡ true → is_stop q ≡ true → entry_text a ++ (p ∷ x) ≡ entry_text b ++ (q ∷ y) → (a ≡ b) × (p ∷ x ≡ q ∷ y)
entry_cut (entry m s) (entry n t) x y p q f g h k e =
    let names = name_cut m n (ends_text s ++ (p ∷ x)) (ends_text t ++ (q ∷ y)) 32 32 f.0 g.0 refl refl (sym (entry_is m (p ∷ x) s) ∙ e ∙ entry_is n (q ∷ y) t) in
    let ends = ends_cut s t x y p q f.1 g.1 h k (others_are 32 32 _ _ names.1) in
    (ap₂ entry names.0 ends.0, ends.1)

entry_begins : (a : Entry) (x y : List ℕ) (p q : ℕ) → Fits a → is_stop p ≡ true → is_stop q ≡ true → entry_text a ++ (p ∷ x) ≡ q ∷ y → ⊥
entry_begins (entry m s) x y p q f h k e = name_begins m (32 ∷ (ends_text s ++ (p ∷ x))) y q f.0 k (sym (entry_is m (p ∷ x) s) ∙ e)

entries_are : IsCut Entry entry_text Fits
entries_are = record { same = entry_cut; begins = entry_begins }

-- ---- the entries of a rect

abbrev of_span : List ℕ → Span → List Entry → List Entry
of_span name Full rest = rest
of_span name (Nums lo hi) rest = entry name (Nums lo hi) ∷ rest
of_span name (Strs lo hi) rest = entry name (Strs lo hi) ∷ rest
of_span name Null rest = entry name Null ∷ rest

abbrev entries : List Column → Rect → List Entry
entries [] r = []
entries (c ∷ columns) [] = []
entries (c ∷ columns) (s ∷ r) = of_span c.name s (entries columns r)

span_entry : (c : Column) (s : Span) (rest : List Entry) → span_text c s ++ map entry_text rest ≡ map entry_text (of_span c.name s rest)
span_entry c Full rest = refl
span_entry c (Nums lo hi) rest = refl
span_entry c (Strs lo hi) rest = refl
span_entry c Null rest = refl

entries_text : (columns : List Column) (r : Rect) → spans_text columns r ≡ map entry_text (entries columns r)
entries_text [] r = refl
entries_text (c ∷ columns) [] = refl
entries_text (c ∷ columns) (s ∷ r) = ap (λ z. span_text c s ++ z) (entries_text columns r) ∙ span_entry c s (entries columns r)

signed_between : (low lo hi high : ℤ) → is_signed low ≡ true → is_signed high ≡ true → int_le low lo ≡ true → int_le lo hi ≡ true → int_le hi high ≡ true → (is_signed lo && is_signed hi) ≡ true
signed_between low lo hi high f g a b c = grind (arith, ints)

span_ends : (c : Column) (s : Span) → has_signed_ends c ≡ true → span_fits c s ≡ true → (s ≡ Full → ⊥) → has_ends s ≡ true
span_ends c s f g other = by c.kind s g other
  where
    by : (k : Kind) (s : Span) → fits_kind k c.lo c.hi c.nullable s ≡ true → (s ≡ Full → ⊥) → has_ends s ≡ true
    by k Full g other = absurd (other refl)
    by Numbers (Nums lo hi) g other =
        let ordered = first_so (int_le c.lo lo && int_le lo hi && int_le hi c.hi) _ g in
        let low = first_so (int_le c.lo lo && int_le lo hi) (int_le hi c.hi) ordered in
        signed_between c.lo lo hi c.hi (first_so _ _ f) (second_so (is_signed c.lo) _ f) (first_so (int_le c.lo lo) (int_le lo hi) low) (second_so (int_le c.lo lo) (int_le lo hi) low)
        (second_so (int_le c.lo lo && int_le lo hi) (int_le hi c.hi) ordered)
    by Numbers (Strs lo hi) g other = absurd cc
    by Texts (Nums lo hi) g other = absurd cc
    by Texts (Strs lo hi) g other = refl
    by k Null g other = refl

of_fits : (name : List ℕ) (s : Span) (rest : List Entry) → is_name name ≡ true → ((s ≡ Full → ⊥) → has_ends s ≡ true) → AllByRecursion Fits rest → AllByRecursion Fits (of_span name s rest)
of_fits name Full rest f g h = h
of_fits name (Nums lo hi) rest f g h = ((f, g (λ e. cc)), h)
of_fits name (Strs lo hi) rest f g h = ((f, g (λ e. cc)), h)
of_fits name Null rest f g h = ((f, g (λ e. cc)), h)

entries_fit : (columns : List Column) (r : Rect) → list_all is_name (map (λ (c : Column). c.name) columns) ≡ true → list_all has_signed_ends columns ≡ true → rect_fits columns r ≡ true
    → AllByRecursion Fits (entries columns r)
entries_fit [] r f g h = tt
entries_fit (c ∷ columns) [] f g h = tt
entries_fit (c ∷ columns) (s ∷ r) f g h =
    of_fits c.name s (entries columns r) (first_so _ _ f) (span_ends c s (first_so _ _ g) (first_so _ _ h))
    (entries_fit columns r (second_so (is_name c.name) _ f) (second_so (has_signed_ends c) _ g) (second_so (span_fits c s) _ h))

-- ---- a rect by its entries

foreign_first : (own name : List ℕ) (s t : Span) (found rest : List Entry) → bytes_eq name own ≡ false → (found ≡ entry name t ∷ rest → ⊥) → of_span own s found ≡ entry name t ∷ rest → ⊥
foreign_first own name Full t found rest apart others e = others e
foreign_first own name (Nums lo hi) t found rest apart others e = no_same name own apart (let is : name ≡ own = cc in is)
foreign_first own name (Strs lo hi) t found rest apart others e = no_same name own apart (let is : name ≡ own = cc in is)
foreign_first own name Null t found rest apart others e = no_same name own apart (let is : name ≡ own = cc in is)

foreign : (columns : List Column) (r : Rect) (name : List ℕ) (t : Span) (rest : List Entry) → list_any (bytes_eq name) (map (λ (c : Column). c.name) columns) ≡ false
    → entries columns r ≡ entry name t ∷ rest → ⊥
foreign [] r name t rest none e = cc
foreign (c ∷ columns) [] name t rest none e = cc
foreign (c ∷ columns) (s ∷ r) name t rest none e =
    foreign_first c.name name s t (entries columns r) rest (or_parts _ _ none).0 (foreign columns r name t rest (or_parts (bytes_eq name c.name) _ none).1) e

one_span : (name : List ℕ) (s t : Span) (one other : List Entry) → ((u : Span) (rest : List Entry) → one ≡ entry name u ∷ rest → ⊥) → ((u : Span) (rest : List Entry) → other ≡ entry name u ∷ rest → ⊥)
    → of_span name s one ≡ of_span name t other → (s ≡ t) × (one ≡ other)
one_span name Full Full one other f g e = (refl, e)
one_span name Full (Nums a b) one other f g e = absurd (f (Nums a b) other e)
one_span name Full (Strs a b) one other f g e = absurd (f (Strs a b) other e)
one_span name (Nums a b) Full one other f g e = absurd (g (Nums a b) one (sym e))
one_span name (Strs a b) Full one other f g e = absurd (g (Strs a b) one (sym e))
one_span name (Nums a b) (Nums c d) one other f g e = (let span : Nums a b ≡ Nums c d = cc in span, let rest : one ≡ other = cc in rest)
one_span name (Strs a b) (Strs c d) one other f g e = (let span : Strs a b ≡ Strs c d = cc in span, let rest : one ≡ other = cc in rest)
one_span name (Nums a b) (Strs c d) one other f g e = absurd cc
one_span name (Strs a b) (Nums c d) one other f g e = absurd cc
one_span name Full Null one other f g e = absurd (f Null other e)
one_span name Null Full one other f g e = absurd (g Null one (sym e))
one_span name (Nums a b) Null one other f g e = absurd cc
one_span name Null (Nums c d) one other f g e = absurd cc
one_span name (Strs a b) Null one other f g e = absurd cc
one_span name Null (Strs c d) one other f g e = absurd cc
one_span name Null Null one other f g e = (refl, let rest : one ≡ other = cc in rest)

same_rect : (columns : List Column) (r q : Rect) → are_different (map (λ (c : Column). c.name) columns) ≡ true → rect_fits columns r ≡ true → rect_fits columns q ≡ true
    → entries columns r ≡ entries columns q → r ≡ q
same_rect [] [] [] apart f g e = refl
same_rect [] (s ∷ r) q apart f g e = absurd cc
same_rect [] [] (t ∷ q) apart f g e = absurd cc
same_rect (c ∷ columns) [] q apart f g e = absurd cc
same_rect (c ∷ columns) (s ∷ r) [] apart f g e = absurd cc
same_rect (c ∷ columns) (s ∷ r) (t ∷ q) apart f g e =
    let none = not-true (list_any (bytes_eq c.name) (map (λ (c : Column). c.name) columns)) (first_so _ _ apart) in
    let front = one_span c.name s t (entries columns r) (entries columns q) (λ u rest. foreign columns r c.name u rest none) (λ u rest. foreign columns q c.name u rest none) e in
    let rest = same_rect columns r q (second_so _ _ apart) (second_so (span_fits c s) _ f) (second_so (span_fits c t) _ g) front.1 in
    ap₂ (λ z zs. z ∷ zs) front.0 rest

-- ---- the text of a rect

-- columns with names, no two the same, and ends that an i64 holds
pub record AreColumns (columns : List Column) : Type 0 where
  pub named : list_all is_name (map (λ (c : Column). c.name) columns) ≡ true
  pub apart : are_different (map (λ (c : Column). c.name) columns) ≡ true
  pub ends : list_all has_signed_ends columns ≡ true

rect_is : (columns : List Column) (r : Rect) (after : List ℕ) → rect_text columns r ++ after ≡ 123 ∷ (joined (codes ", ") (map entry_text (entries columns r)) ++ (125 ∷ after))
rect_is columns r after =
    ap (λ z. 123 ∷ z) (append_assoc (joined (codes ", ") (spans_text columns r)) (125 ∷ []) after
    ∙ ap (λ z. joined (codes ", ") z ++ (125 ∷ after)) (entries_text columns r))

rect_cut : (columns : List Column) → AreColumns columns → (r q : Rect) (x y : List ℕ) → rect_fits columns r ≡ true → rect_fits columns q ≡ true
    → rect_text columns r ++ x ≡ rect_text columns q ++ y → (r ≡ q) × (x ≡ y)
rect_cut columns are r q x y f g e =
    let texts = sym (rect_is columns r x) ∙ e ∙ rect_is columns q y in
    let lists = list_cut Entry entry_text Fits entries_are 44 (32 ∷ []) 125 (record { stops = refl; ends = refl; differ = λ e. cc })
    (entries columns r) (entries columns q) x y (entries_fit columns r are.named are.ends f) (entries_fit columns q are.named are.ends g) (others_are 123 123 _ _ texts) in
    (same_rect columns r q are.apart f g lists.0, lists.1)

no_brace : (x y : List ℕ) (q : ℕ) → is_stop q ≡ true → 123 ∷ x ≡ q ∷ y → ⊥
no_brace x y q t e = no q (first_is 123 q x y e) t
  where
    no : (q : ℕ) → 123 ≡ q → is_stop q ≡ true → ⊥
    no q is t = let bad : is_stop 123 ≡ true = subst (λ z. is_stop z ≡ true) (sym is) t in cc

rects_are : (columns : List Column) → AreColumns columns → IsCut Rect (rect_text columns) (λ r. rect_fits columns r ≡ true)
rects_are columns are = record {
  same = λ r q x y p s f g h k e. rect_cut columns are r q (p ∷ x) (s ∷ y) f g e;
  begins = λ r x y p q f h k e. no_brace (joined (codes ", ") (map entry_text (entries columns r)) ++ (125 ∷ p ∷ x)) y q k (sym (rect_is columns r (p ∷ x)) ∙ e);
}

all_fit : (columns : List Column) (rects : List Rect) → list_all (rect_fits columns) rects ≡ true → AllByRecursion (λ r. rect_fits columns r ≡ true) rects
all_fit columns [] h = tt
all_fit columns (r ∷ rects) h = (first_so _ _ h, all_fit columns rects (second_so (rect_fits columns r) _ h))

pub rects_cut : (columns : List Column) → AreColumns columns → (one other : List Rect) (x y : List ℕ) → list_all (rect_fits columns) one ≡ true → list_all (rect_fits columns) other ≡ true
    → rects_text columns one ++ (10 ∷ x) ≡ rects_text columns other ++ (10 ∷ y) → (one ≡ other) × (x ≡ y)
rects_cut columns are one other x y f g e =
    list_cut Rect (rect_text columns) (λ r. rect_fits columns r ≡ true) (rects_are columns are) 32 [] 10 (record { stops = refl; ends = refl; differ = λ e. cc })
    one other x y (all_fit columns one f) (all_fit columns other g) e
