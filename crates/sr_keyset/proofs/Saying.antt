-- What texts say and ask, by what each text says.
use Rattle.std.proofs.Common.{◌≡◌, ℕ, Bool, true, List, Some, None, inl, inr, refl, sym, ap, ◌∙◌, if◌then◌else◌}
use Rattle.std.specs.Prelude.{◌==◌, ◌&&◌, false, length, Result, Ok, Err}
use Rattle.std.proofs.lemmas.Bool.{eqb-true}
use Rattle.sr_cell.specs.declared.fault.Fault.{Fault}
use Rattle.sr_cell.specs.declared.table.Table.{Table}
use Rattle.sr_grammar.specs.Says.{Says}
use Rattle.sr_grammar.specs.Trees.{Statement}
use Rattle.sr_grammar_laws.proofs.OneSaying.{each_says_one}
use Rattle.sr_keyset.specs.Plans.{AreSaid, Said, asked_by, sides_by, sides_if}
use Rattle.sr_lines.specs.Script.{AsksOf}
use Rattle.sr_model.specs.Queries.{Query}
use Rattle.sr_query.specs.Binding.{bound_query}
use Rattle.sr_semi.specs.declared.fault.SemiFault.{SemiFault}
use Rattle.sr_semi.specs.declared.fault.SemiFault.TheVariants.{Sql, NotTwo, Unread}
use Rattle.sr_semi.specs.declared.semi.Semi.{Semi}
use Rattle.sr_semi.specs.Going.{is_read}
use Rattle.sr_semi.specs.Seen.{sides_in}
use Rattle.sr_semi.specs.Sides.{Sides, sides_of}
use Rattle.sr_semi.specs.Starting.{AreSides, IsBegun, IsNotTwo, IsRefused, IsUnread}
use Rattle.sr_semi.proofs.Looking.{unsaid_is_unread}

-- a choice of which both parts must hold
both-true : {A : Type 0} (b c : Bool) (x : A) → b ≡ true → (if b && c then Some x else None) ≡ (if c then Some x else None)
both-true true c x is = refl
both-true false c x is = absurd cc

first-false : {A : Type 0} (b c : Bool) (x : A) → b ≡ false → (if b && c then Some x else None) ≡ None
first-false true c x is = absurd cc
first-false false c x is = refl

-- a number that is two, or is not
is-two : (n : ℕ) → n ≡ 2 → (n == 2) ≡ true
is-two n is = ap (λ m. m == 2) is

not-two : (n : ℕ) (b : Bool) → (n ≡ 2 → ⊥) → (n == 2) ≡ b → b ≡ false
not-two n true other is = absurd (other (eqb-true n 2 is))
not-two n false other is = refl

module _ (schema : List Table) (said : Said) (says : AreSaid said) where
  -- what a text says is what it says
  pub said-is : (text : List ℕ) (r : Result Statement Fault) → Says text r → said text ≡ r
  said-is text r h = each_says_one text (said text) r (says text) h

  pub asked-is : (text : List ℕ) (query : Result Query Fault) → AsksOf schema text query → query ≡ asked_by schema (said text)
  asked-is text (Ok q) (s, h, bound) = sym (ap (asked_by schema) (said-is text (Ok s) h) ∙ bound)
  asked-is text (Err fault) (inl h) = sym (ap (asked_by schema) (said-is text (Err fault) h))
  asked-is text (Err fault) (inr (s, h, bound)) = sym (ap (asked_by schema) (said-is text (Ok s) h) ∙ bound)

  -- ---- sides

  -- the sides of a text that asks this query
  sides-by : (text : List ℕ) (s : Statement) (query : Result Query Fault) → Says text (Ok s) → bound_query schema s ≡ query → sides_if schema (said text) ≡ sides_by schema s query
  sides-by text s query h bound = ap (sides_if schema) (said-is text (Ok s) h) ∙ ap (sides_by schema s) bound

  sides-two : (text : List ℕ) (sides : Sides) (read : Bool) → AreSides schema text sides → is_read sides.left.text ≡ read → sides_if schema (said text) ≡ (if read then Some sides else None)
  sides-two text sides read (s, q, are) is =
      sides-by text s (Ok q) are.asks.says are.asks.bound
      ∙ (both-true (length q.parts == 2) (is_read (sides_of schema s q).left.text) (sides_of schema s q) (is-two (length q.parts) are.two)
      ∙ (ap (λ (x : Sides). if is_read x.left.text then Some x else None) (sym are.sides_are)
      ∙ ap (λ b. if b then Some sides else None) is))

  pub sides-begun : (text : List ℕ) (semi : Semi) → IsBegun schema text semi → sides_if schema (said text) ≡ Some (sides_in semi)
  sides-begun text semi begun = sides-two text (sides_in semi) true begun.sides begun.read

  -- ---- none

  none-refused : (text : List ℕ) (fault : Fault) → IsRefused schema text fault → sides_if schema (said text) ≡ None
  none-refused text fault (inl h) = ap (sides_if schema) (said-is text (Err fault) h)
  none-refused text fault (inr (s, h, bound)) = sides-by text s (Err fault) h bound

  none-other : (text : List ℕ) (tables : ℕ) → IsNotTwo schema text tables → sides_if schema (said text) ≡ None
  none-other text tables (s, q, asks, count, other) =
      sides-by text s (Ok q) asks.says asks.bound
      ∙ first-false (length q.parts == 2) (is_read (sides_of schema s q).left.text) (sides_of schema s q) (not-two (length q.parts) (length q.parts == 2) (λ two. other (count ∙ two)) refl)

  none-unread : (text : List ℕ) (fault : Fault) → IsUnread schema text fault → sides_if schema (said text) ≡ None
  none-unread text fault (sides, are, h) = sides-two text sides false are (unsaid_is_unread sides.left.text fault h)

  -- whatever a start is refused for
  pub sides-none : (text : List ℕ) (fault : SemiFault) → ((f : Fault) → fault ≡ Sql f → IsRefused schema text f) → ((n : ℕ) → fault ≡ NotTwo n → IsNotTwo schema text n) → ((f : Fault) → fault ≡ Unread f → IsUnread schema text f)
      → sides_if schema (said text) ≡ None
  sides-none text (Sql f) sql two unread = none-refused text f (sql f refl)
  sides-none text (NotTwo n) sql two unread = none-other text n (two n refl)
  sides-none text (Unread f) sql two unread = none-unread text f (unread f refl)
