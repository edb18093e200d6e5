-- A client that has given all up stands for some past.
use Rattle.std.proofs.Common.{◌≡◌, ℕ, ◌+◌, zero, suc, false, List, [], ◌∷◌, length, refl, ap, arith, ◌∙◌}
use Rattle.std.specs.Prelude.{fold, if◌then◌else◌}
use Rattle.std.proofs.lemmas.List.Elements.{All-nil}
use Rattle.sr_cell.specs.declared.table.Table.{Table}
use Rattle.sr_model.specs.Queries.{Query, Part}
use Rattle.sr_history.specs.Classes.{Numbered, stamp}
use Rattle.sr_history.specs.Marks.{is_held}
use Rattle.sr_store.specs.Classes.{Keeps}
use Rattle.sr_store.specs.Stores.{IsStore}
use Rattle.sr_store.proofs.Fewer.{none_store, none_settled}
use Rattle.sr_session.specs.Clients.{from_query}
use Rattle.sr_client.specs.declared.client.Client.{Client}
use Rattle.sr_client.specs.Stands.{Hidden, Facts, Stands, Stays, KeepsNumbers, HaveShortEnds, given_up, cuts_down}
use Rattle.sr_client.proofs.CountLemmas.{counted-none}
use Rattle.std.specs.List.{list_all}
use Rattle.sr_query.specs.Bound.{is_table}
use Rattle.std.proofs.Common.{true, subst, sym}
use Rattle.sr_history.specs.Victims.{AreLast}

abbrev no_query : Query
no_query = record { parts = []; joins = []; outputs = [] }

-- so many queries, of which nothing is known
abbrev blank : ℕ → List Numbered
blank zero = []
blank (suc n) = record { query = no_query; answered = false } ∷ blank n

blank-length : (n : ℕ) → length (blank n) ≡ n
blank-length zero = refl
blank-length (suc n) = ap (λ k. suc k) (blank-length n)

blank-last : (n : ℕ) (parts : List Part) → fold (λ parts (q : Numbered). if q.answered then q.query.parts else parts) parts (blank n) ≡ parts
blank-last zero parts = refl
blank-last (suc n) parts = blank-last n parts

abbrev nothing_known : ℕ → Hidden
nothing_known n = record { marks = []; queries = blank n; counted_from = from_query (length (blank n) + 1); meaning = no_query }

nothing-kept : (schema : List Table) (queries : List Numbered) → Keeps schema (is_held []) (stamp queries) []
nothing-kept schema queries = record { points = λ t a p point. refl; stamped = All-nil _ }

given-facts : (old : Client) (h : Hidden) (c : Client) (cuts : ℕ) → Facts old h → c.schema ≡ old.schema → Facts (given_up c cuts) (nothing_known c.queries)
given-facts old h c cuts f same = record {
  tables = subst (λ s. list_all is_table s ≡ true) (sym same) f.tables;
  tidy = refl;
  down = λ down. refl;
  meant = tt;
  fit = tt;
  store = none_store c.schema old.store.regions (subst (λ s. IsStore s old.store.regions) (sym same) f.store);
  settled = λ is. none_settled c.schema;
  keeps = nothing-kept c.schema (blank c.queries);
  queries = blank-length c.queries;
  last = subst (λ ps. AreLast c.schema ps []) (sym (blank-last c.queries [])) refl;
  rows = omega arith;
  few = omega arith;
  from = omega arith;
  short = subst HaveShortEnds (sym (counted-none (length (blank c.queries)) (blank c.queries) (omega arith))) (λ t k. refl);
  ends = All-nil _;
}

-- after a call that failed, of a client of the same schema
pub given-stands : (old c : Client) (cuts : ℕ) → Stands old → c.schema ≡ old.schema → Stands (given_up c cuts)
given-stands old c cuts stands same = (nothing_known c.queries, given-facts old stands.0 c cuts stands.1 same)

-- after a call that failed all that is left is what would have been left before it
pub given-same : (old c new : Client) → new ≡ given_up c new.cuts → new.cuts ≡ cuts_down c → Stays old c → KeepsNumbers old c → c.cuts ≡ old.cuts
    → new ≡ given_up old (cuts_down old)
given-same old c new given counted stays numbers cuts =
    let same : given_up c (cuts_down c) ≡ given_up old (cuts_down old) =
    rw (stays.id, stays.schema, stays.limits, numbers.version, numbers.queries, numbers.next_request, numbers.cut, cuts) refl in
    given ∙ (ap (given_up c) counted ∙ same)
