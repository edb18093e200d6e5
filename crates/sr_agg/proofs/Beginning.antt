-- What a text begins, when its parts are judged.
use Rattle.std.proofs.Common.{◌≡◌, ℕ, List, [], ◌∷◌, map, refl, sym, ap, subst, ◌∙◌}
use Rattle.std.specs.Prelude.{Result, Ok, Err, IfOk, IsErrOf}
use Rattle.std.specs.List.{AllZip}
use Rattle.sr_cell.specs.declared.fault.Fault.{Fault}
use Rattle.sr_cell.specs.declared.list.No.{No}
use Rattle.sr_cell.specs.declared.list.No.TheVariants.{Refused, NoMemory}
use Rattle.sr_cell.specs.declared.table.Table.{Table}
use Rattle.sr_grammar.specs.Says.{Says}
use Rattle.sr_grammar.specs.Trees.{Statement}
use Rattle.sr_model.specs.Queries as model
use Rattle.sr_query.specs.declared.query.Part.{Part}
use Rattle.sr_query.specs.declared.query.Query.{Query}
use Rattle.sr_query.specs.Binding.{bound_query}
use Rattle.sr_query.specs.Bound.{IsPart, IsQuery, output_of}
use Rattle.sr_agg.specs.declared.agg.AggFault.{AggFault}
use Rattle.sr_agg.specs.declared.agg.AggFault.TheVariants.{Sql}
use Rattle.sr_agg.specs.declared.inner.Listing.{Listing}
use Rattle.sr_agg.specs.declared.statement.Aggregate.{Aggregate}
use Rattle.sr_agg.specs.Statement.{outer}
use Rattle.sr_agg.specs.Inner.{group_count, inner_text, listed}
use Rattle.sr_agg.specs.Seen.{no_of, scope_with, IsAsked, IsUnasked, Judges}
use Rattle.sr_agg.specs.Starting.{Plan, Scope, Starts, asked_by, behind_query, planned, scope_of}

pub query-refused : (schema : List Table) (text : List ℕ) (a : Aggregate) (said : Result Statement Fault) (fault : Fault) → outer text ≡ Ok a → Says (inner_text schema text a) said → asked_by schema said ≡ Err fault
    → Starts schema text (Err (Sql fault))
query-refused schema text a said fault e says asked = rw e (said, says, sym (ap (behind_query schema text a) asked))

pub query-asked : (schema : List Table) (text : List ℕ) (a : Aggregate) (said : Result Statement Fault) (m : model.Query) (scope : Scope) (start : Result Plan AggFault) → outer text ≡ Ok a
    → Says (inner_text schema text a) said → asked_by schema said ≡ Ok m → scope ≡ scope_of a m → planned schema scope a.items (inner_text schema text a) ≡ start → Starts schema text start
query-asked schema text a said m scope start e says asked is made =
    rw e (said, says, sym made ∙ (ap (λ z. planned schema z a.items (inner_text schema text a)) is ∙ sym (ap (behind_query schema text a) asked)))

tables-same : (schema : List Table) (ps : List Part) (ms : List model.Part) → AllZip (IsPart schema) ps ms → map (λ (p : Part). p.table) ps ≡ map (λ (p : model.Part). p.table) ms
tables-same schema [] [] h = refl
tables-same schema [] (m ∷ ms) h = absurd h
tables-same schema (p ∷ ps) [] h = absurd h
tables-same schema (p ∷ ps) (m ∷ ms) h = let a = h.0.table in let b = tables-same schema ps ms h.1 in rw (a, b) refl

-- the names of an aggregate go by what the code knows of its query
pub scope-same : (schema : List Table) (a : Aggregate) (q : Query) (m : model.Query) (texts : List (List ℕ)) (groups : ℕ) → IsQuery schema q m → texts ≡ listed a → groups ≡ group_count a
    → record { texts = texts; groups = groups; outputs = map output_of q.output; tables = map (λ (p : Part). p.table) q.parts } ≡ scope_of a m
scope-same schema a q m texts groups is t g =
    let o = is.outputs in
    let p = tables-same schema q.parts m.parts is.parts in
    rw (t, g, o, p) refl

-- what is asked by the statement that a text says
pub asked-found : (schema : List Table) (text : List ℕ) (s : Statement) (r : Result Query (No Fault)) → Says text (Ok s) → IfOk r (λ q. (m : model.Query) × (bound_query schema s ≡ Ok m) × IsQuery schema q m)
    → IfOk r (IsAsked schema text)
asked-found schema text s (Ok q) says h = (Ok s, says, h.0, h.1, h.2)
asked-found schema text s (Err wanting) says h = tt

-- the refusal of a query
pub refused-by : (schema : List Table) (text : List ℕ) (a : Aggregate) (inner : List ℕ) (n : No Fault) (m : No AggFault) → outer text ≡ Ok a → inner ≡ inner_text schema text a
    → ((fault : Fault) → IsErrOf {T = Query} (Err n) (Refused fault) → IsUnasked schema inner fault) → m ≡ no_of n
    → (fault : AggFault) → IsErrOf {T = Plan} (Err m) (Refused fault) → Starts schema text (Err fault)
refused-by schema text a inner (Refused f) m e is h k fault l =
    let same : Sql f ≡ fault = cc in
    let g = h f refl in
    subst (λ z. Starts schema text (Err z)) same (query-refused schema text a g.0 f e (subst (λ z. Says z g.0) is g.1) g.2)
refused-by schema text a inner NoMemory m e is h k fault l = absurd cc

-- the judgement of an aggregate whose query is bound
pub judged-by : (schema : List Table) (text : List ℕ) (a : Aggregate) (inner : List ℕ) (q : Query) (l : Listing) (start : Result Plan AggFault) → outer text ≡ Ok a → inner ≡ inner_text schema text a
    → IsAsked schema inner q → l.texts ≡ listed a → l.groups ≡ group_count a → planned schema (scope_with q l) a.items inner ≡ start → Starts schema text start
judged-by schema text a inner q l start e is h t g made =
    query-asked schema text a h.0 h.2 (scope_with q l) start e (subst (λ z. Says z h.0) is h.1) h.3 (scope-same schema a q h.2 l.texts l.groups h.4 t g)
    (ap (planned schema (scope_with q l) a.items) (sym is) ∙ made)

pub begun-by : (schema : List Table) (text : List ℕ) (a : Aggregate) (inner : List ℕ) (q : Query) (l : Listing) (r : Result Plan (No AggFault)) → outer text ≡ Ok a → inner ≡ inner_text schema text a
    → IsAsked schema inner q → l.texts ≡ listed a → l.groups ≡ group_count a → Judges r (planned schema (scope_with q l) a.items inner) → IfOk r (λ p. Starts schema text (Ok p))
begun-by schema text a inner q l (Ok p) e is h t g made = judged-by schema text a inner q l (Ok p) e is h t g made
begun-by schema text a inner q l (Err wanting) e is h t g made = tt

pub ended-by : (schema : List Table) (text : List ℕ) (a : Aggregate) (inner : List ℕ) (q : Query) (l : Listing) (r : Result Plan (No AggFault)) → outer text ≡ Ok a → inner ≡ inner_text schema text a
    → IsAsked schema inner q → l.texts ≡ listed a → l.groups ≡ group_count a → Judges r (planned schema (scope_with q l) a.items inner)
    → (fault : AggFault) → IsErrOf r (Refused fault) → Starts schema text (Err fault)
ended-by schema text a inner q l (Ok p) e is h t g made fault k = absurd cc
ended-by schema text a inner q l (Err (Refused f)) e is h t g made fault k =
    let same : f ≡ fault = cc in
    subst (λ z. Starts schema text (Err z)) same (judged-by schema text a inner q l (Err f) e is h t g made)
ended-by schema text a inner q l (Err NoMemory) e is h t g made fault k = absurd cc
