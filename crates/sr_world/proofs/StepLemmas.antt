-- Steps of a world: an event of a script, and the deliveries behind it.
use Rattle.std.proofs.Common.{append-nil, ◌≡◌, ℕ, suc, ◌+◌, ◌-◌, ◌≤◌, Bool, true, false, List, [], ◌∷◌, ◌++◌, length, refl, sym, ◌∙◌, ap, subst, arith, inl, inr, Some, Result, Ok, Err}
use Rattle.std.specs.Prelude.{IfOk, OnOk}
use Rattle.sr_cell.specs.declared.fault.Fault.{Fault}
use Rattle.sr_cell.specs.declared.table.Table.{Table}
use Rattle.sr_model.specs.Queries as model
use Rattle.sr_query.specs.declared.query.Query.{Query}
use Rattle.sr_query.specs.declared.write.Write.{Write}
use Rattle.sr_reader.specs.Read.{Means, statement_of}
use Rattle.sr_script.specs.declared.line.TraceLine.{TraceLine}
use Rattle.sr_script.specs.declared.line.TraceLine.TheVariants as line
use Rattle.sr_lines.specs.Events.{DoExec, DoExplain, DoQuery, DoSettle, ScriptEvent}
use Rattle.sr_session.specs.Rules.{QueryRefused, query_refused}
use Rattle.sr_session.specs.Clients.{Pair}
use Rattle.sr_session.specs.Scenes.{Did, Exec, NotExecuted, QueryOf, Scene, acted, not_executed, pair_at, queried, with_pair}
use Rattle.sr_client.specs.Bound.{IsMeaning}
use Rattle.sr_explain.specs.Explained.{refused}
use Rattle.sr_runs.specs.Runs.{Acts, AllSettle, Does, Settles, Steps, acts, alone, does, does_settle, eagerly, explains}
use Rattle.sr_runs.specs.Scripts.{is_exec, is_query}
use Rattle.sr_world.specs.declared.world.World.{World}
use Rattle.sr_world.specs.Worlds.{Goes, IsNumber, IsWorld, Represents, StandsForSome, drawn, potential}
use Rattle.sr_world.proofs.SeatLemmas.{put-same}
use Rattle.sr_world.proofs.WorldLemmas.{potential-within, there-is}

-- ---- numbers

-- after an event that draws at most two numbers
pub potential-after : {E : Type 0} (Leads : Scene → List TraceLine → Scene → Type 0) (old new : World) (r : Result (List TraceLine) E) → StandsForSome old → IfOk r (Goes Leads old new) → OnOk r (drawn new ≤ drawn old + 2)
    → OnOk r (potential new + 2 ≤ drawn old + 256)
potential-after {E} Leads old new (Ok lines) some goes few =
    let x = goes some.0 some.1 in omega (arith, few, potential-within new x.0 x.2)
potential-after {E} Leads old new (Err e) some goes few = tt

-- an event that changes nothing draws nothing
pub looked-draws : {T E : Type 0} (w : World) (r : Result T E) → OnOk r (drawn w ≤ drawn w + 2)
looked-draws {T} {E} w (Ok x) = omega arith
looked-draws {T} {E} w (Err e) = tt

pub potential-light : {T E : Type 0} (old new : World) (r : Result T E) → StandsForSome old → OnOk r (potential new ≤ potential old) → OnOk r (potential new + 2 ≤ drawn old + 256)
potential-light {T} {E} old new (Ok x) some light = omega (arith, light, potential-within old some.0 some.1)
potential-light {T} {E} old new (Err e) some light = tt

-- ---- events

pub acts-does : {E : Type 0} (old new : World) (what real : ScriptEvent) (r : Result (List TraceLine) E) → what ≡ real → IfOk r (Goes (λ s. Acts s real) old new) → IfOk r (Goes (λ s. Does s what) old new)
acts-does {E} old new what real (Ok lines) is goes = λ s r.
    let x = goes s r in
    (x.0, subst (λ e. Does s e lines x.0) (sym is) (does real lines x.0 x.1), x.2)
acts-does {E} old new what real (Err e) is goes = tt

pub exec-text : (w : World) (fault : Fault) → Goes (λ s. Acts s (DoExec (Err fault))) w w (line.ExecRefused fault ∷ [])
exec-text w fault = λ s r. (s, acts (DoExec (Err fault)) (Exec (Err fault)) (NotExecuted fault) s (is_exec (Err fault)) (not_executed fault), r)

-- there is the client of that number
client-there : (w : World) (s : Scene) (n : ℕ) → Represents w s → IsNumber w n → (p : Pair) × (pair_at s n ≡ Some p)
client-there w s n r number =
    let found = there-is s.pairs (n - 1) (let count = r.count in omega (arith, count, number.0, number.1)) in
    let place : n ≡ suc (n - 1) = omega (arith, number.0) in
    (found.0, subst (λ k. pair_at s k ≡ Some found.0) (sym place) found.1)

pub query-text : (w : World) (n : ℕ) (fault : Fault) → IsNumber w n → Goes (λ s. Acts s (DoQuery n (Err fault))) w w (line.QuerySql n fault ∷ [])
query-text w n fault number = λ s r. by s r (client-there w s n r number)
  where
    by : (s : Scene) → Represents w s → (p : Pair) × (pair_at s n ≡ Some p) → (next : Scene) × Acts s (DoQuery n (Err fault)) (line.QuerySql n fault ∷ []) next × Represents w next
    by s r found =
        let still : with_pair s n (acted found.0.client found.0.connection (QueryRefused fault)) ≡ s =
        ap (λ ms. with_pair s n (record { client = found.0.client; connection = record found.0.connection { to_server = ms } })) (append-nil found.0.connection.to_server) ∙ put-same s n found.0 found.1 in (
          s,
          subst (λ x. Acts s (DoQuery n (Err fault)) (line.QuerySql n fault ∷ []) x) still
              (acts (DoQuery n (Err fault)) (QueryOf n (Err fault)) (Did (QueryRefused fault)) _ (is_query n (Err fault)) (queried n (Err fault) found.0 (QueryRefused fault) found.0.client found.1 (query_refused fault))),
          r,
        )

pub explain-text : (w : World) (n : ℕ) (fault : Fault) → IsNumber w n → Goes (λ s. Acts s (DoExplain n (Err fault))) w w (line.ExplainSql n fault ∷ [])
explain-text w n fault number = λ s r.
    let found = client-there w s n r number in
    (s, explains n (Err fault) (line.ExplainSql n fault ∷ []) (found.0, found.1, Err fault, refused fault, refl), r)

-- ---- queries that are bound

meant : (tables : List Table) (query : Result Query Fault) (q : Query) (meaning : Result model.Query Fault) → query ≡ Ok q → Means tables query meaning → (m : model.Query) × IsMeaning tables q m × (meaning ≡ Ok m)
meant tables query q meaning is means = by meaning (subst (λ r. Means tables r meaning) is means)
  where
    by : (meaning : Result model.Query Fault) → Means tables (Ok q) meaning → (m : model.Query) × IsMeaning tables q m × (meaning ≡ Ok m)
    by (Ok m) means = (m, record { query = means.0; joined = means.1; few = means.2; sound = means.3; own = means.4 }, refl)
    by (Err e) means = absurd means

-- it can be asked of the world
pub asks : (tables : List Table) (query : Result Query Fault) (q : Query) → query ≡ Ok q → (meaning : Result model.Query Fault) × Means tables query meaning → (m : model.Query) × IsMeaning tables q m
asks tables query q asked means = let m = meant tables query q means.0 asked means.1 in (m.0, m.1)

-- an event of a query, by what the query means
pub asks-query : {E : Type 0} (What : Result model.Query Fault → ScriptEvent) (tables : List Table) (query : Result Query Fault) (w new : World) (q : Query) (meaning : Result model.Query Fault) (r : Result (List TraceLine) E) → query ≡ Ok q
    → Means tables query meaning → ((m : model.Query) → IsMeaning tables q m → IfOk r (Goes (λ s. Acts s (What (Ok m))) w new)) → IfOk r (Goes (λ s. Acts s (What meaning)) w new)
asks-query {E} What tables query w new q meaning r asked means goes =
    let m = meant tables query q meaning asked means in
    subst (λ e. IfOk r (Goes (λ s. Acts s (What e)) w new)) (sym m.2) (goes m.0 m.1)

pub refuses-query : {E : Type 0} (What : Result model.Query Fault → ScriptEvent) (tables : List Table) (w : World) (query : Result Query Fault) (meaning : Result model.Query Fault) (fault : Fault) (l : TraceLine) (r : Result (List TraceLine) E)
    → query ≡ Err fault → Means tables query meaning → Goes (λ s. Acts s (What (Err fault))) w w (l ∷ []) → IfOk r (λ lines. lines ≡ l ∷ []) → IfOk r (Goes (λ s. Acts s (What meaning)) w w)
refuses-query {E} What tables w query meaning fault l (Err e) is means goes told = tt
refuses-query {E} What tables w query meaning fault l (Ok lines) is means goes told = by meaning (subst (λ q. Means tables q meaning) is means)
  where
    by : (meaning : Result model.Query Fault) → Means tables (Err fault) meaning → Goes (λ s. Acts s (What meaning)) w w lines
    by (Ok m) means = absurd means
    by (Err same) means =
        subst (λ e. Goes (λ s. Acts s (What (Err e))) w w lines) means
        (subst (Goes (λ s. Acts s (What (Err fault))) w w) (sym told) goes)

pub refuses-exec : {E : Type 0} (w : World) (statement : Result Write Fault) (fault : Fault) (r : Result (List TraceLine) E) → statement ≡ Err fault → IfOk r (λ lines. lines ≡ line.ExecRefused fault ∷ [])
    → IfOk r (Goes (λ s. Acts s (DoExec (statement_of statement))) w w)
refuses-exec {E} w statement fault (Err e) is told = tt
refuses-exec {E} w statement fault (Ok lines) is told =
    subst (λ x. Goes (λ s. Acts s (DoExec (statement_of x))) w w lines) (sym is) (subst (Goes (λ s. Acts s (DoExec (Err fault))) w w) (sym told) (exec-text w fault))

-- ---- a settle

pub settled-goes : (old new : World) (n frames : ℕ) (lines : List TraceLine) → Goes (λ s. Settles n s frames) old new lines → Goes (λ s. Does s (DoSettle n)) old new (lines ++ line.Settled n frames ∷ [])
settled-goes old new n frames lines goes = λ s r. let x = goes s r in (x.0, does_settle n frames lines x.0 x.1, x.2)

-- ---- steps

pub alone-goes : (eager : Bool) (old new : World) (what : ScriptEvent) (lines : List TraceLine) → eager ≡ false → Goes (λ s. Does s what) old new lines → Goes (λ s. Steps eager s what) old new lines
alone-goes eager old new what lines is goes = λ s r.
    let x = goes s r in (x.0, subst (λ b. Steps b s what lines x.0) (sym is) (alone s what lines x.0 x.1), x.2)

pub eager-goes : (eager : Bool) (old mid new : World) (what : ScriptEvent) (lines more : List TraceLine) → eager ≡ true → Goes (λ s. Does s what) old mid lines → Goes (AllSettle 1 (length mid.seats.items)) mid new more
    → Goes (λ s. Steps eager s what) old new (lines ++ more)
eager-goes eager old mid new what lines more is goes settles = λ s r.
    let x = goes s r in
    let y = settles x.0 x.2 in (
      y.0,
      subst (λ b. Steps b s what (lines ++ more) y.0) (sym is) (eagerly s what lines x.0 more y.0 x.1 (subst (λ k. AllSettle 1 k x.0 more y.0) x.2.count y.1)),
      y.2,
    )

-- a world that did something stands for what came of it, or memory was refused
pub world-after : (Leads : Scene → List TraceLine → Scene → Type 0) (old new : World) (lines : List TraceLine) → StandsForSome old → Goes Leads old new lines → IsWorld new
world-after Leads old new lines some goes = let x = goes some.0 some.1 in inr (x.0, x.2)

-- a world that goes on stands for some scene
pub stands-on : (w : World) → w.spent ≡ false → IsWorld w → StandsForSome w
stands-on w ready (inl spent) = absurd (let wrong : true ≡ false = sym spent ∙ ready in cc)
stands-on w ready (inr some) = some
