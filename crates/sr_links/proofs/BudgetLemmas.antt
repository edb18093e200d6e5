-- A client that keeps to its budgets does so after each step by the rules.
use Rattle.std.proofs.Common.{◌≡◌, ◌≤◌, [], sym, subst}
use Rattle.sr_policy.specs.declared.policy.Limits.{Limits}
use Rattle.sr_history.specs.Classes.{AreClasses}
use Rattle.sr_history.specs.Kept.{kept}
use Rattle.sr_session.specs.Bases.{basis_of}
use Rattle.sr_session.specs.Clients.{Client}
use Rattle.sr_session.specs.Headline.{KeepsToBudgets}
use Rattle.sr_session.specs.Laws.{HasTables}
use Rattle.sr_session.specs.Rules.{Outcome}
use Rattle.sr_session.specs.Sessions.{Database, newest, tables_of}
use Rattle.sr_session.proofs.BudgetLemmas.{IsCount, is-count, query-keeps, write-keeps, evict-keeps, take-keeps, cut-keeps, resume-keeps}
use Rattle.sr_links.specs.Steps.{Deed, Queried, Wrote, Evicted, Took, WasCut, Resumed, too_long, writes, Does}
use Rattle.sr_links.proofs.DatabaseLemmas.{Grows}

module _ (limits : Limits) where
  -- by the rows of the client's version alone
  keeps-by : (few many : Database) (c : Client) → few.schema ≡ many.schema → tables_of few c.version ≡ tables_of many c.version → KeepsToBudgets (basis_of few limits) c → KeepsToBudgets (basis_of many limits) c
  keeps-by few many c schema rows h = record {
    rows = subst (λ tables. kept tables c.marks ≤ limits.rows) rows h.rows;
    classes = h.classes;
    are = subst (λ own. AreClasses own c.marks c.queries h.classes) schema h.are;
    few = h.few;
  }

  -- where there are more versions
  pub keeps-later : (few many : Database) → Grows few many → (c : Client) → c.version ≤ newest few → KeepsToBudgets (basis_of few limits) c → KeepsToBudgets (basis_of many limits) c
  keeps-later few many grows c below h = keeps-by few many c (sym grows.schema) (sym (grows.same c.version below)) h

  module _ (db : Database) (tables : HasTables db) where
    counts : IsCount (basis_of db limits) (newest db)
    counts = is-count (record { database = db; limits = limits; pairs = [] }) tables

    does-keeps : (deed : Deed) (c : Client) (o : Outcome) (new : Client) → c.version ≤ newest db → new.version ≤ newest db → KeepsToBudgets (basis_of db limits) c → Does (basis_of db limits) deed c o new
        → KeepsToBudgets (basis_of db limits) new
    does-keeps (Queried text) c o new before within h does = query-keeps (basis_of db limits) (newest db) counts text c o new before h does
    does-keeps (Wrote sql) c o new before within h (too_long is) = h
    does-keeps (Wrote sql) c o new before within h (writes did after short does) = write-keeps (basis_of db limits) (newest db) counts sql c o new h does
    does-keeps (Evicted place) c o new before within h does = evict-keeps (basis_of db limits) (newest db) counts place c o new h does
    does-keeps (Took m) c o new before within h does = take-keeps (basis_of db limits) (newest db) counts m c o new within h does
    does-keeps WasCut c o new before within h does = cut-keeps (basis_of db limits) (newest db) counts c o new h does
    does-keeps Resumed c o new before within h does = resume-keeps (basis_of db limits) (newest db) counts c o new h does

  -- a step on the versions up to some moment, by the rows of all versions
  pub keeps-on : (db all : Database) → Grows db all → HasTables db → (deed : Deed) (c : Client) (o : Outcome) (new : Client) → c.version ≤ newest db → new.version ≤ newest db → KeepsToBudgets (basis_of all limits) c
      → Does (basis_of db limits) deed c o new → KeepsToBudgets (basis_of all limits) new
  keeps-on db all grows tables deed c o new before within h does =
      keeps-later db all grows new within (does-keeps db tables deed c o new before within (keeps-by all db c grows.schema (grows.same c.version before) h) does)
