-- The client that a world lends is the scene's.
use Rattle.std.proofs.Common.{◌≡◌, ℕ, ◌≤◌, true, List, [], ◌∷◌, length, map, refl, sym, ◌∙◌, subst, zero, suc, arith}
use Rattle.std.specs.List.{All, list_all}
use Rattle.std.proofs.lemmas.List.Elements.{All-nil, All-cons, All-head, All-tail}
use Rattle.sr_cell.specs.declared.table.Table.{Table}
use Rattle.sr_cell.specs.Columns.{table_at}
use Rattle.sr_model.specs.Queries.{rows_at}
use Rattle.sr_model.specs.Statements.{Tables}
use Rattle.sr_policy.specs.declared.policy.Limits.{Limits}
use Rattle.sr_query.specs.Bound.{is_table}
use Rattle.sr_region.specs.declared.region.Region.{Region}
use Rattle.sr_region.specs.Applied.{AreTables, HasItsRows}
use Rattle.sr_store.specs.Fitted.{count_rows}
use Rattle.sr_store.specs.Past.{class_of}
use Rattle.sr_store.specs.Told.{told_of, IsTrueOf}
use Rattle.sr_store.specs.Stores.{IsOfSchema}
use Rattle.sr_store.proofs.Classing.{are_classes, have_classes}
use Rattle.sr_store.proofs.Noticing.{told-in}
use Rattle.sr_trim.proofs.Tables.{table_first}
use Rattle.sr_box.specs.Corners.{have_first}
use Rattle.sr_history.specs.Classes.{AreClasses}
use Rattle.sr_session.specs.Sessions.{Database, tables_of}
use Rattle.sr_session.specs.Clients.{Client as Past}
use Rattle.sr_session.specs.Scenes.{Scene}
use Rattle.sr_client.specs.declared.client.Client.{Client}
use Rattle.sr_client.specs.Stands.{Facts, Hidden, StandsOver, past_of}
use Rattle.sr_server.specs.declared.server.Server.{Server}
use Rattle.sr_world.specs.declared.seat.Seat.{Seat}
use Rattle.sr_world.specs.Lent.{HasItsPoints, IsLent}
use Rattle.sr_world.specs.Seats.{SeatStands}

have-first : (schema : List Table) → list_all is_table schema ≡ true → (t : ℕ) → have_first (table_at schema t).columns ≡ true
have-first [] h t = refl
have-first (table ∷ schema) h zero = table_first table (grind (arith, h))
have-first (table ∷ schema) h (suc t) = have-first schema (grind (arith, h)) t

all-both : (P Q R : Region → Type 0) → ((g : Region) → P g → Q g → R g) → (gs : List Region) → All P gs → All Q gs → All R gs
all-both P Q R f [] p q = All-nil R
all-both P Q R f (g ∷ gs) p q = All-cons R g gs (f g (All-head P g gs p) (All-head Q g gs q)) (all-both P Q R f gs (All-tail P g gs p) (All-tail Q g gs q))

-- what a client shows of its past
record Shows (db : Database) (past : Past) (c : Client) : Type 0 where
  version : c.version ≡ past.version
  classes : AreClasses db.schema past.marks past.queries (map class_of c.store.regions)
  points : All (HasItsPoints db.schema past) c.store.regions
  rows : All (HasItsRows (tables_of db past.version)) c.store.regions

shows-own : (db : Database) (c : Client) (h : Hidden) → Facts c h → db.schema ≡ c.schema → AreTables db.schema (tables_of db c.version)
    → All (IsTrueOf (told_of (tables_of db c.version))) c.store.regions → Shows db (past_of c h) c
shows-own db c h f same are are_true = record {
  version = refl;
  classes = subst (λ schema. AreClasses schema h.marks h.queries (map class_of regions)) (sym same) (are_classes c.schema h.marks h.queries regions (have-first c.schema f.tables) f.store.each f.store.order f.keeps);
  points = subst (λ schema. All (HasItsPoints schema (past_of c h)) regions) (sym same) (have_classes c.schema h.marks h.queries regions f.store.order f.keeps);
  rows = all-both (IsOfSchema c.schema) (IsTrueOf (told_of tables)) (HasItsRows tables) projected regions f.store.each are_true;
}
  where
    regions : List Region
    regions = c.store.regions

    tables : Tables
    tables = tables_of db c.version

    own : AreTables c.schema tables
    own = subst (λ schema. AreTables schema tables) same are

    projected : (g : Region) → IsOfSchema c.schema g → IsTrueOf (told_of tables) g → HasItsRows tables g
    projected g is tells =
        tells ∙ told-in (table_at c.schema g.table).columns g.attrs g.rects (rows_at tables g.table) is.1.area.fit is.1.area.only (own.points g.table)

shows : (db : Database) (past : Past) (c : Client) → StandsOver db past c → Shows db past c
shows db past c stands =
    let h = stands.client.hidden in
    let same : past ≡ past_of c h = stands.client.same in
    let tables : AreTables db.schema (tables_of db past.version) = stands.sound.tables past.version stands.within in
    subst (λ p. Shows db p c) (sym same)
    (shows-own db c h stands.client.facts stands.schema (subst (λ (p : Past). AreTables db.schema (tables_of db p.version)) same tables)
    (subst (λ (p : Past). All (IsTrueOf (told_of (tables_of db p.version))) c.store.regions) same stands.client.are_true))

pub is-lent : (s : Scene) (n : ℕ) (seat : Seat) (server : Server) → SeatStands s n seat server → IsLent s n seat.client
is-lent s n seat server h =
    let x = shows s.database h.pair.client seat.client h.seat.client in
    let f = h.seat.client.client.facts in
    record {
      pair = h.pair;
      there = h.there;
      number = h.seat.number;
      version = x.version;
      classes = x.classes;
      points = x.points;
      rows = x.rows;
      within = subst (λ (l : Limits). count_rows seat.client.store.regions ≤ l.rows) h.seat.limits f.rows;
      few = subst (λ (l : Limits). length seat.client.store.regions ≤ l.regions) h.seat.limits f.few;
    }
