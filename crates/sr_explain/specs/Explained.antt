-- How a query would be answered, and what would be dropped first, as the past of a client says.
use Rattle.std.specs.Prelude.{ℕ, Bool, true, false, ◌&&◌, ◌==◌, List, [], ◌∷◌, count_by, ◌≡◌, Result, Ok, Err, IsTrue}
use Rattle.std.specs.List.{list_all, AllZip}
use Rattle.sr_cell.specs.declared.cause.Cause.TheVariants.{Regions}
use Rattle.sr_cell.specs.declared.fault.Fault.{Fault}
use Rattle.sr_cell.specs.declared.table.Table.{Table}
use Rattle.sr_cell.specs.Columns.{table_at}
use Rattle.sr_cell.specs.Attrs.{includes}
use Rattle.sr_box.specs.Points.{Rect, Points, in_any, rect_fits, AreSame, HasPoint, HasNoPoint}
use Rattle.sr_message.specs.declared.message.AskPart.{AskPart}
use Rattle.sr_model.specs.Queries.{Part, Query, points_of, rows_at}
use Rattle.sr_model.specs.Statements.{Tables}
use Rattle.sr_policy.specs.declared.policy.Policy.{Policy}
use Rattle.sr_history.specs.declared.mark.Mark.{Mark}
use Rattle.sr_history.specs.Marks.{HoldsNothing}
use Rattle.sr_history.specs.Classes.{Numbered, Class, in_class, AreClasses}
use Rattle.sr_history.specs.Drops.{IsDropOf}
use Rattle.sr_history.specs.Load.{IsHeavy}
use Rattle.sr_history.specs.Rests.{Asks}
use Rattle.sr_history.specs.Victims.{IsVictim}
use Rattle.sr_session.specs.Clients.{Client}
use Rattle.sr_session.specs.Rules.{Basis, counted, with_query}
use Rattle.sr_explain.specs.declared.explanation.ProbeView.{ProbeView}
use Rattle.sr_explain.specs.declared.explanation.ExplainPart.{ExplainPart}
use Rattle.sr_explain.specs.declared.explanation.Victim.{Victim}
use Rattle.sr_explain.specs.declared.explanation.Explanation.{Explanation}

-- ---- a part

-- the points of a part that a class serves: those in both, if it has each column that the part needs
abbrev pub served_by : List Mark → List Numbered → Part → Class → Points
served_by marks queries part k p = (k.table == part.table && includes k.attrs part.need) && (points_of part p && in_class marks queries k p)

-- The probe of a class that serves a point of the part: its columns and stamp, and just the points that it serves.
pub record IsProbe (schema : List Table) (marks : List Mark) (queries : List Numbered) (part : Part) (k : Class) (probe : ProbeView) : Type 0 where
  pub attrs : probe.attrs ≡ k.attrs
  pub stamp : probe.stamp ≡ k.stamp
  pub some : HasPoint (table_at schema part.table).columns (served_by marks queries part k)
  pub fits : IsTrue (list_all (rect_fits (table_at schema part.table).columns) probe.rects)
  pub same : AreSame (table_at schema part.table).columns (in_any probe.rects) (served_by marks queries part k)

-- a probe for each of these classes that serves a point of the part, in their order
pub data ProbesOf (schema : List Table) (marks : List Mark) (queries : List Numbered) (part : Part) : List Class → List ProbeView → Type 0 where
  nothing : ProbesOf schema marks queries part [] []
  passed_by : (k : Class) (classes : List Class) (probes : List ProbeView) → HasNoPoint (table_at schema part.table).columns (served_by marks queries part k)
      → ProbesOf schema marks queries part classes probes → ProbesOf schema marks queries part (k ∷ classes) probes
  probed : (k : Class) (classes : List Class) (probe : ProbeView) (probes : List ProbeView) → IsProbe schema marks queries part k probe
      → ProbesOf schema marks queries part classes probes → ProbesOf schema marks queries part (k ∷ classes) (probe ∷ probes)

-- the probes of all classes, in class order
abbrev pub Probes : List Table → List Mark → List Numbered → Part → List ProbeView → Type 0
Probes schema marks queries part probes = (classes : List Class) × AreClasses schema marks queries classes × ProbesOf schema marks queries part classes probes

abbrev pub entry_of : ℕ → ℕ → List Rect → List AskPart
entry_of table attrs [] = []
entry_of table attrs (r ∷ rects) = record { table = table; attrs = attrs; rects = r ∷ rects } ∷ []

-- what would be asked of the part: nothing where its rest has no rects
abbrev pub asked_of : ExplainPart → List AskPart
asked_of e = entry_of e.table e.attrs e.rest

-- What a query needs of the part, what the classes serve of it, and its rest. The rest is what a query would ask of that part alone:
-- parts are judged one by one, as an ask does.
pub record ExplainsPart (schema : List Table) (marks : List Mark) (queries : List Numbered) (part : Part) (e : ExplainPart) : Type 0 where
  pub table : e.table ≡ part.table
  pub need : e.need ≡ part.need
  pub probes : Probes schema marks queries part e.probes
  pub rest : Asks schema marks (part ∷ []) (asked_of e)

-- ---- victims

abbrev pub class_of : Victim → Class
class_of v = record { table = v.table; attrs = v.attrs; stamp = v.stamp }

-- All classes, each of which is the victim once those before it are dropped; each with its number of rows.
abbrev pub AreVictims : Policy → List Table → (Class → ℕ) → List Numbered → List Mark → List Victim → Type 0
AreVictims policy schema size queries marks [] = HoldsNothing schema marks
AreVictims policy schema size queries marks (v ∷ victims) =
    IsVictim policy schema marks queries (class_of v) × (v.rows ≡ size (class_of v))
    × (drop : Mark) × IsDropOf schema marks queries Regions (class_of v) drop × AreVictims policy schema size queries (drop ∷ marks) victims

-- the rows of these tables that lie in a class
abbrev pub count_in : Tables → List Mark → List Numbered → Class → ℕ
count_in tables marks queries k = count_by (in_class marks queries k) (rows_at tables k.table)

-- ---- a query

-- Something is held, something of the query is left to ask, and with it the load is too high: all may be dropped before the query asks.
pub record MayDropFirst (schema : List Table) (c : Client) (q : Query) : Type 0 where
  pub some : HoldsNothing schema c.marks → ⊥
  pub left : Asks schema c.marks q.parts [] → ⊥
  pub heavy : IsHeavy schema c.marks [] q (counted c.counted_from (with_query q false c))

-- the marks by which a query asks: none, once all is dropped
abbrev pub marks_then : Bool → List Mark → List Mark
marks_then true marks = []
marks_then false marks = marks

-- How a query would be answered at the client's version. The size tells how many rows a class has.
pub record Explains (b : Basis) (size : Class → ℕ) (c : Client) (q : Query) (e : Explanation) : Type 0 where
  pub version : e.version ≡ c.version
  pub pieces : e.pieces ≡ true → MayDropFirst b.schema c q
  pub parts : AllZip (ExplainsPart b.schema (marks_then e.pieces c.marks) c.queries) q.parts e.parts
  pub victims : AreVictims b.limits.policy b.schema size c.queries c.marks e.victims

-- What comes of explaining a text, which is refused where a query of that text is. It does nothing to the client.
pub data ExplainStep (b : Basis) (size : Class → ℕ) (c : Client) : Result Query Fault → Result Explanation Fault → Type 0 where
  refused : (fault : Fault) → ExplainStep b size c (Err fault) (Err fault)
  explained : (q : Query) (e : Explanation) → Explains b size c q e → ExplainStep b size c (Ok q) (Ok e)
