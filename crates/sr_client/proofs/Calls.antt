-- What the client's store and its answer are, as calls give them.
use Rattle.std.proofs.Common.{[], subst}
use Rattle.std.specs.Prelude.{ℕ, ◌≡◌, ◌⊎◌, List, filter}
use Rattle.std.specs.List.{All, AllZip}
use Rattle.std.proofs.lemmas.List.Elements.{All-nil}
use Rattle.sr_cell.specs.declared.table.Table.{Table}
use Rattle.sr_cell.specs.Cells.{Row}
use Rattle.sr_model.specs.Statements.{Tables}
use Rattle.sr_model.specs.Queries as model
use Rattle.sr_model.specs.Queries.{rows_of}
use Rattle.sr_query.specs.declared.query.Part.{Part}
use Rattle.sr_query.specs.declared.query.Query.{Query}
use Rattle.sr_history.specs.declared.mark.Mark.{Mark}
use Rattle.sr_region.specs.declared.region.Region.{Region}
use Rattle.sr_region.specs.Regions.{is_in}
use Rattle.sr_store.specs.declared.store.Arrival.{Arrival}
use Rattle.sr_store.specs.declared.store.Store.{Store}
use Rattle.sr_store.specs.Told.{Told, IsTold, AreTrueOf}
use Rattle.sr_store.specs.Stores.{IsStore, IsSettled}
use Rattle.sr_store.specs.Answered.{giving_way, HaveArrived, IsGivenUp, rects_on}
use Rattle.sr_store.specs.Fitted.{lasts_of, IsAnswered}
use Rattle.sr_store.specs.Renewing.{IsCutFrom}
use Rattle.sr_join.specs.Lent.{IsJoinable}
use Rattle.sr_client.specs.Answering.{HaveRows, IsThere}

-- the rows that a query answers
abbrev pub Answers : Query → List Region → List Arrival → List Row → Type 0
Answers query regions arrivals rows = (schema : List Table) (tables : Tables) (meaning : model.Query) → IsJoinable schema tables query meaning
    → HaveRows schema tables regions → AllZip (IsThere schema tables regions arrivals) query.parts meaning.parts → rows ≡ rows_of meaning tables

-- the store after an answer
pub record IsAfter (schema : List Table) (number : ℕ) (parts : List Part) (arrivals : List Arrival) (old new : Store) (marks : List Mark) : Type 0 where
  pub answered : IsAnswered schema old.limits number parts arrivals old.regions new.regions marks ⊎ IsGivenUp schema parts arrivals old.regions new.regions marks
  pub cuts : All (IsCutFrom schema (rects_on old.regions parts arrivals)) new.regions
  pub store : IsStore schema new.regions
  pub settled : IsSettled schema new.regions
  pub true_still : (told : Told) → IsTold schema told → AreTrueOf told (giving_way arrivals old.regions) → HaveArrived told arrivals → AreTrueOf told new.regions
  pub last : new.last ≡ lasts_of schema parts
  pub limits : new.limits ≡ old.limits

-- the same, of the schema, parts and arrivals as calls read them
pub after-of : (schema read : List Table) (number : ℕ) (parts listed : List Part) (arrivals came : List Arrival) (old new : Store) (marks : List Mark) → read ≡ schema → listed ≡ parts → came ≡ arrivals
    → IsAfter read number listed came old new marks → IsAfter schema number parts arrivals old new marks
after-of schema read number parts listed arrivals came old new marks same all these after =
    subst (λ rs. IsAfter schema number parts rs old new marks) these
    (subst (λ ps. IsAfter schema number ps came old new marks) all
    (subst (λ s. IsAfter s number listed came old new marks) same after))

-- nothing arrives
pub none-arrived : (told : Told) → HaveArrived told []
none-arrived told = All-nil (λ (r : Arrival). r.rows ≡ filter (is_in r.attrs r.rects) (told r.table r.attrs))

pub answers-of : (query : Query) (regions read : List Region) (arrivals listed : List Arrival) (rows : List Row) → read ≡ regions → listed ≡ arrivals → Answers query read listed rows → Answers query regions arrivals rows
answers-of query regions read arrivals listed rows same all gives =
    subst (λ rs. Answers query regions rs rows) all (subst (λ gs. Answers query gs listed rows) same gives)
