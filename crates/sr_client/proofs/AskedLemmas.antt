-- What is known of the ask that is out, and of what was laid by for it.
use Rattle.std.proofs.Common.{◌≡◌, Bool, true, false, inl, List, [], ◌∷◌, map, length, refl, sym, ◌∙◌, ap, subst, arith, Some}
use Rattle.std.specs.Prelude.{nat_lt, not, ◌&&◌, if◌then◌else◌}
use Rattle.std.specs.List.{list_all, All}
use Rattle.std.specs.Cmp.Derive.{both_true}
use Rattle.std.proofs.lemmas.Bool.{and_parts}
use Rattle.std.proofs.lemmas.List.Elements.{All-nil, All-cons, All-head, All-tail, All-map, All-weaker}
use Rattle.sr_cell.specs.declared.table.Table.{Table}
use Rattle.sr_cell.specs.Attrs.{has_column}
use Rattle.sr_cell.specs.Cells.{Row}
use Rattle.sr_cell.specs.Columns.{table_at}
use Rattle.sr_message.specs.declared.message.AskPart.{AskPart}
use Rattle.sr_message.specs.declared.message.Message.{Message}
use Rattle.sr_message.specs.declared.message.Message.TheVariants.{Hello, Resume, Ask, Write, Welcome, Notice, Rows, Reply, Written, Refused, Lapse}
use Rattle.sr_model.specs.Queries as model
use Rattle.sr_history.specs.declared.mark.Mark.{Mark}
use Rattle.sr_history.specs.Marks.{is_held, HoldsNothing}
use Rattle.sr_history.specs.Rests.{Asks, nothing, covered, asked}
use Rattle.sr_history.specs.Classes.{stamp}
use Rattle.sr_lines.specs.Sound.{is_sound_part}
use Rattle.sr_region.specs.declared.region.Region.{Region}
use Rattle.sr_store.specs.Classes.{Stamps, Keeps, IsStamped}
use Rattle.sr_store.specs.Stores.{IsStore, IsSettled}
use Rattle.sr_store.specs.Noticed.{told_to}
use Rattle.sr_store.proofs.Fewer.{none_store, none_settled}
use Rattle.sr_store.proofs.Noticing.{notices-classes}
use Rattle.sr_store.proofs.Storing.{store-told, settled-told}
use Rattle.sr_store.proofs.Telling.{only-rows}
use Rattle.sr_session.specs.Clients.{IsOut}
use Rattle.sr_session.specs.Laws.{AsksKey}
use Rattle.sr_session.specs.Regions.{after_messages}
use Rattle.sr_session.specs.Rules.{is_given_up}
use Rattle.sr_session.specs.Walks.{AskOut, has_lapse}
use Rattle.sr_client.specs.Laying.{TellsRows, asking}
use Rattle.sr_client.specs.declared.client.AskOut as code
use Rattle.sr_client.specs.declared.client.Client.{Client}
use Rattle.sr_client.specs.Stands.{Hidden, Facts, past_of}
use Rattle.sr_client.specs.Values.{has_values}
use Rattle.sr_client.proofs.MeantLemmas.{are-sound}
use Rattle.sr_client.proofs.SuitLemmas.{laid-tells}

-- ---- what messages leave of the regions

-- notices change rows alone
pub after-all : (P : Region → Type 0) → ((r : Region) (rows : List Row) → P r → P (record r { rows = rows })) → (ms : List Message) (gs : List Region) → All P gs → All P (after_messages ms gs)
after-all P still [] gs all = all
after-all P still (Notice w told ∷ ms) gs all =
    after-all P still ms (map (told_to told) gs)
    (All-map P (told_to told) gs (All-weaker P (λ r. P (told_to told r)) (λ r p. subst P (sym (only-rows told r)) (still r (told_to told r).rows p)) gs all))
after-all P still (Lapse w ∷ ms) gs all = after-all P still ms [] (All-nil P)
after-all P still (Rows k part rows ∷ ms) gs all = after-all P still ms gs all
after-all P still (Reply k w ∷ ms) gs all = after-all P still ms gs all
after-all P still (Written k w ∷ ms) gs all = after-all P still ms gs all
after-all P still (Refused k fault ∷ ms) gs all = after-all P still ms gs all
after-all P still (Welcome k w kept ∷ ms) gs all = after-all P still ms gs all
after-all P still (Hello wire client number ∷ ms) gs all = after-all P still ms gs all
after-all P still (Resume wire client number version holdings ∷ ms) gs all = after-all P still ms gs all
after-all P still (Ask number fresh parts ∷ ms) gs all = after-all P still ms gs all
after-all P still (Write number sql ∷ ms) gs all = after-all P still ms gs all

-- where nothing is held, no regions are the classes
none-keeps : (schema : List Table) (marks : List Mark) (stamps : Stamps) → HoldsNothing schema marks → Keeps schema (is_held marks) stamps []
none-keeps schema marks stamps none = record { points = λ t a p point. sym (ap (λ b. if b then 1 else 0) (none t a p point)); stamped = All-nil (IsStamped schema stamps) }

-- messages leave the classes as they are; a Lapse comes only where nothing is held
pub after-keeps : (schema : List Table) (marks : List Mark) (stamps : Stamps) (ms : List Message) (gs : List Region) → (has_lapse ms ≡ true → HoldsNothing schema marks) → Keeps schema (is_held marks) stamps gs
    → Keeps schema (is_held marks) stamps (after_messages ms gs)
after-keeps schema marks stamps [] gs none keeps = keeps
after-keeps schema marks stamps (Notice w told ∷ ms) gs none keeps = after-keeps schema marks stamps ms (map (told_to told) gs) none (notices-classes schema (is_held marks) stamps told gs keeps)
after-keeps schema marks stamps (Lapse w ∷ ms) gs none keeps = after-keeps schema marks stamps ms [] (λ lapse. none refl) (none-keeps schema marks stamps (none refl))
after-keeps schema marks stamps (Rows k part rows ∷ ms) gs none keeps = after-keeps schema marks stamps ms gs none keeps
after-keeps schema marks stamps (Reply k w ∷ ms) gs none keeps = after-keeps schema marks stamps ms gs none keeps
after-keeps schema marks stamps (Written k w ∷ ms) gs none keeps = after-keeps schema marks stamps ms gs none keeps
after-keeps schema marks stamps (Refused k fault ∷ ms) gs none keeps = after-keeps schema marks stamps ms gs none keeps
after-keeps schema marks stamps (Welcome k w kept ∷ ms) gs none keeps = after-keeps schema marks stamps ms gs none keeps
after-keeps schema marks stamps (Hello wire client number ∷ ms) gs none keeps = after-keeps schema marks stamps ms gs none keeps
after-keeps schema marks stamps (Resume wire client number version holdings ∷ ms) gs none keeps = after-keeps schema marks stamps ms gs none keeps
after-keeps schema marks stamps (Ask number fresh parts ∷ ms) gs none keeps = after-keeps schema marks stamps ms gs none keeps
after-keeps schema marks stamps (Write number sql ∷ ms) gs none keeps = after-keeps schema marks stamps ms gs none keeps

pub after-store : (schema : List Table) (ms : List Message) (gs : List Region) → IsStore schema gs → All (TellsRows schema) ms → IsStore schema (after_messages ms gs)
after-store schema [] gs store tells = store
after-store schema (Notice w told ∷ ms) gs store tells = after-store schema ms (map (told_to told) gs) (store-told schema told gs store (All-head (TellsRows schema) (Notice w told) ms tells)) (All-tail (TellsRows schema) (Notice w told) ms tells)
after-store schema (Lapse w ∷ ms) gs store tells = after-store schema ms [] (none_store schema gs store) (All-tail (TellsRows schema) (Lapse w) ms tells)
after-store schema (Rows k part rows ∷ ms) gs store tells = after-store schema ms gs store (All-tail (TellsRows schema) (Rows k part rows) ms tells)
after-store schema (Reply k w ∷ ms) gs store tells = after-store schema ms gs store (All-tail (TellsRows schema) (Reply k w) ms tells)
after-store schema (Written k w ∷ ms) gs store tells = after-store schema ms gs store (All-tail (TellsRows schema) (Written k w) ms tells)
after-store schema (Refused k fault ∷ ms) gs store tells = after-store schema ms gs store (All-tail (TellsRows schema) (Refused k fault) ms tells)
after-store schema (Welcome k w kept ∷ ms) gs store tells = after-store schema ms gs store (All-tail (TellsRows schema) (Welcome k w kept) ms tells)
after-store schema (Hello wire client number ∷ ms) gs store tells = after-store schema ms gs store (All-tail (TellsRows schema) (Hello wire client number) ms tells)
after-store schema (Resume wire client number version holdings ∷ ms) gs store tells = after-store schema ms gs store (All-tail (TellsRows schema) (Resume wire client number version holdings) ms tells)
after-store schema (Ask number fresh parts ∷ ms) gs store tells = after-store schema ms gs store (All-tail (TellsRows schema) (Ask number fresh parts) ms tells)
after-store schema (Write number sql ∷ ms) gs store tells = after-store schema ms gs store (All-tail (TellsRows schema) (Write number sql) ms tells)

pub after-settled : (schema : List Table) (ms : List Message) (gs : List Region) → IsSettled schema gs → IsSettled schema (after_messages ms gs)
after-settled schema [] gs settled = settled
after-settled schema (Notice w told ∷ ms) gs settled = after-settled schema ms (map (told_to told) gs) (settled-told schema told gs settled)
after-settled schema (Lapse w ∷ ms) gs settled = after-settled schema ms [] (none_settled schema)
after-settled schema (Rows k part rows ∷ ms) gs settled = after-settled schema ms gs settled
after-settled schema (Reply k w ∷ ms) gs settled = after-settled schema ms gs settled
after-settled schema (Written k w ∷ ms) gs settled = after-settled schema ms gs settled
after-settled schema (Refused k fault ∷ ms) gs settled = after-settled schema ms gs settled
after-settled schema (Welcome k w kept ∷ ms) gs settled = after-settled schema ms gs settled
after-settled schema (Hello wire client number ∷ ms) gs settled = after-settled schema ms gs settled
after-settled schema (Resume wire client number version holdings ∷ ms) gs settled = after-settled schema ms gs settled
after-settled schema (Ask number fresh parts ∷ ms) gs settled = after-settled schema ms gs settled
after-settled schema (Write number sql ∷ ms) gs settled = after-settled schema ms gs settled

pub only-fresh : (fresh lapse : Bool) → (not fresh && lapse) ≡ false → lapse ≡ true → fresh ≡ true
only-fresh true lapse whole is = refl
only-fresh false lapse whole is = absurd (let wrong : true ≡ false = sym is ∙ whole in cc)

-- ---- what is asked

-- of tables of the schema
asks-below : (schema : List Table) (marks : List Mark) (parts : List model.Part) (asks : List AskPart) → Asks schema marks parts asks → list_all (is_sound_part schema) parts ≡ true
    → list_all (λ (ask : AskPart). nat_lt ask.table (length schema)) asks ≡ true
asks-below schema marks parts asks nothing sound = refl
asks-below schema marks parts asks (covered part others more free rest) sound = asks-below schema marks others more rest (and_parts (is_sound_part schema part) (list_all (is_sound_part schema) others) sound).1
asks-below schema marks parts asks (asked part others ask more is rest) sound =
    let s = and_parts (is_sound_part schema part) (list_all (is_sound_part schema) others) sound in
    let below : nat_lt part.table (length schema) ≡ true = grind (arith, s.0) in
    both_true (subst (λ t. nat_lt t (length schema) ≡ true) (sym is.table) below) (asks-below schema marks others more rest s.1)

-- with their keys
asks-keys : (schema : List Table) (marks : List Mark) (parts : List model.Part) (asks : List AskPart) → Asks schema marks parts asks → list_all (is_sound_part schema) parts ≡ true → All (AsksKey schema) asks
asks-keys schema marks parts asks nothing sound = All-nil (AsksKey schema)
asks-keys schema marks parts asks (covered part others more free rest) sound = asks-keys schema marks others more rest (and_parts (is_sound_part schema part) (list_all (is_sound_part schema) others) sound).1
asks-keys schema marks parts asks (asked part others ask more is rest) sound =
    let s = and_parts (is_sound_part schema part) (list_all (is_sound_part schema) others) sound in
    let need : has_column part.need (table_at schema part.table).key ≡ true = grind (arith, s.0) in
    let own : AsksKey schema ask = ap (λ t. has_column ask.attrs (table_at schema t).key) is.table ∙ (is.columns (table_at schema part.table).key).1 (inl need) in
    All-cons (AsksKey schema) ask more own (asks-keys schema marks others more rest s.1)

module _ (c : Client) (o : code.AskOut) (h : Hidden) (f : Facts (asking c o) h) where
  abbrev pub is-out : IsOut c.schema (past_of (asking c o) h) (AskOut o.number o.query_number h.meaning o.fresh o.parts)
  is-out = f.tidy.0

  pub asked-tables : list_all (λ (ask : AskPart). nat_lt ask.table (length c.schema)) o.parts ≡ true
  asked-tables = asks-below c.schema h.marks h.meaning.parts o.parts is-out.1.asks (are-sound c.schema o.query h.meaning f.meant.0)

  -- the keys are asked
  pub keys-asked : All (AsksKey c.schema) o.parts
  keys-asked = asks-keys c.schema h.marks h.meaning.parts o.parts is-out.1.asks (are-sound c.schema o.query h.meaning f.meant.0)

  -- ---- what was laid by

  module _ (values : list_all has_values c.laid ≡ true) where
    pub tells : All (TellsRows c.schema) c.laid
    tells = laid-tells c.schema (Some (AskOut o.number o.query_number h.meaning o.fresh o.parts)) c.version [] c.laid f.fit values

    pub laid-store : IsStore c.schema (after_messages c.laid c.store.regions)
    laid-store = after-store c.schema c.laid c.store.regions f.store tells

    -- where the rows are not given up
    pub laid-keeps : is_given_up o.fresh c.laid ≡ false → Keeps c.schema (is_held h.marks) (stamp h.queries) (after_messages c.laid c.store.regions)
    laid-keeps whole = after-keeps c.schema h.marks (stamp h.queries) c.laid c.store.regions (λ lapse. is-out.1.fresh_where.0 (only-fresh o.fresh (has_lapse c.laid) whole lapse)) f.keeps
