-- What a server sends goes on with what is promised.
use Rattle.std.proofs.Common.{◌≡◌, ℕ, zero, suc, ◌+◌, ◌-◌, ◌<◌, ◌≤◌, Bool, true, false, List, [], ◌∷◌, ◌++◌, length, refl, sym, ◌∙◌, ap, subst, arith, inl, inr, Option, Some, None, ltb-true, leb-true}
use Rattle.std.specs.Prelude.{not, ◌&&◌, ◌||◌, ◌==◌, nat_le, nat_lt, ◌⊎◌, if◌then◌else◌}
use Rattle.std.specs.List.{list_any}
use Rattle.std.proofs.lemmas.Bool.Decides.{nat_tests}
use Rattle.std.specs.Cmp.{second_so}
use Rattle.sr_cell.specs.declared.change.Change.{Change}
use Rattle.sr_cell.specs.declared.table.Table.{Table}
use Rattle.sr_cell.specs.Attrs.{has_column, includes}
use Rattle.sr_cell.specs.Cells.{Row, cell_eq}
use Rattle.sr_cell.proofs.ColumnSets.{has_column-more}
use Rattle.sr_box.specs.Rows.{has_row}
use Rattle.sr_message.specs.Agree.{agree, same_from}
use Rattle.sr_message.specs.declared.message.Holding.{Holding}
use Rattle.sr_subs.specs.Subscription.{has_point, touches, touches_entry}
use Rattle.sr_message.specs.declared.message.Tell.{Tell}
use Rattle.sr_model.specs.Statements.{Tables}
use Rattle.sr_message.specs.declared.message.Message.{Message}
use Rattle.sr_message.specs.declared.message.Message.TheVariants.{Hello, Resume, Ask, Write, Welcome, Notice, Rows, Reply, Written, Refused, Lapse}
use Rattle.sr_log.proofs.Least.{floor-within}
use Rattle.sr_session.specs.Sessions.{Database, Session, all_changes, closing, closing_if, due_if, floor_of, is_lost, newest, notice, notices, subscribes_some, told_at}
use Rattle.sr_session.specs.Places.{Places, Within, at_row, concerns}
use Rattle.sr_session.specs.Walks.{Comes, Ends, Mirror, Quiet, Request, Tells, Walks, brought, forgot, noticed, replied, welcomed}
use Rattle.sr_session.proofs.PlaceLemmas.{concerns-more, within-self}

-- ---- messages behind those under way

-- more messages, where the request's last message is among the first ones, or none is out
pub walks-on : (db : Database) (out : Option Request) (m : Mirror) (ms more : List Message) (old new : Session) → Walks db out m ms old
    → ((end : Mirror) → Ends db end old → Walks db None end more new) → Walks db out m (ms ++ more) new
walks-on db None m [] more old new h on = on m h
walks-on db (Some request) m [] more old new h on = absurd h
walks-on db out m (Notice w told ∷ ms) more old new h on = (h.0, walks-on db out (noticed m w) ms more old new h.1 on)
walks-on db out m (Lapse w ∷ ms) more old new h on = (h.0, walks-on db out (forgot m w) ms more old new h.1 on)
walks-on db out m (Rows k part rows ∷ ms) more old new h on = (h.0, walks-on db out (brought m (Rows k part rows)) ms more old new h.1 on)
walks-on db out m (Reply k w ∷ ms) more old new h on = (h.0, walks-on db None (replied out m w) ms more old new h.1 on)
walks-on db out m (Written k w ∷ ms) more old new h on = (h.0, walks-on db None (welcomed true m w) ms more old new h.1 on)
walks-on db out m (Refused k fault ∷ ms) more old new h on = (h.0, walks-on db None (welcomed true m m.version) ms more old new h.1 on)
walks-on db out m (Welcome k w kept ∷ ms) more old new h on = (h.0, walks-on db None (welcomed kept m w) ms more old new h.1 on)
walks-on db out m (Hello wire client number ∷ ms) more old new h on = absurd h
walks-on db out m (Resume wire client number version holdings ∷ ms) more old new h on = absurd h
walks-on db out m (Ask number fresh parts ∷ ms) more old new h on = absurd h
walks-on db out m (Write number sql ∷ ms) more old new h on = absurd h

-- the same where they bring the last message of a request: before, no rows come, and no point more is held
pub walks-ask : (db : Database) (request : Request) (m : Mirror) (ms more : List Message) (old new : Session) → Walks db None m ms old
    → ((end : Mirror) → Ends db end old → end.came ≡ m.came → Within db.schema end.places m.places → Walks db (Some request) end more new) → Walks db (Some request) m (ms ++ more) new
walks-ask db request m [] more old new h on = on m h refl (within-self db.schema m.places)
walks-ask db request m (Notice w told ∷ ms) more old new h on = (h.0, walks-ask db request (noticed m w) ms more old new h.1 on)
walks-ask db request m (Lapse w ∷ ms) more old new h on =
    (h.0, walks-ask db request (forgot m w) ms more old new h.1 (λ end ends came within. on end ends came (λ t a p point is. absurd (let wrong = within t a p point is in cc))))
walks-ask db request m (Rows k part rows ∷ ms) more old new h on = absurd h.0
walks-ask db request m (Reply k w ∷ ms) more old new h on = absurd h.0
walks-ask db request m (Written k w ∷ ms) more old new h on = absurd h.0.0
walks-ask db request m (Refused k fault ∷ ms) more old new h on = absurd h.0
walks-ask db request m (Welcome k w kept ∷ ms) more old new h on = absurd h.0.0
walks-ask db request m (Hello wire client number ∷ ms) more old new h on = absurd h
walks-ask db request m (Resume wire client number version holdings ∷ ms) more old new h on = absurd h
walks-ask db request m (Ask number fresh parts ∷ ms) more old new h on = absurd h
walks-ask db request m (Write number sql ∷ ms) more old new h on = absurd h

-- ---- notices

more-any : (f db : Holding → Bool) → ((h : Holding) → f h ≡ true → db h ≡ true) → (hs : List Holding) → list_any f hs ≡ true → list_any db hs ≡ true
more-any f db more [] is = is
more-any f db more (h ∷ hs) is = go (f h) refl is (more-any f db more hs)
  where
    go : (b : Bool) → f h ≡ b → (b || list_any f hs) ≡ true → (list_any f hs ≡ true → list_any db hs ≡ true) → (db h || list_any db hs) ≡ true
    go true here is rest = rw (more h here) refl
    go false here is rest = let ih = rest is in grind (arith, ih)

-- rows that are equal in some columns are so in fewer
same-fewer : (c many few : ℕ) (p q : Row) → includes many few ≡ true → same_from c many p q ≡ true → same_from c few p q ≡ true
same-fewer c many few [] [] inc same = refl
same-fewer c many few [] (w ∷ q) inc same = same
same-fewer c many few (v ∷ p) [] inc same = same
same-fewer c many few (v ∷ p) (w ∷ q) inc same =
    let ih = same-fewer (c + 1) many few p q inc (second_so (not (has_column many c) || cell_eq v w) (same_from (c + 1) many p q) same) in
    by (has_column few c) refl (has_column-more many few c inc) ih
  where
    by : (b : Bool) → has_column few c ≡ b → (has_column few c ≡ true → has_column many c ≡ true) → same_from (c + 1) few p q ≡ true → ((not (has_column few c) || cell_eq v w) && same_from (c + 1) few p q) ≡ true
    by false none more ih = rw (none, ih) refl
    by true has more ih = let there = more has in grind (arith, has, there, ih, same)

agree-fewer : (many few : ℕ) (one other : Option Row) → includes many few ≡ true → agree many one other ≡ true → agree few one other ≡ true
agree-fewer many few None other inc same = same
agree-fewer many few (Some p) None inc same = same
agree-fewer many few (Some p) (Some q) inc same = same-fewer 0 many few p q inc same

-- a change that concerns subscribed points touches the subscription
concerned-touches : (subs : List Holding) (c : Change) (a : ℕ) → concerns (has_point subs) a c ≡ true → touches subs c ≡ true
concerned-touches subs c a is = by (at_row (has_point subs) c.table a c.before) refl
  where
    has : Option Row → Holding → Bool
    has row h = h.table == c.table && includes h.attrs a && has_row h.rects row

    differ : agree a c.before c.after ≡ false
    differ = grind (arith, is)

    one : (row : Option Row) → at_row (has_point subs) c.table a row ≡ true → list_any (has row) subs ≡ true
    one None is = absurd (cc)
    one (Some p) is = is

    -- rows that differ in fewer columns differ in an entry's
    apart : (h : Holding) → includes h.attrs a ≡ true → agree h.attrs c.before c.after ≡ false
    apart h inc = go (agree h.attrs c.before c.after) refl
      where
        go : (b : Bool) → agree h.attrs c.before c.after ≡ b → b ≡ false
        go true same = sym (agree-fewer h.attrs a c.before c.after inc same) ∙ differ
        go false other = refl

    by : (b : Bool) → at_row (has_point subs) c.table a c.before ≡ b → touches subs c ≡ true
    by true here =
        more-any (has c.before) (touches_entry c) (λ h i. let far = apart h (grind (arith, i)) in grind (arith, i, far)) subs (one c.before here)
    by false here =
        more-any (has c.after) (touches_entry c) (λ h i. let far = apart h (grind (arith, i)) in grind (arith, i, far)) subs (one c.after (grind (arith, is, here)))

-- what a server tells of a version is what has to be told
pub told-tells : (db : Database) (subs : List Holding) (places : Places) → Within db.schema places (has_point subs) → (w : ℕ) → Tells db places w (told_at db subs w)
told-tells db subs places within w = record {
  test = touches subs;
  all = λ c a points is. concerned-touches subs c a (concerns-more db.schema places (has_point subs) within c a points is);
  are = refl;
}

just-above : (u k : ℕ) → nat_le u k ≡ false → u ≤ k + 1 → u ≡ k + 1
just-above u k e below = grind (arith, nat_tests)

strictly : (v w : ℕ) → v ≤ w → (v ≡ w → ⊥) → v < w
strictly v w up differs = grind (arith, up, differs)

-- the mirror's own version, or one of which something is told
abbrev pub WasTold : Database → List Holding → ℕ → ℕ → Type 0
WasTold db subs before v = (v ≡ before) ⊎ (told_at db subs v ≡ [] → ⊥)

-- from version k, which nothing separates from the mirror's, the notices go to version k + n
pub notices-walk : (db : Database) (out : Option Request) (subs : List Holding) (n k to : ℕ) (m : Mirror) (rest : List Message) (new : Session) → k + n ≡ to
    → Within db.schema m.places (has_point subs) → Comes db m k
    → ((v : ℕ) → m.version ≤ v → WasTold db subs m.version v → Comes db (noticed m v) to → Walks db out (noticed m v) rest new)
    → Walks db out m (notices db subs k n ++ rest) new
notices-walk db out subs zero k to m rest new sum within comes on =
    let at : k ≡ to = omega (arith, sum) in
    on m.version (omega arith) (inl refl) (subst (Comes db m) at comes)
notices-walk db out subs (suc n) k to m rest new sum within comes on =
    go (told_at db subs (k + 1)) refl (λ x inside near next. notices-walk db out subs n (k + 1) to x rest new (omega (arith, sum)) inside near next)
  where
    tells : (told : List Tell) → told_at db subs (k + 1) ≡ told → Tells db m.places (k + 1) told
    tells told is = subst (Tells db m.places (k + 1)) is (told-tells db subs m.places within (k + 1))

    quiet : Tells db m.places (k + 1) [] → Quiet db m.places m.version (k + 1)
    quiet none u above below = by (nat_le u k) refl
      where
        by : (b : Bool) → nat_le u k ≡ b → Tells db m.places u []
        by true e = comes.1 u above (leb-true u k e)
        by false e = let same : u ≡ k + 1 = just-above u k e below in subst (λ w. Tells db m.places w []) (sym same) none

    told-now : (tell : Tell) (told : List Tell) → told_at db subs (k + 1) ≡ tell ∷ told → (v : ℕ) → WasTold db subs (k + 1) v → WasTold db subs m.version v
    told-now tell told is v (inl same) = inr (λ none. let wrong : tell ∷ told ≡ [] = sym is ∙ (ap (told_at db subs) (sym same) ∙ none) in absurd (cc))
    told-now tell told is v (inr some) = inr some

    go : (told : List Tell) → told_at db subs (k + 1) ≡ told
        → ((x : Mirror) → Within db.schema x.places (has_point subs) → Comes db x (k + 1)
        → ((v : ℕ) → x.version ≤ v → WasTold db subs x.version v → Comes db (noticed x v) to → Walks db out (noticed x v) rest new) → Walks db out x (notices db subs (k + 1) n ++ rest) new)
        → Walks db out m ((notice (k + 1) told ++ notices db subs (k + 1) n) ++ rest) new
    go [] is ih = ih m within (omega (arith, comes.0), quiet (tells [] is)) on
    go (tell ∷ told) is ih = (
      (omega (arith, comes.0), λ u above below. comes.1 u above (omega (arith, below)), tells (tell ∷ told) is),
      ih (noticed m (k + 1)) within (omega arith, λ u above below. absurd (omega (arith, above, below)))
          (λ v up was c. on v (omega (arith, up, comes.0)) (told-now tell told is v was) c),
    )

-- ---- the log

pub changes-count : (schema : List Table) (versions : List Tables) → length (all_changes schema versions) ≡ length versions - 1
changes-count schema [] = omega arith
changes-count schema (old ∷ []) = omega arith
changes-count schema (old ∷ new ∷ versions) = let ih = changes-count schema (new ∷ versions) in omega (arith, ih)

pub floor-below : (db : Database) → floor_of db ≤ newest db
floor-below db = let within = floor-within db.log_limit (all_changes db.schema db.versions) in let count = changes-count db.schema db.versions in omega (arith, within, count)

pub lost-later : (db : Database) (session : Session) → is_lost db session ≡ true → session.upto < newest db
lost-later db session lost =
    let below = floor-below db in
    let above : session.upto < floor_of db = ltb-true session.upto (floor_of db) (second_so (subscribes_some session.subscription) (nat_lt session.upto (floor_of db)) lost) in
    omega (arith, below, above)

-- ---- what is due

pub here : (db : Database) (m : Mirror) → Comes db m m.version
here db m = (omega arith, λ u above below. absurd (omega (arith, above, below)))

-- what is due brings a client to the newest version, with what is subscribed on
pub due-walk : (db : Database) (out : Option Request) (m : Mirror) (session new : Session) (rest : List Message) → session.upto ≤ newest db → Ends db m session → (lost : Bool) → is_lost db session ≡ lost
    → ((x : Mirror) → Within db.schema x.places (has_point (due_if lost db session).subscription) → Comes db x (newest db) → x.came ≡ m.came → Walks db out x rest new)
    → Walks db out m ((due_if lost db session).sent ++ rest) new
due-walk db out m session new rest upto ends true lost on =
    let later = lost-later db session lost in
    (omega (arith, later, ends.comes.0), on (forgot m (newest db)) (λ t a p point is. absurd (cc)) (here db (forgot m (newest db))) refl)
due-walk db out m session new rest upto ends false lost on =
    notices-walk db out session.subscription (newest db - session.upto) session.upto (newest db) m rest new (omega (arith, upto)) ends.within ends.comes
    (λ v up was comes. on (noticed m v) ends.within comes refl)

-- ---- a push

closing-walk : (db : Database) (m : Mirror) (v : ℕ) (session new : Session) → new.upto ≡ newest db → Within db.schema m.places (has_point new.subscription) → m.version ≤ session.upto
    → WasTold db session.subscription m.version v → Comes db (noticed m v) (newest db) → (b : Bool) → nat_lt session.upto (newest db) ≡ b → (told : List Tell) → told_at db session.subscription (newest db) ≡ told
    → Walks db None (noticed m v) (if b then closing (newest db) told else []) new
closing-walk db m v session new upto within before was comes false e told is = record { within = within; comes = subst (Comes db (noticed m v)) (sym upto) comes }
closing-walk db m v session new upto within before was comes true e (tell ∷ told) is = record { within = within; comes = subst (Comes db (noticed m v)) (sym upto) comes }
closing-walk db m v session new upto within before was comes true e [] is = (
  (below was, λ u above under. comes.1 u above (omega (arith, under)), comes.1 (newest db) (below was) (omega arith)),
  record { within = within; comes = subst (Comes db (noticed m (newest db))) (sym upto) (here db (noticed m (newest db))) },
)
  where
    below : WasTold db session.subscription m.version v → v < newest db
    below (inl same) = let later : session.upto < newest db = ltb-true session.upto (newest db) e in omega (arith, same, before, later)
    below (inr some) =
        let differs : v ≡ newest db → ⊥ = λ same. some (ap (told_at db session.subscription) same ∙ is) in
        strictly v (newest db) comes.0 differs

pub push-walk : (db : Database) (m : Mirror) (session : Session) → session.upto ≤ newest db → Ends db m session → (lost : Bool) → is_lost db session ≡ lost
    → Walks db None m ((due_if lost db session).sent ++ closing_if lost db session) (record { wire = session.wire; subscription = (due_if lost db session).subscription; upto = newest db })
push-walk db m session upto ends true lost =
    let later = lost-later db session lost in
    (omega (arith, later, ends.comes.0), record { within = λ t a p point is. absurd (cc); comes = here db (forgot m (newest db)) })
push-walk db m session upto ends false lost =
    notices-walk db None session.subscription (newest db - session.upto) session.upto (newest db) m (closing_if false db session) _ (omega (arith, upto)) ends.within ends.comes
    (λ v up was comes. closing-walk db m v session _ refl ends.within ends.comes.0 was comes (nat_lt session.upto (newest db)) refl (told_at db session.subscription (newest db)) refl)
