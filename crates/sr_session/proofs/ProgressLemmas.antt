-- A query is answered after at most two asks, and nothing is dropped for its pieces where the load is not high.
use Rattle.std.proofs.Common.{◌≡◌, ℕ, Bool, true, false, not, ◌&&◌, List, [], ◌∷◌, ◌++◌, refl, sym, ◌∙◌, ap, subst, inl, inr, Some, None, Ok}
use Rattle.std.specs.Prelude.{Result}
use Rattle.std.specs.List.{list_all, AllZip}
use Rattle.std.proofs.lemmas.List.Folds.{list_all-append}
use Rattle.sr_cell.specs.declared.cause.Cause.{Cause}
use Rattle.sr_cell.specs.declared.cause.Cause.TheVariants.{Rows as RowsCause, Regions, Lapsed, Absorbed}
use Rattle.sr_cell.specs.declared.fault.Fault.{Fault}
use Rattle.sr_cell.specs.declared.table.Table.{Table}
use Rattle.sr_message.specs.declared.message.AskPart.{AskPart}
use Rattle.sr_message.specs.declared.message.Message.{Message}
use Rattle.sr_message.specs.declared.message.Message.TheVariants.{Reply}
use Rattle.sr_model.specs.Queries.{Query}
use Rattle.sr_policy.specs.declared.policy.Limits.{Limits}
use Rattle.sr_history.specs.declared.mark.Mark.{Mark}
use Rattle.sr_history.specs.declared.mark.Mark.TheVariants.{Held, Dropped}
use Rattle.sr_history.specs.Budgets.{DropsForRows, DropsForRegions}
use Rattle.sr_history.specs.Classes.{Numbered, Class}
use Rattle.sr_history.specs.Drops.{IsDropOf, DropsEach, AbsorbsFrom}
use Rattle.sr_history.specs.Load.{IsHeavy}
use Rattle.sr_session.specs.Clients.{Client}
use Rattle.sr_session.specs.Progress.{IsAnsweredOrAsked, IsAnsweredOrAskedAfresh, QueriesAreAnsweredOrAsked, RepliesAnswer, is_pieces, drops_pieces, DropsNoPieces, LightQueriesKeepTheirPieces, LightRepliesKeepTheirPieces}
use Rattle.sr_session.specs.Rules.{Basis, Outcome, Answering, AnswerStep, renewed, given_up, answering_now, answering_then, Before, as_it_is, emptied, Holds, QueryStep, query_refused, query_busy, query_answered, query_down, query_asks, TakeStep, lays, applies, forgets, answers, asks_once_more, written, refused_write, is_welcomed, counted, next_query, with_query, with_answered}
use Rattle.sr_session.specs.Walks.{AskOut, IsLaid, has_lapse}

-- ---- answered, or asked

old-number : (b : Basis) (q : Query) (c : Client) (drops : List Mark) (old : Client) → Before b q c drops old → next_query old ≡ next_query c
old-number b q c drops old as_it_is = refl
old-number b q c drops old (emptied ds first) = refl

by-query : (b : Basis) (c new : Client) (q : Query) (text : Result Query Fault) (o : Outcome) → text ≡ Ok q → c.out ≡ None → c.cut ≡ false → QueryStep b c text o new → IsAnsweredOrAsked (next_query c) q o new
by-query b c new q text o is none up (query_refused fault) = absurd (cc)
by-query b c new q text o is none up (query_busy m request out) = let wrong : None ≡ Some request = sym none ∙ out in absurd (cc)
by-query b c new q text o is none up (query_answered m rows marks after out asks are step) = refl
by-query b c new q text o is none up (query_down m out down left) = let wrong : true ≡ false = sym down ∙ up in absurd (cc)
by-query b c new q text o is none up (query_asks m drops old ask others fresh out before live asks few mode) =
    let same : m ≡ q = cc in
    ap (λ x. Some (AskOut old.next_request x m fresh (ask ∷ others))) (old-number b m c drops old before) ∙ ap (λ x. Some (AskOut old.next_request (next_query c) x fresh (ask ∷ others))) same

pub queries-are-answered-or-asked : QueriesAreAnsweredOrAsked
queries-are-answered-or-asked b c new q o none up step = by-query b c new q (Ok q) o refl none up step

not-fresh : (fresh lapse : Bool) → (not fresh && lapse) ≡ true → fresh ≡ false
not-fresh true lapse e = absurd (cc)
not-fresh false lapse e = refl

by-reply : (b : Basis) (c new : Client) (m : Message) (number query : ℕ) (q : Query) (fresh : Bool) (parts : List AskPart) (k version : ℕ) (o : Outcome)
    → m ≡ Reply k version → c.out ≡ Some (AskOut number query q fresh parts) → TakeStep b c m o new → IsAnsweredOrAskedAfresh query q fresh o new
by-reply b c new m number query q fresh parts k version o is out (lays request x own laid for) = absurd (subst IsLaid is laid)
by-reply b c new m number query q fresh parts k version o is out (applies w told drops own later meets) = absurd (cc)
by-reply b c new m number query q fresh parts k version o is out (forgets w drops own later all) = absurd (cc)
by-reply b c new m number query q fresh parts k version o is out (answers n number_of_query p mode asked w rows marks after own whole later are step) =
    let same : Some (AskOut n number_of_query p mode asked) ≡ Some (AskOut number query q fresh parts) = sym own ∙ out in
    let e : number_of_query ≡ query = cc in e
by-reply b c new m number query q fresh parts k version o is out (asks_once_more n number_of_query p mode asked w drops whole own again later all asks few) =
    let same : Some (AskOut n number_of_query p mode asked) ≡ Some (AskOut number query q fresh parts) = sym own ∙ out in
    let e : number_of_query ≡ query = cc in
    let f : p ≡ q = cc in
    let g : mode ≡ fresh = cc in (
      sym g ∙ not-fresh mode (has_lapse c.laid) again,
      refl,
      ap (λ x. Some (AskOut c.next_request x p true whole)) e ∙ ap (λ x. Some (AskOut c.next_request query x true whole)) f,
    )
by-reply b c new m number query q fresh parts k version o is out (written n w drops own later all) = absurd (cc)
by-reply b c new m number query q fresh parts k version o is out (refused_write n fault drops own later all) = absurd (cc)
by-reply b c new m number query q fresh parts k version o is out (is_welcomed n w kept drops own later all) = absurd (cc)

pub replies-answer : RepliesAnswer
replies-answer b c new number query q fresh parts k version o out step = by-reply b c new (Reply k version) number query q fresh parts k version o refl out step

-- ---- what is dropped

abbrev Keep : List Mark → Type 0
Keep marks = list_all (λ mark. not (drops_pieces mark)) marks ≡ true

one-more : (m : Mark) (ms : List Mark) → not (drops_pieces m) ≡ true → Keep ms → Keep (m ∷ ms)
one-more m ms e h = rw (e, h) refl

keep-append : (ms ns : List Mark) → Keep ms → Keep ns → Keep (ms ++ ns)
keep-append ms ns a b = list_all-append (λ mark. not (drops_pieces mark)) ms ns ∙ rw (a, b) refl

-- a drop of a class has its cause
of-cause : (schema : List Table) (marks : List Mark) (queries : List Numbered) (cause : Cause) (k : Class) (d : Mark) → is_pieces cause ≡ false → IsDropOf schema marks queries cause k d → not (drops_pieces d) ≡ true
of-cause schema marks queries cause k (Held table attrs rects) other h = absurd h
of-cause schema marks queries cause k (Dropped why table attrs stamp rects) other h = ap (λ x. not (is_pieces x)) h.0 ∙ ap not other

for-rows : (schema : List Table) (limits : Limits) (count : List Mark → ℕ) (queries : List Numbered) (marks drops : List Mark) → DropsForRows schema limits count queries marks drops → Keep drops
for-rows schema limits count queries marks [] h = refl
for-rows schema limits count queries marks (d ∷ drops) (more, k, victim, drop, rest) = one-more d drops (of-cause schema marks queries RowsCause k d refl drop) (for-rows schema limits count queries (d ∷ marks) drops rest)

for-regions : (schema : List Table) (limits : Limits) (queries : List Numbered) (marks drops : List Mark) → DropsForRegions schema limits queries marks drops → Keep drops
for-regions schema limits queries marks [] h = refl
for-regions schema limits queries marks (d ∷ drops) (classes, are, more, k, victim, drop, rest) = one-more d drops (of-cause schema marks queries Regions k d refl drop) (for-regions schema limits queries (d ∷ marks) drops rest)

for-each : (schema : List Table) (marks : List Mark) (queries : List Numbered) (cause : Cause) → is_pieces cause ≡ false → (classes : List Class) (drops : List Mark) → DropsEach schema marks queries cause classes drops → Keep drops
for-each schema marks queries cause other [] drops none = subst Keep (sym none) refl
for-each schema marks queries cause other (k ∷ classes) [] h = absurd h
for-each schema marks queries cause other (k ∷ classes) (d ∷ drops) (one, rest) = one-more d drops (of-cause schema marks queries cause k d other one) (for-each schema marks queries cause other classes drops rest)

for-absorbed : (schema : List Table) (marks : List Mark) (queries : List Numbered) (classes : List Class) (drops : List Mark) → AbsorbsFrom schema marks queries classes drops → Keep drops
for-absorbed schema marks queries [] drops none = subst Keep (sym none) refl
for-absorbed schema marks queries (k ∷ classes) drops (inl (not_absorbed, rest)) = for-absorbed schema marks queries classes drops rest
for-absorbed schema marks queries (k ∷ classes) drops (inr (absorbed, d, more, are, drop, rest)) =
    subst Keep (sym are) (one-more d more (of-cause schema marks queries Absorbed k d refl drop) (for-absorbed schema marks queries classes more rest))

for-held : (schema : List Table) (asked : List AskPart) (held : List Mark) → AllZip (Holds schema) asked held → Keep held
for-held schema [] [] h = refl
for-held schema [] (m ∷ held) h = absurd h
for-held schema (ask ∷ asked) [] h = absurd h
for-held schema (ask ∷ asked) (Held t attrs rects ∷ held) h = for-held schema asked held h.1
for-held schema (ask ∷ asked) (Dropped cause t attrs stamp rects ∷ held) h = absurd h.0

by-answer : (b : Basis) (a : Answering) (c new : Client) (marks : List Mark) → (IsHeavy b.schema c.marks a.asked a.query (counted c.counted_from a.queries) → ⊥) → AnswerStep b a c marks new → Keep marks
by-answer b a c new marks light (renewed ms r) =
    subst Keep (sym r.all)
    (keep-append r.held (r.absorbed ++ r.drops) (for-held b.schema a.asked r.held r.holds)
    (keep-append r.absorbed r.drops (for-absorbed b.schema _ a.queries r.absorbs.0 r.absorbed r.absorbs.2)
    (subst Keep (sym r.budgets.all)
    (keep-append r.budgets.rows r.budgets.regions (for-rows b.schema b.limits (b.count a.version) a.queries _ r.budgets.rows r.budgets.for_rows) (for-regions b.schema b.limits a.queries _ r.budgets.regions r.budgets.for_regions)))))
by-answer b a c new marks light (given_up ms g) = absurd (light g.heavy)

before-light : (b : Basis) (q : Query) (c old : Client) (drops : List Mark) → (IsHeavy b.schema c.marks [] q (counted c.counted_from (with_query q false c)) → ⊥) → Before b q c drops old → Keep drops
before-light b q c old drops light as_it_is = refl
before-light b q c old drops light (emptied ds first) = absurd (light first.heavy)

query-light : (b : Basis) (c new : Client) (q : Query) (text : Result Query Fault) (o : Outcome) → text ≡ Ok q
    → (IsHeavy b.schema c.marks [] q (counted c.counted_from (with_query q true c)) → ⊥) → (IsHeavy b.schema c.marks [] q (counted c.counted_from (with_query q false c)) → ⊥)
    → QueryStep b c text o new → DropsNoPieces o
query-light b c new q text o is light before (query_refused fault) = refl
query-light b c new q text o is light before (query_busy m request out) = refl
query-light b c new q text o is light before (query_answered m rows marks after out asks are step) =
    let same : q ≡ m = cc in
    by-answer b (answering_now c m) c after marks (subst (λ x. IsHeavy b.schema c.marks [] x (counted c.counted_from (with_query x true c)) → ⊥) same light) step
query-light b c new q text o is light before (query_down m out down left) = refl
query-light b c new q text o is light before (query_asks m drops old ask others fresh out by up asks few mode) =
    let same : q ≡ m = cc in
    before-light b m c old drops (subst (λ x. IsHeavy b.schema c.marks [] x (counted c.counted_from (with_query x false c)) → ⊥) same before) by

pub light-queries-keep-their-pieces : LightQueriesKeepTheirPieces
light-queries-keep-their-pieces b c new q o light before step = query-light b c new q (Ok q) o refl light before step

reply-light : (b : Basis) (c new : Client) (m : Message) (number query : ℕ) (q : Query) (fresh : Bool) (parts : List AskPart) (k version : ℕ) (o : Outcome)
    → m ≡ Reply k version → c.out ≡ Some (AskOut number query q fresh parts) → (IsHeavy b.schema c.marks parts q (counted c.counted_from (with_answered query q c.queries)) → ⊥)
    → TakeStep b c m o new → DropsNoPieces o
reply-light b c new m number query q fresh parts k version o is out light (lays request x own laid for) = refl
reply-light b c new m number query q fresh parts k version o is out light (applies w told drops own later meets) = refl
reply-light b c new m number query q fresh parts k version o is out light (forgets w drops own later all) = refl
reply-light b c new m number query q fresh parts k version o is out light (answers n number_of_query p mode asked w rows marks after own whole later are step) =
    let same : Some (AskOut n number_of_query p mode asked) ≡ Some (AskOut number query q fresh parts) = sym own ∙ out in
    let e : query ≡ number_of_query = cc in
    let f : q ≡ p = cc in
    let g : parts ≡ asked = cc in
    by-answer b (answering_then c number_of_query p asked w) c after marks
    (subst (λ x. IsHeavy b.schema c.marks asked p (counted c.counted_from (with_answered x p c.queries)) → ⊥) e
    (subst (λ x. IsHeavy b.schema c.marks asked x (counted c.counted_from (with_answered query x c.queries)) → ⊥) f
    (subst (λ x. IsHeavy b.schema c.marks x q (counted c.counted_from (with_answered query q c.queries)) → ⊥) g light))) step
reply-light b c new m number query q fresh parts k version o is out light (asks_once_more n number_of_query p mode asked w drops whole own again later all asks few) =
    for-each b.schema c.marks c.queries Lapsed refl all.0 drops all.2
reply-light b c new m number query q fresh parts k version o is out light (written n w drops own later all) = refl
reply-light b c new m number query q fresh parts k version o is out light (refused_write n fault drops own later all) = refl
reply-light b c new m number query q fresh parts k version o is out light (is_welcomed n w kept drops own later all) = refl

pub light-replies-keep-their-pieces : LightRepliesKeepTheirPieces
light-replies-keep-their-pieces b c new number query q fresh parts k version o out light step = reply-light b c new (Reply k version) number query q fresh parts k version o refl out light step
