-- Each line of a trace is one of an event at its moment.
use Rattle.std.proofs.Common.{◌≡◌, ℕ, ◌+◌, Bool, List, [], ◌∷◌, ◌++◌, refl, sym, ◌∙◌, ap, subst, inl, inr}
use Rattle.std.specs.Prelude.{◌⊎◌, IsTrue, Result}
use Rattle.std.proofs.lemmas.List.{append-nil, append_assoc, map-append}
use Rattle.sr_cell.specs.declared.fault.Fault.{Fault}
use Rattle.sr_model.specs.Queries.{Query}
use Rattle.sr_script.specs.declared.line.TraceLine.{TraceLine}
use Rattle.sr_script.specs.declared.line.TraceLine.TheVariants as line
use Rattle.sr_session.specs.Scenes.{Event, Report, Scene}
use Rattle.sr_session.specs.Texts.{long_text}
use Rattle.sr_explain.specs.Telling.{ExplainsTo}
use Rattle.sr_runs.specs.Lines.{lines_of}
use Rattle.sr_lines.specs.Events.{ScriptEvent}
use Rattle.sr_runs.specs.Runs.{Acts, AllSettle, Does, Settles, Steps, acts, alone, delivers, does, does_settle, eagerly, ends, explains, goes_on, is_quiet, no_client, numbered, one_more, too_long}
use Rattle.sr_runs.specs.Headline.{IsExplained, IsMoment, IsStep, IsTold, Leads, LinesAreTold, is_of_no_event}
use Rattle.sr_runs.proofs.Splits.{Side, in_left, in_right, none-there, only-one, split}
use Rattle.sr_runs.proofs.StepLemmas.{acts-lead, all-settle-lead, both, does-lead, nothing, settles-lead}

-- ---- lines of a step

-- the line is one of an event at its moment, and so are the lines behind it
pub record ToldHere (s new : Scene) (l : TraceLine) (behind : List TraceLine) : Type 0 where
  pub event : Event
  pub report : Report
  pub moment : IsMoment s new event report
  pub front : List TraceLine
  pub own : List TraceLine
  pub lines : lines_of event report ≡ front ++ l ∷ own
  pub rest : List TraceLine
  pub behind_is : behind ≡ own ++ rest

-- the line is one of an explanation at its moment, and so are the lines behind it
pub record ExplainedHere (s new : Scene) (l : TraceLine) (behind : List TraceLine) : Type 0 where
  pub there : Scene
  pub leads : Leads s there
  pub follows : Leads there new
  pub client : ℕ
  pub text : Result Query Fault
  pub front : List TraceLine
  pub own : List TraceLine
  pub explains : ExplainsTo there client text (front ++ l ∷ own)
  pub rest : List TraceLine
  pub behind_is : behind ≡ own ++ rest

abbrev pub Told : Scene → Scene → TraceLine → List TraceLine → Type 0
Told s new l behind = ToldHere s new l behind ⊎ (ExplainedHere s new l behind ⊎ IsTrue (is_of_no_event l))

abbrev pub AllTold : Scene → Scene → List TraceLine → Type 0
AllTold s new lines = (front : List TraceLine) (l : TraceLine) (behind : List TraceLine) → lines ≡ front ++ l ∷ behind → Told s new l behind

abbrev pub wider : (s mid after new : Scene) (event : Event) (report : Report) → Leads s mid → Leads after new → IsMoment mid after event report → IsMoment s new event report
wider s mid after new event report first last m = record {
  before = m.before;
  after = m.after;
  leads = both s mid m.before first m.leads;
  happens = m.happens;
  follows = both m.after after new m.follows last;
}

widen : (s mid after new : Scene) (l : TraceLine) (behind rest all : List TraceLine) → Leads s mid → Leads after new → all ≡ behind ++ rest
    → Told mid after l behind → Told s new l all
widen s mid after new l behind rest all first last are (inl h) = inl (record {
  event = h.event;
  report = h.report;
  moment = wider s mid after new h.event h.report first last h.moment;
  front = h.front;
  own = h.own;
  lines = h.lines;
  rest = h.rest ++ rest;
  behind_is = are ∙ (ap (λ b. b ++ rest) h.behind_is ∙ append_assoc h.own h.rest rest);
})
widen s mid after new l behind rest all first last are (inr (inl h)) = inr (inl (record {
  there = h.there;
  leads = both s mid h.there first h.leads;
  follows = both h.there after new h.follows last;
  client = h.client;
  text = h.text;
  front = h.front;
  own = h.own;
  explains = h.explains;
  rest = h.rest ++ rest;
  behind_is = are ∙ (ap (λ b. b ++ rest) h.behind_is ∙ append_assoc h.own h.rest rest);
}))
widen s mid after new l behind rest all first last are (inr (inr h)) = inr (inr h)

joined-told : (s mid new : Scene) (xs ys : List TraceLine) → Leads s mid → Leads mid new → AllTold s mid xs → AllTold mid new ys → AllTold s new (xs ++ ys)
joined-told s mid new xs ys first last one two front l behind is = go (split xs ys front l behind is)
  where
    go : Side xs ys front l behind → Told s new l behind
    go (in_left middle e f) = widen s s mid new l middle ys behind (nothing s) last f (one front l middle e)
    go (in_right middle e f) = widen s mid new new l behind [] behind first (nothing new) (sym (append-nil behind)) (two middle l behind f)

none-told : (s new : Scene) → AllTold s new []
none-told s new front l behind is = absurd (none-there front l behind is)

-- a list of one line of no event
own-told : (s new : Scene) (own : TraceLine) → IsTrue (is_of_no_event own) → AllTold s new (own ∷ [])
own-told s new own none front l behind is = inr (inr (subst (λ x. IsTrue (is_of_no_event x)) (only-one own front l behind is) none))

acts-told : (s new : Scene) (what : ScriptEvent) (lines : List TraceLine) → Acts s what lines new → AllTold s new lines
acts-told s new what lines (acts a event report b is happens) front l behind there = inl (record {
  event = event;
  report = report;
  moment = record { before = s; after = new; leads = nothing s; happens = happens; follows = nothing new };
  front = front;
  own = behind;
  lines = there;
  rest = [];
  behind_is = sym (append-nil behind);
})
acts-told s new what lines (too_long n sql pair is long) front l behind there = own-told s new (line.WriteSql n long_text) refl front l behind there
acts-told s new what lines (explains n text ls is) front l behind there = inr (inl (record {
  there = s;
  leads = nothing s;
  follows = nothing s;
  client = n;
  text = text;
  front = front;
  own = behind;
  explains = subst (ExplainsTo s n text) there is;
  rest = [];
  behind_is = sym (append-nil behind);
}))

settles-told : (n : ℕ) (s : Scene) (frames : ℕ) (lines : List TraceLine) (new : Scene) → Settles n s frames lines new → AllTold s new lines
settles-told n s frames lines new (is_quiet a pair is quiet) front l behind there = none-told s new front l behind there
settles-told n s frames lines new (delivers a pair what first mid left rest last is next act more) front l behind there =
    joined-told s mid new first rest (acts-lead s mid what first act) (settles-lead n mid left rest new more) (acts-told s mid what first act) (settles-told n mid left rest new more)
    front l behind there

all-settle-told : (n clients : ℕ) (s : Scene) (lines : List TraceLine) (new : Scene) → AllSettle n clients s lines new → AllTold s new lines
all-settle-told n clients s lines new (no_client k a) front l behind there = none-told s new front l behind there
all-settle-told n clients s lines new (one_more k left a frames first mid rest last one others) front l behind there =
    joined-told s mid new first rest (settles-lead n s frames first mid one) (all-settle-lead (n + 1) left mid rest new others) (settles-told n s frames first mid one)
    (all-settle-told (n + 1) left mid rest new others) front l behind there

does-told : (s new : Scene) (what : ScriptEvent) (lines : List TraceLine) → Does s what lines new → AllTold s new lines
does-told s new what lines (does a b c act) front l behind there = acts-told s new what lines act front l behind there
does-told s new what lines (does_settle n frames first b settle) front l behind there =
    joined-told s new new first (line.Settled n frames ∷ []) (settles-lead n s frames first new settle) (nothing new) (settles-told n s frames first new settle)
    (own-told new new (line.Settled n frames) refl) front l behind there

pub steps-told : (eager : Bool) (s new : Scene) (what : ScriptEvent) (lines : List TraceLine) → Steps eager s what lines new → AllTold s new lines
steps-told eager s new what lines (alone a b c d one) front l behind there = does-told s new what lines one front l behind there
steps-told eager s new what lines (eagerly a b first mid rest d one settle) front l behind there =
    joined-told s mid new first rest (does-lead s mid what first one) (all-settle-lead 1 _ mid rest new settle) (does-told s mid what first one) (all-settle-told 1 _ mid rest new settle)
    front l behind there

-- ---- lines of a run

-- a line with its number stands among numbered lines
pub record AmongNumbered (number : ℕ) (lines : List TraceLine) (before : List (ℕ × TraceLine)) (k : ℕ) (l : TraceLine) (behind : List (ℕ × TraceLine)) : Type 0 where
  pub front : List TraceLine
  pub own : List TraceLine
  pub lines_are : lines ≡ front ++ l ∷ own
  pub number_is : number ≡ k
  pub before_is : before ≡ numbered k front
  pub behind_is : behind ≡ numbered k own

pub among : (number : ℕ) (lines : List TraceLine) (front : List (ℕ × TraceLine)) (k : ℕ) (l : TraceLine) (behind : List (ℕ × TraceLine))
    → numbered number lines ≡ front ++ (k, l) ∷ behind → AmongNumbered number lines front k l behind
among number [] front k l behind is = absurd (none-there front (k, l) behind is)
among number (x ∷ lines) [] k l behind is =
    let one : ◌≡◌ {A = ℕ × TraceLine} (number, x) (k, l) = cc in
    let rest : numbered number lines ≡ behind = cc in
    let here : number ≡ k = ap (λ (p : ℕ × TraceLine). p.0) one in
    let same : x ≡ l = ap (λ (p : ℕ × TraceLine). p.1) one in
    record { front = []; own = lines; lines_are = ap (λ y. y ∷ lines) same; number_is = here; before_is = refl; behind_is = sym rest ∙ ap (λ m. numbered m lines) here }
among number (x ∷ lines) (y ∷ front) k l behind is =
    let rest : numbered number lines ≡ front ++ (k, l) ∷ behind = cc in
    let one : ◌≡◌ {A = ℕ × TraceLine} (number, x) y = cc in
    let h = among number lines front k l behind rest in
    record {
      front = x ∷ h.front;
      own = h.own;
      lines_are = ap (λ z. x ∷ z) h.lines_are;
      number_is = h.number_is;
      before_is = ap (λ p. p ∷ front) (sym one) ∙ (ap (λ ys. (number, x) ∷ ys) h.before_is ∙ ap (λ m. (m, x) ∷ numbered k h.front) h.number_is);
      behind_is = h.behind_is;
    }

abbrev Numbered : Scene → Scene → ℕ → TraceLine → List (ℕ × TraceLine) → Type 0
Numbered s new number l behind = IsTold s new number l behind ⊎ (IsExplained s new number l behind ⊎ IsTrue (is_of_no_event l))

pub farther : (s mid after new : Scene) (number : ℕ) (l : TraceLine) (behind rest all : List (ℕ × TraceLine)) → Leads s mid → Leads after new → all ≡ behind ++ rest
    → Numbered mid after number l behind → Numbered s new number l all
farther s mid after new number l behind rest all first last are (inl h) = inl (record {
  event = h.event;
  report = h.report;
  moment = wider s mid after new h.event h.report first last h.moment;
  front = h.front;
  own = h.own;
  lines = h.lines;
  rest = h.rest ++ rest;
  behind_is = are ∙ (ap (λ b. b ++ rest) h.behind_is ∙ append_assoc (numbered number h.own) h.rest rest);
})
farther s mid after new number l behind rest all first last are (inr (inl h)) = inr (inl (record {
  there = h.there;
  leads = both s mid h.there first h.leads;
  follows = both h.there after new h.follows last;
  client = h.client;
  text = h.text;
  front = h.front;
  own = h.own;
  explains = h.explains;
  rest = h.rest ++ rest;
  behind_is = are ∙ (ap (λ b. b ++ rest) h.behind_is ∙ append_assoc (numbered number h.own) h.rest rest);
}))
farther s mid after new number l behind rest all first last are (inr (inr h)) = inr (inr h)

with-number : (s new : Scene) (number : ℕ) (l : TraceLine) (behind : List TraceLine) → Told s new l behind → Numbered s new number l (numbered number behind)
with-number s new number l behind (inl h) = inl (record {
  event = h.event;
  report = h.report;
  moment = h.moment;
  front = h.front;
  own = h.own;
  lines = h.lines;
  rest = numbered number h.rest;
  behind_is = ap (numbered number) h.behind_is ∙ map-append (λ line. (number, line)) h.own h.rest;
})
with-number s new number l behind (inr (inl h)) = inr (inl (record {
  there = h.there;
  leads = h.leads;
  follows = h.follows;
  client = h.client;
  text = h.text;
  front = h.front;
  own = h.own;
  explains = h.explains;
  rest = numbered number h.rest;
  behind_is = ap (numbered number) h.behind_is ∙ map-append (λ line. (number, line)) h.own h.rest;
}))
with-number s new number l behind (inr (inr h)) = inr (inr h)

pub lines-are-told : LinesAreTold
lines-are-told eager s new events lines (ends a) front number l behind there = absurd (none-there front (number, l) behind there)
lines-are-told eager s new events lines (goes_on a k what first mid left rest last step more) front number l behind there =
    go (λ middle f. lines-are-told eager mid new left rest more middle number l behind f) (split (numbered k first) rest front (number, l) behind there)
  where
    go : ((middle : List (ℕ × TraceLine)) → rest ≡ middle ++ (number, l) ∷ behind → (at : IsStep eager mid new left number middle) × Numbered at.there at.next number l behind)
        → Side (numbered k first) rest front (number, l) behind → (at : IsStep eager s new ((k, what) ∷ left) number front) × Numbered at.there at.next number l behind
    go on (in_left middle e f) =
        let h = among k first front number l middle e in (
          record {
            earlier = [];
            what = what;
            later = left;
            events_are = ap (λ m. (m, what) ∷ left) h.number_is;
            there = s;
            lines = [];
            runs = ends s;
            next = mid;
            own = first;
            steps = step;
            written = h.front;
            front_is = h.before_is;
            rest = rest;
            ends = more;
          },
          farther s s mid mid number l (numbered number h.own) rest behind (nothing s) (nothing mid) (f ∙ ap (λ b. b ++ rest) h.behind_is)
              (with-number s mid number l h.own (steps-told eager s mid what first step h.front l h.own h.lines_are)),
        )
    go on (in_right middle e f) =
        let h = on middle f in (
          record {
            earlier = (k, what) ∷ h.0.earlier;
            what = h.0.what;
            later = h.0.later;
            events_are = ap (λ es. (k, what) ∷ es) h.0.events_are;
            there = h.0.there;
            lines = numbered k first ++ h.0.lines;
            runs = goes_on s k what first mid h.0.earlier h.0.lines h.0.there step h.0.runs;
            next = h.0.next;
            own = h.0.own;
            steps = h.0.steps;
            written = h.0.written;
            front_is = e ∙ (ap (λ m. numbered k first ++ m) h.0.front_is ∙ sym (append_assoc (numbered k first) h.0.lines (numbered number h.0.written)));
            rest = h.0.rest;
            ends = h.0.ends;
          },
          h.1,
        )
