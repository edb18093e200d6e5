-- The versions that the lines of one client name never fall along a trace.
use Rattle.std.proofs.Common.{◌≡◌, ℕ, ◌+◌, ◌≤◌, Bool, List, [], ◌∷◌, ◌++◌, refl, sym, ◌∙◌, ap, subst, arith, Option, Some, None}
use Rattle.std.proofs.lemmas.List.{append_assoc}
use Rattle.sr_script.specs.declared.line.TraceLine.{TraceLine}
use Rattle.sr_script.specs.declared.line.TraceLine.TheVariants as line
use Rattle.sr_session.specs.Clients.{Pair}
use Rattle.sr_session.specs.Scenes.{Event, Happens, Report, Scene, client_of, done, first_scene, pair_at}
use Rattle.sr_session.specs.Texts.{long_text}
use Rattle.sr_session.specs.Headline.{IsReached}
use Rattle.sr_session.proofs.GrowLemmas.{versions-never-fall}
use Rattle.sr_explain.specs.Telling.{ExplainsTo}
use Rattle.sr_lines.specs.Events.{ScriptEvent}
use Rattle.sr_runs.specs.Lines.{lines_of}
use Rattle.sr_runs.specs.Runs.{Acts, AllSettle, Does, Runs, Settles, Steps, acts, alone, delivers, does, does_settle, eagerly, ends, explains, goes_on, is_quiet, no_client, numbered, one_more, too_long}
use Rattle.sr_runs.specs.Headline.{AnswerVersionsNeverFall, Leads, start_of}
use Rattle.sr_runs.proofs.Splits.{Side, in_left, in_right, none-there, only-one, split}
use Rattle.sr_runs.specs.Versions.{NamedVersionsNeverFall, version_named}
use Rattle.sr_runs.proofs.ExplainLemmas.{no-version}
use Rattle.sr_runs.proofs.NamedLemmas.{at, event-of, one-of, version_in, version_of}
use Rattle.sr_runs.proofs.MomentLemmas.{among}
use Rattle.sr_runs.proofs.PairLemmas.{still-there}
use Rattle.sr_runs.proofs.StepLemmas.{acts-lead, both, does-lead, settles-lead, steps-are-events}

-- What the elements of a list name lies between both numbers, and never falls.
record Rises {X : Type 0} (Names : ℕ → X → Type 0) (low high : ℕ) (xs : List X) : Type 0 where
  grows : low ≤ high
  within : (front : List X) (x : X) (behind : List X) (v : ℕ) → xs ≡ front ++ x ∷ behind → Names v x → (low ≤ v) × (v ≤ high)
  ascends : (front : List X) (x : X) (between : List X) (y : X) (behind : List X) (v w : ℕ) → xs ≡ front ++ x ∷ (between ++ y ∷ behind)
      → Names v x → Names w y → v ≤ w

joined : {X : Type 0} (Names : ℕ → X → Type 0) (low mid high : ℕ) (xs ys : List X) → Rises Names low mid xs → Rises Names mid high ys → Rises Names low high (xs ++ ys)
joined {X} Names low mid high xs ys one two = record {
  grows = let a = one.grows in let b = two.grows in omega (arith, a, b);
  within = λ front x behind v is names. inside front x behind v names (split xs ys front x behind is);
  ascends = λ front x between y behind v w is first later. order front x between y behind v w first later (split xs ys front x (between ++ y ∷ behind) is);
}
  where
    inside : (front : List X) (x : X) (behind : List X) (v : ℕ) → Names v x → Side xs ys front x behind → (low ≤ v) × (v ≤ high)
    inside front x behind v names (in_left middle e f) =
        let h = one.within front x middle v e names in let up = two.grows in (h.0, omega (arith, h, up))
    inside front x behind v names (in_right middle e f) =
        let h = two.within middle x behind v f names in let up = one.grows in (omega (arith, h, up), h.1)

    left : (front : List X) (x : X) (between : List X) (y : X) (behind : List X) (v w : ℕ) (middle : List X) → Names v x → Names w y → xs ≡ front ++ x ∷ middle
        → Side middle ys between y behind → v ≤ w
    left front x between y behind v w middle first later e (in_left rest g h) = one.ascends front x between y rest v w (e ∙ ap (λ m. front ++ x ∷ m) g) first later
    left front x between y behind v w middle first later e (in_right rest g h) =
        let a = one.within front x middle v e first in let b = two.within rest y behind w h later in omega (arith, a, b)

    order : (front : List X) (x : X) (between : List X) (y : X) (behind : List X) (v w : ℕ) → Names v x → Names w y → Side xs ys front x (between ++ y ∷ behind) → v ≤ w
    order front x between y behind v w first later (in_left middle e f) =
        left front x between y behind v w middle first later e (split middle ys between y behind (sym f))
    order front x between y behind v w first later (in_right middle e f) = two.ascends middle x between y behind v w f first later

-- where nothing is named
silent : {X : Type 0} (Names : ℕ → X → Type 0) (v : ℕ) (xs : List X)
    → ((front : List X) (x : X) (behind : List X) (w : ℕ) → xs ≡ front ++ x ∷ behind → Names w x → ⊥) → Rises Names v v xs
silent {X} Names v xs none = record {
  grows = omega (arith);
  within = λ front x behind w is names. absurd (none front x behind w is names);
  ascends = λ front x between y behind w u is first later. absurd (none front x (between ++ y ∷ behind) w is first);
}

-- ---- lines of an event

-- the line names this version of client n
abbrev Names : ℕ → ℕ → TraceLine → Type 0
Names n version l = version_named l ≡ Some (at n version)

abbrev LinesRise : ℕ → Scene → Scene → List TraceLine → Type 0
LinesRise n s new lines = Rises (Names n) (version_of s n) (version_of new n) lines

not-below : (s new : Scene) (event : Event) (report : Report) (n : ℕ) → IsReached s → Happens s event report new → version_of s n ≤ version_of new n
not-below s new event report n reached happens = by (pair_at s n) refl
  where
    by : (found : Option Pair) → pair_at s n ≡ found → version_in found ≤ version_of new n
    by None is = omega (arith)
    by (Some old) is =
        let on = still-there s new event report happens n old is in
        let up = (versions-never-fall s new event report n old on.0 reached happens is on.1).0 in
        let e : version_of new n ≡ on.0.client.version = ap version_in on.1 in
        omega (arith, up, e)

event-rises : (s new : Scene) (event : Event) (report : Report) (n : ℕ) → IsReached s → Happens s event report new → LinesRise n s new (lines_of event report)
event-rises s new event report n reached happens = record {
  grows = not-below s new event report n reached happens;
  within = λ front l behind v is named. let h = here front l behind v is named in (h.0, omega (arith, h));
  ascends = λ front l between m behind v w is first later.
      let a = here front l (between ++ m ∷ behind) v is first in
      let b = here (front ++ l ∷ between) m behind w (is ∙ sym (append_assoc front (l ∷ between) (m ∷ behind))) later in
      omega (arith, a, b);
}
  where
    here : (front : List TraceLine) (l : TraceLine) (behind : List TraceLine) (v : ℕ) → lines_of event report ≡ front ++ l ∷ behind → Names n v l
        → (version_of s n ≤ v) × (v ≡ version_of new n)
    here front l behind v is named =
        let same : at n v ≡ at (client_of event) (version_of new (client_of event)) =
        one-of (client_of event) (version_of new (client_of event)) (lines_of event report) front l behind (event-of s new event report happens) is (at n v) named in
        let of_n : n ≡ client_of event = ap (λ c. c.client) same in
        let of_v : v ≡ version_of new n = ap (λ c. c.version) same ∙ ap (version_of new) (sym of_n) in
        let up = not-below s new event report n reached happens in
        (omega (arith, up, of_v), of_v)

-- ---- lines of a step

reached-on : (s new : Scene) → IsReached s → Leads s new → IsReached new
reached-on s new r leads =
    let led = both (first_scene r.limits r.schema r.log_limit r.tables r.clients) s new (r.events, r.reports, r.runs) leads in
    record { limits = r.limits; schema = r.schema; log_limit = r.log_limit; tables = r.tables; clients = r.clients; events = led.0; reports = led.1; runs = led.2 }

steps-join : (n : ℕ) (s mid new : Scene) (xs ys : List TraceLine) → LinesRise n s mid xs → LinesRise n mid new ys → LinesRise n s new (xs ++ ys)
steps-join n s mid new xs ys one two = joined (Names n) (version_of s n) (version_of mid n) (version_of new n) xs ys one two

-- a line that names no version, while nothing happens
own-rises : (n : ℕ) (s : Scene) (own : TraceLine) → version_named own ≡ None → LinesRise n s s (own ∷ [])
own-rises n s own none = silent (Names n) (version_of s n) (own ∷ []) (λ front l behind v is named.
    let wrong : None ≡ Some (at n v) = sym none ∙ ap version_named (only-one own front l behind is) ∙ named in absurd (cc))

acts-rise : (n : ℕ) (s new : Scene) (what : ScriptEvent) (lines : List TraceLine) → IsReached s → Acts s what lines new → LinesRise n s new lines
acts-rise n s new what lines reached (acts a event report b is happens) = event-rises s new event report n reached happens
acts-rise n s new what lines reached (too_long k sql pair is long) = own-rises n s (line.WriteSql k long_text) refl
acts-rise n s new what lines reached (explains k text ls is) = silent (Names n) (version_of s n) ls (λ front l behind v there named.
    no-version s k text front l behind (at n v) named (subst (ExplainsTo s k text) there is))

settles-rise : (k n : ℕ) (s : Scene) (frames : ℕ) (lines : List TraceLine) (new : Scene) → IsReached s → Settles k s frames lines new → LinesRise n s new lines
settles-rise k n s frames lines new reached (is_quiet a pair is quiet) = silent (Names n) (version_of s n) [] (λ front l behind v there named. none-there front l behind there)
settles-rise k n s frames lines new reached (delivers a pair what first mid left rest last is next act more) =
    let on = reached-on s mid reached (acts-lead s mid what first act) in
    steps-join n s mid new first rest (acts-rise n s mid what first reached act) (settles-rise k n mid left rest new on more)

all-settle-rise : (k clients n : ℕ) (s : Scene) (lines : List TraceLine) (new : Scene) → IsReached s → AllSettle k clients s lines new → LinesRise n s new lines
all-settle-rise k clients n s lines new reached (no_client i a) = silent (Names n) (version_of s n) [] (λ front l behind v there named. none-there front l behind there)
all-settle-rise k clients n s lines new reached (one_more i left a frames first mid rest last one others) =
    let on = reached-on s mid reached (settles-lead k s frames first mid one) in
    steps-join n s mid new first rest (settles-rise k n s frames first mid reached one) (all-settle-rise (k + 1) left n mid rest new on others)

does-rise : (n : ℕ) (s new : Scene) (what : ScriptEvent) (lines : List TraceLine) → IsReached s → Does s what lines new → LinesRise n s new lines
does-rise n s new what lines reached (does a b c act) = acts-rise n s new what lines reached act
does-rise n s new what lines reached (does_settle k frames first b settle) =
    steps-join n s new new first (line.Settled k frames ∷ []) (settles-rise k n s frames first new reached settle) (own-rises n new (line.Settled k frames) refl)

steps-rise : (eager : Bool) (n : ℕ) (s new : Scene) (what : ScriptEvent) (lines : List TraceLine) → IsReached s → Steps eager s what lines new → LinesRise n s new lines
steps-rise eager n s new what lines reached (alone a b c d one) = does-rise n s new what lines reached one
steps-rise eager n s new what lines reached (eagerly a b first mid rest d one settle) =
    let on = reached-on s mid reached (does-lead s mid what first one) in
    steps-join n s mid new first rest (does-rise n s mid what first reached one) (all-settle-rise 1 _ n mid rest new on settle)

-- ---- lines of a run

abbrev NamesBehind : ℕ → ℕ → ℕ × TraceLine → Type 0
NamesBehind n version numbered = Names n version numbered.1

numbered-rise : (n low high k : ℕ) (lines : List TraceLine) → Rises (Names n) low high lines → Rises (NamesBehind n) low high (numbered k lines)
numbered-rise n low high k lines h = record {
  grows = h.grows;
  within = λ front x behind v is named. let at = among k lines front x.0 x.1 behind is in h.within at.front x.1 at.own v at.lines_are named;
  ascends = λ front x between y behind v w is first later.
      let at = among k lines front x.0 x.1 (between ++ y ∷ behind) is in
      let more = among x.0 at.own between y.0 y.1 behind (sym at.behind_is) in
      h.ascends at.front x.1 more.front y.1 more.own v w (at.lines_are ∙ ap (λ own. at.front ++ x.1 ∷ own) more.lines_are) first later;
}

runs-rise : (eager : Bool) (n : ℕ) (s : Scene) (events : List (ℕ × ScriptEvent)) (lines : List (ℕ × TraceLine)) (new : Scene) → IsReached s → Runs eager s events lines new
    → Rises (NamesBehind n) (version_of s n) (version_of new n) lines
runs-rise eager n s events lines new reached (ends a) = silent (NamesBehind n) (version_of s n) [] (λ front l behind v there named. none-there front l behind there)
runs-rise eager n s events lines new reached (goes_on a k what first mid left rest last step more) =
    let on = reached-on s mid reached (steps-are-events eager s mid what first step) in
    joined (NamesBehind n) (version_of s n) (version_of mid n) (version_of new n) (numbered k first) rest
    (numbered-rise n (version_of s n) (version_of mid n) k first (steps-rise eager n s mid what first reached step))
    (runs-rise eager n mid left rest new on more)

pub named-versions-never-fall : NamedVersionsNeverFall
named-versions-never-fall last script front between behind a b n v w first later there one two =
    (runs-rise script.eager n start script.events script.lines last reached script.runs).ascends front (a, first) between (b, later) behind v w there one two
  where
    start : Scene
    start = start_of last script

    reached : IsReached start
    reached = record { limits = script.limits; schema = script.schema; log_limit = script.log_limit; tables = script.tables; clients = script.clients; events = []; reports = []; runs = done start }

pub answer-versions-never-fall : AnswerVersionsNeverFall
answer-versions-never-fall last script front between behind a b n first later v w rows more there =
    named-versions-never-fall last script front between behind a b n v w (line.Answer n first v rows) (line.Answer n later w more) there refl refl
