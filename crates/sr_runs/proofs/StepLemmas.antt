-- Steps of scripts are runs of events.
use Rattle.std.proofs.Common.{ℕ, ◌+◌, Bool, List, [], ◌∷◌, ◌++◌}
use Rattle.sr_script.specs.declared.line.TraceLine.{TraceLine}
use Rattle.sr_session.specs.Scenes.{Event, Report, Scene, first_scene, done, next}
use Rattle.sr_session.specs.Scenes.{Runs as EventsRun}
use Rattle.sr_session.proofs.ReachLemmas.{reached-stands}
use Rattle.sr_lines.specs.Events.{ScriptEvent}
use Rattle.sr_runs.specs.Runs.{Acts, AllSettle, Does, Runs, Settles, acts, alone, delivers, does, does_settle, eagerly, ends, explains, goes_on, is_quiet, no_client, one_more, too_long}
use Rattle.sr_runs.specs.Headline.{ScriptsReach, ScriptsStand, StepsAreEvents}

-- some events lead from one scene to another
abbrev pub Leads : Scene → Scene → Type 0
Leads s new = (events : List Event) × (reports : List Report) × EventsRun s events reports new

pub nothing : (s : Scene) → Leads s s
nothing s = ([], [], done s)

joined : (s mid new : Scene) (events others : List Event) (reports more : List Report) → EventsRun s events reports mid → EventsRun mid others more new
    → EventsRun s (events ++ others) (reports ++ more) new
joined s mid new events others reports more (done a) rest = rest
joined s mid new events others reports more (next a event report b left told c first after) rest =
    next a event report b (left ++ others) (told ++ more) new first (joined b mid new left others told more after rest)

pub both : (s mid new : Scene) → Leads s mid → Leads mid new → Leads s new
both s mid new first rest = (_, _, joined s mid new first.0 rest.0 first.1 rest.1 first.2 rest.2)

pub acts-lead : (s new : Scene) (what : ScriptEvent) (lines : List TraceLine) → Acts s what lines new → Leads s new
acts-lead s new what lines (acts a event report b is happens) = (event ∷ [], report ∷ [], next s event report new [] [] new happens (done new))
acts-lead s new what lines (too_long n sql pair is long) = nothing s
acts-lead s new what lines (explains n text ls is) = nothing s

pub settles-lead : (n : ℕ) (s : Scene) (frames : ℕ) (lines : List TraceLine) (new : Scene) → Settles n s frames lines new → Leads s new
settles-lead n s frames lines new (is_quiet a pair is quiet) = nothing s
settles-lead n s frames lines new (delivers a pair what front mid left rest last is first act more) =
    both s mid new (acts-lead s mid what front act) (settles-lead n mid left rest new more)

pub all-settle-lead : (n clients : ℕ) (s : Scene) (lines : List TraceLine) (new : Scene) → AllSettle n clients s lines new → Leads s new
all-settle-lead n clients s lines new (no_client k a) = nothing s
all-settle-lead n clients s lines new (one_more k left a frames front mid rest last one others) =
    both s mid new (settles-lead n s frames front mid one) (all-settle-lead (n + 1) left mid rest new others)

pub does-lead : (s new : Scene) (what : ScriptEvent) (lines : List TraceLine) → Does s what lines new → Leads s new
does-lead s new what lines (does a b c act) = acts-lead s new what lines act
does-lead s new what lines (does_settle n frames front b settle) = settles-lead n s frames front new settle

pub steps-are-events : StepsAreEvents
steps-are-events eager s new what lines (alone a b c d one) = does-lead s new what lines one
steps-are-events eager s new what lines (eagerly a b front mid rest d one settle) =
    both s mid new (does-lead s mid what front one) (all-settle-lead 1 _ mid rest new settle)

pub runs-lead : (eager : Bool) (s : Scene) (events : List (ℕ × ScriptEvent)) (lines : List (ℕ × TraceLine)) (new : Scene) → Runs eager s events lines new → Leads s new
runs-lead eager s events lines new (ends a) = nothing s
runs-lead eager s events lines new (goes_on a number what front mid left rest last step more) =
    both s mid new (steps-are-events eager s mid what front step) (runs-lead eager mid left rest new more)

pub scripts-reach : ScriptsReach
scripts-reach s h =
    let led = runs-lead h.eager (first_scene h.limits h.schema h.log_limit h.tables h.clients) h.events h.lines s h.runs in
    record { limits = h.limits; schema = h.schema; log_limit = h.log_limit; tables = h.tables; clients = h.clients; events = led.0; reports = led.1; runs = led.2 }

pub scripts-stand : ScriptsStand
scripts-stand s h = reached-stands s (scripts-reach s h)
