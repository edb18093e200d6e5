-- What the calls of a client do.
use Rattle.std.proofs.Common.{◌≡◌, ℕ, ◌≤◌, ◌<◌, Bool, true, false, List, [], ◌∷◌, ◌++◌, length, refl, sym, ◌∙◌, ap, subst, arith, Option, Some, None, Result, Ok, Err}
use Rattle.std.specs.Prelude.{IfOk, option_to_list, nat_le}
use Rattle.std.specs.List.{All}
use Rattle.std.proofs.lemmas.Bool.Decides.{nat_tests}
use Rattle.std.proofs.lemmas.List.Elements.{All-cons, All-nil}
use Rattle.std.proofs.lemmas.Result.{IfOk-weaker}
use Rattle.sr_cell.specs.declared.fault.Fault.{Fault}
use Rattle.sr_cell.specs.declared.table.Table.{Table}
use Rattle.sr_message.specs.declared.message.Message.{Message}
use Rattle.sr_message.specs.declared.message.Message.TheVariants as kinds
use Rattle.sr_model.specs.Queries.{Query}
use Rattle.sr_script.specs.declared.line.TraceLine.{TraceLine}
use Rattle.sr_script.specs.declared.line.TraceLine.TheVariants as line
use Rattle.sr_store.specs.Brought as brought
use Rattle.sr_session.specs.Clients as session
use Rattle.sr_session.specs.Rules as rules
use Rattle.sr_session.specs.Refusals.{is_request_of}
use Rattle.sr_session.specs.Rules.{Outcome, sent_of}
use Rattle.sr_session.specs.Texts.{long_text, most_text}
use Rattle.sr_session.specs.Bases.{basis_of}
use Rattle.sr_wire.specs.Limits.{IsSendable}
use Rattle.sr_runs.specs.Lines.{cut_line, details, evict_line, query_line, resume_line, write_line}
use Rattle.sr_links.specs.Steps.{Evicted, Queried, Resumed, WasCut, Wrote, too_long, writes}
use Rattle.sr_dial.specs.Calls.{last_lines}
use Rattle.sr_client.specs.declared.client.Client.{Client}
use Rattle.sr_client.specs.declared.steps.CutStep.{CutStep}
use Rattle.sr_client.specs.declared.steps.CutStep.TheVariants as cuts
use Rattle.sr_client.specs.declared.steps.EvictStep.{EvictStep}
use Rattle.sr_client.specs.declared.steps.EvictStep.TheVariants as evicts
use Rattle.sr_client.specs.declared.steps.QueryStep.{QueryStep}
use Rattle.sr_client.specs.declared.steps.QueryStep.TheVariants as query
use Rattle.sr_client.specs.declared.steps.ResumeStep.{ResumeStep}
use Rattle.sr_client.specs.declared.steps.ResumeStep.TheVariants as resumes
use Rattle.sr_client.specs.declared.steps.WriteStep.{WriteStep}
use Rattle.sr_client.specs.declared.steps.WriteStep.TheVariants as written
use Rattle.sr_client.specs.Sends.{QuerySendsWell, ResumeSendsWell, WriteSendsWell}
use Rattle.sr_client.specs.Stands as client
use Rattle.sr_client.specs.Stands.{StandsFor, Stays, out_of, past_of}
use Rattle.sr_client.specs.Steps as steps
use Rattle.sr_client.specs.Steps.{Cuts, Evicts, Queries, Resumes, SaysCut, SaysEvict, SaysQuery, SaysResume, SaysWrite, Writes}
use Rattle.sr_client.proofs.Results.{if_ok}
use Rattle.sr_world.specs.declared.lines.Told as world
use Rattle.sr_world.proofs.ClientLemmas.{IsToldOf, evict-nothing, query-each, resume-each, write-each}
use Rattle.sr_world.proofs.Sent.{query-asks-few}
use Rattle.sr_world.specs.Told.{QueryAsksFew}
use Rattle.sr_dial.specs.Known.{IsFrom, KeepsLink}
use Rattle.sr_dial.specs.Following.{answer_of}
use Rattle.sr_dial.specs.declared.parts.Answer.{Answer}
use Rattle.sr_calls.specs.ClientEnds.{Did, done_of, silent}
use Rattle.sr_calls.specs.declared.calls.Done.{Done}
use Rattle.sr_calls.proofs.Makes.{IsPlainOutcome, IsUnanswered, makes, plain_from, plain_link, refuses, unanswered}

-- what may be sent, as a list
pub told_sendable : (sent : Option Message) → ((m : Message) → option_to_list sent ≡ m ∷ [] → IsSendable m) → All IsSendable (option_to_list sent)
told_sendable None each = All-nil IsSendable
told_sendable (Some m) each = All-cons IsSendable m [] (each m refl) (All-nil IsSendable)

-- ---- a query

pub refuses_query : (keeps : Bool) (old : Client) (past : session.Client) (fault : Fault) (done : Done) → StandsFor past old → done ≡ silent (line.QuerySql old.id fault ∷ []) → Did keeps old old past (Queried (Err fault)) done
refuses_query keeps old past fault done stands is =
    subst (Did keeps old old past (Queried (Err fault))) (sym is)
    (refuses keeps old past (Queried (Err fault)) fault (line.QuerySql old.id fault ∷ []) stands refl (refl, λ some. absurd (some refl)) (λ told. refl) (λ b. rules.query_refused fault))

query_plain : (past : session.Client) (step : QueryStep) (o : Outcome) → SaysQuery past step o → IsPlainOutcome o
query_plain past (query.Answered q version rows marks) o says = subst IsPlainOutcome (sym says) tt
query_plain past (query.Asked q request message marks) o says = subst IsPlainOutcome (sym says.4) tt
query_plain past (query.Busy request) o says = subst IsPlainOutcome (sym says) tt
query_plain past (query.Down number) o says = subst IsPlainOutcome (sym says) tt

module _ {E : Type 0} (keeps : Bool) (old new : Client) (meaning : Query) (step : QueryStep) (told : world.Told) (answer : Option Answer) (r : Result Done E) (does : Queries old meaning new step) (stays : Stays old new)
    (tells : (past : session.Client) (o : Outcome) → SaysQuery past step o → IsToldOf old.id query_line o told) (answers : (past : session.Client) (o : Outcome) → SaysQuery past step o → answer ≡ answer_of keeps o)
    (is : IfOk r (λ d. d ≡ done_of told answer)) where
  pub query_makes : (past : session.Client) → StandsFor past old → IfOk r (Did keeps old new past (Queried (Ok meaning)))
  query_makes past stands =
      let m = does.moves past stands in
      let t = tells past m.outcome m.is in
      if_ok (Did keeps old new past (Queried (Ok meaning))) r (done_of told answer) is
      (makes keeps old new past (Queried (Ok meaning)) (SaysQuery past step) (λ db. Unit {0}) (λ db. rules.QueryStep (basis_of db old.store.limits) past (Ok meaning)) m
      (plain_from old.id m.outcome (query_plain past step m.outcome m.is)) (λ db o next rule. rule) (λ db come. tt) stays (does.ruled past stands)
      answer told.lines (option_to_list told.sent) (answers past m.outcome m.is) t.lines t.sent (plain_link past m.next m.outcome (query_plain past step m.outcome m.is) m.link))

  pub query_sendable : client.Stands old → QuerySendsWell old.schema old.id step → IfOk r (λ d. All IsSendable d.told.sent)
  query_sendable some sends =
      let past = past_of old some.0 in
      let m = does.moves past (some.0, some.1, refl) in
      let t = tells past m.outcome m.is in
      if_ok (λ d. All IsSendable d.told.sent) r (done_of told answer) is
      (told_sendable told.sent (λ message one. query-each old.schema old.id past step m.outcome sends m.is message (sym t.sent ∙ one)))

-- what a query sends is an ask of few parts
pub query_few : (old new : Client) (meaning : Query) (step : QueryStep) → Queries old meaning new step → client.Stands old → QuerySendsWell old.schema old.id step → QueryAsksFew step
query_few old new meaning step does some sends =
    let past = past_of old some.0 in
    let m = does.moves past (some.0, some.1, refl) in
    query-asks-few old.schema old.id past step m.outcome sends m.is

-- ---- a write

write_plain : (sql : List ℕ) (step : WriteStep) (o : Outcome) → SaysWrite sql step o → IsPlainOutcome o
write_plain sql (written.Sent request message) o says = subst IsPlainOutcome (sym says.1) tt
write_plain sql (written.Sql fault) o says = absurd says
write_plain sql (written.Busy request) o says = subst IsPlainOutcome (sym says) tt
write_plain sql (written.Down number) o says = subst IsPlainOutcome (sym says) tt

write_unanswered : (sql : List ℕ) (step : WriteStep) (o : Outcome) → SaysWrite sql step o → IsUnanswered o
write_unanswered sql (written.Sent request message) o says = subst IsUnanswered (sym says.1) tt
write_unanswered sql (written.Sql fault) o says = absurd says
write_unanswered sql (written.Busy request) o says = subst IsUnanswered (sym says) tt
write_unanswered sql (written.Down number) o says = subst IsUnanswered (sym says) tt

write_last : (n : ℕ) (sql : List ℕ) (step : WriteStep) (o : Outcome) → SaysWrite sql step o → write_line n o ≡ last_lines n (Wrote sql) o
write_last n sql (written.Sent request message) o says = subst (λ o. write_line n o ≡ last_lines n (Wrote sql) o) (sym says.1) refl
write_last n sql (written.Sql fault) o says = absurd says
write_last n sql (written.Busy request) o says = subst (λ o. write_line n o ≡ last_lines n (Wrote sql) o) (sym says) refl
write_last n sql (written.Down number) o says = subst (λ o. write_line n o ≡ last_lines n (Wrote sql) o) (sym says) refl

module _ {E : Type 0} (old new : Client) (sql : List ℕ) (step : WriteStep) (told : world.Told) (r : Result Done E) (long : most_text < length sql → (step ≡ written.Sql long_text) × (new ≡ old))
    (does : length sql ≤ most_text → Writes old sql new step) (stays : Stays old new) (held : new.store.regions ≡ old.store.regions) (tells : (o : Outcome) → SaysWrite sql step o → IsToldOf old.id write_line o told)
    (refused : (fault : Fault) → step ≡ written.Sql fault → told ≡ record { lines = line.WriteSql old.id fault ∷ []; sent = None }) (is : IfOk r (λ d. d ≡ done_of told None)) where
  short_makes : (keeps : Bool) (past : session.Client) → StandsFor past old → length sql ≤ most_text → IfOk r (Did keeps old new past (Wrote sql))
  short_makes keeps past stands short =
      let m = (does short).moves past stands in
      let t = tells m.outcome m.is in
      if_ok (Did keeps old new past (Wrote sql)) r (done_of told None) is
      (makes keeps old new past (Wrote sql) (SaysWrite sql step) (λ db. Unit {0}) (λ db. rules.WriteStep sql past) m (plain_from old.id m.outcome (write_plain sql step m.outcome m.is)) (λ db o next rule. writes o next short rule) (λ db come. tt)
      stays (λ told is. (subst (brought.IsToldOf old.schema told) (sym held) is, writes m.outcome m.next short ((does short).ruled past stands)))
      None told.lines (option_to_list told.sent) (unanswered keeps m.outcome (write_unanswered sql step m.outcome m.is)) (t.lines ∙ ap (λ ls. details old.id m.outcome ++ ls) (write_last old.id sql step m.outcome m.is)) t.sent (plain_link past m.next m.outcome (write_plain sql step m.outcome m.is) m.link))

  long_makes : (keeps : Bool) (past : session.Client) → StandsFor past old → most_text < length sql → IfOk r (Did keeps old new past (Wrote sql))
  long_makes keeps past stands over =
      let done_is : done_of told None ≡ silent (line.WriteSql old.id long_text ∷ []) = ap (λ t. done_of t None) (refused long_text (long over).0) in
      if_ok (Did keeps old new past (Wrote sql)) r (done_of told None) is
      (subst (λ (c : Client). Did keeps old c past (Wrote sql) (done_of told None)) (sym (long over).1)
      (subst (Did keeps old old past (Wrote sql)) (sym done_is)
      (refuses keeps old past (Wrote sql) long_text (line.WriteSql old.id long_text ∷ []) stands refl (refl, λ some. absurd (some refl)) (λ told. refl) (λ b. too_long over))))

  pub write_makes : (keeps : Bool) (past : session.Client) → StandsFor past old → IfOk r (Did keeps old new past (Wrote sql))
  write_makes keeps past stands = by (nat_le (length sql) most_text) refl
    where
      by : (b : Bool) → nat_le (length sql) most_text ≡ b → IfOk r (Did keeps old new past (Wrote sql))
      by true e = short_makes keeps past stands (grind (arith, nat_tests, e))
      by false e = long_makes keeps past stands (grind (arith, nat_tests, e))

  pub write_sendable : client.Stands old → WriteSendsWell old.schema old.id step → IfOk r (λ d. All IsSendable d.told.sent)
  write_sendable some sends = if_ok (λ d. All IsSendable d.told.sent) r (done_of told None) is (by (nat_le (length sql) most_text) refl)
    where
      by : (b : Bool) → nat_le (length sql) most_text ≡ b → All IsSendable (option_to_list told.sent)
      by true e =
          let m = (does (grind (arith, nat_tests, e))).moves (past_of old some.0) (some.0, some.1, refl) in
          let t = tells m.outcome m.is in
          told_sendable told.sent (λ message one. write-each old.schema old.id sql step m.outcome sends m.is message (sym t.sent ∙ one))
      by false e =
          let over : most_text < length sql = grind (arith, nat_tests, e) in
          let none : option_to_list told.sent ≡ [] = ap (λ (t : world.Told). option_to_list t.sent) (refused long_text (long over).0) in
          subst (All IsSendable) (sym none) (All-nil IsSendable)

-- ---- an eviction

evict_plain : (step : EvictStep) (o : Outcome) → SaysEvict step o → IsPlainOutcome o
evict_plain (evicts.Dropped region) o says = subst IsPlainOutcome (sym says) tt
evict_plain (evicts.Busy request) o says = subst IsPlainOutcome (sym says) tt
evict_plain (evicts.NoSuch count) o says = subst IsPlainOutcome (sym says) tt

evict_unanswered : (step : EvictStep) (o : Outcome) → SaysEvict step o → IsUnanswered o
evict_unanswered (evicts.Dropped region) o says = subst IsUnanswered (sym says) tt
evict_unanswered (evicts.Busy request) o says = subst IsUnanswered (sym says) tt
evict_unanswered (evicts.NoSuch count) o says = subst IsUnanswered (sym says) tt

-- where its regions alone change
pub only_store : (old new : Client) → new ≡ record old { store = record old.store { regions = new.store.regions } } → Stays old new
only_store old new rest = record { id = ap (λ (c : Client). c.id) rest; schema = ap (λ (c : Client). c.schema) rest; limits = ap (λ (c : Client). c.store.limits) rest }

pub evict_makes : (old new : Client) (place : ℕ) (step : EvictStep) (lines : List TraceLine) (done : Done) → Evicts old place new step → Stays old new → ((o : Outcome) → SaysEvict step o → lines ≡ details old.id o ++ evict_line old.id o)
    → done ≡ silent lines → (keeps : Bool) (past : session.Client) → StandsFor past old → Did keeps old new past (Evicted place) done
evict_makes old new place step lines done does stays tells is keeps past stands =
    let m = does.moves past stands in
    subst (Did keeps old new past (Evicted place)) (sym is)
    (makes keeps old new past (Evicted place) (SaysEvict step) (λ db. Unit {0}) (λ db. rules.EvictStep (basis_of db old.store.limits) place past) m
    (plain_from old.id m.outcome (evict_plain step m.outcome m.is)) (λ db o next rule. rule) (λ db come. tt) stays (does.ruled past stands)
    None lines [] (unanswered keeps m.outcome (evict_unanswered step m.outcome m.is)) (tells m.outcome m.is) (sym (evict-nothing step m.outcome m.is)) (plain_link past m.next m.outcome (evict_plain step m.outcome m.is) m.link))

-- ---- a resume

-- a request that names a client names its own
named_by : (schema : List Table) (id : ℕ) (m : Message) → is_request_of schema id m ≡ true → IsFrom id m
named_by schema id (kinds.Hello wire named number) is = grind (arith, is)
named_by schema id (kinds.Resume wire named number version holdings) is = grind (arith, is)
named_by schema id (kinds.Ask number fresh parts) is = refl
named_by schema id (kinds.Write number sql) is = refl
named_by schema id (kinds.Welcome number version kept) is = refl
named_by schema id (kinds.Notice version told) is = refl
named_by schema id (kinds.Rows number part rows) is = refl
named_by schema id (kinds.Reply number version) is = refl
named_by schema id (kinds.Written number version) is = refl
named_by schema id (kinds.Refused number fault) is = refl
named_by schema id (kinds.Lapse version) is = refl

resume_from : (schema : List Table) (id : ℕ) (past : session.Client) (step : ResumeStep) (o : Outcome) → ResumeSendsWell schema id step → SaysResume past step o → All (IsFrom id) (sent_of o)
resume_from schema id past (resumes.Sent request message) o sends says =
    subst (λ o. All (IsFrom id) (sent_of o)) (sym says.1) (All-cons (IsFrom id) message [] (named_by schema id message sends.request) (All-nil (IsFrom id)))
resume_from schema id past resumes.Up o sends says = subst (λ o. All (IsFrom id) (sent_of o)) (sym says) (All-nil (IsFrom id))

resume_link : (past next : session.Client) (step : ResumeStep) (o : Outcome) → SaysResume past step o → steps.KeepsLink past o next → KeepsLink Resumed (sent_of o) past next
resume_link past next (resumes.Sent request message) o says link =
    subst (λ o. steps.KeepsLink past o next → KeepsLink Resumed (sent_of o) past next) (sym says.1) (λ up. (up.0, up.1, refl)) link
resume_link past next resumes.Up o says link = subst (λ o. steps.KeepsLink past o next → KeepsLink Resumed (sent_of o) past next) (sym says) (λ up. up) link

resume_unanswered : (past : session.Client) (step : ResumeStep) (o : Outcome) → SaysResume past step o → IsUnanswered o
resume_unanswered past (resumes.Sent request message) o says = subst IsUnanswered (sym says.1) tt
resume_unanswered past resumes.Up o says = subst IsUnanswered (sym says) tt

module _ {E : Type 0} (old new : Client) (step : ResumeStep) (told : world.Told) (r : Result Done E) (does : Resumes old new step) (stays : Stays old new) (held : new.store.regions ≡ old.store.regions)
    (tells : (past : session.Client) (o : Outcome) → SaysResume past step o → IsToldOf old.id resume_line o told) (is : IfOk r (λ d. d ≡ done_of told None)) where
  pub resume_makes : ResumeSendsWell old.schema old.id step → (keeps : Bool) (past : session.Client) → StandsFor past old → IfOk r (Did keeps old new past Resumed)
  resume_makes sends keeps past stands =
      let m = does.moves past stands in
      let t = tells past m.outcome m.is in
      if_ok (Did keeps old new past Resumed) r (done_of told None) is
      (makes keeps old new past Resumed (SaysResume past step) (λ db. Unit {0}) (λ db. rules.ResumeStep db.schema past) m
      (resume_from old.schema old.id past step m.outcome sends m.is) (λ db o next rule. rule) (λ db come. tt)
      stays (λ told is. (subst (brought.IsToldOf old.schema told) (sym held) is, does.ruled past stands))
      None told.lines (option_to_list told.sent) (unanswered keeps m.outcome (resume_unanswered past step m.outcome m.is)) t.lines t.sent (resume_link past m.next step m.outcome m.is m.link))

  pub resume_sendable : client.Stands old → ResumeSendsWell old.schema old.id step → IfOk r (λ d. All IsSendable d.told.sent)
  resume_sendable some sends =
      let past = past_of old some.0 in
      let m = does.moves past (some.0, some.1, refl) in
      let t = tells past m.outcome m.is in
      if_ok (λ d. All IsSendable d.told.sent) r (done_of told None) is
      (told_sendable told.sent (λ message one. resume-each old.schema old.id past step m.outcome sends m.is message (sym t.sent ∙ one)))

-- ---- a cut

cut_link : (past next : session.Client) (old : Client) (step : CutStep) (o : Outcome) → SaysCut past old step o → steps.KeepsLink past o next → KeepsLink WasCut (sent_of o) past next
cut_link past next old (cuts.Cut number ended) o says link = subst (λ o. steps.KeepsLink past o next → KeepsLink WasCut (sent_of o) past next) (sym says.1) (λ down. (down, refl)) link
cut_link past next old (cuts.Already number) o says link = subst (λ o. steps.KeepsLink past o next → KeepsLink WasCut (sent_of o) past next) (sym says) (λ down. (down, refl)) link

cut_unanswered : (past : session.Client) (old : Client) (step : CutStep) (o : Outcome) → SaysCut past old step o → IsUnanswered o
cut_unanswered past old (cuts.Cut number ended) o says = subst IsUnanswered (sym says.1) tt
cut_unanswered past old (cuts.Already number) o says = subst IsUnanswered (sym says) tt

pub cut_makes : {E : Type 0} (old new : Client) (step : CutStep) (r : Result (List TraceLine) E) → Cuts old new step → Stays old new → new.store.regions ≡ old.store.regions
    → ((past : session.Client) (c : Client) (o : Outcome) (meaning : Query) → past.out ≡ out_of meaning c.out → SaysCut past c step o → IfOk r (λ lines. lines ≡ details old.id o ++ cut_line old.id o))
    → (keeps : Bool) (past : session.Client) → StandsFor past old → IfOk r (λ lines. Did keeps old new past WasCut (silent lines))
cut_makes {E} old new step r does stays held tells keeps past stands =
    let m = does.moves past stands in
    let link = cut_link past m.next old step m.outcome m.is m.link in
    IfOk-weaker r (λ lines. lines ≡ details old.id m.outcome ++ cut_line old.id m.outcome) (λ lines. Did keeps old new past WasCut (silent lines))
    (λ lines is. makes keeps old new past WasCut (SaysCut past old step) (λ db. Unit {0}) (λ db. rules.CutStep past) m
    (subst (All (IsFrom old.id)) (sym link.1) (All-nil (IsFrom old.id))) (λ db o next rule. rule) (λ db come. tt) stays (λ told is. (subst (brought.IsToldOf old.schema told) (sym held) is, does.ruled past stands)) None lines [] (unanswered keeps m.outcome (cut_unanswered past old step m.outcome m.is)) is (sym link.1) link)
    (tells past old m.outcome stands.0.meaning (ap (λ (p : session.Client). p.out) stands.2) m.is)
