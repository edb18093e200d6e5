use Rattle.std.proofs.Common.{◌≡◌, ◌+◌, ◌∷◌, ◌∙◌, drop, sym, ap, subst, arith, refl, rules, Err}
use Rattle.std.specs.Prelude.{string_bytes}
use Rattle.std.specs.Io.KnownBytes.{Appends}
use Rattle.std.proofs.lemmas.List.{drop_all, drop_more}
use Rattle.sr_io.specs.Causes.{Rose}
use Rattle.sr_io.specs.Pieces.{WritesPrefix}
use Rattle.sr_serve.specs.Execs.{Executed}
use Rattle.sr_serve.proofs.ExecLemmas.{ExecutedSome, none-executed, one-executed, part-executed, lines-so-far, all-executed}
use Rattle.sr_talk.proofs.MoveLemmas.{so-in-err}
use Rattle.sr_serve.proofs.exec.exec_all.Goals as goal

pub loop-at-init : goal.loop-at-init
loop-at-init g c = record {
  so_far = λ db is. none-executed db c.args.texts.now (g.K.Outside.writing c.args.sink.now) c.args.server.now is;
  sessions = refl;
  grows = omega arith;
  stays = record { stays_steady = λ s. s; reading_stays = refl; held_stays = refl; complaints_stay = refl };
  linking_stays = refl;
}

pub exec_one-requires-clause-stands : goal.exec_one-requires-clause-stands
exec_one-requires-clause-stands g c = let h = c.loop-at.invariant.so_far c.requires.stands.0 c.requires.stands.1 in (h.now, h.stands)

pub exec_one-requires-clause-number : goal.exec_one-requires-clause-number
exec_one-requires-clause-number g c = let grows = c.loop-at.invariant.grows in let room = c.requires.number in let below = c.loop-at-test.true in omega (arith, grows, room, below)

pub loop-at-preserved : goal.loop-at-preserved
loop-at-preserved g c =
    let texts = c.args.texts.now in
    let text = c.index-texts-at.result in
    let at = c.loop-at.at in
    let first : drop at texts ≡ text ∷ drop (at + 1) texts = drop_more texts at text c.loop-at-test.true ∙ ap (λ t. t ∷ drop (at + 1) texts) (sym c.index-texts-at.is) in
    record {
      so_far = λ db is.
          one-executed db texts (drop (at + 1) texts) text (g.K.Outside.writing c.args.sink.now) (g.K.Outside.writing c.loop-at.sink) (g.K.Outside.writing c.write_all.new.sink) c.loop-at.server c.exec_one.new.server (string_bytes c.in_ok-line.line)
          (subst (λ left. ExecutedSome db texts left (g.K.Outside.writing c.args.sink.now) (g.K.Outside.writing c.loop-at.sink) c.loop-at.server) first (c.loop-at.invariant.so_far db is))
          (λ now stands. subst (λ t. Executed now t (string_bytes c.in_ok-line.line) c.exec_one.new.server) c.as_str.ensures (c.in_ok-line.ensures.done now stands))
          (subst (Appends (g.K.Outside.writing c.loop-at.sink).written (g.K.Outside.writing c.write_all.new.sink).written) (search rules) c.in-Ok.ensures.whole)
          c.in-Ok.ensures.ok_keeps_faults;
      sessions = c.exec_one.ensures.sessions ∙ c.loop-at.invariant.sessions;
      grows = (let before = c.loop-at.invariant.grows in let one = c.exec_one.ensures.grows in omega (arith, before, one));
      stays = record {
        stays_steady = λ s. c.write_all.ensures.stays_steady (c.loop-at.invariant.stays.stays_steady s);
        reading_stays = c.write_all.ensures.reading_stays ∙ c.loop-at.invariant.stays.reading_stays;
        held_stays = c.write_all.ensures.held_stays ∙ c.loop-at.invariant.stays.held_stays;
        complaints_stay = c.write_all.ensures.complaints_stay ∙ c.loop-at.invariant.stays.complaints_stay;
      };
      linking_stays = c.write_all.ensures.linking_stays ∙ c.loop-at.invariant.linking_stays;
    }

pub returns-in-Err-Refused-clause-done : goal.returns-in-Err-Refused-clause-done
returns-in-Err-Refused-clause-done g c db is =
    let texts = c.args.texts.now in
    let text = c.index-texts-at.result in
    let at = c.loop-at.at in
    let first : drop at texts ≡ text ∷ drop (at + 1) texts = drop_more texts at text c.loop-at-test.true ∙ ap (λ t. t ∷ drop (at + 1) texts) (sym c.index-texts-at.is) in
    let rose : Rose (g.K.Outside.writing c.loop-at.sink).faults (g.K.Outside.writing c.write_all.new.sink).faults = c.in-Err-Refused.ensures.failed_is_counted (ap Err c.in-Err-Refused.field-0-is) in (
      part-executed db texts (drop (at + 1) texts) text (g.K.Outside.writing c.args.sink.now) (g.K.Outside.writing c.loop-at.sink) (g.K.Outside.writing c.write_all.new.sink) c.loop-at.server c.exec_one.new.server (string_bytes c.in_ok-line.line)
          (subst (λ left. ExecutedSome db texts left (g.K.Outside.writing c.args.sink.now) (g.K.Outside.writing c.loop-at.sink) c.loop-at.server) first (c.loop-at.invariant.so_far db is))
          (λ now stands. subst (λ t. Executed now t (string_bytes c.in_ok-line.line) c.exec_one.new.server) c.as_str.ensures (c.in_ok-line.ensures.done now stands))
          (subst (WritesPrefix (g.K.Outside.writing c.loop-at.sink).written (g.K.Outside.writing c.write_all.new.sink).written) (search rules) c.write_all.ensures.prefix),
      subst (λ n. Rose n (g.K.Outside.writing c.write_all.new.sink).faults) (c.loop-at.invariant.so_far db is).faults_stay rose,
    )

pub returns-in-Err-NoMemory-clause-in_part : goal.returns-in-Err-NoMemory-clause-in_part
returns-in-Err-NoMemory-clause-in_part g c db is =
    let texts = c.args.texts.now in
    let text = c.index-texts-at.result in
    let at = c.loop-at.at in
    let first : drop at texts ≡ text ∷ drop (at + 1) texts = drop_more texts at text c.loop-at-test.true ∙ ap (λ t. t ∷ drop (at + 1) texts) (sym c.index-texts-at.is) in (
      part-executed db texts (drop (at + 1) texts) text (g.K.Outside.writing c.args.sink.now) (g.K.Outside.writing c.loop-at.sink) (g.K.Outside.writing c.write_all.new.sink) c.loop-at.server c.exec_one.new.server (string_bytes c.in_ok-line.line)
          (subst (λ left. ExecutedSome db texts left (g.K.Outside.writing c.args.sink.now) (g.K.Outside.writing c.loop-at.sink) c.loop-at.server) first (c.loop-at.invariant.so_far db is))
          (λ now stands. subst (λ t. Executed now t (string_bytes c.in_ok-line.line) c.exec_one.new.server) c.as_str.ensures (c.in_ok-line.ensures.done now stands))
          (subst (WritesPrefix (g.K.Outside.writing c.loop-at.sink).written (g.K.Outside.writing c.write_all.new.sink).written) (search rules) c.write_all.ensures.prefix),
      c.in-Err-NoMemory.ensures.want_keeps_faults (ap Err c.in-Err-NoMemory.field-0-is) ∙ (c.loop-at.invariant.so_far db is).faults_stay,
    )

pub returns-in_err-line-clause-in_part : goal.returns-in_err-line-clause-in_part
returns-in_err-line-clause-in_part g c db is =
    so-in-err c.from_residual.result
    (lines-so-far db c.args.texts.now (drop c.loop-at.at c.args.texts.now) (g.K.Outside.writing c.args.sink.now) (g.K.Outside.writing c.loop-at.sink) c.loop-at.server (c.loop-at.invariant.so_far db is))

pub returns-clause-done : goal.returns-clause-done
returns-clause-done g c db is =
    let texts = c.args.texts.now in
    let h = c.loop-at.invariant.so_far db is in
    all-executed db texts (g.K.Outside.writing c.args.sink.now) (g.K.Outside.writing c.loop-at.sink) c.loop-at.server
    (subst (λ left. ExecutedSome db texts left (g.K.Outside.writing c.args.sink.now) (g.K.Outside.writing c.loop-at.sink) c.loop-at.server) (drop_all c.loop-at.at texts (search rules)) h)

pub returns-in-Err-Refused-clause-steady_writes : goal.returns-in-Err-Refused-clause-steady_writes
returns-in-Err-Refused-clause-steady_writes g c steady = absurd (c.in-Err-Refused.ensures.steady_never_fails (c.loop-at.invariant.stays.stays_steady steady) (ap Err c.in-Err-Refused.field-0-is))
