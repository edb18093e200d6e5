use Rattle.std.proofs.Common.{◌≡◌, Option, Some, Err, arith, inl, inr, sym, subst, ap, ◌∙◌}
use Rattle.sr_words.specs.declared.command.Command.{Command}
use Rattle.sr_words.specs.declared.command.Command.TheVariants.{Replay, Client, Save, Warm, Serve, Explain, Generate}
use Rattle.sr_words.specs.declared.command.ClientWords.{ClientWords}
use Rattle.sr_words.specs.declared.command.ExplainWords.{ExplainWords}
use Rattle.sr_words.specs.declared.command.GenerateWords.{GenerateWords}
use Rattle.sr_words.specs.declared.command.ReplayWords.{ReplayWords}
use Rattle.sr_words.specs.declared.command.ServeWords.{ServeWords}
use Rattle.sr_words.specs.declared.command.WarmWords.{WarmWords}
use Rattle.sr_cli.specs.Client.{Dials}
use Rattle.sr_cli.specs.Explain.{Explains}
use Rattle.sr_cli.specs.Generate.{Generates}
use Rattle.sr_cli.specs.Image.{SavesOver, WarmsOver}
use Rattle.sr_cli.specs.Replay.{Replays}
use Rattle.sr_cli.specs.Serve.{Serves}
use Rattle.sr_cli.proofs.CommandLemmas.{fits-asked, fits-untaken}
use Rattle.sr_cli.proofs.LeavesLemmas.{leaves-untaken}
use Rattle.sr_cli.proofs.run.run.Goals as goal

-- ---- words ask for one thing

one_replay : (said : Option Command) (command : Command) (a w : ReplayWords) → said ≡ Some command → command ≡ Replay a → said ≡ Some (Replay w) → a ≡ w
one_replay said command a w is here says = let e : Some command ≡ Some (Replay w) = sym is ∙ says in cc

one_serve : (said : Option Command) (command : Command) (a w : ServeWords) → said ≡ Some command → command ≡ Serve a → said ≡ Some (Serve w) → a ≡ w
one_serve said command a w is here says = let e : Some command ≡ Some (Serve w) = sym is ∙ says in cc

one_explain : (said : Option Command) (command : Command) (a w : ExplainWords) → said ≡ Some command → command ≡ Explain a → said ≡ Some (Explain w) → a ≡ w
one_explain said command a w is here says = let e : Some command ≡ Some (Explain w) = sym is ∙ says in cc

one_generate : (said : Option Command) (command : Command) (a w : GenerateWords) → said ≡ Some command → command ≡ Generate a → said ≡ Some (Generate w) → a ≡ w
one_generate said command a w is here says = let e : Some command ≡ Some (Generate w) = sym is ∙ says in cc

one_client : (said : Option Command) (command : Command) (a w : ClientWords) → said ≡ Some command → command ≡ Client a → said ≡ Some (Client w) → a ≡ w
one_client said command a w is here says = let e : Some command ≡ Some (Client w) = sym is ∙ says in cc

one_save : (said : Option Command) (command : Command) (a w : ClientWords) → said ≡ Some command → command ≡ Save a → said ≡ Some (Save w) → a ≡ w
one_save said command a w is here says = let e : Some command ≡ Some (Save w) = sym is ∙ says in cc

one_warm : (said : Option Command) (command : Command) (a w : WarmWords) → said ≡ Some command → command ≡ Warm a → said ≡ Some (Warm w) → a ≡ w
one_warm said command a w is here says = let e : Some command ≡ Some (Warm w) = sym is ∙ says in cc

pub returns-in-Ok-Save-clause-saves : goal.returns-in-Ok-Save-clause-saves
returns-in-Ok-Save-clause-saves g c = λ w says.
    let same = one_save _ _ c.in-Ok-Save.words w c.in-Ok-Save.ensures.said c.in-Ok-Save.field-0-is says in
    subst (λ (v : ClientWords). SavesOver _ g.H.Outside.held g.H.Outside.reading g.H.Outside.writing g.H.Outside.linking g.H.Outside.complaints g.H.Outside.IsSteady c.args.host.now c.run_save.new.host v c.run_save.result) same
    c.run_save.ensures.saves

pub returns-in-Ok-Save-clause-words : goal.returns-in-Ok-Save-clause-words
returns-in-Ok-Save-clause-words g c =
    let only = c.run_save.ensures.saves.only in
    fits-asked _ g.H.Outside.reading g.H.Outside.writing g.H.Outside.linking c.args.host.now c.run_save.new.host c.args.words.now c.run_save.result _ c.in-Ok-Save.ensures.said (λ is. omega (arith, only, is))
    (λ is. inr (inr (inl (c.in-Ok-Save.words, c.in-Ok-Save.ensures.said ∙ ap Some c.in-Ok-Save.field-0-is))))

pub returns-in-Ok-Warm-clause-warms : goal.returns-in-Ok-Warm-clause-warms
returns-in-Ok-Warm-clause-warms g c = λ w says.
    let same = one_warm _ _ c.in-Ok-Warm.words w c.in-Ok-Warm.ensures.said c.in-Ok-Warm.field-0-is says in
    subst (λ (v : WarmWords). WarmsOver _ g.H.Outside.held g.H.Outside.reading g.H.Outside.writing g.H.Outside.linking g.H.Outside.complaints g.H.Outside.IsSteady c.args.host.now c.run_warm.new.host v c.run_warm.result) same
    c.run_warm.ensures.warms

pub returns-in-Ok-Warm-clause-words : goal.returns-in-Ok-Warm-clause-words
returns-in-Ok-Warm-clause-words g c =
    let only = c.run_warm.ensures.warms.only in
    fits-asked _ g.H.Outside.reading g.H.Outside.writing g.H.Outside.linking c.args.host.now c.run_warm.new.host c.args.words.now c.run_warm.result _ c.in-Ok-Warm.ensures.said (λ is. omega (arith, only, is))
    (λ is. inr (inr (inr (c.in-Ok-Warm.words, c.in-Ok-Warm.ensures.said ∙ ap Some c.in-Ok-Warm.field-0-is))))

pub returns-in-Ok-Client-clause-dials : goal.returns-in-Ok-Client-clause-dials
returns-in-Ok-Client-clause-dials g c = λ w says.
    let same = one_client _ _ c.in-Ok-Client.words w c.in-Ok-Client.ensures.said c.in-Ok-Client.field-0-is says in
    subst (λ (v : ClientWords). Dials _ g.H.Outside.held g.H.Outside.reading g.H.Outside.writing g.H.Outside.linking g.H.Outside.complaints g.H.Outside.IsSteady c.args.host.now c.run_client.new.host v c.run_client.result) same
    c.run_client.ensures.dials

pub returns-in-Ok-Replay-clause-words : goal.returns-in-Ok-Replay-clause-words
returns-in-Ok-Replay-clause-words g c =
    let only = c.run_replay.ensures.replays.only in
    fits-asked _ g.H.Outside.reading g.H.Outside.writing g.H.Outside.linking c.args.host.now c.run_replay.new.host c.args.words.now c.run_replay.result _ c.in-Ok-Replay.ensures.said (λ is. omega (arith, only, is)) (λ is. absurd (omega (arith, only, is)))

pub returns-in-Ok-Serve-clause-words : goal.returns-in-Ok-Serve-clause-words
returns-in-Ok-Serve-clause-words g c =
    let only = c.run_serve.ensures.serves.only in
    fits-asked _ g.H.Outside.reading g.H.Outside.writing g.H.Outside.linking c.args.host.now c.run_serve.new.host c.args.words.now c.run_serve.result _ c.in-Ok-Serve.ensures.said (λ is. omega (arith, only, is)) (λ is. inl (c.run_serve.ensures.serves.link_fault_is_counted is))

pub returns-in-Ok-Explain-clause-words : goal.returns-in-Ok-Explain-clause-words
returns-in-Ok-Explain-clause-words g c =
    let only = c.run_explain.ensures.explains.only in
    fits-asked _ g.H.Outside.reading g.H.Outside.writing g.H.Outside.linking c.args.host.now c.run_explain.new.host c.args.words.now c.run_explain.result _ c.in-Ok-Explain.ensures.said (λ is. omega (arith, only, is)) (λ is. absurd (omega (arith, only, is)))

pub returns-in-Ok-Generate-clause-words : goal.returns-in-Ok-Generate-clause-words
returns-in-Ok-Generate-clause-words g c =
    let only = c.run_generate.ensures.generates.only in
    fits-asked _ g.H.Outside.reading g.H.Outside.writing g.H.Outside.linking c.args.host.now c.run_generate.new.host c.args.words.now c.run_generate.result _ c.in-Ok-Generate.ensures.said (λ is. omega (arith, only, is)) (λ is. absurd (omega (arith, only, is)))

pub returns-in-Ok-Client-clause-words : goal.returns-in-Ok-Client-clause-words
returns-in-Ok-Client-clause-words g c =
    let only = c.run_client.ensures.dials.only in
    fits-asked _ g.H.Outside.reading g.H.Outside.writing g.H.Outside.linking c.args.host.now c.run_client.new.host c.args.words.now c.run_client.result _ c.in-Ok-Client.ensures.said (λ is. omega (arith, only, is)) (λ is. inr (inl (c.in-Ok-Client.words, c.in-Ok-Client.ensures.said ∙ ap Some c.in-Ok-Client.field-0-is)))

pub returns-in-Err-NotInForm-clause-words : goal.returns-in-Err-NotInForm-clause-words
returns-in-Err-NotInForm-clause-words g c =
    fits-untaken _ g.H.Outside.reading g.H.Outside.writing g.H.Outside.linking c.args.host.now c.refuse_words.new.host c.args.words.now c.refuse_words.result g.H.Outside.held g.H.Outside.IsSteady
    (inl c.refuse_words.ensures.said.0) (λ is. c.in-Err-NotInForm.ensures.not_in_form (ap Err c.in-Err-NotInForm.field-0-is)) c.refuse_words.ensures.stays

pub returns-in-Err-NotInForm-clause-leaves : goal.returns-in-Err-NotInForm-clause-leaves
returns-in-Err-NotInForm-clause-leaves g c =
    let said = c.refuse_words.ensures.said in
    leaves-untaken _ g.H.Outside.held g.H.Outside.reading g.H.Outside.writing g.H.Outside.linking g.H.Outside.complaints g.H.Outside.IsSteady c.args.host.now c.refuse_words.new.host c.refuse_words.result
    (inl said.0) (rw said.0 said.1) c.refuse_words.ensures.stays

pub returns-in-Err-NoMemory-clause-words : goal.returns-in-Err-NoMemory-clause-words
returns-in-Err-NoMemory-clause-words g c =
    let said = c.want_memory.ensures.said.0 in
    fits-untaken _ g.H.Outside.reading g.H.Outside.writing g.H.Outside.linking c.args.host.now c.want_memory.new.host c.args.words.now c.want_memory.result g.H.Outside.held g.H.Outside.IsSteady
    (inr said) (λ is. absurd (omega (arith, said, is))) c.want_memory.ensures.stays

pub returns-in-Err-NoMemory-clause-leaves : goal.returns-in-Err-NoMemory-clause-leaves
returns-in-Err-NoMemory-clause-leaves g c =
    let said = c.want_memory.ensures.said in
    leaves-untaken _ g.H.Outside.held g.H.Outside.reading g.H.Outside.writing g.H.Outside.linking g.H.Outside.complaints g.H.Outside.IsSteady c.args.host.now c.want_memory.new.host c.want_memory.result
    (inr said.0) (rw said.0 said.1) c.want_memory.ensures.stays

pub returns-in-Ok-Replay-clause-replays : goal.returns-in-Ok-Replay-clause-replays
returns-in-Ok-Replay-clause-replays g c = λ w says.
    let same = one_replay _ _ c.in-Ok-Replay.words w c.in-Ok-Replay.ensures.said c.in-Ok-Replay.field-0-is says in
    subst (λ (v : ReplayWords). Replays _ g.H.Outside.held g.H.Outside.reading g.H.Outside.writing g.H.Outside.linking g.H.Outside.complaints g.H.Outside.IsSteady c.args.host.now c.run_replay.new.host v c.run_replay.result) same
    c.run_replay.ensures.replays

pub returns-in-Ok-Serve-clause-serves : goal.returns-in-Ok-Serve-clause-serves
returns-in-Ok-Serve-clause-serves g c = λ w says.
    let same = one_serve _ _ c.in-Ok-Serve.words w c.in-Ok-Serve.ensures.said c.in-Ok-Serve.field-0-is says in
    subst (λ (v : ServeWords). Serves _ g.H.Outside.held g.H.Outside.reading g.H.Outside.writing g.H.Outside.linking g.H.Outside.complaints g.H.Outside.IsSteady c.args.host.now c.run_serve.new.host v c.run_serve.result) same
    c.run_serve.ensures.serves

pub returns-in-Ok-Explain-clause-explains : goal.returns-in-Ok-Explain-clause-explains
returns-in-Ok-Explain-clause-explains g c = λ w says.
    let same = one_explain _ _ c.in-Ok-Explain.words w c.in-Ok-Explain.ensures.said c.in-Ok-Explain.field-0-is says in
    subst (λ (v : ExplainWords). Explains _ g.H.Outside.held g.H.Outside.reading g.H.Outside.writing g.H.Outside.linking g.H.Outside.complaints g.H.Outside.IsSteady c.args.host.now c.run_explain.new.host v c.run_explain.result) same
    c.run_explain.ensures.explains

pub returns-in-Ok-Generate-clause-generates : goal.returns-in-Ok-Generate-clause-generates
returns-in-Ok-Generate-clause-generates g c = λ w says.
    let same = one_generate _ _ c.in-Ok-Generate.words w c.in-Ok-Generate.ensures.said c.in-Ok-Generate.field-0-is says in
    subst (λ (v : GenerateWords). Generates _ g.H.Outside.reading g.H.Outside.writing g.H.Outside.linking g.H.Outside.IsSteady c.args.host.now c.run_generate.new.host v c.run_generate.result) same
    c.run_generate.ensures.generates
