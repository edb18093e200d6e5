use Rattle.std.proofs.Common.{sym, subst}
use Rattle.sr_client.specs.declared.steps.Took.TheVariants as took
use Rattle.sr_client.specs.Steps.{Takes}
use Rattle.sr_client.proofs.LayLemmas.{takes-laid, some-of}
use Rattle.sr_client.proofs.client.Client.lay_by.Goals as goal

pub returns-clause-takes : goal.returns-clause-takes
returns-clause-takes c =
    let old = c.args.self.now in
    let m = c.args.message in
    let out = some-of old.out c.requires.out in
    subst (λ ms. Takes old m (record old { laid = ms }) took.Laid) (sym c.in_ok-push.ensures.pushed) (takes-laid old m out.0 out.1 c.requires.fit c.requires.laid c.requires.stands)
