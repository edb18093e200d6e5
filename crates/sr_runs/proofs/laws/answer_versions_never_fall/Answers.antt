use Rattle.sr_runs.proofs.VersionLemmas.{answer-versions-never-fall, named-versions-never-fall}
use Rattle.sr_runs.proofs.laws.answer_versions_never_fall.Goals as goal

pub returns : goal.returns
returns c = record { versions = answer-versions-never-fall; named = named-versions-never-fall }
