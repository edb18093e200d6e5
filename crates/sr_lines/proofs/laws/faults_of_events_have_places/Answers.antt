use Rattle.std.proofs.Common.{refl}
use Rattle.sr_lines.proofs.laws.faults_of_events_have_places.Goals as goal

pub returns-clause-unknown_word : goal.returns-clause-unknown_word
returns-clause-unknown_word c = refl

pub returns-clause-no_place : goal.returns-clause-no_place
returns-clause-no_place c = refl

pub returns-clause-part_missing : goal.returns-clause-part_missing
returns-clause-part_missing c = refl

pub returns-clause-text_missing : goal.returns-clause-text_missing
returns-clause-text_missing c = refl

pub returns-clause-clients_begin_at_1 : goal.returns-clause-clients_begin_at_1
returns-clause-clients_begin_at_1 c = refl

pub returns-clause-no_such_client : goal.returns-clause-no_such_client
returns-clause-no_such_client c = refl

pub returns-clause-two_spaces : goal.returns-clause-two_spaces
returns-clause-two_spaces c = refl

pub returns-clause-part_too_many : goal.returns-clause-part_too_many
returns-clause-part_too_many c = refl
