use Rattle.lapd_link_definition.proofs.Soundness.{sound_new, sound_step}
use Rattle.lapd_link_definition.proofs.laws.all_sent_are_outstanding.Goals as goal

pub returns : goal.returns
returns c = record { begins = sound_new; stays = sound_step }
