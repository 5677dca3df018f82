use Rattle.lapd_pair_laws.proofs.Schedules as schedules
use Rattle.lapd_pair_laws.proofs.histories.moves_are_computed.Goals as goal

pub returns : goal.returns
returns c = record {
  given = schedules.message_is_sent;
  lost = schedules.first_is_lost;
  release = schedules.disc_is_sent;
  t203 = schedules.enquiry_is_sent;
  busy = schedules.rnr_is_sent;
  busy_no_longer = schedules.rr_is_sent;
  unit = schedules.ui_is_sent;
}
