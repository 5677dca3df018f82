use Rattle.lapd_pair_laws.proofs.Schedules as schedules
use Rattle.lapd_pair_laws.proofs.histories.refusals_are_computed.Goals as goal

pub returns : goal.returns
returns c = record {
  nothing_to_deliver = schedules.nothing_to_deliver;
  nothing_to_lose = schedules.nothing_to_lose;
  t200_is_stopped = schedules.t200_is_stopped;
  t203_is_stopped = schedules.t203_is_stopped;
  enquiry_under_way = schedules.enquiry_under_way;
  enquiry_behind_message = schedules.enquiry_behind_message;
  answer_under_way = schedules.answer_under_way;
  not_established = schedules.not_established;
}
