use Rattle.lapd_two_side_laws.proofs.AnsweredRequests.{network_counts, user_counts, network_is_in_time, user_is_in_time}
use Rattle.lapd_two_side_laws.proofs.AnsweredWithoutTei.{user_without_tei, user_without_tei_in_time}
use Rattle.lapd_two_side_laws.proofs.answers.every_request_is_answered.Goals as goal

pub returns : goal.returns
returns c = record {
  network = λ config known before after asked id now a octets done keeps enough.
      network_counts config known before asked id now a octets done after keeps enough;
  user = λ config fixed random before after asked id now a octets own done keeps enough.
      user_counts config fixed random before asked id now a octets own done after keeps enough;
  network_in_time =
      λ config known before after asked id lateness now moment a octets by done keeps t late.
      network_is_in_time config known before asked id now a octets done after keeps lateness moment
      by t.at_each t.at_last late;
  user_in_time =
      λ config fixed random before after asked id lateness now moment a octets by own done keeps t
      late.
      user_is_in_time config fixed random before asked id now a octets own done after keeps
      lateness moment by t.at_each t.at_last late;
  user_without_tei = user_without_tei;
  user_without_tei_in_time = user_without_tei_in_time;
}
