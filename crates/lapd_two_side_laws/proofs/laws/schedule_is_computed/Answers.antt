use Rattle.lapd_two_side_laws.proofs.Computed.{both_links_so, removed_so, assigned_so}
use Rattle.lapd_two_side_laws.proofs.laws.schedule_is_computed.Goals as goal

pub returns : goal.returns
returns c = record {
  call_premises = λ message answer one two. (both_links_so message answer one two).call_premises;
  packet_premises =
      λ message answer one two. (both_links_so message answer one two).packet_premises;
  call_to_user = λ message answer one two. (both_links_so message answer one two).call_to_user;
  call_to_network =
      λ message answer one two. (both_links_so message answer one two).call_to_network;
  packet_to_user = λ message answer one two. (both_links_so message answer one two).packet_to_user;
  packet_to_network =
      λ message answer one two. (both_links_so message answer one two).packet_to_network;
  call_received_in =
      λ message answer one two. (both_links_so message answer one two).call_received_in;
  call_sent_in = λ message answer one two. (both_links_so message answer one two).call_sent_in;
  removed_premises = λ first one. (removed_so first one).premises;
  removed_to_user = λ first one. (removed_so first one).to_user;
  assigned_premises = λ message one. (assigned_so message one).premises;
  assigned_to_user = λ message one. (assigned_so message one).to_user;
  assigned_to_network = λ message one. (assigned_so message one).to_network;
}
