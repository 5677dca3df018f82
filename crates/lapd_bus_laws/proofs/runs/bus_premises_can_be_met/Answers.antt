use Rattle.lapd_bus_laws.proofs.RunsComputed.{requested_is_reached, assigns_apart, assigns_its_tei, one_claims, lines_are_clear, talking_so, moved_apart, moved_holders, fixed_claims, fixed_talks_so}
use Rattle.lapd_bus_laws.proofs.runs.bus_premises_can_be_met.Goals as goal

pub returns : goal.returns
returns c = record {
  reached = requested_is_reached;
  apart = assigns_apart;
  assigns = assigns_its_tei;
  only = one_claims;
  clear = lines_are_clear;
  keeps = λ message other one two. (talking_so message other one two).keeps;
  to_network = λ message other one two. (talking_so message other one two).to_network;
  second_to_network = λ message other one two. (talking_so message other one two).second_to_network;
  to_terminals = λ message other one two. (talking_so message other one two).to_terminals;
  moved_apart = moved_apart;
  moved_holders = moved_holders;
  fixed_only = fixed_claims;
  fixed_keeps = λ message one. (fixed_talks_so message one).keeps;
  fixed_to_network = λ message one. (fixed_talks_so message one).to_network;
}
