use Rattle.lapd_restart_laws.proofs.RestartsComputed.{command_keeps, command_outlasts, answer_keeps, answer_outlasts, comes_back_so, comes_back_is_not_right}
use Rattle.lapd_restart_laws.proofs.restarts.each_restart_premise_is_needed.Goals as goal

pub returns : goal.returns
returns c = record {
  command = (command_keeps, command_outlasts);
  answer = (answer_keeps, answer_outlasts);
  link = λ v w x y. ((comes_back_so v w x y).keeps, comes_back_is_not_right v w x y);
}
