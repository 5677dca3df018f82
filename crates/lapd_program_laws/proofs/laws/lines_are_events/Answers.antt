use Rattle.lapd_program_laws.proofs.Lines.{network_line, network_lines, network_moves, user_line, user_lines, user_moves}
use Rattle.lapd_program_laws.proofs.laws.lines_are_events.Goals as goal

pub returns : goal.returns
returns c = record {
  network_line = network_line;
  network_lines = network_lines;
  user_line = user_line;
  user_lines = user_lines;
  network_moves = network_moves;
  user_moves = user_moves;
}
