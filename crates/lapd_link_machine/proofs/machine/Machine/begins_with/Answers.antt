use Rattle.std.proofs.Common.{rules}
use Rattle.lapd_link_definition.specs.End.{begin}
use Rattle.lapd_link_machine.proofs.machine.Machine.begins_with.Goals as goal

pub returns-then-is_final_ua : goal.returns-then-is_final_ua
unfolding begin
returns-then-is_final_ua c = search rules

pub returns-else-is_final_ua : goal.returns-else-is_final_ua
unfolding begin
returns-else-is_final_ua c = search rules
