use Rattle.std.proofs.Common.{◌≡◌, drop}
use Rattle.lapd_sides.specs.User.{sends_message}
use Rattle.lapd_sides.proofs.user_side.sends_message.Given as goal

abbrev pub invariant-loop-out : goal.invariant-loop-out
invariant-loop-out l = sends_message (drop l.out-index l.outs) ≡ sends_message l.outs
