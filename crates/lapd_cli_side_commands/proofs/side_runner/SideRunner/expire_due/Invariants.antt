use Rattle.std.proofs.Common.{◌≡◌}
use Rattle.lapd_sides.specs.Either.{side_of}
use Rattle.lapd_cli_side_commands.specs.LineOutputs.{sent_of, primitives_text_of, traced_of}
use Rattle.lapd_cli_side_commands.proofs.Serving.{ExpiresSome}
use Rattle.lapd_cli_side_commands.proofs.side_runner.SideRunner.expire_due.Given as goal

abbrev pub invariant-loop-tick : goal.invariant-loop-tick
invariant-loop-tick g l = record {
  side : side_of l.self.side ≡ side_of l.initial.self.side;
  clock : l.self.now ≡ l.initial.self.now;
  style : l.self.style ≡ l.initial.self.style;
  port : l.self.port ≡ l.initial.self.port;
  out : l.self.out ≡ l.initial.self.out;
  some : ExpiresSome l.initial.self.style l.initial.self.now (side_of l.initial.self.side)
      l.initial.self.side l.self.side (sent_of l.self.output)
      (traced_of l.self.output) (primitives_text_of l.self.output);
}
