use Rattle.std.proofs.Common.{◌≡◌}
use Rattle.lapd_cli_wire.proofs.SentLater.{SomeRounds}
use Rattle.lapd_cli_wire.proofs.impaired.ImpairedOutside.wait.Given as goal

abbrev pub invariant-loop-sleep : goal.invariant-loop-sleep
invariant-loop-sleep g l = record {
  rounds : SomeRounds l.until l.initial.self.delays l.self.delays
      (g.O.Outside.io_events l.initial.self.inner) (g.O.Outside.io_events l.self.inner);
  impairment : l.self.delays.impairment ≡ l.initial.self.delays.impairment;
}
