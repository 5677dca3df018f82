use Rattle.std.proofs.Common.{◌∙◌}
use Rattle.lapd_cli_wire.proofs.SentLater.{all_rounds, more_rounds}
use Rattle.lapd_cli_wire.proofs.impaired.ImpairedOutside.wait.Goals as goal

pub returns-then-is_over-clause-waits : goal.returns-then-is_over-clause-waits
returns-then-is_over-clause-waits g c =
    all_rounds _ _ _ _ _ _ _ _ _ c.loop-sleep.invariant.rounds c.if-is_over.true
    c.in_ok-woken.ensures.round

pub loop-sleep-preserved : goal.loop-sleep-preserved
loop-sleep-preserved g c = record {
  rounds =
      more_rounds _ _ _ _ _ _ _ _ _ c.loop-sleep.invariant.rounds c.if-is_over.false
      c.in_ok-woken.ensures.round;
  impairment = c.in_ok-woken.ensures.impairment ∙ c.loop-sleep.invariant.impairment;
}
