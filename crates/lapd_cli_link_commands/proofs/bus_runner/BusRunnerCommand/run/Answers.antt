use Rattle.std.proofs.Common.{◌≡◌, Some, sym, ◌∙◌}
use Rattle.lapd_cli_script.specs.Line.{words_of}
use Rattle.lapd_cli_link_commands.specs.BusMoves.{move_of}
use Rattle.lapd_cli_link_commands.proofs.bus_runner.BusRunnerCommand.run.Goals as goal

pub returns-in-Some : goal.returns-in-Some
returns-in-Some g c =
    λ s h. let e : move_of (words_of c.args.line.now) ≡ Some c.in-Some.m =
    sym c.move_of.ensures ∙ c.in-Some.is in rw e (c.make.ensures s h)
