use Rattle.lapd_cli_live.proofs.Kept.{found_in}
use Rattle.lapd_cli_live.proofs.recent_output.RecentOutput.take.Goals as goal

pub returns-in-Some-clause-matched : goal.returns-in-Some-clause-matched
returns-in-Some-clause-matched c =
    found_in c.args.words.now _ _ _ c.args.self.now.lines.items c.in-Some.is
    c.place_of.ensures.matched c.as_slice.ensures.value

pub returns-in-None-clause-matched : goal.returns-in-None-clause-matched
returns-in-None-clause-matched c =
    found_in c.args.words.now _ _ _ c.args.self.now.lines.items c.in-None.is
    c.place_of.ensures.matched c.as_slice.ensures.value
