use Rattle.std.proofs.Common.{arith}
use Rattle.std.proofs.lemmas.Grind.{common_steps}
use Rattle.lapd_link.proofs.BetweenSteps.{shows_end}
use Rattle.lapd_cli_live_text.specs.LinkText.{link_text, shown_end}
use Rattle.lapd_cli_live_text.proofs.link_text.push_link.Goals as goal

pub returns-clause-end : goal.returns-clause-end
unfolding link_text
returns-clause-end c = grind (arith, common_steps)

pub returns-clause-shown : goal.returns-clause-shown
returns-clause-shown c =
    returns-clause-end c (shown_end c.args.link.now)
    (shows_end c.args.link.now.machine c.args.link.now.between)
