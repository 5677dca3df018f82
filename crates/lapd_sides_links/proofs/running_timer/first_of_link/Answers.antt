use Rattle.lapd_sides_links.proofs.DueTimers.{first_of_both}
use Rattle.lapd_sides_links.proofs.running_timer.first_of_link.Goals as goal

pub returns : goal.returns
returns c = first_of_both c.args.id.now c.args.timers.now c.expiry.result c.expiry-2.result
    c.sooner.result c.expiry.ensures c.expiry-2.ensures c.sooner.ensures
