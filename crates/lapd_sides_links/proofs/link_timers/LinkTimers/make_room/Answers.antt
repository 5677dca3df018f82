use Rattle.std.proofs.Common.{sym, ◌∙◌}
use Rattle.lapd_sides_links.specs.LinkTimers.{timers_of}
use Rattle.lapd_sides_links.proofs.LoneTimers.{has_lone_place}
use Rattle.lapd_sides_links.proofs.link_timers.LinkTimers.make_room.Goals as goal

pub returns-else-not-is_of-clause-room : goal.returns-else-not-is_of-clause-room
unfolding timers_of
returns-else-not-is_of-clause-room c =
    has_lone_place c.in-One.lone c.args.id.now (sym c.is_of.ensures ∙ c.if-not-is_of.false)
