use Rattle.lapd_sides.specs.Either.{Gives}
use Rattle.lapd_sides.proofs.Queueing.{with_room}
use Rattle.lapd_sides.proofs.queued_side.QueuedSide.give.Goals as goal

pub returns-in-Ok : goal.returns-in-Ok
returns-in-Ok c = with_room (Gives c.args.id c.args.octets.now c.args.now) c.give_with_room.result
    c.args.self.now c.make_room.new.self c.give_with_room.new.self
    c.in-Ok.ensures.kept c.give_with_room.ensures
