use Rattle.std.proofs.Common.{sym, ◌∙◌}
use Rattle.lapd_sides_links.proofs.Predictions.{room_tested}
use Rattle.lapd_sides.proofs.queued_side.QueuedSide.make_room.Goals as goal

pub returns-then-has_room-clause-room : goal.returns-then-has_room-clause-room
returns-then-has_room-clause-room c =
    room_tested c.args.self.now.acts (sym c.has_room.ensures ∙ c.if-has_room.true)
