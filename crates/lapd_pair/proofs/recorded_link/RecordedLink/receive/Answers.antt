use Rattle.lapd_pair.specs.Station.{with_outs}
use Rattle.std.proofs.Common.{◌∙◌}
use Rattle.lapd_pair.proofs.Acts.{receives_is_ok, frame_acts, frame_refused, shows_still}
use Rattle.lapd_pair.proofs.recorded_link.RecordedLink.receive.Goals as goal

pub returns-in_default-clause-err : goal.returns-in_default-clause-err
returns-in_default-clause-err c = λ flight same side v shown. receives_is_ok flight v

pub returns-in_default-make_room-clause-err : goal.returns-in_default-make_room-clause-err
returns-in_default-make_room-clause-err c = λ flight same side v shown. receives_is_ok flight v

pub returns-clause-ok : goal.returns-clause-ok
returns-clause-ok c =
    frame_acts c.args.frame.now c.info-2.result.now c.in-Ok.copy c.args.self.now
    c.make_room.new.self c.step.new.self c.args.outward.now c.make_room.new.outward
    c.step.new.outward (with_outs c.step.result c.step.new.outs)
    c.info-2.ensures (c.in-Ok.ensures.items ∙ c.info.ensures) c.make_room.ensures.station
    c.make_room.ensures.line c.step.ensures.ok

pub returns-clause-err : goal.returns-clause-err
returns-clause-err c =
    frame_refused c.args.frame.now c.args.self.now c.make_room.new.self
    (with_outs c.step.result c.step.new.outs) c.make_room.ensures.station c.step.ensures.err

pub returns-clause-unchanged : goal.returns-clause-unchanged
returns-clause-unchanged c =
    shows_still c.args.self.now c.make_room.new.self c.step.new.self c.args.outward.now
    c.make_room.new.outward c.step.new.outward (with_outs c.step.result c.step.new.outs)
    c.make_room.ensures.station c.make_room.ensures.line c.step.ensures.unchanged
