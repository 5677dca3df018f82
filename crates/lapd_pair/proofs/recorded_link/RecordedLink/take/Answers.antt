use Rattle.lapd_pair.specs.Station.{with_outs}
use Rattle.std.proofs.Common.{sym, ◌∙◌}
use Rattle.lapd_link_definition.specs.Input.{input_of}
use Rattle.lapd_pair.proofs.Acts.{takes_refused, takes_is_ok, request_acts, request_refused, shows_still}
use Rattle.lapd_pair.proofs.recorded_link.RecordedLink.take.Goals as goal

pub returns-in-Some-clause-err : goal.returns-in-Some-clause-err
returns-in-Some-clause-err c =
    λ side v shown. takes_refused (input_of c.args.event) c.args.octets.now v c.in-Some.fault
    (sym (c.refusal.ensures v.station.end shown.link) ∙ c.in-Some.is)

pub returns-in_default-make_room-clause-err : goal.returns-in_default-make_room-clause-err
returns-in_default-make_room-clause-err c =
    λ side v shown. takes_is_ok (input_of c.args.event) c.args.octets.now v
    (sym (c.refusal.ensures v.station.end shown.link) ∙ c.in_default.is)

pub returns-clause-ok : goal.returns-clause-ok
returns-clause-ok c =
    request_acts (input_of c.args.event) c.args.octets.now c.args.self.now c.make_room.new.self
    c.step.new.self c.args.outward.now c.make_room.new.outward c.step.new.outward
    (with_outs c.step.result c.step.new.outs)
    c.requires.asked (λ e shown. sym (c.refusal.ensures e shown) ∙ c.in_default.is)
    c.make_room.ensures.station c.make_room.ensures.line c.step.ensures.ok

pub returns-clause-err : goal.returns-clause-err
returns-clause-err c =
    request_refused (input_of c.args.event) c.args.octets.now c.args.self.now c.make_room.new.self
    (with_outs c.step.result c.step.new.outs) c.make_room.ensures.station c.step.ensures.err

pub returns-clause-unchanged : goal.returns-clause-unchanged
returns-clause-unchanged c =
    shows_still c.args.self.now c.make_room.new.self c.step.new.self c.args.outward.now
    c.make_room.new.outward c.step.new.outward (with_outs c.step.result c.step.new.outs)
    c.make_room.ensures.station c.make_room.ensures.line c.step.ensures.unchanged
