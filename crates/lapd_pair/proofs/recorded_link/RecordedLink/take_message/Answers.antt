use Rattle.lapd_pair.specs.Station.{with_outs}
use Rattle.std.proofs.Common.{[], refl, sym, ◌∙◌}
use Rattle.lapd_link_definition.specs.Input.{Give}
use Rattle.lapd_pair.proofs.Acts.{takes_refused, takes_is_ok, message_acts, message_refused, shows_still}
use Rattle.lapd_pair.proofs.recorded_link.RecordedLink.take_message.Goals as goal

pub returns-in-Some-clause-err : goal.returns-in-Some-clause-err
returns-in-Some-clause-err c =
    λ side v shown. takes_refused (Give c.args.message.now) [] v c.in-Some.fault
    (sym (c.give_refusal.ensures c.args.message.now v.station.end refl shown.link) ∙ c.in-Some.is)

pub returns-in_default-from_slice-clause-err : goal.returns-in_default-from_slice-clause-err
returns-in_default-from_slice-clause-err c =
    λ side v shown. takes_is_ok (Give c.args.message.now) [] v
    (sym (c.give_refusal.ensures c.args.message.now v.station.end refl shown.link)
    ∙ c.in_default.is)

pub returns-in_default-from_slice-2-clause-err : goal.returns-in_default-from_slice-2-clause-err
returns-in_default-from_slice-2-clause-err c =
    λ side v shown. takes_is_ok (Give c.args.message.now) [] v
    (sym (c.give_refusal.ensures c.args.message.now v.station.end refl shown.link)
    ∙ c.in_default.is)

pub returns-in_default-make_room_for_message-clause-err :
    goal.returns-in_default-make_room_for_message-clause-err
returns-in_default-make_room_for_message-clause-err c =
    λ side v shown. takes_is_ok (Give c.args.message.now) [] v
    (sym (c.give_refusal.ensures c.args.message.now v.station.end refl shown.link)
    ∙ c.in_default.is)

pub returns-clause-ok : goal.returns-clause-ok
returns-clause-ok c =
    message_acts c.args.message.now c.in-Ok-from_slice.queued.items c.in-Ok.preserved.items
    c.args.self.now c.make_room_for_message.new.self c.give.new.self c.args.outward.now
    c.make_room_for_message.new.outward c.give.new.outward (with_outs c.give.result c.give.new.outs)
    c.in-Ok-from_slice.ensures.items c.in-Ok.ensures.items c.make_room_for_message.ensures.station
    c.make_room_for_message.ensures.line c.give.ensures.ok

pub returns-clause-err : goal.returns-clause-err
returns-clause-err c =
    message_refused c.args.message.now c.in-Ok-from_slice.queued.items c.args.self.now
    c.make_room_for_message.new.self (with_outs c.give.result c.give.new.outs)
    c.in-Ok-from_slice.ensures.items c.make_room_for_message.ensures.station c.give.ensures.err

pub returns-clause-unchanged : goal.returns-clause-unchanged
returns-clause-unchanged c =
    shows_still c.args.self.now c.make_room_for_message.new.self c.give.new.self c.args.outward.now
    c.make_room_for_message.new.outward c.give.new.outward (with_outs c.give.result c.give.new.outs)
    c.make_room_for_message.ensures.station c.make_room_for_message.ensures.line
    c.give.ensures.unchanged
