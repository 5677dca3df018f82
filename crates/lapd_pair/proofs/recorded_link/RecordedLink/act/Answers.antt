use Rattle.lapd_pair.specs.Station.{with_outs}
use Rattle.std.proofs.Common.{[], length}
use Rattle.lapd_mod128.specs.Counting.{Tagged}
use Rattle.lapd_link_definition.specs.Input.{Establish, Release, UnitData, Give}
use Rattle.lapd_pair_laws.specs.Move.{takes, delivers, loses, busy_input, quietly, restarts, acts, expires_200, expires_203}
use Rattle.lapd_pair.specs.Moves.{move_of}
use Rattle.lapd_pair.proofs.Views.{request_takes_none, expiry_takes_none, acts_in_view, refuses_in_view, shows_view, acts_as_in_view, refuses_as_in_view, given_as, establish_is, release_is, deliver_is, lose_is, expire_200_is, expire_203_is, busy_is, unit_as, restart_is}
use Rattle.lapd_pair.proofs.recorded_link.RecordedLink.act.Goals as goal

pub returns-in-Give-clause-ok : goal.returns-in-Give-clause-ok
returns-in-Give-clause-ok c =
    acts_as_in_view (λ side v. takes Tagged (Give c.deref.result.now) [] v)
    (λ side v. acts Tagged side (move_of c.args.mv.now).event v) c.args.self.now
    c.take_message.new.self c.args.inward.now c.args.outward.now c.args.inward.now
    c.take_message.new.outward (with_outs c.take_message.result c.take_message.new.outs)
    (λ side v shown. given_as c.args.mv.now c.in-Give.field-0 c.in-Give.message
    c.deref.result.now c.in-Give.is c.deref.ensures.value side v)
    (acts_in_view (λ side v. takes Tagged (Give c.deref.result.now) [] v) c.args.self.now
    c.take_message.new.self c.args.inward.now c.args.outward.now c.take_message.new.outward
    (with_outs c.take_message.result c.take_message.new.outs)
    (request_takes_none (Give c.deref.result.now) []) c.take_message.ensures.ok)

pub returns-in-Give-clause-err : goal.returns-in-Give-clause-err
returns-in-Give-clause-err c =
    refuses_as_in_view (λ side v. takes Tagged (Give c.deref.result.now) [] v)
    (λ side v. acts Tagged side (move_of c.args.mv.now).event v) c.args.self.now
    c.args.inward.now c.args.outward.now
    (with_outs c.take_message.result c.take_message.new.outs)
    (λ side v shown. given_as c.args.mv.now c.in-Give.field-0 c.in-Give.message
    c.deref.result.now c.in-Give.is c.deref.ensures.value side v)
    (refuses_in_view (λ side v. takes Tagged (Give c.deref.result.now) [] v) c.args.self.now
    c.args.inward.now c.args.outward.now
    (with_outs c.take_message.result c.take_message.new.outs) c.take_message.ensures.err)

pub returns-in-Give-clause-unchanged : goal.returns-in-Give-clause-unchanged
returns-in-Give-clause-unchanged c =
    shows_view c.args.self.now c.take_message.new.self c.args.inward.now c.args.outward.now
    c.take_message.new.outward (with_outs c.take_message.result c.take_message.new.outs)
    c.take_message.ensures.unchanged

pub returns-in-Establish-clause-ok : goal.returns-in-Establish-clause-ok
returns-in-Establish-clause-ok c =
    acts_as_in_view (λ side v. takes Tagged Establish [] v)
    (λ side v. acts Tagged side (move_of c.args.mv.now).event v) c.args.self.now c.take.new.self
    c.args.inward.now c.args.outward.now c.args.inward.now c.take.new.outward
    (with_outs c.take.result c.take.new.outs)
    (λ side v shown. establish_is c.args.mv.now c.in-Establish.field-0 c.in-Establish.is side v)
    (acts_in_view (λ side v. takes Tagged Establish [] v) c.args.self.now c.take.new.self
    c.args.inward.now c.args.outward.now c.take.new.outward
    (with_outs c.take.result c.take.new.outs) (request_takes_none Establish [])
    c.take.ensures.ok)

pub returns-in-Establish-clause-err : goal.returns-in-Establish-clause-err
returns-in-Establish-clause-err c =
    refuses_as_in_view (λ side v. takes Tagged Establish [] v)
    (λ side v. acts Tagged side (move_of c.args.mv.now).event v) c.args.self.now
    c.args.inward.now c.args.outward.now (with_outs c.take.result c.take.new.outs)
    (λ side v shown. establish_is c.args.mv.now c.in-Establish.field-0 c.in-Establish.is side v)
    (refuses_in_view (λ side v. takes Tagged Establish [] v) c.args.self.now c.args.inward.now
    c.args.outward.now (with_outs c.take.result c.take.new.outs) c.take.ensures.err)

pub returns-in-Establish-clause-unchanged : goal.returns-in-Establish-clause-unchanged
returns-in-Establish-clause-unchanged c =
    shows_view c.args.self.now c.take.new.self c.args.inward.now c.args.outward.now
    c.take.new.outward (with_outs c.take.result c.take.new.outs) c.take.ensures.unchanged

pub returns-in-Release-clause-ok : goal.returns-in-Release-clause-ok
returns-in-Release-clause-ok c =
    acts_as_in_view (λ side v. takes Tagged Release [] v)
    (λ side v. acts Tagged side (move_of c.args.mv.now).event v) c.args.self.now
    c.take-in-Release.new.self c.args.inward.now c.args.outward.now c.args.inward.now
    c.take-in-Release.new.outward
    (with_outs c.take-in-Release.result c.take-in-Release.new.outs)
    (λ side v shown. release_is c.args.mv.now c.in-Release.field-0 c.in-Release.is side v)
    (acts_in_view (λ side v. takes Tagged Release [] v) c.args.self.now c.take-in-Release.new.self
    c.args.inward.now c.args.outward.now c.take-in-Release.new.outward
    (with_outs c.take-in-Release.result c.take-in-Release.new.outs)
    (request_takes_none Release []) c.take-in-Release.ensures.ok)

pub returns-in-Release-clause-err : goal.returns-in-Release-clause-err
returns-in-Release-clause-err c =
    refuses_as_in_view (λ side v. takes Tagged Release [] v)
    (λ side v. acts Tagged side (move_of c.args.mv.now).event v) c.args.self.now
    c.args.inward.now c.args.outward.now
    (with_outs c.take-in-Release.result c.take-in-Release.new.outs)
    (λ side v shown. release_is c.args.mv.now c.in-Release.field-0 c.in-Release.is side v)
    (refuses_in_view (λ side v. takes Tagged Release [] v) c.args.self.now c.args.inward.now
    c.args.outward.now (with_outs c.take-in-Release.result c.take-in-Release.new.outs)
    c.take-in-Release.ensures.err)

pub returns-in-Release-clause-unchanged : goal.returns-in-Release-clause-unchanged
returns-in-Release-clause-unchanged c =
    shows_view c.args.self.now c.take-in-Release.new.self c.args.inward.now c.args.outward.now
    c.take-in-Release.new.outward (with_outs c.take-in-Release.result c.take-in-Release.new.outs)
    c.take-in-Release.ensures.unchanged

pub returns-in-Expire203-clause-ok : goal.returns-in-Expire203-clause-ok
returns-in-Expire203-clause-ok c =
    acts_as_in_view (λ side v. expires_203 Tagged v)
    (λ side v. acts Tagged side (move_of c.args.mv.now).event v) c.args.self.now
    c.expire_203.new.self c.args.inward.now c.args.outward.now c.args.inward.now
    c.expire_203.new.outward (with_outs c.expire_203.result c.expire_203.new.outs)
    (λ side v shown. expire_203_is c.args.mv.now c.in-Expire203.field-0 c.in-Expire203.is side
    v)
    (acts_in_view (λ side v. expires_203 Tagged v) c.args.self.now c.expire_203.new.self
    c.args.inward.now c.args.outward.now c.expire_203.new.outward
    (with_outs c.expire_203.result c.expire_203.new.outs) expiry_takes_none
    c.expire_203.ensures.ok)

pub returns-in-Expire203-clause-err : goal.returns-in-Expire203-clause-err
returns-in-Expire203-clause-err c =
    refuses_as_in_view (λ side v. expires_203 Tagged v)
    (λ side v. acts Tagged side (move_of c.args.mv.now).event v) c.args.self.now
    c.args.inward.now c.args.outward.now (with_outs c.expire_203.result c.expire_203.new.outs)
    (λ side v shown. expire_203_is c.args.mv.now c.in-Expire203.field-0 c.in-Expire203.is side
    v) (refuses_in_view (λ side v. expires_203 Tagged v) c.args.self.now c.args.inward.now
    c.args.outward.now (with_outs c.expire_203.result c.expire_203.new.outs)
    c.expire_203.ensures.err)

pub returns-in-Expire203-clause-unchanged : goal.returns-in-Expire203-clause-unchanged
returns-in-Expire203-clause-unchanged c =
    shows_view c.args.self.now c.expire_203.new.self c.args.inward.now c.args.outward.now
    c.expire_203.new.outward (with_outs c.expire_203.result c.expire_203.new.outs)
    c.expire_203.ensures.unchanged

pub returns-in-Busy-clause-ok : goal.returns-in-Busy-clause-ok
returns-in-Busy-clause-ok c =
    acts_as_in_view (λ side v. takes Tagged (busy_input c.in-Busy.on) [] v)
    (λ side v. acts Tagged side (move_of c.args.mv.now).event v) c.args.self.now
    c.set_busy.new.self c.args.inward.now c.args.outward.now c.args.inward.now
    c.set_busy.new.outward (with_outs c.set_busy.result c.set_busy.new.outs)
    (λ side v shown. busy_is c.args.mv.now c.in-Busy.field-0 c.in-Busy.on c.in-Busy.is side v)
    (acts_in_view (λ side v. takes Tagged (busy_input c.in-Busy.on) [] v) c.args.self.now
    c.set_busy.new.self c.args.inward.now c.args.outward.now c.set_busy.new.outward
    (with_outs c.set_busy.result c.set_busy.new.outs)
    (request_takes_none (busy_input c.in-Busy.on) []) c.set_busy.ensures.ok)

pub returns-in-Busy-clause-err : goal.returns-in-Busy-clause-err
returns-in-Busy-clause-err c =
    refuses_as_in_view (λ side v. takes Tagged (busy_input c.in-Busy.on) [] v)
    (λ side v. acts Tagged side (move_of c.args.mv.now).event v) c.args.self.now
    c.args.inward.now c.args.outward.now (with_outs c.set_busy.result c.set_busy.new.outs)
    (λ side v shown. busy_is c.args.mv.now c.in-Busy.field-0 c.in-Busy.on c.in-Busy.is side v)
    (refuses_in_view (λ side v. takes Tagged (busy_input c.in-Busy.on) [] v) c.args.self.now
    c.args.inward.now c.args.outward.now (with_outs c.set_busy.result c.set_busy.new.outs)
    c.set_busy.ensures.err)

pub returns-in-Busy-clause-unchanged : goal.returns-in-Busy-clause-unchanged
returns-in-Busy-clause-unchanged c =
    shows_view c.args.self.now c.set_busy.new.self c.args.inward.now c.args.outward.now
    c.set_busy.new.outward (with_outs c.set_busy.result c.set_busy.new.outs)
    c.set_busy.ensures.unchanged

pub returns-in-Unit-clause-ok : goal.returns-in-Unit-clause-ok
returns-in-Unit-clause-ok c =
    acts_as_in_view (λ side v. takes Tagged (UnitData (length c.deref-in-Unit.result.now))
    c.deref-in-Unit.result.now v)
    (λ side v. acts Tagged side (move_of c.args.mv.now).event v) c.args.self.now
    c.take_unit.new.self c.args.inward.now c.args.outward.now c.args.inward.now
    c.take_unit.new.outward (with_outs c.take_unit.result c.take_unit.new.outs)
    (λ side v shown. unit_as c.args.mv.now c.in-Unit.field-0 c.in-Unit.octets
    c.deref-in-Unit.result.now c.in-Unit.is c.deref-in-Unit.ensures.value side v)
    (acts_in_view (λ side v. takes Tagged (UnitData (length c.deref-in-Unit.result.now))
    c.deref-in-Unit.result.now v) c.args.self.now c.take_unit.new.self c.args.inward.now
    c.args.outward.now c.take_unit.new.outward
    (with_outs c.take_unit.result c.take_unit.new.outs)
    (request_takes_none (UnitData (length c.deref-in-Unit.result.now))
    c.deref-in-Unit.result.now) c.take_unit.ensures.ok)

pub returns-in-Unit-clause-err : goal.returns-in-Unit-clause-err
returns-in-Unit-clause-err c =
    refuses_as_in_view (λ side v. takes Tagged (UnitData (length c.deref-in-Unit.result.now))
    c.deref-in-Unit.result.now v)
    (λ side v. acts Tagged side (move_of c.args.mv.now).event v) c.args.self.now
    c.args.inward.now c.args.outward.now (with_outs c.take_unit.result c.take_unit.new.outs)
    (λ side v shown. unit_as c.args.mv.now c.in-Unit.field-0 c.in-Unit.octets
    c.deref-in-Unit.result.now c.in-Unit.is c.deref-in-Unit.ensures.value side v)
    (refuses_in_view (λ side v. takes Tagged (UnitData (length c.deref-in-Unit.result.now))
    c.deref-in-Unit.result.now v) c.args.self.now c.args.inward.now c.args.outward.now
    (with_outs c.take_unit.result c.take_unit.new.outs) c.take_unit.ensures.err)

pub returns-in-Unit-clause-unchanged : goal.returns-in-Unit-clause-unchanged
returns-in-Unit-clause-unchanged c =
    shows_view c.args.self.now c.take_unit.new.self c.args.inward.now c.args.outward.now
    c.take_unit.new.outward (with_outs c.take_unit.result c.take_unit.new.outs)
    c.take_unit.ensures.unchanged

pub returns-in-Deliver-clause-ok : goal.returns-in-Deliver-clause-ok
returns-in-Deliver-clause-ok c =
    acts_as_in_view (λ side v. delivers Tagged v.incoming v)
    (λ side v. acts Tagged side (move_of c.args.mv.now).event v) c.args.self.now c.deliver.new.self
    c.args.inward.now c.args.outward.now c.deliver.new.inward c.deliver.new.outward
    (with_outs c.deliver.result c.deliver.new.outs)
    (λ side v shown. deliver_is c.args.mv.now c.in-Deliver.field-0 c.in-Deliver.is side v)
    c.deliver.ensures.ok

pub returns-in-Deliver-clause-err : goal.returns-in-Deliver-clause-err
returns-in-Deliver-clause-err c =
    refuses_as_in_view (λ side v. delivers Tagged v.incoming v)
    (λ side v. acts Tagged side (move_of c.args.mv.now).event v) c.args.self.now c.args.inward.now
    c.args.outward.now (with_outs c.deliver.result c.deliver.new.outs)
    (λ side v shown. deliver_is c.args.mv.now c.in-Deliver.field-0 c.in-Deliver.is side v)
    c.deliver.ensures.err

pub returns-in-Lose-clause-ok : goal.returns-in-Lose-clause-ok
returns-in-Lose-clause-ok c =
    acts_as_in_view (λ side v. loses c.in-Lose.place v)
    (λ side v. acts Tagged side (move_of c.args.mv.now).event v) c.args.self.now c.args.self.now
    c.args.inward.now c.args.outward.now c.lose.new.inward c.args.outward.now
    (with_outs c.lose.result c.lose.new.outs)
    (λ side v shown. lose_is c.args.mv.now c.in-Lose.field-0 c.in-Lose.place c.in-Lose.is side v)
    c.lose.ensures.ok

pub returns-in-Lose-clause-err : goal.returns-in-Lose-clause-err
returns-in-Lose-clause-err c =
    refuses_as_in_view (λ side v. loses c.in-Lose.place v)
    (λ side v. acts Tagged side (move_of c.args.mv.now).event v) c.args.self.now c.args.inward.now
    c.args.outward.now (with_outs c.lose.result c.lose.new.outs)
    (λ side v shown. lose_is c.args.mv.now c.in-Lose.field-0 c.in-Lose.place c.in-Lose.is side v)
    c.lose.ensures.err

pub returns-in-Expire200-clause-ok : goal.returns-in-Expire200-clause-ok
returns-in-Expire200-clause-ok c =
    acts_as_in_view (λ side v. expires_200 Tagged side v)
    (λ side v. acts Tagged side (move_of c.args.mv.now).event v) c.args.self.now
    c.expire_200.new.self c.args.inward.now c.args.outward.now c.expire_200.new.inward
    c.expire_200.new.outward (with_outs c.expire_200.result c.expire_200.new.outs)
    (λ side v shown. expire_200_is c.args.mv.now c.in-Expire200.field-0 c.in-Expire200.is side v)
    c.expire_200.ensures.ok

pub returns-in-Expire200-clause-err : goal.returns-in-Expire200-clause-err
returns-in-Expire200-clause-err c =
    refuses_as_in_view (λ side v. expires_200 Tagged side v)
    (λ side v. acts Tagged side (move_of c.args.mv.now).event v) c.args.self.now c.args.inward.now
    c.args.outward.now (with_outs c.expire_200.result c.expire_200.new.outs)
    (λ side v shown. expire_200_is c.args.mv.now c.in-Expire200.field-0 c.in-Expire200.is side v)
    c.expire_200.ensures.err

pub returns-in-Restart-clause-ok : goal.returns-in-Restart-clause-ok
returns-in-Restart-clause-ok c =
    acts_as_in_view (λ side v. quietly (restarts v))
    (λ side v. acts Tagged side (move_of c.args.mv.now).event v) c.args.self.now c.restart.new.self
    c.args.inward.now c.args.outward.now c.restart.new.inward c.restart.new.outward
    (with_outs c.restart.result c.restart.new.outs)
    (λ side v shown. restart_is c.args.mv.now c.in-Restart.field-0 c.in-Restart.is side v)
    c.restart.ensures.ok

pub returns-in-Restart-clause-err : goal.returns-in-Restart-clause-err
returns-in-Restart-clause-err c =
    refuses_as_in_view (λ side v. quietly (restarts v))
    (λ side v. acts Tagged side (move_of c.args.mv.now).event v) c.args.self.now c.args.inward.now
    c.args.outward.now (with_outs c.restart.result c.restart.new.outs)
    (λ side v shown. restart_is c.args.mv.now c.in-Restart.field-0 c.in-Restart.is side v)
    c.restart.ensures.err
