use Rattle.std.proofs.Common.{true, false, Bool, ap, ◌∙◌}
use Rattle.lapd_sides.specs.declared.request.Request.TheVariants as request
use Rattle.lapd_sides.specs.ShowsUser.{ShowUser}
use Rattle.lapd_sides.specs.User.{user_requested}
use Rattle.lapd_sides.proofs.Calling.{answers_for}
use Rattle.lapd_sides.proofs.user_side.TerminalManagementManagement.execute.Goals as goal

pub returns-in-Release : goal.returns-in-Release
unfolding user_requested
returns-in-Release c =
    answers_for ShowUser user_requested c.release.result c.args.side.now c.release.new.self
    c.release.new.acts c.args.now c.args.request (request.Release c.in-Release.id) c.in-Release.is
    c.release.ensures

pub returns-in-Busy-default-true : goal.returns-in-Busy-default-true
unfolding user_requested
returns-in-Busy-default-true c =
    answers_for ShowUser user_requested c.set_own_busy.result c.args.side.now
    c.set_own_busy.new.self
    c.set_own_busy.new.acts c.args.now c.args.request (request.Busy c.in-Busy-default-true.id true)
    (c.in-Busy-default-true.is
    ∙ ap (λ (on : Bool). request.Busy c.in-Busy-default-true.id on)
    c.in-Busy-default-true.field-1-test) c.set_own_busy.ensures

pub returns-in-Busy-default-false : goal.returns-in-Busy-default-false
unfolding user_requested
returns-in-Busy-default-false c =
    answers_for ShowUser user_requested c.set_own_busy-in-Busy-default-false.result c.args.side.now
    c.set_own_busy-in-Busy-default-false.new.self c.set_own_busy-in-Busy-default-false.new.acts
    c.args.now
    c.args.request (request.Busy c.in-Busy-default-false.id false)
    (c.in-Busy-default-false.is
    ∙ ap (λ (on : Bool). request.Busy c.in-Busy-default-false.id on)
    c.in-Busy-default-false.field-1-test) c.set_own_busy-in-Busy-default-false.ensures

pub returns-in-Unit : goal.returns-in-Unit
unfolding user_requested
returns-in-Unit c =
    answers_for ShowUser user_requested c.send_unit.result c.args.side.now c.send_unit.new.self
    c.send_unit.new.acts c.args.now c.args.request (request.Unit c.in-Unit.id c.in-Unit.octets)
    c.in-Unit.is c.send_unit.ensures

pub returns-in-Give : goal.returns-in-Give
unfolding user_requested
returns-in-Give c =
    answers_for ShowUser user_requested c.give_message.result c.args.side.now
    c.give_message.new.self c.give_message.new.acts c.args.now c.args.request
    (request.Give c.in-Give.id c.in-Give.message) c.in-Give.is c.give_message.ensures
