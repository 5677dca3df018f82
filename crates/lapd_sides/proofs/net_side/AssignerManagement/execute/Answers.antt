use Rattle.std.proofs.Common.{true, false, Bool, ap, ◌∙◌}
use Rattle.lapd_sides.specs.declared.request.Request.TheVariants as request
use Rattle.lapd_sides.specs.SideState.{link_of}
use Rattle.lapd_sides.specs.Network.{network_requested}
use Rattle.lapd_sides.specs.ShowsNetwork.{ShowNetwork}
use Rattle.lapd_sides.proofs.Calling.{answers_for}
use Rattle.lapd_sides.proofs.net_side.AssignerManagement.execute.Goals as goal

pub returns-in-Establish : goal.returns-in-Establish
unfolding network_requested link_of
returns-in-Establish c =
    answers_for ShowNetwork network_requested c.act.result c.args.side.now c.act.new.self
    c.act.new.acts
    c.args.now c.args.request (request.Establish c.in-Establish.id)
    c.in-Establish.is c.act.ensures

pub returns-in-Release : goal.returns-in-Release
unfolding network_requested link_of
returns-in-Release c =
    answers_for ShowNetwork network_requested c.act-in-Release.result c.args.side.now
    c.act-in-Release.new.self c.act-in-Release.new.acts
    c.args.now c.args.request (request.Release c.in-Release.id)
    c.in-Release.is c.act-in-Release.ensures

pub returns-in-Busy-default-true : goal.returns-in-Busy-default-true
unfolding network_requested link_of
returns-in-Busy-default-true c =
    answers_for ShowNetwork network_requested c.act-in-Busy-default-true.result c.args.side.now
    c.act-in-Busy-default-true.new.self c.act-in-Busy-default-true.new.acts
    c.args.now c.args.request (request.Busy c.in-Busy-default-true.id true)
    (c.in-Busy-default-true.is
    ∙ ap (λ (on : Bool). request.Busy c.in-Busy-default-true.id on)
    c.in-Busy-default-true.field-1-test) c.act-in-Busy-default-true.ensures

pub returns-in-Busy-default-false : goal.returns-in-Busy-default-false
unfolding network_requested link_of
returns-in-Busy-default-false c =
    answers_for ShowNetwork network_requested c.act-in-Busy-default-false.result c.args.side.now
    c.act-in-Busy-default-false.new.self c.act-in-Busy-default-false.new.acts
    c.args.now c.args.request (request.Busy c.in-Busy-default-false.id false)
    (c.in-Busy-default-false.is
    ∙ ap (λ (on : Bool). request.Busy c.in-Busy-default-false.id on)
    c.in-Busy-default-false.field-1-test) c.act-in-Busy-default-false.ensures

pub returns-in-Give : goal.returns-in-Give
unfolding network_requested link_of
returns-in-Give c =
    answers_for ShowNetwork network_requested c.give_message.result c.args.side.now
    c.give_message.new.self c.give_message.new.acts
    c.args.now c.args.request (request.Give c.in-Give.id c.in-Give.message)
    c.in-Give.is c.give_message.ensures
