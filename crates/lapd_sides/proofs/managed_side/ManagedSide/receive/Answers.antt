use Rattle.std.proofs.Common.{Ok, sym, ap, ◌∙◌}
use Rattle.lapd_tei.specs.Message.{message_at}
use Rattle.lapd_sides.proofs.Steps.{received_as_data, received_as_message}
use Rattle.lapd_sides.proofs.managed_side.ManagedSide.receive.Goals as goal

pub returns-in-Ok : goal.returns-in-Ok
returns-in-Ok g c = received_as_message g.M.Represented.represents g.M.Represented.rules
    c.receive_message.result c.args.self.now c.receive_message.new.side c.receive_message.new.acts
    c.args.now c.args.frame.now
    c.carries_message.result (Ok c.in-Ok.message) c.carries_message.ensures
    c.if-carries_message.true (sym c.in-Ok.is ∙ c.read.ensures.exact ∙ ap message_at c.info.ensures)
    c.receive_message.ensures

pub returns-else-carries_message : goal.returns-else-carries_message
returns-else-carries_message g c = λ config s shown.
    received_as_data g.M.Represented.represents g.M.Represented.rules c.receive_data.new.self config
    c.args.now c.args.frame.now s c.carries_message.result c.receive_data.new.acts
    c.carries_message.ensures c.if-carries_message.false (c.receive_data.ensures config s shown)
