use Rattle.std.proofs.Common.{inr, Some, subst}
use Rattle.lapd_sides.specs.declared.managed_side.ManagedSide.{ManagedSide}
use Rattle.lapd_sides.specs.declared.request.Request.TheVariants.{Give}
use Rattle.lapd_sides.specs.Calls.{Answers}
use Rattle.lapd_sides.specs.ShowsSide.{Shows}
use Rattle.lapd_sides.proofs.Calling.{alone}
use Rattle.lapd_sides.proofs.managed_side.ManagedSide.give.Goals as goal

pub returns-in-Sent : goal.returns-in-Sent
returns-in-Sent g c =
    let sent = c.in-Sent.ensures in
    inr (record {
      message = sent.message;
      items = sent.items;
      asks = alone c.clear.new.self c.send_at_once.new.acts _ c.clear.ensures sent.asks;
    })

pub returns-in-Unsent : goal.returns-in-Unsent
returns-in-Unsent g c =
    let message = c.in-Unsent.message in
    let unsent = c.in-Unsent.ensures in
    inr (record {
      message = message;
      items = unsent.0;
      asks = subst (λ (old : ManagedSide _).
          Answers (Shows g.M.Represented.represents g.M.Represented.rules) c.execute.result old
          c.execute.new.side c.execute.new.acts (Some message)
          (λ config. g.M.Represented.rules.requested config (Give c.args.id message) c.args.now))
          unsent.2.0 c.execute.ensures;
    })
