use Rattle.lapd_cli_live.proofs.Steps.{on_ok, taken_at}
use Rattle.lapd_cli_live.proofs.live_side.LiveSide.take.Goals as goal

pub returns : goal.returns
returns g c = on_ok c.carry_out.result _ _
    (λ carried. taken_at g.W.Write.contents c.args.octets.now c.args.now c.args.self.now.side
    c.take.new.self c.side-own.result _ _ _ _ _ _ _ _ c.side-own.ensures
    c.in_ok-put_received.ensures c.in-Ok.ensures.received c.take.ensures.side
    c.report_discarded.ensures.io_events c.report_discarded.ensures.impaired_by carried)
    c.carry_out.ensures.carried
