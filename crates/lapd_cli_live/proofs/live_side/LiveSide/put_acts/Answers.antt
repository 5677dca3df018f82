use Rattle.lapd_cli_live.proofs.Log.{carried, front_is_all}
use Rattle.lapd_cli_live.proofs.Steps.{on_err, on_ok}
use Rattle.lapd_cli_live.proofs.live_side.LiveSide.put_acts.Goals as goal

pub returns-clause-carried : goal.returns-clause-carried
returns-clause-carried g c =
    on_ok c.put_primitives.result _ _
    (λ printed_primitives. carried g.W.Write.contents c.args.self.now.side c.side-own.result _ _
    c.args.self.now.acts _ _ _ _ _ _ _ c.side-own.ensures c.frames-frames.ensures.frames
    c.primitives-primitives.ensures c.in_ok-send_all.ensures.sent printed_primitives)
    (c.put_primitives.ensures c.side-own.result)

pub returns-clause-err : goal.returns-clause-err
returns-clause-err g c =
    on_err c.put_primitives.result _ (front_is_all _ _ _ _ c.frames-frames.ensures.frames
    c.in_ok-send_all.ensures.sent.io_events)
