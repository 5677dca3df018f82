use Rattle.lapd_cli_live.proofs.Log.{front_next, front_of, sends_next, sends_none}
use Rattle.lapd_cli_live.proofs.Steps.{on_err}
use Rattle.lapd_cli_live.proofs.live_side.send_all.Goals as goal

pub loop-frame-init : goal.loop-frame-init
loop-frame-init g c = sends_none _ _ _ _ _

pub loop-frame-preserved : goal.loop-frame-preserved
loop-frame-preserved g c =
    sends_next (λ f. f.items) c.args.own c.args.frames.now c.loop-frame.frame-index
    c.frame-item.result c.as_slice-octets.result.now c.in_ok-sending.sending
    _ _ _ _ _ _ g.W.Write.contents _ _ _ c.loop-frame-test.true c.frame-item.is
    c.as_slice-octets.ensures.value c.loop-frame.invariant c.in_ok-sending.ensures.io_events
    c.in_ok-sending.ensures.impaired_by c.in_ok-put_sent.ensures

pub returns-in_err-sending-clause-err : goal.returns-in_err-sending-clause-err
returns-in_err-sending-clause-err g c =
    on_err c.from_residual.result _ (front_of (λ f. f.items) c.args.frames.now
    c.loop-frame.frame-index _ _ _ c.loop-frame.invariant.io_events
    c.in_err-sending.ensures.err)

pub returns-in_err-put_sent-clause-err : goal.returns-in_err-put_sent-clause-err
returns-in_err-put_sent-clause-err g c =
    on_err c.from_residual-in_err-put_sent.result _
    (front_next (λ f. f.items) c.args.frames.now c.loop-frame.frame-index c.frame-item.result
    c.as_slice-octets.result.now _ _ _
    c.loop-frame-test.true c.frame-item.is c.as_slice-octets.ensures.value
    c.loop-frame.invariant.io_events c.in_ok-sending.ensures.io_events)
