use Rattle.std.proofs.Common.{ℕ, Option, [], ◌∷◌, subst}
use Rattle.lapd_sides.specs.Either.{side_of}
use Rattle.lapd_cli_wire.specs.IoEvents.{Adds, Waits}
use Rattle.lapd_cli_live.proofs.Steps.{flushed_and_waited}
use Rattle.lapd_cli_live.proofs.live_side.LiveSide.wait.Goals as goal

pub returns : goal.returns
returns g c =
    let adds =
    subst (λ (until : Option ℕ). Adds (g.O.Outside.io_events c.args.self.now.outside)
    (g.O.Outside.io_events c.wait.new.self) (Waits until c.in_ok-woken.woken ∷ []))
    c.earlier-until.ensures c.in_ok-woken.ensures.io_events in
    record {
      deadline = c.next_deadline.result;
      is_next = c.next_deadline.ensures;
      woken = c.in_ok-woken.woken;
      waited = _;
      waits =
          flushed_and_waited g.W.Write.contents c.args.self.now.side _ _ _ _ _ _ _ _
          (c.in_ok-flush.ensures.shown (side_of c.args.self.now.side)) adds
          c.in_ok-woken.ensures.impaired_by;
      now = c.in_ok-read_clock.field-0;
      read_to = _;
      reads = c.in_ok-read_clock.ensures;
      prints = c.in_ok-put_loss.ensures;
      is = c.end_by_wait.ensures;
    }
