use Rattle.std.proofs.Common.{ℕ, ◌≤◌, refl, subst}
use Rattle.lapd_sides.specs.Either.{side_of}
use Rattle.lapd_cli_live.proofs.live_side.LiveSide.read_clock.Goals as goal

pub returns : goal.returns
returns g c =
    let dated = c.set_moment.ensures.dated (side_of c.args.self.now.side) in
    record {
      side = refl;
      moment = c.set_moment.ensures.moment;
      rises = subst (λ (x : ℕ). x ≤ c.in_ok-now.now) c.moment-2.ensures c.if-now-moment.false;
      happen = record {
        own = refl;
        style = dated.style;
        io_events = c.in_ok-now.ensures.io_events;
        impairment = c.in_ok-now.ensures.impaired_by;
        shown = dated.prints;
        most = refl;
      };
    }
