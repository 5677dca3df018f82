use Rattle.std.proofs.Common.{ℕ, Option, subst}
use Rattle.lapd_cli_wire.specs.IoEvents.{Adds, received}
use Rattle.lapd_cli_live.proofs.Steps.{looked}
use Rattle.lapd_cli_live.proofs.live_side.LiveSide.receive_one.Goals as goal

pub returns-in_ok-take-in-Some : goal.returns-in_ok-take-in-Some
returns-in_ok-take-in-Some g c =
    let adds =
    subst (λ (count : Option ℕ). Adds (g.O.Outside.io_events c.read_clock.new.self.outside)
    (g.O.Outside.io_events c.receive.new.self) (received c.receive.new.frame count))
    c.in-Some.is c.in_ok-count.ensures.io_events in
    looked _ _ _ _ _ _ _ c.in_ok-now.ensures adds c.in_ok-count.ensures.impaired_by
    c.in_ok-take-in-Some.ensures
