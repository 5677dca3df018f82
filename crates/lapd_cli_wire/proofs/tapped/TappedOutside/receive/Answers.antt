use Rattle.std.proofs.Common.{ℕ, [], ◌∷◌, Option, ap, subst, take, ◌∙◌}
use Rattle.lapd_frame.specs.declared.Side.{Side}
use Rattle.lapd_cli_wire.specs.IoEvents.{Adds, received}
use Rattle.lapd_cli_wire.specs.Passed.{passed_more, passed_frame}
use Rattle.lapd_cli_wire.proofs.Passed.{passes_since, passed_received}
use Rattle.lapd_cli_wire.proofs.tapped.TappedOutside.receive.Goals as goal

pub invariant_of-self-in-Some : goal.invariant_of-self-in-Some
invariant_of-self-in-Some g c =
    let adds =
    subst (λ (count : Option ℕ). Adds (g.O.Outside.io_events c.args.self.now.inner)
    (g.O.Outside.io_events c.receive.new.self) (received c.receive.new.frame count))
    c.in-Some.is c.in_ok-received.ensures.io_events in
    let passed = c.pass.ensures.passed_frames
    ∙ ap (λ (from : Side). passed_more (g.T.Tap.passed_frames c.args.self.now.tap)
    (passed_frame from (take c.in-Some.count c.receive.new.frame) ∷ [])) c.other.ensures in
    record {
      are_passed =
          passes_since c.args.self.now.own _ _ _ _ _ c.args.self.now.are_passed adds passed;
    }

pub invariant_of-self-in_default : goal.invariant_of-self-in_default
invariant_of-self-in_default g c = record {
  are_passed =
      passed_received c.args.self.now.own _ _ _ _ c.in_ok-received.received
      c.args.self.now.are_passed c.in_ok-received.ensures.io_events c.in_default.is;
}
