use Rattle.std.proofs.Common.{◌≡◌, ℕ, ◌++◌, refl, ap, subst, ◌∙◌}
use Rattle.lapd_frame.specs.declared.Side.{Side}
use Rattle.lapd_sides.specs.Either.{Expires, side_of}
use Rattle.lapd_cli_side_lines.specs.declared.line_style.LineStyle.{LineStyle}
use Rattle.lapd_cli_side_commands.specs.LineOutputs.{primitives_text_of, traced_of}
use Rattle.lapd_cli_side_lines.specs.SideTexts.{frames_text, primitives_text}
use Rattle.lapd_cli_side_commands.specs.Served.{devices}
use Rattle.lapd_cli_side_commands.proofs.Serving.{all_expired, none_yet, on_both, some_more}
use Rattle.lapd_cli_side_commands.proofs.side_runner.SideRunner.expire_due.Goals as goal

pub loop-tick-init : goal.loop-tick-init
loop-tick-init g c = record {
  side = refl;
  clock = refl;
  style = refl;
  port = refl;
  out = refl;
  some =
      none_yet _ _ _ _ _ _ _ c.clear.ensures.sent c.clear.ensures.traced c.clear.ensures.delivered;
}

pub loop-tick-preserved : goal.loop-tick-preserved
loop-tick-preserved g c =
    let so = c.loop-tick.invariant in
    let due =
    subst (λ (now : ℕ). Expires now c.loop-tick.self.side c.tick.new.self c.tick.new.acts)
    so.clock (c.tick.ensures.due c.if-not-tick.false) in
    let lines =
    subst (λ (style : LineStyle). traced_of c.gather.new.self ≡ traced_of
    c.loop-tick.self.output ++ frames_text style (side_of c.args.self.now.side)
    c.tick.new.acts.frames)
    so.style (subst (λ (side : Side). traced_of c.gather.new.self ≡ traced_of
    c.loop-tick.self.output ++ frames_text c.loop-tick.self.style side
    c.tick.new.acts.frames)
    c.side-side.ensures c.in_ok-gather.ensures.traced) in
    let words =
    subst (λ (style : LineStyle). primitives_text_of c.gather.new.self ≡ primitives_text_of
    c.loop-tick.self.output ++ primitives_text style c.tick.new.acts.primitives)
    so.style c.in_ok-gather.ensures.delivered in
    record {
      side = c.tick.ensures.side ∙ so.side;
      clock = so.clock;
      style = so.style;
      port = so.port;
      out = so.out;
      some =
          some_more _ _ _ _ c.loop-tick.self.side c.tick.new.self c.tick.new.acts _ _ _ _ _ _
          so.some due c.in_ok-gather.ensures.sent lines words;
    }

pub returns-then-not-tick-clause-does : goal.returns-then-not-tick-clause-does
returns-then-not-tick-clause-does g c =
    let so = c.loop-tick.invariant in
    let old = c.loop-tick.self in
    let new = c.forward.new.self in
    on_both c.forward.result _ _ _
    (all_expired _ _ _ old.side c.tick.new.self new.side _ _ _
    (devices c.args.self.now.style (g.S.Source.rest c.args.self.now.port.source)
    (g.K.Sink.written c.args.self.now.port.sink) (g.W.Write.contents c.args.self.now.out))
    (devices old.style (g.S.Source.rest old.port.source) (g.K.Sink.written old.port.sink)
    (g.W.Write.contents old.out))
    (devices new.style (g.S.Source.rest new.port.source) (g.K.Sink.written new.port.sink)
    (g.W.Write.contents new.out))
    so.clock so.some (c.tick.ensures.none c.if-not-tick.true) c.forward.ensures.own
    (c.forward.ensures.style ∙ so.style) (ap (λ port. g.K.Sink.written port.sink) so.port)
    (ap (λ out. g.W.Write.contents out) so.out)) c.forward.ensures.sent c.forward.ensures.printed
