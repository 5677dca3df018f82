use Rattle.std.proofs.Common.{◌≡◌, ℕ, List, [], ◌++◌, Option, Ok, sym, ap, subst, ◌∙◌}
use Rattle.std.proofs.KnownBytes.{Appends-trans}
use Rattle.std.specs.Io.KnownBytes.{Appends}
use Rattle.lapd_frame.specs.Address.{other_side}
use Rattle.lapd_frame.specs.declared.Side.{Side}
use Rattle.lapd_port.specs.SocketText.{socket_text}
use Rattle.lapd_sides.specs.Either.{Takes, side_of}
use Rattle.lapd_sides.specs.declared.either_side.EitherSide.{EitherSide}
use Rattle.lapd_sides_links.specs.Effects.{Effects}
use Rattle.lapd_cli_side_lines.specs.SideTexts.{acts_text, frame_text_line, frames_text, primitives_text}
use Rattle.lapd_cli_side_commands.specs.LineOutputs.{primitives_text_of, sent_of, traced_of}
use Rattle.lapd_cli_side_commands.specs.Served.{Devices, TakesNow, devices}
use Rattle.lapd_cli_side_commands.proofs.Serving.{on_both}
use Rattle.lapd_cli_side_commands.proofs.side_runner.SideRunner.receive.Goals as goal

-- the line of a received frame is printed, and then the output of its call is sent and printed
taken_now : (octets : List ℕ) (now : ℕ) (own from : Side) (old mid new : EitherSide)
    (acts : Effects) (received traced delivered : List ℕ) (sent : List (List ℕ))
    (printed : Option (List ℕ)) (start end : Devices) → own ≡ side_of old → from ≡ other_side own
    → Takes octets now (Ok tt) old mid acts → new ≡ mid
    → received ≡ frame_text_line start.style from octets → sent ≡ acts.frames
    → traced ≡ frames_text start.style own acts.frames
    → delivered ≡ primitives_text start.style acts.primitives
    → end.style ≡ start.style → Appends start.printed printed received
    → Appends start.written end.written (socket_text sent)
    → Appends printed end.printed (traced ++ delivered)
    → TakesNow octets now old new start end
taken_now octets now own from old mid new acts received traced delivered sent printed start end
    own_is from_is takes same line frames lines words style first forwarded rest =
    let side : from ≡ other_side (side_of old) = from_is ∙ ap other_side own_is in
    let front : received ≡ frame_text_line start.style (other_side (side_of old)) octets =
    line ∙ ap (λ (x : Side). frame_text_line start.style x octets) side in
    let middle : traced ≡ frames_text start.style (side_of old) acts.frames =
    lines ∙ ap (λ (x : Side). frames_text start.style x acts.frames) own_is in
    let back : traced ++ delivered ≡ acts_text start.style (side_of old) acts.frames
    acts.primitives =
    ap (λ (text : List ℕ). text ++ delivered) middle
    ∙ ap (λ (text : List ℕ). frames_text start.style (side_of old) acts.frames ++ text) words in
    let all : received ++ (traced ++ delivered) ≡ frame_text_line start.style
    (other_side (side_of old)) octets ++ acts_text start.style (side_of old) acts.frames
    acts.primitives =
    ap (λ (text : List ℕ). text ++ (traced ++ delivered)) front
    ∙ ap (λ (text : List ℕ). frame_text_line start.style (other_side (side_of old)) octets ++
    text) back in
    record {
      acts = acts;
      takes = subst (λ (x : EitherSide). Takes octets now (Ok tt) old x acts) (sym same) takes;
      puts = record {
        style = style;
        sent =
            subst (λ (x : List (List ℕ)). Appends start.written end.written (socket_text x)) frames
            forwarded;
        printed =
            subst (λ (text : List ℕ). Appends start.printed end.printed text) all
            (Appends-trans start.printed printed end.printed received (traced ++ delivered) first
            rest);
      };
    }

pub returns-clause-takes : goal.returns-clause-takes
returns-clause-takes g c =
    let old = c.args.self.now in
    let new = c.forward.new.self in
    let received =
    c.as_bytes.ensures.value ∙ c.in-Ok.ensures
    ∙ ap (λ (text : List ℕ). text ++ frame_text_line old.style c.other-from.result
    c.args.octets.now) c.clear.ensures.bytes in
    let frames =
    c.in_ok-gather.ensures.sent
    ∙ ap (λ (x : List (List ℕ)). x ++ c.take.new.acts.frames) c.clear-2.ensures.sent in
    let lines =
    c.in_ok-gather.ensures.traced
    ∙ ap (λ (x : List ℕ). x ++ frames_text old.style c.side-side.result
    c.take.new.acts.frames) c.clear-2.ensures.traced in
    let words =
    c.in_ok-gather.ensures.delivered
    ∙ ap (λ (x : List ℕ). x ++ primitives_text old.style c.take.new.acts.primitives)
    c.clear-2.ensures.delivered in
    on_both c.forward.result _ _ _
    (taken_now c.args.octets.now old.now c.side-side.result c.other-from.result old.side
    c.take.new.self new.side c.take.new.acts _ _ _ _
    (g.W.Write.contents c.write_all.new.self)
    (devices old.style (g.S.Source.rest old.port.source) (g.K.Sink.written old.port.sink)
    (g.W.Write.contents old.out))
    (devices new.style (g.S.Source.rest new.port.source) (g.K.Sink.written new.port.sink)
    (g.W.Write.contents new.out))
    c.side-side.ensures c.other-from.ensures c.in-Ok-take.ensures.received c.forward.ensures.own
    received frames lines words c.forward.ensures.style c.in_ok-write_all.ensures.bytes)
    c.forward.ensures.sent c.forward.ensures.printed
