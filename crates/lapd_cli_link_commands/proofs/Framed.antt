-- The printed text of a move follows its specification: each output that sends a frame has its
-- frame.
use Rattle.std.specs.Prelude.{⊤}
use Rattle.std.proofs.Common.{◌≡◌, ◌≤◌, ℕ, List, [], length, slice_get, false, Option, Some, None, Result, Ok, Err, refl, sym, ap, subst, ◌∙◌, arith}
use Rattle.std.specs.Io.KnownBytes.{Appends}
use Rattle.std.specs.List.{All}
use Rattle.std.specs.Result.{result_ok}
use Rattle.lapd_frame.specs.declared.Address.{Address}
use Rattle.lapd_frame.specs.declared.Control.{Control}
use Rattle.lapd_frame.specs.declared.Control.TheVariants.{Ui}
use Rattle.lapd_frame.specs.declared.fault_kind.FaultKind.{FaultKind}
use Rattle.lapd_frame.specs.declared.Role.TheVariants.{Command}
use Rattle.lapd_frame.specs.declared.Side.{Side}
use Rattle.lapd_frame.specs.Frame.{Fields, content_fault, frame_of, n201}
use Rattle.lapd_link.specs.Link.{Setup}
use Rattle.lapd_link.specs.SentFrame.{link_address, made_frame, message_frame}
use Rattle.lapd_link.proofs.Frames.{short_unit}
use Rattle.lapd_mod128.specs.Counting.{Tagged}
use Rattle.lapd_pair.specs.Runs.{PairRepresents}
use Rattle.lapd_pair.specs.Setup.{setup_for}
use Rattle.lapd_pair.specs.declared.pair.Pair.{Pair}
use Rattle.lapd_pair.proofs.Framed.{frames_of_move}
use Rattle.lapd_link_definition.specs.declared.event.LinkFault.{LinkFault}
use Rattle.lapd_link_definition.specs.declared.out.Out.{Out}
use Rattle.lapd_link_definition.specs.declared.out.Out.TheVariants as out
use Rattle.lapd_link_definition.specs.End.{StepState}
use Rattle.lapd_link_definition.specs.Input as input
use Rattle.lapd_link_definition.specs.Table.{step}
use Rattle.lapd_cli_script.specs.Line.{text_line}
use Rattle.lapd_trace.specs.Trace.{frame_line}
use Rattle.lapd_trace.proofs.FrameLines.{line_of_spelling}
use Rattle.lapd_pair_laws.specs.Consistent.{IsConsistentWorld}
use Rattle.lapd_pair_laws.specs.Move.{PairEvent, UnitData, Move, Refusal, Station, View, stepped, takes, acts}
use Rattle.lapd_pair_laws.specs.World.{World, Happened, view_of, in_world, happens}
use Rattle.lapd_cli_answer.proofs.Framed.{IsSent, same_lines}
use Rattle.lapd_cli_answer.specs.Answer.{messages_of}
use Rattle.lapd_cli_link_commands.specs.Pair.{move_made, move_printed, side_line, output_octets_of, printed_line, printed_lines, unit_of}
use Rattle.lapd_cli_link_commands.specs.RepresentsWorld.{made_side_line, made_side_lines}
use Rattle.lapd_cli_answer.specs.PrintedOutput.{OutputOctets, printed_output, printed_as, printed_with, text_printed}

-- ---- A frame that is built.

-- if there is a frame, the control table allows its content
abbrev HasContent : Option Fields → Type 0
HasContent None = ⊤
HasContent (Some f) = content_fault f.address.role f.control (length f.info) ≡ None

frame_has_content : (a : Address) (c : Control) (info : List ℕ) (fault : Option FaultKind)
    → content_fault a.role c (length info) ≡ fault
    → HasContent (result_ok (frame_of a c info fault))
frame_has_content a c info None h = h
frame_has_content a c info (Some fault) h = tt

message_has_content : (setup : Setup) (control : Control) (message : Option (List ℕ))
    → HasContent (message_frame setup control message)
message_has_content setup control None = tt
message_has_content setup control (Some message) =
    frame_has_content (link_address setup Command) control message _ refl

made_has_content : (setup : Setup) (messages : List (List ℕ)) (input_octets : List ℕ) (output : Out)
    → HasContent (made_frame setup messages input_octets output)
made_has_content setup messages input_octets (out.Send role control) =
    frame_has_content (link_address setup role) control [] _ refl
made_has_content setup messages input_octets (out.SendMessage place control) =
    message_has_content setup control (slice_get messages place)
made_has_content setup messages input_octets out.SendUnit =
    frame_has_content (link_address setup Command) (Ui false) input_octets _ refl
made_has_content setup messages input_octets output = tt

-- an output without a frame has the same line in both forms
line_of_unsent : (side : Side) (text : Option (List ℕ)) (output : Out)
    → side_line (frame_line side) side (printed_as text output)
    ≡ printed_line side (printed_as text output)
line_of_unsent side (Some text) output = refl
line_of_unsent side None (out.Start timer) = refl
line_of_unsent side None (out.Stop timer) = refl
line_of_unsent side None output = refl

line_of_made : (side : Side) (made : Option Fields) (s : OutputOctets) (output : Out)
    → HasContent made
    → side_line (frame_line side) side (printed_with made s output)
    ≡ printed_line side (printed_with made s output)
line_of_made side None s output h = line_of_unsent side (text_printed s output) output
line_of_made side (Some f) s output h =
    ap (λ (t : List ℕ). text_line t) (sym (line_of_spelling side f h))

-- ---- A pair.

same_side_line : (side : Side) (messages : List (List ℕ)) (s : OutputOctets) (output : Out)
    → IsSent (setup_for side) messages s.sent output
    → made_side_line side messages s output
    ≡ printed_line side (printed_output (setup_for side) messages s output)
same_side_line side messages s output h =
    line_of_made side _ s output (made_has_content (setup_for side) messages s.sent output)
    ∙ ap (λ (made : Option Fields). printed_line side (printed_with made s output)) h

same_side_lines : (side : Side) (s : Station) (unit : List ℕ) (outs : List Out)
    → All (IsSent (setup_for side) (messages_of s.end) unit) outs
    → made_side_lines side s unit outs ≡ printed_lines side s unit outs
same_side_lines side s unit outs h =
    let messages = messages_of s.end in
    let output_octets = output_octets_of s.history unit in
    same_lines (made_side_line side messages output_octets)
    (λ output. printed_line side
    (printed_output (setup_for side) messages output_octets output)) outs
    (same_side_line side messages output_octets) h

-- unit data of an accepted move
unit_stepped : (who : Side) (w : World) (octets : List ℕ) (v : View) (happened : Happened)
    (result : Result StepState LinkFault)
    → step Tagged (input.UnitData (length octets)) v.station.end ≡ result
    → in_world who w (stepped octets 0 v result) ≡ Ok happened → length octets ≤ n201
unit_stepped who w octets v happened (Ok s) done is =
    short_unit (length octets) v.station.end s done
unit_stepped who w octets v happened (Err fault) done is = absurd (cc)

short_event : (who : Side) (event : PairEvent) (w : World) (happened : Happened)
    → in_world who w (acts Tagged who event (view_of who w)) ≡ Ok happened
    → length (unit_of event) ≤ n201
unfolding acts takes
short_event who (UnitData octets) w happened is =
    unit_stepped who w octets (view_of who w) happened
    (step Tagged (input.UnitData (length octets)) (view_of who w).station.end) refl is
short_event who event w happened is = omega arith

short_move : (move : Move) (w : World) (happened : Happened) → happens Tagged move w ≡ Ok happened
    → length (unit_of move.event) ≤ n201
unfolding happens
short_move move w happened is = short_event move.side move.event w happened is

-- the printed lines of a move
pub lines_of_move : (move : Move) (w : World) (happened : Happened) → IsConsistentWorld Tagged w
    → happens Tagged move w ≡ Ok happened
    → made_side_lines move.side (view_of move.side happened.world).station (unit_of move.event)
    happened.outs
    ≡ printed_lines move.side (view_of move.side happened.world).station (unit_of move.event)
    happened.outs
lines_of_move move w happened preserved is =
    same_side_lines move.side (view_of move.side happened.world).station (unit_of move.event)
    happened.outs (frames_of_move move w happened preserved is (unit_of move.event)
    (short_move move w happened is))

-- the text that is written for a move
pub move_written : (w : World) (move : Move) (happened : Happened) (p : Pair) (side : Side)
    (unit : List ℕ) (outs : List Out) (text written : List ℕ) (old new : Option (List ℕ))
    → IsConsistentWorld Tagged w → happens Tagged move w ≡ Ok happened → happened.outs ≡ outs
    → PairRepresents p happened.world → side ≡ move.side → unit ≡ unit_of move.event
    → text ≡ made_side_lines side (view_of side happened.world).station unit outs → written ≡ text
    → Appends old new written
    → PairRepresents p (move_made w move).1 × Appends old new (move_made w move).0
move_written w move happened p side unit outs text written old new preserved is given representation
    its_side its_unit made whole appends =
    let Made : Result Happened Refusal → Type 0 =
    λ outcome. PairRepresents p (move_printed w move outcome).1 × Appends old new
    (move_printed w move outcome).0 in
    let lines = whole ∙ made
    ∙ ap (λ (s : Side). made_side_lines s (view_of s happened.world).station unit outs) its_side
    ∙ ap (λ (u : List ℕ). made_side_lines move.side (view_of move.side happened.world).station u
    outs) its_unit
    ∙ ap (λ (o : List Out). made_side_lines move.side (view_of move.side happened.world).station
    (unit_of move.event) o) (sym given)
    ∙ lines_of_move move w happened preserved is in
    subst Made (sym is) (representation, subst (λ (t : List ℕ). Appends old new t) lines appends)
