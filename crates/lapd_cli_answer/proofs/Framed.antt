-- The printed text of a step follows its specification: each output that sends a frame has its
-- frame.
use Rattle.std.proofs.Common.{◌≡◌, ◌≤◌, ℕ, List, [], ◌∷◌, ◌++◌, length, flat_map, Option, Ok, refl, ap, subst, ◌∙◌}
use Rattle.std.proofs.lemmas.List.Elements.{All-head, All-tail}
use Rattle.std.specs.List.{All}
use Rattle.lapd_frame.specs.Frame.{Fields, n201}
use Rattle.lapd_link.specs.Link.{Setup}
use Rattle.lapd_link.specs.SentFrame.{made_frame, sent_frame, HaveFrames, HasFramesOf}
use Rattle.lapd_link.specs.declared.link.Link.{Link}
use Rattle.lapd_link.proofs.Frames.{short_unit}
use Rattle.lapd_mod128.specs.Counting.{Tagged}
use Rattle.lapd_link_definition.specs.declared.out.Out.{Out}
use Rattle.lapd_link_definition.specs.End.{End, StepState}
use Rattle.lapd_link_definition.specs.Input as input
use Rattle.lapd_link_definition.specs.Input.{Input}
use Rattle.lapd_link_definition.specs.Table.{step}
use Rattle.lapd_cli_answer.specs.Answer.{Session, IsSession, messages_of}
use Rattle.lapd_cli_answer.specs.Outputs.{input_as_octets, out_line, outs_text}
use Rattle.lapd_cli_answer.specs.PrintedOutput.{printed_with}
use Rattle.lapd_cli_answer.specs.Session.{HasInputOctets, made_line, made_text}

-- the frame built from an output is the specified one
abbrev pub IsSent : Setup → List (List ℕ) → List ℕ → Out → Type 0
IsSent setup messages input_octets output =
    made_frame setup messages input_octets output ≡ sent_frame setup messages input_octets output

-- two printers that agree on each output agree on all
pub same_lines : {P : Out → Type 0} (f g : Out → List ℕ) (outs : List Out)
    → ((output : Out) → P output → f output ≡ g output) → All P outs
    → flat_map f outs ≡ flat_map g outs
same_lines f g [] same h = refl
same_lines {P} f g (output ∷ outs) same h =
    ap (λ (text : List ℕ). text ++ flat_map f outs) (same output (All-head P output outs h))
    ∙ ap (λ (text : List ℕ). g output ++ text) (same_lines f g outs same (All-tail P output outs h))

-- ---- A step of the link.

same_text : (setup : Setup) (messages : List (List ℕ)) (input_octets : List ℕ) (outs : List Out)
    → All (IsSent setup messages input_octets) outs
    → made_text setup messages input_octets outs ≡ outs_text setup messages input_octets outs
same_text setup messages input_octets outs h =
    let line : Option Fields → Out → List ℕ =
    λ made output. out_line setup.side
    (printed_with made (input_as_octets input_octets) output) in
    same_lines (made_line setup messages (input_as_octets input_octets))
    (λ output. line (sent_frame setup messages input_octets output) output) outs
    (λ output same. ap (λ made. line made output) same) h

pub text_of_step : (link : Link) (s : Session) (input_octets : List ℕ) (outs : List Out)
    → HasFramesOf link outs → IsSession link s → length input_octets ≤ n201
    → made_text s.setup (messages_of s.end) input_octets outs
    ≡ outs_text s.setup (messages_of s.end) input_octets outs
text_of_step link s input_octets outs has session fits =
    same_text s.setup (messages_of s.end) input_octets outs
    (subst (λ (setup : Setup). HaveFrames setup (messages_of s.end) outs) session.setup
    (has s.end session.end) input_octets fits)

-- octets passed with an accepted input fit into a frame
pub fits_with : (input : Input) (input_octets : List ℕ) (e : End) (s : StepState)
    → HasInputOctets input input_octets → step Tagged input e ≡ Ok s → length input_octets ≤ n201
fits_with (input.UnitData len) input_octets e s same done =
    subst (λ (n : ℕ). n ≤ n201) same (short_unit len e s done)
fits_with input input_octets e s fits done = fits
