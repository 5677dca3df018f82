-- Each output that is sent has its frame.
use Rattle.std.proofs.Common.{◌≡◌, ◌≤◌, ℕ, zero, suc, Bool, true, false, List, [], ◌∷◌, length, length-drop, drop, get_or, nat_lt, Some, None, Ok, if◌then◌else◌, refl, sym, ◌∙◌, subst, arith}
use Rattle.std.proofs.lemmas.Bool.Decides.{nat_tests}
use Rattle.std.proofs.lemmas.List.Elements.{All-nil, All-cons}
use Rattle.std.proofs.lemmas.Option.{slice_get-get_or}
use Rattle.lapd_frame.specs.declared.Role.{Role}
use Rattle.lapd_frame.specs.declared.Role.TheVariants.{Command}
use Rattle.lapd_frame.specs.declared.Control.{Control}
use Rattle.lapd_frame.specs.declared.Control.TheVariants.{Ui}
use Rattle.lapd_frame.specs.Frame.{n201, at_most_n201, content_fault}
use Rattle.lapd_mod128.specs.Counting.{Tagged}
use Rattle.lapd_link_definition.specs.declared.out.Out.{Out}
use Rattle.lapd_link_definition.specs.declared.out.Out.TheVariants.{Send, SendMessage, SendUnit}
use Rattle.lapd_link_definition.specs.declared.event.LinkFault.TheVariants.{TooLong}
use Rattle.lapd_link_definition.specs.Counts.{IsPlaced, ArePlaced}
use Rattle.lapd_link_definition.specs.End.{End, StepState, begin, new_end}
use Rattle.lapd_link_definition.specs.Input.{Input, UnitData}
use Rattle.lapd_link_definition.specs.Numbers.{CarriesNumbers}
use Rattle.lapd_link_definition.specs.Parameters.{Parameters}
use Rattle.lapd_link_definition.specs.SentFrames.{IsWellFormed, AreWellFormed, AreShort}
use Rattle.lapd_link_definition.specs.Table.{unless, step}
use Rattle.lapd_link_definition.proofs.PreservedByStep.{step_preserves_parameters, step_is_well_formed, step_is_short}
use Rattle.lapd_link_definition.proofs.MessagesThere.{messages_are_there}
use Rattle.lapd_link_definition.proofs.NumbersOfStep.{numbers_stay}
use Rattle.lapd_link_definition.proofs.Soundness.{sound_new, sound_step}
use Rattle.lapd_supervision.specs.StateVariables.{initial_variables}
use Rattle.lapd_link_machine.specs.declared.machine.Machine.{Machine}
use Rattle.lapd_link_machine.specs.Sent.{IsBetweenSteps}
use Rattle.lapd_link_machine.specs.Represents.{Represents}
use Rattle.lapd_link.specs.Link.{Setup, setup_of, Steps}
use Rattle.lapd_link.specs.SentFrame.{link_parts, sent_frame, link_frame, made_frame, HaveFrames, HasFramesOf, AllowsFrames}
use Rattle.lapd_link.specs.declared.link.Link.{Link}
use Rattle.lapd_link_machine.proofs.BetweenSteps.{end_of, shows_end, is_sound, are_short, short_behind}

-- ---- One output.

-- parts that the control table has form a frame
frame_of_parts : (setup : Setup) (role : Role) (control : Control) (info : List ℕ)
    → content_fault role control (length info) ≡ None
    → link_frame setup role control info ≡ Some (link_parts setup role control info)
frame_of_parts setup role control info proper = rw proper refl

short_at : (messages : List (List ℕ)) (at : ℕ) → AreShort messages
    → length (get_or messages at []) ≤ n201
short_at [] at short = omega arith
short_at (message ∷ messages) zero short = short.0
short_at (message ∷ messages) (suc at) short = short_at messages at short.1

unit_is_proper : (len : ℕ) → len ≤ n201 → at_most_n201 len ≡ None
unit_is_proper len short = let no : nat_lt 260 len ≡ false = grind (arith, nat_tests) in rw no refl

has_frame : (setup : Setup) (messages : List (List ℕ)) (input_octets : List ℕ) (output : Out)
    → length input_octets ≤ n201 → AreShort messages → IsWellFormed output
    → IsPlaced (length messages) output
    → made_frame setup messages input_octets output ≡ sent_frame setup messages input_octets output
has_frame setup messages input_octets (Send role control) fits short spoken placed =
    frame_of_parts setup role control [] spoken
has_frame setup messages input_octets (SendMessage place control) fits short spoken placed =
    rw (slice_get-get_or messages place [] placed)
    (frame_of_parts setup Command control (get_or messages place [])
    (spoken (length (get_or messages place [])) (short_at messages place short)))
has_frame setup messages input_octets SendUnit fits short spoken placed =
    frame_of_parts setup Command (Ui false) input_octets (unit_is_proper (length input_octets) fits)
has_frame setup messages input_octets output fits short spoken placed = refl

-- ---- The outputs of a step.

all_have_frames : (setup : Setup) (messages : List (List ℕ)) (outs : List Out) → AreShort messages
    → AreWellFormed outs → ArePlaced (length messages) outs → HaveFrames setup messages outs
all_have_frames setup messages [] short spoken placed input_octets fits =
    All-nil (λ output. made_frame setup messages input_octets output ≡ sent_frame setup messages
    input_octets output)
all_have_frames setup messages (output ∷ outs) short spoken placed input_octets fits =
    All-cons (λ output. made_frame setup messages input_octets output ≡ sent_frame setup messages
    input_octets output) output outs
    (has_frame setup messages input_octets output fits short spoken.0 placed.0)
    (all_have_frames setup messages outs short spoken.1 placed.1 input_octets fits)

pub frames_of_step : (setup : Setup) (input : Input) (e : End) (s : StepState) → AllowsFrames e
    → step Tagged input e ≡ Ok s → HaveFrames setup (drop s.end.first s.end.given) s.outs
frames_of_step setup input e s preserves done =
    all_have_frames setup (drop s.end.first s.end.given) s.outs
    (short_behind s.end.first s.end.given (step_is_short Tagged input e s preserves.short done))
    (step_is_well_formed Tagged input e s done)
    (subst (λ (n : ℕ). ArePlaced n s.outs) (sym (length-drop s.end.first s.end.given))
    (messages_are_there Tagged input e
    s preserves.few preserves.sound preserves.numbers done))

-- ---- From a new end.

pub allows_new : (p : Parameters) → p.k ≤ 127 → AllowsFrames (new_end p)
unfolding initial_variables
allows_new p few = record {
  few = few;
  sound = sound_new Tagged p;
  numbers = (omega arith, omega arith, omega arith);
  short = tt;
}

pub allows_after : (input : Input) (e : End) (s : StepState) → AllowsFrames e
    → CarriesNumbers Tagged input → step Tagged input e ≡ Ok s → AllowsFrames s.end
allows_after input e s preserves reception done =
    let Few : Parameters → Type 0 = λ p. p.k ≤ 127 in
    record {
      few = subst Few (sym (step_preserves_parameters Tagged input e s done)) preserves.few;
      sound = sound_step Tagged input e s preserves.few preserves.sound done;
      numbers = numbers_stay Tagged input e s preserves.numbers reception done;
      short = step_is_short Tagged input e s preserves.short done;
    }

-- ---- Unit data.

short_when : (long : Bool) (len : ℕ) (done s : StepState) → nat_lt n201 len ≡ long
    → unless (if long then Some TooLong else None) done ≡ Ok s → len ≤ n201
short_when true len done s is taken = absurd (cc)
short_when false len done s is taken = grind (arith, nat_tests, is)

-- unit data that is not refused has at most N201 octets
pub short_unit : (len : ℕ) (e : End) (s : StepState) → step Tagged (UnitData len) e ≡ Ok s
    → len ≤ n201
unfolding step
short_unit len e s done = short_when (nat_lt n201 len) len _ s refl done

-- ---- A link.

-- all ends that a machine represents have the messages of its queue
same_messages : (m : Machine) (a b : End) → Represents m [] (begin a) → Represents m [] (begin b)
    → drop a.first a.given ≡ drop b.first b.given
unfolding begin
same_messages m a b one other = one.queue.messages ∙ sym other.queue.messages

-- a machine makes the step, for each end that it represents
abbrev MakesStep : Machine → Machine → Input → List Out → Type 0
MakesStep old new input outs =
    (e : End) → Represents old [] (begin e)
    → (s : StepState) × (step Tagged input e ≡ Ok s) × (s.outs ≡ outs)
    × Represents new [] (begin s.end)

pub frames_of_machine : (setup : Setup) (old new : Machine) (input : Input) (outs : List Out)
    → IsBetweenSteps old → MakesStep old new input outs
    → (e : End) → Represents new [] (begin e) → HaveFrames setup (drop e.first e.given) outs
frames_of_machine setup old new input outs between steps e representation =
    let done = steps (end_of old) (shows_end old between) in
    let preserves : AllowsFrames (end_of old) =
    record {
      few = between.few;
      sound = is_sound old between;
      numbers = between.numbers;
      short = are_short old.queue.messages between.short;
    } in
    subst (λ (messages : List (List ℕ)). HaveFrames setup messages outs)
    (same_messages new done.0.end e done.3 representation)
    (subst (λ (given : List Out). HaveFrames setup (drop done.0.end.first done.0.end.given) given)
    done.2 (frames_of_step setup input (end_of old) done.0 preserves done.1))

pub frames_of_link : (old new : Link) (input : Input) (outs : List Out) → Steps old new input outs
    → HasFramesOf new outs
frames_of_link old new input outs steps =
    frames_of_machine (setup_of new) old.machine new.machine input outs old.between steps
