-- If numbers are near, an input that is due on whole numbers is due on tags.
use Rattle.std.proofs.Common.{◌≡◌, true, refl, ◌∙◌}
use Rattle.lapd_frame.specs.declared.Role.TheVariants.{Command, Answer}
use Rattle.lapd_frame.specs.declared.Control.{Control}
use Rattle.lapd_frame.specs.declared.Control.TheVariants.{I, Rr, Rnr, Rej, Ua}
use Rattle.lapd_mod128.specs.Counting.{Whole, Tagged}
use Rattle.lapd_supervision.specs.StateVariables.{StateVariables}
use Rattle.lapd_supervision.specs.Tags.{tag_variables, tag_control, IsWindow}
use Rattle.lapd_supervision.proofs.Tagging.{is_valid_nr_on_tags}
use Rattle.lapd_link_definition.specs.declared.state.State.{State}
use Rattle.lapd_link_definition.specs.declared.state.State.TheVariants.{TeiAssigned, AwaitingEstablishment, AwaitingRelease, MultipleFrameEstablished, TimerRecovery}
use Rattle.lapd_link_definition.specs.EndOfStep.{is_7_or_8}
use Rattle.lapd_link_definition.specs.End.{End}
use Rattle.lapd_link_definition.specs.Input.{Input, Heard, Faulty}
use Rattle.lapd_link_definition.specs.Reports.{is_unasked, HasValidNumber, IsNumberedIn, IsDue}
use Rattle.lapd_link_definition.specs.Tagging.{tag_input, tag_end, HasNearNumbers, IsNear}
use Rattle.lapd_link_definition.proofs.NearNumbers.{window_in}

unasked_on_tags : (control : Control) (state : State)
    → is_unasked (tag_control control) state ≡ is_unasked control state
unfolding tag_control
unasked_on_tags (I ns nr p) state = refl
unasked_on_tags (Rr nr pf) state = refl
unasked_on_tags (Rnr nr pf) state = refl
unasked_on_tags (Rej nr pf) state = refl
unasked_on_tags (Ua true) state = refl
unasked_on_tags (Ua f) state = refl
unasked_on_tags control state = refl

valid_on_tags : (control : Control) (m : StateVariables) → IsWindow m.va m.vs
    → HasNearNumbers control m → HasValidNumber Whole control m
    → HasValidNumber Tagged (tag_control control) (tag_variables m)
unfolding tag_control
valid_on_tags (I ns nr p) m window near valid = is_valid_nr_on_tags nr m window near.1 ∙ valid
valid_on_tags (Rr nr pf) m window near valid = is_valid_nr_on_tags nr m window near ∙ valid
valid_on_tags (Rnr nr pf) m window near valid = is_valid_nr_on_tags nr m window near ∙ valid
valid_on_tags (Rej nr pf) m window near valid = is_valid_nr_on_tags nr m window near ∙ valid
valid_on_tags control m window near valid = tt

numbered_on_tags : (state : State) (control : Control) (m : StateVariables)
    → (is_7_or_8 state ≡ true → IsWindow m.va m.vs)
    → (is_7_or_8 state ≡ true → HasNearNumbers control m)
    → IsNumberedIn Whole state control m
    → IsNumberedIn Tagged state (tag_control control) (tag_variables m)
numbered_on_tags MultipleFrameEstablished control m window near valid =
    valid_on_tags control m (window refl) (near refl) valid
numbered_on_tags TimerRecovery control m window near valid =
    valid_on_tags control m (window refl) (near refl) valid
numbered_on_tags TeiAssigned control m window near valid = tt
numbered_on_tags AwaitingEstablishment control m window near valid = tt
numbered_on_tags AwaitingRelease control m window near valid = tt

pub due_on_tags : (input : Input) (e : End) → IsNear input e → IsDue Whole input e
    → IsDue Tagged (tag_input input) (tag_end e)
due_on_tags (Heard control Command) e near due =
    numbered_on_tags e.state control e.window (window_in e.state e near.sound) near.reception due
due_on_tags (Heard control Answer) e near due = (
  unasked_on_tags control e.state ∙ due.0,
  numbered_on_tags e.state control e.window (window_in e.state e near.sound) near.reception
      due.1,
)
due_on_tags (Faulty kind) e near due = absurd due
due_on_tags input e near due = tt
