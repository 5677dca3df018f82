use Rattle.std.proofs.Common.{refl}
use Rattle.lapd_follow.proofs.ComputedRemarks.{computed_remarks}
use Rattle.lapd_follow.proofs.laws.remarks_are_computed.Goals as goal

pub returns-clause-undisturbed : goal.returns-clause-undisturbed
unfolding computed_remarks
returns-clause-undisturbed c = refl

pub returns-clause-vr_not_reset : goal.returns-clause-vr_not_reset
unfolding computed_remarks
returns-clause-vr_not_reset c = refl

pub returns-clause-sent_again : goal.returns-clause-sent_again
unfolding computed_remarks
returns-clause-sent_again c = refl

pub returns-clause-without_cause : goal.returns-clause-without_cause
unfolding computed_remarks
returns-clause-without_cause c = refl

pub returns-clause-to_busy : goal.returns-clause-to_busy
unfolding computed_remarks
returns-clause-to_busy c = refl

pub returns-clause-window : goal.returns-clause-window
unfolding computed_remarks
returns-clause-window c = refl

pub returns-clause-most : goal.returns-clause-most
unfolding computed_remarks
returns-clause-most c = refl

pub returns-clause-released : goal.returns-clause-released
unfolding computed_remarks
returns-clause-released c = refl

pub returns-clause-bits : goal.returns-clause-bits
unfolding computed_remarks
returns-clause-bits c = refl

pub returns-clause-before_answer : goal.returns-clause-before_answer
unfolding computed_remarks
returns-clause-before_answer c = refl

pub returns-clause-collision : goal.returns-clause-collision
unfolding computed_remarks
returns-clause-collision c = refl

pub returns-clause-from_messages : goal.returns-clause-from_messages
unfolding computed_remarks
returns-clause-from_messages c = refl

pub returns-clause-from_polls : goal.returns-clause-from_polls
unfolding computed_remarks
returns-clause-from_polls c = refl

pub returns-clause-from_doubts : goal.returns-clause-from_doubts
unfolding computed_remarks
returns-clause-from_doubts c = refl

pub returns-clause-from_enquiry : goal.returns-clause-from_enquiry
unfolding computed_remarks
returns-clause-from_enquiry c = refl

pub returns-clause-from_messages_to_release : goal.returns-clause-from_messages_to_release
unfolding computed_remarks
returns-clause-from_messages_to_release c = refl
