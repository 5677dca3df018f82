-- Each row of states 4, 5 and 6 has the same effect on tags as on whole numbers. In these states no
-- number of a received frame is read.
use Rattle.std.proofs.Common.{◌≡◌, ℕ, nat_lt, Bool, true, false, if◌then◌else◌, [], ◌∷◌, length, refl, arith}
use Rattle.std.proofs.lemmas.List.{map-append}
use Rattle.lapd_timers.specs.declared.timer.Timer.TheVariants.{T200}
use Rattle.lapd_frame.specs.declared.Role.TheVariants.{Command, Answer}
use Rattle.lapd_frame.specs.declared.Control.TheVariants.{Sabme, Dm, Disc, Ua}
use Rattle.lapd_mod128.specs.Counting.{Whole, AreNear, steps}
use Rattle.lapd_mod128.proofs.Steps.{reaches_implies}
use Rattle.lapd_supervision.specs.Tags.{tag_control, IsWindow}
use Rattle.lapd_link_definition.specs.AwaitingEstablishment.{release_primitive, end_establishment, confirm_or_indicate, ua_final, awaiting_establishment_t200, awaiting_establishment}
use Rattle.lapd_link_definition.specs.AwaitingRelease.{confirm_release, awaiting_release_t200, awaiting_release}
use Rattle.lapd_link_definition.specs.End.{StepState}
use Rattle.lapd_link_definition.specs.Input.{Input, Heard, Expiry, Establish, Release, Give}
use Rattle.lapd_link_definition.specs.Procedures.{put, state_to, release_pending_to}
use Rattle.lapd_link_definition.specs.Sound.{AreOutstanding, AreAwaiting}
use Rattle.lapd_link_definition.specs.Tagging.{tag_input, tag_out, tag_step_state}
use Rattle.lapd_link_definition.specs.TeiAssigned.{tei_assigned}
use Rattle.lapd_link_definition.proofs.ActionsOnTags.{actions, procedures, put_on_tags, discard_unacknowledged_on_tags}

-- both branches of a row with a test
pub by_test : (a b : Bool) (x y v w : StepState) → b ≡ a → (a ≡ true → tag_step_state x ≡ v)
    → (a ≡ false → tag_step_state y ≡ w)
    → tag_step_state (if a then x else y) ≡ (if b then v else w)
by_test true true x y v w same one other = one refl
by_test false false x y v w same one other = other refl
by_test true false x y v w same one other = cc
by_test false true x y v w same one other = cc

-- ---- State 4.

pub tei_assigned_on_tags : (input : Input) (s : StepState)
    → tag_step_state (tei_assigned input s) ≡ tei_assigned (tag_input input) (tag_step_state s)
unfolding tei_assigned tag_control
tei_assigned_on_tags Establish s = simp procedures
tei_assigned_on_tags Release s = simp procedures
tei_assigned_on_tags (Heard (Sabme p) Command) s = simp procedures
tei_assigned_on_tags (Heard (Disc p) Command) s = simp procedures
tei_assigned_on_tags (Heard (Ua f) Answer) s = simp procedures
tei_assigned_on_tags input s = refl

-- ---- State 5.

-- all sent messages are in the window
pub window_of : (first next given va vs : ℕ) → AreOutstanding Whole first next given va vs
    → IsWindow va vs
unfolding steps
window_of first next given va vs h =
    let order = reaches_implies va vs h.reached in
    record { in_order = order; at_most = omega (arith, h.at_most) }

pub window_is_near : (va vs : ℕ) → IsWindow va vs → AreNear vs va
window_is_near va vs w = record { above = w.at_most; below = omega (arith, w.in_order) }

primitive_on_tags : (leaving : Bool)
    → tag_out (release_primitive leaving) ≡ release_primitive leaving
primitive_on_tags true = refl
primitive_on_tags false = refl

end_establishment_on_tags : (s : StepState)
    → tag_step_state (end_establishment s) ≡ end_establishment (tag_step_state s)
unfolding end_establishment tag_step_state put state_to release_pending_to
end_establishment_on_tags s =
    rw (
      map-append tag_out s.outs (release_primitive s.end.release_pending ∷ []),
      primitive_on_tags s.end.release_pending,
    ) refl

-- if messages of the last establishment may be outstanding, V(S) and V(A) are near each other
abbrev IsConfirmed : StepState → Type 0
IsConfirmed s = s.end.layer3_initiated ≡ false → AreNear s.end.window.vs s.end.window.va

confirm_or_indicate_on_tags : (s : StepState) → IsConfirmed s
    → tag_step_state (confirm_or_indicate s) ≡ confirm_or_indicate (tag_step_state s)
unfolding confirm_or_indicate tag_step_state
confirm_or_indicate_on_tags s near =
    by_test s.end.layer3_initiated s.end.layer3_initiated _ _ _ _ refl (λ _. put_on_tags _ s)
    (λ own. discard_unacknowledged_on_tags s (near own))

ua_final_on_tags : (s : StepState) → (s.end.release_pending ≡ false → IsConfirmed s)
    → tag_step_state (ua_final s) ≡ ua_final (tag_step_state s)
unfolding ua_final tag_step_state tag_control
ua_final_on_tags s near =
    by_test s.end.release_pending s.end.release_pending _ _ _ _ refl (λ _. simp actions)
    (λ stays. simp (actions, confirm_or_indicate_on_tags s (near stays)))

awaiting_establishment_t200_on_tags : (s : StepState)
    → tag_step_state (awaiting_establishment_t200 s)
    ≡ awaiting_establishment_t200 (tag_step_state s)
unfolding awaiting_establishment_t200 tag_step_state tag_control
awaiting_establishment_t200_on_tags s =
    by_test (nat_lt s.end.rc s.end.parameters.n200) (nat_lt s.end.rc s.end.parameters.n200) _ _ _ _
    refl (λ _. simp actions) (λ _. simp (actions, end_establishment_on_tags))

near_awaiting : (asked leaving : Bool) (first next given va vs : ℕ)
    → AreAwaiting Whole asked leaving first next given va vs → leaving ≡ false → asked ≡ false
    → AreNear vs va
near_awaiting false false first next given va vs h q p =
    window_is_near va vs (window_of first next given va vs h)
near_awaiting true leaving first next given va vs h q p = cc
near_awaiting false true first next given va vs h q p = cc

pub awaiting_establishment_on_tags : (input : Input) (s : StepState)
    → AreAwaiting Whole s.end.layer3_initiated s.end.release_pending s.end.first s.end.next
    (length s.end.given) s.end.window.va s.end.window.vs
    → tag_step_state (awaiting_establishment input s)
    ≡ awaiting_establishment (tag_input input) (tag_step_state s)
unfolding awaiting_establishment tag_control
awaiting_establishment_on_tags Establish s h = simp actions
awaiting_establishment_on_tags Release s h = simp actions
awaiting_establishment_on_tags (Give message) s h = simp actions
awaiting_establishment_on_tags (Heard (Sabme p) Command) s h = simp actions
awaiting_establishment_on_tags (Heard (Disc p) Command) s h = simp actions
awaiting_establishment_on_tags (Heard (Ua true) Answer) s h =
    ua_final_on_tags s (near_awaiting s.end.layer3_initiated s.end.release_pending s.end.first
    s.end.next (length s.end.given) s.end.window.va s.end.window.vs h)
awaiting_establishment_on_tags (Heard (Ua false) Answer) s h = simp actions
awaiting_establishment_on_tags (Heard (Dm true) Answer) s h =
    simp (actions, end_establishment_on_tags)
awaiting_establishment_on_tags (Expiry T200) s h = awaiting_establishment_t200_on_tags s
awaiting_establishment_on_tags input s h = refl

-- ---- State 6.

confirm_release_on_tags : (s : StepState)
    → tag_step_state (confirm_release s) ≡ confirm_release (tag_step_state s)
unfolding confirm_release
confirm_release_on_tags s = simp actions

awaiting_release_t200_on_tags : (s : StepState)
    → tag_step_state (awaiting_release_t200 s) ≡ awaiting_release_t200 (tag_step_state s)
unfolding awaiting_release_t200 tag_step_state tag_control
awaiting_release_t200_on_tags s =
    by_test (nat_lt s.end.rc s.end.parameters.n200) (nat_lt s.end.rc s.end.parameters.n200) _ _ _ _
    refl (λ _. simp actions) (λ _. simp actions)

pub awaiting_release_on_tags : (input : Input) (s : StepState)
    → tag_step_state (awaiting_release input s)
    ≡ awaiting_release (tag_input input) (tag_step_state s)
unfolding awaiting_release tag_control
awaiting_release_on_tags (Heard (Sabme p) Command) s = simp actions
awaiting_release_on_tags (Heard (Disc p) Command) s = simp actions
awaiting_release_on_tags (Heard (Ua true) Answer) s = confirm_release_on_tags s
awaiting_release_on_tags (Heard (Dm true) Answer) s = confirm_release_on_tags s
awaiting_release_on_tags (Heard (Ua false) Answer) s = simp actions
awaiting_release_on_tags (Expiry T200) s = awaiting_release_t200_on_tags s
awaiting_release_on_tags input s = refl
