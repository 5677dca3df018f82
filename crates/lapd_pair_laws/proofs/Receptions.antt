-- The frames that a side will process, and how they change with the line.
use Rattle.std.proofs.Common.{◌≡◌, ◌⊎◌, inl, inr, Bool, true, false, List, [], ◌∷◌, ◌++◌, Option, Some, None, option_map, refl, sym, ap, subst, ◌∙◌, arith}
use Rattle.lapd_link_definition.specs.declared.state.State.{State}
use Rattle.lapd_link_definition.specs.declared.state.State.TheVariants.{TeiAssigned, AwaitingEstablishment, AwaitingRelease, MultipleFrameEstablished, TimerRecovery}
use Rattle.lapd_link_definition.specs.EndOfStep.{is_7_or_8}
use Rattle.lapd_pair_laws.specs.Kinds.{Kind, Accepts, Asks, tally, answer_of, is_acceptance}
use Rattle.lapd_pair_laws.specs.Parties.{Party, Reception, behind, behind_acceptance, reception_now, next_reception, received_in, receives, OnReception}

-- ---- Facts of the frames that will be processed.

pub on_map : (P Q : Reception → Type 0) (o : Option Reception) → ((h : Reception) → P h → Q h)
    → OnReception P o → OnReception Q o
on_map P Q None f p = tt
on_map P Q (Some h) f p = f h p

pub on_both : (P Q R : Reception → Type 0) (o : Option Reception)
    → ((h : Reception) → P h → Q h → R h) → OnReception P o → OnReception Q o → OnReception R o
on_both P Q R None f p q = tt
on_both P Q R (Some h) f p q = f h p q

pub on_mapped : (P : Reception → Type 0) (f : Reception → Reception) (o : Option Reception)
    → OnReception (λ h. P (f h)) o → OnReception P (option_map f o)
on_mapped P f None p = tt
on_mapped P f (Some h) p = p

-- ---- An open side processes all frames.

open_in : (state : State) (leaving : Bool) (now : Reception) (ks : List Kind)
    → is_7_or_8 state ≡ true → received_in state leaving now ks ≡ Some now
open_in MultipleFrameEstablished leaving now ks opened = refl
open_in TimerRecovery leaving now ks opened = refl
open_in state leaving now ks opened = cc

pub open_receives : (y : Party) (ks : List Kind) → is_7_or_8 y.state ≡ true
    → receives y ks ≡ Some (reception_now y ks)
open_receives y ks opened = open_in y.state y.leaving (reception_now y ks) ks opened

pub from_open : (Q : Reception → Type 0) (y : Party) (ks : List Kind) → is_7_or_8 y.state ≡ true
    → OnReception Q (receives y ks) → Q (reception_now y ks)
from_open Q y ks opened q = subst (λ o. OnReception Q o) (open_receives y ks opened) q

-- ---- With no answer in transit, only an open side processes frames.

pub not_acceptance : (k : Kind) → answer_of k ≡ 0 → is_acceptance k ≡ false
not_acceptance Accepts none = absurd (omega (arith, none))
not_acceptance Asks none = refl
not_acceptance k none = refl

pub unanswered : (ks : List Kind) → tally answer_of ks ≡ 0 → behind_acceptance ks ≡ None
unanswered [] none = refl
unanswered (k ∷ ks) none =
    ap (λ b. behind b ks (behind_acceptance ks)) (not_acceptance k (omega (arith, none)))
    ∙ unanswered ks (omega (arith, none))

open_only : (Q : Reception → Type 0) (state : State) (leaving : Bool) (now : Reception)
    (ks : List Kind) → tally answer_of ks ≡ 0 → (is_7_or_8 state ≡ true → Q now)
    → OnReception Q (received_in state leaving now ks)
open_only Q TeiAssigned leaving now ks none q = tt
open_only Q AwaitingEstablishment true now ks none q = tt
open_only Q AwaitingEstablishment false now ks none q =
    subst (λ o. OnReception Q (option_map next_reception o)) (sym (unanswered ks none)) tt
open_only Q AwaitingRelease leaving now ks none q = tt
open_only Q MultipleFrameEstablished leaving now ks none q = q refl
open_only Q TimerRecovery leaving now ks none q = q refl

pub by_open : (Q : Reception → Type 0) (y : Party) (ks : List Kind) → tally answer_of ks ≡ 0
    → (is_7_or_8 y.state ≡ true → Q (reception_now y ks)) → OnReception Q (receives y ks)
by_open Q y ks none q = open_only Q y.state y.leaving (reception_now y ks) ks none q

-- a closed side processes no frame then
closed_in : (state : State) (leaving : Bool) (now : Reception) (ks : List Kind)
    → is_7_or_8 state ≡ false → tally answer_of ks ≡ 0 → received_in state leaving now ks ≡ None
closed_in TeiAssigned leaving now ks closed none = refl
closed_in AwaitingEstablishment true now ks closed none = refl
closed_in AwaitingEstablishment false now ks closed none =
    ap (λ o. option_map next_reception o) (unanswered ks none)
closed_in AwaitingRelease leaving now ks closed none = refl
closed_in MultipleFrameEstablished leaving now ks closed none = cc
closed_in TimerRecovery leaving now ks closed none = cc

pub closed_receives_nothing : (y : Party) (ks : List Kind) → is_7_or_8 y.state ≡ false
    → tally answer_of ks ≡ 0 → receives y ks ≡ None
closed_receives_nothing y ks closed none =
    closed_in y.state y.leaving (reception_now y ks) ks closed none

-- ---- The state variables: those of an open side, or 0 in an establishment that is about to begin.

pub record IsNext (state : State) (h : Reception) : Type 0 where
  pub state_5 : state ≡ AwaitingEstablishment
  pub vs : h.vs ≡ 0
  pub va : h.va ≡ 0
  pub vr : h.vr ≡ 0
  pub rejecting : h.rejecting ≡ false

abbrev pub IsReceivedAs : Party → List Kind → Reception → Type 0
IsReceivedAs y ks h = ((is_7_or_8 y.state ≡ true) × (h ≡ reception_now y ks)) ⊎ IsNext y.state h

is_next : (state : State) (now : Reception) (o : Option (List Kind)) → state ≡ AwaitingEstablishment
    → OnReception (λ h. ((is_7_or_8 state ≡ true) × (h ≡ now)) ⊎ IsNext state h)
    (option_map next_reception o)
is_next state now None is = tt
is_next state now (Some l) is =
    inr (record { state_5 = is; vs = refl; va = refl; vr = refl; rejecting = refl })

received_as_in : (state : State) (leaving : Bool) (now : Reception) (ks : List Kind)
    → OnReception (λ h. ((is_7_or_8 state ≡ true) × (h ≡ now)) ⊎ IsNext state h)
    (received_in state leaving now ks)
received_as_in TeiAssigned leaving now ks = tt
received_as_in AwaitingEstablishment true now ks = tt
received_as_in AwaitingEstablishment false now ks =
    is_next AwaitingEstablishment now (behind_acceptance ks) refl
received_as_in AwaitingRelease leaving now ks = tt
received_as_in MultipleFrameEstablished leaving now ks = inl (refl, refl)
received_as_in TimerRecovery leaving now ks = inl (refl, refl)

pub received_as : (y : Party) (ks : List Kind) → OnReception (IsReceivedAs y ks) (receives y ks)
received_as y ks = received_as_in y.state y.leaving (reception_now y ks) ks

-- ---- One more frame is appended that is not UA.

abbrev pub one_more : Kind → Reception → Reception
one_more u h = record h { frames = h.frames ++ u ∷ [] }

behind_both : (test : Bool) (u : Kind) (ks : List Kind) (later later_more : Option (List Kind))
    → later_more ≡ option_map (λ l. l ++ u ∷ []) later
    → behind test (ks ++ u ∷ []) later_more ≡ option_map (λ l. l ++ u ∷ []) (behind test ks later)
behind_both true u ks later later_more same = refl
behind_both false u ks later later_more same = same

behind_more : (u : Kind) (ks : List Kind) → is_acceptance u ≡ false
    → behind_acceptance (ks ++ u ∷ []) ≡ option_map (λ l. l ++ u ∷ []) (behind_acceptance ks)
behind_more u [] other = ap (λ b. behind b [] None) other
behind_more u (k ∷ ks) other =
    behind_both (is_acceptance k) u ks (behind_acceptance ks) (behind_acceptance (ks ++ u ∷ []))
    (behind_more u ks other)

next_more : (u : Kind) (o : Option (List Kind))
    → option_map next_reception (option_map (λ l. l ++ u ∷ []) o)
    ≡ option_map (one_more u) (option_map next_reception o)
next_more u None = refl
next_more u (Some l) = refl

more_in : (state : State) (leaving : Bool) (now : Reception) (ks : List Kind) (u : Kind)
    → is_acceptance u ≡ false
    → received_in state leaving (one_more u now) (ks ++ u ∷ [])
    ≡ option_map (one_more u) (received_in state leaving now ks)
more_in AwaitingEstablishment false now ks u other =
    ap (λ o. option_map next_reception o) (behind_more u ks other)
    ∙ next_more u (behind_acceptance ks)
more_in state leaving now ks u other = refl

pub receives_more : (y : Party) (ks : List Kind) (u : Kind) → is_acceptance u ≡ false
    → receives y (ks ++ u ∷ []) ≡ option_map (one_more u) (receives y ks)
receives_more y ks u other = more_in y.state y.leaving (reception_now y ks) ks u other
