-- The premise of T200, over the kinds of frames: no frame that it waits for is in transit.
use Rattle.std.proofs.Common.{◌≡◌, ℕ, suc, ◌+◌, ◌≤◌, nat_lt, cond, not, ◌&&◌, Bool, true, false, List, [], ◌∷◌, length, position, option_map, Option, Some, None, refl, arith}
use Rattle.std.proofs.lemmas.Bool.Decides.{nat_tests}
use Rattle.std.specs.List.{position_or_len}
use Rattle.lapd_frame.specs.declared.Role.{Role}
use Rattle.lapd_frame.specs.declared.Role.TheVariants.{Command, Answer}
use Rattle.lapd_frame.specs.declared.Control.{Control}
use Rattle.lapd_frame.specs.declared.Control.TheVariants.{I, Rr, Rnr, Rej, Sabme, Dm, Disc, Ua}
use Rattle.lapd_frame.specs.Reading.{is_command}
use Rattle.lapd_link_definition.specs.declared.state.State.{State}
use Rattle.lapd_link_definition.specs.declared.state.State.TheVariants.{TeiAssigned, AwaitingEstablishment, AwaitingRelease, MultipleFrameEstablished, TimerRecovery}
use Rattle.lapd_pair_laws.specs.Line.{Flight, is_poll, is_final, first_poll, first_final}
use Rattle.lapd_frame.specs.Control.{poll_final}
use Rattle.lapd_pair_laws.specs.Kinds.{Kind, kind, kind_of, kinds, tally, ask_of, answer_of, poll_of, final_of}
use Rattle.lapd_pair_laws.specs.Parties.{Party, Reception, behind, behind_acceptance, reception_now, next_reception, received_in, receives, frames_received}
use Rattle.lapd_pair_laws.specs.Conjuncts.{Each}

-- ---- If no position is found, no frame passes the test.

at_front : (b : Bool) (n m : ℕ) → suc n ≤ cond (not b) (1 + m) 0 → (b ≡ false) × (n ≤ m)
at_front true n m le = absurd (omega (arith, le))
at_front false n m le = (refl, omega (arith, le))

none_passes : {X : Type 0} (p : X → Bool) (xs : List X) → length xs ≤ position_or_len p xs
    → Each (λ x. p x ≡ false) xs
none_passes p [] all = tt
none_passes p (x ∷ xs) all =
    let f = at_front (p x) (length xs) (position_or_len p xs) all in (f.0, none_passes p xs f.1)

not_found : (test : Bool) (n m : ℕ) → nat_lt n m ≡ test → cond test (Some n) None ≡ None → m ≤ n
not_found true n m is none = cc
not_found false n m is none = grind (arith, is, nat_tests)

unless_found : {X : Type 0} (p : X → Bool) (xs : List X) → position p xs ≡ None
    → Each (λ x. p x ≡ false) xs
unless_found p xs none =
    none_passes p xs (not_found (nat_lt (position_or_len p xs) (length xs)) (position_or_len p xs)
    (length xs) refl none)

-- ---- Frame by frame.

quiet_poll : (role : Role) (control : Control) (info : List ℕ) (place : ℕ)
    → (is_command role && poll_final control) ≡ false
    → (poll_of (kind_of role control info place) ≡ 0)
    × (ask_of (kind_of role control info place) ≡ 0)
quiet_poll Command (I ns nr true) info place none = cc
quiet_poll Command (Rr nr true) info place none = cc
quiet_poll Command (Rnr nr true) info place none = cc
quiet_poll Command (Sabme true) info place none = cc
quiet_poll Command (Disc true) info place none = cc
quiet_poll Answer (Rr nr true) info place none = (refl, refl)
quiet_poll Answer (Rnr nr true) info place none = (refl, refl)
quiet_poll Answer (Rej nr true) info place none = (refl, refl)
quiet_poll Answer (Ua true) info place none = (refl, refl)
quiet_poll Answer (Dm true) info place none = (refl, refl)
quiet_poll role control info place none = (refl, refl)

quiet_final : (role : Role) (control : Control) (info : List ℕ) (place : ℕ)
    → (not (is_command role) && poll_final control) ≡ false
    → (final_of (kind_of role control info place) ≡ 0)
    × (answer_of (kind_of role control info place) ≡ 0)
quiet_final Command (Rr nr true) info place none = (refl, refl)
quiet_final Command (Rnr nr true) info place none = (refl, refl)
quiet_final Command (Sabme true) info place none = (refl, refl)
quiet_final Command (Disc true) info place none = (refl, refl)
quiet_final Answer (Rr nr true) info place none = cc
quiet_final Answer (Rnr nr true) info place none = cc
quiet_final Answer (Rej nr true) info place none = cc
quiet_final Answer (Ua true) info place none = cc
quiet_final Answer (Dm true) info place none = cc
quiet_final role control info place none = (refl, refl)

both_none : (f g : Kind → ℕ) (p : Flight → Bool) (fs : List Flight)
    → ((x : Flight) → p x ≡ false → (f (kind x) ≡ 0) × (g (kind x) ≡ 0))
    → Each (λ x. p x ≡ false) fs → (tally f (kinds fs) ≡ 0) × (tally g (kinds fs) ≡ 0)
both_none f g p [] each none = (refl, refl)
both_none f g p (x ∷ fs) each none =
    let here = each x none.0 in
    let rest = both_none f g p fs each none.1 in
    (omega (arith, here.0, rest.0), omega (arith, here.1, rest.1))

pub none_under_way : (fs : List Flight) → first_poll fs ≡ None
    → (tally poll_of (kinds fs) ≡ 0) × (tally ask_of (kinds fs) ≡ 0)
none_under_way fs none =
    both_none poll_of ask_of is_poll fs
    (λ x no_poll. quiet_poll x.role x.control x.info x.place no_poll) (unless_found is_poll fs none)

pub none_answered : (fs : List Flight) → first_final fs ≡ None
    → (tally final_of (kinds fs) ≡ 0) × (tally answer_of (kinds fs) ≡ 0)
none_answered fs none =
    both_none final_of answer_of is_final fs
    (λ x no_final. quiet_final x.role x.control x.info x.place no_final)
    (unless_found is_final fs none)

-- ---- If the line has no poll, no frame to be processed polls.

pick_polls : (test : Bool) (l : List Kind) (o : Option (List Kind)) → tally poll_of l ≡ 0
    → tally poll_of (frames_received (option_map next_reception o)) ≡ 0
    → tally poll_of (frames_received (option_map next_reception (behind test l o))) ≡ 0
pick_polls true l o here later = here
pick_polls false l o here later = later

behind_polls : (ks : List Kind) → tally poll_of ks ≡ 0
    → tally poll_of (frames_received (option_map next_reception (behind_acceptance ks))) ≡ 0
behind_polls [] none = refl
behind_polls (k ∷ ks) none =
    let rest : tally poll_of ks ≡ 0 = omega (arith, none) in
    pick_polls _ ks (behind_acceptance ks) rest (behind_polls ks rest)

polls_in : (state : State) (leaving : Bool) (now : Reception) (ks : List Kind)
    → tally poll_of now.frames ≡ 0 → tally poll_of ks ≡ 0
    → tally poll_of (frames_received (received_in state leaving now ks)) ≡ 0
polls_in TeiAssigned leaving now ks here none = refl
polls_in AwaitingEstablishment true now ks here none = refl
polls_in AwaitingEstablishment false now ks here none = behind_polls ks none
polls_in AwaitingRelease leaving now ks here none = refl
polls_in MultipleFrameEstablished leaving now ks here none = here
polls_in TimerRecovery leaving now ks here none = here

pub received_polls : (y : Party) (ks : List Kind) → tally poll_of ks ≡ 0
    → tally poll_of (frames_received (receives y ks)) ≡ 0
received_polls y ks none = polls_in y.state y.leaving (reception_now y ks) ks none none
