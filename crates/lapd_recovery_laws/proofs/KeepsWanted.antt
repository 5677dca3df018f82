-- A delivery keeps a line wanted: neither end begins a release, no DISC or DM is sent, and an end
-- that wants the link goes on wanting it.
use Rattle.std.proofs.Common.{◌≡◌, ◌⊎◌, inl, inr, ℕ, ◌+◌, ◌≤◌, ◌==◌, nat_lt, Bool, true, false, List, [], ◌∷◌, ◌++◌, append-nil, is_ok, refl, sym, ap, subst, ◌∙◌, arith}
use Rattle.lapd_timers.specs.declared.timer.Timer.TheVariants.{T200, T203}
use Rattle.lapd_frame.specs.declared.Role.{Role}
use Rattle.lapd_frame.specs.declared.Role.TheVariants.{Command, Answer}
use Rattle.lapd_frame.specs.declared.Side.{Side}
use Rattle.lapd_frame.specs.declared.Side.TheVariants as side
use Rattle.lapd_frame.specs.declared.Control.{Control}
use Rattle.lapd_frame.specs.declared.Control.TheVariants.{Rr, Rnr, Rej, Sabme, Dm, Disc, Ua}
use Rattle.lapd_mod128.specs.Counting.{Whole}
use Rattle.lapd_supervision.specs.StateVariables.{with_zero_counters, without_exceptions}
use Rattle.lapd_link_definition.specs.declared.state.State.{State}
use Rattle.lapd_link_definition.specs.declared.state.State.TheVariants.{TeiAssigned, AwaitingEstablishment, AwaitingRelease, MultipleFrameEstablished, TimerRecovery}
use Rattle.lapd_link_definition.specs.declared.out.Out.TheVariants.{Send, UnitUp, Confirmed}
use Rattle.lapd_link_definition.specs.AwaitingEstablishment.{awaiting_establishment, ua_final, confirm_or_indicate}
use Rattle.lapd_link_definition.specs.EndOfStep.{is_7_or_8, end_step}
use Rattle.lapd_link_definition.specs.End.{End, StepState, ◌▷◌, begin, waiting}
use Rattle.lapd_link_definition.specs.Input.{Heard}
use Rattle.lapd_link_definition.specs.Procedures.{put, state_to, start, stop, zero_state_variables, clear_exception_conditions}
use Rattle.lapd_link_definition.specs.Table.{by_state, row, step, is_unit_data}
use Rattle.lapd_link_definition.specs.TeiAssigned.{tei_assigned}
use Rattle.lapd_pair_laws.specs.Kinds.{Kind, Asks, Accepts, Unnumbered, Foreign, kind, kind_of, kinds, tally, ask_of, answer_of, foreign_of}
use Rattle.lapd_pair_laws.specs.Conjuncts.{most_asks}
use Rattle.lapd_pair_laws.specs.Invariant.{Both, IsInvariant}
use Rattle.lapd_pair_laws.specs.Parties.{party}
use Rattle.lapd_pair_laws.specs.Line.{Flight, without_info}
use Rattle.lapd_pair_laws.specs.Move.{Deliver, Station, View, acts, delivers, receives, story_after, view_after}
use Rattle.lapd_pair_laws.specs.Timed.{IsSettledEnd}
use Rattle.lapd_pair_laws.specs.World.{World, swapped, with_view, world_after, happens}
use Rattle.lapd_pair_laws.proofs.ActionEffects.{Context, story}
use Rattle.lapd_pair_laws.proofs.ClosedActions.{closes_nothing}
use Rattle.lapd_pair_laws.proofs.Lists.{by_test, tally_append}
use Rattle.lapd_pair_laws.proofs.MidSteps.{open_asks_none}
use Rattle.lapd_pair_laws.proofs.Steps.{context}
use Rattle.lapd_pair_laws.proofs.Stepping.{user_move}
use Rattle.lapd_pair_laws.proofs.Swaps.{network_alike}
use Rattle.lapd_pair_laws.proofs.Whole.{each_move_preserves}
use Rattle.lapd_pair_laws.proofs.Worlds.{left_by}
use Rattle.lapd_recovery_laws.specs.WantedLine.{IsKept, IsWanting, is_dm, NoneRefused, IsWanted}
use Rattle.lapd_recovery_laws.proofs.AnyOrder.{none_there, none_there_too}
use Rattle.lapd_recovery_laws.proofs.OneMoreFrame.{seeing}
use Rattle.lapd_recovery_laws.proofs.ClosedInputs.{opened_line}
use Rattle.lapd_recovery_laws.proofs.DiscSent.{is_disc, NoDisc}
use Rattle.lapd_recovery_laws.proofs.EndSends.{Unsending, kinds_append, end_closes}
use Rattle.lapd_recovery_laws.proofs.Lost.{at}
use Rattle.lapd_recovery_laws.proofs.LostMoves.{moved_user}
use Rattle.lapd_recovery_laws.proofs.OpenFrames.{refuse_of, refused_few, IsSabme, IsDisc, requested, unit_kind, open_by_request, open_delivered}
use Rattle.lapd_recovery_laws.proofs.OutageWorlds.{turned, Facts, facts_swapped}
use Rattle.lapd_recovery_laws.proofs.SendsOn.{discards_by, indicated_line, by_each}

-- ---- Frames that release.

-- DISC and DM
abbrev pub is_release : Control → Bool
is_release (Disc p) = true
is_release (Dm f) = true
is_release control = false

-- none of these frames is a DISC or a DM
abbrev pub NoneReleased : List Flight → Type 0
NoneReleased [] = Unit {0}
NoneReleased (frame ∷ frames) = (is_release frame.control ≡ false) × NoneReleased frames

-- in state 5, and its SABME or the UA is in transit
abbrev pub IsAsking : End → List Flight → List Flight → Type 0
IsAsking x outgoing incoming =
    (x.state ≡ AwaitingEstablishment)
    × (1 ≤ tally ask_of (kinds outgoing) + tally answer_of (kinds incoming))

abbrev pub Wants : End → List Flight → List Flight → Type 0
Wants x outgoing incoming = IsWanting x ⊎ IsAsking x outgoing incoming

-- an end wants the link, neither releases it, and no DISC or DM is in transit
pub record IsUndisturbed (w : World) : Type 0 where
  pub mine : IsKept w.user.end
  pub its : IsKept w.network.end
  pub either : Wants w.user.end w.to_network w.to_user ⊎ Wants w.network.end w.to_user w.to_network
  pub to_user : NoneReleased w.to_user
  pub to_network : NoneReleased w.to_network

neither : (control : Control) → is_dm control ≡ false → is_disc control ≡ false
    → is_release control ≡ false
neither (Dm f) no_dm no_disc = cc
neither (Disc p) no_dm no_disc = cc
neither control no_dm no_disc = refl

none_of_both : (fs : List Flight) → NoneRefused fs → NoDisc fs → NoneReleased fs
none_of_both [] refused sent = tt
none_of_both (f ∷ fs) refused sent =
    (neither f.control refused.0 sent.0, none_of_both fs refused.1 sent.1)

pub undisturbed : (w : World) → IsWanted w → NoDisc w.to_network × NoDisc w.to_user
    → IsUndisturbed w
undisturbed w k none = record {
  mine = k.ends.mine;
  its = k.ends.its;
  either = by_either k.ends.either;
  to_user = none_of_both w.to_user k.to_user none.1;
  to_network = none_of_both w.to_network k.to_network none.0;
}
  where
    by_either : IsWanting w.user.end ⊎ IsWanting w.network.end
        → Wants w.user.end w.to_network w.to_user ⊎ Wants w.network.end w.to_user w.to_network
    by_either (inl mine) = inl (inl mine)
    by_either (inr its) = inr (inl its)

-- without a DM, a DISC or a frame that no end sends
calm_frame : (role : Role) (control : Control) (info : List ℕ) (place : ℕ)
    → ask_of (kind_of role control info place) ≡ 0 → refuse_of (kind_of role control info place) ≡ 0
    → foreign_of (kind_of role control info place) ≡ 0 → is_release control ≡ false
calm_frame Command (Disc true) info place asks refuses foreign = cc
calm_frame Command (Disc false) info place asks refuses foreign = cc
calm_frame Answer (Disc p) info place asks refuses foreign = cc
calm_frame Command (Dm f) info place asks refuses foreign = cc
calm_frame Answer (Dm true) info place asks refuses foreign = cc
calm_frame Answer (Dm false) info place asks refuses foreign = cc
calm_frame role control info place asks refuses foreign = refl

none_released : (fs : List Flight) → tally ask_of (kinds fs) ≡ 0 → tally refuse_of (kinds fs) ≡ 0
    → tally foreign_of (kinds fs) ≡ 0 → NoneReleased fs
none_released [] asks refuses foreign = tt
none_released (f ∷ fs) asks refuses foreign = (
  calm_frame f.role f.control f.info f.place (omega (arith, asks)) (omega (arith, refuses))
      (omega (arith, foreign)),
  none_released fs (omega (arith, asks)) (omega (arith, refuses))
      (omega (arith, foreign)),
)

-- no DM
unrefused_frame : (role : Role) (control : Control) (info : List ℕ) (place : ℕ)
    → is_release control ≡ false → refuse_of (kind_of role control info place) ≡ 0
unrefused_frame role (Dm f) info place calm = cc
unrefused_frame Command (Rr nr true) info place calm = refl
unrefused_frame Command (Rnr nr true) info place calm = refl
unrefused_frame Command (Sabme true) info place calm = refl
unrefused_frame Command (Disc true) info place calm = refl
unrefused_frame Answer (Rr nr true) info place calm = refl
unrefused_frame Answer (Rnr nr true) info place calm = refl
unrefused_frame Answer (Rej nr true) info place calm = refl
unrefused_frame Answer (Rr nr false) info place calm = refl
unrefused_frame Answer (Rnr nr false) info place calm = refl
unrefused_frame Answer (Rej nr false) info place calm = refl
unrefused_frame Answer (Ua true) info place calm = refl
unrefused_frame Command control info place calm = refl
unrefused_frame Answer control info place calm = refl

unrefused : (fs : List Flight) → NoneReleased fs → tally refuse_of (kinds fs) ≡ 0
unrefused [] calm = refl
unrefused (f ∷ fs) calm =
    let one = unrefused_frame f.role f.control f.info f.place calm.0 in
    let rest = unrefused fs calm.1 in omega (arith, one, rest)

pub released_append : (fs gs : List Flight) → NoneReleased fs → NoneReleased gs
    → NoneReleased (fs ++ gs)
released_append [] gs a b = b
released_append (f ∷ fs) gs a b = (a.0, released_append fs gs a.1 b)

-- a SABME, or no request
calm_request : (control : Control) (role : Role) (info : List ℕ) (place : ℕ)
    → is_release control ≡ false
    → IsSabme control role ⊎ (ask_of (kind_of role control info place) ≡ 0)
calm_request control role info place calm = by_request (requested control role info place)
  where
    by_request : IsSabme control role
        ⊎ (IsDisc control role ⊎ (ask_of (kind_of role control info place) ≡ 0))
        → IsSabme control role ⊎ (ask_of (kind_of role control info place) ≡ 0)
    by_request (inl sabme) = inl sabme
    by_request (inr (inl is)) =
        absurd (let impossible : is_release control ≡ true = ap is_release is.0 in cc)
    by_request (inr (inr none)) = inr none

abbrev is_sabme : Control → Role → Bool
is_sabme (Sabme p) Command = true
is_sabme control role = false

abbrev is_ua : Control → Role → Bool
is_ua (Ua f) Answer = true
is_ua control role = false

no_asks : (control : Control) (role : Role) (info : List ℕ) (place : ℕ)
    → is_release control ≡ false → is_sabme control role ≡ false
    → ask_of (kind_of role control info place) ≡ 0
no_asks control role info place calm other = by_request (calm_request control role info place calm)
  where
    by_request : IsSabme control role ⊎ (ask_of (kind_of role control info place) ≡ 0)
        → ask_of (kind_of role control info place) ≡ 0
    by_request (inl is) =
        absurd (let impossible : is_sabme control role ≡ true =
        ap (λ c. is_sabme c role) is.0 ∙ ap (λ r. is_sabme (Sabme true) r) is.1 in cc)
    by_request (inr none) = none

no_answers : (control : Control) (role : Role) (info : List ℕ) (place : ℕ)
    → is_release control ≡ false → is_ua control role ≡ false
    → answer_of (kind_of role control info place) ≡ 0
no_answers (Ua f) Answer info place calm other = cc
no_answers (Dm f) role info place calm other = cc
no_answers (Rr nr true) Command info place calm other = refl
no_answers (Rnr nr true) Command info place calm other = refl
no_answers (Sabme true) Command info place calm other = refl
no_answers (Disc true) Command info place calm other = refl
no_answers (Rr nr true) Answer info place calm other = refl
no_answers (Rnr nr true) Answer info place calm other = refl
no_answers (Rej nr true) Answer info place calm other = refl
no_answers (Rr nr false) Answer info place calm other = refl
no_answers (Rnr nr false) Answer info place calm other = refl
no_answers (Rej nr false) Answer info place calm other = refl
no_answers control Command info place calm other = refl
no_answers control Answer info place calm other = refl

pub open_is_kept : (e : End) → is_7_or_8 e.state ≡ true → IsKept e
open_is_kept e opened = record {
  not_releasing = λ in_6. let impossible : is_7_or_8 e.state ≡ false = ap is_7_or_8 in_6 in cc;
  none_pending = λ in_5. let impossible : is_7_or_8 e.state ≡ false = ap is_7_or_8 in_5 in cc;
}

-- ---- A frame is delivered.

module _ (station peer : Station) (frame : Flight) (rest outgoing : List Flight) (base its_base : ℕ)
    (kept : IsKept station.end) (calm : is_release frame.control ≡ false)
    (before : NoneReleased outgoing) where
  abbrev v : View
  v = record { station = station; incoming = frame ∷ rest; outgoing = outgoing }

  abbrev c : Context
  c = context base frame.info frame.place v rest peer its_base

  abbrev e : End
  e = station.end

  abbrev s : StepState
  s = begin e

  -- the end and the line after a step on a frame of this kind: a SABME is answered, and state 5 is
  -- left for state 7 alone
  pub record Keeps (k : Kind) (x : End) (line : List Flight) : Type 0 where
    pub kept_on : IsKept x
    pub wanting : IsWanting e → IsWanting x
    pub still_5 : e.state ≡ AwaitingEstablishment
        → (is_7_or_8 x.state ≡ true) ⊎ ((x.state ≡ AwaitingEstablishment) × (answer_of k ≡ 0))
    pub answers : ask_of k + tally answer_of (kinds outgoing) ≤ tally answer_of (kinds line)
    pub asks : tally ask_of (kinds outgoing) ≤ tally ask_of (kinds line)
    pub sends : NoneReleased line
        ⊎ ((is_7_or_8 x.state ≡ true) × (tally refuse_of (kinds line) ≡ 0))

  abbrev Done : Kind → StepState → Type 0
  Done k t = Keeps k (end_step Whole t).end (story c (end_step Whole t)).line

  abbrev Frame : Control → Role → Kind
  Frame control role = kind_of role control frame.info frame.place

  none_before : tally refuse_of (kinds outgoing) ≡ 0
  none_before = unrefused outgoing before

  open_keeps : (k : Kind) (x : End) (line : List Flight) → is_7_or_8 x.state ≡ true
      → tally refuse_of (kinds line) ≡ 0
      → ask_of k + tally answer_of (kinds outgoing) ≤ tally answer_of (kinds line)
      → tally ask_of (kinds outgoing) ≤ tally ask_of (kinds line) → Keeps k x line
  open_keeps k x line opened none answers asks = record {
    kept_on = open_is_kept x opened;
    wanting = λ was. inl opened;
    still_5 = λ is. inl opened;
    answers = answers;
    asks = asks;
    sends = inr (opened, none);
  }

  -- how many of the frames are of some kind
  tally_all : (f : Kind → ℕ) (line fs gs : List Flight) → line ≡ (outgoing ++ fs) ++ gs
      → tally f (kinds line)
      ≡ tally f (kinds outgoing) + tally f (kinds fs) + tally f (kinds gs)
  tally_all f line fs gs is =
      let one : tally f (kinds line) ≡ tally f (kinds ((outgoing ++ fs) ++ gs)) =
      ap (λ l. tally f (kinds l)) is in
      let two : tally f (kinds ((outgoing ++ fs) ++ gs)) ≡ tally f
      (kinds (outgoing ++ fs) ++ kinds gs) =
      ap (λ l. tally f l) (kinds_append (outgoing ++ fs) gs) in
      let three = tally_append f (kinds (outgoing ++ fs)) (kinds gs) in
      let four : tally f (kinds (outgoing ++ fs)) ≡ tally f (kinds outgoing ++ kinds fs) =
      ap (λ l. tally f l) (kinds_append outgoing fs) in
      let five = tally_append f (kinds outgoing) (kinds fs) in
      omega (arith, one, two, three, four, five)

  -- to state 7, and then the end of the step
  opens : (k : Kind) (t : StepState) (frames : List Flight)
      → t.end.state ≡ MultipleFrameEstablished → (story c t).line ≡ outgoing ++ frames
      → tally refuse_of (kinds frames) ≡ 0 → ask_of k ≤ tally answer_of (kinds frames) → Done k t
  opens k t frames in_7 sent none answers =
      let u = end_step Whole t in
      let cl = end_closes c t in
      let line : (story c u).line ≡ (outgoing ++ frames) ++ cl.frames =
      cl.line ∙ ap (λ l. l ++ cl.frames) sent in
      let refused = tally_all refuse_of (story c u).line frames cl.frames line in
      let answered = tally_all answer_of (story c u).line frames cl.frames line in
      let asked = tally_all ask_of (story c u).line frames cl.frames line in
      let few = refused_few (kinds cl.frames) in
      let nothing = cl.no_answer in
      let was = none_before in
      open_keeps k u.end (story c u).line
      (ap is_7_or_8 (ap (λ (v : Unsending). v.state) cl.same ∙ in_7))
      (omega (arith, refused, none, few, nothing, was)) (omega (arith, answered, answers))
      (omega (arith, asked))

  -- it stays closed
  stays : (k : Kind) (t : StepState) (frames : List Flight) → is_7_or_8 e.state ≡ false
      → t.end ≡ e → (story c t).line ≡ outgoing ++ frames → NoneReleased frames
      → (e.state ≡ AwaitingEstablishment → answer_of k ≡ 0)
      → ask_of k ≤ tally answer_of (kinds frames) → Done k t
  stays k t frames closed same sent none no_answer answers =
      let all : (story c t).line ≡ (outgoing ++ frames) ++ [] =
      sent ∙ sym (append-nil (outgoing ++ frames)) in
      let answered = tally_all answer_of (story c t).line frames [] all in
      let asked = tally_all ask_of (story c t).line frames [] all in
      subst (λ (u : StepState). Keeps k u.end (story c u).line)
      (sym (closes_nothing t (ap (λ (x : End). is_7_or_8 x.state) same ∙ closed))) (record {
        kept_on = subst IsKept (sym same) kept;
        wanting = λ was. subst IsWanting (sym same) was;
        still_5 = λ is. inr (ap (λ (x : End). x.state) same ∙ is, no_answer is);
        answers = omega (arith, answered, answers);
        asks = omega (arith, asked);
        sends = inl (subst NoneReleased (sym sent) (released_append outgoing frames before none));
      })

  unchanged : (k : Kind) (t : StepState) → is_7_or_8 e.state ≡ false → t.end ≡ e
      → (story c t).line ≡ outgoing → (e.state ≡ AwaitingEstablishment → answer_of k ≡ 0)
      → ask_of k ≡ 0 → Done k t
  unchanged k t closed same sent no_answer no_ask =
      stays k t [] closed same (sent ∙ sym (append-nil outgoing)) tt no_answer
      (omega (arith, no_ask))

  same_end : s.end ≡ e
  unfolding begin
  same_end = refl

  nothing_yet : (story c s).line ≡ outgoing
  unfolding begin story_after
  nothing_yet = refl

  ignored : (k : Kind) → is_7_or_8 e.state ≡ false
      → (e.state ≡ AwaitingEstablishment → answer_of k ≡ 0) → ask_of k ≡ 0 → Done k s
  ignored k closed no_answer no_ask = unchanged k s closed same_end nothing_yet no_answer no_ask

  by_unit : is_7_or_8 e.state ≡ false → Done Unnumbered (put UnitUp s)
  unfolding put begin story_after
  by_unit closed = unchanged Unnumbered (put UnitUp s) closed refl refl (λ is. refl) refl

  -- ---- State 4.

  not_in_5 : {A : Type 0} → e.state ≡ TeiAssigned → e.state ≡ AwaitingEstablishment → A
  not_in_5 is in_5 =
      let impossible : TeiAssigned ≡ AwaitingEstablishment = sym is ∙ in_5 in cc

  in_4 : e.state ≡ TeiAssigned → is_7_or_8 e.state ≡ false → (control : Control) (role : Role)
      → is_release control ≡ false → Done (Frame control role) (tei_assigned (Heard control role) s)
  unfolding tei_assigned put clear_exception_conditions zero_state_variables start state_to begin
      without_exceptions with_zero_counters story_after
  in_4 is closed (Sabme true) Command calm =
      opens Asks (tei_assigned (Heard (Sabme true) Command) s) (without_info Answer (Ua true) ∷ [])
      refl refl refl (omega arith)
  in_4 is closed (Sabme false) Command calm =
      opens Foreign (tei_assigned (Heard (Sabme false) Command) s)
      (without_info Answer (Ua false) ∷ []) refl refl refl (omega arith)
  in_4 is closed (Disc p) Command calm = cc
  in_4 is closed (Ua f) Answer calm =
      unchanged (Frame (Ua f) Answer) (tei_assigned (Heard (Ua f) Answer) s) closed refl refl
      (not_in_5 is) (no_asks (Ua f) Answer frame.info frame.place calm refl)
  in_4 is closed control role calm =
      ignored (Frame control role) closed (not_in_5 is)
      (no_asks control role frame.info frame.place calm refl)

  -- ---- State 5.

  module _ (is : e.state ≡ AwaitingEstablishment) (closed : is_7_or_8 e.state ≡ false) where
    abbrev opening : StepState → StepState
    opening d =
        d ▷ zero_state_variables ▷ stop T200 ▷ start T203 ▷ state_to MultipleFrameEstablished

    confirms : Done Accepts (opening (put Confirmed s))
    unfolding put zero_state_variables stop start state_to begin with_zero_counters story_after
    confirms =
        opens Accepts (opening (put Confirmed s)) [] refl
        (opened_line e.t200 _ _ ∙ sym (append-nil outgoing)) refl (omega arith)

    indicates : (test : Bool) → (s.end.window.vs == s.end.window.va) ≡ test
        → Done Accepts (opening (discards_by test s))
    unfolding zero_state_variables stop start state_to begin with_zero_counters story_after
    indicates test same =
        opens Accepts (opening (discards_by test s)) [] refl
        (indicated_line test (nat_lt 0 (waiting e)) e.t200 (waiting e) _ _
        ∙ sym (append-nil outgoing)) refl (omega arith)

    answered : Done Accepts (ua_final s)
    unfolding ua_final confirm_or_indicate begin
    answered =
        by_test (λ (t : StepState). Done Accepts t) e.release_pending _ _
        (λ pending. let none = kept.none_pending is in cc)
        (λ _. by_test (λ (d : StepState). Done Accepts (opening d)) e.layer3_initiated _ _
        (λ asked. confirms)
        (λ itself. by_each (λ (d : StepState). Done Accepts (opening d)) s indicates))

    in_5 : (control : Control) (role : Role) → is_release control ≡ false
        → Done (Frame control role) (awaiting_establishment (Heard control role) s)
    unfolding awaiting_establishment put begin story_after
    in_5 (Sabme true) Command calm =
        stays Asks (put (Send Answer (Ua true)) s) (without_info Answer (Ua true) ∷ []) closed refl
        refl (refl, tt) (λ is. refl) (omega arith)
    in_5 (Sabme false) Command calm =
        stays Foreign (put (Send Answer (Ua false)) s) (without_info Answer (Ua false) ∷ []) closed
        refl refl (refl, tt) (λ is. refl) (omega arith)
    in_5 (Disc p) Command calm = cc
    in_5 (Ua true) Answer calm = answered
    in_5 (Ua false) Answer calm =
        unchanged Foreign (awaiting_establishment (Heard (Ua false) Answer) s) closed refl refl
        (λ is. refl) refl
    in_5 (Dm true) Answer calm = cc
    in_5 control role calm =
        ignored (Frame control role) closed
        (λ is. no_answers control role frame.info frame.place calm refl)
        (no_asks control role frame.info frame.place calm refl)

  -- ---- States 7 and 8.

  by_open : IsSettledEnd e
      → Both (party base station) (party its_base peer) (kinds outgoing) (kinds (frame ∷ rest))
      → is_7_or_8 e.state ≡ true
      → Done (kind frame) (row Whole e.state (Heard frame.control frame.role) s)
  by_open settled both opened =
      let d = open_delivered station peer frame rest outgoing base its_base settled opened both in
      let t = row Whole e.state (Heard frame.control frame.role) s in
      let u = end_step Whole t in
      let same = d.1.1.0 in
      let was = none_before in
      open_keeps (kind frame) u.end (story c u).line (open_by_request station peer frame rest outgoing base
      its_base settled opened both
      (calm_request frame.control frame.role frame.info frame.place calm))
      (omega (arith, same, was)) d.1.1.1 d.1.1.2

  -- ---- All states.

  in_state : (state : State) → e.state ≡ state → is_7_or_8 state ≡ false
      → is_unit_data frame.control frame.role ≡ false
      → Done (kind frame) (by_state Whole state (Heard frame.control frame.role) s)
  unfolding by_state
  in_state TeiAssigned is closed no_unit = in_4 is (ap is_7_or_8 is) frame.control frame.role calm
  in_state AwaitingEstablishment is closed no_unit =
      in_5 is (ap is_7_or_8 is) frame.control frame.role calm
  in_state AwaitingRelease is closed no_unit = absurd (kept.not_releasing is)
  in_state MultipleFrameEstablished is closed no_unit = cc
  in_state TimerRecovery is closed no_unit = cc

  by_closed : is_7_or_8 e.state ≡ false
      → Done (kind frame) (row Whole e.state (Heard frame.control frame.role) s)
  unfolding row
  by_closed closed =
      by_test (λ (t : StepState). Done (kind frame) t) (is_unit_data frame.control frame.role) _ _
      (λ unit. subst (λ k. Done k (put UnitUp s))
      (sym (unit_kind frame.control frame.role frame.info frame.place unit)) (by_unit closed))
      (λ no_unit. in_state e.state refl closed no_unit)

  pub row_keeps : IsSettledEnd e
      → Both (party base station) (party its_base peer) (kinds outgoing) (kinds (frame ∷ rest))
      → Done (kind frame) (row Whole e.state (Heard frame.control frame.role) s)
  row_keeps settled both = by_case (is_7_or_8 e.state) refl
    where
      by_case : (b : Bool) → is_7_or_8 e.state ≡ b
          → Done (kind frame) (row Whole e.state (Heard frame.control frame.role) s)
      by_case true opened = by_open settled both opened
      by_case false closed = by_closed closed

-- ---- The world.

module _ (N : ℕ) (x y : Station) (frame : Flight) (rest to_network : List Flight)
    (f : Facts N (at x y (frame ∷ rest) to_network))
    (wanted : IsUndisturbed (at x y (frame ∷ rest) to_network)) where
  abbrev w : World
  w = at x y (frame ∷ rest) to_network

  abbrev pub viewed : View
  viewed = seeing x (frame ∷ rest) to_network

  abbrev pub Kept : View → Type 0
  Kept u =
      Keeps x y frame rest to_network f.holds.user_base f.holds.network_base wanted.mine
      wanted.to_user.0 wanted.to_network (kind frame) u.station.end u.outgoing
      × (u.incoming ≡ rest)

  pub view_keeps : Kept (left_by viewed (acts Whole side.User Deliver viewed))
  unfolding acts delivers receives step view_after
  view_keeps = (
    row_keeps x y frame rest to_network f.holds.user_base f.holds.network_base
        wanted.mine wanted.to_user.0 wanted.to_network f.settled.user f.holds.both,
    refl,
  )

  calm_line : (u : View) → IsInvariant (with_view side.User u w) → Kept u → NoneReleased u.outgoing
  calm_line u i k = by_sends k.0.sends
    where
      by_sends : NoneReleased u.outgoing
          ⊎ ((is_7_or_8 u.station.end.state ≡ true) × (tally refuse_of (kinds u.outgoing) ≡ 0))
          → NoneReleased u.outgoing
      by_sends (inl calm) = calm
      by_sends (inr open_one) =
          let one = i.both.mine.exchange.one in
          let none : most_asks u.station.end.state ≡ 0 =
          open_asks_none u.station.end.state open_one.0 in
          none_released u.outgoing (omega (arith, one, none)) open_one.1 i.both.mine.exchange.clean

  goes_on : (u : View) → IsInvariant (with_view side.User u w) → Kept u
      → IsUndisturbed (with_view side.User u w)
  goes_on u i k = record {
    mine = k.0.kept_on;
    its = wanted.its;
    either = by_either wanted.either;
    to_user = subst NoneReleased (sym k.1) wanted.to_user.1;
    to_network = calm_line u i k;
  }
    where
      arrived : tally answer_of (kinds u.incoming) ≡ tally answer_of (kinds rest)
      arrived = ap (λ l. tally answer_of (kinds l)) k.1

      still_asks : IsAsking x.end to_network (frame ∷ rest)
          → (is_7_or_8 u.station.end.state ≡ true)
          ⊎ ((u.station.end.state ≡ AwaitingEstablishment) × (answer_of (kind frame) ≡ 0))
          → Wants u.station.end u.outgoing u.incoming
      still_asks asking (inl opened) = inl (inl opened)
      still_asks asking (inr in_5) =
          let some = asking.1 in
          let asks = k.0.asks in
          let none = in_5.1 in
          let same = arrived in
          inr (in_5.0, omega (arith, some, asks, none, same))

      by_either : Wants x.end to_network (frame ∷ rest) ⊎ Wants y.end (frame ∷ rest) to_network
          → Wants u.station.end u.outgoing u.incoming ⊎ Wants y.end u.incoming u.outgoing
      by_either (inl (inl mine)) = inl (inl (k.0.wanting mine))
      by_either (inl (inr asking)) = inl (still_asks asking (k.0.still_5 asking.0))
      by_either (inr (inl its)) = inr (inl its)
      by_either (inr (inr asking)) =
          let some = asking.1 in
          let answers = k.0.answers in
          let same = ap (λ l. tally ask_of (kinds l)) k.1 in
          inr (inr (asking.0, omega (arith, some, answers, same)))

  user_keeps : IsUndisturbed (world_after w (happens Whole (user_move Deliver) w))
  user_keeps =
      let moved = moved_user Deliver w in
      subst IsUndisturbed (sym moved) (goes_on
      (left_by viewed (acts Whole side.User Deliver viewed))
      (subst IsInvariant moved (each_move_preserves (user_move Deliver) w f.holds))
      view_keeps)

pub undisturbed_swapped : (w : World) → IsUndisturbed w → IsUndisturbed (swapped w)
undisturbed_swapped w k = record {
  mine = k.its;
  its = k.mine;
  either = turned k.either;
  to_user = k.to_network;
  to_network = k.to_user;
}

pub delivery_keeps : (N : ℕ) (s : Side) (w : World) → Facts N w → IsUndisturbed w
    → is_ok (happens Whole (record { side = s; event = Deliver }) w) ≡ true
    → IsUndisturbed (world_after w (happens Whole (record { side = s; event = Deliver }) w))
delivery_keeps N s w f k ok = by_side s w.user w.network w.to_user w.to_network f k ok
  where
    by_side : (s : Side) (x y : Station) (to_user to_network : List Flight)
        → Facts N (at x y to_user to_network) → IsUndisturbed (at x y to_user to_network)
        → is_ok (happens Whole (record { side = s; event = Deliver }) (at x y to_user to_network))
        ≡ true
        → IsUndisturbed (world_after (at x y to_user to_network)
        (happens Whole (record { side = s; event = Deliver }) (at x y to_user to_network)))
    by_side side.User x y [] to_network f k ok = let none = none_there x y to_network in cc
    by_side side.User x y (frame ∷ rest) to_network f k ok =
        user_keeps N x y frame rest to_network f k
    by_side side.Network x y to_user [] f k ok = let none = none_there_too x y to_user in cc
    by_side side.Network x y to_user (frame ∷ rest) f k ok =
        let w = at x y to_user (frame ∷ rest) in
        let now = world_after (swapped w) (happens Whole (user_move Deliver) (swapped w)) in
        subst IsUndisturbed (sym (network_alike Whole Deliver w))
        (undisturbed_swapped now (user_keeps N y x frame rest to_user (facts_swapped N w f)
        (undisturbed_swapped w k)))
