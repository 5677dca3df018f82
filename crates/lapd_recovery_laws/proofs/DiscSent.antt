-- An end in state 5 has no DISC in transit, after every run.
use Rattle.std.proofs.Common.{◌≡◌, ℕ, zero, suc, ◌≤◌, nat_lt, Bool, true, false, List, [], ◌∷◌, ◌++◌, length, Option, Some, None, Result, Ok, Err, refl, sym, ap, subst, ◌∙◌, arith}
use Rattle.lapd_timers.specs.declared.timer.Timer.TheVariants.{T200, T203}
use Rattle.lapd_frame.specs.declared.Role.{Role}
use Rattle.lapd_frame.specs.declared.Role.TheVariants.{Command, Answer}
use Rattle.lapd_frame.specs.declared.Side.{Side}
use Rattle.lapd_frame.specs.declared.Side.TheVariants as side
use Rattle.lapd_frame.specs.declared.Control.{Control}
use Rattle.lapd_frame.specs.declared.Control.TheVariants.{Sabme, Dm, Disc, Ua}
use Rattle.lapd_mod128.specs.Counting.{Whole}
use Rattle.lapd_link_definition.specs.declared.event.LinkFault.{LinkFault}
use Rattle.lapd_link_definition.specs.declared.out.Letter.TheVariants as letter
use Rattle.lapd_link_definition.specs.declared.out.Out.{Out}
use Rattle.lapd_link_definition.specs.declared.out.Out.TheVariants.{Send, SendMessage, SendUnit, Report, Dropped, Stop}
use Rattle.lapd_link_definition.specs.declared.state.State.{State}
use Rattle.lapd_link_definition.specs.declared.state.State.TheVariants.{TeiAssigned, AwaitingEstablishment, AwaitingRelease, MultipleFrameEstablished, TimerRecovery}
use Rattle.lapd_link_definition.specs.AwaitingEstablishment.{awaiting_establishment}
use Rattle.lapd_link_definition.specs.AwaitingRelease.{awaiting_release}
use Rattle.lapd_link_definition.specs.EndOfStep.{is_7_or_8, end_step}
use Rattle.lapd_link_definition.specs.End.{End, StepState, begin, runs, waiting}
use Rattle.lapd_link_definition.specs.Established.{sends_last, in_7_and_8, multiple_frame_established}
use Rattle.lapd_link_definition.specs.Input.{Input, Heard, Faulty, Expiry, Establish, Release, BusyOn, BusyOff, UnitData, Give}
use Rattle.lapd_link_definition.specs.Parameters.{Parameters}
use Rattle.lapd_link_definition.specs.Procedures.{out_where, put, increment_rc, layer3_initiated_to, expired, set_own_busy, queue_up, discard_i_queue, transmit_enquiry, establish_data_link}
use Rattle.lapd_link_definition.specs.Table.{by_state, report_fault, row, step, is_unit_data}
use Rattle.lapd_link_definition.specs.Refusal.{refused}
use Rattle.lapd_link_definition.specs.TeiAssigned.{tei_assigned}
use Rattle.lapd_link_definition.specs.TimerRecovery.{timer_recovery}
use Rattle.lapd_link_definition.proofs.PreservedByStep.{taken}
use Rattle.lapd_pair_laws.specs.Histories.{Occasion, Story, after_outputs}
use Rattle.lapd_pair_laws.specs.Conjuncts.{most_asks}
use Rattle.lapd_pair_laws.specs.Invariant.{Both, IsInvariant}
use Rattle.lapd_pair_laws.specs.Kinds.{kind_of, kinds, tally, ask_of, foreign_of}
use Rattle.lapd_pair_laws.specs.Parties.{party}
use Rattle.lapd_pair_laws.specs.Timed.{IsSettledEnd, AreSettledEnds}
use Rattle.lapd_pair_laws.specs.World.{World, swapped, view_of, new_world, world_after, happens, run}
use Rattle.lapd_pair_laws.specs.Line.{Flight, without_lost, first_poll, first_final}
use Rattle.lapd_pair_laws.specs.Move.{PairEvent, Give as give, Establish as establish, Release as release, Deliver, Lose, Expire200, Expire203, Busy, UnitData as unit_data, Restart, Move, Station, View, ViewStep, Refusal, stepped, receives, takes, delivers, loses, expires_200, expires_203, restarts, busy_input, unless_under_way, acts, story_after, view_after}
use Rattle.lapd_frame.specs.declared.fault_kind.FaultKind.{FaultKind}
use Rattle.lapd_pair_laws.proofs.ClosedActions.{closes_nothing}
use Rattle.lapd_pair_laws.proofs.Lists.{by_test}
use Rattle.lapd_pair_laws.proofs.Steps.{context}
use Rattle.lapd_pair_laws.proofs.SettledEnds.{new_settles, run_settles, move_settles}
use Rattle.lapd_pair_laws.proofs.Stepping.{user_move}
use Rattle.lapd_pair_laws.proofs.Swaps.{network_alike}
use Rattle.lapd_pair_laws.proofs.Whole.{each_move_preserves, each_run_preserves}
use Rattle.lapd_pair_laws.proofs.Worlds.{new_holds, left_by, exchanged}
use Rattle.lapd_recovery_laws.proofs.OneMoreFrame.{seeing}
use Rattle.lapd_recovery_laws.proofs.EndSends.{Unsending, end_closes}
use Rattle.lapd_recovery_laws.proofs.LostMoves.{moved_user}
use Rattle.lapd_recovery_laws.proofs.OpenFrames.{never_5}
use Rattle.lapd_recovery_laws.proofs.Situations.{not_both}
use Rattle.lapd_link_definition.proofs.ComputedStep.{each_action, each_row}

-- ---- Outputs without a DISC.

abbrev pub is_disc : Control → Bool
is_disc (Disc p) = true
is_disc control = false

abbrev is_disc_out : Out → Bool
is_disc_out (Send role control) = is_disc control
is_disc_out (SendMessage n control) = is_disc control
is_disc_out out = false

abbrev AreCalm : List Out → Type 0
AreCalm [] = Unit {0}
AreCalm (out ∷ outs) = (is_disc_out out ≡ false) × AreCalm outs

calm_append : (a b : List Out) → AreCalm a → AreCalm b → AreCalm (a ++ b)
calm_append [] b calm more = more
calm_append (out ∷ a) b calm more = (calm.0, calm_append a b calm.1 more)

calm_where : (test : Bool) (out : Out) → is_disc_out out ≡ false → AreCalm (out_where test out)
calm_where true out calm = (calm, tt)
calm_where false out calm = tt

-- no DISC is in transit
abbrev pub NoDisc : List Flight → Type 0
NoDisc [] = Unit {0}
NoDisc (frame ∷ frames) = (is_disc frame.control ≡ false) × NoDisc frames

one_more : (line : List Flight) (frame : Flight) → NoDisc line → is_disc frame.control ≡ false
    → NoDisc (line ++ frame ∷ [])
one_more [] frame none calm = (calm, tt)
one_more (f ∷ fs) frame none calm = (none.0, one_more fs frame none.1 calm)

-- the frames of these outputs
calm_line : (o : Occasion) (outs : List Out) (t : Story) → AreCalm outs → NoDisc t.line
    → NoDisc (after_outputs o outs t).line
calm_line o [] t calm none = none
calm_line o (Send role control ∷ outs) t calm none =
    calm_line o outs _ calm.1 (one_more t.line _ none calm.0)
calm_line o (SendMessage n control ∷ outs) t calm none =
    calm_line o outs _ calm.1 (one_more t.line _ none calm.0)
calm_line o (SendUnit ∷ outs) t calm none = calm_line o outs _ calm.1 (one_more t.line _ none refl)
calm_line o (out ∷ outs) t calm none = calm_line o outs _ calm.1 none

-- ---- Rows.

abbrev After : StepState → Type 0
After s = s.end.state ≡ AwaitingEstablishment → AreCalm s.outs

abbrev IsCalmStep : StepState → Type 0
IsCalmStep s = AreCalm s.outs

-- an establishment begins
begins : (s : StepState) → IsCalmStep s → After (establish_data_link s)
unfolding each_action establish_data_link
begins s calm is =
    calm_append _ _
    (calm_append _ _ (calm_append _ _ calm (refl, tt)) (calm_where s.end.t203 (Stop T203) refl))
    (refl, tt)

discards : (s : StepState) → IsCalmStep s → IsCalmStep (discard_i_queue s)
unfolding discard_i_queue
discards s calm =
    calm_append _ _ calm (calm_where (nat_lt 0 (waiting s.end)) (Dropped (waiting s.end)) refl)

asked : (s : StepState) → IsCalmStep s
    → After (establish_data_link (layer3_initiated_to true (discard_i_queue s)))
unfolding layer3_initiated_to
asked s calm = begins (layer3_initiated_to true (discard_i_queue s)) (discards s calm)

from_4 : (h : Input) (s : StepState) → s.end.state ≡ TeiAssigned → IsCalmStep s
    → After (tei_assigned h s)
unfolding each_action tei_assigned
from_4 Establish s q calm = asked s calm
from_4 (Heard (Sabme p) Command) s q calm = λ is. cc
from_4 (Heard (Disc p) Command) s q calm = λ is. cc
from_4 (Heard (Ua f) Answer) s q calm = λ is. cc
from_4 Release s q calm = λ is. cc
from_4 h s q calm = λ is. cc

from_5 : (h : Input) (s : StepState) → IsCalmStep s → After (awaiting_establishment h s)
unfolding each_action each_row
from_5 Establish s calm = λ is. discards s calm
from_5 Release s calm = λ is. discards s calm
from_5 (Give message) s calm = λ is. calm
from_5 (Heard (Sabme p) Command) s calm = λ is. calm_append _ _ calm (refl, tt)
from_5 (Heard (Disc p) Command) s calm = λ is. calm_append _ _ calm (refl, tt)
from_5 (Heard (Ua true) Answer) s calm =
    by_test After s.end.release_pending _ _ (λ _ is. cc) (λ _ is. cc)
from_5 (Heard (Ua false) Answer) s calm = λ is. calm_append _ _ calm (refl, tt)
from_5 (Heard (Dm true) Answer) s calm = λ is. cc
from_5 (Expiry T200) s calm =
    by_test After (nat_lt s.end.rc s.end.parameters.n200) _ _
    (λ _ is. calm_append _ _ (calm_append _ _ calm (refl, tt)) (refl, tt)) (λ _ is. cc)
from_5 h s calm = λ is. calm

never_from_6 : {A : Type 0} (h : Input) (s : StepState) → s.end.state ≡ AwaitingRelease
    → (awaiting_release h s).end.state ≡ AwaitingEstablishment → A
unfolding each_action each_row
never_from_6 (Heard (Sabme p) Command) s q is = cc
never_from_6 (Heard (Disc p) Command) s q is = cc
never_from_6 (Heard (Ua true) Answer) s q is = cc
never_from_6 (Heard (Dm true) Answer) s q is = cc
never_from_6 (Heard (Ua false) Answer) s q is = cc
never_from_6 {A = A} (Expiry T200) s q is =
    by_test (λ (t : StepState). t.end.state ≡ AwaitingEstablishment → A)
    (nat_lt s.end.rc s.end.parameters.n200) _ _ (λ _ is. cc) (λ _ is. cc) is
never_from_6 h s q is = cc

-- not received frames
abbrev is_frame : Input → Bool
is_frame (Heard control role) = true
is_frame (Faulty kind) = true
is_frame input = false

stays_open : (s : StepState) → is_7_or_8 s.end.state ≡ true → After s
stays_open s opened = λ is. let impossible : is_7_or_8 s.end.state ≡ false = ap is_7_or_8 is in cc

from_7_and_8 : (h : Input) (s : StepState) → is_frame h ≡ false → is_7_or_8 s.end.state ≡ true
    → IsCalmStep s → After (in_7_and_8 h s)
unfolding each_action each_row
from_7_and_8 (Heard control role) s none o calm = cc
from_7_and_8 (Faulty kind) s none o calm = cc
from_7_and_8 Establish s none o calm = asked s calm
from_7_and_8 Release s none o calm = λ is. cc
from_7_and_8 (Give message) s none o calm = stays_open (queue_up message s) o
from_7_and_8 BusyOn s none o calm =
    by_test After s.end.window.own_busy _ _ (λ _. stays_open s o)
    (λ _. stays_open (set_own_busy true s) o)
from_7_and_8 BusyOff s none o calm =
    by_test After s.end.window.own_busy _ _ (λ _. stays_open (set_own_busy false s) o)
    (λ _. stays_open s o)
from_7_and_8 h s none o calm = stays_open s o

from_7 : (h : Input) (s : StepState) → is_frame h ≡ false → is_7_or_8 s.end.state ≡ true
    → IsCalmStep s → After (multiple_frame_established Whole h s)
unfolding each_action each_row
from_7 (Heard control role) s none o calm = cc
from_7 (Faulty kind) s none o calm = cc
from_7 (Expiry T203) s none o calm = λ is. cc
from_7 (Expiry T200) s none o calm =
    by_test After (sends_last s.end.parameters.recovery s.end.window) _ _ (λ _ is. cc) (λ _ is. cc)
from_7 h s none o calm = from_7_and_8 h s none o calm

from_8 : (h : Input) (s : StepState) → is_frame h ≡ false → is_7_or_8 s.end.state ≡ true
    → IsCalmStep s → After (timer_recovery Whole h s)
unfolding each_action each_row
from_8 (Heard control role) s none o calm = cc
from_8 (Faulty kind) s none o calm = cc
from_8 (Expiry T200) s none o calm =
    by_test After (nat_lt s.end.rc s.end.parameters.n200) _ _
    (λ _. stays_open (transmit_enquiry (expired T200 (increment_rc s))) o)
    (λ _. begins (layer3_initiated_to false (put (Report letter.I) (expired T200 s)))
    (calm_append _ _ calm (refl, tt)))
from_8 h s none o calm = from_7_and_8 h s none o calm

-- closed, or no frame
abbrev IsNoFrameIfOpen : State → Input → Type 0
IsNoFrameIfOpen state h = (is_7_or_8 state ≡ true) → is_frame h ≡ false

from_state : (state : State) (h : Input) (s : StepState) → s.end.state ≡ state
    → IsNoFrameIfOpen state h → IsCalmStep s → After (by_state Whole state h s)
unfolding by_state
from_state TeiAssigned h s q good calm = from_4 h s q calm
from_state AwaitingEstablishment h s q good calm = from_5 h s calm
from_state AwaitingRelease h s q good calm = λ is. never_from_6 h s q is
from_state MultipleFrameEstablished h s q good calm = from_7 h s (good refl) (ap is_7_or_8 q) calm
from_state TimerRecovery h s q good calm = from_8 h s (good refl) (ap is_7_or_8 q) calm

from_fault : (state : State) (kind : FaultKind) (s : StepState) → is_7_or_8 state ≡ false
    → IsCalmStep s → After (report_fault state kind s)
unfolding report_fault put
from_fault TeiAssigned kind s closed calm = λ is. calm_append _ _ calm (refl, tt)
from_fault AwaitingEstablishment kind s closed calm = λ is. calm_append _ _ calm (refl, tt)
from_fault AwaitingRelease kind s closed calm = λ is. calm_append _ _ calm (refl, tt)
from_fault MultipleFrameEstablished kind s closed calm = cc
from_fault TimerRecovery kind s closed calm = cc

closed_if : (b : Bool) → (b ≡ true → true ≡ false) → b ≡ false
closed_if true impossible = impossible refl
closed_if false impossible = refl

from_row : (state : State) (h : Input) (s : StepState) → s.end.state ≡ state
    → IsNoFrameIfOpen state h → IsCalmStep s → After (row Whole state h s)
unfolding row put
from_row state (Heard control role) s q good calm =
    by_test After (is_unit_data control role) _ _ (λ _ is. calm_append _ _ calm (refl, tt))
    (λ _. from_state state (Heard control role) s q good calm)
from_row state (UnitData len) s q good calm = λ is. calm_append _ _ calm (refl, tt)
from_row state (Faulty kind) s q good calm =
    from_fault state kind s (closed_if (is_7_or_8 state) good) calm
from_row state (Expiry timer) s q good calm =
    by_test After (runs timer s.end) _ _ (λ _. from_state state (Expiry timer) s q good calm)
    (λ _ is. calm)
from_row state Establish s q good calm = from_state state Establish s q good calm
from_row state Release s q good calm = from_state state Release s q good calm
from_row state BusyOn s q good calm = from_state state BusyOn s q good calm
from_row state BusyOff s q good calm = from_state state BusyOff s q good calm
from_row state (Give message) s q good calm = from_state state (Give message) s q good calm

-- an end in state 6 does not enter state 5
leaves_6 : (h : Input) (s : StepState) → s.end.state ≡ AwaitingRelease
    → (row Whole AwaitingRelease h s).end.state ≡ AwaitingEstablishment → ⊥
unfolding each_row put
leaves_6 (Heard control role) s q is =
    by_test (λ (t : StepState). t.end.state ≡ AwaitingEstablishment → ⊥) (is_unit_data control role)
    _ _ (λ _ is. cc) (λ _ is. never_from_6 (Heard control role) s q is) is
leaves_6 (UnitData len) s q is = cc
leaves_6 (Faulty kind) s q is = cc
leaves_6 (Expiry timer) s q is =
    by_test (λ (t : StepState). t.end.state ≡ AwaitingEstablishment → ⊥) (runs timer s.end) _ _
    (λ _ is. never_from_6 (Expiry timer) s q is) (λ _ is. cc) is
leaves_6 Establish s q is = never_from_6 Establish s q is
leaves_6 Release s q is = never_from_6 Release s q is
leaves_6 BusyOn s q is = never_from_6 BusyOn s q is
leaves_6 BusyOff s q is = never_from_6 BusyOff s q is
leaves_6 (Give message) s q is = never_from_6 (Give message) s q is

-- ---- The step.

-- the view of a side: if it is in state 5, it has no DISC in transit
abbrev pub HasSentNoDisc : View → Type 0
HasSentNoDisc v = v.station.end.state ≡ AwaitingEstablishment → NoDisc v.outgoing

module _ (v : View) (octets : List ℕ) (place : ℕ) (h : Input)
    (good : IsNoFrameIfOpen v.station.end.state h)
    (before : (v.station.end.state ≡ AwaitingRelease → ⊥) → NoDisc v.outgoing) where
  abbrev e : End
  e = v.station.end

  abbrev last : StepState
  last = row Whole e.state h (begin e)

  same_state : (end_step Whole last).end.state ≡ last.end.state
  same_state =
      ap (λ (u : Unsending). u.state)
      (end_closes (context 0 octets place v v.incoming v.station 0) last).same

  none_yet : (begin e).outs ≡ []
  unfolding begin
  none_yet = refl

  in_state : (begin e).end.state ≡ e.state
  unfolding begin
  in_state = refl

  stepped_free : HasSentNoDisc (view_after octets place v (end_step Whole last))
  unfolding view_after story_after
  stepped_free is =
      let in_5 : last.end.state ≡ AwaitingEstablishment = sym same_state ∙ is in
      let done : end_step Whole last ≡ last = closes_nothing last (ap is_7_or_8 in_5) in
      let calm : AreCalm last.outs =
      from_row e.state h (begin e) in_state good (subst AreCalm (sym none_yet) tt) in_5 in
      let none : NoDisc v.outgoing =
      before (λ in_6. leaves_6 h (begin e) (in_state ∙ in_6)
      (subst (λ st. (row Whole st h (begin e)).end.state ≡ AwaitingEstablishment) in_6
      in_5)) in
      calm_line _ (end_step Whole last).outs _
      (subst (λ (s : StepState). AreCalm s.outs) (sym done) calm) none

  -- a request that is refused changes nothing
  by_result : (incoming : List Flight) (r : Result StepState LinkFault) → step Whole h e ≡ r
      → HasSentNoDisc (record v { incoming = incoming })
      → HasSentNoDisc (left_by (record v { incoming = incoming })
      (stepped octets place (record v { incoming = incoming }) r))
  unfolding step view_after story_after
  by_result incoming (Ok t) is was =
      subst (λ (s : StepState). HasSentNoDisc
      (view_after octets place (record v { incoming = incoming }) s))
      (taken (refused h e) _ t is).1 (λ in_5. stepped_free in_5)
  by_result incoming (Err fault) is was = was

  pub by_step : (incoming : List Flight) → HasSentNoDisc v
      → HasSentNoDisc (left_by (record v { incoming = incoming })
      (stepped octets place (record v { incoming = incoming }) (step Whole h e)))
  by_step incoming was = by_result incoming (step Whole h e) refl (λ in_5. was in_5)

-- ---- The moves of a side.

-- from the kinds of the frames
calm_kind : (role : Role) (control : Control) (info : List ℕ) (place : ℕ)
    → ask_of (kind_of role control info place) ≡ 0
    → foreign_of (kind_of role control info place) ≡ 0 → is_disc control ≡ false
calm_kind Command (Disc true) info place asks foreign = cc
calm_kind Command (Disc false) info place asks foreign = cc
calm_kind Answer (Disc p) info place asks foreign = cc
calm_kind role control info place asks foreign = refl

no_disc : (fs : List Flight) → tally ask_of (kinds fs) ≡ 0 → tally foreign_of (kinds fs) ≡ 0
    → NoDisc fs
no_disc [] asks foreign = tt
no_disc (f ∷ fs) asks foreign = (
  calm_kind f.role f.control f.info f.place (omega (arith, asks))
      (omega (arith, foreign)),
  no_disc fs (omega (arith, asks)) (omega (arith, foreign)),
)

none_lost : (at : ℕ) (line : List Flight) → NoDisc line → NoDisc (without_lost at line)
none_lost zero [] none = tt
none_lost (suc at) [] none = tt
none_lost zero (f ∷ fs) none = none.1
none_lost (suc at) (f ∷ fs) none = (none.0, none_lost at fs none.1)

module _ (x y : Station) (base its_base : ℕ) (incoming outgoing : List Flight)
    (settled : IsSettledEnd x.end)
    (both : Both (party base x) (party its_base y) (kinds outgoing) (kinds incoming)) where
  abbrev seen : View
  seen = seeing x incoming outgoing

  -- in states 4, 7 and 8 nothing is requested
  requests_none : most_asks x.end.state ≡ 0 → NoDisc outgoing
  requests_none none =
      let one = both.mine.exchange.one in
      no_disc outgoing (omega (arith, one, none)) both.mine.exchange.clean

  before_6 : HasSentNoDisc seen → (x.end.state ≡ AwaitingRelease → ⊥) → NoDisc outgoing
  before_6 was other = by_state x.end.state refl
    where
      by_state : (state : State) → x.end.state ≡ state → NoDisc outgoing
      by_state TeiAssigned is = requests_none (ap most_asks is)
      by_state AwaitingEstablishment is = was is
      by_state AwaitingRelease is = absurd (other is)
      by_state MultipleFrameEstablished is = requests_none (ap most_asks is)
      by_state TimerRecovery is = requests_none (ap most_asks is)

  requested : (h : Input) (octets : List ℕ) → is_frame h ≡ false → HasSentNoDisc seen
      → HasSentNoDisc (left_by seen (takes Whole h octets seen))
  unfolding takes
  requested h octets none was = by_step seen octets 0 h (λ _. none) (before_6 was) incoming was

  no_frame : (on : Bool) → is_frame (busy_input on) ≡ false
  no_frame true = refl
  no_frame false = refl

  admitted : (poll final : Option ℕ) (outcome : Result ViewStep Refusal) → HasSentNoDisc seen
      → HasSentNoDisc (left_by seen outcome)
      → HasSentNoDisc (left_by seen (unless_under_way side.User poll final outcome))
  admitted (Some at) final outcome was left = was
  admitted None (Some at) outcome was left = was
  admitted None None outcome was left = left

  event_free : (event : PairEvent) → (event ≡ Deliver → ⊥) → HasSentNoDisc seen
      → HasSentNoDisc (left_by seen (acts Whole side.User event seen))
  unfolding acts loses expires_200 expires_203 restarts
  event_free (give message) other was = requested (Give message) [] refl was
  event_free establish other was = requested Establish [] refl was
  event_free release other was = requested Release [] refl was
  event_free Deliver other was = absurd (other refl)
  event_free (Lose at) other was =
      by_test (λ (o : Result ViewStep Refusal). HasSentNoDisc (left_by seen o))
      (nat_lt at (length incoming)) _ _ (λ _ is. was is) (λ _ is. was is)
  event_free Expire200 other was =
      by_test (λ (o : Result ViewStep Refusal). HasSentNoDisc (left_by seen o)) x.end.t200 _ _
      (λ _. admitted (first_poll outgoing) (first_final incoming)
      (takes Whole (Expiry T200) [] seen) was (requested (Expiry T200) [] refl was))
      (λ _ is. was is)
  event_free Expire203 other was =
      by_test (λ (o : Result ViewStep Refusal). HasSentNoDisc (left_by seen o)) x.end.t203 _ _
      (λ _. requested (Expiry T203) [] refl was) (λ _ is. was is)
  event_free (Busy on) other was = requested (busy_input on) [] (no_frame on) was
  event_free (unit_data octets) other was = requested (UnitData (length octets)) octets refl was
  event_free Restart other was = λ is. cc

module _ (x y : Station) (base its_base : ℕ) (frame : Flight) (rest outgoing : List Flight)
    (settled : IsSettledEnd x.end)
    (both : Both (party base x) (party its_base y) (kinds outgoing) (kinds (frame ∷ rest))) where
  delivered_closed : is_7_or_8 x.end.state ≡ false
      → HasSentNoDisc (seeing x (frame ∷ rest) outgoing)
      → HasSentNoDisc (left_by (seeing x (frame ∷ rest) outgoing)
      (acts Whole side.User Deliver (seeing x (frame ∷ rest) outgoing)))
  unfolding acts delivers receives step
  delivered_closed closed was =
      by_step (seeing x rest outgoing) frame.info frame.place (Heard frame.control frame.role)
      (λ opened. absurd (let impossible = opened in not_both (is_7_or_8 x.end.state) closed opened))
      (before_6 x y base its_base (frame ∷ rest) outgoing settled both (λ is. was is)) rest
      (λ is. was is)

  delivered_open : is_7_or_8 x.end.state ≡ true
      → HasSentNoDisc (left_by (seeing x (frame ∷ rest) outgoing)
      (acts Whole side.User Deliver (seeing x (frame ∷ rest) outgoing)))
  unfolding acts delivers receives step view_after
  delivered_open opened is =
      absurd (never_5 x y frame rest outgoing base its_base settled opened both is)

  delivered_free : HasSentNoDisc (seeing x (frame ∷ rest) outgoing)
      → HasSentNoDisc (left_by (seeing x (frame ∷ rest) outgoing)
      (acts Whole side.User Deliver (seeing x (frame ∷ rest) outgoing)))
  delivered_free was = by_case (is_7_or_8 x.end.state) refl
    where
      by_case : (b : Bool) → is_7_or_8 x.end.state ≡ b
          → HasSentNoDisc (left_by (seeing x (frame ∷ rest) outgoing)
          (acts Whole side.User Deliver (seeing x (frame ∷ rest) outgoing)))
      by_case true opened = delivered_open opened
      by_case false closed = delivered_closed closed was

-- ---- The world.

record HaveSentNoDisc (w : World) : Type 0 where
  user : HasSentNoDisc (view_of side.User w)
  network : HasSentNoDisc (view_of side.Network w)

no_disc_swapped : (w : World) → HaveSentNoDisc w → HaveSentNoDisc (swapped w)
no_disc_swapped w f = record { user = λ is. f.network is; network = λ is. f.user is }

nothing_delivered : (x : Station) (outgoing : List Flight)
    → left_by (seeing x [] outgoing) (acts Whole side.User Deliver (seeing x [] outgoing))
    ≡ seeing x [] outgoing
unfolding acts delivers
nothing_delivered x outgoing = refl

-- ---- Frames in transit to a side that moves: none is added.

abbrev Arriving : View → Result ViewStep Refusal → Type 0
Arriving v r = NoDisc (left_by v r).incoming

by_outcome : (v u : View) (octets : List ℕ) (place : ℕ) (r : Result StepState LinkFault)
    → NoDisc v.incoming → NoDisc u.incoming → Arriving v (stepped octets place u r)
unfolding view_after
by_outcome v u octets place (Ok t) none less = less
by_outcome v u octets place (Err fault) none less = none

by_input : (h : Input) (octets : List ℕ) (v : View) → NoDisc v.incoming
    → Arriving v (takes Whole h octets v)
unfolding takes
by_input h octets v none = by_outcome v v octets 0 (step Whole h v.station.end) none none

by_delivery : (v : View) (frames : List Flight) → NoDisc frames → NoDisc v.incoming
    → Arriving v (delivers Whole frames v)
unfolding delivers receives
by_delivery v [] less none = none
by_delivery v (frame ∷ rest) less none =
    by_outcome v (record v { incoming = rest }) frame.info frame.place
    (step Whole (Heard frame.control frame.role) v.station.end) none less.1

under_way : (v : View) (poll final : Option ℕ) (outcome : Result ViewStep Refusal)
    → NoDisc v.incoming → Arriving v outcome
    → Arriving v (unless_under_way side.User poll final outcome)
under_way v (Some at) final outcome none left = none
under_way v None (Some at) outcome none left = none
under_way v None None outcome none left = left

none_added : (v : View) (event : PairEvent) → NoDisc v.incoming
    → Arriving v (acts Whole side.User event v)
unfolding acts loses expires_200 expires_203 restarts
none_added v (give message) none = by_input (Give message) [] v none
none_added v establish none = by_input Establish [] v none
none_added v release none = by_input Release [] v none
none_added v Deliver none = by_delivery v v.incoming none none
none_added v (Lose at) none =
    by_test (Arriving v) (nat_lt at (length v.incoming)) _ _ (λ _. none_lost at v.incoming none)
    (λ _. none)
none_added v Expire200 none =
    by_test (Arriving v) v.station.end.t200 _ _
    (λ _. under_way v (first_poll v.outgoing) (first_final v.incoming)
    (takes Whole (Expiry T200) [] v) none (by_input (Expiry T200) [] v none)) (λ _. none)
none_added v Expire203 none =
    by_test (Arriving v) v.station.end.t203 _ _ (λ _. by_input (Expiry T203) [] v none) (λ _. none)
none_added v (Busy on) none = by_input (busy_input on) [] v none
none_added v (unit_data octets) none = by_input (UnitData (length octets)) octets v none
none_added v Restart none = tt

-- ---- Moves and runs.

user_frees : (event : PairEvent) (x y : Station) (base its_base : ℕ)
    (incoming outgoing : List Flight) → IsSettledEnd x.end
    → Both (party base x) (party its_base y) (kinds outgoing) (kinds incoming)
    → HasSentNoDisc (seeing x incoming outgoing)
    → HasSentNoDisc (left_by (seeing x incoming outgoing)
    (acts Whole side.User event (seeing x incoming outgoing)))
user_frees Deliver x y base its_base [] outgoing settled both was = no_delivery_frees
  where
    no_delivery_frees : HasSentNoDisc
        (left_by (seeing x [] outgoing) (acts Whole side.User Deliver (seeing x [] outgoing)))
    no_delivery_frees = subst HasSentNoDisc (sym (nothing_delivered x outgoing)) (λ is. was is)
user_frees Deliver x y base its_base (frame ∷ rest) outgoing settled both was =
    delivered_free x y base its_base frame rest outgoing settled both was
user_frees event x y base its_base incoming outgoing settled both was =
    event_free x y base its_base incoming outgoing settled both event (λ is. cc) was

user_goes : (event : PairEvent) (w : World) → IsInvariant w → AreSettledEnds w → HaveSentNoDisc w
    → HaveSentNoDisc (world_after w (happens Whole (user_move event) w))
user_goes event w i settled f =
    let u = left_by (view_of side.User w) (acts Whole side.User event (view_of side.User w)) in
    let mine : HasSentNoDisc u =
    user_frees event w.user w.network i.user_base i.network_base w.to_user w.to_network
    settled.user i.both (λ is. f.user is) in
    subst HaveSentNoDisc (sym (moved_user event w))
    (record {
      user = λ is. mine is;
      network = λ is. none_added (view_of side.User w) event (f.network is);
    })

no_disc_after : (move : Move) (w : World) → IsInvariant w → AreSettledEnds w → HaveSentNoDisc w
    → HaveSentNoDisc (world_after w (happens Whole move w))
no_disc_after move w i settled f = by_side move.side move.event
  where
    by_side : (s : Side) (event : PairEvent)
        → HaveSentNoDisc (world_after w (happens Whole (record { side = s; event = event }) w))
    by_side side.User event = user_goes event w i settled f
    by_side side.Network event =
        subst HaveSentNoDisc (sym (network_alike Whole event w))
        (no_disc_swapped _ (user_goes event (swapped w) (exchanged w i)
        (record { user = settled.network; network = settled.user })
        (no_disc_swapped w f)))

no_disc_run : (moves : List Move) (w : World) → IsInvariant w → AreSettledEnds w → HaveSentNoDisc w
    → HaveSentNoDisc (run Whole moves w)
no_disc_run [] w i settled f = f
no_disc_run (move ∷ moves) w i settled f =
    no_disc_run moves (world_after w (happens Whole move w)) (each_move_preserves move w i)
    (move_settles move w settled) (no_disc_after move w i settled f)

-- no DISC is in transit if no end is in state 6
pub no_disc_after_run : (user network : Parameters) → user.k ≤ 127 → network.k ≤ 127 → 1 ≤ user.k
    → 1 ≤ network.k → (moves : List Move) → let w =
    run Whole moves (new_world user network) in
    (w.user.end.state ≡ AwaitingRelease → ⊥) → (w.network.end.state ≡ AwaitingRelease → ⊥)
    → NoDisc w.to_network × NoDisc w.to_user
no_disc_after_run user network u n us ns moves mine its =
    let start = new_world user network in
    let w = run Whole moves start in
    let i = each_run_preserves moves start (new_holds user network u n) in
    let settled = run_settles moves start (new_settles user network us ns) in
    let f =
    no_disc_run moves start (new_holds user network u n) (new_settles user network us ns)
    (record { user = λ is. cc; network = λ is. cc }) in (
      before_6 w.user w.network i.user_base i.network_base w.to_user w.to_network settled.user
          i.both (λ is. f.user is) mine,
      before_6 w.network w.user i.network_base i.user_base w.to_network w.to_user settled.network
          (record { mine = i.both.its; its = i.both.mine }) (λ is. f.network is) its,
    )
