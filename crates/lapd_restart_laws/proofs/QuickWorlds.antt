-- The worlds that runs with quick restarts lead to: moves do not leave them, nor does a restart that
-- leaves the frames in transit, if no exchange of the side is among them.
use Rattle.std.proofs.Common.{◌≡◌, ◌≤◌, ◌==◌, ℕ, nat_lt, if◌then◌else◌, Bool, true, List, [], ◌∷◌, ◌++◌, length, Option, Some, None, Result, Ok, Err, refl, sym, ap, subst, ◌∙◌, arith}
use Rattle.std.proofs.lemmas.Bool.Decides.{nat_tests}
use Rattle.lapd_timers.specs.declared.timer.Timer.TheVariants.{T200, T203}
use Rattle.lapd_frame.specs.declared.Side.{Side}
use Rattle.lapd_frame.specs.declared.Side.TheVariants as side
use Rattle.lapd_mod128.specs.Counting.{Reading, Whole, Tagged}
use Rattle.lapd_link_definition.specs.declared.event.LinkFault.{LinkFault}
use Rattle.lapd_link_definition.specs.End.{StepState}
use Rattle.lapd_link_definition.specs.Input as input
use Rattle.lapd_link_definition.specs.Input.{Input}
use Rattle.lapd_link_definition.specs.Parameters.{Parameters}
use Rattle.lapd_link_definition.specs.Reports.{AreExpected}
use Rattle.lapd_link_definition.specs.Table.{step}
use Rattle.lapd_link_definition.proofs.PreservedByStep.{step_preserves_parameters}
use Rattle.lapd_pair_laws.specs.Consistent.{IsConsistentWorld}
use Rattle.lapd_pair_laws.specs.Eager.{happens_eagerly}
use Rattle.lapd_pair_laws.specs.Line.{Flight, first_poll, first_final}
use Rattle.lapd_pair_laws.specs.Move.{PairEvent, Give, Establish, Release, Deliver, Lose, Expire200, Expire203, Busy, UnitData, Restart, Move, View, ViewStep, Refusal, stepped, view_after, receives, takes, quietly, delivers, loses, unless_under_way, expires_200, expires_203, restarts, busy_input, acts}
use Rattle.lapd_pair_laws.specs.Reports.{ReportsExpected, AllReportsExpected}
use Rattle.lapd_pair_laws.specs.World.{World, Happened, new_world, view_of, with_view, in_world, world_after, happens}
use Rattle.lapd_pair_laws.proofs.Consistency.{move_consistent, new_world_consistent}
use Rattle.lapd_pair_laws.proofs.Eager.{same_eagerly}
use Rattle.lapd_pair_laws.proofs.Lists.{by_test}
use Rattle.lapd_pair_laws.proofs.Worlds.{left_by}
use Rattle.lapd_recovery_laws.specs.QuickRestart.{exchange_in, restarts_quickly, happens_quickly, run_quickly, outcomes_quickly, run_keeping, restart_and_losses}
use Rattle.lapd_recovery_laws.proofs.KeptOnTags.{reached, world_on_tags}
use Rattle.lapd_recovery_laws.proofs.LostAtRestart.{restart_may_drop}
use Rattle.lapd_recovery_laws.proofs.QuickRuns.{every_quick_run_reports, quick_user_so, quick_network_so}
use Rattle.lapd_two_side_laws.proofs.OneMove.{AreClosed}
use Rattle.lapd_two_side_laws.proofs.Sendings.{AreSentNow, user_by_invariant, network_by_invariant}

-- ---- Moves leave the parameters unchanged.

module _ (r : Reading) (s : Side) (v : View) where
  abbrev SameParameters : Result ViewStep Refusal → Type 0
  SameParameters outcome = (left_by v outcome).station.end.parameters ≡ v.station.end.parameters

  by_outcome : (what : Input) (octets : List ℕ) (place : ℕ) (incoming : List Flight)
      (outcome : Result StepState LinkFault) → step r what v.station.end ≡ outcome
      → SameParameters (stepped octets place (record v { incoming = incoming }) outcome)
  unfolding view_after
  by_outcome what octets place incoming (Ok t) is =
      step_preserves_parameters r what v.station.end t is
  by_outcome what octets place incoming (Err fault) is = refl

  by_input : (what : Input) (octets : List ℕ) → SameParameters (takes r what octets v)
  unfolding takes
  by_input what octets = by_outcome what octets 0 v.incoming (step r what v.station.end) refl

  by_frames : (frames : List Flight) → SameParameters (delivers r frames v)
  unfolding delivers receives
  by_frames [] = refl
  by_frames (frame ∷ rest) =
      let heard = input.Heard frame.control frame.role in
      by_outcome heard frame.info frame.place rest (step r heard v.station.end) refl

  by_premise : (poll final : Option ℕ) (outcome : Result ViewStep Refusal) → SameParameters outcome
      → SameParameters (unless_under_way s poll final outcome)
  by_premise (Some at) final outcome same = refl
  by_premise None (Some at) outcome same = refl
  by_premise None None outcome same = same

  by_event : (event : PairEvent) → SameParameters (acts r s event v)
  unfolding acts loses expires_200 expires_203 restarts
  by_event (Give message) = by_input (input.Give message) []
  by_event Establish = by_input input.Establish []
  by_event Release = by_input input.Release []
  by_event Deliver = by_frames v.incoming
  by_event (Lose at) =
      by_test SameParameters (nat_lt at (length v.incoming)) _ _ (λ _. refl) (λ _. refl)
  by_event Expire200 = by_test SameParameters v.station.end.t200 _ _
      (λ _. by_premise (first_poll v.outgoing) (first_final v.incoming)
      (takes r (input.Expiry T200) [] v) (by_input (input.Expiry T200) []))
      (λ _. refl)
  by_event Expire203 =
      by_test SameParameters v.station.end.t203 _ _ (λ _. by_input (input.Expiry T203) [])
      (λ _. refl)
  by_event (Busy on) = by_input (busy_input on) []
  by_event (UnitData octets) = by_input (input.UnitData (length octets)) octets
  by_event Restart = refl

  same_parameters : (event : PairEvent) (side_step : ViewStep) → acts r s event v ≡ Ok side_step
      → side_step.view.station.end.parameters ≡ v.station.end.parameters
  same_parameters event side_step is = subst SameParameters is (by_event event)

-- ---- One more move.

quick_run_both : (r : Reading) (first second : List Move) (w : World)
    → run_quickly r (first ++ second) w ≡ run_quickly r second (run_quickly r first w)
quick_run_both r [] second w = refl
quick_run_both r (move ∷ first) second w =
    quick_run_both r first second (world_after w (happens_quickly r move w))

last_is_expected : (r : Reading) (moves : List Move) (m : Move) (w : World)
    → AllReportsExpected (outcomes_quickly r (moves ++ m ∷ []) w)
    → ReportsExpected (happens_quickly r m (run_quickly r moves w))
last_is_expected r [] m w h = h.0
last_is_expected r (move ∷ moves) m w h =
    last_is_expected r moves m (world_after w (happens_quickly r move w)) h.1

-- a move that is no restart is an eager one
data IsNoRestart (event : PairEvent) : Type 0 where
  other : ((r : Reading) (s : Side) (w : World)
      → happens_quickly r (record { side = s; event = event }) w
      ≡ happens_eagerly r (record { side = s; event = event }) w) → IsNoRestart event
  restart : event ≡ Restart → IsNoRestart event

of_event : (event : PairEvent) → IsNoRestart event
unfolding happens_quickly happens_eagerly
of_event Restart = restart refl
of_event event = other (λ r s w. refl)

module _ (who : Side) (event : PairEvent) (w : World) (side_step : ViewStep)
    (is : acts Tagged who event (view_of who w) ≡ Ok side_step) where
  abbrev TheMove : Move
  TheMove = record { side = who; event = event }

  abbrev After : Happened
  After = record { world = with_view who side_step.view w; outs = side_step.outs }

  happened : happens Tagged TheMove w ≡ Ok After
  unfolding happens
  happened = ap (λ o. in_world who w o) is

  happened_quickly : ((r : Reading) (s : Side) (x : World)
      → happens_quickly r (record { side = s; event = event }) x
      ≡ happens_eagerly r (record { side = s; event = event }) x)
      → happens_quickly Tagged TheMove w ≡ Ok After
  happened_quickly same = same Tagged who w ∙ same_eagerly Tagged TheMove w After happened

  restart_outs : event ≡ Restart → side_step.outs ≡ []
  unfolding acts
  restart_outs same =
      outs_of (restarts (view_of who w))
      (sym (ap (λ e. acts Tagged who e (view_of who w)) same) ∙ is)
    where
      outs_of : (v : View) → quietly v ≡ Ok side_step → side_step.outs ≡ []
      outs_of v done = cc

-- ---- The worlds.

pub record IsOfQuickRun (p q : Parameters) (w : World) : Type 0 where
  pub moves : List Move
  pub is : w ≡ run_quickly Tagged moves (new_world p q)
  pub consistent : IsConsistentWorld Tagged w
  pub user_parameters : w.user.end.parameters ≡ p
  pub network_parameters : w.network.end.parameters ≡ q

module _ (p q : Parameters) (small_p : p.k ≤ 127) (small_q : q.k ≤ 127) where
  pub quick_begins : IsOfQuickRun p q (new_world p q)
  quick_begins = record {
    moves = [];
    is = refl;
    consistent = new_world_consistent Tagged p q small_p small_q;
    user_parameters = refl;
    network_parameters = refl;
  }

  -- the moves that lead on from a world of the kind
  record LeadsTo (w u : World) : Type 0 where
    by : List Move
    is : run_quickly Tagged by w ≡ u

  leads_on : (w u : World) → IsOfQuickRun p q w → LeadsTo w u → IsConsistentWorld Tagged u
      → u.user.end.parameters ≡ p → u.network.end.parameters ≡ q → IsOfQuickRun p q u
  leads_on w u r leads consistent of_user of_network = record {
    moves = r.moves ++ leads.by;
    is =
        sym leads.is ∙ ap (λ x. run_quickly Tagged leads.by x) r.is
        ∙ sym (quick_run_both Tagged r.moves leads.by (new_world p q));
    consistent = consistent;
    user_parameters = of_user;
    network_parameters = of_network;
  }

  leads_by : (who : Side) (event : PairEvent) (w : World) (side_step : ViewStep)
      → acts Tagged who event (view_of who w) ≡ Ok side_step → IsNoRestart event
      → LeadsTo w (with_view who side_step.view w)
  leads_by who event w side_step is (other same) = record {
    by = record { side = who; event = event } ∷ [];
    is = ap (world_after w) (happened_quickly who event w side_step is same);
  }
  leads_by who event w side_step is (restart same) = record {
    by = restart_and_losses who (view_of who w);
    is =
        restart_may_drop Tagged who w
        ∙ ap (λ e. world_after w (happens Tagged (record { side = who; event = e }) w)) (sym same)
        ∙ ap (world_after w) (happened who event w side_step is);
  }

  parameters_after : (who : Side) (w : World) (view : View) → IsOfQuickRun p q w
      → view.station.end.parameters ≡ (view_of who w).station.end.parameters
      → ((with_view who view w).user.end.parameters ≡ p)
      × ((with_view who view w).network.end.parameters ≡ q)
  parameters_after side.User w view r same = (same ∙ r.user_parameters, r.network_parameters)
  parameters_after side.Network w view r same = (r.user_parameters, same ∙ r.network_parameters)

  moves_lead : (w : World) (who : Side) (event : PairEvent) (side_step : ViewStep)
      → IsOfQuickRun p q w → acts Tagged who event (view_of who w) ≡ Ok side_step
      → IsOfQuickRun p q (with_view who side_step.view w)
  moves_lead w who event side_step r is =
      let same =
      parameters_after who w side_step.view r
      (same_parameters Tagged who (view_of who w) event side_step is) in
      leads_on w (with_view who side_step.view w) r
      (leads_by who event w side_step is (of_event event))
      (move_consistent Tagged (record { side = who; event = event }) w
      (record { world = with_view who side_step.view w; outs = side_step.outs })
      r.consistent (happened who event w side_step is)) same.0 same.1

  expected_by : (w : World) (who : Side) (event : PairEvent) (side_step : ViewStep)
      → IsOfQuickRun p q w → acts Tagged who event (view_of who w) ≡ Ok side_step
      → IsNoRestart event → AreExpected side_step.outs
  expected_by w who event side_step r is (other same) =
      let m : Move = record { side = who; event = event } in
      let last =
      last_is_expected Tagged r.moves m (new_world p q)
      (every_quick_run_reports Tagged p q small_p small_q (r.moves ++ m ∷ [])) in
      subst ReportsExpected (ap (happens_quickly Tagged m) (sym r.is)
      ∙ happened_quickly who event w side_step is same) last
  expected_by w who event side_step r is (restart same) =
      subst AreExpected (sym (restart_outs who event w side_step is same)) tt

  quick_user_sends : (moves : List Move)
      → AreSentNow (run_quickly Tagged moves (new_world p q)).user
  quick_user_sends moves = quick_user_so AreSentNow (λ vs va vr s h. h) Tagged p q moves
      (subst (λ (w : World). AreSentNow w.user) (sym (world_on_tags p q small_p small_q moves))
      (user_by_invariant (run_keeping Whole moves (new_world p q))
      (reached p q small_p small_q moves)))

  quick_network_sends : (moves : List Move)
      → AreSentNow (run_quickly Tagged moves (new_world p q)).network
  quick_network_sends moves = quick_network_so AreSentNow (λ vs va vr s h. h) Tagged p q moves
      (subst (λ (w : World). AreSentNow w.network) (sym (world_on_tags p q small_p small_q moves))
      (network_by_invariant (run_keeping Whole moves (new_world p q))
      (reached p q small_p small_q moves)))

  pub quick_runs_are_closed : AreClosed (IsOfQuickRun p q)
  quick_runs_are_closed = record {
    consistent = λ w r. r.consistent;
    user_sends =
        λ w r. subst (λ (x : World). AreSentNow x.user) (sym r.is) (quick_user_sends r.moves);
    network_sends =
        λ w r. subst (λ (x : World). AreSentNow x.network) (sym r.is) (quick_network_sends r.moves);
    moves = λ w who event side_step r is. moves_lead w who event side_step r is;
    reports = λ w who event side_step r is. expected_by w who event side_step r is (of_event event);
  }

  -- ---- A quick restart.

  restart_happens : (w : World) (who : Side) → exchange_in (view_of who w) ≡ 0
      → happens_quickly Tagged (record { side = who; event = Restart }) w
      ≡ Ok (record { world = with_view who (restarts_quickly (view_of who w)) w; outs = [] })
  unfolding happens_quickly
  restart_happens w who none =
      let is : (exchange_in (view_of who w) == 0) ≡ true = grind (arith, nat_tests, none) in
      ap (λ (b : Bool). in_world who w
      (quietly (if b then restarts_quickly (view_of who w) else restarts (view_of who w))))
      is

  -- the same frames, and ends of which the one that restarted is consistent too
  restarted_consistent : (w : World) (who : Side) → IsConsistentWorld Tagged w
      → IsConsistentWorld Tagged (with_view who (restarts (view_of who w)) w)
      → IsConsistentWorld Tagged (with_view who (restarts_quickly (view_of who w)) w)
  unfolding restarts_quickly restarts
  restarted_consistent w side.User before empty = record {
    user = empty.user;
    network = before.network;
    to_user = before.to_user;
    to_network = before.to_network;
    numbers_to_user = before.numbers_to_user;
    numbers_to_network = before.numbers_to_network;
  }
  restarted_consistent w side.Network before empty = record {
    user = before.user;
    network = empty.network;
    to_user = before.to_user;
    to_network = before.to_network;
    numbers_to_user = before.numbers_to_user;
    numbers_to_network = before.numbers_to_network;
  }

  empties_consistently : (w : World) (who : Side) → IsConsistentWorld Tagged w
      → IsConsistentWorld Tagged (with_view who (restarts (view_of who w)) w)
  unfolding happens acts
  empties_consistently w who before =
      move_consistent Tagged (record { side = who; event = Restart }) w
      (record { world = with_view who (restarts (view_of who w)) w; outs = [] }) before refl

  same_after : (v : View) → (restarts_quickly v).station.end.parameters ≡ v.station.end.parameters
  unfolding restarts_quickly restarts
  same_after v = refl

  pub restart_leads : (w : World) (who : Side) → IsOfQuickRun p q w
      → exchange_in (view_of who w) ≡ 0
      → IsOfQuickRun p q (with_view who (restarts_quickly (view_of who w)) w)
  restart_leads w who r none =
      let same =
      parameters_after who w (restarts_quickly (view_of who w)) r
      (same_after (view_of who w)) in
      leads_on w (with_view who (restarts_quickly (view_of who w)) w) r
      (record {
        by = record { side = who; event = Restart } ∷ [];
        is = ap (world_after w) (restart_happens w who none);
      })
      (restarted_consistent w who r.consistent (empties_consistently w who r.consistent)) same.0
      same.1
