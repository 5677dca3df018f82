-- Moves that leave a link alone are moves of the line between its two ends, and each follows the
-- one before in time.
use Rattle.std.proofs.Common.{◌≡◌, ◌⊎◌, inl, inr, ℕ, ◌+◌, ◌≤◌, ◌<◌, List, [], ◌∷◌, ◌++◌, Option, true, false, Ok, refl, sym, ap, subst, ◌∙◌, arith}
use Rattle.std.specs.Prelude.{is_ok}
use Rattle.std.proofs.lemmas.List.Elements.{All-append}
use Rattle.rand_pcg.specs.Lcg.{Lcg}
use Rattle.lapd_frame.specs.declared.Side.{Side}
use Rattle.lapd_frame.specs.declared.Side.TheVariants as side
use Rattle.lapd_mod128.specs.Counting.{Tagged}
use Rattle.lapd_link_definition.specs.Parameters.{Parameters}
use Rattle.lapd_pair_laws.specs.Consistent.{IsConsistentWorld}
use Rattle.lapd_pair_laws.specs.Move as world
use Rattle.lapd_pair_laws.specs.World as world_of
use Rattle.lapd_pair_laws.specs.World.{World, in_world, view_of, with_view, world_after}
use Rattle.lapd_pair_laws.proofs.Consistency.{view_of_consistent}
use Rattle.lapd_recovery_laws.specs.EarlyTimers.{AreLineMoves, is_early, is_of_line}
use Rattle.lapd_recovery_laws.specs.FewLosses.{is_t203}
use Rattle.lapd_recovery_laws.specs.FreeTimers as pair
use Rattle.lapd_recovery_laws.specs.InTime.{ArePunctual as are_punctual, TimedMove, moves_of}
use Rattle.lapd_recovery_laws.specs.KeptAgreement as kept
use Rattle.lapd_recovery_laws.specs.Losses.{is_loss, losses, one_if}
use Rattle.lapd_table.specs.declared.link_id.LinkId.{LinkId}
use Rattle.lapd_sides.specs.Network.{Network}
use Rattle.lapd_sides.specs.User.{User}
use Rattle.lapd_side_events.specs.Interface.{Configs, Interface, Move, by_network, by_user, happens, network_behaviour, run, side_does, user_behaviour}
use Rattle.lapd_side_events.specs.SideView.{SideEvent, does, reaction}
use Rattle.lapd_two_side_laws.specs.Addressed.{is_for, those_for}
use Rattle.lapd_two_side_laws.specs.ExactTimers.{BothHaveExactTimers, OverhearOctets, OverhearsOctets}
use Rattle.lapd_two_side_laws.specs.Premises.{IsMoveLeavingTeiTaken}
use Rattle.lapd_two_side_laws.specs.Projects.{ProjectsTo}
use Rattle.lapd_two_side_laws.proofs.AsMade.{preserves_held, preserves_own}
use Rattle.lapd_two_side_laws.proofs.ExactSides.{run_is_exact}
use Rattle.lapd_two_side_laws.proofs.Networks.{of_network}
use Rattle.lapd_two_side_laws.proofs.OneMove.{by_network_after, by_user_after}
use Rattle.lapd_two_side_laws.proofs.OwnSides.{AreHeld, AreOwn}
use Rattle.lapd_two_side_laws.proofs.Users.{of_user}
use Rattle.lapd_two_side_laws.proofs.Whole.{IsOfRun, runs_are_closed}
use Rattle.lapd_clock_laws.specs.Clock.{Clock, Sent, clock_after, moment_of, sent_at, still_in_transit}
use Rattle.lapd_clock_laws.specs.InTime.{AreSent, IsInTime, IsLongEnough, OfMove, OverhearsOthers}
use Rattle.lapd_clock_laws.proofs.EveryRun.{move_keeps, move_timely, sent_by_then, sent_just_now}
use Rattle.lapd_clock_laws.proofs.SideClocks.{all_still, any_moment, none_of_link, sent_are}
use Rattle.lapd_side_recovery_laws.specs.Counts.{are_in_step, is_t203_of, t203s_out_of_step}
use Rattle.lapd_side_recovery_laws.specs.Quiet.{AreQuiet, HaveLink, IsQuiet, IsServed}
use Rattle.lapd_side_recovery_laws.specs.Reached.{MeetPremises, RunAtMost, clock_of, created}
use Rattle.lapd_side_recovery_laws.proofs.Arrives.{Clocked, move_once, network_after, user_after}
use Rattle.lapd_side_recovery_laws.proofs.Counting.{network_shown, one_few, same_step, user_shown}
use Rattle.lapd_side_recovery_laws.proofs.Deadlines.{IsSet, link_later, link_stays}
use Rattle.lapd_side_recovery_laws.proofs.FatesOfEvents.{fate_of, left_alone}
use Rattle.lapd_side_recovery_laws.proofs.Proceeding.{proceeds}
use Rattle.lapd_side_recovery_laws.proofs.Waiting.{Stands, next_in_time, waits}

-- ---- Octets in transit, and when they were sent.

-- frames of other links
others_sent : (from : Side) (id : LinkId) (latest now : ℕ) (frames : List (List ℕ))
    → those_for from id frames ≡ [] → AreSent from id (λ at. at ≤ latest) (sent_at now frames)
others_sent from id latest now frames none = any_moment from id (λ at. at ≤ latest)
    (sent_at now frames) (none_of_link from id (sent_at now frames)
    (ap (those_for from id) (sent_are now frames) ∙ none))

both_sent : (from : Side) (id : LinkId) (latest : ℕ) (line more : List Sent)
    → AreSent from id (λ at. at ≤ latest) line → AreSent from id (λ at. at ≤ latest) more
    → AreSent from id (λ at. at ≤ latest) (line ++ more)
both_sent from id latest line more = All-append
    (λ (sent : Sent). is_for from id sent.octets ≡ true → sent.at ≤ latest) line more

still_sent : (from : Side) (id : LinkId) (latest : ℕ) (event : SideEvent) (line : List Sent)
    → AreSent from id (λ at. at ≤ latest) line
    → AreSent from id (λ at. at ≤ latest) (still_in_transit event line)
still_sent from id latest event line = all_still
    (λ (sent : Sent). is_for from id sent.octets ≡ true → sent.at ≤ latest) event line

-- ---- Runs.

run_more : (c : Configs) (moves : List Move) (move : Move) (i : Interface)
    → run c (moves ++ move ∷ []) i ≡ happens c move (run c moves i)
run_more c [] move i = refl
run_more c (first ∷ moves) move i = run_more c moves move (happens c first i)

octets_more : (moves : List Move) (move : Move) → OverhearOctets moves
    → OverhearsOctets move.event → OverhearOctets (moves ++ move ∷ [])
octets_more [] move all one = (one, tt)
octets_more (first ∷ moves) move all one = (all.0, octets_more moves move all.1 one)

-- ---- One move of the line.

module _ (who : Side) (event : world.PairEvent) (w : World) (side_step : world.ViewStep)
    (is : world.acts Tagged who event (view_of who w) ≡ Ok side_step) where
  after_move : world_after w (world_of.happens Tagged (record { side = who; event = event }) w)
      ≡ with_view who side_step.view w
  unfolding world_of.happens
  after_move = ap (λ o. world_after w (in_world who w o)) is

  admitted : is_ok (world_of.happens Tagged (record { side = who; event = event }) w) ≡ true
  unfolding world_of.happens
  admitted = ap (λ o. is_ok (in_world who w o)) is

module _ (c : Configs) (id : LinkId) (low : id.tei < 127) (longest : ℕ) (positive : 0 < longest)
    (user_long : IsLongEnough longest c.user.durations)
    (network_long : IsLongEnough longest c.network.durations) (late t200 t203 : ℕ)
    (user_most : RunAtMost t200 t203 c.user.durations)
    (network_most : RunAtMost t200 t203 c.network.durations) (p q : Parameters)
    (small_p : p.k ≤ 127) (small_q : q.k ≤ 127) (fixed : Option ℕ) (known : List ℕ)
    (random : Lcg) where
  -- Between two moves. The link's latest move was at the moment `latest`.
  pub record Holding (latest : ℕ) (i : Interface) (k : Clock) (w : World) : Type 0 where
    pub reached : IsOfRun p q w
    pub shows : ProjectsTo c id i w
    pub here : HaveLink id i
    pub clocks : Clocked c id low longest positive user_long network_long t200 t203 user_most
        network_most p q small_p small_q i k
    pub sent_to_user : AreSent side.Network id (λ at. at ≤ latest) k.to_user
    pub sent_to_network : AreSent side.User id (λ at. at ≤ latest) k.to_network
    pub user_set : IsSet t200 t203 latest (i.user.served.links id)
    pub network_set : IsSet t200 t203 latest (i.network.served.links id)
    pub own : AreOwn i.user
    pub held : AreHeld i.network
    pub in_order : latest ≤ k.now
    pub prefix : List Move
    pub is : i ≡ run c prefix (created c fixed known random)
    pub octets : OverhearOctets prefix

  consistent : (latest : ℕ) (i : Interface) (k : Clock) (w : World) → Holding latest i k w
      → IsConsistentWorld Tagged w
  consistent latest i k w h = (runs_are_closed p q small_p small_q).consistent w h.reached

  stands : (latest : ℕ) (i : Interface) (k : Clock) (w : World) → Holding latest i k w
      → Stands c id t200 t203 latest i k w
  stands latest i k w h = record {
    shows = h.shows;
    here = h.here;
    to_user = h.clocks.lines.incoming;
    to_network = h.clocks.lines.outgoing;
    sent_to_user = h.sent_to_user;
    sent_to_network = h.sent_to_network;
    user_set = h.user_set;
    network_set = h.network_set;
    exact = subst BothHaveExactTimers (sym h.is)
        (run_is_exact c fixed random known h.prefix h.octets);
  }

  -- the premises on one move
  record Premises (who : Side) (event : SideEvent) (i : Interface) (k : Clock) : Type 0 where
    pub others : OverhearsOthers id who event
    pub octets : OverhearsOctets event
    pub in_time : OfMove (IsInTime longest id) who event i k
    pub taken : IsMoveLeavingTeiTaken c id who event i
    pub quiet : IsQuiet late c id who event i k

  -- what changed by an event
  record Changed (who : Side) (event : SideEvent) (i : Interface) (k : Clock) (latest : ℕ)
      (w : World) : Type 0 where
    pub reached : IsOfRun p q w
    pub shows : ProjectsTo c id (side_does c who event i) w
    pub sent_to_user : AreSent side.Network id (λ at. at ≤ latest)
        (clock_after c who event i k).to_user
    pub sent_to_network : AreSent side.User id (λ at. at ≤ latest)
        (clock_after c who event i k).to_network
    pub user_set : IsSet t200 t203 latest ((side_does c who event i).user.served.links id)
    pub network_set : IsSet t200 t203 latest ((side_does c who event i).network.served.links id)
    pub in_order : latest ≤ (clock_after c who event i k).now

  goes_on : (who : Side) (event : SideEvent) (i : Interface) (k : Clock) (before latest : ℕ)
      (old w : World) → Premises who event i k → Holding before i k old
      → Changed who event i k latest w
      → Holding latest (side_does c who event i) (clock_after c who event i k) w
  goes_on who event i k before latest old w premises h changed = record {
    reached = changed.reached;
    shows = changed.shows;
    here = premises.quiet.stays;
    clocks = move_keeps c id low longest positive user_long network_long who event i k
        premises.others premises.in_time h.clocks;
    sent_to_user = changed.sent_to_user;
    sent_to_network = changed.sent_to_network;
    user_set = changed.user_set;
    network_set = changed.network_set;
    own = preserves_own c id who event i h.own;
    held = preserves_held c id who event i h.held;
    in_order = changed.in_order;
    prefix = h.prefix ++ record { side = who; event = event } ∷ [];
    is = ap (side_does c who event) h.is
        ∙ sym (run_more c h.prefix (record { side = who; event = event })
        (created c fixed known random));
    octets = octets_more h.prefix (record { side = who; event = event }) h.octets
        premises.octets;
  }

  -- ---- One event: no move of the link, or one.

  record IsMoved (who : Side) (event : SideEvent) (i : Interface) (k : Clock) (w : World) :
      Type 0 where
    pub move : world.PairEvent
    pub of_line : is_of_line move ≡ true
    pub no_loss : is_loss move ≡ false
    pub counts : is_t203 move ≡ true → is_t203_of id event ≡ true
    pub admitted : is_ok (world_of.happens Tagged (record { side = who; event = move }) w) ≡ true
    pub holds : Holding (moment_of event k.now) (side_does c who event i)
        (clock_after c who event i k)
        (world_after w (world_of.happens Tagged (record { side = who; event = move }) w))

  abbrev Outcome : Side → SideEvent → Interface → Clock → ℕ → World → Type 0
  Outcome who event i k latest w =
      Holding latest (side_does c who event i) (clock_after c who event i k) w
      ⊎ IsMoved who event i k w

  of_run : (who : Side) (event : world.PairEvent) (w : World) (side_step : world.ViewStep)
      → IsOfRun p q w → world.acts Tagged who event (view_of who w) ≡ Ok side_step
      → IsOfRun p q (with_view who side_step.view w)
  of_run who event w side_step r is =
      (runs_are_closed p q small_p small_q).moves w who event side_step r is

  -- ---- An event of the user.

  user_outcome : (event : SideEvent) (i : Interface) (k : Clock) (latest : ℕ) (w : World)
      → Premises side.User event i k → Holding latest i k w
      → Outcome side.User event i k latest w
  unfolding does
  user_outcome event i k latest w premises h =
      let b = user_behaviour c.user in
      let now = moment_of event k.now in
      let in_order = premises.in_time.in_order in
      let timely = move_timely c id low longest positive user_long network_long side.User event i k
      premises.others premises.in_time h.clocks in
      let once = move_once c id low longest positive user_long network_long t200 t203 user_most
      network_most p q small_p small_q side.User event i h.own h.held premises.taken in
      let preserved = view_of_consistent Tagged side.User w (consistent latest i k w h) in
      let fate = fate_of User b side.User id (of_user c.user id low) event (by_user i)
      (view_of side.User w) k.now timely once h.shows.user preserved in
      let a = reaction b event (by_user i) in
      let before = h.in_order in
      let still = still_sent side.Network id latest event k.to_user h.sent_to_user in
      elim (proceeds User b side.User id (by_user i) (view_of side.User w) now
      (is_t203_of id event) _ a _ _ h.shows.user preserved (user_shown c id i w h.shows h.here)
      fate (left_alone User b side.User id (of_user c.user id low) event (by_user i)
      premises.quiet.leaves) premises.quiet.stays.user) [
        | inl pass ↦ inl (goes_on side.User event i k latest latest w w premises h (record {
          reached = h.reached;
          shows = by_user_after c id (does b event (by_user i)) i (view_of side.User w) w
              pass.shows h.shows.network;
          sent_to_user = still;
          sent_to_network = both_sent side.User id latest k.to_network
              (sent_at now a.effects.frames) h.sent_to_network
              (others_sent side.User id latest now a.effects.frames pass.frames);
          user_set = link_stays t200 t203 latest (i.user.served.links id)
              (a.after.served.links id) pass.link h.user_set;
          network_set = h.network_set;
          in_order = omega (arith, before, in_order);
        }))
        | inr move ↦ inr (record {
          move = move.event;
          of_line = move.of_line;
          no_loss = move.no_loss;
          counts = move.counts;
          admitted = admitted side.User move.event w move.side_step move.is;
          holds = subst (λ (x : World). Holding now (side_does c side.User event i)
              (clock_after c side.User event i k) x)
              (sym (after_move side.User move.event w move.side_step move.is))
              (goes_on side.User event i k latest now w (with_view side.User move.side_step.view w)
              premises h (record {
                reached = of_run side.User move.event w move.side_step h.reached move.is;
                shows = by_user_after c id (does b event (by_user i)) i move.side_step.view w
                    move.shows h.shows.network;
                sent_to_user = sent_by_then side.Network id latest now
                    (still_in_transit event k.to_user) (omega (arith, before, in_order)) still;
                sent_to_network = both_sent side.User id now k.to_network
                    (sent_at now a.effects.frames)
                    (sent_by_then side.User id latest now k.to_network
                    (omega (arith, before, in_order)) h.sent_to_network)
                    (sent_just_now side.User id now a.effects.frames);
                user_set = user_after c id low longest positive user_long network_long t200 t203
                    user_most network_most p q small_p small_q event i k w fate in_order
                    (link_later t200 t203 latest k.now (i.user.served.links id) before
                    h.user_set);
                network_set = link_later t200 t203 latest now (i.network.served.links id)
                    (omega (arith, before, in_order)) h.network_set;
                in_order = omega arith;
              }));
        })
      ]

  -- ---- An event of the network.

  network_outcome : (event : SideEvent) (i : Interface) (k : Clock) (latest : ℕ) (w : World)
      → Premises side.Network event i k → Holding latest i k w
      → Outcome side.Network event i k latest w
  unfolding does
  network_outcome event i k latest w premises h =
      let b = network_behaviour c.network in
      let now = moment_of event k.now in
      let in_order = premises.in_time.in_order in
      let timely = move_timely c id low longest positive user_long network_long side.Network event
      i k premises.others premises.in_time h.clocks in
      let once = move_once c id low longest positive user_long network_long t200 t203 user_most
      network_most p q small_p small_q side.Network event i h.own h.held premises.taken in
      let preserved = view_of_consistent Tagged side.Network w (consistent latest i k w h) in
      let fate = fate_of Network b side.Network id (of_network c.network id low) event
      (by_network i) (view_of side.Network w) k.now timely once h.shows.network preserved in
      let a = reaction b event (by_network i) in
      let before = h.in_order in
      let still = still_sent side.User id latest event k.to_network h.sent_to_network in
      elim (proceeds Network b side.Network id (by_network i) (view_of side.Network w) now
      (is_t203_of id event) _ a _ _ h.shows.network preserved
      (network_shown c id i w h.shows h.here) fate
      (left_alone Network b side.Network id (of_network c.network id low) event (by_network i)
      premises.quiet.leaves) premises.quiet.stays.network) [
        | inl pass ↦ inl (goes_on side.Network event i k latest latest w w premises h (record {
          reached = h.reached;
          shows = by_network_after c id (does b event (by_network i)) i (view_of side.Network w) w
              pass.shows h.shows.user;
          sent_to_user = both_sent side.Network id latest k.to_user
              (sent_at now a.effects.frames) h.sent_to_user
              (others_sent side.Network id latest now a.effects.frames pass.frames);
          sent_to_network = still;
          user_set = h.user_set;
          network_set = link_stays t200 t203 latest (i.network.served.links id)
              (a.after.served.links id) pass.link h.network_set;
          in_order = omega (arith, before, in_order);
        }))
        | inr move ↦ inr (record {
          move = move.event;
          of_line = move.of_line;
          no_loss = move.no_loss;
          counts = move.counts;
          admitted = admitted side.Network move.event w move.side_step move.is;
          holds = subst (λ (x : World). Holding now (side_does c side.Network event i)
              (clock_after c side.Network event i k) x)
              (sym (after_move side.Network move.event w move.side_step move.is))
              (goes_on side.Network event i k latest now w
              (with_view side.Network move.side_step.view w) premises h (record {
                reached = of_run side.Network move.event w move.side_step h.reached move.is;
                shows = by_network_after c id (does b event (by_network i)) i move.side_step.view w
                    move.shows h.shows.user;
                sent_to_user = both_sent side.Network id now k.to_user
                    (sent_at now a.effects.frames)
                    (sent_by_then side.Network id latest now k.to_user
                    (omega (arith, before, in_order)) h.sent_to_user)
                    (sent_just_now side.Network id now a.effects.frames);
                sent_to_network = sent_by_then side.User id latest now
                    (still_in_transit event k.to_network) (omega (arith, before, in_order)) still;
                user_set = link_later t200 t203 latest now (i.user.served.links id)
                    (omega (arith, before, in_order)) h.user_set;
                network_set = network_after c id low longest positive user_long network_long t200
                    t203 user_most network_most p q small_p small_q event i k w fate in_order
                    (link_later t200 t203 latest k.now (i.network.served.links id) before
                    h.network_set);
                in_order = omega arith;
              }));
        })
      ]

  outcome : (who : Side) (event : SideEvent) (i : Interface) (k : Clock) (latest : ℕ) (w : World)
      → Premises who event i k → Holding latest i k w → Outcome who event i k latest w
  outcome side.User event i k latest w premises h = user_outcome event i k latest w premises h
  outcome side.Network event i k latest w premises h =
      network_outcome event i k latest w premises h

  -- ---- All moves.

  -- the link's octets are in transit for at most so long at the moment of an event
  record ArePrompt (who : Side) (event : SideEvent) (k : Clock) : Type 0 where
    pub to_user : AreSent side.Network id (λ at. moment_of event k.now ≤ at + longest) k.to_user
    pub to_network : AreSent side.User id (λ at. moment_of event k.now ≤ at + longest)
        k.to_network

  prompt_both : (who : Side) (event : SideEvent) (i : Interface) (k : Clock)
      → OfMove (IsInTime longest id) who event i k → ArePrompt who event k
  prompt_both side.User event i k in_time = record {
    to_user = in_time.prompt.to_side;
    to_network = in_time.prompt.from_side;
  }
  prompt_both side.Network event i k in_time = record {
    to_user = in_time.prompt.from_side;
    to_network = in_time.prompt.to_side;
  }

  pub record Runs (latest now : ℕ) (moves : List Move) (i : Interface) (k : Clock) (w : World) :
      Type 0 where
    pub timed : List TimedMove
    pub of_line : AreLineMoves Tagged (moves_of timed) w
    pub lossless : losses (moves_of timed) ≡ 0
    pub punctual : are_punctual Tagged (waits c id longest late t200 t203) latest timed now w
    pub few : pair.t203s_out_of_step Tagged (moves_of timed) w ≤ t203s_out_of_step c id moves i
    pub shows : ProjectsTo c id (run c moves i) (world_of.run Tagged (moves_of timed) w)
    pub here : HaveLink id (run c moves i)

  passed_by : (latest now : ℕ) (move : Move) (moves : List Move) (i : Interface) (k : Clock)
      (w : World) → Runs latest now moves (happens c move i)
      (clock_after c move.side move.event i k) w → Runs latest now (move ∷ moves) i k w
  passed_by latest now move moves i k w r = record {
    timed = r.timed;
    of_line = r.of_line;
    lossless = r.lossless;
    punctual = r.punctual;
    few = (let rest = r.few in omega (arith, rest));
    shows = r.shows;
    here = r.here;
  }

  moved_by : (latest now : ℕ) (move : Move) (moves : List Move) (i : Interface) (k : Clock)
      (w : World) → Holding latest i k w → Premises move.side move.event i k
      → (m : IsMoved move.side move.event i k w)
      → Runs (moment_of move.event k.now) now moves (happens c move i)
      (clock_after c move.side move.event i k)
      (world_after w (world_of.happens Tagged (record { side = move.side; event = m.move }) w))
      → Runs latest now (move ∷ moves) i k w
  moved_by latest now move moves i k w h premises m r =
      let at = moment_of move.event k.now in
      let prompt = prompt_both move.side move.event i k premises.in_time in
      let one = one_few (is_t203 m.move) (is_early m.move w) (kept.are_in_step w)
      (is_t203_of id move.event) (are_in_step id i) m.counts
      (same_step c id i w h.shows h.here (consistent latest i k w h)) in
      let rest = r.few in
      let none : one_if (is_loss m.move) ≡ 0 = ap one_if m.no_loss in
      let lossless = r.lossless in
      record {
        timed = record {
          move = record { side = move.side; event = m.move };
          at = at;
        } ∷ r.timed;
        of_line = (record { of_line = m.of_line; admitted = m.admitted }, r.of_line);
        lossless = omega (arith, none, lossless);
        punctual = (
          next_in_time c id longest late t200 t203 at latest i k w (stands latest i k w h)
              prompt.to_user prompt.to_network premises.quiet.punctual,
          r.punctual,
        );
        few = omega (arith, one, rest);
        shows = r.shows;
        here = r.here;
      }

  pub along : (moves : List Move) (latest now : ℕ) (i : Interface) (k : Clock) (w : World)
      → Holding latest i k w → MeetPremises longest c id moves i k → AreQuiet late c id moves i k
      → IsServed longest late now id (run c moves i) (clock_of c moves i k)
      → Runs latest now moves i k w
  along [] latest now i k w h premises quiet served = record {
    timed = [];
    of_line = tt;
    lossless = refl;
    punctual = next_in_time c id longest late t200 t203 now latest i k w (stands latest i k w h)
        served.to_user served.to_network served.punctual;
    few = omega arith;
    shows = h.shows;
    here = h.here;
  }
  along (move ∷ moves) latest now i k w h premises quiet served =
      let one : Premises move.side move.event i k = record {
        others = premises.others.0;
        octets = premises.octets.0;
        in_time = premises.in_time.0;
        taken = premises.taken.0;
        quiet = quiet.0;
      } in
      let rest : MeetPremises longest c id moves (happens c move i)
      (clock_after c move.side move.event i k) = record {
        in_time = premises.in_time.1;
        taken = premises.taken.1;
        others = premises.others.1;
        octets = premises.octets.1;
      } in
      elim (outcome move.side move.event i k latest w one h) [
        | inl same ↦ passed_by latest now move moves i k w
            (along moves latest now (happens c move i) (clock_after c move.side move.event i k) w
            same rest quiet.1 served)
        | inr m ↦ moved_by latest now move moves i k w h one m
            (along moves (moment_of move.event k.now) now (happens c move i)
            (clock_after c move.side move.event i k) _ m.holds rest quiet.1 served)
      ]
