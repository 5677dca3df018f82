-- Deliveries alone are few, from every world that a run leads to.
use Rattle.std.proofs.Common.{◌≡◌, inl, ℕ, suc, ◌+◌, ◌-◌, ◌*◌, ◌≤◌, Bool, true, false, List, [], ◌∷◌, ◌++◌, length, map, is_ok, refl, sym, ap, subst, ◌∙◌, arith}
use Rattle.lapd_frame.specs.declared.Side.{Side}
use Rattle.lapd_frame.specs.declared.Side.TheVariants as side
use Rattle.lapd_mod128.specs.Counting.{Reading, Whole, Tagged}
use Rattle.lapd_link_definition.specs.declared.state.State.{State}
use Rattle.lapd_link_definition.specs.declared.state.State.TheVariants.{AwaitingEstablishment, MultipleFrameEstablished, TimerRecovery}
use Rattle.lapd_link_definition.specs.EndOfStep.{is_7_or_8}
use Rattle.lapd_link_definition.specs.End.{unsent, waiting}
use Rattle.lapd_link_definition.specs.Table.{step}
use Rattle.lapd_link_definition.specs.Parameters.{Parameters}
use Rattle.lapd_pair_laws.specs.Consistent.{IsConsistent, IsConsistentWorld}
use Rattle.lapd_pair_laws.specs.Conjuncts.{IsNumbering, IsConsistentSender}
use Rattle.lapd_pair_laws.specs.Invariant.{Both, IsInvariant}
use Rattle.lapd_pair_laws.specs.Line.{Flight}
use Rattle.lapd_pair_laws.specs.Move.{PairEvent, Deliver, Move, Station, View, acts, receives, delivers, view_after}
use Rattle.lapd_pair_laws.specs.Kinds.{Kind, kind, kinds}
use Rattle.lapd_pair_laws.specs.Parties.{Sender, party}
use Rattle.lapd_pair_laws.specs.Tagged.{tag_flight, tag_world}
use Rattle.lapd_pair_laws.specs.Timed.{IsSettledEnd}
use Rattle.lapd_pair_laws.specs.World.{World, swapped, new_world, happens, world_after, run, left, left_of}
use Rattle.lapd_pair_laws.proofs.Facts.{between_open}
use Rattle.lapd_pair_laws.proofs.Flow.{fresh}
use Rattle.lapd_pair_laws.proofs.MidSteps.{Mid, enter, numbering}
use Rattle.lapd_pair_laws.proofs.Consistency.{new_world_consistent, run_consistent}
use Rattle.lapd_pair_laws.proofs.Reached.{reached_tags}
use Rattle.lapd_pair_laws.proofs.Settled.{left_settled}
use Rattle.lapd_pair_laws.proofs.SettledEnds.{new_settles, run_settles}
use Rattle.lapd_pair_laws.proofs.Stepping.{user_move, network_move}
use Rattle.lapd_pair_laws.proofs.Swaps.{network_alike}
use Rattle.lapd_pair_laws.proofs.TaggedMoves.{left_on_tags}
use Rattle.lapd_pair_laws.proofs.Whole.{each_move_preserves, each_run_preserves}
use Rattle.lapd_pair_laws.proofs.Worlds.{new_holds, left_by}
use Rattle.lapd_recovery_laws.specs.Deliveries.{AreDeliveries, NothingArrives, frames, most_deliveries, RunsEmpty}
use Rattle.lapd_recovery_laws.specs.Timers.{HaveTimersOfStates}
use Rattle.lapd_recovery_laws.specs.Own.{IsFree, is_line_empty}
use Rattle.lapd_recovery_laws.proofs.AfterOutage.{facts_after}
use Rattle.lapd_recovery_laws.proofs.AnyOrder.{none_there, none_there_too}
use Rattle.lapd_recovery_laws.proofs.Cleared.{IsClearIn5, clear_after_run, new_is_clear}
use Rattle.lapd_recovery_laws.proofs.ClosedDelivers.{closed_delivered}
use Rattle.lapd_recovery_laws.proofs.EndSends.{kinds_append}
use Rattle.lapd_recovery_laws.proofs.Lost.{at, kinds_length}
use Rattle.lapd_recovery_laws.proofs.LostMoves.{moved_user}
use Rattle.lapd_recovery_laws.proofs.OpenDelivers.{Delivered}
use Rattle.lapd_recovery_laws.proofs.OpenFrames.{open_delivered}
use Rattle.lapd_recovery_laws.proofs.OutageWorlds.{Facts, facts_swapped}
use Rattle.lapd_recovery_laws.proofs.OwnOnTags.{ok_on_tags, world_on_tags}
use Rattle.lapd_recovery_laws.proofs.Proceeding.{weigh_few, extra, extra_few, missing_in, missing, load_in, load, fresh_few, Flowing, flowing_turned, flows_on}
use Rattle.lapd_recovery_laws.proofs.TimersOfRuns.{new_has_timers, timers_after_run}

-- ---- The view of a side.

abbrev pub Flow : ℕ → World → Type 0
Flow n w = Flowing w.user.end w.network.end (kinds w.to_network) (kinds w.to_user) n

-- a frame is delivered to this side
record Steps (n : ℕ) (x y : Station) (v : View) : Type 0 where
  some : 1 ≤ n
  flowing : Flowing v.station.end y.end (kinds v.outgoing) (kinds v.incoming) (n - 1)
  fewer : waiting v.station.end ≤ waiting x.end
  free : IsFree x.end → IsFree v.station.end

module _ (x y : Station) (frame : Flight) (rest outgoing : List Flight) (base its_base n : ℕ)
    (settled : IsSettledEnd x.end) (clear : IsClearIn5 x.end)
    (both : Both (party base x) (party its_base y) (kinds outgoing) (kinds (frame ∷ rest))) where
  abbrev v : View
  v = record { station = x; incoming = frame ∷ rest; outgoing = outgoing }

  steps_so : (z : View) → z.incoming ≡ rest
      → Delivered x.end y.end (kind frame) (kinds rest) outgoing z.station.end z.outgoing
      → Flowing x.end y.end (kinds outgoing) (kinds (frame ∷ rest)) n → Steps n x y z
  steps_so z arriving d f =
      let flows =
      flows_on x.end z.station.end y.end (kind frame) (kinds rest) (kinds outgoing)
      (kinds d.new) n d.advances f in
      let line : kinds z.outgoing ≡ kinds outgoing ++ kinds d.new =
      ap kinds d.sent ∙ kinds_append outgoing d.new in
      record {
        some = flows.some;
        flowing =
            subst (λ l. Flowing z.station.end y.end l (kinds z.incoming) (n - 1)) (sym line)
            (subst
            (λ l. Flowing z.station.end y.end (kinds outgoing ++ kinds d.new) (kinds l) (n - 1))
            (sym arriving) flows.flowing);
        fewer = d.fewer;
        free = d.free;
      }

  abbrev after : View
  after = left_by v (acts Whole side.User Deliver v)

  by_open : is_7_or_8 x.end.state ≡ true
      → Flowing x.end y.end (kinds outgoing) (kinds (frame ∷ rest)) n → Steps n x y after
  unfolding acts delivers receives step view_after
  by_open opened f =
      steps_so after refl
      (open_delivered x y frame rest outgoing base its_base settled opened both).0 f

  by_closed : is_7_or_8 x.end.state ≡ false
      → Flowing x.end y.end (kinds outgoing) (kinds (frame ∷ rest)) n → Steps n x y after
  unfolding acts delivers receives step view_after
  by_closed closed f =
      steps_so after refl (closed_delivered x y frame rest outgoing base its_base clear closed both)
      f

  delivered : Flowing x.end y.end (kinds outgoing) (kinds (frame ∷ rest)) n → Steps n x y after
  delivered f = by_case (is_7_or_8 x.end.state) refl
    where
      by_case : (b : Bool) → is_7_or_8 x.end.state ≡ b → Steps n x y after
      by_case true opened = by_open opened f
      by_case false closed = by_closed closed f

-- ---- The world.

-- what a delivery changes
pub record Delivers (n : ℕ) (w now : World) : Type 0 where
  pub some : 1 ≤ n
  pub flow : Flow (n - 1) now
  pub user_fewer : waiting now.user.end ≤ waiting w.user.end
  pub network_fewer : waiting now.network.end ≤ waiting w.network.end
  pub user_free : IsFree w.user.end → IsFree now.user.end
  pub network_free : IsFree w.network.end → IsFree now.network.end

user_delivers : (N n : ℕ) (x y : Station) (frame : Flight) (rest to_network : List Flight)
    → Facts N (at x y (frame ∷ rest) to_network) → Flow n (at x y (frame ∷ rest) to_network)
    → Delivers n (at x y (frame ∷ rest) to_network)
    (world_after (at x y (frame ∷ rest) to_network)
    (happens Whole (user_move Deliver) (at x y (frame ∷ rest) to_network)))
user_delivers N n x y frame rest to_network f flow =
    let w = at x y (frame ∷ rest) to_network in
    let i = f.holds in
    let s =
    delivered x y frame rest to_network i.user_base i.network_base n f.settled.user
    f.clear.user i.both flow in
    subst (λ v. Delivers n w v) (sym (moved_user Deliver w))
    (record {
      some = s.some;
      flow = s.flowing;
      user_fewer = s.fewer;
      network_fewer = omega arith;
      user_free = s.free;
      network_free = λ free. free;
    })

delivers_swapped : (n : ℕ) (w now : World) → Delivers n (swapped w) now → Delivers n w (swapped now)
delivers_swapped n w now d = record {
  some = d.some;
  flow = flowing_turned d.flow;
  user_fewer = d.network_fewer;
  network_fewer = d.user_fewer;
  user_free = d.network_free;
  network_free = d.user_free;
}

pub delivery_flows : (N n : ℕ) (s : Side) (w : World) → Facts N w → Flow n w
    → is_ok (happens Whole (record { side = s; event = Deliver }) w) ≡ true
    → Delivers n w (world_after w (happens Whole (record { side = s; event = Deliver }) w))
delivery_flows N n s w f flow ok = by_side s w.user w.network w.to_user w.to_network f flow ok
  where
    by_side : (s : Side) (x y : Station) (to_user to_network : List Flight)
        → Facts N (at x y to_user to_network) → Flow n (at x y to_user to_network)
        → is_ok (happens Whole (record { side = s; event = Deliver }) (at x y to_user to_network))
        ≡ true
        → Delivers n (at x y to_user to_network)
        (world_after (at x y to_user to_network)
        (happens Whole (record { side = s; event = Deliver }) (at x y to_user to_network)))
    by_side side.User x y [] to_network f flow ok = let none = none_there x y to_network in cc
    by_side side.User x y (frame ∷ rest) to_network f flow ok =
        user_delivers N n x y frame rest to_network f flow
    by_side side.Network x y to_user [] f flow ok = let none = none_there_too x y to_user in cc
    by_side side.Network x y to_user (frame ∷ rest) f flow ok =
        let w = at x y to_user (frame ∷ rest) in
        let now = world_after (swapped w) (happens Whole (user_move Deliver) (swapped w)) in
        subst (λ v. Delivers n w v) (sym (network_alike Whole Deliver w)) (delivers_swapped n
        w now (user_delivers N n
        y x frame rest to_user (facts_swapped N w f) (flowing_turned flow)))

-- ---- The beginning.

load_few : (state : State) (leaving : Bool) (u w m f e : ℕ) → u ≤ w → f ≤ 1
    → (is_7_or_8 state ≡ true → m ≤ w - u) → load_in state leaving u m f e ≤ 3 * w + 2 + e
load_few AwaitingEstablishment false u w m f e le one some = omega (arith, le)
load_few MultipleFrameEstablished leaving u w m f e le one some =
    let few = some refl in omega (arith, le, one, few)
load_few TimerRecovery leaving u w m f e le one some =
    let few = some refl in omega (arith, le, one, few)
load_few state leaving u w m f e le one some = omega arith

-- the first unsent message is not before the first waiting one
pub in_queue : (state : State) (asked leaving : Bool) (s : Sender)
    → IsConsistentSender state asked leaving s → s.first ≤ s.next
in_queue AwaitingEstablishment false false s h =
    let a = h.first in let b = h.next in let o = h.ordered in omega (arith, a, b, o)
in_queue MultipleFrameEstablished asked leaving s n =
    let a = n.first in let b = n.next in let o = n.ordered in omega (arith, a, b, o)
in_queue TimerRecovery asked leaving s n =
    let a = n.first in let b = n.next in let o = n.ordered in omega (arith, a, b, o)
in_queue state asked leaving s e = let a = e.first in let b = e.next in omega (arith, a, b)

-- an open side misses no more than is outstanding
pub missing_few : (x y : Station) (base its_base : ℕ) (out back : List Kind)
    → Both (party base x) (party its_base y) out back → is_7_or_8 x.end.state ≡ true
    → missing x.end y.end ≤ waiting x.end - unsent x.end
missing_few x y base its_base out back both opened = by_peer (is_7_or_8 y.end.state) refl
  where
    by_peer : (open_state : Bool) → is_7_or_8 y.end.state ≡ open_state
        → missing_in open_state x.end.window.vs y.end.window.vr (waiting x.end) (unsent x.end)
        ≤ waiting x.end - unsent x.end
    by_peer false shut = omega arith
    by_peer true peer_open =
        let m : Mid (party base x) (party its_base y) out back =
        enter (party base x) (party its_base y) out back opened both in
        let between : (x.end.window.va ≤ y.end.window.vr) × (y.end.window.vr ≤ x.end.window.vs) =
        between_open {x = party base x} {y = party its_base y} {out = out} {back = back}
        peer_open m in
        let low = between.0 in
        let n : IsNumbering (party base x).sends = numbering m in
        let first : x.end.first ≡ base + x.end.window.va = n.first in
        let next : x.end.next ≡ base + x.end.window.vs = n.next in
        let within : x.end.next ≤ length x.end.given = n.within in
        omega (arith, low, first, next, within)

pub side_few : (x y : Station) (base its_base : ℕ) (out back : List Kind)
    → Both (party base x) (party its_base y) out back
    → load x.end y.end out ≤ 3 * waiting x.end + 2 + extra y.end out
side_few x y base its_base out back both =
    let p = party base x in
    let le : x.end.first ≤ x.end.next =
    in_queue p.state p.asked p.leaving p.sends both.mine.preserved in
    let queue : unsent x.end ≤ waiting x.end = omega (arith, le) in
    load_few x.end.state x.end.release_pending (unsent x.end) (waiting x.end) (missing x.end y.end)
    (fresh y.end.window.rejecting) (extra y.end out) queue (fresh_few y.end.window.rejecting)
    (λ opened. missing_few x y base its_base out back both opened)

station_left : (s : Station) → IsConsistent Whole s → left_of s ≡ waiting s.end
station_left s k = let same = k.first in left_settled s k.settled ∙ omega (arith, same)

pub left_waits : (w : World) → IsConsistentWorld Whole w
    → left w ≡ waiting w.user.end + waiting w.network.end
left_waits w k =
    let a = station_left w.user k.user in
    let b = station_left w.network k.network in omega (arith, a, b)

pub flow_begins : (w : World) → IsInvariant w → IsConsistentWorld Whole w
    → Flow (most_deliveries w) w
flow_begins w i k =
    let out = kinds w.to_network in
    let back = kinds w.to_user in
    let a = side_few w.user w.network i.user_base i.network_base out back i.both in
    let b =
    side_few w.network w.user i.network_base i.user_base back out
    (record { mine = i.both.its; its = i.both.mine }) in
    let all = left_waits w k in
    let out_few = weigh_few out in
    let back_few = weigh_few back in
    let out_extra = extra_few w.network.end out in
    let back_extra = extra_few w.user.end back in
    let m = kinds_length w.to_network in
    let n = kinds_length w.to_user in
    record {
      a = load w.user.end w.network.end out;
      b = load w.network.end w.user.end back;
      mine = inl (omega arith);
      its = inl (omega arith);
      most = omega (arith, a, b, all, out_few, back_few, out_extra, back_extra, m, n);
    }

-- ---- All deliveries.

-- the first of them, and then the others
one_more : (N n : ℕ) (s : Side) (event : PairEvent) (w : World) (moves : List Move) → Facts N w
    → Flow n w
    → ((m : ℕ) (v : World) → Facts N v → Flow m v → AreDeliveries Whole moves v → length moves ≤ m)
    → event ≡ Deliver → is_ok (happens Whole (record { side = s; event = event }) w) ≡ true
    → AreDeliveries Whole moves
    (world_after w (happens Whole (record { side = s; event = event }) w))
    → suc (length moves) ≤ n
one_more N n s Deliver w moves f flow others is ok rest =
    let move : Move = record { side = s; event = Deliver } in
    let now = world_after w (happens Whole move w) in
    let d = delivery_flows N n s w f flow ok in
    let few = others (n - 1) now (facts_after N move w f) d.flow rest in
    let some = d.some in
    omega (arith, few, some)
one_more N n s event w moves f flow others is ok rest = cc

deliveries_few : (N n : ℕ) (w : World) (moves : List Move) → Facts N w → Flow n w
    → AreDeliveries Whole moves w → length moves ≤ n
deliveries_few N n w [] f flow are = omega arith
deliveries_few N n w (move ∷ moves) f flow are =
    one_more N n move.side move.event w moves f flow
    (λ m v facts flow_now rest. deliveries_few N m v moves facts flow_now rest) are.0 are.1 are.2

-- ---- Where nothing arrives.

pub arrives_at_user : (r : Reading) (x y : Station) (frame : Flight) (rest to_network : List Flight)
    → is_ok (happens r (user_move Deliver) (at x y (frame ∷ rest) to_network)) ≡ true
unfolding happens acts delivers receives step
arrives_at_user r x y frame rest to_network = refl

arrives_at_network : (r : Reading) (x y : Station) (to_user : List Flight) (frame : Flight)
    (rest : List Flight)
    → is_ok (happens r (network_move Deliver) (at x y to_user (frame ∷ rest))) ≡ true
unfolding happens acts delivers receives step
arrives_at_network r x y to_user frame rest = refl

line_is_empty : (r : Reading) (x y : Station) (to_user to_network : List Flight)
    → NothingArrives r (at x y to_user to_network)
    → is_line_empty (at x y to_user to_network) ≡ true
line_is_empty r x y [] [] none = refl
line_is_empty r x y (frame ∷ rest) to_network none =
    let some = arrives_at_user r x y frame rest to_network in let no = none side.User in cc
line_is_empty r x y [] (frame ∷ rest) none =
    let some = arrives_at_network r x y [] frame rest in let no = none side.Network in cc

-- ---- After every run, on whole numbers and on tags.

deliveries_by_tags : (moves : List Move) (w : World) → IsInvariant w → IsConsistentWorld Whole w
    → AreDeliveries Tagged moves (tag_world w) → AreDeliveries Whole moves w
deliveries_by_tags [] w i preserved are = tt
deliveries_by_tags (move ∷ moves) w i preserved are =
    let now = world_after w (happens Whole move w) in (
      are.0,
      sym (ok_on_tags move w i preserved) ∙ are.1,
      deliveries_by_tags moves now (each_move_preserves move w i)
          (run_consistent Whole (move ∷ []) w preserved)
          (subst (λ v. AreDeliveries Tagged moves v) (world_on_tags move w i preserved) are.2),
    )

pub frames_on_tags : (w : World) → frames (tag_world w) ≡ frames w
frames_on_tags w = let a = same w.to_user in let b = same w.to_network in omega (arith, a, b)
  where
    same : (l : List Flight) → length (map tag_flight l) ≡ length l
    same [] = refl
    same (f ∷ fs) = let rest = same fs in omega (arith, rest)

module _ (user network : Parameters) (user_small : user.k ≤ 127) (network_small : network.k ≤ 127)
    (moves : List Move) where
  abbrev start : World
  start = new_world user network

  abbrev pub reached : World
  reached = run Whole moves start

  pub holds : IsInvariant reached
  holds = each_run_preserves moves start (new_holds user network user_small network_small)

  pub preserved : IsConsistentWorld Whole reached
  preserved =
      run_consistent Whole moves start
      (new_world_consistent Whole user network user_small network_small)

  pub have_timers : HaveTimersOfStates reached
  have_timers = timers_after_run moves start (new_has_timers user network)

  pub facts : 1 ≤ user.k → 1 ≤ network.k → (N : ℕ) → reached.user.end.parameters.n200 ≤ N
      → reached.network.end.parameters.n200 ≤ N → Facts N reached
  facts user_some network_some N few_user few_network = record {
    holds = holds;
    settled = run_settles moves start (new_settles user network user_some network_some);
    have = have_timers;
    clear = clear_after_run moves start (new_is_clear user network);
    few_user = few_user;
    few_network = few_network;
  }

  -- a law with a premise holds in both readings, if both carry over to tags and back
  pub by_readings : (Premise : World → Type 0) (Law : Reading → World → Type 0)
      → ((w : World) → Premise (tag_world w) → Premise w)
      → ((w : World) → IsInvariant w → IsConsistentWorld Whole w → Law Whole w
      → Law Tagged (tag_world w))
      → (Premise reached → Law Whole reached) → (r : Reading)
      → Premise (run r moves (new_world user network)) → Law r (run r moves (new_world user network))
  by_readings Premise Law by_tags on_tags whole Whole p = whole p
  by_readings Premise Law by_tags on_tags whole Tagged p =
      let same : run Tagged moves (new_world user network) ≡ tag_world reached =
      reached_tags user network user_small network_small moves in
      subst (λ w. Law Tagged w) (sym same)
      (on_tags reached holds preserved (whole (by_tags reached (subst (λ w. Premise w) same p))))

-- the same of a law on every world with the facts of a run
pub after_runs : (Premise : World → Type 0) (Law : Reading → World → Type 0)
    → ((w : World)
    → ((N : ℕ) → w.user.end.parameters.n200 ≤ N → w.network.end.parameters.n200 ≤ N → Facts N w)
    → IsConsistentWorld Whole w → Premise w → Law Whole w)
    → ((w : World) → Premise (tag_world w) → Premise w)
    → ((w : World) → IsInvariant w → IsConsistentWorld Whole w → Law Whole w
    → Law Tagged (tag_world w))
    → (r : Reading) (user network : Parameters) → user.k ≤ 127 → network.k ≤ 127 → 1 ≤ user.k
    → 1 ≤ network.k → (moves : List Move) → Premise (run r moves (new_world user network))
    → Law r (run r moves (new_world user network))
after_runs Premise Law whole by_tags on_tags r user network u n us ns moves p =
    by_readings user network u n moves Premise Law by_tags on_tags
    (λ q. whole (run Whole moves (new_world user network)) (facts user network u n moves us ns)
    (preserved user network u n moves) q) r p

runs_empty : (w : World)
    → ((N : ℕ) → w.user.end.parameters.n200 ≤ N → w.network.end.parameters.n200 ≤ N → Facts N w)
    → IsConsistentWorld Whole w → RunsEmpty Whole w
runs_empty w facts_of preserved =
    let N = w.user.end.parameters.n200 + w.network.end.parameters.n200 in
    let f = facts_of N (omega arith) (omega arith) in
    record {
      few = λ deliveries are.
          deliveries_few N (most_deliveries w) w deliveries f (flow_begins w f.holds preserved) are;
      empty = λ deliveries are none.
          let now = run Whole deliveries w in
          line_is_empty Whole now.user now.network now.to_user now.to_network none;
    }

on_tags : (w : World) → IsInvariant w → IsConsistentWorld Whole w → RunsEmpty Whole w
    → RunsEmpty Tagged (tag_world w)
on_tags w i preserved c = record {
  few = λ deliveries are.
      let l = left_on_tags w in
      let f = frames_on_tags w in
      let few = c.few deliveries (deliveries_by_tags deliveries w i preserved are) in
      omega (arith, l, f, few);
  empty = λ deliveries are none.
      let now = run Tagged deliveries (tag_world w) in
      line_is_empty Tagged now.user now.network now.to_user now.to_network none;
}

pub every_line_runs_empty : (r : Reading) (user network : Parameters) → user.k ≤ 127
    → network.k ≤ 127 → 1 ≤ user.k → 1 ≤ network.k → (moves : List Move)
    → RunsEmpty r (run r moves (new_world user network))
every_line_runs_empty r user network u n us ns moves =
    after_runs (λ w. Unit {0}) (λ r w. RunsEmpty r w) (λ w facts preserved p. runs_empty w facts preserved)
    (λ w p. tt) on_tags r user network u n us ns moves tt
