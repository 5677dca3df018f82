-- Runs with quick restarts do the same as those in which the end that restarts keeps its numbers; so
-- they are safe too.
use Rattle.std.proofs.Common.{◌≡◌, inl, inr, ℕ, ◌≤◌, ◌==◌, ◌&&◌, nat_lt, if◌then◌else◌, Bool, true, false, List, [], ◌∷◌, length, Option, Some, None, Result, Ok, Err, refl, sym, ap, subst, ◌∙◌}
use Rattle.lapd_timers.specs.declared.timer.Timer.TheVariants.{T200, T203}
use Rattle.lapd_frame.specs.declared.Role.{Role}
use Rattle.lapd_frame.specs.declared.Role.TheVariants.{Command, Answer}
use Rattle.lapd_frame.specs.declared.Control.{Control}
use Rattle.lapd_frame.specs.declared.Control.TheVariants.{I}
use Rattle.lapd_frame.specs.declared.Side.{Side}
use Rattle.lapd_frame.specs.declared.Side.TheVariants as side
use Rattle.lapd_mod128.specs.Counting.{Reading}
use Rattle.lapd_supervision.specs.StateVariables.{StateVariables, initial_variables, without_exceptions}
use Rattle.lapd_link_definition.specs.declared.state.State.{State}
use Rattle.lapd_link_definition.specs.declared.state.State.TheVariants.{TeiAssigned, AwaitingEstablishment, AwaitingRelease, MultipleFrameEstablished, TimerRecovery}
use Rattle.lapd_link_definition.specs.declared.event.LinkFault.{LinkFault}
use Rattle.lapd_link_definition.specs.EndOfStep.{is_7_or_8}
use Rattle.lapd_link_definition.specs.End.{End, StepState}
use Rattle.lapd_link_definition.specs.Input as input
use Rattle.lapd_link_definition.specs.Input.{Input, Heard, Expiry}
use Rattle.lapd_link_definition.specs.Parameters.{Parameters}
use Rattle.lapd_link_definition.specs.Reports.{AreExpected, IsDueIn}
use Rattle.lapd_pair_laws.specs.Conjuncts.{is_holding}
use Rattle.lapd_pair_laws.specs.Eager.{awaited_in, expires_eagerly}
use Rattle.lapd_pair_laws.specs.Fresh.{IsFresh, AreFresh, AllAreFresh}
use Rattle.lapd_pair_laws.specs.Line.{Flight, first_poll, first_final}
use Rattle.lapd_pair_laws.specs.Move.{PairEvent, Give, Establish, Release, Deliver, Lose, Expire200, Expire203, Busy, UnitData, Restart, Move, Station, View, ViewStep, Refusal, Refused, story_after, view_after, stepped, receives, takes, quietly, delivers, loses, unless_under_way, expires_200, expires_203, restarts, busy_input, acts}
use Rattle.lapd_pair_laws.specs.Reports.{ReportsExpected, AllReportsExpected, IsFirstDue, AreFirstDue}
use Rattle.lapd_pair_laws.specs.Safe.{IsSafeFrom, AreSafe}
use Rattle.lapd_pair_laws.specs.World.{World, Happened, new_world, view_of, with_view, in_world, world_after}
use Rattle.lapd_recovery_laws.specs.QuickRestart.{exchange_in, restarts_quickly, acts_quickly, happens_quickly, run_quickly, outcomes_quickly, restarts_keeping, acts_keeping, happens_keeping, run_keeping, outcomes_keeping}
use Rattle.lapd_recovery_laws.proofs.KeptOnTags.{keeping_run_safe, keeping_run_reports, keeping_run_is_due, keeping_run_is_fresh}
use Rattle.lapd_recovery_laws.proofs.UnreadNumbers.{with_numbers, reads, StepAlike, step_alike}

-- ---- Two views, of which the second has other numbers at the side itself.

abbrev pub numbered : ℕ → ℕ → ℕ → Station → Station
numbered vs va vr s = record s { end = with_numbers vs va vr s.end }

abbrev seen : ℕ → ℕ → ℕ → View → View
seen vs va vr v = record v { station = numbered vs va vr v.station }

data ViewAlike (v u : View) : Type 0 where
  same : u ≡ v → ViewAlike v u
  unread : (vs va vr : ℕ) → reads v.station.end ≡ false → u ≡ seen vs va vr v → ViewAlike v u

abbrev ActedAlike : Result ViewStep Refusal → Result ViewStep Refusal → Type 0
ActedAlike (Ok a) (Ok b) = (b.outs ≡ a.outs) × ViewAlike a.view b.view
ActedAlike (Ok a) (Err refusal) = ⊥
ActedAlike (Err refusal) (Ok b) = ⊥
ActedAlike (Err refusal) (Err other) = other ≡ refusal

itself : (x : Result ViewStep Refusal) → ActedAlike x x
itself (Ok a) = (refl, same refl)
itself (Err refusal) = refl

if_alike : (test : Bool) (a b x y : Result ViewStep Refusal) → ActedAlike a b → ActedAlike x y
    → ActedAlike (if test then a else x) (if test then b else y)
if_alike true a b x y one other = one
if_alike false a b x y one other = other

under_way_alike : (s : Side) (poll final : Option ℕ) (a b : Result ViewStep Refusal)
    → ActedAlike a b
    → ActedAlike (unless_under_way s poll final a) (unless_under_way s poll final b)
under_way_alike s (Some at) final a b alike = refl
under_way_alike s None (Some at) a b alike = refl
under_way_alike s None None a b alike = alike

-- a restart, from the same view
restarts_alike : (test : Bool) (v : View)
    → ActedAlike (quietly (if test then restarts_keeping v else restarts v))
    (quietly (if test then restarts_quickly v else restarts v))
unfolding restarts restarts_keeping restarts_quickly initial_variables without_exceptions
restarts_alike true v = (refl, unread 0 0 0 refl refl)
restarts_alike false v = (refl, same refl)

-- ---- The moves of a side whose numbers are not read.

module _ (r : Reading) (s : Side) (vs va vr : ℕ) where
  stepped_alike : (octets : List ℕ) (place : ℕ) (v : View) (x y : Result StepState LinkFault)
      → StepAlike vs va vr x y
      → ActedAlike (stepped octets place v x) (stepped octets place (seen vs va vr v) y)
  unfolding view_after story_after
  stepped_alike octets place v (Ok t) (Ok u) (inl (closed, is)) =
      subst (λ n. ActedAlike (stepped octets place v (Ok t))
      (stepped octets place (seen vs va vr v) (Ok n))) (sym is)
      (refl, unread vs va vr closed refl)
  stepped_alike octets place v (Ok t) (Ok u) (inr is) =
      subst (λ n. ActedAlike (stepped octets place v (Ok t))
      (stepped octets place (seen vs va vr v) (Ok n))) (sym is) (refl, same refl)
  stepped_alike octets place v (Ok t) (Err fault) impossible = absurd impossible
  stepped_alike octets place v (Err fault) (Ok u) impossible = absurd impossible
  stepped_alike octets place v (Err fault) (Err other) is = ap (λ f. Refused f) is

  takes_alike : (what : Input) (octets : List ℕ) (v : View) → reads v.station.end ≡ false
      → ActedAlike (takes r what octets v) (takes r what octets (seen vs va vr v))
  unfolding takes
  takes_alike what octets v closed =
      stepped_alike octets 0 v _ _ (step_alike vs va vr r what v.station.end closed)

  delivers_alike : (frames : List Flight) (v : View) → reads v.station.end ≡ false
      → ActedAlike (delivers r frames v) (delivers r frames (seen vs va vr v))
  unfolding delivers receives
  delivers_alike [] v closed = refl
  delivers_alike (frame ∷ rest) v closed =
      stepped_alike frame.info frame.place (record v { incoming = rest }) _ _
      (step_alike vs va vr r (Heard frame.control frame.role) v.station.end closed)

  acts_unread : (event : PairEvent) (v : View) → reads v.station.end ≡ false
      → ActedAlike (acts_keeping r s event v) (acts_quickly r s event (seen vs va vr v))
  unfolding acts loses expires_200 expires_203 expires_eagerly restarts restarts_keeping
      restarts_quickly initial_variables without_exceptions
  acts_unread (Give message) v closed = takes_alike (input.Give message) [] v closed
  acts_unread Establish v closed = takes_alike input.Establish [] v closed
  acts_unread Release v closed = takes_alike input.Release [] v closed
  acts_unread Deliver v closed = delivers_alike v.incoming v closed
  acts_unread (Lose at) v closed =
      if_alike (nat_lt at (length v.incoming)) _ _ _ _ (refl, unread vs va vr closed refl) refl
  acts_unread Expire200 v closed =
      let expires = takes_alike (Expiry T200) [] v closed in
      if_alike (v.station.end.t200 && (awaited_in v == 0)) _ _ _ _ expires
      (if_alike v.station.end.t200 _ _ _ _
      (under_way_alike s (first_poll v.outgoing) (first_final v.incoming) _ _ expires) refl)
  acts_unread Expire203 v closed =
      if_alike v.station.end.t203 _ _ _ _ (takes_alike (Expiry T203) [] v closed) refl
  acts_unread (Busy on) v closed = takes_alike (busy_input on) [] v closed
  acts_unread (UnitData octets) v closed =
      takes_alike (input.UnitData (length octets)) octets v closed
  acts_unread Restart v closed = restarts_alike (exchange_in v == 0) v

acts_itself : (r : Reading) (s : Side) (event : PairEvent) (v : View)
    → ActedAlike (acts_keeping r s event v) (acts_quickly r s event v)
acts_itself r s Restart v = restarts_alike (exchange_in v == 0) v
acts_itself r s event v = itself (acts_quickly r s event v)

acts_alike : (r : Reading) (s : Side) (event : PairEvent) (v u : View) → ViewAlike v u
    → ActedAlike (acts_keeping r s event v) (acts_quickly r s event u)
acts_alike r s event v u (same is) =
    subst (λ n. ActedAlike (acts_keeping r s event v) (acts_quickly r s event n)) (sym is)
    (acts_itself r s event v)
acts_alike r s event v u (unread vs va vr closed is) =
    subst (λ n. ActedAlike (acts_keeping r s event v) (acts_quickly r s event n)) (sym is)
    (acts_unread r s vs va vr event v closed)

-- ---- The world.

data StationAlike (s t : Station) : Type 0 where
  equal : t ≡ s → StationAlike s t
  renumbered : (vs va vr : ℕ) → reads s.end ≡ false → t ≡ numbered vs va vr s → StationAlike s t

record WorldAlike (w u : World) : Type 0 where
  user : StationAlike w.user u.user
  network : StationAlike w.network u.network
  to_user : u.to_user ≡ w.to_user
  to_network : u.to_network ≡ w.to_network

abbrev HappenedAlike : Result Happened Refusal → Result Happened Refusal → Type 0
HappenedAlike (Ok a) (Ok b) = (b.outs ≡ a.outs) × WorldAlike a.world b.world
HappenedAlike (Ok a) (Err refusal) = ⊥
HappenedAlike (Err refusal) (Ok b) = ⊥
HappenedAlike (Err refusal) (Err other) = other ≡ refusal

abbrev view_from : Station → List Flight → List Flight → View
view_from s incoming outgoing = record { station = s; incoming = incoming; outgoing = outgoing }

views_from : (s t : Station) (incoming before outgoing earlier : List Flight) → incoming ≡ before
    → outgoing ≡ earlier → t ≡ s → view_from t incoming outgoing ≡ view_from s before earlier
views_from s t incoming before outgoing earlier i o is =
    ap (λ x. view_from x incoming outgoing) is ∙ ap (λ x. view_from s x outgoing) i
    ∙ ap (λ x. view_from s before x) o

from_stations : (s t : Station) (incoming before outgoing earlier : List Flight) → incoming ≡ before
    → outgoing ≡ earlier → StationAlike s t
    → ViewAlike (view_from s before earlier) (view_from t incoming outgoing)
from_stations s t incoming before outgoing earlier i o (equal is) =
    same (views_from s t incoming before outgoing earlier i o is)
from_stations s t incoming before outgoing earlier i o (renumbered vs va vr closed is) =
    unread vs va vr closed
    (views_from (numbered vs va vr s) t incoming before outgoing earlier i o is)

views_alike : (s : Side) (w u : World) → WorldAlike w u → ViewAlike (view_of s w) (view_of s u)
views_alike side.User w u a =
    from_stations w.user u.user u.to_user w.to_user u.to_network w.to_network a.to_user a.to_network
    a.user
views_alike side.Network w u a =
    from_stations w.network u.network u.to_network w.to_network u.to_user w.to_user a.to_network
    a.to_user a.network

-- the parts of two views
record PartsAlike (v u : View) : Type 0 where
  station : StationAlike v.station u.station
  incoming : u.incoming ≡ v.incoming
  outgoing : u.outgoing ≡ v.outgoing

parts_of : (v u : View) → ViewAlike v u → PartsAlike v u
parts_of v u (same is) = record {
  station = equal (ap (λ x. x.station) is);
  incoming = ap (λ x. x.incoming) is;
  outgoing = ap (λ x. x.outgoing) is;
}
parts_of v u (unread vs va vr closed is) = record {
  station = renumbered vs va vr closed (ap (λ x. x.station) is);
  incoming = ap (λ x. x.incoming) is;
  outgoing = ap (λ x. x.outgoing) is;
}

with_views : (s : Side) (w u : World) (a b : View) → WorldAlike w u → PartsAlike a b
    → WorldAlike (with_view s a w) (with_view s b u)
with_views side.User w u a b alike p = record {
  user = p.station;
  network = alike.network;
  to_user = p.incoming;
  to_network = p.outgoing;
}
with_views side.Network w u a b alike p =
    record { user = alike.user; network = p.station; to_user = p.outgoing; to_network = p.incoming }

in_worlds : (s : Side) (w u : World) (x y : Result ViewStep Refusal) → WorldAlike w u
    → ActedAlike x y → HappenedAlike (in_world s w x) (in_world s u y)
in_worlds s w u (Ok a) (Ok b) alike acted =
    (acted.0, with_views s w u a.view b.view alike (parts_of a.view b.view acted.1))
in_worlds s w u (Ok a) (Err refusal) alike impossible = absurd impossible
in_worlds s w u (Err refusal) (Ok b) alike impossible = absurd impossible
in_worlds s w u (Err refusal) (Err other) alike is = is

move_alike : (r : Reading) (move : Move) (w u : World) → WorldAlike w u
    → HappenedAlike (happens_keeping r move w) (happens_quickly r move u)
unfolding happens_keeping happens_quickly
move_alike r move w u a =
    in_worlds move.side w u _ _ a (acts_alike r move.side move.event (view_of move.side w)
    (view_of move.side u) (views_alike move.side w u a))

after_alike : (w u : World) (x y : Result Happened Refusal) → WorldAlike w u → HappenedAlike x y
    → WorldAlike (world_after w x) (world_after u y)
after_alike w u (Ok a) (Ok b) alike h = h.1
after_alike w u (Ok a) (Err refusal) alike impossible = absurd impossible
after_alike w u (Err refusal) (Ok b) alike impossible = absurd impossible
after_alike w u (Err refusal) (Err other) alike h = alike

run_alike : (r : Reading) (moves : List Move) (w u : World) → WorldAlike w u
    → WorldAlike (run_keeping r moves w) (run_quickly r moves u)
run_alike r [] w u a = a
run_alike r (move ∷ moves) w u a =
    run_alike r moves (world_after w (happens_keeping r move w))
    (world_after u (happens_quickly r move u)) (after_alike w u _ _ a (move_alike r move w u a))

-- ---- Consequences for reports and refusals.

-- reports
report_alike : (x y : Result Happened Refusal) → HappenedAlike x y → ReportsExpected x
    → ReportsExpected y
report_alike (Ok a) (Ok b) h e = subst (λ outs. AreExpected outs) (sym h.0) e
report_alike (Ok a) (Err refusal) impossible e = absurd impossible
report_alike (Err refusal) y h e = refused_so y h
  where
    refused_so : (z : Result Happened Refusal) → HappenedAlike (Err refusal) z → ReportsExpected z
    refused_so (Ok b) impossible = absurd impossible
    refused_so (Err other) is = tt

reports_alike : (r : Reading) (moves : List Move) (w u : World) → WorldAlike w u
    → AllReportsExpected (outcomes_keeping r moves w)
    → AllReportsExpected (outcomes_quickly r moves u)
reports_alike r [] w u a e = tt
reports_alike r (move ∷ moves) w u a e =
    let h = move_alike r move w u a in (
      report_alike (happens_keeping r move w) (happens_quickly r move u) h e.0,
      reports_alike r moves (world_after w (happens_keeping r move w))
          (world_after u (happens_quickly r move u)) (after_alike w u _ _ a h) e.1,
    )

-- of a station only its state variables differ, and they only in states 4, 5 and 6
record SeemsAlike (s t : Station) : Type 0 where
  history : t.history ≡ s.history
  given : t.end.given ≡ s.end.given
  era : t.end.establishments ≡ s.end.establishments
  state : t.end.state ≡ s.end.state

seems_alike : (s t : Station) → StationAlike s t → SeemsAlike s t
seems_alike s t (equal is) = record {
  history = ap (λ x. x.history) is;
  given = ap (λ x. x.end.given) is;
  era = ap (λ x. x.end.establishments) is;
  state = ap (λ x. x.end.state) is;
}
seems_alike s t (renumbered vs va vr closed is) = record {
  history = ap (λ x. x.history) is;
  given = ap (λ x. x.end.given) is;
  era = ap (λ x. x.end.establishments) is;
  state = ap (λ x. x.end.state) is;
}

safe_from : (s t x y : Station) → SeemsAlike s t → SeemsAlike x y → IsSafeFrom s x → IsSafeFrom t y
safe_from s t x y a b safe = rw (a.given, a.history, b.history) safe

safe_alike : (w u : World) → WorldAlike w u → AreSafe w → AreSafe u
safe_alike w u a safe =
    let user = seems_alike w.user u.user a.user in
    let network = seems_alike w.network u.network a.network in (
      safe_from w.user u.user w.network u.network user network safe.0,
      safe_from w.network u.network w.user u.user network user safe.1,
    )

-- the next frame to be delivered
due_unread : (r : Reading) (state : State) (asked leaving : Bool) (role : Role) (control : Control)
    (m n : StateVariables) → is_holding state asked leaving ≡ false
    → IsDueIn r state (Heard control role) m → IsDueIn r state (Heard control role) n
due_unread r TeiAssigned asked leaving Command control m n closed due = due
due_unread r TeiAssigned asked leaving Answer control m n closed due = due
due_unread r AwaitingEstablishment asked leaving Command control m n closed due = due
due_unread r AwaitingEstablishment asked leaving Answer control m n closed due = due
due_unread r AwaitingRelease asked leaving Command control m n closed due = due
due_unread r AwaitingRelease asked leaving Answer control m n closed due = due
due_unread r MultipleFrameEstablished asked leaving role control m n closed due = cc
due_unread r TimerRecovery asked leaving role control m n closed due = cc

first_unread : (r : Reading) (frames : List Flight) (vs va vr : ℕ) (e : End) → reads e ≡ false
    → IsFirstDue r frames e → IsFirstDue r frames (with_numbers vs va vr e)
first_unread r [] vs va vr e closed due = tt
first_unread r (frame ∷ rest) vs va vr e closed due =
    due_unread r e.state e.layer3_initiated e.release_pending frame.role frame.control e.window _
    closed due

first_alike : (r : Reading) (frames before : List Flight) (s t : Station) → frames ≡ before
    → StationAlike s t → IsFirstDue r before s.end → IsFirstDue r frames t.end
first_alike r frames before s t are (equal is) due =
    subst (λ l. IsFirstDue r l t.end) (sym are)
    (subst (λ x. IsFirstDue r before x.end) (sym is) due)
first_alike r frames before s t are (renumbered vs va vr closed is) due =
    subst (λ l. IsFirstDue r l t.end) (sym are)
    (subst (λ x. IsFirstDue r before x.end) (sym is)
    (first_unread r before vs va vr s.end closed due))

due_alike : (r : Reading) (w u : World) → WorldAlike w u → AreFirstDue r w → AreFirstDue r u
due_alike r w u a due = record {
  to_user = first_alike r u.to_user w.to_user w.user u.user a.to_user a.user due.to_user;
  to_network =
      first_alike r u.to_network w.to_network w.network u.network a.to_network a.network
      due.to_network;
}

-- no old message
fresh_frame : (s t : Station) (role : Role) (control : Control) (place : ℕ) → SeemsAlike s t
    → IsFresh s role control place → IsFresh t role control place
fresh_frame s t Command (I ns nr p) place a fresh = rw (a.history, a.era) fresh
fresh_frame s t role control place a fresh = fresh

fresh_frames : (s t : Station) (frames : List Flight) → SeemsAlike s t → AreFresh s frames
    → AreFresh t frames
fresh_frames s t [] a fresh = tt
fresh_frames s t (frame ∷ rest) a fresh = (
  fresh_frame s t frame.role frame.control frame.place a fresh.0,
  fresh_frames s t rest a fresh.1,
)

fresh_alike : (w u : World) → WorldAlike w u → AllAreFresh w → AllAreFresh u
fresh_alike w u a fresh =
    let user = seems_alike w.user u.user a.user in
    let network = seems_alike w.network u.network a.network in
    record {
      to_user =
          λ opened. subst (λ l. AreFresh u.network l) (sym a.to_user)
          (fresh_frames w.network u.network w.to_user network
          (fresh.to_user (ap is_7_or_8 (sym user.state) ∙ opened)));
      to_network =
          λ opened. subst (λ l. AreFresh u.user l) (sym a.to_network)
          (fresh_frames w.user u.user w.to_network user
          (fresh.to_network (ap is_7_or_8 (sym network.state) ∙ opened)));
    }

-- ---- From a new world.

reached : (r : Reading) (user network : Parameters) (moves : List Move)
    → WorldAlike (run_keeping r moves (new_world user network))
    (run_quickly r moves (new_world user network))
reached r user network moves =
    run_alike r moves (new_world user network) (new_world user network)
    (record { user = equal refl; network = equal refl; to_user = refl; to_network = refl })

pub every_quick_run_safe : (r : Reading) (user network : Parameters) → user.k ≤ 127
    → network.k ≤ 127 → (moves : List Move) → AreSafe (run_quickly r moves (new_world user network))
every_quick_run_safe r user network u n moves =
    safe_alike _ _ (reached r user network moves) (keeping_run_safe r user network u n moves)

pub every_quick_run_reports : (r : Reading) (user network : Parameters) → user.k ≤ 127
    → network.k ≤ 127 → (moves : List Move)
    → AllReportsExpected (outcomes_quickly r moves (new_world user network))
every_quick_run_reports r user network u n moves =
    reports_alike r moves (new_world user network) (new_world user network)
    (reached r user network []) (keeping_run_reports r user network u n moves)

pub every_quick_run_is_due : (r : Reading) (user network : Parameters) → user.k ≤ 127
    → network.k ≤ 127 → (moves : List Move)
    → AreFirstDue r (run_quickly r moves (new_world user network))
every_quick_run_is_due r user network u n moves =
    due_alike r _ _ (reached r user network moves) (keeping_run_is_due r user network u n moves)

pub every_quick_run_is_fresh : (r : Reading) (user network : Parameters) → user.k ≤ 127
    → network.k ≤ 127 → (moves : List Move)
    → AllAreFresh (run_quickly r moves (new_world user network))
every_quick_run_is_fresh r user network u n moves =
    fresh_alike _ _ (reached r user network moves) (keeping_run_is_fresh r user network u n moves)

-- ---- A property of a station that reads none of the three numbers.

module _ (P : Station → Type 0)
    (unread : (vs va vr : ℕ) (s : Station) → P s → P (numbered vs va vr s)) where
  station_so : (s t : Station) → StationAlike s t → P s → P t
  station_so s t (equal is) h = subst P (sym is) h
  station_so s t (renumbered vs va vr closed is) h = subst P (sym is) (unread vs va vr s h)

  pub quick_user_so : (r : Reading) (user network : Parameters) (moves : List Move)
      → P (run_keeping r moves (new_world user network)).user
      → P (run_quickly r moves (new_world user network)).user
  quick_user_so r user network moves h = station_so _ _ (reached r user network moves).user h

  pub quick_network_so : (r : Reading) (user network : Parameters) (moves : List Move)
      → P (run_keeping r moves (new_world user network)).network
      → P (run_quickly r moves (new_world user network)).network
  quick_network_so r user network moves h = station_so _ _ (reached r user network moves).network h
