-- Each holding of a TEI is right, with old frames of its link in transit to the terminal, if sides
-- restart too.
use Rattle.std.proofs.Common.{◌≡◌, inr, ℕ, ◌==◌, ◌<◌, ◌≤◌, List, [], ◌∷◌, ◌++◌, map, Bool, true, false, Option, Some, None, refl, subst}
use Rattle.std.specs.Prelude.{slice_get}
use Rattle.lapd_table.specs.declared.link_id.LinkId.{LinkId}
use Rattle.lapd_sides_links.specs.Links.{parameters_for}
use Rattle.lapd_sides.specs.User.{User}
use Rattle.lapd_side_events.specs.Bus.{Bus, BusEvent, OfTerminal, OfNetwork, Join, Restart, KeepsTerminal, recorded_anew, from_now, reached_by, bus_step, interface_of, overheard, by_network_of, network_moves, terminal_moves, moves_of}
use Rattle.lapd_side_events.specs.Interface.{Configs, Interface, from_here}
use Rattle.lapd_side_events.specs.SideView.{SideView, SideEvent}
use Rattle.lapd_side_events.proofs.Indices.{equal_index}
use Rattle.lapd_two_side_laws.specs.Establishments.{nothing_recorded}
use Rattle.lapd_bus_laws.specs.Assignments.{is_taken}
use Rattle.lapd_bus_laws.specs.Holdings.{Assigns, IsClearToNetwork, IsOfBus, IsOnlyClaimant, KeepsTeisApart}
use Rattle.lapd_bus_laws.proofs.Holding.{assigned_now}
use Rattle.lapd_bus_laws.proofs.PremisesOfInterface.{aside_now, there_now}
use Rattle.lapd_bus_laws.proofs.Single.{KeepsApart}
use Rattle.lapd_restart_laws.specs.RestartPremises.{KeepPremises}
use Rattle.lapd_restart_laws.specs.RestartRuns.{moved}
use Rattle.lapd_restart_laws.specs.Restarts.{Change, Moves, changes, records_across, run_across}
use Rattle.lapd_restart_laws.specs.SafeAcross.{IsRightNow}
use Rattle.lapd_restart_laws.proofs.Across.{safe_across}
use Rattle.lapd_bus_restart_laws.specs.BusAcross.{ThroughoutAcross, changes_along, changes_of, step_across, terminal_changes}
use Rattle.lapd_bus_restart_laws.specs.HoldingsAcross.{IsReachedAcross, KeepsHoldingAcross}
use Rattle.lapd_bus_restart_laws.specs.OldFrames.{RestartsClear}
use Rattle.lapd_bus_restart_laws.proofs.ApartAcross.{kept_apart_across}
use Rattle.lapd_bus_restart_laws.proofs.AtAssignment.{absent_now, each_here, none_for, none_sent, same_right, sent_at, untaken_now}
use Rattle.lapd_bus_restart_laws.proofs.FollowedAcross.{one_across}
use Rattle.lapd_bus_restart_laws.proofs.HoldingAcross.{link_keeps, sole_across}
use Rattle.lapd_bus_restart_laws.proofs.LinkSafe.{all_keep}
use Rattle.lapd_bus_restart_laws.proofs.LockStep.{all_without, replaced}
use Rattle.lapd_bus_restart_laws.proofs.LockStepAcross.{ArePlainChanges, in_step_across}

module _ (c : Configs) (id : LinkId) (low : id.tei < 127) (i : ℕ) where
  -- ---- The changes of a terminal's interface.

  changes_both : (first later : List Change) (k : Interface) → ArePlainChanges c id low i first k
      → ArePlainChanges c id low i later (run_across c first k)
      → ArePlainChanges c id low i (first ++ later) k
  changes_both [] later k a b = b
  changes_both (change ∷ first) later k a b = (
    a.0,
    changes_both first later (changes c change k) a.1 b,
  )

  network_plain : (es : List SideEvent) (k : Interface)
      → ArePlainChanges c id low i (moved (map by_network_of es)) k
  network_plain [] k = tt
  network_plain (e ∷ es) k = (tt, network_plain es (changes c (Moves (by_network_of e)) k))

  pub moves_plain : (e : BusEvent) (b : Bus) (k : Interface) → KeepsTerminal i e
      → ArePlainChanges c id low i (moved (moves_of i e b)) k
  moves_plain (OfTerminal j event) b k ok = by (j == i)
    where
      by : (test : Bool) → ArePlainChanges c id low i (moved (terminal_moves test event)) k
      by true = (ok, tt)
      by false = tt
  moves_plain (OfNetwork j event) b k ok = by (j == i) (slice_get b.terminals j)
    where
      by : (test : Bool) (o : Option (SideView User))
          → ArePlainChanges c id low i (moved (network_moves test event o)) k
      by true None = tt
      by false None = tt
      by true (Some u) = (tt, tt)
      by false (Some u) = network_plain (overheard event u.outgoing) k
  moves_plain (Join j new) b k ok = tt
  moves_plain (Restart known) b k ok = tt

  event_plain : (e : BusEvent) (t : SideView User) (b : Bus) → slice_get b.terminals i ≡ Some t
      → IsOfBus e → RestartsClear id i e b
      → ArePlainChanges c id low i (changes_of i e b) (interface_of t b)
  event_plain (OfTerminal j event) t b at ok clear =
      moves_plain (OfTerminal j event) b (interface_of t b) ok
  event_plain (OfNetwork j event) t b at ok clear =
      moves_plain (OfNetwork j event) b (interface_of t b) ok
  event_plain (Join j new) t b at ok clear = by (j == i) refl
    where
      by : (test : Bool) → (j == i) ≡ test
          → ArePlainChanges c id low i (terminal_changes test new) (interface_of t b)
      by true is = ((λ fixed none. clear (equal_index j i is) fixed t at none), tt)
      by false is = tt
  event_plain (Restart known) t b at ok clear = (tt, tt)

  along_plain : (events : List BusEvent) (t : SideView User) (b : Bus)
      → slice_get b.terminals i ≡ Some t
      → ThroughoutAcross c (KeepsHoldingAcross c id i) events b
      → ThroughoutAcross c (RestartsClear id i) events b
      → ArePlainChanges c id low i (changes_along c i events b) (interface_of t b)
  along_plain [] t b at is clear = tt
  along_plain (e ∷ es) t b at is clear =
      let first = one_across c i t b at e is.0.of_bus in
      let along = changes_along c i es (step_across c e b) in
      changes_both (changes_of i e b) along (interface_of t b)
      (event_plain e t b at is.0.of_bus clear.0)
      (subst (ArePlainChanges c id low i along) first.moved
      (along_plain es first.terminal (step_across c e b) first.there is.1 clear.1))

-- ---- From the assignment on.

-- what layer 3 knows after these changes, which keep the premises and are plain
module _ (c : Configs) (id : LinkId) (low : id.tei < 127) (i : ℕ) (b : Bus) (j : ℕ)
    (event : SideEvent) (before : KeepsApart c b) (is : KeepsTeisApart c (OfNetwork j event) b)
    (assigned : Assigns c id.tei (OfNetwork j event) b)
    (clear : IsClearToNetwork id (bus_step c (OfNetwork j event) b))
    (small_p : (parameters_for c.user id.sapi).k ≤ 127)
    (small_q : (parameters_for c.network id.sapi).k ≤ 127) (along : List Change) where
  abbrev Now : Bus
  Now = bus_step c (OfNetwork j event) b

  abbrev Frames : List (List ℕ)
  Frames = sent_at c id low i b j event before is assigned

  abbrev Start : SideView User → Interface
  Start t = from_here (interface_of t Now)

  abbrev Right : SideView User → Type 0
  Right t = KeepPremises c id along (Start t) → ArePlainChanges c id low i along (Start t)
      → IsRightNow id (run_across c along (Start t)) (records_across c id along (Start t))

  right_for : (u : SideView User) → is_taken id.tei u ≡ false
      → slice_get Now.terminals i ≡ Some (reached_by Frames u) → Right (reached_by Frames u)
  right_for u none at keep plain =
      let t : SideView User = reached_by Frames u in
      let k : Interface = Start t in
      let step = in_step_across c id low i along u.incoming Frames k plain
      (untaken_now c id low i b j event before is assigned t at u none clear) keep in
      let safe = safe_across c id low small_p small_q (record (interface_of t Now) {
        to_user = all_without c id low i u.incoming ++ Frames;
      }) (inr (record {
        absent = absent_now c id low i b j event before is assigned t at;
        end = refl;
      })) (assigned_now c id b (OfNetwork j event) before is assigned).network
      (none_for c id low i u.incoming Frames (none_sent c id low i b j event before is assigned))
      (clear i t at) along step.keep in
      let masked : Interface = replaced c id low i u.incoming Frames k in
      same_right id (run_across c along k) (run_across c along masked)
      (records_across c id along masked) (records_across c id along k) step.line step.ran
      (step.recorded (record { user = nothing_recorded; network = nothing_recorded })) safe.right

  pub right_along : (t : SideView User) → slice_get Now.terminals i ≡ Some t → Right t
  right_along = each_here c id low i b j event before is assigned Right right_for

pub right_behind_across : (c : Configs) (id : LinkId) (i : ℕ) (b : Bus) (e : BusEvent)
    (after : List BusEvent) (t : SideView User) → id.tei < 127
    → (parameters_for c.user id.sapi).k ≤ 127 → (parameters_for c.network id.sapi).k ≤ 127
    → IsReachedAcross c b → KeepsTeisApart c e b → Assigns c id.tei e b
    → slice_get (step_across c e b).terminals i ≡ Some t
    → IsOnlyClaimant id.tei i (step_across c e b) → IsClearToNetwork id (step_across c e b)
    → ThroughoutAcross c (KeepsHoldingAcross c id i) after (from_now (step_across c e b))
    → ThroughoutAcross c (RestartsClear id i) after (from_now (step_across c e b))
    → IsRightNow id (run_across c (changes_along c i after (from_now (step_across c e b)))
    (from_here (interface_of t (step_across c e b))))
    (records_across c id (changes_along c i after (from_now (step_across c e b)))
    (from_here (interface_of t (step_across c e b))))
right_behind_across c id i b (OfNetwork j event) after t low small_p small_q reached is assigned at
    only clear keeps restarts =
    let now = bus_step c (OfNetwork j event) b in
    let there = there_now i t now at in
    right_along c id low i b j event (kept_apart_across c b reached) is assigned clear small_p
    small_q (changes_along c i after (from_now now)) t at
    (all_keep c id low i after (recorded_anew t) (from_now now) there
    (aside_now c id low i now
    (sole_across c id low i b (OfNetwork j event) after reached is only clear keeps))
    (link_keeps c id low i b (OfNetwork j event) after reached is only clear keeps))
    (along_plain c id low i after (recorded_anew t) (from_now now) there keeps restarts)
right_behind_across c id i b (OfTerminal j event) after t low small_p small_q reached is impossible
    at
    only clear keeps restarts = absurd impossible
right_behind_across c id i b (Join j new) after t low small_p small_q reached is impossible at only
    clear
    keeps restarts = absurd impossible
right_behind_across c id i b (Restart known) after t low small_p small_q reached is impossible at
    only
    clear keeps restarts = absurd impossible
