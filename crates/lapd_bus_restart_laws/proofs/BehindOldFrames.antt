-- Each holding of a TEI is right, with old frames of its link in transit to the terminal.
use Rattle.std.proofs.Common.{◌≡◌, ℕ, ◌<◌, ◌≤◌, List, [], ◌∷◌, ◌++◌, Some, refl, subst}
use Rattle.std.specs.Prelude.{slice_get}
use Rattle.std.specs.List.{AllByRecursion}
use Rattle.lapd_table.specs.declared.link_id.LinkId.{LinkId}
use Rattle.lapd_sides_links.specs.Links.{parameters_for}
use Rattle.lapd_sides.specs.User.{User}
use Rattle.lapd_side_events.specs.Bus.{Bus, BusEvent, OfTerminal, OfNetwork, Join, Restart, KeepsTerminal, from_now, bus_step, interface_of, moves_of, moves_along}
use Rattle.lapd_side_events.specs.Interface.{Configs, Interface, Move, from_here, happens}
use Rattle.lapd_side_events.specs.SideView.{SideView}
use Rattle.lapd_two_side_laws.specs.Establishments.{LinkRecords, nothing_recorded, records_of, run_recorded, side_recorded}
use Rattle.lapd_two_side_laws.specs.Projects.{IsRight}
use Rattle.lapd_bus_laws.specs.Holdings.{Assigns, IsClearToNetwork, IsOnlyClaimant, IsReached, KeepsHolding, KeepsTeisApart}
use Rattle.lapd_bus_laws.specs.Links.{Throughout}
use Rattle.lapd_bus_laws.proofs.Holding.{held_now, keeps_premises, link_kept, sole_now}
use Rattle.lapd_bus_laws.proofs.Single.{event_keeps}
use Rattle.lapd_bus_laws.proofs.TerminalsApart.{kept_apart}
use Rattle.lapd_restart_laws.specs.RestartRuns.{moved}
use Rattle.lapd_restart_laws.specs.Restarts.{Moves, changes, recorded_across, records_across, run_across}
use Rattle.lapd_restart_laws.specs.SafeAcross.{IsRightNow}
use Rattle.lapd_restart_laws.proofs.AcrossAsMade.{same_without}
use Rattle.lapd_bus_restart_laws.proofs.BehindAcross.{moves_plain, right_along}
use Rattle.lapd_bus_restart_laws.proofs.LinkSafe.{moved_keep}
use Rattle.lapd_bus_restart_laws.proofs.LockStepAcross.{ArePlainChanges}

-- ---- Moves are plain changes.

module _ (c : Configs) (id : LinkId) (low : id.tei < 127) (i : ℕ) where
  plain_both : (ms ns : List Move) (k : Interface) → ArePlainChanges c id low i (moved ms) k
      → ((m : Interface) → ArePlainChanges c id low i (moved ns) m)
      → ArePlainChanges c id low i (moved (ms ++ ns)) k
  plain_both [] ns k a b = b k
  plain_both (m ∷ ms) ns k a b = (a.0, plain_both ms ns (changes c (Moves m) k) a.1 b)

  all_plain : (events : List BusEvent) (b : Bus) → AllByRecursion (KeepsTerminal i) events
      → (k : Interface) → ArePlainChanges c id low i (moved (moves_along c i events b)) k
  all_plain [] b ok k = tt
  all_plain (e ∷ es) b ok k = plain_both (moves_of i e b) (moves_along c i es (bus_step c e b)) k
      (moves_plain c id low i e b k ok.0) (all_plain es (bus_step c e b) ok.1)

-- ---- What layer 3 knows after moves, as changes.

recorded_without : (c : Configs) (id : LinkId) (ms : List Move) (k : Interface) (r : LinkRecords)
    → recorded_across c id (moved ms) k r ≡ run_recorded c id ms k r
recorded_without c id [] k r = refl
recorded_without c id (m ∷ ms) k r =
    recorded_without c id ms (happens c m k) (side_recorded c id m.side m.event k r)

right_without : (c : Configs) (id : LinkId) (ms : List Move) (k : Interface)
    → IsRightNow id (run_across c (moved ms) k) (records_across c id (moved ms) k)
    → IsRight c id ms k
right_without c id ms k right =
    let h = subst (λ (x : Interface). IsRightNow id x (records_of c id ms k))
    (same_without c ms k)
    (subst (λ (r : LinkRecords). IsRightNow id (run_across c (moved ms) k) r)
    (recorded_without c id ms k (record { user = nothing_recorded; network = nothing_recorded }))
    right) in
    record {
      to_network = h.to_network;
      to_user = h.to_user;
      reports_to_user = h.reports_to_user;
      reports_to_network = h.reports_to_network;
    }

-- ---- From the assignment on.

pub right_behind_old_frames : (c : Configs) (id : LinkId) (i : ℕ) (b : Bus) (e : BusEvent)
    (after : List BusEvent) (t : SideView User) → id.tei < 127
    → (parameters_for c.user id.sapi).k ≤ 127 → (parameters_for c.network id.sapi).k ≤ 127
    → IsReached c b → KeepsTeisApart c e b → Assigns c id.tei e b
    → slice_get (bus_step c e b).terminals i ≡ Some t
    → IsOnlyClaimant id.tei i (bus_step c e b) → IsClearToNetwork id (bus_step c e b)
    → Throughout c (KeepsHolding c id i) after (from_now (bus_step c e b))
    → IsRight c id (moves_along c i after (from_now (bus_step c e b)))
    (from_here (interface_of t (bus_step c e b)))
right_behind_old_frames c id i b (OfNetwork j event) after t low small_p small_q reached is assigned
    at only clear keeps =
    let now = bus_step c (OfNetwork j event) b in
    let before = kept_apart c b reached in
    let apart = event_keeps c (OfNetwork j event) b is before in
    let held = held_now c id i now apart only in
    let moves = moves_along c i after (from_now now) in
    let k : Interface = from_here (interface_of t now) in
    right_without c id moves k
    (right_along c id low i b j event before is assigned clear small_p small_q (moved moves) t at
    (moved_keep c id low i moves k (keeps_premises c id low i now after keeps held
    (sole_now c id i now apart only clear) t at))
    (all_plain c id low i after (from_now now)
    (link_kept c id i after (from_now now) keeps held).terminal k))
right_behind_old_frames c id i b (OfTerminal j event) after t low small_p small_q reached is
    impossible
    at only clear keeps = absurd impossible
right_behind_old_frames c id i b (Join j new) after t low small_p small_q reached is impossible at
    only
    clear keeps = absurd impossible
right_behind_old_frames c id i b (Restart known) after t low small_p small_q reached is impossible
    at
    only clear keeps = absurd impossible
