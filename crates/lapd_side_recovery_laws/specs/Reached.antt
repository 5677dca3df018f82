-- The interfaces and clocks that two newly created sides reach, by moves that meet the premises of
-- a safe link.
use Rattle.std.specs.Prelude.{◌≡◌, ℕ, ◌≤◌, List, [], ◌∷◌, Option, Some}
use Rattle.rand_pcg.specs.Lcg.{Lcg}
use Rattle.lapd_timers.specs.Durations.{Lengths}
use Rattle.lapd_link_definition.specs.Parameters.{Parameters}
use Rattle.lapd_table.specs.declared.link_id.LinkId.{LinkId}
use Rattle.lapd_sides_links.specs.Links.{Linked, Links}
use Rattle.lapd_sides.specs.Network.{new_network}
use Rattle.lapd_sides.specs.User.{new_user}
use Rattle.lapd_recovery_laws.specs.Own.{IsFree}
use Rattle.lapd_side_events.specs.Interface.{Configs, Interface, Move, happens, new_interface, run}
use Rattle.lapd_two_side_laws.specs.ExactTimers.{OverhearOctets}
use Rattle.lapd_two_side_laws.specs.Premises.{LeaveTeiTaken}
use Rattle.lapd_clock_laws.specs.Clock.{Clock, clock_after, new_clock}
use Rattle.lapd_clock_laws.specs.InTime.{AreInTime, OverhearOthers}

-- two newly created sides
abbrev pub created : Configs → Option ℕ → List ℕ → Lcg → Interface
created c fixed known random =
    new_interface (new_user c.user fixed random) (new_network c.network known)

-- the clock after these moves
abbrev pub clock_of : Configs → List Move → Interface → Clock → Clock
clock_of c [] i k = k
clock_of c (move ∷ moves) i k =
    clock_of c moves (happens c move i) (clock_after c move.side move.event i k)

-- The premises of `each_link_in_time_is_safe` on moves. A side that overhears anything overhears
-- octets, and none of the link.
pub record MeetPremises (longest : ℕ) (c : Configs) (id : LinkId) (moves : List Move)
    (i : Interface) (k : Clock) : Type 0 where
  pub in_time : AreInTime longest c id moves i k
  pub taken : LeaveTeiTaken c id moves i
  pub others : OverhearOthers id moves
  pub octets : OverhearOctets moves

-- some moves of newly created sides lead here
pub record HaveReached (longest : ℕ) (c : Configs) (id : LinkId) (i : Interface) (k : Clock) :
    Type 0 where
  pub fixed : Option ℕ
  pub known : List ℕ
  pub random : Lcg
  pub start : ℕ
  pub before : List Move
  pub premises : MeetPremises longest c id before (created c fixed known random) (new_clock start)
  pub interface : i ≡ run c before (created c fixed known random)
  pub clock : k ≡ clock_of c before (created c fixed known random) (new_clock start)

-- ---- The link.

-- the link exists, and its end is not own receiver busy in states 7 and 8 (Q.921 5.6.6)
pub record HasFreeLink (id : LinkId) (links : Links) : Type 0 where
  pub linked : Linked
  pub there : links id ≡ Some linked
  pub free : IsFree linked.end

-- on both sides
pub record HaveFreeLinks (id : LinkId) (i : Interface) : Type 0 where
  pub user : HasFreeLink id i.user.served.links
  pub network : HasFreeLink id i.network.served.links

-- a window of 1 to 127 messages, and an N200 of at most `n200`
pub record AreWithin (n200 : ℕ) (p : Parameters) : Type 0 where
  pub low : 1 ≤ p.k
  pub high : p.k ≤ 127
  pub retries : p.n200 ≤ n200

-- T200 and T203 run at most this long
pub record RunAtMost (t200 t203 : ℕ) (lengths : Lengths) : Type 0 where
  pub of_200 : lengths.t200 ≤ t200
  pub of_203 : lengths.t203 ≤ t203
