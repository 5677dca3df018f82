-- Every link that is in time is safe.
use Rattle.std.proofs.Common.{◌≡◌, ℕ, ◌≤◌, ◌<◌, List, Option, Some, sym, subst, ◌∙◌}
use Rattle.rand_pcg.specs.Lcg.{Lcg}
use Rattle.lapd_timers.specs.Durations.{Lengths}
use Rattle.lapd_link_definition.specs.Parameters.{Parameters}
use Rattle.lapd_table.specs.declared.link_id.LinkId.{LinkId}
use Rattle.lapd_sides.specs.Network.{new_network}
use Rattle.lapd_sides.specs.User.{new_user}
use Rattle.lapd_sides_links.specs.Links.{Linked, new_linked, parameters_for}
use Rattle.lapd_side_events.specs.Interface.{Configs, Interface, Move, from_here, new_interface}
use Rattle.lapd_two_side_laws.specs.Premises.{GiveTeiOnce, LeaveTeiTaken}
use Rattle.lapd_two_side_laws.specs.Projects.{IsSafeAt}
use Rattle.lapd_two_side_laws.proofs.AsMade.{made_link_safe}
use Rattle.lapd_two_side_laws.proofs.Whole.{link_safe_from}
use Rattle.lapd_clock_laws.specs.Clock.{Clock, Shows, new_clock}
use Rattle.lapd_clock_laws.specs.InTime.{AreInTime, HasLongT200, IsClear, IsLongEnough, OverhearOthers}
use Rattle.lapd_clock_laws.proofs.EveryRun.{made_timely, timely_from}

new_is_long : (longest : ℕ) (link : Option Linked) (p : Parameters) (m : Lengths)
    → link ≡ Some (new_linked p m) → IsLongEnough longest m → HasLongT200 longest link
new_is_long longest link p m is enough l there =
    subst (λ (x : Linked). IsLongEnough longest x.timers.durations)
    (same (new_linked p m) l (sym is ∙ there)) enough
  where
    same : (a b : Linked) → Some a ≡ Some b → a ≡ b
    same a b h = cc

module _ (c : Configs) (id : LinkId) (low : id.tei < 127) (longest : ℕ) (positive : 0 < longest)
    (user_long : IsLongEnough longest c.user.durations)
    (network_long : IsLongEnough longest c.network.durations) where
  pub made_safe : (start : ℕ) (fixed : Option ℕ) (known : List ℕ) (random : Lcg)
      → (parameters_for c.user id.sapi).k ≤ 127 → (parameters_for c.network id.sapi).k ≤ 127
      → (moves : List Move) → OverhearOthers id moves
      → AreInTime longest c id moves
      (new_interface (new_user c.user fixed random) (new_network c.network known))
      (new_clock start)
      → LeaveTeiTaken c id moves
      (new_interface (new_user c.user fixed random) (new_network c.network known))
      → IsSafeAt c id moves
      (new_interface (new_user c.user fixed random) (new_network c.network known))
  made_safe start fixed known random small_p small_q moves others in_time taken =
      made_link_safe c id fixed known random low small_p small_q moves (
        made_timely c id low longest positive user_long network_long fixed known random start
            moves others in_time,
        taken,
      )

  pub safe_from : (i : Interface) (k : Clock) (p q : Parameters) (m n : Lengths)
      → IsLongEnough longest m → IsLongEnough longest n → p.k ≤ 127 → q.k ≤ 127
      → i.user.served.links id ≡ Some (new_linked p m)
      → i.network.served.links id ≡ Some (new_linked q n)
      → Shows k i → IsClear id i → (moves : List Move) → OverhearOthers id moves
      → AreInTime longest c id moves (from_here i) k → GiveTeiOnce c id moves (from_here i)
      → IsSafeAt c id moves (from_here i)
  safe_from i k p q m n long_m long_n small_p small_q of_user of_network shows none moves others
      in_time once =
      link_safe_from c id low p q small_p small_q i m n of_user of_network none.to_user
      none.to_network moves (
        timely_from c id low longest positive user_long network_long (from_here i) k
            (record { to_user = shows.to_user; to_network = shows.to_network })
            (record { to_user = none.to_user; to_network = none.to_network })
            (new_is_long longest (i.user.served.links id) p m of_user long_m)
            (new_is_long longest (i.network.served.links id) q n of_network long_n) moves others
            in_time,
        once,
      )
