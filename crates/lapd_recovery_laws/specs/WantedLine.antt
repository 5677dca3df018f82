-- A line that one end wants and neither releases, with frames in transit or not.
use Rattle.std.specs.Prelude.{◌≡◌, ◌⊎◌, ◌<◌, Bool, true, false, List, [], ◌∷◌}
use Rattle.lapd_frame.specs.declared.Control.{Control}
use Rattle.lapd_frame.specs.declared.Control.TheVariants.{Dm}
use Rattle.lapd_mod128.specs.Counting.{Reading}
use Rattle.lapd_link_definition.specs.declared.state.State.TheVariants.{AwaitingEstablishment, AwaitingRelease}
use Rattle.lapd_link_definition.specs.EndOfStep.{is_7_or_8}
use Rattle.lapd_link_definition.specs.End.{End}
use Rattle.lapd_pair_laws.specs.Line.{Flight}
use Rattle.lapd_pair_laws.specs.Move.{Move}
use Rattle.lapd_pair_laws.specs.World.{World, run}
use Rattle.lapd_recovery_laws.specs.Agreed.{AreLevel}
use Rattle.lapd_recovery_laws.specs.EarlyTimers.{AreLineMoves}
use Rattle.lapd_recovery_laws.specs.Losses.{losses}
use Rattle.lapd_recovery_laws.specs.Own.{Rests}

-- not in state 6, and no release is pending in state 5
pub record IsKept (e : End) : Type 0 where
  pub not_releasing : e.state ≡ AwaitingRelease → ⊥
  pub none_pending : e.state ≡ AwaitingEstablishment → e.release_pending ≡ false

-- in state 7 or 8, or in state 5 with a retransmission left
abbrev pub IsWanting : End → Type 0
IsWanting e = (is_7_or_8 e.state ≡ true)
    ⊎ ((e.state ≡ AwaitingEstablishment) × (e.rc < e.parameters.n200))

-- one end holds the link up or establishes it, and neither releases
pub record AreWanting (x y : End) : Type 0 where
  pub mine : IsKept x
  pub its : IsKept y
  pub either : IsWanting x ⊎ IsWanting y

abbrev pub is_dm : Control → Bool
is_dm (Dm f) = true
is_dm control = false

-- none of these frames is a DM
abbrev pub NoneRefused : List Flight → Type 0
NoneRefused [] = Unit {0}
NoneRefused (frame ∷ frames) = (is_dm frame.control ≡ false) × NoneRefused frames

-- An end wants the link, neither end releases it, and no DM is in transit.
pub record IsWanted (w : World) : Type 0 where
  pub ends : AreWanting w.user.end w.network.end
  pub to_user : NoneRefused w.to_user
  pub to_network : NoneRefused w.to_network

-- When no own move is possible any more, after deliveries and expired timers in any order, both ends
-- are in state 7, with equal numbers.
abbrev pub StaysUp : Reading → World → Type 0
StaysUp r w = (moves : List Move) → AreLineMoves r moves w → losses moves ≡ 0
    → Rests r (run r moves w) → AreLevel (run r moves w).user.end (run r moves w).network.end
