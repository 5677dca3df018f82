-- Freshness: a message in transit to an end in state 7 or 8 was last sent in its sender's present
-- establishment.
use Rattle.std.specs.Prelude.{◌≡◌, ℕ, true, List, [], ◌∷◌, Some}
use Rattle.lapd_frame.specs.declared.Role.{Role}
use Rattle.lapd_frame.specs.declared.Role.TheVariants.{Command}
use Rattle.lapd_frame.specs.declared.Control.{Control}
use Rattle.lapd_frame.specs.declared.Control.TheVariants.{I}
use Rattle.lapd_link_definition.specs.EndOfStep.{is_7_or_8}
use Rattle.lapd_pair_laws.specs.Line.{Flight}
use Rattle.lapd_pair_laws.specs.Move.{Station}
use Rattle.lapd_pair_laws.specs.World.{World}

-- the message of this I frame was last sent in its sender's present establishment
abbrev pub IsFresh : Station → Role → Control → ℕ → Type 0
IsFresh sender Command (I ns nr p) place = sender.history.sent_in place
    ≡ Some sender.end.establishments
IsFresh sender role control place = Unit {0}

-- the same for each of these frames
abbrev pub AreFresh : Station → List Flight → Type 0
AreFresh sender [] = Unit {0}
AreFresh sender (frame ∷ rest) = IsFresh sender frame.role frame.control frame.place
    × AreFresh sender rest

-- frames in transit to an end in state 7 or 8, in both directions
pub record AllAreFresh (w : World) : Type 0 where
  pub to_user : is_7_or_8 w.user.end.state ≡ true → AreFresh w.network w.to_user
  pub to_network : is_7_or_8 w.network.end.state ≡ true → AreFresh w.user w.to_network
