-- The reports of a move, and the frames that arrive (Q.921 Appendix II).
use Rattle.std.specs.Prelude.{List, [], ◌∷◌, Result, Ok, Err}
use Rattle.lapd_mod128.specs.Counting.{Reading}
use Rattle.lapd_link_definition.specs.End.{End}
use Rattle.lapd_link_definition.specs.Input.{Heard}
use Rattle.lapd_link_definition.specs.Reports.{AreExpected, IsDue}
use Rattle.lapd_pair_laws.specs.Line.{Flight}
use Rattle.lapd_pair_laws.specs.Move.{Refusal}
use Rattle.lapd_pair_laws.specs.World.{World, Happened}

-- a move reports only F, G, H and I
abbrev pub ReportsExpected : Result Happened Refusal → Type 0
ReportsExpected (Ok happened) = AreExpected happened.outs
ReportsExpected (Err refusal) = Unit {0}

-- and so does a list of moves
abbrev pub AllReportsExpected : List (Result Happened Refusal) → Type 0
AllReportsExpected [] = Unit {0}
AllReportsExpected (outcome ∷ outcomes) = ReportsExpected outcome × AllReportsExpected outcomes

-- the first of these frames is due to this end: its N(R) is valid, and it is no unsolicited
-- response
abbrev pub IsFirstDue : Reading → List Flight → End → Type 0
IsFirstDue r [] e = Unit {0}
IsFirstDue r (frame ∷ rest) e = IsDue r (Heard frame.control frame.role) e

-- in both directions
pub record AreFirstDue (r : Reading) (w : World) : Type 0 where
  pub to_user : IsFirstDue r w.to_user w.user.end
  pub to_network : IsFirstDue r w.to_network w.network.end
