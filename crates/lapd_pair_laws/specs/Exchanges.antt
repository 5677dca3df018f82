-- A side has at most one establishment or release outstanding. Of its SABME and DISC commands and
-- the UA and DM responses to them, at most one is in transit, and only in states 5 and 6 (Q.921
-- 5.5.1, 5.5.3).
use Rattle.std.specs.Prelude.{ℕ, ◌+◌, ◌≤◌}
use Rattle.lapd_frame.specs.declared.Side.TheVariants.{User, Network}
use Rattle.lapd_pair_laws.specs.Move.{View}
use Rattle.lapd_pair_laws.specs.World.{World, view_of}
use Rattle.lapd_pair_laws.specs.Conjuncts.{most_asks}
use Rattle.lapd_pair_laws.specs.Kinds.{kinds, tally, ask_of, answer_of}

-- how many of these frames are in transit
abbrev pub exchanges_of : View → ℕ
exchanges_of v = tally ask_of (kinds v.outgoing) + tally answer_of (kinds v.incoming)

pub record AskOneAtATime (w : World) : Type 0 where
  pub user : exchanges_of (view_of User w) ≤ most_asks w.user.end.state
  pub network : exchanges_of (view_of Network w) ≤ most_asks w.network.end.state
