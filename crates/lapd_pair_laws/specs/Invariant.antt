-- The invariant of two ends and the line between them, over whole numbers. It holds between two
-- moves, and also in the middle of a step.
use Rattle.std.specs.Prelude.{◌≡◌, ℕ, ◌+◌, ◌<◌, ◌≤◌, true, List, Option}
use Rattle.lapd_mod128.specs.Counting.{Whole}
use Rattle.lapd_link_definition.specs.EndOfStep.{is_7_or_8}
use Rattle.lapd_link_definition.specs.Sound.{IsSound}
use Rattle.lapd_pair_laws.specs.World.{World}
use Rattle.lapd_pair_laws.specs.Kinds.{Kind, kinds}
use Rattle.lapd_pair_laws.specs.Parties.{Party, Reception, receives, OnReception, party}
use Rattle.lapd_pair_laws.specs.Conjuncts.{high, latest, is_holding, IsConsistentSender, IsPast, IsReceivable, most_asks, IsExchange, AreHistories}

-- The invariant of x as the sender to y. `out` is in transit to y and `back` to x; of these y will
-- process `there` and x `here`.
pub record IsSpeaking (x y : Party) (out back : List Kind) (here there : Option Reception) :
    Type 0 where
  pub preserved : IsConsistentSender x.state x.asked x.leaving x.sends
  pub passed : x.sends.passed ≡ x.sends.first
  pub past : IsPast x.sends
  pub lately : latest x.takes.received ≤ x.sends.era
  pub none_yet : is_7_or_8 x.state ≡ true → x.takes.vr ≡ 0 → latest x.takes.received < x.sends.era
  pub below : is_holding x.state x.asked x.leaving ≡ true
      → high y.takes.received ≤ x.sends.base + x.sends.vs
  pub reception : OnReception (IsReceivable x y here) there
  pub exchange : IsExchange (most_asks x.state) out back
  pub histories : AreHistories x.sends.given x.sends.sent_in x.sends.acked y.takes.received

abbrev pub Half : Party → Party → List Kind → List Kind → Type 0
Half x y out back = IsSpeaking x y out back (receives x back) (receives y out)

-- both directions
pub record Both (x y : Party) (out back : List Kind) : Type 0 where
  pub mine : Half x y out back
  pub its : Half y x back out

-- The invariant of a world, for some place of message number 0 of each side's present
-- establishment.
pub record IsInvariant (w : World) : Type 0 where
  pub user_base : ℕ
  pub network_base : ℕ
  pub both : Both (party user_base w.user) (party network_base w.network) (kinds w.to_network)
      (kinds w.to_user)
  pub user_sound : IsSound Whole w.user.end
  pub network_sound : IsSound Whole w.network.end
  pub user_window : w.user.end.parameters.k ≤ 127
  pub network_window : w.network.end.parameters.k ≤ 127
