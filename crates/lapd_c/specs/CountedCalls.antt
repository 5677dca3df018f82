-- The counters of a side that counts, after several calls.
use Rattle.std.specs.Prelude.{◌≡◌, ℕ, List, [], ◌∷◌, fold, option_map}
use Rattle.lapd_frame.specs.declared.Side.{Side}
use Rattle.lapd_sides.specs.Either.{side_of}
use Rattle.lapd_sides_links.specs.Effects.{Effects}
use Rattle.lapd_c.specs.declared.held_side.HeldSide.{HeldSide}
use Rattle.lapd_c.specs.declared.link_counters.LinkCount.{LinkCount}
use Rattle.lapd_c.specs.Counters.{call_counted}

-- a call: the octets that the side receives by it, none by a request or a tick, and its effects
pub record CountedCall : Type 0 where
  pub received : List ℕ
  pub given : Effects

-- one call
abbrev pub one_call : List ℕ → Effects → List CountedCall
one_call octets given = record { received = octets; given = given } ∷ []

abbrev pub with_call : Side → List LinkCount → CountedCall → List LinkCount
with_call own counts call = call_counted own call.received call.given counts

-- the sum of these counters and of what these calls of this side add
abbrev pub with_calls : Side → List CountedCall → List LinkCount → List LinkCount
with_calls own calls counts = fold (with_call own) counts calls

-- if the side counts, these calls are counted, and nothing else; its kind stays
pub record Adds (calls : List CountedCall) (old new : HeldSide) : Type 0 where
  pub kind : side_of new.queued.side ≡ side_of old.queued.side
  pub counts : new.counts ≡ option_map (with_calls (side_of old.queued.side) calls) old.counts
