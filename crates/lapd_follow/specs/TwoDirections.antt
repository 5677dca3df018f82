-- Both directions of a link, beside what the follower knows of its ends.
use Rattle.std.specs.Prelude.{◌≡◌, ℕ, Bool, false, Some}
use Rattle.lapd_frame.specs.declared.Role.{Role}
use Rattle.lapd_frame.specs.declared.Control.{Control}
use Rattle.lapd_frame.specs.declared.Control.TheVariants.{I, Rr, Rnr, Rej}
use Rattle.lapd_mod128.specs.Counting.{tag}
use Rattle.lapd_follow.specs.declared.numbering.Numbering.{Numbering}
use Rattle.lapd_follow.specs.Directions.{Acknowledges, Direction, GoesOn, InStep, Knows, Sends}
use Rattle.lapd_follow.specs.Exchange.{Exchange, answers_only_poll}

-- The direction of the I frames of the sender of a frame, and that of its peer.
pub record Directions : Type 0 where
  pub sending : Direction
  pub receiving : Direction

-- an S frame with this N(R)
abbrev pub SupervisesRight : Role → ℕ → Bool → Exchange → Directions → Directions → Type 0
SupervisesRight role nr pf x d e = (whole : ℕ) × (nr ≡ tag whole)
    × GoesOn d.sending e.sending
    × Acknowledges (answers_only_poll role pf x.to.polls) whole d.receiving e.receiving

-- An end that follows Q.921 sends this frame to one that does: its N(S) and N(R) are the tags of the
-- numbers that pass.
abbrev pub SendsRight : Control → Role → Exchange → Directions → Directions → Type 0
SendsRight (I ns nr p) role x d e = (sent : ℕ) × (whole : ℕ) × (ns ≡ tag sent) × (nr ≡ tag whole)
    × Sends sent p d.sending e.sending × Acknowledges false whole d.receiving e.receiving
SendsRight (Rr nr pf) role x d e = SupervisesRight role nr pf x d e
SendsRight (Rnr nr pf) role x d e = SupervisesRight role nr pf x d e
SendsRight (Rej nr pf) role x d e = SupervisesRight role nr pf x d e
SendsRight control role x d e = GoesOn d.sending e.sending × GoesOn d.receiving e.receiving

-- what is learned of both ends is so
pub record KnowsBoth (x : Exchange) (d : Directions) : Type 0 where
  pub sending : Knows x.from.learned d.sending
  pub receiving : Knows x.to.learned d.receiving

-- the numbers of both ends are those of the directions
pub record BothInStep (x : Exchange) (d : Directions) : Type 0 where
  pub own : Numbering
  pub peer : Numbering
  pub from : x.from.numbering ≡ Some own
  pub to : x.to.numbering ≡ Some peer
  pub sending : InStep own.next peer.nr d.sending
  pub receiving : InStep peer.next own.nr d.receiving
