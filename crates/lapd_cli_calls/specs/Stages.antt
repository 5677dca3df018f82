-- The stages of a call, as both sides of a D channel see it (Q.931 5).
use Rattle.std.specs.Prelude.{ℕ, ◌==◌, ◌||◌, if◌then◌else◌, Bool, true, false}
use Rattle.lapd_frame.specs.declared.Side.{Side}
use Rattle.lapd_cli_calls.specs.declared.stage.Stage.{Stage}
use Rattle.lapd_cli_calls.specs.declared.stage.Stage.TheVariants.{Offered, Answered, Ended}

-- CONNECT: the call is answered (5.1.8, 5.2.8)
abbrev pub is_answer : ℕ → Bool
is_answer kind = kind == 0x07

-- DISCONNECT, RELEASE and RELEASE COMPLETE: a side clears the call (5.3)
abbrev pub is_clearing : ℕ → Bool
is_clearing kind = (kind == 0x45) || ((kind == 0x4D) || (kind == 0x5A))

-- a call that is not cleared, after a message of this type that this side sent
abbrev pub open_after : Bool → Stage → ℕ → Side → Stage
open_after was_answered stage kind from = if is_clearing kind
    then Ended (record { by = from; was_answered = was_answered })
    else (if is_answer kind then Answered else stage)

-- the stage after a message of this type that this side sent: the first clearing message ends the
-- call, and what follows changes nothing
abbrev pub stage_after : Stage → ℕ → Side → Stage
stage_after Offered kind from = open_after false Offered kind from
stage_after Answered kind from = open_after true Answered kind from
stage_after (Ended how) kind from = Ended how
