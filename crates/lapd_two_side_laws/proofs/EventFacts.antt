-- Facts about steps and lists that the events of a side use.
use Rattle.std.proofs.Common.{◌≡◌, Option, Some, Ok, refl, arith}
use Rattle.lapd_timers.specs.declared.timer.Timer.{Timer}
use Rattle.lapd_mod128.specs.Counting.{Tagged}
use Rattle.lapd_link_definition.specs.EndOfStep.{end_step}
use Rattle.lapd_link_definition.specs.End.{End, begin}
use Rattle.lapd_link_definition.specs.Input.{Heard, Expiry}
use Rattle.lapd_link_definition.specs.Table.{row, step}
use Rattle.lapd_pair_laws.specs.Line.{Flight}
use Rattle.lapd_sides_links.specs.Links.{Linked}

pub same_linked : (a b : Linked) (o : Option Linked) → o ≡ Some a → o ≡ Some b → a ≡ b
same_linked a b o p q = cc

-- a received frame is never refused
pub received_is_done : (frame : Flight) (e : End)
    → step Tagged (Heard frame.control frame.role) e
    ≡ Ok (end_step Tagged (row Tagged e.state (Heard frame.control frame.role) (begin e)))
unfolding step
received_is_done frame e = refl

pub expiry_is_done : (timer : Timer) (e : End)
    → step Tagged (Expiry timer) e
    ≡ Ok (end_step Tagged (row Tagged e.state (Expiry timer) (begin e)))
unfolding step
expiry_is_done timer e = refl
