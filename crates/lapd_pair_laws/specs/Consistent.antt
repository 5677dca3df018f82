-- Facts that hold in every world, and of a step's outputs while they are recorded one by one.
use Rattle.std.specs.Prelude.{◌≡◌, ℕ, ◌+◌, ◌-◌, ◌≤◌, ◌==◌, ◌||◌, nat_lt, Bool, true, false, List, [], ◌∷◌, length, None}
use Rattle.std.specs.List.{list_any}
use Rattle.lapd_frame.specs.Frame.{content_fault}
use Rattle.lapd_mod128.specs.Counting.{Reading}
use Rattle.lapd_link_definition.specs.declared.out.Out.{Out}
use Rattle.lapd_link_definition.specs.Counts.{leaving, AreCountedFirst, ArePlaced}
use Rattle.lapd_link_definition.specs.End.{End}
use Rattle.lapd_link_definition.specs.Input.{Input, Heard}
use Rattle.lapd_link_definition.specs.Numbers.{AreNumbers, HasNumbers}
use Rattle.lapd_link_definition.specs.Sound.{IsSound}
use Rattle.lapd_link_definition.specs.SentFrames.{AreWellFormed, AreShort}
use Rattle.lapd_pair_laws.specs.Histories.{History}
use Rattle.lapd_pair_laws.specs.Line.{Flight}
use Rattle.lapd_pair_laws.specs.Move.{Station}
use Rattle.lapd_pair_laws.specs.World.{World}

-- the place is one of these
abbrev pub is_one_of : List ℕ → ℕ → Bool
is_one_of places place = list_any (λ p. p == place) places

-- the places acknowledged or dropped are those before `passed`, each once
pub record AreSettled (h : History) : Type 0 where
  pub counted : h.passed ≡ length h.acked + length h.dropped
  pub settled : (place : ℕ) → (is_one_of h.acked place || is_one_of h.dropped place)
      ≡ nat_lt place h.passed

-- Of a side: the places of its waiting and unsent messages agree with V(A) and V(S), its window is
-- at most 127, its numbers are those of the reading, and its messages have at most N201 octets. Its
-- history agrees with its end in the first waiting message and the number of establishments. The
-- places acknowledged or dropped are those before that message. No message was sent that was not
-- submitted.
pub record IsConsistent (r : Reading) (s : Station) : Type 0 where
  pub sound : IsSound r s.end
  pub window : s.end.parameters.k ≤ 127
  pub numbers : AreNumbers r s.end.window
  pub short : AreShort s.end.given
  pub first : s.history.passed ≡ s.end.first
  pub settled : AreSettled s.history
  pub begun : length s.history.begun ≡ s.end.establishments
  pub unsent : (place : ℕ) → length s.end.given ≤ place → s.history.sent_in place ≡ None

-- each is a frame of the control table, with no more information than it may have (Q.921 Table 5)
abbrev pub AreProper : List Flight → Type 0
AreProper [] = Unit {0}
AreProper (frame ∷ frames) = (content_fault frame.role frame.control (length frame.info) ≡ None)
    × AreProper frames

-- each carries numbers of the reading
abbrev pub CarryNumbers : Reading → List Flight → Type 0
CarryNumbers r [] = Unit {0}
CarryNumbers r (frame ∷ frames) = HasNumbers r frame.control × CarryNumbers r frames

-- both sides, and the line between them
pub record IsConsistentWorld (r : Reading) (w : World) : Type 0 where
  pub user : IsConsistent r w.user
  pub network : IsConsistent r w.network
  pub to_user : AreProper w.to_user
  pub to_network : AreProper w.to_network
  pub numbers_to_user : CarryNumbers r w.to_user
  pub numbers_to_network : CarryNumbers r w.to_network

-- The outputs of a step that remain to be recorded, for the end after the step and a history with
-- this `passed`. Their acknowledgements and drops lead to the first waiting message, and precede
-- every message sent. The frames they send are in the control table, and the messages they send
-- exist.
pub record AreInOrder (e : End) (passed : ℕ) (outs : List Out) : Type 0 where
  pub first : passed + leaving outs ≡ e.first
  pub counted : AreCountedFirst outs
  pub spoken : AreWellFormed outs
  pub placed : ArePlaced (length e.given - e.first) outs

-- the input is a received frame
abbrev pub is_frame : Input → Bool
is_frame (Heard control role) = true
is_frame input = false
