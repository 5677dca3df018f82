-- The numbers of two ends that follow Q.921, whole, beside what is learned of them from the frames
-- that a listener sees between them. The frames may be lost before the listener or after it.
use Rattle.std.specs.Prelude.{◌≡◌, ℕ, ◌+◌, ◌<◌, ◌≤◌, ◌==◌, if◌then◌else◌, Bool, true, false, List, [], ◌∷◌}
use Rattle.lapd_mod128.specs.Counting.{tag}
use Rattle.lapd_follow.specs.declared.learned.Learned.{Learned}
use Rattle.lapd_follow.specs.declared.learned.Learned.TheVariants.{Nothing, Sent, Fixed}
use Rattle.lapd_follow.specs.Learning.{after_ns, after_response}

-- One direction of a link, the I frames of one end: V(A) of the end; the last N(R) of its peer that
-- passed the listener; V(R) of the peer; this V(R) once all I frames that passed the listener have
-- arrived; and the N(S) after the greatest that the end sent (3.5.2).
pub record Direction : Type 0 where
  pub acknowledged : ℕ
  pub told : ℕ
  pub expected : ℕ
  pub reached : ℕ
  pub sent : ℕ

-- Two ends that follow Q.921: each number is at most the next one, and at most k I frames, of 127
-- at most, are outstanding (5.9.5).
pub record IsRight (d : Direction) : Type 0 where
  pub acknowledged : d.acknowledged ≤ d.told
  pub told : d.told ≤ d.expected
  pub expected : d.expected ≤ d.reached
  pub reached : d.reached ≤ d.sent
  pub window : d.sent ≤ d.acknowledged + 127

-- the ends go on, and no frame of this direction passes the listener: frames arrive or are lost
pub record GoesOn (d e : Direction) : Type 0 where
  pub told : e.told ≡ d.told
  pub reached : e.reached ≤ d.reached
  pub sent : d.sent ≤ e.sent
  pub right : IsRight e

-- V(R) after an I frame with this N(S) (5.6.2)
abbrev pub received : ℕ → ℕ → ℕ
received ns vr = if ns == vr then vr + 1 else vr

-- An I frame of the end passes the listener. It was sent, in a window that has not moved beyond it.
-- With P=0 it is not one that its peer has received, or will receive before it: an end sends an I
-- frame again only after a REJ or an answer with its N(S) as N(R) (5.6.4, 5.6.7).
pub record Sends (ns : ℕ) (p : Bool) (d e : Direction) : Type 0 where
  pub was_sent : ns < d.sent
  pub near : d.sent ≤ ns + 127
  pub not_received : p ≡ false → d.reached ≤ ns
  pub told : e.told ≡ d.told
  pub reached : e.reached ≤ received ns d.reached
  pub sent : d.sent ≤ e.sent
  pub right : IsRight e

-- An N(R) of the peer passes the listener. It was V(R) when it was sent, and is no less than the one
-- before. In the answer to the only open poll it is V(R) after all I frames that passed the
-- listener: those before the poll have arrived or are lost, and none follows the poll (5.6.7).
pub record Acknowledges (is_answer : Bool) (nr : ℕ) (d e : Direction) : Type 0 where
  pub after : d.told ≤ nr
  pub expected : nr ≤ d.expected
  pub answer : is_answer ≡ true → d.reached ≤ nr
  pub told : e.told ≡ nr
  pub reached : e.reached ≤ d.reached
  pub sent : d.sent ≤ e.sent
  pub right : IsRight e

-- an event at the listener: nothing, an N(S) with its P bit, or an N(R)
pub data Passing : Type 0 where
  Silence : Passing
  Message : ℕ → Bool → Passing
  Acknowledgement : Bool → ℕ → Passing

abbrev pub Passes : Passing → Direction → Direction → Type 0
Passes Silence d e = GoesOn d e
Passes (Message ns p) d e = Sends ns p d e
Passes (Acknowledgement is_answer nr) d e = Acknowledges is_answer nr d e

abbrev pub PassAll : List Passing → Direction → Direction → Type 0
PassAll [] d e = d ≡ e
PassAll (s ∷ rest) d e = (c : Direction) × Passes s d c × PassAll rest c e

-- the listener's knowledge after an event, learned from tags alone
abbrev pub learned_after : Passing → Learned → Learned
learned_after Silence learned = learned
learned_after (Message ns p) learned = after_ns (tag ns) p learned
learned_after (Acknowledgement is_answer nr) learned = after_response is_answer (tag nr) learned

abbrev pub learned_after_all : List Passing → Learned → Learned
learned_after_all [] learned = learned
learned_after_all (s ∷ rest) learned = learned_after_all rest (learned_after s learned)

-- The learned numbers are those of the ends. The next N(S) is the tag of a number that V(R) of the
-- peer does not exceed, even when all I frames that passed the listener have arrived, and up to
-- which the end has sent. Once the numbers are fixed, the last N(R) is known too.
pub record Bounds (next : ℕ) (d : Direction) : Type 0 where
  pub whole : ℕ
  pub tagged : next ≡ tag whole
  pub not_exceeded : d.reached ≤ whole
  pub was_sent : whole ≤ d.sent

pub record InStep (next nr : ℕ) (d : Direction) : Type 0 where
  pub bounds : Bounds next d
  pub last : nr ≡ tag d.told

abbrev pub Knows : Learned → Direction → Type 0
Knows Nothing d = Unit {0}
Knows (Sent next) d = Bounds next d
Knows (Fixed next nr) d = InStep next nr d
