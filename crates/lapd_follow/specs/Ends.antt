-- The state of one end of a data link, as far as the frames seen on the line show it.
use Rattle.std.specs.Prelude.{ℕ, ◌+◌, ◌-◌, ◌^◌, ◌==◌, ◌||◌, not, min, nat_le, if◌then◌else◌, Bool, true, false, List, [], ◌∷◌, ◌++◌, length, drop, slice_get, Option, Some, None}
use Rattle.lapd_mod128.specs.Counting.{Tagged, after, steps, lies_within}
use Rattle.lapd_follow.specs.declared.learned.Learned.{Learned}
use Rattle.lapd_follow.specs.declared.learned.Learned.TheVariants.{Nothing}
use Rattle.lapd_follow.specs.declared.packet.Packet.{Packet}
use Rattle.lapd_follow.specs.declared.polls.Polls.{Polls}
use Rattle.lapd_follow.specs.declared.numbering.Numbering.{Numbering}
use Rattle.lapd_follow.specs.declared.end.Busy.{Busy}
use Rattle.lapd_follow.specs.declared.end.Busy.TheVariants.{Free}

-- ---- Commands that an end polls with, and their answers (Q.921 3.5.1). The standard requires that
-- T200 exceeds the time until an answer (5.9.1), so no earlier poll is on its way when one is sent.

-- one more, up to the greatest number of 64 bits
abbrev pub one_more : ℕ → ℕ
one_more n = min (n + 1) (2 ^ 64 - 1)

-- at the beginning: the listener may have missed polls that are still to be answered
abbrev pub unseen_polls : Polls
unseen_polls = record { last = None; unanswered = 0; complete = false }

-- no poll is to be answered any more
abbrev pub no_polls : Polls
no_polls = record { last = None; unanswered = 0; complete = true }

-- one more poll is sent, in this packet
abbrev pub with_poll : Packet → Polls → Polls
with_poll packet polls = record {
  last = Some packet;
  unanswered = one_more polls.unanswered;
  complete = true;
}

-- a poll is answered
abbrev pub with_answer : Polls → Polls
with_answer polls = record {
  last = None;
  unanswered = polls.unanswered - 1;
  complete = polls.complete;
}

-- ---- The numbers of an end (Q.921 3.5.2).

-- V(S) and V(R) are 0, and no I frame was sent (5.5.1.2)
abbrev pub first_numbering : Numbering
first_numbering = record { is_first = true; next = 0; nr = 0 }

-- an I frame with this N(S) was sent; only the next one is counted, as its receiver does (5.6.2)
abbrev pub with_ns : ℕ → Option Numbering → Option Numbering
with_ns ns None = None
with_ns ns (Some own) = Some (record {
  is_first = false;
  next = if ns == own.next then after Tagged own.next else own.next;
  nr = own.nr;
})

-- this is the next N(S) that the other end expects
abbrev pub is_next : ℕ → Option Numbering → Bool
is_next ns None = false
is_next ns (Some own) = ns == own.next

-- An N(R) of this end is valid if it lies from the last one that it sent to the next N(S) of its
-- peer (3.5.2.3): only I frames on the line raise V(R).
abbrev pub is_valid_nr : ℕ → Option Numbering → Option Numbering → Bool
is_valid_nr nr None peer = false
is_valid_nr nr (Some own) None = false
is_valid_nr nr (Some own) (Some peer) = lies_within Tagged own.nr nr peer.next

-- the last N(R) of this end is this one
abbrev pub with_nr : ℕ → Option Numbering → Option Numbering
with_nr nr None = None
with_nr nr (Some own) = Some (record { is_first = own.is_first; next = own.next; nr = nr })

-- how many I frames of this end follow an N(R) of its peer
abbrev pub left_after : ℕ → Option Numbering → ℕ
left_after nr None = 0
left_after nr (Some own) = steps Tagged nr own.next

-- ---- The octets of I frames.

-- the last n of a list
abbrev pub keep_last : ℕ → List (List ℕ) → List (List ℕ)
keep_last n frames = drop (length frames - n) frames

-- the n-th from the end of a list, counted from 1
abbrev pub from_end : ℕ → List (List ℕ) → Option (List ℕ)
from_end n frames = if nat_le n (length frames) then slice_get frames (length frames - n) else None

-- ---- One end.

-- The numbers of its frames, if they are known; what is learned of them before. The octets of its I frames up to the next
-- N(S) that its peer has not acknowledged, oldest first, 127 at most. Whether it is busy (5.6.6).
-- Its I, RR, RNR and REJ commands with P=1, and the last of them while it awaits an answer (5.6.7).
-- Its SABME and DISC commands, whether the last was a SABME, and whether that had P=1. Whether it
-- sends no I or S frame until its link is established again (5.5.4).
pub record EndKnown : Type 0 where
  pub numbering : Option Numbering
  pub learned : Learned
  pub unacknowledged : List (List ℕ)
  pub busy : Busy
  pub polls : Polls
  pub awaited : Option Packet
  pub commands : Polls
  pub is_establishing : Bool
  pub is_polling : Bool
  pub is_released : Bool

-- nothing was seen
unfoldable pub new_end : EndKnown
new_end = record {
  numbering = None;
  learned = Nothing;
  unacknowledged = [];
  busy = Free;
  polls = unseen_polls;
  awaited = None;
  commands = unseen_polls;
  is_establishing = false;
  is_polling = false;
  is_released = false;
}

-- After its SABME, DISC, UA or DM its next I or S frame belongs to an establishment that began
-- since, in which it counts from 0 and no exception condition is set (5.5.1.2).
unfoldable pub begun : EndKnown → EndKnown
begun e = record e {
  numbering = Some first_numbering;
  unacknowledged = [];
  busy = Free;
  awaited = None;
}

-- After a SABME, DISC or DM of its peer this end may begin anew or continue, until its own next
-- SABME, DISC, UA or DM is seen.
unfoldable pub unnumbered : EndKnown → EndKnown
unnumbered e = record e {
  numbering = None;
  unacknowledged = [];
  busy = Free;
  awaited = None;
}

-- its numbers are these
unfoldable pub with_numbering : Option Numbering → EndKnown → EndKnown
with_numbering numbering e = record e { numbering = numbering }

-- this is learned of its numbers
unfoldable pub with_learned : Learned → EndKnown → EndKnown
with_learned learned e = record e { learned = learned }

-- its link is released at this end, or not
unfoldable pub with_release : Bool → EndKnown → EndKnown
with_release is_released e = record e { is_released = is_released }

-- its busy condition, as reported, is this one
unfoldable pub with_busy : Busy → EndKnown → EndKnown
with_busy busy e = record e { busy = busy }

-- it sent an I or S command with P=1
unfoldable pub has_polled : Packet → EndKnown → EndKnown
has_polled packet e = record e { polls = with_poll packet e.polls; awaited = Some packet }

-- its poll is answered
unfoldable pub poll_answered : EndKnown → EndKnown
poll_answered e = record e { polls = with_answer e.polls; awaited = None }

-- its polls are not answered any more
unfoldable pub polls_ended : EndKnown → EndKnown
polls_ended e = record e { polls = no_polls; awaited = None }

-- It sent a SABME or a DISC, with this P bit. After a DISC its link is released (5.5.3.2).
unfoldable pub has_commanded : Bool → Bool → Packet → EndKnown → EndKnown
has_commanded is_sabme p packet e = record e {
  commands = with_poll packet e.commands;
  is_establishing = is_sabme;
  is_polling = p;
  is_released = e.is_released || not is_sabme;
}

-- its SABME or DISC is answered
unfoldable pub command_answered : EndKnown → EndKnown
command_answered e = record e { commands = with_answer e.commands }

-- its SABMEs and DISCs are not answered any more
unfoldable pub commands_ended : EndKnown → EndKnown
commands_ended e = record e { commands = no_polls }

-- it sent an I frame
unfoldable pub has_sent : ℕ → List ℕ → EndKnown → EndKnown
has_sent ns octets e = record e {
  numbering = with_ns ns e.numbering;
  unacknowledged = if is_next ns e.numbering then keep_last 127 (e.unacknowledged ++ octets ∷ [])
      else e.unacknowledged;
}

-- it sent this valid N(R)
unfoldable pub has_acknowledged : ℕ → EndKnown → EndKnown
has_acknowledged nr e = record e { numbering = with_nr nr e.numbering }

-- this valid N(R) of its peer acknowledges its I frames before it
unfoldable pub is_acknowledged : ℕ → EndKnown → EndKnown
is_acknowledged nr e = record e {
  unacknowledged = keep_last (left_after nr e.numbering) e.unacknowledged;
}
