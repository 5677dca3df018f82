-- How the numbers of a link are learned that was established before its first frame was seen (Q.921
-- 3.5.2). Each direction is learned by itself: the I frames of one end, and the N(R) of its peer.
use Rattle.std.specs.Prelude.{ℕ, ◌==◌, if◌then◌else◌, Bool, true, false, Option, Some, None}
use Rattle.lapd_mod128.specs.Counting.{Tagged, after, lies_within}
use Rattle.lapd_follow.specs.declared.learned.Learned.{Learned}
use Rattle.lapd_follow.specs.declared.learned.Learned.TheVariants.{Nothing, Sent, Fixed}
use Rattle.lapd_follow.specs.declared.numbering.Numbering.{Numbering}

-- After an I frame of this end. With P=1 it may be one that its peer has received (5.6.7), so it
-- shows nothing. Once the numbers are fixed, it is counted as its receiver does (5.6.2).
abbrev pub after_ns : ℕ → Bool → Learned → Learned
after_ns ns p Nothing = if p then Nothing else Sent (after Tagged ns)
after_ns ns p (Sent next) = if p then Nothing else Sent (after Tagged ns)
after_ns ns p (Fixed next nr) = Fixed (if ns == next then after Tagged next else next) nr

-- After an N(R) of its peer: it fixes the numbers if it acknowledges the last I frame.
abbrev pub after_nr : ℕ → Learned → Learned
after_nr nr Nothing = Nothing
after_nr nr (Sent next) = if nr == next then Fixed next nr else Sent next
after_nr nr (Fixed next last) = if lies_within Tagged last nr next then Fixed next nr else Nothing

-- An N(R) in the answer to its only open poll: the peer has received all I frames before the poll,
-- and none follows before the answer (5.6.7).
abbrev pub after_response : Bool → ℕ → Learned → Learned
after_response true nr learned = Fixed nr nr
after_response false nr learned = after_nr nr learned

-- the numbers of an end with this next N(S), if the direction of its peer is fixed
abbrev pub numbering_from : ℕ → Learned → Option Numbering
numbering_from next Nothing = None
numbering_from next (Sent other) = None
numbering_from next (Fixed other last) =
    Some (record { is_first = false; next = next; nr = last })

-- the numbers of this end, once both directions are fixed
abbrev pub learned_numbering : Learned → Learned → Option Numbering
learned_numbering Nothing peer = None
learned_numbering (Sent next) peer = None
learned_numbering (Fixed next nr) peer = numbering_from next peer
