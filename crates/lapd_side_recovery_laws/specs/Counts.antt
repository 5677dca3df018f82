-- The messages that are left on a link of two sides, its frames in transit, when its ends are in
-- step, how often T203 expires while they are not, and the time that suffices.
use Rattle.std.specs.Prelude.{ℕ, ◌+◌, ◌*◌, ◌==◌, ◌&&◌, not, Bool, false, List, [], ◌∷◌, length, map, Option, Some, None, Result, Ok, Err}
use Rattle.std.specs.List.{filter, list_any, range_with_len}
use Rattle.lapd_timers.specs.declared.timer.Timer.TheVariants.{T203}
use Rattle.lapd_frame.specs.declared.Side.{Side}
use Rattle.lapd_frame.specs.declared.Side.TheVariants as side
use Rattle.lapd_frame.specs.declared.frame_fault.FrameFault.{FrameFault}
use Rattle.lapd_frame.specs.Address.{other_side}
use Rattle.lapd_frame.specs.Frame.{Fields}
use Rattle.lapd_frame.specs.Reading.{frame_at}
use Rattle.lapd_pair_laws.specs.Kinds.{Kind, Foreign, final_of, kind_of, poll_of, tally}
use Rattle.lapd_table.specs.declared.link_id.LinkId.{LinkId}
use Rattle.lapd_table.specs.LinkId.{id_eq}
use Rattle.lapd_sides_links.specs.Links.{Linked}
use Rattle.lapd_recovery_laws.specs.InTime.{Waits}
use Rattle.lapd_recovery_laws.specs.KeptAgreement.{is_answered}
use Rattle.lapd_recovery_laws.specs.Losses.{one_if}
use Rattle.lapd_side_events.specs.Interface.{Configs, Interface, Move, happens}
use Rattle.lapd_side_events.specs.SideView.{SideEvent, Expire}
use Rattle.lapd_two_side_laws.specs.Addressed.{those_for}
use Rattle.lapd_two_side_laws.specs.Primitives.{Known, given_to, known_of}

-- ---- Messages and frames.

-- by its primitives, a position is neither acknowledged nor dropped
abbrev pub is_left : Known → ℕ → Bool
is_left k place = not (list_any (λ p. p == place) k.acked)
    && not (list_any (λ p. p == place) k.dropped)

-- how many of so many messages submitted are neither
abbrev pub left_of : Known → ℕ → ℕ
left_of k given = length (filter (λ place. is_left k place) (range_with_len 0 given))

-- of the link, at both sides
abbrev pub left_on : LinkId → Interface → ℕ
left_on id i =
    left_of (known_of id i.delivered_to_user) (length (given_to id i.given_to_user))
    + left_of (known_of id i.delivered_to_network) (length (given_to id i.given_to_network))

-- how many frames of the link are in transit
abbrev pub frames_on : LinkId → Interface → ℕ
frames_on id i = length (those_for side.Network id i.to_user)
    + length (those_for side.User id i.to_network)

-- ---- In step.

-- the kinds of the link's frames among the octets that a side sent
abbrev pub kind_in : Result Fields FrameFault → Kind
kind_in (Ok f) = kind_of f.address.role f.control f.info 0
kind_in (Err fault) = Foreign

abbrev pub kinds_for : Side → LinkId → List (List ℕ) → List Kind
kinds_for from id line = map (λ octets. kind_in (frame_at from octets)) (those_for from id line)

-- how many of its frames with P=1 in states 7 and 8, and responses to them, are in transit
abbrev pub polls_of : Side → LinkId → List (List ℕ) → List (List ℕ) → ℕ
polls_of side id outgoing incoming = tally poll_of (kinds_for side id outgoing)
    + tally final_of (kinds_for (other_side side) id incoming)

-- The link exists, and its end is in state 7, or in state 8 with at least one of these in transit.
abbrev pub is_link_answered : ℕ → Option Linked → Bool
is_link_answered polls None = false
is_link_answered polls (Some l) = is_answered l.end.state polls

-- no message is left, and both ends are answered
abbrev pub are_in_step : LinkId → Interface → Bool
are_in_step id i = (left_on id i == 0)
    && (is_link_answered (polls_of side.User id i.to_network i.to_user) (i.user.served.links id)
    && is_link_answered (polls_of side.Network id i.to_user i.to_network)
    (i.network.served.links id))

-- T203 of the link expires
abbrev pub is_t203_of : LinkId → SideEvent → Bool
is_t203_of id (Expire T203 (Some other) now) = id_eq id other
is_t203_of id event = false

-- how often it does in these moves while the ends are not in step
abbrev pub t203s_out_of_step : Configs → LinkId → List Move → Interface → ℕ
t203s_out_of_step c id [] i = 0
t203s_out_of_step c id (move ∷ moves) i =
    one_if (is_t203_of id move.event && not (are_in_step id i))
    + t203s_out_of_step c id moves (happens c move i)

-- ---- The time that suffices.

-- as `most_t200s_from`, `most_free_moves` and `most_time` of two ends: with N200, the T203s that
-- expire out of step, the messages left and the frames in transit
abbrev pub most_t200s : ℕ → ℕ → ℕ → ℕ → ℕ
most_t200s n200 idle messages frames =
    (3 * messages + 3 * frames + 4 * idle + 13) * (2 * messages + frames + n200 + 3)

abbrev pub most_moves : ℕ → ℕ → ℕ → ℕ → ℕ
most_moves n200 idle messages frames =
    2 * frames + 3 * messages + 6 * n200 + 15
    + (most_t200s n200 idle messages frames + idle)
    * (6 * messages + frames + 6 * n200 + 24)

abbrev pub most_time_of : Waits → ℕ → ℕ → ℕ → ℕ → ℕ
most_time_of t n200 idle messages frames =
    (most_moves n200 (idle + 1) messages frames + 1) * t.frame
    + (most_t200s n200 (idle + 1) messages frames + idle + 2) * t.t200
    + (idle + 2) * t.t203

-- from this interface on
abbrev pub most_time_from : Waits → ℕ → ℕ → LinkId → Interface → ℕ
most_time_from t n200 idle id i = most_time_of t n200 idle (left_on id i) (frames_on id i)
