-- The state of both ends after a frame, as its sender and its receiver show it on the line. The
-- listener may be at either end or between them. So an end received only frames that the listener
-- saw before.
use Rattle.std.specs.Prelude.{ℕ, ◌==◌, ◌&&◌, ◌||◌, not, if◌then◌else◌, Bool, true, false, List, [], is_some}
use Rattle.lapd_frame.specs.declared.Side.{Side}
use Rattle.lapd_frame.specs.declared.Side.TheVariants.{Network, User}
use Rattle.lapd_frame.specs.declared.Role.{Role}
use Rattle.lapd_frame.specs.declared.Role.TheVariants.{Command, Answer}
use Rattle.lapd_frame.specs.declared.Control.{Control}
use Rattle.lapd_frame.specs.declared.Control.TheVariants.{I, Rr, Rnr, Rej, Sabme, Dm, Ui, Disc, Ua, Frmr, Xid}
use Rattle.lapd_frame.specs.Frame.{Fields}
use Rattle.lapd_frame.specs.Reading.{is_command}
use Rattle.lapd_follow.specs.declared.packet.Packet.{Packet}
use Rattle.lapd_follow.specs.declared.polls.Polls.{Polls}
use Rattle.lapd_follow.specs.declared.end.Busy.{Busy}
use Rattle.lapd_follow.specs.declared.end.Busy.TheVariants.{Free, Reported, Answered}
use Rattle.lapd_follow.specs.Ends.{EndKnown, one_more, begun, unnumbered, with_learned, with_numbering, with_release, with_busy, has_polled, poll_answered, polls_ended, has_commanded, command_answered, commands_ended, has_sent, has_acknowledged, is_acknowledged, is_valid_nr}
use Rattle.lapd_follow.specs.Learning.{after_ns, after_response, learned_numbering}

-- The end that sent the frame, the other end, how many establishments began, and whether the last
-- one is known to last.
pub record Exchange : Type 0 where
  pub from : EndKnown
  pub to : EndKnown
  pub establishments : ℕ
  pub is_established : Bool

-- the same, seen from the other end
unfoldable pub turned : Side → Side → Exchange → Exchange
turned Network User x = record x { from = x.to; to = x.from }
turned User Network x = record x { from = x.to; to = x.from }
turned before now x = x

-- ---- U frames.

-- The sender of a SABME, DISC or DM begins anew before its next I or S frame. The other end may not
-- have received it yet, and answers no poll that the sender forgot (Q.921 5.5).
unfoldable pub sender_begins : Exchange → Exchange
sender_begins x = record x { from = begun x.from; to = polls_ended (unnumbered x.to) }

-- A SABME or a DISC, with this P bit. The other end may answer a SABME by a UA that is lost before
-- the listener, and then sends I and S frames.
unfoldable pub commands : Bool → Bool → Packet → Exchange → Exchange
commands is_sabme p packet x = record (sender_begins x) {
  from = has_commanded is_sabme p packet (begun x.from);
  to = with_release (x.to.is_released && not is_sabme) (polls_ended (unnumbered x.to));
}

-- A DM; with F=1 it answers a SABME or a DISC (Q.921 5.4.5). Its sender has released the link.
unfoldable pub disconnects : Bool → Exchange → Exchange
disconnects f x = record (sender_begins x) {
  from = with_release true (begun x.from);
  to = if f then command_answered (polls_ended (unnumbered x.to))
      else polls_ended (unnumbered x.to);
  is_established = false;
}

-- this end sent a SABME that is not answered
abbrev pub awaits_ua : EndKnown → Bool
awaits_ua e = is_some e.commands.last && e.is_establishing

-- A UA that answers a SABME begins an establishment, if the end that sent the UA awaits none. If
-- both sent a SABME, the second UA begins it (Q.921 5.5.1.2, 5.5.5).
abbrev pub begins_establishment : Exchange → Bool
begins_establishment x = awaits_ua x.to && not (awaits_ua x.from)

-- A UA that answers a DISC of the other end, and can answer no SABME: both ends have released the
-- link (Q.921 5.5.3.2).
abbrev pub answers_disc : EndKnown → Bool
answers_disc e = not e.is_establishing && (e.commands.unanswered == 1)

-- a UA that answers the last SABME or DISC of the other end
unfoldable pub accepts : Exchange → Exchange
accepts x = record {
  from = with_release (answers_disc x.to) (polls_ended (begun x.from));
  to = command_answered (polls_ended (with_busy Free
      (with_release (x.to.is_released && answers_disc x.to) x.to)));
  establishments = if begins_establishment x then one_more x.establishments
      else x.establishments;
  is_established = not (answers_disc x.to) && (begins_establishment x || x.is_established);
}

-- A UA that answers an earlier SABME or DISC, or none: its sender begins anew, and the numbers of
-- the other end are unknown. Either end may have established the link.
unfoldable pub accepts_late : Exchange → Exchange
accepts_late x = record x {
  from = with_release false (begun x.from);
  to = command_answered (unnumbered (with_release false x.to));
}

-- a UA (Q.921 3.6.8)
unfoldable pub acknowledges_mode : Exchange → Exchange
acknowledges_mode x = if is_some x.to.commands.last then accepts x else accepts_late x

-- ---- I and S frames.

-- an N(R); only a valid one acknowledges (Q.921 5.6.3.2)
unfoldable pub takes_nr : ℕ → Exchange → Exchange
takes_nr nr x = record x {
  from = if is_valid_nr nr x.from.numbering x.to.numbering then has_acknowledged nr x.from
      else x.from;
  to = if is_valid_nr nr x.from.numbering x.to.numbering then is_acknowledged nr x.to else x.to;
}

-- a command with P=1 polls
unfoldable pub polls : Bool → Packet → Exchange → Exchange
polls p packet x = record x { from = if p then has_polled packet x.from else x.from }

-- an I frame (Q.921 5.6.1)
unfoldable pub sends : ℕ → List ℕ → Exchange → Exchange
sends ns octets x = record x { from = has_sent ns octets x.from }

-- A response with F=1 answers a poll. If it answers the last poll, and no SABME or DISC was sent
-- since, the end that polled gets no answer to an earlier SABME or DISC any more.
unfoldable pub answered : EndKnown → EndKnown
answered e = if is_some e.polls.last && not (is_some e.commands.last)
    then commands_ended (poll_answered e) else poll_answered e

unfoldable pub answers : Bool → Exchange → Exchange
answers f x = record x { to = if f then answered x.to else x.to }

-- the P or F bit of an S frame
abbrev pub poll_or_final : Role → Bool → Packet → Exchange → Exchange
poll_or_final role pf packet x = if is_command role then polls pf packet x else answers pf x

-- the only poll that can be answered is the last one
abbrev pub is_only_poll : Polls → Bool
is_only_poll polls = is_some polls.last && (polls.unanswered == 1)

-- The sender of an RNR is busy (Q.921 5.6.5). The RNR may be lost. But an end that polled sends no
-- I frame with P=0 before it received the answer (5.6.7), so after that it knows.
abbrev pub answers_only_poll : Role → Bool → Polls → Bool
answers_only_poll Command pf polls = false
answers_only_poll Answer pf polls = pf && is_only_poll polls

abbrev pub busy_if : Busy → Bool → Busy
busy_if Answered is_answer = Answered
busy_if Free is_answer = if is_answer then Answered else Reported
busy_if Reported is_answer = if is_answer then Answered else Reported

abbrev pub busy_after_rnr : Role → Bool → Exchange → Busy
busy_after_rnr role pf x = busy_if x.from.busy (answers_only_poll role pf x.to.polls)

-- the sender reports that it is busy, or not
unfoldable pub reports : Busy → Exchange → Exchange
reports busy x = record x { from = with_busy busy x.from }

-- an S frame
unfoldable pub supervises : Role → Bool → ℕ → Busy → Packet → Exchange → Exchange
supervises role pf nr busy packet x = poll_or_final role pf packet (reports busy (takes_nr nr x))

-- ---- Numbers that are learned, while the numbers of neither end are known.

-- an N(S) and a P bit of the sender
unfoldable pub learns_ns : ℕ → Bool → Exchange → Exchange
learns_ns ns p x = record x { from = with_learned (after_ns ns p x.from.learned) x.from }

-- an N(R) of the sender, in a frame that answers the only open poll, or not
unfoldable pub learns_nr : Bool → ℕ → Exchange → Exchange
learns_nr is_answer nr x = record x {
  to = with_learned (after_response is_answer nr x.to.learned) x.to;
}

abbrev pub learns_from : Control → Role → Exchange → Exchange
learns_from (I ns nr p) role x = learns_ns ns p (learns_nr false nr x)
learns_from (Rr nr pf) role x = learns_nr (answers_only_poll role pf x.to.polls) nr x
learns_from (Rnr nr pf) role x = learns_nr (answers_only_poll role pf x.to.polls) nr x
learns_from (Rej nr pf) role x = learns_nr (answers_only_poll role pf x.to.polls) nr x
learns_from control role x = x

-- The numbers of neither end are known: neither sent a SABME, DISC, UA or DM.
abbrev pub is_unnumbered : Exchange → Bool
is_unnumbered x = not (is_some x.from.numbering || is_some x.to.numbering)

-- what is known with a frame of this sender, before it is judged
unfoldable pub learns : Control → Role → Exchange → Exchange
learns control role x = if is_unnumbered x then learns_from control role x else x

-- the numbers of both ends are learned
abbrev pub is_learned : Exchange → Bool
is_learned x = is_unnumbered x && is_some (learned_numbering x.from.learned x.to.learned)

-- From then on the link is followed, as one that is established.
unfoldable pub numbered : Exchange → Exchange
numbered x = record x {
  from = with_numbering (learned_numbering x.from.learned x.to.learned) x.from;
  to = with_numbering (learned_numbering x.to.learned x.from.learned) x.to;
  is_established = true;
}

unfoldable pub numbered_if_learned : Exchange → Exchange
numbered_if_learned x = if is_learned x then numbered x else x

-- ---- Each frame. UI, FRMR and XID leave everything unchanged.
abbrev pub after_control : Control → Role → List ℕ → Packet → Exchange → Exchange
after_control (I ns nr p) role octets packet x = polls p packet (sends ns octets (takes_nr nr x))
after_control (Rr nr pf) role octets packet x = supervises role pf nr Free packet x
after_control (Rnr nr pf) role octets packet x =
    supervises role pf nr (busy_after_rnr role pf x) packet x
after_control (Rej nr pf) role octets packet x = supervises role pf nr Free packet x
after_control (Sabme p) role octets packet x = commands true p packet x
after_control (Dm f) role octets packet x = disconnects f x
after_control (Ui p) role octets packet x = x
after_control (Disc p) role octets packet x = commands false p packet x
after_control (Ua f) role octets packet x = acknowledges_mode x
after_control (Frmr f) role octets packet x = x
after_control (Xid pf) role octets packet x = x

-- the octets that are kept of a frame: the information of an I frame
abbrev pub kept_octets : Control → List ℕ → List ℕ
kept_octets (I ns nr p) info = info
kept_octets control info = []

-- the state after a frame in this packet, of which is known already what it teaches
abbrev pub known_after : Packet → Fields → Exchange → Exchange
known_after packet f x =
    numbered_if_learned (after_control f.control f.address.role f.info packet x)
