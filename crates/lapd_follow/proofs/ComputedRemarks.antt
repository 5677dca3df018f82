-- A name for the words that remarks are computed with.
use Rattle.std.proofs.Common.{ℕ, zero}
use Rattle.lapd_mod128.specs.Counting.{after, steps, lies_within}
use Rattle.lapd_follow.specs.Ends.{new_end, begun, unnumbered, with_learned, with_numbering, with_release, with_busy, has_polled, poll_answered, polls_ended, has_commanded, command_answered, commands_ended, has_sent, has_acknowledged, is_acknowledged}
use Rattle.lapd_follow.specs.Exchange.{turned, sender_begins, commands, disconnects, accepts, accepts_late, acknowledges_mode, takes_nr, polls, sends, answered, answers, reports, supervises, learns_ns, learns_nr, learns, numbered, numbered_if_learned}

-- all that the remarks on a frame are computed with
unfoldable pub computed_remarks : ℕ
unfolding after steps lies_within new_end begun unnumbered with_learned with_numbering with_release with_busy has_polled
    poll_answered polls_ended has_commanded command_answered commands_ended has_sent
    has_acknowledged is_acknowledged turned sender_begins commands disconnects accepts accepts_late
    acknowledges_mode takes_nr polls sends answered answers reports supervises learns_ns
    learns_nr learns numbered numbered_if_learned
computed_remarks = zero
