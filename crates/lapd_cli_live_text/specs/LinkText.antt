-- Lines with the state of links and timers (docs/CLI.md, "With the real clock").
use Rattle.std.specs.Prelude.{ℕ, ◌-◌, ◌||◌, if◌then◌else◌, Bool, List, [], ◌∷◌, ◌++◌, codes, Option, Some, None, is_some}
use Rattle.std.specs.Fmt.{decimal}
use Rattle.lapd_timers.specs.Due.{Timers}
use Rattle.lapd_timers.specs.Timer.{timer_name}
use Rattle.lapd_timers.specs.declared.timer.Timer.{Timer}
use Rattle.lapd_timers.specs.declared.timer.Timer.TheVariants.{T200, T201, T202, T203}
use Rattle.lapd_supervision.specs.StateVariables.{StateVariables}
use Rattle.lapd_link.specs.declared.link.Link.{Link}
use Rattle.lapd_link_definition.specs.End.{End, waiting}
use Rattle.lapd_link_definition.specs.State.{state_number}
use Rattle.lapd_table.specs.declared.link_id.LinkId.{LinkId}
use Rattle.lapd_sides_links.specs.Texts.{id_text}

-- a number with its name: ` NAME=NUMBER`
unfoldable pub number_text : List ℕ → ℕ → List ℕ
number_text name number = 32 ∷ name ++ 61 ∷ decimal number

-- ---- Timers.

-- a timer that runs, with the milliseconds from the moment `now` to its deadline: 0 if the deadline
-- is past
abbrev pub timer_text : ℕ → Timer → Option ℕ → List ℕ
timer_text now timer None = []
timer_text now timer (Some deadline) = number_text (timer_name timer) (deadline - now)

-- each timer that runs
unfoldable pub timers_text : Timers → ℕ → List ℕ
timers_text timers now = timer_text now T200 timers.t200 ++ (timer_text now T201 timers.t201
    ++ (timer_text now T202 timers.t202 ++ timer_text now T203 timers.t203))

abbrev pub any_runs : Timers → Bool
any_runs timers = is_some timers.t200
    || (is_some timers.t201 || (is_some timers.t202 || is_some timers.t203))

-- the line of the timers of TEI management, which exists only while one of them runs
unfoldable pub management_text : Timers → ℕ → List ℕ
management_text timers now = if any_runs timers then codes "tei" ++ timers_text timers now else []

-- ---- Links.

-- The end that a link shows: the messages that layer 3 submitted before those in its queue are left
-- out, since a link does not keep them.
abbrev pub shown_end : Link → End
shown_end link = record {
  parameters = link.machine.params;
  state = link.machine.state;
  rc = link.machine.rc;
  window = link.machine.window;
  layer3_initiated = link.machine.layer3_initiated;
  release_pending = link.machine.release_pending;
  t200 = link.machine.t200;
  t203 = link.machine.t203;
  establishments = 0;
  given = link.machine.queue.messages;
  first = 0;
  next = link.machine.queue.sent;
}

-- a word that is printed if its condition holds
abbrev pub word_if : Bool → List ℕ → List ℕ
word_if holds word = if holds then word else []

-- V(S), V(A) and V(R) (Q.921 3.5.2)
abbrev pub numbers_text : StateVariables → List ℕ
numbers_text window = number_text (codes "V(S)") window.vs
    ++ (number_text (codes "V(A)") window.va ++ number_text (codes "V(R)") window.vr)

-- the own and the peer receiver busy condition (Q.921 5.6.5, 5.6.6)
abbrev pub busy_text : StateVariables → List ℕ
busy_text window = word_if window.own_busy (codes " own-busy")
    ++ word_if window.peer_busy (codes " peer-busy")

-- an end of a link: its state, its variables, RC, and the number of messages that are neither
-- acknowledged nor dropped
abbrev pub end_text : End → List ℕ
end_text e = codes "state " ++ (decimal (state_number e.state) ++ (numbers_text e.window
    ++ (number_text (codes "RC") e.rc ++ (number_text (codes "queue") (waiting e)
    ++ busy_text e.window))))

-- the timers of a link, if it has any
abbrev pub link_timers_text : Option Timers → ℕ → List ℕ
link_timers_text None now = []
link_timers_text (Some timers) now = timers_text timers now

-- the line of the link with this SAPI and TEI
unfoldable pub link_text : LinkId → End → Option Timers → ℕ → List ℕ
link_text id e timers now = id_text id ++ (end_text e ++ link_timers_text timers now)
