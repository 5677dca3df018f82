-- A line of a script prints exactly the primitives that its events deliver. It submits its message
-- unless it prints a refusal.
use Rattle.std.specs.Prelude.{◌≡◌, ℕ, List, ◌++◌}
use Rattle.std.specs.Io.KnownBytes.{Appends}
use Rattle.lapd_sides.specs.declared.either_side.EitherSide.{EitherSide}
use Rattle.lapd_side_events.specs.SideView.{Behaviour, SideView, SideEvent}
use Rattle.lapd_cli_side_commands.specs.Served.{AtWork}
use Rattle.lapd_cli_side_lines.specs.LineRequests.{LineRequest}
use Rattle.lapd_program_laws.specs.SideEvents.{IsByEvents, does_all}
use Rattle.lapd_program_laws.specs.Transcripts.{PrintedLine, is_refused, lines_text, primitives_in, submitted_in}

-- After these events of a line, the side has delivered the printed primitives, and accepted the
-- line's message unless a refusal was printed.
pub record AreTold {S : Type 0} (w : Behaviour S) (line_request : LineRequest)
    (printed : List PrintedLine) (events : List SideEvent) (v : SideView S) : Type 0 where
  pub delivered : (does_all w events v).delivered ≡ v.delivered ++ primitives_in printed
  pub given : (does_all w events v).given
      ≡ v.given ++ submitted_in (w.means v.now) line_request (is_refused printed)

-- A line of a program is a list of its events (`IsByEvents`), and what it prints is the text of
-- lines that contain what these events deliver and accept.
pub record IsPrinted {S : Type 0} (w : Behaviour S) (Shows : EitherSide → S → Type 0)
    (AreAskedFor : List SideEvent → Type 0) (line_request : LineRequest) (a b : AtWork) : Type 0
  where
    pub by_events : IsByEvents w Shows AreAskedFor a b
    pub printed : List PrintedLine
    pub style : b.around.style ≡ a.around.style
    pub text : Appends a.around.printed b.around.printed (lines_text a.around.style printed)
    pub reported : (v : SideView S) (left : List (List ℕ)) (shown : Shows a.side v.now)
        (are : v.incoming ≡ by_events.reception ++ left)
        → AreTold w line_request printed (by_events.are v left shown are).0 v
