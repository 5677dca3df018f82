-- The effect of a line of a side on the real clock, if it ends well.
use Rattle.std.specs.Prelude.{◌≡◌, ◌⊎◌, ℕ, Bool, true, false, List, [], ◌∷◌, codes, None, Some, option_map, unwrap_or}
use Rattle.lapd_cli_live_text.specs.declared.words.LiveLine.{LiveLine}
use Rattle.lapd_cli_live_text.specs.declared.words.LiveLine.TheVariants as line
use Rattle.lapd_tei.specs.Terminal.{tei_of}
use Rattle.lapd_sides.specs.declared.either_side.EitherSide.{EitherSide}
use Rattle.lapd_sides.specs.declared.either_side.EitherSide.TheVariants as either
use Rattle.lapd_sides.specs.Either.{side_of}
use Rattle.lapd_sides.specs.Calls.{EachShown}
use Rattle.lapd_sides.specs.ShowsUser.{ShowUser}
use Rattle.lapd_cli_live_text.specs.LiveRequests.{live_request_of, live_request_of_line}
use Rattle.lapd_cli_live_text.specs.AwaitedLine.{awaited_line}
use Rattle.lapd_cli_live_text.specs.AwaitedText.{shown_words}
use Rattle.lapd_cli_wire.specs.declared.impairment.Impairment.{Impairment}
use Rattle.lapd_cli_wire.specs.declared.outside.Lines.{Lines}
use Rattle.lapd_cli_live.specs.Entries.{Named}
use Rattle.lapd_cli_live.specs.Log.{HappenBeside, LiveState, Shows}
use Rattle.lapd_cli_live.specs.Steps.{IsAsked}
use Rattle.lapd_cli_live.specs.StateLines.{StatesAll, StatesCounts, StatesLink}
use Rattle.lapd_cli_live.specs.RecentOutput.{has_line}
use Rattle.lapd_cli_live.specs.WaitingLines.{Expects, Reads, Runs, behind_line, forgetting}

-- ---- `expect`

-- a kept line begins with the words; it is forgotten, with the lines before it
pub record FindsKept (words : List ℕ) (a b : LiveState) : Type 0 where
  pub kept : has_line words a.shown.kept ≡ true
  pub left : b ≡ behind_line words a

-- no kept line begins so, and then the side prints such a line in time, or does not
pub record LooksOut (words : List ℕ) (ms : ℕ) (lines : Lines) (matched : Bool) (a b : LiveState)
    : Type 0 where
  pub none_kept : has_line words a.shown.kept ≡ false
  pub expects : Expects words ms lines matched (behind_line words a) b

-- a line that begins with the words was printed and kept while the line of input was awaited, or is
-- printed in time while the side runs; or there is no such line
abbrev pub FindsLine : List ℕ → ℕ → Lines → Bool → LiveState → LiveState → Type 0
FindsLine words ms lines true a b = FindsKept words a b ⊎ LooksOut words ms lines true a b
FindsLine words ms lines false a b = LooksOut words ms lines false a b

-- the words with which the line begins: those of a user side may leave out the TEI
abbrev pub sought : List ℕ → LiveState → List ℕ
sought words a = awaited_line (side_of a.side) words

-- `expect` succeeds: there is such a line
abbrev pub MatchesLine : List ℕ → ℕ → Lines → LiveState → LiveState → Type 0
MatchesLine words ms lines a b = FindsLine (sought words a) ms lines true a b

-- `expect` fails: there was no such line, and the side prints the words
pub record MissesLine (words : List ℕ) (ms : ℕ) (lines : Lines) (a b : LiveState) : Type 0 where
  pub served_to : LiveState
  pub looks : FindsLine (sought words a) ms lines false a served_to
  pub prints : HappenBeside (Shows (Named (codes "expected") (shown_words words)) ∷ []) served_to b

abbrev pub ExpectDone : List ℕ → ℕ → Lines → Bool → LiveState → LiveState → Type 0
ExpectDone words ms lines true a b = MatchesLine words ms lines a b
ExpectDone words ms lines false a b = MissesLine words ms lines a b

-- ---- A line.

-- `impair`: frames are impaired so from now on, and nothing else changes
abbrev pub impaired_as : Impairment → LiveState → LiveState
impaired_as impairment s = record s { impairment = option_map (λ before. impairment) s.impairment }

abbrev pub LineDone : LiveLine → Lines → LiveState → LiveState → Type 0
LineDone (line.Read ms) lines a b = Reads ms lines a b
LineDone (line.Run ms) lines a b = Runs ms lines a b
LineDone (line.Expect words ms) lines a b = MatchesLine words.now ms lines a b
LineDone (line.State (Some id)) lines a b = StatesLink id a b
LineDone (line.State None) lines a b = StatesAll a b
LineDone line.Stats lines a b = StatesCounts a b
LineDone (line.Ask request) lines a b = IsAsked request a b
LineDone (line.Impair impairment) lines a b = b ≡ impaired_as impairment a

-- The TEI of the links that a line of the user side names: the terminal's, or the group TEI while
-- it has none. A line of the network side names the TEI itself.
abbrev pub HasOwnTei : EitherSide → ℕ → Type 0
HasOwnTei (either.Network code) own = own ≡ 127
HasOwnTei (either.User code) own =
    EachShown ShowUser code (λ s. own ≡ unwrap_or (tei_of s.management.terminal) 127)

abbrev pub is_expect : LiveLine → Bool
is_expect (line.Expect words ms) = true
is_expect other = false

-- a line of input begins: unless it is an `expect`, the kept lines are forgotten
abbrev pub begun : Bool → LiveState → LiveState
begun true s = s
begun false s = forgetting s

-- a line is a request, read with the side's own TEI, and is executed as this request
pub record Executes (octets : List ℕ) (lines : Lines) (a b : LiveState) : Type 0 where
  pub own : ℕ
  pub own_is : HasOwnTei a.side own
  pub asked : LiveLine
  pub is : live_request_of_line (side_of a.side) own octets ≡ Some (live_request_of asked)
  pub done_at : LiveState
  pub does : LineDone asked lines (begun (is_expect asked) a) done_at
  pub beside : HappenBeside [] done_at b
