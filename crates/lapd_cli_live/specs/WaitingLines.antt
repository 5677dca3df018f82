-- The effect of lines that wait: `read`, `run`, `wait` and `expect`.
use Rattle.std.specs.Prelude.{◌≡◌, ℕ, Bool, true, false, List, [], ◌∷◌, codes, Option, Some}
use Rattle.std.specs.List.{list_any}
use Rattle.lapd_sides.specs.Either.{side_of}
use Rattle.lapd_cli_wire.specs.declared.outside.Lines.{Lines}
use Rattle.lapd_cli_live.specs.declared.service.Service.{Service}
use Rattle.lapd_cli_live.specs.declared.service.Until.{Until}
use Rattle.lapd_cli_live.specs.declared.service.Until.TheVariants as until
use Rattle.lapd_cli_live.specs.declared.service.EndReason.{EndReason}
use Rattle.lapd_cli_live.specs.declared.service.EndReason.TheVariants as end_reason
use Rattle.lapd_cli_live.specs.Entries.{Named, Worded, is_awaited}
use Rattle.lapd_cli_live.specs.Log.{Happen, HappenBeside, LiveEvent, LiveState, Shows, entries_in, is_matched}
use Rattle.lapd_cli_live.specs.Steps.{EndsAfter, IsServed}
use Rattle.lapd_cli_live.specs.RecentOutput.{lines_behind}

abbrev pub service : Option ℕ → Until → Lines → Service
service end until lines = record { end = end; until = until; lines = lines }

-- the clock is read, and the side runs from then on, for this many milliseconds if given
pub record ServedFor (ms : Option ℕ) (until : Until) (lines : Lines) (end_reason : EndReason)
    (a b : LiveState) : Type 0 where
  pub end : Option ℕ
  pub begun : LiveState
  pub ends : EndsAfter ms end a begun
  pub served : IsServed (service end until lines) end_reason begun b

-- `run` and `wait`
pub record Runs (ms : Option ℕ) (lines : Lines) (a b : LiveState) : Type 0 where
  pub why : EndReason
  pub served : ServedFor ms until.NoEvent lines why a b

-- `read`: what is printed if no frame was taken
abbrev pub read_events : EndReason → List LiveEvent
read_events end_reason.Closed = Shows (Named (codes "refused") (codes "S1 End")) ∷ []
read_events end_reason.End = Shows (Worded (codes "nothing")) ∷ []
read_events other = []

pub record Reads (ms : Option ℕ) (lines : Lines) (a b : LiveState) : Type 0 where
  pub why : EndReason
  pub served_to : LiveState
  pub served : ServedFor ms until.Frame lines why a served_to
  pub prints : HappenBeside (read_events why) served_to b

-- ---- Kept lines.

-- whether printed lines are kept from here on, and the lines that are kept so far
abbrev pub with_kept : Bool → List (List ℕ) → LiveState → LiveState
with_kept keeps kept s = record s { shown = record s.shown { keeps = keeps; kept = kept } }

-- lines that are printed from here on are kept
abbrev pub keeping : LiveState → LiveState
keeping s = with_kept true s.shown.kept s

-- the kept lines are forgotten, and no more are kept
abbrev pub forgetting : LiveState → LiveState
forgetting s = with_kept false [] s

-- the first kept line that begins with these words is forgotten with the lines before it, or all
-- lines if none begins so; and no more are kept
abbrev pub behind_line : List ℕ → LiveState → LiveState
behind_line words s = with_kept false (lines_behind words s.shown.kept) s

-- ---- `expect`

-- a line that begins with these words is awaited, and none was printed so far
abbrev pub awaiting : List ℕ → LiveState → LiveState
awaiting words s = record s { shown = record s.shown { awaited = words; matched = false } }

-- the side runs for so long at most, and a line is found if one that begins with the words is
-- printed meanwhile
pub record Expects (words : List ℕ) (ms : ℕ) (lines : Lines) (matched : Bool) (a b : LiveState) :
    Type 0 where
  pub end : Option ℕ
  pub begun : LiveState
  pub ends : EndsAfter (Some ms) end a begun
  pub why : EndReason
  pub served_to : LiveState
  pub served : IsServed (service end until.Matched lines) why (awaiting words begun) served_to
  pub is : matched ≡ is_matched served_to
  pub after : b ≡ awaiting [] served_to

-- what the side prints in that time, and that a line is found exactly if one of these begins so
pub record PrintsMeanwhile (words : List ℕ) (ms : ℕ) (matched : Bool) (a b : LiveState) : Type 0
  where
    pub end : Option ℕ
    pub begun : LiveState
    pub ends : EndsAfter (Some ms) end a begun
    pub events : List LiveEvent
    pub served_to : LiveState
    pub happen : Happen events (awaiting words begun) served_to
    pub is : matched
        ≡ list_any (is_awaited begun.style (side_of begun.side) words) (entries_in events)
    pub after : b ≡ awaiting [] served_to
