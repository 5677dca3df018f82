-- Stack files: the usual stack of a side, changed by each line.
use Rattle.std.specs.Prelude.{◌≡◌, ℕ, ◌+◌, true, false, List, [], ◌∷◌, if◌then◌else◌, None, Result, Ok, Err}
use Rattle.lapd_cli_script.specs.Script.{is_passed_over, lines_of}
use Rattle.lapd_frame.specs.declared.Side.{Side}
use Rattle.lapd_frame.specs.declared.Side.TheVariants.{Network, User}
use Rattle.lapd_conform_player.specs.declared.stack.Requests.{Requests}
use Rattle.lapd_conform_player.specs.declared.stack.Stack.{Stack}
use Rattle.lapd_cli_conform.specs.declared.fault.StackFault.{StackFault}
use Rattle.lapd_conform_suite.specs.Reading.{read_on}
use Rattle.lapd_cli_conform.specs.Reading.{Wrong}
use Rattle.lapd_cli_conform.specs.Settings.{no_requests, setting_in, with_setting}

-- a network side checks and removes TEIs, and a user side requests one
abbrev pub side_requests : Side → Requests
side_requests Network = record {
  establish = true;
  release = true;
  give = true;
  unit = true;
  busy = true;
  ask = false;
  check = true;
  remove = true;
}
side_requests User = record {
  establish = true;
  release = true;
  give = true;
  unit = true;
  busy = true;
  ask = true;
  check = false;
  remove = false;
}

-- basic access with the values of Q.921 5.9
abbrev pub usual : Side → Stack
usual side = record {
  side = side;
  tei = None;
  k = 1;
  n200 = 3;
  n202 = 3;
  t200 = 1000;
  t201 = 1000;
  t202 = 2000;
  t203 = 10000;
  has_t203 = true;
  has_sapis = true;
  requests = side_requests side;
  confirms = true;
  is_active = false;
  delay = 0;
}

abbrev pub without_requests : Stack → Stack
without_requests stack = record stack { requests = no_requests }

-- the number of the wrong line, from 1, and what is wrong
abbrev pub WrongLine : Type 0
WrongLine = ℕ × Wrong

abbrev pub of_line : {A : Type 0} → ℕ → Result A Wrong → Result A WrongLine
of_line n (Ok a) = Ok a
of_line n (Err wrong) = Err (n, wrong)

-- the stack after the lines from the one with number n on
abbrev pub stack_from : ℕ → Stack → List (List ℕ) → Result Stack WrongLine
stack_from n stack [] = Ok stack
stack_from n stack (line ∷ lines) = if is_passed_over line then stack_from (n + 1) stack lines
    else read_on (of_line n (setting_in line)) (λ setting.
    stack_from (n + 1) (with_setting stack setting) lines)

abbrev pub stack_in : Side → List ℕ → Result Stack WrongLine
stack_in side text = stack_from 1 (usual side) (lines_of text)

-- ---- How the code reads.

abbrev pub ReadsAt : {X Y : Type 0} → (X → Y) → Result X StackFault → Result Y WrongLine → Type 0
ReadsAt view (Ok x) read = read ≡ Ok (view x)
ReadsAt view (Err wrong) read = read ≡ Err (wrong.line, (wrong.fault.found.now, wrong.fault.wanted))

-- the stack `all` is what `read` says of the stack after a line, or the line is wrong
abbrev pub GoesOn : (Stack → Result Stack WrongLine) → Result Stack StackFault
    → Result Stack WrongLine → Type 0
GoesOn read (Ok after) all = all ≡ read after
GoesOn read (Err wrong) all = all ≡ Err (wrong.line, (wrong.fault.found.now, wrong.fault.wanted))
