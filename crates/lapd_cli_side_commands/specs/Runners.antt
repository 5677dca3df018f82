-- A runner, shown as its side, its clock and its surroundings.
use Rattle.std.specs.Prelude.{ℕ, List, Option}
use Rattle.lapd_cli_side_commands.specs.declared.side_runner.SideRunner.{SideRunner}
use Rattle.lapd_cli_side_commands.specs.Served.{AtWork, at_work, devices}

-- the runner at work, by what its source has left and its sink and its writer have received
abbrev pub work_of : {W S K : Type 0} → (S → Option (List ℕ)) → (K → Option (List ℕ))
    → (W → Option (List ℕ)) → SideRunner W S K → AtWork
work_of rest written contents runner = at_work runner.side runner.now (devices runner.style
    (rest runner.port.source) (written runner.port.sink) (contents runner.out))

-- this holds for a runner before and after a call
abbrev pub Between : {W S K : Type 0} → (S → Option (List ℕ)) → (K → Option (List ℕ))
    → (W → Option (List ℕ)) → SideRunner W S K → SideRunner W S K → (AtWork → AtWork → Type 0)
    → Type 0
Between rest written contents old new R = R (work_of rest written contents old)
    (work_of rest written contents new)
