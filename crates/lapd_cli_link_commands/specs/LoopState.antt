-- The state of the command `loop`: two ends and the frames that have crossed.
use Rattle.std.specs.Prelude.{ℕ, List, [], ◌++◌, Option, option_map}
use Rattle.lapd_cli_script.specs.Script.{Step}
use Rattle.lapd_pair_laws.specs.World.{World}
use Rattle.lapd_cli_link_commands.specs.Pair.{move_step}
use Rattle.lapd_cli_link_commands.specs.RepresentsWorld.{IsMover}
use Rattle.lapd_cli_link_commands.specs.declared.mover.Mover.{Mover}
use Rattle.lapd_cli_link_commands.specs.Crossing.{HaveCrossed}
use Rattle.lapd_cli_link_commands.specs.Loop.{put_between}

-- both ends with their line, the frames that have crossed so far, and what the source still held
-- and the sink had received before the first of them
pub record LoopState : Type 0 where
  pub world : World
  pub crossed : List (List ℕ)
  pub rest : Option (List ℕ)
  pub written : Option (List ℕ)

-- a move is printed as by `pair`, and the frames it puts on the line cross
abbrev pub after_line : LoopState → List ℕ × World → List ℕ × LoopState
after_line s (text, v) = (
  text,
  record {
    world = v;
    crossed = s.crossed ++ put_between s.world v;
    rest = s.rest;
    written = s.written;
  },
)

abbrev pub loop_step : Step LoopState
loop_step s line = option_map (after_line s) (move_step s.world line)

-- no frame has crossed yet
abbrev pub new_loop : World → Option (List ℕ) → Option (List ℕ) → LoopState
new_loop w rest written = record { world = w; crossed = []; rest = rest; written = written }

-- the mover represents the state's world, with these octets left in the source and those received
-- by the sink
abbrev pub RepresentsLoop : Mover → Option (List ℕ) → Option (List ℕ) → LoopState → Type 0
RepresentsLoop mover left grown s = IsMover mover s.world
    × HaveCrossed s.rest left s.written grown s.crossed
