-- How the drawing of a pair represents a world, and what its calls leave in it.
use Rattle.std.specs.Prelude.{◌≡◌, List, Option, IsNone, IsSomeAnd, Result, Ok, Err, ⊤}
use Rattle.lapd_cli_script.specs.Script.{LineOutcome}
use Rattle.lapd_cli_script.specs.declared.script.LineFault.{LineFault}
use Rattle.lapd_cli_script.specs.declared.script.LineFault.TheVariants.{Bad, Device, Memory}
use Rattle.lapd_pair_laws.specs.World.{World}
use Rattle.lapd_cli_link_commands.specs.declared.pair_ladder.Drawer.{Drawer}
use Rattle.lapd_cli_link_commands.specs.declared.taken.Taken.{Taken}
use Rattle.lapd_cli_link_commands.specs.PairLadder.{TakenFrame}
use Rattle.lapd_cli_link_commands.specs.RepresentsWorld.{IsSettler}

abbrev pub IsDrawer : Drawer → World → Type 0
IsDrawer drawer w = IsSettler drawer.settler w

abbrev pub taken_of : Taken → TakenFrame
taken_of taken = record {
  is_lost = taken.is_lost;
  from = taken.from;
  octets = taken.octets.items;
}

-- how a line ends whose text is kept in the drawer
abbrev pub KeepsText : LineOutcome World → Result ⊤ LineFault → Drawer → Type 0
KeepsText outcome (Ok done) drawer =
    IsSomeAnd outcome (λ next. IsDrawer drawer next.1 × (drawer.text.items ≡ next.0))
KeepsText outcome (Err Bad) drawer = IsNone outcome
KeepsText outcome (Err Memory) drawer = ⊤
KeepsText outcome (Err Device) drawer = ⊥
