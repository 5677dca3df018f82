-- How a user side in code represents that of the definition.
use Rattle.std.specs.Prelude.{◌≡◌, ℕ, List}
use Rattle.rand_pcg.specs.Lcg.{Lcg}
use Rattle.rand_pcg.specs.Pcg.{pcg32}
use Rattle.lapd_tei.specs.declared.out.TeiOut.{TeiOut}
use Rattle.lapd_tei.specs.Out.{tei_given}
use Rattle.lapd_tei.specs.Terminal.{TerminalStep}
use Rattle.lapd_sides_links.specs.declared.config.Config.{Config}
use Rattle.lapd_sides_links.specs.Effects.{Effects}
use Rattle.lapd_sides.specs.declared.managed_side.ManagedSide.{ManagedSide}
use Rattle.lapd_sides.specs.declared.references.References.{References}
use Rattle.lapd_sides.specs.declared.terminal_management.TerminalManagement.{TerminalManagement}
use Rattle.lapd_sides.specs.Calls.{HasDone}
use Rattle.lapd_sides.specs.Management.{links_with}
use Rattle.lapd_sides.specs.ShowsSide.{Shows}
use Rattle.lapd_sides.specs.User.{TerminalState, User, next_reference, advanced, assigned, user_rules}

abbrev pub UserSide : Type 0
UserSide = ManagedSide TerminalManagement

-- The next reference has been drawn from the generator, and the rest of the generator follows it.
pub record ShowReferences (code : References) (random : Lcg) : Type 0 where
  pub next : code.next ≡ next_reference random
  pub rest : code.rest ≡ advanced (pcg32 random)

-- its terminal, kept establishments and references
pub record ShowTerminal (code : TerminalManagement) (m : TerminalState) : Type 0 where
  pub terminal : code.terminal ≡ m.terminal
  pub pending : code.pending ≡ m.pending
  pub random : ShowReferences code.references m.random

abbrev pub ShowUser : UserSide → Config → User → Type 0
ShowUser = Shows ShowTerminal user_rules

-- the terminal has taken its step, and the links of a TEI that it obtained have been added
abbrev pub admitted : Config → TerminalStep → User → User
admitted config step s = record s {
  served = record s.served { links = links_with config (tei_given step.outs) s.served.links };
  management = record s.management { terminal = step.now };
}

-- the call carries out the rest of a terminal's step with these outputs
abbrev pub CarriesOut : UserSide → UserSide → Effects → ℕ → List TeiOut → Type 0
CarriesOut old new acts now outs =
    (config : Config) (s : User) (step : TerminalStep) → step.outs ≡ outs
    → ShowUser old config (admitted config step s)
    → HasDone ShowUser new config acts (assigned config now step s)
