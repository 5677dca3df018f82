-- How a side in code represents that of the definition: `represents` relates the code of its TEI
-- management to the state of it.
use Rattle.std.specs.Prelude.{◌≡◌}
use Rattle.lapd_frame.specs.declared.Side.{Side}
use Rattle.lapd_sides_links.specs.declared.config.Config.{Config}
use Rattle.lapd_sides.specs.declared.managed_side.ManagedSide.{ManagedSide}
use Rattle.lapd_sides.specs.Shows.{ShowServed}
use Rattle.lapd_sides.specs.SideState.{Rules, SideState}

-- its configuration, links, TEI management, and number of discarded frames
pub record ShowSide {C M : Type 0} (represents : C → M → Type 0) (side : Side)
    (code : ManagedSide C) (config : Config) (s : SideState M) : Type 0 where
  pub configured : code.config ≡ config
  pub served : ShowServed side code.served s.served
  pub management : represents code.management s.management
  pub discarded : code.served.discarded ≡ s.discarded

-- a side with these rules
abbrev pub Shows : {C M : Type 0} → (C → M → Type 0) → Rules M
    → ManagedSide C → Config → SideState M → Type 0
Shows represents rules = ShowSide represents rules.side
