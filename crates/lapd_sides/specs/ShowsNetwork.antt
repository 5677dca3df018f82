-- How a network side in code represents that of the definition.
use Rattle.std.specs.Prelude.{◌≡◌}
use Rattle.lapd_sides_links.specs.declared.config.Config.{Config}
use Rattle.lapd_tei.specs.Assigner.{AssignerState}
use Rattle.lapd_sides.specs.declared.managed_side.ManagedSide.{ManagedSide}
use Rattle.lapd_sides.specs.Network.{Network, network_rules}
use Rattle.lapd_sides.specs.ShowsSide.{Shows}

abbrev pub NetSide : Type 0
NetSide = ManagedSide AssignerState

abbrev pub is_assigner : AssignerState → AssignerState → Type 0
is_assigner code a = code ≡ a

abbrev pub ShowNetwork : NetSide → Config → Network → Type 0
ShowNetwork = Shows is_assigner network_rules
