-- The texts of the options of `net` and `user`, and the interface they choose.
use Rattle.std.specs.Prelude.{◌≡◌, ℕ, List, option_map, ◌||◌, not, ⊤}
use Rattle.lapd_frame.specs.declared.Sapi.{Sapi}
use Rattle.lapd_frame.specs.declared.Sapi.TheVariants.{Call, Packet}
use Rattle.lapd_cli_values.specs.declared.interface.Interface.{Interface}
use Rattle.lapd_cli_values.specs.declared.interface_options.InterfaceFault.{InterfaceFault}
use Rattle.lapd_cli_values.specs.declared.interface_options.InterfaceFault.TheVariants.{OutOfRange, Memory}
use Rattle.lapd_cli_values.specs.declared.interface_options.InterfaceOptions.{InterfaceOptions}
use Rattle.lapd_cli_values.specs.Interfaces.{AreLengths, AreTeis, IsSeed, lengths_written, link_written, seed_meant, teis_meant, teis_written, window_meant}
use Rattle.lapd_cli_values.specs.Numerals.{AreWritten}
use Rattle.lapd_cli_values.specs.Options.{IsNumberFrom}

-- the window of the links of a SAPI
abbrev pub window_of : InterfaceOptions → Sapi → List ℕ
window_of options sapi = window_meant options.pri sapi (option_map (λ k. k.now) options.k)

-- every number is in its option's range, and the interface has these numbers; it serves SAPI 16 at
-- basic access, and at primary rate if requested
pub record IsChosenBy (options : InterfaceOptions) (teis : List (List ℕ)) (interface : Interface)
    : Type 0 where
  pub links0 : AreWritten (window_of options Call) options.n200.now options.room.now
  pub links16 : AreWritten (window_of options Packet) options.n200.now options.room.now
  pub lengths : AreLengths options.t200.now options.t201.now options.t202.now options.t203.now
  pub seeds : IsSeed (option_map (λ s. s.now) options.seed)
  pub numbers : AreTeis teis
  pub params0 : interface.params0 ≡ link_written (window_of options Call) options.n200.now
      options.room.now options.recovery
  pub params16 : interface.params16 ≡ link_written (window_of options Packet) options.n200.now
      options.room.now options.recovery
  pub durations : interface.durations ≡ lengths_written options.t200.now options.t201.now
      options.t202.now options.t203.now
  pub pri : interface.pri ≡ options.pri
  pub sapi16 : interface.sapi16 ≡ (not options.pri || options.sapi16)
  pub seed : interface.seed ≡ seed_meant (option_map (λ s. s.now) options.seed)
  pub known : interface.teis.items ≡ teis_meant options.pri (teis_written teis)

-- the refused text is not in the range that the fault names
abbrev pub IsNoneOfItsRange : InterfaceFault → Type 0
IsNoneOfItsRange (OutOfRange fault) =
    ¬ IsNumberFrom fault.option.least fault.option.most fault.written.now
IsNoneOfItsRange Memory = ⊤
