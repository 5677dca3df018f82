-- Which fault of a pair means a failed allocation. Every other fault refuses the move.
use Rattle.std.specs.Prelude.{Bool, true, false}
use Rattle.lapd_pair.specs.declared.pair_fault.PairFault.{PairFault}
use Rattle.lapd_pair.specs.declared.pair_fault.PairFault.TheVariants.{Memory}

-- an allocation failed
abbrev pub is_memory : PairFault → Bool
is_memory Memory = true
is_memory fault = false
