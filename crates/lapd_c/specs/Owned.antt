-- A handle owns nothing if its pointer is null, else the box of a side.
use base.Fml.{Fml, ftrue, fex}
use base.Stored.{Coded}
use denote.RawPtr.{Ptr, block_ptr, null_ptr}
use Rattle.std.specs.Box.Ownership.{box_owns}
use Rattle.std.specs.Global.{Global}
use Rattle.std.specs.Prelude.{Option, Some, None}
use Rattle.std.specs.contracts.option.Option as option
use Rattle.std.specs.contracts.impls.GlobalAllocator.TheImpl.{ghosts}
use Rattle.lapd_c.specs.contracts.held_side.HeldSide.{the_row}

-- the side that a handle owns, if any
abbrev pub Held : Type 0
Held = Option the_row.Denot

-- never holds: the pointer and the side contradict each other
abbrev pub nothing_there : Fml
nothing_there = fex ⊥ (λ _. ftrue)

-- A null pointer owns no side, and any other pointer owns the box that it points to. The allocator
-- made the box.
abbrev pub owns : Global → Ptr → Held → Fml
owns alloc null_ptr None = ftrue
owns alloc null_ptr (Some x) = nothing_there
owns alloc (block_ptr b o) None = nothing_there
owns alloc (block_ptr b o) (Some x) =
    box_owns (ghosts.dealloc_token alloc) the_row (block_ptr b o) x

-- the side of a handle can be a ghost field
abbrev pub held_coded : Coded Held
held_coded = (option.the_row the_row).coded
