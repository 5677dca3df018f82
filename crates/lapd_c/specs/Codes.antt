-- The codes that calls return to C, one for each result.
use Rattle.std.specs.Prelude.{ℕ, Result, Ok, Err, ⊤}
use Rattle.lapd_link_definition.specs.declared.event.LinkFault.{LinkFault}
use Rattle.lapd_link_definition.specs.declared.event.LinkFault.TheVariants as link
use Rattle.lapd_sides_links.specs.declared.side_fault.SideFault.{SideFault}
use Rattle.lapd_sides_links.specs.declared.side_fault.SideKind.{SideKind}
use Rattle.lapd_sides_links.specs.declared.side_fault.SideKind.TheVariants as side

-- the call succeeded
abbrev pub done : ℕ
done = 0

-- the handle owns no side
abbrev pub no_side : ℕ
no_side = 1

-- too many frames or primitives wait to be fetched
abbrev pub pending : ℕ
pending = 2

-- a number is out of its range, or a buffer is too small
abbrev pub out_of_range : ℕ
out_of_range = 3

-- a check of a TEI is requested while another check is in progress
abbrev pub check_runs : ℕ
check_runs = 4

-- counters are requested of a side that does not count
abbrev pub not_counting : ℕ
not_counting = 5

-- B3: an allocation failed
abbrev pub memory : ℕ
memory = 13

-- L1 to L5
abbrev pub code_of_link_fault : LinkFault → ℕ
code_of_link_fault link.NotEstablished = 21
code_of_link_fault link.QueueFull = 22
code_of_link_fault link.TooLong = 23
code_of_link_fault link.Releasing = 24
code_of_link_fault link.LayerThreeEstablishing = 25

-- B1, B3, and the codes of the link
abbrev pub code_of_kind : SideKind → ℕ
code_of_kind side.NoLink = 11
code_of_kind side.Memory = memory
code_of_kind (side.Link fault) = code_of_link_fault fault

-- the result of a side's call
abbrev pub code_of : Result ⊤ SideFault → ℕ
code_of (Ok _) = done
code_of (Err fault) = code_of_kind fault.kind
