-- Numbers in the octets of a capture.
use Rattle.std.specs.Prelude.{ℕ, List, drop}
use Rattle.byteorder.specs.Endian.{big_number, little_number}
use Rattle.lapd_capture.specs.declared.order.Order.{Order}
use Rattle.lapd_capture.specs.declared.order.Order.TheVariants.{Big, Little}

-- the number of this many octets at this place
abbrev pub number_at : Order → ℕ → ℕ → List ℕ → ℕ
number_at Big count place octets = big_number count (drop place octets)
number_at Little count place octets = little_number count (drop place octets)
