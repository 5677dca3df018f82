-- The parameters that an end is made with (Q.921 5.9).
use Rattle.std.specs.Prelude.{ℕ, ◌≤◌, ◌&&◌, nat_le, if◌then◌else◌, Bool, Option, Some, None}
use Rattle.lapd_frame.specs.declared.Sapi.{Sapi}
use Rattle.lapd_frame.specs.declared.Sapi.TheVariants.{Packet}
use Rattle.lapd_link_definition.specs.declared.recovery.Recovery.{Recovery}
use Rattle.lapd_link_definition.specs.declared.recovery.Recovery.TheVariants.{Enquiry}

-- the window k (5.9.5), N200 (5.9.2), how many messages the I queue has room for, and what T200
-- sends in state 7 (5.6.7)
pub record Parameters : Type 0 where
  pub k : ℕ
  pub n200 : ℕ
  pub room : ℕ
  pub recovery : Recovery

-- The window has fewer than 128 places, so that an N(R) equal to V(A) and one equal to V(S) differ.
pub record AreInRange (p : Parameters) : Type 0 where
  pub k_low : 1 ≤ p.k
  pub k_high : p.k ≤ 127
  pub n200_low : 1 ≤ p.n200
  pub n200_high : p.n200 ≤ 100
  pub room_low : 1 ≤ p.room
  pub room_high : p.room ≤ 1024

abbrev pub lies_between : ℕ → ℕ → ℕ → Bool
lies_between low n high = nat_le low n && nat_le n high

-- the parameters with these numbers, if each is in its range
abbrev pub parameters_of : ℕ → ℕ → ℕ → Option Parameters
parameters_of k n200 room =
    if lies_between 1 k 127 && (lies_between 1 n200 100 && lies_between 1 room 1024)
    then Some (record { k = k; n200 = n200; room = room; recovery = Enquiry }) else None

-- the defaults of basic access for a SAPI, and of primary rate access (Q.921 5.9.2, 5.9.5)
abbrev pub basic_parameters : Sapi → Parameters
basic_parameters Packet = record { k = 3; n200 = 3; room = 512; recovery = Enquiry }
basic_parameters sapi = record { k = 1; n200 = 3; room = 512; recovery = Enquiry }

abbrev pub primary_parameters : Parameters
primary_parameters = record { k = 7; n200 = 3; room = 512; recovery = Enquiry }
