-- The information of a frame reject (Q.921 3.6.11, Figure 6).
use Rattle.std.specs.Prelude.{ℕ, ◌/◌, ◌%◌, ◌==◌, slice_index, List, [], ◌∷◌, Bool}
use Rattle.lapd_frame.specs.declared.frmr_info.FrmrInfo.{FrmrInfo}

-- whether this bit of an octet is set; bit 1 is the lowest
abbrev pub has_bit : ℕ → ℕ → Bool
has_bit octet worth = octet / worth % 2 == 1

-- the rejected control field, V(S) * 2, V(R) * 2 + C/R, and the bits Z, Y, X, W
abbrev pub frmr_info : List ℕ → FrmrInfo
frmr_info info = record {
  rejected = slice_index info 0 ∷ slice_index info 1 ∷ [];
  vs = slice_index info 2 / 2;
  vr = slice_index info 3 / 2;
  cr = has_bit (slice_index info 3) 1;
  w = has_bit (slice_index info 4) 1;
  x = has_bit (slice_index info 4) 2;
  y = has_bit (slice_index info 4) 4;
  z = has_bit (slice_index info 4) 8;
}
