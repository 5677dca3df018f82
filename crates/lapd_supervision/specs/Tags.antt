-- How the actions on tags represent those on numbers without a bound.
use Rattle.std.specs.Prelude.{ℕ, ◌+◌, ◌≤◌}
use Rattle.lapd_field.specs.declared.control.Control.{Control}
use Rattle.lapd_field.specs.declared.control.Control.TheVariants.{I, Rr, Rnr, Rej, Sabme, Dm, Ui, Disc, Ua, Frmr, Xid}
use Rattle.lapd_mod128.specs.Counting.{tag, AreNear}
use Rattle.lapd_supervision.specs.StateVariables.{StateVariables}

-- the state variables with the tag of each counter
unfoldable pub tag_variables : StateVariables → StateVariables
tag_variables m = record m { vs = tag m.vs; va = tag m.va; vr = tag m.vr }

-- the control field with the tag of each number
unfoldable pub tag_control : Control → Control
tag_control (I ns nr p) = I (tag ns) (tag nr) p
tag_control (Rr nr pf) = Rr (tag nr) pf
tag_control (Rnr nr pf) = Rnr (tag nr) pf
tag_control (Rej nr pf) = Rej (tag nr) pf
tag_control (Sabme p) = Sabme p
tag_control (Dm f) = Dm f
tag_control (Ui p) = Ui p
tag_control (Disc p) = Disc p
tag_control (Ua f) = Ua f
tag_control (Frmr f) = Frmr f
tag_control (Xid pf) = Xid pf

-- at most 127 I frames are outstanding from V(A) to V(S) (Q.921 5.9.5)
pub record IsWindow (va vs : ℕ) : Type 0 where
  pub in_order : va ≤ vs
  pub at_most : vs ≤ va + 127

-- an N(R) lies within 127 of V(A) and of V(S)
pub record IsNearWindow (nr va vs : ℕ) : Type 0 where
  pub near_va : AreNear va nr
  pub near_vs : AreNear nr vs
