-- The length of a frame's information.
use Rattle.std.proofs.Common.{◌≡◌, ℕ, ◌≤◌, Bool, true, false, Some, None, refl, arith}
use Rattle.std.proofs.lemmas.Bool.Decides.{nat_tests}
use Rattle.std.specs.Prelude.{◌==◌, nat_lt, if◌then◌else◌}
use Rattle.lapd_field.specs.declared.side.Role.{Role}
use Rattle.lapd_field.specs.declared.side.Role.TheVariants.{Command, Answer}
use Rattle.lapd_field.specs.declared.control.Control.{Control}
use Rattle.lapd_field.specs.declared.control.Control.TheVariants.{I, Rr, Rnr, Rej, Sabme, Dm, Ui, Disc, Ua, Frmr, Xid}
use Rattle.lapd_frame.specs.Frame.{n201, content_fault}

-- a frame of the control table has short information
pub where_long : {X : Type 0} (long : Bool) (len : ℕ) (fault : X) → nat_lt 260 len ≡ long
    → (if long then Some fault else None) ≡ None → len ≤ n201
where_long true len fault is h = cc
where_long false len fault is h = grind (arith, nat_tests)

where_some : {X : Type 0} (some : Bool) (len : ℕ) (fault : X) → nat_lt 0 len ≡ some
    → (if some then Some fault else None) ≡ None → len ≤ n201
where_some true len fault is h = cc
where_some false len fault is h = grind (arith, nat_tests)

where_five : {X : Type 0} (five : Bool) (len : ℕ) (fault : X) → (len == 5) ≡ five
    → (if five then None else Some fault) ≡ None → len ≤ n201
where_five true len fault is h = grind (arith, nat_tests)
where_five false len fault is h = cc

pub content_is_short : (role : Role) (control : Control) (len : ℕ)
    → content_fault role control len ≡ None → len ≤ n201
content_is_short Command (I ns nr p) len h = where_long (nat_lt 260 len) len _ refl h
content_is_short Answer (I ns nr p) len h = cc
content_is_short role (Rr nr pf) len h = where_some (nat_lt 0 len) len _ refl h
content_is_short role (Rnr nr pf) len h = where_some (nat_lt 0 len) len _ refl h
content_is_short role (Rej nr pf) len h = where_some (nat_lt 0 len) len _ refl h
content_is_short Command (Sabme p) len h = where_some (nat_lt 0 len) len _ refl h
content_is_short Answer (Sabme p) len h = cc
content_is_short Command (Dm f) len h = cc
content_is_short Answer (Dm f) len h = where_some (nat_lt 0 len) len _ refl h
content_is_short Command (Ui p) len h = where_long (nat_lt 260 len) len _ refl h
content_is_short Answer (Ui p) len h = cc
content_is_short Command (Disc p) len h = where_some (nat_lt 0 len) len _ refl h
content_is_short Answer (Disc p) len h = cc
content_is_short Command (Ua f) len h = cc
content_is_short Answer (Ua f) len h = where_some (nat_lt 0 len) len _ refl h
content_is_short Command (Frmr f) len h = cc
content_is_short Answer (Frmr f) len h = where_five (len == 5) len _ refl h
content_is_short role (Xid pf) len h = where_long (nat_lt 260 len) len _ refl h
