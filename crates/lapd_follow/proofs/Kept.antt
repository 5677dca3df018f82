-- Only the octets that are kept of a frame matter after it.
use Rattle.std.proofs.Common.{◌≡◌, ℕ, List, refl}
use Rattle.lapd_frame.specs.declared.Role.{Role}
use Rattle.lapd_frame.specs.declared.Control.{Control}
use Rattle.lapd_frame.specs.declared.Control.TheVariants.{I, Rr, Rnr, Rej, Sabme, Dm, Ui, Disc, Ua, Frmr, Xid}
use Rattle.lapd_follow.specs.declared.packet.Packet.{Packet}
use Rattle.lapd_follow.specs.Exchange.{Exchange, after_control, kept_octets}

pub kept_is_enough : (control : Control) (role : Role) (info : List ℕ) (packet : Packet)
    (x : Exchange)
    → after_control control role (kept_octets control info) packet x
    ≡ after_control control role info packet x
kept_is_enough (I ns nr p) role info packet x = refl
kept_is_enough (Rr nr pf) role info packet x = refl
kept_is_enough (Rnr nr pf) role info packet x = refl
kept_is_enough (Rej nr pf) role info packet x = refl
kept_is_enough (Sabme p) role info packet x = refl
kept_is_enough (Dm f) role info packet x = refl
kept_is_enough (Ui p) role info packet x = refl
kept_is_enough (Disc p) role info packet x = refl
kept_is_enough (Ua f) role info packet x = refl
kept_is_enough (Frmr f) role info packet x = refl
kept_is_enough (Xid pf) role info packet x = refl
