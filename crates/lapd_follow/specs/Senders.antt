-- Who sent a frame, by its kind and its C/R bit.
use Rattle.std.specs.Prelude.{ℕ, ◌/◌, ◌%◌, ◌==◌, if◌then◌else◌, Bool, true, false, List, [], ◌∷◌, Option, Some, None, option_map, Result, Ok, Err}
use Rattle.lapd_field.specs.Address.{is_badly_extended}
use Rattle.lapd_field.specs.Control.{control_at}
use Rattle.lapd_frame.specs.declared.FieldFault.{FieldFault}
use Rattle.lapd_frame.specs.declared.Side.{Side}
use Rattle.lapd_frame.specs.declared.Side.TheVariants.{Network, User}
use Rattle.lapd_frame.specs.declared.Role.{Role}
use Rattle.lapd_frame.specs.declared.Role.TheVariants.{Command, Answer}
use Rattle.lapd_frame.specs.declared.Control.{Control}
use Rattle.lapd_frame.specs.declared.Control.TheVariants.{I, Rr, Rnr, Rej, Sabme, Dm, Ui, Disc, Ua, Frmr, Xid}

-- the only role that a frame of this kind has (Q.921 Table 5): S and XID frames have both
abbrev pub role_by_kind : Control → Option Role
role_by_kind (I ns nr p) = Some Command
role_by_kind (Rr nr pf) = None
role_by_kind (Rnr nr pf) = None
role_by_kind (Rej nr pf) = None
role_by_kind (Sabme p) = Some Command
role_by_kind (Dm f) = Some Answer
role_by_kind (Ui p) = Some Command
role_by_kind (Disc p) = Some Command
role_by_kind (Ua f) = Some Answer
role_by_kind (Frmr f) = Some Answer
role_by_kind (Xid pf) = None

-- who sends this role with this C/R bit: the network sends its commands with 1, and the user its
-- responses (Q.921 3.3.2)
abbrev pub sender_of_role : Bool → Role → Side
sender_of_role true Command = Network
sender_of_role false Command = User
sender_of_role true Answer = User
sender_of_role false Answer = Network

abbrev pub sender_of_control : Bool → Result (Control × ℕ) FieldFault → Option Side
sender_of_control bit (Err fault) = None
sender_of_control bit (Ok read) = option_map (sender_of_role bit) (role_by_kind read.0)

-- the only side that may have sent these octets, if their kind and C/R bit name it
abbrev pub sender_by_kind : List ℕ → Option Side
sender_by_kind [] = None
sender_by_kind (first ∷ []) = None
sender_by_kind (first ∷ second ∷ control) = if is_badly_extended first second then None
    else sender_of_control (first / 2 % 2 == 1) (control_at control)

-- whether the sides are not the same one
abbrev pub are_different : Side → Side → Bool
are_different User User = false
are_different User Network = true
are_different Network User = true
are_different Network Network = false

abbrev pub is_other : Side → Option Side → Bool
is_other sender None = false
is_other sender (Some side) = are_different sender side

-- whether only the other side may have sent these octets, by their kind and C/R bit
abbrev pub is_of_other_side : Side → List ℕ → Bool
is_of_other_side sender octets = is_other sender (sender_by_kind octets)
