-- Kinds of frames, by their control fields (Q.921 Table 5).
use Rattle.std.specs.Prelude.{ℕ, List, [], ◌∷◌, codes, Result, Ok, Err}
use Rattle.lapd_frame.specs.declared.Control.{Control}
use Rattle.lapd_frame.specs.declared.Control.TheVariants as control
use Rattle.lapd_frame.specs.declared.FrameFault.{FrameFault}
use Rattle.lapd_frame.specs.Frame.{Fields}
use Rattle.lapd_cli_live_text.specs.declared.frame_kind.FrameKind.{FrameKind}
use Rattle.lapd_cli_live_text.specs.declared.frame_kind.FrameKind.TheVariants.{I, Rr, Rnr, Rej, Sabme, Disc, Ua, Dm, Ui, Frmr, Xid, Other}

-- the kind of a frame with this control field
abbrev pub control_kind : Control → FrameKind
control_kind (control.I ns nr p) = I
control_kind (control.Rr nr pf) = Rr
control_kind (control.Rnr nr pf) = Rnr
control_kind (control.Rej nr pf) = Rej
control_kind (control.Sabme p) = Sabme
control_kind (control.Disc p) = Disc
control_kind (control.Ua f) = Ua
control_kind (control.Dm f) = Dm
control_kind (control.Ui p) = Ui
control_kind (control.Frmr f) = Frmr
control_kind (control.Xid pf) = Xid

-- the kind of octets, by what a reader finds in them
abbrev pub kind_of : Result Fields FrameFault → FrameKind
kind_of (Ok frame) = control_kind frame.control
kind_of (Err fault) = Other

-- the name before its count
abbrev pub kind_name : FrameKind → List ℕ
kind_name I = codes "I"
kind_name Rr = codes "RR"
kind_name Rnr = codes "RNR"
kind_name Rej = codes "REJ"
kind_name Sabme = codes "SABME"
kind_name Disc = codes "DISC"
kind_name Ua = codes "UA"
kind_name Dm = codes "DM"
kind_name Ui = codes "UI"
kind_name Frmr = codes "FRMR"
kind_name Xid = codes "XID"
kind_name Other = codes "other"

-- the index of its count
abbrev pub kind_place : FrameKind → ℕ
kind_place I = 0
kind_place Rr = 1
kind_place Rnr = 2
kind_place Rej = 3
kind_place Sabme = 4
kind_place Disc = 5
kind_place Ua = 6
kind_place Dm = 7
kind_place Ui = 8
kind_place Frmr = 9
kind_place Xid = 10
kind_place Other = 11

-- all kinds, in the order in which their counts are printed
abbrev pub kinds : List FrameKind
kinds = I ∷ Rr ∷ Rnr ∷ Rej ∷ Sabme ∷ Disc ∷ Ua ∷ Dm ∷ Ui ∷ Frmr ∷ Xid ∷ Other ∷ []
