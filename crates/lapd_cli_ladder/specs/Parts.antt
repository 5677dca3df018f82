-- The parts of a control field that are printed (Q.921 3.5, 3.6).
use Rattle.std.specs.Prelude.{ℕ, List, codes, Option, Some, None}
use Rattle.lapd_frame.specs.declared.Control.{Control}
use Rattle.lapd_frame.specs.declared.Control.TheVariants.{I, Rr, Rnr, Rej, Sabme, Dm, Ui, Disc, Ua, Frmr, Xid}

-- the name of the frame (Q.921 Table 5)
abbrev pub name_of : Control → List ℕ
name_of (I ns nr p) = codes "I"
name_of (Rr nr pf) = codes "RR"
name_of (Rnr nr pf) = codes "RNR"
name_of (Rej nr pf) = codes "REJ"
name_of (Sabme p) = codes "SABME"
name_of (Dm f) = codes "DM"
name_of (Ui p) = codes "UI"
name_of (Disc p) = codes "DISC"
name_of (Ua f) = codes "UA"
name_of (Frmr f) = codes "FRMR"
name_of (Xid pf) = codes "XID"

-- N(S), which an I frame has
abbrev pub ns_of : Control → Option ℕ
ns_of (I ns nr p) = Some ns
ns_of other = None

-- N(R), which I and S frames have
abbrev pub nr_of : Control → Option ℕ
nr_of (I ns nr p) = Some nr
nr_of (Rr nr pf) = Some nr
nr_of (Rnr nr pf) = Some nr
nr_of (Rej nr pf) = Some nr
nr_of other = None
