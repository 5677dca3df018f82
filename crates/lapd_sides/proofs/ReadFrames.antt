-- The information of a frame that was read fits. A fault that was read has an address only if it is
-- for a link.
use Rattle.std.proofs.Common.{◌≡◌, ◌≤◌, ℕ, List, length, Bool, true, false, Option, None, Some, Result, Ok, Err, IfErr, IfSome, refl, sym, subst, ap, ◌∙◌}
use Rattle.std.specs.Prelude.{if◌then◌else◌}
use Rattle.lapd_frame.specs.declared.Side.{Side}
use Rattle.lapd_frame.specs.declared.Address.{Address}
use Rattle.lapd_frame.specs.declared.FaultKind.{FaultKind}
use Rattle.lapd_frame.specs.declared.FrameFault.{FrameFault}
use Rattle.lapd_frame.specs.Fault.{is_for_link}
use Rattle.lapd_frame.specs.Frame.{Fields, frame_of, n201}
use Rattle.lapd_frame.specs.Reading.{address_of, fault_for_link, frame_at}
use Rattle.lapd_frame.proofs.FrameAt.{address_carried, frame_spelled, parts_again}
use Rattle.lapd_frame.proofs.Lengths.{content_is_short}

-- some octets that this side sent are read as this frame or fault
abbrev pub WasRead : Side → Result Fields FrameFault → Type 0
WasRead from frame = (octets : List ℕ) × (frame ≡ frame_at from octets)

without_fault : (f : Fields) (fault : Option FaultKind)
    → fault_for_link f.address (frame_of f.address f.control f.info fault) ≡ Ok f → fault ≡ None
without_fault f None h = refl
without_fault f (Some kind) h = cc

-- the information of a frame that was read has at most 260 octets
pub info_fits : (from : Side) (frame : Result Fields FrameFault) (f : Fields) → WasRead from frame
    → frame ≡ Ok f → length f.info ≤ n201
info_fits from frame f (octets, is) here =
    let read : frame_at from octets ≡ Ok f = sym is ∙ here in
    content_is_short _ _ _ (without_fault f _
    (sym (parts_again from f) ∙ ap (frame_at from) (sym (frame_spelled from octets f read))
    ∙ read))

only_for_link : (for_link : Bool) (address carried : Option Address)
    → address ≡ (if for_link then carried else None) → IfSome address (λ a. for_link ≡ true)
only_for_link true None carried h = tt
only_for_link true (Some a) carried h = refl
only_for_link false None carried h = tt
only_for_link false (Some a) carried h = cc

-- a fault that was read has an address only if it is for a link
pub addressed_for_link : (from : Side) (frame : Result Fields FrameFault) (fault : FrameFault)
    → WasRead from frame → frame ≡ Err fault
    → IfSome fault.address (λ a. is_for_link fault.kind ≡ true)
addressed_for_link from frame fault (octets, is) here =
    let carried =
    subst (λ (r : Result Fields FrameFault). IfErr r
    (λ e. e.address ≡ address_of from octets e.kind)) (sym is ∙ here)
    (address_carried from octets) in
    only_for_link (is_for_link fault.kind) fault.address _ carried
