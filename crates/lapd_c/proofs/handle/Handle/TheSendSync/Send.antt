-- A handle may be sent to another thread: it owns nothing if it is null, and otherwise a box of
-- plain data.
use mir.Raw.{raw}
use base.Shift.{Keyless}
use denote.Memory.{lone}
use denote.RawPtr.{Ptr, block_ptr, null_ptr}
use denote.Struct.Struct.{exits_of}
use denote.Struct.Owning.{shape, fields, to}
use denote.Param.Send.{IsSend, AllSend, owning_send, struct_send, sendable}
use Rattle.std.specs.Prelude.{Some, None}
use Rattle.std.specs.Global.{Global}
use Rattle.std.proofs.Crossing as heap
use Rattle.std_alloc.proofs.SendSync.{quiet, lies}
use Rattle.std_heap.proofs.Global.TheSendSync as handle
use Rattle.lapd_c.specs.Owned.{Held, owns}
use Rattle.lapd_c.specs.contracts.held_side.HeldSide as held_side
use Rattle.lapd_c.proofs.held_side.HeldSide.TheSendSync.{the_send as sent}
use Rattle.lapd_c.specs.contracts.handle.Handle.{the_row, the_type}

owned : (a : Global) (p : Ptr) (w : Held) → Keyless (owns a p w)
owned a null_ptr None = tt
owned a null_ptr (Some x) = λ wrong. tt
owned a (block_ptr b o) None = λ wrong. tt
owned a (block_ptr b o) (Some x) = (
  lies held_side.the_row sent (block_ptr b o) x,
  heap.frees.frees a (raw (lone held_side.the_row.mir)) (block_ptr b o),
)

pub send : IsSend the_row
send =
    let all : AllSend (fields the_type) = (search sendable, (handle.the_field_send, tt)) in
    owning_send the_type all (λ d. owned d.alloc d.at d.held)
    (λ k. quiet (to the_type) (exits_of k (fields the_type))
    ((struct_send (shape the_type) all).leaving k))
