-- The frames that a tap was passed, after some more calls.
use Rattle.std.proofs.Common.{◌≡◌, ℕ, List, [], ◌∷◌, ◌++◌, Option, None, Some, Result, Ok, Err, refl, sym, ap, subst, ◌∙◌, append-nil}
use Rattle.std.specs.Prelude.{IfOk, OnErr}
use Rattle.lapd_port.specs.declared.port_fault.PortFault.{PortFault}
use Rattle.lapd_cli_wire.specs.declared.outside.Woken.{Woken}
use Rattle.std.proofs.Math.Logic.{∥∥₁_map}
use Rattle.lapd_field.specs.Address.{other_side}
use Rattle.lapd_frame.specs.declared.Side.{Side}
use Rattle.lapd_cli_wire.specs.IoEvents.{Adds, Arrives, IoEvent, FindsNone, Reads, Sends, Waits, received}
use Rattle.lapd_cli_wire.specs.Passed.{ArePassed, PassedFrame, passed_with, passed_more, passed_frame, passed_in}

passed_both : (own : Side) (first last : List IoEvent)
    → passed_in own (first ++ last) ≡ passed_in own first ++ passed_in own last
passed_both own [] last = refl
passed_both own (Reads now ∷ first) last = passed_both own first last
passed_both own (FindsNone ∷ first) last = passed_both own first last
passed_both own (Waits until woken ∷ first) last = passed_both own first last
passed_both own (Arrives frame ∷ first) last =
    ap (λ xs. passed_frame (other_side own) frame ∷ xs) (passed_both own first last)
passed_both own (Sends frame ∷ first) last =
    ap (λ xs. passed_frame own frame ∷ xs) (passed_both own first last)

still_passed : (own : Side) (a b : Option (List IoEvent))
    (passed_frames : Option (List PassedFrame)) (io_events : List IoEvent)
    → ArePassed own a passed_frames → Adds a b io_events
    → ArePassed own b (passed_with own passed_frames io_events)
still_passed own None None passed_frames io_events are adds = tt
still_passed own None (Some after) passed_frames io_events are adds = absurd adds
still_passed own (Some before) None passed_frames io_events are adds = tt
still_passed own (Some before) (Some after) None io_events are adds = tt
still_passed own (Some before) (Some after) (Some frames) io_events are adds =
    ap (λ xs. xs ++ passed_in own io_events) are ∙ sym (passed_both own before io_events)
    ∙ ap (passed_in own) (sym adds)

-- a tap is passed the frames of the calls since
pub passes_since : (own : Side) (a b : Option (List IoEvent))
    (passed_frames after : Option (List PassedFrame)) (io_events : List IoEvent)
    → ∥ ArePassed own a passed_frames ∥₁ → Adds a b io_events
    → after ≡ passed_with own passed_frames io_events → ∥ ArePassed own b after ∥₁
passes_since own a b passed_frames after io_events are_passed adds is =
    ∥∥₁_map are_passed (λ are. subst (ArePassed own b) (sym is)
    (still_passed own a b passed_frames io_events are adds))

more_none : (passed_frames : Option (List PassedFrame))
    → passed_frames ≡ passed_more passed_frames []
more_none None = refl
more_none (Some frames) = ap Some (sym (append-nil frames))

-- and no others if no frame was received or sent
pub passed_beside : (own : Side) (a b : Option (List IoEvent))
    (passed_frames : Option (List PassedFrame)) (io_events : List IoEvent)
    → ∥ ArePassed own a passed_frames ∥₁ → Adds a b io_events → passed_in own io_events ≡ []
    → ∥ ArePassed own b passed_frames ∥₁
passed_beside own a b passed_frames io_events are_passed adds none =
    passes_since own a b passed_frames passed_frames io_events are_passed adds
    (more_none passed_frames ∙ ap (passed_more passed_frames) (sym none))

pub passed_waited : (own : Side) (a b : Option (List IoEvent))
    (passed_frames : Option (List PassedFrame)) (until : Option ℕ) (woken : Result Woken PortFault)
    → ∥ ArePassed own a passed_frames ∥₁ → IfOk woken (λ w. Adds a b (Waits until w ∷ []))
    → OnErr woken (b ≡ a) → ∥ ArePassed own b passed_frames ∥₁
passed_waited own a b passed_frames until (Ok woken) are_passed adds stays =
    passed_beside own a b passed_frames (Waits until woken ∷ []) are_passed adds refl
passed_waited own a b passed_frames until (Err fault) are_passed adds stays =
    subst (λ (x : Option (List IoEvent)). ∥ ArePassed own x passed_frames ∥₁) (sym stays) are_passed

pub passed_received : (own : Side) (a b : Option (List IoEvent))
    (passed_frames : Option (List PassedFrame)) (room : List ℕ) (count : Option ℕ)
    → ∥ ArePassed own a passed_frames ∥₁ → Adds a b (received room count) → count ≡ None
    → ∥ ArePassed own b passed_frames ∥₁
passed_received own a b passed_frames room count are_passed adds none =
    passed_beside own a b passed_frames (FindsNone ∷ []) are_passed
    (subst (λ (x : Option ℕ). Adds a b (received room x)) none adds) refl
