-- The numbers learned for both directions of a link are those of its ends, so the link is in step.
use Rattle.std.proofs.Common.{◌≡◌, ℕ, Bool, true, false, Some, refl, is_some}
use Rattle.std.proofs.lemmas.Bool.{false≢true}
use Rattle.lapd_frame.specs.declared.Role.{Role}
use Rattle.lapd_frame.specs.declared.Control.{Control}
use Rattle.lapd_frame.specs.declared.Control.TheVariants.{I, Rr, Rnr, Rej, Sabme, Dm, Ui, Disc, Ua, Frmr, Xid}
use Rattle.lapd_follow.specs.declared.learned.Learned.{Learned}
use Rattle.lapd_follow.specs.declared.learned.Learned.TheVariants.{Nothing, Sent, Fixed}
use Rattle.lapd_follow.specs.declared.numbering.Numbering.{Numbering}
use Rattle.lapd_follow.specs.Directions.{Direction, GoesOn, InStep, IsRight, Knows}
use Rattle.lapd_follow.specs.Ends.{with_learned, with_numbering}
use Rattle.lapd_follow.specs.Exchange.{Exchange, answers_only_poll, learns_from, learns_ns, learns_nr, numbered}
use Rattle.lapd_follow.specs.Learning.{learned_numbering}
use Rattle.lapd_follow.specs.TwoDirections.{BothInStep, Directions, KnowsBoth, SendsRight, SupervisesRight}
use Rattle.lapd_follow.proofs.Directions.{acknowledgement_keeps, message_keeps, silence_keeps}

supervision_teaches : (role : Role) (nr : ℕ) (pf : Bool) (x : Exchange) (d e : Directions)
    → IsRight d.receiving → SupervisesRight role nr pf x d e → KnowsBoth x d
    → KnowsBoth (learns_nr (answers_only_poll role pf x.to.polls) nr x) e
unfolding learns_nr with_learned
supervision_teaches role nr pf x d e right (whole, tagged, on, a) k = record {
  sending = silence_keeps x.from.learned d.sending e.sending on k.sending;
  receiving = rw tagged
      (acknowledgement_keeps whole (answers_only_poll role pf x.to.polls) x.to.learned d.receiving
      e.receiving right a k.receiving);
}

others_teach : (x : Exchange) (d e : Directions) → GoesOn d.sending e.sending
    → GoesOn d.receiving e.receiving → KnowsBoth x d → KnowsBoth x e
others_teach x d e on also k = record {
  sending = silence_keeps x.from.learned d.sending e.sending on k.sending;
  receiving = silence_keeps x.to.learned d.receiving e.receiving also k.receiving;
}

pub frame_teaches : (control : Control) (role : Role) (x : Exchange) (d e : Directions)
    → IsRight d.sending → IsRight d.receiving → SendsRight control role x d e → KnowsBoth x d
    → KnowsBoth (learns_from control role x) e
unfolding learns_ns learns_nr with_learned
frame_teaches (I ns nr p) role x d e right also (sent, whole, ns_is, nr_is, s, a) k = record {
  sending = rw ns_is
      (message_keeps sent p x.from.learned d.sending e.sending right s k.sending);
  receiving = rw nr_is
      (acknowledgement_keeps whole false x.to.learned d.receiving e.receiving also a k.receiving);
}
frame_teaches (Rr nr pf) role x d e right also s k =
    supervision_teaches role nr pf x d e also s k
frame_teaches (Rnr nr pf) role x d e right also s k =
    supervision_teaches role nr pf x d e also s k
frame_teaches (Rej nr pf) role x d e right also s k =
    supervision_teaches role nr pf x d e also s k
frame_teaches (Sabme p) role x d e right also s k = others_teach x d e s.0 s.1 k
frame_teaches (Dm f) role x d e right also s k = others_teach x d e s.0 s.1 k
frame_teaches (Ui p) role x d e right also s k = others_teach x d e s.0 s.1 k
frame_teaches (Disc p) role x d e right also s k = others_teach x d e s.0 s.1 k
frame_teaches (Ua f) role x d e right also s k = others_teach x d e s.0 s.1 k
frame_teaches (Frmr f) role x d e right also s k = others_teach x d e s.0 s.1 k
frame_teaches (Xid pf) role x d e right also s k = others_teach x d e s.0 s.1 k

-- ---- Then the link is in step.

-- both are fixed
record AreFixed (own peer : Learned) (d e : Direction) : Type 0 where
  from : Numbering
  to : Numbering
  from_is : learned_numbering own peer ≡ Some from
  to_is : learned_numbering peer own ≡ Some to
  sending : InStep from.next to.nr d
  receiving : InStep to.next from.nr e

are_fixed : (own peer : Learned) (d e : Direction)
    → is_some (learned_numbering own peer) ≡ true → Knows own d → Knows peer e
    → AreFixed own peer d e
are_fixed Nothing peer d e some k l = absurd (false≢true some)
are_fixed (Sent next) peer d e some k l = absurd (false≢true some)
are_fixed (Fixed next nr) Nothing d e some k l = absurd (false≢true some)
are_fixed (Fixed next nr) (Sent other) d e some k l = absurd (false≢true some)
are_fixed (Fixed next nr) (Fixed other last) d e some k l = record {
  from = record { is_first = false; next = next; nr = last };
  to = record { is_first = false; next = other; nr = nr };
  from_is = refl;
  to_is = refl;
  sending = k;
  receiving = l;
}

pub learned_is_in_step : (x : Exchange) (d : Directions)
    → is_some (learned_numbering x.from.learned x.to.learned) ≡ true → KnowsBoth x d
    → BothInStep (numbered x) d
unfolding numbered with_numbering
learned_is_in_step x d some k =
    let f = are_fixed x.from.learned x.to.learned d.sending d.receiving some k.sending k.receiving in
    record {
      own = f.from;
      peer = f.to;
      from = f.from_is;
      to = f.to_is;
      sending = f.sending;
      receiving = f.receiving;
    }
