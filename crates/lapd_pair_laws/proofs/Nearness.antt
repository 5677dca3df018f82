-- In states 7 and 8, the first frame in transit to each side has numbers within bounds of that
-- side's. So each move is near, and has the same effect on tags as on whole numbers.
use Rattle.std.proofs.Common.{◌≡◌, ℕ, true, false, List, [], ◌∷◌, arith}
use Rattle.lapd_frame.specs.declared.Role.{Role}
use Rattle.lapd_frame.specs.declared.Role.TheVariants.{Command, Answer}
use Rattle.lapd_frame.specs.declared.Control.{Control}
use Rattle.lapd_frame.specs.declared.Control.TheVariants.{I, Rr, Rnr, Rej}
use Rattle.lapd_supervision.specs.StateVariables.{StateVariables}
use Rattle.lapd_link_definition.specs.Tagging.{HasNumbersWithin}
use Rattle.lapd_pair_laws.specs.Line.{Flight}
use Rattle.lapd_pair_laws.specs.Move.{Station}
use Rattle.lapd_pair_laws.specs.Tagged.{IsFirstWithin, AreFirstWithin}
use Rattle.lapd_pair_laws.specs.World.{World}
use Rattle.lapd_pair_laws.specs.Kinds.{Kind, kind_of, kinds, messages, numbers, tally, foreign_of}
use Rattle.lapd_pair_laws.specs.Parties.{receives, party}
use Rattle.lapd_pair_laws.specs.Conjuncts.{Each, IsNearTo, IsClimb, IsReceivable}
use Rattle.lapd_pair_laws.specs.Invariant.{Half, IsInvariant}
use Rattle.lapd_pair_laws.proofs.Receptions.{from_open}
use Rattle.lapd_pair_laws.proofs.Runs.{climb_top}

frame_within : (k : ℕ) (role : Role) (control : Control) (info : List ℕ) (place : ℕ)
    (ks : List Kind) (m : StateVariables)
    → Each (IsNearTo m.vr k) (messages (kind_of role control info place ∷ ks))
    → IsClimb m.va m.vs (numbers (kind_of role control info place ∷ ks))
    → tally foreign_of (kind_of role control info place ∷ ks) ≡ 0 → HasNumbersWithin k control m
frame_within k Command (I ns nr p) info place ks m near climb clean =
    (near.0.0, near.0.1, (climb.0, climb_top nr m.vs (numbers ks) climb.1))
frame_within k Command (Rr nr true) info place ks m near climb clean =
    (climb.0, climb_top nr m.vs (numbers ks) climb.1)
frame_within k Command (Rnr nr true) info place ks m near climb clean =
    (climb.0, climb_top nr m.vs (numbers ks) climb.1)
frame_within k Answer (Rr nr true) info place ks m near climb clean =
    (climb.0, climb_top nr m.vs (numbers ks) climb.1)
frame_within k Answer (Rr nr false) info place ks m near climb clean =
    (climb.0, climb_top nr m.vs (numbers ks) climb.1)
frame_within k Answer (Rnr nr true) info place ks m near climb clean =
    (climb.0, climb_top nr m.vs (numbers ks) climb.1)
frame_within k Answer (Rnr nr false) info place ks m near climb clean =
    (climb.0, climb_top nr m.vs (numbers ks) climb.1)
frame_within k Answer (Rej nr true) info place ks m near climb clean =
    (climb.0, climb_top nr m.vs (numbers ks) climb.1)
frame_within k Answer (Rej nr false) info place ks m near climb clean =
    (climb.0, climb_top nr m.vs (numbers ks) climb.1)
frame_within k Command (Rr nr false) info place ks m near climb clean =
    absurd (omega (arith, clean))
frame_within k Command (Rnr nr false) info place ks m near climb clean =
    absurd (omega (arith, clean))
frame_within k Command (Rej nr pf) info place ks m near climb clean = absurd (omega (arith, clean))
frame_within k Answer (I ns nr p) info place ks m near climb clean = absurd (omega (arith, clean))
frame_within k role control info place ks m near climb clean = tt

first_within : (x y : Station) (base its_base : ℕ) (frames : List Flight) (back : List Kind)
    → Half (party base x) (party its_base y) (kinds frames) back
    → IsFirstWithin x.end.parameters.k frames y.end
first_within x y base its_base [] back half = tt
first_within x y base its_base (frame ∷ rest) back half = λ is.
    let reception =
    from_open
    (IsReceivable (party base x) (party its_base y) (receives (party base x) back))
    (party its_base y) (kinds (frame ∷ rest)) is half.reception in
    frame_within x.end.parameters.k frame.role frame.control frame.info frame.place (kinds rest)
    y.end.window reception.stream.near reception.acks.climb half.exchange.clean

pub within_by_invariant : (w : World) → IsInvariant w → AreFirstWithin w
within_by_invariant w i = record {
  to_user =
      first_within w.network w.user i.network_base i.user_base w.to_user (kinds w.to_network)
      i.both.its;
  to_network =
      first_within w.user w.network i.user_base i.network_base w.to_network (kinds w.to_user)
      i.both.mine;
}
