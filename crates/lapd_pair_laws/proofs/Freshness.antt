-- Messages in transit are fresh, by the invariant.
use Rattle.std.proofs.Common.{◌≡◌, ℕ, true, List, [], ◌∷◌, ◌++◌, map}
use Rattle.lapd_frame.specs.declared.Role.{Role}
use Rattle.lapd_frame.specs.declared.Role.TheVariants.{Command}
use Rattle.lapd_frame.specs.declared.Control.{Control}
use Rattle.lapd_frame.specs.declared.Control.TheVariants.{I}
use Rattle.lapd_supervision.specs.Tags.{tag_control}
use Rattle.lapd_link_definition.specs.EndOfStep.{is_7_or_8}
use Rattle.lapd_pair_laws.specs.Line.{Flight}
use Rattle.lapd_pair_laws.specs.Move.{Station}
use Rattle.lapd_pair_laws.specs.Tagged.{tag_flight, tag_station, tag_world}
use Rattle.lapd_pair_laws.specs.World.{World}
use Rattle.lapd_pair_laws.specs.Kinds.{Kind, Message, kind, kind_of, kinds, message_of, messages}
use Rattle.lapd_pair_laws.specs.Parties.{receives, party, sender_of}
use Rattle.lapd_pair_laws.specs.Conjuncts.{Each, IsPlaced, IsReceivable}
use Rattle.lapd_pair_laws.specs.Invariant.{Half, IsInvariant}
use Rattle.lapd_pair_laws.specs.Fresh.{IsFresh, AreFresh, AllAreFresh}
use Rattle.lapd_pair_laws.proofs.Receptions.{from_open}

each_part : (P : Message → Type 0) (xs ys : List Message) → Each P (xs ++ ys)
    → Each P xs × Each P ys
each_part P [] ys e = (tt, e)
each_part P (x ∷ xs) ys e = let rest = each_part P xs ys e.1 in ((e.0, rest.0), rest.1)

-- a message that is placed (`IsPlaced`) was last sent in the present establishment
frame_fresh : (base : ℕ) (x : Station) (role : Role) (control : Control) (info : List ℕ) (place : ℕ)
    → Each (IsPlaced (sender_of base x.end x.history))
    (message_of (kind_of role control info place)) → IsFresh x role control place
frame_fresh base x Command (I ns nr p) info place placed = placed.0.sent
frame_fresh base x role control info place placed = tt

frames_fresh : (base : ℕ) (x : Station) (frames : List Flight)
    → Each (IsPlaced (sender_of base x.end x.history)) (messages (kinds frames)) → AreFresh x frames
frames_fresh base x [] placed = tt
frames_fresh base x (frame ∷ rest) placed =
    let parts =
    each_part (IsPlaced (sender_of base x.end x.history)) (message_of (kind frame))
    (messages (kinds rest)) placed in (
      frame_fresh base x frame.role frame.control frame.info frame.place parts.0,
      frames_fresh base x rest parts.1,
    )

fresh_to : (x y : Station) (base its_base : ℕ) (frames : List Flight) (back : List Kind)
    → Half (party base x) (party its_base y) (kinds frames) back → is_7_or_8 y.end.state ≡ true
    → AreFresh x frames
fresh_to x y base its_base frames back half opened =
    let reception =
    from_open
    (IsReceivable (party base x) (party its_base y) (receives (party base x) back))
    (party its_base y) (kinds frames) opened half.reception in
    frames_fresh base x frames reception.stream.placed

pub fresh_by_invariant : (w : World) → IsInvariant w → AllAreFresh w
fresh_by_invariant w i = record {
  to_user =
      fresh_to w.network w.user i.network_base i.user_base w.to_user (kinds w.to_network)
      i.both.its;
  to_network =
      fresh_to w.user w.network i.user_base i.network_base w.to_network (kinds w.to_user)
      i.both.mine;
}

-- ---- On tags.

frame_in_tags : (x : Station) (role : Role) (control : Control) (place : ℕ)
    → IsFresh x role control place → IsFresh (tag_station x) role (tag_control control) place
unfolding tag_control
frame_in_tags x Command (I ns nr p) place fresh = fresh
frame_in_tags x role control place fresh = tt

frames_in_tags : (x : Station) (frames : List Flight) → AreFresh x frames
    → AreFresh (tag_station x) (map tag_flight frames)
frames_in_tags x [] fresh = tt
frames_in_tags x (frame ∷ rest) fresh =
    (frame_in_tags x frame.role frame.control frame.place fresh.0, frames_in_tags x rest fresh.1)

pub fresh_in_tags : (w : World) → IsInvariant w → AllAreFresh (tag_world w)
fresh_in_tags w i = let fresh = fresh_by_invariant w i in record {
  to_user = λ opened. frames_in_tags w.network w.to_user (fresh.to_user opened);
  to_network = λ opened. frames_in_tags w.user w.to_network (fresh.to_network opened);
}
