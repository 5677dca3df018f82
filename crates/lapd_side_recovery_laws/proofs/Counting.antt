-- The numbers of a link of two sides are those of the world that the interface shows.
use Rattle.std.proofs.Common.{◌≡◌, ◌⊎◌, ℕ, ◌+◌, ◌≤◌, ◌==◌, ◌&&◌, not, Bool, true, false, List, [], ◌∷◌, length, map, Option, Result, refl, sym, ap, subst, ◌∙◌, inl, inr, arith}
use Rattle.std.specs.Prelude.{is_some}
use Rattle.std.proofs.lemmas.List.{length-map}
use Rattle.lapd_frame.specs.declared.Control.{Control}
use Rattle.lapd_frame.specs.declared.Control.TheVariants.{I, Rr, Rnr, Rej, Sabme, Dm, Ui, Disc, Ua}
use Rattle.lapd_frame.specs.declared.Role.{Role}
use Rattle.lapd_frame.specs.declared.Role.TheVariants.{Command, Answer}
use Rattle.lapd_frame.specs.declared.Side.{Side}
use Rattle.lapd_frame.specs.declared.Side.TheVariants as side
use Rattle.lapd_frame.specs.declared.frame_fault.FrameFault.{FrameFault}
use Rattle.lapd_frame.specs.Address.{other_side}
use Rattle.lapd_frame.specs.Frame.{Fields}
use Rattle.lapd_frame.specs.Reading.{frame_at}
use Rattle.lapd_frame.proofs.FrameAt.{frame_again}
use Rattle.lapd_mod128.specs.Counting.{Tagged}
use Rattle.lapd_link_definition.specs.End.{End}
use Rattle.lapd_pair_laws.specs.Consistent.{AreProper, IsConsistentWorld}
use Rattle.lapd_pair_laws.specs.Kinds.{Kind, Message, Numbered, bit, final_of, kind, kind_of, kinds, poll_of, tally}
use Rattle.lapd_pair_laws.specs.Line.{Flight}
use Rattle.lapd_pair_laws.specs.World.{World, left}
use Rattle.lapd_recovery_laws.specs.Agreed.{AreReleased}
use Rattle.lapd_recovery_laws.specs.Deliveries.{frames}
use Rattle.lapd_recovery_laws.specs.KeptAgreement as pair
use Rattle.lapd_recovery_laws.specs.KeptAgreement.{AreEqual, is_answered, polls_in_transit}
use Rattle.lapd_recovery_laws.specs.Losses.{one_if}
use Rattle.lapd_table.specs.declared.link_id.LinkId.{LinkId}
use Rattle.lapd_sides_links.specs.declared.primitive.Primitive.{Primitive}
use Rattle.lapd_sides_links.specs.Links.{Linked, Links}
use Rattle.lapd_side_events.specs.Interface.{Configs, Interface}
use Rattle.lapd_two_side_laws.specs.Addressed.{all_spelled, parts_of, spelled, those_for}
use Rattle.lapd_two_side_laws.specs.Primitives.{given_to, known_of}
use Rattle.lapd_two_side_laws.specs.Projects.{HasLink, ProjectsTo, ShowsEnd, known_by}
use Rattle.lapd_side_recovery_laws.specs.Agreement.{AreInAgreement}
use Rattle.lapd_side_recovery_laws.specs.Counts.{are_in_step, frames_on, is_link_answered, kind_in, kinds_for, left_of, left_on, polls_of}
use Rattle.lapd_side_recovery_laws.specs.Quiet.{HaveLink}

-- ---- The kinds of frames, whatever their places are.

module _ (f : Kind → ℕ)
    (blind : (m n : Message) (nr : ℕ) → m.polled ≡ n.polled
    → f (Numbered m nr) ≡ f (Numbered n nr)) where
  anywhere : (role : Role) (control : Control) (info : List ℕ) (place other : ℕ)
      → f (kind_of role control info place) ≡ f (kind_of role control info other)
  anywhere Command (I ns nr p) info place other = blind _ _ nr refl
  anywhere Command (Rr nr true) info place other = refl
  anywhere Command (Rnr nr true) info place other = refl
  anywhere Command (Sabme true) info place other = refl
  anywhere Command (Disc true) info place other = refl
  anywhere Command (Ui p) info place other = refl
  anywhere Answer (Rr nr true) info place other = refl
  anywhere Answer (Rnr nr true) info place other = refl
  anywhere Answer (Rej nr true) info place other = refl
  anywhere Answer (Rr nr false) info place other = refl
  anywhere Answer (Rnr nr false) info place other = refl
  anywhere Answer (Rej nr false) info place other = refl
  anywhere Answer (Ua true) info place other = refl
  anywhere Answer (Dm true) info place other = refl
  anywhere role control info place other = refl

  spelled_tally : (from : Side) (id : LinkId) (fs : List Flight) → AreProper fs
      → tally f (map (λ octets. kind_in (frame_at from octets)) (all_spelled from id fs))
      ≡ tally f (kinds fs)
  spelled_tally from id [] proper = refl
  spelled_tally from id (frame ∷ fs) proper =
      let one : f (kind_in (frame_at from (spelled from id frame))) ≡ f (kind frame) =
      ap (λ (r : Result Fields FrameFault). f (kind_in r))
      (frame_again from (parts_of id frame) proper.0)
      ∙ anywhere frame.role frame.control frame.info 0 frame.place in
      let rest = spelled_tally from id fs proper.1 in
      omega (arith, one, rest)

  pub same_tally : (from : Side) (id : LinkId) (line : List (List ℕ)) (fs : List Flight)
      → AreProper fs → those_for from id line ≡ all_spelled from id fs
      → tally f (kinds_for from id line) ≡ tally f (kinds fs)
  same_tally from id line fs proper on =
      ap (λ (octets : List (List ℕ)). tally f
      (map (λ octets. kind_in (frame_at from octets)) octets)) on
      ∙ spelled_tally from id fs proper

same_polls : (side : Side) (id : LinkId) (outgoing incoming : List (List ℕ))
    (out into : List Flight) → AreProper out → AreProper into
    → those_for side id outgoing ≡ all_spelled side id out
    → those_for (other_side side) id incoming ≡ all_spelled (other_side side) id into
    → polls_of side id outgoing incoming ≡ polls_in_transit out into
same_polls side id outgoing incoming out into proper_out proper_in on_out on_in =
    let polls = same_tally poll_of (λ m n nr same. ap bit same) side id outgoing out proper_out
    on_out in
    let finals = same_tally final_of (λ m n nr same. refl) (other_side side) id incoming into
    proper_in on_in in
    omega (arith, polls, finals)

-- ---- A link that exists is the one shown.

pub link_shown : (fresh : Linked) (links : Links) (id : LinkId) (delivered : List Primitive)
    (e : End) → is_some (links id) ≡ true → ShowsEnd fresh links id delivered e
    → HasLink links id e
link_shown fresh links id delivered e there (inl has) = has
link_shown fresh links id delivered e there (inr (inl early)) =
    (let no : false ≡ true = sym (ap is_some early.absent) ∙ there in cc)
link_shown fresh links id delivered e there (inr (inr late)) =
    (let no : false ≡ true = sym (ap is_some late.absent) ∙ there in cc)

answered_as : (links : Links) (id : LinkId) (e : End) (polls others : ℕ) → HasLink links id e
    → polls ≡ others → is_link_answered polls (links id) ≡ is_answered e.state others
answered_as links id e polls others has same =
    ap (λ (n : ℕ). is_link_answered n (links id)) same
    ∙ ap (λ (o : Option Linked). is_link_answered others o) has.there
    ∙ ap (λ (x : End). is_answered x.state others) has.end

-- ---- An interface and the world that it shows.

module _ (c : Configs) (id : LinkId) (i : Interface) (w : World) (shows : ProjectsTo c id i w) where
  pub same_left : left_on id i ≡ left w
  same_left =
      let user : left_of (known_of id i.delivered_to_user) (length (given_to id i.given_to_user))
      ≡ left_of (known_by w.user.history) (length w.user.end.given) =
      ap (λ k. left_of k (length (given_to id i.given_to_user))) shows.user.known
      ∙ ap (λ (given : List (List ℕ)). left_of (known_by w.user.history) (length given))
      shows.user.given in
      let network : left_of (known_of id i.delivered_to_network)
      (length (given_to id i.given_to_network))
      ≡ left_of (known_by w.network.history) (length w.network.end.given) =
      ap (λ k. left_of k (length (given_to id i.given_to_network))) shows.network.known
      ∙ ap (λ (given : List (List ℕ)). left_of (known_by w.network.history) (length given))
      shows.network.given in
      ap (λ (n : ℕ). n + left_of (known_of id i.delivered_to_network)
      (length (given_to id i.given_to_network))) user
      ∙ ap (λ (n : ℕ). left_of (known_by w.user.history) (length w.user.end.given) + n) network

  pub same_frames : frames_on id i ≡ frames w
  same_frames =
      let user = ap length shows.user.incoming
      ∙ length-map w.to_user (spelled side.Network id) in
      let network = ap length shows.network.incoming
      ∙ length-map w.to_network (spelled side.User id) in
      ap (λ (n : ℕ). n + length (those_for side.User id i.to_network)) user
      ∙ ap (λ (n : ℕ). length w.to_user + n) network

  pub user_shown : HaveLink id i → HasLink i.user.served.links id w.user.end
  user_shown here = link_shown _ i.user.served.links id i.delivered_to_user w.user.end here.user
      shows.user.link

  pub network_shown : HaveLink id i → HasLink i.network.served.links id w.network.end
  network_shown here = link_shown _ i.network.served.links id i.delivered_to_network
      w.network.end here.network shows.network.link

  pub same_step : HaveLink id i → IsConsistentWorld Tagged w → are_in_step id i
      ≡ pair.are_in_step w
  same_step here preserved =
      let user = answered_as i.user.served.links id w.user.end
      (polls_of side.User id i.to_network i.to_user) (polls_in_transit w.to_network w.to_user)
      (user_shown here)
      (same_polls side.User id i.to_network i.to_user w.to_network w.to_user
      preserved.to_network preserved.to_user shows.user.outgoing shows.user.incoming) in
      let network = answered_as i.network.served.links id w.network.end
      (polls_of side.Network id i.to_user i.to_network) (polls_in_transit w.to_user w.to_network)
      (network_shown here)
      (same_polls side.Network id i.to_user i.to_network w.to_user w.to_network
      preserved.to_user preserved.to_network shows.network.outgoing shows.network.incoming) in
      let first = is_link_answered (polls_of side.User id i.to_network i.to_user)
      (i.user.served.links id) in
      let second = is_link_answered (polls_of side.Network id i.to_user i.to_network)
      (i.network.served.links id) in
      ap (λ (n : ℕ). (n == 0) && (first && second)) same_left
      ∙ ap (λ (b : Bool). (left w == 0) && (b && second)) user
      ∙ ap (λ (b : Bool). (left w == 0)
      && (is_answered w.user.end.state (polls_in_transit w.to_network w.to_user) && b)) network

  pub agreement_shown : HaveLink id i → pair.AreInAgreement w → AreInAgreement id i
  agreement_shown here h =
      let user = user_shown here in
      let network = network_shown here in
      record {
        user = user.linked;
        network = network.linked;
        user_there = user.there;
        network_there = network.there;
        empty = same_left ∙ h.empty;
        ends = subst (λ (x : End). AreReleased x network.linked.end ⊎ AreEqual x network.linked.end)
            (sym user.end)
            (subst (λ (y : End). AreReleased w.user.end y ⊎ AreEqual w.user.end y)
            (sym network.end) h.ends);
      }

-- a T203 that counts out of step in the world counts on the interface
pub one_few : (a early step idle here : Bool) → (a ≡ true → idle ≡ true) → here ≡ step
    → one_if (a && (early && not step)) ≤ one_if (idle && not here)
one_few false early step idle here counts same = omega arith
one_few true false step idle here counts same = omega arith
one_few true true step idle here counts same =
    subst (λ (b : Bool). one_if (not step) ≤ one_if (idle && not b)) (sym same)
    (subst (λ (b : Bool). one_if (not step) ≤ one_if (b && not step)) (sym (counts refl))
    (omega arith))
