-- The moves of an interface whose old frames are empty octets are in step with those of the
-- interface itself: both have the same effects, except on the line to the terminal.
use Rattle.std.proofs.Common.{◌≡◌, ℕ, ◌<◌, ◌==◌, List, [], ◌∷◌, ◌++◌, map, zero, suc, Bool, true, false, if◌then◌else◌, Option, Some, refl, sym, ap, subst, ◌∙◌, append_assoc}
use Rattle.std.specs.Prelude.{◌||◌}
use Rattle.std.specs.List.{list_any, filter_map, remove, cons_option}
use Rattle.lapd_frame.specs.declared.Side.{Side}
use Rattle.lapd_frame.specs.declared.Side.TheVariants as side
use Rattle.lapd_table.specs.declared.link_id.LinkId.{LinkId}
use Rattle.lapd_sides_links.specs.Links.{Reaction}
use Rattle.lapd_sides.specs.Network.{Network}
use Rattle.lapd_sides.specs.SideState.{SideState}
use Rattle.lapd_sides.specs.User.{User}
use Rattle.lapd_side_events.specs.Bus.{OverhearsNothing, left_of}
use Rattle.lapd_side_events.specs.Interface.{Configs, Interface, by_user, by_network, side_does, user_behaviour, network_behaviour}
use Rattle.lapd_side_events.specs.SideView.{Behaviour, SideView, SideEvent, Take, Lose, Expire, Ask, Overhear, reaction, accepted, left, does}
use Rattle.lapd_two_side_laws.specs.Addressed.{is_for, is_poll_for, is_final_for}
use Rattle.lapd_two_side_laws.specs.Establishments.{LinkRecord, LinkRecords, establishments_of, is_sent, number_each, side_recorded}
use Rattle.lapd_two_side_laws.specs.Premises.{GivesTeiOnce, IsMoveGivingTeiOnce, IsTimely, IsTimelyMove, IsGivenOnce, is_removal}
use Rattle.lapd_two_side_laws.specs.Primitives.{link_primitives}
use Rattle.lapd_two_side_laws.proofs.Managed.{neither}
use Rattle.lapd_bus_laws.specs.Assignments.{Assignment, assignment_in, is_of_tei}
use Rattle.lapd_bus_laws.specs.Links.{IsNotAssigned}
use Rattle.lapd_bus_laws.proofs.Claims.{any_left, same_tei}
use Rattle.lapd_bus_laws.proofs.Lists.{false_by, not_both, some_first}
use Rattle.lapd_bus_laws.proofs.Obtains.{IsAnswer, event_obtains}
use Rattle.lapd_bus_laws.proofs.PremisesOfInterface.{StaysAside, aside_does, aside_left, aside_with}
use Rattle.lapd_bus_restart_laws.proofs.OldFrames.{without_old, taken_so}

-- what is recorded of a reaction
abbrev noted : {M : Type 0} → LinkId → Reaction (SideState M) → LinkRecord → LinkRecord
noted id a r = record {
  received_in = r.received_in
      ++ number_each (establishments_of (a.after.served.links id))
      (link_primitives id a.effects.primitives);
  sent_in = λ place. if is_sent (a.after.served.links id) place
      then Some (establishments_of (a.after.served.links id))
      else r.sent_in place;
}

module _ (c : Configs) (id : LinkId) (low : id.tei < 127) (i : ℕ) where
  abbrev pub all_without : List (List ℕ) → List (List ℕ)
  all_without old = map (without_old c id low) old

  -- the interface with these octets in transit to the terminal, and the same with the link's frames
  -- among the old ones replaced
  abbrev pub behind : List (List ℕ) → List (List ℕ) → Interface → Interface
  behind old rest k = record k { to_user = old ++ rest }

  abbrev pub replaced : List (List ℕ) → List (List ℕ) → Interface → Interface
  replaced old rest k = record k { to_user = all_without old ++ rest }

  abbrev pub NoneAssigned : List (List ℕ) → Type 0
  NoneAssigned old = list_any (is_of_tei id.tei) (filter_map assignment_in old) ≡ false

  -- The terminal does not hold the TEI and has no link of it, and no assignment of the TEI is among
  -- the old octets.
  pub record IsUntaken (old : List (List ℕ)) (k : Interface) : Type 0 where
    pub aside : StaysAside c id low i (by_user k)
    pub none : NoneAssigned old

  -- ---- Lines.

  record Lost (old rest : List (List ℕ)) (at : ℕ) : Type 0 where
    pub rest_left : List (List ℕ)
    pub plain : remove (old ++ rest) at ≡ remove old at ++ rest_left
    pub masked : remove (all_without old ++ rest) at ≡ all_without (remove old at) ++ rest_left

  lost : (old rest : List (List ℕ)) (at : ℕ) → Lost old rest at
  lost [] rest zero = record { rest_left = remove rest zero; plain = refl; masked = refl }
  lost [] rest (suc at) = record { rest_left = remove rest (suc at); plain = refl; masked = refl }
  lost (o ∷ os) rest zero = record { rest_left = rest; plain = refl; masked = refl }
  lost (o ∷ os) rest (suc at) =
      let l = lost os rest at in
      record {
        rest_left = l.rest_left;
        plain = ap (λ (xs : List (List ℕ)). o ∷ xs) l.plain;
        masked = ap (λ (xs : List (List ℕ)). without_old c id low o ∷ xs) l.masked;
      }

  pub none_masked : (p : List ℕ → Bool) → p [] ≡ false → (old rest : List (List ℕ))
      → list_any p (old ++ rest) ≡ false → list_any p (all_without old ++ rest) ≡ false
  none_masked p empty [] rest none = none
  none_masked p empty (o ∷ os) rest none =
      let two = neither (p o) (list_any p (os ++ rest)) none in
      by (is_for side.Network id o) two.0 (none_masked p empty os rest two.1)
    where
      by : (test : Bool) → p o ≡ false → list_any p (all_without os ++ rest) ≡ false
          → (p (if test then [] else o) || list_any p (all_without os ++ rest)) ≡ false
      by true first later = rw (empty, later) refl
      by false first later = rw (first, later) refl

  still_none : (event : SideEvent) (old : List (List ℕ)) → NoneAssigned old
      → NoneAssigned (left event old)
  still_none event old none = false_by _ (λ later.
      not_both _ (any_left (is_of_tei id.tei) event old later) none)

  -- ---- One move.

  pub record Stepped (s : Side) (event : SideEvent) (old rest : List (List ℕ)) (k : Interface) :
      Type 0
    where
      pub old_left : List (List ℕ)
      pub rest_left : List (List ℕ)
      pub next : Interface
      pub plain : side_does c s event (behind old rest k) ≡ behind old_left rest_left next
      pub masked : side_does c s event (replaced old rest k) ≡ replaced old_left rest_left next
      pub untaken : IsUntaken old_left next
      pub timely : IsTimelyMove id s event (replaced old rest k)
      pub once : IsMoveGivingTeiOnce c id s event (replaced old rest k)
      pub recorded : (r : LinkRecords) → side_recorded c id s event (replaced old rest k) r
          ≡ side_recorded c id s event (behind old rest k) r

  abbrev W : Behaviour User
  W = user_behaviour c.user

  abbrev V : Behaviour Network
  V = network_behaviour c.network

  module _ (event : SideEvent) (ok : OverhearsNothing event) (old rest : List (List ℕ))
      (k : Interface) where
    abbrev Plain : SideView User
    Plain = by_user (behind old rest k)

    abbrev Masked : SideView User
    Masked = by_user (replaced old rest k)

    abbrev user_made : Reaction User → List (LinkId × List ℕ) → List (List ℕ) → Interface
    user_made a given line = record k {
      user = a.after;
      delivered_to_user = k.delivered_to_user ++ a.effects.primitives;
      given_to_user = k.given_to_user ++ given;
      to_user = line;
      to_network = k.to_network ++ a.effects.frames;
    }

    user_steps : reaction W event Masked ≡ reaction W event Plain
        → accepted W event Masked ≡ accepted W event Plain → (old_left rest_left : List (List ℕ))
        → left event (old ++ rest) ≡ old_left ++ rest_left
        → left event (all_without old ++ rest) ≡ all_without old_left ++ rest_left
        → IsUntaken old k → NoneAssigned old_left
        → IsNotAssigned id.tei (reaction W event Plain).effects
        → IsTimely side.User id event Masked → GivesTeiOnce W id event Plain
        → Stepped side.User event old rest k
    unfolding does
    user_steps same given old_left rest_left line masked_line h none quiet timely once =
        let a = reaction W event Plain in
        let before : StaysAside c id low i Plain =
        aside_with c id low i (old ++ rest) (by_user k) h.aside in
        record {
          old_left = old_left;
          rest_left = rest_left;
          next = user_made a (accepted W event Plain) (left event (old ++ rest));
          plain = ap (user_made a (accepted W event Plain)) line;
          masked = ap (λ (b : Reaction User). user_made b (accepted W event Masked)
              (left event (all_without old ++ rest))) same
              ∙ ap (λ (g : List (LinkId × List ℕ)). user_made a g
              (left event (all_without old ++ rest))) given
              ∙ ap (user_made a (accepted W event Plain)) masked_line;
          untaken = record {
            aside = aside_with c id low i (left event (old ++ rest)) (does W event Plain)
                (aside_does c id low i event Plain ok before quiet);
            none = none;
          };
          timely = timely;
          once = subst (λ (b : Reaction User). IsGivenOnce id k.user.served.links
              (list_any (is_removal id.tei) k.delivered_to_user) b.effects) (sym same) once;
          recorded = λ r. ap (λ (b : Reaction User). record r { user = noted id b r.user }) same;
        }

  user_step : (event : SideEvent) (o : List ℕ) (os rest : List (List ℕ)) (k : Interface)
      → OverhearsNothing event → IsUntaken (o ∷ os) k
      → IsTimelyMove id side.User event (behind (o ∷ os) rest k)
      → IsMoveGivingTeiOnce c id side.User event (behind (o ∷ os) rest k)
      → Stepped side.User event (o ∷ os) rest k
  user_step (Take now) o os rest k ok h timely once =
      user_steps (Take now) tt (o ∷ os) rest k
      (taken_so c id low now k.user h.aside.silent.links o) refl os rest refl refl h
      (still_none (Take now) (o ∷ os) h.none)
      (false_by _ (λ got. not_both _ (answers
      ((event_obtains c.user (Take now) (by_user (behind (o ∷ os) rest k)) tt).got id.tei got))
      h.none)) tt once
    where
      answers : IsAnswer k.user o id.tei
          → list_any (is_of_tei id.tei) (filter_map assignment_in (o ∷ os)) ≡ true
      answers a =
          ap (λ (x : Option Assignment). list_any (is_of_tei id.tei)
          (cons_option x (filter_map assignment_in os))) a.assignment
          ∙ some_first (id.tei == id.tei) _ (same_tei id.tei)
  user_step (Lose at) o os rest k ok h timely once =
      let l = lost (o ∷ os) rest at in
      user_steps (Lose at) tt (o ∷ os) rest k refl refl (remove (o ∷ os) at) l.rest_left l.plain
      l.masked h (still_none (Lose at) (o ∷ os) h.none) refl tt once
  user_step (Expire timer of now) o os rest k ok h timely once =
      user_steps (Expire timer of now) tt (o ∷ os) rest k refl refl (o ∷ os) rest refl refl h h.none
      (false_by _ (λ got.
      (event_obtains c.user (Expire timer of now) (by_user (behind (o ∷ os) rest k)) tt).got id.tei
      got))
      (λ is own. (let two = timely is own in
      (two.0, none_masked (is_final_for side.Network id) refl (o ∷ os) rest two.1))) once
  user_step (Ask request now) o os rest k ok h timely once =
      user_steps (Ask request now) tt (o ∷ os) rest k refl refl (o ∷ os) rest refl refl h h.none
      (false_by _ (λ got.
      (event_obtains c.user (Ask request now) (by_user (behind (o ∷ os) rest k)) tt).got id.tei
      got)) tt once
  user_step (Overhear octets now) o os rest k ok h timely once = absurd ok

  -- ---- A move of the network.

  same_reaction : (event : SideEvent) (k : Interface) (l m : List (List ℕ))
      → reaction V event (by_network (record k { to_user = l }))
      ≡ reaction V event (by_network (record k { to_user = m }))
  same_reaction (Take now) k l m = refl
  same_reaction (Lose at) k l m = refl
  same_reaction (Expire timer of now) k l m = refl
  same_reaction (Ask request now) k l m = refl
  same_reaction (Overhear octets now) k l m = refl

  same_accepted : (event : SideEvent) (k : Interface) (l m : List (List ℕ))
      → accepted V event (by_network (record k { to_user = l }))
      ≡ accepted V event (by_network (record k { to_user = m }))
  same_accepted (Take now) k l m = refl
  same_accepted (Lose at) k l m = refl
  same_accepted (Expire timer of now) k l m = refl
  same_accepted (Ask request now) k l m = refl
  same_accepted (Overhear octets now) k l m = refl

  timely_masked : (event : SideEvent) (old rest : List (List ℕ)) (k : Interface)
      → IsTimely side.Network id event (by_network (behind old rest k))
      → IsTimely side.Network id event (by_network (replaced old rest k))
  timely_masked (Take now) old rest k timely = tt
  timely_masked (Lose at) old rest k timely = tt
  timely_masked (Expire timer of now) old rest k timely = λ is own.
      (let two = timely is own in
      (none_masked (is_poll_for side.Network id) refl old rest two.0, two.1))
  timely_masked (Ask request now) old rest k timely = tt
  timely_masked (Overhear octets now) old rest k timely = timely

  module _ (event : SideEvent) (old rest : List (List ℕ)) (k : Interface) where
    abbrev Heard : SideView Network
    Heard = by_network (behind old rest k)

    abbrev Without : SideView Network
    Without = by_network (replaced old rest k)

    abbrev network_made : Reaction Network → List (LinkId × List ℕ) → List (List ℕ) → Interface
    network_made a given line = record k {
      network = a.after;
      delivered_to_network = k.delivered_to_network ++ a.effects.primitives;
      given_to_network = k.given_to_network ++ given;
      to_network = left event k.to_network;
      to_user = line;
    }

    network_step : IsUntaken old k → IsTimelyMove id side.Network event (behind old rest k)
        → IsMoveGivingTeiOnce c id side.Network event (behind old rest k)
        → Stepped side.Network event old rest k
    unfolding does
    network_step h timely once =
        let a = reaction V event Heard in
        let g = accepted V event Heard in
        let same = same_reaction event k (all_without old ++ rest) (old ++ rest) in
        let given = same_accepted event k (all_without old ++ rest) (old ++ rest) in
        record {
          old_left = old;
          rest_left = rest ++ a.effects.frames;
          next = network_made a g ((old ++ rest) ++ a.effects.frames);
          plain = ap (network_made a g) (append_assoc old rest a.effects.frames);
          masked = ap (λ (b : Reaction Network). network_made b (accepted V event Without)
              ((all_without old ++ rest) ++ b.effects.frames)) same
              ∙ ap (λ (x : List (LinkId × List ℕ)). network_made a x
              ((all_without old ++ rest) ++ a.effects.frames)) given
              ∙ ap (network_made a g) (append_assoc (all_without old) rest a.effects.frames);
          untaken = record {
            aside = aside_with c id low i ((old ++ rest) ++ a.effects.frames)
                (left_of event (by_user k)) (aside_left c id low i event (by_user k) h.aside);
            none = h.none;
          };
          timely = timely_masked event old rest k timely;
          once = subst (λ (b : Reaction Network). IsGivenOnce id k.network.served.links
              (list_any (is_removal id.tei) k.delivered_to_network) b.effects) (sym same) once;
          recorded = λ r.
              ap (λ (b : Reaction Network). record r { network = noted id b r.network }) same;
        }

  -- ---- Of any side.

  -- the user side overhears nothing
  abbrev pub IsPlain : Side → SideEvent → Type 0
  IsPlain side.User event = OverhearsNothing event
  IsPlain side.Network event = Unit {0}

  pub one_step : (s : Side) (event : SideEvent) (o : List ℕ) (os rest : List (List ℕ))
      (k : Interface)
      → IsPlain s event → IsUntaken (o ∷ os) k → IsTimelyMove id s event (behind (o ∷ os) rest k)
      → IsMoveGivingTeiOnce c id s event (behind (o ∷ os) rest k)
      → Stepped s event (o ∷ os) rest k
  one_step side.User event o os rest k ok h timely once = user_step event o os rest k ok h timely
      once
  one_step side.Network event o os rest k ok h timely once =
      network_step event (o ∷ os) rest k h timely once
