-- The effect of a request that a link accepts on any one of the links.
use Rattle.std.specs.List.{cons_option}
use Rattle.std.proofs.Common.{◌≡◌, ◌⊎◌, inl, inr, ℕ, List, [], ◌∷◌, length, Bool, true, false, if◌then◌else◌, Some, None, Ok, refl, sym, subst, Option}
use Rattle.lapd_timers.specs.declared.timer.Timer.{Timer}
use Rattle.lapd_frame.specs.declared.Side.{Side}
use Rattle.lapd_mod128.specs.Counting.{Tagged}
use Rattle.lapd_link_definition.specs.Counts.{messages_of}
use Rattle.lapd_link_definition.specs.Input as input
use Rattle.lapd_link_definition.specs.Input.{Input, Expiry}
use Rattle.lapd_pair_laws.specs.Move as world
use Rattle.lapd_pair_laws.specs.Move.{View, takes, acts}
use Rattle.lapd_table.specs.declared.link_id.LinkId.{LinkId}
use Rattle.lapd_table.specs.LinkId.{id_eq}
use Rattle.lapd_table.proofs.Ids.{same_id_eq}
use Rattle.lapd_sides_links.specs.Links.{Links, Linked, Reaction, in_links, link_acts}
use Rattle.lapd_two_side_laws.specs.Owed.{IsRequest, IsNoRequest}
use Rattle.lapd_two_side_laws.specs.Primitives.{given_to}
use Rattle.lapd_two_side_laws.proofs.LinkParts.{other_acts, own_granted, absent_refuses}

-- ---- Each request of a link, as a move in the world.

-- a request of layer 3, with its unit data, as a move
pub record IsMoveRequest (side : Side) (input : Input) (octets : List ℕ) : Type 0 where
  pub event : world.PairEvent
  pub is_event : (v : View) → acts Tagged side event v ≡ takes Tagged input octets v
  pub no_expiry : (timer : Timer) → input ≡ Expiry timer → ⊥

pub establish_request : (side : Side) → IsMoveRequest side input.Establish []
unfolding acts
establish_request side =
    record { event = world.Establish; is_event = λ v. refl; no_expiry = λ timer e. cc }

pub release_request : (side : Side) → IsMoveRequest side input.Release []
unfolding acts
release_request side =
    record { event = world.Release; is_event = λ v. refl; no_expiry = λ timer e. cc }

pub busy_request : (side : Side) → IsMoveRequest side input.BusyOn []
unfolding acts
busy_request side =
    record { event = world.Busy true; is_event = λ v. refl; no_expiry = λ timer e. cc }

pub free_request : (side : Side) → IsMoveRequest side input.BusyOff []
unfolding acts
free_request side =
    record { event = world.Busy false; is_event = λ v. refl; no_expiry = λ timer e. cc }

pub give_request : (side : Side) (message : List ℕ) → IsMoveRequest side (input.Give message) []
unfolding acts
give_request side message =
    record { event = world.Give message; is_event = λ v. refl; no_expiry = λ timer e. cc }

pub unit_request : (side : Side) (octets : List ℕ)
    → IsMoveRequest side (input.UnitData (length octets)) octets
unfolding acts
unit_request side octets =
    record { event = world.UnitData octets; is_event = λ v. refl; no_expiry = λ timer e. cc }

-- ---- A request that is accepted among links.

module _ (side : Side) (id : LinkId) (fresh : Linked) (removed : Bool) (links : Links) (now : ℕ)
    (other : LinkId) (input : Input) (octets : List ℕ) (a : Reaction Links)
    (given : List (LinkId × List ℕ)) (line_request : IsMoveRequest side input octets) where
  abbrev Granted : Type 0
  Granted =
      IsNoRequest side id now fresh removed links a.after a.effects given
      ⊎ IsRequest side id now links a.after a.effects given

  own_by : (o : Option Linked) → links id ≡ o → given_to id given ≡ messages_of input
      → in_links id (link_acts side id now input octets) links ≡ Ok a → Granted
  own_by (Some l) was given_is own = inr (record {
    event = line_request.event;
    input = input;
    octets = octets;
    is_event = line_request.is_event;
    no_expiry = line_request.no_expiry;
    is_step = (own_granted side id links now input octets l a was own).is_step;
    given_is = given_is;
  })
  own_by None was given_is own =
      let refused = absent_refuses side id links now input octets was in cc

  by_test : (test : Bool) → id_eq id other ≡ test
      → given_to id given ≡ (if test then messages_of input else [])
      → in_links other (link_acts side other now input octets) links ≡ Ok a → Granted
  by_test true is given_is granted =
      let same : id ≡ other = same_id_eq id other is in
      own_by (links id) refl given_is (subst
      (λ (k : LinkId). in_links k (link_acts side k now input octets) links ≡ Ok a)
      (sym same) granted)
  by_test false is given_is granted =
      inl (record {
        proceeds = inl (other_acts side id other links now input octets a is granted);
        none_given = given_is;
      })

  pub granted_part : given_to id given ≡ (if id_eq id other then messages_of input else [])
      → in_links other (link_acts side other now input octets) links ≡ Ok a → Granted
  granted_part given_is granted = by_test (id_eq id other) refl given_is granted

-- no message is accepted
pub none_given : (test : Bool) (xs : List (List ℕ)) → xs ≡ [] → [] ≡ (if test then xs else [])
none_given true xs h = sym h
none_given false xs h = refl

-- one message is accepted for the link that the request names
pub one_given : (id other : LinkId) (message : List ℕ)
    → given_to id ((other, message) ∷ []) ≡ (if id_eq id other then message ∷ [] else [])
one_given id other message = one (id_eq id other) message
  where
    one : (test : Bool) (message : List ℕ)
        → cons_option (if test then Some message else None) [] ≡ (if test then message ∷ [] else [])
    one true message = refl
    one false message = refl
