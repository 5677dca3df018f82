-- The worked runs, computed.
use Rattle.std.proofs.Common.{◌≡◌, ℕ, ◌&&◌, List, [], ◌∷◌, true, false, refl}
use Rattle.std.specs.Prelude.{Vec}
use Rattle.std.specs.declared.alloc.Global.{Global}
use Rattle.lapd_pair_laws.specs.Schedule.{one_message, two_messages}
use Rattle.lapd_sides_links.specs.declared.primitive.What.TheVariants as what
use Rattle.lapd_side_events.specs.Interface.{Configs, Interface, Move, run}
use Rattle.lapd_two_side_laws.specs.Premises.{AreTimely, GiveTeiOnce}
use Rattle.lapd_two_side_laws.specs.Primitives.{given_to, known_of, link_primitives}
use Rattle.lapd_two_side_laws.specs.Projects.{IsReceivedByUser}
use Rattle.lapd_two_side_laws.specs.Schedule.{at_first, call, configs, IsMessage}
use Rattle.lapd_two_side_laws.proofs.MoveTests.{give_once}
use Rattle.lapd_two_side_laws.proofs.Computed.{Fits, first_for_second, holding, with_both, with_octets}
use Rattle.lapd_clock_laws.specs.Clock.{new_clock}
use Rattle.lapd_clock_laws.specs.InTime.{AreInTime, IsInOrder, IsInRange, IsPrompt, IsWhenDue, Premise, TakesFirst, Throughout}
use Rattle.lapd_clock_laws.specs.Runs.{AllButInOrder, AllButInRange, AllButPrompt, AllButTakesFirst, AllButWhenDue, at_half, at_the_end, half_of_t200, hasty_at, hurried_at_first, hurried_configs, turned_back}
use Rattle.lapd_clock_laws.proofs.Tests.{IsSound, Test, both_sound, in_order, in_order_so, in_range, in_range_so, in_time, in_time_so, passes, prompt, prompt_so, takes_first, takes_first_so, throughout_so, when_due, when_due_so}
use Rattle.lapd_two_side_laws.proofs.ComputedEvents.{computed_events}

-- what a run computes with
unfoldable pub whole_table : Unit {0}
unfolding computed_events
whole_table = tt

-- ---- Frames take half of T200.

pub record AtHalf (message : Vec ℕ Global) : Type 0 where
  pub in_time : passes configs (in_time half_of_t200 call) (at_half message) at_first (new_clock 0)
      ≡ true
  pub to_user : link_primitives call (run configs (at_half message) at_first).delivered_to_user
      ≡ what.Confirmed ∷ what.Acknowledged 1 ∷ []
  pub to_network : link_primitives call
      (run configs (at_half message) at_first).delivered_to_network
      ≡ what.Established ∷ what.Up (1 ∷ []) ∷ []

at_half_holds : (v : Vec ℕ Global) (x : Fits v (1 ∷ [])) → AtHalf (holding v (1 ∷ []) x)
unfolding whole_table
at_half_holds v x = record { in_time = refl; to_user = refl; to_network = refl }

pub at_half_so : (message : Vec ℕ Global) → IsMessage 1 message → AtHalf message
at_half_so = with_octets AtHalf (1 ∷ []) at_half_holds

pub at_half_in_time : (message : Vec ℕ Global) → IsMessage 1 message
    → AreInTime half_of_t200 configs call (at_half message) at_first (new_clock 0)
at_half_in_time message one = throughout_so configs _ (in_time half_of_t200 call)
    (in_time_so half_of_t200 call) (at_half message) at_first (new_clock 0)
    (at_half_so message one).in_time

-- ---- T200 expires while the answer to the SABME is in transit.

-- the run passes the test, and the second message counts as acknowledged but was not received
pub record IsHasty (c : Configs) (i : Interface) (test : Test) (moves : List Move) : Type 0 where
  pub passed : passes c test moves i (new_clock 0) ≡ true
  pub once : GiveTeiOnce c call moves i
  pub given : given_to call (run c moves i).given_to_network ≡ two_messages
  pub acked : (known_of call (run c moves i).delivered_to_network).acked ≡ 1 ∷ []
  pub received : (known_of call (run c moves i).delivered_to_user).received ≡ one_message

pub hasty_is_not_right : (c : Configs) (i : Interface) (test : Test) (moves : List Move)
    → IsHasty c i test moves → IsReceivedByUser call (run c moves i) → ⊥
hasty_is_not_right c i test moves h right =
    first_for_second _ _ _ h.given h.acked h.received right

-- T200 is one millisecond less than twice the time of a frame
abbrev AtHurried : Vec ℕ Global → Vec ℕ Global → Type 0
AtHurried first second = IsHasty hurried_configs hurried_at_first (in_time half_of_t200 call)
    (hasty_at 500 999 1000 first second)

hurried_holds : (v w : Vec ℕ Global) (x : Fits v (1 ∷ [])) (y : Fits w (2 ∷ []))
    → AtHurried (holding v (1 ∷ []) x) (holding w (2 ∷ []) y)
unfolding whole_table
hurried_holds v w x y = record {
  passed = refl;
  once = give_once hurried_configs call (hasty_at 500 999 1000 (holding v (1 ∷ []) x) (holding w (2 ∷ []) y))
      hurried_at_first refl;
  given = refl;
  acked = refl;
  received = refl;
}

pub hurried_so : (first second : Vec ℕ Global) → IsMessage 1 first → IsMessage 2 second
    → AtHurried first second
hurried_so = with_both AtHurried (1 ∷ []) (2 ∷ []) hurried_holds

-- all premises but that the timer is due
abbrev not_due : Test
not_due side event s k = in_order side event s k && (in_range half_of_t200 side event s k
    && (prompt half_of_t200 call side event s k && takes_first half_of_t200 call side event s k))

abbrev TooEarly : Vec ℕ Global → Vec ℕ Global → Type 0
TooEarly first second =
    IsHasty configs at_first not_due (hasty_at 500 999 1000 first second)

too_early_holds : (v w : Vec ℕ Global) (x : Fits v (1 ∷ [])) (y : Fits w (2 ∷ []))
    → TooEarly (holding v (1 ∷ []) x) (holding w (2 ∷ []) y)
unfolding whole_table
too_early_holds v w x y = record {
  passed = refl;
  once = give_once configs call (hasty_at 500 999 1000 (holding v (1 ∷ []) x) (holding w (2 ∷ []) y))
      at_first refl;
  given = refl;
  acked = refl;
  received = refl;
}

pub too_early_so : (first second : Vec ℕ Global) → IsMessage 1 first → IsMessage 2 second
    → TooEarly first second
too_early_so = with_both TooEarly (1 ∷ []) (2 ∷ []) too_early_holds

-- all premises but that octets of the same moment are taken first
abbrev not_first : Test
not_first side event s k = in_order side event s k && (in_range half_of_t200 side event s k
    && (prompt half_of_t200 call side event s k && when_due call side event s k))

abbrev NotFirst : Vec ℕ Global → Vec ℕ Global → Type 0
NotFirst first second =
    IsHasty configs at_first not_first (hasty_at 500 1000 1000 first second)

not_first_holds : (v w : Vec ℕ Global) (x : Fits v (1 ∷ [])) (y : Fits w (2 ∷ []))
    → NotFirst (holding v (1 ∷ []) x) (holding w (2 ∷ []) y)
unfolding whole_table
not_first_holds v w x y = record {
  passed = refl;
  once = give_once configs call (hasty_at 500 1000 1000 (holding v (1 ∷ []) x) (holding w (2 ∷ []) y))
      at_first refl;
  given = refl;
  acked = refl;
  received = refl;
}

pub not_first_so : (first second : Vec ℕ Global) → IsMessage 1 first → IsMessage 2 second
    → NotFirst first second
not_first_so = with_both NotFirst (1 ∷ []) (2 ∷ []) not_first_holds

-- all premises but that frames are prompt
abbrev not_prompt : Test
not_prompt side event s k = in_order side event s k && (in_range half_of_t200 side event s k
    && (takes_first half_of_t200 call side event s k && when_due call side event s k))

abbrev NotPrompt : Vec ℕ Global → Vec ℕ Global → Type 0
NotPrompt first second =
    IsHasty configs at_first not_prompt (hasty_at 501 1000 1001 first second)

not_prompt_holds : (v w : Vec ℕ Global) (x : Fits v (1 ∷ [])) (y : Fits w (2 ∷ []))
    → NotPrompt (holding v (1 ∷ []) x) (holding w (2 ∷ []) y)
unfolding whole_table
not_prompt_holds v w x y = record {
  passed = refl;
  once = give_once configs call (hasty_at 501 1000 1001 (holding v (1 ∷ []) x) (holding w (2 ∷ []) y))
      at_first refl;
  given = refl;
  acked = refl;
  received = refl;
}

pub not_prompt_so : (first second : Vec ℕ Global) → IsMessage 1 first → IsMessage 2 second
    → NotPrompt first second
not_prompt_so = with_both NotPrompt (1 ∷ []) (2 ∷ []) not_prompt_holds

-- ---- The clock goes back, or ends.

abbrev not_in_order : Test
not_in_order side event s k = in_range half_of_t200 side event s k
    && (prompt half_of_t200 call side event s k
    && (takes_first half_of_t200 call side event s k && when_due call side event s k))

turned_back_passes : passes configs not_in_order turned_back at_first (new_clock 0) ≡ true
unfolding whole_table
turned_back_passes = refl

pub turned_back_is_not_timely : AreTimely configs call turned_back at_first → ⊥
unfolding whole_table
turned_back_is_not_timely h =
    (let no : true ≡ false = (h.1.1.1.1.1.1.0 refl refl).0 in cc)

abbrev not_in_range : Test
not_in_range side event s k = in_order side event s k
    && (prompt half_of_t200 call side event s k
    && (takes_first half_of_t200 call side event s k && when_due call side event s k))

at_the_end_passes : passes configs not_in_range at_the_end at_first (new_clock 0) ≡ true
unfolding whole_table
at_the_end_passes = refl

pub at_the_end_is_not_timely : AreTimely configs call at_the_end at_first → ⊥
unfolding whole_table
at_the_end_is_not_timely h = (let no : true ≡ false = (h.1.0 refl refl).0 in cc)

-- ---- The tests are sound.

pub hurried_in_time : (first second : Vec ℕ Global) → IsMessage 1 first → IsMessage 2 second
    → AreInTime half_of_t200 hurried_configs call (hasty_at 500 999 1000 first second)
    hurried_at_first (new_clock 0)
hurried_in_time first second one two = throughout_so hurried_configs _ (in_time half_of_t200 call)
    (in_time_so half_of_t200 call) (hasty_at 500 999 1000 first second) hurried_at_first
    (new_clock 0) (hurried_so first second one two).passed

abbrev InOrder : Premise
InOrder side event s k = IsInOrder event k

abbrev InRange : Premise
InRange side event s k = IsInRange half_of_t200 event k

abbrev Prompt : Premise
Prompt side event s k = IsPrompt half_of_t200 side call event k

abbrev First : Premise
First side event s k = TakesFirst half_of_t200 side call event k

abbrev Due : Premise
Due side event s k = IsWhenDue call event s

first_and_due : IsSound (λ side event s k. First side event s k × Due side event s k)
    (λ side event s k. takes_first half_of_t200 call side event s k
    && when_due call side event s k)
first_and_due = both_sound First Due (takes_first half_of_t200 call) (when_due call)
    (takes_first_so half_of_t200 call) (when_due_so call)

pub too_early_kept : (first second : Vec ℕ Global) → IsMessage 1 first → IsMessage 2 second
    → Throughout configs (AllButWhenDue half_of_t200) (hasty_at 500 999 1000 first second)
    at_first (new_clock 0)
too_early_kept first second one two = throughout_so configs (AllButWhenDue half_of_t200) not_due
    (both_sound InOrder _ in_order _ in_order_so
    (both_sound InRange _ (in_range half_of_t200) _ (in_range_so half_of_t200)
    (both_sound Prompt First (prompt half_of_t200 call) (takes_first half_of_t200 call)
    (prompt_so half_of_t200 call) (takes_first_so half_of_t200 call))))
    (hasty_at 500 999 1000 first second) at_first (new_clock 0)
    (too_early_so first second one two).passed

pub not_first_kept : (first second : Vec ℕ Global) → IsMessage 1 first → IsMessage 2 second
    → Throughout configs (AllButTakesFirst half_of_t200) (hasty_at 500 1000 1000 first second)
    at_first (new_clock 0)
not_first_kept first second one two = throughout_so configs (AllButTakesFirst half_of_t200)
    not_first (both_sound InOrder _ in_order _ in_order_so
    (both_sound InRange _ (in_range half_of_t200) _ (in_range_so half_of_t200)
    (both_sound Prompt Due (prompt half_of_t200 call) (when_due call)
    (prompt_so half_of_t200 call) (when_due_so call))))
    (hasty_at 500 1000 1000 first second) at_first (new_clock 0)
    (not_first_so first second one two).passed

pub not_prompt_kept : (first second : Vec ℕ Global) → IsMessage 1 first → IsMessage 2 second
    → Throughout configs (AllButPrompt half_of_t200) (hasty_at 501 1000 1001 first second)
    at_first (new_clock 0)
not_prompt_kept first second one two = throughout_so configs (AllButPrompt half_of_t200)
    not_prompt (both_sound InOrder _ in_order _ in_order_so
    (both_sound InRange _ (in_range half_of_t200) _ (in_range_so half_of_t200) first_and_due))
    (hasty_at 501 1000 1001 first second) at_first (new_clock 0)
    (not_prompt_so first second one two).passed

pub turned_back_kept : Throughout configs (AllButInOrder half_of_t200) turned_back at_first
    (new_clock 0)
turned_back_kept = throughout_so configs (AllButInOrder half_of_t200) not_in_order
    (both_sound InRange _ (in_range half_of_t200) _ (in_range_so half_of_t200)
    (both_sound Prompt _ (prompt half_of_t200 call) _ (prompt_so half_of_t200 call)
    first_and_due)) turned_back at_first (new_clock 0) turned_back_passes

pub at_the_end_kept : Throughout configs (AllButInRange half_of_t200) at_the_end at_first
    (new_clock 0)
at_the_end_kept = throughout_so configs (AllButInRange half_of_t200) not_in_range
    (both_sound InOrder _ in_order _ in_order_so
    (both_sound Prompt _ (prompt half_of_t200 call) _ (prompt_so half_of_t200 call)
    first_and_due)) at_the_end at_first (new_clock 0) at_the_end_passes
