-- The worked runs of messages, computed.
use Rattle.std.proofs.Common.{◌≡◌, ℕ, ◌+◌, List, [], ◌∷◌, true, Option, Some, length, refl, arith}
use Rattle.std.specs.Prelude.{Vec}
use Rattle.std.specs.List.{list_any}
use Rattle.std.specs.declared.alloc.Global.{Global}
use Rattle.lapd_sides_links.specs.declared.primitive.What.TheVariants as what
use Rattle.lapd_sides_links.specs.Links.{Linked}
use Rattle.lapd_sides.specs.Worked as sides
use Rattle.lapd_two_side_laws.specs.Accounts.{queue_of, waiting_of, IsAccounted, KeepsTei, IsAccountedSince}
use Rattle.lapd_two_side_laws.specs.AccountRuns.{run_of, one_of_each, then_removed, too_early}
use Rattle.lapd_two_side_laws.specs.AnswerRuns.{user_with}
use Rattle.lapd_side_events.specs.Interface.{user_behaviour}
use Rattle.lapd_two_side_laws.specs.Premises.{is_removal}
use Rattle.lapd_two_side_laws.specs.Primitives.{Known, link_primitives, given_to, known_of}
use Rattle.lapd_two_side_laws.specs.Schedule.{call, IsMessage}
use Rattle.lapd_two_side_laws.proofs.Computed.{Fits, holding, with_octets, with_both}
use Rattle.lapd_two_side_laws.proofs.ComputedEvents.{computed_events}

abbrev three_messages : List (List ℕ)
three_messages = (1 ∷ []) ∷ (2 ∷ []) ∷ (3 ∷ []) ∷ []

pub record OneOfEach (first second third : Vec ℕ Global) : Type 0 where
  pub keeps : KeepsTei call (run_of (one_of_each first second third))
  pub given : given_to call (run_of (one_of_each first second third)).given ≡ three_messages
  pub delivered : link_primitives call (run_of (one_of_each first second third)).delivered
      ≡ what.Confirmed ∷ what.Acknowledged 1 ∷ what.Dropped 1 ∷ what.Confirmed ∷ []
  pub queue : queue_of ((run_of (one_of_each first second third)).now.served.links call)
      ≡ (3 ∷ []) ∷ []

one_of_each_holds : (u v w : Vec ℕ Global) (x : Fits u (1 ∷ [])) (y : Fits v (2 ∷ []))
    (z : Fits w (3 ∷ []))
    → OneOfEach (holding u (1 ∷ []) x) (holding v (2 ∷ []) y) (holding w (3 ∷ []) z)
unfolding computed_events
one_of_each_holds u v w x y z = record {
  keeps = refl;
  given = refl;
  delivered = refl;
  queue = refl;
}

-- a property of three messages
of_three : (P : Vec ℕ Global → Vec ℕ Global → Vec ℕ Global → Type 0)
    → ((u v w : Vec ℕ Global) (x : Fits u (1 ∷ [])) (y : Fits v (2 ∷ [])) (z : Fits w (3 ∷ []))
    → P (holding u (1 ∷ []) x) (holding v (2 ∷ []) y) (holding w (3 ∷ []) z))
    → (first second third : Vec ℕ Global) → IsMessage 1 first → IsMessage 2 second
    → IsMessage 3 third → P first second third
of_three P each first second third one two three =
    with_octets (λ u. P u second third) (1 ∷ []) (λ u x. with_both
    (λ v w. P (holding u (1 ∷ []) x) v w) (2 ∷ []) (3 ∷ [])
    (λ v w y z. each u v w x y z) second third two three) first one

pub one_of_each_so : (first second third : Vec ℕ Global) → IsMessage 1 first → IsMessage 2 second
    → IsMessage 3 third → OneOfEach first second third
one_of_each_so = of_three OneOfEach one_of_each_holds

-- ---- The TEI is removed.

pub record ThenRemoved (first second third : Vec ℕ Global) : Type 0 where
  pub removed : list_any (is_removal 64) (run_of (then_removed first second third)).delivered
      ≡ true
  pub lost : IsAccountedSince (user_behaviour sides.both_sapis) call (user_with (Some 64) [])
      (then_removed first second third) → ⊥

two_of_three : (given : List (List ℕ)) (k : Known) (l : Option Linked) → length given ≡ 3
    → length k.acked + length k.dropped ≡ 2 → waiting_of l ≡ 0 → IsAccounted given k l → ⊥
two_of_three given k l three two none h = omega (arith, three, two, none, h.counted)

then_removed_holds : (u v w : Vec ℕ Global) (x : Fits u (1 ∷ [])) (y : Fits v (2 ∷ []))
    (z : Fits w (3 ∷ []))
    → ThenRemoved (holding u (1 ∷ []) x) (holding v (2 ∷ []) y) (holding w (3 ∷ []) z)
unfolding computed_events
then_removed_holds u v w x y z = record {
  removed = refl;
  lost = two_of_three _ _ _ refl refl refl;
}

pub then_removed_so : (first second third : Vec ℕ Global) → IsMessage 1 first
    → IsMessage 2 second → IsMessage 3 third → ThenRemoved first second third
then_removed_so = of_three ThenRemoved then_removed_holds

-- ---- A message is refused.

pub record TooEarly (message : Vec ℕ Global) : Type 0 where
  pub given : given_to call (run_of (too_early message)).given ≡ []
  pub with_it : IsAccounted (message.items ∷ [])
      (known_of call (run_of (too_early message)).delivered)
      ((run_of (too_early message)).now.served.links call) → ⊥

none_of_one : (message : List ℕ) (k : Known) (l : Option Linked)
    → length k.acked + length k.dropped ≡ 0 → waiting_of l ≡ 0 → IsAccounted (message ∷ []) k l → ⊥
none_of_one message k l neither none h = omega (arith, neither, none, h.counted)

too_early_holds : (v : Vec ℕ Global) (x : Fits v (1 ∷ [])) → TooEarly (holding v (1 ∷ []) x)
unfolding computed_events
too_early_holds v x = record {
  given = refl;
  with_it = none_of_one _ _ _ refl refl;
}

pub too_early_so : (message : Vec ℕ Global) → IsMessage 1 message → TooEarly message
too_early_so = with_octets TooEarly (1 ∷ []) too_early_holds
