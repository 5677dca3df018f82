-- The worked runs with restarts, computed. The last three end in a state that is not right.
use Rattle.std.proofs.Common.{◌≡◌, ℕ, List, [], ◌∷◌, true, refl}
use Rattle.std.specs.Prelude.{Vec}
use Rattle.std.specs.declared.alloc.Global.{Global}
use Rattle.lapd_sides_links.specs.declared.primitive.What.TheVariants as what
use Rattle.lapd_link_definition.specs.declared.out.Letter.TheVariants as letter
use Rattle.lapd_pair_laws.specs.Schedule.{two_messages}
use Rattle.lapd_side_events.specs.Interface.{Move, run}
use Rattle.lapd_two_side_laws.specs.Schedule.{configs, call, at_first, unassigned, IsMessage}
use Rattle.lapd_two_side_laws.specs.Primitives.{link_primitives, given_to, known_of, AreExpectedOfLink}
use Rattle.lapd_two_side_laws.specs.Projects.{IsReceivedByNetwork}
use Rattle.lapd_two_side_laws.proofs.Computed.{Fits, holding, with_octets, with_both, with_four, second_for_first}
use Rattle.lapd_restart_laws.specs.RestartPremises.{KeepPremises}
use Rattle.lapd_restart_laws.specs.RestartRuns.{moved, user_restarts, network_restarts, across_both, tei_lost, next_call, with_restart, KeepInPart, command_sent, command_answered, answer_sent, answer_taken, BringsNoCallBack, HasNoAnswer, HasNoCommand, given_up, comes_back, IsQuietForUser}
use Rattle.lapd_restart_laws.specs.Restarts.{Change, changes, losses, run_across}
use Rattle.lapd_restart_laws.proofs.RestartTests.{all_keep, keep_premises}
use Rattle.lapd_two_side_laws.proofs.ComputedEvents.{computed_events}

keep_in_part : (part : Type 0) → part → (before : List Move) (restart : Change)
    (after : List Move) → all_keep configs call (moved before) at_first ≡ true
    → all_keep configs call (moved after) (changes configs restart (run configs before at_first))
    ≡ true → KeepInPart part before restart after
keep_in_part part so before restart after first later = (
  keep_premises configs call (moved before) at_first first,
  (
    so,
    keep_premises configs call (moved after)
        (changes configs restart (run configs before at_first)) later,
  ),
)

-- ---- Both sides restart.

pub record AcrossBoth (first answer second third : Vec ℕ Global) : Type 0 where
  pub premises : KeepPremises configs call (across_both first answer second third) at_first
  pub to_user : link_primitives call
      (run_across configs (across_both first answer second third) at_first).delivered_to_user
      ≡ what.Confirmed ∷ what.Dropped 1 ∷ what.Confirmed ∷ what.Acknowledged 1 ∷ what.Dropped 1
      ∷ what.Confirmed ∷ []
  pub to_network : link_primitives call
      (run_across configs (across_both first answer second third) at_first).delivered_to_network
      ≡ what.Established ∷ what.Up (1 ∷ []) ∷ what.Report letter.F ∷ what.Dropped 1
      ∷ what.Established ∷ what.Up (3 ∷ []) ∷ what.Established ∷ []

across_both_holds : (s t u v : Vec ℕ Global) (w : Fits s (1 ∷ [])) (x : Fits t (2 ∷ []))
    (y : Fits u (3 ∷ [])) (z : Fits v (4 ∷ []))
    → AcrossBoth (holding s (1 ∷ []) w) (holding t (2 ∷ []) x) (holding u (3 ∷ []) y)
    (holding v (4 ∷ []) z)
unfolding computed_events losses
across_both_holds s t u v w x y z = record {
  premises = keep_premises configs call (across_both (holding s (1 ∷ []) w) (holding t (2 ∷ []) x)
      (holding u (3 ∷ []) y) (holding v (4 ∷ []) z)) at_first refl;
  to_user = refl;
  to_network = refl;
}

pub across_both_so : (first answer second third : Vec ℕ Global) → IsMessage 1 first
    → IsMessage 2 answer → IsMessage 3 second → IsMessage 4 third
    → AcrossBoth first answer second third
across_both_so = with_four AcrossBoth (1 ∷ []) (2 ∷ []) (3 ∷ []) (4 ∷ []) across_both_holds

-- ---- A side restarts without a TEI.

pub record TeiLost (message : Vec ℕ Global) : Type 0 where
  pub lost_premises : KeepPremises configs call (tei_lost message) unassigned
  pub next_premises : KeepPremises configs next_call (tei_lost message) unassigned
  pub lost_to_user : link_primitives call
      (run_across configs (tei_lost message) unassigned).delivered_to_user ≡ what.Confirmed
      ∷ what.Acknowledged 1 ∷ []
  pub next_to_user : link_primitives next_call
      (run_across configs (tei_lost message) unassigned).delivered_to_user ≡ what.Confirmed ∷ []
  pub next_to_network : link_primitives next_call
      (run_across configs (tei_lost message) unassigned).delivered_to_network ≡ what.Established
      ∷ []

tei_lost_holds : (v : Vec ℕ Global) (x : Fits v (1 ∷ [])) → TeiLost (holding v (1 ∷ []) x)
unfolding computed_events losses
tei_lost_holds v x =
    let run = tei_lost (holding v (1 ∷ []) x) in
    record {
      lost_premises = keep_premises configs call run unassigned refl;
      next_premises = keep_premises configs next_call run unassigned refl;
      lost_to_user = refl;
      next_to_user = refl;
      next_to_network = refl;
    }

pub tei_lost_so : (message : Vec ℕ Global) → IsMessage 1 message → TeiLost message
tei_lost_so = with_octets TeiLost (1 ∷ []) tei_lost_holds

-- ---- A frame of an exchange is in transit.

pub command_keeps : KeepInPart (BringsNoCallBack (run configs command_sent at_first)
    × HasNoAnswer (run configs command_sent at_first)) command_sent network_restarts
    command_answered
unfolding computed_events losses
command_keeps = keep_in_part (BringsNoCallBack (run configs command_sent at_first)
    × HasNoAnswer (run configs command_sent at_first)) (λ had has. refl, refl) command_sent
    network_restarts command_answered refl refl

pub command_outlasts : AreExpectedOfLink
    (link_primitives call (run_across configs
    (with_restart command_sent network_restarts command_answered)
    at_first).delivered_to_network) → ⊥
unfolding computed_events losses
command_outlasts h = h.0

pub answer_keeps : KeepInPart (BringsNoCallBack (run configs answer_sent at_first)
    × HasNoCommand (run configs answer_sent at_first)) answer_sent network_restarts answer_taken
unfolding computed_events losses
answer_keeps = keep_in_part (BringsNoCallBack (run configs answer_sent at_first)
    × HasNoCommand (run configs answer_sent at_first)) (λ had has. refl, refl) answer_sent
    network_restarts answer_taken refl refl

pub answer_outlasts : AreExpectedOfLink (link_primitives call
    (run_across configs (with_restart answer_sent network_restarts answer_taken)
    at_first).delivered_to_network) → ⊥
unfolding computed_events losses
answer_outlasts h = h.0

-- ---- The link exists again.

pub record ComesBack (first second : Vec ℕ Global) : Type 0 where
  pub keeps : KeepInPart (IsQuietForUser (run configs (given_up first) at_first)) (given_up first)
      user_restarts (comes_back second)
  pub given : given_to call (run_across configs
      (with_restart (given_up first) user_restarts (comes_back second)) at_first).given_to_user
      ≡ two_messages
  pub acked : (known_of call (run_across configs
      (with_restart (given_up first) user_restarts (comes_back second))
      at_first).delivered_to_user).acked ≡ 0 ∷ []
  pub received : (known_of call (run_across configs
      (with_restart (given_up first) user_restarts (comes_back second))
      at_first).delivered_to_network).received ≡ (2 ∷ []) ∷ []

comes_back_holds : (v w : Vec ℕ Global) (x : Fits v (1 ∷ [])) (y : Fits w (2 ∷ []))
    → ComesBack (holding v (1 ∷ []) x) (holding w (2 ∷ []) y)
unfolding computed_events losses
comes_back_holds v w x y = record {
  keeps = keep_in_part (IsQuietForUser (run configs (given_up (holding v (1 ∷ []) x)) at_first))
      (refl, refl) (given_up (holding v (1 ∷ []) x)) user_restarts
      (comes_back (holding w (2 ∷ []) y)) refl refl;
  given = refl;
  acked = refl;
  received = refl;
}

pub comes_back_so : (first second : Vec ℕ Global) → IsMessage 1 first → IsMessage 2 second
    → ComesBack first second
comes_back_so = with_both ComesBack (1 ∷ []) (2 ∷ []) comes_back_holds

pub comes_back_is_not_right : (first second : Vec ℕ Global) → IsMessage 1 first → IsMessage 2 second
    → IsReceivedByNetwork call (run_across configs
    (with_restart (given_up first) user_restarts (comes_back second)) at_first) → ⊥
comes_back_is_not_right first second one two right =
    let h = comes_back_so first second one two in
    second_for_first _ _ _ h.given h.acked h.received right
