-- The worked runs, computed.
use Rattle.std.proofs.Common.{◌≡◌, inl, inr, Bool, ℕ, ◌+◌, ◌<◌, ◌&&◌, List, [], ◌∷◌, true, Option, Some, refl, sym, ap, ◌∙◌, arith}
use Rattle.std.specs.Prelude.{◌||◌}
use Rattle.lapd_frame.specs.declared.Side.{Side}
use Rattle.lapd_link_definition.specs.declared.state.State.{State}
use Rattle.lapd_link_definition.specs.declared.state.State.TheVariants.{TeiAssigned, AwaitingEstablishment, AwaitingRelease, MultipleFrameEstablished}
use Rattle.lapd_link_definition.specs.EndOfStep.{is_7_or_8}
use Rattle.lapd_table.specs.declared.link_id.LinkId.{LinkId}
use Rattle.lapd_sides_links.specs.Links.{Linked, parameters_for}
use Rattle.lapd_sides.specs.Worked.{state_of}
use Rattle.lapd_side_events.specs.Interface.{Interface, Move, run}
use Rattle.lapd_side_events.specs.SideView.{SideEvent}
use Rattle.lapd_two_side_laws.specs.Schedule.{call}
use Rattle.lapd_two_side_laws.proofs.ComputedEvents.{computed_events}
use Rattle.lapd_sides.specs.Worked as sides
use Rattle.lapd_clock_laws.specs.Clock.{Clock, new_clock, user_clock}
use Rattle.lapd_clock_laws.specs.InTime.{IsInTime, IsLongEnough}
use Rattle.lapd_clock_laws.proofs.Tests as clocks
use Rattle.lapd_clock_laws.proofs.Tests.{in_time, in_time_so}
use Rattle.lapd_side_events.specs.SideView.{Take}
use Rattle.lapd_frame.specs.declared.Side.TheVariants as side
use Rattle.lapd_side_recovery_laws.specs.Agreement.{AreInAgreement}
use Rattle.lapd_side_recovery_laws.specs.Quiet.{OfEvent}
use Rattle.lapd_side_recovery_laws.specs.Counts.{most_time_from, t203s_out_of_step}
use Rattle.lapd_side_recovery_laws.specs.Reached.{AreWithin, HaveReached, HaveFreeLinks, MeetPremises, RunAtMost, clock_of}
use Rattle.lapd_side_recovery_laws.specs.Runs.{AllBut, AllButLosses, AllButRequests, AllButTimers, Meet, Quiet, Served, answer_lost, asks_release, is_loss, is_request, lost, lost_clock, new_quick, polled_twice, quick_configs, quick_waits, sabme_lost}
use Rattle.lapd_side_recovery_laws.proofs.QuietTests.{AreUsual, Test, are_free, are_free_so, is_plain, is_quiet, is_quiet_so, is_served, is_served_so, is_usual, passes, plain_unless, stays, stays_so, throughout_so, usual_so}
use Rattle.lapd_side_recovery_laws.proofs.Recovers.{recovers}
use Rattle.lapd_link_definition.proofs.Sending.{both_true}

-- what a run computes with
unfoldable pub whole_table : Unit {0}
unfolding computed_events
whole_table = tt

-- ---- The lost SABME.

sabme_in_time : clocks.passes quick_configs (in_time 1 call) sabme_lost new_quick (new_clock 0)
    ≡ true
unfolding whole_table
sabme_in_time = refl

sabme_usual : passes quick_configs (is_usual quick_configs call) sabme_lost new_quick (new_clock 0)
    ≡ true
unfolding whole_table
sabme_usual = refl

sabme_premises : AreUsual quick_configs call sabme_lost new_quick
sabme_premises = usual_so quick_configs call sabme_lost new_quick (new_clock 0) sabme_usual

pub sabme_come : HaveReached 1 quick_configs call lost lost_clock
sabme_come = record {
  fixed = Some 64;
  known = 64 ∷ [];
  random = sides.random;
  start = 0;
  before = sabme_lost;
  premises = record {
    in_time = clocks.throughout_so quick_configs (IsInTime 1 call) (in_time 1 call)
        (in_time_so 1 call) sabme_lost new_quick (new_clock 0) sabme_in_time;
    taken = sabme_premises.taken;
    others = sabme_premises.others;
    octets = sabme_premises.octets;
  };
  interface = refl;
  clock = refl;
}

lost_is_free : are_free call lost ≡ true
unfolding whole_table
lost_is_free = refl

pub lost_free : HaveFreeLinks call lost
lost_free = are_free_so call lost lost_is_free

-- ---- Moves that follow.

meet_premises : (moves : List Move)
    → clocks.passes quick_configs (in_time 1 call) moves lost lost_clock ≡ true
    → passes quick_configs (is_usual quick_configs call) moves lost lost_clock ≡ true
    → MeetPremises 1 quick_configs call moves lost lost_clock
meet_premises moves in_time_so_far usual =
    let h = usual_so quick_configs call moves lost lost_clock usual in
    record {
      in_time = clocks.throughout_so quick_configs (IsInTime 1 call) (in_time 1 call)
          (in_time_so 1 call) moves lost lost_clock in_time_so_far;
      taken = h.taken;
      others = h.others;
      octets = h.octets;
    }

abbrev Usual : List Move → Type 0
Usual moves = passes quick_configs (is_usual quick_configs call) moves lost lost_clock ≡ true

abbrev InTime : List Move → Type 0
InTime moves = clocks.passes quick_configs (in_time 1 call) moves lost lost_clock ≡ true

abbrev Each : Test → List Move → Type 0
Each test moves = passes quick_configs test moves lost lost_clock ≡ true

abbrev AtLast : List Move → Type 0
AtLast moves = is_served 1 0 12233 call (run quick_configs moves lost)
    (clock_of quick_configs moves lost lost_clock) ≡ true

abbrev Enough : List Move → Type 0
Enough moves = lost_clock.now + most_time_from quick_waits 1
    (t203s_out_of_step quick_configs call moves lost) call lost ≡ 12232

enough_so : (n : ℕ) → n ≡ 12232 → n < 12233
enough_so n is = omega (arith, is)

-- all of them
record Passes (test : Test) (moves : List Move) : Type 0 where
  pub in_time : InTime moves
  pub usual : Usual moves
  pub each : Each test moves
  pub at_last : AtLast moves
  pub enough : Enough moves

meets : (Q : OfEvent) (test : Test)
    → ((side : Side) (event : SideEvent) (i : Interface) (k : Clock) → test side event i k ≡ true
    → Q side event i k) → (moves : List Move) → Passes test moves → Meet Q Served moves 12233
meets Q test sound moves h = record {
  premises = meet_premises moves h.in_time h.usual;
  each = throughout_so quick_configs Q test sound moves lost lost_clock h.each;
  last = is_served_so 1 0 12233 call (run quick_configs moves lost)
      (clock_of quick_configs moves lost lost_clock) h.at_last;
  enough = enough_so _ h.enough;
}

-- ---- Each poll is answered.

polled_pass : Passes (is_quiet quick_configs 0 call) polled_twice
unfolding whole_table
polled_pass =
    record { in_time = refl; usual = refl; each = refl; at_last = refl; enough = refl }

pub time_computed : most_time_from quick_waits 1 0 call lost ≡ 12232
unfolding whole_table
time_computed = refl

pub polled_meet : Meet Quiet Served polled_twice 12233
polled_meet = meets Quiet (is_quiet quick_configs 0 call) (is_quiet_so quick_configs 0 call)
    polled_twice polled_pass

-- ---- Ends that do not agree.

state_is : (o : Option Linked) (l : Linked) (s : State) → state_of o ≡ Some s → o ≡ Some l
    → l.end.state ≡ s
state_is o l s h is = some_state l.end.state s (sym (ap state_of is) ∙ h)
  where
    some_state : (a b : State) → Some a ≡ Some b → a ≡ b
    some_state a b e = cc

apart : (id : LinkId) (i : Interface) (s t : State)
    → state_of (i.user.served.links id) ≡ Some s → state_of (i.network.served.links id) ≡ Some t
    → (s ≡ TeiAssigned → t ≡ TeiAssigned → ⊥)
    → (is_7_or_8 s ≡ true → is_7_or_8 t ≡ true → ⊥) → AreInAgreement id i → ⊥
apart id i s t user network not_4 not_open h =
    let a = state_is (i.user.served.links id) h.user s user h.user_there in
    let b = state_is (i.network.served.links id) h.network t network h.network_there in
    elim h.ends [
      | inl released ↦ not_4 (sym a ∙ released.mine) (sym b ∙ released.its)
      | inr equal ↦ not_open
          (ap is_7_or_8 (sym a) ∙ equal.mine.open_state)
          (ap is_7_or_8 (sym b) ∙ equal.its.open_state)
    ]

-- ---- T200 is never expired.

start_last : clocks.prompt 1 call side.User (Take 12233) lost.user.served (user_clock lost_clock)
    ≡ true
unfolding whole_table
start_last = refl

start_enough : Enough []
unfolding whole_table
start_enough = refl

pub start_meets : Meet Quiet AllButTimers [] 12233
start_meets =
    let soon = clocks.prompt_so 1 call side.User (Take 12233) lost.user.served
    (user_clock lost_clock) start_last in
    record {
      premises = meet_premises [] refl refl;
      each = tt;
      last = (soon.to_side, soon.from_side);
      enough = enough_so _ start_enough;
    }

start_user : state_of (lost.user.served.links call) ≡ Some AwaitingEstablishment
unfolding whole_table
start_user = refl

start_network : state_of (lost.network.served.links call) ≡ Some TeiAssigned
unfolding whole_table
start_network = refl

pub start_apart : AreInAgreement call lost → ⊥
start_apart = apart call lost AwaitingEstablishment TeiAssigned start_user start_network
    (λ a b. cc) (λ a b. cc)

-- ---- Frames are lost.

-- plain events, and those that this test excepts
abbrev but : (SideEvent → Bool) → Test
but excepted side event i k = (is_plain event || excepted event)
    && stays quick_configs 0 call side event i k

but_so : (excepted : SideEvent → Bool) (side : Side) (event : SideEvent) (i : Interface)
    (k : Clock) → but excepted side event i k ≡ true → AllBut excepted side event i k
but_so excepted side event i k h =
    let two = both_true (is_plain event || excepted event)
    (stays quick_configs 0 call side event i k) h in (
      plain_unless quick_configs call side event i (excepted event) two.0,
      stays_so quick_configs 0 call side event i k two.1,
    )

losses_pass : Passes (but is_loss) answer_lost
unfolding whole_table
losses_pass =
    record { in_time = refl; usual = refl; each = refl; at_last = refl; enough = refl }

losses_user : state_of ((run quick_configs answer_lost lost).user.served.links call)
    ≡ Some TeiAssigned
unfolding whole_table
losses_user = refl

losses_network : state_of ((run quick_configs answer_lost lost).network.served.links call)
    ≡ Some MultipleFrameEstablished
unfolding whole_table
losses_network = refl

pub losses_meet : Meet AllButLosses Served answer_lost 12233
losses_meet = meets AllButLosses (but is_loss) (but_so is_loss) answer_lost losses_pass

pub losses_apart : AreInAgreement call (run quick_configs answer_lost lost) → ⊥
losses_apart = apart call (run quick_configs answer_lost lost) TeiAssigned
    MultipleFrameEstablished losses_user losses_network (λ a b. cc) (λ a b. cc)

-- ---- Layer 3 requests the release.

release_pass : Passes (but is_request) asks_release
unfolding whole_table
release_pass =
    record { in_time = refl; usual = refl; each = refl; at_last = refl; enough = refl }

release_user : state_of ((run quick_configs asks_release lost).user.served.links call)
    ≡ Some AwaitingRelease
unfolding whole_table
release_user = refl

release_network : state_of ((run quick_configs asks_release lost).network.served.links call)
    ≡ Some MultipleFrameEstablished
unfolding whole_table
release_network = refl

pub release_meets : Meet AllButRequests Served asks_release 12233
release_meets = meets AllButRequests (but is_request) (but_so is_request) asks_release release_pass

pub release_apart : AreInAgreement call (run quick_configs asks_release lost) → ⊥
release_apart = apart call (run quick_configs asks_release lost) AwaitingRelease
    MultipleFrameEstablished release_user release_network (λ a b. cc) (λ a b. cc)

-- ---- The law, applied to the run that meets all premises.

long_enough : IsLongEnough 1 quick_configs.user.durations
long_enough = omega arith

at_most : RunAtMost 2 5000 quick_configs.user.durations
at_most = record { of_200 = omega arith; of_203 = omega arith }

within : AreWithin 1 (parameters_for quick_configs.user call.sapi)
within = record { low = omega arith; high = omega arith; retries = omega arith }

pub polled_agrees : AreInAgreement call (run quick_configs polled_twice lost)
polled_agrees = recovers quick_configs call 1 0 2 5000 1 12233 (omega arith) (omega arith)
    (omega arith) long_enough long_enough at_most at_most within within lost lost_clock lost_free
    polled_twice polled_meet.premises polled_meet.each polled_meet.last polled_meet.enough
    sabme_come
