-- Tests of the premises on the clock, for runs that are computed.
use Rattle.std.proofs.Common.{◌≡◌, ℕ, ◌+◌, ◌*◌, ◌≤◌, ◌<◌, nat_le, nat_lt, not, ◌&&◌, List, [], ◌∷◌, Bool, true, false, Option, Some, None, refl, ap, arith}
use Rattle.std.specs.Prelude.{◌||◌, option_map}
use Rattle.std.specs.List.{list_all}
use Rattle.std.proofs.lemmas.Bool.Decides.{nat_tests}
use Rattle.std.proofs.lemmas.List.Elements.{All-nil, All-cons}
use Rattle.lapd_timers.specs.declared.timer.Timer.{Timer}
use Rattle.lapd_timers.specs.declared.timer.Timer.TheVariants.{T200, T201, T202, T203}
use Rattle.lapd_timers.specs.Due.{deadline_of, last_moment}
use Rattle.lapd_frame.specs.declared.Side.{Side}
use Rattle.lapd_frame.specs.declared.Side.TheVariants as side
use Rattle.lapd_frame.specs.Address.{other_side}
use Rattle.lapd_table.specs.declared.link_id.LinkId.{LinkId}
use Rattle.lapd_sides_links.specs.Expiries.{IsPast, of_served}
use Rattle.lapd_sides_links.specs.Links.{IsOfLink, Linked, Served}
use Rattle.lapd_side_events.specs.Interface.{Configs, Interface, Move, happens}
use Rattle.lapd_side_events.specs.SideView.{SideEvent, Take, Lose, Expire, Ask, Overhear}
use Rattle.lapd_two_side_laws.specs.Addressed.{is_for}
use Rattle.lapd_link_definition.proofs.Sending.{both_true}
use Rattle.lapd_clock_laws.specs.Clock.{Clock, Sent, SideClock, clock_after, moment_of, network_clock, user_clock}
use Rattle.lapd_clock_laws.specs.InTime.{AreSent, IsInOrder, IsInRange, IsInTime, IsPrompt, IsWhenDue, OfMove, Premise, TakesFirst, Throughout}

abbrev pub Test : Type 0
Test = Side → SideEvent → Served → SideClock → Bool

-- ---- A run.

abbrev pub of_move : Test → Side → SideEvent → Interface → Clock → Bool
of_move test side.User event i k = test side.User event i.user.served (user_clock k)
of_move test side.Network event i k = test side.Network event i.network.served (network_clock k)

abbrev pub passes : Configs → Test → List Move → Interface → Clock → Bool
passes c test [] i k = true
passes c test (move ∷ moves) i k = of_move test move.side move.event i k
    && passes c test moves (happens c move i) (clock_after c move.side move.event i k)

abbrev pub IsSound : Premise → Test → Type 0
IsSound P test = (side : Side) (event : SideEvent) (s : Served) (k : SideClock)
    → test side event s k ≡ true → P side event s k

pub move_so : (P : Premise) (test : Test) → IsSound P test → (who : Side) (event : SideEvent)
    (i : Interface) (k : Clock) → of_move test who event i k ≡ true → OfMove P who event i k
move_so P test sound side.User event i k h =
    sound side.User event i.user.served (user_clock k) h
move_so P test sound side.Network event i k h =
    sound side.Network event i.network.served (network_clock k) h

pub throughout_so : (c : Configs) (P : Premise) (test : Test) → IsSound P test
    → (moves : List Move) (i : Interface) (k : Clock) → passes c test moves i k ≡ true
    → Throughout c P moves i k
throughout_so c P test sound [] i k h = tt
throughout_so c P test sound (move ∷ moves) i k h =
    let two = both_true (of_move test move.side move.event i k)
    (passes c test moves (happens c move i) (clock_after c move.side move.event i k)) h in (
      move_so P test sound move.side move.event i k two.0,
      throughout_so c P test sound moves (happens c move i)
          (clock_after c move.side move.event i k) two.1,
    )

pub both_sound : (P Q : Premise) (a b : Test) → IsSound P a → IsSound Q b
    → IsSound (λ side event s k. P side event s k × Q side event s k)
    (λ side event s k. a side event s k && b side event s k)
both_sound P Q a b one other side event s k h =
    let two = both_true (a side event s k) (b side event s k) h in
    (one side event s k two.0, other side event s k two.1)

-- ---- Octets in transit.

abbrev are_sent : Side → LinkId → (ℕ → Bool) → List Sent → Bool
are_sent from id test line =
    list_all (λ (sent : Sent). not (is_for from id sent.octets) || test sent.at) line

its_own : (a b : Bool) → (not a || b) ≡ true → a ≡ true → b ≡ true
its_own true b h is = h
its_own false b h is = cc

are_sent_so : (from : Side) (id : LinkId) (P : ℕ → Type 0) (test : ℕ → Bool)
    → ((at : ℕ) → test at ≡ true → P at) → (line : List Sent)
    → are_sent from id test line ≡ true → AreSent from id P line
are_sent_so from id P test sound [] h =
    All-nil (λ (sent : Sent). is_for from id sent.octets ≡ true → P sent.at)
are_sent_so from id P test sound (sent ∷ line) h =
    let two = both_true (not (is_for from id sent.octets) || test sent.at)
    (are_sent from id test line) h in
    All-cons (λ (sent : Sent). is_for from id sent.octets ≡ true → P sent.at) sent line
    (λ its. sound sent.at (its_own (is_for from id sent.octets) (test sent.at) two.0 its))
    (are_sent_so from id P test sound line two.1)

at_most : (a b : ℕ) → nat_le a b ≡ true → a ≤ b
at_most a b h = grind (arith, nat_tests, h)

less : (a b : ℕ) → nat_lt a b ≡ true → a < b
less a b h = grind (arith, nat_tests, h)

-- ---- Each premise.

abbrev pub in_order : Test
in_order side event s k = nat_le k.now (moment_of event k.now)

pub in_order_so : IsSound (λ side event s k. IsInOrder event k) in_order
in_order_so side event s k h = at_most k.now (moment_of event k.now) h

abbrev pub in_range : ℕ → Test
in_range longest side event s k = nat_le (moment_of event k.now + 2 * longest) last_moment

pub in_range_so : (longest : ℕ)
    → IsSound (λ side event s k. IsInRange longest event k) (in_range longest)
in_range_so longest side event s k h =
    at_most (moment_of event k.now + 2 * longest) last_moment h

abbrev pub prompt : ℕ → LinkId → Test
prompt longest id side event s k =
    are_sent (other_side side) id (λ at. nat_le (moment_of event k.now) (at + longest)) k.incoming
    && are_sent side id (λ at. nat_le (moment_of event k.now) (at + longest)) k.outgoing

pub prompt_so : (longest : ℕ) (id : LinkId)
    → IsSound (λ side event s k. IsPrompt longest side id event k) (prompt longest id)
prompt_so longest id side event s k h =
    let soon = λ (at : ℕ). nat_le (moment_of event k.now) (at + longest) in
    let two = both_true (are_sent (other_side side) id soon k.incoming)
    (are_sent side id soon k.outgoing) h in
    record {
      to_side = are_sent_so (other_side side) id (λ at. moment_of event k.now ≤ at + longest)
          soon (λ at. at_most (moment_of event k.now) (at + longest)) k.incoming two.0;
      from_side = are_sent_so side id (λ at. moment_of event k.now ≤ at + longest) soon
          (λ at. at_most (moment_of event k.now) (at + longest)) k.outgoing two.1;
    }

abbrev pub takes_first : ℕ → LinkId → Test
takes_first longest id side (Expire timer of now) s k =
    are_sent (other_side side) id (λ at. nat_lt now (at + longest)) k.incoming
takes_first longest id side event s k = true

pub takes_first_so : (longest : ℕ) (id : LinkId)
    → IsSound (λ side event s k. TakesFirst longest side id event k) (takes_first longest id)
takes_first_so longest id side (Expire timer of now) s k h =
    are_sent_so (other_side side) id (λ at. now < at + longest) (λ at. nat_lt now (at + longest))
    (λ at. less now (at + longest)) k.incoming h
takes_first_so longest id side (Take now) s k h = tt
takes_first_so longest id side (Lose at) s k h = tt
takes_first_so longest id side (Ask request now) s k h = tt
takes_first_so longest id side (Overhear octets now) s k h = tt

abbrev is_by : Option ℕ → ℕ → Bool
is_by None now = false
is_by (Some deadline) now = nat_le deadline now

abbrev link_is_due : Timer → Option Linked → ℕ → Bool
link_is_due timer None now = false
link_is_due T200 (Some l) now = is_by l.timers.t200 now
link_is_due T203 (Some l) now = is_by l.timers.t203 now
link_is_due T201 (Some l) now = false
link_is_due T202 (Some l) now = false

abbrev pub when_due : LinkId → Test
when_due id side (Expire timer (Some other) now) s k = link_is_due timer (s.links other) now
when_due id side event s k = true

abbrev PastAt : Timer → Option LinkId → ℕ → Served → Type 0
PastAt timer of now s = (deadline : ℕ)
    × IsPast now (of_served s) (record { deadline = deadline; timer = timer; of = of })

timer_past : (timer : Timer) (other : LinkId) (now : ℕ) (s : Served) (l : Linked) (o : Option ℕ)
    → IsOfLink timer → s.links other ≡ Some l → deadline_of timer l.timers ≡ o
    → is_by o now ≡ true → PastAt timer (Some other) now s
timer_past timer other now s l None own there is h = cc
timer_past timer other now s l (Some deadline) own there is h = (
  deadline,
  record {
    runs = record {
      its = l.timers;
      there = ap (λ (o : Option Linked). option_map (λ (l : Linked). l.timers) o) there;
      own = own;
      until = is;
    };
    is_past = at_most deadline now h;
  },
)

link_past : (timer : Timer) (other : LinkId) (now : ℕ) (s : Served) (o : Option Linked)
    → s.links other ≡ o → link_is_due timer o now ≡ true → PastAt timer (Some other) now s
link_past timer other now s None there h = cc
link_past T200 other now s (Some l) there h =
    timer_past T200 other now s l l.timers.t200 tt there refl h
link_past T203 other now s (Some l) there h =
    timer_past T203 other now s l l.timers.t203 tt there refl h
link_past T201 other now s (Some l) there h = cc
link_past T202 other now s (Some l) there h = cc

pub when_due_so : (id : LinkId)
    → IsSound (λ side event s k. IsWhenDue id event s) (when_due id)
when_due_so id side (Expire timer None now) s k h = λ its. (let none : None ≡ Some id = its in cc)
when_due_so id side (Expire timer (Some other) now) s k h = λ its.
    link_past timer other now s (s.links other) refl h
when_due_so id side (Take now) s k h = tt
when_due_so id side (Lose at) s k h = tt
when_due_so id side (Ask request now) s k h = tt
when_due_so id side (Overhear octets now) s k h = tt

-- ---- All of them.

abbrev pub in_time : ℕ → LinkId → Test
in_time longest id side event s k = in_order side event s k
    && (in_range longest side event s k && (prompt longest id side event s k
    && (takes_first longest id side event s k && when_due id side event s k)))

pub in_time_so : (longest : ℕ) (id : LinkId) → IsSound (IsInTime longest id) (in_time longest id)
in_time_so longest id side event s k h =
    let one = both_true (in_order side event s k) _ h in
    let two = both_true (in_range longest side event s k) _ one.1 in
    let three = both_true (prompt longest id side event s k) _ two.1 in
    let four = both_true (takes_first longest id side event s k) (when_due id side event s k)
    three.1 in
    record {
      in_order = in_order_so side event s k one.0;
      in_range = in_range_so longest side event s k two.0;
      prompt = prompt_so longest id side event s k three.0;
      takes_first = takes_first_so longest id side event s k four.0;
      when_due = when_due_so id side event s k four.1;
    }
