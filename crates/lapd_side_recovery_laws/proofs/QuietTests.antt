-- Tests of the premises on the moves while a link recovers, for runs that are computed.
use Rattle.std.proofs.Common.{◌≡◌, ℕ, ◌+◌, ◌≤◌, nat_le, not, ◌&&◌, List, [], ◌∷◌, Bool, true, false, Option, Some, None, refl, sym, subst, ◌∙◌, arith}
use Rattle.std.specs.Prelude.{is_some, ◌||◌}
use Rattle.std.specs.List.{list_any}
use Rattle.std.proofs.lemmas.Bool.Decides.{nat_tests}
use Rattle.lapd_timers.specs.declared.timer.Timer.{Timer}
use Rattle.lapd_timers.specs.declared.timer.Timer.TheVariants.{T200, T201, T202, T203}
use Rattle.lapd_timers.specs.Due.{deadline_of}
use Rattle.lapd_frame.specs.declared.Side.{Side}
use Rattle.lapd_frame.specs.declared.Side.TheVariants as side
use Rattle.lapd_link_definition.specs.EndOfStep.{is_7_or_8}
use Rattle.lapd_table.specs.declared.link_id.LinkId.{LinkId}
use Rattle.lapd_sides_links.specs.Links.{Linked, Links, Served}
use Rattle.lapd_sides_links.specs.declared.primitive.Primitive.{Primitive}
use Rattle.lapd_side_events.specs.Interface.{Configs, Interface, Move, by_network, by_user, happens, network_behaviour, side_does, user_behaviour}
use Rattle.lapd_side_events.specs.SideView.{SideEvent, Take, Lose, Expire, Ask, Overhear, reaction}
use Rattle.lapd_two_side_laws.specs.ExactTimers.{OverhearOctets, OverhearsOctets}
use Rattle.lapd_two_side_laws.specs.Premises.{IsMoveLeavingTeiTaken, LeaveTeiTaken, is_assignment}
use Rattle.lapd_link_definition.proofs.Sending.{both_true}
use Rattle.lapd_clock_laws.specs.Clock.{Clock, clock_after, moment_of, user_clock}
use Rattle.lapd_clock_laws.specs.InTime.{OverhearOthers, OverhearsOthers}
use Rattle.lapd_clock_laws.proofs.Tests.{prompt, prompt_so}
use Rattle.lapd_side_recovery_laws.specs.Quiet.{ArePunctual, HaveLink, IsAtMostLate, IsQuiet, IsServed, LeavesLinkThere, OfEvent, Throughout}
use Rattle.lapd_side_recovery_laws.specs.Reached.{HasFreeLink, HaveFreeLinks}

abbrev pub Test : Type 0
Test = Side → SideEvent → Interface → Clock → Bool

abbrev pub passes : Configs → Test → List Move → Interface → Clock → Bool
passes c test [] i k = true
passes c test (move ∷ moves) i k = test move.side move.event i k
    && passes c test moves (happens c move i) (clock_after c move.side move.event i k)

pub throughout_so : (c : Configs) (P : OfEvent) (test : Test)
    → ((side : Side) (event : SideEvent) (i : Interface) (k : Clock)
    → test side event i k ≡ true → P side event i k)
    → (moves : List Move) (i : Interface) (k : Clock) → passes c test moves i k ≡ true
    → Throughout c P moves i k
throughout_so c P test sound [] i k h = tt
throughout_so c P test sound (move ∷ moves) i k h =
    let two = both_true (test move.side move.event i k)
    (passes c test moves (happens c move i) (clock_after c move.side move.event i k)) h in (
      sound move.side move.event i k two.0,
      throughout_so c P test sound moves (happens c move i)
          (clock_after c move.side move.event i k) two.1,
    )

-- ---- Timers.

abbrev is_by : ℕ → ℕ → Option ℕ → Bool
is_by late now None = true
is_by late now (Some deadline) = nat_le now (deadline + late)

abbrev is_punctual : ℕ → ℕ → Option Linked → Bool
is_punctual late now None = true
is_punctual late now (Some l) = is_by late now l.timers.t200
    && (is_by late now l.timers.t201 && (is_by late now l.timers.t202
    && is_by late now l.timers.t203))

by_so : (late now : ℕ) (o : Option ℕ) (deadline : ℕ) → is_by late now o ≡ true
    → o ≡ Some deadline → now ≤ deadline + late
by_so late now None deadline h is = cc
by_so late now (Some d) deadline h is =
    let same : d ≡ deadline = some_moment d deadline is in
    let le : now ≤ d + late = grind (arith, nat_tests, h) in
    omega (arith, le, same)
  where
    some_moment : (a b : ℕ) → Some a ≡ Some b → a ≡ b
    some_moment a b e = cc

link_punctual : (late now : ℕ) (l : Linked) (timer : Timer) (deadline : ℕ)
    → is_punctual late now (Some l) ≡ true → deadline_of timer l.timers ≡ Some deadline
    → now ≤ deadline + late
link_punctual late now l timer deadline h is =
    let one = both_true (is_by late now l.timers.t200) _ h in
    let two = both_true (is_by late now l.timers.t201) _ one.1 in
    let three = both_true (is_by late now l.timers.t202) (is_by late now l.timers.t203) two.1 in
    by timer one.0 two.0 three.0 three.1 is
  where
    by : (timer : Timer) → is_by late now l.timers.t200 ≡ true
        → is_by late now l.timers.t201 ≡ true → is_by late now l.timers.t202 ≡ true
        → is_by late now l.timers.t203 ≡ true → deadline_of timer l.timers ≡ Some deadline
        → now ≤ deadline + late
    by T200 a b d e is = by_so late now l.timers.t200 deadline a is
    by T201 a b d e is = by_so late now l.timers.t201 deadline b is
    by T202 a b d e is = by_so late now l.timers.t202 deadline d is
    by T203 a b d e is = by_so late now l.timers.t203 deadline e is

side_punctual : (late now : ℕ) (id : LinkId) (s : Served)
    → is_punctual late now (s.links id) ≡ true → IsAtMostLate late id now s
side_punctual late now id s h = λ l timer deadline there is.
    link_punctual late now l timer deadline
    (subst (λ (o : Option Linked). is_punctual late now o ≡ true) there h) is

abbrev pub are_punctual : ℕ → LinkId → ℕ → Interface → Bool
are_punctual late id now i = is_punctual late now (i.user.served.links id)
    && is_punctual late now (i.network.served.links id)

pub are_punctual_so : (late : ℕ) (id : LinkId) (now : ℕ) (i : Interface)
    → are_punctual late id now i ≡ true → ArePunctual late id now i
are_punctual_so late id now i h =
    let two = both_true (is_punctual late now (i.user.served.links id))
    (is_punctual late now (i.network.served.links id)) h in
    record {
      user = side_punctual late now id i.user.served two.0;
      network = side_punctual late now id i.network.served two.1;
    }

-- ---- One event.

-- octets are taken, or a timer expires
abbrev pub is_plain : SideEvent → Bool
is_plain (Take now) = true
is_plain (Expire timer of now) = true
is_plain event = false

pub plain_leaves : (c : Configs) (id : LinkId) (who : Side) (event : SideEvent) (i : Interface)
    → is_plain event ≡ true → LeavesLinkThere c id who event i
plain_leaves c id side.User (Take now) i h = tt
plain_leaves c id side.User (Expire timer of now) i h = tt
plain_leaves c id side.User (Lose at) i h = cc
plain_leaves c id side.User (Ask request now) i h = cc
plain_leaves c id side.User (Overhear octets now) i h = cc
plain_leaves c id side.Network (Take now) i h = tt
plain_leaves c id side.Network (Expire timer of now) i h = tt
plain_leaves c id side.Network (Lose at) i h = cc
plain_leaves c id side.Network (Ask request now) i h = cc
plain_leaves c id side.Network (Overhear octets now) i h = cc

-- plain, or excepted by this test
pub plain_unless : (c : Configs) (id : LinkId) (who : Side) (event : SideEvent) (i : Interface)
    (excepted : Bool) → (is_plain event || excepted) ≡ true → excepted ≡ false
    → LeavesLinkThere c id who event i
plain_unless c id who event i excepted h none =
    plain_leaves c id who event i (either (is_plain event) excepted h none)
  where
    either : (a b : Bool) → (a || b) ≡ true → b ≡ false → a ≡ true
    either true b h none = refl
    either false b h none = (let no : true ≡ false = sym h ∙ none in cc)

abbrev have_link : LinkId → Interface → Bool
have_link id i = is_some (i.user.served.links id) && is_some (i.network.served.links id)

have_link_so : (id : LinkId) (i : Interface) → have_link id i ≡ true → HaveLink id i
have_link_so id i h =
    let two = both_true (is_some (i.user.served.links id)) (is_some (i.network.served.links id)) h in
    record { user = two.0; network = two.1 }

-- the link stays, and its timers are expired in time
abbrev pub stays : Configs → ℕ → LinkId → Test
stays c late id side event i k = have_link id (side_does c side event i)
    && are_punctual late id (moment_of event k.now) i

pub stays_so : (c : Configs) (late : ℕ) (id : LinkId) (side : Side) (event : SideEvent)
    (i : Interface) (k : Clock) → stays c late id side event i k ≡ true
    → HaveLink id (side_does c side event i) × ArePunctual late id (moment_of event k.now) i
stays_so c late id side event i k h =
    let two = both_true (have_link id (side_does c side event i))
    (are_punctual late id (moment_of event k.now) i) h in (
      have_link_so id (side_does c side event i) two.0,
      are_punctual_so late id (moment_of event k.now) i two.1,
    )

abbrev pub is_quiet : Configs → ℕ → LinkId → Test
is_quiet c late id side event i k = is_plain event && stays c late id side event i k

pub is_quiet_so : (c : Configs) (late : ℕ) (id : LinkId) (side : Side) (event : SideEvent)
    (i : Interface) (k : Clock) → is_quiet c late id side event i k ≡ true
    → IsQuiet late c id side event i k
is_quiet_so c late id side event i k h =
    let two = both_true (is_plain event) (stays c late id side event i k) h in
    let both = stays_so c late id side event i k two.1 in
    record {
      leaves = plain_leaves c id side event i two.0;
      stays = both.0;
      punctual = both.1;
    }

-- ---- The last moment.

abbrev pub is_served : ℕ → ℕ → ℕ → LinkId → Interface → Clock → Bool
is_served longest late now id i k =
    prompt longest id side.User (Take now) i.user.served (user_clock k)
    && are_punctual late id now i

pub is_served_so : (longest late now : ℕ) (id : LinkId) (i : Interface) (k : Clock)
    → is_served longest late now id i k ≡ true → IsServed longest late now id i k
is_served_so longest late now id i k h =
    let two = both_true (prompt longest id side.User (Take now) i.user.served (user_clock k))
    (are_punctual late id now i) h in
    let soon = prompt_so longest id side.User (Take now) i.user.served (user_clock k) two.0 in
    record {
      to_user = soon.to_side;
      to_network = soon.from_side;
      punctual = are_punctual_so late id now i two.1;
    }

-- ---- The link at the start.

abbrev is_free : Option Linked → Bool
is_free None = false
is_free (Some l) = not (is_7_or_8 l.end.state) || not l.end.window.own_busy

free_so : (id : LinkId) (links : Links) (o : Option Linked) → links id ≡ o → is_free o ≡ true
    → HasFreeLink id links
free_so id links None is h = cc
free_so id links (Some l) is h = record {
  linked = l;
  there = is;
  free = λ opened. not_busy (is_7_or_8 l.end.state) l.end.window.own_busy h opened;
}
  where
    not_busy : (opened busy : Bool) → (not opened || not busy) ≡ true → opened ≡ true
        → busy ≡ false
    not_busy true false h is = refl
    not_busy true true h is = cc
    not_busy false busy h is = cc

abbrev pub are_free : LinkId → Interface → Bool
are_free id i = is_free (i.user.served.links id) && is_free (i.network.served.links id)

pub are_free_so : (id : LinkId) (i : Interface) → are_free id i ≡ true → HaveFreeLinks id i
are_free_so id i h =
    let two = both_true (is_free (i.user.served.links id)) (is_free (i.network.served.links id)) h in
    record {
      user = free_so id i.user.served.links (i.user.served.links id) refl two.0;
      network = free_so id i.network.served.links (i.network.served.links id) refl two.1;
    }

-- ---- The premises of a safe link that are not about the clock.

abbrev given_by : Configs → Side → SideEvent → Interface → List Primitive
given_by c side.User event i =
    (reaction (user_behaviour c.user) event (by_user i)).effects.primitives
given_by c side.Network event i =
    (reaction (network_behaviour c.network) event (by_network i)).effects.primitives

abbrev overhears_nothing : SideEvent → Bool
overhears_nothing (Overhear octets now) = false
overhears_nothing event = true

-- the TEI is not assigned, and nothing is overheard
abbrev pub is_usual : Configs → LinkId → Test
is_usual c id side event i k = overhears_nothing event
    && not (list_any (is_assignment id.tei) (given_by c side event i))

off : (b : Bool) → not b ≡ true → b ≡ false
off false h = refl
off true h = cc

leaves_taken : (c : Configs) (id : LinkId) (who : Side) (event : SideEvent) (i : Interface)
    → list_any (is_assignment id.tei) (given_by c who event i) ≡ false
    → IsMoveLeavingTeiTaken c id who event i
leaves_taken c id side.User event i none = λ removed. none
leaves_taken c id side.Network event i none = λ removed. none

others_so : (id : LinkId) (who : Side) (event : SideEvent) → overhears_nothing event ≡ true
    → OverhearsOthers id who event × OverhearsOctets event
others_so id who (Take now) h = (tt, tt)
others_so id who (Lose at) h = (tt, tt)
others_so id who (Expire timer of now) h = (tt, tt)
others_so id who (Ask request now) h = (tt, tt)
others_so id who (Overhear octets now) h = (let no : false ≡ true = h in cc)

pub record AreUsual (c : Configs) (id : LinkId) (moves : List Move) (i : Interface) : Type 0 where
  pub taken : LeaveTeiTaken c id moves i
  pub others : OverhearOthers id moves
  pub octets : OverhearOctets moves

pub usual_so : (c : Configs) (id : LinkId) (moves : List Move) (i : Interface) (k : Clock)
    → passes c (is_usual c id) moves i k ≡ true → AreUsual c id moves i
usual_so c id [] i k h = record { taken = tt; others = tt; octets = tt }
usual_so c id (move ∷ moves) i k h =
    let two = both_true (is_usual c id move.side move.event i k)
    (passes c (is_usual c id) moves (happens c move i)
    (clock_after c move.side move.event i k)) h in
    let one = both_true (overhears_nothing move.event)
    (not (list_any (is_assignment id.tei) (given_by c move.side move.event i))) two.0 in
    let heard = others_so id move.side move.event one.0 in
    let rest = usual_so c id moves (happens c move i) (clock_after c move.side move.event i k)
    two.1 in
    record {
      taken = (
        leaves_taken c id move.side move.event i
            (off (list_any (is_assignment id.tei) (given_by c move.side move.event i)) one.1),
        rest.taken,
      );
      others = (heard.0, rest.others);
      octets = (heard.1, rest.octets);
    }
