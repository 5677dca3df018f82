-- The world that a pair represents after a run.
use Rattle.std.proofs.Common.{◌≡◌, ◌≤◌, ◌<◌, ◌+◌, ℕ, true, false, List, [], ◌∷◌, ◌++◌, length, take, drop, get_or, Some, Result, Ok, is_ok, refl, sym, ap, ◌∙◌, subst, arith}
use Rattle.std.proofs.lemmas.List.{drop_more, take_more}
use Rattle.std.proofs.lemmas.Option.{slice_get-get_or}
use Rattle.lapd_pair_laws.specs.Reports.{ReportsExpected, AllReportsExpected}
use Rattle.lapd_mod128.specs.Counting.{Tagged}
use Rattle.lapd_link_definition.specs.Reports.{AreExpected}
use Rattle.lapd_link_definition.specs.declared.out.Out.{Out}
use Rattle.lapd_pair_laws.specs.Move.{Move, Refusal}
use Rattle.lapd_pair_laws.specs.World.{World, Happened, happens, world_after, run, outcomes}
use Rattle.lapd_pair.specs.declared.pair.Pair.{Pair}
use Rattle.lapd_pair.specs.declared.pair_fault.PairFault.{PairFault}
use Rattle.lapd_pair.specs.declared.pair_fault.PairFault.TheVariants as fault
use Rattle.lapd_pair.specs.Moves.{IsRefusedAs}
use Rattle.lapd_pair.specs.PairFault.{is_memory}
use Rattle.lapd_pair.specs.Runs.{PairRepresents, HasHappened, HasStoppedAt, refused_of, refusals}
use Rattle.lapd_pair.proofs.Pairs.{run_more, after_did}
use Rattle.lapd_pair.proofs.Reported.{reports_more, admitted_reports}

-- the first `at` moves are made, and `refused` of them were refused
pub record AreDone (before : Pair) (moves : List Move) (at refused : ℕ) (now : Pair) : Type 0 where
  pub representation : (w : World) → PairRepresents before w
      → PairRepresents now (run Tagged (take at moves) w)
  pub counted : (w : World) → PairRepresents before w
      → refused + refusals (drop at moves) (run Tagged (take at moves) w) ≡ refusals moves w
  pub few : refused ≤ at
  pub reports : (w : World) → PairRepresents before w
      → AllReportsExpected (outcomes Tagged (take at moves) w)

-- one more move leads to the world after that move
next : (moves : List Move) (at : ℕ) (m : Move) (w : World)
    → take (at + 1) moves ≡ take at moves ++ m ∷ []
    → run Tagged (take (at + 1) moves) w
    ≡ world_after (run Tagged (take at moves) w)
    (happens Tagged m (run Tagged (take at moves) w))
next moves at m w split =
    ap (λ (ms : List Move). run Tagged ms w) split ∙ run_more (take at moves) m w

next_reports : (moves : List Move) (at : ℕ) (m : Move) (w : World)
    → take (at + 1) moves ≡ take at moves ++ m ∷ []
    → AllReportsExpected (outcomes Tagged (take at moves) w)
    → ReportsExpected (happens Tagged m (run Tagged (take at moves) w))
    → AllReportsExpected (outcomes Tagged (take (at + 1) moves) w)
next_reports moves at m w split all last =
    subst (λ (ms : List Move). AllReportsExpected (outcomes Tagged ms w)) (sym split)
    (reports_more (take at moves) m w all last)

refused_more : (moves rest : List Move) (at : ℕ) (m : Move) (u : World) → drop at moves ≡ m ∷ rest
    → refusals (drop at moves) u ≡ refused_of (happens Tagged m u)
    + refusals rest (world_after u (happens Tagged m u))
refused_more moves rest at m u split = ap (λ (ms : List Move). refusals ms u) split

admitted_one : (outcome : Result Happened Refusal) (happened : Happened) → outcome ≡ Ok happened
    → refused_of outcome ≡ 0
admitted_one outcome happened is = rw is refl

pub one_done : (before now after : Pair) (moves : List Move) (at refused : ℕ) (m : Move)
    (outs : List Out) → at < length moves → get_or moves at m ≡ m
    → ((w : World) → PairRepresents now w → HasHappened after (happens Tagged m w) outs)
    → AreExpected outs
    → AreDone before moves at refused now → AreDone before moves (at + 1) refused after
one_done before now after moves at refused m outs within is happened expected done =
    let left = drop_more moves at m within ∙ ap (λ (x : Move). x ∷ drop (at + 1) moves) is in
    let gone = take_more moves at m within ∙ ap (λ (x : Move). take at moves ++ x ∷ []) is in
    record {
      representation = λ w s.
          let u = run Tagged (take at moves) w in
          let h = happened u (done.representation w s) in
          subst (PairRepresents after)
          (after_did u (happens Tagged m u) h.happened h.is ∙ sym (next moves at m w gone))
          h.representation;
      counted = λ w s.
          let u = run Tagged (take at moves) w in
          let h = happened u (done.representation w s) in
          let more = refused_more moves (drop (at + 1) moves) at m u left in
          let none = admitted_one (happens Tagged m u) h.happened h.is in
          let before_it = done.counted w s in
          rw (next moves at m w gone) (omega (arith, more, none, before_it));
      few = omega (arith, done.few);
      reports = λ w s.
          let u = run Tagged (take at moves) w in
          let h = happened u (done.representation w s) in
          next_reports moves at m w gone (done.reports w s)
          (admitted_reports (happens Tagged m u) h.happened outs h.is h.same expected);
    }

-- a refused move changes nothing, and is counted
refused_is : (why : PairFault) (u : World) (outcome : Result Happened Refusal)
    → is_memory why ≡ false → IsRefusedAs why outcome
    → (refused_of outcome ≡ 1) × (world_after u outcome ≡ u)
refused_is fault.Memory u outcome skipped is = cc
refused_is fault.NothingThere u outcome skipped is = rw is (refl, refl)
refused_is fault.NotRunning u outcome skipped is = rw is (refl, refl)
refused_is (fault.NotYet side at) u outcome skipped is = rw is (refl, refl)
refused_is (fault.Refused why) u outcome skipped is = rw is (refl, refl)

refused_reports : (why : PairFault) (outcome : Result Happened Refusal) → is_memory why ≡ false
    → IsRefusedAs why outcome → ReportsExpected outcome
refused_reports fault.Memory outcome skipped is = cc
refused_reports fault.NothingThere outcome skipped is = rw is tt
refused_reports fault.NotRunning outcome skipped is = rw is tt
refused_reports (fault.NotYet side at) outcome skipped is = rw is tt
refused_reports (fault.Refused why) outcome skipped is = rw is tt

admitted_is : (why : PairFault) (outcome : Result Happened Refusal) → is_memory why ≡ true
    → IsRefusedAs why outcome → is_ok outcome ≡ true
admitted_is fault.Memory outcome memory is = is
admitted_is fault.NothingThere outcome memory is = cc
admitted_is fault.NotRunning outcome memory is = cc
admitted_is (fault.NotYet side at) outcome memory is = cc
admitted_is (fault.Refused why) outcome memory is = cc

pub one_skipped : (before now after : Pair) (moves : List Move) (at refused : ℕ) (m : Move)
    (why : PairFault) → at < length moves → get_or moves at m ≡ m → is_memory why ≡ false
    → ((w : World) → PairRepresents now w → IsRefusedAs why (happens Tagged m w))
    → ((w : World) → PairRepresents now w → PairRepresents after w)
    → AreDone before moves at refused now → AreDone before moves (at + 1) (refused + 1) after
one_skipped before now after moves at refused m why within is skipped refuses same done =
    let left = drop_more moves at m within ∙ ap (λ (x : Move). x ∷ drop (at + 1) moves) is in
    let gone = take_more moves at m within ∙ ap (λ (x : Move). take at moves ++ x ∷ []) is in
    record {
      representation = λ w s.
          let u = run Tagged (take at moves) w in
          let it =
          refused_is why u (happens Tagged m u) skipped
          (refuses u (done.representation w s)) in
          subst (PairRepresents after) (sym (next moves at m w gone ∙ it.1))
          (same u (done.representation w s));
      counted = λ w s.
          let u = run Tagged (take at moves) w in
          let it =
          refused_is why u (happens Tagged m u) skipped
          (refuses u (done.representation w s)) in
          let more = refused_more moves (drop (at + 1) moves) at m u left in
          let one = it.0 in
          let before_it = done.counted w s in
          rw (next moves at m w gone) (omega (arith, more, one, before_it));
      few = omega (arith, done.few);
      reports = λ w s.
          let u = run Tagged (take at moves) w in
          next_reports moves at m w gone (done.reports w s)
          (refused_reports why (happens Tagged m u) skipped
          (refuses u (done.representation w s)));
    }

pub stopped : (before now after : Pair) (moves : List Move) (at refused : ℕ) (m : Move)
    (why : PairFault) → at < length moves → get_or moves at m ≡ m → is_memory why ≡ true
    → ((w : World) → PairRepresents now w → IsRefusedAs why (happens Tagged m w))
    → ((w : World) → PairRepresents now w → PairRepresents after w)
    → AreDone before moves at refused now
    → (w : World) → PairRepresents before w → HasStoppedAt at moves after w
stopped before now after moves at refused m why within is memory admitted same done w s = record {
  move = m;
  there = slice_get-get_or moves at m within ∙ ap (λ (x : Move). Some x) is;
  before = same (run Tagged (take at moves) w) (done.representation w s);
  admitted =
      admitted_is why (happens Tagged m (run Tagged (take at moves) w)) memory
      (admitted (run Tagged (take at moves) w) (done.representation w s));
}

take_all : (moves : List Move) → take (length moves) moves ≡ moves
take_all [] = refl
take_all (m ∷ moves) = ap (λ (ms : List Move). m ∷ ms) (take_all moves)

drop_all : (moves : List Move) → drop (length moves) moves ≡ []
drop_all [] = refl
drop_all (m ∷ moves) = drop_all moves

pub all_done : (before now : Pair) (moves : List Move) (at refused : ℕ) → at ≡ length moves
    → AreDone before moves at refused now → (w : World) → PairRepresents before w
    → PairRepresents now (run Tagged moves w) × (refused ≡ refusals moves w)
all_done before now moves at refused end done w s =
    let all : take at moves ≡ moves = rw end (take_all moves) in
    let none : drop at moves ≡ [] = rw end (drop_all moves) in
    let count = done.counted w s in
    let left : refusals (drop at moves) (run Tagged (take at moves) w) ≡ 0 =
    ap (λ (ms : List Move). refusals ms (run Tagged (take at moves) w)) none in (
      subst (λ (ms : List Move). PairRepresents now (run Tagged ms w)) all
          (done.representation w s),
      omega (arith, count, left),
    )

pub all_reported : (before now : Pair) (moves : List Move) (at refused : ℕ) → at ≡ length moves
    → AreDone before moves at refused now → (w : World) → PairRepresents before w
    → AllReportsExpected (outcomes Tagged moves w)
all_reported before now moves at refused end done w s =
    let all : take at moves ≡ moves = rw end (take_all moves) in
    subst (λ (ms : List Move). AllReportsExpected (outcomes Tagged ms w)) all (done.reports w s)
