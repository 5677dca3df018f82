-- The reports among the outputs of a pair's moves.
use Rattle.std.proofs.Common.{◌≡◌, List, [], ◌∷◌, ◌++◌, Result, Ok, Err, IfOk, subst}
use Rattle.std.proofs.lemmas.Grind.{not_there}
use Rattle.arrayvec.specs.ArrayVec.{ArrayVec}
use Rattle.lapd_pair_laws.specs.Reports.{ReportsExpected, AllReportsExpected}
use Rattle.lapd_pair_laws.proofs.Reached.{every_run_reports}
use Rattle.lapd_mod128.specs.Counting.{Tagged}
use Rattle.lapd_link_definition.specs.Reports.{IsExpected, IsExpectedOut, AreExpected}
use Rattle.lapd_link_definition.specs.declared.out.Letter.{Letter}
use Rattle.lapd_link_definition.specs.declared.out.Letter.TheVariants as letter
use Rattle.lapd_link_definition.specs.declared.out.Out.{Out}
use Rattle.lapd_link_definition.specs.declared.out.Out.TheVariants.{Report}
use Rattle.lapd_pair_laws.specs.Move.{Move, Refusal}
use Rattle.lapd_pair_laws.specs.World.{World, Happened, new_world, world_after, happens, run, outcomes}
use Rattle.lapd_pair.specs.Pair.{IsReached}
use Rattle.lapd_pair.specs.Runs.{PairRepresents, HasHappened}
use Rattle.lapd_pair.specs.declared.pair.Pair.{Pair}
use Rattle.lapd_pair.specs.declared.pair_fault.PairFault.{PairFault}

-- ---- The letter of a report decides whether it is expected.

letter_seen : (l : Letter) → ¬ (¬ (IsExpected l)) → IsExpected l
letter_seen letter.F h = tt
letter_seen letter.G h = tt
letter_seen letter.H h = tt
letter_seen letter.I h = tt
letter_seen other h = h (λ none. none)

out_seen : (out : Out) → ¬ (¬ (IsExpectedOut out)) → IsExpectedOut out
out_seen (Report l) h = letter_seen l h
out_seen out h = tt

outs_seen : (outs : List Out) → ¬ (¬ (AreExpected outs)) → AreExpected outs
outs_seen [] h = tt
outs_seen (out ∷ outs) h = (
  out_seen out (λ none. h (λ both. none both.0)),
  outs_seen outs (λ none. h (λ both. none both.1)),
)

-- ---- The last move of a list.

last_reports : (moves : List Move) (move : Move) (w : World)
    → AllReportsExpected (outcomes Tagged (moves ++ move ∷ []) w)
    → ReportsExpected (happens Tagged move (run Tagged moves w))
last_reports [] move w all = all.0
last_reports (first ∷ moves) move w all =
    last_reports moves move (world_after w (happens Tagged first w)) all.1

pub reports_more : (moves : List Move) (move : Move) (w : World)
    → AllReportsExpected (outcomes Tagged moves w)
    → ReportsExpected (happens Tagged move (run Tagged moves w))
    → AllReportsExpected (outcomes Tagged (moves ++ move ∷ []) w)
reports_more [] move w all last = (last, tt)
reports_more (first ∷ moves) move w all last =
    (all.0, reports_more moves move (world_after w (happens Tagged first w)) all.1 last)

-- ---- A move of a pair.

pub admitted_reports : (outcome : Result Happened Refusal) (happened : Happened) (outs : List Out)
    → outcome ≡ Ok happened → happened.outs ≡ outs → AreExpected outs → ReportsExpected outcome
admitted_reports outcome happened outs is same expected = rw (is, same) expected

pub outs_of_admitted : (outcome : Result Happened Refusal) (happened : Happened) (outs : List Out)
    → outcome ≡ Ok happened → happened.outs ≡ outs → ReportsExpected outcome → AreExpected outs
outs_of_admitted outcome happened outs is same expected =
    subst AreExpected same (subst ReportsExpected is expected)

reached_reports : (p q : Pair) (move : Move) (outs : List Out)
    → ((w : World) → PairRepresents p w → HasHappened q (happens Tagged move w) outs)
    → IsReached p.user p.network p.to_user p.to_network → AreExpected outs
reached_reports p q move outs happened x =
    let start = new_world x.user x.network in
    let h = happened (run Tagged x.moves start) x.represent in
    outs_of_admitted (happens Tagged move (run Tagged x.moves start)) h.happened outs h.is h.same
    (last_reports x.moves move start (every_run_reports Tagged x.user x.network x.few_of_user
    x.few_of_network (x.moves ++ move ∷ [])))

-- the outputs of an admitted move contain only expected reports
pub move_reports : (p q : Pair) (move : Move) (result : Result (ArrayVec Out) PairFault)
    → IfOk result (λ outs. (w : World) → PairRepresents p w → HasHappened q (happens Tagged move w)
    outs.items) → IfOk result (λ outs. AreExpected outs.items)
move_reports p q move (Ok outs) happened =
    outs_seen outs.items
    (λ none. not_there p.reached (λ x. none (reached_reports p q move outs.items happened x)))
move_reports p q move (Err fault) happened = tt
