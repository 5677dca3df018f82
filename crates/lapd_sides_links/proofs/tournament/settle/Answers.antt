use Rattle.std.proofs.Common.{◌≡◌, ℕ, ◌+◌, ◌*◌, ◌/◌, ◌∙◌, Option, sym, subst, arith}
use Rattle.std.specs.Prelude.{None}
use Rattle.std.proofs.lemmas.List.{get_or-set_same, get_or-set_other}
use Rattle.lapd_sides_links.specs.declared.running_timer.RunningTimer.{RunningTimer}
use Rattle.lapd_sides_links.specs.Tournament.{entry, IsWonBut}
use Rattle.lapd_sides_links.specs.Places.{IsSooner}
use Rattle.lapd_sides_links.proofs.Tournaments.{won_anew, won_before, read_entry, sooner_of_pair}
use Rattle.lapd_sides_links.proofs.tournament.settle.Goals.{After-sooner_beside-first}
use Rattle.lapd_sides_links.proofs.tournament.settle.Goals as goal

won : (c : After-sooner_beside-first)
    → IsSooner (entry c.loop-at.nodes (2 * (c.loop-at.at / 2)))
    (entry c.loop-at.nodes (2 * (c.loop-at.at / 2) + 1)) c.sooner_beside-first.result
won c =
    sooner_of_pair c.loop-at.nodes c.loop-at.at c.loop-at.first c.index-nodes-beside.result
    c.sooner_beside-first.result c.loop-at.invariant.0.size
    c.loop-at.invariant.1.1.0 (omega (arith, c.loop-at-test.true)) c.loop-at.invariant.1.1.1.0
    c.index-nodes-beside.is
    (subst (λ (o : Option RunningTimer). IsSooner c.loop-at.first o c.sooner_beside-first.result)
    (sym c.index-nodes-beside.is) c.sooner_beside-first.ensures)

pub returns-then-is_same-clause-won : goal.returns-then-is_same-clause-won
returns-then-is_same-clause-won c =
    won_before c.loop-at.nodes (c.loop-at.at / 2) c.sooner_beside-first.result c.loop-at.invariant.0
    (won (goal.at.returns-then-is_same-clause-won c).After-sooner_beside-first)
    (read_entry c.loop-at.nodes (c.loop-at.at / 2) c.index-nodes-above.result
    (omega (arith, c.loop-at.invariant.0.size, c.loop-at.invariant.1.1.0))
    c.index-nodes-above.is
    ∙ (c.index-nodes-above.is ∙ c.is_same.ensures c.if-is_same.true))

pub loop-at-preserved : goal.loop-at-preserved
loop-at-preserved c = (
  won_anew c.loop-at.nodes (c.loop-at.at / 2) c.sooner_beside-first.result c.loop-at.invariant.0
      (omega (arith, c.loop-at-test.true)) (omega (arith, c.loop-at.invariant.1.1.0))
      (won (goal.at.loop-at-preserved c).After-sooner_beside-first),
  (
    omega (arith, c.loop-at-test.true),
    (
      omega (arith, c.loop-at.invariant.1.1.0),
      (
        get_or-set_same c.loop-at.nodes (c.loop-at.at / 2) c.sooner_beside-first.result None
            (omega (arith, c.loop-at.invariant.0.size, c.loop-at.invariant.1.1.0)),
        λ n low. get_or-set_other c.loop-at.nodes (c.loop-at.at / 2) n c.sooner_beside-first.result
            None (λ q. omega (arith, q, low, c.loop-at.invariant.1.1.0)) ∙
            c.loop-at.invariant.1.1.1.1 n low,
      ),
    ),
  ),
)

pub returns-clause-won : goal.returns-clause-won
returns-clause-won c =
    let top : c.loop-at.at / 2 ≡ 0 = omega (arith, c.loop-at-test.false) in
    subst (λ (n : ℕ). IsWonBut n c.loop-at.nodes) top c.loop-at.invariant.0
