use Rattle.std.proofs.Common.{sym, ◌∙◌}
use Rattle.lapd_pair.specs.Moves.{move_of}
use Rattle.lapd_pair.proofs.Recovering.{next_as_settled, own_t203_of_user, own_t203_of_network, no_own_t203}
use Rattle.lapd_pair.proofs.pair.Pair.next_own_move.Goals as goal

pub returns-in-Some : goal.returns-in-Some
returns-in-Some c = λ w s. next_as_settled w (move_of c.in-Some.mv) (c.in-Some.ensures w s)

pub returns-then-running : goal.returns-then-running
returns-then-running c =
    λ w s. own_t203_of_user w (c.in_default.ensures w s)
    (sym (c.are_apart.ensures w s) ∙ c.if-not-are_apart.false)
    (sym (c.running.ensures w.user.end s.user.link) ∙ c.if-running.true)

pub returns-then-running-2 : goal.returns-then-running-2
returns-then-running-2 c =
    λ w s. own_t203_of_network w (c.in_default.ensures w s)
    (sym (c.are_apart.ensures w s) ∙ c.if-not-are_apart.false)
    (sym (c.running.ensures w.user.end s.user.link) ∙ c.if-running.false)
    (sym (c.running-2.ensures w.network.end s.network.link) ∙ c.if-running-2.true)

pub returns : goal.returns
returns c =
    λ w s. no_own_t203 w (c.in_default.ensures w s)
    (sym (c.are_apart.ensures w s) ∙ c.if-not-are_apart.false)
    (sym (c.running.ensures w.user.end s.user.link) ∙ c.if-running.false)
    (sym (c.running-2.ensures w.network.end s.network.link) ∙ c.if-running-2.false)
