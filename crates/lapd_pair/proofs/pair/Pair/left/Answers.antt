use Rattle.std.proofs.Common.{arith}
use Rattle.lapd_pair_laws.proofs.Settled.{left_settled}
use Rattle.lapd_pair.proofs.pair.Pair.left.Goals as goal

pub returns : goal.returns
returns c = λ w s.
    let user =
    c.waiting.ensures.history w.user.end.given w.user.history s.preserved.user.settled
    s.user.history in
    let network =
    c.waiting-2.ensures.history w.network.end.given w.network.history
    s.preserved.network.settled s.network.history in
    let left_user = left_settled w.user s.preserved.user.settled in
    let left_network = left_settled w.network s.preserved.network.settled in
    omega (arith, user, network, left_user, left_network)
