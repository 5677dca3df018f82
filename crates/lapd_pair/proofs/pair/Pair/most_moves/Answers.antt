use Rattle.std.proofs.Common.{arith}
use Rattle.lapd_pair.proofs.Settling.{bound_is}
use Rattle.lapd_pair.proofs.pair.Pair.most_moves.Goals as goal

pub returns : goal.returns
returns c = λ w s.
    let all =
    bound_is c.args.self.now w c.waiting.result c.waiting-2.result s
    (c.waiting.ensures w.user.end s.user.link)
    (c.waiting-2.ensures w.network.end s.network.link) in
    omega (arith, all, c.from.ensures, c.from-2.ensures)
