use Rattle.std.proofs.Common.{arith}
use Rattle.lapd_frame.specs.declared.Side.TheVariants.{User, Network}
use Rattle.lapd_pair.proofs.Recovering.{frames_on, left_waits}
use Rattle.lapd_pair.proofs.pair.Pair.most_recovery_moves.Goals as goal

pub returns-clause-bound : goal.returns-clause-bound
returns-clause-bound c = λ w s.
    let to_user =
    frames_on Network c.args.self.now.to_user c.frames.result.now w.to_user
    c.frames.ensures.octets s.to_user in
    let to_network =
    frames_on User c.args.self.now.to_network c.frames-2.result.now w.to_network
    c.frames-2.ensures.octets s.to_network in
    let all =
    left_waits c.args.self.now w c.waiting.result c.waiting-2.result s
    (c.waiting.ensures w.user.end s.user.link)
    (c.waiting-2.ensures w.network.end s.network.link) in
    omega (
      arith,
      all,
      to_user,
      to_network,
      c.from.ensures,
      c.from-2.ensures,
      c.from-3.ensures,
      c.most_retries.ensures.same w s,
    )
