use Rattle.std.proofs.Common.{arith}
use Rattle.lapd_follow.proofs.Octets.{last_octets}
use Rattle.lapd_follow.proofs.unacknowledged.Unacknowledged.push.Goals as goal

pub returns : goal.returns
returns c =
    let octets =
    last_octets c.self.inside.frames.capacity c.self.inside.frames.items c.args.octets
    (λ m. m.items) in
    grind (arith)
