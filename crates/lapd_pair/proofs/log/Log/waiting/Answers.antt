use Rattle.std.proofs.Common.{arith}
use Rattle.lapd_pair.proofs.Fates.{fates_len, settled_is}
use Rattle.lapd_pair.proofs.log.Log.waiting.Goals as goal

pub returns-clause-history : goal.returns-clause-history
returns-clause-history c =
    λ messages h are is. let n =
    fates_len is in let s =
    settled_is is are in omega (arith, c.len.ensures, c.settled.ensures.counted)
