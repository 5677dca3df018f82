use Rattle.std.proofs.Common.{arith}
use Rattle.lapd_pair.proofs.Fates.{sent_after, unsent_after}
use Rattle.lapd_pair.proofs.log.Log.send.Goals as goal

pub returns-then-place-waiting-clause-history : goal.returns-then-place-waiting-clause-history
returns-then-place-waiting-clause-history c = λ messages h establishment begun are is. record {
  given = is.given;
  received = is.received;
  units = is.units;
  fates =
      unsent_after c.args.self.now is are c.args.place c.waiting.result establishment
      c.waiting.ensures.counted (omega arith);
  begun = is.begun;
  acknowledged = is.acknowledged;
  dropped = is.dropped;
}

pub returns-clause-history : goal.returns-clause-history
returns-clause-history c = λ messages h establishment begun are is. record {
  given = is.given;
  received = is.received;
  units = is.units;
  fates =
      sent_after c.args.self.now is are c.args.place c.waiting.result
      c.establishment-establishment.result _ establishment c.index_mut.result.now
      c.waiting.ensures.counted (omega arith) (omega (arith, c.settled.ensures.counted)) begun
      c.establishment-establishment.ensures c.index_mut.ensures.value;
  begun = is.begun;
  acknowledged = is.acknowledged;
  dropped = is.dropped;
}
