use Rattle.std.proofs.Common.{◌∙◌}
use Rattle.lapd_pair.proofs.Fates.{acked_after, acked_count}
use Rattle.lapd_pair.proofs.log.Log.acknowledge_first.Goals as goal

pub returns-clause-history : goal.returns-clause-history
returns-clause-history c = λ messages h are is. let rest = c.end_first.ensures.rest in record {
  given = rw rest.given is.given;
  received = rw rest.received is.received;
  units = rw rest.units is.units;
  fates = acked_after c.args.self.now is are c.args.n _ c.requires c.end_first.ensures.fates;
  begun = rest.begun ∙ is.begun;
  acknowledged = rw rest.acknowledged (acked_count h c.args.n _ is.acknowledged);
  dropped = rest.dropped ∙ is.dropped;
}
