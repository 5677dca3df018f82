use Rattle.std.proofs.Common.{◌∙◌}
use Rattle.lapd_pair.proofs.Fates.{dropped_after, dropped_count}
use Rattle.lapd_pair.proofs.log.Log.drop_first.Goals as goal

pub returns-clause-history : goal.returns-clause-history
returns-clause-history c = λ messages h are is. let rest = c.end_first.ensures.rest in record {
  given = rw rest.given is.given;
  received = rw rest.received is.received;
  units = rw rest.units is.units;
  fates = dropped_after c.args.self.now is are c.args.n _ c.requires c.end_first.ensures.fates;
  begun = rest.begun ∙ is.begun;
  acknowledged = rest.acknowledged ∙ is.acknowledged;
  dropped = rw rest.dropped (dropped_count h c.args.n _ is.dropped);
}
