use Rattle.std.proofs.Common.{◌∙◌, arith}
use Rattle.std.proofs.lemmas.Grind.{common_steps}
use Rattle.lapd_pair.proofs.Fates.{given_after}
use Rattle.lapd_pair.proofs.log.Log.give.Goals as goal

pub returns-clause-history : goal.returns-clause-history
returns-clause-history c = λ messages h are unsent is. record {
  given = grind (arith, common_steps, c.in-Ok.ensures.items, is.given);
  received = is.received;
  units = is.units;
  fates =
      c.in-Ok-push.ensures.items ∙ given_after c.args.self.now is are unsent c.args.message.items;
  begun = is.begun;
  acknowledged = is.acknowledged;
  dropped = is.dropped;
}
