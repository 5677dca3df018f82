use Rattle.std.proofs.Common.{◌∙◌, is_ok}
use Rattle.lapd_pair.proofs.Numbered.{begins_where}
use Rattle.lapd_pair.proofs.log.Log.begin.Goals as goal

pub invariant_of-self-clause-numbered : goal.invariant_of-self-clause-numbered
invariant_of-self-clause-numbered c =
    let h = c.args.self.now in
    begins_where (is_ok c.push.result) h.received.items h.begun.items c.push.new.self.items
    c.len-before.result c.push.ensures.items (c.len-before.ensures ∙ h.received.ok.0) h.numbered
