use Rattle.std.proofs.Common.{◌∙◌, is_ok}
use Rattle.lapd_pair.proofs.Numbered.{receives_where}
use Rattle.lapd_pair.proofs.log.Log.receive.Goals as goal

pub invariant_of-self-clause-numbered : goal.invariant_of-self-clause-numbered
invariant_of-self-clause-numbered c =
    let h = c.args.self.now in
    receives_where (is_ok c.push.result) h.received.items c.push.new.self.items h.begun.items _
    c.push.ensures.items (c.establishment-establishment.ensures ∙ h.begun.ok.0) h.numbered
