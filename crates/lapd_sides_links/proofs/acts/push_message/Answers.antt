use Rattle.std.proofs.Common.{rules}
use Rattle.lapd_sides_links.proofs.WrittenOver.{primitive_pushed}
use Rattle.lapd_sides_links.proofs.acts.push_message.Goals as goal

pub returns-clause-items : goal.returns-clause-items
returns-clause-items c =
    primitive_pushed c.args.to.now.items c.push_reserved.new.self.items c.len-place.result _
    c.copy_up.new.primitive _
    (search rules) c.push_reserved.ensures.items c.copy_up.ensures
