use Rattle.std.proofs.Common.{rules}
use Rattle.lapd_sides_links.proofs.WrittenOver.{frame_pushed}
use Rattle.lapd_sides_links.proofs.acts.push_frame.Goals as goal

pub returns-clause-items : goal.returns-clause-items
returns-clause-items c =
    frame_pushed c.args.to.now.items c.push_reserved.new.self.items c.len-place.result c.new.result
    c.set.new.self c.args.frame.now c.as_slice.result.now
    (search rules) c.push_reserved.ensures.items c.set.ensures c.as_slice.ensures.value
