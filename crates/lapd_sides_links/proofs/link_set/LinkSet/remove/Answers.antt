use Rattle.std.proofs.Common.{None}
use Rattle.lapd_sides_links.proofs.Acting.{put_in_place, none_linked}
use Rattle.lapd_sides_links.proofs.link_set.LinkSet.remove.Goals as goal

pub returns : goal.returns
returns c = λ side links shown.
    let changes = c.remove-link.ensures.changes in
    put_in_place side c.args.self.now _ links c.args.id.now None changes.side
    (none_linked _ _ changes.there c.stop_all.ensures.own) changes.others c.stop_all.ensures.others
    shown
