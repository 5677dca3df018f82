use Rattle.std.proofs.Common.{map, ap, rules, ◌∙◌}
use Rattle.std.specs.Vec.{with_items}
use Rattle.std.proofs.lemmas.List.{with_items_is}
use Rattle.lapd_timers.specs.Due.{with_durations}
use Rattle.lapd_sides_links.specs.TimersAtPlaces.{placed}
use Rattle.lapd_sides_links.proofs.DueTimers.{among_with_durations}
use Rattle.lapd_sides_links.proofs.timer_places.TimerPlaces.set_durations.Goals as goal

pub returns : goal.returns
unfolding placed
returns c = λ id.
    let call = c.args.self.now.call in
    let packet = c.args.self.now.packet in
    among_with_durations c.args.durations call.items packet.items
    (with_items call c.set_each.new.all).items (with_items packet c.set_each-2.new.all).items
    id.sapi id.tei
    (with_items_is call c.set_each.new.all (search rules)
    ∙ (c.set_each.ensures
    ∙ ap (map (with_durations c.args.durations)) c.as_mut_slice.ensures.value))
    (with_items_is packet c.set_each-2.new.all (search rules)
    ∙ (c.set_each-2.ensures
    ∙ ap (map (with_durations c.args.durations)) c.as_mut_slice-2.ensures.value))
