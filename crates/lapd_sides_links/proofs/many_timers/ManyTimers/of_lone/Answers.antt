use Rattle.lapd_sides_links.proofs.LoneTimers.{moved}
use Rattle.lapd_sides_links.proofs.many_timers.ManyTimers.of_lone.Goals as goal

pub returns : goal.returns
returns c = moved c.args.lone.now c.in_ok-many.many c.make_room.new.self c.set.new.self
    c.id-id.result c.timers.result c.id-id.ensures.same c.timers.ensures c.in_ok-many.ensures
    c.make_room.ensures.kept c.in_ok-make_room.ensures.room c.set.ensures.own c.set.ensures.others
