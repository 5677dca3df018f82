use Rattle.std.proofs.Common.{◌≡◌, false, None, Some, is_err, refl, sym, subst, ◌∙◌}
use Rattle.lapd_timers.specs.Due.{all_stopped}
use Rattle.lapd_link.specs.Link.{Setup}
use Rattle.lapd_table.specs.LinkId.{id_of_setup}
use Rattle.lapd_table.specs.LinkTable.{Changes, link_at}
use Rattle.lapd_sides_links.specs.declared.link_set.LinkSet.{LinkSet}
use Rattle.lapd_sides_links.proofs.Arrivals.{no_error, is_absent, new_there, room_made}
use Rattle.lapd_sides_links.proofs.LoneTimers.{set_in_place, slot_of}
use Rattle.lapd_sides_links.proofs.link_set.LinkSet.add.Goals as goal

pub make_room-requires : goal.make_room-requires
make_room-requires c = slot_of c.args.id.now c.requires.sapi c.requires.tei

pub returns-clause-ok : goal.returns-clause-ok
returns-clause-ok c = λ side links shown.
    let old = c.args.self.now in
    let id = c.args.id.now in
    let roomy : LinkSet = record old { link_timers = c.make_room.new.self } in
    let is_ok : is_err c.add.result ≡ false = sym c.is_err.ensures.value ∙ c.if-is_err.false in
    let made = c.in_ok-link.ensures.setup in
    let absent = subst (λ (setup : Setup). link_at old.table (id_of_setup setup) ≡ None) made
    (no_error c.add.result _ is_ok c.add.ensures.new) in
    let link = c.in_ok-link.link in
    let changes =
    subst (λ (setup : Setup). Changes old.table c.add.new.self (id_of_setup setup) (Some link))
    made (no_error c.add.result _ is_ok c.add.ensures.ok) in
    let stopped = all_stopped c.args.durations in
    let own = set_in_place _ _ stopped c.in_ok-make_room.ensures.room c.reset.ensures.own in
    let room = room_made side old roomy links refl c.make_room.ensures.kept shown in
    new_there side roomy links id room _ link c.args.params c.args.durations
    (is_absent side old links id shown absent) c.in_ok-link.ensures.end changes
    (record { own = own; others = c.reset.ensures.others })
