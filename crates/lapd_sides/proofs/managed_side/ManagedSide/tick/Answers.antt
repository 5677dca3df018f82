use Rattle.std.proofs.Common.{subst}
use Rattle.lapd_sides_links.specs.Effects.{stopped}
use Rattle.lapd_sides_links.specs.Links.{Served}
use Rattle.lapd_sides.specs.declared.links_and_timer.Expired.{Expired}
use Rattle.lapd_sides.specs.Shows.{HaveExpired}
use Rattle.lapd_sides.specs.SideState.{expires}
use Rattle.lapd_sides.proofs.Calling.{expired_so}
use Rattle.lapd_sides.proofs.Steps.{link_expired, reserved}
use Rattle.lapd_sides.proofs.managed_side.ManagedSide.tick.Goals as goal

pub returns-in-Nothing-clause-none : goal.returns-in-Nothing-clause-none
returns-in-Nothing-clause-none g c = λ is config s shown.
    let side = g.M.Represented.rules.side in
    let h = subst (λ (o : Expired). HaveExpired side o c.expire_first.new.self
    c.expire_first.new.acts c.args.now s.served) c.in-Nothing.is
    (c.expire_first.ensures.expired side s.served shown.served) in (
      h.due,
      reserved g.M.Represented.represents side c.args.self.now c.expire_first.new.self config
          s s.served shown c.expire_first.ensures.discarded h.shown,
    )

pub returns-in-Link-clause-due : goal.returns-in-Link-clause-due
unfolding expires
returns-in-Link-clause-due g c = λ is config s shown.
    let side = g.M.Represented.rules.side in
    let h = subst (λ (o : Expired). HaveExpired side o c.expire_first.new.self
    c.expire_first.new.acts c.args.now s.served) c.in-Link.is
    (c.expire_first.ensures.expired side s.served shown.served) in
    link_expired g.M.Represented.represents g.M.Represented.rules c.args.self.now
    c.expire_first.new.self config s c.expire_first.new.acts c.args.now shown
    c.expire_first.ensures.discarded h

pub returns-in-Management-clause-due : goal.returns-in-Management-clause-due
unfolding expires
returns-in-Management-clause-due g c = λ is config s shown.
    let side = g.M.Represented.rules.side in
    let h = subst (λ (o : Expired). HaveExpired side o c.expire_first.new.self
    c.expire_first.new.acts c.args.now s.served) c.in-Management.is
    (c.expire_first.ensures.expired side s.served shown.served) in
    let own : Served = record {
      links = s.served.links;
      timers = stopped h.expiry.timer s.served.timers;
    } in
    expired_so _ config c.expire_timer.new.acts c.args.now s h.expiry _ h.due h.of
    (c.expire_timer.ensures config (record s { served = own })
    (reserved g.M.Represented.represents side c.args.self.now c.expire_first.new.self config s own
    shown c.expire_first.ensures.discarded h.shown))
