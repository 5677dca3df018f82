use Rattle.std.proofs.Common.{refl, sym, ap, ◌∙◌}
use Rattle.lapd_sides.proofs.Calling.{sends_so, unsent_by}
use Rattle.lapd_sides.proofs.Steps.{relinked, sends_none_by, sent}
use Rattle.lapd_sides.proofs.managed_side.ManagedSide.send_at_once.Goals as goal

pub returns-in-Some : goal.returns-in-Some
returns-in-Some g c =
    let old = c.args.self.now in
    let links = c.send_at_once.new.self in
    let side = g.M.Represented.rules.side in
    sends_so c.args.octets.now c.args.acts.now c.send_at_once.new.acts _ _ _ _ _ _
    c.send_at_once.result
    (λ message given does. sent g.M.Represented.represents g.M.Represented.rules
    g.met.M.Management.gives_to_meant old links c.args.id.now c.in-Some.own message c.args.now
    given (λ m shown. sym (c.link_of_call.ensures m shown) ∙ c.in-Some.is) does)
    (λ none config s shown. sends_none_by _ c.in-Some.own c.args.octets.now s.served.links
    (sym (c.link_of_call.ensures s.management shown.management) ∙ c.in-Some.is)
    (none side s.served.links shown.served.links))
    (λ same. (ap (relinked old) same.0, same.1)) c.send_at_once.ensures

pub returns-in-None : goal.returns-in-None
returns-in-None g c = unsent_by c.args.octets.now _ _ _ c.unsent.result
    (λ config s shown. rw (sym (c.link_of_call.ensures s.management shown.management) ∙
    c.in-None.is) refl)
    (refl, refl) c.unsent.ensures
