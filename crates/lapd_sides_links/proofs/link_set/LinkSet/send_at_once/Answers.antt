use Rattle.std.proofs.Common.{refl, subst}
use Rattle.lapd_table.specs.declared.link_table.LinkTable.{LinkTable}
use Rattle.lapd_sides_links.specs.Shown.{LinksDo}
use Rattle.lapd_sides_links.proofs.Acting.{done_alone}
use Rattle.lapd_sides_links.proofs.GivenSteps.{do_as_given, gives}
use Rattle.lapd_sides_links.proofs.link_set.LinkSet.send_at_once.Goals as goal

pub returns-in-Ok-give_at_once : goal.returns-in-Ok-give_at_once
returns-in-Ok-give_at_once c =
    let message = c.in-Ok.message in
    let after = c.give_at_once.new.self in
    let acts = c.give_at_once.new.acts in
    record {
      message = message;
      items = c.in-Ok.ensures.octets;
      asks = done_alone c.args.self.now after c.args.acts.now acts _
          c.in-Ok-give_at_once.ensures.appended
          (do_as_given c.args.now c.in-Some.key.id c.args.id.now c.in-Some.ensures.found.0
          message message refl c.args.self.now after c.args.acts.now acts
          (subst (λ (t : LinkTable). LinksDo (record c.args.self.now { table = t }) after
          c.args.acts.now acts (gives c.args.now c.in-Some.key.id message))
          c.in-Ok.ensures.unchanged c.in-Ok-give_at_once.ensures.ok));
    }
