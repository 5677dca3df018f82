use Rattle.std.proofs.Common.{Option, inr, subst, sym, ◌∙◌}
use Rattle.lapd_table.specs.declared.link_id.LinkId.{LinkId}
use Rattle.lapd_sides.specs.declared.request.Request.TheVariants.{Unit}
use Rattle.lapd_sides.specs.Either.{Answers}
use Rattle.lapd_c.specs.ThroughHandle.{AsksLinkWith}
use Rattle.lapd_c.proofs.lapd_side_unit.Goals as goal

pub returns-in-Ok : goal.returns-in-Ok
returns-in-Ok c =
    subst (λ (o : Option LinkId). AsksLinkWith (λ id message. Answers (Unit id message) c.args.now)
    c.args.octets.now c.ask.result c.args.handle.now.held c.ask.new.handle.held o)
    (sym (sym c.link_of.ensures ∙ c.in-Some.is))
    (inr (record {
      message = c.in-Ok.message;
      items = c.in-Ok.ensures.items;
      asks = c.ask.ensures;
    }))
