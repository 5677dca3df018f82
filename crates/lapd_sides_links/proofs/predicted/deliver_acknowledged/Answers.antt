use Rattle.std.proofs.Common.{◌++◌, nat_lt, List, sym, ap, ◌∙◌}
use Rattle.lapd_sides_links.specs.declared.primitive.Primitive.{Primitive}
use Rattle.lapd_sides_links.proofs.PredictedSteps.{delivered_of_all, delivered_of_part}
use Rattle.lapd_sides_links.proofs.predicted.deliver_acknowledged.Goals as goal

pub returns-in-All-clause-primitives : goal.returns-in-All-clause-primitives
returns-in-All-clause-primitives c =
    rw c.in-All.is (λ octets. c.deliver_count.ensures.primitives octets ∙ ap
    (λ (l : List Primitive). c.args.acts.now.primitives ++ l)
    (sym (delivered_of_all c.args.id.now octets (nat_lt 0 c.in-All.count) _ c.in-All.count)))

pub returns-in-Part-clause-primitives : goal.returns-in-Part-clause-primitives
returns-in-Part-clause-primitives c =
    rw c.in-Part.is (λ octets. c.deliver_count-in-Part.ensures.primitives octets ∙ ap
    (λ (l : List Primitive). c.args.acts.now.primitives ++ l)
    (sym (delivered_of_part c.args.id.now octets (nat_lt 0 c.in-Part.count) c.in-Part.count)))
