use Rattle.std.proofs.Common.{List, map, subst}
use Rattle.std.proofs.lemmas.List.{take_all}
use Rattle.lapd_sides_links.specs.declared.primitive.Primitive.{Primitive}
use Rattle.lapd_cli_live.specs.Entries.{Delivered}
use Rattle.lapd_cli_live.specs.Printers.{PrintsOn}
use Rattle.lapd_cli_live.proofs.Log.{prints_on_none, next_primitive}
use Rattle.lapd_cli_live.proofs.live_side.put_primitives.Goals as goal

pub loop-primitive-init : goal.loop-primitive-init
loop-primitive-init g c = λ own. prints_on_none _ own _

pub loop-primitive-preserved : goal.loop-primitive-preserved
loop-primitive-preserved g c = λ own.
    next_primitive own c.args.primitives.now c.loop-primitive.primitive-index
    c.primitive-item.result _ _ _ _ c.loop-primitive-test.true c.primitive-item.is
    (c.loop-primitive.invariant own) (c.in_ok-put_primitive.ensures own)

pub returns : goal.returns
returns g c = λ own.
    subst (λ (xs : List Primitive). PrintsOn g.W.Write.contents own (map Delivered xs)
    c.args.printer.now c.loop-primitive.printer)
    (take_all c.loop-primitive.primitive-index c.args.primitives.now c.loop-primitive-test.false)
    (c.loop-primitive.invariant own)
