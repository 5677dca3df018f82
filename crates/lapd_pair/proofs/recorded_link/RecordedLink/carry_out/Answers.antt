use Rattle.std.proofs.Common.{◌≡◌, ◌+◌, List, ◌∷◌, drop, length, sym, ap, ◌∙◌, subst, arith}
use Rattle.std.proofs.lemmas.List.{drop_more}
use Rattle.lapd_link_definition.specs.declared.out.Out.{Out}
use Rattle.lapd_pair.proofs.Recording.{AreRecordedUpTo, one_recorded}
use Rattle.lapd_pair.proofs.recorded_link.RecordedLink.carry_out.Goals as goal

pub loop-out-preserved : goal.loop-out-preserved
loop-out-preserved c =
    let outs = c.args.outs.now in
    let at = c.loop-out.out-index in
    let out = c.out-item.result in
    let rest = drop (at + 1) outs in
    let split : drop at outs ≡ out ∷ rest =
    drop_more outs at out c.loop-out-test.true
    ∙ ap (λ (x : Out). x ∷ rest) (sym c.out-item.is) in
    let far =
    subst (λ (left : List Out). AreRecordedUpTo outs c.args.octets.now c.args.self.now
    c.args.outward.now c.args.copy.now left c.loop-out.self c.loop-out.outward
    c.loop-out.copy) split c.loop-out.invariant in
    one_recorded outs c.args.octets.now c.args.self.now c.args.outward.now c.args.copy.now out rest
    c.loop-out.self c.write_down.new.self c.loop-out.outward c.put_sent.new.outward
    c.loop-out.copy c.write_down.new.copy
    c.put_sent.ensures.shows c.write_down.ensures.shows c.write_down.ensures.copied
    c.write_down.ensures.link
    (c.put_sent.ensures.room (length rest) (omega (arith, far.line_room)))
    c.write_down.ensures.room far
