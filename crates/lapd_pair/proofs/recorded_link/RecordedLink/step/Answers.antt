use Rattle.std.proofs.Common.{◌≡◌, sym, subst}
use Rattle.lapd_link.specs.declared.link.Link.{Link}
use Rattle.lapd_link.specs.Link.{setup_of, Steps}
use Rattle.lapd_link_definition.specs.Input.{input_of}
use Rattle.lapd_pair.proofs.Steps.{step_acted, records_of, no_message}
use Rattle.lapd_pair.proofs.recorded_link.RecordedLink.step.Goals as goal

pub returns-in-Ok-clause-ok : goal.returns-in-Ok-clause-ok
returns-in-Ok-clause-ok c = λ side place v preserved shown on few input_octets.
    let before = c.args.self.now in
    let now = c.note_beginning.new.self in
    let input = input_of c.args.event in
    let steps =
    subst (λ (link : Link). Steps before.link link input c.handle_into.new.outs.items)
    (sym c.note_beginning.ensures.link) c.in-Ok.ensures.ok in
    let setup =
    subst (λ (link : Link). setup_of link ≡ setup_of before.link)
    (sym c.note_beginning.ensures.link) c.handle_into.ensures.setup in
    step_acted side place input c.args.octets.now c.args.copy c.carry_out.new.copy v
    c.handle_into.new.outs.items c.begins-begins.result before now c.carry_out.new.self
    c.args.outward.now c.carry_out.new.outward
    (no_message c.args.event) preserved shown on few input_octets steps setup
    c.begins-begins.ensures c.note_beginning.ensures.shows
    (records_of c.args.octets.now _ _ now c.args.outward.now c.args.copy c.carry_out.new.self
    c.carry_out.new.outward c.carry_out.new.copy c.as_slice.ensures.value
    c.carry_out.ensures.shows)
