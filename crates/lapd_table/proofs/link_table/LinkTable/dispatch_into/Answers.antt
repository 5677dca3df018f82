use Rattle.std.proofs.Common.{Ok, sym, ap, ◌∙◌}
use Rattle.lapd_link_definition.specs.Input.{Heard, Faulty}
use Rattle.lapd_table.specs.LinkId.{id_of_address}
use Rattle.lapd_table.proofs.Tables.{arrived, arrived_fault, dispatched, not_dispatched}
use Rattle.lapd_table.proofs.link_table.LinkTable.dispatch_into.Goals as goal

pub returns-in-Ok-clause-ok : goal.returns-in-Ok-clause-ok
returns-in-Ok-clause-ok c =
    let its = c.of_address-id.ensures ∙ ap id_of_address c.address.ensures in
    dispatched _ c.args.self.now _ c.args.bytes.now c.of_address-id.result _ _
    (arrived c.args.self.now c.args.bytes.now c.other.result _ c.other.ensures c.in-Ok.ensures.exact
    ∙ ap (λ id. Ok (id, Heard c.in-Ok.frame.control c.in-Ok.frame.address.role)) (sym its))
    c.handle_event.ensures.ok

pub returns-in-Ok-clause-err : goal.returns-in-Ok-clause-err
returns-in-Ok-clause-err c =
    let its = c.of_address-id.ensures ∙ ap id_of_address c.address.ensures in
    not_dispatched _ c.args.self.now c.args.bytes.now c.of_address-id.result _
    (arrived c.args.self.now c.args.bytes.now c.other.result _ c.other.ensures c.in-Ok.ensures.exact
    ∙ ap (λ id. Ok (id, Heard c.in-Ok.frame.control c.in-Ok.frame.address.role)) (sym its))
    c.handle_event.ensures.err

pub returns-in-Some-clause-ok : goal.returns-in-Some-clause-ok
returns-in-Some-clause-ok c =
    dispatched _ c.args.self.now _ c.args.bytes.now c.of_address.result _ _
    (arrived_fault c.args.self.now c.args.bytes.now c.other.result c.in-Err.field-0 c.other.ensures
    c.in-Err.ensures.exact _ c.in-Some.is
    ∙ ap (λ id. Ok (id, Faulty c.in-Err.field-0.kind)) (sym c.of_address.ensures))
    c.handle_event-in-Some.ensures.ok

pub returns-in-Some-clause-err : goal.returns-in-Some-clause-err
returns-in-Some-clause-err c =
    not_dispatched _ c.args.self.now c.args.bytes.now c.of_address.result _
    (arrived_fault c.args.self.now c.args.bytes.now c.other.result c.in-Err.field-0 c.other.ensures
    c.in-Err.ensures.exact _ c.in-Some.is
    ∙ ap (λ id. Ok (id, Faulty c.in-Err.field-0.kind)) (sym c.of_address.ensures))
    c.handle_event-in-Some.ensures.err

pub returns-in-None-clause-err : goal.returns-in-None-clause-err
returns-in-None-clause-err c =
    arrived_fault c.args.self.now c.args.bytes.now c.other.result c.in-Err.field-0 c.other.ensures
    c.in-Err.ensures.exact _ c.in-None.is
