use Rattle.std.proofs.Common.{refl, sym, ◌∙◌, rules}
use Rattle.lapd_link_definition.specs.Input.{input_of}
use Rattle.lapd_table.proofs.Tables.{none_at, never_refused_at}
use Rattle.lapd_table.proofs.link_table.LinkTable.handle_event.Goals as goal

pub returns-in_default-clause-err : goal.returns-in_default-clause-err
returns-in_default-clause-err c =
    (refl, none_at c.args.self.now c.args.id (sym (c.in_default.ensures ∙ c.get.ensures.value)))

pub unreachable-requires : goal.unreachable-requires
unreachable-requires c =
    never_refused_at c.args.self.now c.args.id (input_of c.args.event) _ c.requires.reception
    c.in-Err.ensures.err

pub returns-clause-err : goal.returns-clause-err
returns-clause-err c = search rules

pub returns-clause-unchanged : goal.returns-clause-unchanged
returns-clause-unchanged c = search rules

pub returns-clause-empty : goal.returns-clause-empty
returns-clause-empty c = search rules
