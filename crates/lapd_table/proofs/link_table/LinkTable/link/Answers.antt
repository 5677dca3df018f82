use Rattle.std.proofs.Common.{sym, ◌∙◌}
use Rattle.lapd_table.proofs.Tables.{link_at_key, none_at, setup_of_lent}
use Rattle.lapd_table.proofs.link_table.LinkTable.link.Goals as goal

pub returns-in-Some-clause-value : goal.returns-in-Some-clause-value
returns-in-Some-clause-value c =
    c.get-in-Some.ensures
    ∙ sym (link_at_key c.args.self.now c.args.id c.in-Some.key.now (sym c.in-Some.ensures.value))

pub returns-in-Some-clause-setup : goal.returns-in-Some-clause-setup
returns-in-Some-clause-setup c =
    setup_of_lent c.args.self.now c.args.id _
    (c.get-in-Some.ensures
    ∙ sym
    (link_at_key c.args.self.now c.args.id c.in-Some.key.now (sym c.in-Some.ensures.value)))

pub returns-in-None-clause-value : goal.returns-in-None-clause-value
returns-in-None-clause-value c =
    sym (none_at c.args.self.now c.args.id (sym c.in-None.ensures.value))
