-- link_at
use Rattle.std.proofs.Common.{◌∙◌}
use Rattle.lapd_table.specs.LinkTable.{IsKey}
use Rattle.lapd_table.proofs.Tables.{has_link, link_at_key, setup_at}
use Rattle.lapd_table.proofs.link_table.LinkTable.link_at.Goals as goal

pub index-requires : goal.index-requires
unfolding IsKey
index-requires c = has_link c.args.self.now c.args.key.now.id c.args.key.now.place c.requires

pub returns-clause-value : goal.returns-clause-value
unfolding IsKey
returns-clause-value c =
    link_at_key c.args.self.now c.args.key.now.id c.args.key.now.place c.requires ∙ c.index.ensures

pub returns-clause-setup : goal.returns-clause-setup
unfolding IsKey
returns-clause-setup c =
    setup_at c.args.self.now c.args.key.now.id c.index.result.now
    (link_at_key c.args.self.now c.args.key.now.id c.args.key.now.place c.requires
    ∙ c.index.ensures)
