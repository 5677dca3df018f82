-- give_into
use Rattle.std.proofs.Common.{ap}
use Rattle.std.specs.Prelude.{is_some}
use Rattle.lapd_table.proofs.Tables.{has_key}
use Rattle.lapd_table.proofs.link_table.LinkTable.give_into.Goals as goal

pub index-key-requires : goal.index-key-requires
index-key-requires c =
    let there = has_key c.args.self.now c.args.id c.requires in ap is_some there.1
