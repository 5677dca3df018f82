-- give_at
use Rattle.std.proofs.Common.{◌∙◌, ap}
use Rattle.lapd_table.specs.Index.{key_of}
use Rattle.lapd_table.specs.LinkTable.{IsKey}
use Rattle.lapd_table.proofs.link_table.LinkTable.give_at.Goals as goal

pub give_under-requires : goal.give_under-requires
unfolding IsKey
give_under-requires c = c.requires

pub returns-clause-key : goal.returns-clause-key
unfolding IsKey
returns-clause-key c =
    ap (λ keys. key_of keys c.args.key.now.id) c.give_under.ensures.keys ∙ c.requires
