-- handle_at
use Rattle.std.proofs.Common.{◌∙◌, ap}
use Rattle.lapd_table.specs.Index.{key_of}
use Rattle.lapd_table.specs.LinkTable.{IsKey}
use Rattle.lapd_table.proofs.link_table.LinkTable.handle_at.Goals as goal

pub handle_under-requires : goal.handle_under-requires
unfolding IsKey
handle_under-requires c = record { named = c.requires.key; for_link = c.requires.for_link }

pub returns-clause-key : goal.returns-clause-key
unfolding IsKey
returns-clause-key c =
    ap (λ keys. key_of keys c.args.key.now.id) c.handle_under.ensures.keys ∙ c.requires.key
