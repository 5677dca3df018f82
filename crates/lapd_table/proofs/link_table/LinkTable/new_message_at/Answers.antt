use Rattle.std.proofs.Common.{refl, ap}
use Rattle.lapd_link.specs.Link.{setup_of}
use Rattle.lapd_table.specs.LinkTable.{IsKey}
use Rattle.lapd_table.proofs.Tables.{has_link, after_index, same_by}
use Rattle.lapd_table.proofs.link_table.LinkTable.new_message_at.Goals as goal

pub index_mut-requires : goal.index_mut-requires
unfolding IsKey
index_mut-requires c =
    has_link c.args.self.now c.args.key.now.id c.args.key.now.place c.requires.key

pub invariant_of-self : goal.invariant_of-self
unfolding IsKey
invariant_of-self c = record {
  places_fit = c.args.self.now.places_fit;
  index = after_index c.args.self.now c.args.key.now.id c.args.key.now.place c.requires.key
      _ c.index_mut.ensures.value _ (ap setup_of c.new_message.ensures.unchanged);
}

pub returns-clause-unchanged : goal.returns-clause-unchanged
unfolding IsKey
returns-clause-unchanged c =
    same_by c.args.self.now c.args.key.now.id c.args.key.now.place c.requires.key
    _ c.index_mut.ensures.value _ c.new_message.ensures.unchanged _ refl refl refl refl refl

pub returns-clause-key : goal.returns-clause-key
unfolding IsKey
returns-clause-key c = c.requires.key
