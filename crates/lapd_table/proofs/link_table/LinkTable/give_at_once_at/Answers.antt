use Rattle.std.proofs.Common.{refl}
use Rattle.lapd_table.specs.LinkTable.{IsKey}
use Rattle.lapd_table.proofs.Tables.{has_link, on_ok_all, on_err, after_index, is_so_at, steps_at, same_by}
use Rattle.lapd_table.proofs.link_table.LinkTable.give_at_once_at.Goals as goal

pub index_mut-requires : goal.index_mut-requires
unfolding IsKey
index_mut-requires c =
    has_link c.args.self.now c.args.key.now.id c.args.key.now.place c.requires.key

pub invariant_of-self : goal.invariant_of-self
unfolding IsKey
invariant_of-self c = record {
  places_fit = c.args.self.now.places_fit;
  index =
      after_index c.args.self.now c.args.key.now.id c.args.key.now.place c.requires.key _
      c.index_mut.ensures.value _ c.give_at_once.ensures.setup;
}

pub returns-clause-ok : goal.returns-clause-ok
unfolding IsKey
returns-clause-ok c = on_ok_all c.give_at_once.result _ _
    (λ outs steps. steps_at c.args.self.now c.args.key.now.id c.args.key.now.place c.requires.key _
    c.index_mut.ensures.value _ c.give_at_once.ensures.setup _ refl refl refl _ _ steps)
    c.give_at_once.ensures.ok

pub returns-clause-unchanged : goal.returns-clause-unchanged
unfolding IsKey
returns-clause-unchanged c = on_err c.give_at_once.result _ _
    (λ same. same_by c.args.self.now c.args.key.now.id c.args.key.now.place c.requires.key _
    c.index_mut.ensures.value _ same _ refl refl refl refl refl)
    c.give_at_once.ensures.unchanged

pub returns-clause-key : goal.returns-clause-key
unfolding IsKey
returns-clause-key c = c.requires.key

pub returns-clause-declined : goal.returns-clause-declined
unfolding IsKey
returns-clause-declined c = on_err c.give_at_once.result _ _
    (is_so_at c.args.self.now c.args.key.now.id c.args.key.now.place c.requires.key _
    c.index_mut.ensures.value _) c.give_at_once.ensures.declined
