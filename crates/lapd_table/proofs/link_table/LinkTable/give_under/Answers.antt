-- give_under
use Rattle.std.proofs.Common.{refl, rules}
use Rattle.lapd_table.proofs.Tables.{on_ok, on_err, if_err, has_link, after_index, steps_at, refuses_at, unchanged_by}
use Rattle.lapd_table.proofs.link_table.LinkTable.give_under.Goals as goal

pub index_mut-requires : goal.index_mut-requires
index_mut-requires c = has_link c.args.self.now c.args.id c.args.key c.requires

pub invariant_of-self : goal.invariant_of-self
invariant_of-self c = record {
  places_fit = c.args.self.now.places_fit;
  index =
      after_index c.args.self.now c.args.id c.args.key c.requires _ c.index_mut.ensures.value _
      c.give_into.ensures.setup;
}

pub returns-clause-ok : goal.returns-clause-ok
returns-clause-ok c =
    on_ok c.give_into.result _ _ (steps_at c.args.self.now c.args.id c.args.key c.requires _
    c.index_mut.ensures.value _ c.give_into.ensures.setup _ refl refl refl _ _)
    c.give_into.ensures.ok

pub returns-clause-err : goal.returns-clause-err
returns-clause-err c =
    if_err c.give_into.result _ _ (λ refused h. refuses_at c.args.self.now c.args.id c.args.key
    c.requires _ c.index_mut.ensures.value _ refused.fault h.1) c.give_into.ensures.err

pub returns-clause-unchanged : goal.returns-clause-unchanged
returns-clause-unchanged c =
    on_err c.give_into.result _ _ (λ same. unchanged_by c.args.self.now c.args.id c.args.key
    c.requires _ c.index_mut.ensures.value _ same _ refl refl refl)
    c.give_into.ensures.unchanged

pub returns-clause-returned : goal.returns-clause-returned
returns-clause-returned c = search rules
