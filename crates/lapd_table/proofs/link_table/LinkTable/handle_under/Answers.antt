use Rattle.std.proofs.Common.{refl}
use Rattle.lapd_table.proofs.Tables.{on_ok, on_err, if_err, has_link, before_setup, is_for_link_there, after_index, steps_at, refuses_at, unchanged_by}
use Rattle.lapd_table.proofs.link_table.LinkTable.handle_under.Goals as goal

pub index_mut-requires : goal.index_mut-requires
index_mut-requires c = has_link c.args.self.now c.args.id c.args.key c.requires.named

pub handle_into-requires : goal.handle_into-requires
handle_into-requires c = record {
  for_link =
      is_for_link_there c.index_mut.result.now _ c.args.id c.args.event
      (before_setup c.args.self.now c.args.id c.args.key c.requires.named _
      c.index_mut.ensures.value) c.requires.for_link;
}

pub invariant_of-self : goal.invariant_of-self
invariant_of-self c = record {
  places_fit = c.args.self.now.places_fit;
  index =
      after_index c.args.self.now c.args.id c.args.key c.requires.named _ c.index_mut.ensures.value
      _ c.handle_into.ensures.setup;
}

pub returns-clause-ok : goal.returns-clause-ok
returns-clause-ok c =
    on_ok c.handle_into.result _ _ (steps_at c.args.self.now c.args.id c.args.key c.requires.named _
    c.index_mut.ensures.value _ c.handle_into.ensures.setup _ refl refl refl _ _)
    c.handle_into.ensures.ok

pub returns-clause-err : goal.returns-clause-err
returns-clause-err c =
    if_err c.handle_into.result _ _
    (refuses_at c.args.self.now c.args.id c.args.key c.requires.named _ c.index_mut.ensures.value _)
    c.handle_into.ensures.err

pub returns-clause-unchanged : goal.returns-clause-unchanged
returns-clause-unchanged c =
    on_err c.handle_into.result _ _ (λ same. unchanged_by c.args.self.now c.args.id c.args.key
    c.requires.named _ c.index_mut.ensures.value _ same _ refl refl refl)
    c.handle_into.ensures.unchanged
