use Rattle.std.proofs.Common.{ℕ, List, refl, subst, ◌∙◌}
use Rattle.lapd_sides.specs.declared.either_side.EitherSide.{EitherSide}
use Rattle.lapd_sides.specs.Either.{HasTable}
use Rattle.lapd_c.specs.TeiLists.{ReturnsList}
use Rattle.lapd_c.proofs.held_side.HeldSide.links.Goals as goal

pub returns : goal.returns
returns c = record {
  same = refl;
  table = c.table.result.now;
  has_table = subst (λ (x : EitherSide). HasTable x c.table.result.now) c.side.ensures
      c.table.ensures;
  list = subst (λ (teis : List ℕ). ReturnsList teis c.write_list.result c.write_list.new.count
      (record { before = c.args.buffer.now; after = c.write_list.new.buffer }))
      (c.as_slice.ensures.value ∙ c.teis_with_link-teis.ensures) c.write_list.ensures;
}
