use Rattle.std.proofs.Common.{ℕ, List, refl, subst, ◌∙◌}
use Rattle.lapd_c.specs.TeiLists.{ReturnsList}
use Rattle.lapd_c.proofs.held_side.HeldSide.teis.Goals as goal

pub returns : goal.returns
returns c = record {
  same = refl;
  teis = c.own_teis-teis.result.items;
  has_teis = c.own_teis-teis.ensures;
  list = subst (λ (teis : List ℕ). ReturnsList teis c.write_list.result c.write_list.new.count
      (record { before = c.args.buffer.now; after = c.write_list.new.buffer }))
      c.as_slice.ensures.value c.write_list.ensures;
}
