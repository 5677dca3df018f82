use Rattle.std.proofs.Common.{Some, refl, sym, ap, ◌∙◌, rules}
use Rattle.slab.specs.Slab as slab
use Rattle.lapd_table.proofs.Places.{written, kept}
use Rattle.lapd_table.proofs.Tables.{with_link_index, with_link, as_before_index, as_before, with_room}
use Rattle.lapd_table.proofs.link_table.LinkTable.store.Goals as goal

pub returns-then-is_err-clause-unchanged : goal.returns-then-is_err-clause-unchanged
returns-then-is_err-clause-unchanged c =
    with_room c.args.self.now _ refl (λ at. ap (λ l. slab.get l at) c.reserve.ensures.rest_kept)
    refl

pub invariant_of-self-in-Ok : goal.invariant_of-self-in-Ok
invariant_of-self-in-Ok c = record {
  places_fit = written _ c.args.self.now.keys c.insert.new.self c.args.id
      (Some c.insert_reserved-key.result) _ _ c.args.self.now.places_fit c.in-Ok.ensures.updates
      c.place.ensures.tei (c.from.ensures ∙ c.place.ensures.value)
      (λ n h. ap Some (sym (c.place_for.ensures n h)));
  index =
      with_link_index c.args.self.now c.args.link c.requires.side c.args.id c.requires.its
      c.requires.absent
      c.reserve.new.self (λ at. ap (λ l. slab.get l at) c.reserve.ensures.rest_kept)
      c.insert_reserved-key.result c.insert_reserved-key.ensures.was_vacant _
      c.insert_reserved-key.ensures.updates
      _ c.in-Ok.ensures.updates;
}

pub returns-in-Ok-clause-ok : goal.returns-in-Ok-clause-ok
returns-in-Ok-clause-ok c =
    with_link c.args.self.now c.args.link c.requires.side c.args.id c.requires.its c.requires.absent
    c.reserve.new.self (λ at. ap (λ l. slab.get l at) c.reserve.ensures.rest_kept)
    c.insert_reserved-key.result c.insert_reserved-key.ensures.was_vacant _
    c.insert_reserved-key.ensures.updates
    _ c.in-Ok.ensures.updates _ refl refl refl

pub invariant_of-self-in-Err : goal.invariant_of-self-in-Err
invariant_of-self-in-Err c = record {
  places_fit = kept _ c.args.self.now.keys c.insert.new.self c.in-Err.ensures.err
      c.args.self.now.places_fit;
  index =
      as_before_index c.args.self.now c.args.link c.requires.side c.args.id c.requires.its
      c.requires.absent
      c.reserve.new.self (λ at. ap (λ l. slab.get l at) c.reserve.ensures.rest_kept)
      c.insert_reserved-key.result c.insert_reserved-key.ensures.was_vacant _
      c.insert_reserved-key.ensures.updates
      c.remove.new.self c.remove.ensures.updates _ c.in-Err.ensures.err;
}

pub returns-in-Err-clause-unchanged : goal.returns-in-Err-clause-unchanged
returns-in-Err-clause-unchanged c =
    as_before c.args.self.now c.args.link c.requires.side c.args.id c.requires.its c.requires.absent
    c.reserve.new.self (λ at. ap (λ l. slab.get l at) c.reserve.ensures.rest_kept)
    c.insert_reserved-key.result c.insert_reserved-key.ensures.was_vacant _
    c.insert_reserved-key.ensures.updates
    c.remove.new.self c.remove.ensures.updates _ c.in-Err.ensures.err _ refl refl refl

pub invariant_of-self : goal.invariant_of-self
invariant_of-self c = search rules
