use Rattle.std.proofs.Common.{None, refl, sym, ◌∙◌}
use Rattle.lapd_table.proofs.Places.{written, none_marked}
use Rattle.lapd_table.proofs.Tables.{link_at_key, none_at, without_link_index, without_link, without_any}
use Rattle.lapd_table.proofs.link_table.LinkTable.remove.Goals as goal

pub invariant_of-self : goal.invariant_of-self
invariant_of-self c = record {
  places_fit = written _ c.args.self.now.keys c.remove.new.self c.args.id None _ 0
      c.args.self.now.places_fit c.remove.ensures.updates c.place.ensures.tei
      (c.from.ensures ∙ c.place.ensures.value) none_marked;
  index =
      without_link_index c.args.self.now c.args.id _ c.remove.ensures.updates c.in-Some.key
      (sym c.in-Some.ensures.value) _ c.try_remove.ensures.updates;
}

pub returns-in-Some-clause-value : goal.returns-in-Some-clause-value
returns-in-Some-clause-value c =
    c.try_remove.ensures.value
    ∙ sym (link_at_key c.args.self.now c.args.id c.in-Some.key (sym c.in-Some.ensures.value))

pub returns-in-Some-clause-changes : goal.returns-in-Some-clause-changes
returns-in-Some-clause-changes c =
    without_link c.args.self.now c.args.id _ c.remove.ensures.updates c.in-Some.key
    (sym c.in-Some.ensures.value) _ c.try_remove.ensures.updates _ refl refl refl

pub returns-in-None-clause-value : goal.returns-in-None-clause-value
returns-in-None-clause-value c =
    sym (none_at c.args.self.now c.args.id (sym c.in-None.ensures.value))

pub returns-in-None-clause-changes : goal.returns-in-None-clause-changes
returns-in-None-clause-changes c =
    without_any c.args.self.now c.args.id _ c.remove.ensures.updates _ refl refl refl

pub invariant_of-self-in-None-clause-places_fit : goal.invariant_of-self-in-None-clause-places_fit
invariant_of-self-in-None-clause-places_fit c =
    written _ c.args.self.now.keys c.remove.new.self c.args.id None _ 0
    c.args.self.now.places_fit c.remove.ensures.updates c.place.ensures.tei
    (c.from.ensures ∙ c.place.ensures.value) none_marked
