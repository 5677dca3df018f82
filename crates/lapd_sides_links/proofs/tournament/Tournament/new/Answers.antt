use Rattle.std.proofs.Common.{refl, inl}
use Rattle.lapd_sides_links.proofs.Tournaments.{new_tournament, none_entered, none_at}
use Rattle.lapd_sides_links.proofs.tournament.Tournament.new.Goals as goal

pub invariant_of-result : goal.invariant_of-result
invariant_of-result c = (
  inl (refl, new_tournament c.in_ok-empty_nodes.field-0.items c.in_ok-empty_nodes.ensures),
  none_at c.in_ok-empty_nodes.field-0.items 1 c.in_ok-empty_nodes.ensures,
)

pub returns : goal.returns
returns c = none_entered c.in_ok-empty_nodes.field-0.items c.in_ok-empty_nodes.ensures
