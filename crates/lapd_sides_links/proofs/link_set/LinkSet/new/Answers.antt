use Rattle.lapd_sides_links.specs.LinkTimers.{timers_of}
use Rattle.lapd_sides_links.proofs.Acting.{none_linked}
use Rattle.lapd_sides_links.proofs.link_set.LinkSet.new.Goals as goal

pub returns : goal.returns
unfolding timers_of
returns c = record {
  of_side = c.new.ensures.side;
  each = λ id. none_linked _ _ (c.new.ensures.empty id) tt;
}
