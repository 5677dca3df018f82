-- A name for the words that a side computes with.
use Rattle.std.proofs.Common.{ℕ, zero}
use Rattle.lapd_link_definition.proofs.ComputedStep.{computed_step}
use Rattle.lapd_sides_links.specs.Links.{links_below, link_acts, link_expires, in_links, with_tei, without_tei, primitive_of_tei}
use Rattle.lapd_sides.specs.Management.{manages}
use Rattle.lapd_sides.specs.SideState.{link_of, expires, takes}
use Rattle.lapd_sides.specs.Network.{assigner_acts, network_requested}
use Rattle.lapd_sides.specs.User.{terminal_acts, user_requested}

-- all that a side computes with: the steps of its links, and its TEI management
unfoldable pub computed_side : ℕ
unfolding computed_step link_acts link_expires in_links with_tei without_tei primitive_of_tei
    manages assigner_acts link_of takes expires network_requested terminal_acts user_requested
    links_below
computed_side = zero
