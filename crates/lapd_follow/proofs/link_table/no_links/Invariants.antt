use Rattle.std.proofs.Common.{◌≡◌, replicate, None}
use Rattle.lapd_follow.proofs.link_table.no_links.Given as goal

abbrev pub invariant-loop : goal.invariant-loop
invariant-loop l = record { links : l.links.items ≡ replicate l.counter None }
