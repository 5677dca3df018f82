use Rattle.std.proofs.Common.{◌≡◌, ◌++◌, map, take, drop}
use Rattle.lapd_follow.specs.Follower.{no_link}
use Rattle.lapd_follow.proofs.link_table.forget_each.Given as goal

abbrev pub invariant-loop-link : goal.invariant-loop-link
invariant-loop-link l =
    l.links ≡ map no_link (take l.link-index l.initial.links) ++ drop l.link-index l.initial.links
