use Rattle.std.proofs.Common.{rules}
use Rattle.std.proofs.lemmas.List.Edits.{map_over_more}
use Rattle.lapd_follow.specs.Follower.{no_link}
use Rattle.lapd_follow.proofs.link_table.forget_each.Goals as goal

pub loop-link-preserved : goal.loop-link-preserved
loop-link-preserved c = search (rules, map_over_more no_link)
