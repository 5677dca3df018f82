use Rattle.std.proofs.Common.{map, ap, rules, ◌∙◌}
use Rattle.std.proofs.lemmas.List.{with_items_is}
use Rattle.lapd_follow.specs.Follower.{no_link}
use Rattle.lapd_follow.proofs.link_table.forget_all.Goals as goal

pub returns : goal.returns
returns c =
    with_items_is c.args.links.now c.forget_each.new.links (search rules)
    ∙ (c.forget_each.ensures ∙ ap (map no_link) c.as_mut_slice.ensures.value)
