use Rattle.std.proofs.Common.{sym, ap, ◌∙◌}
use Rattle.lapd_table.proofs.Ids.{same_id_eq}
use Rattle.lapd_sides_links.specs.declared.link_timers.LinkTimers.{LinkTimers}
use Rattle.lapd_sides_links.specs.LinkTimers.{timers_of}
use Rattle.lapd_sides_links.proofs.LoneTimers.{none_beside, none_stopped}
use Rattle.lapd_sides_links.proofs.link_timers.LinkTimers.stop_all.Goals as goal

pub returns-then-is_of-clause-others : goal.returns-then-is_of-clause-others
unfolding timers_of
returns-then-is_of-clause-others c = λ other differ.
    let own = same_id_eq c.args.id.now c.in-One.lone.id (sym c.is_of.ensures ∙ c.if-is_of.true) in
    let none = none_beside c.in-One.lone other (λ q. differ (q ∙ sym own)) in
    sym (ap (λ (s : LinkTimers). timers_of s other) c.in-One.is ∙ none)

pub returns-else-is_of-clause-own : goal.returns-else-is_of-clause-own
unfolding timers_of
returns-else-is_of-clause-own c =
    none_stopped c.in-One.lone c.args.id.now (sym c.is_of.ensures ∙ c.if-is_of.false)
