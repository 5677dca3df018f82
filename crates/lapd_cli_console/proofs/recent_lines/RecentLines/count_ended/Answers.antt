use Rattle.std.proofs.Common.{◌≡◌, ◌-◌, ◌^◌, ◌++◌, min, arith, sym, ap, ◌∙◌, subst, take}
use Rattle.lapd_cli_script.specs.WalkState.{HasNoFeed}
use Rattle.lapd_cli_console.specs.Recent.{feeds}
use Rattle.lapd_cli_console.proofs.KeptLines.{ended_none, feeds-append, head_none, head_some}
use Rattle.lapd_cli_console.proofs.recent_lines.RecentLines.count_ended.Goals as goal

pub returns-in_default-clause-ended : goal.returns-in_default-clause-ended
returns-in_default-clause-ended g c = λ r h.
    h.ended
    ∙ ap (λ n. min n (2 ^ 64 - 1)) (ended_none r.before r.last
    (subst HasNoFeed (c.as_slice.ensures.value ∙ h.part) c.in_default.ensures.none))

pub returns-in_default-clause-head : goal.returns-in_default-clause-head
returns-in_default-clause-head g c = λ r h.
    head_none r.before r.last c.args.self.now.head.items
    (subst HasNoFeed (c.as_slice.ensures.value ∙ h.part) c.in_default.ensures.none) h.head

pub returns-clause-ended : goal.returns-clause-ended
returns-clause-ended g c = λ r h.
    let sum = c.saturating_add-self.ensures in
    let both = feeds-append r.before r.last in
    let ended = h.ended in
    let last : c.feeds_in.result ≡ min (feeds r.last) (2 ^ 64 - 1) =
    c.feeds_in.ensures
    ∙ ap (λ x. min (feeds x) (2 ^ 64 - 1)) (c.as_slice-2.ensures.value ∙ h.part) in
    omega arith

pub returns-clause-head : goal.returns-clause-head
returns-clause-head g c = λ r h.
    let parts = c.in-Some.ensures.parts in
    c.lengthen.ensures ∙ ap (λ x. take 4096 (x ++ c.in-Some.begun.now)) c.clear.ensures
    ∙ ap (take 4096) (head_some r.before r.last c.in-Some._ended.now c.in-Some.begun.now
    (sym (c.as_slice.ensures.value ∙ h.part) ∙ parts.1) parts.0)
