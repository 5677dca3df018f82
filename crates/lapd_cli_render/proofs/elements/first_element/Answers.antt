use Rattle.std.proofs.Common.{inl, inr, length, get_or, ap, ◌∙◌, arith}
use Rattle.std.proofs.lemmas.List.{take_rest}
use Rattle.lapd_cli_render.specs.Elements.{octets_behind}
use Rattle.lapd_cli_render.proofs.ElementList.{none_at_end, none_in_nil, one_more}
use Rattle.lapd_cli_render.proofs.elements.first_element.Goals as goal
use Rattle.lapd_cli_render.proofs.elements.first_element.Goals.{then-first-eq-SHIFT-via-then-first-eq-SHIFT, then-first-eq-SHIFT-via-else-first-eq-SHIFT+then-rest-count}

pub returns-in_default-clause-elements : goal.returns-in_default-clause-elements
returns-in_default-clause-elements c = none_in_nil c.args.octets.now c.in_default.len_below

pub returns-then-first-eq-SHIFT-clause-elements : goal.returns-then-first-eq-SHIFT-clause-elements
returns-then-first-eq-SHIFT-clause-elements c =
    let octets = c.args.octets.now in
    let same = take_rest octets 1 in
    let count = c.octets_behind-count.ensures ∙ ap (octets_behind (get_or octets 0 0)) same in
    let long = ap length same in
    elim c.then-first-eq-SHIFT.branch [
      | then-first-eq-SHIFT-via-then-first-eq-SHIFT w ↦ none_at_end octets _
          c.in-len1-up.len_at_least count (inl w.if-first-eq-SHIFT.true)
      | then-first-eq-SHIFT-via-else-first-eq-SHIFT+then-rest-count w ↦ none_at_end octets _
          c.in-len1-up.len_at_least count (inr (omega (arith, long, w.if-rest-count.true)))
    ]

pub returns-clause-elements : goal.returns-clause-elements
returns-clause-elements c =
    let octets = c.args.octets.now in
    let same = take_rest octets 1 in
    let count = c.octets_behind-count.ensures ∙ ap (octets_behind (get_or octets 0 0)) same in
    let long = ap length same in
    one_more octets c.split_at.result.0.now c.split_at.result.1.now _ c.in-len1-up.len_at_least
    count c.if-first-eq-SHIFT.false (omega (arith, long, c.if-rest-count.false))
    c.split_at.ensures.front c.split_at.ensures.back
