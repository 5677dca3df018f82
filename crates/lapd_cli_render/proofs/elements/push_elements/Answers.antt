use Rattle.std.specs.String.{string_bytes}
use Rattle.lapd_cli_render.proofs.ElementList.{text_ends, text_more}
use Rattle.lapd_cli_render.proofs.elements.push_elements.Goals as goal

pub loop-element-preserved : goal.loop-element-preserved
loop-element-preserved c =
    text_more (string_bytes c.loop-element.text) _ _ c.loop-element.rest.now c.in-Some.element.now
    c.in-Some.behind.now c.in_ok-push_element.ensures c.in-Some.ensures.elements
    c.loop-element.invariant

pub returns : goal.returns
returns c =
    text_ends _ _ c.loop-element.rest.now c.in_default.ensures.elements c.loop-element.invariant
