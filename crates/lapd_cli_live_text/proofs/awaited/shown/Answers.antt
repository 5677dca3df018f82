use Rattle.std.proofs.Common.{ap, ◌∙◌}
use Rattle.std.specs.Prelude.{encode_utf8_all}
use Rattle.std.specs.List.{flat_map}
use Rattle.std.specs.Str.{chars}
use Rattle.std.proofs.lemmas.Iterator.{YieldsList-from_chars}
use Rattle.std.proofs.lemmas.Iterator.Consumers.{YieldsList-end}
use Rattle.lapd_cli_live_text.specs.AwaitedText.{shown_char}
use Rattle.lapd_cli_live_text.proofs.ShownChars.{one_more_char, all_shown}
use Rattle.lapd_cli_live_text.proofs.awaited.shown.Goals as goal

pub loop-character-preserved : goal.loop-character-preserved
loop-character-preserved c =
    let e = one_more_char c.loop-character.yielded c.in-Some.character in
    cc (c.in_ok-push_shown.ensures, c.loop-character.invariant, e)

pub returns : goal.returns
returns c =
    let t =
    YieldsList-end (YieldsList-from_chars c.args.text.now c.utf8.text cc)
    c.loop-character.yielded _ c.loop-character.yielded_by _ _ c.in-None.is
    c.next.ensures.steps in
    c.loop-character.invariant
    ∙ ap (λ all. encode_utf8_all (flat_map shown_char all))
    (all_shown c.loop-character.yielded (chars c.args.text.now) t.0)
