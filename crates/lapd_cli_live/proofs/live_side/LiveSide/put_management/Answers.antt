use Rattle.std.proofs.Common.{ℕ, List, ◌++◌, refl, sym, ap, ◌∙◌}
use Rattle.std.specs.Option.{option_copied}
use Rattle.lapd_sides.specs.Either.{side_of}
use Rattle.lapd_cli_live_text.specs.LinkText.{management_text}
use Rattle.lapd_cli_live.proofs.StateAnswers.{management_printed}
use Rattle.lapd_cli_live.proofs.Steps.{beside_printed, on_ok}
use Rattle.lapd_cli_live.proofs.live_side.LiveSide.put_management.Goals as goal

pub returns : goal.returns
returns g c =
    let text = λ (now : ℕ). management_text c.in-Some.timers.now now in
    let pushed =
    c.in_ok-push_management.ensures
    ∙ ap (λ (front : List ℕ). front ++ text c.moment-now.result) c.new-words.ensures.bytes
    ∙ ap text c.moment-now.ensures in
    on_ok c.put_words.result _ _
    (λ prints. record {
      timers = option_copied c.timers.result;
      have = c.timers.ensures;
      prints =
          management_printed (option_copied c.timers.result) c.in-Some.timers.now _
          c.as_str-words.result.now _ _ (ap option_copied c.in-Some.is)
          (c.as_str-words.ensures.value ∙ pushed)
          (sym c.is_empty.ensures ∙ c.if-is_empty.false)
          (beside_printed g.W.Write.contents c.args.self.now.side _ _ _ _ _ prints refl);
    })
    (c.put_words.ensures (side_of c.args.self.now.side))
