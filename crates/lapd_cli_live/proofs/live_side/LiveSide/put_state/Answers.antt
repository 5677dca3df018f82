use Rattle.std.proofs.Common.{ℕ, List, ◌++◌, refl, sym, ap, ◌∙◌}
use Rattle.std.specs.Option.{option_copied}
use Rattle.lapd_sides.specs.Either.{side_of}
use Rattle.lapd_cli_live_text.specs.LinkText.{link_text, shown_end}
use Rattle.lapd_cli_live.proofs.Steps.{beside_printed}
use Rattle.lapd_cli_live.proofs.live_side.LiveSide.put_state.Goals as goal

pub returns-in_default : goal.returns-in_default
returns-in_default g c = record {
  lacks = record {
    table = c.table.result.now;
    has = c.table.ensures;
    none = sym c.link.ensures.value ∙ ap option_copied c.in_default.is;
  };
  same = refl;
}

pub returns : goal.returns
returns g c =
    let text =
    λ (now : ℕ). link_text c.args.id.now (shown_end c.in-Some.link.now)
    (option_copied c.timers-timers.result) now in
    record {
      words = c.as_str.result.now;
      reporting = record {
        table = c.table.result.now;
        has = c.table.ensures;
        link = c.in-Some.link.now;
        is = sym c.link.ensures.value ∙ ap option_copied c.in-Some.is;
        timers = option_copied c.timers-timers.result;
        have = c.timers-timers.ensures;
        are =
            c.as_str.ensures.value ∙ c.in_ok-push_link.ensures.shown
            ∙ ap (λ (front : List ℕ). front ++ text c.moment-now.result) c.new-words.ensures.bytes
            ∙ ap text c.moment-now.ensures;
      };
      prints =
          beside_printed g.W.Write.contents c.args.self.now.side _ _ _ _ _
          (c.in_ok-put_words.ensures (side_of c.args.self.now.side)) refl;
    }
