use Rattle.std.proofs.Common.{ℕ, List, [], ◌∷◌, ◌++◌, ap, subst, ◌∙◌}
use Rattle.lapd_cli_live_text.specs.Stats.{reports_words}
use Rattle.lapd_cli_live.specs.Entries.{Worded}
use Rattle.lapd_cli_live.specs.Printers.{PrintsOn}
use Rattle.lapd_cli_live.proofs.Steps.{on_ok}
use Rattle.lapd_cli_live.proofs.printer.Printer.put_reports.Goals as goal

pub returns : goal.returns
returns g c = λ own.
    let is =
    c.as_str.ensures.value ∙ c.in_ok-push_reports.ensures
    ∙ ap (λ (text : List ℕ). text ++ reports_words c.args.self.now.stats)
    c.new-words.ensures.bytes in
    on_ok c.put_words.result _ _
    (λ prints. subst (λ (words : List ℕ). PrintsOn g.W.Write.contents own (Worded words ∷ [])
    c.args.self.now c.put_words.new.self) is prints)
    (c.put_words.ensures own)
