use Rattle.std.proofs.Common.{[], ◌∷◌, subst, ◌∙◌}
use Rattle.lapd_cli_live_text.specs.declared.stats.Stats.{Stats}
use Rattle.lapd_cli_live_text.specs.Stats.{received_words, reports_words}
use Rattle.lapd_cli_live.specs.Entries.{Worded}
use Rattle.lapd_cli_live.specs.Printers.{PrintsOn}
use Rattle.lapd_cli_live.proofs.Log.{prints_on_both}
use Rattle.lapd_cli_live.proofs.Steps.{on_ok}
use Rattle.lapd_cli_live.proofs.printer.Printer.put_stats.Goals as goal

pub returns : goal.returns
returns g c = λ own.
    let contents = g.W.Write.contents in
    let one = c.put_sent_stats.new.self in
    let two = c.put_received_stats.new.self in
    let first = c.in_ok-put_sent_stats.ensures own in
    let second =
    subst (λ (stats : Stats). PrintsOn contents own
    (Worded (received_words stats c.args.discarded) ∷ []) one two) first.prints.stats
    (c.in_ok-put_received_stats.ensures own) in
    on_ok c.put_reports.result _ _
    (λ third. prints_on_both contents own (_ ∷ []) (_ ∷ _ ∷ []) c.args.self.now one
    c.put_reports.new.self first
    (prints_on_both contents own (_ ∷ []) (_ ∷ []) one two c.put_reports.new.self second
    (subst (λ (stats : Stats). PrintsOn contents own (Worded (reports_words stats) ∷ []) two
    c.put_reports.new.self) (second.prints.stats ∙ first.prints.stats) third)))
    (c.put_reports.ensures own)
