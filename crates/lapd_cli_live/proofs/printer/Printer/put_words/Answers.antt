use Rattle.std.proofs.Common.{refl, rules}
use Rattle.lapd_cli_live.specs.Entries.{Worded, object_of}
use Rattle.lapd_cli_live.proofs.Printers.{prints_entry}
use Rattle.lapd_cli_live.proofs.Steps.{on_ok}
use Rattle.lapd_cli_live.proofs.printer.Printer.put_words.Goals as goal

pub returns-in-Text : goal.returns-in-Text
returns-in-Text g c = λ own.
    let object = object_of own (Worded c.args.words.now) in
    on_ok c.put_words_line.result _ _
    (λ puts. prints_entry g.W.Write.contents own (Worded c.args.words.now) _ object c.args.self.now
    _ _ (record {
      out = refl;
      style = refl;
      moment = refl;
      awaited = refl;
      text = refl;
      matched = refl;
      recent_output = refl;
    }) refl refl (search rules) refl puts)
    (c.put_words_line.ensures object)
