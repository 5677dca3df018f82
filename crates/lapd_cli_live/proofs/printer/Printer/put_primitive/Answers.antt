use Rattle.std.proofs.Common.{refl, rules}
use Rattle.lapd_cli_live.specs.Entries.{Delivered, object_of}
use Rattle.lapd_cli_live.proofs.Printers.{prints_entry}
use Rattle.lapd_cli_live.proofs.Steps.{on_ok}
use Rattle.lapd_cli_live.proofs.printer.Printer.put_primitive.Goals as goal

pub returns-in-Text : goal.returns-in-Text
returns-in-Text g c = λ own.
    let object = object_of own (Delivered c.args.primitive.now) in
    on_ok c.put_words_line.result _ _
    (λ puts. prints_entry g.W.Write.contents own (Delivered c.args.primitive.now) _ object
    c.args.self.now _ _ (record {
      out = refl;
      style = refl;
      moment = refl;
      awaited = refl;
      text = refl;
      matched = refl;
      recent_output = refl;
    }) c.count_primitive.ensures
    refl (search rules) refl puts)
    (c.put_words_line.ensures object)
