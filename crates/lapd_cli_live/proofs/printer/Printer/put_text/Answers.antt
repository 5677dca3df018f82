use Rattle.std.proofs.Common.{arith, refl}
use Rattle.std.proofs.lemmas.Grind.{common_steps}
use Rattle.lapd_cli_render.specs.Json.{object_text, text_members}
use Rattle.lapd_cli_live.proofs.Printers.{puts_same}
use Rattle.lapd_cli_live.proofs.Steps.{on_ok}
use Rattle.lapd_cli_live.proofs.printer.Printer.put_text.Goals as goal

pub returns-in-Text : goal.returns-in-Text
returns-in-Text g c =
    let object = object_text (text_members c.args.name.now c.args.text.now) in
    on_ok c.put_words_line.result _ _
    (λ puts. puts_same _ _ object c.args.self.now _ _
    (record {
      out = refl;
      style = refl;
      moment = refl;
      awaited = refl;
      text = refl;
      matched = refl;
      recent_output = refl;
    }) refl (grind (arith, common_steps)) puts)
    (c.put_words_line.ensures object)
