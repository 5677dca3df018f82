use Rattle.std.proofs.Common.{rules}
use Rattle.lapd_cli_render.specs.Json.{frame_members, object_text}
use Rattle.lapd_cli_live.proofs.printer.Printer.put_frame.Goals as goal

pub returns-in-Text : goal.returns-in-Text
returns-in-Text g c =
    let puts =
    c.put_words_line.ensures (object_text (frame_members c.args.from c.args.octets.now)) in
    search rules
