use Rattle.std.proofs.Common.{arith}
use Rattle.std.proofs.lemmas.List.{length-take}
use Rattle.lapd_cli_console.proofs.KeptLines.{lengthened, on_ok}
use Rattle.lapd_cli_console.proofs.recent_lines.lengthen.Goals as goal

pub returns : goal.returns
returns c = let t = c.try_extend_from_slice.ensures in
    lengthened c.remaining_capacity-room.result c.min.result c.args.head.now.items c.args.octets.now
    c.try_extend_from_slice.new.self.items
    c.remaining_capacity-room.ensures c.min.ensures
    (on_ok c.try_extend_from_slice.result
    (t.variant.1 (omega (
      arith,
      c.remaining_capacity-room.ensures,
      c.min.ensures,
      length-take c.min.result c.args.octets.now,
    ))) t.ok)
