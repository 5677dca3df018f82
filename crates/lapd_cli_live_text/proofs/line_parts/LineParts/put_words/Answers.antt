use Rattle.std.proofs.Common.{ap, codes}
use Rattle.serde_json.specs.Written.{has_float}
use Rattle.lapd_cli_render.proofs.NoFloats.{put_preserves}
use Rattle.lapd_cli_live_text.proofs.line_parts.LineParts.put_words.Goals as goal

pub invariant_of-self : goal.invariant_of-self
invariant_of-self c = record {
  no_float =
      put_preserves c.put.result (codes "line") _ c.args.self.now.members.entries
      c.put.new.map.entries (ap has_float c.in_ok-words.ensures) c.args.self.now.no_float
      c.put.ensures.ok c.put.ensures.err;
}
