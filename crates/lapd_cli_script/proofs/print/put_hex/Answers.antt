use Rattle.std.proofs.Common.{◌≡◌, ◌++◌, take, sym, ap, subst, ◌∙◌, append_assoc, arith}
use Rattle.std.proofs.KnownBytes.{Appends-trans}
use Rattle.std.proofs.lemmas.Bool.Decides.{nat_tests}
use Rattle.std.specs.Io.KnownBytes.{Appends}
use Rattle.hex.specs.Hex.{encode_lower}
use Rattle.lapd_cli_script.proofs.HexText.{encode_lower-split, encode_lower-done}
use Rattle.lapd_cli_script.proofs.print.put_hex.Goals as goal

pub loop-rest-preserved : goal.loop-rest-preserved
loop-rest-preserved g c =
    let w = c.loop-rest.invariant in
    let rest = c.loop-rest.rest.now in
    let front = c.split_at.result.0.now in
    let left = c.split_at.result.1.now in
    let parts : encode_lower front ++ encode_lower left ≡ encode_lower rest =
    ap (λ x. encode_lower x ++ encode_lower left) c.split_at.ensures.front
    ∙ ap (λ x. encode_lower (take c.min.result rest) ++ encode_lower x) c.split_at.ensures.back
    ∙ encode_lower-split c.min.result rest in (
      w.0 ++ encode_lower front,
      Appends-trans (g.W.Write.contents c.args.out.now) (g.W.Write.contents c.loop-rest.out)
          (g.W.Write.contents c.put_hex_chunk.new.out) w.0 (encode_lower front) w.1
          c.in_ok-put_hex_chunk.ensures,
      append_assoc w.0 (encode_lower front) (encode_lower left) ∙ ap (λ x. w.0 ++ x) parts ∙ w.2,
    )

pub returns : goal.returns
returns g c =
    let w = c.loop-rest.invariant in
    let done : w.0 ≡ encode_lower c.args.octets.now =
    sym (encode_lower-done w.0 c.loop-rest.rest.now (grind (arith, nat_tests))) ∙ w.2 in
    subst (Appends (g.W.Write.contents c.args.out.now) (g.W.Write.contents c.loop-rest.out)) done
    w.1
