use Rattle.std.proofs.Common.{ℕ, List, [], ◌∷◌, false, refl, ap, subst, ◌∙◌}
use Rattle.std.specs.Prelude.{codes}
use Rattle.lapd_sides.specs.Either.{side_of}
use Rattle.lapd_cli_live_text.specs.AwaitedLine.{awaited_line}
use Rattle.lapd_cli_live.specs.Entries.{Named}
use Rattle.lapd_cli_live.specs.Printers.{PrintsOn}
use Rattle.lapd_cli_live.proofs.StateAnswers.{finds_sought}
use Rattle.lapd_cli_live.proofs.Steps.{beside_printed}
use Rattle.lapd_cli_live.proofs.live_side.LiveSide.expect.Goals as goal

pub returns : goal.returns
returns g c =
    let own = side_of c.find_line.new.self.side in
    let prints =
    subst (λ (text : List ℕ). PrintsOn g.W.Write.contents own
    (Named (codes "expected") text ∷ []) c.find_line.new.self.printer c.put_named.new.self)
    (c.as_str.ensures.value ∙ c.in_ok-text.ensures) (c.in_ok-put_named.ensures own) in
    record {
      served_to = _;
      looks = finds_sought c.as_slice.result.now c.args.words.now c.args.ms c.args.lines _ false _ _
          (c.as_slice.ensures.value ∙ c.in_ok-line.ensures
          ∙ ap (λ side. awaited_line side c.args.words.now) c.side.ensures)
          c.if-branch.false c.in_ok-find_line.ensures;
      prints = beside_printed g.W.Write.contents c.find_line.new.self.side _ _ _ _ _ prints refl;
    }
