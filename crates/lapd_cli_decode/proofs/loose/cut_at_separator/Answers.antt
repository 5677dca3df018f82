use Rattle.std.proofs.Common.{◌+◌, ◌∷◌, take, sym, ap, ◌∙◌}
use Rattle.std.specs.List.{slice_split}
use Rattle.std.proofs.lemmas.List.{take_rest}
use Rattle.lapd_cli_decode.specs.Loose.{is_separator}
use Rattle.lapd_cli_decode.proofs.LooseLine.{cut_here}
use Rattle.lapd_cli_decode.proofs.loose.cut_at_separator.Goals as goal

pub returns-clause-parts : goal.returns-clause-parts
returns-clause-parts c =
    let t = cut_here c.args.text.now c.in_ok-end.end (sym c.first_in.ensures ∙ c.in_ok-end.was) in
    t.1
    ∙ ap (λ xs. take c.in_ok-end.end c.args.text.now ∷ slice_split is_separator xs)
    (sym (take_rest c.args.text.now (c.in_ok-end.end + 1)))
