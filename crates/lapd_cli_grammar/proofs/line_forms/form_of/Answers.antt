use Rattle.std.proofs.Common.{ap, ◌∙◌}
use Rattle.std.specs.Prelude.{find, option_map}
use Rattle.std.specs.Str.{bytes_eq}
use Rattle.lapd_cli_grammar.proofs.Shapes.{shape_found}
use Rattle.lapd_cli_grammar.specs.Forms.{shape_of}
use Rattle.lapd_cli_grammar.proofs.line_forms.form_of.Goals as goal

pub returns : goal.returns
returns c =
    ap (option_map shape_of) c.form_among.ensures
    ∙ shape_found c.args.word.now c.forms.result.now
    ∙ ap (find (λ shape. bytes_eq c.args.word.now shape.0)) c.forms.ensures
