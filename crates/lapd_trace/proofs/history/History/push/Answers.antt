use Rattle.std.proofs.Common.{◌∷◌, [], ◌++◌, List, ℕ, ap, ◌∙◌, arith}
use Rattle.std.specs.String.{string_bytes}
use Rattle.lapd_trace.specs.HistoryLines.{HistoryLines, last_of}
use Rattle.lapd_trace.proofs.LastOf.{last_of_more, last_octets}
use Rattle.lapd_trace.proofs.history.History.push.Goals as goal

pub returns-clause-push : goal.returns-clause-push
returns-clause-push c =
    let octets =
    last_octets string_bytes c.self.inside.lines.capacity c.self.inside.lines.items
    c.args.line in
    grind (arith)

pub returns-clause-all : goal.returns-clause-all
returns-clause-all c = λ pushed preserved.
    let line : List ℕ = string_bytes c.args.line in
    let room : ℕ = c.args.self.now.room in
    ap (λ (h : HistoryLines). h.lines) (returns-clause-push c)
    ∙ ap (λ (t : List (List ℕ)). last_of room (t ++ line ∷ [])) preserved
    ∙ last_of_more room pushed line
