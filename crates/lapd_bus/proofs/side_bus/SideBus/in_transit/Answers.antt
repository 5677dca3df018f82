use Rattle.std.proofs.Common.{◌≡◌, ◌<◌, ◌≤◌, length, refl, sym, ap, ◌∙◌, rules, slice_index_or}
use Rattle.std.proofs.lemmas.Option.{slice_get_read}
use Rattle.lapd_bus.specs.Moves.{line_to, on_line}
use Rattle.lapd_bus.specs.Stations.{index_of}
use Rattle.lapd_bus.proofs.Listed.{code_at, none_at}
use Rattle.lapd_bus.proofs.side_bus.SideBus.in_transit.Goals as goal

pub returns-in_default : goal.returns-in_default
returns-in_default c = λ config b shown.
    let past : length c.args.self.now.terminals.items ≤ index_of c.args.to = search rules in
    sym (ap (on_line c.args.to)
    (none_at c.args.self.now.terminals.items config.user b.terminals (index_of c.args.to)
    shown.terminals past))

pub returns-in-Terminal : goal.returns-in-Terminal
returns-in-Terminal c = λ config b shown.
    let at = index_of c.args.to in
    let code = c.in-Some.terminal.now in
    let codes = c.args.self.now.terminals.items in
    let within : at < length codes = search rules in
    let read : code ≡ slice_index_or codes at code = search rules in
    let its = code_at codes config.user b.terminals at code shown.terminals
    (slice_get_read codes (length codes) at code refl within read) in
    c.frames.ensures ∙ (its.shown.incoming ∙ sym (ap (on_line c.args.to) its.there
    ∙ ap (λ to. line_to to its.terminal) c.in-Terminal.is))

pub returns-in-Network : goal.returns-in-Network
returns-in-Network c = λ config b shown.
    let at = index_of c.args.to in
    let code = c.in-Some.terminal.now in
    let codes = c.args.self.now.terminals.items in
    let within : at < length codes = search rules in
    let read : code ≡ slice_index_or codes at code = search rules in
    let its = code_at codes config.user b.terminals at code shown.terminals
    (slice_get_read codes (length codes) at code refl within read) in
    c.frames-in-Network.ensures ∙ (its.shown.outgoing ∙ sym (ap (on_line c.args.to) its.there
    ∙ ap (λ to. line_to to its.terminal) c.in-Network.is))
