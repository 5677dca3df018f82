use Rattle.std.proofs.Common.{◌≡◌, ◌<◌, length, rules, refl, slice_index_or}
use Rattle.std.proofs.lemmas.Option.{slice_get_read}
use Rattle.lapd_bus.proofs.Listed.{code_at, none_at}
use Rattle.lapd_bus.proofs.side_bus.SideBus.terminal.Goals as goal

pub returns-in_err-get-clause-none : goal.returns-in_err-get-clause-none
returns-in_err-get-clause-none c =
    rw c.from_residual.ensures (λ config b shown.
    none_at c.args.self.now.terminals.items config.user b.terminals c.args.at shown.terminals
    (search rules))

pub returns-clause-some : goal.returns-clause-some
returns-clause-some c = λ config b shown.
    let within : c.args.at < length c.args.self.now.terminals.items = search rules in
    let read : c.in_ok-get.field-0.now ≡ slice_index_or c.args.self.now.terminals.items c.args.at
    c.in_ok-get.field-0.now = search rules in
    let its = code_at c.args.self.now.terminals.items config.user b.terminals c.args.at
    c.in_ok-get.field-0.now shown.terminals
    (slice_get_read c.args.self.now.terminals.items (length c.args.self.now.terminals.items)
    c.args.at c.in_ok-get.field-0.now refl within read) in
    record { terminal = its.terminal; there = its.there; shown = its.shown.side }
