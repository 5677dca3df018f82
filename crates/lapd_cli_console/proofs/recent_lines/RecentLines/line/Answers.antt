use Rattle.std.proofs.Common.{Some, arith, sym, ap, ◌∙◌, take, option_map, slice_get}
use Rattle.lapd_cli_console.specs.Recent.{lines_in}
use Rattle.lapd_cli_console.proofs.KeptLines.{head_kept, line_kept, take_min}
use Rattle.lapd_cli_console.proofs.recent_lines.RecentLines.line.Goals as goal

pub returns-then-place-eq0 : goal.returns-then-place-eq0
returns-then-place-eq0 g c = λ r h.
    let number = c.in_ok-checked_sub.ensures in
    let place = c.in_ok-place.ensures in
    head_kept r c.args.number c.args.self.now.ended c.as_slice.result.now (omega arith)
    c.ranges.number.fits h.ended (omega arith) (c.as_slice.ensures.value ∙ h.head)

pub returns-in_err-line : goal.returns-in_err-line
returns-in_err-line g c = λ r h.
    let number = c.in_ok-checked_sub.ensures in
    let place = c.in_ok-place.ensures in
    let behind = c.if-place-eq0.false in
    rw c.from_residual-in_err-line.ensures
    (sym (line_kept r c.args.number c.args.self.now.ended c.in_ok-place.place (omega arith)
    c.ranges.number.fits h.ended (omega arith) (omega arith)
    ∙ ap (λ x. option_map (take 4096) (slice_get (lines_in x) c.in_ok-place.place))
    (sym (c.as_slice-2.ensures.value ∙ h.part))
    ∙ ap (option_map (take 4096)) (sym c.in_err-line.ensures)))

pub returns : goal.returns
returns g c = λ r h.
    let number = c.in_ok-checked_sub.ensures in
    let place = c.in_ok-place.ensures in
    let behind = c.if-place-eq0.false in
    sym (line_kept r c.args.number c.args.self.now.ended c.in_ok-place.place (omega arith)
    c.ranges.number.fits h.ended (omega arith) (omega arith)
    ∙ ap (λ x. option_map (take 4096) (slice_get (lines_in x) c.in_ok-place.place))
    (sym (c.as_slice-2.ensures.value ∙ h.part))
    ∙ ap (option_map (take 4096)) (sym c.in_ok-line.ensures)
    ∙ ap Some (sym (ap (λ n. take n c.in_ok-line.line.now) c.min.ensures
    ∙ take_min 4096 c.in_ok-line.line.now)))
