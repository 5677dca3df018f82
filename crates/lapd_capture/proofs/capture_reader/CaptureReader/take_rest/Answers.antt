use Rattle.std.proofs.Common.{rules, refl, ap, ◌∙◌, ◌+◌, ◌-◌, drop, length}
use Rattle.lapd_capture.specs.Reader.{reading_of}
use Rattle.lapd_capture.specs.Reading.{Reading}
use Rattle.lapd_capture.proofs.Steps.{last_stops, rest_read, same_step, stops}
use Rattle.lapd_capture.proofs.capture_reader.CaptureReader.take_rest.Goals as goal

pub returns-in_err-last-clause-step : goal.returns-in_err-last-clause-step
returns-in_err-last-clause-step g c = λ left e.
    let b = c.in_ok-take_body.ensures.body left e in
    stops g.R.Read.remaining _ _ _ c.take_last.new.self c.from_residual-in_err-last.ensures.1
    (last_stops g.R.Read.remaining c.take_body.new.self c.take_last.new.self _ c.args.count
    c.min-kept.result (c.args.count - 16 - c.min-kept.result) c.args.head.now
    (reading_of c.args.self.now left)
    c.requires (search rules) refl b.0 b.1 c.in_err-last.ensures.last)

pub end_block-requires : goal.end_block-requires
end_block-requires g c =
    ap (λ s. length s.body.items) c.take_last.ensures.same ∙ c.in_ok-take_body.ensures.len
    ∙ c.min-kept.ensures

pub returns-clause-step : goal.returns-clause-step
returns-clause-step g c = λ left e.
    let kept = c.min-kept.result in
    let b = c.in_ok-take_body.ensures.body left e in
    let l = c.in_ok-last.ensures.last (drop kept left) b.1 in
    let here = drop (c.args.count - 16 - kept + 4) (drop kept left) in
    same_step g.R.Read.remaining _ _ c.end_block.result c.end_block.new.self
    (rest_read c.args.count kept (c.args.count - 16 - kept) c.u32_at.result c.args.head.now
    c.in_ok-last.last (reading_of c.args.self.now left)
    (reading_of c.take_last.new.self here)
    c.requires (search rules) c.min-kept.ensures refl b.0 l.0 l.1 c.u32_at.ensures.number
    (ap (λ s. reading_of s here) c.take_last.ensures.same
    ∙ ap {A = Reading} (λ r. record r { left = here }) b.2))
    (c.end_block.ensures.step here l.2)
