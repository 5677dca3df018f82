use Rattle.lapd_capture.proofs.Steps.{other_is_passed}
use Rattle.lapd_capture.proofs.capture_reader.CaptureReader.take_other.Goals as goal

pub returns-clause-step : goal.returns-clause-step
returns-clause-step g c =
    λ left e. other_is_passed g.R.Read.remaining c.args.self.now c.advance.new.self c.args.count
    c.in_ok-advance.ensures.ok left e
