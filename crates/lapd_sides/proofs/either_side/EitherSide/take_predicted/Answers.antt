use Rattle.std.proofs.Common.{sym, ap, subst, ◌∙◌}
use Rattle.lapd_frame.specs.declared.Side.{Side}
use Rattle.lapd_frame.specs.PredictedFrame.{predicted_fields}
use Rattle.lapd_frame.specs.Reading.{frame_at}
use Rattle.lapd_sides_links.specs.Shown.{LinksHaveNone}
use Rattle.lapd_sides.specs.declared.links_and_timer.LinksAndTimer.{LinksAndTimer}
use Rattle.lapd_sides.specs.Shows.{Receive, are_predicted, frame_on_links}
use Rattle.lapd_frame.specs.Address.{other_side}
use Rattle.lapd_sides.proofs.EitherSteps.{declines, takes_predicted}
use Rattle.lapd_sides.proofs.either_side.EitherSide.take_predicted.Goals as goal

pub returns-clause-taken : goal.returns-clause-taken
returns-clause-taken c = λ is.
    let h = c.take_predicted.ensures.taken is in
    record {
      given = h.given;
      appended = h.appended;
      does = takes_predicted c.args.self.now c.take_predicted.new.self c.args.bytes.now
          h.does.frame c.args.now h.given
          (ap (λ (from : Side). frame_at from c.args.bytes.now)
          (sym (c.opposite-from.ensures ∙ ap other_side c.side.ensures)) ∙ h.does.found)
          (subst (λ (l : LinksAndTimer). Receive l c.take_predicted.new.self h.given
          (frame_on_links c.args.now (predicted_fields h.does.frame))) c.served.ensures.value
          h.does.received);
    }

pub returns-clause-declined : goal.returns-clause-declined
returns-clause-declined c = λ is.
    declines c.args.self.now c.args.bytes.now c.served.result.now c.opposite-from.result
    c.served.ensures.value (c.opposite-from.ensures ∙ ap other_side c.side.ensures)
    (c.take_predicted.ensures.declined is)
