use Rattle.std.proofs.Common.{◌≡◌, false, refl, sym, subst, Result}
use Rattle.lapd_frame.specs.declared.frame_fault.FrameFault.{FrameFault}
use Rattle.lapd_frame.specs.Frame.{Fields}
use Rattle.lapd_frame.specs.PredictedFrame.{predicted_fields}
use Rattle.lapd_sides_links.specs.Effects.{no_effects}
use Rattle.lapd_sides.specs.Shows.{are_predicted}
use Rattle.lapd_sides.proofs.Predicted.{not_read_as_predictable}
use Rattle.lapd_sides.proofs.Receiving.{received_at_once}
use Rattle.lapd_sides.proofs.links_and_timer.LinksAndTimer.take_predicted.Goals as goal

pub returns-in-Some-clause-taken : goal.returns-in-Some-clause-taken
returns-in-Some-clause-taken c = λ is.
    let h = c.act_predicted.ensures.ok is in
    record {
      given = h.given;
      appended = h.appended;
      does = record {
        frame = c.in-Some.frame;
        found = c.in-Some.ensures.found;
        received = received_at_once c.args.self.now c.act_predicted.new.self no_effects h.given
            c.args.now (predicted_fields c.in-Some.frame) refl h.does;
      };
    }

pub returns-in-Some-clause-declined : goal.returns-in-Some-clause-declined
returns-in-Some-clause-declined c = λ is side links here.
    subst (λ (r : Result Fields FrameFault). are_predicted r links ≡ false)
    (sym c.in-Some.ensures.found) (c.act_predicted.ensures.declined is side links here)

pub returns-in-None-clause-declined : goal.returns-in-None-clause-declined
returns-in-None-clause-declined c = λ is side links here.
    not_read_as_predictable _ links c.in-None.ensures.declined
