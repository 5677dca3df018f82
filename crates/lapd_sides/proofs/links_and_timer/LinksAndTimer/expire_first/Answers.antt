use Rattle.std.proofs.Common.{None, Some, ap, ◌∙◌}
use Rattle.lapd_timers.specs.Due.{Timers}
use Rattle.lapd_sides_links.specs.Effects.{stopped}
use Rattle.lapd_sides.proofs.Calling.{due_so}
use Rattle.lapd_sides.proofs.links_and_timer.LinksAndTimer.expire_first.Goals as goal

pub returns-in_default-clause-expired : goal.returns-in_default-clause-expired
returns-in_default-clause-expired c = λ side s shown. record {
  due =
      due_so c.args.now s c.args.self.now.timers c.due.result None shown.timers c.in_default.is
      (c.due.ensures.due side s.links shown.links);
  shown = shown;
  nothing = c.requires.empty;
}

pub returns-in-Some-of-clause-expired : goal.returns-in-Some-of-clause-expired
returns-in-Some-of-clause-expired c = λ side s shown.
    let first = c.in-Some.field-0 in
    let after = c.expire.ensures.step side s.links shown.links in
    record {
      expiry = first;
      due =
          due_so c.args.now s c.args.self.now.timers c.due.result (Some first) shown.timers
          c.in-Some.is (c.due.ensures.due side s.links shown.links);
      id = _;
      of = c.in-Some-of.is;
      shown = after.shown;
      given = after.given;
      timers = c.expire.ensures.timers ∙ shown.timers;
    }

pub returns-in-None-clause-expired : goal.returns-in-None-clause-expired
returns-in-None-clause-expired c = λ side s shown.
    let first = c.in-Some.field-0 in
    record {
      expiry = first;
      due =
          due_so c.args.now s c.args.self.now.timers c.due.result (Some first) shown.timers
          c.in-Some.is (c.due.ensures.due side s.links shown.links);
      of = c.in-None.is;
      shown = record {
        links = shown.links;
        timers = c.stop.ensures ∙ ap (λ (t : Timers). stopped first.timer t) shown.timers;
      };
      nothing = c.requires.empty;
    }
