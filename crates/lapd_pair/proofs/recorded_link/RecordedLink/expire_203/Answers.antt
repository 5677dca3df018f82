use Rattle.lapd_pair.specs.Station.{with_outs}
use Rattle.std.proofs.Common.{[], sym, ◌∙◌}
use Rattle.lapd_timers.specs.declared.timer.Timer.TheVariants.{T203}
use Rattle.lapd_mod128.specs.Counting.{Tagged}
use Rattle.lapd_link_definition.specs.Input.{Expiry}
use Rattle.lapd_pair_laws.specs.Move.{takes, expires_203}
use Rattle.lapd_pair.proofs.Views.{stopped_203, runs_203, acts_as, refuses_as}
use Rattle.lapd_pair.proofs.recorded_link.RecordedLink.expire_203.Goals as goal

pub returns-then-not-running-clause-err : goal.returns-then-not-running-clause-err
returns-then-not-running-clause-err c =
    λ side v shown. stopped_203 v
    (sym (c.running.ensures v.station.end shown.link) ∙ c.if-not-running.true)

pub returns-clause-ok : goal.returns-clause-ok
returns-clause-ok c =
    acts_as (λ side v. takes Tagged (Expiry T203) [] v) (λ side v. expires_203 Tagged v)
    c.args.self.now c.take.new.self c.args.outward.now c.take.new.outward
    (with_outs c.take.result c.take.new.outs)
    (λ side v shown. runs_203 v
    (sym (c.running.ensures v.station.end shown.link) ∙ c.if-not-running.false))
    c.take.ensures.ok

pub returns-clause-err : goal.returns-clause-err
returns-clause-err c =
    refuses_as (λ side v. takes Tagged (Expiry T203) [] v) (λ side v. expires_203 Tagged v)
    c.args.self.now (with_outs c.take.result c.take.new.outs)
    (λ side v shown. runs_203 v
    (sym (c.running.ensures v.station.end shown.link) ∙ c.if-not-running.false))
    c.take.ensures.err
