use Rattle.lapd_pair.specs.Station.{with_outs, ShowsViewAsBefore}
use Rattle.std.proofs.Common.{[], sym, ap, ◌∙◌, subst}
use Rattle.lapd_timers.specs.declared.timer.Timer.TheVariants.{T200}
use Rattle.lapd_frame.specs.declared.Side.{Side}
use Rattle.lapd_mod128.specs.Counting.{Tagged}
use Rattle.lapd_link_definition.specs.Input.{Expiry}
use Rattle.lapd_pair_laws.specs.Move.{NotYet, takes, expires_200}
use Rattle.lapd_pair.specs.Line.{IsOn}
use Rattle.lapd_pair.proofs.Views.{Refuses, stopped_200, polls_200, finals_200, runs_200, side_shown, sender_shown, request_takes_none, acts_in_view, refuses_in_view, shows_view, seen_alike, acts_as_seen, shows_as_seen, acts_as_in_view, refuses_as_in_view}
use Rattle.lapd_pair.proofs.recorded_link.RecordedLink.expire_200.Goals as goal

pub returns-then-not-running-clause-err : goal.returns-then-not-running-clause-err
returns-then-not-running-clause-err c =
    λ side v shown. stopped_200 side v
    (sym (c.running.ensures v.station.end shown.station.link) ∙ c.if-not-running.true)

pub returns-in-Some-clause-err : goal.returns-in-Some-clause-err
returns-in-Some-clause-err c = λ side v shown.
    let own =
    side_shown side c.side-side.result c.args.self.now v.station c.side-side.ensures
    shown.station in
    let other =
    sender_shown side c.side-side.result c.other.result c.args.self.now v.station
    c.side-side.ensures c.other.ensures shown.station in
    let poll =
    sym (c.first_poll.ensures.place v.outgoing
    (subst (λ (x : Side). IsOn x c.args.outward.now v.outgoing) (sym own)
    shown.outgoing)) ∙ c.in-Some.is in
    polls_200 side v c.in-Some.place
    (sym (c.running.ensures v.station.end shown.station.link) ∙ c.if-not-running.false) poll
    ∙ ap (λ (x : Side). Refuses (NotYet x c.in-Some.place)) other

pub returns-in-Some-clause-unchanged : goal.returns-in-Some-clause-unchanged
returns-in-Some-clause-unchanged c = λ side v shown.
    let own =
    side_shown side c.side-side.result c.args.self.now v.station c.side-side.ensures
    shown.station in
    let other =
    sender_shown side c.side-side.result c.other.result c.args.self.now v.station
    c.side-side.ensures c.other.ensures shown.station in
    seen_alike side c.side-side.result c.other.result c.args.self.now c.args.inward.now
    c.args.inward.now c.args.outward.now c.first_poll.new.self v own other (λ on. on)
    (c.first_poll.ensures.shows v.outgoing) shown

pub returns-in-Some-first_final-clause-err : goal.returns-in-Some-first_final-clause-err
returns-in-Some-first_final-clause-err c = λ side v shown.
    let own =
    side_shown side c.side-side.result c.args.self.now v.station c.side-side.ensures
    shown.station in
    let other =
    sender_shown side c.side-side.result c.other-2.result c.args.self.now v.station
    c.side-side.ensures c.other-2.ensures shown.station in
    let poll =
    sym (c.first_poll.ensures.place v.outgoing
    (subst (λ (x : Side). IsOn x c.args.outward.now v.outgoing) (sym own)
    shown.outgoing)) ∙ c.in_default.is in
    let final =
    sym (c.first_final.ensures.place v.incoming
    (subst (λ (x : Side). IsOn x c.args.inward.now v.incoming) other shown.incoming))
    ∙ c.in-Some-first_final.is in
    finals_200 side v c.in-Some-first_final.place
    (sym (c.running.ensures v.station.end shown.station.link) ∙ c.if-not-running.false) poll
    final ∙ ap (λ (x : Side). Refuses (NotYet x c.in-Some-first_final.place)) (sym own)

pub returns-in-Some-first_final-clause-unchanged : goal.returns-in-Some-first_final-clause-unchanged
returns-in-Some-first_final-clause-unchanged c = λ side v shown.
    let own =
    side_shown side c.side-side.result c.args.self.now v.station c.side-side.ensures
    shown.station in
    let other =
    sender_shown side c.side-side.result c.other-2.result c.args.self.now v.station
    c.side-side.ensures c.other-2.ensures shown.station in
    seen_alike side c.side-side.result c.other-2.result c.args.self.now c.args.inward.now
    c.first_final.new.self c.args.outward.now c.first_poll.new.self v own other
    (c.first_final.ensures.shows v.incoming) (c.first_poll.ensures.shows v.outgoing) shown

pub returns-clause-ok : goal.returns-clause-ok
returns-clause-ok c =
    let old = c.args.self.now in
    let inward = c.args.inward.now in
    let outward = c.args.outward.now in
    let seen : ShowsViewAsBefore old inward outward old c.first_final.new.self
    c.first_poll.new.self =
    λ side v shown.
    let own = side_shown side c.side-side.result old v.station c.side-side.ensures shown.station in
    let other =
    sender_shown side c.side-side.result c.other-2.result old v.station c.side-side.ensures
    c.other-2.ensures shown.station in
    seen_alike side c.side-side.result c.other-2.result old inward c.first_final.new.self outward
    c.first_poll.new.self v own other (c.first_final.ensures.shows v.incoming)
    (c.first_poll.ensures.shows v.outgoing) shown in
    acts_as_in_view (λ side v. takes Tagged (Expiry T200) [] v)
    (λ side v. expires_200 Tagged side v) old c.take.new.self inward outward
    c.first_final.new.self c.take.new.outward (with_outs c.take.result c.take.new.outs)
    (λ side v shown.
    let own = side_shown side c.side-side.result old v.station c.side-side.ensures shown.station in
    let other =
    sender_shown side c.side-side.result c.other-2.result old v.station c.side-side.ensures
    c.other-2.ensures shown.station in
    let poll =
    sym (c.first_poll.ensures.place v.outgoing
    (subst (λ (x : Side). IsOn x outward v.outgoing) (sym own) shown.outgoing))
    ∙ c.in_default.is in
    let final =
    sym (c.first_final.ensures.place v.incoming
    (subst (λ (x : Side). IsOn x inward v.incoming) other shown.incoming))
    ∙ c.in_default-first_final.is in
    runs_200 side v
    (sym (c.running.ensures v.station.end shown.station.link) ∙ c.if-not-running.false) poll
    final)
    (acts_as_seen (λ side v. takes Tagged (Expiry T200) [] v) old c.take.new.self inward
    c.first_final.new.self c.first_final.new.self outward c.first_poll.new.self
    c.take.new.outward (with_outs c.take.result c.take.new.outs) seen
    (acts_in_view (λ side v. takes Tagged (Expiry T200) [] v) old c.take.new.self
    c.first_final.new.self c.first_poll.new.self c.take.new.outward
    (with_outs c.take.result c.take.new.outs) (request_takes_none (Expiry T200) [])
    c.take.ensures.ok))

pub returns-clause-err : goal.returns-clause-err
returns-clause-err c =
    let old = c.args.self.now in
    let inward = c.args.inward.now in
    let outward = c.args.outward.now in
    refuses_as_in_view (λ side v. takes Tagged (Expiry T200) [] v)
    (λ side v. expires_200 Tagged side v) old inward outward
    (with_outs c.take.result c.take.new.outs)
    (λ side v shown.
    let own = side_shown side c.side-side.result old v.station c.side-side.ensures shown.station in
    let other =
    sender_shown side c.side-side.result c.other-2.result old v.station c.side-side.ensures
    c.other-2.ensures shown.station in
    let poll =
    sym (c.first_poll.ensures.place v.outgoing
    (subst (λ (x : Side). IsOn x outward v.outgoing) (sym own) shown.outgoing))
    ∙ c.in_default.is in
    let final =
    sym (c.first_final.ensures.place v.incoming
    (subst (λ (x : Side). IsOn x inward v.incoming) other shown.incoming))
    ∙ c.in_default-first_final.is in
    runs_200 side v
    (sym (c.running.ensures v.station.end shown.station.link) ∙ c.if-not-running.false) poll
    final)
    (refuses_in_view (λ side v. takes Tagged (Expiry T200) [] v) old inward outward
    (with_outs c.take.result c.take.new.outs) c.take.ensures.err)

pub returns-clause-unchanged : goal.returns-clause-unchanged
returns-clause-unchanged c =
    let old = c.args.self.now in
    let inward = c.args.inward.now in
    let outward = c.args.outward.now in
    let seen : ShowsViewAsBefore old inward outward old c.first_final.new.self
    c.first_poll.new.self =
    λ side v shown.
    let own = side_shown side c.side-side.result old v.station c.side-side.ensures shown.station in
    let other =
    sender_shown side c.side-side.result c.other-2.result old v.station c.side-side.ensures
    c.other-2.ensures shown.station in
    seen_alike side c.side-side.result c.other-2.result old inward c.first_final.new.self outward
    c.first_poll.new.self v own other (c.first_final.ensures.shows v.incoming)
    (c.first_poll.ensures.shows v.outgoing) shown in
    shows_as_seen old c.take.new.self inward c.first_final.new.self c.first_final.new.self outward
    c.first_poll.new.self c.take.new.outward (with_outs c.take.result c.take.new.outs) seen
    (shows_view old c.take.new.self c.first_final.new.self c.first_poll.new.self c.take.new.outward
    (with_outs c.take.result c.take.new.outs) c.take.ensures.unchanged)
