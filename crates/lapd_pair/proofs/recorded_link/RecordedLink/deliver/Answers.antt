use Rattle.std.proofs.Common.{Err, refl, sym, subst}
use Rattle.lapd_frame.specs.declared.Side.{Side}
use Rattle.lapd_frame.specs.Address.{other_side}
use Rattle.lapd_pair.specs.Line.{IsFirst}
use Rattle.lapd_pair.proofs.Views.{Read, none_delivered, sender_shown, unread, read_of, same_read, delivered, delivery_refused}
use Rattle.lapd_pair.proofs.recorded_link.RecordedLink.deliver.Goals as goal

pub returns-in_default-clause-err : goal.returns-in_default-clause-err
returns-in_default-clause-err c =
    λ side v shown. none_delivered v
    (c.in_default.ensures.none (other_side side) v.incoming shown.incoming)

pub returns-in_default-read-clause-err : goal.returns-in_default-read-clause-err
returns-in_default-read-clause-err c = λ side v shown.
    let from =
    sender_shown side c.side.result c.other.result c.args.self.now v.station c.side.ensures
    c.other.ensures shown.station in
    let first =
    subst (λ (x : Side). IsFirst x c.in-Some.octets.now v.incoming) from
    (c.in-Some.ensures.some (other_side side) v.incoming shown.incoming) in
    absurd (unread c.other.result c.in-Some.octets.now v.incoming (Err c.in_default-read.field-0)
    c.in_default-read.field-0 c.in_default-read.ensures.only first refl)

pub returns-in-Ok-receive-clause-ok : goal.returns-in-Ok-receive-clause-ok
returns-in-Ok-receive-clause-ok c = λ side v preserved shown.
    let from =
    sender_shown side c.side.result c.other.result c.args.self.now v.station c.side.ensures
    c.other.ensures shown.station in
    let first =
    subst (λ (x : Side). IsFirst x c.in-Some.octets.now v.incoming) from
    (c.in-Some.ensures.some (other_side side) v.incoming shown.incoming) in
    let there =
    read_of c.other.result c.in-Some.octets.now v.incoming (Read c.in-Ok.frame)
    c.in-Ok.ensures.only first in
    let same = same_read _ _ (sym there.3) in
    delivered side v there.0 there.1 c.args.self.now c.receive.new.self c.args.inward.now
    c.take_first.new.self c.args.outward.now c.receive.new.outward c.receive.new.outs there.2
    preserved shown (c.in-Ok-receive.ensures.ok there.0 same there.4) c.take_first.ensures.shows

pub returns-in-Err-clause-err : goal.returns-in-Err-clause-err
returns-in-Err-clause-err c = λ side v shown.
    let from =
    sender_shown side c.side.result c.other.result c.args.self.now v.station c.side.ensures
    c.other.ensures shown.station in
    let first =
    subst (λ (x : Side). IsFirst x c.in-Some.octets.now v.incoming) from
    (c.in-Some.ensures.some (other_side side) v.incoming shown.incoming) in
    let there =
    read_of c.other.result c.in-Some.octets.now v.incoming (Read c.in-Ok.frame)
    c.in-Ok.ensures.only first in
    let same = same_read _ _ (sym there.3) in
    delivery_refused side v there.0 there.1 c.args.self.now c.args.inward.now c.args.outward.now
    c.in-Err.fault there.2 shown (c.in-Err.ensures.err there.0 same)

pub returns-in-Err-clause-unchanged : goal.returns-in-Err-clause-unchanged
returns-in-Err-clause-unchanged c = λ side v shown.
    record {
      station = c.in-Err.ensures.unchanged.station side v.station shown.station;
      incoming = shown.incoming;
      outgoing = c.in-Err.ensures.unchanged.line side v.outgoing shown.outgoing;
    }
