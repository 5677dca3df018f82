use Rattle.std.proofs.Common.{Err, inl, inr, refl, sym, ap, subst}
use Rattle.lapd_sides.specs.declared.queued_side.QueuedSide.{QueuedSide}
use Rattle.lapd_sides.specs.declared.request.Request.TheVariants.{Give}
use Rattle.lapd_sides.specs.Either.{Answers, Gives}
use Rattle.lapd_sides.specs.Queued.{QueuesOrLacks}
use Rattle.lapd_sides.proofs.Queueing.{gives_at_once, gives_by_request, nothing_added, unmoved}
use Rattle.lapd_sides.proofs.queued_side.QueuedSide.give_with_room.Goals as goal

pub returns-in-Sent : goal.returns-in-Sent
returns-in-Sent c = inr (gives_at_once c.args.id c.args.octets.now c.args.now c.args.self.now
    c.send_at_once.new.self c.send_at_once.new.acts c.in-Sent.ensures)

pub returns-in-Unsent : goal.returns-in-Unsent
returns-in-Unsent c =
    let message = c.in-Unsent.message in
    let unsent = c.in-Unsent.ensures in
    gives_by_request c.args.id c.args.octets.now c.args.now message c.request.result
    c.args.self.now c.request.new.self unsent.0
    (subst (λ (old : QueuedSide). QueuesOrLacks (Answers (Give c.args.id message) c.args.now)
    c.request.result old c.request.new.self)
    (unmoved c.args.self.now c.send_at_once.new.self c.send_at_once.new.acts unsent.2.0 unsent.2.1)
    c.request.ensures)

pub returns-in-NoMemory : goal.returns-in-NoMemory
returns-in-NoMemory c =
    let old = c.args.self.now in
    let same = c.in-NoMemory.ensures in
    let call = Gives c.args.id c.args.octets.now c.args.now in
    subst (λ (new : QueuedSide). QueuesOrLacks call (Err c.without_message.result) old new)
    (sym (unmoved old c.send_at_once.new.self c.send_at_once.new.acts same.0 same.1))
    (inr (nothing_added (call (Err c.without_message.result)) old (inl (record {
      refused = ap Err c.without_message.ensures;
      unchanged = refl;
      nothing = refl;
    }))))
