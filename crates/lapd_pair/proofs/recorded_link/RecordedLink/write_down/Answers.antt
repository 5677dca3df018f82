use Rattle.std.proofs.Common.{rules, sym, ◌∙◌}
use Rattle.lapd_pair.proofs.Recording.{written_message, written_acknowledged, written_dropped, written_receipt}
use Rattle.lapd_pair.proofs.recorded_link.RecordedLink.write_down.Goals as goal

pub returns-in-SendMessage-clause-shows : goal.returns-in-SendMessage-clause-shows
returns-in-SendMessage-clause-shows c =
    λ side e o rest line t h. written_message side e o c.args.out.now rest c.args.self.now line
    c.args.copy.now t c.send.new.self c.in-SendMessage.place c.in-SendMessage.field-1
    c.in-SendMessage.is c.send.ensures.history h

pub returns-in-Some-clause-shows : goal.returns-in-Some-clause-shows
returns-in-Some-clause-shows c =
    λ side e o rest line t h. written_receipt side e o c.args.out.now rest c.args.self.now line
    c.args.copy.now t _ c.in-Some.octets c.in-Up.is (sym c.take.ensures.value ∙ c.in-Some.is)
    (search rules) h

pub returns-in-Some-take-clause-shows : goal.returns-in-Some-take-clause-shows
returns-in-Some-take-clause-shows c = search rules

pub returns-in-Acknowledged-clause-shows : goal.returns-in-Acknowledged-clause-shows
returns-in-Acknowledged-clause-shows c =
    λ side e o rest line t h. written_acknowledged side e o c.args.out.now rest c.args.self.now line
    c.args.copy.now t c.acknowledge.new.self c.in-Acknowledged.n c.in-Acknowledged.is
    c.acknowledge.ensures.history h

pub returns-in-Dropped-clause-shows : goal.returns-in-Dropped-clause-shows
returns-in-Dropped-clause-shows c =
    λ side e o rest line t h. written_dropped side e o c.args.out.now rest c.args.self.now line
    c.args.copy.now t c.discard.new.self c.in-Dropped.n c.in-Dropped.is c.discard.ensures.history h
