use Rattle.std.proofs.Common.{sym, ◌∙◌}
use Rattle.lapd_pair.proofs.Recording.{sent_on, sent_nothing}
use Rattle.lapd_pair.proofs.recorded_link.RecordedLink.put_sent.Goals as goal

pub returns-in-Some-clause-shows : goal.returns-in-Some-clause-shows
returns-in-Some-clause-shows c =
    λ side e o rest copy t same h. sent_on side c.side.result e o c.args.out.now rest
    c.args.self.now c.args.outward.now c.put.new.self copy t c.args.octets.now c.in-Some.frame
    c.side.ensures (sym (c.frame.ensures e h.link) ∙ c.in-Some.is) c.put.ensures.shows same h

pub returns-in_default-clause-shows : goal.returns-in_default-clause-shows
returns-in_default-clause-shows c =
    λ side e o rest copy t same h. sent_nothing side e o c.args.out.now rest c.args.self.now
    c.args.outward.now copy t c.args.octets.now (sym (c.frame.ensures e h.link) ∙ c.in_default.is)
    same h
