use Rattle.std.proofs.Common.{◌+◌, drop, ap, ◌∙◌, rules}
use Rattle.std.proofs.lemmas.List.{with_items_is}
use Rattle.lapd_pair.specs.Marks.{left_of}
use Rattle.lapd_pair.proofs.Lines.{octets_closed_up, counted_from}
use Rattle.lapd_pair.proofs.line.Line.close_up.Goals as goal

pub returns-clause-octets : goal.returns-clause-octets
returns-clause-octets c =
    let line = c.args.self.now in
    c.forget_taken.ensures.octets
    ∙ octets_closed_up line.first c.args.place line.end line.frames.items _ c.requires
    (ap (drop (line.first + 1)) (with_items_is line.frames c.to_first.new.frames (search rules))
    ∙ search rules)

pub returns-clause-polls : goal.returns-clause-polls
returns-clause-polls c =
    c.forget_taken.ensures.polls ∙ counted_from _ _ ∙ c.left_of-polls.ensures
    ∙ ap (left_of c.args.place) c.saturating_sub.ensures

pub returns-clause-finals : goal.returns-clause-finals
returns-clause-finals c =
    c.forget_taken.ensures.finals ∙ counted_from _ _ ∙ c.left_of-finals.ensures
    ∙ ap (left_of c.args.place) c.saturating_sub-2.ensures
