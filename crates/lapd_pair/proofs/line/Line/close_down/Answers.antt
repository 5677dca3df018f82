use Rattle.std.proofs.Common.{◌-◌, take, ap, ◌∙◌, rules}
use Rattle.std.proofs.lemmas.List.{with_items_is}
use Rattle.lapd_pair.specs.Marks.{left_of}
use Rattle.lapd_pair.proofs.Lines.{octets_closed_down, counted_from}
use Rattle.lapd_pair.proofs.line.Line.close_down.Goals as goal

pub returns-clause-octets : goal.returns-clause-octets
returns-clause-octets c =
    let line = c.args.self.now in
    octets_closed_down line.first c.args.place line.end line.frames.items _
    (ap (take (line.end - 1)) (with_items_is line.frames c.to_last.new.frames (search rules))
    ∙ search rules)

pub returns-clause-polls : goal.returns-clause-polls
returns-clause-polls c =
    counted_from _ _ ∙ c.left_of-polls.ensures ∙ ap (left_of c.args.place) c.saturating_sub.ensures

pub returns-clause-finals : goal.returns-clause-finals
returns-clause-finals c =
    counted_from _ _ ∙ c.left_of-finals.ensures
    ∙ ap (left_of c.args.place) c.saturating_sub-2.ensures
