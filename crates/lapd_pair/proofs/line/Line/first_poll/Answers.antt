use Rattle.std.proofs.Common.{◌≤◌, refl, ◌∙◌, arith}
use Rattle.std.specs.List.{position_or_len}
use Rattle.lapd_frame.specs.declared.Role.TheVariants.{Command}
use Rattle.lapd_pair_laws.specs.Line.{is_poll}
use Rattle.lapd_pair.proofs.Lines.{first_marked_is, place_found, shown_on, found_passed}
use Rattle.lapd_pair.proofs.line.Line.first_poll.Goals as goal

pub returns-clause-place : goal.returns-clause-place
returns-clause-place c = λ frames o.
    let line = c.args.self.now in
    let few : c.saturating_sub-passed.result ≤ position_or_len is_poll frames =
    omega (arith, c.saturating_sub-passed.ensures, o.polls) in
    let is =
    c.marked_behind-place.ensures.place
    ∙ first_marked_is Command c.args.from line frames c.saturating_sub-passed.result o
    few in
    c.there.ensures ∙ place_found is_poll c.args.from line frames c.marked_behind-place.result o is

pub returns-clause-shows : goal.returns-clause-shows
returns-clause-shows c = λ frames o.
    let line = c.args.self.now in
    let few : c.saturating_sub-passed.result ≤ position_or_len is_poll frames =
    omega (arith, c.saturating_sub-passed.ensures, o.polls) in
    let is =
    c.marked_behind-place.ensures.place
    ∙ first_marked_is Command c.args.from line frames c.saturating_sub-passed.result o
    few in
    let found =
    found_passed line.first c.marked_behind-place.result (position_or_len is_poll frames)
    is in
    shown_on c.args.from line _ frames refl found o.finals o
