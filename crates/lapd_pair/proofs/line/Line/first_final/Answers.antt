use Rattle.std.proofs.Common.{◌≤◌, refl, ◌∙◌, arith}
use Rattle.std.specs.List.{position_or_len}
use Rattle.lapd_frame.specs.declared.Role.TheVariants.{Answer}
use Rattle.lapd_pair_laws.specs.Line.{is_final}
use Rattle.lapd_pair.proofs.Lines.{first_marked_is, place_found, shown_on, found_passed}
use Rattle.lapd_pair.proofs.line.Line.first_final.Goals as goal

pub returns-clause-place : goal.returns-clause-place
returns-clause-place c = λ frames o.
    let line = c.args.self.now in
    let few : c.saturating_sub-passed.result ≤ position_or_len is_final frames =
    omega (arith, c.saturating_sub-passed.ensures, o.finals) in
    let is =
    c.marked_behind-place.ensures.place
    ∙ first_marked_is Answer c.args.from line frames c.saturating_sub-passed.result o few in
    c.there.ensures ∙ place_found is_final c.args.from line frames c.marked_behind-place.result o is

pub returns-clause-shows : goal.returns-clause-shows
returns-clause-shows c = λ frames o.
    let line = c.args.self.now in
    let few : c.saturating_sub-passed.result ≤ position_or_len is_final frames =
    omega (arith, c.saturating_sub-passed.ensures, o.finals) in
    let is =
    c.marked_behind-place.ensures.place
    ∙ first_marked_is Answer c.args.from line frames c.saturating_sub-passed.result o few in
    let found =
    found_passed line.first c.marked_behind-place.result (position_or_len is_final frames)
    is in
    shown_on c.args.from line _ frames refl o.polls found o
