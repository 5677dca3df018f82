use Rattle.std.proofs.Common.{List, sym, ◌∙◌, subst}
use Rattle.lapd_frame.specs.Address.{other_side}
use Rattle.lapd_link_definition.specs.declared.out.Out.{Out}
use Rattle.lapd_pair_laws.specs.Move.{loses}
use Rattle.lapd_pair.specs.Station.{IsDone}
use Rattle.lapd_pair.proofs.Views.{lost_shown, lost_nowhere}
use Rattle.lapd_pair.proofs.recorded_link.RecordedLink.lose.Goals as goal

pub returns-then-lose-clause-ok : goal.returns-then-lose-clause-ok
returns-then-lose-clause-ok c = λ side v preserved shown.
    let there =
    sym (c.lose.ensures.there (other_side side) v.incoming shown.incoming)
    ∙ c.if-lose.true in
    subst (λ (outs : List Out). IsDone side c.args.self.now c.lose.new.self c.args.outward.now
    (loses c.args.place v) outs) (sym c.clear.ensures)
    (lost_shown side c.args.place v c.args.self.now c.args.inward.now c.lose.new.self
    c.args.outward.now there shown
    (c.lose.ensures.shows (other_side side) v.incoming shown.incoming c.if-lose.true))

pub returns-else-lose-clause-err : goal.returns-else-lose-clause-err
returns-else-lose-clause-err c =
    λ side v shown. lost_nowhere c.args.place v
    (sym (c.lose.ensures.there (other_side side) v.incoming shown.incoming) ∙ c.if-lose.false)
