use Rattle.lapd_pair.specs.Station.{IsDone}
use Rattle.std.proofs.Common.{List, sym, subst}
use Rattle.lapd_link_definition.specs.declared.out.Out.{Out}
use Rattle.lapd_pair_laws.specs.Move.{quietly, restarts}
use Rattle.lapd_pair.specs.declared.recorded_link.RecordedLink.{RecordedLink}
use Rattle.lapd_pair.proofs.Restarted.{started_anew}
use Rattle.lapd_pair.proofs.recorded_link.RecordedLink.restart.Goals as goal

pub returns-clause-ok : goal.returns-clause-ok
returns-clause-ok c = λ side v preserved shown.
    let new : RecordedLink = record { link = c.in-Ok.link; history = c.discard_rest.new.self } in
    subst (λ (outs : List Out). IsDone side new c.clear.new.self c.clear-2.new.self
    (quietly (restarts v)) outs) (sym c.clear-3.ensures)
    (started_anew side c.side.result c.params.result v c.args.self.now c.in-Ok.link
    c.discard_rest.new.self c.args.inward.now c.args.outward.now c.clear.new.self
    c.clear-2.new.self
    c.side.ensures c.params.ensures c.in-Ok.ensures.end c.in-Ok.ensures.setup
    c.discard_rest.ensures.history c.clear.ensures.shows c.clear-2.ensures.shows preserved
    shown)
