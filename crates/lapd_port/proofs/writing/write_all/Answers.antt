use Rattle.std.proofs.Common.{rules, ap, ◌∙◌, arith}
use Rattle.std.proofs.lemmas.Grind.{common_steps}
use Rattle.lapd_port.specs.Device.{failures_after}
use Rattle.lapd_port.proofs.Pieces.{IsLeft, left_after, left_preserved}
use Rattle.lapd_port.proofs.Turning.{made_some, with_turn}
use Rattle.lapd_port.proofs.writing.write_all.Goals as goal
use Rattle.lapd_port.proofs.writing.write_all.Goals.{in-Ok+else-is_empty, in-Err-Interrupted}

pub returns-then-is_empty-clause-turns : goal.returns-then-is_empty-clause-turns
returns-then-is_empty-clause-turns g c =
    made_some _ _ _ _ _ _ c.loop-turn.invariant.turns c.write.ensures.turn c.loop-turn-test.true
    (λ is. cc)

pub returns-in-Err-Failed-clause-turns : goal.returns-in-Err-Failed-clause-turns
returns-in-Err-Failed-clause-turns g c =
    made_some _ _ _ _ _ _ c.loop-turn.invariant.turns c.write.ensures.turn c.loop-turn-test.true
    (λ is. cc)

pub loop-turn-preserved : goal.loop-turn-preserved
loop-turn-preserved g c =
    let before : IsLeft _ _ _ _ =
    (c.loop-turn.invariant.written, c.loop-turn.invariant.some_left) in
    let after : IsLeft c.args.octets.now c.match-write.rest.now (g.W.Sink.written c.args.sink.now)
    (g.W.Sink.written c.write.new.self) =
    elim c.match-write.branch [
      | in-Ok+else-is_empty w ↦ rw w.rest-is
          (left_after _ _ _ _ _ _ before w.in-Ok.ensures.octets (search rules))
      | in-Err-Interrupted w ↦ rw w.rest-is
          (left_preserved _ _ _ _ _ before w.in-Err-Interrupted.ensures.octets)
    ] in
    record {
      written = after.0;
      some_left = after.1;
      no_failure = elim c.match-write.branch [
        | in-Ok+else-is_empty w ↦ w.in-Ok.ensures.failures ∙ c.loop-turn.invariant.no_failure
        | in-Err-Interrupted w ↦ w.in-Err-Interrupted.ensures.failures
            ∙ ap (λ error. failures_after error (g.W.Sink.failure_count c.loop-turn.sink))
            w.in-Err-Interrupted.field-0-is ∙ c.loop-turn.invariant.no_failure
      ];
      turns = with_turn _ _ _ _ _ c.loop-turn.invariant.turns c.write.ensures.turn;
    }

pub returns-then-is_empty-clause-text : goal.returns-then-is_empty-clause-text
returns-then-is_empty-clause-text g c = grind (arith, common_steps)
