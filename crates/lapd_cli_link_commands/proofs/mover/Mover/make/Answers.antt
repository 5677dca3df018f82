use Rattle.std.proofs.Common.{sym, ◌∙◌}
use Rattle.lapd_pair.specs.Moves.{move_of}
use Rattle.lapd_pair_laws.specs.Move.{NothingThere, NotRunning, NotYet}
use Rattle.lapd_cli_link_commands.proofs.Framed.{move_written}
use Rattle.lapd_cli_link_commands.proofs.Refusals.{refusal_printed, refused_as}
use Rattle.lapd_cli_link_commands.proofs.mover.Mover.make.Goals as goal

pub returns-in_ok-write_all-in-Ok : goal.returns-in_ok-write_all-in-Ok
returns-in_ok-write_all-in-Ok g c = λ w representation.
    let h = c.in-Ok.ensures.ok w representation in
    move_written w (move_of c.args.mv.now) h.happened c.apply_into.new.self c.side.result
    c.unit_of.result.now c.as_slice.result.now c.write_lines.new.text.items
    c.as_slice-in-Ok.result.now _ _
    representation.preserved h.is (h.same ∙ sym c.as_slice.ensures.value) h.representation
    c.side.ensures c.unit_of.ensures
    (c.in_ok-write_lines-in-Ok.ensures.ok h.happened.world h.representation)
    c.as_slice-in-Ok.ensures.value c.in_ok-write_all-in-Ok.ensures.bytes

pub returns-in-Err-NothingThere : goal.returns-in-Err-NothingThere
returns-in-Err-NothingThere g c = λ w representation.
    let refused =
    refused_as _ _ _ c.in-Err-NothingThere.field-0-is
    (c.in-Err-NothingThere.ensures.err w representation) in
    refusal_printed w _ NothingThere _ _ _ _ refused
    (c.in-Err-NothingThere.ensures.unchanged w representation) c.put_line.ensures.ok
    c.put_line.ensures.err

pub returns-in-Err-NotRunning : goal.returns-in-Err-NotRunning
returns-in-Err-NotRunning g c = λ w representation.
    let refused =
    refused_as _ _ _ c.in-Err-NotRunning.field-0-is
    (c.in-Err-NotRunning.ensures.err w representation) in
    refusal_printed w _ NotRunning _ _ _ _ refused
    (c.in-Err-NotRunning.ensures.unchanged w representation)
    c.put_line-in-Err-NotRunning.ensures.ok c.put_line-in-Err-NotRunning.ensures.err

pub returns-in-Err-NotYet : goal.returns-in-Err-NotYet
returns-in-Err-NotYet g c = λ w representation.
    let refused =
    refused_as _ _ _ c.in-Err-NotYet.field-0-is
    (c.in-Err-NotYet.ensures.err w representation) in
    refusal_printed w _ (NotYet c.in-Err-NotYet.to c.in-Err-NotYet.place) _ _ _ _ refused
    (c.in-Err-NotYet.ensures.unchanged w representation) c.put_not_yet.ensures.ok
    c.put_not_yet.ensures.err
