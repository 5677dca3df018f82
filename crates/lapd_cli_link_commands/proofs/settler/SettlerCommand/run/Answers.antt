use Rattle.lapd_cli_link_commands.proofs.Settling.{move_made_around, recover_made_around}
use Rattle.lapd_cli_link_commands.proofs.settler.SettlerCommand.run.Goals as goal

pub returns-then-is_word-2 : goal.returns-then-is_word-2
returns-then-is_word-2 g c = λ s representation.
    recover_made_around s c.args.line.now c.recover.result (record { mover = c.recover.new.self }) _
    _ c.is_word.result c.is_word-else-is_word.result c.is_word.ensures c.if-is_word.false
    c.is_word-else-is_word.ensures c.if-is_word-2.true (c.recover.ensures s representation)

pub returns-else-is_word-2 : goal.returns-else-is_word-2
returns-else-is_word-2 g c = λ s representation.
    move_made_around s c.args.line.now c.run.result (record { mover = c.run.new.self }) _ _
    c.is_word.result c.is_word-else-is_word.result c.is_word.ensures c.if-is_word.false
    c.is_word-else-is_word.ensures c.if-is_word-2.false (c.run.ensures s representation)
