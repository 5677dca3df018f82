use Rattle.std.proofs.Common.{rules}
use Rattle.lapd_sides_links.proofs.primitive.PrimitiveDisplay.fmt.Goals as goal

pub returns-in-Management-Got : goal.returns-in-Management-Got
returns-in-Management-Got c = search rules
