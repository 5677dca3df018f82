-- The words of outputs, and the letters of error reports (Q.921 Appendix II), as characters.
use Rattle.std.specs.Prelude.{ℕ, List, [], codes}
use Rattle.lapd_link_definition.specs.declared.out.Out.{Out}
use Rattle.lapd_link_definition.specs.declared.out.Out.TheVariants as out
use Rattle.lapd_link_definition.specs.declared.out.Letter.{Letter}
use Rattle.lapd_link_definition.specs.declared.out.Letter.TheVariants as letter

-- the word that reports an output to layer 3 or management; empty if it is not reported
abbrev pub word_of_out : Out → List ℕ
word_of_out out.Up = codes "data"
word_of_out out.UnitUp = codes "unit"
word_of_out out.Established = codes "established"
word_of_out out.Confirmed = codes "confirmed"
word_of_out out.Released = codes "released"
word_of_out out.ReleaseConfirm = codes "release-confirmed"
word_of_out (out.Acknowledged n) = codes "acknowledged"
word_of_out (out.Dropped n) = codes "dropped"
word_of_out (out.Report letter) = codes "report"
word_of_out other = []

abbrev pub letter_code : Letter → ℕ
letter_code letter.A = 65
letter_code letter.B = 66
letter_code letter.C = 67
letter_code letter.D = 68
letter_code letter.E = 69
letter_code letter.F = 70
letter_code letter.G = 71
letter_code letter.H = 72
letter_code letter.I = 73
letter_code letter.J = 74
letter_code letter.K = 75
letter_code letter.L = 76
letter_code letter.M = 77
letter_code letter.N = 78
letter_code letter.O = 79
