-- How printed values represent a link's outputs.
use Rattle.std.specs.Prelude.{ℕ, List, ◌∷◌, ◌++◌}
use Rattle.std.specs.Fmt.{decimal}
use Rattle.lapd_link.specs.Link.{Setup}
use Rattle.lapd_link.specs.SentFrame.{made_frame}
use Rattle.lapd_link.specs.declared.Out.{Out}
use Rattle.lapd_cli_script.specs.Line.{text_line, digits_of}
use Rattle.lapd_cli_answer.specs.PrintedOutput.{OutputOctets, PrintedOutput, Sent, Primitive, Timer, Nothing, printed_with}
use Rattle.lapd_cli_answer.specs.declared.printed_output.Phrase.{Phrase}
use Rattle.lapd_cli_answer.specs.declared.printed_output.Phrase.TheVariants as phrase
use Rattle.lapd_cli_answer.specs.declared.printed_output.PrintedOutput as value
use Rattle.lapd_cli_answer.specs.declared.printed_output.PrintedOutput.TheVariants as printed_output

abbrev pub phrase_line : Phrase → List ℕ
phrase_line (phrase.Alone word) = text_line word.now
phrase_line (phrase.Octets word octets) = text_line (word.now ++ digits_of octets.now)
phrase_line (phrase.Number word number) = text_line (word.now ++ 32 ∷ decimal number)
phrase_line (phrase.Name word name) = text_line (word.now ++ 32 ∷ name.now)

abbrev pub printed_output_of : value.PrintedOutput → PrintedOutput
printed_output_of (printed_output.Sent frame) = Sent frame
printed_output_of (printed_output.Primitive phrase) = Primitive (phrase_line phrase)
printed_output_of (printed_output.Timer phrase) = Timer (phrase_line phrase)
printed_output_of printed_output.Nothing = Nothing

-- an output, by the frame built from it
abbrev pub made_output : Setup → List (List ℕ) → OutputOctets → Out → PrintedOutput
made_output setup messages s output = printed_with
    (made_frame setup messages s.sent output) s output
