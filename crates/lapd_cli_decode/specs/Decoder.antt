-- The state that a decoder of lines represents.
use Rattle.lapd_cli_decode.specs.declared.line_decoder.LineDecoder.{LineDecoder}
use Rattle.lapd_cli_decode.specs.Lines.{Decoding}

abbrev pub decoding_of : LineDecoder → Decoding
decoding_of decoder = record { style = decoder.style }
