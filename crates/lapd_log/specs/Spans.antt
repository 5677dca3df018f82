-- The D channel that a line of a log names.
use Rattle.std.specs.Prelude.{ℕ, ◌==◌, if◌then◌else◌, List, [], ◌∷◌, codes, Option, Some, None, unwrap_or}
use Rattle.lapd_log.specs.declared.named_span.NamedSpan.{NamedSpan}
use Rattle.lapd_log.specs.Text.{behind, digits_behind, number_at}

abbrev pub named_by : Option ℕ → ℕ → Option NamedSpan
named_by None channel = None
named_by (Some span) channel = Some (record { span = span; channel = channel })

-- the number behind `D-Channel: `; 0 if a text does not have it
abbrev pub channel_behind : Option (List ℕ) → ℕ
channel_behind None = 0
channel_behind (Some rest) = unwrap_or (number_at rest) 0

abbrev pub channel_in : List ℕ → ℕ
channel_in text = channel_behind (behind (codes "D-Channel: ") text)

-- FreeSWITCH names a channel as `[sNcM]`: the span N and its channel M
abbrev pub port_before : List ℕ → List ℕ → Option NamedSpan
port_before text [] = None
port_before text (octet ∷ octets) = if octet == 99 then named_by (number_at text) 0 else None

abbrev pub port_at : List ℕ → Option NamedSpan
port_at text = port_before text (digits_behind text)

abbrev pub port_behind : Option (List ℕ) → Option NamedSpan
port_behind None = None
port_behind (Some rest) = port_at rest

abbrev pub port_in : List ℕ → Option NamedSpan
port_in line = port_behind (behind (codes "[s") line)

-- Asterisk names it as `Span: N`, perhaps with `D-Channel: M` behind it
abbrev pub span_by : List ℕ → Option (List ℕ) → Option NamedSpan
span_by line None = port_in line
span_by line (Some rest) = named_by (number_at rest) (channel_in rest)

abbrev pub span_in : List ℕ → Option NamedSpan
span_in line = span_by line (behind (codes "Span: ") line)
