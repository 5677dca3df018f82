-- The octets of a line, and their sender.
use Rattle.std.specs.Prelude.{ℕ, List, Option, option_map}

-- a sender and the octets it sent, if the line has them
abbrev pub sent_by : {S : Type 0} → S → Option (List ℕ) → Option (S × List ℕ)
sent_by from octets = option_map (λ octets. (from, octets)) octets
