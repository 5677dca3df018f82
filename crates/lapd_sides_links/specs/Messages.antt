-- Copies of messages, and what becomes of one that is to be sent at once.
use Rattle.std.specs.Prelude.{◌≡◌, ℕ, List, Vec}
use Rattle.std.specs.declared.alloc.Global.{Global}
use Rattle.lapd_sides_links.specs.declared.at_once.AtOnce.{AtOnce}
use Rattle.lapd_sides_links.specs.declared.at_once.AtOnce.TheVariants as at_once

-- the octets of a message, as code holds them
abbrev pub Message : Type 0
Message = Vec ℕ Global

-- some message with these octets has this property
pub record WithMessage (octets : List ℕ) (Asks : Message → Type 0) : Type 0 where
  pub message : Message
  pub items : message.items ≡ octets
  pub asks : Asks message

-- A message with these octets is sent, and this holds of it; or it is returned or cannot be
-- allocated, and then nothing is changed. If it is returned, this is why.
abbrev pub SendsAtOnce : List ℕ → (Message → Type 0) → Type 0 → Type 0 → AtOnce → Type 0
SendsAtOnce octets Sends Why Same at_once.Sent = WithMessage octets Sends
SendsAtOnce octets Sends Why Same (at_once.Unsent message) = (message.items ≡ octets) × Why × Same
SendsAtOnce octets Sends Why Same at_once.NoMemory = Same

-- it is not sent
abbrev pub IsUnsent : List ℕ → AtOnce → Type 0
IsUnsent octets = SendsAtOnce octets (λ message. ⊥) (Unit {0}) (Unit {0})
