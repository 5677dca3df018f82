-- Frames that are sent to the peer are in the grammar of frames.
use Rattle.std.specs.Prelude.{◌≡◌, ℕ, ◌≤◌, List, [], ◌∷◌, length, None}
use Rattle.lapd_frame.specs.declared.Role.TheVariants.{Command}
use Rattle.lapd_frame.specs.Frame.{n201, content_fault}
use Rattle.lapd_link_definition.specs.declared.out.Out.{Out}
use Rattle.lapd_link_definition.specs.declared.out.Out.TheVariants.{Send, SendMessage}

-- a frame without information, or a command with any information of up to N201 octets (Q.921 Table
-- 5)
abbrev pub IsWellFormed : Out → Type 0
IsWellFormed (Send role control) = content_fault role control 0 ≡ None
IsWellFormed (SendMessage place control) = (len : ℕ) → len ≤ n201
    → content_fault Command control len ≡ None
IsWellFormed out = Unit {0}

abbrev pub AreWellFormed : List Out → Type 0
AreWellFormed [] = Unit {0}
AreWellFormed (out ∷ outs) = IsWellFormed out × AreWellFormed outs

-- messages of up to N201 octets
abbrev pub AreShort : List (List ℕ) → Type 0
AreShort [] = Unit {0}
AreShort (message ∷ messages) = (length message ≤ n201) × AreShort messages
