-- The outputs of a terminal or an assigner.
use Rattle.std.specs.Prelude.{◌≡◌, ℕ, ◌≤◌, ◌<◌, true, List, [], ◌∷◌, Option, Some, None, ⊤}
use Rattle.lapd_tei.specs.declared.message.TeiMessage.{TeiMessage}
use Rattle.lapd_tei.specs.declared.kind.TeiKind.TheVariants as kind
use Rattle.lapd_tei.specs.declared.out.TeiOut.{TeiOut}
use Rattle.lapd_tei.specs.declared.out.TeiOut.TheVariants.{Send, Given, Got, Gone, Free, Doubled}
use Rattle.lapd_tei.specs.Message.{group_tei, permits}

-- The messages that are sent. A request names no TEI; a check request and a removal have no
-- reference (Q.921 Table 8).
abbrev pub request : ℕ → TeiMessage
request ri = record { ri = ri; kind = kind.Request; ai = group_tei }

abbrev pub assigned : ℕ → ℕ → TeiMessage
assigned ri tei = record { ri = ri; kind = kind.Assigned; ai = tei }

abbrev pub denied : ℕ → TeiMessage
denied ri = record { ri = ri; kind = kind.Denied; ai = group_tei }

abbrev pub check_request : ℕ → TeiMessage
check_request tei = record { ri = 0; kind = kind.CheckRequest; ai = tei }

abbrev pub check_response : ℕ → ℕ → TeiMessage
check_response ri tei = record { ri = ri; kind = kind.CheckResponse; ai = tei }

abbrev pub remove : ℕ → TeiMessage
remove tei = record { ri = 0; kind = kind.Remove; ai = tei }

-- the messages that these outputs send, in order
abbrev pub sent : List TeiOut → List TeiMessage
sent [] = []
sent (Send m ∷ outs) = m ∷ sent outs
sent (out ∷ outs) = sent outs

-- An output is in range. A message that is sent can be read: its action indicator is a TEI, and not
-- the group TEI if a single terminal must be named. A TEI that is assigned or obtained is 0 to 126
-- (Q.921 3.3.4).
abbrev pub IsInRange : TeiOut → Type 0
IsInRange (Send m) = (m.ai ≤ 127) × (permits m.kind m.ai ≡ true)
IsInRange (Given tei) = tei < group_tei
IsInRange (Got tei) = tei < group_tei
IsInRange out = ⊤

-- the TEI that these outputs assign or obtain; a step has at most one
abbrev pub tei_given : List TeiOut → Option ℕ
tei_given [] = None
tei_given (Given tei ∷ outs) = Some tei
tei_given (Got tei ∷ outs) = Some tei
tei_given (out ∷ outs) = tei_given outs

-- the TEI that these outputs free or remove
abbrev pub tei_freed : List TeiOut → Option ℕ
tei_freed [] = None
tei_freed (Free tei ∷ outs) = Some tei
tei_freed (Doubled tei ∷ outs) = Some tei
tei_freed (Gone tei ∷ outs) = Some tei
tei_freed (out ∷ outs) = tei_freed outs
