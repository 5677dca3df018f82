-- Worked messages of TEI management, which test the definitions.
use Rattle.std.specs.Prelude.{ℕ, List, [], ◌∷◌, Option, Some, None}
use Rattle.lapd_frame.specs.declared.Side.{Side}
use Rattle.lapd_frame.specs.declared.Side.TheVariants.{Network, User}
use Rattle.lapd_follow.specs.declared.identity.Identity.{Identity}
use Rattle.lapd_follow.specs.declared.remark.Remark.{Remark}
use Rattle.lapd_follow.specs.Identities.{identity_in}
use Rattle.lapd_follow.specs.Teis.{TeisKnown, conflict_of, new_teis, teis_after}

-- the message that a side sends, and how it conflicts with those before
pub record Note : Type 0 where
  pub message : Option Identity
  pub conflict : Option Remark

abbrev pub conflict_if : Option Identity → TeisKnown → Option Remark
conflict_if None t = None
conflict_if (Some message) t = conflict_of message t

abbrev pub known_after : Option Identity → TeisKnown → TeisKnown
known_after None t = t
known_after (Some message) t = teis_after message t

-- the notes on these octets of information, one after another, after this knowledge
abbrev pub notes_from : List (Side × List ℕ) → TeisKnown → List Note
notes_from [] t = []
notes_from (sent ∷ rest) t = record {
  message = identity_in sent.0 sent.1;
  conflict = conflict_if (identity_in sent.0 sent.1) t;
} ∷ notes_from rest (known_after (identity_in sent.0 sent.1) t)

abbrev pub notes : List (Side × List ℕ) → List Note
notes sent = notes_from sent new_teis

abbrev pub said : Identity → Note
said message = record { message = Some message; conflict = None }

abbrev pub said_but : Identity → Remark → Note
said_but message remark = record { message = Some message; conflict = Some remark }

-- ---- Octets. References are 1, 2 and 3.

abbrev pub request : ℕ → Side × List ℕ
request ri = (User, 0x0F ∷ 0 ∷ ri ∷ 1 ∷ 0xFF ∷ [])

-- these messages are about TEI 64
abbrev pub assigned : ℕ → Side × List ℕ
assigned ri = (Network, 0x0F ∷ 0 ∷ ri ∷ 2 ∷ 0x81 ∷ [])

abbrev pub denied : ℕ → Side × List ℕ
denied ri = (Network, 0x0F ∷ 0 ∷ ri ∷ 3 ∷ 0xFF ∷ [])

abbrev pub check : Side × List ℕ
check = (Network, 0x0F ∷ 0 ∷ 0 ∷ 4 ∷ 0x81 ∷ [])

abbrev pub response : ℕ → Side × List ℕ
response ri = (User, 0x0F ∷ 0 ∷ ri ∷ 5 ∷ 0x81 ∷ [])

abbrev pub remove : Side × List ℕ
remove = (Network, 0x0F ∷ 0 ∷ 0 ∷ 6 ∷ 0x81 ∷ [])

-- all TEIs are removed
abbrev pub remove_all : Side × List ℕ
remove_all = (Network, 0x0F ∷ 0 ∷ 0 ∷ 6 ∷ 0xFF ∷ [])

abbrev pub verify : Side × List ℕ
verify = (User, 0x0F ∷ 0 ∷ 0 ∷ 7 ∷ 0x81 ∷ [])

-- ---- Dialogues.

-- a TEI is assigned on a request and denied on another, then both without a request; the last
-- octets form no message of the network side
abbrev pub assignment : List (Side × List ℕ)
assignment = request 1 ∷ assigned 1 ∷ request 2 ∷ denied 2 ∷ assigned 1 ∷ denied 2
    ∷ (Network, 0x0F ∷ 0 ∷ 1 ∷ 1 ∷ 0xFF ∷ []) ∷ []

-- a check that one terminal answers, one that two answer, and an assignment after that
abbrev pub checks : List (Side × List ℕ)
checks = verify ∷ check ∷ response 1 ∷ check ∷ response 2 ∷ response 3 ∷ request 1 ∷ assigned 1 ∷ []

-- a TEI is assigned twice
abbrev pub assigned_twice : List (Side × List ℕ)
assigned_twice = request 1 ∷ assigned 1 ∷ request 2 ∷ assigned 2 ∷ []

-- a TEI below 64 is assigned
abbrev pub assigned_below : List (Side × List ℕ)
assigned_below = request 1 ∷ (Network, 0x0F ∷ 0 ∷ 1 ∷ 2 ∷ 0x7F ∷ []) ∷ []

-- it is assigned again after a removal, after a check that no terminal answers, and after the
-- removal of all TEIs
abbrev pub assigned_anew : List (Side × List ℕ)
assigned_anew = request 1 ∷ assigned 1 ∷ remove ∷ request 2 ∷ assigned 2 ∷ check ∷ check
    ∷ request 3 ∷ assigned 3 ∷ remove_all ∷ request 1 ∷ assigned 1 ∷ []
