-- The knowledge of a listener about the TEIs of a line (Q.921 5.3), and how the next message
-- conflicts with the messages before it.
use Rattle.std.specs.Prelude.{ℕ, ◌==◌, not, nat_lt, if◌then◌else◌, Bool, List, [], ◌∷◌, ◌++◌, length, drop, filter, set, replicate, slice_index_or, Option, Some, None}
use Rattle.std.specs.List.{list_any}
use Rattle.lapd_follow.specs.declared.identity.Identity.{Identity}
use Rattle.lapd_follow.specs.declared.identity.Identity.TheVariants.{Request, Assigned, Denied, CheckRequest, CheckResponse, Remove, Verify}
use Rattle.lapd_follow.specs.declared.holder.Holder.{Holder}
use Rattle.lapd_follow.specs.declared.remark.Remark.{Remark}
use Rattle.lapd_follow.specs.declared.remark.Remark.TheVariants.{Unrequested, NotAutomatic, AssignedTwice, AssignedInUse, TwoResponses}

-- ---- Requests that are not answered, oldest first. A terminal draws a reference for each (5.3.2).

abbrev pub without : ℕ → List ℕ → List ℕ
without ri requests = filter (λ kept. not (kept == ri)) requests

-- of 16 requests the oldest is forgotten for a new one
abbrev pub with_room : List ℕ → List ℕ
with_room requests = if length requests == 16 then drop 1 requests else requests

abbrev pub with_request : ℕ → List ℕ → List ℕ
with_request ri requests = with_room (without ri requests) ++ ri ∷ []

abbrev pub is_requested : ℕ → List ℕ → Bool
is_requested ri requests = list_any (λ kept. kept == ri) requests

-- ---- One TEI.

-- nothing is known
abbrev pub unknown_holder : Holder
unknown_holder = record { assigned = None; answer = None }

-- it is assigned to this reference
abbrev pub held_by : ℕ → Holder
held_by ri = record { assigned = Some ri; answer = None }

abbrev pub first_answer : ℕ → Option ℕ → ℕ
first_answer ri None = ri
first_answer ri (Some first) = first

-- a terminal responds to a check of it, with this reference
abbrev pub answered_with : ℕ → Holder → Holder
answered_with ri h = record h { answer = Some (first_answer ri h.answer) }

-- ---- All TEIs.

-- the references of the requests, and each TEI at its place; the place of the group TEI is not used
pub record TeisKnown : Type 0 where
  pub requests : List ℕ
  pub holders : List Holder

-- no message was seen
abbrev pub new_teis : TeisKnown
new_teis = record { requests = []; holders = replicate 128 unknown_holder }

abbrev pub holder_at : ℕ → List Holder → Holder
holder_at tei holders = slice_index_or holders tei unknown_holder

-- Nothing is known of a TEI after its removal, or after a check request: if no terminal responds,
-- it is free (5.3.3.2). The group TEI stands for all.
abbrev pub forgotten_tei : ℕ → List Holder → List Holder
forgotten_tei tei holders = if tei == 127 then replicate 128 unknown_holder
    else set holders tei unknown_holder

-- the knowledge after a message
abbrev pub teis_after : Identity → TeisKnown → TeisKnown
teis_after (Request ri) t = record t { requests = with_request ri t.requests }
teis_after (Assigned tei ri) t = record {
  requests = without ri t.requests;
  holders = set t.holders tei (held_by ri);
}
teis_after (Denied ri) t = record t { requests = without ri t.requests }
teis_after (CheckRequest tei) t = record t { holders = forgotten_tei tei t.holders }
teis_after (CheckResponse tei ri) t = record t {
  holders = set t.holders tei (answered_with ri (holder_at tei t.holders));
}
teis_after (Remove tei) t = record t { holders = forgotten_tei tei t.holders }
teis_after (Verify tei) t = t

-- ---- Conflicts.

-- The network assigns and denies on request alone (5.3.2). A request may precede the first frame
-- that is seen, or be forgotten.
abbrev pub unrequested : ℕ → List ℕ → Option Remark
unrequested ri requests = if is_requested ri requests then None else Some Unrequested

-- The network assigns free TEIs alone (5.3.2). A TEI is not free if a terminal responded to its
-- last check (5.3.3.2); but the response may be lost.
abbrev pub answered_check : ℕ → ℕ → Option ℕ → TeisKnown → Option Remark
answered_check tei ri None t = unrequested ri t.requests
answered_check tei ri (Some answer) t = Some (AssignedInUse tei)

-- A TEI is not free either if it was assigned, and neither removed nor checked since.
abbrev pub conflict_of_assignment : ℕ → ℕ → Option ℕ → TeisKnown → Option Remark
conflict_of_assignment tei ri None t =
    answered_check tei ri (holder_at tei t.holders).answer t
conflict_of_assignment tei ri (Some other) t = if other == ri then unrequested ri t.requests
    else Some (AssignedTwice tei other)

-- The network assigns TEIs from 64 on; the others are set at the terminals (3.3.4.2).
abbrev pub conflict_of_assigned : ℕ → ℕ → TeisKnown → Option Remark
conflict_of_assigned tei ri t = if nat_lt tei 64 then Some (NotAutomatic tei)
    else conflict_of_assignment tei ri (holder_at tei t.holders).assigned t

-- a terminal responds once to each check request, so two responses are of two terminals (5.3.3.2)
abbrev pub conflict_of_response : ℕ → ℕ → Option ℕ → Option Remark
conflict_of_response tei ri None = None
conflict_of_response tei ri (Some first) = if first == ri then None
    else Some (TwoResponses tei first ri)

-- how the next message conflicts with those before, if it does
abbrev pub conflict_of : Identity → TeisKnown → Option Remark
conflict_of (Request ri) t = None
conflict_of (Assigned tei ri) t = conflict_of_assigned tei ri t
conflict_of (Denied ri) t = unrequested ri t.requests
conflict_of (CheckRequest tei) t = None
conflict_of (CheckResponse tei ri) t =
    conflict_of_response tei ri (holder_at tei t.holders).answer
conflict_of (Remove tei) t = None
conflict_of (Verify tei) t = None
