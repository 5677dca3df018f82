-- Each message that a link accepts from layer 3 is acknowledged (Q.921 5.6.3.2), is dropped (DISCARD
-- I QUEUE of Annex B), or waits. It waits until then, whether it was sent or not.
use Rattle.std.specs.Prelude.{◌≡◌, ℕ, ◌+◌, ◌||◌, nat_lt, false, List, [], ◌++◌, length, drop, Option, Some, None}
use Rattle.std.specs.List.{list_any}
use Rattle.lapd_link_definition.specs.End.{waiting}
use Rattle.lapd_pair_laws.specs.Consistent.{is_one_of}
use Rattle.lapd_table.specs.declared.link_id.LinkId.{LinkId}
use Rattle.lapd_sides_links.specs.Links.{Linked}
use Rattle.lapd_two_side_laws.specs.ExactTimers.{SideStep, stepped_by_all, new_view}
use Rattle.lapd_two_side_laws.specs.Premises.{is_removal}
use Rattle.lapd_two_side_laws.specs.Primitives.{Known, given_to, known_of}
use Rattle.lapd_side_events.specs.SideView.{Behaviour, SideView}

-- ---- The messages of a link that wait. A link that does not exist has none.

abbrev pub queue_of : Option Linked → List (List ℕ)
queue_of None = []
queue_of (Some l) = drop l.end.first l.end.given

abbrev pub waiting_of : Option Linked → ℕ
waiting_of None = 0
waiting_of (Some l) = waiting l.end

-- ---- They are all accounted for.

-- For the accepted messages, in order; what layer 3 knows by its primitives; and the link:
--   counted  as many are acknowledged, are dropped or wait as were accepted;
--   rest     the last ones wait, in order;
--   each     each of the others is acknowledged or dropped, and by `counted` not both.
pub record IsAccounted (given : List (List ℕ)) (k : Known) (l : Option Linked) : Type 0 where
  pub counted : length given ≡ length k.acked + length k.dropped + waiting_of l
  pub rest : drop (length k.acked + length k.dropped) given ≡ queue_of l
  pub each : (place : ℕ) → (is_one_of k.acked place || is_one_of k.dropped place)
      ≡ nat_lt place (length k.acked + length k.dropped)

-- A side at some moment and after these steps. Primitives and messages count from that moment on.
-- Octets in transit at that moment are among those that arrive.
abbrev pub since : {S : Type 0} → Behaviour S → S → List SideStep → SideView S
since w s side_steps = stepped_by_all w side_steps (new_view s)

-- no primitive reports that the link's TEI is freed, removed or given up
abbrev pub KeepsTei : {S : Type 0} → LinkId → SideView S → Type 0
KeepsTei id v = list_any (is_removal id.tei) v.delivered ≡ false

-- the messages that waited at that moment, and those accepted since
abbrev pub IsAccountedSince : {S : Type 0} → Behaviour S → LinkId → S → List SideStep → Type 0
IsAccountedSince w id s side_steps = IsAccounted
    (queue_of ((w.served s).links id) ++ given_to id (since w s side_steps).given)
    (known_of id (since w s side_steps).delivered)
    ((w.served (since w s side_steps).now).links id)
