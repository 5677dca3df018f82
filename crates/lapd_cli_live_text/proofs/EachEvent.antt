-- The statistics of a history are counts over it.
use Rattle.std.proofs.Common.{◌≡◌, ℕ, zero, suc, ◌==◌, ◌+◌, ◌<◌, Bool, true, false, if◌then◌else◌, List, [], ◌∷◌, length, get_or, replicate, Result, Ok, Err, refl, sym, ap, subst, ◌∙◌, arith}
use Rattle.std.specs.List.{count_by, sum, sum_by}
use Rattle.std.proofs.lemmas.List.Sums.{sum_by-cons}
use Rattle.lapd_frame.specs.declared.Side.{Side}
use Rattle.lapd_frame.specs.declared.Control.{Control}
use Rattle.lapd_frame.specs.declared.Control.TheVariants as control
use Rattle.lapd_frame.specs.declared.FrameFault.{FrameFault}
use Rattle.lapd_frame.specs.Address.{other_side}
use Rattle.lapd_frame.specs.Frame.{Fields}
use Rattle.lapd_frame.specs.Reading.{frame_at}
use Rattle.lapd_link_definition.specs.declared.out.Letter.{Letter}
use Rattle.lapd_link_definition.specs.declared.out.Letter.TheVariants as letter
use Rattle.lapd_sides_links.specs.declared.primitive.Primitive.TheVariants.{Of}
use Rattle.lapd_sides_links.specs.declared.primitive.What.TheVariants as what
use Rattle.lapd_cli_live_text.specs.declared.frame_kind.FrameKind.{FrameKind}
use Rattle.lapd_cli_live_text.specs.declared.frame_kind.FrameKind.TheVariants.{I, Rr, Rnr, Rej, Sabme, Disc, Ua, Dm, Ui, Frmr, Xid, Other}
use Rattle.lapd_cli_live_text.specs.declared.stats.Stats.{Stats}
use Rattle.lapd_cli_live_text.specs.declared.traffic.Traffic.{Traffic}
use Rattle.lapd_cli_live_text.specs.FrameKinds.{kind_of, kind_place}
use Rattle.lapd_cli_live_text.specs.Histories.{CountsEvents, CountsFrames, StatsEvent, Sent, Received, Delivered, received_in, reports_in, sent_in, stats_after}
use Rattle.lapd_cli_live_text.specs.Stats.{after_sent, after_sent_control, counted, letter_place, link_place, no_traffic, nothing_counted, numbered, received_counted, sent_counted, primitive_counted, up_to_most}
use Rattle.lapd_cli_live_text.proofs.Tallies.{Fits, few, more, tally, tally_at, tally_sum}

-- ---- Frames of one sender.

abbrev traffic_after : Side → List (List ℕ) → Traffic → Traffic
traffic_after from [] traffic = traffic
traffic_after from (octets ∷ frames) traffic =
    traffic_after from frames (counted (kind_of (frame_at from octets)) (length octets) traffic)

-- the index of the count of octets
abbrev octets_place : Side → List ℕ → ℕ
octets_place from octets = kind_place (kind_of (frame_at from octets))

frames_tallied : (from : Side) (frames : List (List ℕ)) (traffic : Traffic)
    → (traffic_after from frames traffic).frames ≡ tally (octets_place from) frames traffic.frames
frames_tallied from [] traffic = refl
frames_tallied from (octets ∷ frames) traffic =
    frames_tallied from frames (counted (kind_of (frame_at from octets)) (length octets) traffic)

octets_summed : (from : Side) (frames : List (List ℕ)) (traffic : Traffic) → Fits traffic.octets
    → (traffic_after from frames traffic).octets
    ≡ up_to_most (traffic.octets + sum_by (λ octets. length octets) frames)
octets_summed from [] traffic fits = few traffic.octets fits
octets_summed from (octets ∷ frames) traffic fits =
    octets_summed from frames (counted (kind_of (frame_at from octets)) (length octets) traffic)
    (omega arith)
    ∙ more (up_to_most (traffic.octets + length octets)) (length octets)
    (sum_by (λ octets. length octets) frames) traffic.octets refl
    ∙ ap (λ n. up_to_most (traffic.octets + n))
    (sym (sum_by-cons (λ (octets : List ℕ). length octets) octets frames))

kind_within : (kind : FrameKind) → kind_place kind < 12
kind_within I = omega arith
kind_within Rr = omega arith
kind_within Rnr = omega arith
kind_within Rej = omega arith
kind_within Sabme = omega arith
kind_within Disc = omega arith
kind_within Ua = omega arith
kind_within Dm = omega arith
kind_within Ui = omega arith
kind_within Frmr = omega arith
kind_within Xid = omega arith
kind_within Other = omega arith

abbrev zeros : ℕ → List ℕ
zeros n = replicate n 0

zero_at : (n k : ℕ) → get_or (zeros n) k 0 ≡ 0
zero_at zero k = refl
zero_at (suc n) zero = refl
zero_at (suc n) (suc k) = zero_at n k

from_zero : (none n : ℕ) → none ≡ 0 → up_to_most (none + n) ≡ up_to_most n
from_zero none n h = omega arith

zero_fits : (n k : ℕ) → Fits (get_or (zeros n) k 0)
zero_fits n k = let none = zero_at n k in omega (arith, none)

counts_frames : (from : Side) (frames : List (List ℕ))
    → CountsFrames from frames (traffic_after from frames no_traffic)
unfolding no_traffic
counts_frames from frames = record {
  kinds =
      λ kind. ap (λ counts. get_or counts (kind_place kind) 0)
      (frames_tallied from frames no_traffic)
      ∙ tally_at (octets_place from) frames (zeros 12) (kind_place kind)
      (λ octets. kind_within (kind_of (frame_at from octets))) (zero_fits 12 (kind_place kind))
      ∙ from_zero (get_or (zeros 12) (kind_place kind) 0)
      (count_by (λ octets. octets_place from octets == kind_place kind) frames)
      (zero_at 12 (kind_place kind));
  all = ap (λ counts. up_to_most (sum counts)) (frames_tallied from frames no_traffic)
      ∙ tally_sum (octets_place from) frames (zeros 12)
      (λ octets. kind_within (kind_of (frame_at from octets))) (zero_fits 12)
      ∙ from_zero 0 (length frames) refl;
  octets =
      octets_summed from frames no_traffic (omega arith)
      ∙ from_zero 0 (sum_by (λ octets. length octets) frames) refl;
}

-- ---- The counts after a step.

record PreservesCounts (old new : Stats) : Type 0 where
  sent : new.sent ≡ old.sent
  received : new.received ≡ old.received
  reports : new.reports ≡ old.reports

preserves_either : (test : Bool) (old first second : Stats) → PreservesCounts old first
    → PreservesCounts old second → PreservesCounts old (if test then first else second)
preserves_either true old first second f g = f
preserves_either false old first second f g = g

preserves_numbered : (place ns : ℕ) (stats : Stats)
    → PreservesCounts stats (numbered place ns stats)
preserves_numbered place ns stats =
    preserves_either _ stats _ _ (record { sent = refl; received = refl; reports = refl })
    (record { sent = refl; received = refl; reports = refl })

preserves_sent_control : (c : Control) (place : ℕ) (stats : Stats)
    → PreservesCounts stats (after_sent_control c place stats)
preserves_sent_control (control.I ns nr p) place stats = preserves_numbered place ns stats
preserves_sent_control (control.Sabme p) place stats =
    record { sent = refl; received = refl; reports = refl }
preserves_sent_control (control.Ua f) place stats =
    record { sent = refl; received = refl; reports = refl }
preserves_sent_control other place stats = record { sent = refl; received = refl; reports = refl }

preserves_sent : (frame : Result Fields FrameFault) (stats : Stats)
    → PreservesCounts stats (after_sent frame stats)
preserves_sent (Ok frame) stats =
    preserves_sent_control frame.control (link_place frame.address) stats
preserves_sent (Err fault) stats = record { sent = refl; received = refl; reports = refl }

-- ---- The three parts of the counts over a history.

sent_after : (own : Side) (events : List StatsEvent) (stats : Stats)
    → (stats_after own events stats).sent ≡ traffic_after own (sent_in events) stats.sent
unfolding sent_counted received_counted primitive_counted
sent_after own [] stats = refl
sent_after own (Sent octets ∷ events) stats = sent_after own events (sent_counted stats own octets)
    ∙ ap (traffic_after own (sent_in events)) (preserves_sent (frame_at own octets) _).sent
sent_after own (Received octets ∷ events) stats =
    sent_after own events (received_counted stats (other_side own) octets)
sent_after own (Delivered (Of id (what.Report letter)) ∷ events) stats =
    sent_after own events (primitive_counted stats (Of id (what.Report letter)))
sent_after own (Delivered primitive ∷ events) stats = sent_after own events stats

received_after : (own : Side) (events : List StatsEvent) (stats : Stats)
    → (stats_after own events stats).received
    ≡ traffic_after (other_side own) (received_in events) stats.received
unfolding sent_counted received_counted primitive_counted
received_after own [] stats = refl
received_after own (Sent octets ∷ events) stats =
    received_after own events (sent_counted stats own octets)
    ∙ ap (traffic_after (other_side own) (received_in events))
    (preserves_sent (frame_at own octets) _).received
received_after own (Received octets ∷ events) stats =
    received_after own events (received_counted stats (other_side own) octets)
received_after own (Delivered (Of id (what.Report letter)) ∷ events) stats =
    received_after own events (primitive_counted stats (Of id (what.Report letter)))
received_after own (Delivered primitive ∷ events) stats = received_after own events stats

reports_after : (own : Side) (events : List StatsEvent) (stats : Stats)
    → (stats_after own events stats).reports ≡ tally letter_place (reports_in events) stats.reports
unfolding sent_counted received_counted primitive_counted
reports_after own [] stats = refl
reports_after own (Sent octets ∷ events) stats =
    reports_after own events (sent_counted stats own octets)
    ∙ ap (tally letter_place (reports_in events)) (preserves_sent (frame_at own octets) _).reports
reports_after own (Received octets ∷ events) stats =
    reports_after own events (received_counted stats (other_side own) octets)
reports_after own (Delivered (Of id (what.Report letter)) ∷ events) stats =
    reports_after own events (primitive_counted stats (Of id (what.Report letter)))
reports_after own (Delivered primitive ∷ events) stats = reports_after own events stats

letter_within : (l : Letter) → letter_place l < 15
letter_within letter.A = omega arith
letter_within letter.B = omega arith
letter_within letter.C = omega arith
letter_within letter.D = omega arith
letter_within letter.E = omega arith
letter_within letter.F = omega arith
letter_within letter.G = omega arith
letter_within letter.H = omega arith
letter_within letter.I = omega arith
letter_within letter.J = omega arith
letter_within letter.K = omega arith
letter_within letter.L = omega arith
letter_within letter.M = omega arith
letter_within letter.N = omega arith
letter_within letter.O = omega arith

pub each_counted : (own : Side) (events : List StatsEvent)
    → CountsEvents own events (stats_after own events nothing_counted)
unfolding nothing_counted
each_counted own events = record {
  sent =
      subst (CountsFrames own (sent_in events)) (sym (sent_after own events nothing_counted))
      (counts_frames own (sent_in events));
  received =
      subst (CountsFrames (other_side own) (received_in events))
      (sym (received_after own events nothing_counted))
      (counts_frames (other_side own) (received_in events));
  reports =
      λ letter. ap (λ counts. get_or counts (letter_place letter) 0)
      (reports_after own events nothing_counted)
      ∙ tally_at letter_place (reports_in events) (zeros 15) (letter_place letter) letter_within
      (zero_fits 15 (letter_place letter))
      ∙ from_zero (get_or (zeros 15) (letter_place letter) 0)
      (count_by (λ other. letter_place other == letter_place letter) (reports_in events))
      (zero_at 15 (letter_place letter));
}
