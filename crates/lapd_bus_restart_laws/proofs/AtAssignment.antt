-- The bus after the network assigned a TEI: what was in transit to each terminal before carries no
-- assignment of the TEI, and nothing of its link was sent in the event itself.
use Rattle.std.proofs.Common.{◌≡◌, ℕ, ◌<◌, List, [], ◌∷◌, ◌++◌, set, Bool, true, false, if◌then◌else◌, Option, Some, None, refl, ap, subst, ◌∙◌}
use Rattle.std.specs.Prelude.{slice_get}
use Rattle.std.specs.List.{list_any}
use Rattle.lapd_frame.specs.declared.Side.TheVariants as side
use Rattle.lapd_table.specs.declared.link_id.LinkId.{LinkId}
use Rattle.lapd_sides.specs.User.{User}
use Rattle.lapd_side_events.specs.Bus.{Bus, OfNetwork, reached_by, left_of, on_line_of, network_does, bus_step, interface_of}
use Rattle.lapd_side_events.specs.Interface.{Configs, Interface, network_behaviour, from_here}
use Rattle.lapd_side_events.specs.SideView.{SideView, SideEvent, reaction}
use Rattle.lapd_two_side_laws.specs.Addressed.{is_for, those_for}
use Rattle.lapd_two_side_laws.specs.Establishments.{LinkRecords}
use Rattle.lapd_two_side_laws.proofs.Managed.{neither}
use Rattle.lapd_bus_laws.specs.Assignments.{holds, is_sent, is_taken}
use Rattle.lapd_bus_laws.specs.Holdings.{Assigns, IsClearToNetwork, KeepsTeisApart}
use Rattle.lapd_bus_laws.proofs.Holding.{absent_at, absent_before, assigned_now}
use Rattle.lapd_bus_laws.proofs.Lists.{Each, any_at, each_set, map_back}
use Rattle.lapd_bus_laws.proofs.Single.{KeepsApart, event_keeps}
use Rattle.lapd_restart_laws.specs.SafeAcross.{IsRightNow}
use Rattle.lapd_bus_restart_laws.proofs.LockStep.{IsUntaken, all_without}
use Rattle.lapd_bus_restart_laws.proofs.NoFrames.{sends_none}

-- what layer 3 knows does not depend on the line to the user side
pub same_right : (id : LinkId) (k m : Interface) (r s : LinkRecords) (line : List (List ℕ))
    → m ≡ record k { to_user = line } → r ≡ s → IsRightNow id m r → IsRightNow id k s
same_right id k m r s line same noted h =
    let right = subst (λ (x : Interface). IsRightNow id x s) same
    (subst (IsRightNow id m) noted h) in
    record {
      to_network = right.to_network;
      to_user = right.to_user;
      reports_to_user = right.reports_to_user;
      reports_to_network = right.reports_to_network;
    }

-- nothing of the link is on the line with replaced frames
pub none_for : (c : Configs) (id : LinkId) (low : id.tei < 127) (i : ℕ)
    (old rest : List (List ℕ)) → those_for side.Network id rest ≡ []
    → those_for side.Network id (all_without c id low i old ++ rest) ≡ []
none_for c id low i [] rest none = none
none_for c id low i (o ∷ os) rest none =
    by (is_for side.Network id o) refl (none_for c id low i os rest none)
  where
    by : (test : Bool) → is_for side.Network id o ≡ test
        → those_for side.Network id (all_without c id low i os ++ rest) ≡ []
        → those_for side.Network id ((if test then [] else o)
        ∷ (all_without c id low i os ++ rest)) ≡ []
    by true is later = later
    by false is later = ap (λ (b : Bool).
        if b then o ∷ those_for side.Network id (all_without c id low i os ++ rest)
        else those_for side.Network id (all_without c id low i os ++ rest)) is ∙ later

module _ (c : Configs) (id : LinkId) (low : id.tei < 127) (i : ℕ) (b : Bus) (j : ℕ)
    (event : SideEvent) (before : KeepsApart c b) (is : KeepsTeisApart c (OfNetwork j event) b)
    (assigned : Assigns c id.tei (OfNetwork j event) b) where
  abbrev Now : Bus
  Now = bus_step c (OfNetwork j event) b

  free : list_any (is_taken id.tei) b.terminals ≡ false
  free = is.assigns assigned.0 assigned.1 id.tei assigned.2

  -- the frames of the event
  abbrev pub sent_at : List (List ℕ)
  sent_at =
      (reaction (network_behaviour c.network) event (on_line_of assigned.0 b)).effects.frames

  pub none_sent : those_for side.Network id sent_at ≡ []
  none_sent = sends_none c.network id low event (on_line_of assigned.0 b)
      (absent_before c id b before j event assigned.0 assigned.1 free assigned.2)

  none_taken : Each (λ (u : SideView User). is_taken id.tei u ≡ false)
      (set b.terminals j (left_of event assigned.0))
  none_taken = each_set (λ (u : SideView User). is_taken id.tei u ≡ false) b.terminals j
      (left_of event assigned.0) (λ k u there. any_at (is_taken id.tei) b.terminals k u free there)
      (any_at (is_taken id.tei) b.terminals j assigned.0 free assigned.1)

  -- what holds of each terminal that did not take the TEI, with these frames
  pub each_here : (P : SideView User → Type 0)
      → ((u : SideView User) → is_taken id.tei u ≡ false
      → slice_get Now.terminals i ≡ Some (reached_by sent_at u) → P (reached_by sent_at u))
      → (t : SideView User) → slice_get Now.terminals i ≡ Some t → P t
  each_here P all t at =
      let m = map_back (reached_by sent_at) (set b.terminals j (left_of event assigned.0)) i t
      (subst (λ (o : Option (SideView User)).
      slice_get (network_does c j event o b).terminals i ≡ Some t) assigned.1 at) in
      subst (λ (x : SideView User). slice_get Now.terminals i ≡ Some x → P x) m.2
      (all m.0 (none_taken i m.0 m.1)) at

  module _ (t : SideView User) (at : slice_get Now.terminals i ≡ Some t) where
    pub absent_now : t.now.served.links id ≡ None
    absent_now = absent_at c id Now (event_keeps c (OfNetwork j event) b is before) i t at
        ((assigned_now c id b (OfNetwork j event) before is assigned).unheld i t at)

    pub untaken_now : (u : SideView User) → is_taken id.tei u ≡ false → IsClearToNetwork id Now
        → IsUntaken c id low i u.incoming (from_here (interface_of t Now))
    untaken_now u none clear = record {
      aside = record {
        unheld = (assigned_now c id b (OfNetwork j event) before is assigned).unheld i t at;
        silent = record { links = absent_now; line = clear i t at; delivered = refl };
      };
      none = (neither (holds id.tei u) (is_sent id.tei u) none).1;
    }
