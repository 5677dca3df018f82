-- The next move of a link follows in time: a frame in transit was sent, and a timer that runs was
-- started, at the link's latest move or before. If there is neither, no own move is possible.
use Rattle.std.proofs.Common.{◌≡◌, ◌⊎◌, inl, inr, ℕ, ◌+◌, ◌≤◌, Bool, true, false, if◌then◌else◌, List, [], ◌∷◌, Option, Some, None, Err, refl, sym, ap, ◌∙◌, arith}
use Rattle.std.specs.Prelude.{is_ok, is_some, ◌||◌, ◌&&◌}
use Rattle.std.proofs.lemmas.List.Elements.{All-head, All-tail}
use Rattle.lapd_timers.specs.declared.timer.Timer.TheVariants.{T200, T203}
use Rattle.lapd_timers.specs.Due.{deadline_of}
use Rattle.lapd_frame.specs.declared.Side.{Side}
use Rattle.lapd_frame.specs.declared.Side.TheVariants as side
use Rattle.lapd_mod128.specs.Counting.{Tagged}
use Rattle.lapd_link_definition.specs.End.{End}
use Rattle.lapd_link_definition.specs.Input.{Expiry}
use Rattle.lapd_pair_laws.specs.Line.{Flight, first_final, first_poll}
use Rattle.lapd_pair_laws.specs.Move.{PairEvent, Deliver, Expire200, Expire203, NotRunning, acts, delivers, expires_200, expires_203, takes, unless_under_way}
use Rattle.lapd_pair_laws.specs.World.{World, happens, in_world, view_of}
use Rattle.lapd_recovery_laws.specs.InTime.{Waits, longest_wait}
use Rattle.lapd_recovery_laws.specs.Own.{IsOwn, Rests, is_empty, is_line_empty}
use Rattle.lapd_table.specs.declared.link_id.LinkId.{LinkId}
use Rattle.lapd_sides_links.specs.Links.{Served}
use Rattle.lapd_side_events.specs.Interface.{Configs, Interface}
use Rattle.lapd_two_side_laws.specs.Addressed.{all_spelled, is_for, those_for}
use Rattle.lapd_two_side_laws.specs.ExactTimers.{BothHaveExactTimers, HaveExactTimers}
use Rattle.lapd_two_side_laws.specs.Projects.{HasLink, ProjectsTo}
use Rattle.lapd_clock_laws.specs.Clock.{Clock, Sent, octets_of}
use Rattle.lapd_clock_laws.specs.InTime.{AreSent}
use Rattle.lapd_side_recovery_laws.specs.Quiet.{ArePunctual, HaveLink, IsAtMostLate}
use Rattle.lapd_side_recovery_laws.proofs.Counting.{network_shown, user_shown}
use Rattle.lapd_side_recovery_laws.proofs.Deadlines.{IsSet}

-- ---- Octets of the link are in transit.

oldest : (from : Side) (id : LinkId) (now latest longest : ℕ) (line : List Sent) (first : List ℕ)
    (rest : List (List ℕ)) → those_for from id (octets_of line) ≡ first ∷ rest
    → AreSent from id (λ at. at ≤ latest) line → AreSent from id (λ at. now ≤ at + longest) line
    → now ≤ latest + longest
oldest from id now latest longest [] first rest is past soon = cc
oldest from id now latest longest (sent ∷ line) first rest is past soon =
    by (is_for from id sent.octets) refl
    (λ behind. oldest from id now latest longest line first rest behind
    (All-tail (λ (s : Sent). is_for from id s.octets ≡ true → s.at ≤ latest) sent line past)
    (All-tail (λ (s : Sent). is_for from id s.octets ≡ true → now ≤ s.at + longest) sent line
    soon))
  where
    by : (b : Bool) → is_for from id sent.octets ≡ b
        → (those_for from id (octets_of line) ≡ first ∷ rest → now ≤ latest + longest)
        → now ≤ latest + longest
    by true its behind =
        let earlier = All-head (λ (s : Sent). is_for from id s.octets ≡ true → s.at ≤ latest) sent
        line past its in
        let before = All-head (λ (s : Sent). is_for from id s.octets ≡ true → now ≤ s.at + longest)
        sent line soon its in
        omega (arith, earlier, before)
    by false its behind =
        behind (sym (ap (λ (b : Bool). if b then sent.octets ∷ those_for from id (octets_of line)
        else those_for from id (octets_of line)) its) ∙ is)

-- ---- A timer of the link runs.

module _ (t200 t203 late now latest : ℕ) (s : Served) (id : LinkId) (e : End)
    (has : HasLink s.links id e) (exact : HaveExactTimers s.links)
    (set : IsSet t200 t203 latest (s.links id)) (punctual : IsAtMostLate late id now s) where
  pub t200_waits : e.t200 ≡ true → now ≤ latest + (t200 + late)
  t200_waits on = by has.linked.timers.t200 refl
      ((exact id has.linked has.there).exact T200 ∙ ap (λ (x : End). x.t200) has.end ∙ on)
    where
      by : (o : Option ℕ) → has.linked.timers.t200 ≡ o
          → is_some (deadline_of T200 has.linked.timers) ≡ true → now ≤ latest + (t200 + late)
      by None is there = (let no : false ≡ true = sym (ap is_some is) ∙ there in cc)
      by (Some deadline) is there =
          let until = (set has.linked has.there).until_200 deadline is in
          let soon = punctual has.linked T200 deadline has.there is in
          omega (arith, until, soon)

  pub t203_waits : e.t203 ≡ true → now ≤ latest + (t203 + late)
  t203_waits on = by has.linked.timers.t203 refl
      ((exact id has.linked has.there).exact T203 ∙ ap (λ (x : End). x.t203) has.end ∙ on)
    where
      by : (o : Option ℕ) → has.linked.timers.t203 ≡ o
          → is_some (deadline_of T203 has.linked.timers) ≡ true → now ≤ latest + (t203 + late)
      by None is there = (let no : false ≡ true = sym (ap is_some is) ∙ there in cc)
      by (Some deadline) is there =
          let until = (set has.linked has.there).until_203 deadline is in
          let soon = punctual has.linked T203 deadline has.there is in
          omega (arith, until, soon)

-- ---- No own move is possible.

module _ (w : World) where
  no_delivery : (s : Side) → (view_of s w).incoming ≡ []
      → is_ok (happens Tagged (record { side = s; event = Deliver }) w) ≡ false
  unfolding happens acts delivers
  no_delivery s none =
      ap (λ (fs : List Flight). is_ok (in_world s w (delivers Tagged fs (view_of s w)))) none

  no_t200 : (s : Side) → (view_of s w).station.end.t200 ≡ false
      → is_ok (happens Tagged (record { side = s; event = Expire200 }) w) ≡ false
  unfolding happens acts expires_200
  no_t200 s off = ap (λ (b : Bool). is_ok (in_world s w (if b
      then unless_under_way s (first_poll (view_of s w).outgoing)
      (first_final (view_of s w).incoming) (takes Tagged (Expiry T200) [] (view_of s w))
      else Err NotRunning))) off

  no_t203 : (s : Side) → (view_of s w).station.end.t203 ≡ false
      → is_ok (happens Tagged (record { side = s; event = Expire203 }) w) ≡ false
  unfolding happens acts expires_203
  no_t203 s off = ap (λ (b : Bool). is_ok (in_world s w (if b
      then takes Tagged (Expiry T203) [] (view_of s w) else Err NotRunning))) off

  refused : (test : Bool) → test ≡ true → test ≡ false → ⊥
  refused true on off = cc
  refused false on off = cc

  at_rest : ((s : Side) → (view_of s w).incoming ≡ [])
      → ((s : Side) → (view_of s w).station.end.t200 ≡ false)
      → ((s : Side) → (view_of s w).station.end.t203 ≡ false) → Rests Tagged w
  at_rest none off_200 off_203 = λ move own. by_event move.side move.event own
    where
      by_event : (s : Side) (event : PairEvent)
          → IsOwn Tagged (record { side = s; event = event }) w → ⊥
      by_event s Deliver own = refused _ own.admitted (no_delivery s (none s))
      by_event s Expire200 own = refused _ own.admitted (no_t200 s (off_200 s))
      by_event s Expire203 own = refused _ own.admitted (no_t203 s (off_203 s))
      by_event s event own = let due = own.due in cc

  of_both : (P : Side → Type 0) → P side.User → P side.Network → (s : Side) → P s
  of_both P user network side.User = user
  of_both P user network side.Network = network

  pub rests : w.to_user ≡ [] → w.to_network ≡ [] → w.user.end.t200 ≡ false
      → w.network.end.t200 ≡ false → w.user.end.t203 ≡ false → w.network.end.t203 ≡ false
      → Rests Tagged w
  rests to_user to_network user_200 network_200 user_203 network_203 = at_rest
      (of_both (λ s. (view_of s w).incoming ≡ []) to_user to_network)
      (of_both (λ s. (view_of s w).station.end.t200 ≡ false) user_200 network_200)
      (of_both (λ s. (view_of s w).station.end.t203 ≡ false) user_203 network_203)

  -- ---- How long the next move may be awaited.

  pub wait_is : (t : Waits) (empty either : Bool) → is_line_empty w ≡ empty
      → (w.user.end.t200 || w.network.end.t200) ≡ either
      → longest_wait t w ≡ (if empty then (if either then t.t200 else t.t203) else t.frame)
  wait_is t empty either is_empty is_either =
      ap (λ (b : Bool). if b then (if w.user.end.t200 || w.network.end.t200 then t.t200
      else t.t203) else t.frame) is_empty
      ∙ ap (λ (b : Bool). if empty then (if b then t.t200 else t.t203) else t.frame) is_either

  pub line_is : (x y : List Flight) → w.to_user ≡ x → w.to_network ≡ y
      → is_line_empty w ≡ (is_empty x && is_empty y)
  line_is x y to_user to_network =
      ap (λ (fs : List Flight). is_empty fs && is_empty w.to_network) to_user
      ∙ ap (λ (fs : List Flight). is_empty x && is_empty fs) to_network

  pub either_is : (a b : Bool) → w.user.end.t200 ≡ a → w.network.end.t200 ≡ b
      → (w.user.end.t200 || w.network.end.t200) ≡ (a || b)
  either_is a b user network =
      ap (λ (x : Bool). x || w.network.end.t200) user ∙ ap (λ (x : Bool). a || x) network

-- ---- An interface at some moment.

-- The interface shows this world. Octets of the link in transit were sent, and its timers that run
-- were started, at the moment `latest` or before.
pub record Stands (c : Configs) (id : LinkId) (t200 t203 latest : ℕ) (i : Interface) (k : Clock)
    (w : World) : Type 0 where
  pub shows : ProjectsTo c id i w
  pub here : HaveLink id i
  pub to_user : octets_of k.to_user ≡ i.to_user
  pub to_network : octets_of k.to_network ≡ i.to_network
  pub sent_to_user : AreSent side.Network id (λ at. at ≤ latest) k.to_user
  pub sent_to_network : AreSent side.User id (λ at. at ≤ latest) k.to_network
  pub user_set : IsSet t200 t203 latest (i.user.served.links id)
  pub network_set : IsSet t200 t203 latest (i.network.served.links id)
  pub exact : BothHaveExactTimers i

module _ (c : Configs) (id : LinkId) (longest late t200 t203 : ℕ) where
  abbrev pub waits : Waits
  waits = record { frame = longest; t200 = t200 + late; t203 = t203 + late }

  module _ (now latest : ℕ) (i : Interface) (k : Clock) (w : World)
      (h : Stands c id t200 t203 latest i k w)
      (to_user : AreSent side.Network id (λ at. now ≤ at + longest) k.to_user)
      (to_network : AreSent side.User id (λ at. now ≤ at + longest) k.to_network)
      (punctual : ArePunctual late id now i) where
    abbrev InTime : Type 0
    InTime = (now ≤ latest + longest_wait waits w) ⊎ Rests Tagged w

    within : (wait : ℕ) → longest_wait waits w ≡ wait → now ≤ latest + wait → InTime
    within wait is le = inl (omega (arith, is, le))

    by_timers : (user_200 network_200 user_203 network_203 : Bool) → w.user.end.t200 ≡ user_200
        → w.network.end.t200 ≡ network_200 → w.user.end.t203 ≡ user_203
        → w.network.end.t203 ≡ network_203 → w.to_user ≡ [] → w.to_network ≡ [] → InTime
    by_timers true other c d user network e f none nothing =
        within (t200 + late)
        (wait_is w waits true true (line_is w [] [] none nothing)
        (either_is w true other user network))
        (t200_waits t200 t203 late now latest i.user.served id w.user.end
        (user_shown _ id i w h.shows h.here) h.exact.0 h.user_set punctual.user user)
    by_timers false true c d user network e f none nothing =
        within (t200 + late)
        (wait_is w waits true true (line_is w [] [] none nothing)
        (either_is w false true user network))
        (t200_waits t200 t203 late now latest i.network.served id w.network.end
        (network_shown _ id i w h.shows h.here) h.exact.1 h.network_set punctual.network network)
    by_timers false false true d user network e f none nothing =
        within (t203 + late)
        (wait_is w waits true false (line_is w [] [] none nothing)
        (either_is w false false user network))
        (t203_waits t200 t203 late now latest i.user.served id w.user.end
        (user_shown _ id i w h.shows h.here) h.exact.0 h.user_set punctual.user e)
    by_timers false false false true user network e f none nothing =
        within (t203 + late)
        (wait_is w waits true false (line_is w [] [] none nothing)
        (either_is w false false user network))
        (t203_waits t200 t203 late now latest i.network.served id w.network.end
        (network_shown _ id i w h.shows h.here) h.exact.1 h.network_set punctual.network f)
    by_timers false false false false user network e f none nothing =
        inr (rests w none nothing user network e f)

    by_lines : (x y : List Flight) → w.to_user ≡ x → w.to_network ≡ y → InTime
    by_lines (frame ∷ frames) y is_user is_network =
        within longest
        (wait_is w waits false (w.user.end.t200 || w.network.end.t200)
        (line_is w (frame ∷ frames) y is_user is_network) refl)
        (oldest side.Network id now latest longest k.to_user _ _
        (ap (those_for side.Network id) h.to_user ∙ h.shows.user.incoming
        ∙ ap (all_spelled side.Network id) is_user) h.sent_to_user to_user)
    by_lines [] (frame ∷ frames) is_user is_network =
        within longest
        (wait_is w waits false (w.user.end.t200 || w.network.end.t200)
        (line_is w [] (frame ∷ frames) is_user is_network) refl)
        (oldest side.User id now latest longest k.to_network _ _
        (ap (those_for side.User id) h.to_network ∙ h.shows.user.outgoing
        ∙ ap (all_spelled side.User id) is_network) h.sent_to_network to_network)
    by_lines [] [] is_user is_network =
        by_timers w.user.end.t200 w.network.end.t200 w.user.end.t203 w.network.end.t203 refl refl
        refl refl is_user is_network

    pub next_in_time : InTime
    next_in_time = by_lines w.to_user w.to_network refl refl
