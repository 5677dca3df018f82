-- Every link of two sides that nothing disturbs recovers in time.
use Rattle.std.proofs.Common.{◌≡◌, ℕ, ◌+◌, ◌*◌, ◌≤◌, ◌<◌, List, Option, refl, sym, ap, subst, ◌∙◌, arith}
use Rattle.std.specs.Prelude.{is_some}
use Rattle.std.proofs.lemmas.Nat.{mul-le}
use Rattle.rand_pcg.specs.Lcg.{Lcg}
use Rattle.lapd_mod128.specs.Counting.{Tagged}
use Rattle.lapd_link_definition.specs.End.{End}
use Rattle.lapd_link_definition.specs.Parameters.{Parameters}
use Rattle.lapd_pair_laws.specs.World as world_of
use Rattle.lapd_pair_laws.specs.World.{World, left, new_world}
use Rattle.lapd_recovery_laws.specs.Deliveries.{frames}
use Rattle.lapd_recovery_laws.specs.EveryWorld.{IsFreeWorld}
use Rattle.lapd_recovery_laws.specs.FreeTimers as pair
use Rattle.lapd_recovery_laws.specs.FreeTimers.{most_free_moves, most_t200s_from}
use Rattle.lapd_recovery_laws.specs.InTime.{ComesBackInTime, Waits, most_time, moves_of}
use Rattle.lapd_recovery_laws.specs.Own.{IsFree}
use Rattle.lapd_recovery_laws.proofs.FreeAfterRuns.{moves_more, t200s_more}
use Rattle.lapd_recovery_laws.proofs.InTime.{every_world_comes_back_in_time}
use Rattle.lapd_table.specs.declared.link_id.LinkId.{LinkId}
use Rattle.lapd_sides_links.specs.Links.{Linked, Links, parameters_for}
use Rattle.lapd_side_events.specs.Interface.{Configs, Interface, Move, run}
use Rattle.lapd_two_side_laws.specs.Projects.{HasLink, ProjectsTo}
use Rattle.lapd_two_side_laws.proofs.EventFacts.{same_linked}
use Rattle.lapd_two_side_laws.proofs.Whole.{IsOfRun}
use Rattle.lapd_clock_laws.specs.Clock.{Clock}
use Rattle.lapd_clock_laws.specs.InTime.{IsLongEnough}
use Rattle.lapd_side_recovery_laws.specs.Agreement.{AreInAgreement}
use Rattle.lapd_side_recovery_laws.specs.Counts.{frames_on, most_time_from, most_time_of, t203s_out_of_step}
use Rattle.lapd_side_recovery_laws.specs.Quiet.{AreQuiet, HaveLink, IsServed}
use Rattle.lapd_side_recovery_laws.specs.Reached.{AreWithin, HasFreeLink, HaveReached, HaveFreeLinks, MeetPremises, RunAtMost, clock_of, created}
use Rattle.lapd_side_recovery_laws.proofs.Along.{Holding, along}
use Rattle.lapd_side_recovery_laws.proofs.Arrives.{HasArrived, arrives}
use Rattle.lapd_side_recovery_laws.proofs.Counting.{agreement_shown, network_shown, same_frames, same_left, user_shown}
use Rattle.lapd_side_recovery_laws.proofs.Parameters.{reached_parameters}
use Rattle.lapd_side_recovery_laws.proofs.Waiting.{waits}

-- ---- The time that suffices.

time_more : (t : Waits) (n200 few more : ℕ) (w : World) → few ≤ more
    → most_time t n200 few w ≤ most_time t n200 more w
time_more t n200 few more w le =
    let moves = moves_more n200 (few + 1) (more + 1) w (omega (arith, le)) in
    let t200s = t200s_more n200 (few + 1) (more + 1) w (omega (arith, le)) in
    let a =
    mul-le (most_free_moves n200 (few + 1) w + 1) t.frame
    (most_free_moves n200 (more + 1) w + 1) t.frame (omega (arith, moves)) (omega arith) in
    let b =
    mul-le (most_t200s_from n200 (few + 1) w + few + 2) t.t200
    (most_t200s_from n200 (more + 1) w + more + 2) t.t200 (omega (arith, t200s, le))
    (omega arith) in
    let d = mul-le (few + 2) t.t203 (more + 2) t.t203 (omega (arith, le)) (omega arith) in
    sums ((most_free_moves n200 (few + 1) w + 1) * t.frame)
    ((most_t200s_from n200 (few + 1) w + few + 2) * t.t200) ((few + 2) * t.t203)
    ((most_free_moves n200 (more + 1) w + 1) * t.frame)
    ((most_t200s_from n200 (more + 1) w + more + 2) * t.t200) ((more + 2) * t.t203) a b d
  where
    sums : (a b d x y z : ℕ) → a ≤ x → b ≤ y → d ≤ z → a + b + d ≤ x + y + z
    sums a b d x y z one two three = omega (arith, one, two, three)

same_time : (t : Waits) (n200 idle : ℕ) (w : World)
    → most_time_of t n200 idle (left w) (frames w) ≡ most_time t n200 idle w
same_time t n200 idle w = refl

-- ---- The link, and the end that it shows.

end_free : (id : LinkId) (links : Links) (e : End) → HasLink links id e → HasFreeLink id links
    → IsFree e
end_free id links e has h =
    let same = same_linked h.linked has.linked (links id) h.there has.there in
    subst IsFree (ap (λ (l : Linked). l.end) same ∙ has.end) h.free

both_there : (id : LinkId) (i : Interface) → HaveFreeLinks id i → HaveLink id i
both_there id i h = record {
  user = ap is_some h.user.there;
  network = ap is_some h.network.there;
}

module _ (c : Configs) (id : LinkId) (longest late t200 t203 n200 now : ℕ) (low : id.tei < 127)
    (positive : 0 < longest) (some : 1 ≤ n200)
    (user_long : IsLongEnough longest c.user.durations)
    (network_long : IsLongEnough longest c.network.durations)
    (user_most : RunAtMost t200 t203 c.user.durations)
    (network_most : RunAtMost t200 t203 c.network.durations)
    (user_window : AreWithin n200 (parameters_for c.user id.sapi))
    (network_window : AreWithin n200 (parameters_for c.network id.sapi)) where
  abbrev P : Parameters
  P = parameters_for c.user id.sapi

  abbrev Q : Parameters
  Q = parameters_for c.network id.sapi

  abbrev ArrivedAt : Interface → Clock → Type 0
  ArrivedAt i k = HasArrived c id low longest positive user_long network_long t200 t203 user_most
      network_most user_window.high network_window.high i k

  world_comes_back : (w : World) → IsOfRun P Q w → IsFreeWorld n200 w
      → ComesBackInTime Tagged n200 w
  world_comes_back w r free =
      subst (ComesBackInTime Tagged n200) (sym r.is)
      (every_world_comes_back_in_time Tagged n200 some P Q user_window.high network_window.high
      user_window.low network_window.low r.moves (subst (IsFreeWorld n200) r.is free))

  module _ (i : Interface) (k : Clock) (free : HaveFreeLinks id i) (moves : List Move)
      (premises : MeetPremises longest c id moves i k) (quiet : AreQuiet late c id moves i k)
      (served : IsServed longest late now id (run c moves i) (clock_of c moves i k))
      (enough : k.now + most_time_from (waits c id longest late t200 t203) n200
      (t203s_out_of_step c id moves i) id i < now) where
    free_world : (w : World) → IsOfRun P Q w → ProjectsTo c id i w → IsFreeWorld n200 w
    free_world w r shows =
        let here = both_there id i free in
        let same = reached_parameters P Q user_window.high network_window.high r.moves in
        record {
          user_free = end_free id i.user.served.links w.user.end (user_shown c id i w shows here)
              free.user;
          network_free = end_free id i.network.served.links w.network.end
              (network_shown c id i w shows here) free.network;
          user_retries = subst (λ (p : Parameters). p.n200 ≤ n200)
              (sym (ap (λ (x : World). x.user.end.parameters) r.is ∙ same.0))
              user_window.retries;
          network_retries = subst (λ (p : Parameters). p.n200 ≤ n200)
              (sym (ap (λ (x : World). x.network.end.parameters) r.is ∙ same.1))
              network_window.retries;
        }

    long_enough : (w : World) → ProjectsTo c id i w → (idle : ℕ)
        → idle ≤ t203s_out_of_step c id moves i
        → k.now + most_time (waits c id longest late t200 t203) n200 idle w < now
    long_enough w shows idle few =
        let t = waits c id longest late t200 t203 in
        let most = t203s_out_of_step c id moves i in
        let more = time_more t n200 idle most w few in
        let same : most_time_from t n200 most id i ≡ most_time t n200 most w =
        ap (λ (n : ℕ). most_time_of t n200 most n (frames_on id i)) (same_left c id i w shows)
        ∙ ap (λ (n : ℕ). most_time_of t n200 most (left w) n) (same_frames c id i w shows)
        ∙ same_time t n200 most w in
        bound k.now (most_time t n200 idle w) (most_time t n200 most w)
        (most_time_from t n200 most id i) now more same enough
      where
        bound : (start a b d end : ℕ) → a ≤ b → d ≡ b → start + d < end → start + a < end
        bound start a b d end le same less = omega (arith, le, same, less)

    recovers_from : (fixed : Option ℕ) (known : List ℕ) (random : Lcg) (w : World)
        → Holding c id low longest positive user_long network_long late t200 t203 user_most
        network_most P Q user_window.high network_window.high fixed known random k.now i k w
        → AreInAgreement id (run c moves i)
    recovers_from fixed known random w h =
        let runs = along c id low longest positive user_long network_long late t200 t203 user_most
        network_most P Q user_window.high network_window.high fixed known random moves k.now now i
        k w h premises quiet served in
        agreement_shown c id (run c moves i) (world_of.run Tagged (moves_of runs.timed) w)
        runs.shows runs.here
        (world_comes_back w h.reached (free_world w h.reached h.shows)
        (waits c id longest late t200 t203) k.now now runs.timed runs.of_line runs.lossless
        runs.punctual
        (long_enough w h.shows (pair.t203s_out_of_step Tagged (moves_of runs.timed) w) runs.few))

    arrived_at : (come : HaveReached longest c id i k) → ArrivedAt i k
    arrived_at come =
        subst (λ (x : Interface). ArrivedAt x k) (sym come.interface)
        (subst (λ (x : Clock). ArrivedAt (run c come.before
        (created c come.fixed come.known come.random)) x) (sym come.clock)
        (arrives c id low longest positive user_long network_long t200 t203 user_most network_most
        user_window.high network_window.high come.fixed come.known come.random come.start
        come.before come.premises))

    pub recovers : HaveReached longest c id i k → AreInAgreement id (run c moves i)
    recovers come =
        let a = arrived_at come in
        let w = a.reached.represented in
        recovers_from come.fixed come.known come.random w (record {
          reached = a.reached.reached;
          shows = a.reached.shows;
          here = both_there id i free;
          clocks = a.clocks;
          sent_to_user = a.clocks.past.incoming;
          sent_to_network = a.clocks.past.outgoing;
          user_set = a.user_set;
          network_set = a.network_set;
          own = a.own;
          held = a.held;
          in_order = omega arith;
          prefix = come.before;
          is = come.interface;
          octets = come.premises.octets;
        })
