-- A line that has run empty recovers as after an outage, and where it rests its ends agree.
use Rattle.std.proofs.Common.{◌≡◌, inl, inr, ℕ, ◌+◌, ◌-◌, ◌*◌, ◌≤◌, Bool, true, false, List, [], ◌∷◌, length, refl, ap, arith}
use Rattle.lapd_mod128.specs.Counting.{Whole}
use Rattle.lapd_link_definition.specs.declared.state.State.{State}
use Rattle.lapd_link_definition.specs.declared.state.State.TheVariants.{AwaitingEstablishment, MultipleFrameEstablished, TimerRecovery}
use Rattle.lapd_link_definition.specs.EndOfStep.{is_7_or_8}
use Rattle.lapd_link_definition.specs.End.{End, unsent, waiting}
use Rattle.lapd_pair_laws.specs.Consistent.{IsConsistentWorld}
use Rattle.lapd_pair_laws.specs.Conjuncts.{IsConsistentSender}
use Rattle.lapd_pair_laws.specs.Kinds.{Kind}
use Rattle.lapd_pair_laws.specs.Parties.{Sender, party}
use Rattle.lapd_pair_laws.specs.Invariant.{Both, IsInvariant}
use Rattle.lapd_pair_laws.specs.Line.{Flight}
use Rattle.lapd_pair_laws.specs.Move.{Station}
use Rattle.lapd_pair_laws.specs.Tagged.{tag_world}
use Rattle.lapd_pair_laws.specs.World.{World}
use Rattle.lapd_pair_laws.proofs.Facts.{between_open}
use Rattle.lapd_pair_laws.proofs.Flow.{Source, Sink, source, sink, Clean, Waiting, burden, fresh, Stream}
use Rattle.lapd_pair_laws.proofs.MidSteps.{Mid, enter}
use Rattle.lapd_pair_laws.proofs.Settles.{in_7}
use Rattle.lapd_pair_laws.proofs.SenderStream.{in_transit_none}
use Rattle.lapd_recovery_laws.specs.Agreed.{AreAgreed}
use Rattle.lapd_recovery_laws.specs.EveryWorld.{IsFreeWorld}
use Rattle.lapd_recovery_laws.specs.Deliveries.{most_deliveries}
use Rattle.lapd_recovery_laws.specs.Own.{Rests, IsFree}
use Rattle.lapd_recovery_laws.proofs.AfterOutage.{agreed_at_rest, half_begins, free_by_tags}
use Rattle.lapd_recovery_laws.proofs.AnyOrder.{Draining, rests_still}
use Rattle.lapd_recovery_laws.proofs.Lost.{at}
use Rattle.lapd_recovery_laws.proofs.OpenDelivers.{hears_in}
use Rattle.lapd_recovery_laws.proofs.OpenLine.{same_in_transit, draining_from}
use Rattle.lapd_recovery_laws.proofs.OutageWorlds.{Facts}
use Rattle.lapd_recovery_laws.proofs.Proceeding.{Arrives, Hears, extra, missing_in, missing, load_in, load, load_open, once_more, fresh_few, Share, Flowing}
use Rattle.lapd_recovery_laws.proofs.Situations.{Coming}
use Rattle.lapd_recovery_laws.proofs.RunsEmpty as runs

-- ---- The moves that a side accounts for on an empty line.

-- three for each unsent message: a closed side has none, but in state 5
load_unsent : (state : State) (asked leaving : Bool) (s : Sender) (m f e a : ℕ)
    → IsConsistentSender state asked leaving s
    → load_in state leaving (length s.given - s.next) m f e ≤ a → 3 * (length s.given - s.next) ≤ a
load_unsent AwaitingEstablishment true false s m f e a none le = omega (arith, le)
load_unsent AwaitingEstablishment false false s m f e a holds le = omega (arith, le)
load_unsent MultipleFrameEstablished asked leaving s m f e a n le = omega (arith, le)
load_unsent TimerRecovery asked leaving s m f e a n le = omega (arith, le)
load_unsent state asked leaving s m f e a none le = let next = none.next in omega (arith, next)

share_unsent : (x y : Station) (base its_base : ℕ) (out back : List Kind) (n : ℕ)
    → Both (party base x) (party its_base y) out back → Share x.end y.end out back n
    → 3 * unsent x.end ≤ n
share_unsent x y base its_base out back n both (inl enough) =
    let p = party base x in
    load_unsent x.end.state x.end.layer3_initiated x.end.release_pending p.sends
    (missing x.end y.end) (fresh y.end.window.rejecting) (extra y.end out) n both.mine.preserved
    enough
share_unsent x y base its_base out back n both (inr p) = let enough = p.1 in omega (arith, enough)

-- a side that waits for T200
share_burden : (x y : End) (n : ℕ) → is_7_or_8 x.state ≡ true → is_7_or_8 y.state ≡ true
    → y.window.own_busy ≡ false → Share x y [] [] n → burden 3 (source x) (sink y) ≤ n + 4
share_burden x y n x_opened opened free (inl enough) =
    let was : load x y [] ≡ 3 * unsent x + 2 * missing x y + fresh y.window.rejecting + once_more
    x.state (missing x y) =
    load_open x.state x.release_pending (unsent x) (missing x y) (fresh y.window.rejecting)
    (extra y []) x_opened in
    let lack : missing x y ≡ x.window.vs - y.window.vr =
    ap (λ b. missing_in b x.window.vs y.window.vr (waiting x) (unsent x)) opened in
    omega (arith, was, lack, enough)
share_burden x y n x_opened opened free (inr p) = by_hearing p.0.hears
  where
    by_hearing : Hears x.window.vs y [] → burden 3 (source x) (sink y) ≤ n + 4
    by_hearing (inl busy) = let on = busy.1 in cc
    by_hearing (inr there) =
        let same =
        in_transit_none y.window.rejecting y.window.vr x.window.vs
        (hears_in (Arrives x.window.vs) y [] opened there) in
        let enough = p.1 in
        let one = fresh_few y.window.rejecting in
        omega (arith, same, enough, one)

-- in state 7
stream_so : (x : Source) (y : Sink) (n : ℕ) → x.state ≡ MultipleFrameEstablished → x.va ≤ y.vr
    → y.vr ≤ x.vs → (x.t200 ≡ false → (x.vs ≡ x.va) × (x.busy ≡ false)) → burden 3 x y ≤ n
    → Stream x y [] [] n
stream_so x y n is low high timed heavy = by_timer x.t200 refl
  where
    by_timer : (on : Bool) → x.t200 ≡ on → Stream x y [] [] n
    by_timer true on = record { stage = Waiting; so = (is, on); most = heavy }
    by_timer false off =
        let t = timed off in
        let same : y.vr ≡ x.vs = omega (arith, low, high, t.0) in
        record {
          stage = Clean;
          so = record {
            in_7 = is;
            free = t.1;
            arriving = same_in_transit y.rejecting y.vr x.vs same;
            wanted = refl;
            timed = λ _. t.0;
            stopped = λ on. cc;
          };
          most = omega (arith, heavy);
        }

module _ (N : ℕ) (some : 1 ≤ N) where
  -- a world with its facts, and a bound of its deliveries
  pub record Begins (n : ℕ) (w : World) : Type 0 where
    pub facts : Facts N w
    pub preserved : IsConsistentWorld Whole w
    pub flow : runs.Flow n w
    pub user_free : IsFree w.user.end
    pub network_free : IsFree w.network.end

  -- a world that recovers as after an outage; m bounds its own moves
  pub record IsEmptied (n : ℕ) (w : World) : Type 0 where
    pub m : ℕ
    pub coming : Coming N m w
    pub most : m ≤ n + 6 * N + 11

  -- the ends of an empty line, with what each side accounts for
  module _ (n : ℕ) (x y : Station) (b : Begins n (at x y [] [])) where
    abbrev w : World
    w = at x y [] []

    abbrev i : IsInvariant w
    i = b.facts.holds

    abbrev f : Flowing x.end y.end [] [] n
    f = b.flow

    unsent_x : 3 * unsent x.end ≤ f.a
    unsent_x = share_unsent x y i.user_base i.network_base [] [] f.a i.both f.mine

    unsent_y : 3 * unsent y.end ≤ f.b
    unsent_y =
        share_unsent y x i.network_base i.user_base [] [] f.b
        (record { mine = i.both.its; its = i.both.mine }) f.its

    both_open : is_7_or_8 x.end.state ≡ true → is_7_or_8 y.end.state ≡ true
        → Draining (n + 8) w
    both_open o p =
        let mine : Mid (party i.user_base x) (party i.network_base y) [] [] =
        enter (party i.user_base x) (party i.network_base y) [] [] o i.both in
        let its : Mid (party i.network_base y) (party i.user_base x) [] [] =
        enter (party i.network_base y) (party i.user_base x) [] [] p
        (record { mine = i.both.its; its = i.both.mine }) in
        let between : (x.end.window.va ≤ y.end.window.vr) × (y.end.window.vr ≤ x.end.window.vs) =
        between_open {x = party i.user_base x} {y = party i.network_base y} {out = []}
        {back = []} p mine in
        let between_its : (y.end.window.va ≤ x.end.window.vr) ×
        (x.end.window.vr ≤ y.end.window.vs) =
        between_open {x = party i.network_base y} {y = party i.user_base x} {out = []}
        {back = []} o its in
        let burden_x = share_burden x.end y.end f.a o p (b.network_free p) f.mine in
        let burden_y = share_burden y.end x.end f.b p o (b.user_free o) f.its in
        let most = f.most in
        draining_from x y i b.facts.settled o p (b.user_free o) (b.network_free p)
        (f.a + 4) (f.b + 4) (n + 8)
        (λ is. stream_so (source x.end) (sink y.end) (f.a + 4) is between.0 between.1
        (in_7 x.end is b.facts.settled.user.timed) burden_x)
        (λ is. stream_so (source y.end) (sink x.end) (f.b + 4) is between_its.0 between_its.1
        (in_7 y.end is b.facts.settled.network.timed) burden_y)
        burden_x burden_y (omega (arith, most))

    emptied : IsEmptied n w
    emptied =
        half_begins N some x y
        b.facts.few_user b.facts.few_network
        (λ o p. record {
          m = n + 8;
          coming = inl (both_open o p);
          most = omega (arith, some);
        })
        (λ c. record {
          m = 3 * (unsent x.end + unsent y.end) + 6 * N + 11;
          coming = c;
          most =
              let a = unsent_x in
              let c = unsent_y in let most = f.most in omega (arith, a, c, most);
        })

  pub emptied_at : (n : ℕ) (x y : Station) → Begins n (at x y [] []) → IsEmptied n (at x y [] [])
  emptied_at n x y b = emptied n x y b

  pub drains_at : (n : ℕ) (x y : Station) → Begins n (at x y [] []) → is_7_or_8 x.end.state ≡ true
      → is_7_or_8 y.end.state ≡ true
      → Draining (n + 8) (at x y [] [])
  drains_at n x y b o p = both_open n x y b o p

  -- where no own move is possible, the ends agree
  pub rests_agree : (w : World) → Facts N w → IsConsistentWorld Whole w → IsFree w.user.end
      → IsFree w.network.end → Rests Whole w → AreAgreed w
  rests_agree w f preserved user_free network_free rests =
      at_rest w.user w.network w.to_user w.to_network
      (record {
        facts = f;
        preserved = preserved;
        flow = runs.flow_begins w f.holds preserved;
        user_free = user_free;
        network_free = network_free;
      })
      rests
    where
      at_rest : (x y : Station) (to_user to_network : List Flight)
          → Begins (most_deliveries w) (at x y to_user to_network)
          → Rests Whole (at x y to_user to_network) → AreAgreed (at x y to_user to_network)
      at_rest x y [] [] b rests =
          let e = emptied (most_deliveries w) x y b in
          agreed_at_rest N e.m (at x y [] []) e.coming b.facts b.preserved rests
      at_rest x y (frame ∷ rest) to_network b rests =
          let still = rests_still x y (frame ∷ rest) to_network rests in
          let none = still.to_user in cc
      at_rest x y [] (frame ∷ rest) b rests =
          let still = rests_still x y [] (frame ∷ rest) rests in let none = still.to_network in cc

pub free_world_by_tags : (N : ℕ) (w : World) → IsFreeWorld N (tag_world w) → IsFreeWorld N w
free_world_by_tags N w a = record {
  user_free = free_by_tags w.user.end a.user_free;
  network_free = free_by_tags w.network.end a.network_free;
  user_retries = a.user_retries;
  network_retries = a.network_retries;
}
