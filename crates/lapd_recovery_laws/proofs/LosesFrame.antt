-- A frame is lost, in any world: the deliveries that the line needs grow by the messages that wait.
use Rattle.std.proofs.Common.{◌≡◌, inl, inr, ℕ, zero, suc, ◌+◌, ◌*◌, ◌≤◌, nat_lt, true, List, [], ◌∷◌, length, Option, Some, None, Result, is_ok, refl, sym, ap, subst, arith}
use Rattle.std.proofs.lemmas.Bool.Decides.{nat_tests}
use Rattle.lapd_frame.specs.declared.Side.{Side}
use Rattle.lapd_frame.specs.declared.Side.TheVariants as side
use Rattle.lapd_mod128.specs.Counting.{Whole}
use Rattle.lapd_link_definition.specs.EndOfStep.{is_7_or_8}
use Rattle.lapd_link_definition.specs.End.{End, unsent, waiting}
use Rattle.lapd_pair_laws.specs.Invariant.{Both, IsInvariant}
use Rattle.lapd_pair_laws.specs.Kinds.{Kind, kind, kinds}
use Rattle.lapd_pair_laws.specs.Line.{Flight, without_lost}
use Rattle.lapd_pair_laws.specs.Move.{Lose, Station, View, ViewStep, Refusal, acts, loses}
use Rattle.lapd_pair_laws.specs.Parties.{Reception, party}
use Rattle.lapd_pair_laws.specs.World.{World, swapped, view_of, with_view, happens, world_after}
use Rattle.lapd_pair_laws.proofs.Flow.{fresh}
use Rattle.lapd_pair_laws.proofs.Lists.{by_test}
use Rattle.lapd_pair_laws.proofs.Losses.{ReceivesLess, less_in}
use Rattle.lapd_pair_laws.proofs.Parts.{Part, part_lost, part_nothing, part_rejections, part_tally}
use Rattle.lapd_pair_laws.proofs.Stepping.{user_move}
use Rattle.lapd_pair_laws.proofs.Swaps.{network_alike}
use Rattle.lapd_pair_laws.proofs.Worlds.{left_by, exchanged}
use Rattle.lapd_recovery_laws.proofs.OwnBySide.{ok_of_side}
use Rattle.lapd_recovery_laws.proofs.LostMoves.{moved_user}
use Rattle.lapd_recovery_laws.proofs.Proceeding.{weigh, weight_some, plain_of, plain_in, heard, extra, missing, load_in, load, load_less, fresh_few, Share, Flowing, flowing_turned}
use Rattle.lapd_recovery_laws.proofs.RunsEmpty.{Flow, missing_few}

-- ---- The rest of the line.

pub below : (a b : ℕ) → nat_lt a b ≡ true → a + 1 ≤ b
below a b less = grind (arith, nat_tests, less)

weigh_lost : (at : ℕ) (line : List Flight) → at + 1 ≤ length line
    → weigh (kinds (without_lost at line)) + 1 ≤ weigh (kinds line)
weigh_lost at [] there = absurd (omega (arith, there))
weigh_lost zero (f ∷ fs) there = let some = weight_some (kind f) in omega (arith, some)
weigh_lost (suc at) (f ∷ fs) there =
    let rest = weigh_lost at fs (omega (arith, there)) in omega (arith, rest)

-- no more messages of a closed side are answered
plain_less : (now was : Option Reception) → ReceivesLess now was → plain_in now ≤ plain_in was
plain_less None was less = omega arith
plain_less (Some n) None less = absurd less
plain_less (Some n) (Some w) less = part_tally plain_of less.part

extra_less : (y : End) {now was : List Kind} → Part now was → extra y now ≤ extra y was
extra_less y {now = now} {was = was} p =
    plain_less (heard y now) (heard y was)
    (less_in y.state y.release_pending _ _ p
    (record { vs = refl; va = refl; vr = refl; rejecting = refl; part = p }))

-- ---- The moves that the sender of the lost frame accounts for.

load_shrinks : (x y : End) {now was : List Kind} → Part now was → load x y now ≤ load x y was
load_shrinks x y {now = now} {was = was} p =
    let m = missing x y in
    let f = fresh y.window.rejecting in
    let less = extra_less y p in
    let le : load_in x.state x.release_pending (unsent x) m f (extra y now) + 0
    ≤ load_in x.state x.release_pending (unsent x) m f (extra y was)
    =
    load_less x.state x.release_pending (unsent x) m f (extra y was) m f (extra y now) 0
    (fresh_few y.window.rejecting) (omega arith) (omega (arith, less)) in
    omega (arith, le)

-- a message that was arriving is sent again
sent_again : (x y : Station) (base its_base : ℕ) (was now back : List Kind) (a : ℕ)
    → Both (party base x) (party its_base y) was back → Part now was → Share x.end y.end was back a
    → Share x.end y.end now back (a + waiting x.end + 1)
sent_again x y base its_base was now back a both p (inl enough) =
    let less = load_shrinks x.end y.end p in inl (omega (arith, less, enough))
sent_again x y base its_base was now back a both p (inr s) =
    let m = missing x.end y.end in
    let f = fresh y.end.window.rejecting in
    let in_7 : load x.end y.end now ≡ 3 * unsent x.end + 2 * m + f =
    ap (λ st. load_in st x.end.release_pending (unsent x.end) m f (extra y.end now))
    s.0.in_7 in
    let one = fresh_few y.end.window.rejecting in
    let few = missing_few x y base its_base was back both (ap is_7_or_8 s.0.in_7) in
    let enough = s.1 in
    inl (omega (arith, in_7, one, few, enough))

-- what its receiver accounts for
still : (x y : End) (was now back : List Kind) (b : ℕ) → Part now was → Share y x back was b
    → Share y x back now b
still x y was now back b p (inl enough) = inl enough
still x y was now back b p (inr s) =
    inr (
      record {
        in_7 = s.0.in_7;
        wanted = part_nothing (part_rejections p) s.0.wanted;
        hears = s.0.hears;
      },
      s.1,
    )

flow_lost : (x y : Station) (base its_base at : ℕ) (line : List Flight) (back : List Kind) (n : ℕ)
    → Both (party base x) (party its_base y) (kinds line) back → at + 1 ≤ length line
    → Flowing x.end y.end (kinds line) back n
    → Flowing x.end y.end (kinds (without_lost at line)) back (n + waiting x.end)
flow_lost x y base its_base at line back n both there f =
    let p : Part (kinds (without_lost at line)) (kinds line) = part_lost at line in
    let lighter = weigh_lost at line there in
    let most = f.most in
    record {
      a = f.a + waiting x.end + 1;
      b = f.b;
      mine =
          sent_again x y base its_base (kinds line) (kinds (without_lost at line)) back f.a both p
          f.mine;
      its = still x.end y.end (kinds line) (kinds (without_lost at line)) back f.b p f.its;
      most = omega (arith, lighter, most);
    }

-- ---- The world.

pub record Loses (n : ℕ) (w now : World) : Type 0 where
  pub user : now.user.end ≡ w.user.end
  pub network : now.network.end ≡ w.network.end
  pub flow : Flow (n + waiting w.user.end + waiting w.network.end) now

-- the frame at this position is in transit to the user
pub record IsGone (at : ℕ) (v now : View) : Type 0 where
  pub there : at + 1 ≤ length v.incoming
  pub same : now ≡ record v { incoming = without_lost at v.incoming }

pub user_loses : (at : ℕ) (v : View) → is_ok (acts Whole side.User (Lose at) v) ≡ true
    → IsGone at v (left_by v (acts Whole side.User (Lose at) v))
unfolding acts loses
user_loses at v =
    by_test (λ (o : Result ViewStep Refusal). is_ok o ≡ true → IsGone at v (left_by v o))
    (nat_lt at (length v.incoming)) _ _
    (λ less ok. record { there = below at (length v.incoming) less; same = refl }) (λ none ok. cc)

at_user : (at n : ℕ) (w : World) (v : View) → IsInvariant w → IsGone at (view_of side.User w) v
    → Flow n w → Loses n w (with_view side.User v w)
at_user at n w v i g flow =
    let both : Both (party i.network_base w.network) (party i.user_base w.user) (kinds w.to_user)
    (kinds w.to_network) =
    record { mine = i.both.its; its = i.both.mine } in
    let lost =
    flow_lost w.network w.user i.network_base i.user_base at w.to_user (kinds w.to_network)
    n both g.there (flowing_turned flow) in
    let most = lost.most in
    let F : View → Type 0 = λ u. Loses n w (with_view side.User u w) in
    subst F (sym g.same) (record {
      user = refl;
      network = refl;
      flow = record {
        a = lost.b;
        b = lost.a;
        mine = lost.its;
        its = lost.mine;
        most = omega (arith, most);
      };
    })

user_lost : (at n : ℕ) (w : World) → IsInvariant w → Flow n w
    → is_ok (acts Whole side.User (Lose at) (view_of side.User w)) ≡ true
    → Loses n w (world_after w (happens Whole (user_move (Lose at)) w))
user_lost at n w i flow ok =
    let v = view_of side.User w in
    subst (λ u. Loses n w u) (sym (moved_user (Lose at) w))
    (at_user at n w (left_by v (acts Whole side.User (Lose at) v)) i (user_loses at v ok) flow)

loses_swapped : (n : ℕ) (w now : World) → Loses n (swapped w) now → Loses n w (swapped now)
loses_swapped n w now l =
    let f = flowing_turned l.flow in
    let most = f.most in
    record {
      user = l.network;
      network = l.user;
      flow =
          record { a = f.a; b = f.b; mine = f.mine; its = f.its; most = omega (arith, most) };
    }

pub frame_lost : (at n : ℕ) (s : Side) (w : World) → IsInvariant w → Flow n w
    → is_ok (happens Whole (record { side = s; event = Lose at }) w) ≡ true
    → Loses n w (world_after w (happens Whole (record { side = s; event = Lose at }) w))
frame_lost at n side.User w i flow ok =
    user_lost at n w i flow (ok_of_side side.User (Lose at) w ok)
frame_lost at n side.Network w i flow ok =
    let now = world_after (swapped w) (happens Whole (user_move (Lose at)) (swapped w)) in
    subst (λ u. Loses n w u) (sym (network_alike Whole (Lose at) w)) (loses_swapped n
    w now (user_lost at n
    (swapped w) (exchanged w i) (flowing_turned flow)
    (ok_of_side side.Network (Lose at) w ok)))
