-- A pair settles by the moves of the worlds that it represents.
use Rattle.std.proofs.Common.{◌≡◌, ℕ, ◌+◌, ◌-◌, ◌*◌, ◌<◌, Bool, true, false, if◌then◌else◌, List, [], ◌∷◌, map, length, is_some, is_none, is_ok, Option, Some, None, IfSome, IfNone, Result, refl, sym, ap, subst, ◌∙◌, arith}
use Rattle.std.proofs.Math.Bool.{Bool-set}
use Rattle.std.proofs.Math.Bridge.{le_prop}
use Rattle.std.proofs.Math.Logic.{∥∥₁_map, ∥∥₁_elim}
use Rattle.std.proofs.Math.Nat.{ℕ_set}
use Rattle.lapd_frame.specs.Frame.{spelling}
use Rattle.lapd_frame.specs.declared.Side.{Side}
use Rattle.lapd_frame.specs.declared.Side.TheVariants.{User, Network}
use Rattle.lapd_mod128.specs.Counting.{Tagged}
use Rattle.lapd_link_definition.specs.End.{begin}
use Rattle.lapd_pair_laws.specs.Line.{Flight}
use Rattle.lapd_pair_laws.specs.Move.{Deliver, Expire200, Move, Refusal}
use Rattle.lapd_pair_laws.specs.World.{World, Happened, new_world, happens, run, left}
use Rattle.lapd_pair_laws.proofs.Settled.{left_settled}
use Rattle.lapd_pair_laws.specs.Settle.{IsQuiet, first_admitted, tried, next_move, settling, bound}
use Rattle.lapd_pair_laws.proofs.DrainsAfterRuns.{every_quiet_line_drains}
use Rattle.lapd_pair_laws.proofs.Stepping.{next_to_network, next_to_user, next_of_user, next_of_network, next_none}
use Rattle.lapd_pair.specs.declared.line.Line.{Line}
use Rattle.lapd_pair.specs.declared.pair.Pair.{Pair}
use Rattle.lapd_pair.specs.declared.pair_fault.PairFault.{PairFault}
use Rattle.lapd_pair.specs.declared.pair_fault.PairFault.TheVariants as fault
use Rattle.lapd_pair.specs.declared.settled.Settled.{Settled}
use Rattle.lapd_pair.specs.Line.{IsOn, IsFirst, fields_of}
use Rattle.lapd_pair.specs.Moves.{IsRefusedAs}
use Rattle.lapd_pair.specs.Pair.{IsReached}
use Rattle.lapd_pair.specs.Runs.{PairRepresents}
use Rattle.lapd_pair.specs.Settles.{settled, HasSettled, Settles, HasStoppedSettling, IsEmptied, IsDrainedPair}
use Rattle.lapd_pair.proofs.Repeated.{AreMade, HasMadeAll, no_move}

-- ---- The first frame of a line.

pub record Starts (frames : List Flight) : Type 0 where
  pub frame : Flight
  pub rest : List Flight
  pub is : frames ≡ frame ∷ rest

starts_with : (from : Side) (octets : List ℕ) (frames : List Flight) → IsFirst from octets frames
    → Starts frames
starts_with from octets [] first = absurd first
starts_with from octets (frame ∷ rest) first = record { frame = frame; rest = rest; is = refl }

pub some_starts : {A : Type 0} (octets_of : A → List ℕ) (from : Side) (line : Line) (o : Option A)
    (frames : List Flight) → true ≡ is_some o
    → IfSome o (λ a. (from : Side) (frames : List Flight) → IsOn from line frames → IsFirst from
    (octets_of a) frames) → IsOn from line frames → Starts frames
some_starts octets_of from line (Some a) frames is first on =
    starts_with from (octets_of a) frames (first from frames on)
some_starts octets_of from line None frames is first on = cc

pub none_starts : {A : Type 0} (from : Side) (line : Line) (o : Option A) (frames : List Flight)
    → false ≡ is_some o
    → IfNone o ((from : Side) (frames : List Flight) → IsOn from line frames → frames ≡ [])
    → IsOn from line frames → frames ≡ []
none_starts from line None frames is none on = none from frames on
none_starts from line (Some a) frames is none on = cc

-- ---- The next move, by the frames in transit and the running timers.

abbrev with_lines : World → List Flight → List Flight → World
with_lines w to_user to_network = record w { to_user = to_user; to_network = to_network }

lines_are : (P : World → Type 0) (w : World) (to_user to_network : List Flight)
    → w.to_user ≡ to_user → w.to_network ≡ to_network → P (with_lines w to_user to_network) → P w
lines_are P w to_user to_network u n p =
    subst P
    (ap (λ l. with_lines w l to_network) (sym u) ∙ ap (λ l. with_lines w w.to_user l) (sym n)) p

pub deliver_to_network : (w : World) → Starts w.to_network
    → Some (record { side = Network; event = Deliver }) ≡ next_move Tagged w
deliver_to_network w s =
    sym (lines_are (λ v. next_move Tagged v ≡ Some (record { side = Network; event = Deliver })) w
    w.to_user (s.frame ∷ s.rest) refl s.is
    (next_to_network Tagged w.user w.network w.to_user s.frame s.rest))

pub deliver_to_user : (w : World) → w.to_network ≡ [] → Starts w.to_user
    → Some (record { side = User; event = Deliver }) ≡ next_move Tagged w
deliver_to_user w none s =
    sym (lines_are (λ v. next_move Tagged v ≡ Some (record { side = User; event = Deliver })) w
    (s.frame ∷ s.rest) [] s.is none (next_to_user Tagged w.user w.network s.frame s.rest))

pub t200_of_user : (w : World) → w.to_network ≡ [] → w.to_user ≡ [] → w.user.end.t200 ≡ true
    → Some (record { side = User; event = Expire200 }) ≡ next_move Tagged w
t200_of_user w n u on =
    sym (lines_are (λ v. next_move Tagged v ≡ Some (record { side = User; event = Expire200 })) w []
    [] u n (next_of_user Tagged w.user w.network on))

pub t200_of_network : (w : World) → w.to_network ≡ [] → w.to_user ≡ [] → w.user.end.t200 ≡ false
    → w.network.end.t200 ≡ true
    → Some (record { side = Network; event = Expire200 }) ≡ next_move Tagged w
t200_of_network w n u off on =
    sym (lines_are (λ v. next_move Tagged v ≡ Some (record { side = Network; event = Expire200 })) w
    [] [] u n (next_of_network Tagged w.user w.network off on))

pub nothing_next : (w : World) → w.to_network ≡ [] → w.to_user ≡ [] → w.user.end.t200 ≡ false
    → w.network.end.t200 ≡ false → no_move ≡ next_move Tagged w
nothing_next w n u off none =
    sym (lines_are (λ v. next_move Tagged v ≡ no_move) w [] [] u n
    (next_none Tagged w.user w.network off none))

-- ---- The bound on the number of moves.

-- from the number of waiting messages at each end
pub bound_is : (p : Pair) (w : World) (user network : ℕ) → PairRepresents p w
    → user ≡ length w.user.end.given - w.user.end.first
    → network ≡ length w.network.end.given - w.network.end.first
    → 8 * (user + network + 4) ≡ bound w
bound_is p w user network s user_waits network_waits =
    let a = left_settled w.user s.preserved.user.settled in
    let b = left_settled w.network s.preserved.network.settled in
    let c = s.preserved.user.first in
    let d = s.preserved.network.first in
    omega (arith, user_waits, network_waits, a, b, c, d)

-- ---- The moves made.

pub none_made : (p : Pair) → AreMade (settling Tagged) p 0 p
none_made p = record { representation = λ w s. s; counted = λ w s. refl }

pub as_settled : (now : Pair) (done : Settled) (w : World)
    → HasMadeAll (next_move Tagged) (settling Tagged) (bound w) now done w → HasSettled now done w
as_settled now done w all =
    record { representation = all.representation; moves = all.moves; rest = all.rest }

-- ---- An allocation fails.

same_some : (a b : Move) → Some a ≡ Some b → a ≡ b
same_some a b is = cc

first_by : (first m : Move) (w : World) (b : Bool) (rest : Option Move)
    → is_ok (happens Tagged first w) ≡ b → (rest ≡ Some m → is_ok (happens Tagged m w) ≡ true)
    → (if b then Some first else rest) ≡ Some m → is_ok (happens Tagged m w) ≡ true
first_by first m w true rest here later is =
    subst (λ n. is_ok (happens Tagged n w) ≡ true) (same_some first m is) here
first_by first m w false rest here later is = later is

first_is_admitted : (moves : List Move) (w : World) (m : Move)
    → first_admitted Tagged moves w ≡ Some m → is_ok (happens Tagged m w) ≡ true
first_is_admitted [] w m is = cc
first_is_admitted (first ∷ moves) w m is =
    first_by first m w (is_ok (happens Tagged first w)) (first_admitted Tagged moves w) refl
    (λ later. first_is_admitted moves w m later) is

-- an admitted move is refused only when an allocation fails
pub refused_for_memory : (why : PairFault) (outcome : Result Happened Refusal)
    → IsRefusedAs why outcome → is_ok outcome ≡ true → why ≡ fault.Memory
refused_for_memory fault.Memory outcome is ok = refl
refused_for_memory fault.NothingThere outcome is ok = cc
refused_for_memory fault.NotRunning outcome is ok = cc
refused_for_memory (fault.NotYet side at) outcome is ok = cc
refused_for_memory (fault.Refused why) outcome is ok = cc

pub stopped_at : (before now after : Pair) (n : ℕ) (m : Move) (why : PairFault)
    → AreMade (settling Tagged) before n now
    → ((w : World) → PairRepresents now w → Some m ≡ next_move Tagged w)
    → ((w : World) → PairRepresents now w → IsRefusedAs why (happens Tagged m w))
    → ((w : World) → PairRepresents now w → PairRepresents after w) → (w : World)
    → PairRepresents before w → n < bound w → HasStoppedSettling why after w
stopped_at before now after n m why made next refuses same w s few =
    let u = run Tagged (settling Tagged n w) w in
    let su = made.representation w s in
    let admitted = first_is_admitted tried u m (sym (next u su)) in
    record {
      memory = refused_for_memory why (happens Tagged m u) (refuses u su) admitted;
      made = n;
      few = few;
      representation = same u su;
      move = m;
      next = sym (next u su);
      admitted = admitted;
    }

-- ---- A quiet line.

pub drained_pair : (old new : Pair) (done : Settled) → Settles old new done
    → ∥ IsDrainedPair old new ∥₁
drained_pair old new done settles = ∥∥₁_map old.reached (λ x.
    let w = run Tagged x.moves (new_world x.user x.network) in
    record {
      user = x.user;
      network = x.network;
      moves = x.moves;
      representation = x.represent;
      after = (settles w x.represent).representation;
      drained =
          λ q. every_quiet_line_drains Tagged x.user x.network x.few_of_user x.few_of_network
          x.some_of_user x.some_of_network x.moves q;
    })

-- ---- All worlds that one pair represents agree on quietness and on the messages left.

pub no_frames : (from : Side) (line : Line) (none other : List Flight) → none ≡ []
    → IsOn from line none → IsOn from line other → other ≡ []
no_frames from line none [] is on on_other = refl
no_frames from line none (f ∷ fs) is on on_other =
    let spelled =
    sym (ap (λ l. map (λ x. spelling from (fields_of x)) l) is) ∙ sym on.octets
    ∙ on_other.octets in
    cc

quiet_again : (p : Pair) (w v : World) → PairRepresents p w → PairRepresents p v → IsQuiet w
    → IsQuiet v
unfolding begin
quiet_again p w v s t q = record {
  user = t.user.link.state ∙ sym s.user.link.state ∙ q.user;
  network = t.network.link.state ∙ sym s.network.link.state ∙ q.network;
  user_free = ap (λ m. m.own_busy) (t.user.link.window ∙ sym s.user.link.window) ∙ q.user_free;
  network_free =
      ap (λ m. m.own_busy) (t.network.link.window ∙ sym s.network.link.window) ∙ q.network_free;
  to_user = no_frames Network p.to_user w.to_user v.to_user q.to_user s.to_user t.to_user;
  to_network =
      no_frames User p.to_network w.to_network v.to_network q.to_network s.to_network t.to_network;
}

pub left_again : (p : Pair) (w v : World) → PairRepresents p w → PairRepresents p v
    → left w ≡ left v
left_again p w v s t =
    let given_user : length w.user.end.given ≡ length v.user.end.given =
    ap length (sym s.user.history.given ∙ t.user.history.given) in
    let given_network : length w.network.end.given ≡ length v.network.end.given =
    ap length (sym s.network.history.given ∙ t.network.history.given) in
    omega (
      arith,
      given_user,
      given_network,
      left_settled w.user s.preserved.user.settled,
      left_settled w.network s.preserved.network.settled,
      left_settled v.user t.preserved.user.settled,
      left_settled v.network t.preserved.network.settled,
      s.preserved.user.settled.counted,
      s.preserved.network.settled.counted,
      t.preserved.user.settled.counted,
      t.preserved.network.settled.counted,
      s.user.history.acknowledged,
      s.user.history.dropped,
      s.network.history.acknowledged,
      s.network.history.dropped,
      t.user.history.acknowledged,
      t.user.history.dropped,
      t.network.history.acknowledged,
      t.network.history.dropped,
    )

module _ (old new : Pair) (done : Settled) (settles : Settles old new done) (w : World)
    (s : PairRepresents old w) (q : IsQuiet w) where
  emptied_by : IsReached old.user old.network old.to_user old.to_network
      → IsEmptied done w (settled w)
  emptied_by x =
      let v = run Tagged x.moves (new_world x.user x.network) in
      let d =
      every_quiet_line_drains Tagged x.user x.network x.few_of_user x.few_of_network
      x.some_of_user x.some_of_network x.moves (quiet_again old w v s x.represent q) in
      let h = settles w s in
      let i = settles v x.represent in
      let moves = i.moves in
      let few = d.few in
      record {
        rest = i.rest ∙ ap is_none d.drained.rests;
        few = omega (arith, moves, few, left_again old w v s x.represent);
        empty =
            left_again new (settled w) (settled v) h.representation i.representation
            ∙ d.drained.empty;
        user =
            sym h.representation.user.history.dropped ∙ i.representation.user.history.dropped
            ∙ ap length d.drained.user.dropped ∙ sym x.represent.user.history.dropped
            ∙ s.user.history.dropped;
        network =
            sym h.representation.network.history.dropped ∙ i.representation.network.history.dropped
            ∙ ap length d.drained.network.dropped ∙ sym x.represent.network.history.dropped
            ∙ s.network.history.dropped;
      }

  pub emptied : IsEmptied done w (settled w)
  emptied = record {
    rest = ∥∥₁_elim old.reached (Bool-set _ _) (λ x. (emptied_by x).rest);
    few = ∥∥₁_elim old.reached le_prop (λ x. (emptied_by x).few);
    empty = ∥∥₁_elim old.reached (ℕ_set _ _) (λ x. (emptied_by x).empty);
    user = ∥∥₁_elim old.reached (ℕ_set _ _) (λ x. (emptied_by x).user);
    network = ∥∥₁_elim old.reached (ℕ_set _ _) (λ x. (emptied_by x).network);
  }
