-- The facts about the timers of an end, within a row and at its end.
use Rattle.std.proofs.Common.{◌≡◌, ℕ, ◌&&◌, not, Bool, true, false, List, refl, sym, subst, arith}
use Rattle.lapd_mod128.specs.Counting.{Reading, Whole, Tagged, IsNumber}
use Rattle.lapd_link_definition.specs.declared.state.State.{State}
use Rattle.lapd_link_definition.specs.declared.state.State.TheVariants.{MultipleFrameEstablished}
use Rattle.lapd_link_definition.specs.declared.out.Out.{Out}
use Rattle.lapd_link_definition.specs.EndOfStep.{is_established}
use Rattle.lapd_link_definition.specs.End.{StepState}
use Rattle.lapd_link_definition.specs.Input.{Input, Expiry}
use Rattle.lapd_link_definition.specs.RunningTimers.{AreTimersOf, HasTimersOfState, FollowOuts}

-- ---- The facts within a row: the state is q; T200 and T203 run as t and u say; if numbers are of
-- the reading, V(A) is one, and with `level` V(S) = V(A); and T200 and T203 followed the outputs,
-- from b and c on.

pub record Timed (r : Reading) (b c : Bool) (Numbers : Type 0) (q : State) (t u level : Bool)
    (state : State) (t200 t203 : Bool) (vs va : ℕ) (outs : List Out) : Type 0 where
  pub in_state : state ≡ q
  pub t200_is : t200 ≡ t
  pub t203_is : t203 ≡ u
  pub number : Numbers → IsNumber r va
  pub same : Numbers → level ≡ true → vs ≡ va
  pub follow : FollowOuts b c t200 t203 outs

pub zero_is_number : (r : Reading) → IsNumber r 0
zero_is_number Whole = tt
zero_is_number Tagged = omega arith

pub record Knows (r : Reading) (b c : Bool) (Numbers : Type 0) (q : State) (t u level : Bool)
    (s : StepState) : Type 0 where
  pub known : Timed r b c Numbers q t u level s.end.state s.end.t200 s.end.t203 s.end.window.vs
      s.end.window.va s.outs

-- the facts before the end records the expiry of T200, which no longer runs outside; the next
-- record says the same of T203
pub record Expires200 (r : Reading) (b c : Bool) (Numbers : Type 0) (q : State) (u level : Bool)
    (s : StepState) : Type 0 where
  pub known : Timed r b c Numbers q false u level s.end.state false s.end.t203 s.end.window.vs
      s.end.window.va s.outs

pub record Expires203 (r : Reading) (b c : Bool) (Numbers : Type 0) (q : State) (t level : Bool)
    (s : StepState) : Type 0 where
  pub known : Timed r b c Numbers q t false level s.end.state s.end.t200 false s.end.window.vs
      s.end.window.va s.outs

-- the facts after a row
pub record Walked (b c : Bool) (Numbers : Type 0) (s : StepState) : Type 0 where
  pub timers : Numbers → HasTimersOfState s.end
  pub follow : FollowOuts b c s.end.t200 s.end.t203 s.outs

-- ---- The facts at the end of a row.

abbrev pub Allowed : State → Bool → Bool → Bool → Type 0
Allowed q t u level = AreTimersOf q t u (level ≡ true)

pub are_timers : {X Y : Type 0} (q : State) (t u : Bool) → (X → Y) → AreTimersOf q t u X
    → AreTimersOf q t u Y
are_timers MultipleFrameEstablished t u follows a = (a.0, λ off. follows (a.1 off))
are_timers state t u follows a = a

pub as_known : (X : Type 0) (q state : State) (t u t200 t203 : Bool) → state ≡ q → t200 ≡ t
    → t203 ≡ u
    → AreTimersOf q t u X → AreTimersOf state t200 t203 X
as_known X q state t u t200 t203 one two three h =
    let F : State → Type 0 = λ x. AreTimersOf x t200 t203 X in
    let G : Bool → Type 0 = λ x. AreTimersOf q x t203 X in
    let H : Bool → Type 0 = λ x. AreTimersOf q t x X in
    subst F (sym one) (subst G (sym two) (subst H (sym three) h))

-- any input except an expiry
abbrev pub IsOther : Input → Type 0
IsOther (Expiry timer) = ⊥
IsOther input = Unit {0}

-- an N(R) that acknowledges some messages starts T200: T203 does not run
pub some_left : (t u level : Bool) → Allowed MultipleFrameEstablished t u level → (level ≡ true → ⊥)
    → Allowed MultipleFrameEstablished true u level
some_left true u level a unlike = (a.0, λ off. cc)
some_left false u level a unlike = absurd (unlike (a.1 refl))

-- the timers after one more message is sent
both_off : (t u : Bool) → u ≡ not t → (t && u) ≡ false
both_off true u h = h
both_off false u h = refl

pub sent_timers : (X Y : Type 0) (state : State) (t u : Bool) → is_established state ≡ true
    → AreTimersOf state t u X → AreTimersOf state true (t && u) Y
sent_timers X Y MultipleFrameEstablished t u is h = (both_off t u h.0, λ off. cc)
sent_timers X Y state t u is h = cc
