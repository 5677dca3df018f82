-- A call of a side in code is an event of the side that the code represented before.
use Rattle.std.proofs.Common.{◌≡◌, ℕ, List, ◌∷◌, ◌++◌, Bool, true, if◌then◌else◌, Option, Some, None, Result, Ok, Err, refl, sym, ap, subst, ◌∙◌}
use Rattle.std.specs.Prelude.{is_some, option_map, Vec, ⊤}
use Rattle.std.specs.declared.alloc.Global.{Global}
use Rattle.lapd_timers.specs.declared.timer.Timer.{Timer}
use Rattle.lapd_timers.specs.declared.timer.Timer.TheVariants.{T200, T201, T202, T203}
use Rattle.lapd_timers.specs.Due.{Timers, deadline_of}
use Rattle.lapd_table.specs.declared.link_id.LinkId.{LinkId}
use Rattle.lapd_sides_links.specs.declared.config.Config.{Config}
use Rattle.lapd_sides_links.specs.declared.running_timer.RunningTimer.{RunningTimer}
use Rattle.lapd_sides_links.specs.declared.side_fault.SideFault.{SideFault}
use Rattle.lapd_sides_links.specs.Effects.{Effects}
use Rattle.lapd_sides_links.specs.Expiries.{IsDue, IsTimerOf, Runs, of_served}
use Rattle.lapd_sides_links.specs.Links.{Linked, Served, Reaction}
use Rattle.lapd_sides.specs.declared.request.Request.{Request}
use Rattle.lapd_sides.specs.SideState.{SideState, Rules, expires, given_for, takes}
use Rattle.lapd_sides.specs.Calls.{Answers, Expires, HasDone, Receives}
use Rattle.lapd_side_events.specs.Calls.{Puts, SideDoes, take_of}
use Rattle.lapd_side_events.specs.Interface.{behaviour}
use Rattle.lapd_side_events.specs.SideView.{Behaviour, SideView, SideEvent, Take, Lose, Expire, Ask, unmoved, takes_first, runs_on, may_expire, or_unmoved, reaction, does}

-- ---- A timer that is due may expire.

same_timers : (a b : Timers) → Some a ≡ Some b → a ≡ b
same_timers a b h = cc

deadline_so : (timer : Timer) (its t : Timers) (deadline : ℕ) → its ≡ t
    → deadline_of timer t ≡ Some deadline → is_some (deadline_of timer its) ≡ true
deadline_so timer its t deadline same until =
    ap (λ (x : Timers). is_some (deadline_of timer x)) same ∙ ap is_some until

its_runs : (timer : Timer) (l : Option Linked) (t : Timers) (deadline : ℕ)
    → option_map (λ (x : Linked). x.timers) l ≡ Some t → deadline_of timer t ≡ Some deadline
    → runs_on timer l ≡ true
its_runs timer None t deadline there until = cc
its_runs timer (Some l) t deadline there until =
    deadline_so timer l.timers t deadline (same_timers l.timers t there) until

runs_by : (timer : Timer) (of : Option LinkId) (s : Served) (t : Timers) (deadline : ℕ)
    → of_served s of ≡ Some t → IsTimerOf of timer → deadline_of timer t ≡ Some deadline
    → may_expire timer of s ≡ true
runs_by timer None s t deadline there own until =
    deadline_so timer s.timers t deadline (same_timers s.timers t there) until
runs_by T200 (Some id) s t deadline there own until =
    its_runs T200 (s.links id) t deadline there until
runs_by T203 (Some id) s t deadline there own until =
    its_runs T203 (s.links id) t deadline there until
runs_by T201 (Some id) s t deadline there own until = absurd own
runs_by T202 (Some id) s t deadline there own until = absurd own

due_may_expire : (now : ℕ) (s : Served) (e : RunningTimer) → IsDue now s (Some e)
    → may_expire e.timer e.of s ≡ true
due_may_expire now s e due =
    let r : Runs (of_served s) e = due.0.runs in
    runs_by e.timer e.of s r.its e.deadline r.there r.own r.until

-- ---- The frames and primitives that an event adds.

puts_so : (S : Type 0) (w : Behaviour S) (acts : Effects) (event : SideEvent) (v : SideView S)
    → acts ≡ (reaction w event v).effects → Puts w acts event v
unfolding does
puts_so S w acts event v is = record {
  sent = ap (λ (e : Effects). v.outgoing ++ e.frames) (sym is);
  delivered = ap (λ (e : Effects). v.delivered ++ e.primitives) (sym is);
}

-- the effect of an expiry if the timer may expire
expiry_is : (S : Type 0) (w : Behaviour S) (e : RunningTimer) (now : ℕ) (v : SideView S)
    → may_expire e.timer e.of (w.served v.now) ≡ true
    → reaction w (Expire e.timer e.of now) v ≡ w.expires now e.timer e.of v.now
expiry_is S w e now v may =
    ap (λ (b : Bool). if b then w.expires now e.timer e.of v.now else unmoved v.now) may

-- ---- The effect of a call.

-- the side after the call is the one after the event, with the same frames and primitives
done : {C S : Type 0} (Show : C → Config → S → Type 0) (w : Config → Behaviour S) (code : C)
    (config : Config) (acts : Effects) (event : SideEvent) (v : SideView S) (a : Reaction S)
    → reaction (w config) event v ≡ a → HasDone Show code config acts a
    → SideDoes Show w code config acts event v
unfolding does
done {S = S} Show w code config acts event v a is h = record {
  shown = subst (λ (x : Reaction S). Show code config x.after) (sym is) h.shown;
  puts = puts_so S (w config) acts event v (h.given ∙ ap (λ (x : Reaction S). x.effects) (sym is));
}

module _ {C M : Type 0} (Show : C → Config → SideState M → Type 0) (rules : Rules M) (old new : C)
    (acts : Effects) where
  abbrev Does : Config → SideEvent → SideView (SideState M) → Type 0
  Does config event v = SideDoes Show (behaviour rules) new config acts event v

  pub call_takes : (result : Result ⊤ SideFault) (octets : List ℕ) (rest : List (List ℕ)) (now : ℕ)
      → Receives Show result old new acts (λ s. given_for rules s.management octets)
      (λ config. takes rules config octets now)
      → (config : Config) (v : SideView (SideState M)) → Show old config v.now
      → v.incoming ≡ octets ∷ rest → Does config (take_of result now) v
  call_takes (Ok u) octets rest now h config v shown are =
      done Show (behaviour rules) new config acts (Take now) v (takes rules config octets now v.now)
      (ap (λ line. takes_first (behaviour rules config) now line v.now) are)
      (h config v.now shown)
  call_takes (Err fault) octets rest now h config v shown are =
      done Show (behaviour rules) new config acts (Lose 0) v (unmoved v.now) refl
      (record { shown = h.unchanged config v.now shown; given = h.nothing })

  pub call_ticks : (now : ℕ) → Expires Show (expires rules) old new acts now
      → (config : Config) (v : SideView (SideState M)) → Show old config v.now
      → (e : RunningTimer) × IsDue now v.now.served (Some e)
      × Does config (Expire e.timer e.of now) v
  call_ticks now h config v shown =
      let x = h config v.now shown in (
        x.expiry,
        x.due,
        done Show (behaviour rules) new config acts (Expire x.expiry.timer x.expiry.of now) v
            (expires rules config now x.expiry.timer x.expiry.of v.now)
            (expiry_is _ (behaviour rules config) x.expiry now v
            (due_may_expire now v.now.served x.expiry x.due)) x.done,
      )

  pub call_requests : (result : Result ⊤ SideFault) (message : Option (Vec ℕ Global))
      (request : Request) (now : ℕ)
      → Answers Show result old new acts message (λ config. rules.requested config request now)
      → (config : Config) (v : SideView (SideState M)) → Show old config v.now
      → Does config (Ask request now) v
  call_requests (Ok u) message request now h config v shown =
      let x = h config v.now shown in
      done Show (behaviour rules) new config acts (Ask request now) v x.acted
      (ap (or_unmoved v.now) x.is) x.done
  call_requests (Err fault) message request now h config v shown =
      done Show (behaviour rules) new config acts (Ask request now) v (unmoved v.now)
      (ap (or_unmoved v.now) (h.kind config v.now shown))
      (record { shown = h.unchanged config v.now shown; given = h.nothing })
