-- Facts about the calls of any side, whatever it represents.
use Rattle.std.proofs.Common.{◌≡◌, ℕ, List, Option, Some, Result, Ok, Err, sym, subst}
use Rattle.std.specs.Prelude.{IsErr, OnErr}
use Rattle.lapd_timers.specs.Due.{Timers}
use Rattle.lapd_table.specs.declared.link_id.LinkId.{LinkId}
use Rattle.lapd_sides_links.specs.declared.config.Config.{Config}
use Rattle.lapd_sides_links.specs.declared.running_timer.RunningTimer.{RunningTimer}
use Rattle.lapd_sides_links.specs.declared.side_fault.SideFault.{SideFault}
use Rattle.lapd_sides_links.specs.declared.side_fault.SideKind.{SideKind}
use Rattle.lapd_sides_links.specs.declared.at_once.AtOnce.{AtOnce}
use Rattle.lapd_sides_links.specs.declared.at_once.AtOnce.TheVariants as at_once
use Rattle.lapd_sides_links.specs.Effects.{Adds, Effects, and_then, no_effects}
use Rattle.lapd_sides_links.specs.Messages.{IsUnsent, Message, SendsAtOnce}
use Rattle.lapd_sides_links.specs.Expiries.{IsDue, IsNextDeadline}
use Rattle.lapd_sides_links.specs.Links.{Reaction, Served}
use Rattle.lapd_sides.specs.declared.request.Request.{Request}
use Rattle.lapd_sides.specs.Requests.{message_of}
use Rattle.lapd_sides.specs.Calls.{Answers, HasDone, HasGranted, HasExpired, Expiry, Receives, LacksMemory}
use Rattle.lapd_sides.specs.Shows.{Step}
use Rattle.lapd_sides.specs.SideState.{SideState}

-- an executed request has the same result
pub granted_as : {C S : Type 0} {Show : C → Config → S → Type 0} (code : C) (config : Config)
    (acts : Effects) (a b : Result (Reaction S) SideKind) → b ≡ a
    → HasGranted Show code config acts a → HasGranted Show code config acts b
granted_as {S = S} {Show = Show} code config acts a b same h =
    subst (λ (o : Result (Reaction S) SideKind). HasGranted Show code config acts o) (sym same) h

-- an allocation failed
pub lacks : {C S E : Type 0} {Show : C → Config → S → Type 0} (result : Result (Unit {0}) E)
    (old after : C) (acts : Effects) (tei : S → Option ℕ) (step : Step S) → IsErr result
    → LacksMemory Show old after acts tei → Receives Show result old after acts tei step
lacks (Ok u) old after acts tei step is h = absurd (cc)
lacks (Err e) old after acts tei step is h = h

-- the request is the one that was looked up
pub answers_for : {C S : Type 0} (Show : C → Config → S → Type 0)
    (requested : Config → Request → ℕ → S → Result (Reaction S) SideKind)
    (result : Result (Unit {0}) SideFault) (old after : C) (acts : Effects) (now : ℕ)
    (r q : Request) → r ≡ q
    → Answers Show result old after acts (message_of q) (λ config. requested config q now)
    → Answers Show result old after acts (message_of r) (λ config. requested config r now)
answers_for Show requested result old after acts now r q is h =
    subst (λ (x : Request). Answers Show result old after acts (message_of x)
    (λ config. requested config x now)) (sym is) h

-- ---- The due timer.

pub due_so : (now : ℕ) (s : Served) (timers : Timers) (result e : Option RunningTimer)
    → timers ≡ s.timers → result ≡ e
    → IsDue now (record { links = s.links; timers = timers }) result → IsDue now s e
due_so now s timers result e same is due =
    subst (λ (t : Timers). IsDue now (record { links = s.links; timers = t }) e) same
    (subst (IsDue now (record { links = s.links; timers = timers })) is due)

pub next_so : (s : Served) (timers : Timers) (deadline : Option ℕ) → timers ≡ s.timers
    → IsNextDeadline (record { links = s.links; timers = timers }) deadline
    → IsNextDeadline s deadline
next_so s timers deadline same next =
    subst (λ (t : Timers). IsNextDeadline (record { links = s.links; timers = t }) deadline) same
    next

pub expired_so : {C M : Type 0} {Show : C → Config → SideState M → Type 0}
    {expires : Expiry (SideState M)} (code : C) (config : Config) (acts : Effects) (now : ℕ)
    (s : SideState M) (e : RunningTimer) (of : Option LinkId) → IsDue now s.served (Some e)
    → e.of ≡ of → HasDone Show code config acts (expires config now e.timer of s)
    → HasExpired Show expires code config acts now s
expired_so {Show = Show} {expires = expires} code config acts now s e of due is done = record {
  expiry = e;
  due = due;
  done =
      subst (λ (o : Option LinkId). HasDone Show code config acts (expires config now e.timer o s))
      (sym is) done;
}

-- a general fact holds for a refusal
pub on_err : {A E : Type 0} (result : Result A E) (P : Type 0) → P → OnErr result P
on_err (Ok a) P p = tt
on_err (Err e) P p = p

-- ---- Effects that are appended.

-- without earlier effects, those that are there are the call's own
pub alone : (before after : Effects) (Does : Effects → Type 0) → before ≡ no_effects
    → Adds before after Does → Does after
alone before after Does empty h =
    subst Does (sym (subst (λ (b : Effects). after ≡ and_then b h.given) empty h.appended)) h.does

-- more follows from the call
pub added_so : (before after : Effects) (Does Also : Effects → Type 0)
    → ((given : Effects) → Does given → Also given) → Adds before after Does
    → Adds before after Also
added_so before after Does Also so h = record {
  given = h.given;
  appended = h.appended;
  does = so h.given h.does;
}

-- a copy of a message is sent or not, and the same follows
pub sends_so : (octets : List ℕ) (before after : Effects) (Does Also : Message → Effects → Type 0)
    (Why Because Same Stays : Type 0) (result : AtOnce)
    → ((message : Message) (given : Effects) → Does message given → Also message given)
    → (Why → Because) → (Same → Stays)
    → SendsAtOnce octets (λ message. Adds before after (Does message)) Why Same result
    → SendsAtOnce octets (λ message. Adds before after (Also message)) Because Stays result
sends_so octets before after Does Also Why Because Same Stays at_once.Sent so why stays h = record {
  message = h.message;
  items = h.items;
  asks = added_so before after (Does h.message) (Also h.message) (so h.message) h.asks;
}
sends_so octets before after Does Also Why Because Same Stays (at_once.Unsent message) so why stays
    h =
    (h.0, why h.1, stays h.2)
sends_so octets before after Does Also Why Because Same Stays at_once.NoMemory so why stays h =
    stays h

-- a copy of a message is not sent, for this reason
pub unsent_by : (octets : List ℕ) (Sends : Message → Type 0) (Why Same : Type 0) (result : AtOnce)
    → Why → Same → IsUnsent octets result → SendsAtOnce octets Sends Why Same result
unsent_by octets Sends Why Same at_once.Sent why same h = absurd h.asks
unsent_by octets Sends Why Same (at_once.Unsent message) why same h = (h.0, why, same)
unsent_by octets Sends Why Same at_once.NoMemory why same h = same
