-- No timer expires early.
use Rattle.std.proofs.Common.{◌≡◌, ℕ, List, [], ◌∷◌, ◌++◌, Option, None, Some, refl, sym, ap, subst, ◌∙◌, append_assoc, append-nil, inl, inr}
use Rattle.std.specs.Prelude.{◌⊎◌, Bool, true, false}
use Rattle.lapd_cli_live.specs.declared.service.EndReason.TheVariants as end_reason
use Rattle.lapd_cli_live.specs.declared.service.Service.{Service}
use Rattle.lapd_cli_live.specs.declared.service.Until.{Until}
use Rattle.lapd_cli_live.specs.declared.service.Until.TheVariants as until
use Rattle.lapd_cli_wire.specs.declared.outside.Lines.{Lines}
use Rattle.lapd_cli_wire.specs.declared.outside.Lines.TheVariants as lines
use Rattle.lapd_cli_wire.specs.declared.outside.Woken.{Woken}
use Rattle.lapd_cli_wire.specs.declared.outside.Woken.TheVariants as woken
use Rattle.lapd_cli_wire.specs.IoEvents.{Adds, Arrives, IoEvent, FindsNone, Reads, Sends, Waits, is_reached}
use Rattle.lapd_cli_live.specs.Log.{LiveState, io_events_in, is_matched, moment_of}
use Rattle.lapd_cli_live.specs.Steps.{CatchesUp, IsMatched, IsOver, IsServed, LooksInVain, Proceeds, ProceedsOnce, Receives, Step, TakesMost, end_by_wait, ended_by}
use Rattle.lapd_cli_live.specs.PromptLine.{Arrival, EndsInTime, ExpiresInTime, HasAllThatArrived, IsPrompt, IsPromptAfter, StartsWithEarlier, frames_received, one_left, three_at_once, three_received}

received_before : (io_events : List IoEvent) (now : ℕ)
    → frames_received (io_events ++ (Reads now ∷ FindsNone ∷ [])) ≡ frames_received io_events
received_before [] now = refl
received_before (Arrives frame ∷ io_events) now =
    ap (λ (frames : List (List ℕ)). frame ∷ frames) (received_before io_events now)
received_before (Reads at ∷ io_events) now = received_before io_events now
received_before (FindsNone ∷ io_events) now = received_before io_events now
received_before (Waits until woken ∷ io_events) now = received_before io_events now
received_before (Sends frame ∷ io_events) now = received_before io_events now

-- a look right after a reading of the clock is prompt, wherever it is
prompt_at : (clock : Option ℕ) (received : List (List ℕ)) (arrivals : List Arrival)
    (before rest : List IoEvent) (now : ℕ)
    → IsPromptAfter clock received arrivals (before ++ (Reads now ∷ FindsNone ∷ rest))
    → StartsWithEarlier now arrivals (received ++ frames_received before)
prompt_at clock received arrivals [] rest now h =
    subst (λ (frames : List (List ℕ)). StartsWithEarlier now arrivals frames)
    (sym (append-nil received)) h.0
prompt_at clock received arrivals (Arrives frame ∷ before) rest now h =
    subst (λ (frames : List (List ℕ)). StartsWithEarlier now arrivals frames)
    (append_assoc received (frame ∷ []) (frames_received before))
    (prompt_at None (received ++ frame ∷ []) arrivals before rest now h)
prompt_at clock received arrivals (Reads at ∷ before) rest now h =
    prompt_at (Some at) received arrivals before rest now h
prompt_at clock received arrivals (FindsNone ∷ before) rest now h =
    prompt_at None received arrivals before rest now h.1
prompt_at clock received arrivals (Waits until woken ∷ before) rest now h =
    prompt_at None received arrivals before rest now h
prompt_at clock received arrivals (Sends frame ∷ before) rest now h =
    prompt_at None received arrivals before rest now h

-- if the calls are recorded by now, they were recorded before
pub record Knew (a b : Option (List IoEvent)) (io_events more : List IoEvent) : Type 0 where
  pub before : List IoEvent
  pub was : a ≡ Some before
  pub is : io_events ≡ before ++ more

knew : (a b : Option (List IoEvent)) (io_events more : List IoEvent) → b ≡ Some io_events
    → Adds a b more → Knew a b io_events more
knew None None io_events more known adds = let impossible : None ≡ Some io_events = known in cc
knew None (Some after) io_events more known adds = absurd adds
knew (Some before) None io_events more known adds = absurd adds
knew (Some before) (Some after) io_events more known adds =
    let same : after ≡ io_events = cc in
    record { before = before; was = refl; is = sym same ∙ adds }

pub has_all : (arrivals : List Arrival) (a b : LiveState) (io_events rest known : List IoEvent)
    → LooksInVain a b → b.io_events ≡ Some io_events → known ≡ io_events ++ rest
    → IsPrompt arrivals known → HasAllThatArrived arrivals b
has_all arrivals a b io_events rest known looks are all prompt =
    let now = moment_of b in
    let before : Knew a.io_events b.io_events io_events (Reads now ∷ FindsNone ∷ []) =
    knew a.io_events b.io_events io_events (Reads now ∷ FindsNone ∷ []) are
    looks.happen.io_events in
    let whole : known ≡ before.before ++ (Reads now ∷ FindsNone ∷ rest) =
    all ∙ ap (λ (x : List IoEvent). x ++ rest) before.is
    ∙ append_assoc before.before (Reads now ∷ FindsNone ∷ []) rest in
    let earlier : StartsWithEarlier now arrivals (frames_received before.before) =
    prompt_at None [] arrivals before.before rest now
    (subst (λ (x : List IoEvent). IsPrompt arrivals x) whole prompt) in
    record {
      io_events = io_events;
      are = are;
      received = record {
        more = earlier.more;
        are =
            ap frames_received before.is ∙ received_before before.before now ∙ earlier.are;
      };
    }

in_time : (arrivals : List Arrival) (until : Until) (a b : LiveState)
    (io_events rest known : List IoEvent) → Receives until a b → b.io_events ≡ Some io_events
    → known ≡ io_events ++ rest → IsPrompt arrivals known
    → HasAllThatArrived arrivals b ⊎ TakesMost until a b
in_time arrivals until a b io_events rest known (inl all) are is prompt =
    inl (has_all arrivals all.last b io_events rest known all.looks are is prompt)
in_time arrivals until a b io_events rest known (inr most) are is prompt = inr most

pub expires_in_time : (arrivals : List Arrival) (until : Until) (a b : LiveState)
    (io_events : List IoEvent) → CatchesUp until a b → b.io_events ≡ Some io_events
    → IsPrompt arrivals io_events → ExpiresInTime arrivals until a b
expires_in_time arrivals until a b io_events caught known prompt =
    let before : Knew caught.received.io_events b.io_events io_events
    (io_events_in caught.due.events) =
    knew caught.received.io_events b.io_events io_events (io_events_in caught.due.events) known
    caught.due.happen.io_events in
    record {
      received = caught.received;
      receives = caught.receives;
      due = caught.due;
      moment = caught.due.moment;
      in_time =
          in_time arrivals until a caught.received before.before (io_events_in caught.due.events)
          io_events caught.receives before.was before.is prompt;
    }

-- ---- The end of a service.

no_frame_ends : (until : Until) (taken matched : Bool)
    → ended_by until taken matched ≡ Some end_reason.End → ⊥
no_frame_ends until.NoEvent taken matched e = cc
no_frame_ends until.Frame true matched e = cc
no_frame_ends until.Frame false matched e = cc
no_frame_ends until.Matched taken true e = cc
no_frame_ends until.Matched taken false e = cc

no_wait_ends : (lines : Lines) (woken : Woken) → end_by_wait lines woken ≡ Some end_reason.End → ⊥
no_wait_ends lines woken.Arrival e = cc
no_wait_ends lines woken.Due e = cc
no_wait_ends lines woken.Lost e = cc
no_wait_ends lines woken.Closed e = cc
no_wait_ends lines.Awaited woken.Line e = cc
no_wait_ends lines.Ignored woken.Line e = cc

no_proceeding_ends : (service : Service) (a b : LiveState)
    → Proceeds service (Some end_reason.End) a b → ⊥
no_proceeding_ends service a b (inl audits) =
    let impossible : Some end_reason.End ≡ None = audits.is in cc
no_proceeding_ends service a b (inr waits) =
    no_wait_ends service.lines waits.woken (sym waits.is)

ends_by_step : (arrivals : List Arrival) (service : Service) (a b : LiveState)
    (io_events : List IoEvent) → Step service a b (Some end_reason.End)
    → b.io_events ≡ Some io_events
    → IsPrompt arrivals io_events → EndsInTime arrivals service b
ends_by_step arrivals service a b io_events (inl cut) known prompt =
    absurd (no_frame_ends service.until true (is_matched b) (cut.ends.ends ∙ sym cut.is))
ends_by_step arrivals service a b io_events (inr whole) known prompt = by_then whole.then
  where
    by_then : IsMatched service whole.ready b (Some end_reason.End)
        ⊎ (IsOver service whole.ready b (Some end_reason.End)
        ⊎ ProceedsOnce service whole.ready b (Some end_reason.End))
        → EndsInTime arrivals service b
    by_then (inl matched) =
        absurd (no_frame_ends service.until false (is_matched whole.ready)
        (matched.matched ∙ sym matched.is))
    by_then (inr (inl over)) = record {
      last = a;
      expires =
          expires_in_time arrivals service.until a b io_events
          (subst (λ (x : LiveState). CatchesUp service.until a x) (sym over.same) whole.catches_up)
          known prompt;
      reached =
          ap (λ (x : LiveState). is_reached service.end (moment_of x)) over.same ∙ over.reached;
    }
    by_then (inr (inr once)) =
        absurd (no_proceeding_ends service whole.ready b once.proceeds)

pub ends_in_time : (arrivals : List Arrival) (service : Service) (a b : LiveState)
    (io_events : List IoEvent) → IsServed service end_reason.End a b → b.io_events ≡ Some io_events
    → IsPrompt arrivals io_events → EndsInTime arrivals service b
ends_in_time arrivals service a b io_events served known prompt =
    ends_by_step arrivals service served.last b io_events served.ends known prompt

-- ---- The worked line.

-- three frames of a millisecond may arrive after three looks in it
pub three_are_prompt : IsPrompt three_at_once three_received
three_are_prompt = (
  record { more = []; are = refl },
  (
    record { more = (1 ∷ []) ∷ []; are = refl },
    (
      record { more = (1 ∷ []) ∷ (2 ∷ []) ∷ []; are = refl },
      (record { more = []; are = refl }, tt),
    ),
  ),
)

-- a frame of an earlier millisecond may not
pub one_left_is_late : IsPrompt three_at_once one_left → ⊥
one_left_is_late h =
    let are : (1 ∷ []) ∷ (2 ∷ []) ∷ [] ≡ (1 ∷ []) ∷ (2 ∷ []) ∷ (3 ∷ []) ∷ h.0.more = h.0.are in cc
