-- The TEI messages that octets carry, and their order on a line.
use Rattle.std.proofs.Common.{◌≡◌, ◌⊎◌, inl, inr, ℕ, ◌==◌, ◌&&◌, List, [], ◌∷◌, ◌++◌, drop, Bool, true, false, if◌then◌else◌, zero, suc, Option, Some, None, Result, Ok, Err, refl, sym, ap, ◌∙◌}
use Rattle.std.specs.Prelude.{filter, slice_get, ◌||◌}
use Rattle.std.specs.List.{list_any, filter_map, cons_option, remove}
use Rattle.std.proofs.lemmas.List.Elements.{filter_map-append}
use Rattle.std.proofs.lemmas.List.Folds.{list_any-append}
use Rattle.lapd_frame.specs.declared.Sapi.TheVariants as sapi
use Rattle.lapd_frame.specs.declared.Side.{Side}
use Rattle.lapd_frame.specs.declared.Side.TheVariants as side
use Rattle.lapd_frame.specs.declared.frame_fault.FrameFault.{FrameFault}
use Rattle.lapd_frame.specs.Frame.{Fields, spelling}
use Rattle.lapd_frame.specs.Reading.{frame_at}
use Rattle.lapd_frame.proofs.FrameAt.{frame_again}
use Rattle.lapd_tei.specs.declared.fault.TeiFault.{TeiFault}
use Rattle.lapd_tei.specs.declared.fault.TeiFault.TheVariants.{BadAi}
use Rattle.lapd_tei.specs.declared.kind.TeiKind.{TeiKind}
use Rattle.lapd_tei.specs.declared.kind.TeiKind.TheVariants as kind
use Rattle.lapd_tei.specs.declared.message.TeiMessage.{TeiMessage}
use Rattle.lapd_tei.specs.declared.out.TeiOut.{TeiOut}
use Rattle.lapd_tei.specs.declared.out.TeiOut.TheVariants as out
use Rattle.lapd_tei.specs.Message.{frame_of_message, message_at, permits}
use Rattle.lapd_tei.specs.Out.{sent}
use Rattle.lapd_table.specs.Octets.{event_by}
use Rattle.lapd_sides_links.specs.Effects.{message_sent}
use Rattle.lapd_sides_links.specs.declared.config.Config.{Config}
use Rattle.lapd_sides.specs.Management.{carries_message}
use Rattle.lapd_sides.specs.SideState as sides
use Rattle.lapd_sides.specs.SideState.{SideState, Rules}
use Rattle.lapd_sides.specs.User.{User}
use Rattle.lapd_two_side_laws.specs.Addressed.{is_named, those_for}
use Rattle.lapd_side_events.specs.SideView.{SideView, SideEvent, Take, Lose, Expire, Ask, Overhear, left}
use Rattle.lapd_bus_laws.specs.Assignments.{Assignment, assignment_by, assignment_of, assignment_in_frame, assignment_in, is_of_tei, is_sent, holds, is_taken}
use Rattle.lapd_side_events.specs.Bus.{reached_by}
use Rattle.lapd_bus_laws.specs.Healing.{message_if_any, message_in_frame, message_in, messages_to, is_about, LosesNoMessage, management_id}
use Rattle.lapd_bus_laws.proofs.Lists.{some_second, not_both, false_by, any_removed}
use Rattle.lapd_bus_laws.proofs.Messages.{frame_holds_none, links_hold_none, message_again}

-- ---- Octets as they were sent.

-- a message that may be read is carried by its octets
pub carried_again : (from : Side) (m : TeiMessage)
    → message_in from (spelling from (frame_of_message m))
    ≡ (if permits m.kind m.ai then Some m else None)
carried_again from m = ap message_in_frame (frame_again from (frame_of_message m) refl)
    ∙ ap message_if_any (message_again m) ∙ by (permits m.kind m.ai)
  where
    by : (test : Bool) → message_if_any (if test then Ok m else Err BadAi)
        ≡ (if test then Some m else None)
    by true = refl
    by false = refl

abbrev pub permitted : TeiMessage → Bool
permitted m = permits m.kind m.ai

abbrev Carried : Side → List (List ℕ) → List TeiMessage
Carried from line = filter_map (message_in from) line

-- the outputs of a step send these messages
pub sent_messages : (from : Side) (outs : List TeiOut)
    → Carried from (filter_map (message_sent from) outs) ≡ filter permitted (sent outs)
sent_messages from [] = refl
sent_messages from (out.Send m ∷ outs) =
    ap (λ (o : Option TeiMessage).
    cons_option o (Carried from (filter_map (message_sent from) outs))) (carried_again from m)
    ∙ by (permits m.kind m.ai) _ _ (sent_messages from outs)
  where
    by : (test : Bool) (xs ys : List TeiMessage) → xs ≡ ys
        → cons_option (if test then Some m else None) xs ≡ (if test then m ∷ ys else ys)
    by true xs ys same = ap (λ (zs : List TeiMessage). m ∷ zs) same
    by false xs ys same = same
sent_messages from (out.Start timer ∷ outs) = sent_messages from outs
sent_messages from (out.Stop timer ∷ outs) = sent_messages from outs
sent_messages from (out.Got t ∷ outs) = sent_messages from outs
sent_messages from (out.Gone t ∷ outs) = sent_messages from outs
sent_messages from (out.Failed ∷ outs) = sent_messages from outs
sent_messages from (out.Given t ∷ outs) = sent_messages from outs
sent_messages from (out.Free t ∷ outs) = sent_messages from outs
sent_messages from (out.InUse t ∷ outs) = sent_messages from outs
sent_messages from (out.Doubled t ∷ outs) = sent_messages from outs

-- ---- No frame of a link is a message.

frame_carries_none : (r : Result Fields FrameFault) → is_named management_id (event_by r) ≡ false
    → message_in_frame r ≡ None
frame_carries_none (Err fault) h = refl
frame_carries_none (Ok f) h = frame_holds_none message_if_any f h

pub links_carry_none : (from : Side) (frames : List (List ℕ))
    → those_for from management_id frames ≡ [] → Carried from frames ≡ []
links_carry_none from frames none =
    links_hold_none from message_in_frame frame_carries_none frames none

-- ---- A side takes a message.

pub receives_message : {M : Type 0} (rules : Rules M) (config : Config) (now : ℕ)
    (r : Result Fields FrameFault) (m : TeiMessage) (s : SideState M)
    → message_in_frame r ≡ Some m
    → sides.received rules config now r s ≡ rules.hears config now m s
receives_message rules config now (Err fault) m s is = cc
receives_message rules config now (Ok frame) m s is = by (carries_message frame) refl is
  where
    of_message : (found : Result TeiMessage TeiFault) → message_if_any found ≡ Some m
        → sides.message_received rules config now found s ≡ rules.hears config now m s
    of_message (Ok n) is =
        (let same : n ≡ m = cc in ap (λ (x : TeiMessage). rules.hears config now x s) same)
    of_message (Err fault) is = cc

    by : (test : Bool) → carries_message frame ≡ test
        → (if test then message_if_any (message_at frame.info) else None) ≡ Some m
        → sides.received rules config now (Ok frame) s ≡ rules.hears config now m s
    by false carries is = cc
    by true carries is = ap (λ (b : Bool).
        if b then sides.message_received rules config now (message_at frame.info) s
        else sides.data_received rules config now frame s) carries
        ∙ of_message (message_at frame.info) is

-- ---- Assignments among the messages.

module _ (tei : ℕ) where
  assigned_by : (k : TeiKind) (ri ai : ℕ) (given : List Assignment) (ms : List TeiMessage)
      → list_any (is_of_tei tei) given ≡ list_any (is_about kind.Assigned tei) ms
      → list_any (is_of_tei tei) (cons_option (assignment_by k ri ai) given)
      ≡ list_any (is_about kind.Assigned tei) ((record { ri = ri; kind = k; ai = ai }) ∷ ms)
  assigned_by kind.Assigned ri ai given ms same = ap (λ (b : Bool). (ai == tei) || b) same
  assigned_by kind.Request ri ai given ms same = same
  assigned_by kind.Denied ri ai given ms same = same
  assigned_by kind.CheckRequest ri ai given ms same = same
  assigned_by kind.CheckResponse ri ai given ms same = same
  assigned_by kind.Remove ri ai given ms same = same
  assigned_by kind.Verify ri ai given ms same = same

  assigned_in : (r : Result Fields FrameFault) (given : List Assignment) (ms : List TeiMessage)
      → list_any (is_of_tei tei) given ≡ list_any (is_about kind.Assigned tei) ms
      → list_any (is_of_tei tei) (cons_option (assignment_in_frame r) given)
      ≡ list_any (is_about kind.Assigned tei) (cons_option (message_in_frame r) ms)
  assigned_in (Err fault) given ms same = same
  assigned_in (Ok frame) given ms same = by (carries_message frame) (message_at frame.info)
    where
      by : (test : Bool) (found : Result TeiMessage TeiFault)
          → list_any (is_of_tei tei)
          (cons_option (if test then assignment_of found else None) given)
          ≡ list_any (is_about kind.Assigned tei)
          (cons_option (if test then message_if_any found else None) ms)
      by false found = same
      by true (Err fault) = same
      by true (Ok m) = assigned_by m.kind m.ri m.ai given ms same

  -- the TEI is assigned on a line exactly if a message assigns it
  pub assigned_on : (line : List (List ℕ))
      → list_any (is_of_tei tei) (filter_map assignment_in line)
      ≡ list_any (is_about kind.Assigned tei) (Carried side.Network line)
  assigned_on [] = refl
  assigned_on (octets ∷ line) = assigned_in (frame_at side.Network octets) _ _ (assigned_on line)

  -- frames that do not assign it
  pub reached_sent : (frames : List (List ℕ)) (t : SideView User)
      → list_any (is_about kind.Assigned tei) (Carried side.Network frames) ≡ false
      → is_sent tei (reached_by frames t) ≡ is_sent tei t
  reached_sent frames t none = assigned_on (t.incoming ++ frames)
      ∙ ap (list_any (is_about kind.Assigned tei))
      (filter_map-append (message_in side.Network) t.incoming frames)
      ∙ list_any-append (is_about kind.Assigned tei) (messages_to t)
      (Carried side.Network frames)
      ∙ ap (λ (b : Bool). list_any (is_about kind.Assigned tei) (messages_to t) || b) none
      ∙ or_false (list_any (is_about kind.Assigned tei) (messages_to t))
      ∙ sym (assigned_on t.incoming)
    where
      or_false : (b : Bool) → (b || false) ≡ b
      or_false true = refl
      or_false false = refl

  pub reached_taken : (frames : List (List ℕ)) (t : SideView User)
      → list_any (is_about kind.Assigned tei) (Carried side.Network frames) ≡ false
      → is_taken tei (reached_by frames t) ≡ is_taken tei t
  reached_taken frames t none = ap (λ (b : Bool). holds tei t || b) (reached_sent frames t none)

-- ---- The last message of a kind.

-- a message passes the first test, and none behind it passes the second
abbrev pub HasLast : (TeiMessage → Bool) → (TeiMessage → Bool) → List TeiMessage → Type 0
HasLast p q [] = ⊥
HasLast p q (m ∷ ms) = HasLast p q ms ⊎ ((p m ≡ true) × (list_any q ms ≡ false))

-- no message passes
abbrev pub passes_none : TeiMessage → Bool
passes_none m = false

pub none_passes : (ms : List TeiMessage) → list_any passes_none ms ≡ false
none_passes [] = refl
none_passes (m ∷ ms) = none_passes ms

module _ (p q : TeiMessage → Bool) where
  pub last_any : (ms : List TeiMessage) → HasLast p q ms → list_any p ms ≡ true
  last_any [] h = absurd h
  last_any (m ∷ ms) (inl h) = some_second (p m) (list_any p ms) (last_any ms h)
  last_any (m ∷ ms) (inr h) = rw h.0 refl

  -- more messages, none of which passes the second test
  pub last_before : (ms new : List TeiMessage) → list_any q new ≡ false → HasLast p q ms
      → HasLast p q (ms ++ new)
  last_before [] new none h = absurd h
  last_before (m ∷ ms) new none (inl h) = inl (last_before ms new none h)
  last_before (m ∷ ms) new none (inr h) =
      inr (h.0, list_any-append q ms new ∙ rw (h.1, none) refl)

  pub last_behind : (ms new : List TeiMessage) → HasLast p q new → HasLast p q (ms ++ new)
  last_behind [] new h = h
  last_behind (m ∷ ms) new h = inl (last_behind ms new h)

  last_kept : (o : Option TeiMessage) (ys zs : List TeiMessage) → (HasLast p q ys → HasLast p q zs)
      → (list_any q ys ≡ false → list_any q zs ≡ false) → HasLast p q (cons_option o ys)
      → HasLast p q (cons_option o zs)
  last_kept None ys zs more fewer h = more h
  last_kept (Some m) ys zs more fewer (inl h) = inl (more h)
  last_kept (Some m) ys zs more fewer (inr h) = inr (h.0, fewer h.1)

  last_beyond : (o : Option TeiMessage) (ys : List TeiMessage)
      → ((m : TeiMessage) → o ≡ Some m → p m ≡ false) → HasLast p q (cons_option o ys)
      → HasLast p q ys
  last_beyond None ys other h = h
  last_beyond (Some m) ys other (inl h) = h
  last_beyond (Some m) ys other (inr h) = absurd (not_both (p m) h.0 (other m refl))

  module _ (from : Side) where
    last_removed : (line : List (List ℕ)) (at : ℕ)
        → ((octets : List ℕ) (m : TeiMessage) → slice_get line at ≡ Some octets
        → message_in from octets ≡ Some m → p m ≡ false)
        → HasLast p q (Carried from line) → HasLast p q (Carried from (remove line at))
    last_removed [] zero other h = h
    last_removed [] (suc at) other h = h
    last_removed (x ∷ xs) zero other h = last_beyond (message_in from x) (Carried from xs)
        (λ m is. other x m refl is) h
    last_removed (x ∷ xs) (suc at) other h = last_kept (message_in from x) (Carried from xs)
        (Carried from (remove xs at)) (last_removed xs at other)
        (λ none.
        false_by (list_any q (Carried from (remove xs at))) (λ some.
        not_both (list_any q (Carried from xs)) (any_removed q (message_in from) xs at some) none))
        h

    -- the event takes such a message from the line
    abbrev pub FirstIsLast : List (List ℕ) → Type 0
    FirstIsLast [] = ⊥
    FirstIsLast (octets ∷ rest) = (m : TeiMessage) × (message_in from octets ≡ Some m)
        × (p m ≡ true) × (list_any q (Carried from rest) ≡ false)

    abbrev pub TakesLast : SideEvent → List (List ℕ) → Type 0
    TakesLast (Take now) line = FirstIsLast line
    TakesLast other line = ⊥

    last_taken : (line : List (List ℕ)) → HasLast p q (Carried from line)
        → HasLast p q (Carried from (drop 1 line)) ⊎ FirstIsLast line
    last_taken [] h = absurd h
    last_taken (octets ∷ rest) h = by (message_in from octets) refl h
      where
        by : (o : Option TeiMessage) → message_in from octets ≡ o
            → HasLast p q (cons_option o (Carried from rest))
            → HasLast p q (Carried from rest) ⊎ FirstIsLast (octets ∷ rest)
        by None is h = inl h
        by (Some m) is (inl h) = inl h
        by (Some m) is (inr h) = inr (m, is, h.0, h.1)

    -- after an event the message is still on the line, or the event took it
    pub last_left : (tei : ℕ) → ((m : TeiMessage) → p m ≡ true → (m.ai == tei) ≡ true)
        → (event : SideEvent) (line : List (List ℕ)) → LosesNoMessage tei from event line
        → HasLast p q (Carried from line)
        → HasLast p q (Carried from (left event line)) ⊎ TakesLast event line
    last_left tei named (Take now) line keeps h = last_taken line h
    last_left tei named (Lose at) line keeps h = inl (last_removed line at
        (λ octets m there is.
        false_by (p m) (λ passes.
        not_both (m.ai == tei) (named m passes) (keeps octets m there is)))
        h)
    last_left tei named (Expire timer of now) line keeps h = inl h
    last_left tei named (Ask request now) line keeps h = inl h
    last_left tei named (Overhear octets now) line keeps h = inl h

-- a message about a TEI names it
pub about_names : (k : TeiKind) (tei : ℕ) (m : TeiMessage) → is_about k tei m ≡ true
    → (m.ai == tei) ≡ true
about_names k tei m h = second _ (m.ai == tei) h
  where
    second : (a b : Bool) → (a && b) ≡ true → b ≡ true
    second true b h = h
    second false b h = cc
