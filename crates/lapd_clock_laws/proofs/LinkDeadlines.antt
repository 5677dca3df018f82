-- What an event may do to the deadline of a link's T200, and to its frames: a step of the link, a
-- step of another link, and TEI management.
use Rattle.std.proofs.Common.{◌≡◌, ◌⊎◌, inl, inr, ℕ, ◌+◌, ◌≤◌, ◌<◌, ◌==◌, List, [], ◌∷◌, ◌++◌, length, Bool, true, false, if◌then◌else◌, Option, Some, None, Result, Ok, Err, refl, sym, ap, subst, ◌∙◌, arith}
use Rattle.std.specs.Prelude.{IfSome, ◌||◌}
use Rattle.std.specs.List.{filter_map, list_any}
use Rattle.std.proofs.lemmas.List.Folds.{list_any-append}
use Rattle.lapd_timers.specs.declared.timer.Timer.{Timer}
use Rattle.lapd_timers.specs.declared.timer.Timer.TheVariants.{T200, T201, T202, T203}
use Rattle.lapd_timers.specs.Due.{Timers, deadline_from, last_moment}
use Rattle.lapd_timers.specs.Durations.{Lengths}
use Rattle.lapd_frame.specs.declared.Side.{Side}
use Rattle.lapd_frame.specs.declared.Role.TheVariants.{Command, Answer}
use Rattle.lapd_frame.specs.declared.Control.TheVariants.{Ui}
use Rattle.lapd_frame.specs.declared.fault_kind.FaultKind.{FaultKind}
use Rattle.lapd_frame.specs.declared.frame_fault.FrameFault.{FrameFault}
use Rattle.lapd_frame.specs.Control.{poll_final}
use Rattle.lapd_frame.specs.Frame.{Fields, spelling, content_fault, frame_of}
use Rattle.lapd_frame.specs.Reading.{frame_at, fault_for_link}
use Rattle.lapd_frame.proofs.FrameAt.{parts_again}
use Rattle.lapd_mod128.specs.Counting.{Tagged}
use Rattle.lapd_link_definition.specs.declared.out.Out.{Out}
use Rattle.lapd_link_definition.specs.declared.out.Out.TheVariants.{Send, SendMessage, SendUnit, Start, Stop}
use Rattle.lapd_link_definition.specs.End.{End}
use Rattle.lapd_link_definition.specs.Input.{Input}
use Rattle.lapd_link.specs.SentFrame.{link_parts}
use Rattle.lapd_tei.specs.declared.out.TeiOut.{TeiOut}
use Rattle.lapd_tei.specs.Out.{tei_given, tei_freed}
use Rattle.lapd_table.specs.declared.link_id.LinkId.{LinkId}
use Rattle.lapd_table.specs.LinkId.{setup_for}
use Rattle.lapd_sides_links.specs.declared.config.Config.{Config}
use Rattle.lapd_sides_links.specs.Effects.{Effects, sent_by, message_sent, timed, started, stopped}
use Rattle.lapd_sides_links.specs.Links.{Links, Linked, Served, new_linked, or_new, parameters_for, is_link_of, with_tei, without_tei}
use Rattle.lapd_sides.specs.Management.{links_with, links_without, manages}
use Rattle.lapd_two_side_laws.specs.Addressed.{is_for, those_for, reads_as_poll, reads_as_final, is_poll_for, is_final_for}
use Rattle.lapd_two_side_laws.specs.Owed.{PassesBy, IsStep}
use Rattle.lapd_two_side_laws.proofs.OwedAnswers.{durations_stay}
use Rattle.lapd_two_side_laws.proofs.Lines.{any_among}
use Rattle.lapd_two_side_laws.proofs.LinkParts.{none_pass}
use Rattle.lapd_two_side_laws.proofs.Managed.{message_is_other, neither}
use Rattle.lapd_clock_laws.proofs.PolledRows.{owes, owes_by, answers_poll, polls, IsGuarded, one_of_both, each_step}

-- ---- The deadline of T200 after the outputs of a step.

-- a command with P=1
abbrev pub sends_poll : Out → Bool
sends_poll (Send Command control) = poll_final control
sends_poll (SendMessage place control) = poll_final control
sends_poll out = false

-- T200 was stopped, or started now
abbrev IsSet : ℕ → Timers → Timers → Type 0
IsSet now t u = (u.t200 ≡ None) ⊎ (u.t200 ≡ Some (deadline_from now t.durations.t200))

-- or its deadline is unchanged, and no command with P=1 was sent
record IsUnset (owing : Bool) (outs : List Out) (t u : Timers) : Type 0 where
  pub same : u.t200 ≡ t.t200
  pub owes_nothing : owing ≡ false
  pub none : list_any sends_poll outs ≡ false

abbrev IsTimed : ℕ → Bool → List Out → Timers → Timers → Type 0
IsTimed now owing outs t u = IsSet now t u ⊎ IsUnset owing outs t u

-- one more output, which leaves T200 as it is
one_unset : (now : ℕ) (out : Out) (outs : List Out) (owing : Bool) (t s u : Timers)
    → s.t200 ≡ t.t200 → s.durations ≡ t.durations
    → ((owes_by out owing ≡ false) → (owing ≡ false) × (sends_poll out ≡ false))
    → IsTimed now (owes_by out owing) outs s u → IsTimed now owing (out ∷ outs) t u
one_unset now out outs owing t s u same long owes_nothing (inl (inl stopped)) = inl (inl stopped)
one_unset now out outs owing t s u same long owes_nothing (inl (inr started)) =
    inl (inr (started ∙ ap (λ (d : Lengths). Some (deadline_from now d.t200)) long))
one_unset now out outs owing t s u same long owes_nothing (inr h) = inr (record {
  same = h.same ∙ same;
  owes_nothing = (owes_nothing h.owes_nothing).0;
  none = rw ((owes_nothing h.owes_nothing).1, h.none) refl;
})

-- one more output, which starts or stops T200
one_set : (now : ℕ) (out : Out) (outs : List Out) (owing : Bool) (t s u : Timers)
    → IsSet now t s → s.durations ≡ t.durations → IsTimed now (owes_by out owing) outs s u
    → IsTimed now owing (out ∷ outs) t u
one_set now out outs owing t s u set long (inl (inl stopped)) = inl (inl stopped)
one_set now out outs owing t s u set long (inl (inr started)) =
    inl (inr (started ∙ ap (λ (d : Lengths). Some (deadline_from now d.t200)) long))
one_set now out outs owing t s u (inl stopped) long (inr h) = inl (inl (h.same ∙ stopped))
one_set now out outs owing t s u (inr started) long (inr h) = inl (inr (h.same ∙ started))

either_free : (a owing : Bool) → (a || owing) ≡ false → (owing ≡ false) × (a ≡ false)
either_free a owing h = let two = neither a owing h in (two.1, two.0)

t200_timed : (now : ℕ) (outs : List Out) (owing : Bool) (t : Timers) → owes outs owing ≡ false
    → IsTimed now owing outs t (timed now outs t)
t200_timed now [] owing t nothing_owed =
    inr (record { same = refl; owes_nothing = nothing_owed; none = refl })
t200_timed now (Start T200 ∷ outs) owing t nothing_owed = one_set now (Start T200) outs owing t
    (started now T200 t) (timed now outs (started now T200 t)) (inr refl) refl
    (t200_timed now outs false (started now T200 t) nothing_owed)
t200_timed now (Start T201 ∷ outs) owing t nothing_owed = one_unset now (Start T201) outs owing t
    (started now T201 t) (timed now outs (started now T201 t)) refl refl (λ h. (h, refl))
    (t200_timed now outs owing (started now T201 t) nothing_owed)
t200_timed now (Start T202 ∷ outs) owing t nothing_owed = one_unset now (Start T202) outs owing t
    (started now T202 t) (timed now outs (started now T202 t)) refl refl (λ h. (h, refl))
    (t200_timed now outs owing (started now T202 t) nothing_owed)
t200_timed now (Start T203 ∷ outs) owing t nothing_owed = one_unset now (Start T203) outs owing t
    (started now T203 t) (timed now outs (started now T203 t)) refl refl (λ h. (h, refl))
    (t200_timed now outs owing (started now T203 t) nothing_owed)
t200_timed now (Stop T200 ∷ outs) owing t nothing_owed = one_set now (Stop T200) outs owing t
    (stopped T200 t) (timed now outs (stopped T200 t)) (inl refl) refl
    (t200_timed now outs owing (stopped T200 t) nothing_owed)
t200_timed now (Stop T201 ∷ outs) owing t nothing_owed = one_unset now (Stop T201) outs owing t
    (stopped T201 t) (timed now outs (stopped T201 t)) refl refl (λ h. (h, refl))
    (t200_timed now outs owing (stopped T201 t) nothing_owed)
t200_timed now (Stop T202 ∷ outs) owing t nothing_owed = one_unset now (Stop T202) outs owing t
    (stopped T202 t) (timed now outs (stopped T202 t)) refl refl (λ h. (h, refl))
    (t200_timed now outs owing (stopped T202 t) nothing_owed)
t200_timed now (Stop T203 ∷ outs) owing t nothing_owed = one_unset now (Stop T203) outs owing t
    (stopped T203 t) (timed now outs (stopped T203 t)) refl refl (λ h. (h, refl))
    (t200_timed now outs owing (stopped T203 t) nothing_owed)
t200_timed now (Send Command control ∷ outs) owing t nothing_owed =
    one_unset now (Send Command control) outs owing t t (timed now outs t) refl refl
    (either_free (poll_final control) owing)
    (t200_timed now outs (poll_final control || owing) t nothing_owed)
t200_timed now (SendMessage place control ∷ outs) owing t nothing_owed =
    one_unset now (SendMessage place control) outs owing t t (timed now outs t) refl refl
    (either_free (poll_final control) owing)
    (t200_timed now outs (poll_final control || owing) t nothing_owed)
t200_timed now (Send Answer control ∷ outs) owing t nothing_owed =
    one_unset now (Send Answer control) outs owing t t (timed now outs t) refl refl
    (λ h. (h, refl)) (t200_timed now outs owing t nothing_owed)
t200_timed now (other ∷ outs) owing t nothing_owed =
    one_unset now other outs owing t t (timed now outs t) refl refl (λ h. (h, refl))
    (t200_timed now outs owing t nothing_owed)

-- ---- The frames of a step.

-- what parts are read as, if they are read as a frame
spelled_reads : (side : Side) (test : Result Fields FrameFault → Bool)
    → ((fault : FrameFault) → test (Err fault) ≡ false) → (f : Fields) → test (Ok f) ≡ false
    → test (frame_at side (spelling side f)) ≡ false
spelled_reads side test none f h = ap test (parts_again side f)
    ∙ by_fault (content_fault f.address.role f.control (length f.info))
  where
    by_fault : (fault : Option FaultKind)
        → test (fault_for_link f.address (frame_of f.address f.control f.info fault)) ≡ false
    by_fault None = h
    by_fault (Some kind) = none _

module _ (side : Side) (id : LinkId) (e : End) (octets : List ℕ) where
  abbrev sends : Out → Option (List ℕ)
  sends = sent_by (setup_for side id) e octets

  -- no frame is read so, if no output is one
  none_read : (test : Result Fields FrameFault → Bool) (of_out : Out → Bool)
      → ((out : Out) → of_out out ≡ false
      → IfSome (sends out) (λ frame. test (frame_at side frame) ≡ false))
      → (outs : List Out) → list_any of_out outs ≡ false
      → list_any (λ frame. test (frame_at side frame)) (filter_map sends outs) ≡ false
  none_read test of_out each [] none = refl
  none_read test of_out each (out ∷ outs) none =
      let two = neither (of_out out) (list_any of_out outs) none in
      by (sends out) refl (each out two.0) (none_read test of_out each outs two.1)
    where
      by : (o : Option (List ℕ)) → sends out ≡ o
          → IfSome o (λ frame. test (frame_at side frame) ≡ false)
          → list_any (λ frame. test (frame_at side frame)) (filter_map sends outs) ≡ false
          → list_any (λ frame. test (frame_at side frame)) (filter_map sends (out ∷ outs)) ≡ false
      by None is h rest = rw is rest
      by (Some frame) is h rest = rw (is, h) rest

  polls_by : (out : Out) → sends_poll out ≡ false
      → IfSome (sends out) (λ frame. reads_as_poll (frame_at side frame) ≡ false)
  polls_by (Send Command control) h = spelled_reads side reads_as_poll (λ fault. refl)
      (link_parts (setup_for side id) Command control []) h
  polls_by (Send Answer control) h = spelled_reads side reads_as_poll (λ fault. refl)
      (link_parts (setup_for side id) Answer control []) refl
  polls_by (SendMessage place control) h = spelled_reads side reads_as_poll (λ fault. refl)
      (link_parts (setup_for side id) Command control _) h
  polls_by SendUnit h = spelled_reads side reads_as_poll (λ fault. refl)
      (link_parts (setup_for side id) Command (Ui false) octets) refl
  polls_by other h = tt

  answers_by : (out : Out) → answers_poll out ≡ false
      → IfSome (sends out) (λ frame. reads_as_final (frame_at side frame) ≡ false)
  answers_by (Send Command control) h = spelled_reads side reads_as_final (λ fault. refl)
      (link_parts (setup_for side id) Command control []) refl
  answers_by (Send Answer control) h = spelled_reads side reads_as_final (λ fault. refl)
      (link_parts (setup_for side id) Answer control []) h
  answers_by (SendMessage place control) h = spelled_reads side reads_as_final (λ fault. refl)
      (link_parts (setup_for side id) Command control _) refl
  answers_by SendUnit h = spelled_reads side reads_as_final (λ fault. refl)
      (link_parts (setup_for side id) Command (Ui false) octets) refl
  answers_by other h = tt

  pub no_poll_sent : (outs : List Out) → list_any sends_poll outs ≡ false
      → list_any (λ frame. reads_as_poll (frame_at side frame)) (filter_map sends outs) ≡ false
  no_poll_sent = none_read reads_as_poll sends_poll polls_by

  pub no_answer_sent : (outs : List Out) → list_any answers_poll outs ≡ false
      → list_any (λ frame. reads_as_final (frame_at side frame)) (filter_map sends outs) ≡ false
  no_answer_sent = none_read reads_as_final answers_poll answers_by

-- the link's frames among all
pub polls_among : (side : Side) (id : LinkId) (frames link_frames : List (List ℕ))
    → those_for side id frames ≡ link_frames
    → list_any (is_poll_for side id) frames
    ≡ list_any (λ octets. reads_as_poll (frame_at side octets)) link_frames
polls_among side id frames link_frames are =
    sym (any_among (is_for side id) (λ octets. reads_as_poll (frame_at side octets)) frames)
    ∙ ap (list_any (λ octets. reads_as_poll (frame_at side octets))) are

pub answers_among : (side : Side) (id : LinkId) (frames link_frames : List (List ℕ))
    → those_for side id frames ≡ link_frames
    → list_any (is_final_for side id) frames
    ≡ list_any (λ octets. reads_as_final (frame_at side octets)) link_frames
answers_among side id frames link_frames are =
    sym (any_among (is_for side id) (λ octets. reads_as_final (frame_at side octets)) frames)
    ∙ ap (list_any (λ octets. reads_as_final (frame_at side octets))) are

-- ---- A link that may not exist.

abbrev pub t200_of : Option Linked → Option ℕ
t200_of None = None
t200_of (Some l) = l.timers.t200

-- T200 of the link runs for at least this long
abbrev pub RunsLong : ℕ → Option Linked → Type 0
RunsLong least o = (l : Linked) → o ≡ Some l → least ≤ l.timers.durations.t200

pub none_runs_long : (least : ℕ) → RunsLong least None
none_runs_long least l is = cc

-- After an event at this moment the deadline of T200 is late enough, or it is as before and no
-- command with P=1 was sent. Responses with F=1 were sent only if a command with P=1 was received.
pub record Proceeds (least now : ℕ) (side : Side) (id : LinkId) (polled : Bool)
    (before after : Option Linked) (frames : List (List ℕ)) : Type 0 where
  pub deadline : (deadline : ℕ) → t200_of after ≡ Some deadline → (now + least ≤ deadline)
      ⊎ ((t200_of before ≡ Some deadline) × (list_any (is_poll_for side id) frames ≡ false))
  pub answers : list_any (is_final_for side id) frames ≡ true → polled ≡ true
  pub long : RunsLong least after

module _ (least now : ℕ) (side : Side) (id : LinkId) (polled : Bool) where
  abbrev pub Continues : Option Linked → Option Linked → List (List ℕ) → Type 0
  Continues before after frames = RunsLong least before
      → Proceeds least now side id polled before after frames

  -- no frame is the link's
  pub with_other_frames : (before after : Option Linked) (frames : List (List ℕ))
      → those_for side id frames ≡ []
      → ((deadline : ℕ) → t200_of after ≡ Some deadline → t200_of before ≡ Some deadline)
      → (RunsLong least before → RunsLong least after) → Continues before after frames
  with_other_frames before after frames none same stays long = record {
    deadline = λ deadline is. inr (same deadline is, polls_among side id frames [] none);
    answers = λ any. (let no : false ≡ true =
        sym (answers_among side id frames [] none) ∙ any in cc);
    long = stays long;
  }

  pub passes_on : (before now_links : Links) (effects : Effects)
      → PassesBy side id before now_links effects
      → Continues (before id) (now_links id) effects.frames
  passes_on before now_links effects p = with_other_frames (before id) (now_links id)
      effects.frames p.frames (λ deadline is. sym (ap t200_of p.links) ∙ is)
      (λ long l is. long l (sym p.links ∙ is))

  pub one_after_another : (first second third : Option Linked) (frames more : List (List ℕ))
      → Continues first second frames → Continues second third more
      → Continues first third (frames ++ more)
  one_after_another first second third frames more h g long =
      let one = h long in
      let two = g one.long in
      record {
        deadline = λ deadline is. elim (two.deadline deadline is) [
          | inl late ↦ inl late
          | inr same ↦ elim (one.deadline deadline same.0) [
            | inl late ↦ inl late
            | inr before ↦ inr (
              before.0,
              list_any-append (is_poll_for side id) frames more
                  ∙ rw (before.1, same.1) refl,
            )
          ]
        ];
        answers = λ any. elim (one_of_both (list_any (is_final_for side id) frames)
            (list_any (is_final_for side id) more)
            (sym (list_any-append (is_final_for side id) frames more) ∙ any)) [
              | inl here ↦ one.answers here
              | inr there ↦ two.answers there
            ];
        long = two.long;
      }

  -- ---- A step of the link.

  -- the timers before the step: unchanged, or with an expired timer stopped
  pub record IsChange (change : Timers → Timers) : Type 0 where
    pub t200 : (t : Timers) → ((change t).t200 ≡ t.t200) ⊎ ((change t).t200 ≡ None)
    pub durations : (t : Timers) → (change t).durations ≡ t.durations

  pub no_change : IsChange (λ t. t)
  no_change = record { t200 = λ t. inl refl; durations = λ t. refl }

  pub stopping : (timer : Timer) → IsChange (stopped timer)
  stopping T200 = record { t200 = λ t. inr refl; durations = λ t. refl }
  stopping T201 = record { t200 = λ t. inl refl; durations = λ t. refl }
  stopping T202 = record { t200 = λ t. inl refl; durations = λ t. refl }
  stopping T203 = record { t200 = λ t. inl refl; durations = λ t. refl }

  some_linked : (l m : Linked) → Some l ≡ Some m → l ≡ m
  some_linked l m h = cc

  some_moment : (a b : ℕ) → Some a ≡ Some b → a ≡ b
  some_moment a b h = cc

  test_or : (b : Bool) → (b ≡ false → ⊥) → b ≡ true
  test_or true h = refl
  test_or false h = absurd (h refl)

  module _ (in_range : now + least ≤ last_moment) (input : Input) (octets : List ℕ)
      (change : Timers → Timers) (changes : IsChange change)
      (knows : polls input ≡ true → polled ≡ true) (before after : Links) (effects : Effects)
      (x : IsStep side id now input octets change before after effects) where
    abbrev Changed : Timers
    Changed = change x.linked.timers

    guarded : IsGuarded polled x.done.outs
    guarded = each_step polled Tagged input x.linked.end x.done knows x.is

    long_then : RunsLong least (before id) → least ≤ Changed.durations.t200
    long_then long = subst (λ (d : Lengths). least ≤ d.t200)
        (sym (changes.durations x.linked.timers))
        (long x.linked x.was)

    t200_then : (deadline : ℕ) → t200_of (after id) ≡ Some deadline
        → (timed now x.done.outs Changed).t200 ≡ Some deadline
    t200_then deadline is = sym (ap t200_of x.links) ∙ is

    late_enough : (deadline : ℕ) → least ≤ Changed.durations.t200
        → Some (deadline_from now Changed.durations.t200) ≡ Some deadline → now + least ≤ deadline
    late_enough deadline long is =
        let same = some_moment (deadline_from now Changed.durations.t200) deadline is in
        omega (arith, in_range, long, same)

    deadline_after : RunsLong least (before id) → (deadline : ℕ)
        → (timed now x.done.outs Changed).t200 ≡ Some deadline
        → IsTimed now false x.done.outs Changed (timed now x.done.outs Changed)
        → (now + least ≤ deadline) ⊎ ((t200_of (before id) ≡ Some deadline)
        × (list_any (is_poll_for side id) effects.frames ≡ false))
    deadline_after long deadline is (inl (inl off)) =
        (let none : None ≡ Some deadline = sym off ∙ is in cc)
    deadline_after long deadline is (inl (inr fresh)) =
        inl (late_enough deadline (long_then long) (sym fresh ∙ is))
    deadline_after long deadline is (inr h) = elim (changes.t200 x.linked.timers) [
      | inl same ↦ inr (
        ap t200_of x.was ∙ sym same ∙ sym h.same ∙ is,
        polls_among side id effects.frames _ x.frames
            ∙ no_poll_sent side id x.done.end octets x.done.outs h.none,
      )
      | inr off ↦ (let none : None ≡ Some deadline = sym off ∙ sym h.same ∙ is in cc)
    ]

    answers_if : list_any (is_final_for side id) effects.frames ≡ true
        → list_any answers_poll x.done.outs ≡ true
    answers_if any = test_or (list_any answers_poll x.done.outs) (λ none.
        let no : false ≡ true = sym (answers_among side id effects.frames _ x.frames
        ∙ no_answer_sent side id x.done.end octets x.done.outs none) ∙ any in cc)

    long_after : RunsLong least (before id) → RunsLong least (after id)
    long_after long l is =
        let same = some_linked (record { end = x.done.end; timers = timed now x.done.outs Changed })
        l (sym x.links ∙ is) in
        subst (λ (m : Linked). least ≤ m.timers.durations.t200) same
        (subst (λ (d : Lengths). least ≤ d.t200) (sym (durations_stay now x.done.outs Changed))
        (long_then long))

    pub step_continues : Continues (before id) (after id) effects.frames
    step_continues long = record {
      deadline = λ deadline is. deadline_after long deadline (t200_then deadline is)
          (t200_timed now x.done.outs false Changed guarded.owes_nothing);
      answers = λ any. guarded.silent (answers_if any);
      long = long_after long;
    }

  -- ---- TEI management.

  -- the deadline stays or is gone, and T200 runs as long
  pub record IsCarried (before after : Option Linked) : Type 0 where
    pub same : (deadline : ℕ) → t200_of after ≡ Some deadline → t200_of before ≡ Some deadline
    pub long : RunsLong least before → RunsLong least after

  pub carried_on : (o : Option Linked) → IsCarried o o
  carried_on o = record { same = λ deadline is. is; long = λ h. h }

  removed : (o : Option Linked) → IsCarried o None
  removed o = record { same = λ deadline is. cc; long = λ h. none_runs_long least }

  pub joined : (config : Config) → least ≤ config.durations.t200 → (o : Option Linked)
      → IsCarried o (or_new (new_linked (parameters_for config id.sapi) config.durations) o)
  joined config enough None = record {
    same = λ deadline is. cc;
    long = λ h l is. subst (λ (m : Linked). least ≤ m.timers.durations.t200)
        (some_linked (new_linked (parameters_for config id.sapi) config.durations) l is) enough;
  }
  joined config enough (Some l) = carried_on (Some l)

  pub by_either : (test : Bool) (o a b : Option Linked) → IsCarried o a → IsCarried o b
      → IsCarried o (if test then a else b)
  by_either true o a b one other = one
  by_either false o a b one other = other

  pub given_carries : (config : Config) → least ≤ config.durations.t200 → (given : Option ℕ)
      (links : Links) → IsCarried (links id) (links_with config given links id)
  unfolding with_tei
  given_carries config enough None links = carried_on (links id)
  given_carries config enough (Some tei) links = by_either (is_link_of config tei id) (links id)
      (or_new (new_linked (parameters_for config id.sapi) config.durations) (links id)) (links id)
      (joined config enough (links id)) (carried_on (links id))

  freed_carries : (freed : Option ℕ) (links : Links)
      → IsCarried (links id) (links_without freed links id)
  unfolding without_tei
  freed_carries None links = carried_on (links id)
  freed_carries (Some tei) links = by_either (id.tei == tei) (links id) None (links id)
      (removed (links id)) (carried_on (links id))

  pub manages_continues : (config : Config) → least ≤ config.durations.t200 → id.tei < 127
      → (outs : List TeiOut) (s : Served)
      → Continues (s.links id) ((manages side config now outs s).after.links id)
      (manages side config now outs s).effects.frames
  unfolding manages
  manages_continues config enough low outs s =
      let given = given_carries config enough (tei_given outs) s.links in
      let freed = freed_carries (tei_freed outs) (links_with config (tei_given outs) s.links) in
      with_other_frames (s.links id)
      (links_without (tei_freed outs) (links_with config (tei_given outs) s.links) id)
      (filter_map (message_sent side) outs)
      (none_pass (is_for side id) (message_sent side) outs
      (λ out. message_is_other side id out low))
      (λ deadline is. given.same deadline (freed.same deadline is))
      (λ long. freed.long (given.long long))
