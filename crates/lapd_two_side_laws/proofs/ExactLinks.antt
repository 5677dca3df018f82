-- Each timer of a link runs exactly when its end says so: after a step of the link, and among the
-- links of a side. In the frames that a side sends, N(S) and N(R) are tags.
use Rattle.std.proofs.Common.{◌≡◌, ℕ, ◌+◌, ◌*◌, ◌≤◌, Bool, false, if◌then◌else◌, List, [], ◌∷◌, ◌++◌, length, Option, Some, None, Result, Ok, Err, refl, sym, ap, subst, ◌∙◌, arith}
use Rattle.std.specs.Prelude.{is_some, IfOk, ◌==◌}
use Rattle.std.specs.List.{All, filter_map}
use Rattle.std.proofs.lemmas.List.Elements.{All-nil, All-cons, All-head, All-tail}
use Rattle.lapd_timers.specs.declared.timer.Timer.{Timer}
use Rattle.lapd_timers.specs.declared.timer.Timer.TheVariants.{T200, T201, T202, T203}
use Rattle.lapd_timers.specs.Due.{Timers, with_deadline, deadline_from}
use Rattle.lapd_timers.specs.Durations.{Lengths, length_of}
use Rattle.lapd_frame.specs.declared.Side.{Side}
use Rattle.lapd_frame.specs.declared.Role.{Role}
use Rattle.lapd_frame.specs.declared.Role.TheVariants.{Command}
use Rattle.lapd_frame.specs.declared.Address.{Address}
use Rattle.lapd_frame.specs.declared.Control.{Control}
use Rattle.lapd_frame.specs.declared.Control.TheVariants.{I, Rr, Rnr, Rej, Ui}
use Rattle.lapd_frame.specs.declared.frame_fault.FrameFault.{FrameFault}
use Rattle.lapd_frame.specs.declared.fault_kind.FaultKind.{FaultKind}
use Rattle.lapd_frame.specs.Address.{sapi_value}
use Rattle.lapd_field.specs.Address.{command_bit}
use Rattle.lapd_field.specs.Control.{IsControl, control_octets, bit}
use Rattle.lapd_frame.specs.Frame.{Fields, spelling, content_fault, frame_of}
use Rattle.lapd_frame.specs.Reading.{frame_at, fault_for_link}
use Rattle.lapd_frame.proofs.FrameAt.{parts_again, frame_spelled}
use Rattle.lapd_mod128.specs.Counting.{Tagged}
use Rattle.lapd_supervision.specs.StateVariables.{AreTags, initial_variables}
use Rattle.lapd_link_definition.specs.declared.event.LinkFault.{LinkFault}
use Rattle.lapd_link_definition.specs.declared.out.Out.{Out}
use Rattle.lapd_link_definition.specs.declared.out.Out.TheVariants.{Send, SendMessage, SendUnit, Start, Stop}
use Rattle.lapd_link_definition.specs.End.{End, StepState, runs}
use Rattle.lapd_link_definition.specs.Input.{Input, Expiry}
use Rattle.lapd_link_definition.specs.Numbers.{CarriesNumbers, AreNumbered}
use Rattle.lapd_link_definition.specs.Parameters.{Parameters}
use Rattle.lapd_link_definition.specs.RunningTimers.{AreTimersOf, HasTimersOfState, is_same_timer, runs_after, runs_after_out, runs_before, TimersFollow}
use Rattle.lapd_link_definition.specs.Table.{step}
use Rattle.lapd_link_definition.proofs.NumbersOfStep.{numbers_stay, numbers_are_sent}
use Rattle.lapd_link_definition.proofs.TimersOfWholeStep.{timers_begin, timers_stay, timers_follow}
use Rattle.lapd_tei.specs.declared.out.TeiOut.{TeiOut}
use Rattle.lapd_tei.specs.declared.out.TeiOut.TheVariants as outcome
use Rattle.lapd_tei.specs.Message.{frame_of_message}
use Rattle.lapd_tei.specs.Out.{tei_given, tei_freed}
use Rattle.lapd_table.specs.declared.link_id.LinkId.{LinkId}
use Rattle.lapd_table.specs.LinkId.{id_eq, setup_for}
use Rattle.lapd_link.specs.SentFrame.{link_parts}
use Rattle.lapd_sides_links.specs.declared.config.Config.{Config}
use Rattle.lapd_sides_links.specs.declared.side_fault.SideKind.{SideKind}
use Rattle.lapd_sides_links.specs.Effects.{Effects, sent_by, timed, timed_by, stopped, message_sent}
use Rattle.lapd_sides_links.specs.Links.{Links, Linked, Reaction, Served, acted, link_acts, link_expires, in_place, where_there, in_links, with_link, new_linked, or_new, parameters_for, is_link_of, with_tei, without_tei}
use Rattle.lapd_sides.specs.Management.{links_with, links_without, manages}
use Rattle.lapd_two_side_laws.specs.ExactTimers.{HasExactTimers, HaveExactTimers, RunByState, IsOctet, AreOctets}
use Rattle.lapd_two_side_laws.proofs.Timed.{is_on}
use Rattle.lapd_two_side_laws.proofs.Reactions.{IsNoExpiry, if_either}

-- ---- A timer has a deadline exactly if it runs by the outputs.

deadline_set : (timer other : Timer) (deadline : Option ℕ) (t : Timers)
    → is_on timer (with_deadline other deadline t)
    ≡ (if is_same_timer timer other then is_some deadline else is_on timer t)
deadline_set T200 T200 deadline t = refl
deadline_set T200 T201 deadline t = refl
deadline_set T200 T202 deadline t = refl
deadline_set T200 T203 deadline t = refl
deadline_set T201 T200 deadline t = refl
deadline_set T201 T201 deadline t = refl
deadline_set T201 T202 deadline t = refl
deadline_set T201 T203 deadline t = refl
deadline_set T202 T200 deadline t = refl
deadline_set T202 T201 deadline t = refl
deadline_set T202 T202 deadline t = refl
deadline_set T202 T203 deadline t = refl
deadline_set T203 T200 deadline t = refl
deadline_set T203 T201 deadline t = refl
deadline_set T203 T202 deadline t = refl
deadline_set T203 T203 deadline t = refl

runs_by_out : (timer : Timer) (now : ℕ) (out : Out) (t : Timers)
    → is_on timer (timed_by now out t) ≡ runs_after_out timer out (is_on timer t)
runs_by_out timer now (Start started) t =
    deadline_set timer started (Some (deadline_from now (length_of started t.durations))) t
runs_by_out timer now (Stop stopped) t = deadline_set timer stopped None t
runs_by_out timer now other t = refl

runs_by_outs : (timer : Timer) (now : ℕ) (outs : List Out) (t : Timers)
    → is_on timer (timed now outs t) ≡ runs_after timer outs (is_on timer t)
runs_by_outs timer now [] t = refl
runs_by_outs timer now (out ∷ outs) t =
    runs_by_outs timer now outs (timed_by now out t)
    ∙ ap (runs_after timer outs) (runs_by_out timer now out t)

-- ---- A step of a link.

-- as a step begins, each timer runs as the state table has it
abbrev RunsAsBefore : Input → End → Timers → Type 0
RunsAsBefore input e t = (timer : Timer) → is_on timer t ≡ runs_before timer input e

plain_before : (input : Input) (l : Linked) → IsNoExpiry input → HasExactTimers l
    → RunsAsBefore input l.end l.timers
plain_before (Expiry expired) l plain h timer = absurd plain
plain_before input l plain h timer = h.exact timer

-- an expired timer is stopped
expired_before : (expired : Timer) (l : Linked) → HasExactTimers l
    → RunsAsBefore (Expiry expired) l.end (stopped expired l.timers)
expired_before expired l h timer =
    deadline_set timer expired None l.timers
    ∙ ap (λ (on : Bool). if is_same_timer timer expired then false else on) (h.exact timer)

never_201 : (input : Input) (e : End) → runs_before T201 input e ≡ false
never_201 (Expiry T200) e = refl
never_201 (Expiry T201) e = refl
never_201 (Expiry T202) e = refl
never_201 (Expiry T203) e = refl
never_201 input e = refl

never_202 : (input : Input) (e : End) → runs_before T202 input e ≡ false
never_202 (Expiry T200) e = refl
never_202 (Expiry T201) e = refl
never_202 (Expiry T202) e = refl
never_202 (Expiry T203) e = refl
never_202 input e = refl

as_end_requires : (timer : Timer) (input : Input) (e : End) (s : StepState) → TimersFollow input e s
    → runs_after timer s.outs (runs_before timer input e) ≡ runs timer s.end
as_end_requires T200 input e s f = sym f.t200_follows
as_end_requires T201 input e s f = f.t201_stays (runs_before T201 input e) ∙ never_201 input e
as_end_requires T202 input e s f = f.t202_stays (runs_before T202 input e) ∙ never_202 input e
as_end_requires T203 input e s f = sym f.t203_follows

stepped : (now : ℕ) (input : Input) (e : End) (t : Timers) (s : StepState) → HasTimersOfState e
    → AreTags e.window → CarriesNumbers Tagged input → RunsAsBefore input e t
    → step Tagged input e ≡ Ok s
    → HasExactTimers (record { end = s.end; timers = timed now s.outs t })
stepped now input e t s of_state numbers reception before done =
    let follows = timers_follow Tagged input e s of_state done in
    record {
      exact =
          λ timer. runs_by_outs timer now s.outs t ∙ ap (runs_after timer s.outs) (before timer) ∙
          as_end_requires timer input e s follows;
      of_state = timers_stay Tagged input e s numbers reception of_state done;
      numbers = numbers_stay Tagged input e s numbers reception done;
    }

pub new_is_exact : (p : Parameters) (lengths : Lengths) → HasExactTimers (new_linked p lengths)
unfolding initial_variables
new_is_exact p lengths = record {
  exact = new_exact;
  of_state = timers_begin p;
  numbers = (omega arith, omega arith, omega arith);
}
  where
    new_exact : (timer : Timer)
        → is_on timer (new_linked p lengths).timers ≡ runs timer (new_linked p lengths).end
    new_exact T200 = refl
    new_exact T201 = refl
    new_exact T202 = refl
    new_exact T203 = refl

-- the timers that the state requires have a deadline
pub runs_by_state : (l : Linked) → HasExactTimers l → RunByState l
runs_by_state l h =
    subst (λ (t200 : Bool). AreTimersOf l.end.state t200 (is_on T203 l.timers)
    (l.end.window.vs ≡ l.end.window.va)) (sym (h.exact T200))
    (subst (λ (t203 : Bool). AreTimersOf l.end.state l.end.t200 t203
    (l.end.window.vs ≡ l.end.window.va)) (sym (h.exact T203)) h.of_state)

-- ---- Frames whose N(S) and N(R) are tags.

abbrev IsNumberedFrame : Result Fields FrameFault → Type 0
IsNumberedFrame r = IfOk r (λ f. IsControl f.control)

-- octets that this side sent
abbrev pub CarriesTags : Side → List ℕ → Type 0
CarriesTags from octets = IsNumberedFrame (frame_at from octets)

of_parts : (a : Address) (control : Control) (info : List ℕ) (fault : Option FaultKind)
    → IsControl control → IsNumberedFrame (fault_for_link a (frame_of a control info fault))
of_parts a control info None h = h
of_parts a control info (Some fault) h = tt

pub spelled_carries_tags : (from : Side) (f : Fields) → IsControl f.control
    → CarriesTags from (spelling from f)
spelled_carries_tags from f h =
    subst IsNumberedFrame (sym (parts_again from f))
    (of_parts f.address f.control f.info (content_fault f.address.role f.control (length f.info)) h)

-- sequence numbers in octets have seven bits
second_octet : (first nr : ℕ) (pf : Bool) (info : List ℕ)
    → AreOctets (first ∷ (nr * 2 + bit pf) ∷ info) → nr ≤ 127
second_octet first nr pf info h =
    let second : IsOctet (nr * 2 + bit pf) =
    All-head IsOctet (nr * 2 + bit pf) info
    (All-tail IsOctet first ((nr * 2 + bit pf) ∷ info) h) in
    omega (arith, second)

in_octets : (control : Control) (info : List ℕ) → AreOctets (control_octets control ++ info)
    → IsControl control
in_octets (I ns nr p) info h =
    let first : IsOctet (ns * 2) = All-head IsOctet (ns * 2) ((nr * 2 + bit p) ∷ info) h in
    (omega (arith, first), second_octet (ns * 2) nr p info h)
in_octets (Rr nr pf) info h = second_octet 0x01 nr pf info h
in_octets (Rnr nr pf) info h = second_octet 0x05 nr pf info h
in_octets (Rej nr pf) info h = second_octet 0x09 nr pf info h
in_octets other info h = tt

behind_address : (from : Side) (f : Fields) → AreOctets (spelling from f)
    → AreOctets (control_octets f.control ++ f.info)
behind_address from f h =
    let rest = control_octets f.control ++ f.info in
    All-tail IsOctet (f.address.tei * 2 + 1) rest
    (All-tail IsOctet (sapi_value f.address.sapi * 4 + command_bit from f.address.role * 2)
    ((f.address.tei * 2 + 1) ∷ rest) h)

read_from_octets : (from : Side) (octets : List ℕ) (r : Result Fields FrameFault)
    → frame_at from octets ≡ r → AreOctets octets → IsNumberedFrame r
read_from_octets from octets (Ok f) found h =
    in_octets f.control f.info
    (behind_address from f (subst AreOctets (frame_spelled from octets f found) h))
read_from_octets from octets (Err fault) found h = tt

pub octets_carry_tags : (from : Side) (octets : List ℕ) → AreOctets octets → CarriesTags from octets
octets_carry_tags from octets h = read_from_octets from octets (frame_at from octets) refl h

module _ (side : Side) (id : LinkId) (e : End) (octets : List ℕ) where
  abbrev Sent : List Out → List (List ℕ)
  Sent outs = filter_map (sent_by (setup_for side id) e octets) outs

  parts_carry_tags : (role : Role) (control : Control) (info : List ℕ) → IsControl control
      → CarriesTags side (spelling side (link_parts (setup_for side id) role control info))
  parts_carry_tags role control info h =
      spelled_carries_tags side (link_parts (setup_for side id) role control info) h

  sent_carry_tags : (outs : List Out) → AreNumbered Tagged outs → All (CarriesTags side) (Sent outs)
  sent_carry_tags [] h = All-nil (CarriesTags side)
  sent_carry_tags (Send role control ∷ outs) h =
      All-cons (CarriesTags side) _ (Sent outs) (parts_carry_tags role control [] h.0)
      (sent_carry_tags outs h.1)
  sent_carry_tags (SendMessage n control ∷ outs) h =
      All-cons (CarriesTags side) _ (Sent outs) (parts_carry_tags Command control _ h.0)
      (sent_carry_tags outs h.1)
  sent_carry_tags (SendUnit ∷ outs) h =
      All-cons (CarriesTags side) _ (Sent outs) (parts_carry_tags Command (Ui false) octets tt)
      (sent_carry_tags outs h.1)
  sent_carry_tags (other ∷ outs) h = sent_carry_tags outs h.1

-- ---- Among the links of a side: the links after an event, and its effects.

pub record IsExact (side : Side) (links : Links) (effects : Effects) : Type 0 where
  pub timers : HaveExactTimers links
  pub frames : All (CarriesTags side) effects.frames

abbrev pub IsExactAmong : Side → Result (Reaction Links) SideKind → Type 0
IsExactAmong side r = IfOk r (λ a. IsExact side a.after a.effects)

-- no frame is sent
pub quietly : (side : Side) (links : Links) (effects : Effects) → effects.frames ≡ []
    → HaveExactTimers links → IsExact side links effects
quietly side links effects none h = record {
  timers = h;
  frames = subst (All (CarriesTags side)) (sym none) (All-nil (CarriesTags side));
}

abbrev pub OfSome : Option Linked → Type 0
OfSome o = (linked : Linked) → o ≡ Some linked → HasExactTimers linked

some_is_exact : (l : Linked) → HasExactTimers l → OfSome (Some l)
some_is_exact l h m is = subst HasExactTimers (same l m is) h
  where
    same : (l m : Linked) → Some l ≡ Some m → l ≡ m
    same l m is = cc

pub no_link_is_exact : OfSome None
no_link_is_exact m is = cc

with_exact : (id : LinkId) (l : Linked) (links : Links) → HasExactTimers l → HaveExactTimers links
    → HaveExactTimers (with_link id (Some l) links)
with_exact id l links one all other =
    if_either OfSome (id_eq other id) (Some l) (links other) (some_is_exact l one) (all other)

-- ---- A step of one link.

record IsExactLink (side : Side) (l : Linked) (effects : Effects) : Type 0 where
  pub timers : HasExactTimers l
  pub frames : All (CarriesTags side) effects.frames

abbrev IsExactStep : Side → Result (Reaction Linked) LinkFault → Type 0
IsExactStep side r = IfOk r (λ a. IsExactLink side a.after a.effects)

module _ (side : Side) (id : LinkId) where
  acted_is_exact : (now : ℕ) (input : Input) (octets : List ℕ) (e : End) (t : Timers)
      (r : Result StepState LinkFault) → HasTimersOfState e → AreTags e.window
      → CarriesNumbers Tagged input → RunsAsBefore input e t → step Tagged input e ≡ r
      → IsExactStep side (acted side id now octets t r)
  acted_is_exact now input octets e t (Err fault) of_state numbers reception before done = tt
  acted_is_exact now input octets e t (Ok s) of_state numbers reception before done = record {
    timers = stepped now input e t s of_state numbers reception before done;
    frames =
        sent_carry_tags side id s.end octets s.outs
        (numbers_are_sent Tagged input e s numbers reception done);
  }

  placed : (links : Links) (r : Result (Reaction Linked) LinkFault) → HaveExactTimers links
      → IsExactStep side r → IsExactAmong side (in_place id links r)
  placed links (Ok a) all one =
      record { timers = with_exact id a.after links one.timers all; frames = one.frames }
  placed links (Err fault) all one = tt

  there : (links : Links) (o : Option Linked) (act : Linked → Result (Reaction Linked) LinkFault)
      → HaveExactTimers links → OfSome o
      → ((l : Linked) → HasExactTimers l → IsExactStep side (act l))
      → IsExactAmong side (where_there id links o act)
  there links None act all one each = tt
  there links (Some l) act all one each = placed links (act l) all (each l (one l refl))

  pub acts_exactly : (now : ℕ) (input : Input) (octets : List ℕ) (links : Links) → IsNoExpiry input
      → CarriesNumbers Tagged input → HaveExactTimers links
      → IsExactAmong side (in_links id (link_acts side id now input octets) links)
  unfolding in_links link_acts
  acts_exactly now input octets links plain reception all =
      there links (links id)
      (λ (l : Linked). acted side id now octets l.timers (step Tagged input l.end)) all (all id)
      (λ l h. acted_is_exact now input octets l.end l.timers (step Tagged input l.end) h.of_state
      h.numbers reception (plain_before input l plain h) refl)

  pub expires_exactly : (now : ℕ) (timer : Timer) (links : Links) → HaveExactTimers links
      → IsExactAmong side (in_links id (link_expires side id now timer) links)
  unfolding in_links link_acts link_expires
  expires_exactly now timer links all =
      there links (links id) (λ (l : Linked). acted side id now [] (stopped timer l.timers)
      (step Tagged (Expiry timer) l.end)) all (all id)
      (λ l h. acted_is_exact now (Expiry timer) [] l.end (stopped timer l.timers)
      (step Tagged (Expiry timer) l.end) h.of_state h.numbers tt (expired_before timer l h)
      refl)

-- ---- Links join and are removed.

or_new_exact : (p : Parameters) (lengths : Lengths) (o : Option Linked) → OfSome o
    → OfSome (or_new (new_linked p lengths) o)
or_new_exact p lengths None h = some_is_exact _ (new_is_exact p lengths)
or_new_exact p lengths (Some l) h = h

pub fresh_or : (test : Bool) (config : Config) (id : LinkId) (o : Option Linked) → OfSome o
    → OfSome
    (if test then Some (new_linked (parameters_for config id.sapi) config.durations) else o)
fresh_or test config id o h =
    if_either OfSome test (Some (new_linked (parameters_for config id.sapi) config.durations)) o
    (some_is_exact _ (new_is_exact (parameters_for config id.sapi) config.durations)) h

pub with_tei_exact : (config : Config) (tei : ℕ) (links : Links) → HaveExactTimers links
    → HaveExactTimers (with_tei config tei links)
unfolding with_tei
with_tei_exact config tei links all id =
    let parameters = parameters_for config id.sapi in
    if_either OfSome (is_link_of config tei id)
    (or_new (new_linked parameters config.durations) (links id)) (links id)
    (or_new_exact parameters config.durations (links id) (all id)) (all id)

with_given : (config : Config) (given : Option ℕ) (links : Links) → HaveExactTimers links
    → HaveExactTimers (links_with config given links)
with_given config None links all = all
with_given config (Some tei) links all = with_tei_exact config tei links all

without_freed : (freed : Option ℕ) (links : Links) → HaveExactTimers links
    → HaveExactTimers (links_without freed links)
unfolding without_tei
without_freed None links all = all
without_freed (Some tei) links all =
    λ id. if_either OfSome (id.tei == tei) None (links id) no_link_is_exact (all id)

pub messages_carry_tags : (side : Side) (outs : List TeiOut)
    → All (CarriesTags side) (filter_map (message_sent side) outs)
messages_carry_tags side [] = All-nil (CarriesTags side)
messages_carry_tags side (outcome.Send message ∷ outs) =
    All-cons (CarriesTags side) _ _ (spelled_carries_tags side (frame_of_message message) tt)
    (messages_carry_tags side outs)
messages_carry_tags side (other ∷ outs) = messages_carry_tags side outs

pub manages_exactly : (side : Side) (config : Config) (now : ℕ) (outs : List TeiOut) (s : Served)
    → HaveExactTimers s.links
    → IsExact side (manages side config now outs s).after.links
    (manages side config now outs s).effects
unfolding manages
manages_exactly side config now outs s all = record {
  timers =
      without_freed (tei_freed outs) (links_with config (tei_given outs) s.links)
      (with_given config (tei_given outs) s.links all);
  frames = messages_carry_tags side outs;
}
