-- The state of a side after a step and all its outputs.
use Rattle.std.proofs.Common.{◌≡◌, ◌≤◌, ◌+◌, ◌==◌, not, if◌then◌else◌, ℕ, Bool, true, false, List, [], ◌∷◌, ◌++◌, length, Option, Some, None, Vec, Result, Ok, refl, sym, ap, ◌∙◌, subst, arith}
use Rattle.std.proofs.lemmas.Bool.Decides.{nat_tests}
use Rattle.std.proofs.lemmas.List.{append-nil}
use Rattle.std.specs.declared.alloc.Global.{Global}
use Rattle.lapd_frame.specs.declared.Side.{Side}
use Rattle.lapd_frame.specs.declared.Role.TheVariants.{Command, Answer}
use Rattle.lapd_frame.specs.declared.Control.TheVariants.{I, Ui}
use Rattle.lapd_frame.specs.Frame.{n201}
use Rattle.lapd_link.specs.Link.{LinkRepresents, setup_of, Steps}
use Rattle.lapd_mod128.specs.Counting.{Tagged}
use Rattle.lapd_link_definition.specs.declared.event.LinkFault.{LinkFault}
use Rattle.lapd_link_definition.specs.declared.event.Event.{Event}
use Rattle.lapd_link_definition.specs.declared.event.Event.TheVariants as event
use Rattle.lapd_link_definition.specs.declared.out.Out.{Out}
use Rattle.lapd_link_definition.specs.declared.state.State.{State}
use Rattle.lapd_link_definition.specs.declared.state.State.TheVariants.{TeiAssigned, AwaitingEstablishment, AwaitingRelease, MultipleFrameEstablished, TimerRecovery}
use Rattle.lapd_link_definition.specs.Begins.{begins}
use Rattle.lapd_link_definition.specs.Counts.{ups, unit_ups, messages_of, accepts, receives_unit}
use Rattle.lapd_link_definition.specs.End.{End, StepState}
use Rattle.lapd_link_definition.specs.Input as input
use Rattle.lapd_link_definition.specs.Input.{Input, input_of}
use Rattle.lapd_link_definition.specs.Table.{step}
use Rattle.lapd_link_definition.proofs.InputsThatCount.{begun_by_step, begun_by_no_step, given_after, ups_after}
use Rattle.lapd_link_definition.proofs.PreservedByStep.{step_is_short}
use Rattle.lapd_link_definition.proofs.Soundness.{sound_step}
use Rattle.lapd_link_definition.proofs.UnitsOfStep.{units_after}
use Rattle.lapd_pair_laws.specs.Histories as world
use Rattle.lapd_pair_laws.specs.Histories.{Occasion, Story, after_outputs, with_beginning}
use Rattle.lapd_pair_laws.specs.Consistent.{AreSettled, IsConsistent}
use Rattle.lapd_pair_laws.specs.Move.{View, story_after, view_after, stepped}
use Rattle.lapd_pair_laws.proofs.Consistency.{outputs_in_order, first_within, begun_counted, counted_by}
use Rattle.lapd_pair_laws.proofs.Recording.{settled_alike}
use Rattle.lapd_pair.specs.declared.log.Log.{Log}
use Rattle.lapd_pair.specs.declared.line.Line.{Line}
use Rattle.lapd_pair.specs.declared.recorded_link.RecordedLink.{RecordedLink}
use Rattle.lapd_pair.specs.Histories.{IsHistory}
use Rattle.lapd_pair.specs.Line.{IsOn}
use Rattle.lapd_pair.specs.Station.{IsStation, IsActed, HasOctets}
use Rattle.lapd_pair.specs.Recording.{IsCopy, IsBetweenOutputs}

-- ---- At most one delivery to layer 3.

at_most : (on : Bool) → (if on then 1 else 0) + 0 ≤ 1
at_most true = omega arith
at_most false = omega arith

one_of_both : (input : Input) (e : End)
    → (if accepts input e then 1 else 0) + (if receives_unit input then 1 else 0) ≤ 1
one_of_both (input.Heard (I ns nr p) role) e = at_most (accepts (input.Heard (I ns nr p) role) e)
one_of_both (input.Heard (Ui p) Command) e = omega arith
one_of_both (input.Heard (Ui p) Answer) e = omega arith
one_of_both (input.Heard control role) e = omega arith
one_of_both other e = omega arith

none_of_both : (input : Input) (e : End) (octets : List ℕ) → HasOctets input octets None
    → (if accepts input e then 1 else 0) + (if receives_unit input then 1 else 0) ≡ 0
none_of_both (input.Heard control role) e octets h = absurd h
none_of_both other e octets h = refl

held : (input : Input) (octets : List ℕ) (copy : Vec ℕ Global) → HasOctets input octets (Some copy)
    → copy.items ≡ octets
held (input.Heard control role) octets copy h = h
held other octets copy h = cc

copied : (input : Input) (e : End) (s : StepState) (octets : List ℕ) (copy : Option (Vec ℕ Global))
    → step Tagged input e ≡ Ok s → HasOctets input octets copy
    → IsCopy octets (ups s.outs + unit_ups s.outs) copy
copied input e s octets None done h =
    rw (ups_after Tagged input e s done, units_after Tagged input e s done)
    (none_of_both input e octets h)
copied input e s octets (Some copy) done h = (
  rw (ups_after Tagged input e s done, units_after Tagged input e s done) (one_of_both input e),
  held input octets copy h,
)

-- ---- An establishment begins exactly if the number of establishments changes.

beginning_by : (input : Input) (e : End) (s : StepState) (test : Bool)
    → begins e.state e.release_pending input ≡ test → step Tagged input e ≡ Ok s
    → test ≡ not (e.establishments == s.end.establishments)
beginning_by input e s true is done =
    let more = (begun_by_step Tagged input e s is done).counted in
    let other : (e.establishments == s.end.establishments) ≡ false = grind (arith, nat_tests) in
    rw other refl
beginning_by input e s false is done =
    let same = begun_by_no_step Tagged input e s is done in
    let equal : (e.establishments == s.end.establishments) ≡ true = grind (arith, nat_tests) in
    rw equal refl

-- ---- Before the first output is executed.

-- the inputs of executing the outputs of a step
abbrev occasion_of : List ℕ → ℕ → StepState → Occasion
occasion_of octets place s = record {
  given = s.end.given;
  establishment = s.end.establishments;
  octets = octets;
  place = place;
}

-- the line and the history before the first output
abbrev story_before : View → StepState → Story
story_before v s = record {
  line = v.outgoing;
  history =
      with_beginning v.station.end.establishments s.end.establishments v.station.history;
}

between_outputs_begins : (side : Side) (place : ℕ) (input : Input) (octets : List ℕ)
    (copy : Option (Vec ℕ Global)) (v : View) (s : StepState) (before now : RecordedLink)
    (outward : Line)
    → IsConsistent Tagged v.station → IsStation side before v.station → IsOn side outward v.outgoing
    → length octets ≤ n201 → HasOctets input octets copy
    → step Tagged input v.station.end ≡ Ok s
    → LinkRepresents now.link s.end → setup_of now.link ≡ setup_of before.link
    → IsHistory now.history s.end.given
    (with_beginning v.station.end.establishments s.end.establishments v.station.history)
    → IsBetweenOutputs side s.end (occasion_of octets place s) s.outs now outward copy
    (story_before v s)
between_outputs_begins side place input octets copy v s before now outward preserved shown on few
    input_octets done link setup history =
    let e = v.station.end in
    record {
      link = link;
      setup = setup ∙ shown.setup;
      history = history;
      line = on;
      order = outputs_in_order Tagged input v.station s preserved done;
      within =
          first_within Tagged s.end.state s.end
          (sound_step Tagged input e s preserved.window preserved.sound done);
      settled =
          settled_alike v.station.history
          (with_beginning e.establishments s.end.establishments v.station.history) refl refl refl
          preserved.settled;
      begun =
          begun_counted e.establishments s.end.establishments v.station.history preserved.begun
          (counted_by Tagged input e s (begins e.state e.release_pending input) refl done);
      given = refl;
      short = step_is_short Tagged input e s preserved.short done;
      fits = few;
      copied = copied input e s octets copy done input_octets;
    }

-- ---- After all outputs are executed.

abbrev Did : StepState → Result StepState LinkFault
Did s = Ok s

acted_by : (side : Side) (place : ℕ) (octets : List ℕ) (copy : Option (Vec ℕ Global)) (v : View)
    (s : StepState) (after : RecordedLink) (outward : Line) (result : Result StepState LinkFault)
    (outs : List Out)
    → result ≡ Did s → s.outs ≡ outs
    → IsBetweenOutputs side s.end (occasion_of octets place s) [] after outward copy
    (after_outputs (occasion_of octets place s) s.outs (story_before v s))
    → IsActed side after outward (stepped octets place v result) outs
unfolding view_after story_after
acted_by side place octets copy v s after outward result outs is same h = record {
  acted = record { view = view_after octets place v s; outs = s.outs };
  is = rw is refl;
  same = same;
  station = record { link = h.link; setup = h.setup; history = h.history };
  outgoing = h.line;
}

-- executing these outputs has the defined result; the same holds for an equal list of outputs
abbrev pub RecordsAll : List ℕ → List Out → RecordedLink → Line → Option (Vec ℕ Global)
    → RecordedLink → Line → Option (Vec ℕ Global) → Type 0
RecordsAll octets outs now outward copy after outward_after copy_after =
    (side : Side) (e : End) (o : Occasion) (t : Story) → octets ≡ o.octets
    → IsBetweenOutputs side e o outs now outward copy t
    → IsBetweenOutputs side e o [] after outward_after copy_after (after_outputs o outs t)

pub records_of : (octets : List ℕ) (these those : List Out) (now : RecordedLink) (outward : Line)
    (copy : Option (Vec ℕ Global)) (after : RecordedLink) (outward_after : Line)
    (copy_after : Option (Vec ℕ Global)) → these ≡ those
    → RecordsAll octets these now outward copy after outward_after copy_after
    → RecordsAll octets those now outward copy after outward_after copy_after
records_of octets these those now outward copy after outward_after copy_after same reporting =
    subst (λ (x : List Out). RecordsAll octets x now outward copy after outward_after copy_after)
    same reporting

-- a step for an event, with its outputs
pub step_acted : (side : Side) (place : ℕ) (input : Input) (octets : List ℕ)
    (copy copy_after : Option (Vec ℕ Global)) (v : View) (outs : List Out) (starts : Bool)
    (before now after : RecordedLink) (outward outward_after : Line)
    → messages_of input ≡ [] → IsConsistent Tagged v.station → IsStation side before v.station
    → IsOn side outward v.outgoing → length octets ≤ n201 → HasOctets input octets copy
    → Steps before.link now.link input outs → setup_of now.link ≡ setup_of before.link
    → ((e : End) → LinkRepresents before.link e → starts ≡ begins e.state e.release_pending input)
    → ((messages : List (List ℕ)) (h : world.History) (was is : ℕ) → starts ≡ not (was == is)
    → IsHistory before.history messages h
    → IsHistory now.history messages (with_beginning was is h))
    → RecordsAll octets outs now outward copy after outward_after copy_after
    → IsActed side after outward_after (stepped octets place v (step Tagged input v.station.end))
    outs
step_acted side place input octets copy copy_after v outs starts before now after outward
    outward_after none preserved shown on few input_octets steps setup tests notes reporting =
    let e = v.station.end in
    let done = steps e shown.link in
    let s = done.0 in
    let starting : starts ≡ not (e.establishments == s.end.establishments) =
    beginning_by input e s starts (sym (tests e shown.link)) done.1 in
    let given : s.end.given ≡ e.given =
    given_after Tagged input e s done.1 ∙ ap (λ m. e.given ++ m) none
    ∙ append-nil e.given in
    let history : IsHistory now.history s.end.given
    (with_beginning e.establishments s.end.establishments v.station.history) =
    rw given (notes e.given v.station.history e.establishments s.end.establishments starting
    shown.history) in
    let start =
    between_outputs_begins side place input octets copy v s before now outward preserved
    shown on few input_octets done.1 done.3 setup history in
    let telling =
    records_of octets outs s.outs now outward copy after outward_after copy_after
    (sym done.2) reporting in
    acted_by side place octets copy_after v s after outward_after (step Tagged input e) outs done.1
    done.2 (telling side s.end (occasion_of octets place s) (story_before v s) refl start)

-- no event submits a message
pub no_message : (event : Event) → messages_of (input_of event) ≡ []
no_message (event.Heard frame) = refl
no_message (event.Fault kind) = refl
no_message event.T200 = refl
no_message event.T203 = refl
no_message event.Establish = refl
no_message event.Release = refl
no_message event.BusyOn = refl
no_message event.BusyOff = refl
no_message (event.Unit len) = refl

-- ---- A message is submitted.

unless_begun : (same : Bool) (preserved : Log) (messages : List (List ℕ)) (h : world.History)
    (n : ℕ) → same ≡ true → IsHistory preserved messages h
    → IsHistory preserved messages
    (record h { begun = if same then h.begun else h.begun ++ n ∷ [] })
unless_begun true preserved messages h n is shown = shown
unless_begun false preserved messages h n is shown = cc

begins_none : (state : State) (release_pending : Bool) (message : List ℕ)
    → begins state release_pending (input.Give message) ≡ false
begins_none TeiAssigned release_pending message = refl
begins_none AwaitingEstablishment release_pending message = refl
begins_none AwaitingRelease release_pending message = refl
begins_none MultipleFrameEstablished release_pending message = refl
begins_none TimerRecovery release_pending message = refl

-- submitting a message, which begins no establishment
pub give_acted : (side : Side) (message : List ℕ) (copy copy_after : Option (Vec ℕ Global))
    (v : View) (outs : List Out) (before now after : RecordedLink) (outward outward_after : Line)
    → copy ≡ None → IsConsistent Tagged v.station → IsStation side before v.station
    → IsOn side outward v.outgoing
    → Steps before.link now.link (input.Give message) outs
    → setup_of now.link ≡ setup_of before.link
    → ((messages : List (List ℕ)) (h : world.History) → AreSettled h
    → h.sent_in (length messages) ≡ None → IsHistory before.history messages h
    → IsHistory now.history (messages ++ message ∷ []) h)
    → RecordsAll [] outs now outward copy after outward_after copy_after
    → IsActed side after outward_after
    (stepped [] 0 v (step Tagged (input.Give message) v.station.end)) outs
give_acted side message copy copy_after v outs before now after outward outward_after none preserved
    shown on steps setup gives reporting =
    let e = v.station.end in
    let done = steps e shown.link in
    let s = done.0 in
    let same =
    begun_by_no_step Tagged (input.Give message) e s
    (begins_none e.state e.release_pending message) done.1 in
    let equal : (e.establishments == s.end.establishments) ≡ true = grind (arith, nat_tests) in
    let given : s.end.given ≡ e.given ++ message ∷ [] =
    given_after Tagged (input.Give message) e s done.1 in
    let unsent = preserved.unsent (length e.given) (omega arith) in
    let history : IsHistory now.history s.end.given
    (with_beginning e.establishments s.end.establishments v.station.history) =
    rw given (unless_begun (e.establishments == s.end.establishments) now.history
    (e.given ++ message ∷ []) v.station.history (length v.station.history.received) equal
    (gives e.given v.station.history preserved.settled unsent shown.history)) in
    let start =
    between_outputs_begins side 0 (input.Give message) [] copy v s before now outward
    preserved shown on (omega arith) none done.1 done.3 setup history in
    let telling =
    records_of [] outs s.outs now outward copy after outward_after copy_after (sym done.2)
    reporting in
    acted_by side 0 [] copy_after v s after outward_after (step Tagged (input.Give message) e) outs
    done.1 done.2 (telling side s.end (occasion_of [] 0 s) (story_before v s) refl start)
