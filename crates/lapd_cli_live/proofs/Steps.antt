-- The steps of a running side, put together.
use Rattle.std.proofs.Common.{◌≡◌, ℕ, ◌+◌, ◌<◌, ◌≤◌, List, [], ◌∷◌, ◌++◌, length, Option, None, Some, Result, Ok, Err, OnOk, refl, sym, ap, subst, ◌∙◌, append_assoc, append-nil, inl, inr}
use Rattle.std.specs.Prelude.{◌⊎◌, Bool, true, false, is_some, IfOk, OnErr, ⊤}
use Rattle.std.proofs.lemmas.List.{length-append}
use Rattle.lapd_frame.specs.declared.Side.{Side}
use Rattle.lapd_sides_links.specs.Effects.{Effects}
use Rattle.lapd_sides_links.specs.declared.side_fault.SideFault.{SideFault}
use Rattle.lapd_sides.specs.declared.request.Request.{Request}
use Rattle.lapd_sides.specs.declared.either_side.EitherSide.{EitherSide}
use Rattle.lapd_sides.specs.Either.{Answers, Expires, StaysIdle, Takes, side_of}
use Rattle.lapd_cli_side_lines.proofs.Calls.{AreExpired, one_more, then_none}
use Rattle.lapd_cli_side_lines.specs.Calls.{ExpireInOrder}
use Rattle.lapd_cli_live.specs.declared.printer.Printer.{Printer}
use Rattle.lapd_cli_live.specs.declared.service.Service.{Service}
use Rattle.lapd_cli_live.specs.declared.service.Until.{Until}
use Rattle.lapd_cli_live.specs.declared.service.Until.TheVariants as until
use Rattle.lapd_cli_live.specs.declared.service.EndReason.{EndReason}
use Rattle.lapd_cli_live.specs.declared.service.EndReason.TheVariants as end_reason
use Rattle.lapd_cli_wire.specs.declared.outside.Woken.{Woken}
use Rattle.lapd_cli_wire.specs.declared.outside.Woken.TheVariants as woken
use Rattle.lapd_cli_wire.specs.IoEvents.{Adds, Arrives, IoEvent, Waits}
use Rattle.lapd_cli_wire.specs.declared.impairment.Impairment.{Impairment}
use Rattle.lapd_cli_live.specs.Entries.{Entry, Prints, Received, moment_after}
use Rattle.lapd_cli_live.specs.Printers.{PrintsOn, shown}
use Rattle.lapd_cli_live.specs.Log.{Around, CarriesOut, CarriesOutAll, Chain, Happen, HappenBeside, IsCarriedOut, LiveEvent, LiveState, ReadsClock, Shows, is_matched, moment_of, read_at}
use Rattle.lapd_cli_live.specs.Steps.{CatchesUp, DoesDue, EndsByFrame, Continues, IsReached, HasReceived, IsExecuted, IsServed, Looks, LooksInVain, Receives, Step, TakesAndContinues, TakesAt, TakesFrame, Proceeds, ended_by, loss_events, refusal_events}
use Rattle.lapd_cli_wire.proofs.IoEvents.{adds_none, adds_same}
use Rattle.lapd_cli_live.proofs.Log.{chain_more, happen_both, happen_none, live, prints_none}

pub true_is_not_false : true ≡ false → ⊥
true_is_not_false is = cc

-- ---- One event.

-- a call to the surroundings
pub io_event_happens : (a : LiveState) (io_events : Option (List IoEvent))
    (impairment : Option Impairment) (io_event : IoEvent)
    → Adds a.io_events io_events (io_event ∷ [])
    → impairment ≡ a.impairment
    → Happen (Around io_event ∷ []) a
    (record a { io_events = io_events; impairment = impairment })
io_event_happens a io_events impairment io_event adds same = record {
  own = refl;
  style = refl;
  io_events = adds;
  impairment = same;
  shown = prints_none a.style (side_of a.side) a.shown;
  most = refl;
}

-- an entry is printed, and the side may have changed
pub entry_happens : {W : Type 0} {most : ℕ} (contents : W → Option (List ℕ)) (old new : EitherSide)
    (own : Side) (a b : Option (List IoEvent)) (i j : Option Impairment) (p q : Printer W)
    (entry : Entry)
    → side_of new ≡ side_of old → own ≡ side_of old → b ≡ a → j ≡ i
    → PrintsOn contents own (entry ∷ []) p q
    → Happen (Shows entry ∷ []) (live most old a i contents p) (live most new b j contents q)
entry_happens contents old new own a b i j p q entry is same stays unchanged prints = record {
  own = is;
  style = prints.style;
  io_events = adds_same a b stays;
  impairment = unchanged;
  most = refl;
  shown =
      subst (λ (x : Side). Prints p.style x (entry ∷ []) (shown contents p) (shown contents q)) same
      prints.prints;
}

-- ---- Receiving.

pub taken_at : {W : Type 0} {most : ℕ} (contents : W → Option (List ℕ)) (frame : List ℕ) (now : ℕ)
    (old new : EitherSide) (own : Side) (a b : Option (List IoEvent)) (i j : Option Impairment)
    (p q : Printer W)
    (acts : Effects) (c : LiveState) → own ≡ side_of old
    → PrintsOn contents own (Received frame ∷ []) p q → Takes frame now (Ok tt) old new acts
    → side_of new ≡ side_of old → b ≡ a → j ≡ i → IsCarriedOut acts (live most new b j contents q) c
    → TakesAt frame now (live most old a i contents p) c
taken_at {most = most} contents frame now old new own a b i j p q acts c is prints takes same stays
    unchanged carried = record {
      acts = acts;
      takes =
          subst (λ (x : EitherSide). Takes frame now (Ok tt) old x acts) (sym carried.beside.side)
          takes;
      given = carried.events;
      carries = carried.carries;
      moment = carried.beside.moment ∙ prints.prints.now;
      happen =
          happen_both (Shows (Received frame) ∷ []) carried.events (live most old a i contents p)
          (live most new b j contents q) c
          (entry_happens contents old new own a b i j p q (Received frame) same is stays unchanged
          prints) carried.beside.happen;
    }

pub looked : (frame : List ℕ) (now : ℕ) (a m b : LiveState) (io_events : Option (List IoEvent))
    (impairment : Option Impairment) → ReadsClock now a m
    → Adds m.io_events io_events (Arrives frame ∷ []) → impairment ≡ m.impairment
    → TakesAt frame now (record m { io_events = io_events; impairment = impairment }) b
    → TakesFrame a b
looked frame now a m b io_events impairment reads adds same takes =
    let is : now ≡ moment_of b = sym (takes.moment ∙ reads.moment) in
    let all : Happen
    (read_at now ++ (Around (Arrives frame) ∷ Shows (Received frame) ∷ takes.given)) a b =
    happen_both (read_at now) (Around (Arrives frame) ∷ Shows (Received frame) ∷ takes.given) a m b
    reads.happen
    (happen_both (Around (Arrives frame) ∷ []) (Shows (Received frame) ∷ takes.given) m
    (record m { io_events = io_events; impairment = impairment }) b
    (io_event_happens m io_events impairment (Arrives frame) adds same) takes.happen) in
    record {
      frame = frame;
      acts = takes.acts;
      takes = subst (λ (x : ℕ). Takes frame x (Ok tt) a.side b.side takes.acts) is
          (subst (λ (x : EitherSide). Takes frame now (Ok tt) x b.side takes.acts) reads.side
          takes.takes);
      given = takes.given;
      carries = takes.carries;
      rises = subst (λ (x : ℕ). moment_of a ≤ x) is reads.rises;
      happen =
          subst (λ (x : ℕ). Happen
          (read_at x ++ (Around (Arrives frame) ∷ Shows (Received frame) ∷ takes.given)) a b) is
          all;
    }

-- this many frames are processed, and the service continues
pub record SomeTaken (until : Until) (count : ℕ) (a b : LiveState) : Type 0 where
  pub taken : List LiveState
  pub are : Chain (TakesAndContinues until) taken a b
  pub count_is : length taken ≡ count

pub none_taken : (until : Until) (a : LiveState) → SomeTaken until 0 a a
none_taken until a = record { taken = []; are = refl; count_is = refl }

pub more_taken : (until : Until) (count : ℕ) (a b c : LiveState) → SomeTaken until count a b
    → TakesFrame b c → ended_by until true (is_matched c) ≡ None
    → SomeTaken until (count + 1) a c
more_taken until count a b c some takes continuing = record {
  taken = some.taken ++ c ∷ [];
  are =
      chain_more (TakesAndContinues until) some.taken a b c some.are
      (record { takes = takes; continuing = continuing });
  count_is = length-append some.taken (c ∷ []) ∙ ap (λ (n : ℕ). n + 1) some.count_is;
}

pub takes_all : (until : Until) (count : ℕ) (a b c : LiveState) → SomeTaken until count a b
    → count < a.most → LooksInVain b c → Receives until a c
takes_all until count a b c some within looks = inl (record {
  taken = some.taken;
  within = subst (λ (n : ℕ). n < a.most) (sym some.count_is) within;
  last = b;
  are = some.are;
  looks = looks;
})

pub takes_most : (until : Until) (count : ℕ) (a b : LiveState) → SomeTaken until count a b
    → count ≡ a.most → Receives until a b
takes_most until count a b some all =
    inr (record { taken = some.taken; count = some.count_is ∙ all; are = some.are })

pub ends_by_frame : (until : Until) (count : ℕ) (why : EndReason) (a b c : LiveState)
    → SomeTaken until count a b → TakesFrame b c
    → ended_by until true (is_matched c) ≡ Some why → EndsByFrame until why a c
ends_by_frame until count why a b c some takes ends =
    record { taken = some.taken; last = b; are = some.are; takes = takes; ends = ends }

pub looked_in_vain : (matched : Bool) (a b : LiveState) → matched ≡ false → Looks matched a b
    → LooksInVain a b
looked_in_vain matched a b is looks = subst (λ (x : Bool). Looks x a b) is looks

pub taken_by : (matched : Bool) (a b : LiveState) → matched ≡ true → Looks matched a b
    → TakesFrame a b
taken_by matched a b is looks = subst (λ (x : Bool). Looks x a b) is looks

pub none_ended : (end_reason other : Option EndReason) → end_reason ≡ other
    → is_some end_reason ≡ false → other ≡ None
none_ended None other is none = sym is
none_ended (Some why) other is none = absurd (true_is_not_false none)

pub received_by : (until : Until) (count : ℕ) (end_reason : Option EndReason) (a b c : LiveState)
    → SomeTaken until count a b → TakesFrame b c
    → end_reason ≡ ended_by until true (is_matched c) → is_some end_reason ≡ true
    → HasReceived until end_reason a c
received_by until count None a b c some takes is one = absurd (true_is_not_false (sym one))
received_by until count (Some why) a b c some takes is one =
    ends_by_frame until count why a b c some takes (sym is)

-- no frame ends a service that lasts to its end
pub received_end : (end_reason : Option EndReason) (a b : LiveState)
    → HasReceived until.NoEvent end_reason a b → Receives until.NoEvent a b
received_end None a b receives = receives
received_end (Some why) a b ends = let impossible : None ≡ Some why = ends.ends in cc

-- ---- Expiring.

carries_more : (calls : List Effects) (acts : Effects) (first last : List LiveEvent)
    → CarriesOutAll calls first → CarriesOut acts last
    → CarriesOutAll (calls ++ acts ∷ []) (first ++ last)
carries_more [] acts first last none one = (
  last,
  [],
  one,
  refl,
  ap (λ (events : List LiveEvent). events ++ last) none ∙ sym (append-nil last),
)
carries_more (call ∷ calls) acts first last all one = (
  all.0,
  all.1 ++ last,
  all.2,
  carries_more calls acts all.1 last all.3 one,
  ap (λ (events : List LiveEvent). events ++ last) all.4 ∙ append_assoc all.0 all.1 last,
)

-- each of some timers was due in turn, and the output is carried out
pub record SomeDue (now : ℕ) (a b : LiveState) : Type 0 where
  pub calls : List Effects
  pub are : AreExpired now calls a.side b.side
  pub events : List LiveEvent
  pub carries : CarriesOutAll calls events
  pub moment : moment_of b ≡ moment_of a
  pub happen : Happen events a b

pub none_due : (now : ℕ) (a : LiveState) → SomeDue now a a
none_due now a = record {
  calls = [];
  are = refl;
  events = [];
  carries = refl;
  moment = refl;
  happen = happen_none a;
}

-- the side changes, and nothing else
pub side_changes : (a : LiveState) (side : EitherSide) → side_of side ≡ side_of a.side
    → Happen [] a (record a { side = side })
side_changes a side is = record {
  own = is;
  style = refl;
  io_events = adds_none a.io_events;
  impairment = refl;
  shown = prints_none a.style (side_of a.side) a.shown;
  most = refl;
}

pub more_due : (now : ℕ) (a b c : LiveState) (side : EitherSide) (acts : Effects) → SomeDue now a b
    → Expires now b.side side acts → side_of side ≡ side_of b.side
    → IsCarriedOut acts (record b { side = side }) c → SomeDue now a c
more_due now a b c side acts some due is carried = record {
  calls = some.calls ++ acts ∷ [];
  are =
      subst (λ (x : EitherSide). AreExpired now (some.calls ++ acts ∷ []) a.side x)
      (sym carried.beside.side) (one_more now some.calls acts a.side b.side side some.are due);
  events = some.events ++ carried.events;
  carries = carries_more some.calls acts some.events carried.events some.carries carried.carries;
  moment = carried.beside.moment ∙ some.moment;
  happen = happen_both some.events carried.events a b c some.happen
      (happen_both [] carried.events b (record b { side = side }) c (side_changes b side is)
      carried.beside.happen);
}

pub all_due : (now : ℕ) (a b : LiveState) (side : EitherSide) → now ≡ moment_of a → SomeDue now a b
    → StaysIdle now b.side side → side_of side ≡ side_of b.side
    → DoesDue a (record b { side = side })
all_due now a b side at some rests is = record {
  calls = some.calls;
  in_order =
      subst (λ (x : ℕ). ExpireInOrder x some.calls a.side side) at
      (then_none now some.calls a.side b.side side some.are rests);
  events = some.events;
  carries = some.carries;
  moment = some.moment;
  happen =
      subst (λ (events : List LiveEvent). Happen events a (record b { side = side }))
      (append-nil some.events)
      (happen_both some.events [] a b (record b { side = side }) some.happen
      (side_changes b side is));
}

-- ---- Requests.

pub executed : (request : Request) (b c : LiveState) (side : EitherSide)
    (result : Result ⊤ SideFault) (acts : Effects) (refusal : List LiveEvent) (d : LiveState)
    → Answers request (moment_of b) result b.side side acts → side_of side ≡ side_of b.side
    → IsCarriedOut acts (record b { side = side }) c → refusal ≡ refusal_events result
    → HappenBeside refusal c d → IsExecuted request b d
executed request b c side result acts refusal d answers is carried refuses beside = record {
  result = result;
  acts = acts;
  answers =
      subst (λ (x : EitherSide). Answers request (moment_of b) result b.side x acts)
      (sym (beside.side ∙ carried.beside.side)) answers;
  given = carried.events;
  carries = carried.carries;
  moment = beside.moment ∙ carried.beside.moment;
  happen = subst (λ (x : List LiveEvent). Happen (carried.events ++ x) b d) refuses
      (happen_both carried.events refusal b c d
      (happen_both [] carried.events b (record b { side = side }) c (side_changes b side is)
      carried.beside.happen) beside.happen);
}

pub beside_none : (a : LiveState) → HappenBeside [] a a
beside_none a = record { side = refl; moment = refl; happen = happen_none a }

pub beside_printed : {W : Type 0} {most : ℕ} (contents : W → Option (List ℕ)) (side : EitherSide)
    (io_events : Option (List IoEvent)) (impairment : Option Impairment) (p q : Printer W)
    (entry : Entry)
    → PrintsOn contents (side_of side) (entry ∷ []) p q → moment_after p.moment entry ≡ p.moment
    → HappenBeside (Shows entry ∷ []) (live most side io_events impairment contents p)
    (live most side io_events impairment contents q)
beside_printed contents side io_events impairment p q entry prints stays = record {
  side = refl;
  moment = prints.prints.now ∙ stays;
  happen =
      entry_happens contents side side (side_of side) io_events io_events impairment impairment p q
      entry refl refl refl refl prints;
}

-- ---- Steps.

-- the printed text is passed to the writer, and then the side waits
pub flushed_and_waited : {W : Type 0} {most : ℕ} (contents : W → Option (List ℕ))
    (side : EitherSide) (a b : Option (List IoEvent)) (i j : Option Impairment) (p q : Printer W)
    (until : Option ℕ) (woken : Woken)
    → PrintsOn contents (side_of side) [] p q → Adds a b (Waits until woken ∷ []) → j ≡ i
    → HappenBeside (Around (Waits until woken) ∷ []) (live most side a i contents p)
    (live most side b j contents q)
flushed_and_waited contents side a b i j p q until woken prints adds same = record {
  side = refl;
  moment = prints.prints.now;
  happen = record {
    own = refl;
    style = prints.style;
    io_events = adds;
    impairment = same;
    shown = prints.prints;
    most = refl;
  };
}

-- nothing is printed after a wait that no lost connection ended
pub no_loss : (end : Woken) (a : LiveState)
    → (end ≡ woken.Arrival) ⊎ ((end ≡ woken.Line) ⊎ ((end ≡ woken.Due) ⊎ (end ≡ woken.Closed)))
    → HappenBeside (loss_events end) a a
no_loss end a (inl is) =
    subst (λ (x : Woken). HappenBeside (loss_events x) a a) (sym is) (beside_none a)
no_loss end a (inr (inl is)) =
    subst (λ (x : Woken). HappenBeside (loss_events x) a a) (sym is) (beside_none a)
no_loss end a (inr (inr (inl is))) =
    subst (λ (x : Woken). HappenBeside (loss_events x) a a) (sym is) (beside_none a)
no_loss end a (inr (inr (inr is))) =
    subst (λ (x : Woken). HappenBeside (loss_events x) a a) (sym is) (beside_none a)

pub loss_as : (end is : Woken) (a b : LiveState) → end ≡ is → HappenBeside (loss_events is) a b
    → HappenBeside (loss_events end) a b
loss_as end is a b same happen =
    subst (λ (x : Woken). HappenBeside (loss_events x) a b) (sym same) happen

pub caught_up : (until : Until) (end_reason : Option EndReason) (a b c : LiveState)
    → HasReceived until end_reason a b → is_some end_reason ≡ false → DoesDue b c
    → CatchesUp until a c
caught_up until None a b c receives none due =
    record { received = b; receives = receives; due = due }
caught_up until (Some why) a b c receives none due = absurd (true_is_not_false none)

pub then_matched : (service : Service) (a b : LiveState) (outcome : Option EndReason)
    → CatchesUp service.until a b → outcome ≡ ended_by service.until false (is_matched b)
    → is_some outcome ≡ true → Step service a b outcome
then_matched service a b None caught is one = absurd (true_is_not_false (sym one))
then_matched service a b (Some why) caught is one =
    inr (record {
      ready = b;
      catches_up = caught;
      then = inl (record { why = why; matched = sym is; is = refl; same = refl });
    })

none_matched : (outcome other : Option EndReason) → outcome ≡ other → is_some outcome ≡ false
    → other ≡ None
none_matched outcome other is none = none_ended outcome other is none

pub then_over : (service : Service) (a b : LiveState) (outcome : Option EndReason)
    → CatchesUp service.until a b → outcome ≡ ended_by service.until false (is_matched b)
    → is_some outcome ≡ false → IsReached service.end (moment_of b)
    → Step service a b (Some end_reason.End)
then_over service a b outcome caught is none reached =
    inr (record {
      ready = b;
      catches_up = caught;
      then =
          inr (inl (record {
            continuing =
                none_matched outcome (ended_by service.until false (is_matched b)) is none;
            reached = reached;
            is = refl;
            same = refl;
          }));
    })

pub then_proceeds : (service : Service) (a b c : LiveState) (outcome end_reason : Option EndReason)
    → CatchesUp service.until a b
    → outcome ≡ ended_by service.until false (is_matched b) → is_some outcome ≡ false
    → ¬ IsReached service.end (moment_of b) → Proceeds service end_reason b c
    → Step service a c end_reason
then_proceeds service a b c outcome end_reason caught is none not proceeds =
    inr (record {
      ready = b;
      catches_up = caught;
      then =
          inr (inr (record {
            continuing =
                none_matched outcome (ended_by service.until false (is_matched b)) is none;
            not_over = not;
            proceeds = proceeds;
          }));
    })

pub if_ok : {A E : Type 0} (r : Result A E) (P Q : A → Type 0) → ((x : A) → P x → Q x) → IfOk r P
    → IfOk r Q
if_ok (Ok x) P Q f holds = f x holds
if_ok (Err fault) P Q f holds = tt

pub record SomeSteps (service : Service) (a b : LiveState) : Type 0 where
  pub passed : List LiveState
  pub are : Chain (Continues service) passed a b

pub no_steps : (service : Service) (a : LiveState) → SomeSteps service a a
no_steps service a = record { passed = []; are = refl }

pub more_steps : (service : Service) (a b c : LiveState) → SomeSteps service a b
    → Continues service b c → SomeSteps service a c
more_steps service a b c some step = record {
  passed = some.passed ++ c ∷ [];
  are = chain_more (Continues service) some.passed a b c some.are step;
}

pub all_steps : (service : Service) (end_reason : EndReason) (a b c : LiveState)
    → SomeSteps service a b → Step service b c (Some end_reason) → IsServed service end_reason a c
all_steps service end_reason a b c some step =
    record { passed = some.passed; last = b; are = some.are; ends = step }

pub on_ok : {A E : Type 0} (r : Result A E) (P Q : Type 0) → (P → Q) → OnOk r P → OnOk r Q
on_ok (Ok done) P Q f holds = f holds
on_ok (Err fault) P Q f holds = tt

pub on_err : {A E : Type 0} (r : Result A E) (P : Type 0) → P → OnErr r P
on_err (Ok done) P holds = tt
on_err (Err fault) P holds = holds

-- the printed text is passed to the writer
pub flushed : {W : Type 0} {most : ℕ} (contents : W → Option (List ℕ)) (side : EitherSide)
    (io_events : Option (List IoEvent)) (impairment : Option Impairment) (p q : Printer W)
    → PrintsOn contents (side_of side) [] p q
    → HappenBeside [] (live most side io_events impairment contents p)
    (live most side io_events impairment contents q)
flushed contents side io_events impairment p q prints = record {
  side = refl;
  moment = prints.prints.now;
  happen = record {
    own = refl;
    style = prints.style;
    io_events = adds_none io_events;
    impairment = refl;
    shown = prints.prints;
    most = refl;
  };
}
