-- The events while a side runs.
use Rattle.std.proofs.Common.{◌≡◌, ℕ, List, [], ◌∷◌, ◌++◌, Option, None, Some, sym, subst, ◌∙◌, inl, inr}
use Rattle.std.specs.Prelude.{Bool, ◌⊎◌}
use Rattle.lapd_cli_wire.specs.declared.outside.Lines.{Lines}
use Rattle.lapd_cli_live.specs.declared.service.Service.{Service}
use Rattle.lapd_cli_live.specs.declared.service.Until.{Until}
use Rattle.lapd_cli_live.specs.declared.service.EndReason.{EndReason}
use Rattle.lapd_cli_live.specs.Log.{Chain, Happen, LiveEvent, LiveState}
use Rattle.lapd_cli_live.specs.Steps.{CatchesUp, Continues, IsMatched, IsOver, IsServed, Receives, Step, TakesAndContinues, Proceeds, ProceedsOnce}
use Rattle.lapd_cli_live.specs.WaitingLines.{Expects, PrintsMeanwhile, awaiting}
use Rattle.lapd_cli_live.proofs.Log.{happen_both, happen_none}

abbrev SomeHappen : LiveState → LiveState → Type 0
SomeHappen a b = (events : List LiveEvent) × Happen events a b

some_both : (a b c : LiveState) → SomeHappen a b → SomeHappen b c → SomeHappen a c
some_both a b c p q = (p.0 ++ q.0, happen_both p.0 q.0 a b c p.1 q.1)

none_happen : (a b : LiveState) → b ≡ a → SomeHappen a b
none_happen a b same = ([], subst (λ (x : LiveState). Happen [] a x) (sym same) (happen_none a))

chain_happens : (R : LiveState → LiveState → Type 0) → ((a b : LiveState) → R a b → SomeHappen a b)
    → (states : List LiveState) (a b : LiveState) → Chain R states a b → SomeHappen a b
chain_happens R each [] a b same = none_happen a b same
chain_happens R each (mid ∷ states) a b chain =
    some_both a mid b (each a mid chain.0) (chain_happens R each states mid b chain.1)

taken_happens : (until : Until) (a b : LiveState) → TakesAndContinues until a b → SomeHappen a b
taken_happens until a b taken = (_, taken.takes.happen)

received_happens : (until : Until) (a b : LiveState) → Receives until a b → SomeHappen a b
received_happens until a b (inl all) =
    some_both a all.last b
    (chain_happens (TakesAndContinues until) (taken_happens until) all.taken a all.last all.are)
    (_, all.looks.happen)
received_happens until a b (inr most) =
    chain_happens (TakesAndContinues until) (taken_happens until) most.taken a b most.are

caught_happens : (until : Until) (a b : LiveState) → CatchesUp until a b → SomeHappen a b
caught_happens until a b caught =
    some_both a caught.received b (received_happens until a caught.received caught.receives)
    (caught.due.events, caught.due.happen)

proceeding_happens : (service : Service) (a b : LiveState) (outcome : Option EndReason)
    → Proceeds service outcome a b → SomeHappen a b
proceeding_happens service a b outcome (inl audits) = (_, audits.executes.happen)
proceeding_happens service a b outcome (inr waits) =
    some_both a waits.waited b (_, waits.waits.happen)
    (some_both waits.waited waits.read_to b (_, waits.reads.happen) (_, waits.prints.happen))

ended_happens : (service : Service) (a b : LiveState) (outcome : Option EndReason)
    → IsMatched service a b outcome ⊎ IsOver service a b outcome
    ⊎ ProceedsOnce service a b outcome
    → SomeHappen a b
ended_happens service a b outcome (inl matched) = none_happen a b matched.same
ended_happens service a b outcome (inr (inl over)) = none_happen a b over.same
ended_happens service a b outcome (inr (inr once)) =
    proceeding_happens service a b outcome once.proceeds

step_happens : (service : Service) (a b : LiveState) (outcome : Option EndReason)
    → Step service a b outcome → SomeHappen a b
step_happens service a b outcome (inl cut) =
    some_both a cut.ends.last b (chain_happens (TakesAndContinues service.until)
    (taken_happens service.until) cut.ends.taken a cut.ends.last cut.ends.are)
    (_, cut.ends.takes.happen)
step_happens service a b outcome (inr whole) =
    some_both a whole.ready b (caught_happens service.until a whole.ready whole.catches_up)
    (ended_happens service whole.ready b outcome whole.then)

continued_happens : (service : Service) (a b : LiveState) → Continues service a b → SomeHappen a b
continued_happens service a b continues = step_happens service a b None continues

pub served_happens : (service : Service) (why : EndReason) (a b : LiveState)
    → IsServed service why a b → SomeHappen a b
served_happens service why a b served =
    some_both a served.last b (chain_happens (Continues service) (continued_happens service)
    served.passed a served.last served.are)
    (step_happens service served.last b (Some why) served.ends)

-- a line is found exactly if one is printed that begins so
pub prints_meanwhile : (words : List ℕ) (ms : ℕ) (lines : Lines) (matched : Bool) (a b : LiveState)
    → Expects words ms lines matched a b → PrintsMeanwhile words ms matched a b
prints_meanwhile words ms lines matched a b expects =
    let some =
    served_happens _ expects.why (awaiting words expects.begun) expects.served_to
    expects.served in
    record {
      end = expects.end;
      begun = expects.begun;
      ends = expects.ends;
      events = some.0;
      served_to = expects.served_to;
      happen = some.1;
      is = expects.is ∙ some.1.shown.matched;
      after = expects.after;
    }
