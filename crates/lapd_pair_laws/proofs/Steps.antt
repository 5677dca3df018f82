-- From the view of a side to the middle of a step, and back.
use Rattle.std.proofs.Common.{◌≡◌, ℕ, List, Option, Some, None, refl}
use Rattle.lapd_mod128.specs.Counting.{Whole}
use Rattle.lapd_link_definition.specs.declared.event.LinkFault.{LinkFault}
use Rattle.lapd_link_definition.specs.EndOfStep.{end_step}
use Rattle.lapd_link_definition.specs.End.{StepState, begin}
use Rattle.lapd_link_definition.specs.Input.{Input}
use Rattle.lapd_link_definition.specs.Refusal.{refused}
use Rattle.lapd_link_definition.specs.Table.{row, step, unless}
use Rattle.lapd_pair_laws.specs.Line.{Flight}
use Rattle.lapd_pair_laws.specs.Move.{Station, View, stepped, view_after, story_after}
use Rattle.lapd_pair_laws.specs.Kinds.{Kind, kinds}
use Rattle.lapd_pair_laws.specs.Parties.{party}
use Rattle.lapd_pair_laws.specs.Invariant.{Both}
use Rattle.lapd_pair_laws.proofs.Closes.{mid_close}
use Rattle.lapd_pair_laws.proofs.ActionEffects.{Context, seen, line, HoldsMid}
use Rattle.lapd_pair_laws.proofs.MidSteps.{leave}
use Rattle.lapd_pair_laws.proofs.ClosedActions.{Ends}
use Rattle.lapd_pair_laws.proofs.Worlds.{Holds, left_by}

-- the context of a step: the frame just delivered is no longer in transit
abbrev pub context : ℕ → List ℕ → ℕ → View → List Flight → Station → ℕ → Context
context base octets place v incoming peer its_base = record {
  base = base;
  octets = octets;
  place = place;
  view = record v { incoming = incoming };
  peer = party its_base peer;
}

-- a step begins with the side's view
pub begun : (c : Context) (ks : List Kind)
    → Both (party c.base c.view.station) c.peer (kinds c.view.outgoing) ks
    → Both (seen c (begin c.view.station.end)) c.peer (line c (begin c.view.station.end)) ks
unfolding story_after begin
begun c ks b = b

-- an open side closes its step
pub ends_open : (c : Context) (ks : List Kind) (s : StepState) → HoldsMid c ks s
    → Ends c ks (end_step Whole s)
ends_open c ks s m =
    let done = mid_close c s ks m in
    record {
      base = c.base;
      both = leave (seen c (end_step Whole s)) c.peer (line c (end_step Whole s)) ks done;
    }

-- and the view after the step
pub holds_after : (octets : List ℕ) (place : ℕ) (v : View) (base its_base : ℕ) (peer : Station)
    (incoming : List Flight) (s : StepState)
    → Ends (context base octets place v incoming peer its_base) (kinds incoming) s
    → Holds (view_after octets place (record v { incoming = incoming }) s) peer
unfolding view_after
holds_after octets place v base its_base peer incoming s e =
    record { base = e.base; its_base = its_base; both = e.both }

by_option : (R : Option LinkFault → Type 0) (o : Option LinkFault) → (o ≡ None → R None)
    → ((fault : LinkFault) → R (Some fault)) → R o
by_option R None none some = none refl
by_option R (Some fault) none some = some fault

-- a refused input changes nothing; any other takes its row
pub by_refusal : (octets : List ℕ) (place : ℕ) (v : View) (base its_base : ℕ) (peer : Station)
    (input : Input)
    → Holds v peer
    → (refused input v.station.end ≡ None
    → Ends (context base octets place v v.incoming peer its_base) (kinds v.incoming)
    (end_step Whole (row Whole v.station.end.state input (begin v.station.end))))
    → Holds (left_by v (stepped octets place v (step Whole input v.station.end))) peer
unfolding step
by_refusal octets place v base its_base peer input h ends =
    by_option (λ (o : Option LinkFault). Holds
    (left_by v (stepped octets place v
    (unless o (end_step Whole
    (row Whole v.station.end.state input (begin v.station.end)))))) peer)
    (refused input v.station.end)
    (λ none. holds_after octets place v base its_base peer v.incoming
    (end_step Whole (row Whole v.station.end.state input (begin v.station.end)))
    (ends none))
    (λ fault. h)
