-- Each event of a bus in service preserves the invariants of the bus, so no two terminals hold the
-- same TEI.
use Rattle.std.proofs.Common.{◌≡◌, ◌≢◌, ℕ, zero, suc, true, List, [], ◌∷◌, ◌++◌, map, take, drop, get_or, slice_get, replicate, Option, Some, None, inl, inr, refl, sym, ap, subst, ◌∙◌}
use Rattle.std.proofs.lemmas.List.Elements.{All-nil, All-set, All-append, All-take, All-drop, All-replicate}
use Rattle.std.specs.List.{All, AllByRecursion, remove}
use Rattle.lapd_tei.specs.declared.phase.Phase.{Phase}
use Rattle.lapd_tei.specs.declared.phase.Phase.TheVariants.{Unassigned, Assigned}
use Rattle.lapd_tei.specs.declared.terminal.TerminalEvent.{TerminalEvent}
use Rattle.lapd_tei.specs.declared.terminal.TerminalEvent.TheVariants as event
use Rattle.lapd_tei.specs.declared.assigner.AssignerEvent.TheVariants as assigner
use Rattle.lapd_tei.specs.declared.bus_move.BusMove.{BusMove}
use Rattle.lapd_tei.specs.Out.{sent}
use Rattle.lapd_tei.specs.Terminal.{terminal_step, tei_of, reference_of, new_terminal}
use Rattle.lapd_tei.specs.Assigner.{AssignerStep, assigner_step, is_held, known_held}
use Rattle.lapd_tei.specs.Bus.{BusState, BusStep, Broadcast, new_bus, assigner_did, terminal_did, with_mark, received_by, without_up, moved, run}
use Rattle.lapd_tei.specs.Single.{references, asked, Differ, freed, assigned_by, IsNobodys, FreesNobodys, MeetsPremises}
use Rattle.lapd_tei.specs.Service.{BusEvent, Move, Want, Join, Restart, in_service, joined_by, event_step, after_events, IsKnown, KnowsInUse, HoldsInUse, IsInOrder, KnowsAnew, IsNoOthers, place_of_event, AsksByItsOwn, FreesNobodysTei, RestartsKnowing, JoinsByItsOwn, LosesNone, Throughout, MeetsInService}
use Rattle.lapd_tei.proofs.PreservedByBus.{Owner, Place, Sits, Fits, Owned, single_from_owned, get_after_set, all_back, all_front, all_each, differ_rest, pick_yes, pick_no}
use Rattle.lapd_tei.proofs.TerminalPreserves.{ReceivesFitting, ReceivesKnown, terminal_owned, terminal_known, IsNew, terminal_new}
use Rattle.lapd_tei.proofs.AssignerPreserves.{assigner_assigns, stays_held, all_at, assigner_known, assigner_owned, reseated, refits, owned_by}
use Rattle.lapd_tei.proofs.EachMove.{EachWay, ReceivesNothing, terminal_way, each_move}

all_removed : {X : Type 0} (P : X → Type 0) (xs : List X) (i : ℕ) → All P xs → All P (remove xs i)
all_removed P xs i h =
    All-append P (take i xs) (drop (suc i) xs) (All-take P i xs h) (All-drop P (suc i) xs h)

-- ---- The TEIs in use are held.

silent_known : (b : BusState) (e : TerminalEvent) → ReceivesNothing e
    → ReceivesKnown b.assigner.held e
silent_known b (event.Heard m ri) silent = absurd silent
silent_known b (event.Ask ri) silent = tt
silent_known b (event.Want ri) silent = tt
silent_known b (event.T202 ri) silent = tt
silent_known b event.Leave silent = tt

terminal_did_known : (b : BusState) (t : ℕ) (phase : Phase) (e : TerminalEvent)
    → slice_get b.terminals t ≡ Some phase → ReceivesKnown b.assigner.held e → HoldsInUse b
    → KnowsInUse b.assigner.held (terminal_did b t (terminal_step phase e)).now
terminal_did_known b t phase e there hears h = record {
  terminals =
      All-set (λ u. IsKnown b.assigner.held (tei_of u)) b.terminals t (terminal_step phase e).now
      (terminal_known b.assigner.held phase e
      (all_at (λ u. IsKnown b.assigner.held (tei_of u)) b.terminals t phase h.terminals
      there) hears)
      h.terminals;
  assignments = h.assignments;
}

received_is_known : (b : BusState) (i : ℕ) (f : Broadcast) → slice_get b.down i ≡ Some f
    → HoldsInUse b → IsKnown b.assigner.held (assigned_by f.message.kind f.message.ai)
received_is_known b i f flies h =
    all_at (λ g. IsKnown b.assigner.held (assigned_by g.message.kind g.message.ai)) b.down i f
    h.assignments flies

marked_known : (b : BusState) (i t : ℕ) (f : Broadcast) → slice_get b.down i ≡ Some f → HoldsInUse b
    → KnowsInUse b.assigner.held (with_mark b i t f)
marked_known b i t f flies h = record {
  terminals = h.terminals;
  assignments =
      All-set (λ g. IsKnown b.assigner.held (assigned_by g.message.kind g.message.ai)) b.down i
      (received_by t f) (received_is_known b i f flies h) h.assignments;
}

-- messages from terminals in transit do not matter
up_known : (b : BusState) (i : ℕ) (done : AssignerStep)
    → KnowsInUse done.now.held (assigner_did b done).now
    → KnowsInUse done.now.held (assigner_did (without_up b i) done).now
up_known b i done h = record { terminals = h.terminals; assignments = h.assignments }

abbrev KnowsAfter : BusState → Option ℕ → BusStep → Type 0
KnowsAfter b place step = AllByRecursion (IsNobodys b) (freed step.outs) → HoldsInUse step.now

each_way_known : (b : BusState) → HoldsInUse b → EachWay b (KnowsAfter b)
each_way_known b h = record {
  refused = λ place nobodys. h;
  does =
      λ t phase e there silent nobodys. terminal_did_known b t phase e there
      (silent_known b e silent) h;
  reaches_terminal = λ i t ri f phase flies there nobodys.
      terminal_did_known (with_mark b i t f) t phase (event.Heard f.message ri) there
      (received_is_known b i f flies h) (marked_known b i t f flies h);
  lost_down = λ i nobodys. record {
    terminals = h.terminals;
    assignments =
        all_removed (λ g. IsKnown b.assigner.held (assigned_by g.message.kind g.message.ai)) b.down
        i h.assignments;
  };
  lost_up = λ i nobodys. record { terminals = h.terminals; assignments = h.assignments };
  assigner_does =
      λ e nobodys. assigner_known b (assigner_step b.assigner e) (assigner_assigns b.assigner e)
      nobodys h;
  network_receives = λ i m nobodys. up_known b i (assigner_step b.assigner (assigner.Heard m))
      (assigner_known b (assigner_step b.assigner (assigner.Heard m))
      (assigner_assigns b.assigner (assigner.Heard m)) nobodys h);
}

joined_known : (b : BusState) (t : ℕ) (fixed : Option ℕ)
    → IsKnown b.assigner.held (tei_of (new_terminal fixed)) → HoldsInUse b
    → KnowsInUse b.assigner.held (joined_by b t fixed)
joined_known b t fixed known h = record {
  terminals =
      All-set (λ u. IsKnown b.assigner.held (tei_of u)) b.terminals t (new_terminal fixed) known
      h.terminals;
  assignments = h.assignments;
}

event_known : (b : BusState) (e : BusEvent) → FreesNobodysTei b e → RestartsKnowing b e
    → JoinsByItsOwn b e → HoldsInUse b → HoldsInUse (event_step b e).now
event_known b (Move m) frees knows joins h = each_move b (KnowsAfter b) (each_way_known b h) m frees
event_known b (Want t ri) frees knows joins h =
    terminal_way b (KnowsAfter b) (each_way_known b h) t (slice_get b.terminals t) (event.Want ri)
    refl tt frees
event_known b (Join t None) frees knows joins h = joined_known b t None tt h
event_known b (Join t (Some tei)) frees knows joins h = joined_known b t (Some tei) joins.1 h
event_known b (Restart known) frees knows joins h =
    record { terminals = knows.terminals; assignments = knows.assignments }

-- ---- Claims have one owner.

silent_fits : (owner : ℕ → Option Owner) (e : TerminalEvent) → ReceivesNothing e
    → ReceivesFitting owner e
silent_fits owner (event.Heard m ri) silent = absurd silent
silent_fits owner (event.Ask ri) silent = tt
silent_fits owner (event.Want ri) silent = tt
silent_fits owner (event.T202 ri) silent = tt
silent_fits owner event.Leave silent = tt

marked_owned : (b : BusState) (i t : ℕ) (f : Broadcast) → slice_get b.down i ≡ Some f → Owned b
    → Owned (with_mark b i t f)
marked_owned b i t f flies h = record {
  owner = h.owner;
  place_of = h.place_of;
  seated = h.seated;
  flying =
      All-set (λ g. Fits h.owner g.message) b.down i (received_by t f)
      (all_at (λ g. Fits h.owner g.message) b.down i f h.flying flies) h.flying;
}

marked_no_others : (b : BusState) (i t : ℕ) (f : Broadcast) (place : Option ℕ) (r : ℕ)
    → IsNoOthers b place r → IsNoOthers (with_mark b i t f) place r
marked_no_others b i t f place r own j has =
    own j (record { terminal = has.terminal; there = has.there; its = has.its })

up_owned : (b : BusState) (i : ℕ) (done : AssignerStep) → Owned (assigner_did b done).now
    → Owned (assigner_did (without_up b i) done).now
up_owned b i done h =
    record { owner = h.owner; place_of = h.place_of; seated = h.seated; flying = h.flying }

abbrev OwnedAfter : BusState → Option ℕ → BusStep → Type 0
OwnedAfter b place step =
    AllByRecursion (IsNoOthers b place) (references (sent step.outs)) → Owned step.now

each_way_owned : (b : BusState) → HoldsInUse b → Owned b → EachWay b (OwnedAfter b)
unfolding marked_owned
each_way_owned b known h = record {
  refused = λ place own. h;
  does =
      λ t phase e there silent own. terminal_owned b t phase e there h
      (silent_fits h.owner e silent) own;
  reaches_terminal = λ i t ri f phase flies there own.
      terminal_owned (with_mark b i t f) t phase (event.Heard f.message ri) there
      (marked_owned b i t f flies h)
      (all_at (λ g. Fits h.owner g.message) b.down i f h.flying flies)
      (all_each (IsNoOthers b (Some t)) (IsNoOthers (with_mark b i t f) (Some t))
      (marked_no_others b i t f (Some t))
      (references (sent (terminal_step phase (event.Heard f.message ri)).outs)) own);
  lost_down = λ i own. record {
    owner = h.owner;
    place_of = h.place_of;
    seated = h.seated;
    flying = all_removed (λ g. Fits h.owner g.message) b.down i h.flying;
  };
  lost_up =
      λ i own.
      record { owner = h.owner; place_of = h.place_of; seated = h.seated; flying = h.flying };
  assigner_does =
      λ e own. assigner_owned b (assigner_step b.assigner e) (assigner_assigns b.assigner e) known
      h;
  network_receives = λ i m own. up_owned b i (assigner_step b.assigner (assigner.Heard m))
      (assigner_owned b (assigner_step b.assigner (assigner.Heard m))
      (assigner_assigns b.assigner (assigner.Heard m)) known h);
}

joined_none : (b : BusState) (t : ℕ) → Owned b → Owned (joined_by b t None)
joined_none b t h = record {
  owner = h.owner;
  place_of = h.place_of;
  seated = λ j u there. elim (get_after_set b.terminals t j Unassigned u there) [
    | inl new ↦ subst (Sits h.owner h.place_of j) new.1 tt
    | inr old ↦ h.seated j u old
  ];
  flying = h.flying;
}

another_tei : (o : Option ℕ) (n tei : ℕ) → o ≡ Some n → o ≢ Some tei → n ≢ tei
another_tei o n tei q other e = other (q ∙ ap Some e)

-- a fixed TEI that was unused now belongs to this index
joined_fixed : (b : BusState) (t tei : ℕ) → IsNobodys b tei → Owned b
    → Owned (joined_by b t (Some tei))
joined_fixed b t tei free h =
    let later : ℕ → Option Owner = owned_by h.owner tei (Place t) in
    record {
      owner = later;
      place_of = h.place_of;
      seated = λ j u there. elim (get_after_set b.terminals t j (Assigned None tei) u there) [
        | inl new ↦ subst (λ k. Sits later h.place_of k u) (sym new.0)
            (subst (Sits later h.place_of t) new.1
            (pick_yes tei tei (Some (Place t)) (h.owner tei) refl))
        | inr old ↦ reseated h.owner later h.place_of j u
            (λ n q. pick_no n
            tei (Some (Place t)) (h.owner n) (another_tei (tei_of u) n
            tei q (all_at (λ v. tei_of v ≢ Some tei) b.terminals j u free.unheld old)))
            (h.seated j u old)
      ];
      flying =
          λ k d within. refits h.owner later (get_or b.down k d).message.kind
          (get_or b.down k d).message.ri (get_or b.down k d).message.ai
          (λ n q. pick_no n
          tei (Some (Place t)) (h.owner n)
          (another_tei
          (assigned_by (get_or b.down k d).message.kind (get_or b.down k d).message.ai)
          n tei q (free.unassigned k d within)))
          (h.flying k d within);
    }

event_owned : (b : BusState) (e : BusEvent) → AsksByItsOwn b e → JoinsByItsOwn b e → HoldsInUse b
    → Owned b → Owned (event_step b e).now
event_owned b (Move m) own joins known h =
    each_move b (OwnedAfter b) (each_way_owned b known h) m own
event_owned b (Want t ri) own joins known h =
    terminal_way b (OwnedAfter b) (each_way_owned b known h) t (slice_get b.terminals t)
    (event.Want ri) refl tt own
event_owned b (Join t None) own joins known h = joined_none b t h
event_owned b (Join t (Some tei)) own joins known h = joined_fixed b t tei joins.0 h
event_owned b (Restart teis) own joins known h =
    record { owner = h.owner; place_of = h.place_of; seated = h.seated; flying = h.flying }

-- ---- The law.

first_event_known : (b : BusState) (e : BusEvent) (es : List BusEvent) → LosesNone b (e ∷ es)
    → HoldsInUse b → HoldsInUse (event_step b e).now
first_event_known b e es preserves h =
    event_known b e preserves.freeing.0 preserves.restarting.0 preserves.joining.0 h

the_rest : (b : BusState) (e : BusEvent) (es : List BusEvent) → LosesNone b (e ∷ es)
    → LosesNone (event_step b e).now es
the_rest b e es preserves = record {
  freeing = preserves.freeing.1;
  restarting = preserves.restarting.1;
  joining = preserves.joining.1;
}

events_known : (b : BusState) (es : List BusEvent) → LosesNone b es → HoldsInUse b
    → HoldsInUse (after_events b es)
events_known b [] preserves h = h
events_known b (e ∷ es) preserves h =
    events_known (event_step b e).now es (the_rest b e es preserves)
    (first_event_known b e es preserves h)

events_owned : (b : BusState) (es : List BusEvent) → Throughout AsksByItsOwn b es → LosesNone b es
    → HoldsInUse b → Owned b → Owned (after_events b es)
events_owned b [] own preserves known h = h
events_owned b (e ∷ es) own preserves known h =
    events_owned (event_step b e).now es own.1 (the_rest b e es preserves)
    (first_event_known b e es preserves known)
    (event_owned b e own.0 preserves.joining.0 known h)

first_known : (terminals : ℕ) (known : List ℕ) → HoldsInUse (in_service terminals known)
first_known terminals known = record {
  terminals =
      All-replicate (λ t. IsKnown (known_held known).held (tei_of t)) terminals Unassigned tt;
  assignments =
      All-nil (λ f. IsKnown (known_held known).held (assigned_by f.message.kind f.message.ai));
}

all_unassigned : (n i : ℕ) (t : Phase) → slice_get (replicate n Unassigned) i ≡ Some t
    → t ≡ Unassigned
all_unassigned zero i t there = absurd cc
all_unassigned (suc n) zero t there = cc
all_unassigned (suc n) (suc i) t there = all_unassigned n i t there

first_owned : (terminals : ℕ) (known : List ℕ) → Owned (in_service terminals known)
first_owned terminals known = record {
  owner = λ n. None;
  place_of = λ r. None;
  seated =
      λ i t there. subst (Sits (λ n. None) (λ r. None) i) (sym (all_unassigned terminals i t there))
      tt;
  flying = All-nil (λ f. Fits (λ n. None) f.message);
}

pub teis_are_held : (terminals : ℕ) (known : List ℕ) (es : List BusEvent)
    → LosesNone (in_service terminals known) es
    → HoldsInUse (after_events (in_service terminals known) es)
teis_are_held terminals known es loses =
    events_known (in_service terminals known) es loses (first_known terminals known)

pub in_order : (terminals : ℕ) (known : List ℕ) (es : List BusEvent)
    → MeetsInService (in_service terminals known) es
    → IsInOrder (after_events (in_service terminals known) es)
in_order terminals known es met = record {
  single = single_from_owned (after_events (in_service terminals known) es)
      (events_owned (in_service terminals known) es met.asking met.losing_none
      (first_known terminals known) (first_owned terminals known));
  held = teis_are_held terminals known es met.losing_none;
}

-- ---- A TEI that is held stays held, until a check frees it.

abbrev HeldAfter : BusState → Option ℕ → BusStep → Type 0
HeldAfter b place step =
    (tei : ℕ) → is_held b.assigner.held tei ≡ true → AllByRecursion (λ n. tei ≢ n) (freed step.outs)
    → is_held step.now.assigner.held tei ≡ true

each_way_held : (b : BusState) → EachWay b (HeldAfter b)
each_way_held b = record {
  refused = λ place tei is unfreed. is;
  does = λ t phase e there silent tei is unfreed. is;
  reaches_terminal = λ i t ri f phase flies there tei is unfreed. is;
  lost_down = λ i tei is unfreed. is;
  lost_up = λ i tei is unfreed. is;
  assigner_does =
      λ e. stays_held b.assigner (assigner_step b.assigner e) (assigner_assigns b.assigner e);
  network_receives =
      λ i m. stays_held b.assigner (assigner_step b.assigner (assigner.Heard m))
      (assigner_assigns b.assigner (assigner.Heard m));
}

pub held_until_freed : (b : BusState) (e : BusEvent) (tei : ℕ) → is_held b.assigner.held tei ≡ true
    → KnowsAnew e tei → AllByRecursion (λ n. tei ≢ n) (freed (event_step b e).outs)
    → is_held (event_step b e).now.assigner.held tei ≡ true
held_until_freed b (Move m) tei is knows unfreed =
    each_move b (HeldAfter b) (each_way_held b) m tei is unfreed
held_until_freed b (Want t ri) tei is knows unfreed =
    terminal_way b (HeldAfter b) (each_way_held b) t (slice_get b.terminals t) (event.Want ri) refl
    tt tei is unfreed
held_until_freed b (Join t fixed) tei is knows unfreed = is
held_until_freed b (Restart known) tei is knows unfreed = knows

-- ---- The moves of a bus are events, and references that all differ are no other terminal's.

pub moves_are_events : (b : BusState) (ms : List BusMove) → after_events b (map Move ms) ≡ run b ms
moves_are_events b [] = refl
moves_are_events b (m ∷ ms) = moves_are_events (moved b m).now ms

abbrev NewAfter : BusState → List ℕ → Option ℕ → BusStep → Type 0
NewAfter b rest place step =
    AllByRecursion (IsNew b) (references (sent step.outs) ++ rest)
    → Differ (references (sent step.outs) ++ rest) → AllByRecursion (IsNew step.now) rest

each_way_new : (b : BusState) (rest : List ℕ) → EachWay b (NewAfter b rest)
each_way_new b rest = record {
  refused = λ place new differ. new;
  does = λ t phase e there silent. terminal_new b t phase e rest there;
  reaches_terminal =
      λ i t ri f phase flies there. terminal_new (with_mark b i t f) t phase
      (event.Heard f.message ri) rest there;
  lost_down = λ i new differ. new;
  lost_up = λ i new differ. new;
  assigner_does =
      λ e new differ. all_back (IsNew b) (references (sent (assigner_step b.assigner e).outs)) rest
      new;
  network_receives =
      λ i m new differ. all_back (IsNew b)
      (references (sent (assigner_step b.assigner (assigner.Heard m)).outs)) rest new;
}

new_is_own : (b : BusState) (place : Option ℕ) (r : ℕ) → IsNew b r → IsNoOthers b place r
new_is_own b place r new j has = absurd (new j has.terminal has.there has.its)

moves_ask : (b : BusState) (ms : List BusMove) → AllByRecursion (IsNew b) (asked b ms)
    → Differ (asked b ms) → Throughout AsksByItsOwn b (map Move ms)
moves_ask b [] new differ = tt
moves_ask b (m ∷ ms) new differ = (
  all_each (IsNew b) (IsNoOthers b (place_of_event (Move m)))
      (new_is_own b (place_of_event (Move m))) (references (sent (moved b m).outs))
      (all_front (IsNew b) (references (sent (moved b m).outs)) (asked (moved b m).now ms) new),
  moves_ask (moved b m).now ms
      (each_move b (NewAfter b (asked (moved b m).now ms))
      (each_way_new b (asked (moved b m).now ms)) m new differ)
      (differ_rest (references (sent (moved b m).outs)) (asked (moved b m).now ms) differ),
)

moves_free : (b : BusState) (ms : List BusMove) → FreesNobodys b ms
    → Throughout FreesNobodysTei b (map Move ms)
moves_free b [] nobodys = tt
moves_free b (m ∷ ms) nobodys = (nobodys.0, moves_free (moved b m).now ms nobodys.1)

moves_restart : (b : BusState) (ms : List BusMove) → Throughout RestartsKnowing b (map Move ms)
moves_restart b [] = tt
moves_restart b (m ∷ ms) = (tt, moves_restart (moved b m).now ms)

moves_join : (b : BusState) (ms : List BusMove) → Throughout JoinsByItsOwn b (map Move ms)
moves_join b [] = tt
moves_join b (m ∷ ms) = (tt, moves_join (moved b m).now ms)

all_new : (terminals : ℕ) (rs : List ℕ) → AllByRecursion (IsNew (new_bus terminals)) rs
all_new terminals [] = tt
all_new terminals (r ∷ rs) = (
  (λ i t there q. let none : None ≡ Some r =
      sym (ap reference_of (all_unassigned terminals i t there)) ∙ q in absurd cc),
  all_new terminals rs,
)

pub premises_are_local : (terminals : ℕ) (ms : List BusMove) → MeetsPremises terminals ms
    → MeetsInService (in_service terminals []) (map Move ms)
premises_are_local terminals ms met = record {
  asking =
      moves_ask (new_bus terminals) ms (all_new terminals (asked (new_bus terminals) ms))
      met.references;
  losing_none = record {
    freeing = moves_free (new_bus terminals) ms met.freeing;
    restarting = moves_restart (new_bus terminals) ms;
    joining = moves_join (new_bus terminals) ms;
  };
}
