-- The effects of the steps of a user side.
use Rattle.std.proofs.Common.{◌≡◌, ℕ, List, [], Option, Some, None, Result, Ok, Err, refl, sym, ap, subst, ◌∙◌, ◌<◌, ◌∷◌, length, get_or, drop, suc}
use Rattle.std.proofs.Math.Seq.{drop-cons}
use Rattle.std.specs.declared.alloc.Global.{Global}
use Rattle.std.specs.Prelude.{Vec, Bool, true, false, nat_lt, if◌then◌else◌}
use Rattle.rand_pcg.specs.Pcg.{pcg32}
use Rattle.lapd_frame.specs.declared.Sapi.{Sapi}
use Rattle.lapd_frame.specs.declared.Sapi.TheVariants as sapi
use Rattle.lapd_frame.specs.declared.Side.TheVariants as side
use Rattle.lapd_link_definition.specs.Input.{Input}
use Rattle.lapd_timers.specs.Due.{all_stopped}
use Rattle.lapd_tei.specs.declared.out.TeiOut.{TeiOut}
use Rattle.lapd_tei.specs.declared.phase.Phase.{Phase}
use Rattle.lapd_tei.specs.declared.phase.Phase.TheVariants.{Unassigned, Awaiting, Assigned}
use Rattle.lapd_tei.specs.declared.terminal.TerminalEvent.{TerminalEvent}
use Rattle.lapd_tei.specs.declared.terminal.TerminalEvent.TheVariants as event
use Rattle.lapd_tei.specs.Terminal.{TerminalStep, terminal_step, tei_of, n202}
use Rattle.lapd_tei.specs.Message.{group_tei}
use Rattle.lapd_tei.specs.Out.{tei_given}
use Rattle.lapd_table.specs.declared.link_id.LinkId.{LinkId}
use Rattle.lapd_sides_links.specs.declared.config.Config.{Config}
use Rattle.lapd_sides_links.specs.declared.link_set.LinkSet.{LinkSet}
use Rattle.lapd_sides_links.specs.declared.primitive.Primitive.TheVariants.{Of}
use Rattle.lapd_sides_links.specs.declared.primitive.What.TheVariants as what
use Rattle.lapd_sides.specs.declared.links_and_timer.LinksAndTimer.{LinksAndTimer}
use Rattle.lapd_sides_links.specs.declared.side_fault.SideFault.{SideFault}
use Rattle.lapd_sides_links.specs.declared.side_fault.SideKind.{SideKind}
use Rattle.lapd_sides_links.specs.declared.side_fault.SideKind.TheVariants.{NoLink}
use Rattle.lapd_sides_links.specs.Effects.{Effects, no_effects, and_then}
use Rattle.lapd_sides_links.specs.Links.{Reaction, is_served, of_sapi, no_links, with_tei}
use Rattle.lapd_sides.specs.Management.{links_with, manages}
use Rattle.lapd_sides.specs.SideState.{link_of}
use Rattle.lapd_sides.specs.User.{User, PendingEstablishments, nothing_pending, with_kept, next, with_tei_or, establishes, establishes_pending, terminal_acts, assigned, pending_after, wants, has_tei, gives_up, with_pending, is_pending, forgets, sends_message, next_reference, advanced, drawn, links_of_fixed}
use Rattle.lapd_sides_links.specs.Shown.{ShowLinks}
use Rattle.lapd_sides_links.proofs.Acting.{in_order}
use Rattle.lapd_sides.specs.Shows.{ShowServed, HaveServed, RequestOutcome}
use Rattle.lapd_sides.proofs.Calling.{granted_as}
use Rattle.lapd_sides.specs.Calls.{Answers, HasDone, HasFollowed, HasGranted}
use Rattle.lapd_sides.specs.ShowsUser.{UserSide, ShowUser, ShowReferences, admitted}

-- ---- The terminal's own TEI.

-- the link of the terminal's own TEI was looked up, and exists
pub record IsOwn (code : UserSide) (found : Option ℕ) (tei : ℕ) (sapi : Sapi) (id : LinkId) : Type
    0 where
  pub of : found ≡ tei_of code.management.terminal
  pub is : found ≡ Some tei
  pub named : id ≡ of_sapi sapi tei

own_link : (phase : Phase) (tei now : ℕ) (sapi : Sapi) (input : Input) (octets : List ℕ)
    (otherwise : Result (Reaction User) SideKind) (s : User) → tei_of phase ≡ Some tei
    → with_tei_or now phase sapi input octets otherwise s
    ≡ link_of side.User now (of_sapi sapi tei) input octets s
own_link Unassigned tei now sapi input octets otherwise s h = absurd (cc)
own_link (Awaiting purpose count ri) tei now sapi input octets otherwise s h = absurd (cc)
own_link (Assigned by own) tei now sapi input octets otherwise s h =
    let e : own ≡ tei = cc in rw e refl

no_own_link : (phase : Phase) (now : ℕ) (sapi : Sapi) (input : Input) (octets : List ℕ)
    (otherwise : Result (Reaction User) SideKind) (s : User) → tei_of phase ≡ None
    → with_tei_or now phase sapi input octets otherwise s ≡ otherwise
no_own_link Unassigned now sapi input octets otherwise s h = refl
no_own_link (Awaiting purpose count ri) now sapi input octets otherwise s h = refl
no_own_link (Assigned by own) now sapi input octets otherwise s h = absurd (cc)

-- with a TEI the link takes the step
pub is_own : (code : UserSide) (config : Config) (s : User) (found : Option ℕ) (tei now : ℕ)
    (sapi : Sapi) (id : LinkId) (input : Input) (octets : List ℕ)
    (otherwise : Result (Reaction User) SideKind) → ShowUser code config s
    → IsOwn code found tei sapi id
    → with_tei_or now s.management.terminal sapi input octets otherwise s
    ≡ link_of side.User now id input octets s
is_own code config s found tei now sapi id input octets otherwise shown own =
    own_link s.management.terminal tei now sapi input octets otherwise s
    (ap tei_of (sym shown.management.terminal) ∙ sym own.of ∙ own.is)
    ∙ ap (λ (i : LinkId). link_of side.User now i input octets s) (sym own.named)

-- without a TEI there is another result
pub is_none : (code : UserSide) (config : Config) (s : User) (found : Option ℕ) (now : ℕ)
    (sapi : Sapi) (input : Input) (octets : List ℕ) (otherwise : Result (Reaction User) SideKind)
    → ShowUser code config s
    → found ≡ tei_of code.management.terminal → found ≡ None
    → with_tei_or now s.management.terminal sapi input octets otherwise s ≡ otherwise
is_none code config s found now sapi input octets otherwise shown of is =
    no_own_link s.management.terminal now sapi input octets otherwise s
    (ap tei_of (sym shown.management.terminal) ∙ sym of ∙ is)

-- the answer to a request with the same result
pub answers_as : (result : Result (Unit {0}) SideFault) (old after : UserSide) (acts : Effects)
    (message : Option (Vec ℕ Global)) (a b : RequestOutcome User)
    → ((config : Config) (s : User) → ShowUser old config s → b config s ≡ a config s)
    → Answers ShowUser result old after acts message a
    → Answers ShowUser result old after acts message b
answers_as (Ok u) old after acts message a b same h =
    λ config s shown. granted_as after config acts (a config s) (b config s) (same config s shown)
    (h config s shown)
answers_as (Err fault) old after acts message a b same h = record {
  kind = λ config s shown. same config s shown ∙ h.kind config s shown;
  returned = h.returned;
  unchanged = h.unchanged;
  nothing = h.nothing;
}

-- ---- One step after another.

pub follows_next : (first second : UserSide) (config : Config) (before mid after : Effects)
    (a : Reaction User) (does : User → Reaction User)
    → HasFollowed ShowUser first config before mid a
    → HasFollowed ShowUser second config mid after (does a.after)
    → HasFollowed ShowUser second config before after (next a does)
follows_next first second config before mid after a does h k = record {
  shown = k.shown;
  given =
      k.given ∙ ap (λ (e : Effects). and_then e (does a.after).effects) h.given
      ∙ in_order before a.effects (does a.after).effects;
}

pub both_establish : (code first second : UserSide) (pending : PendingEstablishments)
    (config : Config) (s : User) (before mid after : Effects) (call packet : Bool)
    (one other : LinkId) (now own : ℕ) → pending ≡ nothing_pending
    → call ≡ code.management.pending.call → packet ≡ code.management.pending.packet
    → one ≡ of_sapi sapi.Call own → other ≡ of_sapi sapi.Packet own
    → ((k : Config) (t : User)
    → ShowUser (record code { management = record code.management { pending = pending } }) k
    t → HasFollowed ShowUser first k before mid (establishes call now one t))
    → ((k : Config) (t : User) → ShowUser first k t
    → HasFollowed ShowUser second k mid after (establishes packet now other t))
    → ShowUser code config s
    → HasFollowed ShowUser second config before after (establishes_pending now own s)
both_establish code first second pending config s before mid after call packet one other now own
    nothing is_call is_packet is_one is_other does other_does shown =
    let t : User = with_kept s nothing_pending in
    let a : Reaction User = establishes s.management.pending.call now (of_sapi sapi.Call own) t in
    let done : HasFollowed ShowUser first config before mid a =
    subst (λ (b : Bool). HasFollowed ShowUser first config before mid
    (establishes b now (of_sapi sapi.Call own) t))
    (is_call ∙ ap (λ (k : PendingEstablishments). k.call) shown.management.pending)
    (subst (λ (i : LinkId). HasFollowed ShowUser first config before mid (establishes call now i t))
    is_one
    (does config t (record {
      configured = shown.configured;
      served = shown.served;
      management = record {
        terminal = shown.management.terminal;
        pending = nothing;
        random = shown.management.random;
      };
      discarded = shown.discarded;
    }))) in
    follows_next first second config before mid after a
    (establishes s.management.pending.packet now (of_sapi sapi.Packet own)) done
    (subst (λ (b : Bool). HasFollowed ShowUser second config mid after
    (establishes b now (of_sapi sapi.Packet own) a.after))
    (is_packet ∙ ap (λ (k : PendingEstablishments). k.packet) shown.management.pending)
    (subst (λ (i : LinkId). HasFollowed ShowUser second config mid after
    (establishes packet now i a.after)) is_other
    (other_does config a.after done.shown)))

-- the first of these outputs that settles the kept establishments
at_item : (now i : ℕ) (outs : List TeiOut) (item out : TeiOut) (s : User) → i < length outs
    → item ≡ get_or outs i item → item ≡ out
    → pending_after now (drop i outs) s ≡ pending_after now outs s
    → pending_after now outs s ≡ pending_after now (out ∷ drop (suc i) outs) s
at_item now i outs item out s below is_item is same =
    sym same
    ∙ ap (λ (l : List TeiOut). pending_after now l s)
    (drop-cons outs i item below
    ∙ ap (λ (o : TeiOut). o ∷ drop (suc i) outs) (sym is_item ∙ is))

pub settles : (code after : UserSide) (config : Config) (now i : ℕ) (outs : List TeiOut)
    (item out : TeiOut) (s : User) (before last : Effects) (a : Reaction User) → i < length outs
    → item ≡ get_or outs i item → item ≡ out
    → pending_after now (drop i outs) s ≡ pending_after now outs s
    → pending_after now (out ∷ drop (suc i) outs) s ≡ a
    → HasFollowed ShowUser after config before last a
    → HasFollowed ShowUser after config before last (pending_after now outs s)
settles code after config now i outs item out s before last a below is_item is same means h =
    subst (λ (x : Reaction User). HasFollowed ShowUser after config before last x)
    (sym (at_item now i outs item out s below is_item is same ∙ means)) h

-- ---- TEI management.

-- the outputs of the terminal have been carried out, then the kept establishments have been settled
pub carried : (code after : UserSide) (config : Config) (now : ℕ) (s : User) (step : TerminalStep)
    (outs : List TeiOut) (sent : Bool) (acts last : Effects) → step.outs ≡ outs
    → sent ≡ sends_message outs
    → code.config ≡ config → code.served.discarded ≡ s.discarded
    → code.management.terminal ≡ step.now → code.management.pending ≡ s.management.pending
    → ShowReferences code.management.references
    (if sent then advanced (pcg32 s.management.random) else s.management.random)
    → HaveServed side.User code.served acts (manages side.User config now outs s.served)
    → ((k : Config) (t : User) → ShowUser code k t
    → HasFollowed ShowUser after k acts last (pending_after now outs t))
    → HasDone ShowUser after config last (assigned config now step s)
carried code after config now s step outs sent acts last same is_sent configured counted terminal
    pending random served rest =
    let a : Reaction User = record {
      after = record s {
        served = (manages side.User config now step.outs s.served).after;
        management = record s.management
            { terminal = step.now; random = drawn step.outs s.management.random };
      };
      effects = (manages side.User config now step.outs s.served).effects;
    } in
    let managed =
    subst (λ (o : List TeiOut). HaveServed side.User code.served acts
    (manages side.User config now o s.served)) (sym same) served in
    let shown : ShowUser code config a.after = record {
      configured = configured;
      served = managed.shown;
      management = record {
        terminal = terminal;
        pending = pending;
        random =
            subst (λ (b : Bool). ShowReferences code.management.references
            (if b then advanced (pcg32 s.management.random) else s.management.random))
            (is_sent ∙ ap sends_message (sym same)) random;
      };
      discarded = counted;
    } in
    let k : HasFollowed ShowUser after config acts last (pending_after now step.outs a.after) =
    subst (λ (o : List TeiOut). HasFollowed ShowUser after config acts last
    (pending_after now o a.after)) (sym same) (rest config a.after shown) in
    record {
      shown = k.shown;
      given =
          k.given
          ∙ ap (λ (e : Effects). and_then e (pending_after now step.outs a.after).effects)
          managed.given;
    }

-- the links before these outputs are carried out
pub served_before : (code : UserSide) (config : Config) (s : User) (step : TerminalStep)
    (outs : List TeiOut) → step.outs ≡ outs → ShowUser code config (admitted config step s)
    → ShowServed side.User code.served
    (record s.served { links = links_with config (tei_given outs) s.served.links })
served_before code config s step outs same shown =
    subst (λ (o : List TeiOut). ShowServed side.User code.served
    (record s.served { links = links_with config (tei_given o) s.served.links })) same
    shown.served

-- the terminal has taken its step, which obtained no TEI
pub handled : (code : UserSide) (config : Config) (s : User) (event : TerminalEvent) (phase : Phase)
    → ShowUser code config s → phase ≡ (terminal_step code.management.terminal event).now
    → tei_given (terminal_step s.management.terminal event).outs ≡ None
    → ShowUser (record code { management = record code.management { terminal = phase } }) config
    (admitted config (terminal_step s.management.terminal event) s)
handled code config s event phase shown is none = record {
  configured = shown.configured;
  served =
      subst (λ (t : Option ℕ). ShowServed side.User code.served
      (record s.served { links = links_with config t s.served.links })) (sym none) shown.served;
  management = record {
    terminal = is ∙ ap (λ (p : Phase). (terminal_step p event).now) shown.management.terminal;
    pending = shown.management.pending;
    random = shown.management.random;
  };
  discarded = shown.discarded;
}

pub outs_of : (code : UserSide) (config : Config) (s : User) (event : TerminalEvent)
    (outs : List TeiOut) → ShowUser code config s
    → outs ≡ (terminal_step code.management.terminal event).outs
    → (terminal_step s.management.terminal event).outs ≡ outs
outs_of code config s event outs shown is =
    ap (λ (p : Phase). (terminal_step p event).outs) (sym shown.management.terminal) ∙ sym is

-- an event carries the next reference
pub acts_so : (after : UserSide) (config : Config) (now : ℕ) (s : User) (acts : Effects)
    (event : ℕ → TerminalEvent) (ri : ℕ) → ri ≡ next_reference s.management.random
    → HasDone ShowUser after config acts
    (assigned config now (terminal_step s.management.terminal (event ri)) s)
    → HasDone ShowUser after config acts (terminal_acts config now event s)
unfolding terminal_acts
acts_so after config now s acts event ri is h =
    subst (λ (r : ℕ). HasDone ShowUser after config acts
    (assigned config now (terminal_step s.management.terminal (event r)) s)) is h

pub ask_gets_none : (ri : ℕ) (phase : Phase)
    → tei_given (terminal_step phase (event.Ask ri)).outs ≡ None
ask_gets_none ri Unassigned = refl
ask_gets_none ri (Awaiting purpose count old) = refl
ask_gets_none ri (Assigned by tei) = refl

pub want_gets_none : (ri : ℕ) (phase : Phase)
    → tei_given (terminal_step phase (event.Want ri)).outs ≡ None
want_gets_none ri Unassigned = refl
want_gets_none ri (Awaiting purpose count old) = refl
want_gets_none ri (Assigned by tei) = refl

pub leave_gets_none : (phase : Phase) → tei_given (terminal_step phase event.Leave).outs ≡ None
leave_gets_none Unassigned = refl
leave_gets_none (Awaiting purpose count old) = refl
leave_gets_none (Assigned by tei) = refl

asked_or_not : (again : Bool) (asking failed : TerminalStep) → tei_given asking.outs ≡ None
    → tei_given failed.outs ≡ None → tei_given (if again then asking else failed).outs ≡ None
asked_or_not true asking failed h k = h
asked_or_not false asking failed h k = k

pub t202_gets_none : (ri : ℕ) (phase : Phase)
    → tei_given (terminal_step phase (event.T202 ri)).outs ≡ None
t202_gets_none ri Unassigned = refl
t202_gets_none ri (Awaiting purpose count old) = asked_or_not (nat_lt count n202) _ _ refl refl
t202_gets_none ri (Assigned by tei) = refl

-- ---- A new side.

pub without_fixed : (served after : LinksAndTimer) (config : Config) (fixed : Option ℕ)
    → fixed ≡ None → after ≡ served
    → ShowServed side.User served
    (record { links = no_links; timers = all_stopped config.durations })
    → ShowServed side.User after
    (record { links = links_of_fixed config fixed; timers = all_stopped config.durations })
without_fixed served after config fixed none same shown = rw (same, none) shown

pub with_fixed : (served after : LinksAndTimer) (links : LinkSet) (config : Config)
    (fixed : Option ℕ) (tei : ℕ) → fixed ≡ Some tei
    → after ≡ record { links = links; timers = served.timers; discarded = served.discarded }
    → ShowServed side.User served
    (record { links = no_links; timers = all_stopped config.durations })
    → ShowLinks side.User links (with_tei config tei no_links)
    → ShowServed side.User after
    (record { links = links_of_fixed config fixed; timers = all_stopped config.durations })
with_fixed served after links config fixed tei some same shown added =
    rw (same, some) (record { links = added; timers = shown.timers })

-- ---- An establishment without a TEI.

pub wanted : (code after : UserSide) (config : Config) (now : ℕ) (sapi : Sapi) (s : User)
    (acts : Effects) (test : Bool) → test ≡ is_served code.config sapi → test ≡ true
    → ShowUser code config s
    → HasDone ShowUser after config acts
    (terminal_acts config now event.Want
    (with_kept s (with_pending sapi true s.management.pending)))
    → HasGranted ShowUser after config acts (wants config now sapi s)
wanted code after config now sapi s acts test is holds shown done = record {
  acted =
      terminal_acts config now event.Want
      (with_kept s (with_pending sapi true s.management.pending));
  is =
      ap (λ (b : Bool). if b then Ok (terminal_acts config now event.Want
      (with_kept s (with_pending sapi true s.management.pending))) else Err NoLink)
      (ap (λ (k : Config). is_served k sapi) (sym shown.configured) ∙ sym is ∙ holds);
  done = done;
}

-- ---- A terminal removes its TEI.

-- the result of the test whether the TEI is the terminal's
pub record IsOwnTei (code : UserSide) (tei : ℕ) (own : Option ℕ) (test answer : Bool) : Type 0 where
  pub of : own ≡ tei_of code.management.terminal
  pub is : test ≡ has_tei tei own
  pub answered : test ≡ answer

pub gives_up_as : (code : UserSide) (config : Config) (now tei : ℕ) (s : User) (own : Option ℕ)
    (test answer : Bool) → ShowUser code config s → IsOwnTei code tei own test answer
    → gives_up config now tei s
    ≡ (if answer then Ok (terminal_acts config now (λ ri. event.Leave) s) else Err NoLink)
gives_up_as code config now tei s own test answer shown t =
    ap (λ (b : Bool). if b then Ok (terminal_acts config now (λ ri. event.Leave) s) else Err NoLink)
    (ap (λ (p : Phase). has_tei tei (tei_of p)) (sym shown.management.terminal)
    ∙ ap (has_tei tei) (sym t.of) ∙ sym t.is ∙ t.answered)

pub given_up : (code after : UserSide) (config : Config) (now tei : ℕ) (s : User) (acts : Effects)
    (own : Option ℕ) (test : Bool) → ShowUser code config s → IsOwnTei code tei own test true
    → HasDone ShowUser after config acts (terminal_acts config now (λ ri. event.Leave) s)
    → HasGranted ShowUser after config acts (gives_up config now tei s)
given_up code after config now tei s acts own test shown t done = record {
  acted = terminal_acts config now (λ ri. event.Leave) s;
  is = gives_up_as code config now tei s own test true shown t;
  done = done;
}

-- ---- An establishment is forgotten.

pub forgotten : (code : UserSide) (pending : PendingEstablishments) (config : Config) (sapi : Sapi)
    (s : User) (acts : Effects) (test : Bool) → test ≡ is_pending sapi code.management.pending
    → test ≡ true → pending ≡ with_pending sapi false code.management.pending
    → acts ≡ record no_effects { primitives = Of (of_sapi sapi group_tei) what.ReleaseConfirm ∷ [] }
    → ShowUser code config s
    → HasGranted ShowUser
    (record code { management = record code.management { pending = pending } }) config acts
    (forgets sapi s)
forgotten code pending config sapi s acts test is holds forgot delivered shown = record {
  acted = record {
    after = with_kept s (with_pending sapi false s.management.pending);
    effects = record no_effects
        { primitives = Of (of_sapi sapi group_tei) what.ReleaseConfirm ∷ [] };
  };
  is =
      ap (λ (b : Bool). if b then Ok (record {
        after = with_kept s (with_pending sapi false s.management.pending);
        effects = record no_effects
            { primitives = Of (of_sapi sapi group_tei) what.ReleaseConfirm ∷ [] };
      }) else Err
      NoLink)
      (ap (λ (k : PendingEstablishments). is_pending sapi k) (sym shown.management.pending) ∙ sym is
      ∙ holds);
  done = record {
    shown = record {
      configured = shown.configured;
      served = shown.served;
      management = record {
        terminal = shown.management.terminal;
        pending =
            forgot
            ∙ ap (λ (k : PendingEstablishments). with_pending sapi false k)
            shown.management.pending;
        random = shown.management.random;
      };
      discarded = shown.discarded;
    };
    given = delivered;
  };
}
