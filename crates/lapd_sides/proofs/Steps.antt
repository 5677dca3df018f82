-- The effects of the steps of a side, network or user.
use Rattle.std.proofs.Common.{◌≡◌, ℕ, List, [], ◌∷◌, Bool, true, false, Option, Some, None, Result, Ok, Err, refl, sym, ap, subst, ◌∙◌}
use Rattle.std.proofs.lemmas.List.{append-nil}
use Rattle.std.specs.declared.alloc.Global.{Global}
use Rattle.std.specs.Prelude.{Vec, OnOk, OnErr, IfErr, if◌then◌else◌}
use Rattle.lapd_frame.specs.Address.{other_side}
use Rattle.lapd_frame.specs.declared.Side.{Side}
use Rattle.lapd_frame.specs.declared.Address.{Address}
use Rattle.lapd_frame.specs.declared.fault_kind.FaultKind.{FaultKind}
use Rattle.lapd_frame.specs.declared.frame_fault.FrameFault.{FrameFault}
use Rattle.lapd_frame.specs.declared.predicted_frame.PredictedFrame.{PredictedFrame}
use Rattle.lapd_frame.specs.Frame.{Fields}
use Rattle.lapd_frame.specs.PredictedFrame.{predicted_fields}
use Rattle.lapd_frame.specs.Reading.{frame_at}
use Rattle.lapd_link_definition.specs.Input as input
use Rattle.lapd_link_definition.specs.Input.{Heard}
use Rattle.lapd_tei.specs.declared.message.TeiMessage.{TeiMessage}
use Rattle.lapd_tei.specs.declared.fault.TeiFault.{TeiFault}
use Rattle.lapd_tei.specs.Message.{group_tei, message_at}
use Rattle.lapd_table.specs.declared.link_id.LinkId.{LinkId}
use Rattle.lapd_table.specs.LinkId.{id_of_address}
use Rattle.lapd_sides_links.specs.declared.config.Config.{Config}
use Rattle.lapd_sides_links.specs.declared.link_set.LinkSet.{LinkSet}
use Rattle.lapd_sides_links.specs.declared.primitive.Primitive.TheVariants.{Of}
use Rattle.lapd_sides_links.specs.declared.primitive.What.TheVariants as what
use Rattle.lapd_sides_links.specs.declared.side_fault.SideFault.{SideFault}
use Rattle.lapd_sides_links.specs.declared.side_fault.SideKind.{SideKind}
use Rattle.lapd_sides_links.specs.Effects.{Effects, and_then, no_effects}
use Rattle.lapd_sides_links.specs.Links.{Links, Reaction, Served, gives_at_once, in_links, link_acts, link_expires, of_sapi}
use Rattle.lapd_sides_links.specs.Messages.{Message}
use Rattle.lapd_sides_links.specs.Shown.{ShowLinks, HaveActed, LinksDo}
use Rattle.lapd_sides.specs.declared.links_and_timer.LinksAndTimer.{LinksAndTimer}
use Rattle.lapd_sides.specs.declared.managed_side.ManagedSide.{ManagedSide}
use Rattle.lapd_sides.specs.declared.request.Request.TheVariants.{Give}
use Rattle.lapd_sides.specs.Calls.{Answers, Grants, HasDone, HasExpired, HasFollowed, HasGranted, Receives, SideDoes}
use Rattle.lapd_sides.specs.Management.{carries_message, one_more}
use Rattle.lapd_sides.specs.Shows.{ShowServed, HaveReceived, LinkHasExpired, Receive, effects_after, fault_on_links, frame_on_links, links_after}
use Rattle.lapd_sides.specs.ShowsSide.{ShowSide, Shows}
use Rattle.lapd_sides.specs.SideState.{Rules, SideState, among_links, data_received, expires, fault_received, frame_received, given_for_frame, given_for_message, link_of, message_received, or_discarded, or_unmoved, received, sends_at_once, takes, unit_from_group}
use Rattle.lapd_sides.proofs.Calling.{granted_as}
use Rattle.lapd_sides.proofs.Predicted.{predicted_is_no_message}

-- the side with its links after a step
abbrev pub relinked : {C : Type 0} → ManagedSide C → LinkSet → ManagedSide C
relinked code links = record code { served = record code.served { links = links } }

-- appending no effects changes nothing
behind : (e : Effects) → e ≡ and_then e no_effects
behind e = rw (append-nil e.frames, append-nil e.primitives) refl

-- the link that is meant does not send the message at once
pub sends_none_by : (meant : Option LinkId) (own : LinkId) (octets : List ℕ) (links : Links)
    → meant ≡ Some own → gives_at_once octets (links own) ≡ false
    → sends_at_once meant octets links ≡ false
sends_none_by meant own octets links is h = rw is h

module _ {C M : Type 0} (represents : C → M → Type 0) (side : Side) where
  -- the side with its common part after a step
  pub reserved : (code : ManagedSide C) (served : LinksAndTimer) (config : Config) (s : SideState M)
      (own : Served) → ShowSide represents side code config s
      → served.discarded ≡ code.served.discarded → ShowServed side served own
      → ShowSide represents side (record code { served = served }) config
      (record s { served = own })
  reserved code served config s own shown counted h = record {
    configured = shown.configured;
    served = h;
    management = shown.management;
    discarded = counted ∙ shown.discarded;
  }

  -- ---- A link.

  pub reshown : (code : ManagedSide C) (links : LinkSet) (config : Config) (s : SideState M)
      (shown : Links) → ShowSide represents side code config s → ShowLinks side links shown
      → ShowSide represents side (relinked code links) config
      (record s { served = record { links = shown; timers = s.served.timers } })
  reshown code links config s shown h l = reserved code (record code.served { links = links })
      config s (record { links = shown; timers = s.served.timers }) h refl
      (record { links = l; timers = h.served.timers })

  pub granted : (code : ManagedSide C) (links : LinkSet) (config : Config) (s : SideState M)
      (before acts : Effects) (outcome : Result (Reaction Links) SideKind)
      → ShowSide represents side code config s → before ≡ no_effects
      → HaveActed side links before acts outcome
      → HasGranted (ShowSide represents side) (relinked code links) config acts
      (among_links s outcome)
  granted code links config s before acts outcome shown empty h =
      let done = subst (λ (e : Effects). HaveActed side links e acts outcome) empty h in
      record {
        acted = _;
        is = ap (among_links s) done.is;
        done = record {
          shown = reshown code links config s done.acted.after shown done.shown;
          given = done.given;
        };
      }

  pub links_shown : (code : ManagedSide C) (links : LinkSet) (config : Config) (s : SideState M)
      → ShowSide represents side code config s → ShowLinks side links s.served.links
      → ShowSide represents side (relinked code links) config s
  links_shown code links config s shown l = reshown code links config s s.served.links shown l

  -- the side returns the result of a call of its link set
  pub link_answers : (result : Result (Unit {0}) SideFault) (code : ManagedSide C)
      (links : LinkSet) (before acts : Effects) (message : Option (Vec ℕ Global))
      (does : Side → Links → Result (Reaction Links) SideKind) → before ≡ no_effects
      → OnOk result ((at : Side) (l : Links) → ShowLinks at code.served.links l
      → HaveActed at links before acts (does at l))
      → IfErr result (λ fault. (at : Side) (l : Links) → ShowLinks at code.served.links l
      → does at l ≡ Err fault.kind)
      → IfErr result (λ fault. fault.message ≡ message)
      → OnErr result ((at : Side) (l : Links) → ShowLinks at code.served.links l
      → ShowLinks at links l) → OnErr result (acts ≡ before)
      → Answers (ShowSide represents side) result code (relinked code links) acts message
      (λ config s. among_links s (does side s.served.links))
  link_answers (Ok u) code links before acts message does empty ok err back same nothing =
      λ config s shown. granted code links config s before acts _ shown empty
      (ok side s.served.links shown.served.links)
  link_answers (Err fault) code links before acts message does empty ok err back same nothing =
      record {
        kind = λ config s shown.
            ap (among_links s) (err side s.served.links shown.served.links);
        returned = back;
        unchanged = λ config s shown. links_shown code links config s shown
            (same side s.served.links shown.served.links);
        nothing = nothing ∙ empty;
      }

  -- the result of a call of the link set that appends its results: a link takes its step, or
  -- nothing happens if it does not exist
  pub step_follows : (result : Result (Unit {0}) SideKind) (code : ManagedSide C) (links : LinkSet)
      (config : Config) (s : SideState M) (before acts : Effects)
      (does : Side → Links → Result (Reaction Links) SideKind)
      → ShowSide represents side code config s
      → OnOk result ((at : Side) (l : Links) → ShowLinks at code.served.links l
      → HaveActed at links before acts (does at l))
      → IfErr result (λ k. (at : Side) (l : Links) → ShowLinks at code.served.links l
      → does at l ≡ Err k)
      → OnErr result ((at : Side) (l : Links) → ShowLinks at code.served.links l
      → ShowLinks at links l) → OnErr result (acts ≡ before)
      → HasFollowed (ShowSide represents side) (relinked code links) config before acts
      (or_unmoved s (among_links s (does side s.served.links)))
  step_follows (Ok u) code links config s before acts does shown ok err same nothing =
      let done = ok side s.served.links shown.served.links in
      subst (λ (o : Result (Reaction Links) SideKind). HasFollowed (ShowSide represents side)
      (relinked code links) config before acts (or_unmoved s (among_links s o))) (sym done.is)
      (record {
        shown = reshown code links config s done.acted.after shown done.shown;
        given = done.given;
      })
  step_follows (Err k) code links config s before acts does shown ok err same nothing =
      subst (λ (o : Result (Reaction Links) SideKind). HasFollowed (ShowSide represents side)
      (relinked code links) config before acts (or_unmoved s (among_links s o)))
      (sym (err side s.served.links shown.served.links))
      (record {
        shown = links_shown code links config s shown (same side s.served.links shown.served.links);
        given = nothing ∙ behind before;
      })

  -- ---- Frames and faults.

  -- a link processes a frame, or the frame is discarded and counted
  pub received_so : (code : ManagedSide C) (served : LinksAndTimer) (config : Config)
      (s : SideState M) (acts : Effects) (outcome : Result (Reaction Links) SideKind)
      → ShowSide represents side code config s
      → HaveReceived side code.served served acts s.served.links outcome
      → HasDone (ShowSide represents side) (record code { served = served }) config acts
      (or_discarded s (among_links s outcome))
  received_so code served config s acts (Ok a) shown h = record {
    shown = record {
      configured = shown.configured;
      served = record { links = h.shown; timers = h.timers ∙ shown.served.timers };
      management = shown.management;
      discarded = h.counted ∙ shown.discarded;
    };
    given = h.given;
  }
  received_so code served config s acts (Err kind) shown h = record {
    shown = record {
      configured = shown.configured;
      served = record { links = h.shown; timers = h.timers ∙ shown.served.timers };
      management = shown.management;
      discarded = h.counted ∙ ap (λ (n : ℕ). one_more n) shown.discarded;
    };
    given = h.given;
  }

  -- a fault is for a link, or is discarded and counted
  pub fault_so : (code : ManagedSide C) (served : LinksAndTimer) (config : Config)
      (s : SideState M) (acts : Effects) (now : ℕ) (kind : FaultKind) (found : Option Address)
      → ShowSide represents side code config s
      → HaveReceived side code.served served acts s.served.links
      (fault_on_links now kind found side s.served.links)
      → HasDone (ShowSide represents side) (record code { served = served }) config acts
      (fault_received side now kind found s)
  unfolding link_of
  fault_so code served config s acts now kind None shown h =
      received_so code served config s acts _ shown h
  fault_so code served config s acts now kind (Some address) shown h =
      received_so code served config s acts _ shown h

  -- ---- A timer.

  -- a timer of a link that exists has expired in it
  pub expired_as : (code : ManagedSide C) (served : LinksAndTimer) (config : Config)
      (s : SideState M) (acts : Effects) (outcome : Result (Reaction Links) SideKind)
      → ShowSide represents side code config s → served.discarded ≡ code.served.discarded
      → ShowLinks side served.links (links_after s.served.links outcome)
      → acts ≡ effects_after outcome → served.timers ≡ s.served.timers
      → HasDone (ShowSide represents side) (record code { served = served }) config acts
      (or_unmoved s (among_links s outcome))
  expired_as code served config s acts (Ok a) shown counted links given timers = record {
    shown = reserved code served config s (record { links = a.after; timers = s.served.timers })
        shown counted (record { links = links; timers = timers });
    given = given;
  }
  expired_as code served config s acts (Err kind) shown counted links given timers = record {
    shown = reserved code served config s s.served shown counted
        (record { links = links; timers = timers });
    given = given;
  }

module _ {C M : Type 0} (represents : C → M → Type 0) (rules : Rules M) where
  pub link_expired : (code : ManagedSide C) (served : LinksAndTimer) (config : Config)
      (s : SideState M) (acts : Effects) (now : ℕ) → Shows represents rules code config s
      → served.discarded ≡ code.served.discarded
      → LinkHasExpired rules.side served acts now s.served
      → HasExpired (Shows represents rules) (expires rules) (record code { served = served })
      config acts now s
  unfolding expires
  link_expired code served config s acts now shown counted h = record {
    expiry = h.expiry;
    due = h.due;
    done = subst (λ (of : Option LinkId). HasDone (Shows represents rules)
        (record code { served = served }) config acts
        (expires rules config now h.expiry.timer of s))
        (sym h.of) (expired_as represents rules.side code served config s acts
        (in_links h.id (link_expires rules.side h.id now h.expiry.timer) s.served.links) shown
        counted h.shown h.given h.timers);
  }

  -- ---- A frame.

  -- a frame is a TEI message
  pub received_as_message : {E : Type 0} (result : Result (Unit {0}) E)
      (old after : ManagedSide C) (acts : Effects) (now : ℕ) (frame : Fields) (test : Bool)
      (found : Result TeiMessage TeiFault) → test ≡ carries_message frame → test ≡ true
      → found ≡ message_at frame.info
      → Receives (Shows represents rules) result old after acts
      (λ s. given_for_message rules s.management found)
      (λ config. message_received rules config now found)
      → Receives (Shows represents rules) result old after acts
      (λ s. given_for_frame rules s.management (Ok frame))
      (λ config. frame_received rules config now frame)
  received_as_message result old after acts now frame test found is holds read h =
      subst (λ (b : Bool). Receives (Shows represents rules) result old after acts
      (λ s. if b then given_for_message rules s.management (message_at frame.info) else None)
      (λ config s. if b then message_received rules config now (message_at frame.info) s
      else data_received rules config now frame s)) (sym holds ∙ is)
      (subst (λ (r : Result TeiMessage TeiFault). Receives (Shows represents rules) result old
      after acts (λ s. given_for_message rules s.management r)
      (λ config. message_received rules config now r)) read h)

  -- or it is not
  pub received_as_data : (after : ManagedSide C) (config : Config) (now : ℕ) (frame : Fields)
      (s : SideState M) (test : Bool) (acts : Effects) → test ≡ carries_message frame
      → test ≡ false
      → HasDone (Shows represents rules) after config acts (data_received rules config now frame s)
      → HasDone (Shows represents rules) after config acts
      (frame_received rules config now frame s)
  received_as_data after config now frame s test acts is fails h =
      subst (λ (b : Bool). HasDone (Shows represents rules) after config acts
      (if b then message_received rules config now (message_at frame.info) s
      else data_received rules config now frame s)) (sym fails ∙ is) h

  -- the result of the test of the frame, with the side's configuration
  pub record IsTested (code : ManagedSide C) (frame : Fields) (test : Bool) (answer : Bool) :
      Type 0 where
    pub is : test ≡ rules.is_for_layer_3 code.config frame
    pub answered : test ≡ answer

  data_as : (code : ManagedSide C) (config : Config) (now : ℕ) (frame : Fields)
      (s : SideState M) (test answer : Bool) → Shows represents rules code config s
      → IsTested code frame test answer
      → data_received rules config now frame s
      ≡ (if answer then unit_from_group frame.address.sapi frame.info s
      else or_discarded s (link_of rules.side now (id_of_address frame.address)
      (Heard frame.control frame.address.role) frame.info s))
  data_as code config now frame s test answer shown t =
      ap (λ (b : Bool). if b then unit_from_group frame.address.sapi frame.info s
      else or_discarded s (link_of rules.side now (id_of_address frame.address)
      (Heard frame.control frame.address.role) frame.info s))
      (ap (λ (k : Config). rules.is_for_layer_3 k frame) (sym shown.configured) ∙ sym t.is
      ∙ t.answered)

  -- the unit data is reported
  pub unit_delivered : (code : ManagedSide C) (config : Config) (now : ℕ) (frame : Fields)
      (s : SideState M) (test : Bool) (address : Address) (octets : List ℕ) (acts : Effects)
      → IsTested code frame test true → address ≡ frame.address → octets ≡ frame.info
      → acts ≡ record no_effects {
        primitives = Of (of_sapi address.sapi group_tei) (what.UnitUp octets) ∷ [];
      } → Shows represents rules code config s
      → HasDone (Shows represents rules) code config acts (data_received rules config now frame s)
  unit_delivered code config now frame s test address octets acts t is_address is_octets
      delivered shown = subst (λ (a : Reaction (SideState M)). HasDone (Shows represents rules)
      code config acts a) (sym (data_as code config now frame s test true shown t)) (record {
        shown = shown;
        given = delivered ∙ ap (λ (a : Address). record no_effects {
          primitives = Of (of_sapi a.sapi group_tei) (what.UnitUp octets) ∷ [];
        }) is_address ∙ ap (λ (o : List ℕ). record no_effects {
          primitives = Of (of_sapi frame.address.sapi group_tei) (what.UnitUp o) ∷ [];
        }) is_octets;
      })

  -- or a link processes the frame
  pub data_for_link : (code after : ManagedSide C) (config : Config) (now : ℕ) (frame : Fields)
      (s : SideState M) (test : Bool) (acts : Effects) → IsTested code frame test false
      → Shows represents rules code config s
      → HasDone (Shows represents rules) after config acts
      (or_discarded s (among_links s (frame_on_links now frame rules.side s.served.links)))
      → HasDone (Shows represents rules) after config acts (data_received rules config now frame s)
  unfolding link_of
  data_for_link code after config now frame s test acts t shown h =
      subst (λ (a : Reaction (SideState M)). HasDone (Shows represents rules) after config acts a)
      (sym (data_as code config now frame s test false shown t)) h

  -- its link predicts a frame, and has processed it
  pub predicted : ((config : Config) (p : PredictedFrame)
      → rules.is_for_layer_3 config (predicted_fields p) ≡ false)
      → (code : ManagedSide C) (served : LinksAndTimer) (octets : List ℕ) (p : PredictedFrame)
      (now : ℕ) (acts : Effects)
      → frame_at (other_side rules.side) octets ≡ Ok (predicted_fields p)
      → Receive code.served served acts (frame_on_links now (predicted_fields p))
      → SideDoes (Shows represents rules) code (record code { served = served }) acts
      (λ config. takes rules config octets now)
  unfolding takes
  predicted for_link code served octets p now acts found does = λ config s shown.
      subst (λ (r : Result Fields FrameFault). HasDone (Shows represents rules)
      (record code { served = served }) config acts (received rules config now r s)) (sym found)
      (received_as_data _ config now (predicted_fields p) s false acts
      (sym (predicted_is_no_message p)) refl
      (data_for_link code _ config now (predicted_fields p) s false acts
      (record { is = sym (for_link code.config p); answered = refl }) shown
      (received_so represents rules.side code served config s acts _ shown
      (does rules.side s.served.links shown.served.links))))

  -- the link that is meant has sent the message
  pub sent : ((config : Config) (id own : LinkId) (message : Message) (now : ℕ) (s : SideState M)
      → rules.link_of_call s.management id ≡ Some own
      → rules.requested config (Give id message) now s
      ≡ link_of rules.side now own (input.Give message.items) [] s)
      → (code : ManagedSide C) (links : LinkSet) (id own : LinkId) (message : Message) (now : ℕ)
      (acts : Effects)
      → ((m : M) → represents code.management m → rules.link_of_call m id ≡ Some own)
      → LinksDo code.served.links links no_effects acts (λ side. in_links own
      (link_acts side own now (input.Give message.items) []))
      → Grants (Shows represents rules) code (relinked code links) acts
      (λ config. rules.requested config (Give id message) now)
  unfolding link_of
  sent to_meant code links id own message now acts meant does = λ config s shown.
      granted_as _ config acts _ _
      (to_meant config id own message now s (meant s.management shown.management))
      (granted represents rules.side code links config s no_effects acts _ shown refl
      (does rules.side s.served.links shown.served.links))
