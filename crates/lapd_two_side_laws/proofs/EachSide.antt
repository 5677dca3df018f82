-- Each event of a side keeps a property of one of its links, or answers layer 3.
use Rattle.std.proofs.Common.{◌≡◌, ◌⊎◌, inl, inr, ℕ, Bool, true, false, List, [], Option, Some, None, Result, Ok, Err, refl, sym, ap, subst, ◌∙◌}
use Rattle.std.specs.Prelude.{◌==◌, option_map}
use Rattle.std.specs.List.{filter_map, list_any}
use Rattle.lapd_timers.specs.declared.timer.Timer.{Timer}
use Rattle.lapd_frame.specs.declared.Sapi.{Sapi}
use Rattle.lapd_frame.specs.declared.Sapi.TheVariants as sapi
use Rattle.lapd_frame.specs.declared.Side.TheVariants as side
use Rattle.lapd_frame.specs.Address.{other_side, sapi_value}
use Rattle.lapd_frame.specs.Reading.{frame_at}
use Rattle.lapd_mod128.specs.Counting.{Tagged}
use Rattle.lapd_link_definition.specs.End.{StepState}
use Rattle.lapd_link_definition.specs.Input.{Expiry}
use Rattle.lapd_link_definition.specs.Table.{step}
use Rattle.lapd_tei.specs.declared.assigner.AssignerEvent.{AssignerEvent}
use Rattle.lapd_tei.specs.declared.assigner.AssignerEvent.TheVariants as assigner
use Rattle.lapd_tei.specs.declared.terminal.TerminalEvent.{TerminalEvent}
use Rattle.lapd_tei.specs.declared.terminal.TerminalEvent.TheVariants as terminal
use Rattle.lapd_tei.specs.Assigner.{assigner_step}
use Rattle.lapd_tei.specs.Terminal.{tei_of}
use Rattle.lapd_table.specs.declared.link_id.LinkId.{LinkId}
use Rattle.lapd_table.specs.LinkId.{id_eq}
use Rattle.lapd_table.proofs.Ids.{same_id_eq}
use Rattle.lapd_sides_links.specs.declared.config.Config.{Config}
use Rattle.lapd_sides_links.specs.declared.primitive.What.{What}
use Rattle.lapd_sides_links.specs.declared.side_fault.SideKind.{SideKind}
use Rattle.lapd_sides_links.specs.Effects.{stopped, what_of}
use Rattle.lapd_sides_links.specs.Links.{Linked, Links, Reaction, in_links, link_expires, of_sapi}
use Rattle.lapd_sides.specs.declared.request.Request.{Request}
use Rattle.lapd_sides.specs.declared.request.Request.TheVariants as request
use Rattle.lapd_sides.specs.SideState.{SideState, Rules, among_links, or_unmoved, with_stopped, takes, expires}
use Rattle.lapd_sides.specs.Network.{Network, network_rules, assigner_acts}
use Rattle.lapd_sides.specs.User.{User, user_rules, terminal_acts}
use Rattle.lapd_two_side_laws.specs.Answers.{concerns, requests_release}
use Rattle.lapd_side_events.specs.SideView.{Ask}
use Rattle.lapd_two_side_laws.proofs.EachLink.{Goes, Answers, IsPermitted, IsKept, after_step, expired_ok, expired_err, acts, managing, then_goes}
use Rattle.lapd_two_side_laws.proofs.Reactions.{Inputs, Law, HoldsOfLinks, HoldsOfMessages, HoldsOfRules, PermitsRequest, any_frame, takes_so}
use Rattle.lapd_two_side_laws.proofs.Requests.{HoldsInTurn, by_events, network_asked, step_at, terminal_so, user_asked}

module _ (id : LinkId) (may : Bool) (O : Option Linked → Type 0) (p : What → Bool) where
  abbrev pub Holds : {M : Type 0} → SideState M → Type 0
  Holds s = O (s.served.links id)

  abbrev pub Proceeds : {M : Type 0} → Reaction (SideState M) → Type 0
  Proceeds a = Goes id may O p a.after.served.links a.effects.primitives

  abbrev pub GoesOn : {M : Type 0} → Law M
  GoesOn s a = Holds s → Proceeds a

  -- an input of the link is a release only if it may be
  abbrev pub Permits : Inputs
  Permits other input octets = IsPermitted id may O p other input

  -- a timer of a link expires
  module _ {M : Type 0} (rules : Rules M) (config : Config) (now : ℕ)
      (Q : Option Linked → Type 0) (other : LinkId)
      (timer : Timer) (apart : id_eq id other ≡ false → (o : Option Linked) → O o → Q o)
      (absent : O None → Q None)
      (expires_its : id_eq id other ≡ true → (l : Linked) (s : StepState) → O (Some l)
      → step Tagged (Expiry timer) l.end ≡ Ok s
      → (list_any p (filter_map (what_of []) s.outs) ≡ true)
      ⊎ Q (Some (after_step now (stopped timer l.timers) s))) (s : SideState M) where
    abbrev ExpiresTo : Reaction (SideState M) → Type 0
    ExpiresTo a = Answers id may O p a.effects.primitives ⊎ Q (a.after.served.links id)

    expired_among : (r : Result (Reaction Links) SideKind)
        → in_links other (link_expires rules.side other now timer) s.served.links ≡ r → Holds s
        → ExpiresTo (or_unmoved s (among_links s r))
    expired_among (Ok a) done o =
        expired_ok id may O p rules.side now Q other timer apart absent expires_its
        s.served.links a o done
    expired_among (Err kind) err o =
        inr (expired_err id may O p rules.side now Q other timer apart absent expires_its
        s.served.links kind o err)

    pub side_expired : Holds s → ExpiresTo (expires rules config now timer (Some other) s)
    unfolding expires
    side_expired o =
        expired_among (in_links other (link_expires rules.side other now timer) s.served.links)
        refl o

  module _ (config : Config) (now : ℕ) (kept : IsKept id may O p config now) where
    of_links : {M : Type 0} (rules : Rules M) → HoldsOfLinks rules now GoesOn Permits
    of_links rules = record {
      still = λ s o. inr o;
      counts = λ s o. inr o;
      reports = λ at octets s o. inr o;
      steps = λ other input octets s b plain permits done o.
          acts id may O p config now kept rules.side other input octets s.served.links b plain
          permits o done;
    }

    pub side_takes : {M : Type 0} (rules : Rules M) → HoldsOfMessages rules config now GoesOn
        → (octets : List ℕ) (s : SideState M) → GoesOn s (takes rules config octets now s)
    side_takes rules hears octets s =
        takes_so (of_links rules) config hears octets s
        (any_frame Permits (λ other control role info same may_not. refl)
        (λ other kind same may_not. refl) (frame_at (other_side rules.side) octets))

    -- a request is allowed if it releases the link only if it may
    abbrev pub Allows : {M : Type 0} → Rules M → Request → Type 0
    Allows rules asked = may ≡ false → requests_release rules.side id (Ask asked now) ≡ false

    -- a request for which this link is meant concerns it
    abbrev Concerns : {M : Type 0} → Rules M → Type 0
    Concerns {M} rules = (m : M) (other own : LinkId) → rules.link_of_call m other ≡ Some own
        → id_eq id own ≡ true → concerns rules.side id other ≡ true

    permits : {M : Type 0} (rules : Rules M) → Concerns rules → (m : M) (asked : Request)
        → Allows rules asked → PermitsRequest rules Permits m asked
    permits rules its m (request.Release other) allows =
        λ own is same may_not. sym (its m other own is same) ∙ allows may_not
    permits rules its m (request.Establish other) allows = λ own is same may_not. refl
    permits rules its m (request.Unit other octets) allows = λ own is same may_not. refl
    permits rules its m (request.Give other message) allows = λ own is same may_not. refl
    permits rules its m (request.Busy other true) allows = λ own is same may_not. refl
    permits rules its m (request.Busy other false) allows = λ own is same may_not. refl
    permits rules its m request.AskTei allows = tt
    permits rules its m (request.Check tei) allows = tt
    permits rules its m (request.Remove tei) allows = tt
    permits rules its m request.CheckAll allows = tt
    permits rules its m request.RemoveAll allows = tt

    -- ---- A network side.

    network_concerns : Concerns network_rules
    network_concerns m other own is same =
        let its : other ≡ own = cc in
        subst (λ (k : LinkId). id_eq id k ≡ true) (sym its) same

    assigning : (e : AssignerEvent) (s : Network) → GoesOn s (assigner_acts config now e s)
    unfolding assigner_acts
    assigning e s o =
        managing id may O p config now kept side.Network (assigner_step s.management e).outs
        s.served o

    pub network_keeps : HoldsOfRules network_rules config now GoesOn (Allows network_rules)
    network_keeps = record {
      hears = λ m s. assigning (assigner.Heard m) s;
      times_out = λ timer s may o. assigning assigner.T201 (with_stopped timer s) o;
      requested = λ asked s allows.
          network_asked (of_links network_rules) config (λ tei. assigning (assigner.Check tei))
          (λ tei. assigning (assigner.Remove tei)) (λ at octets s served o. inr o)
          (λ s o. inr o) (λ s o. inr o) asked s
          (permits network_rules network_concerns s.management asked allows);
    }

    -- ---- A user side.

    of_own : (tei : Option ℕ) (other own : LinkId)
        → option_map (of_sapi other.sapi) tei ≡ Some own → own.sapi ≡ other.sapi
    of_own None other own is = cc
    of_own (Some t) other own is =
        let its : of_sapi other.sapi t ≡ own = cc in ap (λ (k : LinkId). k.sapi) (sym its)

    user_concerns : Concerns user_rules
    user_concerns m other own is same =
        let at : id.sapi ≡ other.sapi = ap (λ (k : LinkId). k.sapi) (same_id_eq id own same)
        ∙ of_own (tei_of m.terminal) other own is in
        subst (λ (at : Sapi). (sapi_value id.sapi == sapi_value at) ≡ true) at (itself id.sapi)
      where
        itself : (at : Sapi) → (sapi_value at == sapi_value at) ≡ true
        itself sapi.Call = refl
        itself sapi.Packet = refl
        itself sapi.Management = refl

    in_turn : HoldsInTurn GoesOn
    in_turn = record {
      kept = λ pending s a h. h;
      both = λ s a does first each o. then_goes id may O p (does a.after).after.served.links
          a.effects.primitives (does a.after).effects.primitives (elim (first o) [
            | inl h ↦ inl h
            | inr more ↦ inr (each a.after more)
          ]);
      gives_up = λ s o. inr o;
    }

    acting : (e : ℕ → TerminalEvent) (s : User) → GoesOn s (terminal_acts config now e s)
    acting e s = terminal_so (of_links user_rules) in_turn (λ other _ _. refl) config
        (λ e s o. managing id may O p config now kept side.User (step_at e s).outs s.served o) e s

    pub user_keeps : HoldsOfRules user_rules config now GoesOn (Allows user_rules)
    user_keeps = record {
      hears = λ m s. acting (terminal.Heard m) s;
      times_out = λ timer s may o. acting terminal.T202 (with_stopped timer s) o;
      requested = λ asked s allows.
          user_asked (of_links user_rules) config (by_events config now GoesOn (Allows user_rules)
          (acting terminal.Ask) (acting terminal.Want) (acting (λ ri. terminal.Leave))
          (λ pending s a h. h) (λ at s o. inr o)) asked s allows
          (permits user_rules user_concerns s.management asked allows);
    }
