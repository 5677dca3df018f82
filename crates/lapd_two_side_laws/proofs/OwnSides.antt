-- No event of a side assigns or obtains a TEI whose links exist: a network side holds the TEIs of
-- its links, and a terminal has the TEI of its links.
use Rattle.std.proofs.Common.{[], ◌∷◌, ◌++◌, ◌≡◌, ℕ, Bool, true, false, refl, sym, subst, ◌∙◌, List}
use Rattle.std.specs.List.{list_any, filter_map}
use Rattle.lapd_frame.specs.declared.Side.TheVariants as side
use Rattle.lapd_tei.specs.declared.assigner.AssignerEvent.{AssignerEvent}
use Rattle.lapd_tei.specs.declared.assigner.AssignerEvent.TheVariants as assigner
use Rattle.lapd_tei.specs.declared.phase.Phase.{Phase}
use Rattle.lapd_tei.specs.declared.terminal.TerminalEvent.{TerminalEvent}
use Rattle.lapd_tei.specs.declared.terminal.TerminalEvent.TheVariants as terminal
use Rattle.lapd_tei.specs.Assigner.{AssignerState, is_held, assigner_step}
use Rattle.lapd_sides_links.specs.declared.config.Config.{Config}
use Rattle.lapd_sides_links.specs.Effects.{outcome_of}
use Rattle.lapd_sides_links.specs.Links.{Links, Reaction}
use Rattle.lapd_sides.specs.Management.{manages}
use Rattle.lapd_sides.specs.Network.{Network, network_rules, assigner_acts}
use Rattle.lapd_sides.specs.SideState.{SideState, Rules, with_links, with_stopped}
use Rattle.lapd_sides.specs.User.{User, TerminalState, user_rules, next_reference, pending_after, terminal_acts}
use Rattle.lapd_two_side_laws.specs.ExactTimers.{SideStep, stepped, stepped_by_all}
use Rattle.lapd_side_events.specs.Interface.{behaviour, network_behaviour, user_behaviour}
use Rattle.lapd_two_side_laws.specs.Premises.{is_assignment}
use Rattle.lapd_side_events.specs.SideView.{SideEvent, SideView, reaction, does}
use Rattle.lapd_two_side_laws.proofs.HeldTeis.{GivesFree, gives_free}
use Rattle.lapd_two_side_laws.proofs.LinkOps.{IsLinkOp, none_of_both, op_acts, op_expires}
use Rattle.lapd_two_side_laws.proofs.OwnTeis.{AreOf, IsQuietFor, LeavesOwn, managed_are, managed_is_quiet}
use Rattle.lapd_two_side_laws.proofs.ReportsNoTei.{pending_aside, plain_no_assignment}
use Rattle.lapd_two_side_laws.proofs.Reactions.{Law, HoldsOfLinks, HoldsOfRules, HoldsOfEvents, AnyInput, AnyRequest, each_event, each_request, reacts}
use Rattle.lapd_two_side_laws.proofs.Requests.{by_events, network_asked, step_at, stepped_by, user_asked}
use Rattle.lapd_two_side_laws.proofs.TerminalOwn.{Owns, terminal_leaves}

-- `Own m n` says that TEI management with the state `m` holds or has the TEI `n`.
module _ {M : Type 0} (Own : M → ℕ → Type 0) where
  abbrev pub AreOwned : SideState M → Type 0
  AreOwned s = AreOf (Own s.management) s.served.links

  pub record PreservesOwned (s : SideState M) (a : Reaction (SideState M)) : Type 0 where
    pub after : AreOwned a.after
    pub quiet : IsQuietFor s.served.links a.effects

  abbrev Owned : Law M
  Owned s a = AreOwned s → PreservesOwned s a

  by_op : (s : SideState M) (b : Reaction Links) → IsLinkOp s.served.links b
      → Owned s (with_links s b)
  by_op s b op own = record {
    after = λ k there. own k (op.adds_none k there);
    quiet = λ k there. plain_no_assignment k.tei b.effects.primitives op.plain;
  }

module _ {M : Type 0} (rules : Rules M) (config : Config) (Own : M → ℕ → Type 0) where
  of_links : (now : ℕ) → HoldsOfLinks rules now (Owned Own) AnyInput
  of_links now = record {
    still = λ s own. record { after = own; quiet = λ k there. refl };
    counts = λ s own. record { after = own; quiet = λ k there. refl };
    reports = λ at octets s own. record { after = own; quiet = λ k there. refl };
    steps = λ id input octets s b plain permits done. by_op Own s b
        (op_acts rules.side id s.served.links now input octets b done);
  }

  module _ (law : (now : ℕ) → HoldsOfRules rules config now (Owned Own) AnyRequest) where
    events : (now : ℕ) → HoldsOfEvents rules config now (Owned Own) AnyInput AnyRequest
    events now = record {
      links = of_links now;
      expires = λ id timer s b done. by_op Own s b
          (op_expires rules.side id s.served.links now timer b done);
      by_rules = law now;
    }

    side_preserves : (v : SideView (SideState M)) (event : SideEvent) → AreOwned Own v.now
        → PreservesOwned Own v.now (reaction (behaviour rules config) event v)
    side_preserves v event =
        reacts {R = λ now. Owned Own} events 0 event v (each_event rules event v)

    steps_owned : (xs : List SideStep) (v : SideView (SideState M)) → AreOwned Own v.now
        → AreOwned Own (stepped_by_all (behaviour rules config) xs v).now
    unfolding does
    steps_owned [] v own = own
    steps_owned (x ∷ xs) v own =
        let before : SideView (SideState M) = record v { incoming = v.incoming ++ x.arrives } in
        steps_owned xs (stepped (behaviour rules config) x v)
        (side_preserves before x.event own).after

-- ---- A network side.

abbrev pub Holds : AssignerState → ℕ → Type 0
Holds a n = is_held a.held n ≡ true

abbrev pub AreHeld : Network → Type 0
AreHeld = AreOwned Holds

pub assigner_leaves : (a : AssignerState) (e : AssignerEvent)
    → LeavesOwn (Holds a) (Holds (assigner_step a e).now) (assigner_step a e).outs
assigner_leaves a e =
    let f = gives_free a e in
    record {
      given = f.given;
      stays = f.stays_held;
      quiet = λ n held. quiet_by n (list_any (is_assignment n)
          (filter_map outcome_of (assigner_step a e).outs)) refl f held;
    }
  where
    quiet_by : (n : ℕ) (delivered : Bool)
        → list_any (is_assignment n) (filter_map outcome_of (assigner_step a e).outs) ≡ delivered
        → GivesFree a.held (assigner_step a e) → is_held a.held n ≡ true → delivered ≡ false
    quiet_by n false is f held = refl
    quiet_by n true is f held = let no : true ≡ false = sym held ∙ f.free n is in cc

module _ (config : Config) where
  assigning : (now : ℕ) (e : AssignerEvent) (s : Network)
      → Owned Holds s (assigner_acts config now e s)
  unfolding assigner_acts
  assigning now e s held =
      let outs = (assigner_step s.management e).outs in
      let leaves = assigner_leaves s.management e in
      record {
        after = managed_are side.Network config now outs s.served _ _ leaves held;
        quiet = managed_is_quiet side.Network config now outs s.served _ _ leaves held;
      }

  network_own : (now : ℕ) → HoldsOfRules network_rules config now (Owned Holds) AnyRequest
  network_own now = record {
    hears = λ m. assigning now (assigner.Heard m);
    times_out = λ timer s may held.
        let k = assigning now assigner.T201 (with_stopped timer s) held in
        record { after = k.after; quiet = k.quiet };
    requested = λ asked s any.
        network_asked (of_links network_rules config Holds now) config
        (λ tei. assigning now (assigner.Check tei)) (λ tei. assigning now (assigner.Remove tei))
        (λ at octets s served held. record { after = held; quiet = λ k there. refl })
        (λ s held. record { after = held; quiet = λ k there. refl })
        (λ s held. record { after = held; quiet = λ k there. refl }) asked s
        (each_request network_rules s.management asked);
  }

  pub network_preserves : (v : SideView Network) (event : SideEvent) → AreHeld v.now
      → PreservesOwned Holds v.now (reaction (network_behaviour config) event v)
  network_preserves = side_preserves network_rules config Holds network_own

  pub network_steps_held : (xs : List SideStep) (v : SideView Network) → AreHeld v.now
      → AreHeld (stepped_by_all (network_behaviour config) xs v).now
  network_steps_held = steps_owned network_rules config Holds network_own

-- ---- A user side.

abbrev pub Has : TerminalState → ℕ → Type 0
Has m = Owns m.terminal

abbrev pub AreOwn : User → Type 0
AreOwn = AreOwned Has

module _ (config : Config) where
  acting : (now : ℕ) (e : ℕ → TerminalEvent) (s : User)
      → Owned Has s (terminal_acts config now e s)
  unfolding terminal_acts
  acting now e s own =
      let done = step_at e s in
      let leaves = terminal_leaves s.management.terminal
      (e (next_reference s.management.random)) in
      let m = manages side.User config now done.outs s.served in
      let middle = (stepped_by config now done s).after in
      let rest = pending_after now done.outs middle in
      let aside = pending_aside now done.outs middle in
      let are = managed_are side.User config now done.outs s.served _ _ leaves own in
      record {
        after = λ k there. subst (λ (phase : Phase). Owns phase k.tei) (sym aside.terminal)
            (are k (aside.adds_none k there));
        quiet = λ k there. none_of_both (is_assignment k.tei) m.effects.primitives
            rest.effects.primitives
            (managed_is_quiet side.User config now done.outs s.served _ _ leaves own k there)
            (plain_no_assignment k.tei rest.effects.primitives aside.delivered);
      }

  user_own : (now : ℕ) → HoldsOfRules user_rules config now (Owned Has) AnyRequest
  user_own now = record {
    hears = λ m. acting now (terminal.Heard m);
    times_out = λ timer s may own.
        let k = acting now terminal.T202 (with_stopped timer s) own in
        record { after = k.after; quiet = k.quiet };
    requested = λ asked s any.
        user_asked (of_links user_rules config Has now) config (by_events config now
        (Owned Has) AnyRequest (acting now terminal.Ask) (acting now terminal.Want)
        (acting now (λ ri. terminal.Leave))
        (λ pending s a h own. let k = h own in record { after = k.after; quiet = k.quiet })
        (λ at s own. record { after = own; quiet = λ k there. refl })) asked s any
        (each_request user_rules s.management asked);
  }

  pub user_preserves : (v : SideView User) (event : SideEvent) → AreOwn v.now
      → PreservesOwned Has v.now (reaction (user_behaviour config) event v)
  user_preserves = side_preserves user_rules config Has user_own

  pub user_steps_own : (xs : List SideStep) (v : SideView User) → AreOwn v.now
      → AreOwn (stepped_by_all (user_behaviour config) xs v).now
  user_steps_own = steps_owned user_rules config Has user_own
