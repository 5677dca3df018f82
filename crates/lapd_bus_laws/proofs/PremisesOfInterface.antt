-- The premises of one link on a bus imply those of its interface, and the other terminals stay
-- without it.
use Rattle.std.proofs.Common.{◌≡◌, inl, inr, ℕ, ◌==◌, ◌<◌, ◌≤◌, if◌then◌else◌, Bool, true, false, List, [], ◌∷◌, ◌++◌, map, set, Option, Some, None, refl, sym, ap, subst, ◌∙◌, arith}
use Rattle.std.specs.Prelude.{slice_get, option_map}
use Rattle.std.specs.List.{AllByRecursion}
use Rattle.std.proofs.lemmas.Bool.Decides.{nat_tests}
use Rattle.std.proofs.lemmas.Option.{slice_get-map}
use Rattle.lapd_frame.specs.declared.Side.TheVariants as side
use Rattle.lapd_link_definition.specs.Parameters.{Parameters}
use Rattle.lapd_tei.specs.Terminal.{tei_of, new_terminal}
use Rattle.lapd_table.specs.declared.link_id.LinkId.{LinkId}
use Rattle.lapd_sides_links.specs.Links.{is_served, new_linked, or_new, parameters_for, with_tei}
use Rattle.lapd_sides.specs.User.{User, new_user, links_of_fixed, has_tei}
use Rattle.lapd_two_side_laws.specs.Addressed.{is_for, those_for}
use Rattle.lapd_side_events.specs.Interface.{Configs, Interface, Move, happens, run, from_here, user_behaviour, network_behaviour}
use Rattle.lapd_two_side_laws.specs.Premises.{GivesTeiOnce, SatisfyPremises}
use Rattle.lapd_two_side_laws.specs.Projects.{IsSafeAt}
use Rattle.lapd_side_events.specs.SideView.{SideView, SideEvent, Take, Lose, Expire, Ask, Overhear, reaction, left, does}
use Rattle.lapd_two_side_laws.proofs.Managed.{and_not}
use Rattle.lapd_two_side_laws.proofs.Whole.{link_safe_as}
use Rattle.lapd_bus_laws.specs.Assignments.{holds}
use Rattle.lapd_side_events.specs.Bus.{Bus, BusEvent, OfTerminal, OfNetwork, Join, Restart, NewTerminal, KeepsTerminal, OverhearsNothing, recorded_anew, from_now, reached_by, left_of, on_line_of, terminal_does, network_does, terminal_joins, bus_step, after_events, interface_of, overheard, by_network_of, network_moves, terminal_moves, moves_of, moves_along}
use Rattle.lapd_bus_laws.specs.Links.{Throughout, IsTimelyFor, IsNotAssigned, AssignsOthers, AssignsOnce, ObtainsOnce, IsAside, IsSole, IsNewHere, IsNobodyElses}
use Rattle.lapd_bus_laws.proofs.Followed.{one_event}
use Rattle.lapd_bus_laws.proofs.Lists.{Others, others_set, others_map, false_by, none_first, none_dropped, none_removed}
use Rattle.lapd_side_events.proofs.Indices.{equal_index, apart_index}
use Rattle.lapd_bus_laws.proofs.Obtains.{event_obtains}
use Rattle.lapd_bus_laws.proofs.Silent.{StaysSilent, stays_silent}

-- ---- Tests of a TEI.

pub has_not : (t : ℕ) (o : Option ℕ) → has_tei t o ≡ false → o ≡ Some t → ⊥
has_not t None h is = cc
has_not t (Some u) h is = (let e : u ≡ t = cc in let no : true ≡ false =
    grind (arith, nat_tests, e, h) in cc)

pub has_none : (t : ℕ) (o : Option ℕ) → (o ≡ Some t → ⊥) → has_tei t o ≡ false
has_none t None h = refl
has_none t (Some u) h = by_test (u == t) refl
  where
    by_test : (test : Bool) → (u == t) ≡ test → (u == t) ≡ false
    by_test true is = absurd (h (let e : u ≡ t = grind (arith, nat_tests, is) in ap Some e))
    by_test false is = is

pub has_so : (t : ℕ) (o : Option ℕ) → has_tei t o ≡ true → o ≡ Some t
has_so t None h = cc
has_so t (Some u) h = let e : u ≡ t = grind (arith, nat_tests, h) in ap Some e

pub fixed_tei : (fixed : Option ℕ) (tei : ℕ) → tei_of (new_terminal fixed) ≡ Some tei
    → fixed ≡ Some tei
fixed_tei None tei is = is
fixed_tei (Some t) tei is = is

-- the terminal at this index, recorded anew
pub there_now : (i : ℕ) (t : SideView User) (b : Bus) → slice_get b.terminals i ≡ Some t
    → slice_get (from_now b).terminals i ≡ Some (recorded_anew t)
there_now i t b at = slice_get-map recorded_anew b.terminals i
    ∙ ap (λ (o : Option (SideView User)). option_map recorded_anew o) at

none_left : (id : LinkId) (event : SideEvent) (line : List (List ℕ)) → those_for side.User id line
    ≡ [] → those_for side.User id (left event line) ≡ []
none_left id (Take now) line is = none_dropped (is_for side.User id) line is
none_left id (Lose at) line is = none_removed (is_for side.User id) line at is
none_left id (Expire timer of now) line is = is
none_left id (Ask request now) line is = is
none_left id (Overhear octets now) line is = is

-- a network that never assigns the TEI does so at most once
pub assigns_once : (c : Configs) (id : LinkId) (e : BusEvent) (b : Bus)
    → AssignsOthers c id.tei e b → AssignsOnce c id e b
assigns_once c id (OfTerminal j event) b quiet = tt
assigns_once c id (OfNetwork j event) b quiet = λ t at any. quiet t at
assigns_once c id (Join j new) b quiet = tt
assigns_once c id (Restart known) b quiet = tt

module _ (c : Configs) (id : LinkId) (low : id.tei < 127) (i : ℕ) where
  -- ---- The other terminals stay without the TEI and the link.

  pub record StaysAside (t : SideView User) : Type 0 where
    pub unheld : holds id.tei t ≡ false
    pub silent : StaysSilent c.user id low t

  pub aside_does : (event : SideEvent) (t : SideView User) → OverhearsNothing event → StaysAside t
      → IsNotAssigned id.tei (reaction (user_behaviour c.user) event t).effects
      → StaysAside (does (user_behaviour c.user) event t)
  unfolding does
  aside_does event t ok h quiet =
      let a = reaction (user_behaviour c.user) event t in
      let o = event_obtains c.user event t ok in
      let unheld : tei_of t.now.management.terminal ≡ Some id.tei → ⊥ =
      has_not id.tei (tei_of t.now.management.terminal)
      h.unheld in
      record {
        unheld =
            has_none id.tei (tei_of a.after.management.terminal) (λ is. elim (o.held id.tei is) [
              | inl before ↦ unheld before
              | inr got ↦ (let no : true ≡ false = sym got ∙ quiet in cc)
            ]);
        silent = stays_silent c.user id low event t h.silent
            ((λ any. quiet), (λ lost. unheld (o.lost id.tei lost)));
      }

  -- what is in transit to the terminal is nothing to this
  pub aside_with : (line : List (List ℕ)) (t : SideView User) → StaysAside t
      → StaysAside (record t { incoming = line })
  aside_with line t h = record {
    unheld = h.unheld;
    silent = record {
      links = h.silent.links;
      line = h.silent.line;
      delivered = h.silent.delivered;
    };
  }

  pub aside_left : (event : SideEvent) (t : SideView User) → StaysAside t
      → StaysAside (left_of event t)
  aside_left event t h = record {
    unheld = h.unheld;
    silent = record {
      links = h.silent.links;
      line = none_left id event t.outgoing h.silent.line;
      delivered = h.silent.delivered;
    };
  }

  abbrev pub OthersAside : Bus → Type 0
  OthersAside b = Others StaysAside i b.terminals

  terminal_aside : (b : Bus) (j : ℕ) (event : SideEvent) (o : Option (SideView User))
      → OverhearsNothing event → slice_get b.terminals j ≡ o → OthersAside b
      → ObtainsOnce c id i (OfTerminal j event) b
      → OthersAside (terminal_does c j event o b)
  terminal_aside b j event None ok at h once = h
  terminal_aside b j event (Some t) ok at h once =
      others_set StaysAside i b.terminals j (does (user_behaviour c.user) event t) h
      (λ apart. aside_does event t ok (h j t at apart) ((once t at).1 apart))

  network_aside : (b : Bus) (j : ℕ) (event : SideEvent) (o : Option (SideView User))
      → slice_get b.terminals j ≡ o → OthersAside b → OthersAside (network_does c j event o b)
  network_aside b j event None at h = h
  network_aside b j event (Some t) at h =
      let frames = (reaction (network_behaviour c.network) event (on_line_of t b)).effects.frames in
      others_map StaysAside StaysAside (reached_by frames) i (set b.terminals j (left_of event t))
      (λ u h. aside_with (u.incoming ++ frames) u h)
      (others_set StaysAside i b.terminals j (left_of event t) h
      (λ apart. aside_left event t (h j t at apart)))

  -- a terminal that starts without the TEI
  pub no_link : (fixed : Option ℕ) → (fixed ≡ Some id.tei → ⊥)
      → links_of_fixed c.user fixed id ≡ None
  unfolding with_tei
  no_link None apart = refl
  no_link (Some tei) apart =
      let other : (id.tei == tei) ≡ false = false_by (id.tei == tei) (λ same.
      apart (let e : tei ≡ id.tei = grind (arith, nat_tests, same) in ap Some e)) in
      ap (λ (b : Bool). if b then or_new (new_linked (parameters_for c.user id.sapi)
      c.user.durations) None else None) (and_not (is_served c.user id.sapi) (id.tei == tei) other)

  pub not_fixed : (fixed : Option ℕ) → (fixed ≡ Some id.tei → ⊥)
      → has_tei id.tei (tei_of (new_terminal fixed)) ≡ false
  not_fixed fixed apart = has_none id.tei (tei_of (new_terminal fixed)) (λ is.
      apart (fixed_tei fixed id.tei is))

  aside_joins : (new : NewTerminal) (t : SideView User) → (new.fixed ≡ Some id.tei → ⊥)
      → StaysAside t → StaysAside (record t { now = new_user c.user new.fixed new.random })
  aside_joins new t apart h = record {
    unheld = not_fixed new.fixed apart;
    silent = record {
      links = no_link new.fixed apart;
      line = h.silent.line;
      delivered = h.silent.delivered;
    };
  }

  join_aside : (b : Bus) (j : ℕ) (new : NewTerminal) (o : Option (SideView User)) → (j ≡ i → ⊥)
      → slice_get b.terminals j ≡ o → OthersAside b → (new.fixed ≡ Some id.tei → ⊥)
      → OthersAside (terminal_joins c j new o b)
  join_aside b j new None apart at h other = h
  join_aside b j new (Some t) apart at h other = others_set StaysAside i b.terminals j (record t {
    now = new_user c.user new.fixed new.random;
  }) h (λ elsewhere. aside_joins new t other (h j t at apart))

  pub aside_after : (e : BusEvent) (b : Bus) → KeepsTerminal i e → OthersAside b
      → ObtainsOnce c id i e b → OthersAside (bus_step c e b)
  aside_after (OfTerminal j event) b ok h once = terminal_aside b j event (slice_get b.terminals j)
      ok refl h once
  aside_after (OfNetwork j event) b ok h once = network_aside b j event (slice_get b.terminals j)
      refl h
  aside_after (Join j new) b ok h once = join_aside b j new (slice_get b.terminals j) ok refl h once
  aside_after (Restart known) b ok h once = absurd ok

  all_aside : (events : List BusEvent) (b : Bus) → AllByRecursion (KeepsTerminal i) events
      → OthersAside b
      → Throughout c (ObtainsOnce c id i) events b → OthersAside (after_events c events b)
  all_aside [] b ok h once = h
  all_aside (e ∷ es) b ok h once = all_aside es (bus_step c e b) ok.1
      (aside_after e b ok.0 h once.0) once.1

  pub aside_now : (b : Bus) → IsSole id i b → OthersAside (from_now b)
  aside_now b sole = others_map (IsAside id) StaysAside recorded_anew i b.terminals
      (λ t h. record {
        unheld = h.unheld;
        silent = record { links = h.link; line = h.line; delivered = refl };
      }) sole

  pub nobody_elses : (events : List BusEvent) (b : Bus) → AllByRecursion (KeepsTerminal i) events
      → IsSole id i b → Throughout c (ObtainsOnce c id i) events (from_now b)
      → IsNobodyElses id i (after_events c events (from_now b))
  nobody_elses events b ok sole once = λ j t there apart.
      (all_aside events (from_now b) ok (aside_now b sole) once j t there apart).silent.delivered

  -- ---- The premises of the interface.

  meets_both : (ms ns : List Move) (k : Interface) → SatisfyPremises c id ms k
      → SatisfyPremises c id ns (run c ms k) → SatisfyPremises c id (ms ++ ns) k
  meets_both [] ns k a b = b
  meets_both (m ∷ ms) ns k a b =
      let rest = meets_both ms ns (happens c m k) (a.0.1, a.1.1) b in
      ((a.0.0, rest.0), (a.1.0, rest.1))

  module _ (t : SideView User) (b : Bus) (at : slice_get b.terminals i ≡ Some t) where
    terminal_meets : (j : ℕ) (event : SideEvent) (test : Bool) → (j == i) ≡ test
        → IsTimelyFor id i (OfTerminal j event) b → ObtainsOnce c id i (OfTerminal j event) b
        → SatisfyPremises c id (terminal_moves test event) (interface_of t b)
    terminal_meets j event true is timely once =
        let same = equal_index j i is in
        ((timely same t at, tt), ((once t (ap (slice_get b.terminals) same ∙ at)).0 same, tt))
    terminal_meets j event false is timely once = (tt, tt)

    -- the network with the line of another terminal
    overhears_meet : (event : SideEvent) (u : SideView User) (line : List (List ℕ))
        → OverhearsNothing event → those_for side.User id line ≡ []
        → IsTimelyFor id i (OfNetwork i event) b
        → GivesTeiOnce (network_behaviour c.network) id event
        (record (on_line_of u b) { incoming = line })
        → SatisfyPremises c id (map by_network_of (overheard event line)) (interface_of t b)
    overhears_meet (Take now) u [] ok none timely once = (tt, tt)
    overhears_meet (Take now) u (octets ∷ rest) ok none timely once =
        (((none_first (is_for side.User id) octets rest none).0, tt), (once, tt))
    overhears_meet (Lose at) u line ok none timely once = (tt, tt)
    overhears_meet (Expire timer of now) u line ok none timely once =
        ((timely t at, tt), (once, tt))
    overhears_meet (Ask request now) u line ok none timely once = ((tt, tt), (once, tt))
    overhears_meet (Overhear octets now) u line ok none timely once = absurd ok

    network_meets : (j : ℕ) (event : SideEvent) (test : Bool) (o : Option (SideView User))
        → (j == i) ≡ test → slice_get b.terminals j ≡ o → OverhearsNothing event → OthersAside b
        → IsTimelyFor id i (OfNetwork j event) b → AssignsOnce c id (OfNetwork j event) b
        → SatisfyPremises c id (network_moves test event o) (interface_of t b)
    network_meets j event test None is there ok h timely once = (tt, tt)
    network_meets j event true (Some u) is there ok h timely once = (
      (timely t at, tt),
      (once t (ap (slice_get b.terminals) (equal_index j i is) ∙ at), tt),
    )
    network_meets j event false (Some u) is there ok h timely once =
        overhears_meet event u u.outgoing ok (h j u there (apart_index j i is)).silent.line timely
        (once u there)

    pub one_meets : (e : BusEvent) → KeepsTerminal i e → OthersAside b → IsTimelyFor id i e b
        → AssignsOnce c id e b → ObtainsOnce c id i e b
        → SatisfyPremises c id (moves_of i e b) (interface_of t b)
    one_meets (OfTerminal j event) ok h timely assigns once =
        terminal_meets j event (j == i) refl timely once
    one_meets (OfNetwork j event) ok h timely assigns once =
        network_meets j event (j == i) (slice_get b.terminals j) refl refl ok h timely assigns
    one_meets (Join j new) ok h timely assigns once = (tt, tt)
    one_meets (Restart known) ok h timely assigns once = absurd ok

  meets : (events : List BusEvent) (t : SideView User) (b : Bus)
      → AllByRecursion (KeepsTerminal i) events → slice_get b.terminals i ≡ Some t → OthersAside b
      → Throughout c (IsTimelyFor id i) events b → Throughout c (AssignsOthers c id.tei) events b
      → Throughout c (ObtainsOnce c id i) events b
      → SatisfyPremises c id (moves_along c i events b) (interface_of t b)
  meets [] t b ok at h timely quiet once = (tt, tt)
  meets (e ∷ es) t b ok at h timely quiet once =
      let first = one_event c i e t b ok.0 at in
      let later = meets es first.terminal (bus_step c e b) ok.1 first.there
      (aside_after e b ok.0 h once.0) timely.1 quiet.1 once.1 in
      meets_both (moves_of i e b) (moves_along c i es (bus_step c e b)) (interface_of t b)
      (one_meets t b at e ok.0 h timely.0 (assigns_once c id e b quiet.0) once.0)
      (subst (SatisfyPremises c id (moves_along c i es (bus_step c e b))) first.moved later)

  -- ---- The link is safe.

  pub meets_now : (events : List BusEvent) (t : SideView User) (b : Bus)
      → AllByRecursion (KeepsTerminal i) events → slice_get b.terminals i ≡ Some t → IsSole id i b
      → Throughout c (IsTimelyFor id i) events (from_now b)
      → Throughout c (AssignsOthers c id.tei) events (from_now b)
      → Throughout c (ObtainsOnce c id i) events (from_now b)
      → SatisfyPremises c id (moves_along c i events (from_now b)) (from_here (interface_of t b))
  meets_now events t b ok at sole timely quiet once =
      meets events (recorded_anew t) (from_now b) ok (there_now i t b at) (aside_now b sole) timely
      quiet once

  pub safe_here : (p q : Parameters) (events : List BusEvent) (t : SideView User) (b : Bus)
      → p.k ≤ 127 → q.k ≤ 127 → AllByRecursion (KeepsTerminal i) events
      → slice_get b.terminals i ≡ Some t → IsNewHere c id p q t b → IsSole id i b
      → Throughout c (IsTimelyFor id i) events (from_now b)
      → Throughout c (AssignsOthers c id.tei) events (from_now b)
      → Throughout c (ObtainsOnce c id i) events (from_now b)
      → IsSafeAt c id (moves_along c i events (from_now b)) (from_here (interface_of t b))
  safe_here p q events t b small_p small_q ok at new sole timely quiet once =
      link_safe_as c id low p q small_p small_q (interface_of t b) new.user new.network new.to_user
      new.to_network (moves_along c i events (from_now b))
      (meets_now events t b ok at sole timely quiet once)
