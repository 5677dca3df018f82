use Rattle.std.proofs.Common.{◌≡◌, ◌+◌, List, Option, drop, set, refl, ap, sym, ◌∙◌, arith}
use Rattle.std.proofs.lemmas.List.{with_items_is, get_or-drop, get_or-set_same}
use Rattle.std.specs.Prelude.{None}
use Rattle.std.specs.Vec.{with_items}
use Rattle.lapd_sides_links.specs.declared.running_timer.RunningTimer.{RunningTimer}
use Rattle.lapd_sides_links.specs.Tournament.{entry, IsEntered}
use Rattle.lapd_sides_links.proofs.Tournaments.{own_entry, other_entry, places_preserved, read_entry, size_of, alone_anew, none_first, first_of_all}
use Rattle.lapd_sides_links.proofs.tournament.Tournament.enter.Goals.{After-settle}
use Rattle.lapd_sides_links.proofs.tournament.Tournament.enter.Goals as goal

settled : (c : After-settle)
    → (with_items c.self.inside.nodes c.settle.new.nodes).items ≡ c.settle.new.nodes
settled c = with_items_is c.self.inside.nodes c.settle.new.nodes
    (omega (
      arith,
      c.settle.ensures.won.size,
      size_of c.self.inside.nodes.items c.self.inside.top c.self.invariant.0,
      c.self.inside.nodes.ok.0,
    ))

pub returns-then-self-own-clause-own : goal.returns-then-self-own-clause-own
returns-then-self-own-clause-own c =
    own_entry c.self.inside.nodes.items
    (set c.self.inside.nodes.items (256 + c.args.place) c.args.expiry) c.args.place c.args.expiry
    c.requires
    (size_of c.self.inside.nodes.items c.self.inside.top c.self.invariant.0) (λ n low. refl)

pub returns-then-self-own-clause-others : goal.returns-then-self-own-clause-others
returns-then-self-own-clause-others c = λ other differ.
    other_entry c.self.inside.nodes.items
    (set c.self.inside.nodes.items (256 + c.args.place) c.args.expiry) c.args.place other
    c.args.expiry differ (λ n low. refl)
    ∙ ap (λ (entries : List (Option RunningTimer)). entry entries other) c.self.view_is

pub returns-then-is_same-clause-own : goal.returns-then-is_same-clause-own
returns-then-is_same-clause-own c =
    ap (λ (entries : List (Option RunningTimer)). entry entries c.args.place) (sym c.self.view_is)
    ∙ (get_or-drop 256 c.self.inside.nodes.items c.args.place None
    ∙ (read_entry c.self.inside.nodes.items (256 + c.args.place) c.index.result.now
    (omega (
      arith,
      size_of c.self.inside.nodes.items c.self.inside.top c.self.invariant.0,
      c.requires,
    )) c.index.ensures
    ∙ c.is_same.ensures c.if-is_same.true))

pub invariant_of-self-then-is_none : goal.invariant_of-self-then-is_none
invariant_of-self-then-is_none c = (
  alone_anew c.self.inside.nodes.items c.self.inside.top (256 + c.args.place) c.args.expiry
      (none_first (IsEntered (drop 256 c.self.inside.nodes.items)) c.self.inside.first
      c.is_none.result c.is_none.ensures c.if-is_none.true
      (first_of_all c.self.inside.nodes.items c.self.inside.top c.self.inside.first
      c.self.invariant.1 c.self.invariant.0))
      (omega arith) (omega (arith, c.requires)) c.self.invariant.0,
  get_or-set_same c.self.inside.nodes.items (256 + c.args.place) c.args.expiry None
      (omega (
        arith,
        size_of c.self.inside.nodes.items c.self.inside.top c.self.invariant.0,
        c.requires,
      )),
)

pub returns-then-is_none-clause-own : goal.returns-then-is_none-clause-own
returns-then-is_none-clause-own c =
    own_entry c.self.inside.nodes.items
    (set c.self.inside.nodes.items (256 + c.args.place) c.args.expiry) c.args.place c.args.expiry
    c.requires
    (size_of c.self.inside.nodes.items c.self.inside.top c.self.invariant.0) (λ n low. refl)

pub returns-then-is_none-clause-others : goal.returns-then-is_none-clause-others
returns-then-is_none-clause-others c = λ other differ.
    other_entry c.self.inside.nodes.items
    (set c.self.inside.nodes.items (256 + c.args.place) c.args.expiry) c.args.place other
    c.args.expiry differ (λ n low. refl)
    ∙ ap (λ (entries : List (Option RunningTimer)). entry entries other) c.self.view_is

pub returns-clause-own : goal.returns-clause-own
returns-clause-own c =
    ap (λ (nodes : List (Option RunningTimer)). entry (drop 256 nodes) c.args.place)
    (settled (goal.at.returns-clause-own c).After-settle)
    ∙ own_entry c.win_all.new.nodes c.settle.new.nodes c.args.place c.args.expiry c.requires
    c.win_all.ensures.won.size c.settle.ensures.places

pub returns-clause-others : goal.returns-clause-others
returns-clause-others c =
    λ other differ. ap (λ (nodes : List (Option RunningTimer)). entry (drop 256 nodes) other)
    (settled (goal.at.returns-clause-others c).After-settle)
    ∙ (other_entry c.win_all.new.nodes c.settle.new.nodes c.args.place other c.args.expiry differ
    c.settle.ensures.places
    ∙ (places_preserved c.as_mut_slice-nodes.result.now c.win_all.new.nodes other
    c.win_all.ensures.places
    ∙ (ap (λ (nodes : List (Option RunningTimer)). entry (drop 256 nodes) other)
    c.as_mut_slice-nodes.ensures.value
    ∙ ap (λ (entries : List (Option RunningTimer)). entry entries other) c.self.view_is)))
