-- A step of any link creates no link, and delivers nothing about a TEI.
use Rattle.std.proofs.Common.{◌≡◌, ℕ, List, [], ◌∷◌, ◌++◌, map, Bool, true, false, if◌then◌else◌, Option, Some, None, Result, Ok, Err, refl, ap, subst, ◌∙◌}
use Rattle.std.specs.Prelude.{is_some, ◌||◌}
use Rattle.std.specs.List.{list_any, filter_map}
use Rattle.lapd_timers.specs.declared.timer.Timer.{Timer}
use Rattle.lapd_timers.specs.Due.{Timers}
use Rattle.lapd_frame.specs.declared.Side.{Side}
use Rattle.lapd_mod128.specs.Counting.{Tagged}
use Rattle.lapd_link_definition.specs.declared.event.LinkFault.{LinkFault}
use Rattle.lapd_link_definition.specs.End.{StepState}
use Rattle.lapd_link_definition.specs.Input.{Input, Expiry}
use Rattle.lapd_link_definition.specs.Table.{step}
use Rattle.lapd_table.specs.declared.link_id.LinkId.{LinkId}
use Rattle.lapd_table.specs.LinkId.{id_eq}
use Rattle.lapd_table.proofs.Ids.{same_id_eq}
use Rattle.lapd_sides_links.specs.declared.primitive.Primitive.{Primitive}
use Rattle.lapd_sides_links.specs.declared.primitive.Primitive.TheVariants.{Of, Management}
use Rattle.lapd_sides_links.specs.declared.primitive.What.{What}
use Rattle.lapd_sides_links.specs.declared.side_fault.SideKind.{SideKind}
use Rattle.lapd_sides_links.specs.Effects.{what_of, timed, stopped, effects_of_link}
use Rattle.lapd_sides_links.specs.Links.{Links, Linked, Reaction, acted, link_acts, link_expires, in_place, where_there, in_links, with_link}

-- a primitive about a TEI, and not of a link
abbrev pub is_of_management : Primitive → Bool
is_of_management (Of id w) = false
is_of_management (Management o) = true

abbrev pub ArePlain : List Primitive → Type 0
ArePlain ps = list_any is_of_management ps ≡ false

pub record IsLinkOp (before : Links) (a : Reaction Links) : Type 0 where
  pub adds_none : (k : LinkId) → is_some (a.after k) ≡ true → is_some (before k) ≡ true
  pub plain : ArePlain a.effects.primitives

plain_of_link : (id : LinkId) (ws : List What) → ArePlain (map (Of id) ws)
plain_of_link id [] = refl
plain_of_link id (w ∷ ws) = plain_of_link id ws

pub none_of_both : {X : Type 0} (test : X → Bool) (xs ys : List X) → list_any test xs ≡ false
    → list_any test ys ≡ false → list_any test (xs ++ ys) ≡ false
none_of_both test [] ys hx hy = hy
none_of_both test (x ∷ xs) ys hx hy =
    by_first (test x) (list_any test xs) (list_any test (xs ++ ys)) hx
    (λ rest. none_of_both test xs ys rest hy)
  where
    by_first : (a b c : Bool) → (a || b) ≡ false → (b ≡ false → c ≡ false) → (a || c) ≡ false
    by_first true b c h f = cc
    by_first false b c h f = f h

module _ (side : Side) (other : LinkId) (links : Links) (now : ℕ) (octets : List ℕ) where
  held_by : (k : LinkId) (x l : Linked) (test : Bool) → links other ≡ Some l → id_eq k other ≡ test
      → is_some (if test then Some x else links k) ≡ true → is_some (links k) ≡ true
  held_by k x l true there is h = ap is_some (ap links (same_id_eq k other is) ∙ there)
  held_by k x l false there is h = h

  abbrev Gives : Result (Reaction Links) SideKind → Reaction Links → Type 0
  Gives r a = r ≡ Ok a

  same_op : (x y : Reaction Links) → Gives (Ok x) y → x ≡ y
  same_op x y h = cc

  placed : (timers : Timers) (r : Result StepState LinkFault) (l : Linked) (a : Reaction Links)
      → links other ≡ Some l → in_place other links (acted side other now octets timers r) ≡ Ok a
      → IsLinkOp links a
  placed timers (Err fault) l a there is = cc
  placed timers (Ok s) l a there is =
      let x : Linked = record { end = s.end; timers = timed now s.outs timers } in
      subst (IsLinkOp links) (same_op (record {
        after = with_link other (Some x) links;
        effects = effects_of_link side other s.end octets s.outs;
      }) a is)
      (record {
        adds_none = λ k h. held_by k x l (id_eq k other) there refl h;
        plain = plain_of_link other (filter_map (what_of octets) s.outs);
      })

  op_there : (input : Input) (change : Timers → Timers) (o : Option Linked) (a : Reaction Links)
      → links other ≡ o
      → where_there other links o
      (λ (m : Linked). acted side other now octets (change m.timers) (step Tagged input m.end))
      ≡ Ok a → IsLinkOp links a
  op_there input change None a there is = cc
  op_there input change (Some l) a there is =
      placed (change l.timers) (step Tagged input l.end) l a there is

pub op_acts : (side : Side) (other : LinkId) (links : Links) (now : ℕ) (input : Input)
    (octets : List ℕ) (a : Reaction Links)
    → in_links other (link_acts side other now input octets) links ≡ Ok a → IsLinkOp links a
unfolding in_links link_acts
op_acts side other links now input octets a is =
    op_there side other links now octets input (λ (t : Timers). t) (links other) a refl is

pub op_expires : (side : Side) (other : LinkId) (links : Links) (now : ℕ) (timer : Timer)
    (a : Reaction Links) → in_links other (link_expires side other now timer) links ≡ Ok a
    → IsLinkOp links a
unfolding in_links link_acts link_expires
op_expires side other links now timer a is =
    op_there side other links now [] (Expiry timer) (stopped timer) (links other) a refl is
