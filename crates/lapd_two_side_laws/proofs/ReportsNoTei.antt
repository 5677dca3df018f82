-- Links and kept establishments deliver nothing about TEIs. Kept establishments also add no link,
-- and leave the terminal and its timer unchanged.
use Rattle.std.proofs.Common.{◌≡◌, ℕ, List, [], ◌∷◌, ◌++◌, Bool, true, false, Option, Some, None, refl, ◌∙◌}
use Rattle.std.specs.Prelude.{is_some}
use Rattle.std.specs.List.{list_any}
use Rattle.lapd_frame.specs.declared.Sapi.{Sapi}
use Rattle.lapd_frame.specs.declared.Sapi.TheVariants as sapi
use Rattle.lapd_tei.specs.declared.out.TeiOut.{TeiOut}
use Rattle.lapd_table.specs.declared.link_id.LinkId.{LinkId}
use Rattle.lapd_sides_links.specs.declared.primitive.Primitive.{Primitive}
use Rattle.lapd_sides_links.specs.declared.primitive.Primitive.TheVariants.{Of, Management}
use Rattle.lapd_sides_links.specs.declared.primitive.What.{What}
use Rattle.lapd_sides_links.specs.declared.primitive.What.TheVariants as what
use Rattle.lapd_sides_links.specs.Links.{Links, Linked, Reaction, of_sapi, primitives_of, primitives_at_removal, release_at_removal, primitive_of_tei}
use Rattle.lapd_sides.specs.Management.{removal_primitives}
use Rattle.lapd_sides.specs.SideState.{with_links}
use Rattle.lapd_sides.specs.User.{User, user_rules, primitive_of_sapi, pending_after}
use Rattle.lapd_two_side_laws.specs.Premises.{is_removal, is_assignment}
use Rattle.lapd_two_side_laws.proofs.LinkOps.{ArePlain, is_of_management, none_of_both, op_acts, IsLinkOp}
use Rattle.lapd_two_side_laws.proofs.Reactions.{AnyInput, HoldsOfLinks}
use Rattle.lapd_two_side_laws.proofs.Requests.{HoldsInTurn, pending_so}

pub plain_no_assignment : (t : ℕ) (ps : List Primitive) → ArePlain ps
    → list_any (is_assignment t) ps ≡ false
plain_no_assignment t [] h = refl
plain_no_assignment t (Of id w ∷ ps) h = plain_no_assignment t ps h
plain_no_assignment t (Management o ∷ ps) h = cc

pub plain_no_removal : (t : ℕ) (ps : List Primitive) → ArePlain ps → list_any (is_removal t) ps
    ≡ false
plain_no_removal t [] h = refl
plain_no_removal t (Of id w ∷ ps) h = plain_no_removal t ps h
plain_no_removal t (Management o ∷ ps) h = cc

pub plain_both : (xs ys : List Primitive) → ArePlain xs → ArePlain ys → ArePlain (xs ++ ys)
plain_both xs ys hx hy = none_of_both is_of_management xs ys hx hy

-- the primitives of removed links
plain_primitives : (at : LinkId) (w : Option What) → ArePlain (primitives_of at w)
plain_primitives at None = refl
plain_primitives at (Some w) = refl

plain_at : (at : LinkId) (l : Option Linked) → ArePlain (primitives_at_removal at l)
plain_at at None = refl
plain_at at (Some l) = plain_primitives at (release_at_removal l.end.state l.end.release_pending)

pub plain_removals : (freed : Option ℕ) (links : Links) → ArePlain (removal_primitives freed links)
unfolding primitive_of_tei
plain_removals None links = refl
plain_removals (Some t) links = plain_both (primitives_at_removal (of_sapi sapi.Call t)
    (links (of_sapi sapi.Call t))) (primitives_at_removal (of_sapi sapi.Packet t)
    (links (of_sapi sapi.Packet t)))
    (plain_at (of_sapi sapi.Call t) (links (of_sapi sapi.Call t)))
    (plain_at (of_sapi sapi.Packet t) (links (of_sapi sapi.Packet t)))

-- ---- Kept establishments.

pub record IsAside (s : User) (a : Reaction User) : Type 0 where
  pub terminal : a.after.management.terminal ≡ s.management.terminal
  pub timers : a.after.served.timers ≡ s.served.timers
  pub adds_none : (k : LinkId) → is_some (a.after.served.links k) ≡ true
      → is_some (s.served.links k) ≡ true
  pub delivered : ArePlain a.effects.primitives

pub aside_op : (s : User) (b : Reaction Links) → IsLinkOp s.served.links b
    → IsAside s (with_links s b)
aside_op s b op = record {
  terminal = refl;
  timers = refl;
  adds_none = op.adds_none;
  delivered = op.plain;
}

pub aside_links : (now : ℕ) → HoldsOfLinks user_rules now IsAside AnyInput
aside_links now = record {
  still = λ s. record { terminal = refl; timers = refl; adds_none = λ k h. h; delivered = refl };
  counts = λ s. record { terminal = refl; timers = refl; adds_none = λ k h. h; delivered = refl };
  reports = λ at octets s. record {
    terminal = refl;
    timers = refl;
    adds_none = λ k h. h;
    delivered = refl;
  };
  steps = λ id input octets s b plain permits done. aside_op s b
      (op_acts user_rules.side id s.served.links now input octets b done);
}

plain_group : (on : Bool) (at : Sapi) (w : What) → ArePlain (primitive_of_sapi on at w)
plain_group true at w = refl
plain_group false at w = refl

aside_in_turn : HoldsInTurn IsAside
aside_in_turn = record {
  kept = λ pending s a h. record {
    terminal = h.terminal;
    timers = h.timers;
    adds_none = h.adds_none;
    delivered = h.delivered;
  };
  both = λ s a does one each.
      let two = each a.after in
      record {
        terminal = two.terminal ∙ one.terminal;
        timers = two.timers ∙ one.timers;
        adds_none = λ k h. one.adds_none k (two.adds_none k h);
        delivered = plain_both a.effects.primitives (does a.after).effects.primitives
            one.delivered two.delivered;
      };
  gives_up = λ s. record {
    terminal = refl;
    timers = refl;
    adds_none = λ k h. h;
    delivered = plain_both
        (primitive_of_sapi s.management.pending.call sapi.Call what.Released)
        (primitive_of_sapi s.management.pending.packet sapi.Packet what.Released)
        (plain_group s.management.pending.call sapi.Call what.Released)
        (plain_group s.management.pending.packet sapi.Packet what.Released);
  };
}

pub pending_aside : (now : ℕ) (outs : List TeiOut) (s : User)
    → IsAside s (pending_after now outs s)
pending_aside now outs s =
    pending_so (aside_links now) aside_in_turn (λ id. tt) outs s
