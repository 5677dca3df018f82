-- TEI management assigns and obtains no TEI whose links exist, if it holds or has the TEIs of these
-- links.
use Rattle.std.proofs.Common.{◌≡◌, ◌⊎◌, inl, inr, ℕ, ◌==◌, List, Bool, true, false, if◌then◌else◌, Option, Some, None, refl, sym, ap, subst, ◌∙◌, arith}
use Rattle.std.specs.Prelude.{is_some}
use Rattle.std.specs.List.{list_any, filter_map}
use Rattle.std.proofs.lemmas.Bool.Decides.{nat_tests}
use Rattle.lapd_link_definition.proofs.Sending.{both_true}
use Rattle.lapd_frame.specs.declared.Side.{Side}
use Rattle.lapd_tei.specs.declared.out.TeiOut.{TeiOut}
use Rattle.lapd_tei.specs.Out.{tei_given, tei_freed}
use Rattle.lapd_table.specs.declared.link_id.LinkId.{LinkId}
use Rattle.lapd_sides_links.specs.declared.config.Config.{Config}
use Rattle.lapd_sides_links.specs.Effects.{Effects, outcome_of}
use Rattle.lapd_sides_links.specs.Links.{Links, Linked, Served, is_served, is_link_of, or_new, with_tei}
use Rattle.lapd_sides.specs.Management.{links_with, links_without, removal_primitives, manages}
use Rattle.lapd_side_events.specs.Interface.{fresh_link}
use Rattle.lapd_two_side_laws.specs.Premises.{is_assignment}
use Rattle.lapd_two_side_laws.proofs.LinkOps.{none_of_both}
use Rattle.lapd_two_side_laws.proofs.ReportsNoTei.{plain_no_assignment, plain_removals}
use Rattle.lapd_two_side_laws.proofs.Managed.{freed_here, freed_is_other, without_this, without_other}

-- each existing link has such a TEI
abbrev pub AreOf : (ℕ → Type 0) → Links → Type 0
AreOf P links = (k : LinkId) → is_some (links k) ≡ true → P k.tei

-- no primitive reports that the TEI of an existing link is assigned or obtained
abbrev pub IsQuietFor : Links → Effects → Type 0
IsQuietFor links effects =
    (k : LinkId) → is_some (links k) ≡ true
    → list_any (is_assignment k.tei) effects.primitives ≡ false

-- what a step of TEI management does to its TEIs: `P` holds for those before it, `Q` for those
-- after
pub record LeavesOwn (P Q : ℕ → Type 0) (outs : List TeiOut) : Type 0 where
  pub given : (t : ℕ) → tei_given outs ≡ Some t → Q t
  pub stays : (n : ℕ) → P n → (freed_here n (tei_freed outs) ≡ true) ⊎ Q n
  pub quiet : (n : ℕ) → P n → list_any (is_assignment n) (filter_map outcome_of outs) ≡ false

module _ (side : Side) (config : Config) (now : ℕ) (outs : List TeiOut) (s : Served)
    (P Q : ℕ → Type 0) (own : LeavesOwn P Q outs) (are : AreOf P s.links) where
  -- a TEI that stays
  stays_own : (k : LinkId) → freed_here k.tei (tei_freed outs) ≡ false → P k.tei → Q k.tei
  stays_own k preserved p = elim (own.stays k.tei p) [
    | inl freed ↦ (let no : true ≡ false = sym freed ∙ preserved in cc)
    | inr q ↦ q
  ]

  with_by : (k : LinkId) (t : ℕ) (test : Bool) → tei_given outs ≡ Some t
      → is_link_of config t k ≡ test → freed_here k.tei (tei_freed outs) ≡ false
      → is_some (if test then or_new (fresh_link config k) (s.links k) else s.links k) ≡ true
      → Q k.tei
  with_by k t true given is preserved there =
      let same : t ≡ k.tei =
      (let tested = (both_true (is_served config k.sapi) (k.tei == t) is).1 in
      grind (arith, nat_tests, tested)) in
      subst Q same (own.given t given)
  with_by k t false given is preserved there = stays_own k preserved (are k there)

  given_by : (k : LinkId) (g : Option ℕ) → tei_given outs ≡ g
      → freed_here k.tei (tei_freed outs) ≡ false → is_some (links_with config g s.links k) ≡ true
      → Q k.tei
  unfolding with_tei
  given_by k None given preserved there = stays_own k preserved (are k there)
  given_by k (Some t) given preserved there =
      with_by k t (is_link_of config t k) given refl preserved there

  by_freed : (k : LinkId) (freed : Bool) → freed_here k.tei (tei_freed outs) ≡ freed
      → is_some (links_without (tei_freed outs) (links_with config (tei_given outs) s.links) k)
      ≡ true → Q k.tei
  by_freed k true is there =
      let none : is_some
      (links_without (tei_freed outs) (links_with config (tei_given outs) s.links) k) ≡ false =
      ap (λ (o : Option Linked). is_some o)
      (without_this k (tei_freed outs) (links_with config (tei_given outs) s.links) is) in
      let no : true ≡ false = sym there ∙ none in
      cc
  by_freed k false is there =
      given_by k (tei_given outs) refl is
      (sym (ap (λ (o : Option Linked). is_some o)
      (without_other k (tei_freed outs) (links_with config (tei_given outs) s.links)
      (freed_is_other k.tei (tei_freed outs) is))) ∙ there)

  pub managed_are : AreOf Q (manages side config now outs s).after.links
  unfolding manages
  managed_are k there = by_freed k (freed_here k.tei (tei_freed outs)) refl there

  pub managed_is_quiet : IsQuietFor s.links (manages side config now outs s).effects
  unfolding manages
  managed_is_quiet k there =
      none_of_both (is_assignment k.tei) (filter_map outcome_of outs)
      (removal_primitives (tei_freed outs) (links_with config (tei_given outs) s.links))
      (own.quiet k.tei (are k there)) (plain_no_assignment k.tei
      (removal_primitives (tei_freed outs) (links_with config (tei_given outs) s.links))
      (plain_removals (tei_freed outs) (links_with config (tei_given outs) s.links)))
