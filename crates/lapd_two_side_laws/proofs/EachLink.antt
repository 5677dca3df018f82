-- A property of one link that each of its steps keeps, or ends with an answer to layer 3: among the
-- links of a side, and in a step of TEI management.
use Rattle.std.proofs.Common.{◌≡◌, ◌⊎◌, inl, inr, ℕ, List, [], ◌∷◌, ◌++◌, Bool, true, false, if◌then◌else◌, Option, Some, None, Result, Ok, Err, refl, sym, ap, subst, ◌∙◌, arith}
use Rattle.std.specs.Prelude.{◌==◌, ◌&&◌}
use Rattle.std.specs.List.{filter_map, list_any}
use Rattle.std.proofs.lemmas.Bool.Decides.{nat_tests}
use Rattle.std.proofs.lemmas.List.Elements.{filter_map-append}
use Rattle.lapd_timers.specs.declared.timer.Timer.{Timer}
use Rattle.lapd_timers.specs.Due.{Timers}
use Rattle.lapd_frame.specs.declared.Sapi.{Sapi}
use Rattle.lapd_frame.specs.declared.Sapi.TheVariants.{Call, Packet, Management}
use Rattle.lapd_frame.specs.declared.Side.{Side}
use Rattle.lapd_mod128.specs.Counting.{Tagged}
use Rattle.lapd_link_definition.specs.End.{StepState}
use Rattle.lapd_link_definition.specs.Input.{Input, Expiry}
use Rattle.lapd_link_definition.specs.Table.{step}
use Rattle.lapd_tei.specs.declared.out.TeiOut.{TeiOut}
use Rattle.lapd_tei.specs.Out.{tei_given, tei_freed}
use Rattle.lapd_table.specs.declared.link_id.LinkId.{LinkId}
use Rattle.lapd_table.specs.LinkId.{id_eq}
use Rattle.lapd_table.proofs.Ids.{id_eq_self, same_id_eq}
use Rattle.lapd_sides_links.specs.declared.config.Config.{Config}
use Rattle.lapd_sides_links.specs.declared.primitive.Primitive.{Primitive}
use Rattle.lapd_sides_links.specs.declared.primitive.What.{What}
use Rattle.lapd_sides_links.specs.declared.side_fault.SideKind.{SideKind}
use Rattle.lapd_sides_links.specs.Effects.{Effects, outcome_of, what_of, timed, stopped}
use Rattle.lapd_sides_links.specs.Links.{Links, Linked, Reaction, Served, of_sapi, is_served, parameters_for, link_acts, link_expires, in_links, new_linked, or_new, is_link_of, with_tei, without_tei, release_at_removal, primitives_of, primitives_at_removal, primitive_of_tei}
use Rattle.lapd_sides.specs.Management.{links_with, links_without, removal_primitives, manages}
use Rattle.lapd_two_side_laws.specs.EndAnswers.{is_release}
use Rattle.lapd_two_side_laws.specs.Owed.{PassesBy, IsStep}
use Rattle.lapd_two_side_laws.specs.Primitives.{what_for, link_primitives}
use Rattle.lapd_two_side_laws.proofs.LinkParts.{absent_expires, any_more, any_behind, absent_acts, other_acts, other_expires, own_granted, own_reaction, own_is_step, own_expires}
use Rattle.lapd_two_side_laws.proofs.Reactions.{IsNoExpiry}

-- call control and packet communication have links
abbrev pub HasLinks : Sapi → Type 0
HasLinks Call = Unit {0}
HasLinks Packet = Unit {0}
HasLinks Management = ⊥

abbrev pub at_removal : Linked → List What
at_removal l = filter_map (λ (w : Option What). w) (release_at_removal l.end.state
    l.end.release_pending ∷ [])

-- the result of a step of this link
abbrev pub after_step : ℕ → Timers → StepState → Linked
after_step now timers s = record { end = s.end; timers = timed now s.outs timers }

-- `O` holds of the link, which may not exist, and `p` says which primitives answer. `may` says
-- whether layer 3 may request a release.
module _ (id : LinkId) (may : Bool) (O : Option Linked → Type 0) (p : What → Bool) where
  abbrev pub Answers : List Primitive → Type 0
  Answers primitives = list_any p (link_primitives id primitives) ≡ true

  abbrev pub Goes : Links → List Primitive → Type 0
  Goes links primitives = Answers primitives ⊎ O (links id)

  -- the input of another link, or one that is permitted
  abbrev pub IsPermitted : LinkId → Input → Type 0
  IsPermitted other input = id_eq id other ≡ true → may ≡ false → is_release input ≡ false

  pub record IsKept (config : Config) (now : ℕ) : Type 0 where
    pub steps : (input : Input) (octets : List ℕ) (l : Linked) (s : StepState) → IsNoExpiry input
        → (may ≡ false → is_release input ≡ false) → O (Some l) → step Tagged input l.end ≡ Ok s
        → (list_any p (filter_map (what_of octets) s.outs) ≡ true)
        ⊎ O (Some (after_step now l.timers s))
    pub removed : (l : Linked) → O (Some l)
        → (HasLinks id.sapi × (list_any p (at_removal l) ≡ true)) ⊎ O None
    pub joins : is_served config id.sapi ≡ true → O None
        → O (Some (new_linked (parameters_for config id.sapi) config.durations))

  -- ---- Among the links of a side.

  passed : (side : Side) (before now : Links) (effects : Effects)
      → PassesBy side id before now effects → O (before id) → Goes now effects.primitives
  passed side before now effects h o = inr (subst O (sym h.links) o)

  module _ (config : Config) (now : ℕ) (kept : IsKept config now) (side : Side) where
    own_step : (input : Input) (octets : List ℕ) (before after : Links) (effects : Effects)
        → IsNoExpiry input → (may ≡ false → is_release input ≡ false)
        → IsStep side id now input octets (λ (t : Timers). t) before after effects
        → O (before id) → Goes after effects.primitives
    own_step input octets before after effects plain permits x o =
        elim (kept.steps input octets x.linked x.done plain permits (subst O x.was o) x.is) [
          | inl h ↦ inl (subst (λ ws. list_any p ws ≡ true) (sym x.delivered) h)
          | inr next ↦ inr (subst O (sym x.links) next)
        ]

    own_goes : (input : Input) (octets : List ℕ) (links : Links) (a : Reaction Links)
        (l : Option Linked) → links id ≡ l → IsNoExpiry input
        → (may ≡ false → is_release input ≡ false) → O (links id)
        → in_links id (link_acts side id now input octets) links ≡ Ok a
        → Goes a.after a.effects.primitives
    own_goes input octets links a None is plain permits o done =
        passed side links a.after a.effects
        (absent_acts side id id links now input octets a is done) o
    own_goes input octets links a (Some l) is plain permits o done =
        own_step input octets links a.after a.effects plain permits
        (own_granted side id links now input octets l a is done).is_step o

    acted_by : (other : LinkId) (input : Input) (octets : List ℕ) (links : Links)
        (a : Reaction Links) (test : Bool) → id_eq id other ≡ test → IsNoExpiry input
        → IsPermitted other input → O (links id)
        → in_links other (link_acts side other now input octets) links ≡ Ok a
        → Goes a.after a.effects.primitives
    acted_by other input octets links a false apart plain permits o done =
        passed side links a.after a.effects
        (other_acts side id other links now input octets a apart done) o
    acted_by other input octets links a true same plain permits o done =
        let is : in_links id (link_acts side id now input octets) links ≡ Ok a =
        subst (λ (k : LinkId). in_links k (link_acts side k now input octets) links ≡ Ok a)
        (sym (same_id_eq id other same)) done in
        own_goes input octets links a (links id) refl plain (permits same) o is

    pub acts : (other : LinkId) (input : Input) (octets : List ℕ) (links : Links)
        (a : Reaction Links) → IsNoExpiry input → IsPermitted other input → O (links id)
        → in_links other (link_acts side other now input octets) links ≡ Ok a
        → Goes a.after a.effects.primitives
    acts other input octets links a plain permits o done =
        acted_by other input octets links a (id_eq id other) refl plain permits o done

    -- ---- TEI management.

    or_joins : (l : Option Linked) → is_served config id.sapi ≡ true → O l
        → O (or_new (new_linked (parameters_for config id.sapi) config.durations) l)
    or_joins None is o = kept.joins is o
    or_joins (Some l) is o = o

    joins_by : (tei : ℕ) (test : Bool) (l : Option Linked) → is_link_of config tei id ≡ test → O l
        → O (if test then or_new (new_linked (parameters_for config id.sapi) config.durations) l
        else l)
    joins_by tei true l is o =
        or_joins l (both (is_served config id.sapi) (id.tei == tei) is) o
      where
        both : (a b : Bool) → (a && b) ≡ true → a ≡ true
        both true b h = refl
        both false b h = cc
    joins_by tei false l is o = o

    with_given : (given : Option ℕ) (links : Links) → O (links id)
        → O (links_with config given links id)
    unfolding with_tei
    with_given None links o = o
    with_given (Some tei) links o = joins_by tei (is_link_of config tei id) (links id) refl o

    -- the release of this link is reported, if its TEI is removed
    reported : (at : LinkId) (w : Option What) → id_eq id at ≡ true
        → list_any p (filter_map (λ (w : Option What). w) (w ∷ [])) ≡ true
        → Answers (primitives_of at w)
    reported at None same h = cc
    reported at (Some w) same h = rw same h

    reported_at : (links : Links) (at : LinkId) (l : Linked) → id ≡ at → links id ≡ Some l
        → list_any p (at_removal l) ≡ true → Answers (primitives_at_removal at (links at))
    reported_at links at l same is h =
        subst (λ (o : Option Linked). Answers (primitives_at_removal at o))
        (sym (sym (ap links same) ∙ is))
        (reported at (release_at_removal l.end.state l.end.release_pending)
        (subst (λ (k : LinkId). id_eq id k ≡ true) same (id_eq_self id)) h)

    both_reported : (xs ys : List Primitive) → Answers xs ⊎ Answers ys → Answers (xs ++ ys)
    both_reported xs ys (inl h) =
        subst (λ ws. list_any p ws ≡ true) (sym (filter_map-append (what_for id) xs ys))
        (any_more p (link_primitives id xs) (link_primitives id ys) h)
    both_reported xs ys (inr h) =
        subst (λ ws. list_any p ws ≡ true) (sym (filter_map-append (what_for id) xs ys))
        (any_behind p (link_primitives id xs) (link_primitives id ys) h)

    reported_of_tei : (sapi : Sapi) → id.sapi ≡ sapi → HasLinks sapi → (links : Links)
        (l : Linked) → links id ≡ Some l → list_any p (at_removal l) ≡ true
        → Answers (primitive_of_tei id.tei links)
    unfolding primitive_of_tei
    reported_of_tei Call same has links l is h =
        let first = of_sapi Call id.tei in
        let second = of_sapi Packet id.tei in
        both_reported (primitives_at_removal first (links first))
        (primitives_at_removal second (links second))
        (inl (reported_at links first l (ap (λ s. of_sapi s id.tei) same) is h))
    reported_of_tei Packet same has links l is h =
        let first = of_sapi Call id.tei in
        let second = of_sapi Packet id.tei in
        both_reported (primitives_at_removal first (links first))
        (primitives_at_removal second (links second))
        (inr (reported_at links second l (ap (λ s. of_sapi s id.tei) same) is h))
    reported_of_tei Management same has links l is h = absurd has

    removes : (outcomes : List Primitive) (links : Links) (l : Option Linked) → links id ≡ l
        → O (links id) → Answers (outcomes ++ primitive_of_tei id.tei links) ⊎ O None
    removes outcomes links None is o = inr (subst O is o)
    removes outcomes links (Some l) is o = elim (kept.removed l (subst O is o)) [
      | inl h ↦ inl (both_reported outcomes (primitive_of_tei id.tei links)
          (inr (reported_of_tei id.sapi refl h.0 links l is h.1)))
      | inr none ↦ inr none
    ]

    without_by : (tei : ℕ) (outcomes : List Primitive) (links : Links) (test : Bool)
        → (id.tei == tei) ≡ test → O (links id)
        → Answers (outcomes ++ primitive_of_tei tei links)
        ⊎ O (if test then None else links id)
    without_by tei outcomes links true same o =
        let is : id.tei ≡ tei = grind (arith, nat_tests, same) in
        subst (λ t. Answers (outcomes ++ primitive_of_tei t links) ⊎ O None) is
        (removes outcomes links (links id) refl o)
    without_by tei outcomes links false other o = inr o

    without : (freed : Option ℕ) (outcomes : List Primitive) (links : Links) → O (links id)
        → Goes (links_without freed links) (outcomes ++ removal_primitives freed links)
    unfolding without_tei
    without None outcomes links o = inr o
    without (Some tei) outcomes links o =
        without_by tei outcomes links (id.tei == tei) refl o

    pub managing : (outs : List TeiOut) (s : Served) → O (s.links id)
        → Goes (manages side config now outs s).after.links
        (manages side config now outs s).effects.primitives
    unfolding manages
    managing outs s o =
        without (tei_freed outs) (filter_map outcome_of outs)
        (links_with config (tei_given outs) s.links) (with_given (tei_given outs) s.links o)

  -- ---- A timer of a link expires, and then `Q` holds.

  module _ (side : Side) (now : ℕ) (Q : Option Linked → Type 0) (other : LinkId) (timer : Timer)
      (apart : id_eq id other ≡ false → (o : Option Linked) → O o → Q o) (absent : O None → Q None)
      (expires : id_eq id other ≡ true → (l : Linked) (s : StepState) → O (Some l)
      → step Tagged (Expiry timer) l.end ≡ Ok s
      → (list_any p (filter_map (what_of []) s.outs) ≡ true)
      ⊎ Q (Some (after_step now (stopped timer l.timers) s))) (links : Links) where
    abbrev pub GoesTo : Links → List Primitive → Type 0
    GoesTo after primitives = Answers primitives ⊎ Q (after id)

    abbrev Expired : LinkId → Result (Reaction Links) SideKind
    Expired at = in_links at (link_expires side at now timer) links

    same_reaction : (x y : Reaction Links) (r : Result (Reaction Links) SideKind) → r ≡ Ok x
        → r ≡ Ok y → x ≡ y
    same_reaction x y r hx hy = cc

    expired_there : (l : Linked) (s : StepState) (a : Reaction Links) → id_eq id other ≡ true
        → links id ≡ Some l → step Tagged (Expiry timer) l.end ≡ Ok s → O (links id)
        → Expired id ≡ Ok a → GoesTo a.after a.effects.primitives
    expired_there l s a same was is o done =
        let own = own_reaction side id links now (Expiry timer) [] (stopped timer) l s was is in
        let x = own_is_step side id links now (Expiry timer) [] (stopped timer) l s was is in
        let goes : GoesTo own.after own.effects.primitives = elim
        (expires same x.linked x.done (subst O x.was o) x.is) [
          | inl h ↦ inl (subst (λ ws. list_any p ws ≡ true) (sym x.delivered) h)
          | inr q ↦ inr (subst Q (sym x.links) q)
        ] in
        subst (λ (b : Reaction Links). GoesTo b.after b.effects.primitives)
        (same_reaction own a (Expired id) (own_expires side id links now timer l s was is) done)
        goes

    steps_by : (l : Linked) → (s : StepState) × (step Tagged (Expiry timer) l.end ≡ Ok s)
    unfolding step
    steps_by l = (_, refl)

    expired_own : (l : Option Linked) (a : Reaction Links) → id_eq id other ≡ true → links id ≡ l
        → O (links id) → Expired id ≡ Ok a → GoesTo a.after a.effects.primitives
    expired_own None a same was o done =
        absurd (absent_expires side id links now timer a was done)
    expired_own (Some l) a same was o done =
        let s = steps_by l in
        expired_there l s.0 a same was s.1 o done

    named : id_eq id other ≡ true → Expired id ≡ Expired other
    named same = ap (λ (k : LinkId). Expired k) (same_id_eq id other same)

    expired_by : (test : Bool) (a : Reaction Links) → id_eq id other ≡ test → O (links id)
        → Expired other ≡ Ok a → GoesTo a.after a.effects.primitives
    expired_by true a same o done =
        expired_own (links id) a same refl o (named same ∙ done)
    expired_by false a different o done =
        let passes = other_expires side id other links now timer a different done in
        inr (subst Q (sym passes.links) (apart different (links id) o))

    pub expired_ok : (a : Reaction Links) → O (links id) → Expired other ≡ Ok a
        → GoesTo a.after a.effects.primitives
    expired_ok a o done = expired_by (id_eq id other) a refl o done

    -- only a link that does not exist refuses to expire a timer
    refused_own : (l : Option Linked) (kind : SideKind) → links id ≡ l → O (links id)
        → Expired id ≡ Err kind → Q (links id)
    refused_own None kind was o err = subst Q (sym was) (absent (subst O was o))
    refused_own (Some l) kind was o err =
        let s = steps_by l in
        let ok = own_expires side id links now timer l s.0 was s.1 in cc

    refused_by : (test : Bool) (kind : SideKind) → id_eq id other ≡ test → O (links id)
        → Expired other ≡ Err kind → Q (links id)
    refused_by true kind same o err = refused_own (links id) kind refl o (named same ∙ err)
    refused_by false kind different o err = apart different (links id) o

    pub expired_err : (kind : SideKind) → O (links id) → Expired other ≡ Err kind → Q (links id)
    expired_err kind o err = refused_by (id_eq id other) kind refl o err

  -- ---- One step after another.

  pub then_goes : (links : Links) (first second : List Primitive)
      → Answers first ⊎ Goes links second → Goes links (first ++ second)
  then_goes links first second (inl h) = inl (
      subst (λ ws. list_any p ws ≡ true) (sym (filter_map-append (what_for id) first second))
      (any_more p (link_primitives id first) (link_primitives id second) h))
  then_goes links first second (inr (inl h)) = inl (
      subst (λ ws. list_any p ws ≡ true) (sym (filter_map-append (what_for id) first second))
      (any_behind p (link_primitives id first) (link_primitives id second) h))
  then_goes links first second (inr (inr o)) = inr o
