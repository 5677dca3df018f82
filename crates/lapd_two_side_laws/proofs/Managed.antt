-- TEI management leaves a link unchanged if it neither assigns nor removes the link's TEI.
use Rattle.std.proofs.Common.{◌≡◌, ℕ, ◌<◌, ◌==◌, ◌&&◌, List, [], ◌∷◌, ◌++◌, Bool, true, false, if◌then◌else◌, Option, Some, None, refl, ap, subst, ◌∙◌, arith, ◌⊎◌, sym, inl, inr}
use Rattle.std.specs.Prelude.{◌||◌, IfSome, is_some}
use Rattle.std.specs.List.{list_any, filter_map, cons_option}
use Rattle.std.proofs.lemmas.Bool.Decides.{nat_tests}
use Rattle.std.proofs.lemmas.List.Elements.{filter_map-append}
use Rattle.lapd_frame.specs.declared.Side.{Side}
use Rattle.lapd_frame.specs.declared.Sapi.{Sapi}
use Rattle.lapd_frame.specs.declared.Sapi.TheVariants.{Call, Packet, Management}
use Rattle.lapd_link_definition.specs.declared.state.State.{State}
use Rattle.lapd_link_definition.specs.declared.state.State.TheVariants as state
use Rattle.lapd_tei.specs.declared.out.TeiOut.{TeiOut}
use Rattle.lapd_tei.specs.declared.out.TeiOut.TheVariants as outcome
use Rattle.lapd_tei.specs.Message.{group_tei, frame_of_message}
use Rattle.lapd_tei.specs.Out.{tei_given, tei_freed}
use Rattle.lapd_table.specs.declared.link_id.LinkId.{LinkId}
use Rattle.lapd_table.specs.LinkId.{id_eq}
use Rattle.lapd_sides_links.specs.declared.config.Config.{Config}
use Rattle.lapd_sides_links.specs.declared.primitive.Primitive.{Primitive}
use Rattle.lapd_sides_links.specs.declared.primitive.What.{What}
use Rattle.lapd_sides_links.specs.declared.primitive.What.TheVariants as what
use Rattle.lapd_sides_links.specs.Effects.{message_sent, outcome_of}
use Rattle.lapd_sides_links.specs.Links.{Links, Linked, Served, of_sapi, is_served, new_linked, or_new, parameters_for, with_tei, without_tei, release_at_removal, primitives_of, primitives_at_removal, primitive_of_tei, Reaction, with_link, is_link_of}
use Rattle.lapd_sides.specs.Management.{links_with, links_without, removal_primitives, manages}
use Rattle.lapd_two_side_laws.specs.Owed.{PassesBy, IsRemoval, AreSilent}
use Rattle.lapd_two_side_laws.specs.Addressed.{is_for}
use Rattle.lapd_two_side_laws.specs.Primitives.{what_for, link_primitives}
use Rattle.lapd_two_side_laws.specs.Premises.{is_removal, is_assignment, IsGivenOnce}
use Rattle.lapd_side_events.specs.Interface.{fresh_link}
use Rattle.lapd_two_side_laws.proofs.LinkParts.{none_pass, spelled_is_for, now_there, any_more, silent_both}

-- ---- Tests.

pub neither : (a b : Bool) → (a || b) ≡ false → (a ≡ false) × (b ≡ false)
neither false b h = (refl, h)
neither true b h = cc

pub and_not : (a b : Bool) → b ≡ false → (a && b) ≡ false
and_not true b h = h
and_not false b h = refl

any_of_both : {X : Type 0} (test : X → Bool) (xs ys : List X) → list_any test (xs ++ ys) ≡ false
    → (list_any test xs ≡ false) × (list_any test ys ≡ false)
any_of_both test [] ys h = (refl, h)
any_of_both test (x ∷ xs) ys h =
    let two = neither (test x) (list_any test (xs ++ ys)) h in
    let rest = any_of_both test xs ys two.1 in
    (rw two.0 rest.0, rest.1)

pub any_first : {X : Type 0} (test : X → Bool) (xs ys : List X) → list_any test (xs ++ ys) ≡ false
    → list_any test xs ≡ false
any_first test xs ys h = (any_of_both test xs ys h).0

pub any_second : {X : Type 0} (test : X → Bool) (xs ys : List X) → list_any test (xs ++ ys) ≡ false
    → list_any test ys ≡ false
any_second test xs ys h = (any_of_both test xs ys h).1

-- a link of another TEI is another link
pub other_tei : (sapi : Sapi) (t : ℕ) (id : LinkId) → (t == id.tei) ≡ false
    → id_eq id (of_sapi sapi t) ≡ false
other_tei sapi t id apart = and_not _ (id.tei == t) (grind (arith, nat_tests))

-- the group TEI has no link
pub not_of_group : (sapi : Sapi) (id : LinkId) → id.tei < 127
    → id_eq id (of_sapi sapi group_tei) ≡ false
not_of_group sapi id low = and_not _ (id.tei == 127) (grind (arith, nat_tests))

-- ---- The TEI that is assigned or freed is another one.

pub some_same : (x y : ℕ) → Some x ≡ Some y → x ≡ y
some_same x y h = cc

given_is_other : (tei : ℕ) (outs : List TeiOut)
    → list_any (is_assignment tei) (filter_map outcome_of outs) ≡ false → (t : ℕ)
    → tei_given outs ≡ Some t → (t == tei) ≡ false
given_is_other tei [] h t is = cc
given_is_other tei (outcome.Given u ∷ outs) h t is =
    subst (λ (x : ℕ). (x == tei) ≡ false) (some_same u t is) (neither (u == tei) _ h).0
given_is_other tei (outcome.Got u ∷ outs) h t is =
    subst (λ (x : ℕ). (x == tei) ≡ false) (some_same u t is) (neither (u == tei) _ h).0
given_is_other tei (other ∷ outs) h t is = given_is_other tei outs h t is

abbrev pub freed_here : ℕ → Option ℕ → Bool
freed_here tei None = false
freed_here tei (Some t) = t == tei

pub freed_is_other : (tei : ℕ) (freed : Option ℕ) → freed_here tei freed ≡ false → (t : ℕ)
    → freed ≡ Some t → (t == tei) ≡ false
freed_is_other tei None h t is = cc
freed_is_other tei (Some u) h t is = subst (λ (x : ℕ). (x == tei) ≡ false) (some_same u t is) h

-- a primitive reports a TEI that is freed
or_so : (a b : Bool) → a ≡ true → (a || b) ≡ true
or_so true b h = refl
or_so false b h = cc

pub freed_is_reported : (tei : ℕ) (outs : List TeiOut) → freed_here tei (tei_freed outs) ≡ true
    → list_any (is_removal tei) (filter_map outcome_of outs) ≡ true
freed_is_reported tei [] h = cc
freed_is_reported tei (outcome.Free u ∷ outs) h = or_so (u == tei) _ h
freed_is_reported tei (outcome.Doubled u ∷ outs) h = or_so (u == tei) _ h
freed_is_reported tei (outcome.Gone u ∷ outs) h = or_so (u == tei) _ h
freed_is_reported tei (other ∷ outs) h = freed_is_reported tei outs h

-- ---- Links of another TEI join and are removed.

pub with_other : (config : Config) (id : LinkId) (given : Option ℕ) (links : Links)
    → ((t : ℕ) → given ≡ Some t → (t == id.tei) ≡ false)
    → links_with config given links id ≡ links id
unfolding with_tei
with_other config id None links other = refl
with_other config id (Some t) links other =
    ap (λ (b : Bool). if b then or_new (new_linked (parameters_for config id.sapi) config.durations)
    (links id) else links id) (and_not (is_served config id.sapi) (id.tei == t)
    (let h = other t refl in grind (arith, nat_tests)))

given_by : (test : Bool) (fresh : Linked) (o : Option Linked) → o ≡ None
    → ((if test then or_new fresh o else o) ≡ None)
    ⊎ ((if test then or_new fresh o else o) ≡ Some fresh)
given_by true fresh o none = inr (ap (or_new fresh) none)
given_by false fresh o none = inl none

with_given : (config : Config) (id : LinkId) (given : Option ℕ) (links : Links) → links id ≡ None
    → (links_with config given links id ≡ None)
    ⊎ (links_with config given links id ≡ Some (fresh_link config id))
unfolding with_tei
with_given config id None links none = inl none
with_given config id (Some t) links none =
    given_by (is_link_of config t id) (fresh_link config id) (links id) none

pub without_other : (id : LinkId) (freed : Option ℕ) (links : Links)
    → ((t : ℕ) → freed ≡ Some t → (t == id.tei) ≡ false) → links_without freed links id ≡ links id
unfolding without_tei
without_other id None links other = refl
without_other id (Some t) links other =
    let apart : (id.tei == t) ≡ false = (let h = other t refl in grind (arith, nat_tests)) in
    ap (λ (b : Bool). if b then None else links id) apart

-- the primitives for removed links
removal_other : (id at : LinkId) (w : Option What) → id_eq id at ≡ false
    → link_primitives id (primitives_of at w) ≡ []
removal_other id at None apart = refl
removal_other id at (Some w) apart = rw apart refl

removal_at_other : (id at : LinkId) (l : Option Linked) → id_eq id at ≡ false
    → link_primitives id (primitives_at_removal at l) ≡ []
removal_at_other id at None apart = refl
removal_at_other id at (Some l) apart =
    removal_other id at (release_at_removal l.end.state l.end.release_pending) apart

removal_of_other : (id : LinkId) (freed : Option ℕ) (links : Links)
    → ((t : ℕ) → freed ≡ Some t → (t == id.tei) ≡ false)
    → link_primitives id (removal_primitives freed links) ≡ []
unfolding primitive_of_tei
removal_of_other id None links other = refl
removal_of_other id (Some t) links other =
    filter_map-append (what_for id)
    (primitives_at_removal (of_sapi Call t) (links (of_sapi Call t)))
    (primitives_at_removal (of_sapi Packet t) (links (of_sapi Packet t)))
    ∙ rw (
      removal_at_other id (of_sapi Call t) (links (of_sapi Call t))
          (other_tei Call t id (other t refl)),
      removal_at_other id (of_sapi Packet t) (links (of_sapi Packet t))
          (other_tei Packet t id (other t refl)),
    ) refl

-- ---- Messages and outcomes.

pub message_is_other : (side : Side) (id : LinkId) (out : TeiOut) → id.tei < 127
    → IfSome (message_sent side out) (λ octets. is_for side id octets ≡ false)
message_is_other side id (outcome.Send message) low =
    spelled_is_for side id (frame_of_message message) ∙ not_of_group Management id low
message_is_other side id other low = tt

outcomes_are_other : (id : LinkId) (outs : List TeiOut)
    → link_primitives id (filter_map outcome_of outs) ≡ []
outcomes_are_other id [] = refl
outcomes_are_other id (outcome.Send message ∷ outs) = outcomes_are_other id outs
outcomes_are_other id (outcome.Start timer ∷ outs) = outcomes_are_other id outs
outcomes_are_other id (outcome.Stop timer ∷ outs) = outcomes_are_other id outs
outcomes_are_other id (outcome.Got t ∷ outs) = outcomes_are_other id outs
outcomes_are_other id (outcome.Gone t ∷ outs) = outcomes_are_other id outs
outcomes_are_other id (outcome.Failed ∷ outs) = outcomes_are_other id outs
outcomes_are_other id (outcome.Given t ∷ outs) = outcomes_are_other id outs
outcomes_are_other id (outcome.Free t ∷ outs) = outcomes_are_other id outs
outcomes_are_other id (outcome.InUse t ∷ outs) = outcomes_are_other id outs
outcomes_are_other id (outcome.Doubled t ∷ outs) = outcomes_are_other id outs

-- ---- The primitives for removed links.

abbrev IsQuietOfLink : What → Type 0
IsQuietOfLink what.Released = Unit {0}
IsQuietOfLink what.ReleaseConfirm = Unit {0}
IsQuietOfLink other = ⊥

quiet_removal : (state : State) (pending : Bool)
    → IfSome (release_at_removal state pending) IsQuietOfLink
quiet_removal state.TeiAssigned pending = tt
quiet_removal state.AwaitingEstablishment true = tt
quiet_removal state.AwaitingEstablishment false = tt
quiet_removal state.AwaitingRelease pending = tt
quiet_removal state.MultipleFrameEstablished pending = tt
quiet_removal state.TimerRecovery pending = tt

nothing_silent : AreSilent []
nothing_silent = record { teaches = λ k. refl; expected = tt }

-- one primitive, of this link or of another
quiet_by : (w : What) (test : Bool) → IsQuietOfLink w
    → AreSilent (cons_option (if test then Some w else None) [])
quiet_by what.Released true h = record { teaches = λ k. refl; expected = (tt, tt) }
quiet_by what.ReleaseConfirm true h = record { teaches = λ k. refl; expected = (tt, tt) }
quiet_by w false h = nothing_silent
quiet_by other true h = absurd h

quiet_primitives : (id at : LinkId) (w : Option What) → IfSome w IsQuietOfLink
    → AreSilent (link_primitives id (primitives_of at w))
quiet_primitives id at None h = nothing_silent
quiet_primitives id at (Some w) h = quiet_by w (id_eq id at) h

quiet_at : (id at : LinkId) (l : Option Linked)
    → AreSilent (link_primitives id (primitives_at_removal at l))
quiet_at id at None = nothing_silent
quiet_at id at (Some l) =
    quiet_primitives id at (release_at_removal l.end.state l.end.release_pending)
    (quiet_removal l.end.state l.end.release_pending)

quiet_without : (id : LinkId) (freed : Option ℕ) (links : Links)
    → AreSilent (link_primitives id (removal_primitives freed links))
unfolding primitive_of_tei
quiet_without id None links = nothing_silent
quiet_without id (Some t) links =
    subst AreSilent (sym (filter_map-append (what_for id)
    (primitives_at_removal (of_sapi Call t) (links (of_sapi Call t)))
    (primitives_at_removal (of_sapi Packet t) (links (of_sapi Packet t)))))
    (silent_both
    (link_primitives id (primitives_at_removal (of_sapi Call t) (links (of_sapi Call t))))
    (link_primitives id
    (primitives_at_removal (of_sapi Packet t) (links (of_sapi Packet t))))
    (quiet_at id (of_sapi Call t) (links (of_sapi Call t)))
    (quiet_at id (of_sapi Packet t) (links (of_sapi Packet t))))

pub without_this : (id : LinkId) (freed : Option ℕ) (links : Links) → freed_here id.tei freed ≡ true
    → links_without freed links id ≡ None
unfolding without_tei
without_this id None links here = cc
without_this id (Some t) links here =
    let same : (id.tei == t) ≡ true = grind (arith, nat_tests, here) in
    ap (λ (b : Bool). if b then None else links id) same

-- ---- A step of TEI management.

module _ (side : Side) (config : Config) (now : ℕ) (outs : List TeiOut) (s : Served) (id : LinkId)
    (low : id.tei < 127) where
  abbrev Managed : Reaction Served
  Managed = manages side config now outs s

  abbrev PassesFrom : Links → Type 0
  PassesFrom before = PassesBy side id before Managed.after.links Managed.effects

  -- the step delivers the primitives for TEIs first
  outcomes_are_of : (reporting : Primitive → Bool)
      → list_any reporting Managed.effects.primitives ≡ false
      → list_any reporting (filter_map outcome_of outs) ≡ false
  unfolding manages
  outcomes_are_of reporting none =
      any_first reporting (filter_map outcome_of outs)
      (removal_primitives (tei_freed outs) (links_with config (tei_given outs) s.links)) none

  -- if a link's TEI is not removed, no frame and no primitive of the step is for the link
  by_links : (before : Links) → freed_here id.tei (tei_freed outs) ≡ false
      → links_with config (tei_given outs) s.links id ≡ before id → PassesFrom before
  unfolding manages
  by_links before not_freed links =
      let freed = freed_is_other id.tei (tei_freed outs) not_freed in
      record {
        links =
            without_other id (tei_freed outs) (links_with config (tei_given outs) s.links) freed
            ∙ links;
        frames =
            none_pass (is_for side id) (message_sent side) outs
            (λ out. message_is_other side id out low);
        delivered =
            filter_map-append (what_for id) (filter_map outcome_of outs)
            (removal_primitives (tei_freed outs) (links_with config (tei_given outs) s.links))
            ∙ rw (
              outcomes_are_other id outs,
              removal_of_other id (tei_freed outs)
                  (links_with config (tei_given outs) s.links) freed,
            ) refl;
      }

  removes : freed_here id.tei (tei_freed outs) ≡ true
      → IsRemoval side id Managed.after.links Managed.effects
  unfolding manages
  removes freed =
      let more = removal_primitives (tei_freed outs) (links_with config (tei_given outs) s.links) in
      let all : link_primitives id (filter_map outcome_of outs ++ more) ≡ link_primitives id more =
      filter_map-append (what_for id) (filter_map outcome_of outs) more
      ∙ ap (λ l. l ++ link_primitives id more) (outcomes_are_other id outs) in
      record {
        now_absent =
            without_this id (tei_freed outs) (links_with config (tei_given outs) s.links) freed;
        frames =
            none_pass (is_for side id) (message_sent side) outs
            (λ out. message_is_other side id out low);
        delivered =
            subst AreSilent (sym all)
            (quiet_without id (tei_freed outs) (links_with config (tei_given outs) s.links));
        reporting =
            any_more (is_removal id.tei) (filter_map outcome_of outs) more
            (freed_is_reported id.tei outs freed);
      }

  -- if no primitive reports an assignment, no outcome is one
  pub outcomes_spare : list_any (is_assignment id.tei) Managed.effects.primitives ≡ false
      → list_any (is_assignment id.tei) (filter_map outcome_of outs) ≡ false
  outcomes_spare none = outcomes_are_of (is_assignment id.tei) none

  passes_by : freed_here id.tei (tei_freed outs) ≡ false
      → list_any (is_assignment id.tei) Managed.effects.primitives ≡ false → PassesFrom s.links
  passes_by not_freed not_given =
      by_links s.links not_freed (with_other config id (tei_given outs) s.links
      (given_is_other id.tei outs (outcomes_spare not_given)))

  -- the link joins, if its TEI was not removed before
  pub record IsAdded (removed : Bool) : Type 0 where
    pub absent : s.links id ≡ None
    pub not_removed : removed ≡ false
    pub passes : PassesFrom (with_link id (Some (fresh_link config id)) s.links)

  abbrev pub IsUnmovedByManagement : Bool → Type 0
  IsUnmovedByManagement removed =
      PassesFrom s.links ⊎ (IsAdded removed ⊎ IsRemoval side id Managed.after.links Managed.effects)

  absent : (removed : Bool) → freed_here id.tei (tei_freed outs) ≡ false → s.links id ≡ None
      → IsGivenOnce id s.links removed Managed.effects → IsUnmovedByManagement removed
  absent true not_freed none once =
      inl (passes_by not_freed (once (ap (λ (o : Option Linked). is_some o || true) none)))
  absent false not_freed none once = elim (with_given config id (tei_given outs) s.links none) [
    | inl stays ↦ inl (by_links s.links not_freed (stays ∙ sym none))
    | inr arrives ↦ inr (inl (record {
      absent = none;
      not_removed = refl;
      passes =
          by_links (with_link id (Some (fresh_link config id)) s.links) not_freed
          (arrives ∙ sym (now_there id (fresh_link config id) s.links));
    }))
  ]

  by_cases : (removed freed : Bool) (o : Option Linked) → freed_here id.tei (tei_freed outs) ≡ freed
      → s.links id ≡ o → IsGivenOnce id s.links removed Managed.effects
      → IsUnmovedByManagement removed
  by_cases removed true o freed is once = inr (inr (removes freed))
  by_cases removed false (Some l) not_freed is once =
      inl (passes_by not_freed (once (ap (λ (x : Option Linked). is_some x || removed) is)))
  by_cases removed false None not_freed is once = absent removed not_freed is once

  pub managing : (removed : Bool) → IsGivenOnce id s.links removed Managed.effects
      → IsUnmovedByManagement removed
  managing removed once =
      by_cases removed (freed_here id.tei (tei_freed outs)) (s.links id) refl refl once
