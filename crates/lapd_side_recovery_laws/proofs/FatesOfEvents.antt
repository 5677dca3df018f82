-- Each event of a side has one of the fates for each of its links.
use Rattle.std.proofs.Common.{◌≡◌, inl, inr, ℕ, Bool, true, false, if◌then◌else◌, List, [], ◌∷◌, drop, Option, Some, None, Result, Ok, Err, refl, sym, ap, subst, ◌∙◌}
use Rattle.std.specs.Prelude.{is_some}
use Rattle.std.specs.List.{list_any, remove}
use Rattle.lapd_timers.specs.declared.timer.Timer.{Timer}
use Rattle.lapd_timers.specs.declared.timer.Timer.TheVariants.{T200, T201, T202, T203}
use Rattle.lapd_frame.specs.declared.Side.{Side}
use Rattle.lapd_frame.specs.Address.{other_side}
use Rattle.lapd_mod128.specs.Counting.{Tagged}
use Rattle.lapd_link_definition.specs.Input.{Heard}
use Rattle.lapd_pair_laws.specs.Consistent.{AreProper}
use Rattle.lapd_pair_laws.specs.Move.{View}
use Rattle.lapd_pair_laws.proofs.Consistency.{IsConsistentView}
use Rattle.lapd_table.specs.declared.link_id.LinkId.{LinkId}
use Rattle.lapd_table.specs.LinkId.{id_eq}
use Rattle.lapd_table.proofs.Ids.{same_id_eq}
use Rattle.lapd_sides_links.specs.declared.side_fault.SideKind.{SideKind}
use Rattle.lapd_sides_links.specs.Links.{IsOfLink, Linked, Reaction}
use Rattle.lapd_sides.specs.declared.request.Request.{Request}
use Rattle.lapd_side_events.specs.SideView.{Behaviour, SideEvent, SideView, Take, Lose, Expire, Ask, Overhear, accepted, accepted_by, left, may_expire, or_unmoved, reaction, runs_on, takes_first, unmoved}
use Rattle.lapd_two_side_laws.specs.Addressed.{all_spelled, is_final_for, is_for, is_poll_for, those_for}
use Rattle.lapd_two_side_laws.specs.Owed.{IsStep, PassesBy}
use Rattle.lapd_two_side_laws.specs.Premises.{GivesTeiOnce, IsGivenOnce, IsTimely, is_removal}
use Rattle.lapd_two_side_laws.specs.Primitives.{given_to}
use Rattle.lapd_two_side_laws.specs.Projects.{Projects}
use Rattle.lapd_two_side_laws.proofs.EventFacts.{expiry_is_done, received_is_done}
use Rattle.lapd_two_side_laws.proofs.LinkParts.{passes_by_nothing}
use Rattle.lapd_two_side_laws.proofs.Lines.{IsFirst, first_of}
use Rattle.lapd_two_side_laws.proofs.SideEvents.{Serves, none_accepted}
use Rattle.lapd_clock_laws.specs.Clock.{moment_of}
use Rattle.lapd_side_recovery_laws.specs.Counts.{is_t203_of}
use Rattle.lapd_side_recovery_laws.specs.Quiet.{LeavesLink}
use Rattle.lapd_side_recovery_laws.proofs.Fates.{Fate, is_203}

module _ (S : Type 0) (w : Behaviour S) (side : Side) (id : LinkId) (serves : Serves S w side id)
  where
    abbrev Once : SideView S → Reaction S → Type 0
    Once v a = IsGivenOnce id (w.served v.now).links (list_any (is_removal id.tei) v.delivered)
        a.effects

    -- that an event leaves the link alone
    abbrev pub Left : SideEvent → SideView S → Type 0
    Left (Lose at) v = those_for (other_side side) id (remove v.incoming at)
        ≡ those_for (other_side side) id v.incoming
    Left (Ask request now) v = PassesBy side id (w.served v.now).links
        (w.served (reaction w (Ask request now) v).after).links
        (reaction w (Ask request now) v).effects
        × (given_to id (accepted_by w request now v.now) ≡ [])
    Left event v = Unit {0}

    pub left_alone : (event : SideEvent) (v : SideView S) → LeavesLink w side id event v
        → Left event v
    left_alone (Lose at) v h = h
    left_alone (Ask request now) v h = (h.passes, h.none_given)
    left_alone (Take now) v h = tt
    left_alone (Expire timer of now) v h = tt
    left_alone (Overhear octets now) v h = tt

    -- nothing happens to the side
    nothing : (v : SideView S) (view : View) (at : ℕ) (idle : Bool) (Leaves : Type 0)
        (more : List (LinkId × List ℕ)) (line : List (List ℕ)) → given_to id more ≡ []
        → (Leaves → those_for (other_side side) id line ≡ those_for (other_side side) id v.incoming)
        → Fate w side id v view at idle Leaves (unmoved v.now) more line
    nothing v view at idle Leaves more line none stays = inl (record {
      by = inl (passes_by_nothing side id (w.served v.now).links);
      none_given = none;
      stays = λ there leaves. stays leaves;
    })

    -- ---- Octets are taken.

    none_there : (v : SideView S) → (w.served v.now).links id ≡ None
        → is_some ((w.served v.now).links id) ≡ true → ⊥
    none_there v none there = let no : false ≡ true = sym (ap is_some none) ∙ there in cc

    own_taken : (v : SideView S) (view : View) (now : ℕ) (octets : List ℕ) (rest : List (List ℕ))
        (o : Option Linked) → (w.served v.now).links id ≡ o → IsConsistentView Tagged view
        → IsFirst (other_side side) id octets (those_for (other_side side) id rest) view.incoming
        → Fate w side id v view now false (Unit {0}) (w.takes octets now v.now) [] rest
    own_taken v view now octets rest (Some l) there preserved first =
        let frame = first.frame in
        let proper : AreProper (frame ∷ first.behind) =
        subst AreProper first.are preserved.arriving in
        inr (inl (record {
          frame = frame;
          behind = first.behind;
          are = first.are;
          is_step = subst (λ (o : List ℕ). IsStep side id now (Heard frame.control frame.role)
              frame.info (λ t. t) (w.served v.now).links
              (w.served (w.takes o now v.now).after).links (w.takes o now v.now).effects)
              (sym first.head)
              ((serves (list_any (is_removal id.tei) v.delivered)).takes_own frame now v.now l _
              proper.0 there (received_is_done frame l.end));
          none_given = refl;
          tail = first.tail;
        }))
    own_taken v view now octets rest None none preserved first =
        let frame = first.frame in
        let proper : AreProper (frame ∷ first.behind) =
        subst AreProper first.are preserved.arriving in
        inl (record {
          by = inl (subst (λ (o : List ℕ). PassesBy side id (w.served v.now).links
              (w.served (w.takes o now v.now).after).links (w.takes o now v.now).effects)
              (sym first.head)
              ((serves (list_any (is_removal id.tei) v.delivered)).takes_absent frame now v.now
              proper.0 none));
          none_given = refl;
          stays = λ there leaves. absurd (none_there v none there);
        })

    taken_by_test : (v : SideView S) (view : View) (now : ℕ) (octets : List ℕ)
        (rest : List (List ℕ)) (test : Bool) → is_for (other_side side) id octets ≡ test
        → v.incoming ≡ octets ∷ rest → Projects w side id v view → IsConsistentView Tagged view
        → Once v (w.takes octets now v.now)
        → Fate w side id v view now false (Unit {0}) (w.takes octets now v.now) [] rest
    taken_by_test v view now octets rest true is are p preserved stays =
        let on : octets ∷ those_for (other_side side) id rest
        ≡ all_spelled (other_side side) id view.incoming =
        sym (ap (λ (b : Bool). if b then octets ∷ those_for (other_side side) id rest
        else those_for (other_side side) id rest) is)
        ∙ ap (those_for (other_side side) id) (sym are) ∙ p.incoming in
        own_taken v view now octets rest ((w.served v.now).links id) refl preserved
        (first_of (other_side side) id octets (those_for (other_side side) id rest) view.incoming
        on)
    taken_by_test v view now octets rest false is are p preserved stays = inl (record {
      by = (serves (list_any (is_removal id.tei) v.delivered)).takes_other octets now v.now is
          stays;
      none_given = refl;
      stays = λ there leaves. sym (ap (λ (b : Bool).
          if b then octets ∷ those_for (other_side side) id rest
          else those_for (other_side side) id rest) is)
          ∙ ap (those_for (other_side side) id) (sym are);
    })

    first_taken : (v : SideView S) (view : View) (now : ℕ) (incoming : List (List ℕ))
        → v.incoming ≡ incoming → Projects w side id v view → IsConsistentView Tagged view
        → Once v (takes_first w now incoming v.now)
        → Fate w side id v view now false (Unit {0}) (takes_first w now incoming v.now) []
        (drop 1 incoming)
    first_taken v view now [] are p preserved stays =
        nothing v view now false (Unit {0}) [] [] refl
        (λ leaves. ap (those_for (other_side side) id) (sym are))
    first_taken v view now (octets ∷ rest) are p preserved stays =
        taken_by_test v view now octets rest (is_for (other_side side) id octets) refl are p
        preserved stays

    -- ---- A timer expires.

    -- that nothing of the link is in transit that its T200 waits for
    abbrev IsClear : SideView S → Type 0
    IsClear v = (list_any (is_poll_for side id) v.outgoing ≡ false)
        × (list_any (is_final_for (other_side side) id) v.incoming ≡ false)

    own_expired : (v : SideView S) (view : View) (now : ℕ) (timer : Timer) (idle : Bool)
        (o : Option Linked) → IsOfLink timer → (w.served v.now).links id ≡ o
        → runs_on timer ((w.served v.now).links id) ≡ true → (is_203 timer ≡ true → idle ≡ true)
        → (timer ≡ T200 → IsClear v)
        → Fate w side id v view now idle (Unit {0}) (w.expires now timer (Some id) v.now) []
        v.incoming
    own_expired v view now timer idle (Some l) own there runs counts clear =
        inr (inr (inl (record {
          timer = timer;
          own = own;
          counts = counts;
          runs = runs;
          clear = clear;
          is_step = (serves (list_any (is_removal id.tei) v.delivered)).expires_own now timer v.now
              l _ there (expiry_is_done timer l.end);
          none_given = refl;
          same = refl;
        })))
    own_expired v view now timer idle None own none runs counts clear =
        (let no : false ≡ true = sym (ap (runs_on timer) none) ∙ runs in cc)

    named_expired : (v : SideView S) (view : View) (now : ℕ) (timer : Timer) (idle : Bool)
        (other : LinkId) (test : Bool) → IsOfLink timer → id_eq id other ≡ test
        → runs_on timer ((w.served v.now).links other) ≡ true
        → (is_203 timer ≡ true → id_eq id other ≡ true → idle ≡ true)
        → (timer ≡ T200 → Some other ≡ Some id → IsClear v)
        → Once v (w.expires now timer (Some other) v.now)
        → Fate w side id v view now idle (Unit {0}) (w.expires now timer (Some other) v.now) []
        v.incoming
    named_expired v view now timer idle other true own is runs counts clear stays =
        let same : id ≡ other = same_id_eq id other is in
        subst (λ (k : LinkId). Fate w side id v view now idle (Unit {0})
        (w.expires now timer (Some k) v.now) [] v.incoming) same
        (own_expired v view now timer idle ((w.served v.now).links id) own refl
        (subst (λ (k : LinkId). runs_on timer ((w.served v.now).links k) ≡ true) (sym same) runs)
        (λ is_203. counts is_203 is)
        (λ is_200. clear is_200 (ap (λ (k : LinkId). Some k) (sym same))))
    named_expired v view now timer idle other false own is runs counts clear stays = inl (record {
      by = (serves (list_any (is_removal id.tei) v.delivered)).expires_other now timer (Some other)
          v.now (λ k e. subst (λ (x : LinkId). id_eq id x ≡ false) (some_id other k e) is) stays;
      none_given = refl;
      stays = λ there leaves. refl;
    })
      where
        some_id : (a b : LinkId) → Some a ≡ Some b → a ≡ b
        some_id a b e = cc

    if_expires : (v : SideView S) (view : View) (now : ℕ) (idle : Bool) (test : Bool)
        (a : Reaction S) → (test ≡ true → Once v a
        → Fate w side id v view now idle (Unit {0}) a [] v.incoming)
        → Once v (if test then a else unmoved v.now)
        → Fate w side id v view now idle (Unit {0}) (if test then a else unmoved v.now) []
        v.incoming
    if_expires v view now idle true a does stays = does refl stays
    if_expires v view now idle false a does stays =
        nothing v view now idle (Unit {0}) [] v.incoming refl (λ leaves. refl)

    expired : (v : SideView S) (view : View) (timer : Timer) (of : Option LinkId) (now : ℕ)
        → IsTimely side id (Expire timer of now) v
        → Once v (reaction w (Expire timer of now) v)
        → Fate w side id v view now (is_t203_of id (Expire timer of now)) (Unit {0})
        (reaction w (Expire timer of now) v) [] v.incoming
    expired v view timer None now timely stays =
        if_expires v view now (is_t203_of id (Expire timer None now))
        (may_expire timer None (w.served v.now)) (w.expires now timer None v.now)
        (λ runs stays. inl (record {
          by = (serves (list_any (is_removal id.tei) v.delivered)).expires_other now timer None
              v.now (λ k e. absurd (none_is_some k e)) stays;
          none_given = refl;
          stays = λ there leaves. refl;
        })) stays
      where
        none_is_some : (k : LinkId) → None ≡ Some k → ⊥
        none_is_some k e = cc
    expired v view T200 (Some other) now timely stays =
        if_expires v view now false (runs_on T200 ((w.served v.now).links other))
        (w.expires now T200 (Some other) v.now)
        (λ runs stays. named_expired v view now T200 false other (id_eq id other) tt refl runs
        (λ is same. is) timely stays) stays
    expired v view T203 (Some other) now timely stays =
        if_expires v view now (id_eq id other) (runs_on T203 ((w.served v.now).links other))
        (w.expires now T203 (Some other) v.now)
        (λ runs stays. named_expired v view now T203 (id_eq id other) other (id_eq id other) tt
        refl runs (λ is same. same) timely stays) stays
    expired v view T201 (Some other) now timely stays =
        nothing v view now false (Unit {0}) [] v.incoming refl (λ leaves. refl)
    expired v view T202 (Some other) now timely stays =
        nothing v view now false (Unit {0}) [] v.incoming refl (λ leaves. refl)

    -- ---- A request.

    abbrev LeftBy : SideView S → Request → ℕ → Result (Reaction S) SideKind → Type 0
    LeftBy v request now r = PassesBy side id (w.served v.now).links
        (w.served (or_unmoved v.now r).after).links (or_unmoved v.now r).effects
        × (given_to id (accepted_by w request now v.now) ≡ [])

    asked_by : (v : SideView S) (view : View) (request : Request) (now : ℕ)
        (r : Result (Reaction S) SideKind) → w.requested request now v.now ≡ r
        → Once v (or_unmoved v.now r)
        → Fate w side id v view now false (LeftBy v request now r) (or_unmoved v.now r)
        (accepted_by w request now v.now) v.incoming
    asked_by v view request now (Ok a) is stays =
        elim ((serves (list_any (is_removal id.tei) v.delivered)).asked request now v.now a is
        stays) [
          | inl none ↦ inl (record {
            by = none.proceeds;
            none_given = none.none_given;
            stays = λ there leaves. refl;
          })
          | inr its ↦ inr (inr (inr (record {
            input = its.input;
            octets = its.octets;
            is_step = its.is_step;
            alone = λ leaves. leaves;
            same = refl;
          })))
        ]
    asked_by v view request now (Err kind) is stays =
        nothing v view now false (LeftBy v request now (Err kind))
        (accepted_by w request now v.now) v.incoming
        (ap (given_to id) (none_accepted S w side id request now v.now kind is))
        (λ leaves. refl)

    -- ---- Every event.

    pub fate_of : (event : SideEvent) (v : SideView S) (view : View) (latest : ℕ)
        → IsTimely side id event v → GivesTeiOnce w id event v → Projects w side id v view
        → IsConsistentView Tagged view
        → Fate w side id v view (moment_of event latest) (is_t203_of id event) (Left event v)
        (reaction w event v) (accepted w event v) (left event v.incoming)
    fate_of (Take now) v view latest timely stays p preserved =
        first_taken v view now v.incoming refl p preserved stays
    fate_of (Lose at) v view latest timely stays p preserved =
        nothing v view latest false (Left (Lose at) v) [] (remove v.incoming at) refl
        (λ leaves. leaves)
    fate_of (Expire timer of now) v view latest timely stays p preserved =
        expired v view timer of now timely stays
    fate_of (Ask request now) v view latest timely stays p preserved =
        asked_by v view request now (w.requested request now v.now) refl stays
    fate_of (Overhear octets now) v view latest timely stays p preserved = inl (record {
      by = (serves (list_any (is_removal id.tei) v.delivered)).takes_other octets now v.now timely
          stays;
      none_given = refl;
      stays = λ there leaves. refl;
    })
