-- The changes of an interface whose old frames are empty octets are in step with those of the
-- interface itself, if sides restart too.
use Rattle.std.proofs.Common.{◌≡◌, ◌⊎◌, inl, inr, ℕ, ◌<◌, List, [], ◌∷◌, ◌++◌, Bool, true, false, if◌then◌else◌, Option, Some, None, refl, sym, ap, subst, ◌∙◌}
use Rattle.rand_pcg.specs.Lcg.{Lcg}
use Rattle.lapd_frame.specs.declared.Side.TheVariants as side
use Rattle.lapd_table.specs.declared.link_id.LinkId.{LinkId}
use Rattle.lapd_sides.specs.User.{has_tei}
use Rattle.lapd_side_events.specs.Interface.{Configs, Interface, by_user}
use Rattle.lapd_two_side_laws.specs.Addressed.{is_for, those_for}
use Rattle.lapd_two_side_laws.specs.Establishments.{LinkRecords}
use Rattle.lapd_bus_laws.proofs.Lists.{none_first}
use Rattle.lapd_bus_laws.proofs.PremisesOfInterface.{has_not, has_so}
use Rattle.lapd_restart_laws.specs.Exchanges.{is_answer, is_command, is_of_kind_for}
use Rattle.lapd_restart_laws.specs.RestartPremises.{KeepPremises, KeepsPremises}
use Rattle.lapd_restart_laws.specs.Restarts.{Change, Moves, NetworkRestarts, UserRestarts, changes, change_recorded, recorded_across, run_across}
use Rattle.lapd_bus_restart_laws.proofs.AsideAcross.{aside_restarts}
use Rattle.lapd_bus_restart_laws.proofs.LockStep.{IsPlain, IsUntaken, all_without, behind, none_masked, one_step, replaced}

module _ (c : Configs) (id : LinkId) (low : id.tei < 127) (i : ℕ) where
  abbrev Behind : List (List ℕ) → List (List ℕ) → Interface → Interface
  Behind old rest k = behind c id low i old rest k

  abbrev Replaced : List (List ℕ) → List (List ℕ) → Interface → Interface
  Replaced old rest k = replaced c id low i old rest k

  -- The user side overhears nothing. If it restarts with the TEI and did not have the link, no
  -- octets of the link are in transit to it.
  abbrev pub IsPlainChange : Change → Interface → Type 0
  IsPlainChange (Moves move) k = IsPlain c id low i move.side move.event
  IsPlainChange (NetworkRestarts known) k = Unit {0}
  IsPlainChange (UserRestarts fixed random) k = fixed ≡ Some id.tei
      → k.user.served.links id ≡ None → those_for side.Network id k.to_user ≡ []

  abbrev pub ArePlainChanges : List Change → Interface → Type 0
  ArePlainChanges [] k = Unit {0}
  ArePlainChanges (change ∷ all) k = IsPlainChange change k
      × ArePlainChanges all (changes c change k)

  -- ---- Without frames of the link nothing is replaced.

  none_replaced : (old rest : List (List ℕ)) → those_for side.Network id (old ++ rest) ≡ []
      → all_without c id low i old ≡ old
  none_replaced [] rest none = refl
  none_replaced (o ∷ os) rest none =
      let first = none_first (is_for side.Network id) o (os ++ rest) none in
      ap (λ (b : Bool). (if b then [] else o) ∷ all_without c id low i os) first.0
      ∙ ap (λ (xs : List (List ℕ)). o ∷ xs) (none_replaced os rest first.1)

  -- ---- One change.

  record Changed (change : Change) (old rest : List (List ℕ)) (k : Interface) : Type 0 where
    pub old_left : List (List ℕ)
    pub rest_left : List (List ℕ)
    pub next : Interface
    pub plain : changes c change (Behind old rest k) ≡ Behind old_left rest_left next
    pub masked : changes c change (Replaced old rest k) ≡ Replaced old_left rest_left next
    pub untaken : IsUntaken c id low i old_left next
    pub keeps : KeepsPremises c id change (Replaced old rest k)
    pub recorded : (r : LinkRecords) → change_recorded c id change (Replaced old rest k) r
        ≡ change_recorded c id change (Behind old rest k) r

  -- the lines are the same, or the change keeps them in step
  abbrev Outcome : Change → List (List ℕ) → List (List ℕ) → Interface → Type 0
  Outcome change old rest k = (all_without c id low i old ≡ old) ⊎ Changed change old rest k

  user_restarts : (fixed : Option ℕ) (random : Lcg) (old rest : List (List ℕ)) (k : Interface)
      → (fixed ≡ Some id.tei → ⊥) → IsUntaken c id low i old k
      → KeepsPremises c id (UserRestarts fixed random) (Behind old rest k)
      → Changed (UserRestarts fixed random) old rest k
  user_restarts fixed random old rest k apart h keeps =
      let a = aside_restarts c id low i (record { fixed = fixed; random = random }) (by_user k)
      apart h.aside in
      record {
        old_left = old;
        rest_left = rest;
        next = changes c (UserRestarts fixed random) k;
        plain = refl;
        masked = refl;
        untaken = record {
          aside = a;
          none = h.none;
        };
        keeps = record {
          returns = keeps.returns;
          quiet = λ had has. (let two = keeps.quiet had has in (
            two.0,
            none_masked c id low i (is_of_kind_for is_answer side.Network id) refl old rest
                two.1,
          ));
        };
        recorded = λ r. refl;
      }

  network_restarts : (known : List ℕ) (old rest : List (List ℕ)) (k : Interface)
      → IsUntaken c id low i old k → KeepsPremises c id (NetworkRestarts known) (Behind old rest k)
      → Changed (NetworkRestarts known) old rest k
  network_restarts known old rest k h keeps = record {
    old_left = old;
    rest_left = rest;
    next = changes c (NetworkRestarts known) k;
    plain = refl;
    masked = refl;
    untaken = record { aside = h.aside; none = h.none };
    keeps = record {
      returns = keeps.returns;
      quiet = λ had has. (let two = keeps.quiet had has in (
        none_masked c id low i (is_of_kind_for is_command side.Network id) refl old rest two.0,
        two.1,
      ));
    };
    recorded = λ r. refl;
  }

  one_change : (change : Change) (o : List ℕ) (os rest : List (List ℕ)) (k : Interface)
      → IsPlainChange change (Behind (o ∷ os) rest k) → IsUntaken c id low i (o ∷ os) k
      → KeepsPremises c id change (Behind (o ∷ os) rest k) → Outcome change (o ∷ os) rest k
  one_change (Moves move) o os rest k ok h keeps =
      let s = one_step c id low i move.side move.event o os rest k ok h keeps.0 keeps.1 in
      inr (record {
        old_left = s.old_left;
        rest_left = s.rest_left;
        next = s.next;
        plain = s.plain;
        masked = s.masked;
        untaken = s.untaken;
        keeps = (s.timely, s.once);
        recorded = s.recorded;
      })
  one_change (NetworkRestarts known) o os rest k ok h keeps =
      inr (network_restarts known (o ∷ os) rest k h keeps)
  one_change (UserRestarts fixed random) o os rest k ok h keeps =
      by (has_tei id.tei fixed) refl
    where
      by : (test : Bool) → has_tei id.tei fixed ≡ test
          → Outcome (UserRestarts fixed random) (o ∷ os) rest k
      by true is = inl (none_replaced (o ∷ os) rest (ok (has_so id.tei fixed is)
          h.aside.silent.links))
      by false is = inr (user_restarts fixed random (o ∷ os) rest k (has_not id.tei fixed is) h
          keeps)

  -- ---- All changes.

  pub record InStepAcross (all : List Change) (old rest : List (List ℕ)) (k : Interface) : Type 0
    where
      pub keep : KeepPremises c id all (Replaced old rest k)
      pub line : List (List ℕ)
      pub ran : run_across c all (Replaced old rest k)
          ≡ record (run_across c all (Behind old rest k)) { to_user = line }
      pub recorded : (r : LinkRecords) → recorded_across c id all (Replaced old rest k) r
          ≡ recorded_across c id all (Behind old rest k) r

  same_lines : (all : List Change) (old rest : List (List ℕ)) (k : Interface)
      → all_without c id low i old ≡ old → KeepPremises c id all (Behind old rest k)
      → InStepAcross all old rest k
  same_lines all old rest k none keep =
      let same : Replaced old rest k ≡ Behind old rest k =
      ap (λ (xs : List (List ℕ)). Behind xs rest k) none in
      record {
        keep = subst (KeepPremises c id all) (sym same) keep;
        line = (run_across c all (Behind old rest k)).to_user;
        ran = ap (run_across c all) same;
        recorded = λ r. ap (λ (j : Interface). recorded_across c id all j r) same;
      }

  module _ (all : List Change) (x x_after y y_after : Interface) (to_x : x ≡ x_after)
      (to_y : y ≡ y_after) where
    ran_on : (line : List (List ℕ))
        → run_across c all x_after ≡ record (run_across c all y_after) { to_user = line }
        → run_across c all x ≡ record (run_across c all y) { to_user = line }
    ran_on line later = ap (run_across c all) to_x ∙ later
        ∙ ap (λ (j : Interface). record (run_across c all j) { to_user = line }) (sym to_y)

    recorded_on : (r s : LinkRecords) → r ≡ s
        → recorded_across c id all x_after s ≡ recorded_across c id all y_after s
        → recorded_across c id all x r ≡ recorded_across c id all y s
    recorded_on r s same later = ap (λ (j : Interface). recorded_across c id all j r) to_x
        ∙ ap (recorded_across c id all x_after) same ∙ later
        ∙ ap (λ (j : Interface). recorded_across c id all j s) (sym to_y)

  pub in_step_across : (all : List Change) (old rest : List (List ℕ)) (k : Interface)
      → ArePlainChanges all (Behind old rest k) → IsUntaken c id low i old k
      → KeepPremises c id all (Behind old rest k) → InStepAcross all old rest k
  in_step_across [] old rest k ok h keep = record {
    keep = tt;
    line = all_without c id low i old ++ rest;
    ran = refl;
    recorded = λ r. refl;
  }
  in_step_across (change ∷ all) [] rest k ok h keep = same_lines (change ∷ all) [] rest k refl keep
  in_step_across (change ∷ all) (o ∷ os) rest k ok h keep =
      elim (one_change change o os rest k ok.0 h keep.0) [
        | inl none ↦ same_lines (change ∷ all) (o ∷ os) rest k none keep
        | inr s ↦ (let l = in_step_across all s.old_left s.rest_left s.next
            (subst (ArePlainChanges all) s.plain ok.1) s.untaken
            (subst (KeepPremises c id all) s.plain keep.1) in
            let x : Interface = Replaced (o ∷ os) rest k in
            let y : Interface = Behind (o ∷ os) rest k in
            let x_next : Interface = changes c change x in
            let y_next : Interface = changes c change y in
            let x_after : Interface = Replaced s.old_left s.rest_left s.next in
            let y_after : Interface = Behind s.old_left s.rest_left s.next in
            record {
              keep = (s.keeps, subst (KeepPremises c id all) (sym s.masked) l.keep);
              line = l.line;
              ran = ran_on all x_next x_after y_next y_after s.masked s.plain l.line l.ran;
              recorded = λ r. (let noted_x = change_recorded c id change x r in
                  let noted_y = change_recorded c id change y r in
                  recorded_on all x_next x_after y_next y_after s.masked s.plain noted_x noted_y
                  (s.recorded r) (l.recorded noted_y));
            })
      ]
