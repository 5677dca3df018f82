-- A network side assigns no TEI whose links exist, since their TEIs are held.
use Rattle.std.proofs.Common.{◌≡◌, ◌⊎◌, inl, inr, ℕ, ◌<◌, ◌==◌, List, [], ◌∷◌, set, drop, length, Bool, true, false, if◌then◌else◌, Option, Some, None, refl, sym, subst, ◌∙◌, arith}
use Rattle.std.specs.Prelude.{nat_lt, ◌||◌}
use Rattle.std.specs.List.{list_any, filter_map}
use Rattle.std.proofs.lemmas.Bool.Decides.{nat_tests}
use Rattle.std.proofs.lemmas.List.{get_or-set_same, get_or-set_other}
use Rattle.lapd_timers.specs.declared.timer.Timer.TheVariants.{T201}
use Rattle.lapd_tei.specs.declared.kind.TeiKind.{TeiKind}
use Rattle.lapd_tei.specs.declared.kind.TeiKind.TheVariants as kind
use Rattle.lapd_tei.specs.declared.message.TeiMessage.{TeiMessage}
use Rattle.lapd_tei.specs.declared.out.TeiOut.{TeiOut}
use Rattle.lapd_tei.specs.declared.out.TeiOut.TheVariants as out
use Rattle.lapd_tei.specs.declared.check.Check.{Check}
use Rattle.lapd_tei.specs.declared.check.Round.{Round}
use Rattle.lapd_tei.specs.declared.check.Round.TheVariants as round
use Rattle.lapd_tei.specs.declared.check.Responses.{Responses}
use Rattle.lapd_tei.specs.declared.check.Responses.TheVariants as responses
use Rattle.lapd_tei.specs.declared.assigner.AssignerEvent.{AssignerEvent}
use Rattle.lapd_tei.specs.declared.assigner.AssignerEvent.TheVariants as event
use Rattle.lapd_tei.specs.Assigner.{AssignerState, AssignerStep, is_held, least_free, stays, serves, begins_check, counts_response, removes_one, removes, round_ends, timer_ends, assigner_receives, assigner_step, one_more}
use Rattle.lapd_tei.specs.Message.{group_tei}
use Rattle.lapd_tei.specs.Out.{tei_given, tei_freed}
use Rattle.lapd_tei.proofs.AssignerPreserves.{IsFree, free_from}
use Rattle.lapd_sides_links.specs.Effects.{outcome_of}
use Rattle.lapd_two_side_laws.specs.Premises.{is_assignment}
use Rattle.lapd_two_side_laws.proofs.Managed.{freed_here, some_same}

-- a step of the assigner: it assigns only TEIs that were free, and held TEIs stay held or are freed
pub record GivesFree (held : List Bool) (done : AssignerStep) : Type 0 where
  pub given : (t : ℕ) → tei_given done.outs ≡ Some t → is_held done.now.held t ≡ true
  pub stays_held : (n : ℕ) → is_held held n ≡ true
      → (freed_here n (tei_freed done.outs) ≡ true) ⊎ (is_held done.now.held n ≡ true)
  pub free : (n : ℕ) → list_any (is_assignment n) (filter_map outcome_of done.outs) ≡ true
      → is_held held n ≡ false

first_is : (t n : ℕ) → ((t == n) || false) ≡ true → t ≡ n
first_is t n h = by_test (t == n) refl h
  where
    by_test : (b : Bool) → (t == n) ≡ b → (b || false) ≡ true → t ≡ n
    by_test true is h = grind (arith, nat_tests, is)
    by_test false is h = cc

unheld : (held : List Bool) (t n : ℕ) (b : Bool) → (t == n) ≡ b → is_held held n ≡ true
    → ((b ≡ true) ⊎ (is_held (set held t false) n ≡ true))
unheld held t n true is h = inl refl
unheld held t n false is h =
    inr (get_or-set_other held t n
    false false (λ same. (let no : (t == n) ≡ true = grind (arith, nat_tests, same) in cc)) ∙ h)

held_too : (held : List Bool) (t n : ℕ) (b : Bool) → t < length held → (t == n) ≡ b
    → is_held held n ≡ true → is_held (set held t true) n ≡ true
held_too held t n true within is h =
    let same : t ≡ n = grind (arith, nat_tests, is) in
    subst (λ (m : ℕ). is_held (set held t true) m ≡ true) same
    (get_or-set_same held t true false within)
held_too held t n false within is h =
    get_or-set_other held t n true false
    (λ same. (let no : (t == n) ≡ true = grind (arith, nat_tests, same) in cc)) ∙ h

none_changes : (a : AssignerState) (c : Option Check)
    → GivesFree a.held (record { now = record { held = a.held; check = c }; outs = [] })
none_changes a c =
    record { given = λ t is. cc; stays_held = λ n h. inr h; free = λ n delivered. cc }

asks : (a : AssignerState) (c : Option Check) (m : TeiMessage)
    → GivesFree a.held (record {
      now = record { held = a.held; check = c };
      outs = out.Send m ∷ out.Start T201 ∷ [];
    })
asks a c m = record { given = λ t is. cc; stays_held = λ n h. inr h; free = λ n delivered. cc }

serving : (a : AssignerState) (ri : ℕ) (free : Option ℕ) → least_free a.held ≡ free
    → GivesFree a.held (serves ri free a)
serving a ri None is =
    record { given = λ t given. cc; stays_held = λ n h. inr h; free = λ n delivered. cc }
serving a ri (Some tei) is =
    let found : IsFree a.held 64 tei = free_from a.held 64 (drop 64 a.held) tei refl is in
    record {
      given =
          λ t given. subst (λ (m : ℕ). is_held (set a.held tei true) m ≡ true)
          (some_same tei t given) (get_or-set_same a.held tei true false found.within);
      stays_held = λ n h. inr (held_too a.held tei n (tei == n) found.within refl h);
      free =
          λ n delivered. subst (λ (m : ℕ). is_held a.held m ≡ false) (first_is tei n delivered)
          found.free;
    }

checks : (a : AssignerState) (tei : ℕ) (check : Option Check) (low : Bool)
    → nat_lt tei group_tei ≡ low → check ≡ a.check → GivesFree a.held (begins_check tei check a)
checks a tei (Some check) low is same = none_changes a a.check
checks a tei None true is same = rw is (asks a _ _)
checks a tei None false is same = rw is (none_changes a a.check)

counting : (a : AssignerState) (tei : ℕ) (check : Option Check)
    → GivesFree a.held (counts_response tei check a)
counting a tei None = none_changes a a.check
counting a tei (Some check) = by_test (tei == check.tei)
  where
    by_test : (test : Bool)
        → GivesFree a.held (if test
        then record {
          now = record {
            held = a.held;
            check =
                Some (record {
                  tei = check.tei;
                  round = check.round;
                  responses = one_more check.responses;
                });
          };
          outs = [];
        }
        else stays a)
    by_test true = none_changes a _
    by_test false = none_changes a a.check

frees : (a : AssignerState) (tei : ℕ) (later : Option Check) (outs : List TeiOut)
    → ((t : ℕ) → tei_given outs ≡ Some t → ⊥) → tei_freed outs ≡ Some tei
    → ((n : ℕ) → list_any (is_assignment n) (filter_map outcome_of outs) ≡ false)
    → GivesFree a.held
    (record { now = record { held = set a.held tei false; check = later }; outs = outs })
frees a tei later outs no_given freed quiet = record {
  given = λ t is. absurd (no_given t is);
  stays_held =
      λ n h. subst
      (λ (f : Option ℕ). (freed_here n f ≡ true) ⊎ (is_held (set a.held tei false) n ≡ true))
      (sym freed) (unheld a.held tei n (tei == n) refl h);
  free = λ n delivered. (let no : true ≡ false = sym delivered ∙ quiet n in cc);
}

ending : (a : AssignerState) (tei : ℕ) (nth : Round) (count : Responses)
    → GivesFree a.held (round_ends tei nth count a)
ending a tei round.First responses.Nobody = asks a _ _
ending a tei round.Second responses.Nobody =
    frees a tei None (out.Free tei ∷ []) (λ t is. cc) refl (λ n. refl)
ending a tei round.First responses.One =
    record { given = λ t is. cc; stays_held = λ n h. inr h; free = λ n delivered. cc }
ending a tei round.Second responses.One =
    record { given = λ t is. cc; stays_held = λ n h. inr h; free = λ n delivered. cc }
ending a tei round.First responses.Several = frees a tei None _ (λ t is. cc) refl (λ n. refl)
ending a tei round.Second responses.Several = frees a tei None _ (λ t is. cc) refl (λ n. refl)

either : (a : AssignerState) (test : Bool) (x y : AssignerStep) → GivesFree a.held x
    → GivesFree a.held y → GivesFree a.held (if test then x else y)
either a true x y hx hy = hx
either a false x y hx hy = hy

removing_one : (a : AssignerState) (tei : ℕ) (check : Option Check)
    → GivesFree a.held (removes_one tei check a)
removing_one a tei None = frees a tei a.check _ (λ t is. cc) refl (λ n. refl)
removing_one a tei (Some check) =
    either a (tei == check.tei) _ _ (frees a tei None _ (λ t is. cc) refl (λ n. refl))
    (frees a tei a.check _ (λ t is. cc) refl (λ n. refl))

removing : (a : AssignerState) (tei : ℕ) → GivesFree a.held (removes tei a.check a)
removing a tei =
    either a (nat_lt tei group_tei) _ _ (removing_one a tei a.check) (none_changes a a.check)

timing : (a : AssignerState) (check : Option Check) → GivesFree a.held (timer_ends check a)
timing a None = none_changes a a.check
timing a (Some check) = ending a check.tei check.round check.responses

reception_is_exact : (a : AssignerState) (k : TeiKind) (ri ai : ℕ)
    → GivesFree a.held (assigner_receives k ri ai a)
reception_is_exact a kind.Request ri ai = serving a ri (least_free a.held) refl
reception_is_exact a kind.CheckResponse ri ai = counting a ai a.check
reception_is_exact a kind.Verify ri ai = checks a ai a.check (nat_lt ai group_tei) refl refl
reception_is_exact a other ri ai = none_changes a a.check

pub gives_free : (a : AssignerState) (e : AssignerEvent) → GivesFree a.held (assigner_step a e)
gives_free a (event.Heard m) = reception_is_exact a m.kind m.ri m.ai
gives_free a (event.Check tei) = checks a tei a.check (nat_lt tei group_tei) refl refl
gives_free a (event.Remove tei) = removing a tei
gives_free a event.T201 = timing a a.check
