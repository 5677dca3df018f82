-- Each event of a side keeps a property of one of its links, or answers layer 3; and so does any
-- list of events. The property may count expiries of the link's T200, and depend on the time.
use Rattle.std.proofs.Common.{◌≡◌, ◌⊎◌, inl, inr, ℕ, ◌+◌, ◌-◌, Bool, true, false, if◌then◌else◌, List, [], ◌∷◌, ◌++◌, Option, Some, None, Result, Ok, Err, refl, sym, ap, subst, ◌∙◌, arith}
use Rattle.std.specs.Prelude.{cond, IfOk, ◌||◌}
use Rattle.std.specs.List.{filter_map, list_any}
use Rattle.std.proofs.lemmas.List.Elements.{filter_map-append}
use Rattle.std.proofs.lemmas.List.Sums.{sum_by-cons}
use Rattle.lapd_timers.specs.declared.timer.Timer.{Timer}
use Rattle.lapd_timers.specs.declared.timer.Timer.TheVariants.{T200, T201, T202, T203}
use Rattle.lapd_frame.specs.declared.Side.{Side}
use Rattle.lapd_frame.specs.declared.Side.TheVariants as side
use Rattle.lapd_mod128.specs.Counting.{Tagged}
use Rattle.lapd_link_definition.specs.End.{StepState}
use Rattle.lapd_link_definition.specs.Input.{Expiry}
use Rattle.lapd_link_definition.specs.Table.{step}
use Rattle.lapd_table.specs.declared.link_id.LinkId.{LinkId}
use Rattle.lapd_table.specs.LinkId.{id_eq}
use Rattle.lapd_table.proofs.Ids.{same_id_eq}
use Rattle.lapd_sides_links.specs.declared.config.Config.{Config}
use Rattle.lapd_sides_links.specs.declared.primitive.Primitive.{Primitive}
use Rattle.lapd_sides_links.specs.declared.primitive.What.{What}
use Rattle.lapd_sides_links.specs.declared.side_fault.SideKind.{SideKind}
use Rattle.lapd_sides_links.specs.Effects.{what_of, stopped}
use Rattle.lapd_sides_links.specs.Links.{Linked, Reaction}
use Rattle.lapd_sides.specs.declared.request.Request.{Request}
use Rattle.lapd_sides.specs.Network.{Network, network_rules}
use Rattle.lapd_sides.specs.SideState.{SideState, Rules, expires}
use Rattle.lapd_sides.specs.User.{User, user_rules}
use Rattle.lapd_two_side_laws.specs.Answers.{is_t200_of, expiries_of, requests_release, Throughout}
use Rattle.lapd_two_side_laws.specs.ExactTimers.{SideStep, stepped, stepped_by_all}
use Rattle.lapd_side_events.specs.Interface.{behaviour, network_behaviour, user_behaviour}
use Rattle.lapd_two_side_laws.specs.Primitives.{what_for, link_primitives}
use Rattle.lapd_side_events.specs.SideView.{Behaviour, SideView, SideEvent, Take, Lose, Expire, Ask, Overhear, unmoved, takes_first, runs_on, may_expire, or_unmoved, reaction, does}
use Rattle.lapd_two_side_laws.proofs.EachLink.{IsKept, after_step}
use Rattle.lapd_two_side_laws.proofs.EachSide.{Allows, GoesOn, network_keeps, side_expired, side_takes, user_keeps}
use Rattle.lapd_two_side_laws.proofs.EndAnswers.{one_expiry}
use Rattle.lapd_two_side_laws.proofs.LinkParts.{any_more, any_behind}
use Rattle.lapd_two_side_laws.proofs.Reactions.{HoldsOfRules, moment_or}

-- one if T200 of the link expires
abbrev pub one_of : LinkId → SideEvent → ℕ
one_of id event = cond (is_t200_of id event) 1 0

management_is_other : (id : LinkId) (timer : Timer) (now : ℕ)
    → one_of id (Expire timer None now) ≡ 0
management_is_other id T200 now = refl
management_is_other id T201 now = refl
management_is_other id T202 now = refl
management_is_other id T203 now = refl

other_is_other : (id other : LinkId) (timer : Timer) (now : ℕ) → id_eq id other ≡ false
    → one_of id (Expire timer (Some other) now) ≡ 0
other_is_other id other T200 now h = rw h refl
other_is_other id other T201 now h = refl
other_is_other id other T202 now h = refl
other_is_other id other T203 now h = refl

own_is_one : (id other : LinkId) (timer : Timer) (now : ℕ) → id_eq id other ≡ true
    → one_of id (Expire timer (Some other) now) ≡ one_expiry (Expiry timer)
own_is_one id other T200 now h = rw h refl
own_is_one id other T201 now h = refl
own_is_one id other T202 now h = refl
own_is_one id other T203 now h = refl

-- `O m now` holds of the link, which may not exist, with m expiries of T200 left, at this moment.
module _ (id : LinkId) (may : Bool) (p : What → Bool) (O : ℕ → ℕ → Option Linked → Type 0)
    (config : Config) where
  pub record IsClosed : Type 0 where
    pub kept : (m now : ℕ) → IsKept id may (O m now) p config now
    pub expires : (m now : ℕ) (timer : Timer) (l : Linked) (s : StepState) → O m now (Some l)
        → step Tagged (Expiry timer) l.end ≡ Ok s
        → (list_any p (filter_map (what_of []) s.outs) ≡ true)
        ⊎ O (m - one_expiry (Expiry timer)) now (Some (after_step now (stopped timer l.timers) s))
    pub absent : (m less now : ℕ) → O m now None → O less now None
    pub idle : (m now : ℕ) (l : Option Linked) → runs_on T200 l ≡ false → O m now l
        → O (m - 1) now l

  abbrev pub HasAnswers : List Primitive → Type 0
  HasAnswers primitives = list_any p (link_primitives id primitives) ≡ true

  pub more_answers : (xs ys : List Primitive) → HasAnswers xs → HasAnswers (xs ++ ys)
  more_answers xs ys h = subst (λ ws. list_any p ws ≡ true)
      (sym (filter_map-append (what_for id) xs ys))
      (any_more p (link_primitives id xs) (link_primitives id ys) h)

  pub answers_behind : (xs ys : List Primitive) → HasAnswers ys → HasAnswers (xs ++ ys)
  answers_behind xs ys h = subst (λ ws. list_any p ws ≡ true)
      (sym (filter_map-append (what_for id) xs ys))
      (any_behind p (link_primitives id xs) (link_primitives id ys) h)

  unspent : (m now spent : ℕ) (l : Option Linked) → spent ≡ 0 → O m now l → O (m - spent) now l
  unspent m now spent l none o = subst (λ k. O k now l) (omega (arith, none)) o

  module _ (S : Type 0) (w : Behaviour S) where
    abbrev pub HoldsAt : ℕ → ℕ → S → Type 0
    HoldsAt m now s = O m now ((w.served s).links id)

    abbrev pub GoesAt : ℕ → ℕ → Reaction S → Type 0
    GoesAt m now a = HasAnswers a.effects.primitives ⊎ HoldsAt m now a.after

    -- of either kind of side
    pub record Ways (side : Side) : Type 0 where
      pub takes : (m now : ℕ) (octets : List ℕ) (s : S) → HoldsAt m now s
          → GoesAt m now (w.takes octets now s)
      pub managed : (m now : ℕ) (timer : Timer) (s : S)
          → may_expire timer None (w.served s) ≡ true → HoldsAt m now s
          → GoesAt m now (w.expires now timer None s)
      pub expired : (m now : ℕ) (timer : Timer) (other : LinkId) (s : S) → HoldsAt m now s
          → GoesAt (m - one_of id (Expire timer (Some other) now)) now
          (w.expires now timer (Some other) s)
      pub requested : (m now : ℕ) (request : Request) (s : S)
          → (may ≡ false → requests_release side id (Ask request now) ≡ false)
          → IfOk (w.requested request now s) (λ a. HoldsAt m now s → GoesAt m now a)

    module _ (side : Side) (closed : IsClosed) (ways : Ways side) where
      first_taken : (m now : ℕ) (line : List (List ℕ)) (s : S) → HoldsAt m now s
          → GoesAt m now (takes_first w now line s)
      first_taken m now [] s o = inr o
      first_taken m now (octets ∷ line) s o = ways.takes m now octets s o

      otherwise_unmoved : (m now : ℕ) (s : S) (r : Result (Reaction S) SideKind)
          → HoldsAt m now s → IfOk r (λ a. HoldsAt m now s → GoesAt m now a)
          → GoesAt m now (or_unmoved s r)
      otherwise_unmoved m now s (Ok a) o h = h o
      otherwise_unmoved m now s (Err kind) o h = inr o

      less_or_same : (m now : ℕ) (event : SideEvent) (a : Reaction S) → one_of id event ≡ 0
          → GoesAt m now a → GoesAt (m - one_of id event) now a
      less_or_same m now event a none h =
          subst (λ k. GoesAt k now a) (omega (arith, none)) h

      -- a timer that does not run expires without effect
      not_running : (m now : ℕ) (timer : Timer) (other : LinkId) (s : S) (test : Bool)
          → id_eq id other ≡ test → may_expire timer (Some other) (w.served s) ≡ false
          → HoldsAt m now s → HoldsAt (m - one_of id (Expire timer (Some other) now)) now s
      not_running m now timer other s false apart idle o =
          unspent m now (one_of id (Expire timer (Some other) now)) ((w.served s).links id)
          (other_is_other id other timer now apart) o
      not_running m now T200 other s true same idle o =
          let off : runs_on T200 ((w.served s).links id) ≡ false =
          ap (λ (k : LinkId). runs_on T200 ((w.served s).links k)) (same_id_eq id other same)
          ∙ idle in
          subst (λ k. HoldsAt (m - k) now s) (sym (own_is_one id other T200 now same))
          (closed.idle m now ((w.served s).links id) off o)
      not_running m now T201 other s true same idle o =
          unspent m now 0 ((w.served s).links id) refl o
      not_running m now T202 other s true same idle o =
          unspent m now 0 ((w.served s).links id) refl o
      not_running m now T203 other s true same idle o =
          unspent m now 0 ((w.served s).links id) refl o

      expires_if : (m now : ℕ) (timer : Timer) (of : Option LinkId) (s : S) (test : Bool)
          → may_expire timer of (w.served s) ≡ test → HoldsAt m now s
          → GoesAt (m - one_of id (Expire timer of now)) now
          (if test then w.expires now timer of s else unmoved s)
      expires_if m now timer None s true is o =
          less_or_same m now (Expire timer None now) (w.expires now timer None s)
          (management_is_other id timer now) (ways.managed m now timer s is o)
      expires_if m now timer None s false is o =
          less_or_same m now (Expire timer None now) (unmoved s)
          (management_is_other id timer now) (inr o)
      expires_if m now timer (Some other) s true is o = ways.expired m now timer other s o
      expires_if m now timer (Some other) s false is o =
          inr (not_running m now timer other s (id_eq id other) refl is o)

      pub reacts : (event : SideEvent) (v : SideView S) (m last : ℕ)
          → (may ≡ false → requests_release side id event ≡ false)
          → HoldsAt m (moment_or last event) v.now
          → GoesAt (m - one_of id event) (moment_or last event) (reaction w event v)
      reacts (Take now) v m last keeps o =
          less_or_same m now (Take now) (takes_first w now v.incoming v.now) refl
          (first_taken m now v.incoming v.now o)
      reacts (Lose at) v m last keeps o =
          less_or_same m last (Lose at) (unmoved v.now) refl (inr o)
      reacts (Expire timer of now) v m last keeps o =
          expires_if m now timer of v.now (may_expire timer of (w.served v.now)) refl o
      reacts (Ask request now) v m last keeps o =
          less_or_same m now (Ask request now)
          (or_unmoved v.now (w.requested request now v.now)) refl
          (otherwise_unmoved m now v.now (w.requested request now v.now) o
          (ways.requested m now request v.now keeps))
      reacts (Overhear octets now) v m last keeps o =
          less_or_same m now (Overhear octets now) (w.takes octets now v.now) refl
          (ways.takes m now octets v.now o)

      -- ---- Any list of events.

      module _ (Ready : SideEvent → S → Type 0)
          (advance : (m last : ℕ) (event : SideEvent) (s : S) → Ready event s → HoldsAt m last s
          → HoldsAt m (moment_or last event) s) where
        abbrev Has : SideView S → Type 0
        Has v = HasAnswers v.delivered

        pub still_answered : (side_steps : List SideStep) (v : SideView S) → Has v
            → Has (stepped_by_all w side_steps v)
        unfolding does
        still_answered [] v h = h
        still_answered (x ∷ xs) v h =
            let before : SideView S = record v { incoming = v.incoming ++ x.arrives } in
            still_answered xs (stepped w x v)
            (more_answers v.delivered (reaction w x.event before).effects.primitives h)

        -- answered, or the property still holds
        abbrev pub HasOrHolds : ℕ → SideView S → Type 0
        HasOrHolds m v = Has v ⊎ ((last : ℕ) × HoldsAt m last v.now)

        next_goes : (x : SideStep) (v : SideView S) (m last : ℕ)
            → (may ≡ false → requests_release side id x.event ≡ false) → Ready x.event v.now
            → HoldsAt m last v.now → HasOrHolds (m - one_of id x.event) (stepped w x v)
        unfolding does
        next_goes x v m last keeps ready o =
            let before : SideView S = record v { incoming = v.incoming ++ x.arrives } in
            elim (reacts x.event before m last keeps (advance m last x.event v.now ready o)) [
              | inl h ↦ inl (answers_behind v.delivered
                  (reaction w x.event before).effects.primitives h)
              | inr q ↦ inr (moment_or last x.event, q)
            ]

        neither : (a b : Bool) → (a || b) ≡ false → (a ≡ false) × (b ≡ false)
        neither false b h = (refl, h)
        neither true b h = cc

        abbrev Keeps : List SideStep → Type 0
        Keeps side_steps = may ≡ false
            → list_any (λ x. requests_release side id x.event) side_steps ≡ false

        all_counted : (x : SideStep) (xs : List SideStep)
            → expiries_of id (x ∷ xs) ≡ one_of id x.event + expiries_of id xs
        all_counted x xs = sum_by-cons (λ y. cond {A = ℕ} (is_t200_of id y.event) 1 0) x xs

        pub all_go : (side_steps : List SideStep) (v : SideView S) (m : ℕ) → Keeps side_steps
            → Throughout w Ready side_steps v → HasOrHolds m v
            → HasOrHolds (m - expiries_of id side_steps) (stepped_by_all w side_steps v)
        all_go side_steps v m keeps ready (inl h) = inl (still_answered side_steps v h)
        all_go [] v m keeps ready (inr (last, o)) =
            inr (last, unspent m last 0 ((w.served v.now).links id) refl o)
        all_go (x ∷ xs) v m keeps ready (inr (last, o)) =
            let both : may ≡ false → (requests_release side id x.event ≡ false)
            × (list_any (λ y. requests_release side id y.event) xs ≡ false) =
            λ may_not. neither (requests_release side id x.event)
            (list_any (λ y. requests_release side id y.event) xs) (keeps may_not) in
            let less = m - one_of id x.event in
            let after = stepped_by_all w xs (stepped w x v) in
            let same : less - expiries_of id xs ≡ m - expiries_of id (x ∷ xs) =
            omega (arith, all_counted x xs) in
            subst (λ k. HasOrHolds k after) same
            (all_go xs (stepped w x v) less (λ may_not. (both may_not).1) ready.1
            (next_goes x v m last (λ may_not. (both may_not).0) ready.0 o))

  -- ---- Both kinds of sides.

  -- an expiry of the own timer, or of another one
  own_expiry : (m now : ℕ) (timer : Timer) (other : LinkId) → IsClosed → id_eq id other ≡ true
      → (l : Linked) (s : StepState) → O m now (Some l) → step Tagged (Expiry timer) l.end ≡ Ok s
      → (list_any p (filter_map (what_of []) s.outs) ≡ true)
      ⊎ O (m - one_of id (Expire timer (Some other) now)) now
      (Some (after_step now (stopped timer l.timers) s))
  own_expiry m now timer other closed same l s o done =
      subst (λ k. (list_any p (filter_map (what_of []) s.outs) ≡ true)
      ⊎ O (m - k) now (Some (after_step now (stopped timer l.timers) s)))
      (sym (own_is_one id other timer now same)) (closed.expires m now timer l s o done)

  ways : {M : Type 0} (rules : Rules M) → (closed : IsClosed)
      → ((m now : ℕ) → HoldsOfRules rules config now (GoesOn id may (O m now) p)
      (Allows id may (O m now) p config now (closed.kept m now) rules))
      → Ways (SideState M) (behaviour rules config) rules.side
  unfolding expires
  ways rules closed by_rules = record {
    takes = λ m now octets s o.
        side_takes id may (O m now) p config now (closed.kept m now) rules
        (by_rules m now).hears octets s o;
    managed = λ m now timer s may o. (by_rules m now).times_out timer s may o;
    expired = λ m now timer other s o.
        let less = m - one_of id (Expire timer (Some other) now) in
        side_expired id may (O m now) p rules config now (O less now) other timer
        (λ apart l held. unspent m now (one_of id (Expire timer (Some other) now)) l
        (other_is_other id other timer now apart) held) (closed.absent m less now)
        (own_expiry m now timer other closed) s o;
    requested = λ m now request s keeps. (by_rules m now).requested request s keeps;
  }

  pub network_ways : IsClosed → Ways Network (network_behaviour config) side.Network
  network_ways closed = ways network_rules closed
      (λ m now. network_keeps id may (O m now) p config now (closed.kept m now))

  pub user_ways : IsClosed → Ways User (user_behaviour config) side.User
  user_ways closed = ways user_rules closed
      (λ m now. user_keeps id may (O m now) p config now (closed.kept m now))
