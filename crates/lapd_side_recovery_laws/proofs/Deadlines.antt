-- The deadlines of a link after an event: none is further away than its timer runs.
use Rattle.std.proofs.Common.{◌≡◌, inl, inr, ℕ, ◌+◌, ◌≤◌, List, [], ◌∷◌, Bool, Option, Some, None, sym, subst, ◌∙◌, arith}
use Rattle.lapd_timers.specs.declared.timer.Timer.{Timer}
use Rattle.lapd_timers.specs.declared.timer.Timer.TheVariants.{T200, T201, T202, T203}
use Rattle.lapd_timers.specs.Due.{Timers, deadline_from}
use Rattle.lapd_frame.specs.declared.Side.{Side}
use Rattle.lapd_link_definition.specs.declared.out.Out.{Out}
use Rattle.lapd_link_definition.specs.declared.out.Out.TheVariants.{Start, Stop}
use Rattle.lapd_link_definition.specs.Input.{Input, Establish}
use Rattle.lapd_table.specs.declared.link_id.LinkId.{LinkId}
use Rattle.lapd_sides_links.specs.Effects.{Effects, started, stopped, timed, timed_by}
use Rattle.lapd_sides_links.specs.Links.{Linked, Links, with_link}
use Rattle.lapd_two_side_laws.specs.Owed.{IsStep, IsUnmovedBy}
use Rattle.lapd_two_side_laws.proofs.LinkParts.{now_there}

some_moment : (a b : ℕ) → Some a ≡ Some b → a ≡ b
some_moment a b h = cc

some_linked : (a b : Linked) → Some a ≡ Some b → a ≡ b
some_linked a b h = cc

module _ (t200 t203 : ℕ) where
  -- the timers run at most so long, and were started at this moment or before
  pub record AreSet (latest : ℕ) (t : Timers) : Type 0 where
    pub long_200 : t.durations.t200 ≤ t200
    pub long_203 : t.durations.t203 ≤ t203
    pub until_200 : (deadline : ℕ) → t.t200 ≡ Some deadline → deadline ≤ latest + t200
    pub until_203 : (deadline : ℕ) → t.t203 ≡ Some deadline → deadline ≤ latest + t203

  set_later : (latest now : ℕ) (t : Timers) → latest ≤ now → AreSet latest t → AreSet now t
  set_later latest now t later h = record {
    long_200 = h.long_200;
    long_203 = h.long_203;
    until_200 = λ deadline is. (let le = h.until_200 deadline is in omega (arith, le, later));
    until_203 = λ deadline is. (let le = h.until_203 deadline is in omega (arith, le, later));
  }

  started_now : (now : ℕ) (timer : Timer) (t : Timers) → AreSet now t
      → AreSet now (started now timer t)
  started_now now T200 t h = record {
    long_200 = h.long_200;
    long_203 = h.long_203;
    until_200 = λ deadline is.
        (let same = some_moment (deadline_from now t.durations.t200) deadline is in
        let long = h.long_200 in omega (arith, same, long));
    until_203 = h.until_203;
  }
  started_now now T203 t h = record {
    long_200 = h.long_200;
    long_203 = h.long_203;
    until_200 = h.until_200;
    until_203 = λ deadline is.
        (let same = some_moment (deadline_from now t.durations.t203) deadline is in
        let long = h.long_203 in omega (arith, same, long));
  }
  started_now now T201 t h = record {
    long_200 = h.long_200;
    long_203 = h.long_203;
    until_200 = h.until_200;
    until_203 = h.until_203;
  }
  started_now now T202 t h = record {
    long_200 = h.long_200;
    long_203 = h.long_203;
    until_200 = h.until_200;
    until_203 = h.until_203;
  }

  pub stopped_set : (latest : ℕ) (timer : Timer) (t : Timers) → AreSet latest t
      → AreSet latest (stopped timer t)
  stopped_set latest T200 t h = record {
    long_200 = h.long_200;
    long_203 = h.long_203;
    until_200 = λ deadline is. cc;
    until_203 = h.until_203;
  }
  stopped_set latest T203 t h = record {
    long_200 = h.long_200;
    long_203 = h.long_203;
    until_200 = h.until_200;
    until_203 = λ deadline is. cc;
  }
  stopped_set latest T201 t h = record {
    long_200 = h.long_200;
    long_203 = h.long_203;
    until_200 = h.until_200;
    until_203 = h.until_203;
  }
  stopped_set latest T202 t h = record {
    long_200 = h.long_200;
    long_203 = h.long_203;
    until_200 = h.until_200;
    until_203 = h.until_203;
  }

  set_by_out : (now : ℕ) (out : Out) (t : Timers) → AreSet now t → AreSet now (timed_by now out t)
  set_by_out now (Start timer) t h = started_now now timer t h
  set_by_out now (Stop timer) t h = stopped_set now timer t h
  set_by_out now other t h = h

  set_by_outs : (now : ℕ) (outs : List Out) (t : Timers) → AreSet now t
      → AreSet now (timed now outs t)
  set_by_outs now [] t h = h
  set_by_outs now (out ∷ outs) t h =
      set_by_outs now outs (timed_by now out t) (set_by_out now out t h)

  -- ---- Of a link that may not exist.

  abbrev pub IsSet : ℕ → Option Linked → Type 0
  IsSet latest o = (l : Linked) → o ≡ Some l → AreSet latest l.timers

  pub none_set : (latest : ℕ) → IsSet latest None
  none_set latest l is = cc

  pub some_set : (latest : ℕ) (l : Linked) → AreSet latest l.timers → IsSet latest (Some l)
  some_set latest l h m is =
      subst (λ (x : Linked). AreSet latest x.timers) (some_linked l m is) h

  pub link_later : (latest now : ℕ) (o : Option Linked) → latest ≤ now → IsSet latest o
      → IsSet now o
  link_later latest now o later h l is = set_later latest now l.timers later (h l is)

  pub link_stays : (latest : ℕ) (before now : Option Linked) → now ≡ before → IsSet latest before
      → IsSet latest now
  link_stays latest before now same h l is = h l (sym same ∙ is)

  -- ---- After an event of the link's side.

  module _ (side : Side) (id : LinkId) (at : ℕ) (before now : Links) (effects : Effects)
      (latest : ℕ) (later : latest ≤ at) where
    pub set_by_step : (input : Input) (octets : List ℕ) (change : Timers → Timers)
        → ((t : Timers) → AreSet latest t → AreSet latest (change t))
        → IsStep side id at input octets change before now effects → IsSet latest (before id)
        → IsSet at (now id)
    set_by_step input octets change changes x h =
        subst (IsSet at) (sym x.links)
        (some_set at (record {
          end = x.done.end;
          timers = timed at x.done.outs (change x.linked.timers);
        })
        (set_by_outs at x.done.outs (change x.linked.timers)
        (set_later latest at (change x.linked.timers) later
        (changes x.linked.timers (h x.linked x.was)))))

  module _ (side : Side) (id : LinkId) (at : ℕ) (before now : Links) (effects : Effects)
      (latest : ℕ) (later : latest ≤ at) (fresh : Linked) (fresh_set : AreSet at fresh.timers) where
    joined : IsSet at (with_link id (Some fresh) before id)
    joined = link_stays at (Some fresh) (with_link id (Some fresh) before id)
        (now_there id fresh before) (some_set at fresh fresh_set)

    pub set_if_unmoved : (removed : Bool)
        → IsUnmovedBy side id at fresh removed before now effects → IsSet latest (before id)
        → IsSet at (now id)
    set_if_unmoved removed (inl passes) h =
        link_stays at (before id) (now id) passes.links
        (link_later latest at (before id) later h)
    set_if_unmoved removed (inr (inl added)) h = elim added.arrives [
      | inl alone ↦ link_stays at (with_link id (Some fresh) before id) (now id) alone.links joined
      | inr does ↦ set_by_step side id at (with_link id (Some fresh) before) now effects at
          (omega arith) Establish [] (λ t. t) (λ t s. s) does joined
    ]
    set_if_unmoved removed (inr (inr gone)) h =
        link_stays at None (now id) gone.now_absent (none_set at)
