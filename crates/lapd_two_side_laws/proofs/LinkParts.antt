-- The effect of a step among the links of a side on one of them.
use Rattle.std.proofs.Common.{◌≡◌, ℕ, List, [], ◌∷◌, map, length, Bool, true, false, if◌then◌else◌, Option, Some, None, Result, Ok, Err, refl, ap, subst, ◌∙◌, ◌++◌, sym}
use Rattle.std.specs.Prelude.{IfSome, IfOk, ◌||◌}
use Rattle.std.specs.List.{filter, filter_map, list_any}
use Rattle.std.proofs.lemmas.List.{append-nil}
use Rattle.std.proofs.lemmas.List.Elements.{filter-append, filter_map-append}
use Rattle.lapd_timers.specs.declared.timer.Timer.{Timer}
use Rattle.lapd_timers.specs.Due.{Timers}
use Rattle.lapd_frame.specs.declared.Side.{Side}
use Rattle.lapd_frame.specs.declared.Role.{Role}
use Rattle.lapd_frame.specs.declared.Role.TheVariants.{Command}
use Rattle.lapd_frame.specs.declared.Control.{Control}
use Rattle.lapd_frame.specs.declared.Control.TheVariants.{Ui}
use Rattle.lapd_frame.specs.declared.frame_fault.FrameFault.{FrameFault}
use Rattle.lapd_frame.specs.declared.fault_kind.FaultKind.{FaultKind}
use Rattle.lapd_frame.specs.Frame.{Fields, spelling, content_fault, frame_of}
use Rattle.lapd_frame.specs.Reading.{fault_for_link}
use Rattle.lapd_frame.specs.declared.Address.{Address}
use Rattle.lapd_frame.proofs.FrameAt.{parts_again}
use Rattle.lapd_mod128.specs.Counting.{Tagged}
use Rattle.lapd_link_definition.specs.declared.event.LinkFault.{LinkFault}
use Rattle.lapd_link_definition.specs.declared.out.Out.{Out}
use Rattle.lapd_link_definition.specs.declared.out.Out.TheVariants.{Send, SendMessage, SendUnit}
use Rattle.lapd_link_definition.specs.End.{End, StepState}
use Rattle.lapd_link_definition.specs.Input.{Input, Expiry}
use Rattle.lapd_link_definition.specs.Table.{step}
use Rattle.lapd_link.specs.SentFrame.{link_parts}
use Rattle.lapd_table.specs.declared.link_id.LinkId.{LinkId}
use Rattle.lapd_table.specs.LinkId.{id_eq, id_of_address, setup_for}
use Rattle.lapd_table.specs.Octets.{event_by}
use Rattle.lapd_table.proofs.Ids.{id_eq_self, same_id_eq}
use Rattle.lapd_sides_links.specs.declared.primitive.Primitive.TheVariants.{Of}
use Rattle.lapd_sides_links.specs.declared.primitive.What.{What}
use Rattle.lapd_sides_links.specs.declared.side_fault.SideKind.{SideKind}
use Rattle.lapd_sides_links.specs.declared.side_fault.SideKind.TheVariants as kind
use Rattle.lapd_sides_links.specs.Effects.{Effects, no_effects, sent_by, what_of, timed, stopped, effects_of_link, and_then}
use Rattle.lapd_sides_links.specs.Links.{Links, Linked, Reaction, acted, link_acts, link_expires, in_place, where_there, in_links, with_link}
use Rattle.lapd_two_side_laws.specs.Addressed.{is_named, is_for, those_for}
use Rattle.lapd_two_side_laws.specs.Owed.{PassesBy, IsStep, AreSilent, IsRemoval}
use Rattle.lapd_two_side_laws.specs.Premises.{is_removal}
use Rattle.lapd_two_side_laws.specs.Primitives.{what_for, link_primitives, Known, learns, learns_all, AreExpectedOfLink}

-- ---- Lists whose elements all pass a test, or all fail it.

all_pass_by : {X Y : Type 0} (p : Y → Bool) (h : X → Option Y) (x : X) (xs : List X) (o : Option Y)
    → h x ≡ o → IfSome o (λ y. p y ≡ true) → filter p (filter_map h xs) ≡ filter_map h xs
    → filter p (filter_map h (x ∷ xs)) ≡ filter_map h (x ∷ xs)
all_pass_by p h x xs None is passes rest = rw is rest
all_pass_by p h x xs (Some y) is passes rest = rw (is, passes) (ap (λ l. y ∷ l) rest)

pub all_pass : {X Y : Type 0} (p : Y → Bool) (h : X → Option Y) (xs : List X)
    → ((x : X) → IfSome (h x) (λ y. p y ≡ true)) → filter p (filter_map h xs) ≡ filter_map h xs
all_pass p h [] each = refl
all_pass p h (x ∷ xs) each = all_pass_by p h x xs (h x) refl (each x) (all_pass p h xs each)

none_pass_by : {X Y : Type 0} (p : Y → Bool) (h : X → Option Y) (x : X) (xs : List X) (o : Option Y)
    → h x ≡ o → IfSome o (λ y. p y ≡ false) → filter p (filter_map h xs) ≡ []
    → filter p (filter_map h (x ∷ xs)) ≡ []
none_pass_by p h x xs None is passes rest = rw is rest
none_pass_by p h x xs (Some y) is passes rest = rw (is, passes) rest

pub none_pass : {X Y : Type 0} (p : Y → Bool) (h : X → Option Y) (xs : List X)
    → ((x : X) → IfSome (h x) (λ y. p y ≡ false)) → filter p (filter_map h xs) ≡ []
none_pass p h [] each = refl
none_pass p h (x ∷ xs) each = none_pass_by p h x xs (h x) refl (each x) (none_pass p h xs each)

-- ---- Frames sent for a link.

named_by : (id : LinkId) (a : Address) (r : Result Fields FaultKind) → IfOk r (λ f. f.address ≡ a)
    → is_named id (event_by (fault_for_link a r)) ≡ id_eq id (id_of_address a)
named_by id a (Ok f) same = ap (λ (b : Address). id_eq id (id_of_address b)) same
named_by id a (Err kind) same = refl

with_address : (a : Address) (control : Control) (info : List ℕ) (fault : Option FaultKind)
    → IfOk (frame_of a control info fault) (λ f. f.address ≡ a)
with_address a control info None = refl
with_address a control info (Some fault) = tt

-- spelled octets belong to the link in their address, whether or not they form a valid frame
pub spelled_is_for : (side : Side) (id : LinkId) (f : Fields)
    → is_for side id (spelling side f) ≡ id_eq id (id_of_address f.address)
spelled_is_for side id f =
    ap (λ (r : Result Fields FrameFault). is_named id (event_by r)) (parts_again side f)
    ∙ named_by id f.address (frame_of f.address f.control f.info
    (content_fault f.address.role f.control (length f.info)))
    (with_address f.address f.control f.info
    (content_fault f.address.role f.control (length f.info)))

module _ (side : Side) (id other : LinkId) where
  framed : (role : Role) (control : Control) (info : List ℕ)
      → is_for side id (spelling side (link_parts (setup_for side other) role control info))
      ≡ id_eq id other
  framed role control info =
      spelled_is_for side id (link_parts (setup_for side other) role control info)

  pub sent_is_named : (e : End) (octets : List ℕ) (out : Out)
      → IfSome (sent_by (setup_for side other) e octets out)
      (λ frame. is_for side id frame ≡ id_eq id other)
  sent_is_named e octets (Send role control) = framed role control []
  sent_is_named e octets (SendMessage n control) = framed Command control _
  sent_is_named e octets SendUnit = framed Command (Ui false) octets
  sent_is_named e octets other = tt

  named_so : (test : Bool) → id_eq id other ≡ test → (o : Option (List ℕ))
      → IfSome o (λ frame. is_for side id frame ≡ id_eq id other)
      → IfSome o (λ frame. is_for side id frame ≡ test)
  named_so test is None h = tt
  named_so test is (Some frame) h = h ∙ is

  -- ---- The primitives for a link.

  delivered_own : (reports_of_link : List What) → id_eq id other ≡ true
      → link_primitives id (map (Of other) reports_of_link) ≡ reports_of_link
  delivered_own [] is = refl
  delivered_own (w ∷ ws) is = rw is (ap (λ l. w ∷ l) (delivered_own ws is))

  delivered_other : (reports_of_link : List What) → id_eq id other ≡ false
      → link_primitives id (map (Of other) reports_of_link) ≡ []
  delivered_other [] is = refl
  delivered_other (w ∷ ws) is = rw is (delivered_other ws is)

  pub own_frames : (e : End) (octets : List ℕ) (outs : List Out) → id_eq id other ≡ true
      → those_for side id (effects_of_link side other e octets outs).frames
      ≡ filter_map (sent_by (setup_for side other) e octets) outs
  own_frames e octets outs is =
      all_pass (is_for side id) (sent_by (setup_for side other) e octets) outs
      (λ out. named_so true is _ (sent_is_named e octets out))

  pub other_frames : (e : End) (octets : List ℕ) (outs : List Out) → id_eq id other ≡ false
      → those_for side id (effects_of_link side other e octets outs).frames ≡ []
  other_frames e octets outs is =
      none_pass (is_for side id) (sent_by (setup_for side other) e octets) outs
      (λ out. named_so false is _ (sent_is_named e octets out))

  -- ---- A step of another link.

  abbrev Does : Result (Reaction Links) SideKind → Reaction Links → Type 0
  Does r a = r ≡ Ok a

  same_links : (x y : Reaction Links) → Does (Ok x) y → x ≡ y
  same_links x y h = cc

  placed_other : (links : Links) (now : ℕ) (octets : List ℕ) (timers : Timers)
      (r : Result StepState LinkFault) (a : Reaction Links) → id_eq id other ≡ false
      → in_place other links (acted side other now octets timers r) ≡ Ok a
      → PassesBy side id links a.after a.effects
  placed_other links now octets timers (Err fault) a apart is = cc
  placed_other links now octets timers (Ok s) a apart is =
      let l : Linked = record { end = s.end; timers = timed now s.outs timers } in
      subst (λ (x : Reaction Links). PassesBy side id links x.after x.effects)
      (same_links (record {
        after = with_link other (Some l) links;
        effects = effects_of_link side other s.end octets s.outs;
      }) a is)
      (record {
        links = ap (λ (t : Bool). if t then Some l else links id) apart;
        frames = other_frames s.end octets s.outs apart;
        delivered = delivered_other (filter_map (what_of octets) s.outs) apart;
      })

  there_other : (links : Links) (now : ℕ) (input : Input) (octets : List ℕ)
      (change : Timers → Timers) (l : Option Linked) (a : Reaction Links) → id_eq id other ≡ false
      → where_there other links l
      (λ (m : Linked). acted side other now octets (change m.timers) (step Tagged input m.end))
      ≡ Ok a → PassesBy side id links a.after a.effects
  there_other links now input octets change None a apart is = cc
  there_other links now input octets change (Some l) a apart is =
      placed_other links now octets (change l.timers) (step Tagged input l.end) a apart is

  pub other_acts : (links : Links) (now : ℕ) (input : Input) (octets : List ℕ) (a : Reaction Links)
      → id_eq id other ≡ false
      → in_links other (link_acts side other now input octets) links ≡ Ok a
      → PassesBy side id links a.after a.effects
  unfolding in_links link_acts
  other_acts links now input octets a apart is =
      there_other links now input octets (λ (t : Timers). t) (links other) a apart is

  -- the same for an expired timer
  pub other_expires : (links : Links) (now : ℕ) (timer : Timer) (a : Reaction Links)
      → id_eq id other ≡ false
      → in_links other (link_expires side other now timer) links ≡ Ok a
      → PassesBy side id links a.after a.effects
  unfolding in_links link_acts link_expires
  other_expires links now timer a apart is =
      there_other links now (Expiry timer) [] (stopped timer) (links other) a apart is

-- ---- A step of the link itself.

module _ (side : Side) (id : LinkId) (links : Links) (now : ℕ) (input : Input) (octets : List ℕ)
    (change : Timers → Timers) (l : Linked) (s : StepState) (was : links id ≡ Some l)
    (done : step Tagged input l.end ≡ Ok s) where
  -- the links after the step, and its effects
  abbrev pub own_reaction : Reaction Links
  own_reaction = record {
    after =
        with_link id (Some (record { end = s.end; timers = timed now s.outs (change l.timers) }))
        links;
    effects = effects_of_link side id s.end octets s.outs;
  }

  pub own_is_step : IsStep side id now input octets change links own_reaction.after
      own_reaction.effects
  own_is_step = record {
    linked = l;
    was = was;
    done = s;
    is = done;
    links =
        ap (λ (t : Bool). if t then Some
        (record { end = s.end; timers = timed now s.outs (change l.timers) }) else links id)
        (id_eq_self id);
    frames = own_frames side id id s.end octets s.outs (id_eq_self id);
    delivered = delivered_own side id id (filter_map (what_of octets) s.outs) (id_eq_self id);
  }

  pub own_outcome : where_there id links (links id)
      (λ (m : Linked). acted side id now octets (change m.timers) (step Tagged input m.end))
      ≡ Ok own_reaction
  own_outcome =
      ap (λ (o : Option Linked). where_there id links o
      (λ (m : Linked). acted side id now octets (change m.timers)
      (step Tagged input m.end))) was
      ∙ ap (λ (r : Result StepState LinkFault). in_place id links
      (acted side id now octets (change l.timers) r)) done

pub own_acts : (side : Side) (id : LinkId) (links : Links) (now : ℕ) (input : Input)
    (octets : List ℕ) (l : Linked) (s : StepState) (was : links id ≡ Some l)
    (done : step Tagged input l.end ≡ Ok s)
    → in_links id (link_acts side id now input octets) links
    ≡ Ok (own_reaction side id links now input octets (λ (t : Timers). t) l s was done)
unfolding in_links link_acts
own_acts side id links now input octets l s was done =
    own_outcome side id links now input octets (λ (t : Timers). t) l s was done

pub own_expires : (side : Side) (id : LinkId) (links : Links) (now : ℕ) (timer : Timer) (l : Linked)
    (s : StepState) (was : links id ≡ Some l) (done : step Tagged (Expiry timer) l.end ≡ Ok s)
    → in_links id (link_expires side id now timer) links
    ≡ Ok (own_reaction side id links now (Expiry timer) [] (stopped timer) l s was done)
unfolding in_links link_acts link_expires
own_expires side id links now timer l s was done =
    own_outcome side id links now (Expiry timer) [] (stopped timer) l s was done

-- an existing link answers an input with its step or a refusal; an accepted input is its step
pub record ActsOwn (side : Side) (id : LinkId) (links : Links) (now : ℕ) (input : Input)
    (octets : List ℕ) (a : Reaction Links) : Type 0 where
  pub is_step : IsStep side id now input octets (λ (t : Timers). t) links a.after a.effects

same_acted : (x y : Reaction Links) (r : Result (Reaction Links) SideKind) → r ≡ Ok x → r ≡ Ok y
    → x ≡ y
same_acted x y r hx hy = cc

refused_there : (side : Side) (id : LinkId) (links : Links) (now : ℕ) (input : Input)
    (octets : List ℕ) (l : Linked) (fault : LinkFault) (a : Reaction Links) → links id ≡ Some l
    → step Tagged input l.end ≡ Err fault
    → in_links id (link_acts side id now input octets) links ≡ Ok a → ⊥
unfolding in_links link_acts
refused_there side id links now input octets l fault a was refused is =
    let err : in_links id (link_acts side id now input octets) links ≡ Err (kind.Link fault) =
    ap (λ (o : Option Linked). where_there id links o
    (λ (m : Linked). acted side id now octets m.timers (step Tagged input m.end))) was
    ∙ ap (λ (r : Result StepState LinkFault). in_place id links
    (acted side id now octets l.timers r)) refused in
    cc

by_result : (side : Side) (id : LinkId) (links : Links) (now : ℕ) (input : Input) (octets : List ℕ)
    (l : Linked) (r : Result StepState LinkFault) (a : Reaction Links) → links id ≡ Some l
    → step Tagged input l.end ≡ r
    → in_links id (link_acts side id now input octets) links ≡ Ok a
    → ActsOwn side id links now input octets a
by_result side id links now input octets l (Ok s) a was done is =
    let same =
    same_acted
    (own_reaction side id links now input octets (λ (t : Timers). t) l s was done) a _
    (own_acts side id links now input octets l s was done) is in
    record {
      is_step =
          subst (λ (x : Reaction Links). IsStep side id now input octets (λ (t : Timers). t) links
          x.after x.effects) same
          (own_is_step side id links now input octets (λ (t : Timers). t) l s was done);
    }
by_result side id links now input octets l (Err fault) a was refused is =
    absurd (refused_there side id links now input octets l fault a was refused is)

-- an input that the existing link accepts
pub own_granted : (side : Side) (id : LinkId) (links : Links) (now : ℕ) (input : Input)
    (octets : List ℕ) (l : Linked) (a : Reaction Links) → links id ≡ Some l
    → in_links id (link_acts side id now input octets) links ≡ Ok a
    → ActsOwn side id links now input octets a
own_granted side id links now input octets l a was is =
    by_result side id links now input octets l (step Tagged input l.end) a was refl is

-- ---- No step, and one step after another.

pub passes_by_nothing : (side : Side) (id : LinkId) (links : Links)
    → PassesBy side id links links no_effects
passes_by_nothing side id links = record { links = refl; frames = refl; delivered = refl }

pub passes_by_both : (side : Side) (id : LinkId) (first second third : Links) (a b : Effects)
    → PassesBy side id first second a → PassesBy side id second third b
    → PassesBy side id first third (and_then a b)
passes_by_both side id first second third a b ha hb = record {
  links = hb.links ∙ ha.links;
  frames = filter-append (is_for side id) a.frames b.frames ∙ rw (ha.frames, hb.frames) refl;
  delivered =
      filter_map-append (what_for id) a.primitives b.primitives
      ∙ rw (ha.delivered, hb.delivered) refl;
}

pub pass_then_step : (side : Side) (id : LinkId) (at : ℕ) (input : Input) (octets : List ℕ)
    (change : Timers → Timers) (first second third : Links) (a b : Effects)
    → PassesBy side id first second a → IsStep side id at input octets change second third b
    → IsStep side id at input octets change first third (and_then a b)
pass_then_step side id at input octets change first second third a b p x = record {
  linked = x.linked;
  was = sym p.links ∙ x.was;
  done = x.done;
  is = x.is;
  links = x.links;
  frames =
      filter-append (is_for side id) a.frames b.frames
      ∙ ap (λ l. l ++ those_for side id b.frames) p.frames ∙ x.frames;
  delivered =
      filter_map-append (what_for id) a.primitives b.primitives
      ∙ ap (λ l. l ++ link_primitives id b.primitives) p.delivered ∙ x.delivered;
}

pub step_then_pass : (side : Side) (id : LinkId) (at : ℕ) (input : Input) (octets : List ℕ)
    (change : Timers → Timers) (first second third : Links) (a b : Effects)
    → IsStep side id at input octets change first second a → PassesBy side id second third b
    → IsStep side id at input octets change first third (and_then a b)
step_then_pass side id at input octets change first second third a b x p = record {
  linked = x.linked;
  was = x.was;
  done = x.done;
  is = x.is;
  links = p.links ∙ x.links;
  frames =
      filter-append (is_for side id) a.frames b.frames
      ∙ ap (λ l. those_for side id a.frames ++ l) p.frames ∙ append-nil (those_for side id a.frames)
      ∙ x.frames;
  delivered =
      filter_map-append (what_for id) a.primitives b.primitives
      ∙ ap (λ l. link_primitives id a.primitives ++ l) p.delivered
      ∙ append-nil (link_primitives id a.primitives) ∙ x.delivered;
}

-- ---- A link that does not exist.

pub now_there : (id : LinkId) (fresh : Linked) (links : Links)
    → with_link id (Some fresh) links id ≡ Some fresh
now_there id fresh links = ap (λ (t : Bool). if t then Some fresh else links id) (id_eq_self id)

pub absent_refuses : (side : Side) (id : LinkId) (links : Links) (now : ℕ) (input : Input)
    (octets : List ℕ) → links id ≡ None
    → in_links id (link_acts side id now input octets) links ≡ Err kind.NoLink
unfolding in_links link_acts
absent_refuses side id links now input octets none =
    ap (λ (o : Option Linked). where_there id links o
    (λ (m : Linked). acted side id now octets m.timers (step Tagged input m.end))) none

absent_by : (side : Side) (id other : LinkId) (links : Links) (now : ℕ) (input : Input)
    (octets : List ℕ) (a : Reaction Links) (test : Bool) → links id ≡ None → id_eq id other ≡ test
    → in_links other (link_acts side other now input octets) links ≡ Ok a
    → PassesBy side id links a.after a.effects
absent_by side id other links now input octets a false none apart is =
    other_acts side id other links now input octets a apart is
absent_by side id other links now input octets a true none same is =
    let err : in_links other (link_acts side other now input octets) links ≡ Err kind.NoLink =
    subst (λ (k : LinkId). in_links k (link_acts side k now input octets) links ≡ Err kind.NoLink)
    (same_id_eq id other same) (absent_refuses side id links now input octets none) in
    cc

-- whatever any link does
pub absent_acts : (side : Side) (id other : LinkId) (links : Links) (now : ℕ) (input : Input)
    (octets : List ℕ) (a : Reaction Links) → links id ≡ None
    → in_links other (link_acts side other now input octets) links ≡ Ok a
    → PassesBy side id links a.after a.effects
absent_acts side id other links now input octets a none is =
    absent_by side id other links now input octets a (id_eq id other) none refl is

-- a link that does not exist expires no timer, and whichever timer expires leaves it unchanged
pub absent_expires : (side : Side) (id : LinkId) (links : Links) (now : ℕ) (timer : Timer)
    (a : Reaction Links) → links id ≡ None
    → in_links id (link_expires side id now timer) links ≡ Ok a → ⊥
unfolding in_links
absent_expires side id links now timer a none is =
    let err : in_links id (link_expires side id now timer) links ≡ Err kind.NoLink =
    ap (λ (o : Option Linked). where_there id links o (link_expires side id now timer)) none in cc

pub expiry_passes : (side : Side) (id other : LinkId) (links : Links) (now : ℕ) (timer : Timer)
    (a : Reaction Links) → links id ≡ None
    → in_links other (link_expires side other now timer) links ≡ Ok a
    → PassesBy side id links a.after a.effects
expiry_passes side id other links now timer a none is = by_test (id_eq id other) refl
  where
    by_test : (test : Bool) → id_eq id other ≡ test → PassesBy side id links a.after a.effects
    by_test false apart = other_expires side id other links now timer a apart is
    by_test true same =
        absurd (absent_expires side id links now timer a none (subst (λ (k : LinkId).
        in_links k (link_expires side k now timer) links ≡ Ok a)
        (sym (same_id_eq id other same)) is))

-- ---- Primitives for a link that is removed.

or_more : (a b c : Bool) → (b ≡ true → c ≡ true) → (a || b) ≡ true → (a || c) ≡ true
or_more true b c more h = refl
or_more false b c more h = more h

pub any_more : {X : Type 0} (test : X → Bool) (xs ys : List X) → list_any test xs ≡ true
    → list_any test (xs ++ ys) ≡ true
any_more test [] ys h = cc
any_more test (x ∷ xs) ys h =
    or_more (test x) (list_any test xs) (list_any test (xs ++ ys)) (any_more test xs ys) h

pub any_behind : {X : Type 0} (test : X → Bool) (xs ys : List X) → list_any test ys ≡ true
    → list_any test (xs ++ ys) ≡ true
any_behind test [] ys h = h
any_behind test (x ∷ xs) ys h = rw (any_behind test xs ys h) (or_true (test x))
  where
    or_true : (b : Bool) → (b || true) ≡ true
    or_true true = refl
    or_true false = refl

pub learns_both : (xs ys : List What) (k : Known)
    → learns_all (xs ++ ys) k ≡ learns_all ys (learns_all xs k)
learns_both [] ys k = refl
learns_both (x ∷ xs) ys k = learns_both xs ys (learns x k)

pub expected_both : (xs ys : List What) → AreExpectedOfLink xs → AreExpectedOfLink ys
    → AreExpectedOfLink (xs ++ ys)
expected_both [] ys hx hy = hy
expected_both (x ∷ xs) ys hx hy = (hx.0, expected_both xs ys hx.1 hy)

pub silent_both : (xs ys : List What) → AreSilent xs → AreSilent ys → AreSilent (xs ++ ys)
silent_both xs ys hx hy = record {
  teaches = λ k. learns_both xs ys k ∙ ap (learns_all ys) (hx.teaches k) ∙ hy.teaches k;
  expected = expected_both xs ys hx.expected hy.expected;
}

pub removal_then_pass : (side : Side) (id : LinkId) (second third : Links) (a b : Effects)
    → IsRemoval side id second a → PassesBy side id second third b
    → IsRemoval side id third (and_then a b)
removal_then_pass side id second third a b r p = record {
  now_absent = p.links ∙ r.now_absent;
  frames =
      filter-append (is_for side id) a.frames b.frames
      ∙ ap (λ l. those_for side id a.frames ++ l) p.frames ∙ append-nil (those_for side id a.frames)
      ∙ r.frames;
  delivered =
      subst AreSilent (sym (filter_map-append (what_for id) a.primitives b.primitives
      ∙ ap (λ l. link_primitives id a.primitives ++ l) p.delivered
      ∙ append-nil (link_primitives id a.primitives))) r.delivered;
  reporting = any_more (is_removal id.tei) a.primitives b.primitives r.reporting;
}
