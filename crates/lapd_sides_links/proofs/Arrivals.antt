-- The links of a TEI are added and removed.
use Rattle.std.proofs.Common.{◌≡◌, ◌≢◌, ℕ, List, ◌++◌, Bool, true, false, Option, Some, None, Result, Ok, Err, OnOk, refl, sym, ap, ◌∙◌, subst}
use Rattle.std.specs.Prelude.{◌==◌, if◌then◌else◌, is_err, is_none, IfSome}
use Rattle.std.proofs.lemmas.List.{append_assoc}
use Rattle.lapd_timers.specs.Due.{Timers, all_stopped}
use Rattle.lapd_timers.specs.Durations.{Lengths}
use Rattle.lapd_frame.specs.declared.Sapi.{Sapi}
use Rattle.lapd_frame.specs.declared.Sapi.TheVariants.{Call, Packet, Management}
use Rattle.lapd_frame.specs.declared.Side.{Side}
use Rattle.lapd_link.specs.Link.{LinkRepresents}
use Rattle.lapd_link.specs.declared.link.Link.{Link}
use Rattle.lapd_link_definition.specs.End.{new_end}
use Rattle.lapd_link_definition.specs.Parameters.{Parameters}
use Rattle.lapd_table.specs.declared.link_id.LinkId.{LinkId}
use Rattle.lapd_table.specs.LinkId.{id_eq}
use Rattle.lapd_table.specs.LinkTable.{link_at, side_of, Changes}
use Rattle.lapd_table.specs.declared.link_table.LinkTable.{LinkTable}
use Rattle.lapd_table.proofs.Ids.{same_id_eq}
use Rattle.lapd_sides_links.specs.declared.config.Config.{Config}
use Rattle.lapd_sides_links.specs.declared.link_set.LinkSet.{LinkSet}
use Rattle.lapd_sides_links.specs.declared.primitive.Primitive.{Primitive}
use Rattle.lapd_sides_links.specs.declared.link_timers.LinkTimers.{LinkTimers}
use Rattle.lapd_sides_links.specs.Links.{Links, Linked, of_sapi, or_new, with_link, with_new_link, with_tei, without_tei, new_linked, primitives_at_removal, primitive_of_tei}
use Rattle.lapd_sides_links.specs.Places.{AreStopped, IsKept}
use Rattle.lapd_sides_links.specs.Shown.{timers_at, IsLinked, ShowLinks}
use Rattle.lapd_sides_links.proofs.Acting.{put_in_place, now_linked, nothing_linked}
use Rattle.lapd_sides_links.proofs.LoneTimers.{none_of_management}

-- a statement about links holds for links that are equal one by one
pub same_links : (side : Side) (s : LinkSet) (these those : Links)
    → ((id : LinkId) → these id ≡ those id) → ShowLinks side s these → ShowLinks side s those
same_links side s these those same shown = record {
  of_side = shown.of_side;
  each =
      λ id. subst
      (λ (l : Option Linked). IsLinked (link_at s.table id) (timers_at s.link_timers id) l)
      (same id) (shown.each id);
}

-- ---- Adding links.

-- the link of SAPI 0 first, then the link of SAPI 16
abbrev with_call : Config → ℕ → Links → Links
with_call config tei links =
    with_new_link (of_sapi Call tei) (new_linked config.params0 config.durations) links

abbrev with_both : Config → ℕ → Links → Links
with_both config tei links =
    with_new_link (of_sapi Packet tei) (new_linked config.params16 config.durations)
    (with_call config tei links)

both_at : (config : Config) (tei : ℕ) (links : Links) (s : Sapi) (t : ℕ) → config.sapi16 ≡ true
    → with_both config tei links (of_sapi s t) ≡ with_tei config tei links (of_sapi s t)
unfolding with_tei
both_at config tei links Call t on = refl
both_at config tei links Packet t on = rw on refl
both_at config tei links Management t on = refl

one_at : (config : Config) (tei : ℕ) (links : Links) (s : Sapi) (t : ℕ) → config.sapi16 ≡ false
    → with_call config tei links (of_sapi s t) ≡ with_tei config tei links (of_sapi s t)
unfolding with_tei
one_at config tei links Call t off = refl
one_at config tei links Packet t off = rw off refl
one_at config tei links Management t off = refl

module _ (side : Side) (s : LinkSet) (config : Config) (tei : ℕ) (links : Links) (call : LinkId)
    (named : call ≡ of_sapi Call tei) where
  pub one_added : config.sapi16 ≡ false
      → ShowLinks side s (with_new_link call (new_linked config.params0 config.durations) links)
      → ShowLinks side s (with_tei config tei links)
  one_added off shown =
      same_links side s (with_call config tei links) (with_tei config tei links)
      (λ id. one_at config tei links id.sapi id.tei off)
      (subst (λ (k : LinkId). ShowLinks side s
      (with_new_link k (new_linked config.params0 config.durations) links)) named shown)

  pub both_added : (packet : LinkId) → packet ≡ of_sapi Packet tei → config.sapi16 ≡ true
      → ShowLinks side s (with_new_link packet (new_linked config.params16 config.durations)
      (with_new_link call (new_linked config.params0 config.durations) links))
      → ShowLinks side s (with_tei config tei links)
  both_added packet second on shown =
      same_links side s (with_both config tei links) (with_tei config tei links)
      (λ id. both_at config tei links id.sapi id.tei on)
      (subst (λ (k : LinkId). ShowLinks side s
      (with_new_link (of_sapi Packet tei) (new_linked config.params16 config.durations)
      (with_new_link k (new_linked config.params0 config.durations) links))) named
      (subst (λ (k : LinkId). ShowLinks side s
      (with_new_link k (new_linked config.params16 config.durations)
      (with_new_link call (new_linked config.params0 config.durations) links)))
      second shown))

-- ---- A link is added, unless it exists.

pub no_error : {A E : Type 0} (result : Result A E) (P : Type 0) → is_err result ≡ false
    → OnOk result P → P
no_error (Ok a) P h p = p
no_error (Err e) P h p = cc

-- timers that exist are unchanged, and no others run
kept_linked : (link : Option Link) (before after : Option Timers) (l : Option Linked)
    → IsKept before after → IsLinked link before l → IsLinked link after l
kept_linked None None after None kept h = kept
kept_linked None (Some timers) after None kept h =
    subst (λ (t : Option Timers). IfSome t AreStopped) (sym kept) h
kept_linked None before after (Some l) kept h = absurd h
kept_linked (Some link) None after None kept h = absurd h
kept_linked (Some link) None after (Some l) kept h = absurd h
kept_linked (Some link) (Some timers) after None kept h = absurd h
kept_linked (Some link) (Some timers) after (Some l) kept h =
    subst (λ (t : Option Timers). IsLinked (Some link) t (Some l)) (sym kept) h

abbrev KeepsTimers : LinkTimers → LinkTimers → Type 0
KeepsTimers old new = (id : LinkId) → IsKept (timers_at old id) (timers_at new id)

-- the links are unchanged when room is made
pub room_made : (side : Side) (old new : LinkSet) (links : Links) → new.table ≡ old.table
    → KeepsTimers old.link_timers new.link_timers → ShowLinks side old links
    → ShowLinks side new links
room_made side old new links table kept shown = record {
  of_side = ap side_of table ∙ shown.of_side;
  each = λ id.
      let link = link_at old.table id in
      let after = timers_at new.link_timers id in
      subst (λ (t : LinkTable). IsLinked (link_at t id) after (links id)) (sym table)
      (kept_linked link (timers_at old.link_timers id) after (links id) (kept id) (shown.each id));
}

-- the timers of a link are reset, and those of others are unchanged
pub record AreReset (old new : LinkTimers) (id : LinkId) (lengths : Lengths) : Type 0 where
  pub own : timers_at new id ≡ Some (all_stopped lengths)
  pub others : (other : LinkId) → other ≢ id → timers_at new other ≡ timers_at old other

new_at : (new : Linked) (id other : LinkId) (links : Links) (test : Bool) → id_eq other id ≡ test
    → links id ≡ None
    → (if test then Some new else links other)
    ≡ (if test then or_new new (links other) else links other)
new_at new id other links true is none =
    sym (ap (or_new new) (ap links (same_id_eq other id is) ∙ none))
new_at new id other links false is none = refl

kept : (new : Linked) (l : Option Linked) → is_none l ≡ false → l ≡ or_new new l
kept new None there = cc
kept new (Some l) there = refl

kept_at : (new : Linked) (id other : LinkId) (links : Links) (test : Bool) → id_eq other id ≡ test
    → is_none (links id) ≡ false
    → links other ≡ (if test then or_new new (links other) else links other)
kept_at new id other links true is there =
    kept new (links other) (ap (λ (k : LinkId). is_none (links k)) (same_id_eq other id is) ∙ there)
kept_at new id other links false is there = refl

gone_at : (new : Linked) (id other : LinkId) (links : Links) (test : Bool) → id_eq other id ≡ test
    → is_none (links id) ≡ true
    → (if test then None else (if test then or_new new (links other) else links other))
    ≡ links other
gone_at new id other links true is none =
    sym
    (none_so (links other) (ap (λ (k : LinkId). is_none (links k)) (same_id_eq other id is) ∙ none))
  where
    none_so : (l : Option Linked) → is_none l ≡ true → l ≡ None
    none_so None h = refl
    none_so (Some l) h = cc
gone_at new id other links false is none = refl

module _ (side : Side) (old : LinkSet) (links : Links) (id : LinkId)
    (shown : ShowLinks side old links) where
  pub is_absent : link_at old.table id ≡ None → links id ≡ None
  is_absent absent =
      nothing_linked (link_at old.table id) (timers_at old.link_timers id) (links id) absent
      (shown.each id)

  pub new_there : (new : LinkSet) (link : Link) (parameters : Parameters) (lengths : Lengths)
      → links id ≡ None
      → LinkRepresents link (new_end parameters) → Changes old.table new.table id (Some link)
      → AreReset old.link_timers new.link_timers id lengths
      → ShowLinks side new (with_new_link id (new_linked parameters lengths) links)
  new_there new link parameters lengths none represents changes reset =
      let fresh = new_linked parameters lengths in
      same_links side new (with_link id (Some fresh) links) (with_new_link id fresh links)
      (λ other. new_at fresh id other links (id_eq other id) refl none)
      (put_in_place side old new links id (Some fresh) changes.side
      (now_linked (link_at new.table id) (timers_at new.link_timers id) link fresh changes.there
      reset.own represents) changes.others reset.others shown)

-- ---- A link that was added is removed again; one that existed stays.

module _ (side : Side) (s : LinkSet) (links : Links) (id : LinkId) (new : Linked) where
  pub taken_back : is_none (links id) ≡ true
      → ShowLinks side s (with_link id None (with_new_link id new links)) → ShowLinks side s links
  taken_back none shown =
      same_links side s (with_link id None (with_new_link id new links)) links
      (λ other. gone_at new id other links (id_eq other id) refl none) shown

  pub left_alone : is_none (links id) ≡ false → ShowLinks side s (with_new_link id new links)
      → ShowLinks side s links
  left_alone there shown =
      same_links side s (with_new_link id new links) links
      (λ other. sym (kept_at new id other links (id_eq other id) refl there)) shown

-- ---- Removing links.

unplaced : (found : Option Link) (l : Option Linked) → IsLinked found None l → l ≡ None
unplaced None None h = refl
unplaced None (Some l) h = absurd h
unplaced (Some link) None h = absurd h
unplaced (Some link) (Some l) h = absurd h

either_none : (test : Bool) (l : Option Linked) → l ≡ None → l ≡ (if test then None else l)
either_none true l none = none
either_none false l none = refl

removed_at : (side : Side) (s : LinkSet) (tei : ℕ) (links : Links) (sapi : Sapi) (t : ℕ)
    → ShowLinks side s links
    → with_link (of_sapi Packet tei) None (with_link (of_sapi Call tei) None links) (of_sapi sapi t)
    ≡ without_tei tei links (of_sapi sapi t)
unfolding without_tei
removed_at side s tei links Call t shown = refl
removed_at side s tei links Packet t shown = refl
removed_at side s tei links Management t shown =
    let id = of_sapi Management t in
    let none = none_of_management s.link_timers t in
    let linked = subst (λ (x : Option Timers). IsLinked (link_at s.table id) x (links id)) none
    (shown.each id) in
    either_none (t == tei) (links id) (unplaced (link_at s.table id) (links id) linked)

pub both_removed : (side : Side) (old new : LinkSet) (tei : ℕ) (links : Links)
    → ShowLinks side old links
    → ShowLinks side new
    (with_link (of_sapi Packet tei) None (with_link (of_sapi Call tei) None links))
    → ShowLinks side new (without_tei tei links)
both_removed side old new tei links before shown =
    same_links side new _ (without_tei tei links)
    (λ id. removed_at side old tei links id.sapi id.tei before) shown

-- the release of the first link is reported, then that of the second, which was unchanged
pub both_delivered : (before middle after : List Primitive) (tei : ℕ) (links : Links)
    → middle ≡ before ++ primitives_at_removal (of_sapi Call tei) (links (of_sapi Call tei))
    → after ≡ middle
    ++ primitives_at_removal (of_sapi Packet tei)
    (with_link (of_sapi Call tei) None links (of_sapi Packet tei))
    → after ≡ before ++ primitive_of_tei tei links
unfolding primitive_of_tei
both_delivered before middle after tei links first second =
    second
    ∙ ap (λ (m : List Primitive). m ++ primitives_at_removal (of_sapi Packet tei)
    (links (of_sapi Packet tei))) first
    ∙ append_assoc before (primitives_at_removal (of_sapi Call tei) (links (of_sapi Call tei)))
    (primitives_at_removal (of_sapi Packet tei) (links (of_sapi Packet tei)))
