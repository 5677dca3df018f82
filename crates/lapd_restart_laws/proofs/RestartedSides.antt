-- A side that restarts, and the world of two ends that it shows for a link. If the side has the link
-- before and after, the link's end restarts there, and the frames in transit stay. Else the world
-- is unchanged.
use Rattle.std.proofs.Common.{◌≡◌, inl, inr, ℕ, zero, suc, ◌+◌, ◌-◌, ◌<◌, ◌&&◌, Bool, true, false, if◌then◌else◌, List, [], ◌++◌, length, Option, Some, None, refl, sym, ap, subst, ◌∙◌, arith}
use Rattle.std.proofs.lemmas.List.{append-nil}
use Rattle.std.proofs.lemmas.List.Elements.{filter_map-append}
use Rattle.rand_pcg.specs.Lcg.{Lcg}
use Rattle.lapd_frame.specs.declared.Side.{Side}
use Rattle.lapd_link_definition.specs.End.{End, new_end, waiting}
use Rattle.lapd_pair_laws.specs.Histories.{History, with_dropped, with_others_dropped}
use Rattle.lapd_pair_laws.specs.Move.{View, restarted, restarts}
use Rattle.lapd_recovery_laws.specs.QuickRestart.{restarts_quickly}
use Rattle.lapd_table.specs.declared.link_id.LinkId.{LinkId}
use Rattle.lapd_tei.specs.Assigner.{known_held}
use Rattle.lapd_sides_links.specs.declared.config.Config.{Config}
use Rattle.lapd_sides_links.specs.Links.{Linked, Links, is_served, is_link_of, is_held_below, links_below, with_tei, parameters_for}
use Rattle.lapd_sides.specs.Network.{new_network}
use Rattle.lapd_sides.specs.User.{new_user}
use Rattle.lapd_side_events.specs.Interface.{fresh_link}
use Rattle.lapd_two_side_laws.specs.Premises.{is_removal}
use Rattle.lapd_two_side_laws.specs.Primitives.{what_for, link_primitives, known_of, learns_all, nothing_known, AreExpectedOfLink}
use Rattle.lapd_two_side_laws.specs.Projects.{IsTimed, HasLink, AwaitsLink, LacksLink, ShowsEnd, Projects, known_by}
use Rattle.lapd_side_events.specs.SideView.{Behaviour, SideView}
use Rattle.lapd_two_side_laws.proofs.LinkParts.{any_more, any_behind, learns_both, expected_both}
use Rattle.lapd_two_side_laws.proofs.Timed.{new_is_timed}
use Rattle.lapd_restart_laws.specs.Restarts.{counting_on, link_after, losses}
use Rattle.lapd_restart_laws.proofs.Losses.{dropped_all, loss_of, losses_are, loss_is_removal}

-- ---- The links of a newly created side.

-- the link is a new one, or does not exist
pub data IsMade (config : Config) (id : LinkId) (o : Option Linked) : Type 0 where
  made : o ≡ Some (fresh_link config id) → IsMade config id o
  missing : o ≡ None → IsMade config id o

made_by : (config : Config) (id : LinkId) (o : Option Linked) (test : Bool)
    → o ≡ (if test then Some (fresh_link config id) else None) → IsMade config id o
made_by config id o true is = made is
made_by config id o false is = missing is

pub made_by_network : (config : Config) (known : List ℕ) (id : LinkId)
    → IsMade config id ((new_network config known).served.links id)
unfolding links_below
made_by_network config known id =
    made_by config id _
    (is_served config id.sapi && is_held_below (known_held known).held 127 id.tei) refl

pub made_by_user : (config : Config) (fixed : Option ℕ) (random : Lcg) (id : LinkId)
    → IsMade config id ((new_user config fixed random).served.links id)
unfolding with_tei
made_by_user config None random id = missing refl
made_by_user config (Some tei) random id = made_by config id _ (is_link_of config tei id) refl

-- ---- The messages that are dropped.

all_expected : (n : ℕ) → AreExpectedOfLink (dropped_all n)
all_expected zero = tt
all_expected (suc n) = (tt, tt)

loss_expected : (before new : Option Linked) → AreExpectedOfLink (loss_of before new)
loss_expected None new = tt
loss_expected (Some before) None = tt
loss_expected (Some before) (Some new) = all_expected (waiting before.end)

same_known : (h : History) (dropped : List ℕ) (passed : ℕ) → dropped ≡ h.dropped → passed ≡ h.passed
    → known_by h ≡ known_by (record h { dropped = dropped; passed = passed })
same_known h dropped passed d p = rw (d, p) refl

-- layer 3 learns of them what the history records
drop_learned : (n : ℕ) (h : History)
    → learns_all (dropped_all n) (known_by h) ≡ known_by (with_dropped n h)
drop_learned zero h =
    same_known h (h.dropped ++ []) (h.passed + 0) (append-nil h.dropped) (omega arith)
drop_learned (suc n) h = refl

-- ---- A view after a restart.

module _ (S : Type 0) (w : Behaviour S) (side : Side) (id : LinkId) (low : id.tei < 127)
    (v : SideView S) (after : S) (new : Links) where
  abbrev Before : Links
  Before = (w.served v.now).links

  abbrev pub restarted_view : SideView S
  restarted_view = record v { now = after; delivered = v.delivered ++ losses Before new }

  primitives_after : link_primitives id restarted_view.delivered ≡ link_primitives id v.delivered
      ++ loss_of (Before id) (new id)
  primitives_after =
      filter_map-append (what_for id) v.delivered (losses Before new)
      ∙ ap (λ l. link_primitives id v.delivered ++ l) (losses_are Before new id low)

  -- the errors reported are still expected
  pub stays_expected : AreExpectedOfLink (link_primitives id v.delivered)
      → AreExpectedOfLink (link_primitives id restarted_view.delivered)
  stays_expected h =
      subst AreExpectedOfLink (sym primitives_after)
      (expected_both (link_primitives id v.delivered) (loss_of (Before id) (new id)) h
      (loss_expected (Before id) (new id)))

  -- ---- The end of the link does not restart.

  known_still : loss_of (Before id) (new id) ≡ []
      → known_of id restarted_view.delivered ≡ known_of id v.delivered
  known_still none =
      ap (λ ws. learns_all ws nothing_known)
      (primitives_after ∙ ap (λ l. link_primitives id v.delivered ++ l) none
      ∙ append-nil (link_primitives id v.delivered))

  unmoved_shows : (view : View)
      → ShowsEnd (w.fresh id) (w.served after).links id restarted_view.delivered view.station.end
      → loss_of (Before id) (new id) ≡ [] → Projects w side id v view
      → Projects w side id restarted_view view
  unmoved_shows view shown none p = record {
    link = shown;
    incoming = p.incoming;
    outgoing = p.outgoing;
    known = known_still none ∙ p.known;
    given = p.given;
  }

  none_before : Before id ≡ None → loss_of (Before id) (new id) ≡ []
  none_before is = ap (λ o. loss_of o (new id)) is

  none_after : (l : Linked) → Before id ≡ Some l → new id ≡ None → loss_of (Before id) (new id) ≡ []
  none_after l was is = ap (λ o. loss_of o (new id)) was ∙ ap (loss_of (Some l)) is

  module _ (links : (w.served after).links id ≡ link_after (new id) (Before id)) (view : View)
      (p : Projects w side id v view) where
    now_absent : new id ≡ None → (w.served after).links id ≡ None
    now_absent is = links ∙ ap (λ o. link_after o (Before id)) is

    -- the link does not exist yet, or its TEI was removed
    pub waits_still : new id ≡ None → AwaitsLink (w.fresh id) Before id view.station.end
        → Projects w side id restarted_view view
    waits_still is h =
        unmoved_shows view (inr (inl (record { absent = now_absent is; end = h.end })))
        (none_before h.absent) p

    pub lacks_still : new id ≡ None → LacksLink Before id v.delivered
        → Projects w side id restarted_view view
    lacks_still is h =
        unmoved_shows view (inr (inr (record {
          absent = now_absent is;
          removed =
              any_more (is_removal id.tei) v.delivered (losses Before new) h.removed;
        })))
        (none_before h.absent) p

    -- the side has the link no more
    pub is_lost : new id ≡ None → HasLink Before id view.station.end
        → Projects w side id restarted_view view
    is_lost is h = unmoved_shows view
        (inr (inr (record {
          absent = now_absent is;
          removed =
              any_behind (is_removal id.tei) v.delivered (losses Before new)
              (loss_is_removal Before new id h.linked low h.there is);
        })))
        (none_after h.linked h.there is) p

    module _ (config : Config) (is : new id ≡ Some (fresh_link config id)) where
      -- the link joins
      pub joins : w.fresh id ≡ fresh_link config id
          → AwaitsLink (w.fresh id) Before id view.station.end
          → Projects w side id restarted_view view
      joins same h = unmoved_shows view (inl (record {
        linked = fresh_link config id;
        there =
            links ∙ ap (λ o. link_after o (Before id)) is
            ∙ ap (link_after (Some (fresh_link config id))) h.absent;
        end = ap (λ (l : Linked). l.end) (sym same) ∙ sym h.end;
        timed = new_is_timed (parameters_for config id.sapi) config.durations;
      })) (none_before h.absent) p

      -- ---- The end of the link restarts.

      abbrev Later : Linked → Linked
      Later l = record (fresh_link config id)
          { end = counting_on l.end (new_end (parameters_for config id.sapi)) }

      later_is_timed : (l : Linked) → IsTimed (Later l)
      later_is_timed l =
          let new = new_is_timed (parameters_for config id.sapi) config.durations in
          record { t200 = new.t200; t203 = new.t203 }

      counts_on : (l : Linked) (e : End) → l.end ≡ e → e.parameters ≡ parameters_for config id.sapi
          → counting_on l.end (new_end (parameters_for config id.sapi)) ≡ restarted e
      counts_on l e end same =
          ap (λ x. counting_on x (new_end (parameters_for config id.sapi))) end
          ∙ ap (λ q. counting_on e (new_end q)) (sym same)

      knows : (l : Linked) (h : History) (given : ℕ) → Before id ≡ Some l
          → waiting l.end ≡ given - h.passed → known_of id v.delivered ≡ known_by h
          → known_of id restarted_view.delivered ≡ known_by (with_others_dropped given h)
      knows l h given was same known =
          ap (λ ws. learns_all ws nothing_known) primitives_after
          ∙ learns_both (link_primitives id v.delivered) (loss_of (Before id) (new id))
          nothing_known
          ∙ ap (λ ws. learns_all ws (known_of id v.delivered))
          (ap (λ o. loss_of o (new id)) was ∙ ap (loss_of (Some l)) is)
          ∙ ap (λ n. learns_all (dropped_all n) (known_of id v.delivered)) same
          ∙ ap (λ k. learns_all (dropped_all (given - h.passed)) k) known
          ∙ drop_learned (given - h.passed) h

      pub end_restarts : HasLink Before id view.station.end
          → view.station.end.parameters ≡ parameters_for config id.sapi
          → view.station.history.passed ≡ view.station.end.first
          → Projects w side id restarted_view (restarts_quickly view)
      unfolding restarts_quickly restarts
      end_restarts h same passed =
          let waits : waiting h.linked.end ≡ length view.station.end.given -
          view.station.history.passed =
          ap waiting h.end ∙ ap (λ n. length view.station.end.given - n) (sym passed) in
          record {
            link = inl (record {
              linked = Later h.linked;
              there =
                  links ∙ ap (λ o. link_after o (Before id)) is
                  ∙ ap (link_after (Some (fresh_link config id))) h.there;
              end = counts_on h.linked view.station.end h.end same;
              timed = later_is_timed h.linked;
            });
            incoming = p.incoming;
            outgoing = p.outgoing;
            known =
                knows h.linked view.station.history (length view.station.end.given) h.there waits
                p.known;
            given = p.given;
          }
