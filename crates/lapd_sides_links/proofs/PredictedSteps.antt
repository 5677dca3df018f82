-- The outputs of a predicted step: its frames, its primitives and its timers.
use Rattle.std.proofs.Common.{◌≡◌, ℕ, nat_lt, Bool, true, false, List, [], ◌∷◌, ◌++◌, map, Option, Some, None, option_map, append_assoc, append-nil, refl, sym, ap, subst, ◌∙◌, Result}
use Rattle.std.specs.List.{filter_map}
use Rattle.std.proofs.lemmas.List.{map-append}
use Rattle.std.proofs.lemmas.List.Elements.{filter_map-append}
use Rattle.lapd_frame.specs.declared.Response.{Response}
use Rattle.lapd_timers.specs.declared.timer.Timer.TheVariants.{T200, T203}
use Rattle.lapd_timers.specs.Due.{Timers}
use Rattle.lapd_link.specs.Link.{Setup}
use Rattle.lapd_link_definition.specs.declared.out.Out.{Out}
use Rattle.lapd_link_definition.specs.declared.out.Out.TheVariants.{Up, Acknowledged, Start, Stop}
use Rattle.lapd_link_definition.specs.End.{End}
use Rattle.lapd_link_definition.specs.Procedures.{out_where, counted}
use Rattle.lapd_link_machine.specs.declared.machine.predicted.NrEffect.{NrEffect}
use Rattle.lapd_link_machine.specs.declared.machine.predicted.NrEffect.TheVariants.{All, Part, Nothing}
use Rattle.lapd_link_machine.specs.declared.machine.predicted.PredictedOuts.{PredictedOuts}
use Rattle.lapd_link_machine.specs.Predicted.{nr_outs, response_outs, predicted_outs}
use Rattle.lapd_table.specs.declared.link_id.LinkId.{LinkId}
use Rattle.lapd_sides_links.specs.declared.primitive.Primitive.{Primitive}
use Rattle.lapd_sides_links.specs.declared.primitive.Primitive.TheVariants.{Of}
use Rattle.lapd_sides_links.specs.Effects.{timed, what_of}
use Rattle.lapd_sides_links.specs.Effects.{Effects}
use Rattle.lapd_sides_links.specs.Links.{Links, Reaction}
use Rattle.lapd_sides_links.specs.declared.link_set.LinkSet.{LinkSet}
use Rattle.lapd_sides_links.specs.declared.side_fault.SideKind.{SideKind}
use Rattle.lapd_sides_links.specs.Shown.{made_by, HaveActed, LinksDo, LinksRefuseAs, ShowLinks, ShowsLinksAsBefore}
use Rattle.lapd_frame.specs.declared.Side.{Side}

nil_twice : (l : List (List ℕ)) → (l ++ []) ++ [] ≡ l
nil_twice l = append-nil (l ++ []) ∙ append-nil l

-- ---- Frames: the two responses.

module _ (setup : Setup) (e : End) (octets : List ℕ) where
  abbrev made : List Out → List (List ℕ)
  made outs = filter_map (made_by setup e octets) outs

  no_frame_of_message : (up : Bool) → made (out_where up Up) ≡ []
  no_frame_of_message true = refl
  no_frame_of_message false = refl

  no_frame_of_all : (some stops : Bool) (n : ℕ)
      → made (out_where some (Acknowledged n) ++ out_where stops (Stop T200) ++ Start T203 ∷ [])
      ≡ []
  no_frame_of_all true true n = refl
  no_frame_of_all true false n = refl
  no_frame_of_all false true n = refl
  no_frame_of_all false false n = refl

  no_frame_of_part : (some : Bool) (n : ℕ)
      → made (out_where some (Acknowledged n) ++ Start T200 ∷ []) ≡ []
  no_frame_of_part true n = refl
  no_frame_of_part false n = refl

  no_frame_of_nr : (nr : NrEffect) → made (nr_outs nr) ≡ []
  no_frame_of_nr (All count stops) = no_frame_of_all (nat_lt 0 count) stops count
  no_frame_of_nr (Part count) = no_frame_of_part (nat_lt 0 count) count
  no_frame_of_nr Nothing = refl

  frames_of : (u : PredictedOuts)
      → made (predicted_outs u) ≡ made (response_outs u.response)
      ++ made (response_outs u.acknowledgement)
  frames_of u =
      let f = made_by setup e octets in
      filter_map-append f (response_outs u.response ++ out_where u.is_up Up ++ nr_outs u.nr)
      (response_outs u.acknowledgement)
      ∙ ap (λ (l : List (List ℕ)). l ++ made (response_outs u.acknowledgement))
      (filter_map-append f (response_outs u.response ++ out_where u.is_up Up) (nr_outs u.nr)
      ∙ ap (λ (l : List (List ℕ)). l ++ made (nr_outs u.nr))
      (filter_map-append f (response_outs u.response) (out_where u.is_up Up))
      ∙ rw (no_frame_of_nr u.nr, no_frame_of_message u.is_up)
      (nil_twice (made (response_outs u.response))))

  pub predicted_frames_put : (u : PredictedOuts) (f0 f1 f2 f3 f4 : List (List ℕ))
      → f1 ≡ f0 ++ made (response_outs u.response) → f2 ≡ f1 → f3 ≡ f2
      → f4 ≡ f3 ++ made (response_outs u.acknowledgement)
      → f4 ≡ f0 ++ made (predicted_outs u)
  predicted_frames_put u f0 f1 f2 f3 f4 a b c d =
      d ∙ ap (λ (l : List (List ℕ)). l ++ made (response_outs u.acknowledgement)) (c ∙ b ∙ a)
      ∙ append_assoc f0 (made (response_outs u.response)) (made (response_outs u.acknowledgement))
      ∙ ap (λ (l : List (List ℕ)). f0 ++ l) (sym (frames_of u))

-- ---- Primitives: the message, and the acknowledged messages.

module _ (id : LinkId) (octets : List ℕ) where
  abbrev delivered : List Out → List Primitive
  delivered outs = map (Of id) (filter_map (what_of octets) outs)

  delivered_behind : (xs ys : List Out) → delivered (xs ++ ys) ≡ delivered xs ++ delivered ys
  delivered_behind xs ys =
      ap (map (Of id)) (filter_map-append (what_of octets) xs ys)
      ∙ map-append (Of id) (filter_map (what_of octets) xs) (filter_map (what_of octets) ys)

  nothing_of_response : (response : Option Response) → delivered (response_outs response) ≡ []
  nothing_of_response None = refl
  nothing_of_response (Some r) = refl

  pub delivered_of_all : (some stops : Bool) (n : ℕ)
      → delivered
      (out_where some (Acknowledged n) ++ out_where stops (Stop T200) ++ Start T203 ∷ [])
      ≡ delivered (out_where some (Acknowledged n))
  delivered_of_all true true n = refl
  delivered_of_all true false n = refl
  delivered_of_all false true n = refl
  delivered_of_all false false n = refl

  pub delivered_of_part : (some : Bool) (n : ℕ)
      → delivered (out_where some (Acknowledged n) ++ Start T200 ∷ [])
      ≡ delivered (out_where some (Acknowledged n))
  delivered_of_part true n = refl
  delivered_of_part false n = refl

  primitives_of : (u : PredictedOuts)
      → delivered (predicted_outs u) ≡ delivered (out_where u.is_up Up) ++ delivered (nr_outs u.nr)
  primitives_of u =
      delivered_behind (response_outs u.response ++ out_where u.is_up Up ++ nr_outs u.nr)
      (response_outs u.acknowledgement)
      ∙ rw (nothing_of_response u.acknowledgement)
      (append-nil
      (delivered (response_outs u.response ++ out_where u.is_up Up ++ nr_outs u.nr)))
      ∙ delivered_behind (response_outs u.response ++ out_where u.is_up Up) (nr_outs u.nr)
      ∙ ap (λ (l : List Primitive). l ++ delivered (nr_outs u.nr))
      (delivered_behind (response_outs u.response) (out_where u.is_up Up)
      ∙ ap (λ (l : List Primitive). l ++ delivered (out_where u.is_up Up))
      (nothing_of_response u.response))

  pub predicted_primitives_put : (u : PredictedOuts) (p0 p1 p2 p3 p4 : List Primitive) → p1 ≡ p0
      → p2 ≡ p1 ++ delivered (out_where u.is_up Up) → p3 ≡ p2 ++ delivered (nr_outs u.nr) → p4 ≡ p3
      → p4 ≡ p0 ++ delivered (predicted_outs u)
  predicted_primitives_put u p0 p1 p2 p3 p4 a b c d =
      d ∙ c
      ∙ ap (λ (l : List Primitive). l ++ delivered (nr_outs u.nr))
      (b ∙ ap (λ (l : List Primitive). l ++ delivered (out_where u.is_up Up)) a)
      ∙ append_assoc p0 (delivered (out_where u.is_up Up)) (delivered (nr_outs u.nr))
      ∙ ap (λ (l : List Primitive). p0 ++ l) (sym (primitives_of u))

-- ---- Timers: those of the N(R).

module _ (now : ℕ) where
  timed_behind : (xs ys : List Out) (t : Timers)
      → timed now (xs ++ ys) t ≡ timed now ys (timed now xs t)
  timed_behind [] ys t = refl
  timed_behind (x ∷ xs) ys t = timed_behind xs ys _

  untimed_response : (response : Option Response) (t : Timers)
      → timed now (response_outs response) t ≡ t
  untimed_response None t = refl
  untimed_response (Some r) t = refl

  untimed_message : (up : Bool) (t : Timers) → timed now (out_where up Up) t ≡ t
  untimed_message true t = refl
  untimed_message false t = refl

  timed_of_all : (some : Bool) (n : ℕ) (rest : List Out) (t : Timers)
      → timed now (out_where some (Acknowledged n) ++ rest) t ≡ timed now rest t
  timed_of_all true n rest t = refl
  timed_of_all false n rest t = refl

  timed_of : (u : PredictedOuts) (t : Timers)
      → timed now (predicted_outs u) t ≡ timed now (nr_outs u.nr) t
  timed_of u t =
      timed_behind (response_outs u.response ++ out_where u.is_up Up ++ nr_outs u.nr)
      (response_outs u.acknowledgement) t
      ∙ untimed_response u.acknowledgement _
      ∙ timed_behind (response_outs u.response ++ out_where u.is_up Up) (nr_outs u.nr) t
      ∙ ap (timed now (nr_outs u.nr)) (timed_behind (response_outs u.response)
      (out_where u.is_up Up) t ∙ untimed_message u.is_up _ ∙ untimed_response u.response t)

  same_timed : (xs ys : List Out) → ((t : Timers) → timed now xs t ≡ timed now ys t)
      → (o : Option Timers) → option_map (timed now xs) o ≡ option_map (timed now ys) o
  same_timed xs ys same None = refl
  same_timed xs ys same (Some t) = ap (λ (x : Timers). Some x) (same t)

  pub predicted_timed : (u : PredictedOuts) (o : Option Timers)
      → option_map (timed now (nr_outs u.nr)) o ≡ option_map (timed now (predicted_outs u)) o
  predicted_timed u o = sym (same_timed (predicted_outs u) (nr_outs u.nr) (timed_of u) o)

  pub all_timed : (count : ℕ) (stops : Bool) (o : Option Timers)
      → option_map (timed now (out_where stops (Stop T200) ++ Start T203 ∷ [])) o
      ≡ option_map (timed now (nr_outs (All count stops))) o
  all_timed count true o =
      sym (same_timed (nr_outs (All count true)) (Stop T200 ∷ Start T203 ∷ [])
      (λ t. timed_behind (counted count Acknowledged ++ Stop T200 ∷ []) (Start T203 ∷ []) t ∙ ap
      (timed now (Start T203 ∷ []))
      (timed_of_all (nat_lt 0 count) count (Stop T200 ∷ []) t)) o)
  all_timed count false o =
      sym (same_timed (nr_outs (All count false)) (Start T203 ∷ [])
      (λ t. timed_behind (counted count Acknowledged ++ []) (Start T203 ∷ []) t ∙ ap
      (timed now (Start T203 ∷ [])) (timed_of_all (nat_lt 0 count) count [] t)) o)

  pub part_timed : (count : ℕ) (o : Option Timers)
      → option_map (timed now (Start T200 ∷ [])) o ≡ option_map (timed now (nr_outs (Part count))) o
  part_timed count o =
      sym (same_timed (nr_outs (Part count)) (Start T200 ∷ [])
      (λ t. timed_of_all (nat_lt 0 count) count (Start T200 ∷ []) t) o)

  pub none_timed : (o : Option Timers) → o ≡ option_map (timed now (nr_outs Nothing)) o
  none_timed None = refl
  none_timed (Some t) = refl

-- ---- The general step, after a predicted one that was not taken.

as_before : (old mid : LinkSet) → mid ≡ old → ShowsLinksAsBefore old mid
as_before old mid same =
    λ side links shown. subst (λ (s : LinkSet). ShowLinks side s links) (sym same) shown

pub still_do : (old mid new : LinkSet) (before after_none after : Effects)
    (step : Side → Links → Result (Reaction Links) SideKind) → mid ≡ old → after_none ≡ before
    → LinksDo mid new after_none after step → LinksDo old new before after step
still_do old mid new before after_none after step same acts does = λ side links shown.
    subst (λ (a : Effects). HaveActed side new a after (step side links)) acts
    (does side links (as_before old mid same side links shown))

pub still_refuse : (old mid : LinkSet) (step : Side → Links → Result (Reaction Links) SideKind)
    (kind : SideKind) → mid ≡ old → LinksRefuseAs mid step kind → LinksRefuseAs old step kind
still_refuse old mid step kind same refuses =
    λ side links shown. refuses side links (as_before old mid same side links shown)

pub still_as_before : (old mid new : LinkSet) → mid ≡ old → ShowsLinksAsBefore mid new
    → ShowsLinksAsBefore old new
still_as_before old mid new same later =
    λ side links shown. later side links (as_before old mid same side links shown)
