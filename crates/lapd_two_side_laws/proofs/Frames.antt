-- A step sends the octets of the frames that the world puts on the line, and delivers the
-- primitives that the world records. The errors that it reports are expected if its outputs are.
use Rattle.std.proofs.Common.{◌≡◌, ℕ, ◌+◌, List, [], ◌∷◌, ◌++◌, get_or, map, Option, Some, refl, sym, ap, ◌∙◌, append_assoc, arith}
use Rattle.std.specs.List.{filter_map}
use Rattle.std.proofs.lemmas.List.{map-append, append-nil, get_or-drop}
use Rattle.lapd_frame.specs.declared.Side.{Side}
use Rattle.lapd_frame.specs.declared.Role.TheVariants.{Command}
use Rattle.lapd_frame.specs.declared.Control.{Control}
use Rattle.lapd_link_definition.specs.declared.out.Out.{Out}
use Rattle.lapd_link_definition.specs.declared.out.Out.TheVariants.{Send, SendMessage, SendUnit, Up, UnitUp, Established, Confirmed, Released, ReleaseConfirm, Acknowledged, Dropped, Start, Stop, Report}
use Rattle.lapd_link_definition.specs.End.{End}
use Rattle.lapd_link_definition.specs.Reports.{AreExpected}
use Rattle.lapd_pair_laws.specs.Histories.{Occasion, Story, Receipt, after_output, after_outputs, message_frame, unit_frame}
use Rattle.lapd_pair_laws.specs.Consistent.{AreInOrder}
use Rattle.lapd_pair_laws.specs.Line.{Flight, without_info, sent_behind}
use Rattle.lapd_pair_laws.proofs.Recording.{in_order_then}
use Rattle.lapd_table.specs.declared.link_id.LinkId.{LinkId}
use Rattle.lapd_table.specs.LinkId.{setup_for}
use Rattle.lapd_sides_links.specs.declared.primitive.What.TheVariants as what
use Rattle.lapd_sides_links.specs.Effects.{sent_by, what_of}
use Rattle.lapd_two_side_laws.specs.Addressed.{spelled, all_spelled}
use Rattle.lapd_two_side_laws.specs.Primitives.{Known, learns, learns_all, AreExpectedOfLink}
use Rattle.lapd_two_side_laws.specs.Projects.{known_by}

-- ---- The frames of a step.

module _ (side : Side) (id : LinkId) (e : End) (o : Occasion) (same : o.given ≡ e.given) where
  abbrev sends : Out → Option (List ℕ)
  sends out = sent_by (setup_for side id) e o.octets out

  -- one more frame
  one_more : (out : Out) (outs : List Out) (line : List Flight) (frame : Flight)
      (after : List (List ℕ)) → sends out ≡ Some (spelled side id frame)
      → after ≡ all_spelled side id (sent_behind line frame) ++ filter_map sends outs
      → after ≡ all_spelled side id line ++ filter_map sends (out ∷ outs)
  one_more out outs line frame after is h =
      rw is (h
      ∙ ap (λ l. l ++ filter_map sends outs) (map-append (spelled side id) line (frame ∷ []))
      ∙ append_assoc (all_spelled side id line) (spelled side id frame ∷ [])
      (filter_map sends outs))

  -- the message is named by its position, which follows those of the messages that no longer wait
  message_there : (passed n : ℕ) (control : Control) (outs : List Out)
      → AreInOrder e passed (SendMessage n control ∷ outs)
      → sends (SendMessage n control)
      ≡ Some (spelled side id (message_frame o control (passed + n)))
  message_there passed n control outs order =
      let first : e.first ≡ passed = omega (arith, order.first, order.counted.0) in
      ap (λ (message : List ℕ). Some (spelled side id
      (record {
        role = Command;
        control = control;
        info = message;
        place = passed + n;
      })))
      (get_or-drop e.first e.given n
      [] ∙ ap (λ (at : ℕ). get_or e.given (at + n) []) first
      ∙ ap (λ (given : List (List ℕ)). get_or given (passed + n) []) (sym same))

  pub delivered_frames : (outs : List Out) (t : Story) → AreInOrder e t.history.passed outs
      → all_spelled side id (after_outputs o outs t).line ≡ all_spelled side id t.line
      ++ filter_map sends outs
  delivered_frames [] t order = sym (append-nil (all_spelled side id t.line))
  delivered_frames (Send role control ∷ outs) t order =
      one_more (Send role control) outs t.line (without_info role control) _ refl
      (delivered_frames outs (after_output o (Send role control) t)
      (in_order_then e o (Send role control) outs t order))
  delivered_frames (SendMessage n control ∷ outs) t order =
      one_more (SendMessage n control) outs t.line (message_frame o control (t.history.passed + n))
      _ (message_there t.history.passed n control outs order)
      (delivered_frames outs (after_output o (SendMessage n control) t)
      (in_order_then e o (SendMessage n control) outs t order))
  delivered_frames (SendUnit ∷ outs) t order =
      one_more SendUnit outs t.line (unit_frame o.octets) _ refl
      (delivered_frames outs (after_output o SendUnit t)
      (in_order_then e o SendUnit outs t order))
  delivered_frames (Up ∷ outs) t order =
      delivered_frames outs (after_output o Up t) (in_order_then e o Up outs t order)
  delivered_frames (UnitUp ∷ outs) t order =
      delivered_frames outs (after_output o UnitUp t) (in_order_then e o UnitUp outs t order)
  delivered_frames (Acknowledged n ∷ outs) t order =
      delivered_frames outs (after_output o (Acknowledged n) t)
      (in_order_then e o (Acknowledged n) outs t order)
  delivered_frames (Dropped n ∷ outs) t order =
      delivered_frames outs (after_output o (Dropped n) t)
      (in_order_then e o (Dropped n) outs t order)
  delivered_frames (Established ∷ outs) t order =
      delivered_frames outs t (in_order_then e o Established outs t order)
  delivered_frames (Confirmed ∷ outs) t order =
      delivered_frames outs t (in_order_then e o Confirmed outs t order)
  delivered_frames (Released ∷ outs) t order =
      delivered_frames outs t (in_order_then e o Released outs t order)
  delivered_frames (ReleaseConfirm ∷ outs) t order =
      delivered_frames outs t (in_order_then e o ReleaseConfirm outs t order)
  delivered_frames (Start timer ∷ outs) t order =
      delivered_frames outs t (in_order_then e o (Start timer) outs t order)
  delivered_frames (Stop timer ∷ outs) t order =
      delivered_frames outs t (in_order_then e o (Stop timer) outs t order)
  delivered_frames (Report letter ∷ outs) t order =
      delivered_frames outs t (in_order_then e o (Report letter) outs t order)

-- ---- The primitives.

received_more : (before : List Receipt) (message : Receipt)
    → map (λ (m : Receipt). m.octets) (before ++ message ∷ [])
    ≡ map (λ (m : Receipt). m.octets) before ++ message.octets ∷ []
received_more before message = map-append (λ (m : Receipt). m.octets) before (message ∷ [])

-- layer 3 learns from one primitive exactly what one output records
learned : (o : Occasion) (out : Out) (outs : List Out) (k : Known) (t : Story)
    → k ≡ known_by t.history
    → ((t : Story) (k : Known) → k ≡ known_by t.history
    → learns_all (filter_map (what_of o.octets) outs) k
    ≡ known_by (after_outputs o outs t).history)
    → learns_all (filter_map (what_of o.octets) (out ∷ outs)) k
    ≡ known_by (after_outputs o (out ∷ outs) t).history
learned o Up outs k t is rest =
    rest (after_output o Up t) (learns (what.Up o.octets) k)
    (ap (learns (what.Up o.octets)) is
    ∙ ap (λ r. record (known_by t.history) { received = r })
    (sym (received_more t.history.received _)))
learned o UnitUp outs k t is rest =
    rest (after_output o UnitUp t) (learns (what.UnitUp o.octets) k)
    (ap (learns (what.UnitUp o.octets)) is)
learned o (Acknowledged n) outs k t is rest =
    rest (after_output o (Acknowledged n) t) (learns (what.Acknowledged n) k)
    (ap (learns (what.Acknowledged n)) is)
learned o (Dropped n) outs k t is rest =
    rest (after_output o (Dropped n) t) (learns (what.Dropped n) k)
    (ap (learns (what.Dropped n)) is)
learned o (Send role control) outs k t is rest = rest (after_output o (Send role control) t) k is
learned o (SendMessage n control) outs k t is rest =
    rest (after_output o (SendMessage n control) t) k is
learned o SendUnit outs k t is rest = rest (after_output o SendUnit t) k is
learned o other outs k t is rest = rest t k is

pub delivered_is_known : (o : Occasion) (outs : List Out) (t : Story) (k : Known)
    → k ≡ known_by t.history
    → learns_all (filter_map (what_of o.octets) outs) k ≡ known_by (after_outputs o outs t).history
delivered_is_known o [] t k is = is
delivered_is_known o (out ∷ outs) t k is = learned o out outs k t is (delivered_is_known o outs)

-- ---- The errors reported.

pub delivered_is_expected : (octets : List ℕ) (outs : List Out) → AreExpected outs
    → AreExpectedOfLink (filter_map (what_of octets) outs)
delivered_is_expected octets [] h = tt
delivered_is_expected octets (Report letter ∷ outs) h = (h.0, delivered_is_expected octets outs h.1)
delivered_is_expected octets (Up ∷ outs) h = (tt, delivered_is_expected octets outs h.1)
delivered_is_expected octets (UnitUp ∷ outs) h = (tt, delivered_is_expected octets outs h.1)
delivered_is_expected octets (Established ∷ outs) h = (tt, delivered_is_expected octets outs h.1)
delivered_is_expected octets (Confirmed ∷ outs) h = (tt, delivered_is_expected octets outs h.1)
delivered_is_expected octets (Released ∷ outs) h = (tt, delivered_is_expected octets outs h.1)
delivered_is_expected octets (ReleaseConfirm ∷ outs) h = (tt, delivered_is_expected octets outs h.1)
delivered_is_expected octets (Acknowledged n ∷ outs) h = (tt, delivered_is_expected octets outs h.1)
delivered_is_expected octets (Dropped n ∷ outs) h = (tt, delivered_is_expected octets outs h.1)
delivered_is_expected octets (Send role control ∷ outs) h = delivered_is_expected octets outs h.1
delivered_is_expected octets (SendMessage n control ∷ outs) h =
    delivered_is_expected octets outs h.1
delivered_is_expected octets (SendUnit ∷ outs) h = delivered_is_expected octets outs h.1
delivered_is_expected octets (Start timer ∷ outs) h = delivered_is_expected octets outs h.1
delivered_is_expected octets (Stop timer ∷ outs) h = delivered_is_expected octets outs h.1
