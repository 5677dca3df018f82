-- A step of a side appends the same frames to a line, whichever frames are on it: one more frame
-- stays where it is.
use Rattle.std.proofs.Common.{◌≡◌, ℕ, ◌+◌, List, [], ◌∷◌, ◌++◌, length, append_assoc, append-nil, refl, sym, ap, subst, arith}
use Rattle.lapd_frame.specs.declared.Side.TheVariants as side
use Rattle.lapd_mod128.specs.Counting.{Whole}
use Rattle.lapd_link_definition.specs.declared.out.Out.{Out}
use Rattle.lapd_link_definition.specs.declared.out.Out.TheVariants.{Send, SendMessage, SendUnit, Up, UnitUp, Acknowledged, Dropped}
use Rattle.lapd_link_definition.specs.EndOfStep.{end_step}
use Rattle.lapd_link_definition.specs.End.{End, begin}
use Rattle.lapd_link_definition.specs.Input.{Heard}
use Rattle.lapd_link_definition.specs.Table.{row, step}
use Rattle.lapd_pair_laws.specs.Histories.{History, Occasion, Story, after_outputs, message_frame, unit_frame, with_sending, with_receipt, with_unit, with_acked, with_dropped, with_beginning}
use Rattle.lapd_pair_laws.specs.Line.{Flight, without_info}
use Rattle.lapd_pair_laws.specs.Move.{Deliver, Station, View, acts, receives, delivers, view_after, story_after}
use Rattle.lapd_pair_laws.specs.Kinds.{Kind, kind, kinds, message_of, messages, tally}
use Rattle.lapd_pair_laws.proofs.WorkOfActions.{AreReady}
use Rattle.lapd_pair_laws.proofs.Worlds.{left_by}

-- ---- Lists.

pub messages_beside : (f : Flight) (front back : List Flight) → message_of (kind f) ≡ []
    → messages (kinds (front ++ f ∷ back)) ≡ messages (kinds (front ++ back))
messages_beside f [] back none = ap (λ l. l ++ messages (kinds back)) none
messages_beside f (g ∷ front) back none =
    ap (λ l. message_of (kind g) ++ l) (messages_beside f front back none)

pub tally_beside : (count : Kind → ℕ) (f : Flight) (front back : List Flight)
    → tally count (kinds (front ++ f ∷ back)) ≡ tally count (kinds (front ++ back)) + count (kind f)
tally_beside count f [] back = omega arith
tally_beside count f (g ∷ front) back =
    let rest = tally_beside count f front back in omega (arith, rest)

pub ready_beside : (f : Flight) (front back : List Flight) → AreReady (front ++ f ∷ back)
    → AreReady (front ++ back)
ready_beside f [] back ready = ready.1
ready_beside f (g ∷ front) back ready = (ready.0, ready_beside f front back ready.1)

pub length_beside : (f : Flight) (front back : List Flight)
    → length (kinds (front ++ f ∷ back)) ≡ length (kinds (front ++ back)) + 1
length_beside f [] back = omega arith
length_beside f (g ∷ front) back = let rest = length_beside f front back in omega (arith, rest)

-- ---- The outputs of a step.

pub record IsBeside (f : Flight) (with without : List Flight) : Type 0 where
  pub front : List Flight
  pub back : List Flight
  pub has : with ≡ front ++ f ∷ back
  pub lacks : without ≡ front ++ back

pub record AreBeside (f : Flight) (with without : Story) : Type 0 where
  pub history : without.history ≡ with.history
  pub line : IsBeside f with.line without.line

module _ (f : Flight) (o : Occasion) where
  abbrev pub Both : List Out → History → List Flight → List Flight → Type 0
  Both outs h with without =
      AreBeside f (after_outputs o outs (record { line = with; history = h }))
      (after_outputs o outs (record { line = without; history = h }))

  one_more : (outs : List Out) (h : History) (front back : List Flight) (g : Flight)
      → Both outs h (front ++ f ∷ (back ++ g ∷ [])) (front ++ (back ++ g ∷ []))
      → Both outs h ((front ++ f ∷ back) ++ g ∷ []) ((front ++ back) ++ g ∷ [])
  one_more outs h front back g both =
      subst (λ l. Both outs h l ((front ++ back) ++ g ∷ []))
      (sym (append_assoc front (f ∷ back) (g ∷ [])))
      (subst (λ l. Both outs h (front ++ f ∷ (back ++ g ∷ [])) l)
      (sym (append_assoc front back (g ∷ []))) both)

  pub outputs_beside : (outs : List Out) (h : History) (front back : List Flight)
      → Both outs h (front ++ f ∷ back) (front ++ back)
  outputs_beside [] h front back = record {
    history = refl;
    line = record { front = front; back = back; has = refl; lacks = refl };
  }
  outputs_beside (Send role control ∷ outs) h front back =
      one_more outs h front back (without_info role control)
      (outputs_beside outs h front (back ++ without_info role control ∷ []))
  outputs_beside (SendMessage n control ∷ outs) h front back =
      let g = message_frame o control (h.passed + n) in
      let now = with_sending (h.passed + n) o.establishment h in
      one_more outs now front back g (outputs_beside outs now front (back ++ g ∷ []))
  outputs_beside (SendUnit ∷ outs) h front back =
      one_more outs h front back (unit_frame o.octets)
      (outputs_beside outs h front (back ++ unit_frame o.octets ∷ []))
  outputs_beside (Up ∷ outs) h front back =
      outputs_beside outs (with_receipt
      (record { octets = o.octets; establishment = o.establishment; place = o.place }) h) front
      back
  outputs_beside (UnitUp ∷ outs) h front back =
      outputs_beside outs (with_unit o.octets h) front back
  outputs_beside (Acknowledged n ∷ outs) h front back =
      outputs_beside outs (with_acked n h) front back
  outputs_beside (Dropped n ∷ outs) h front back = outputs_beside outs (with_dropped n h) front back
  outputs_beside (out ∷ outs) h front back = outputs_beside outs h front back

-- ---- A frame is delivered.

pub record ViewsBeside (f : Flight) (rest : List Flight) (with without : View) : Type 0 where
  pub station : without.station ≡ with.station
  pub with_rest : with.incoming ≡ rest
  pub without_rest : without.incoming ≡ rest
  pub outgoing : IsBeside f with.outgoing without.outgoing

abbrev pub seeing : Station → List Flight → List Flight → View
seeing station incoming outgoing =
    record { station = station; incoming = incoming; outgoing = outgoing }

pub delivered_beside : (f : Flight) (station : Station) (frame : Flight)
    (rest outgoing : List Flight)
    → ViewsBeside f rest (left_by (seeing station (frame ∷ rest) (outgoing ++ f ∷ []))
    (acts Whole side.User Deliver (seeing station (frame ∷ rest) (outgoing ++ f ∷ []))))
    (left_by (seeing station (frame ∷ rest) outgoing)
    (acts Whole side.User Deliver (seeing station (frame ∷ rest) outgoing)))
unfolding acts delivers receives step view_after story_after
delivered_beside f station frame rest outgoing =
    let s =
    end_step Whole
    (row Whole station.end.state (Heard frame.control frame.role) (begin station.end)) in
    let o : Occasion =
    record {
      given = s.end.given;
      establishment = s.end.establishments;
      octets = frame.info;
      place = frame.place;
    } in
    let h = with_beginning station.end.establishments s.end.establishments station.history in
    let both : Both f o s.outs h (outgoing ++ f ∷ []) outgoing =
    subst (λ l. Both f o s.outs h (outgoing ++ f ∷ []) l) (append-nil outgoing)
    (outputs_beside f o s.outs h outgoing []) in
    record {
      station = ap (λ k. at_history s.end k) both.history;
      with_rest = refl;
      without_rest = refl;
      outgoing = both.line;
    }
  where
    at_history : End → History → Station
    at_history e k = record { end = e; history = k }
