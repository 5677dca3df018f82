-- The codes of calls are in order: no result of a side has the code 1, 2 or 3.
use Rattle.std.proofs.Common.{◌≡◌, inl, inr, ℕ, Bool, true, false, List, [], Option, Some, None, Result, Ok, Err, refl, subst, sym, ◌∙◌}
use Rattle.std.specs.Prelude.{nat_eq, is_some, ⊤}
use Rattle.lapd_link_definition.specs.declared.event.LinkFault.TheVariants as link
use Rattle.lapd_table.specs.declared.link_id.LinkId.{LinkId}
use Rattle.lapd_sides_links.specs.declared.side_fault.SideFault.{SideFault}
use Rattle.lapd_sides_links.specs.declared.side_fault.SideKind.{SideKind}
use Rattle.lapd_sides_links.specs.declared.side_fault.SideKind.TheVariants.{NoLink, Memory, Link}
use Rattle.lapd_sides.specs.declared.request.Request.{Request}
use Rattle.lapd_sides.specs.declared.request.Request.TheVariants as request
use Rattle.lapd_sides.specs.Either.{Answers}
use Rattle.lapd_sides_links.specs.Messages.{Message}
use Rattle.lapd_c.specs.declared.held_side.HeldSide.{HeldSide}
use Rattle.lapd_c.specs.ThroughHandle.{AsksSide, AsksCheck, AsksTei, AsksLink, AsksLinkWith, ChecksSide, Through}
use Rattle.lapd_c.specs.Calls.{Asks, Call, Checks, ChecksUnless, Ticks, is_full}
use Rattle.lapd_c.specs.CodeOrder.{ReturnsInOrder}
use Rattle.lapd_c.specs.Codes.{code_of, code_of_kind, memory, no_side, out_of_range, pending}
use Rattle.lapd_c.specs.Owned.{Held}

-- a code other than these three
abbrev IsOther : ℕ → Type 0
IsOther code =
    (nat_eq code out_of_range ≡ false) × (nat_eq code no_side ≡ false)
    × (nat_eq code pending ≡ false)

kind_is_other : (kind : SideKind) → IsOther (code_of_kind kind)
kind_is_other NoLink = (refl, refl, refl)
kind_is_other Memory = (refl, refl, refl)
kind_is_other (Link link.NotEstablished) = (refl, refl, refl)
kind_is_other (Link link.QueueFull) = (refl, refl, refl)
kind_is_other (Link link.TooLong) = (refl, refl, refl)
kind_is_other (Link link.Releasing) = (refl, refl, refl)
kind_is_other (Link link.LayerThreeEstablishing) = (refl, refl, refl)

result_is_other : (result : Result ⊤ SideFault) → IsOther (code_of result)
result_is_other (Ok done) = (refl, refl, refl)
result_is_other (Err fault) = kind_is_other fault.kind

-- a call that reaches the side
reached : (old : HeldSide) (code : ℕ) → is_full old ≡ false → IsOther code
    → ReturnsInOrder true (Some old) code
reached old code room other = record { range = other.0; side = other.1; room = other.2 ∙ sym room }

-- a call that is refused because too many results wait
refused : (old : HeldSide) (code : ℕ) → is_full old ≡ true → code ≡ pending
    → ReturnsInOrder true (Some old) code
refused old code full is =
    subst (λ c. ReturnsInOrder true (Some old) c) (sym is)
    (record { range = refl; side = refl; room = sym full })

-- a call through a handle that owns no side, and one with a number out of range
without : (code : ℕ) → code ≡ no_side → ReturnsInOrder true None code
without code is =
    subst (λ c. ReturnsInOrder true None c) (sym is)
    (record { range = refl; side = refl; room = refl })

out : (old : Held) (code : ℕ) → code ≡ out_of_range → ReturnsInOrder false old code
out old code is =
    subst (λ c. ReturnsInOrder false old c) (sym is)
    (record { range = refl; side = refl; room = refl })

asked : (call : Call) (octets : List ℕ) (old new : HeldSide) (code : ℕ)
    → Asks call octets old new code → ReturnsInOrder true (Some old) code
asked call octets old new code h = by_room (is_full old) refl
  where
    by_room : (full : Bool) → is_full old ≡ full → ReturnsInOrder true (Some old) code
    by_room true e = refused old code e (h.refused e).0
    by_room false e = elim (h.called e) [
      | inl none ↦ reached old code e (subst IsOther (sym none.refused) (refl, refl, refl))
      | inr called ↦ reached old code e
          (subst IsOther (sym called.coded) (result_is_other called.result))
    ]

checked : (request : Request) (now : ℕ) (old new : HeldSide) (code : ℕ)
    → Checks request now old new code → ReturnsInOrder true (Some old) code
checked request now old new code h = by_room (is_full old) refl
  where
    by_check : (check : Option ℕ) → is_full old ≡ false
        → ChecksUnless check request now old new code → ReturnsInOrder true (Some old) code
    by_check None e begins = asked (Answers request now) [] old new code begins
    by_check (Some tei) e runs = reached old code e (subst IsOther (sym runs.0) (refl, refl, refl))

    by_room : (full : Bool) → is_full old ≡ full → ReturnsInOrder true (Some old) code
    by_room true e = refused old code e (h.refused e).0
    by_room false e = by_check (h.called e).check e (h.called e).begins

ticked : (now expired : ℕ) (old new : HeldSide) (code : ℕ) → Ticks now expired old new code
    → ReturnsInOrder true (Some old) code
ticked now expired old new code h = by_room (is_full old) refl
  where
    by_room : (full : Bool) → is_full old ≡ full → ReturnsInOrder true (Some old) code
    by_room true e = refused old code e (h.refused e).0
    by_room false e = elim (h.ticked e) [
      | inl none ↦ reached old code e (subst IsOther (sym none.1.refused) (refl, refl, refl))
      | inr done ↦ reached old code e (subst IsOther (sym done.done) (refl, refl, refl))
    ]

pub of_side : (call : Call) (octets : List ℕ) (code : ℕ) (old new : Held)
    → AsksSide call octets code old new → ReturnsInOrder true old code
of_side call octets code (Some old) (Some new) h = asked call octets old new code h
of_side call octets code (Some old) None h = absurd h
of_side call octets code None (Some new) h = absurd h
of_side call octets code None None h = without code h

pub of_link : (call : LinkId → Call) (code : ℕ) (old new : Held) (id : Option LinkId)
    → AsksLink call code old new id → ReturnsInOrder (is_some id) old code
of_link call code old new None h = out old code h.0
of_link call code old new (Some id) h = of_side (call id) [] code old new h

pub of_check_all : (request : Request) (now code : ℕ) (old new : Held)
    → ChecksSide request now code old new → ReturnsInOrder true old code
of_check_all request now code (Some old) (Some new) h = checked request now old new code h
of_check_all request now code (Some old) None h = absurd h
of_check_all request now code None (Some new) h = absurd h
of_check_all request now code None None h = without code h

pub of_check : (now code : ℕ) (old new : Held) (tei : Option ℕ) → AsksCheck now code old new tei
    → ReturnsInOrder (is_some tei) old code
of_check now code old new None h = out old code h.0
of_check now code old new (Some tei) h = of_check_all (request.Check tei) now code old new h

pub of_tei : (call : ℕ → Call) (code : ℕ) (old new : Held) (tei : Option ℕ)
    → AsksTei call code old new tei → ReturnsInOrder (is_some tei) old code
of_tei call code old new None h = out old code h.0
of_tei call code old new (Some tei) h = of_side (call tei) [] code old new h

pub of_message : (call : LinkId → Message → Call) (octets : List ℕ) (code : ℕ) (old new : Held)
    (id : Option LinkId) → AsksLinkWith call octets code old new id
    → (code ≡ memory → ⊥) → ReturnsInOrder (is_some id) old code
of_message call octets code old new None h copied = out old code h.0
of_message call octets code old new (Some id) (inl none) copied = absurd (copied none.refused)
of_message call octets code old new (Some id) (inr with_message) copied =
    of_side (call id with_message.message) [] code old new with_message.asks

pub of_tick : (now expired code : ℕ) (old new : Held)
    → Through (λ o n. Ticks now expired o n code) ((code ≡ no_side) × (expired ≡ 0)) old new
    → ReturnsInOrder true old code
of_tick now expired code (Some old) (Some new) h = ticked now expired old new code h
of_tick now expired code (Some old) None h = absurd h
of_tick now expired code None (Some new) h = absurd h
of_tick now expired code None None h = without code h.0
