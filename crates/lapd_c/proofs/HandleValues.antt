-- The machine values of a handle: a word and a heap of no bytes. Assumes `Logic`.
use Rattle.std.proofs.Common.{◌≡◌, List, [], ◌∷◌, ◌++◌, refl, subst}
use seplogic.Ra.Ura.{Ura}
use mir.Syntax.{impl, tnil, dnil}
use mir.Val.{Val, vstruct, vcons, vnil, of_list}
use mir.Raw.{raw as bare}
use base.Fraction.{full_share}
use base.Fml.{Fml}
use base.Logic.{ent, guard, guard_i, via, snd∗}
use contract.Monad.{fact_use}
use types.Logic.{Logic, sem}
use types.Kit.{Item, Goal, Seq, Step, step, ‵, ◌$◌, move, drop, fsplit, fjoin, fpick, fpack, feq_i, feq_l}
use denote.RattleType.{RattleType, Valss}
use denote.Builtin.{RawPtr}
use denote.Memory.{lone}
use denote.RawPtr.{Ptr, ptr_val, lies_at, Testable}
use denote.Steps.{nothing}
use denote.Signature.{Slot, plain}
use denote.Struct.Struct.{within}
use Rattle.core.proofs.alloc.Calls.{handle_tells, Fits}
use Rattle.std_alloc.proofs.BoxSteps.Form.{Bx}
use Rattle.std_heap.specs.contracts.Global as Heap
use Rattle.std_heap.specs.contracts.GlobalAllocator.TheImpl.{ghosts, dict}
use Rattle.std_heap.proofs.Global.TheLaws as heap
use Rattle.std.proofs.GlobalToken.{dealloc_token-Testable}
use Rattle.std_alloc.specs.Box.Ownership.{box_owns}
use Rattle.lapd_c.specs.Owned.{owns}
use Rattle.lapd_c.specs.contracts.held_side.HeldSide as HeldSide
use Rattle.lapd_c.proofs.held_side.HeldSide.TheLaws as held_side
use Rattle.lapd_c.specs.contracts.box_parts.BoxParts as Parts
use Rattle.lapd_c.specs.contracts.handle.Handle as Handle

abbrev pub E : Bx
E = record {
  row = HeldSide.the_row;
  laws = held_side.the_row_laws;
  al = record {
    row = Heap.the_row;
    laws = heap.the_row_laws;
    g = ghosts;
    d = dict;
    drops = impl [] tnil dnil;
  };
}

abbrev pub FromParts : Slot 0
FromParts = plain (λ _. Parts.the_row HeldSide.the_row Heap.the_row ghosts)

abbrev pub FromHandle : Slot 0
FromHandle = plain (λ _. Handle.the_row)

abbrev pub H : RattleType
H = Handle.the_row

abbrev pub Z : RattleType
Z = Heap.the_row

abbrev pub both : Val → Val → Val
both v w = vstruct (vcons v (vcons w vnil))

module _ {M : Type 1} {𝓤 : Ura M} {𝓛 : Logic 𝓤} {K : Type 0} {Γ : List (Item 𝓤)}
    {G : Goal 𝓤 𝓛.H} where
  pub handle_out : K → (d : H.Denot) (vs : List Val)
      → ((h : Val) → vs ≡ both (ptr_val d.at) h ∷ [] → Fits E.al h
      → Seq K 𝓛 (‵ (owns d.alloc d.at d.held) ∷ ‵ (Z.own_val d.alloc (h ∷ [])) ∷ Γ) G)
      → Seq K 𝓛 (‵ (H.own_val d vs) ∷ Γ) G
  handle_out t d vs k =
      fsplit t
      $ fpick t (λ vss. fsplit t $ feq_l t
      (λ ev. fsplit t $ feq_l t
      (λ ep. fsplit t $ handle_tells E.al t d.alloc vss.1.0
      (λ h ea fits. move t (1 ∷ []) $ drop t $ move t (1 ∷ []) $
      k h (subst (λ (ws : List Val). vs ≡ vstruct (of_list (ptr_val d.at ∷ (ws ++ []))) ∷ []) ea
      (subst (λ (ps : List Val). vs ≡ vstruct (of_list (ps ++ (vss.1.0 ++ []))) ∷ []) ep
      ev)) fits))))

  pub handle_in : K → (h : Val) (d : H.Denot)
      → Step K 𝓛 (‵ (H.own_val d (both (ptr_val d.at) h ∷ [])) ∷ Γ) G
      (‵ (owns d.alloc d.at d.held) ∷ ‵ (Z.own_val d.alloc (h ∷ [])) ∷ Γ) G
  handle_in t h d = step (λ s. let v : Val = both (ptr_val d.at) h in
      nothing t $ move t (2 ∷ 0 ∷ []) $ fjoin t
      $ feq_i t (List Val) (ptr_val d.at ∷ []) (ptr_val d.at ∷ []) refl $ fjoin t
      $ feq_i t (List Val) (v ∷ []) (v ∷ []) refl $ fjoin t $
      fpack t (Valss (RawPtr ∷ Z ∷ [])) (within
      (record { name = []; args = []; types = []; fields = RawPtr ∷ Z ∷ [] })
      (d.at, (d.alloc, tt)) (v ∷ [])) (ptr_val d.at ∷ [], (h ∷ [], tt)) $ fjoin t $ s)

module _ {M : Type 1} {𝓤 : Ura M} (𝓛 : Logic 𝓤) (a : Heap.the_row.Denot) where
  abbrev boxed : Ptr → HeldSide.the_row.Denot → Fml
  boxed = box_owns (ghosts.dealloc_token a) HeldSide.the_row

  -- a box is where its block begins, so its pointer may be compared with null
  pub tested : (p : Ptr) (x : HeldSide.the_row.Denot)
      → ent 𝓤 (sem 𝓛 (boxed p x)) (guard 𝓤 (Testable p) (sem 𝓛 (boxed p x)))
  tested p x =
      fact_use 𝓤 (Testable p) (via 𝓤 _ (snd∗ 𝓤 (sem 𝓛 (lies_at HeldSide.the_row full_share p x))
      (sem 𝓛 (ghosts.dealloc_token a (bare (lone HeldSide.the_row.mir)) p)))
      (dealloc_token-Testable 𝓛 a (bare (lone HeldSide.the_row.mir)) p))
      (guard_i 𝓤 (Testable p) (sem 𝓛 (boxed p x)))
