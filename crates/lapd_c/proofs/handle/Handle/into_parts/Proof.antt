-- `into_parts` tests the word: if it is null, there are no parts; otherwise the parts own what the
-- handle owned.
use Rattle.std.proofs.Common.{List, [], ◌∷◌, ◌++◌, refl, sym, subst, lit<}
use seplogic.Ra.Ura.{Ura}
use mir.Val.{Val, vcons, vnil}
use base.Logic.{SProp, ent, emp, id⊢}
use base.Fml.{ftrue, fsep}
use prog.Memory.{Memory}
use prog.Routine.{Routine}
use prog.Wp.{WpFn, Tables}
use types.Logic.{Logic}
use contract.Monad.{Fun}
use contract.Running.{tables, tables_of}
use types.Kit.{‵, raw, given, at_ret, ◌⊛◌, ◌$◌, ◌∵◌, !, qed, move, drop, use0, use1, join, split, fsplit, fjoin, fpick, learn, suffices, done}
use types.Part.{whole, sub, agg}
use types.Match.{live}
use types.Run.{stop, fld, lit, bin, no_more, and_then, of_opd, first, branches, exec, returns, enter}
use types.ByLocal.{alloc_all, pass_all, free_all, look_at, get, get_in, sets, sets_last, env}
use denote.Exit.{yes}
use denote.RattleType.{RattleType}
use denote.Signature.{type_at}
use denote.RawPtr.{Ptr, block_ptr, null_ptr, ptr_val, tests_null, Testable}
use denote.Steps.{nothing}
use denote.Param.{layout}
use Rattle.core.proofs.cell.Inside.{Good}
use denote.Triple.Walked.{says, Stays, stay_dropped, walk_of, ends_at, Goes-dropped}
use Rattle.core.proofs.option.Made.{Some-of, none_of}
use Rattle.std.specs.Prelude.{Some, None}
use Rattle.std.specs.Global.{Global}
use Rattle.std.proofs.raw_atomic.Walks.{proved_at}
use Rattle.std_alloc.proofs.ResultValues.{and_tt}
use Rattle.std_alloc.proofs.BoxSteps.Form.{D, word, box_typed}
use Rattle.std_alloc.proofs.BoxSteps.Steps.{box_in}
use Rattle.std_alloc.specs.Box.Ownership.{box_owns}
use Rattle.std.specs.contracts.impls.GlobalAllocator.TheImpl.{ghosts}
use Rattle.lapd_c.specs.Owned.{Held}
use Rattle.lapd_c.specs.contracts.held_side.HeldSide as held_side
use Rattle.lapd_c.specs.contracts.box_parts.BoxParts as Parts
use Rattle.std_heap.specs.contracts.Global as Heap
use Rattle.lapd_c.proofs.HandleValues.{E, H, both, handle_out, tested, FromHandle as From}
use Rattle.lapd_c.specs.contracts.handle.Handle.into_parts.{ended, clauses}
use Rattle.lapd_c.specs.contracts.handle.Handle.into_parts.Key.{name as #self}
use Rattle.lapd_c.proofs.handle.Handle.into_parts.Statement.{statement}
use Rattle.lapd_c.proofs.handle.Handle.into_parts.Code as code
use Rattle.lapd_c.proofs.handle.Handle.into_parts.Code.Mir as mir'

abbrev stayed : Stays ended.signature.params ended.kept
stayed = (stay_dropped From yes, tt)

abbrev Lr : RattleType
Lr = Parts.the_row held_side.the_row Heap.the_row ghosts

module _ {M : Type 1} {𝓤 : Ura M} (𝓛 : Logic 𝓤) (at_mem : Memory → SProp 𝓤) (run : Routine → Fun 𝓤)
    (𝓣 : Tables 𝓤 𝓛.H) (a : Global) (vs : List Val) where
  abbrev z : Ptr → Held → (walk_of 𝓛 ended stayed (clauses 𝓛 at_mem run)).Ghost
  z p w = ((tt, tt, tt, (record { at = p; alloc = a; held = w }, tt), (vs, tt)), tt)

  abbrev Post : Ptr → Held → Val → SProp 𝓤
  Post p w = (walk_of 𝓛 ended stayed (clauses 𝓛 at_mem run)).post (z p w)

  abbrev Runs : Ptr → Held → List Val → SProp 𝓤
  Runs p w us = WpFn 𝓤 𝓛.H 𝓣.C 𝓣.Λ code.function us (Post p w)

  abbrev Out : RattleType
  Out = type_at (ended.signature).result tt

  walk : (p : Ptr) (w : Held)
      → ent 𝓤 ((walk_of 𝓛 ended stayed (clauses 𝓛 at_mem run)).pre (z p w)) (Runs p w (vs ++ []))
  walk null_ptr None =
      qed 𝓛 ((‵ ftrue ⊛ ‵
      (fsep (H.own_val (record { at = null_ptr; alloc = a; held = None }) vs) ftrue))
      ∷ raw (emp 𝓤) ∷ []) ∵ split ! $ drop ! $ fsplit ! $ move ! (1 ∷ 2 ∷ []) $ drop !
      $ drop ! $
      handle_out ! (record { at = null_ptr; alloc = a; held = None }) vs
      (λ h ws fits. drop ! $ drop ! $
      let v : Val = both (ptr_val null_ptr) h in
      suffices ! (Runs null_ptr None (v ∷ []))
      (subst (λ (us : List Val). ent 𝓤 (Runs null_ptr None (v ∷ [])) (Runs null_ptr None us))
      (sym (λ i. ws i ++ [])) (id⊢ 𝓤 (Runs null_ptr None (v ∷ [])))) $
      enter ! 𝓣.C 𝓣.Λ code.function (v ∷ []) (Post null_ptr None)
      $ alloc_all ! (λ l. pass_all ! refl
      ((and_tt _ fits.0, (record { fits = lit< tt }, (fits.1, tt))), tt) $
      let Ev = env code.function.locals l in
      sets ! (of_opd ! (get_in ! (fld ! refl (stop !)) (sub ! 0 refl (whole !)))) refl
      (tt, record { fits = lit< tt })
      $ sets ! (of_opd ! (get_in ! (fld ! refl (stop !)) (sub ! 1 refl (whole !)))) refl fits $
      sets ! (bin ! (get ! refl) (lit ! tt) tt) refl (tt, tt) $ first ! $ branches ! (get ! refl)
      (λ _. sets_last ! (agg ! (and_then ! (lit ! tt) (no_more !))) refl
      (tt, (record { fits = lit< tt }, tt)) $ exec ! 𝓣.C 𝓣.Λ Ev mir'.t-5
      (at_ret Ev (Post null_ptr None)) $ sets ! (of_opd ! (get ! refl)) refl
      (tt, (record { fits = lit< tt }, tt)) $
      use0 𝓛 (‵ (Out.own_val None (live 0 vnil ∷ []))) (none_of 𝓛 Lr) $ returns ! (look_at ! 0 refl)
      $ free_all ! refl $
      suffices ! _ (ends_at 𝓛 ended stayed (clauses 𝓛 at_mem run) (z null_ptr None) (live 0 vnil)
      None (tt, tt) (tt, tt)) $ says ! refl $
      nothing ! $ nothing ! $ fjoin ! $ join ! $ nothing ! $ join ! $ done !)
      (λ wrong. absurd wrong)))
  walk null_ptr (Some x) =
      qed 𝓛 ((‵ ftrue ⊛ ‵
      (fsep (H.own_val (record { at = null_ptr; alloc = a; held = Some x }) vs) ftrue))
      ∷ raw (emp 𝓤) ∷ []) ∵ split ! $ drop ! $ fsplit ! $ move ! (1 ∷ 2 ∷ []) $ drop !
      $ drop ! $
      handle_out ! (record { at = null_ptr; alloc = a; held = Some x }) vs
      (λ h ws fits. fpick ! (λ wrong. absurd wrong))
  walk (block_ptr b o) None =
      qed 𝓛 ((‵ ftrue ⊛ ‵ (fsep
      (H.own_val (record { at = block_ptr b o; alloc = a; held = None }) vs) ftrue))
      ∷ raw (emp 𝓤) ∷ []) ∵ split ! $ drop ! $ fsplit ! $ move ! (1 ∷ 2 ∷ []) $ drop !
      $ drop ! $
      handle_out ! (record { at = block_ptr b o; alloc = a; held = None }) vs
      (λ h ws fits. fpick ! (λ wrong. absurd wrong))
  walk (block_ptr b o) (Some x) =
      let p : Ptr = block_ptr b o in let w : Held = Some x in
      qed 𝓛 ((‵ ftrue ⊛ ‵ (fsep (H.own_val (record { at = p; alloc = a; held = w }) vs) ftrue))
      ∷ raw (emp 𝓤) ∷ []) ∵ split ! $ drop ! $ fsplit ! $ move ! (1 ∷ 2 ∷ []) $ drop !
      $ drop ! $
      handle_out ! (record { at = p; alloc = a; held = w }) vs (λ h ws fits.
      use1 𝓛 (given (Testable p) (‵ (box_owns (ghosts.dealloc_token a) held_side.the_row p x)))
      (tested 𝓛 a p x) $ learn ! (λ t.
      let v : Val = word E h b o in
      let typed = box_typed E h b o fits in let v₁ : Val = live 1 (vcons v vnil) in
      let good : Good (layout Out) v₁ =
      (and_tt _ typed.0, (record { fits = lit< tt }, (typed.1, tt))) in
      let d : D E = record { ptr = p; alloc = a; value = x } in
      let made : Lr.Denot = record { ptr = p; alloc = a; value = x } in
      suffices ! (Runs p w (v ∷ [])) (subst
      (λ (us : List Val). ent 𝓤 (Runs p w (v ∷ [])) (Runs p w us)) (sym (λ i. ws i ++ []))
      (id⊢ 𝓤 (Runs p w (v ∷ [])))) $
      fsplit ! $ box_in E ! d b o x refl refl $ use1 𝓛 (‵ (Lr.own_val made (v ∷ []))) (id⊢ 𝓤 _)
      $ use1 𝓛 (‵ (Out.own_val (Some made) (v₁ ∷ []))) (Some-of 𝓛 Lr made v) $
      enter ! 𝓣.C 𝓣.Λ code.function (v ∷ []) (Post p w)
      $ alloc_all ! (λ l. pass_all ! refl (typed, tt) $
      let Ev = env code.function.locals l in
      sets ! (of_opd ! (get_in ! (fld ! refl (stop !)) (sub ! 0 refl (whole !)))) refl (tt, tt)
      $ sets ! (of_opd ! (get_in ! (fld ! refl (stop !)) (sub ! 1 refl (whole !)))) refl fits $
      sets ! (bin ! (get ! refl) (lit ! tt) (tests_null p t)) refl (tt, tt) $ first !
      $ branches ! (get ! refl) (λ wrong. absurd wrong) (λ _.
      sets ! (agg ! (and_then ! (get ! refl) (and_then ! (get ! refl) (no_more !)))) refl typed
      $ sets_last ! (agg ! (and_then ! (lit ! tt) (and_then ! (get ! refl) (no_more !)))) refl
      good $
      exec ! 𝓣.C 𝓣.Λ Ev mir'.t-5 (at_ret Ev (Post p w)) $ sets ! (of_opd ! (get ! refl)) refl good
      $ returns ! (look_at ! 0 refl) $ free_all ! refl $
      suffices ! _
      (ends_at 𝓛 ended stayed (clauses 𝓛 at_mem run) (z p w) v₁ (Some made) (tt, tt) (tt, tt))
      $ says ! refl $
      nothing ! $ nothing ! $ fjoin ! $ join ! $ nothing ! $ join ! $ done !))))

pub into_parts_spec : {M : Type 1} → statement M
unfolding tables_of
into_parts_spec 𝓤 𝓛 𝓜 𝓡 wired =
    let 𝓣 : Tables 𝓤 𝓛.H = tables_of 𝓤 𝓛.H 𝓜 (tables 𝓤 𝓛.H 𝓜 𝓡 𝓡.env) in
    let c = clauses 𝓛 𝓜.mem 𝓡.returns in
    proved_at 𝓛 ended stayed c 𝓜 𝓡 (Goes-dropped 𝓛 0 From yes (λ κs x f. refl), tt) #self
    code.function (code.unfolded 𝓤 𝓛.H 𝓜 𝓡 wired) (λ y are.
    walk 𝓛 𝓜.mem 𝓡.returns 𝓣 y.0.3.0.alloc y.0.4.0 y.0.3.0.at y.0.3.0.held)
