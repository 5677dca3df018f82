-- `side` tests the word: if it is null, the handle is unchanged; otherwise the box's value is lent,
-- and the handle ends with what is left of it.
use Rattle.std.proofs.Common.{ℕ, List, [], ◌∷◌, refl, lit<}
use seplogic.Ra.Ura.{Ura}
use mir.Syntax.{Body, named, w8, int, place, copy, rv_opd, aggregate, assign, seq}
use mir.Val.{Val, vptr, of_list}
use mir.Raw.{raw as bare}
use base.Fraction.{full_share}
use base.Logic.{SProp, ent, sep, emp, via, fst∗}
use base.Fml.{Lft, GName, Share, Fml, ftrue, fsep, flft, fobs, fres}
use prog.Memory.{Memory}
use prog.Routine.{Routine}
use prog.Wp.{WpFn, Wp, Calls, Env, Loops, after_seq}
use types.Logic.{Logic, sem}
use contract.Monad.{Fun}
use contract.Running.{tables}
use types.Kit.{Post as Ends, ‵, raw, given, later, some, any_q, at_ret, post, ◌⊛◌, ◌$◌, ◌∵◌, !, qed, by, move, keep, drop, use0, use1, split, join, pick, fsplit, fsplit3, fjoin, fpack, fpick, learn, rewrite, await, group, frame, suffices, done}
use types.Part.{whole, sub, look_in, agg}
use types.Match.{live}
use types.Run.{stop, fld, lit, bin, load, addr, no_more, and_then, of_opd, first, blocks, branches, exec, returns, enter}
use types.ByLocal.{alloc_all, pass_all, free_all, look_at, get, through, sets, sets_last, env}
use denote.Exit.{no}
use denote.RattleType.{RattleType, owns}
use denote.Memory.{mem, cell_at, part_at, part_of, lone}
use denote.Ref.{MutRef, MutBor, mut_vals, mut_Tells}
use denote.Follow.{follows, follows_by, Part, lends_Part}
use denote.RawPtr.{Ptr, block_ptr, null_ptr, ptr_val, tests_null, Testable}
use denote.Signature.{plain, mut_ref_to}
use denote.Steps.{nothing, opens, closes}
use denote.Triple.Entry.{on_entry}
use denote.Triple.Walked.{says, Stays, stay_dropped, walk_of, ends_at, Goes-spent_ref}
use Rattle.core.proofs.option.Made.{Some-of, none_of}
use Rattle.core.specs.contracts.option.Option as OP
use Rattle.std.specs.Prelude.{Some, None}
use Rattle.std.specs.Global.{Global}
use Rattle.std.proofs.raw_atomic.Walks.{proved}
use Rattle.std_alloc.specs.Box.Ownership.{box_owns}
use Rattle.std.specs.contracts.impls.GlobalAllocator.TheImpl.{ghosts}
use Rattle.lapd_c.specs.Owned.{Held}
use Rattle.lapd_c.specs.Lent.{with_side}
use Rattle.lapd_c.specs.contracts.held_side.HeldSide as held_side
use Rattle.lapd_c.proofs.HandleValues.{H, Z, both, handle_out, handle_in, tested}
use Rattle.lapd_c.specs.contracts.handle.Handle.side.{ended, clauses}
use Rattle.lapd_c.specs.contracts.handle.Handle.side.Key.{name as #self}
use Rattle.lapd_c.proofs.handle.Handle.side.Statement.{statement}
use Rattle.lapd_c.proofs.handle.Handle.side.Code as code
use Rattle.lapd_c.proofs.handle.Handle.side.Code.Mir as mir'

abbrev T : RattleType
T = held_side.the_row

-- the code after the `unsafe` block
abbrev some_of_it : Body
some_of_it =
    seq (assign (place 5 []) (rv_opd (copy (place 6 []))))
    (assign (place 4 []) (aggregate (int w8 1 ∷ copy (place 5 []) ∷ [])))

abbrev stayed : Stays ended.signature.params ended.kept
stayed = (stay_dropped (mut_ref_to (0 ∷ []) tt (plain (λ _. H))) no, tt)

module _ {M : Type 1} {𝓤 : Ura M} (𝓛 : Logic 𝓤) (at_mem : Memory → SProp 𝓤) (run : Routine → Fun 𝓤)
    (κ : Lft) (q : Share) (rb ro : ℕ) (γ : GName) (a : Global) where
  abbrev Lent : RattleType
  Lent = MutRef (named 0) κ T

  abbrev At : Ptr → Held → H.Denot
  At p w = record { at = p; alloc = a; held = w }

  abbrev lender : Ptr → Held → MutBor H.Denot
  lender p w = record { ref_ptr = (rb, ro); ghost_name = γ; now = At p w }

  abbrev y : Ptr → Held → (walk_of 𝓛 ended stayed (clauses 𝓛 at_mem run)).Ghost
  y p w = (((κ, tt), (q, tt), tt, (lender p w, tt), (vptr rb ro ∷ [], tt)), tt)

  abbrev Post : Ptr → Held → Val → SProp 𝓤
  Post p w = (walk_of 𝓛 ended stayed (clauses 𝓛 at_mem run)).post (y p w)

  -- all of the handle but its side
  abbrev Rest : ℕ → ℕ → Val → Fml
  Rest b o h =
      fsep
      (fsep (ghosts.dealloc_token a (bare (lone T.mir)) (block_ptr b o)) (Z.own_val a (h ∷ [])))
      (cell_at full_share H.mir (both (vptr b o) h ∷ []) rb ro)

  back : (b o : ℕ) (h : Val) (x w : T.Denot)
      → ent 𝓤 (sep 𝓤 (sem 𝓛 ((mem T).own_at w b o)) (sem 𝓛 (Rest b o h)))
      (sem 𝓛 ((mem H).own_at (with_side (At (block_ptr b o) (Some x)) w) rb ro))
  unfolding part_of
  back b o h x w =
      qed 𝓛 (‵ (part_at T full_share w b o) ∷ ‵ (Rest b o h) ∷ []) ∵ move ! (1 ∷ []) $ fsplit !
      $ fsplit ! $ move ! (3 ∷ []) $ fjoin ! $
      handle_in ! h (At (block_ptr b o) (Some w)) $ move ! (1 ∷ 0 ∷ []) $ fjoin ! $
      fpack ! (List Val) (λ us. fsep (cell_at full_share H.mir us rb ro)
      (H.own_val (At (block_ptr b o) (Some w)) us)) (both (vptr b o) h ∷ []) $ done !

  lends_it : (b o : ℕ) (x : T.Denot) (γ' : GName)
      → ent 𝓤 (sep 𝓤 (sem 𝓛 (Lent.own_val (record { ref_ptr = (b, o); ghost_name = γ'; now = x })
      (vptr b o ∷ []))) (sep 𝓤 (𝓛.A.lft κ q)
      (sem 𝓛 (follows H T γ γ' (with_side (At (block_ptr b o) (Some x)))))))
      (Post (block_ptr b o) (Some x) (live 1 (of_list (vptr b o ∷ []))))
  unfolding follows_by
  lends_it b o x γ' =
      let r : MutBor T.Denot = record { ref_ptr = (b, o); ghost_name = γ'; now = x } in
      qed 𝓛 (‵ (Lent.own_val r (vptr b o ∷ [])) ∷ ‵ (flft κ q)
      ∷ ‵ (follows H T γ γ' (with_side (At (block_ptr b o) (Some x)))) ∷ []) ∵
      use1 𝓛 (‵ ((OP.the_row Lent).own_val (Some r) (live 1 (of_list (vptr b o ∷ [])) ∷ [])))
      (Some-of 𝓛 Lent r (vptr b o)) $
      suffices ! _ (ends_at 𝓛 ended stayed (clauses 𝓛 at_mem run) (y (block_ptr b o) (Some x))
      (live 1 (of_list (vptr b o ∷ []))) (Some r) (tt, tt) (tt, tt)) $
      nothing ! $ nothing ! $ fjoin ! $ join ! $ nothing ! $ move ! (2 ∷ 0 ∷ []) $ join ! $ join !
      $ frame ! $ says ! refl $ done !

  lends_none : ent 𝓤 (sep 𝓤 (𝓛.A.obs γ (H.coded.code (At null_ptr None))) (𝓛.A.lft κ q))
      (Post null_ptr None (live 0 (of_list [])))
  unfolding follows_by
  lends_none =
      let seen = H.coded.code (At null_ptr None) in
      qed 𝓛 (‵ (fobs γ seen) ∷ ‵ (flft κ q) ∷ []) ∵ use1 𝓛 (‵ (fres γ seen))
      (𝓛.names.obs-res γ seen) $ move ! (1 ∷ []) $
      use0 𝓛 (‵ ((OP.the_row Lent).own_val None (live 0 (of_list []) ∷ []))) (none_of 𝓛 Lent) $
      suffices ! _ (ends_at 𝓛 ended stayed (clauses 𝓛 at_mem run) (y null_ptr None)
      (live 0 (of_list [])) None (tt, tt) (tt, tt)) $
      nothing ! $ nothing ! $ fjoin ! $ join ! $ nothing ! $ move ! (2 ∷ 0 ∷ []) $ join ! $ join !
      $ frame ! $ says ! refl $ done !

  module _ (C : Calls 𝓤 𝓛.H) (Λ : Loops 𝓤 𝓛.H) where
    walk : (p : Ptr) (w : Held)
        → ent 𝓤 (on_entry 𝓛 ended.signature (κ, tt) (q, tt) (lender p w, tt) (vptr rb ro ∷ [], tt))
        (WpFn 𝓤 𝓛.H C Λ code.function (vptr rb ro ∷ []) (Post p w))
    walk null_ptr None =
        qed 𝓛 ((‵ (flft κ q) ⊛ ‵ ftrue)
        ∷ ‵ (owns (MutRef (named 0) κ H ∷ []) (lender null_ptr None, tt)
        (vptr rb ro ∷ [], tt)) ∷ []) ∵
        enter ! C Λ code.function (vptr rb ro ∷ []) _
        $ alloc_all ! (λ l. pass_all ! refl ((tt, tt), tt) $
        let En : Env 𝓤 𝓛.H = env code.function.locals l in
        move ! (1 ∷ []) $ fsplit ! $ fsplit3 ! $ drop ! $ move ! (3 ∷ []) $ split !
        $ move ! (2 ∷ 3 ∷ 0 ∷ []) $
        opens ! tt H {h = At null_ptr None} rb ro
        (λ vs. move ! (1 ∷ []) $ handle_out ! (At null_ptr None) vs (λ h ws fits.
        rewrite ! 2 (λ (us : List Val). ‵ (cell_at full_share H.mir us rb ro)) ws refl $
        -- [nothing; the allocator; the handle's cell; the open borrow, in three entries]
        sets ! (of_opd ! (load ! (through ! refl (fld ! refl (stop !)))
        (look_in ! 2 (sub ! 0 refl (whole !))))) refl (tt, record { fits = lit< tt }) $
        sets ! (bin ! (get ! refl) (lit ! tt) tt) refl (tt, tt) $ first ! $ branches ! (get ! refl)
        (λ _. sets_last ! (agg ! (and_then ! (lit ! tt) (no_more !))) refl
        (tt, (record { fits = lit< tt }, tt)) $
        exec ! C Λ En mir'.t-4 (at_ret En (Post null_ptr None))
        $ sets ! (of_opd ! (get ! refl)) refl (tt, (record { fits = lit< tt }, tt)) $
        handle_in ! h (At null_ptr None) $ move ! (1 ∷ 0 ∷ [])
        $ closes ! tt H (At null_ptr None) (both (ptr_val null_ptr) h ∷ []) rb ro $
        returns ! (look_at ! 0 refl) $ free_all ! refl $ keep ! (0 ∷ 2 ∷ []) $ by ! lends_none)
        (λ wrong. absurd wrong))))
    walk null_ptr (Some x) =
        qed 𝓛 ((‵ (flft κ q) ⊛ ‵ ftrue)
        ∷ ‵ (owns (MutRef (named 0) κ H ∷ []) (lender null_ptr (Some x), tt)
        (vptr rb ro ∷ [], tt)) ∷ []) ∵
        enter ! C Λ code.function (vptr rb ro ∷ []) _
        $ alloc_all ! (λ l. pass_all ! refl ((tt, tt), tt) $
        move ! (1 ∷ []) $ fsplit ! $ fsplit3 ! $ drop ! $ move ! (3 ∷ []) $ split !
        $ move ! (2 ∷ 3 ∷ 0 ∷ []) $
        opens ! tt H {h = At null_ptr (Some x)} rb ro
        (λ vs. move ! (1 ∷ []) $ handle_out ! (At null_ptr (Some x)) vs
        (λ h ws fits. fpick ! (λ wrong. absurd wrong))))
    walk (block_ptr b o) None =
        qed 𝓛 ((‵ (flft κ q) ⊛ ‵ ftrue)
        ∷ ‵ (owns (MutRef (named 0) κ H ∷ []) (lender (block_ptr b o) None, tt)
        (vptr rb ro ∷ [], tt)) ∷ []) ∵
        enter ! C Λ code.function (vptr rb ro ∷ []) _
        $ alloc_all ! (λ l. pass_all ! refl ((tt, tt), tt) $
        move ! (1 ∷ []) $ fsplit ! $ fsplit3 ! $ drop ! $ move ! (3 ∷ []) $ split !
        $ move ! (2 ∷ 3 ∷ 0 ∷ []) $
        opens ! tt H {h = At (block_ptr b o) None} rb ro
        (λ vs. move ! (1 ∷ []) $ handle_out ! (At (block_ptr b o) None) vs
        (λ h ws fits. fpick ! (λ wrong. absurd wrong))))
    walk (block_ptr b o) (Some x) =
        let p : Ptr = block_ptr b o in let d : H.Denot = At p (Some x) in
        qed 𝓛 ((‵ (flft κ q) ⊛ ‵ ftrue)
        ∷ ‵ (owns (MutRef (named 0) κ H ∷ []) (lender p (Some x), tt) (vptr rb ro ∷ [], tt))
        ∷ []) ∵
        enter ! C Λ code.function (vptr rb ro ∷ []) _
        $ alloc_all ! (λ l. pass_all ! refl ((tt, tt), tt) $
        let En : Env 𝓤 𝓛.H = env code.function.locals l in
        let joined : Ends 𝓤 𝓛.H =
        any_q (after_seq 𝓤 𝓛.H
        (Wp 𝓤 𝓛.H C Λ En mir'.t-4 (post 𝓤 𝓛.H (at_ret En (Post p (Some x)))))
        (post 𝓤 𝓛.H (at_ret En (Post p (Some x))))) in
        move ! (1 ∷ []) $ fsplit ! $ fsplit3 ! $ drop ! $ move ! (3 ∷ []) $ split !
        $ move ! (2 ∷ 3 ∷ 0 ∷ []) $
        opens ! tt H {h = d} rb ro (λ vs. move ! (1 ∷ []) $ handle_out ! d vs (λ h ws fits.
        use1 𝓛 (given (Testable p) (‵ (box_owns (ghosts.dealloc_token a) T p x))) (tested 𝓛 a p x)
        $ learn ! (λ t.
        rewrite ! 2 (λ (us : List Val). ‵ (cell_at full_share H.mir us rb ro)) ws refl $
        -- [the box; the allocator; the handle's cell; the open borrow, in three entries]
        sets ! (of_opd ! (load ! (through ! refl (fld ! refl (stop !)))
        (look_in ! 2 (sub ! 0 refl (whole !))))) refl (tt, tt) $
        sets ! (bin ! (get ! refl) (lit ! tt) (tests_null p t)) refl (tt, tt) $ first !
        $ branches ! (get ! refl) (λ wrong. absurd wrong) (λ _.
        first ! $ blocks ! $
        sets ! (of_opd ! (load ! (through ! refl (fld ! refl (stop !)))
        (look_in ! 2 (sub ! 0 refl (whole !))))) refl (tt, tt) $
        sets_last ! (addr ! (through ! refl (stop !))) refl (tt, tt) $
        exec ! C Λ En some_of_it joined $ sets ! (of_opd ! (get ! refl)) refl (tt, tt) $
        sets_last ! (agg ! (and_then ! (lit ! tt) (and_then ! (get ! refl) (no_more !)))) refl
        (tt, (record { fits = lit< tt }, (tt, tt))) $
        exec ! C Λ En mir'.t-4 (at_ret En (Post p (Some x)))
        $ sets ! (of_opd ! (get ! refl)) refl (tt, (record { fits = lit< tt }, (tt, tt))) $
        fsplit ! $ move ! (1 ∷ 2 ∷ []) $ fjoin ! $ move ! (0 ∷ 2 ∷ []) $ fjoin !
        $ move ! (2 ∷ 3 ∷ 4 ∷ 1 ∷ 0 ∷ []) $ group ! 5 $
        use1 𝓛 (later (some (λ (γ' : GName). raw
        (Part 𝓛 H T (with_side d) (named 0) κ q rb ro b o γ (sem 𝓛 (Rest b o h))
        (back b o h x) x γ'))))
        (lends_Part 𝓛 H T (with_side d) (named 0) κ q rb ro b o γ (sem 𝓛 (Rest b o h))
        (back b o h x) (H.coded.code d) (H.coded.code d) x) $ await ! tt $ pick ! (λ γ'.
        returns ! (look_at ! 0 refl) $ free_all ! refl $ keep ! (0 ∷ [])
        $ by ! (lends_it b o x γ')))))))

pub side_spec : {M : Type 1} → statement M
side_spec 𝓤 𝓛 𝓜 𝓡 wired =
    let c = clauses 𝓛 𝓜.mem 𝓡.returns in let 𝓣 = tables 𝓤 𝓛.H 𝓜 𝓡 𝓡.env in
    proved 𝓛 ended stayed c 𝓜 𝓡 (Goes-spent_ref 𝓛 1 (0 ∷ []) tt (plain (λ _. H)), tt) #self
    code.function (code.unfolded 𝓤 𝓛.H 𝓜 𝓡 wired)
    (λ κs. (mut_vals, tt)) (λ κs. (mut_Tells (named 0) κs.0 H, tt))
    (λ κs qs bounds r g are. via 𝓤 _ (fst∗ 𝓤 _ (emp 𝓤))
    (walk 𝓛 𝓜.mem 𝓡.returns κs.0 qs.0 r.0.ref_ptr.0 r.0.ref_ptr.1 r.0.ghost_name
    r.0.now.alloc 𝓣.C 𝓣.Λ r.0.now.at r.0.now.held))
