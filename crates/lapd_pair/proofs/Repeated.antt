-- A pair makes moves one after another, each the next one by the same rule: it settles or recovers.
use Rattle.std.proofs.Common.{◌≡◌, ℕ, suc, ◌+◌, ◌≤◌, Bool, true, List, [], ◌∷◌, ◌++◌, length, is_none, option_map, is_some, not, false, Option, Some, None, refl, sym, ap, subst, ◌∙◌, arith}
use Rattle.lapd_mod128.specs.Counting.{Tagged}
use Rattle.lapd_link_definition.specs.declared.out.Out.{Out}
use Rattle.lapd_pair_laws.specs.Move.{Move}
use Rattle.lapd_pair_laws.specs.World.{World, happens, run}
use Rattle.lapd_pair.specs.declared.pair.Pair.{Pair}
use Rattle.lapd_pair.specs.declared.settled.Settled.{Settled}
use Rattle.lapd_pair.specs.Runs.{PairRepresents, HasHappened}
use Rattle.lapd_pair.proofs.Pairs.{run_more, after_did}

abbrev pub no_move : Option Move
no_move = None

pub none_mapped : {A B : Type 0} (f : A → B) (o : Option A) → is_none (option_map f o) ≡ is_none o
none_mapped f None = refl
none_mapped f (Some a) = refl

pub none_is_not_some : {A : Type 0} (o : Option A) (b : Bool) → is_some o ≡ not b → b ≡ is_none o
none_is_not_some None true reported = refl
none_is_not_some None false reported = cc
none_is_not_some (Some a) true reported = cc
none_is_not_some (Some a) false reported = refl

-- the first n moves were made
pub record AreMade (listed : ℕ → World → List Move) (before : Pair) (n : ℕ) (now : Pair) : Type
    0 where
  pub representation : (w : World) → PairRepresents before w
      → PairRepresents now (run Tagged (listed n w) w)
  pub counted : (w : World) → PairRepresents before w → length (listed n w) ≡ n

-- the moves within a bound were made; `done` has their number and whether another is possible
pub record HasMadeAll (next : World → Option Move) (listed : ℕ → World → List Move) (bound : ℕ)
    (now : Pair) (done : Settled) (w : World) : Type 0 where
  pub representation : PairRepresents now (run Tagged (listed bound w) w)
  pub moves : done.moves ≡ length (listed bound w)
  pub rest : done.rest ≡ is_none (next (run Tagged (listed bound w) w))

-- one more move is the next one, and there are no more if there is no next one
abbrev pub HasOneMore : (World → Option Move) → (ℕ → World → List Move) → Type 0
HasOneMore next listed =
    (n : ℕ) (w : World) (m : Move) → length (listed n w) ≡ n
    → next (run Tagged (listed n w) w) ≡ Some m → listed (suc n) w ≡ listed n w ++ m ∷ []

abbrev pub HasNoMore : (World → Option Move) → (ℕ → World → List Move) → Type 0
HasNoMore next listed =
    (n bound : ℕ) (w : World) → n ≤ bound → next (run Tagged (listed n w) w) ≡ None
    → listed bound w ≡ listed n w

one_longer : (l : List Move) (m : Move) → length (l ++ m ∷ []) ≡ suc (length l)
one_longer [] m = omega arith
one_longer (x ∷ l) m = let rest = one_longer l m in omega (arith, rest)

pub one_made : (next : World → Option Move) (listed : ℕ → World → List Move)
    → HasOneMore next listed → (before now after : Pair) (n : ℕ) (m : Move) (outs : List Out)
    → AreMade listed before n now
    → ((w : World) → PairRepresents now w → Some m ≡ next w)
    → ((w : World) → PairRepresents now w → HasHappened after (happens Tagged m w) outs)
    → AreMade listed before (n + 1) after
one_made next listed one_more before now after n m outs made is_next happened =
    let same : suc n ≡ n + 1 = omega arith in
    subst (λ k. AreMade listed before k after) same (record {
      representation = λ w s.
          let u = run Tagged (listed n w) w in
          let su = made.representation w s in
          let more = one_more n w m (made.counted w s) (sym (is_next u su)) in
          let h = happened u su in
          subst (PairRepresents after) (after_did u (happens Tagged m u) h.happened h.is
          ∙ sym (run_more (listed n w) m w) ∙ ap (λ l. run Tagged l w) (sym more))
          h.representation;
      counted = λ w s.
          let u = run Tagged (listed n w) w in
          let more =
          one_more n w m (made.counted w s) (sym (is_next u (made.representation w s))) in
          let count = made.counted w s in
          ap length more ∙ one_longer (listed n w) m ∙ ap suc count;
    })

-- no further move is possible
pub no_move_is_left : (next : World → Option Move) (listed : ℕ → World → List Move)
    → HasNoMore next listed → (before now : Pair) (n : ℕ) → AreMade listed before n now
    → ((w : World) → PairRepresents now w → no_move ≡ next w)
    → (w : World) → PairRepresents before w → (bound : ℕ) → n ≤ bound
    → HasMadeAll next listed bound now (record { moves = n; rest = true }) w
no_move_is_left next listed no_more before now n made none w s bound few =
    let u = run Tagged (listed n w) w in
    let su = made.representation w s in
    let all = no_more n bound w few (sym (none u su)) in
    let there : run Tagged (listed bound w) w ≡ u = ap (λ l. run Tagged l w) all in
    record {
      representation = subst (PairRepresents now) (sym there) su;
      moves = sym (ap length all ∙ made.counted w s);
      rest = sym (ap (λ v. is_none (next v)) there ∙ ap is_none (sym (none u su)));
    }

-- all moves within the bound are made
pub all_made : (next : World → Option Move) (listed : ℕ → World → List Move) (before now : Pair)
    (n : ℕ) (rest : Bool) → AreMade listed before n now
    → ((w : World) → PairRepresents now w → rest ≡ is_none (next w))
    → (w : World) → PairRepresents before w → (bound : ℕ) → n ≡ bound
    → HasMadeAll next listed bound now (record { moves = n; rest = rest }) w
all_made next listed before now n rest made reporting w s bound all =
    let u = run Tagged (listed n w) w in
    let there : u ≡ run Tagged (listed bound w) w = ap (λ k. run Tagged (listed k w) w) all in
    record {
      representation = subst (PairRepresents now) there (made.representation w s);
      moves = sym (made.counted w s) ∙ ap (λ k. length (listed k w)) all;
      rest = reporting u (made.representation w s) ∙ ap (λ v. is_none (next v)) there;
    }
