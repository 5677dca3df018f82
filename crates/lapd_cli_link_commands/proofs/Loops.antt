-- A line of `loop` has the same result as the move it names, and all frames put on the line pass
-- through the port.
use Rattle.std.specs.Prelude.{⊤}
use Rattle.std.proofs.Common.{◌≡◌, ℕ, ◌+◌, List, [], ◌∷◌, ◌++◌, length, drop, Bool, true, false, Option, Some, None, option_map, Result, Ok, Err, OnOk, IfSome, IsSomeAnd, IsErrAnd, append-nil, append_assoc, if◌then◌else◌, ap, refl, sym, subst, ◌∙◌}
use Rattle.std.specs.Io.KnownBytes.{Appends}
use Rattle.lapd_frame.specs.declared.Side.TheVariants.{Network, User}
use Rattle.lapd_cli_script.specs.declared.script.LineFault.{LineFault}
use Rattle.lapd_cli_script.specs.declared.script.LineFault.TheVariants.{Bad, Device as LineDevice, Memory as LineMemory}
use Rattle.lapd_cli_script.specs.Script.{EndsAs, LineEndsAs, LineOutcome, bad_from, before_rest, is_passed_over, lines_of, number_or, outcome_of, output_of, state_after, state_or}
use Rattle.lapd_cli_script.specs.declared.script.ScriptFault.{ScriptFault}
use Rattle.lapd_cli_script.specs.declared.script.ScriptFault.TheVariants.{BadLine, Device, Memory, Port}
use Rattle.lapd_cli_link_commands.specs.Pair.{move_step}
use Rattle.lapd_cli_link_commands.specs.RepresentsWorld.{IsMover}
use Rattle.lapd_cli_link_commands.specs.declared.mover.Mover.{Mover}
use Rattle.lapd_pair_laws.specs.World.{World}
use Rattle.lapd_cli_link_commands.specs.Crossing.{HaveCrossed}
use Rattle.lapd_cli_link_commands.specs.Loop.{frames_put, line_to, put_between, put_first, put_to}
use Rattle.lapd_cli_link_commands.proofs.Crossed.{both_crossed, none_crossed}
use Rattle.lapd_cli_link_commands.specs.LoopState.{RepresentsLoop, LoopState, after_line, loop_step, new_loop}

-- ---- One line.

drop_all : (xs : List (List ℕ)) → drop (length xs) xs ≡ []
drop_all [] = refl
drop_all (x ∷ xs) = drop_all xs

-- if the world does not change, no frame is put on the line
nothing_put : (w : World) → put_between w w ≡ []
nothing_put w = rw (drop_all (line_to User w), drop_all (line_to Network w)) refl

-- a line that is skipped
same_after : (s : LoopState)
    → s
    ≡ record {
      world = s.world;
      crossed = s.crossed ++ put_between s.world s.world;
      rest = s.rest;
      written = s.written;
    }
same_after s =
    let e : s.crossed ≡ s.crossed ++ put_between s.world s.world =
    sym (ap (λ frames. s.crossed ++ frames) (nothing_put s.world) ∙ append-nil s.crossed) in
    ap (λ frames. record { world = s.world; crossed = frames; rest = s.rest; written = s.written })
    e

-- a line has the same result as its move
line_same : (s : LoopState) (line : List ℕ)
    → outcome_of loop_step s line ≡ option_map (after_line s) (outcome_of move_step s.world line)
line_same s line = by_test (is_passed_over line)
  where
    by_test : (passed : Bool)
        → (if passed then Some ([], s) else loop_step s line)
        ≡ option_map (after_line s)
        (if passed then Some ([], s.world) else move_step s.world line)
    by_test true = ap (λ t. Some ([], t)) (same_after s)
    by_test false = refl

-- ---- All lines.

bad_same : (n : ℕ) (s : LoopState) (lines : List (List ℕ))
    → bad_from n loop_step s lines ≡ bad_from n move_step s.world lines
bad_same n s [] = refl
bad_same n s (line ∷ lines) =
    ap (λ o. number_or n o (λ t. bad_from (n + 1) loop_step t lines)) (line_same s line)
    ∙ by_outcome (λ t. bad_same (n + 1) t lines) (outcome_of move_step s.world line)
  where
    by_outcome : ((t : LoopState)
        → bad_from (n + 1) loop_step t lines ≡ bad_from (n + 1) move_step t.world lines)
        → (o : LineOutcome World)
        → number_or n (option_map (after_line s) o) (λ t. bad_from (n + 1) loop_step t lines)
        ≡ number_or n o (λ v. bad_from (n + 1) move_step v lines)
    by_outcome rest None = refl
    by_outcome rest (Some (text, v)) = rest (after_line s (text, v)).1

output_same : (s : LoopState) (lines : List (List ℕ))
    → output_of loop_step s lines ≡ output_of move_step s.world lines
output_same s [] = refl
output_same s (line ∷ lines) =
    ap (λ o. before_rest o (λ t. output_of loop_step t lines)) (line_same s line)
    ∙ by_outcome (λ t. output_same t lines) (outcome_of move_step s.world line)
  where
    by_outcome : ((t : LoopState) → output_of loop_step t lines ≡ output_of move_step t.world lines)
        → (o : LineOutcome World)
        → before_rest (option_map (after_line s) o) (λ t. output_of loop_step t lines)
        ≡ before_rest o (λ v. output_of move_step v lines)
    by_outcome rest None = refl
    by_outcome rest (Some (text, v)) = ap (λ more. text ++ more) (rest (after_line s (text, v)).1)

-- the state after the lines: the world after their moves, with the frames they put on the line
-- appended to those that have crossed
abbrev crossed_after : LoopState → List (List ℕ) → LoopState
crossed_after s lines = record {
  world = state_after move_step s.world lines;
  crossed = s.crossed ++ frames_put s.world lines;
  rest = s.rest;
  written = s.written;
}

pub state_same : (s : LoopState) (lines : List (List ℕ))
    → state_after loop_step s lines ≡ crossed_after s lines
state_same s [] =
    ap (λ frames. record { world = s.world; crossed = frames; rest = s.rest; written = s.written })
    (sym (append-nil s.crossed))
state_same s (line ∷ lines) =
    ap (λ o. state_or s o (λ t. state_after loop_step t lines)) (line_same s line)
    ∙ by_outcome (λ t. state_same t lines) (outcome_of move_step s.world line)
  where
    by_outcome : ((t : LoopState) → state_after loop_step t lines ≡ crossed_after t lines)
        → (o : LineOutcome World)
        → state_or s (option_map (after_line s) o) (λ t. state_after loop_step t lines)
        ≡ record {
          world = state_or s.world o (λ v. state_after move_step v lines);
          crossed = s.crossed ++ put_first s.world o (λ v. frames_put v lines);
          rest = s.rest;
          written = s.written;
        }
    by_outcome rest None =
        ap
        (λ frames. record { world = s.world; crossed = frames; rest = s.rest; written = s.written })
        (sym (append-nil s.crossed))
    by_outcome rest (Some (text, v)) =
        rest (after_line s (text, v)).1
        ∙ ap (λ frames. record {
          world = state_after move_step v lines;
          crossed = frames;
          rest = s.rest;
          written = s.written;
        })
        (append_assoc s.crossed (put_between s.world v) (frames_put v lines))

-- ---- How one line of the command ends.

-- the line is not a move
pub line_failed : {L : Type 0} (represents : L → LoopState → Type 0) (s : LoopState)
    (o : LineOutcome World) (result : Result ⊤ LineFault) (fault : LineFault) (mover : Mover)
    (looper : L) (old new : Option (List ℕ))
    → IsErrAnd result (λ e. e ≡ fault) → LineEndsAs IsMover o (Err fault) mover old new
    → LineEndsAs represents (option_map (after_line s) o) result looper old new
line_failed represents s o (Ok done) fault mover looper old new is h = absurd is
line_failed {L} represents s o (Err e) fault mover looper old new is h =
    let F : LineFault → Type 0 =
    λ x. LineEndsAs represents (option_map (after_line s) o) (Err x) looper old new in
    subst F (sym is) (by_fault fault o h)
  where
    by_fault : (fault : LineFault) (o : LineOutcome World)
        → LineEndsAs IsMover o (Err fault) mover old new
        → LineEndsAs represents (option_map (after_line s) o) (Err fault) looper old new
    by_fault Bad None h = h
    by_fault Bad (Some next) h = let none = h.0 in absurd cc
    by_fault LineMemory o h = h
    by_fault LineDevice o h = tt

-- a line is executed, and its frames have crossed
pub line_crossed : (s : LoopState) (o : LineOutcome World) (mover after : Mover)
    (to_user to_network : ℕ) (mid left more grown old new : Option (List ℕ))
    → IsSomeAnd o (λ next. IsMover mover next.1 × Appends old new next.0) → after ≡ mover
    → to_user ≡ length (line_to User s.world) → to_network ≡ length (line_to Network s.world)
    → HaveCrossed s.rest mid s.written more s.crossed
    → ((v : World) → IsMover mover v
    → HaveCrossed mid left more grown
    (drop to_user (line_to User v) ++ drop to_network (line_to Network v)))
    → IsSomeAnd (option_map (after_line s) o)
    (λ next. RepresentsLoop after left grown next.1 × Appends old new next.0)
line_crossed s None mover after to_user to_network mid left more grown old new done same user
    network before crossed = absurd done
line_crossed s (Some (text, v)) mover after to_user to_network mid left more grown old new done same
    user network before crossed =
    let put : drop to_user (line_to User v) ++ drop to_network (line_to Network v) ≡ put_between
    s.world v =
    ap (λ n. drop n (line_to User v) ++ drop to_network (line_to Network v)) user
    ∙ ap (λ n. put_to User s.world v ++ drop n (line_to Network v)) network in
    let representation : IsMover after v = subst (λ m. IsMover m v) (sym same) done.0 in
    let frames : HaveCrossed mid left more grown (put_between s.world v) =
    subst (HaveCrossed mid left more grown) put (crossed v done.0) in (
      (
        representation,
        both_crossed s.rest mid left s.written more grown s.crossed (put_between s.world v)
            before frames,
      ),
      done.1,
    )

-- ---- How the command ends.

-- a script ends as its moves do
pub ends_same : (s : LoopState) (result : Result ⊤ ScriptFault) (lines : List (List ℕ))
    (old new : Option (List ℕ)) → EndsAs loop_step s result lines old new
    → EndsAs move_step s.world result lines old new
ends_same s (Ok done) lines old new ends =
    (sym (bad_same 1 s lines) ∙ ends.0, subst (Appends old new) (output_same s lines) ends.1)
ends_same s (Err (BadLine number)) lines old new ends =
    (sym (bad_same 1 s lines) ∙ ends.0, subst (Appends old new) (output_same s lines) ends.1)
ends_same s (Err Memory) lines old new ends = (
  ends.0,
  ends.1,
  ends.2,
  sym (bad_same 1 s ends.0) ∙ ends.3,
  subst (Appends old new) (output_same s ends.0) ends.4,
)
ends_same s (Err Device) lines old new ends = tt
ends_same s (Err (Port fault)) lines old new ends = ends

-- nothing has crossed yet
pub new_represents : (mover : Mover) (w : World) (rest written : Option (List ℕ)) → IsMover mover w
    → RepresentsLoop mover rest written (new_loop w rest written)
new_represents mover w rest written representation = (representation, none_crossed rest written)

-- the same for a script whose octets are known
pub text_same : (known : Option (List ℕ)) (s : LoopState) (result : Result ⊤ ScriptFault)
    (old new : Option (List ℕ))
    → IfSome known (λ octets. EndsAs loop_step s result (lines_of octets) old new)
    → IfSome known (λ octets. EndsAs move_step s.world result (lines_of octets) old new)
text_same None s result old new ends = tt
text_same (Some octets) s result old new ends = ends_same s result (lines_of octets) old new ends

-- at the end the command is in the world that the moves lead to
pub represents_same : (known : Option (List ℕ)) (s : LoopState) (mover : Mover)
    (left grown : Option (List ℕ))
    → IfSome known
    (λ octets. RepresentsLoop mover left grown (state_after loop_step s (lines_of octets)))
    → IfSome known (λ octets. IsMover mover (state_after move_step s.world (lines_of octets)))
represents_same None s mover left grown representation = tt
represents_same (Some octets) s mover left grown representation =
    (subst (RepresentsLoop mover left grown) (state_same s (lines_of octets)) representation).0

-- at the end the frames that the script put on the line have crossed
pub frames_crossed : (known : Option (List ℕ)) (w : World) (rest written : Option (List ℕ))
    (mover : Mover) (left grown : Option (List ℕ)) {T E : Type 0} (result : Result T E)
    → IfSome known (λ octets. RepresentsLoop mover left grown
    (state_after loop_step (new_loop w rest written) (lines_of octets)))
    → IfSome known (λ octets. OnOk result
    (HaveCrossed rest left written grown (frames_put w (lines_of octets))))
frames_crossed None w rest written mover left grown result representation = tt
frames_crossed (Some octets) w rest written mover left grown (Ok done) representation =
    (subst (RepresentsLoop mover left grown)
    (state_same (new_loop w rest written) (lines_of octets)) representation).1
frames_crossed (Some octets) w rest written mover left grown (Err fault) representation = tt
