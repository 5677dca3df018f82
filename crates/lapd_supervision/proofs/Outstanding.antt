-- How many I frames are outstanding, from V(A) to V(S), after each action; in both readings.
use Rattle.std.proofs.Common.{◌≡◌, ℕ, ◌+◌, ◌%◌, ◌<◌, ◌≤◌, Bool, true, refl, arith}
use Rattle.std.proofs.lemmas.Bool.Decides.{nat_tests}
use Rattle.std.proofs.lemmas.Grind.{common_steps}
use Rattle.lapd_mod128.specs.Counting.{Reading, Whole, Tagged, after, reaches}
use Rattle.lapd_mod128.proofs.Steps.{reaches_implies, reaches_holds, tags_are_reached, reaches_between, steps_to_between, steps_add_up, no_steps, one_more_step}
use Rattle.lapd_supervision.specs.StateVariables.{StateVariables, without_ack_pending, after_i_frame, is_valid_nr, with_va, acknowledged_count, acknowledges_all, with_vs, outstanding, may_send, after_sending, with_peer_busy}

-- ---- N(R)

-- a valid N(R) acknowledges at most the outstanding I frames
pub acknowledged_count_at_most : (r : Reading) (nr : ℕ) (m : StateVariables)
    → is_valid_nr r nr m ≡ true → acknowledged_count r nr m ≤ outstanding r m
unfolding is_valid_nr acknowledged_count
acknowledged_count_at_most r nr m valid = steps_to_between r m.va nr m.vs valid

-- the frames that it does not acknowledge stay outstanding
pub outstanding_with_va : (r : Reading) (nr : ℕ) (m : StateVariables) → is_valid_nr r nr m ≡ true
    → outstanding r (with_va nr m) + acknowledged_count r nr m ≡ outstanding r m
unfolding is_valid_nr with_va acknowledged_count
outstanding_with_va r nr m valid = omega (arith, steps_add_up r m.va nr m.vs valid)

same_as_vs : (nr : ℕ) (m : StateVariables) → acknowledges_all nr m ≡ true → nr ≡ m.vs
unfolding acknowledges_all
same_as_vs nr m all = grind (arith, nat_tests)

-- if it acknowledges all, nothing stays outstanding
pub outstanding_after_all : (r : Reading) (nr : ℕ) (m : StateVariables)
    → acknowledges_all nr m ≡ true → outstanding r (with_va nr m) ≡ 0
unfolding with_va
outstanding_after_all r nr m all = let same = same_as_vs nr m all in rw same (no_steps r m.vs)

-- if V(S) is set back to N(R), nothing is outstanding
pub outstanding_with_vs : (r : Reading) (nr : ℕ) (m : StateVariables)
    → outstanding r (with_vs nr (with_va nr m)) ≡ 0
unfolding with_vs with_va
outstanding_with_vs r nr m = no_steps r nr

-- ---- Sending I frames

-- if an I frame may be sent, the window has room for it
pub may_send_leaves_room : (r : Reading) (k : ℕ) (m : StateVariables) → may_send r k m ≡ true
    → outstanding r m < k
unfolding may_send
may_send_leaves_room r k m opened = grind (arith, nat_tests, common_steps)

-- each sent frame is outstanding
pub outstanding_after_sending : (r : Reading) (m : StateVariables) → reaches r m.va m.vs ≡ true
    → outstanding r m < 127 → outstanding r (after_sending r m) ≡ outstanding r m + 1
unfolding after_sending
outstanding_after_sending r m counted room = one_more_step r m.va m.vs counted room

-- and at most k are outstanding
pub at_most_k_after_sending : (r : Reading) (k : ℕ) (m : StateVariables)
    → reaches r m.va m.vs ≡ true → k ≤ 127 → may_send r k m ≡ true
    → outstanding r (after_sending r m) ≤ k
at_most_k_after_sending r k m counted small allowed =
    let room = may_send_leaves_room r k m allowed in
    omega (arith, outstanding_after_sending r m counted (omega arith))

-- ---- The other actions

pub outstanding_without_ack_pending : (r : Reading) (m : StateVariables)
    → outstanding r (without_ack_pending m) ≡ outstanding r m
unfolding without_ack_pending
outstanding_without_ack_pending r m = refl

pub outstanding_after_i_frame : (q r : Reading) (ns : ℕ) (p : Bool) (m : StateVariables)
    → outstanding q (after_i_frame r ns p m) ≡ outstanding q m
unfolding after_i_frame
outstanding_after_i_frame q r ns p m = refl

pub outstanding_with_peer_busy : (r : Reading) (busy : Bool) (m : StateVariables)
    → outstanding r (with_peer_busy busy m) ≡ outstanding r m
unfolding with_peer_busy
outstanding_with_peer_busy r busy m = refl

-- ---- V(S) can still be reached from V(A); on tags this is always true.

reaches_itself : (r : Reading) (n : ℕ) → reaches r n n ≡ true
reaches_itself Whole n = reaches_holds n n (omega arith)
reaches_itself Tagged n = tags_are_reached n n

pub reaches_with_va : (r : Reading) (nr : ℕ) (m : StateVariables) → is_valid_nr r nr m ≡ true
    → reaches r (with_va nr m).va (with_va nr m).vs ≡ true
unfolding is_valid_nr with_va
reaches_with_va r nr m valid = (reaches_between r m.va nr m.vs valid).1

pub reaches_with_vs : (r : Reading) (nr : ℕ) (m : StateVariables)
    → reaches r (with_vs nr (with_va nr m)).va (with_vs nr (with_va nr m)).vs ≡ true
unfolding with_vs with_va
reaches_with_vs r nr m = reaches_itself r nr

pub reaches_after_sending : (r : Reading) (m : StateVariables) → reaches r m.va m.vs ≡ true
    → reaches r (after_sending r m).va (after_sending r m).vs ≡ true
unfolding after_sending after
reaches_after_sending Whole m counted =
    reaches_holds m.va (m.vs + 1) (omega (arith, reaches_implies m.va m.vs counted))
reaches_after_sending Tagged m counted = tags_are_reached m.va ((m.vs + 1) % 128)
