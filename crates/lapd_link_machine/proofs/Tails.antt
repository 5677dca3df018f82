-- The I queue stays the tail of the accepted messages, under each action that changes a place or a
-- message.
use Rattle.std.proofs.Common.{◌≡◌, ℕ, ◌+◌, ◌-◌, ◌<◌, ◌≤◌, nat_lt, true, false, List, [], ◌∷◌, ◌++◌, length, drop, Result, Ok, Err, OnOk, refl, sym, ap, ◌∙◌, arith}
use Rattle.std.proofs.lemmas.List.{length-drop, length-append, drop-append-le, drop-drop}
use Rattle.std.proofs.Math.Seq.{drop-length}
use Rattle.std.proofs.lemmas.Bool.Decides.{nat_tests}
use Rattle.lapd_link_definition.specs.declared.out.Out.{Out}
use Rattle.lapd_link_definition.specs.Procedures.{counted}
use Rattle.lapd_queue.specs.Waiting.{Waiting, with_message, one_more_sent, without_first, all_unsent, emptied}
use Rattle.lapd_link_machine.specs.Tail.{IsTail}

-- the number of messages in the queue, as the table counts them
pub tail_waiting : (given : List (List ℕ)) (first next : ℕ) (q : Waiting)
    → IsTail given first next q → length given - first ≡ length q.messages
tail_waiting given first next q t = sym (length-drop first given) ∙ ap length t.messages

-- the number of sent messages is the place of the first unsent message
pub tail_place : (given : List (List ℕ)) (first next : ℕ) (q : Waiting) → IsTail given first next q
    → next - first ≡ q.sent
tail_place given first next q t = omega (arith, t.next_is)

pub tail_emptied : (given : List (List ℕ)) (first next : ℕ) (q : Waiting)
    → IsTail given first next q → IsTail given (length given) (length given) (emptied q)
unfolding emptied
tail_emptied given first next q t =
    record { messages = drop-length given; within = omega arith; next_is = omega arith }

pub tail_acknowledged : (given : List (List ℕ)) (first next n : ℕ) (q : Waiting)
    → IsTail given first next q → n ≤ q.sent → n ≤ length q.messages
    → IsTail given (first + n) next (without_first n q)
unfolding without_first
tail_acknowledged given first next n q t low high = record {
  messages = sym (drop-drop n first given) ∙ ap (drop n) t.messages;
  within = omega (arith, tail_waiting given first next q t, t.within);
  next_is = omega (arith, t.next_is);
}

pub tail_gone_back : (given : List (List ℕ)) (first next : ℕ) (q : Waiting)
    → IsTail given first next q → IsTail given first first (all_unsent q)
unfolding all_unsent
tail_gone_back given first next q t =
    record { messages = t.messages; within = t.within; next_is = omega arith }

pub tail_sent : (given : List (List ℕ)) (first next : ℕ) (q : Waiting) → IsTail given first next q
    → IsTail given first (next + 1) (one_more_sent q)
unfolding one_more_sent
tail_sent given first next q t =
    record { messages = t.messages; within = t.within; next_is = omega (arith, t.next_is) }

pub tail_given : (given : List (List ℕ)) (first next : ℕ) (q : Waiting) (message : List ℕ)
    → IsTail given first next q → IsTail (given ++ message ∷ []) first next (with_message message q)
unfolding with_message
tail_given given first next q message t = record {
  messages =
      drop-append-le first given (message ∷ []) t.within ∙ ap (λ l. l ++ message ∷ []) t.messages;
  within = omega (arith, length-append given (message ∷ []), t.within);
  next_is = t.next_is;
}

-- a count above 0 is reported
pub counted_above : (n : ℕ) (out : ℕ → Out) → 0 < n → counted n out ≡ out n ∷ []
counted_above n out h = let test : nat_lt 0 n ≡ true = grind (arith, nat_tests) in rw test refl

pub counted_none : (n : ℕ) (out : ℕ → Out) → n ≤ 0 → counted n out ≡ []
counted_none n out h = let test : nat_lt 0 n ≡ false = grind (arith, nat_tests) in rw test refl

-- the queue has as much room as before
pub room_sent : (room : ℕ) (q : Waiting) → room ≡ q.room → room ≡ (one_more_sent q).room
unfolding one_more_sent
room_sent room q h = h

pub room_gone_back : (room : ℕ) (q : Waiting) → room ≡ q.room → room ≡ (all_unsent q).room
unfolding all_unsent
room_gone_back room q h = h

-- a property of a successful result
pub on_ok : {X Y : Type 0} (r : Result X Y) (P Q : Type 0) → OnOk r P → (P → Q) → OnOk r Q
on_ok (Ok x) P Q h f = f h
on_ok (Err y) P Q h f = h

-- the place of the last sent message
pub tail_last_place : (given : List (List ℕ)) (first next : ℕ) (q : Waiting)
    → IsTail given first next q → next - 1 - first ≡ q.sent - 1
tail_last_place given first next q t = omega (arith, t.next_is)

-- how each action leaves the I queue the tail of the accepted messages
pub ruleset tails = (
  tail_waiting,
  tail_place,
  tail_emptied,
  tail_acknowledged,
  tail_gone_back,
  tail_sent,
  tail_given,
  room_sent,
  room_gone_back,
)
