-- The ways in which a side is left closed, stated over the two sides: it requests, it answers, or
-- it sends no frame.
use Rattle.std.proofs.Common.{◌≡◌, ℕ, ◌+◌, ◌-◌, ◌<◌, ◌≤◌, Bool, true, false, List, [], ◌∷◌, ◌++◌, length, refl, arith}
use Rattle.lapd_link_definition.specs.declared.state.State.{State}
use Rattle.lapd_link_definition.specs.declared.state.State.TheVariants.{TeiAssigned, AwaitingEstablishment, AwaitingRelease, MultipleFrameEstablished, TimerRecovery}
use Rattle.lapd_link_definition.specs.EndOfStep.{is_7_or_8}
use Rattle.lapd_pair_laws.specs.Kinds.{Kind, Asks, Accepts, Refuses, numbers, tally, ask_of, answer_of}
use Rattle.lapd_pair_laws.specs.Parties.{Sender, Party, receives}
use Rattle.lapd_pair_laws.specs.Conjuncts.{IsNumbering, IsEmpty, IsConsistentSender, is_holding, most_asks}
use Rattle.lapd_pair_laws.specs.Invariant.{Both}
use Rattle.lapd_pair_laws.proofs.Closed.{still, still_sender, unspoken, quietly, accepting, asks_is_quiet, refuses_is_quiet, Less, deaf, closing}
use Rattle.lapd_pair_laws.proofs.Receptions.{closed_receives_nothing}
use Rattle.lapd_pair_laws.proofs.Lists.{tally_more}
use Rattle.lapd_pair_laws.proofs.Losses.{both_less}
use Rattle.lapd_pair_laws.proofs.Parts.{Part, part_whole, part_first, part_tally}

-- ---- Waiting messages.

within_numbering : (s : Sender) → IsNumbering s → s.first ≤ length s.given
within_numbering s n = omega (arith, n.first, n.next, n.ordered, n.within)

first_within : (state : State) (asked leaving : Bool) (s : Sender)
    → IsConsistentSender state asked leaving s → s.first ≤ length s.given
first_within AwaitingEstablishment false false s k =
    omega (arith, k.first, k.next, k.ordered, k.within)
first_within MultipleFrameEstablished asked leaving s k = within_numbering s k
first_within TimerRecovery asked leaving s k = within_numbering s k
first_within state asked leaving s k = omega (arith, k.first)

-- how many messages are acknowledged or dropped, if all waiting ones are dropped
abbrev pub all_passed : Sender → ℕ
all_passed s = s.passed + (length s.given - s.first)

pub passes_all : (x y : Party) (out back : List Kind) → Both x y out back
    → all_passed x.sends ≡ length x.sends.given
passes_all x y out back b =
    let within : x.sends.first ≤ length x.sends.given =
    first_within x.state x.asked x.leaving x.sends b.mine.preserved in
    omega (arith, within, b.mine.passed)

-- no message waits in states 4 and 6, nor in state 5 if a release is pending or layer 3 initiated
-- the establishment
pub empties : (first next passed : ℕ) (s : Sender) → first ≡ length s.given → next ≡ length s.given
    → IsEmpty (still_sender first next passed s)
empties first next passed s f n = record { first = f; next = n }

pub leaving_is_empty : (asked : Bool) (s : Sender) → IsEmpty s
    → IsConsistentSender AwaitingEstablishment asked true s
leaving_is_empty true s e = e
leaving_is_empty false s e = e

pub empty_where_leaving : (asked : Bool) (s : Sender)
    → IsConsistentSender AwaitingEstablishment asked true s → IsEmpty s
empty_where_leaving true s e = e
empty_where_leaving false s e = e

-- ---- It requests: it sends SABME or DISC with no frame of the exchange in transit.

module _ (x y : Party) (out back back_was : List Kind) (state : State) (asked leaving : Bool)
    (first next passed : ℕ) (rejecting : Bool) (part : Part back back_was)
    (b : Both x y out back_was) where
  pub asking : is_7_or_8 state ≡ false → most_asks state ≡ 1 → tally ask_of out ≡ 0
      → tally answer_of back ≡ 0
      → IsConsistentSender state asked leaving (still_sender first next passed x.sends)
      → passed ≡ first
      → (is_holding state asked leaving ≡ true → is_holding x.state x.asked x.leaving ≡ true)
      → Both (still state asked leaving first next passed rejecting x) y (out ++ Asks ∷ []) back
  asking closed most no_ask no_answer preserved passed_ holds =
      let asks = tally_more ask_of Asks out in
      let answers = tally_more answer_of Asks out in let less = part_tally ask_of part in
      closing x y out (out ++ Asks ∷ []) back_was back state asked leaving first next passed
      rejecting closed part (quietly Asks asks_is_quiet) preserved passed_ holds
      (deaf (closed_receives_nothing (still state asked leaving first next passed rejecting x) back
      closed no_answer))
      (omega (arith, asks, no_ask, no_answer, most))
      (omega (arith, answers, less, b.its.exchange.one))
      (λ answer. none (omega (arith, answer, answers))) b
    where
      none : 0 < tally answer_of out → numbers back ≡ []
      none answer = (both_less x y (part_whole out) part b).its.exchange.before answer

  -- it sends no frame
  pub settling : is_7_or_8 state ≡ false → tally ask_of out + tally answer_of back ≤ most_asks state
      → IsConsistentSender state asked leaving (still_sender first next passed x.sends)
      → passed ≡ first
      → (is_holding state asked leaving ≡ true → is_holding x.state x.asked x.leaving ≡ true)
      → Less state x.state (receives (still state asked leaving first next passed rejecting x) back)
      (receives x back_was)
      → Both (still state asked leaving first next passed rejecting x) y out back
  settling closed one preserved passed_ holds less =
      let fewer = part_tally ask_of part in
      closing x y out out back_was back state asked leaving first next passed rejecting closed part
      unspoken preserved passed_ holds less one (omega (arith, fewer, b.its.exchange.one))
      (both_less x y (part_whole out) part b).its.exchange.before b

-- ---- It answers the SABME or DISC in hand.

asker_closed : (state : State) (n : ℕ) → 1 + n ≤ most_asks state → is_7_or_8 state ≡ false
asker_closed MultipleFrameEstablished n one = absurd (omega (arith, one))
asker_closed TimerRecovery n one = absurd (omega (arith, one))
asker_closed state n one = refl

pub most_is_one : (state : State) → most_asks state ≤ 1
most_is_one TeiAssigned = omega arith
most_is_one AwaitingEstablishment = omega arith
most_is_one AwaitingRelease = omega arith
most_is_one MultipleFrameEstablished = omega arith
most_is_one TimerRecovery = omega arith

-- facts while a SABME or DISC is in hand: the peer is closed, sent one such command, and no N(R)
-- after it
pub record IsAsked (y : Party) (out back : List Kind) : Type 0 where
  pub closed : is_7_or_8 y.state ≡ false
  pub asks : tally ask_of back ≡ 0
  pub answers : tally answer_of out ≡ 0
  pub room : 1 ≤ most_asks y.state
  pub nothing : numbers back ≡ []

pub is_asked : (x y : Party) (out back : List Kind) → Both x y out (Asks ∷ back)
    → IsAsked y out back
is_asked x y out back b =
    let one : 1 + tally ask_of back + tally answer_of out ≤ most_asks y.state =
    b.its.exchange.one in
    let most = most_is_one y.state in
    record {
      closed = asker_closed y.state (tally ask_of back + tally answer_of out) (omega (arith, one));
      asks = omega (arith, one, most);
      answers = omega (arith, one, most);
      room = omega (arith, one);
      nothing = b.its.exchange.behind.0 (omega arith);
    }

module _ (x y : Party) (out back : List Kind) (state : State) (asked leaving : Bool)
    (first next passed : ℕ) (rejecting : Bool) (b : Both x y out (Asks ∷ back)) where
  pub refusing : is_7_or_8 state ≡ false → tally ask_of out + tally answer_of back ≤ most_asks state
      → IsConsistentSender state asked leaving (still_sender first next passed x.sends)
      → passed ≡ first
      → (is_holding state asked leaving ≡ true → is_holding x.state x.asked x.leaving ≡ true)
      → Less state x.state (receives (still state asked leaving first next passed rejecting x) back)
      (receives x (Asks ∷ back))
      → Both (still state asked leaving first next passed rejecting x) y (out ++ Refuses ∷ [])
      back
  refusing closed one preserved passed_ holds less =
      let i = is_asked x y out back b in
      let asks = tally_more ask_of Refuses out in let answers = tally_more answer_of Refuses out in
      closing x y out (out ++ Refuses ∷ []) (Asks ∷ back) back state asked leaving first next passed
      rejecting closed (part_first Asks back) (quietly Refuses refuses_is_quiet) preserved
      passed_ holds less
      (omega (arith, asks, one)) (omega (arith, answers, i.asks, i.answers, i.room))
      (λ _. i.nothing) b

  pub accepts : is_7_or_8 state ≡ false → tally ask_of out + tally answer_of back ≤ most_asks state
      → IsConsistentSender state asked leaving (still_sender first next passed x.sends)
      → passed ≡ first
      → (is_holding state asked leaving ≡ true → is_holding x.state x.asked x.leaving ≡ true)
      → Less state x.state (receives (still state asked leaving first next passed rejecting x) back)
      (receives x (Asks ∷ back))
      → Both (still state asked leaving first next passed rejecting x) y (out ++ Accepts ∷ [])
      back
  accepts closed one preserved passed_ holds less =
      let i = is_asked x y out back b in
      let asks = tally_more ask_of Accepts out in let answers = tally_more answer_of Accepts out in
      closing x y out (out ++ Accepts ∷ []) (Asks ∷ back) back state asked leaving first next passed
      rejecting closed (part_first Asks back) (accepting i.closed i.answers i.nothing) preserved
      passed_ holds less
      (omega (arith, asks, one)) (omega (arith, answers, i.asks, i.answers, i.room))
      (λ _. i.nothing) b
