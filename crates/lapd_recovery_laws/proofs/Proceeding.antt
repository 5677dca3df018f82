-- The weight of the frames in transit and of the messages of each side, while frames alone are
-- delivered.
use Rattle.std.proofs.Common.{◌≡◌, ◌⊎◌, inl, inr, ℕ, ◌+◌, ◌-◌, ◌*◌, ◌≤◌, Bool, true, false, List, [], ◌∷◌, ◌++◌, length, Option, Some, None, option_map, refl, sym, ap, subst, ◌∙◌, arith}
use Rattle.lapd_link_definition.specs.declared.state.State.{State}
use Rattle.lapd_link_definition.specs.declared.state.State.TheVariants.{TeiAssigned, AwaitingEstablishment, AwaitingRelease, MultipleFrameEstablished, TimerRecovery}
use Rattle.lapd_link_definition.specs.EndOfStep.{is_7_or_8}
use Rattle.lapd_link_definition.specs.End.{End, unsent, waiting}
use Rattle.lapd_pair_laws.specs.Kinds.{Message, Kind, Numbered, Enquiry, Asks, Accepts, messages, numbers, rejections, tally, answer_of, is_acceptance}
use Rattle.lapd_pair_laws.specs.Parties.{Reception, behind, behind_acceptance, next_reception, received_in, OnReception}
use Rattle.lapd_pair_laws.proofs.Flow.{IsWhole, IsJunkThenWhole, IsInTransit, fresh}
use Rattle.lapd_pair_laws.proofs.Lists.{messages_append, rejections_append, tally_append}
use Rattle.lapd_pair_laws.proofs.Receptions.{not_acceptance, unanswered}

-- ---- Weights.

abbrev heavy : Bool → ℕ
heavy true = 2
heavy false = 1

-- A frame that is always answered counts twice. A message that does not poll counts once: its sender
-- accounts for the answer.
abbrev pub weight_of : Kind → ℕ
weight_of (Numbered m nr) = heavy m.polled
weight_of (Enquiry nr) = 2
weight_of Asks = 2
weight_of k = 1

abbrev pub weigh : List Kind → ℕ
weigh ks = tally weight_of ks

-- a message that does not poll
abbrev light : Bool → ℕ
light true = 0
light false = 1

abbrev pub plain_of : Kind → ℕ
plain_of (Numbered m nr) = light m.polled
plain_of k = 0

-- both are at most two a frame
both_few : (k : Kind) → weight_of k + plain_of k ≤ 2
both_few (Numbered m nr) = by_poll m.polled
  where
    by_poll : (b : Bool) → heavy b + light b ≤ 2
    by_poll true = omega arith
    by_poll false = omega arith
both_few k = omega arith

pub weight_some : (k : Kind) → 1 ≤ weight_of k
weight_some (Numbered m nr) = by_poll m.polled
  where
    by_poll : (b : Bool) → 1 ≤ heavy b
    by_poll true = omega arith
    by_poll false = omega arith
weight_some k = omega arith

pub weigh_few : (ks : List Kind) → weigh ks + tally plain_of ks ≤ 2 * length ks
weigh_few [] = omega arith
weigh_few (k ∷ ks) = let one = both_few k in let rest = weigh_few ks in omega (arith, one, rest)

pub no_number_plain : (ks : List Kind) → numbers ks ≡ [] → tally plain_of ks ≡ 0
no_number_plain [] none = refl
no_number_plain (Asks ∷ ks) none = let rest = no_number_plain ks none in omega (arith, rest)
no_number_plain (k ∷ ks) none = first_of (cc, grind (arith, no_number_plain ks))

-- ---- Lists.

whole_append : (low middle end : ℕ) (ms ws : List Message) → IsWhole low middle ms
    → IsWhole middle end ws → IsWhole low end (ms ++ ws)
whole_append low middle end [] ws w v = subst (λ n. IsWhole n end ws) (sym w) v
whole_append low middle end (m ∷ ms) ws w v = (w.0, whole_append (low + 1) middle end ms ws w.1 v)

pub junk_of_whole : (low end : ℕ) (ms : List Message) → IsWhole low end ms
    → IsJunkThenWhole low end ms
junk_of_whole low end [] w = w
junk_of_whole low end (m ∷ ms) w = inl w

junk_append : (low middle end : ℕ) (ms ws : List Message) → IsJunkThenWhole low middle ms
    → IsWhole middle end ws → IsJunkThenWhole low end (ms ++ ws)
junk_append low middle end [] ws w v =
    subst (λ n. IsJunkThenWhole n end ws) (sym w) (junk_of_whole middle end ws v)
junk_append low middle end (m ∷ ms) ws (inl w) v = inl (whole_append low middle end (m ∷ ms) ws w v)
junk_append low middle end (m ∷ ms) ws (inr j) v = inr (j.0, junk_append low middle end ms ws j.1 v)

in_transit_append : (rejecting : Bool) (low middle end : ℕ) (ms ws : List Message)
    → IsInTransit rejecting low middle ms → IsWhole middle end ws
    → IsInTransit rejecting low end (ms ++ ws)
in_transit_append false low middle end ms ws w v = whole_append low middle end ms ws w v
in_transit_append true low middle end ms ws w v = junk_append low middle end ms ws w v

pub in_transit_of_whole : (rejecting : Bool) (low end : ℕ) (ms : List Message) → IsWhole low end ms
    → IsInTransit rejecting low end ms
in_transit_of_whole false low end ms w = w
in_transit_of_whole true low end ms w = junk_of_whole low end ms w

pub whole_joined : (low middle end : ℕ) (ks ls : List Kind) → IsWhole low middle (messages ks)
    → IsWhole middle end (messages ls) → IsWhole low end (messages (ks ++ ls))
whole_joined low middle end ks ls w v =
    subst (λ ms. IsWhole low end ms) (sym (messages_append ks ls))
    (whole_append low middle end (messages ks) (messages ls) w v)

pub none_rejected : (ks ls : List Kind) → rejections ks ≡ [] → rejections ls ≡ []
    → rejections (ks ++ ls) ≡ []
none_rejected ks ls a b = rejections_append ks ls ∙ ap (λ l. l ++ rejections ls) a ∙ b

-- ---- The frames that an end will process.

abbrev pub heard : End → List Kind → Option Reception
heard e ks =
    received_in e.state e.release_pending
    (record {
      vs = e.window.vs;
      va = e.window.va;
      vr = e.window.vr;
      rejecting = e.window.rejecting;
      frames = ks;
    }) ks

-- the frames behind the first UA, with these appended
behind_either : (test : Bool) (ks fs : List Kind) (later more : Option (List Kind))
    → more ≡ option_map (λ l. l ++ fs) later
    → behind test (ks ++ fs) more ≡ option_map (λ l. l ++ fs) (behind test ks later)
behind_either true ks fs later more same = refl
behind_either false ks fs later more same = same

behind_append : (ks fs : List Kind) → behind_acceptance fs ≡ None
    → behind_acceptance (ks ++ fs) ≡ option_map (λ l. l ++ fs) (behind_acceptance ks)
behind_append [] fs none = none
behind_append (k ∷ ks) fs none =
    behind_either (is_acceptance k) ks fs (behind_acceptance ks) (behind_acceptance (ks ++ fs))
    (behind_append ks fs none)

-- and the frames behind a UA that is the first
pub behind_first : (ks fs : List Kind) → tally answer_of ks ≡ 0
    → behind_acceptance (ks ++ Accepts ∷ fs) ≡ Some fs
behind_first [] fs none = refl
behind_first (k ∷ ks) fs none =
    ap (λ b. behind b (ks ++ Accepts ∷ fs) (behind_acceptance (ks ++ Accepts ∷ fs)))
    (not_acceptance k (omega (arith, none))) ∙ behind_first ks fs (omega (arith, none))

-- ---- A side whose messages need not be sent again.

-- the messages that the peer misses are in transit, up to V(S)
abbrev pub Arrives : ℕ → Reception → Type 0
Arrives end h = IsInTransit h.rejecting h.vr end (messages h.frames)

-- or it is own receiver busy, and discards messages
abbrev pub Hears : ℕ → End → List Kind → Type 0
Hears vs y out =
    ((is_7_or_8 y.state ≡ true) × (y.window.own_busy ≡ true))
    ⊎ OnReception (Arrives vs) (heard y out)

pub record Proceeds (x y : End) (out back : List Kind) : Type 0 where
  pub in_7 : x.state ≡ MultipleFrameEstablished
  pub wanted : rejections back ≡ []
  pub hears : Hears x.window.vs y out

next_arrives : (low end : ℕ) (fs : List Kind) (o : Option (List Kind))
    → IsWhole low end (messages fs) → OnReception (Arrives low) (option_map next_reception o)
    → OnReception (Arrives end) (option_map next_reception (option_map (λ l. l ++ fs) o))
next_arrives low end fs None w a = tt
next_arrives low end fs (Some l) w a = whole_joined 0 low end l fs a w

pub now_arrives : (rejecting : Bool) (vr low end : ℕ) (out fs : List Kind)
    → IsWhole low end (messages fs) → IsInTransit rejecting vr low (messages out)
    → IsInTransit rejecting vr end (messages (out ++ fs))
now_arrives rejecting vr low end out fs w a =
    subst (λ ms. IsInTransit rejecting vr end ms) (sym (messages_append out fs))
    (in_transit_append rejecting vr low end (messages out) (messages fs) a w)

arrives_in : (state : State) (leaving : Bool) (vs va vr : ℕ) (rejecting : Bool) (low end : ℕ)
    (out fs : List Kind) → tally answer_of fs ≡ 0 → IsWhole low end (messages fs)
    → OnReception (Arrives low) (received_in state leaving
    (record { vs = vs; va = va; vr = vr; rejecting = rejecting; frames = out }) out)
    → OnReception (Arrives end) (received_in state leaving
    (record { vs = vs; va = va; vr = vr; rejecting = rejecting; frames = out ++ fs })
    (out ++ fs))
arrives_in TeiAssigned leaving vs va vr rejecting low end out fs none w a = tt
arrives_in AwaitingEstablishment true vs va vr rejecting low end out fs none w a = tt
arrives_in AwaitingEstablishment false vs va vr rejecting low end out fs none w a =
    subst (λ o. OnReception (Arrives end) (option_map next_reception o))
    (sym (behind_append out fs (unanswered fs none)))
    (next_arrives low end fs (behind_acceptance out) w a)
arrives_in AwaitingRelease leaving vs va vr rejecting low end out fs none w a = tt
arrives_in MultipleFrameEstablished leaving vs va vr rejecting low end out fs none w a =
    now_arrives rejecting vr low end out fs w a
arrives_in TimerRecovery leaving vs va vr rejecting low end out fs none w a =
    now_arrives rejecting vr low end out fs w a

-- messages are sent, one after another
pub hears_more : (low end : ℕ) (y : End) (out fs : List Kind) → tally answer_of fs ≡ 0
    → IsWhole low end (messages fs) → Hears low y out → Hears end y (out ++ fs)
hears_more low end y out fs none w (inl busy) = inl busy
hears_more low end y out fs none w (inr a) =
    inr (arrives_in y.state y.release_pending y.window.vs y.window.va y.window.vr y.window.rejecting
    low end out fs none w a)

-- ---- The messages of a closed side that its peer will process.

abbrev pub plain_in : Option Reception → ℕ
plain_in None = 0
plain_in (Some h) = tally plain_of h.frames

-- how many of them do not poll
abbrev pub extra : End → List Kind → ℕ
extra y out = plain_in (heard y out)

abbrev hearing : ℕ → ℕ → ℕ → Bool → List Kind → Reception
hearing vs va vr rejecting ks =
    record { vs = vs; va = va; vr = vr; rejecting = rejecting; frames = ks }

plain_behind : (test : Bool) (k : Kind) (ks : List Kind) (later : Option (List Kind))
    → plain_in (option_map next_reception later) ≤ tally plain_of ks
    → plain_in (option_map next_reception (behind test ks later)) ≤ tally plain_of (k ∷ ks)
plain_behind true k ks later le = omega arith
plain_behind false k ks later le = omega (arith, le)

behind_few : (ks : List Kind)
    → plain_in (option_map next_reception (behind_acceptance ks)) ≤ tally plain_of ks
behind_few [] = omega arith
behind_few (k ∷ ks) = plain_behind (is_acceptance k) k ks (behind_acceptance ks) (behind_few ks)

plain_few : (state : State) (leaving : Bool) (vs va vr : ℕ) (rejecting : Bool) (ks : List Kind)
    → plain_in (received_in state leaving (hearing vs va vr rejecting ks) ks) ≤ tally plain_of ks
plain_few AwaitingEstablishment false vs va vr rejecting ks = behind_few ks
plain_few state leaving vs va vr rejecting ks = omega arith

pub extra_few : (y : End) (ks : List Kind) → extra y ks ≤ tally plain_of ks
extra_few y ks =
    plain_few y.state y.release_pending y.window.vs y.window.va y.window.vr y.window.rejecting ks

plain_open : (state : State) (leaving : Bool) (vs va vr : ℕ) (rejecting : Bool) (ks : List Kind)
    → is_7_or_8 state ≡ true
    → plain_in (received_in state leaving (hearing vs va vr rejecting ks) ks) ≡ tally plain_of ks
plain_open MultipleFrameEstablished leaving vs va vr rejecting ks opened = refl
plain_open TimerRecovery leaving vs va vr rejecting ks opened = refl
plain_open state leaving vs va vr rejecting ks opened = cc

pub extra_open : (y : End) (ks : List Kind) → is_7_or_8 y.state ≡ true
    → extra y ks ≡ tally plain_of ks
extra_open y ks opened =
    plain_open y.state y.release_pending y.window.vs y.window.va y.window.vr y.window.rejecting ks
    opened

-- in states 4 and 6
plain_shut : (state : State) (leaving : Bool) (now : Reception) (ks : List Kind)
    → is_7_or_8 state ≡ false → (state ≡ AwaitingEstablishment → ⊥)
    → plain_in (received_in state leaving now ks) ≡ 0
plain_shut AwaitingEstablishment leaving now ks shut other = absurd (other refl)
plain_shut MultipleFrameEstablished leaving now ks shut other = cc
plain_shut TimerRecovery leaving now ks shut other = cc
plain_shut state leaving now ks shut other = refl

pub extra_shut : (y : End) (ks : List Kind) → is_7_or_8 y.state ≡ false
    → (y.state ≡ AwaitingEstablishment → ⊥) → extra y ks ≡ 0
extra_shut y ks shut other = plain_shut y.state y.release_pending _ ks shut other

-- one more frame that is no message and no UA
next_plain : (o : Option (List Kind)) (u : Kind) → plain_of u ≡ 0
    → plain_in (option_map next_reception (option_map (λ l. l ++ u ∷ []) o))
    ≡ plain_in (option_map next_reception o)
next_plain None u none = refl
next_plain (Some l) u none = let sum = tally_append plain_of l (u ∷ []) in omega (arith, sum, none)

plain_more : (state : State) (leaving : Bool) (vs va vr : ℕ) (rejecting : Bool) (ks : List Kind)
    (u : Kind) → is_acceptance u ≡ false → plain_of u ≡ 0
    → plain_in
    (received_in state leaving (hearing vs va vr rejecting (ks ++ u ∷ [])) (ks ++ u ∷ []))
    ≡ plain_in (received_in state leaving (hearing vs va vr rejecting ks) ks)
plain_more TeiAssigned leaving vs va vr rejecting ks u other none = refl
plain_more AwaitingEstablishment true vs va vr rejecting ks u other none = refl
plain_more AwaitingEstablishment false vs va vr rejecting ks u other none =
    ap (λ o. plain_in (option_map next_reception o))
    (behind_append ks (u ∷ []) (ap (λ b. behind b [] None) other))
    ∙ next_plain (behind_acceptance ks) u none
plain_more AwaitingRelease leaving vs va vr rejecting ks u other none = refl
plain_more MultipleFrameEstablished leaving vs va vr rejecting ks u other none =
    let sum = tally_append plain_of ks (u ∷ []) in omega (arith, sum, none)
plain_more TimerRecovery leaving vs va vr rejecting ks u other none =
    let sum = tally_append plain_of ks (u ∷ []) in omega (arith, sum, none)

pub extra_more : (y : End) (ks : List Kind) (u : Kind) → is_acceptance u ≡ false → plain_of u ≡ 0
    → extra y (ks ++ u ∷ []) ≡ extra y ks
extra_more y ks u other none =
    plain_more y.state y.release_pending y.window.vs y.window.va y.window.vr y.window.rejecting ks u
    other none

-- a UA that is the first
plain_first : (state : State) (leaving : Bool) (vs va vr : ℕ) (rejecting : Bool) (ks : List Kind)
    → is_7_or_8 state ≡ false → tally answer_of ks ≡ 0
    → plain_in (received_in state leaving (hearing vs va vr rejecting (ks ++ Accepts ∷ []))
    (ks ++ Accepts ∷ [])) ≡ 0
plain_first TeiAssigned leaving vs va vr rejecting ks closed none = refl
plain_first AwaitingEstablishment true vs va vr rejecting ks closed none = refl
plain_first AwaitingEstablishment false vs va vr rejecting ks closed none =
    ap (λ o. plain_in (option_map next_reception o)) (behind_first ks [] none)
plain_first AwaitingRelease leaving vs va vr rejecting ks closed none = refl
plain_first MultipleFrameEstablished leaving vs va vr rejecting ks closed none = cc
plain_first TimerRecovery leaving vs va vr rejecting ks closed none = cc

pub extra_first : (y : End) (ks : List Kind) → is_7_or_8 y.state ≡ false → tally answer_of ks ≡ 0
    → extra y (ks ++ Accepts ∷ []) ≡ 0
extra_first y ks closed none =
    plain_first y.state y.release_pending y.window.vs y.window.va y.window.vr y.window.rejecting ks
    closed none

-- a frame that is not the UA is passed over
plain_passed : (state : State) (leaving : Bool) (before now : Reception) (k : Kind) (ks : List Kind)
    → is_7_or_8 state ≡ false → (state ≡ AwaitingEstablishment → is_acceptance k ≡ false)
    → plain_in (received_in state leaving now ks)
    ≡ plain_in (received_in state leaving before (k ∷ ks))
plain_passed TeiAssigned leaving before now k ks closed other = refl
plain_passed AwaitingEstablishment true before now k ks closed other = refl
plain_passed AwaitingEstablishment false before now k ks closed other =
    ap (λ b. plain_in (option_map next_reception (behind b ks (behind_acceptance ks))))
    (sym (other refl))
plain_passed AwaitingRelease leaving before now k ks closed other = refl
plain_passed MultipleFrameEstablished leaving before now k ks closed other = cc
plain_passed TimerRecovery leaving before now k ks closed other = cc

pub extra_passed : (y : End) (k : Kind) (ks : List Kind) → is_7_or_8 y.state ≡ false
    → (y.state ≡ AwaitingEstablishment → is_acceptance k ≡ false) → extra y ks ≡ extra y (k ∷ ks)
extra_passed y k ks closed other = plain_passed y.state y.release_pending _ _ k ks closed other

-- ---- The moves that a side may still bring.

-- the messages that the peer has not accepted; if it is closed, those that are outstanding
abbrev pub missing_in : Bool → ℕ → ℕ → ℕ → ℕ → ℕ
missing_in true vs vr waiting unsent = vs - vr
missing_in false vs vr waiting unsent = waiting - unsent

abbrev pub missing : End → End → ℕ
missing x y = missing_in (is_7_or_8 y.state) x.window.vs y.window.vr (waiting x) (unsent x)

-- In states 7 and 8: an unsent message is sent, perhaps in vain, then sent again, and acknowledged;
-- one that is missing is sent again, and acknowledged; and one REJ may be sent. In state 5 with a
-- pending release: the DISC and its answer. A closed side's messages are answered.
abbrev pub load_in : State → Bool → ℕ → ℕ → ℕ → ℕ → ℕ
load_in TeiAssigned leaving unsent missing rej messages = messages
load_in AwaitingEstablishment true unsent missing rej messages = 2 + messages
load_in AwaitingEstablishment false unsent missing rej messages = 3 * unsent + 1 + messages
load_in AwaitingRelease leaving unsent missing rej messages = messages
load_in MultipleFrameEstablished leaving unsent missing rej messages =
    3 * unsent + 2 * missing + rej
load_in TimerRecovery leaving unsent missing rej messages = 3 * unsent + 3 * missing + rej

abbrev pub load : End → End → List Kind → ℕ
load x y out =
    load_in x.state x.release_pending (unsent x) (missing x y) (fresh y.window.rejecting)
    (extra y out)

-- in state 8 a missing message counts once more
abbrev pub once_more : State → ℕ → ℕ
once_more TimerRecovery missing = missing
once_more state missing = 0

pub load_open : (state : State) (leaving : Bool) (u m f e : ℕ) → is_7_or_8 state ≡ true
    → load_in state leaving u m f e ≡ 3 * u + 2 * m + f + once_more state m
load_open MultipleFrameEstablished leaving u m f e opened = omega arith
load_open TimerRecovery leaving u m f e opened = omega arith
load_open state leaving u m f e opened = cc

-- messages are sent in state 7 alone
pub once_more_few : (state : State) (m n j : ℕ) → n ≤ m + j
    → (j ≡ 0) ⊎ (state ≡ MultipleFrameEstablished) → once_more state n ≤ once_more state m
once_more_few TimerRecovery m n j le (inl none) = omega (arith, le, none)
once_more_few TimerRecovery m n j le (inr is) = cc
once_more_few state m n j le sent = omega arith

pub none_more : (state : State) (m : ℕ) → state ≡ MultipleFrameEstablished → once_more state m ≡ 0
none_more state m is = ap (λ st. once_more st m) is

-- it falls by r with the missing messages, and with those of a closed side
pub load_less : (state : State) (leaving : Bool) (u m f e n g d r : ℕ) → f ≤ 1
    → 2 * n + g + r ≤ 2 * m + f → d + r ≤ e
    → load_in state leaving u n g d + r ≤ load_in state leaving u m f e
load_less TeiAssigned leaving u m f e n g d r one opened closed = closed
load_less AwaitingEstablishment true u m f e n g d r one opened closed = omega (arith, closed)
load_less AwaitingEstablishment false u m f e n g d r one opened closed = omega (arith, closed)
load_less AwaitingRelease leaving u m f e n g d r one opened closed = closed
load_less MultipleFrameEstablished leaving u m f e n g d r one opened closed =
    omega (arith, opened, one)
load_less TimerRecovery leaving u m f e n g d r one opened closed = omega (arith, opened, one)

pub load_closed : (state : State) (leaving : Bool) (u m f e n g d : ℕ) → is_7_or_8 state ≡ false
    → d ≤ e → load_in state leaving u n g d + 0 ≤ load_in state leaving u m f e
load_closed AwaitingEstablishment true u m f e n g d shut le = omega (arith, le)
load_closed MultipleFrameEstablished leaving u m f e n g d shut le = cc
load_closed TimerRecovery leaving u m f e n g d shut le = cc
load_closed state leaving u m f e n g d shut le = omega (arith, le)

-- a closed side accounts for its messages
pub load_least : (state : State) (leaving : Bool) (u m f e : ℕ) → is_7_or_8 state ≡ false
    → e ≤ load_in state leaving u m f e
load_least AwaitingEstablishment true u m f e closed = omega arith
load_least MultipleFrameEstablished leaving u m f e closed = cc
load_least TimerRecovery leaving u m f e closed = cc
load_least state leaving u m f e closed = omega arith

pub fresh_few : (rejecting : Bool) → fresh rejecting ≤ 1
fresh_few true = omega arith
fresh_few false = omega arith

abbrev pub Share : End → End → List Kind → List Kind → ℕ → Type 0
Share x y out back n =
    (load x y out ≤ n) ⊎ (Proceeds x y out back × (3 * unsent x + missing x y ≤ n))

pub record Flowing (x y : End) (out back : List Kind) (n : ℕ) : Type 0 where
  pub a : ℕ
  pub b : ℕ
  pub mine : Share x y out back a
  pub its : Share y x back out b
  pub most : weigh out + weigh back + a + b ≤ n

pub flowing_turned : {x y : End} {out back : List Kind} {n : ℕ} → Flowing x y out back n
    → Flowing y x back out n
flowing_turned f = record {
  a = f.b;
  b = f.a;
  mine = f.its;
  its = f.mine;
  most = let le = f.most in omega (arith, le);
}

-- ---- A frame is delivered, and these are sent.

pub record Pays (x y : End) (out back : List Kind) (n : ℕ) : Type 0 where
  pub a : ℕ
  pub share : Share x y out back a
  pub most : a + 1 ≤ n

-- `relief`: what the peer need not account for any more
pub record Advances (before x y : End) (k : Kind) (ks out new : List Kind) : Type 0 where
  pub relief : ℕ
  pub mine : (n : ℕ) → Share before y out (k ∷ ks) n
      → Pays x y (out ++ new) ks (n + weight_of k + relief - weigh new)
  pub its_load : load y x ks + relief ≤ load y before (k ∷ ks)
  pub its : Proceeds y before (k ∷ ks) out
      → Proceeds y x ks (out ++ new) × (missing y x + relief ≤ missing y before)

pub record Flows (x y : End) (out back : List Kind) (n : ℕ) : Type 0 where
  pub some : 1 ≤ n
  pub flowing : Flowing x y out back (n - 1)

record Relieved (y x : End) (out back : List Kind) (relief n : ℕ) : Type 0 where
  some : relief ≤ n
  share : Share y x out back (n - relief)

pub flows_on : (before x y : End) (k : Kind) (ks out new : List Kind) (n : ℕ)
    → Advances before x y k ks out new → Flowing before y out (k ∷ ks) n
    → Flows x y (out ++ new) ks n
flows_on before x y k ks out new n step f =
    let paid = step.mine f.a f.mine in
    let relieved = still f.its in
    let sum = tally_append weight_of out new in
    let le = f.most in
    let paid_most = paid.most in
    let some = relieved.some in
    record {
      some = omega (arith, le, paid_most, sum, some);
      flowing = record {
        a = paid.a;
        b = f.b - step.relief;
        mine = paid.share;
        its = relieved.share;
        most = omega (arith, le, paid_most, sum, some);
      };
    }
  where
    still : Share y before (k ∷ ks) out f.b → Relieved y x ks (out ++ new) step.relief f.b
    still (inl enough) =
        let less = step.its_load in
        record { some = omega (arith, less, enough); share = inl (omega (arith, less, enough)) }
    still (inr p) =
        let now = step.its p.0 in
        let less = now.1 in
        let enough = p.1 in
        record {
          some = omega (arith, less, enough);
          share = inr (now.0, omega (arith, less, enough));
        }
