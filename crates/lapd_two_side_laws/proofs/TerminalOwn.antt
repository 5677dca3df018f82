-- The effect of a terminal's step on its own TEI.
use Rattle.std.proofs.Common.{◌≡◌, inl, inr, ℕ, ◌+◌, ◌==◌, ◌&&◌, not, nat_lt, [], ◌∷◌, Bool, true, false, if◌then◌else◌, Option, Some, refl, arith}
use Rattle.std.proofs.lemmas.Bool.Decides.{nat_tests}
use Rattle.lapd_timers.specs.declared.timer.Timer.TheVariants.{T202}
use Rattle.lapd_tei.specs.declared.kind.TeiKind.{TeiKind}
use Rattle.lapd_tei.specs.declared.kind.TeiKind.TheVariants as kind
use Rattle.lapd_tei.specs.declared.out.TeiOut.TheVariants.{Send, Start, Stop, Got, Gone, Failed}
use Rattle.lapd_tei.specs.declared.phase.Phase.{Phase}
use Rattle.lapd_tei.specs.declared.phase.Phase.TheVariants.{Unassigned, Awaiting, Assigned}
use Rattle.lapd_tei.specs.declared.phase.Purpose.{Purpose}
use Rattle.lapd_tei.specs.declared.phase.Purpose.TheVariants.{Assignment, Establishment}
use Rattle.lapd_tei.specs.declared.terminal.TerminalEvent.{TerminalEvent}
use Rattle.lapd_tei.specs.declared.terminal.TerminalEvent.TheVariants as event
use Rattle.lapd_tei.specs.Terminal.{TerminalStep, n202, is_automatic, names, is_got_by, moves_to, asks, asks_again, awaiting_receives, assigned_receives, terminal_step}
use Rattle.lapd_tei.specs.Out.{request, tei_given}
use Rattle.lapd_two_side_laws.proofs.Managed.{some_same}
use Rattle.lapd_two_side_laws.proofs.OwnTeis.{LeavesOwn}

abbrev pub Owns : Phase → ℕ → Type 0
Owns (Assigned by own) n = own ≡ n
Owns Unassigned n = ⊥
Owns (Awaiting purpose count ri) n = ⊥

abbrev Leaves : Phase → TerminalStep → Type 0
Leaves phase done = LeavesOwn (Owns phase) (Owns done.now) done.outs

-- a terminal that has no TEI before the step
without : (done : TerminalStep) → ((t : ℕ) → tei_given done.outs ≡ Some t → Owns done.now t)
    → LeavesOwn (λ n. ⊥) (Owns done.now) done.outs
without done given =
    record { given = given; stays = λ n none. absurd none; quiet = λ n none. absurd none }

still : (phase : Phase) → Leaves phase (moves_to phase [])
still phase = record { given = λ t is. cc; stays = λ n own. inr own; quiet = λ n own. refl }

now_absent : (by : Option ℕ) (tei : ℕ)
    → Leaves (Assigned by tei) (moves_to Unassigned (Gone tei ∷ []))
now_absent by tei = record {
  given = λ t is. cc;
  stays = λ n
      own. inl (grind (arith, nat_tests, own));
  quiet = λ n own. refl;
}

either : (phase : Phase) (test : Bool) (x y : TerminalStep) → Leaves phase x → Leaves phase y
    → Leaves phase (if test then x else y)
either phase true x y hx hy = hx
either phase false x y hx hy = hy

again : (purpose : Purpose) (count ri new : ℕ)
    → Leaves (Awaiting purpose count ri) (asks_again purpose count ri new)
again purpose count ri new = either (Awaiting purpose count ri) (nat_lt count n202) _ _
    (without (moves_to (Awaiting purpose (count + 1) new) (Send (request new) ∷ Start T202 ∷ []))
    (λ t is. cc)) (without (moves_to Unassigned (Failed ∷ [])) (λ t is. cc))

awaiting : (purpose : Purpose) (count ri : ℕ) (k : TeiKind) (its ai : ℕ)
    → Leaves (Awaiting purpose count ri) (awaiting_receives purpose count ri k its ai)
awaiting purpose count ri kind.Assigned its ai =
    either (Awaiting purpose count ri) ((its == ri) && is_automatic ai) _ _
    (without (moves_to (Assigned (Some ri) ai) (Stop T202 ∷ Got ai ∷ []))
    (λ t is. some_same ai t is)) (still (Awaiting purpose count ri))
awaiting purpose count ri other its ai = still (Awaiting purpose count ri)

assigned : (by : Option ℕ) (tei : ℕ) (k : TeiKind) (its ai new : ℕ)
    → Leaves (Assigned by tei) (assigned_receives by tei k its ai new)
assigned by tei kind.Assigned its ai new =
    either (Assigned by tei) ((ai == tei) && not (is_got_by by its)) _ _ (now_absent by tei)
    (still (Assigned by tei))
assigned by tei kind.CheckRequest its ai new =
    either (Assigned by tei) (names ai tei) _ _
    (record { given = λ t is. cc; stays = λ n own. inr own; quiet = λ n own. refl })
    (still (Assigned by tei))
assigned by tei kind.Remove its ai new =
    either (Assigned by tei) (names ai tei) _ _ (now_absent by tei) (still (Assigned by tei))
assigned by tei other its ai new = still (Assigned by tei)

pub terminal_leaves : (phase : Phase) (e : TerminalEvent) → Leaves phase (terminal_step phase e)
terminal_leaves Unassigned (event.Ask ri) = without (asks Assignment ri) (λ t is. cc)
terminal_leaves Unassigned (event.Want ri) = without (asks Establishment ri) (λ t is. cc)
terminal_leaves Unassigned (event.Heard m new) = still Unassigned
terminal_leaves Unassigned (event.T202 new) = still Unassigned
terminal_leaves Unassigned event.Leave = still Unassigned
terminal_leaves (Awaiting purpose count ri) (event.Ask new) = still (Awaiting purpose count ri)
terminal_leaves (Awaiting purpose count ri) (event.Want new) =
    without (moves_to (Awaiting Establishment count ri) []) (λ t is. cc)
terminal_leaves (Awaiting purpose count ri) (event.Heard m new) =
    awaiting purpose count ri m.kind m.ri m.ai
terminal_leaves (Awaiting purpose count ri) (event.T202 new) = again purpose count ri new
terminal_leaves (Awaiting purpose count ri) event.Leave =
    without (moves_to Unassigned (Stop T202 ∷ [])) (λ t is. cc)
terminal_leaves (Assigned by tei) (event.Ask new) = still (Assigned by tei)
terminal_leaves (Assigned by tei) (event.Want new) = still (Assigned by tei)
terminal_leaves (Assigned by tei) (event.Heard m new) = assigned by tei m.kind m.ri m.ai new
terminal_leaves (Assigned by tei) (event.T202 new) = still (Assigned by tei)
terminal_leaves (Assigned by tei) event.Leave = now_absent by tei
