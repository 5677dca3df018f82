-- The answers that a session has printed, and those that it will print.
use Rattle.std.specs.Prelude.{◌≡◌, ℕ, if◌then◌else◌, List, [], ◌++◌, Option, Some, None, IfSome}
use Rattle.lapd_cli_console.specs.declared.session.Session.{Session}
use Rattle.lapd_cli_console.specs.Answers.{Answer, answers_to}
use Rattle.lapd_cli_console.specs.Typed.{Typing, typing_of}

-- the answers that are printed if these octets are typed next
abbrev pub answers_next : Typing → List ℕ → List Answer
answers_next t octets = if t.is_ended then [] else answers_to t.script (t.typed ++ octets)

-- all answers: those so far, and those to the octets that the reader has left
abbrev pub all_answers_of : Option (List Answer) → Typing → Option (List ℕ) → Option (List Answer)
all_answers_of (Some given) t (Some octets) = Some (given ++ answers_next t octets)
all_answers_of (Some given) t None = None
all_answers_of None t left = None

abbrev pub all_answers : {R A : Type 0} → (R → Option (List ℕ)) → (A → Option (List Answer))
    → Session R A → Option (List Answer)
all_answers remaining answered session =
    all_answers_of (answered session.answers) (typing_of session) (remaining session.reader)

-- known answers stay the same
abbrev pub KeepsAnswers : Option (List Answer) → Option (List Answer) → Type 0
KeepsAnswers old new = IfSome old (λ answers. new ≡ Some answers)
