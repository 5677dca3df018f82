-- If no octets of an exchange of a link are in transit, then no frame of one is in transit in the
-- world of the link's two ends.
use Rattle.std.proofs.Common.{◌≡◌, ℕ, Bool, true, false, List, [], ◌∷◌, refl, sym, ap, ◌∙◌, arith}
use Rattle.std.specs.Prelude.{◌||◌}
use Rattle.std.specs.List.{list_any}
use Rattle.lapd_frame.specs.declared.Role.{Role}
use Rattle.lapd_frame.specs.declared.Role.TheVariants.{Command, Answer}
use Rattle.lapd_frame.specs.declared.Side.{Side}
use Rattle.lapd_frame.specs.declared.Control.{Control}
use Rattle.lapd_frame.specs.declared.Control.TheVariants.{Rr, Rnr, Rej, Sabme, Dm, Disc, Ua}
use Rattle.lapd_frame.specs.Address.{other_side}
use Rattle.lapd_frame.specs.Reading.{frame_at}
use Rattle.lapd_pair_laws.specs.Consistent.{AreProper}
use Rattle.lapd_pair_laws.specs.Kinds.{Kind, kind, kind_of, kinds, tally, ask_of, answer_of}
use Rattle.lapd_pair_laws.specs.Line.{Flight}
use Rattle.lapd_pair_laws.specs.Move.{View}
use Rattle.lapd_recovery_laws.specs.QuickRestart.{exchange_in}
use Rattle.lapd_table.specs.declared.link_id.LinkId.{LinkId}
use Rattle.lapd_two_side_laws.specs.Addressed.{is_for, those_for, all_spelled}
use Rattle.lapd_side_events.specs.SideView.{Behaviour, SideView}
use Rattle.lapd_two_side_laws.specs.Projects.{Projects}
use Rattle.lapd_two_side_laws.proofs.Lines.{any_among, any_read}
use Rattle.lapd_restart_laws.specs.Exchanges.{is_command, is_answer, reads_as, is_of_kind_for, HasNoExchange}

-- ---- One frame.

asks_none : (role : Role) (control : Control) (info : List ℕ) (place : ℕ)
    → is_command control ≡ false → ask_of (kind_of role control info place) ≡ 0
asks_none Command (Sabme p) info place unlike = cc
asks_none Command (Disc p) info place unlike = cc
asks_none Answer (Sabme p) info place unlike = cc
asks_none Answer (Disc p) info place unlike = cc
asks_none Command (Rr nr true) info place unlike = refl
asks_none Command (Rnr nr true) info place unlike = refl
asks_none Answer (Rr nr true) info place unlike = refl
asks_none Answer (Rnr nr true) info place unlike = refl
asks_none Answer (Rej nr true) info place unlike = refl
asks_none Answer (Dm true) info place unlike = refl
asks_none Answer (Ua true) info place unlike = refl
asks_none role control info place unlike = refl

answers_none : (role : Role) (control : Control) (info : List ℕ) (place : ℕ)
    → is_answer control ≡ false → answer_of (kind_of role control info place) ≡ 0
answers_none Command (Dm f) info place unlike = cc
answers_none Command (Ua f) info place unlike = cc
answers_none Answer (Dm f) info place unlike = cc
answers_none Answer (Ua f) info place unlike = cc
answers_none Command (Rr nr true) info place unlike = refl
answers_none Command (Rnr nr true) info place unlike = refl
answers_none Command (Sabme true) info place unlike = refl
answers_none Command (Disc true) info place unlike = refl
answers_none Answer (Rr nr true) info place unlike = refl
answers_none Answer (Rnr nr true) info place unlike = refl
answers_none Answer (Rej nr true) info place unlike = refl
answers_none role control info place unlike = refl

-- ---- All frames.

first_of_any : (a b : Bool) → (a || b) ≡ false → (a ≡ false) × (b ≡ false)
first_of_any true b h = cc
first_of_any false b h = (refl, h)

tally_none : (test : Control → Bool) (f : Kind → ℕ)
    → ((role : Role) (control : Control) (info : List ℕ) (place : ℕ) → test control ≡ false
    → f (kind_of role control info place) ≡ 0)
    → (frames : List Flight) → list_any (λ (frame : Flight). test frame.control) frames ≡ false
    → tally f (kinds frames) ≡ 0
tally_none test f none [] h = refl
tally_none test f none (frame ∷ rest) h =
    let two =
    first_of_any (test frame.control)
    (list_any (λ (frame : Flight). test frame.control) rest) h in
    let one : f (kind frame) ≡ 0 = none frame.role frame.control frame.info frame.place two.0 in
    let more : tally f (kinds rest) ≡ 0 = tally_none test f none rest two.1 in
    omega (arith, one, more)

-- if no octets of the link are read as such a frame, no frame is one
none_read : (test : Control → Bool) (from : Side) (id : LinkId) (line : List (List ℕ))
    (frames : List Flight) → AreProper frames → those_for from id line ≡ all_spelled from id frames
    → list_any (is_of_kind_for test from id) line ≡ false
    → list_any (λ (frame : Flight). test frame.control) frames ≡ false
none_read test from id line frames proper on none =
    sym (any_read from id (reads_as test) (λ frame. test frame.control) (λ frame. refl) frames
    proper)
    ∙ ap (list_any (λ octets. reads_as test (frame_at from octets))) (sym on)
    ∙ any_among (is_for from id) (λ octets. reads_as test (frame_at from octets)) line ∙ none

pub no_exchange : (S : Type 0) (w : Behaviour S) (side : Side) (id : LinkId) (v : SideView S)
    (view : View) → Projects w side id v view → AreProper view.outgoing → AreProper view.incoming
    → HasNoExchange side id v → exchange_in view ≡ 0
no_exchange S w side id v view p sent arriving none =
    let asks =
    tally_none is_command ask_of asks_none view.outgoing
    (none_read is_command side id v.outgoing view.outgoing sent p.outgoing none.0) in
    let answers =
    tally_none is_answer answer_of answers_none view.incoming
    (none_read is_answer (other_side side) id v.incoming view.incoming arriving p.incoming
    none.1) in
    omega (arith, asks, answers)
