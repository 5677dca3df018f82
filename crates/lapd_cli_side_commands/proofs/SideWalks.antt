-- How a side's script ends.
use Rattle.std.proofs.Common.{◌≡◌, ℕ, List, Option, Some, None, Result, Ok, Err, IfSome, OnOk, refl, sym, ap, subst, ◌∙◌}
use Rattle.std.specs.Prelude.{⊤}
use Rattle.lapd_cli_script.specs.Script.{EndsAs, bad_line, lines_of, state_after}
use Rattle.lapd_cli_script.specs.declared.script.ScriptFault.{ScriptFault}
use Rattle.lapd_cli_script.specs.declared.script.ScriptFault.TheVariants.{BadLine, Device, Memory, Port}
use Rattle.lapd_frame.specs.declared.Side.TheVariants.{Network, User}
use Rattle.lapd_sides_links.specs.declared.config.Config.{Config}
use Rattle.lapd_sides.specs.declared.either_side.EitherSide.{EitherSide}
use Rattle.lapd_sides.specs.declared.either_side.EitherSide.TheVariants as either
use Rattle.lapd_sides.specs.ShowsNetwork.{NetSide}
use Rattle.lapd_sides.specs.ShowsUser.{UserSide}
use Rattle.lapd_sides.specs.Network.{new_network}
use Rattle.lapd_sides.specs.User.{new_user, seeded}
use Rattle.lapd_sides.specs.ShowsNetwork.{ShowNetwork}
use Rattle.lapd_sides.specs.ShowsUser.{ShowUser}
use Rattle.lapd_sides.specs.Either.{side_of}
use Rattle.lapd_cli_side_commands.specs.Served.{AtWork, Devices, HasReached, HasServed, LinesDo, NetHasServed, Progress, UserHasServed, at_work, devices, new_progress, side_step, requests_of}
use Rattle.lapd_cli_side_commands.specs.Clocks.{Clocked, SideEndsAs, clock_step, new_clock}
use Rattle.lapd_cli_side_lines.specs.LineRequests.{LineRequest}
use Rattle.lapd_cli_side_lines.specs.declared.line_style.LineStyle.{LineStyle}
use Rattle.lapd_cli_side_commands.proofs.Serving.{styles_preserved}
use Rattle.lapd_cli_side_commands.proofs.SideProgress.{progress_after, same_from}

-- how the run of a script ends
ended_so : (s : Progress) (result : Result ⊤ ScriptFault) (lines : List (List ℕ))
    (a b : Option (List ℕ)) → s.clock ≡ new_clock s.clock.side
    → EndsAs side_step s result lines a b → SideEndsAs s.clock.side result lines
ended_so s (Ok done) lines a b new q =
    ap (λ (clock : Clocked). bad_line clock_step clock lines) (sym new) ∙ sym (same_from 1 s lines)
    ∙ q.0
ended_so s (Err (BadLine number)) lines a b new q =
    ap (λ (clock : Clocked). bad_line clock_step clock lines) (sym new) ∙ sym (same_from 1 s lines)
    ∙ q.0
ended_so s (Err Device) lines a b new q = tt
ended_so s (Err Memory) lines a b new q = tt
ended_so s (Err (Port fault)) lines a b new q = tt

pub ended : (side : EitherSide) (before : Devices) (known : Option (List ℕ))
    (result : Result ⊤ ScriptFault) (a b : Option (List ℕ))
    → IfSome known
    (λ octets. EndsAs side_step (new_progress side before) result (lines_of octets) a b)
    → IfSome known (λ octets. SideEndsAs (side_of side) result (lines_of octets))
ended side before None result a b q = tt
ended side before (Some octets) result a b q =
    ended_so (new_progress side before) result (lines_of octets) a b refl q

-- and what the side has done by then
served_so : (side : EitherSide) (before : Devices) (preserved : LineStyle)
    (rest written printed : Option (List ℕ)) (now : ℕ) (after : EitherSide)
    (result : Result ⊤ ScriptFault) (lines : List (List ℕ)) (a b : Option (List ℕ))
    → EndsAs side_step (new_progress side before) result lines a b
    → OnOk result (HasReached (state_after side_step (new_progress side before) lines)
    (at_work after now (devices preserved rest written printed)))
    → OnOk result (HasServed side (requests_of (side_of side) lines) before
    (devices before.style rest written printed))
served_so side before preserved rest written printed now after (Ok done) lines a b q come =
    let s : Progress = new_progress side before in
    let is = progress_after 1 s lines (sym (same_from 1 s lines) ∙ q.0) in
    let end : AtWork = at_work after now (devices preserved rest written printed) in
    let did : LinesDo (requests_of (side_of side) lines) (at_work side 0 before) end =
    subst (λ (line_requests : List LineRequest). LinesDo line_requests (at_work side 0 before) end)
    is.line_requests
    (subst (λ (begun : AtWork). LinesDo (state_after side_step s lines).line_requests begun end)
    is.begun come.did) in
    record {
      ended = after;
      moment = now;
      did =
          subst (λ (style : LineStyle). LinesDo (requests_of (side_of side) lines)
          (at_work side 0 before) (at_work after now (devices style rest written printed)))
          (styles_preserved (requests_of (side_of side) lines) (at_work side 0 before) end did) did;
    }
served_so side before preserved rest written printed now after (Err fault) lines a b q come = tt

pub served : (side : EitherSide) (before : Devices) (preserved : LineStyle)
    (rest written printed : Option (List ℕ)) (now : ℕ) (after : EitherSide)
    (known : Option (List ℕ)) (result : Result ⊤ ScriptFault) (a b : Option (List ℕ))
    → IfSome known
    (λ octets. EndsAs side_step (new_progress side before) result (lines_of octets) a b)
    → IfSome known (λ octets. OnOk result
    (HasReached (state_after side_step (new_progress side before) (lines_of octets))
    (at_work after now (devices preserved rest written printed))))
    → IfSome known (λ octets. OnOk result
    (HasServed side (requests_of (side_of side) (lines_of octets)) before
    (devices before.style rest written printed)))
served side before preserved rest written printed now after None result a b q come = tt
served side before preserved rest written printed now after (Some octets) result a b q come =
    served_so side before preserved rest written printed now after result (lines_of octets) a b q
    come

-- ---- The commands.

pub net_served : (side : NetSide) (config : Config) (teis : List ℕ) (known : Option (List ℕ))
    (result : Result ⊤ ScriptFault) (before behind : Devices)
    → ShowNetwork side config (new_network config teis)
    → IfSome known (λ octets. OnOk result
    (HasServed (either.Network side) (requests_of Network (lines_of octets)) before behind))
    → IfSome known (λ octets. OnOk result
    (NetHasServed config teis (requests_of Network (lines_of octets)) before behind))
net_served side config teis None result before behind new served = tt
net_served side config teis (Some octets) (Ok done) before behind new served =
    record { began = side; new = new; served = served }
net_served side config teis (Some octets) (Err fault) before behind new served = tt

pub user_served : (side : UserSide) (config : Config) (fixed : Option ℕ) (known : Option (List ℕ))
    (result : Result ⊤ ScriptFault) (before behind : Devices)
    → ShowUser side config (new_user config fixed (seeded config.seed))
    → IfSome known (λ octets. OnOk result
    (HasServed (either.User side) (requests_of User (lines_of octets)) before behind))
    → IfSome known (λ octets. OnOk result
    (UserHasServed config fixed (requests_of User (lines_of octets)) before behind))
user_served side config fixed None result before behind new served = tt
user_served side config fixed (Some octets) (Ok done) before behind new served =
    record { began = side; new = new; served = served }
user_served side config fixed (Some octets) (Err fault) before behind new served = tt

-- a fault without a line number says nothing about the script
pub unsaid : (known : Option (List ℕ)) → IfSome known (λ octets. ⊤)
unsaid None = tt
unsaid (Some octets) = tt
