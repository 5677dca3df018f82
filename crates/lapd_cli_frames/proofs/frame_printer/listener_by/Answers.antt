use Rattle.std.proofs.Common.{◌≡◌, Option, Some, ap, subst, sym}
use Rattle.lapd_follow.specs.Listening.{Listening}
use Rattle.lapd_cli_frames.specs.Frames.{listening_by}
use Rattle.lapd_cli_frames.specs.declared.frame_printer.Follow.{Follow}
use Rattle.lapd_cli_frames.proofs.frame_printer.listener_by.Goals as goal

pub returns-in_ok-listener-in-Some : goal.returns-in_ok-listener-in-Some
returns-in_ok-listener-in-Some c =
    subst (λ (follow : Option Follow). Some c.in_ok-listener-in-Some.listener ≡ listening_by follow)
    (sym c.in-Some.is)
    (ap (λ (l : Listening). Some l) c.in_ok-listener-in-Some.ensures)
