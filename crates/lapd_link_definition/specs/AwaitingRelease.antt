-- State 6, awaiting release (Q.921 Figure B.6).
use Rattle.std.specs.Prelude.{nat_lt, if◌then◌else◌, true, false}
use Rattle.lapd_frame.specs.declared.Role.TheVariants.{Command, Answer}
use Rattle.lapd_frame.specs.declared.Control.TheVariants.{Sabme, Dm, Disc, Ua}
use Rattle.lapd_timers.specs.declared.timer.Timer.TheVariants.{T200}
use Rattle.lapd_link_definition.specs.declared.state.State.TheVariants.{TeiAssigned}
use Rattle.lapd_link_definition.specs.declared.out.Letter.TheVariants as letter
use Rattle.lapd_link_definition.specs.declared.out.Out.TheVariants.{Send, ReleaseConfirm, Report}
use Rattle.lapd_link_definition.specs.Input.{Input, Heard, Expiry}
use Rattle.lapd_link_definition.specs.End.{StepState, ◌▷◌}
use Rattle.lapd_link_definition.specs.Procedures.{put, state_to, increment_rc, start, stop, expired}

-- the DISC is answered
unfoldable pub confirm_release : StepState → StepState
confirm_release s = s ▷ stop T200 ▷ put ReleaseConfirm ▷ state_to TeiAssigned

-- T200 expires: the DISC is retransmitted, N200 times at most (5.5.3.3)
unfoldable pub awaiting_release_t200 : StepState → StepState
awaiting_release_t200 s =
    if nat_lt s.end.rc s.end.parameters.n200
    then s ▷ increment_rc ▷ expired T200 ▷ put (Send Command (Disc true)) ▷ start T200
    else s ▷ expired T200 ▷ put (Report letter.H) ▷ put ReleaseConfirm ▷ state_to TeiAssigned

unfoldable pub awaiting_release : Input → StepState → StepState
awaiting_release (Heard (Sabme p) Command) s = s ▷ put (Send Answer (Dm p))
awaiting_release (Heard (Disc p) Command) s = s ▷ put (Send Answer (Ua p))
awaiting_release (Heard (Ua true) Answer) s = s ▷ confirm_release
awaiting_release (Heard (Dm true) Answer) s = s ▷ confirm_release
awaiting_release (Heard (Ua false) Answer) s = s ▷ put (Report letter.D)
awaiting_release (Expiry T200) s = s ▷ awaiting_release_t200
awaiting_release input s = s
