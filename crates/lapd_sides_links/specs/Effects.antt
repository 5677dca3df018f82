-- The effects of an event on a side, made from the outputs of a step of a link or of TEI
-- management: the frames to send, as octets, the primitives for the layers above, and the running
-- timers with their deadlines (Q.921 4.1, 5.9).
use Rattle.std.specs.Prelude.{◌≡◌, ℕ, ◌≤◌, Bool, true, false, List, [], ◌∷◌, ◌++◌, length, map, drop, Option, Some, None, option_map}
use Rattle.std.specs.List.{filter_map}
use Rattle.lapd_timers.specs.declared.timer.Timer.{Timer}
use Rattle.lapd_timers.specs.Due.{Timers, with_deadline, deadline_from}
use Rattle.lapd_timers.specs.Durations.{length_of}
use Rattle.lapd_frame.specs.declared.Side.{Side}
use Rattle.lapd_frame.specs.Frame.{spelling}
use Rattle.lapd_link_definition.specs.declared.out.Out.{Out}
use Rattle.lapd_link_definition.specs.declared.out.Out.TheVariants as out
use Rattle.lapd_link_definition.specs.End.{End}
use Rattle.lapd_link.specs.Link.{Setup}
use Rattle.lapd_link.specs.SentFrame.{sent_frame}
use Rattle.lapd_tei.specs.declared.out.TeiOut.{TeiOut}
use Rattle.lapd_tei.specs.declared.out.TeiOut.TheVariants as tei
use Rattle.lapd_tei.specs.Message.{frame_of_message}
use Rattle.lapd_table.specs.declared.link_id.LinkId.{LinkId}
use Rattle.lapd_table.specs.LinkId.{setup_for}
use Rattle.lapd_sides_links.specs.declared.primitive.Primitive.{Primitive}
use Rattle.lapd_sides_links.specs.declared.primitive.Primitive.TheVariants.{Of, Management}
use Rattle.lapd_sides_links.specs.declared.primitive.What.{What}
use Rattle.lapd_sides_links.specs.declared.primitive.What.TheVariants as what

-- the octets of the frames to send, and the primitives for the layers above, each in order
pub record Effects : Type 0 where
  pub frames : List (List ℕ)
  pub primitives : List Primitive

-- a frame has at least two octets of address and one of control field (Q.921 2.2)
abbrev pub HasLeastOctets : List ℕ → Type 0
HasLeastOctets octets = 3 ≤ length octets

abbrev pub no_effects : Effects
no_effects = record { frames = []; primitives = [] }

-- the effects of one step, followed by those of another
abbrev pub and_then : Effects → Effects → Effects
and_then first second = record {
  frames = first.frames ++ second.frames;
  primitives = first.primitives ++ second.primitives;
}

-- effects are appended to the earlier ones
abbrev pub Appends : Effects → Effects → Type 0
Appends before after = (given : Effects) × (after ≡ and_then before given)

-- the effects of a call are appended to the earlier ones, and this holds of the call with them
pub record Adds (before after : Effects) (Does : Effects → Type 0) : Type 0 where
  pub given : Effects
  pub appended : after ≡ and_then before given
  pub does : Does given

-- ---- The timers.

-- starts a timer, or restarts it, or stops it
abbrev pub started : ℕ → Timer → Timers → Timers
started now timer s = with_deadline timer (Some (deadline_from now (length_of timer s.durations))) s

abbrev pub stopped : Timer → Timers → Timers
stopped timer s = with_deadline timer None s

-- ---- The outputs of a link.

-- The primitive of an output for layer 3 or management; `octets` are the information of the
-- received frame.
abbrev pub what_of : List ℕ → Out → Option What
what_of octets out.Up = Some (what.Up octets)
what_of octets out.UnitUp = Some (what.UnitUp octets)
what_of octets out.Established = Some what.Established
what_of octets out.Confirmed = Some what.Confirmed
what_of octets out.Released = Some what.Released
what_of octets out.ReleaseConfirm = Some what.ReleaseConfirm
what_of octets (out.Acknowledged n) = Some (what.Acknowledged n)
what_of octets (out.Dropped n) = Some (what.Dropped n)
what_of octets (out.Report letter) = Some (what.Report letter)
what_of octets other = None

-- The octets of the frame that an output sends, after a step that ended in `e`; `None` if it sends
-- none. `octets` are the unit data to send.
abbrev pub sent_by : Setup → End → List ℕ → Out → Option (List ℕ)
sent_by setup e octets output = option_map (spelling setup.side)
    (sent_frame setup (drop e.first e.given) octets output)

-- the effects of all outputs of a step, in order
abbrev pub effects_of_link : Side → LinkId → End → List ℕ → List Out → Effects
effects_of_link side id e octets outs = record {
  frames = filter_map (sent_by (setup_for side id) e octets) outs;
  primitives = map (Of id) (filter_map (what_of octets) outs);
}

-- applies the timer starts and stops of the outputs, in order
abbrev pub timed_by : ℕ → Out → Timers → Timers
timed_by now (out.Start timer) s = started now timer s
timed_by now (out.Stop timer) s = stopped timer s
timed_by now other s = s

abbrev pub timed : ℕ → List Out → Timers → Timers
timed now [] s = s
timed now (output ∷ outs) s = timed now outs (timed_by now output s)

-- ---- The outputs of TEI management.

-- the octets of the message that an output sends (Q.921 5.3.6.1)
abbrev pub message_sent : Side → TeiOut → Option (List ℕ)
message_sent side (tei.Send message) = Some (spelling side (frame_of_message message))
message_sent side other = None

-- the primitive of an outcome: neither a message nor a timer
abbrev pub outcome_of : TeiOut → Option Primitive
outcome_of (tei.Send message) = None
outcome_of (tei.Start timer) = None
outcome_of (tei.Stop timer) = None
outcome_of outcome = Some (Management outcome)

abbrev pub effects_of_management : Side → List TeiOut → Effects
effects_of_management side outs = record {
  frames = filter_map (message_sent side) outs;
  primitives = filter_map outcome_of outs;
}

abbrev pub managed_by : ℕ → TeiOut → Timers → Timers
managed_by now (tei.Start timer) s = started now timer s
managed_by now (tei.Stop timer) s = stopped timer s
managed_by now other s = s

abbrev pub managed : ℕ → List TeiOut → Timers → Timers
managed now [] s = s
managed now (output ∷ outs) s = managed now outs (managed_by now output s)

-- A timer is started, and another one stopped first if so.
abbrev pub restart_outs : Bool → Timer → Timer → List Out
restart_outs true stop start = out.Stop stop ∷ out.Start start ∷ []
restart_outs false stop start = out.Start start ∷ []
