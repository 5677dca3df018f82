-- The meaning of the command line's words.
use Rattle.std.specs.Prelude.{◌≡◌, Bool, true, false, None, Some, []}
use Rattle.lapd_frame.specs.declared.Side.TheVariants.{Network}
use Rattle.lapd_frame.specs.declared.Sapi.TheVariants.{Call}
use Rattle.lapd_link_definition.specs.declared.recovery.Recovery.TheVariants.{Enquiry}
use Rattle.lapd_link_definition.specs.Parameters.{Parameters}
use Rattle.lapd_cli_values.specs.declared.link_end.LinkEnd.{LinkEnd}
use Rattle.lapd_cli_options.specs.declared.invocation.Invocation.{Invocation}
use Rattle.lapd_cli_options.specs.declared.invocation.Chosen.{Chosen}
use Rattle.lapd_cli_options.specs.declared.invocation.Chosen.TheVariants as choice
use Rattle.lapd_cli_options.specs.declared.invocation.Clock.{Clock}
use Rattle.lapd_cli_options.specs.declared.invocation.Clock.TheVariants.{Script, Real}
use Rattle.lapd_cli_options.specs.declared.invocation.LiveOptions.{LiveOptions}
use Rattle.lapd_cli_options.specs.declared.invocation.DecodeOptions.{DecodeOptions}
use Rattle.lapd_cli_options.specs.declared.invocation.PrintedLayout.{PrintedLayout}
use Rattle.lapd_cli_options.specs.declared.invocation.PrintedLayout.TheVariants.{Lines, Ladder, Picture, Page, Capture, Calls}
use Rattle.lapd_cli_options.specs.declared.invocation.PrintedTime.{PrintedTime}
use Rattle.lapd_cli_options.specs.declared.invocation.PrintedTime.TheVariants.{Hidden, Absolute, Relative, Delta, Day, Utc, Local}
use Rattle.lapd_cli_options.specs.declared.invocation.Job.{Job}
use Rattle.lapd_cli_options.specs.declared.invocation.Job.TheVariants.{Answer}

-- at basic access for call control: a window of 1, N200 = 3, and an I queue of 512 messages
abbrev pub default_parameters : Parameters
default_parameters = record { k = 1; n200 = 3; room = 512; recovery = Enquiry }

-- without words: the network side of the link with SAPI 0 and TEI 64
pub record IsDefaultEnd (end : LinkEnd) : Type 0 where
  pub side : end.side ≡ Network
  pub sapi : end.sapi ≡ Call
  pub tei : end.tei ≡ 64
  pub params : end.params ≡ default_parameters

abbrev pub IsDefaultJob : Job → Type 0
IsDefaultJob (Answer end) = IsDefaultEnd end
IsDefaultJob job = ⊥

pub record IsDefault (chosen : Invocation) : Type 0 where
  pub job : IsDefaultJob chosen.job
  pub address : chosen.address ≡ None
  pub files : chosen.files.items ≡ []
  pub pcap : chosen.pcap ≡ None
  pub clock : chosen.clock ≡ Script
  pub json : chosen.json ≡ false
  pub strict : chosen.strict ≡ false

-- a script of this command is executed
abbrev pub IsDefaultChoice : Chosen → Type 0
IsDefaultChoice (choice.Script chosen) = IsDefault chosen
IsDefaultChoice other = ⊥

-- ---- `net` and `user` at a terminal.

-- no option of the real clock is present
abbrev pub usual_options : LiveOptions
usual_options = record {
  time = false;
  quiet = false;
  serve = false;
  keep = false;
  clear = false;
  terminals = 1;
  idle_limit = None;
  audit = Some 60000;
  ties = true;
  pcap = None;
  ladder = None;
  gsmtap = None;
}

-- the clock, if no clock is named or one is
abbrev pub terminal_clock : Bool → Clock → Clock
terminal_clock true clock = Real usual_options
terminal_clock false clock = clock

abbrev pub typed_invocation : Invocation → Invocation
typed_invocation chosen = record chosen { clock = terminal_clock chosen.is_clock_open chosen.clock }

-- ---- The times of `decode`.

-- the time of each frame in a drawing of a capture, if this one is requested
abbrev pub drawn_time : PrintedTime → PrintedTime
drawn_time Hidden = Relative
drawn_time Absolute = Absolute
drawn_time Relative = Relative
drawn_time Delta = Delta
drawn_time Day = Day
drawn_time Utc = Utc
drawn_time Local = Local

-- the time of each frame of a capture, in this layout
abbrev pub time_by : PrintedLayout → PrintedTime → PrintedTime
time_by Lines time = time
time_by Ladder time = drawn_time time
time_by Picture time = drawn_time time
time_by Page time = drawn_time time
time_by Capture time = drawn_time time
time_by Calls time = drawn_time time

abbrev pub time_in_capture : DecodeOptions → PrintedTime
time_in_capture options = time_by options.layout options.time
