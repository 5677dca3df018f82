-- The text of a frame whose sender is not known, or whose SAPI is not served, in each style. It has
-- no message: S and XID frames have none, nor has another SAPI.
use Rattle.std.specs.Prelude.{ℕ, Bool, List, Option, Result}
use Rattle.lapd_frame.specs.declared.Side.{Side}
use Rattle.lapd_frame.specs.declared.FrameFault.{FrameFault}
use Rattle.lapd_frame.specs.Frame.{Fields}
use Rattle.lapd_cli_render.specs.declared.Packet.{Packet}
use Rattle.lapd_cli_frames.specs.declared.style.Style.{Style}
use Rattle.lapd_cli_frames.specs.declared.style.Style.TheVariants.{Plain, Named, Brief, Json, NamedJson}
use Rattle.lapd_cli_frames.specs.Shown.{brief_line, shown_line}
use Rattle.lapd_cli_frames.specs.ShownObject.{shown_object}
use Rattle.lapd_cli_frames.specs.Style.{marked}

abbrev pub shown_text : Style → Bool → Option Packet → Option Side → List ℕ
    → Result Fields FrameFault → List ℕ
shown_text Plain is_cut packet from octets reading = marked is_cut (shown_line from octets reading)
shown_text Named is_cut packet from octets reading = marked is_cut (shown_line from octets reading)
shown_text Brief is_cut packet from octets reading = marked is_cut (brief_line from octets reading)
shown_text Json is_cut packet from octets reading =
    shown_object is_cut packet from octets reading
shown_text NamedJson is_cut packet from octets reading =
    shown_object is_cut packet from octets reading
