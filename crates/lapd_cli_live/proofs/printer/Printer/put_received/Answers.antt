use Rattle.std.proofs.Common.{◌≡◌, ℕ, List, [], ◌∷◌, Option, Result, OnOk, refl, ap, ◌∙◌}
use Rattle.lapd_frame.specs.declared.Side.{Side}
use Rattle.lapd_frame.specs.Address.{other_side}
use Rattle.lapd_cli_render.specs.Json.{frame_members, object_text}
use Rattle.lapd_cli_side_lines.specs.SideTexts.{frame_text_line}
use Rattle.lapd_cli_side_lines.specs.declared.line_style.LineStyle.TheVariants.{Text}
use Rattle.lapd_cli_live_text.specs.Stats.{received_counted}
use Rattle.lapd_cli_live.specs.declared.printer.Printer.{Printer}
use Rattle.lapd_cli_live.specs.declared.style.Style.{Style}
use Rattle.lapd_cli_live.specs.Entries.{Received, unless_quiet}
use Rattle.lapd_cli_live.specs.Printers.{PrintsOn, PutsLine}
use Rattle.lapd_cli_live.proofs.Printers.{IsBeside, prints_entry}
use Rattle.lapd_cli_live.proofs.Steps.{on_ok}
use Rattle.lapd_cli_live.proofs.printer.Printer.put_received.Goals as goal

-- the line of a frame of the other side is printed, and the frame was counted before
received_line : {W A E : Type 0} (contents : W → Option (List ℕ)) (own from : Side)
    (octets : List ℕ) (result : Result A E) (old mid new : Printer W) → from ≡ other_side own
    → IsBeside old mid → mid.stats ≡ received_counted old.stats (other_side own) octets
    → OnOk result (PutsLine (unless_quiet mid.style (frame_text_line Text from octets))
    (object_text (frame_members from octets)) mid new)
    → OnOk result (PrintsOn contents own (Received octets ∷ []) old new)
received_line contents own from octets result old mid new is beside stats puts =
    on_ok result _ _
    (λ put. prints_entry contents own (Received octets)
    (unless_quiet mid.style (frame_text_line Text from octets))
    (object_text (frame_members from octets)) old mid new beside stats refl
    (ap (λ (style : Style). unless_quiet style (frame_text_line Text from octets)) beside.style
    ∙ ap (λ (x : Side). unless_quiet old.style (frame_text_line Text x octets)) is)
    (ap (λ (x : Side). object_text (frame_members x octets)) is) put)
    puts

pub returns : goal.returns
returns g c =
    received_line g.W.Write.contents c.args.own c.other.result c.args.octets.now c.put_frame.result
    c.args.self.now _ c.put_frame.new.self c.other.ensures
    (record {
      out = refl;
      style = refl;
      moment = refl;
      awaited = refl;
      text = refl;
      matched = refl;
      recent_output = refl;
    })
    (c.count_received.ensures (other_side c.args.own) c.requires.was_read) c.put_frame.ensures
