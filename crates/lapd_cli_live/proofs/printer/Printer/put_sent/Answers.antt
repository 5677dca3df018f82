use Rattle.std.proofs.Common.{◌≡◌, ℕ, List, [], ◌∷◌, ◌++◌, Option, Result, OnOk, codes, refl, sym, ap, subst}
use Rattle.lapd_frame.specs.declared.Side.{Side}
use Rattle.lapd_trace.specs.Trace.{trace_line}
use Rattle.lapd_cli_render.specs.Json.{frame_members, object_text, text_members}
use Rattle.lapd_cli_script.specs.Line.{text_line}
use Rattle.lapd_cli_side_lines.specs.SideTexts.{frame_text_line}
use Rattle.lapd_cli_side_lines.specs.declared.line_style.LineStyle.TheVariants.{Text}
use Rattle.lapd_cli_live_text.specs.Stats.{sent_counted}
use Rattle.lapd_cli_wire.specs.declared.outside.Sending.{Sending}
use Rattle.lapd_cli_wire.specs.declared.outside.Sending.TheVariants as sending
use Rattle.lapd_cli_live.specs.declared.printer.Printer.{Printer}
use Rattle.lapd_cli_live.specs.declared.style.Style.{Style}
use Rattle.lapd_cli_live.specs.Entries.{Sent, Lost, sent_entry, unless_quiet}
use Rattle.lapd_cli_live.specs.Printers.{PrintsOn, PutsLine}
use Rattle.lapd_cli_live.proofs.Printers.{IsBeside, prints_entry}
use Rattle.lapd_cli_live.proofs.Steps.{on_ok}
use Rattle.lapd_cli_live.proofs.printer.Printer.put_sent.Goals as goal

-- the line of a sent frame is printed, and the frame was counted before
sent_line : {W A E : Type 0} (contents : W → Option (List ℕ)) (own : Side) (octets : List ℕ)
    (fate : Sending) (result : Result A E) (old mid new : Printer W) → fate ≡ sending.Sent
    → IsBeside old mid → mid.stats ≡ sent_counted old.stats own octets
    → OnOk result (PutsLine (unless_quiet mid.style (frame_text_line Text own octets))
    (object_text (frame_members own octets)) mid new)
    → OnOk result (PrintsOn contents own (sent_entry octets fate ∷ []) old new)
sent_line contents own octets fate result old mid new is beside stats puts =
    subst (λ (x : Sending). OnOk result (PrintsOn contents own (sent_entry octets x ∷ []) old new))
    (sym is)
    (on_ok result _ _
    (λ put. prints_entry contents own (Sent octets)
    (unless_quiet mid.style (frame_text_line Text own octets))
    (object_text (frame_members own octets)) old mid new beside stats refl
    (ap (λ (style : Style). unless_quiet style (frame_text_line Text own octets)) beside.style) refl
    put)
    puts)

-- that it was lost is printed
lost_line : {W A E : Type 0} (contents : W → Option (List ℕ)) (own : Side) (octets : List ℕ)
    (fate : Sending) (result : Result A E) (old mid new : Printer W) → fate ≡ sending.Lost
    → IsBeside old mid → mid.stats ≡ sent_counted old.stats own octets
    → OnOk result (PutsLine
    (unless_quiet mid.style (text_line (codes "lost" ++ 32 ∷ trace_line own octets)))
    (object_text (text_members (codes "lost") (trace_line own octets))) mid new)
    → OnOk result (PrintsOn contents own (sent_entry octets fate ∷ []) old new)
lost_line contents own octets fate result old mid new is beside stats puts =
    subst (λ (x : Sending). OnOk result (PrintsOn contents own (sent_entry octets x ∷ []) old new))
    (sym is)
    (on_ok result _ _
    (λ put. prints_entry contents own (Lost octets)
    (unless_quiet mid.style (text_line (codes "lost" ++ 32 ∷ trace_line own octets)))
    (object_text (text_members (codes "lost") (trace_line own octets))) old mid new beside stats
    refl
    (ap (λ (style : Style). unless_quiet style
    (text_line (codes "lost" ++ 32 ∷ trace_line own octets))) beside.style) refl put)
    puts)

pub returns-in-Sent : goal.returns-in-Sent
returns-in-Sent g c =
    sent_line g.W.Write.contents c.args.own c.args.octets.now c.args.sending c.put_frame.result
    c.args.self.now _ c.put_frame.new.self c.in-Sent.is
    (record {
      out = refl;
      style = refl;
      moment = refl;
      awaited = refl;
      text = refl;
      matched = refl;
      recent_output = refl;
    })
    (c.count_sent.ensures c.args.own c.read-frame.ensures.exact) c.put_frame.ensures

pub returns-in-Lost : goal.returns-in-Lost
returns-in-Lost g c =
    lost_line g.W.Write.contents c.args.own c.args.octets.now c.args.sending c.put_lost.result
    c.args.self.now _ c.put_lost.new.self c.in-Lost.is
    (record {
      out = refl;
      style = refl;
      moment = refl;
      awaited = refl;
      text = refl;
      matched = refl;
      recent_output = refl;
    })
    (c.count_sent.ensures c.args.own c.read-frame.ensures.exact) c.put_lost.ensures
