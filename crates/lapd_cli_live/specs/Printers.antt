-- The state of a printer.
use Rattle.std.specs.Prelude.{◌≡◌, ℕ, ◌||◌, false, List, ◌++◌, map, Option}
use Rattle.std.specs.Io.KnownBytes.{append_known}
use Rattle.lapd_frame.specs.declared.Side.{Side}
use Rattle.lapd_cli_live.specs.declared.printer.Printer.{Printer}
use Rattle.lapd_cli_wire.specs.IoEvents.{Adds, IoEvent, all_sent}
use Rattle.lapd_cli_wire.specs.declared.impairment.Impairment.{Impairment}
use Rattle.lapd_cli_live.specs.Entries.{Entry, Outgoing, Prints, Shown, begins_so, line_kept, octets_of, outgoing_entry, printed_line}
use Rattle.lapd_cli_live.specs.RecentOutput.{recent_lines}

-- the printed text is what the writer has, followed by the text that is not written yet
abbrev pub shown : {W : Type 0} → (W → Option (List ℕ)) → Printer W → Shown
shown contents printer = record {
  text = append_known (contents printer.out) printer.text.items;
  now = printer.moment;
  stats = printer.stats;
  awaited = printer.awaited.items;
  matched = printer.is_matched;
  keeps = printer.recent_output.is_retained;
  kept = recent_lines printer.recent_output;
}

-- exactly these entries are printed and counted, in the same style
pub record PrintsOn {W : Type 0} (contents : W → Option (List ℕ)) (own : Side)
    (entries : List Entry) (old new : Printer W) : Type 0 where
  pub style : new.style ≡ old.style
  pub prints : Prints old.style own entries (shown contents old) (shown contents new)

-- the line in the printer's buffer is printed, or its object, and nothing else changes
pub record PutsLine {W : Type 0} (line object : List ℕ) (old new : Printer W) : Type 0 where
  pub out : new.out ≡ old.out
  pub style : new.style ≡ old.style
  pub moment : new.moment ≡ old.moment
  pub stats : new.stats ≡ old.stats
  pub awaited : new.awaited ≡ old.awaited
  pub text : new.text.items
      ≡ old.text.items ++ printed_line old.style old.moment line object
  pub matched : new.is_matched ≡ (old.is_matched || begins_so old.awaited.items line)
  pub keeps : new.recent_output.is_retained ≡ old.recent_output.is_retained
  pub kept : recent_lines new.recent_output
      ≡ line_kept old.recent_output.is_retained line (recent_lines old.recent_output)

-- from here on a line that begins with these words is awaited, and none was printed since
pub record Awaits {W : Type 0} (words : List ℕ) (old new : Printer W) : Type 0 where
  pub out : new.out ≡ old.out
  pub style : new.style ≡ old.style
  pub moment : new.moment ≡ old.moment
  pub stats : new.stats ≡ old.stats
  pub text : new.text ≡ old.text
  pub awaited : new.awaited.items ≡ words
  pub matched : new.is_matched ≡ false
  pub recent_output : new.recent_output ≡ old.recent_output

-- these frames are sent, with the same impairment, and each is printed once it is sent
pub record SendsAll {W : Type 0} (own : Side) (frames : List (List ℕ))
    (before after : Option (List IoEvent)) (first last : Option Impairment)
    (contents : W → Option (List ℕ)) (old new : Printer W) : Type 0 where
  pub outgoing : List Outgoing
  pub octets : map octets_of outgoing ≡ frames
  pub io_events : Adds before after (all_sent frames)
  pub impairment : last ≡ first
  pub prints : PrintsOn contents own (map outgoing_entry outgoing) old new
