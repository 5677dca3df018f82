-- The lines printed by the command `bus`.
use Rattle.std.specs.Prelude.{ℕ, List, [], ◌++◌, flat_map, codes, Option, Some, None}
use Rattle.std.specs.Fmt.{decimal}
use Rattle.lapd_frame.specs.declared.Side.TheVariants.{Network, User}
use Rattle.lapd_frame.specs.Frame.{spelling}
use Rattle.lapd_cli_script.specs.Line.{text_line, digits_of}
use Rattle.lapd_tei.specs.declared.bus_move.BusMove.{BusMove}
use Rattle.lapd_tei.specs.declared.bus_move.BusMove.TheVariants as move
use Rattle.lapd_tei.specs.declared.bus_move.BusFault.{BusFault}
use Rattle.lapd_tei.specs.declared.out.TeiOut.{TeiOut}
use Rattle.lapd_tei.specs.declared.out.TeiOut.TheVariants as out
use Rattle.lapd_tei.specs.Bus.{bus_fault_name}
use Rattle.lapd_tei.specs.Message.{frame_of_message}

-- an output of terminal t; timers that are started or stopped are not printed
abbrev pub terminal_text : ℕ → List ℕ
terminal_text t = codes "terminal " ++ decimal t

abbrev pub terminal_line : ℕ → TeiOut → List ℕ
terminal_line t (out.Send m) =
    text_line (codes "up" ++ digits_of (spelling User (frame_of_message m)))
terminal_line t (out.Got tei) = terminal_text t ++ text_line (codes " got " ++ decimal tei)
terminal_line t (out.Gone tei) = terminal_text t ++ text_line (codes " gone " ++ decimal tei)
terminal_line t out.Failed = terminal_text t ++ text_line (codes " failed")
terminal_line t other = []

-- an output of the network side
abbrev pub network_line : TeiOut → List ℕ
network_line (out.Send m) =
    text_line (codes "down" ++ digits_of (spelling Network (frame_of_message m)))
network_line (out.Free tei) = text_line (codes "net free " ++ decimal tei)
network_line (out.InUse tei) = text_line (codes "net in-use " ++ decimal tei)
network_line (out.Doubled tei) = text_line (codes "net doubled " ++ decimal tei)
network_line other = []

-- the terminal that makes the move; `None` for the network side
abbrev pub mover : BusMove → Option ℕ
mover (move.Ask t ri) = Some t
mover (move.T202 t ri) = Some t
mover (move.Hear i t ri) = Some t
mover (move.Leave t) = Some t
mover other = None

abbrev pub out_line : Option ℕ → TeiOut → List ℕ
out_line (Some t) output = terminal_line t output
out_line None output = network_line output

abbrev pub outs_text : Option ℕ → List TeiOut → List ℕ
outs_text who outs = flat_map (out_line who) outs

abbrev pub refusal_line : BusFault → List ℕ
refusal_line fault = text_line (codes "refused " ++ bus_fault_name fault)
