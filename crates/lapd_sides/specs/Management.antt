-- TEI management within a side: links are added and removed with the TEIs, and T201 or T202 runs
-- beside the timers of the links (Q.921 5.3).
use Rattle.std.specs.Prelude.{ℕ, ◌+◌, ◌-◌, ◌^◌, ◌==◌, ◌&&◌, min, Bool, true, false, List, [], ◌++◌, Option, Some, None}
use Rattle.lapd_frame.specs.declared.Sapi.{Sapi}
use Rattle.lapd_frame.specs.declared.Sapi.TheVariants as sapi
use Rattle.lapd_frame.specs.declared.Side.{Side}
use Rattle.lapd_frame.specs.declared.Control.{Control}
use Rattle.lapd_frame.specs.declared.Control.TheVariants.{Ui}
use Rattle.lapd_frame.specs.Frame.{Fields}
use Rattle.lapd_link_definition.specs.Input.{Input, BusyOn, BusyOff}
use Rattle.lapd_tei.specs.declared.out.TeiOut.{TeiOut}
use Rattle.lapd_tei.specs.Out.{tei_given, tei_freed}
use Rattle.lapd_tei.specs.Message.{group_tei}
use Rattle.lapd_sides_links.specs.declared.config.Config.{Config}
use Rattle.lapd_sides_links.specs.declared.primitive.Primitive.{Primitive}
use Rattle.lapd_sides_links.specs.Effects.{Effects, effects_of_management, managed}
use Rattle.lapd_sides_links.specs.Links.{Served, Links, Reaction, with_tei, without_tei, primitive_of_tei}

abbrev pub is_ui : Control → Bool
is_ui (Ui p) = true
is_ui control = false

-- a UI frame to the group TEI, with either P
abbrev pub is_unit_to_group : Fields → Bool
is_unit_to_group frame = is_ui frame.control && (frame.address.tei == group_tei)

abbrev pub is_management : Sapi → Bool
is_management sapi.Management = true
is_management other = false

-- a message of TEI management (5.3.6.1)
abbrev pub carries_message : Fields → Bool
carries_message frame = is_management frame.address.sapi && is_unit_to_group frame

-- ---- The effects of the outputs of TEI management.

-- adds the links of a TEI that is assigned or obtained
abbrev pub links_with : Config → Option ℕ → Links → Links
links_with config None links = links
links_with config (Some tei) links = with_tei config tei links

-- removes the links of a TEI that is freed or removed
abbrev pub links_without : Option ℕ → Links → Links
links_without None links = links
links_without (Some tei) links = without_tei tei links

-- the releases of removed links that are reported to layer 3
abbrev pub removal_primitives : Option ℕ → Links → List Primitive
removal_primitives None links = []
removal_primitives (Some tei) links = primitive_of_tei tei links

-- The outcome of TEI management is reported first, then the releases of the links.
abbrev pub with_removals : List Primitive → Effects → Effects
with_removals removals e = record e { primitives = e.primitives ++ removals }

-- A step assigns at most one TEI and frees at most one.
unfoldable pub manages : Side → Config → ℕ → List TeiOut → Served → Reaction Served
manages side config now outs s = record {
  after = record {
    links = links_without (tei_freed outs) (links_with config (tei_given outs) s.links);
    timers = managed now outs s.timers;
  };
  effects = with_removals
      (removal_primitives (tei_freed outs) (links_with config (tei_given outs) s.links))
      (effects_of_management side outs);
}

-- counts one more discarded frame, up to the greatest number of 64 bits
abbrev pub one_more : ℕ → ℕ
one_more n = min (n + 1) (2 ^ 64 - 1)

-- enters or leaves own receiver busy (Q.921 5.6.6)
abbrev pub busy_input : Bool → Input
busy_input true = BusyOn
busy_input false = BusyOff
