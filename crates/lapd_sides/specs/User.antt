-- The user side: a terminal with the links of its own TEI, and the effects of a frame, a timer or a
-- request.
use Rattle.std.specs.Prelude.{ℕ, ◌&&◌, ◌==◌, ◌%◌, ◌^◌, if◌then◌else◌, Bool, true, false, List, [], ◌∷◌, ◌++◌, length, Option, Some, None, option_map, Result, Ok, Err}
use Rattle.rand_pcg.specs.Lcg.{Lcg}
use Rattle.rand_core.specs.Pcg32Seed.{pcg32_seed}
use Rattle.rand_pcg.specs.Pcg.{pcg32, pcg32_of_seed}
use Rattle.lapd_timers.specs.Due.{all_stopped}
use Rattle.lapd_frame.specs.declared.Sapi.{Sapi}
use Rattle.lapd_frame.specs.declared.Sapi.TheVariants as sapi
use Rattle.lapd_frame.specs.declared.Side.TheVariants as side
use Rattle.lapd_frame.specs.Frame.{Fields}
use Rattle.lapd_link_definition.specs.declared.event.LinkFault.TheVariants.{NotEstablished}
use Rattle.lapd_link_definition.specs.Input.{Input, Establish, Release, UnitData, Give}
use Rattle.lapd_tei.specs.declared.out.TeiOut.{TeiOut}
use Rattle.lapd_tei.specs.declared.out.TeiOut.TheVariants as tei
use Rattle.lapd_tei.specs.declared.phase.Phase.{Phase}
use Rattle.lapd_tei.specs.declared.phase.Phase.TheVariants.{Unassigned, Awaiting, Assigned}
use Rattle.lapd_tei.specs.declared.terminal.TerminalEvent.{TerminalEvent}
use Rattle.lapd_tei.specs.declared.terminal.TerminalEvent.TheVariants as event
use Rattle.lapd_tei.specs.Out.{tei_given}
use Rattle.lapd_tei.specs.Terminal.{TerminalStep, terminal_step, tei_of, new_terminal}
use Rattle.lapd_table.specs.declared.link_id.LinkId.{LinkId}
use Rattle.lapd_sides_links.specs.declared.config.Config.{Config}
use Rattle.lapd_sides_links.specs.declared.primitive.Primitive.{Primitive}
use Rattle.lapd_sides_links.specs.declared.primitive.What.{What}
use Rattle.lapd_sides_links.specs.declared.primitive.What.TheVariants as what
use Rattle.lapd_sides.specs.declared.request.Request.{Request}
use Rattle.lapd_sides.specs.declared.request.Request.TheVariants as request
use Rattle.lapd_sides_links.specs.declared.side_fault.SideKind.{SideKind}
use Rattle.lapd_sides_links.specs.declared.side_fault.SideKind.TheVariants.{NoLink, Link}
use Rattle.lapd_sides_links.specs.Effects.{no_effects, and_then}
use Rattle.lapd_sides_links.specs.Links.{Links, Reaction, of_sapi, is_served, no_links, with_tei}
use Rattle.lapd_sides.specs.Management.{is_unit_to_group, manages, busy_input}
use Rattle.lapd_sides.specs.SideState.{SideState, Rules, link_of, or_unmoved, primitive_of_group, unmoved}

-- The SAPIs for which an establishment is kept until the terminal has a TEI.
pub record PendingEstablishments : Type 0 where
  pub call : Bool
  pub packet : Bool

-- The terminal, the kept establishments, and the generator of references.
pub record TerminalState : Type 0 where
  pub terminal : Phase
  pub pending : PendingEstablishments
  pub random : Lcg

-- the state of a user side
abbrev pub User : Type 0
User = SideState TerminalState

abbrev pub nothing_pending : PendingEstablishments
nothing_pending = record { call = false; packet = false }

-- a new user side: with the links of a fixed TEI, or with none
abbrev pub links_of_fixed : Config → Option ℕ → Links
links_of_fixed config None = no_links
links_of_fixed config (Some tei) = with_tei config tei no_links

abbrev pub new_user : Config → Option ℕ → Lcg → User
new_user config fixed random = record {
  served = record { links = links_of_fixed config fixed; timers = all_stopped config.durations };
  management = record {
    terminal = new_terminal fixed;
    pending = nothing_pending;
    random = random;
  };
  discarded = 0;
}

-- the same side with other kept establishments
abbrev pub with_kept : User → PendingEstablishments → User
with_kept s pending = record s { management = record s.management { pending = pending } }

-- ---- References.

-- the generator with this seed, as `seed_from_u64` makes it
abbrev pub seeded : ℕ → Lcg
seeded seed = pcg32_of_seed (pcg32_seed 16 seed)

-- the next reference: the low sixteen bits of the next word of the generator (5.3.2)
abbrev pub low_sixteen : ℕ × Lcg → ℕ
low_sixteen (word, random) = word % 2 ^ 16

abbrev pub advanced : ℕ × Lcg → Lcg
advanced (word, random) = random

abbrev pub next_reference : Lcg → ℕ
next_reference random = low_sixteen (pcg32 random)

-- a reference is drawn only if it is sent
abbrev pub sends_message : List TeiOut → Bool
sends_message [] = false
sends_message (tei.Send message ∷ outs) = true
sends_message (output ∷ outs) = sends_message outs

abbrev pub drawn : List TeiOut → Lcg → Lcg
drawn outs random = if sends_message outs then advanced (pcg32 random) else random

-- ---- TEI management: how its outcomes settle the kept establishments.

-- one step after another
abbrev pub next : Reaction User → (User → Reaction User) → Reaction User
next a does = record {
  after = (does a.after).after;
  effects = and_then a.effects (does a.after).effects;
}

-- executes a kept establishment
abbrev pub establishes : Bool → ℕ → LinkId → User → Reaction User
establishes true now id s = or_unmoved s (link_of side.User now id Establish [] s)
establishes false now id s = unmoved s

-- With a TEI, the kept establishments are executed, SAPI 0 first; then none is kept.
abbrev pub establishes_pending : ℕ → ℕ → User → Reaction User
establishes_pending now own s =
    next (establishes s.management.pending.call now (of_sapi sapi.Call own)
    (with_kept s nothing_pending))
    (establishes s.management.pending.packet now (of_sapi sapi.Packet own))

-- the primitive of a SAPI without a TEI, if its establishment was kept
abbrev pub primitive_of_sapi : Bool → Sapi → What → List Primitive
primitive_of_sapi true sapi w = primitive_of_group sapi w
primitive_of_sapi false sapi w = []

-- If no TEI was obtained, each kept establishment is released.
abbrev pub gives_up_pending : User → Reaction User
gives_up_pending s = record {
  after = with_kept s nothing_pending;
  effects = record no_effects {
    primitives = primitive_of_sapi s.management.pending.call sapi.Call what.Released
        ++ primitive_of_sapi s.management.pending.packet sapi.Packet what.Released;
  };
}

abbrev pub pending_after : ℕ → List TeiOut → User → Reaction User
pending_after now [] s = unmoved s
pending_after now (tei.Got own ∷ outs) s = establishes_pending now own s
pending_after now (tei.Failed ∷ outs) s = gives_up_pending s
pending_after now (output ∷ outs) s = pending_after now outs s

abbrev pub assigned : Config → ℕ → TerminalStep → User → Reaction User
assigned config now step s =
    next (record {
      after = record s {
        served = (manages side.User config now step.outs s.served).after;
        management = record s.management {
          terminal = step.now;
          random = drawn step.outs s.management.random;
        };
      };
      effects = (manages side.User config now step.outs s.served).effects;
    })
    (pending_after now step.outs)

-- an event of the terminal, with the reference that it sends, if any
unfoldable pub terminal_acts : Config → ℕ → (ℕ → TerminalEvent) → User → Reaction User
terminal_acts config now event s =
    assigned config now
    (terminal_step s.management.terminal (event (next_reference s.management.random))) s

-- ---- Requests. Only the SAPI of a link id is used.

-- an input for the link of the terminal's own TEI, or `otherwise` if it has none
abbrev pub with_tei_or : ℕ → Phase → Sapi → Input → List ℕ → Result (Reaction User) SideKind → User
    → Result (Reaction User) SideKind
with_tei_or now (Assigned by own) sapi input octets otherwise s =
    link_of side.User now (of_sapi sapi own) input octets s
with_tei_or now Unassigned sapi input octets otherwise s = otherwise
with_tei_or now (Awaiting purpose count ri) sapi input octets otherwise s = otherwise

abbrev pub is_pending : Sapi → PendingEstablishments → Bool
is_pending sapi.Call pending = pending.call
is_pending sapi.Packet pending = pending.packet
is_pending sapi.Management pending = false

abbrev pub with_pending : Sapi → Bool → PendingEstablishments → PendingEstablishments
with_pending sapi.Call on pending = record pending { call = on }
with_pending sapi.Packet on pending = record pending { packet = on }
with_pending sapi.Management on pending = pending

-- Without a TEI, an establishment is kept, and a TEI is requested (5.3.2).
abbrev pub wants : Config → ℕ → Sapi → User → Result (Reaction User) SideKind
wants config now sapi s =
    if is_served config sapi
    then Ok (terminal_acts config now event.Want
    (with_kept s (with_pending sapi true s.management.pending)))
    else Err NoLink

-- A release forgets it, and the terminal continues to request.
abbrev pub forgets : Sapi → User → Result (Reaction User) SideKind
forgets sapi s =
    if is_pending sapi s.management.pending
    then Ok (record {
      after = with_kept s (with_pending sapi false s.management.pending);
      effects = record no_effects { primitives = primitive_of_group sapi what.ReleaseConfirm };
    })
    else Err NoLink

-- whether this is the TEI of a terminal that has this TEI, or none
abbrev pub has_tei : ℕ → Option ℕ → Bool
has_tei tei None = false
has_tei tei (Some own) = own == tei

-- The terminal gives up its TEI, if it is this one (MDL-REMOVE, 5.3.4).
abbrev pub gives_up : Config → ℕ → ℕ → User → Result (Reaction User) SideKind
gives_up config now tei s =
    if has_tei tei (tei_of s.management.terminal) then Ok (terminal_acts config now (λ ri. event.Leave) s)
    else Err NoLink

unfoldable pub user_requested : Config → Request → ℕ → User → Result (Reaction User) SideKind
user_requested config (request.Establish id) now s =
    with_tei_or now s.management.terminal id.sapi Establish [] (wants config now id.sapi s) s
user_requested config (request.Release id) now s =
    with_tei_or now s.management.terminal id.sapi Release [] (forgets id.sapi s) s
user_requested config (request.Unit id octets) now s = with_tei_or now s.management.terminal id.sapi
    (UnitData (length octets.items)) octets.items (Err NoLink) s
user_requested config (request.Give id message) now s = with_tei_or now s.management.terminal id.sapi
    (Give message.items) [] (Err (Link NotEstablished)) s
user_requested config (request.Busy id on) now s =
    with_tei_or now s.management.terminal id.sapi (busy_input on) [] (Err NoLink) s
user_requested config request.AskTei now s = Ok (terminal_acts config now event.Ask s)
user_requested config (request.Check tei) now s = Ok (unmoved s)
user_requested config (request.Remove tei) now s = gives_up config now tei s
user_requested config request.CheckAll now s = Ok (unmoved s)
user_requested config request.RemoveAll now s = Ok (unmoved s)

-- ---- The rules of this side.

-- unit data to all terminals, of a SAPI that is served (5.2)
abbrev pub for_layer_3 : Config → Fields → Bool
for_layer_3 config frame = is_served config frame.address.sapi && is_unit_to_group frame

-- the link of this SAPI and the terminal's own TEI, if it has one
abbrev pub own_link : Phase → LinkId → Option LinkId
own_link phase id = option_map (of_sapi id.sapi) (tei_of phase)

abbrev pub user_rules : Rules TerminalState
user_rules = record {
  side = side.User;
  hears = λ config now message s. terminal_acts config now (event.Heard message) s;
  given = λ m message. tei_given
      (terminal_step m.terminal (event.Heard message (next_reference m.random))).outs;
  times_out = λ config now s. terminal_acts config now event.T202 s;
  is_for_layer_3 = for_layer_3;
  requested = λ config request now s. user_requested config request now s;
  link_of_call = λ m id. own_link m.terminal id;
}
