-- The worked dialogues, computed.
use Rattle.std.proofs.Common.{◌≡◌, [], ◌∷◌, ◌++◌, None, Some, Ok, Err, refl}
use Rattle.lapd_tei.specs.declared.out.TeiOut.TheVariants as tei
use Rattle.lapd_sides_links.specs.declared.primitive.Primitive.TheVariants.{Of, Management}
use Rattle.lapd_sides_links.specs.declared.side_fault.SideKind.TheVariants.{NoLink}
use Rattle.lapd_sides_links.specs.Effects.{no_effects}
use Rattle.lapd_sides_links.specs.Links.{links_below, in_links, with_tei, without_tei, primitive_of_tei, of_sapi}
use Rattle.lapd_sides.specs.AllTeis.{holds_any}
use Rattle.lapd_sides.specs.Management.{manages}
use Rattle.lapd_sides.specs.SideState.{link_of, takes}
use Rattle.lapd_sides.specs.Network.{new_network, network_rules, assigner_acts, network_requested}
use Rattle.lapd_frame.specs.declared.Sapi.TheVariants.{Call, Packet}
use Rattle.lapd_link_definition.specs.declared.state.State.TheVariants.{TeiAssigned, MultipleFrameEstablished}
use Rattle.lapd_timers.specs.declared.timer.Timer.TheVariants.{T200, T202, T203}
use Rattle.lapd_timers.specs.Due.{deadline_of}
use Rattle.lapd_sides_links.specs.declared.primitive.What.TheVariants as what
use Rattle.lapd_sides.specs.User.{new_user, user_rules, terminal_acts}
use Rattle.lapd_sides.specs.Worked.{side_run, side_gives, state_of, ends_at, asking, reference, both_sapis, call_control_alone, tei_and_disc, both_established, one_released, vain_check, removed_at, four_and_sabme, random, vain_want, want_and_tei, given_up, all_at, check_and_all, all_arrive, answering}
use Rattle.lapd_sides.proofs.ComputedSide.{computed_side}

pub assignments_make_links : side_gives network_rules both_sapis tei_and_disc
    (new_network both_sapis [])
    ≡ Ok (record {
      frames = (0xFE ∷ 0xFF ∷ 0x03 ∷ 0x0F ∷ 0x12 ∷ 0x34 ∷ 0x02 ∷ 0x81 ∷ []) ∷ [];
      primitives = Management (tei.Given 64) ∷ [];
    })
    ∷ Ok (record { frames = (0x00 ∷ 0x81 ∷ 0x1F ∷ []) ∷ []; primitives = [] })
    ∷ Ok (record { frames = (0x40 ∷ 0x81 ∷ 0x1F ∷ []) ∷ []; primitives = [] })
    ∷ Ok (record { frames = []; primitives = [] }) ∷ []
unfolding computed_side
assignments_make_links = refl

pub releases_leave_other_links_gives : side_gives network_rules both_sapis
    (both_established ++ one_released) (new_network both_sapis (64 ∷ []))
    ≡ Ok (record {
      frames = (0x00 ∷ 0x81 ∷ 0x73 ∷ []) ∷ [];
      primitives = Of (of_sapi Call 64) what.Established ∷ [];
    })
    ∷ Ok (record {
      frames = (0x40 ∷ 0x81 ∷ 0x73 ∷ []) ∷ [];
      primitives = Of (of_sapi Packet 64) what.Established ∷ [];
    })
    ∷ Ok (record {
      frames = (0x40 ∷ 0x81 ∷ 0x73 ∷ []) ∷ [];
      primitives = Of (of_sapi Packet 64) what.Released ∷ [];
    }) ∷ []
unfolding computed_side
releases_leave_other_links_gives = refl

pub releases_leave_other_links_released : state_of
    ((side_run network_rules both_sapis (both_established ++ one_released)
    (new_network both_sapis (64 ∷ []))).served.links (of_sapi Packet 64)) ≡ Some TeiAssigned
unfolding computed_side
releases_leave_other_links_released = refl

pub releases_leave_other_links_other_state : state_of
    ((side_run network_rules both_sapis (both_established ++ one_released)
    (new_network both_sapis (64 ∷ []))).served.links (of_sapi Call 64))
    ≡ Some MultipleFrameEstablished
unfolding computed_side
releases_leave_other_links_other_state = refl

pub releases_leave_other_links_other_timer : ends_at T203
    ((side_run network_rules both_sapis (both_established ++ one_released)
    (new_network both_sapis (64 ∷ []))).served.links (of_sapi Call 64)) ≡ Some 10000
unfolding computed_side
releases_leave_other_links_other_timer = refl

pub freed_teis_lose_their_links_gives : side_gives network_rules both_sapis vain_check
    (side_run network_rules both_sapis both_established (new_network both_sapis (64 ∷ [])))
    ≡ Ok (record {
      frames = (0xFE ∷ 0xFF ∷ 0x03 ∷ 0x0F ∷ 0x00 ∷ 0x00 ∷ 0x04 ∷ 0x81 ∷ []) ∷ [];
      primitives = [];
    })
    ∷ Ok (record {
      frames = (0xFE ∷ 0xFF ∷ 0x03 ∷ 0x0F ∷ 0x00 ∷ 0x00 ∷ 0x04 ∷ 0x81 ∷ []) ∷ [];
      primitives = [];
    })
    ∷ Ok (record {
      frames = [];
      primitives =
          Management (tei.Free 64) ∷ Of (of_sapi Call 64) what.Released
          ∷ Of (of_sapi Packet 64) what.Released ∷ [];
    }) ∷ []
unfolding computed_side
freed_teis_lose_their_links_gives = refl

pub freed_teis_lose_their_links_removed :
    (side_run network_rules both_sapis (both_established ++ vain_check)
    (new_network both_sapis (64 ∷ []))).served.links (of_sapi Call 64) ≡ None
unfolding computed_side
freed_teis_lose_their_links_removed = refl

pub removed_teis_lose_their_links_gives : side_gives network_rules both_sapis (removed_at 600)
    (side_run network_rules both_sapis both_established (new_network both_sapis (64 ∷ [])))
    ≡ Ok (record {
      frames =
          (0xFE ∷ 0xFF ∷ 0x03 ∷ 0x0F ∷ 0x00 ∷ 0x00 ∷ 0x06 ∷ 0x81 ∷ [])
          ∷ (0xFE ∷ 0xFF ∷ 0x03 ∷ 0x0F ∷ 0x00 ∷ 0x00 ∷ 0x06 ∷ 0x81 ∷ []) ∷ [];
      primitives =
          Management (tei.Free 64) ∷ Of (of_sapi Call 64) what.Released
          ∷ Of (of_sapi Packet 64) what.Released ∷ [];
    }) ∷ Ok no_effects ∷ []
unfolding computed_side
removed_teis_lose_their_links_gives = refl

pub removed_teis_lose_their_links_removed :
    (side_run network_rules both_sapis (both_established ++ removed_at 600)
    (new_network both_sapis (64 ∷ []))).served.links (of_sapi Call 64) ≡ None
unfolding computed_side
removed_teis_lose_their_links_removed = refl

pub removed_teis_lose_their_links_given_up : side_gives user_rules both_sapis given_up
    (new_user both_sapis (Some 64) random)
    ≡ Err NoLink ∷ Ok (record { frames = []; primitives = Management (tei.Gone 64) ∷ [] })
    ∷ Err NoLink ∷ []
unfolding computed_side
removed_teis_lose_their_links_given_up = refl

pub all_are_checked_and_removed : side_gives network_rules both_sapis (all_at 0)
    (new_network both_sapis [])
    ≡ Ok (record {
      frames = (0xFE ∷ 0xFF ∷ 0x03 ∷ 0x0F ∷ 0x00 ∷ 0x00 ∷ 0x04 ∷ 0xFF ∷ []) ∷ [];
      primitives = [];
    })
    ∷ Ok (record {
      frames =
          (0xFE ∷ 0xFF ∷ 0x03 ∷ 0x0F ∷ 0x00 ∷ 0x00 ∷ 0x06 ∷ 0xFF ∷ [])
          ∷ (0xFE ∷ 0xFF ∷ 0x03 ∷ 0x0F ∷ 0x00 ∷ 0x00 ∷ 0x06 ∷ 0xFF ∷ []) ∷ [];
      primitives = [];
    }) ∷ []
unfolding in_links manages assigner_acts link_of network_requested terminal_acts takes links_below
    without_tei with_tei primitive_of_tei holds_any
all_are_checked_and_removed = refl

pub held_are_not_removed : side_gives network_rules both_sapis (all_at 0)
    (new_network both_sapis (64 ∷ []))
    ≡ Ok (record {
      frames = (0xFE ∷ 0xFF ∷ 0x03 ∷ 0x0F ∷ 0x00 ∷ 0x00 ∷ 0x04 ∷ 0xFF ∷ []) ∷ [];
      primitives = [];
    }) ∷ Ok no_effects ∷ []
unfolding in_links manages assigner_acts link_of network_requested terminal_acts takes links_below
    without_tei with_tei primitive_of_tei holds_any
held_are_not_removed = refl

pub one_is_checked : side_gives network_rules both_sapis (check_and_all 0)
    (new_network both_sapis (64 ∷ []))
    ≡ Ok (record {
      frames = (0xFE ∷ 0xFF ∷ 0x03 ∷ 0x0F ∷ 0x00 ∷ 0x00 ∷ 0x04 ∷ 0x81 ∷ []) ∷ [];
      primitives = [];
    })
    ∷ Ok no_effects ∷ Ok no_effects ∷ []
unfolding in_links manages assigner_acts link_of network_requested terminal_acts takes links_below
    without_tei with_tei primitive_of_tei holds_any
one_is_checked = refl

pub all_are_obeyed : side_gives user_rules both_sapis all_arrive
    (new_user both_sapis (Some 64) random)
    ≡ Ok (record { frames = answering (reference 0) 64 ∷ []; primitives = [] })
    ∷ Ok (record { frames = []; primitives = Management (tei.Gone 64) ∷ [] }) ∷ Ok no_effects ∷ []
unfolding in_links manages assigner_acts link_of network_requested terminal_acts takes links_below
    without_tei with_tei primitive_of_tei holds_any
all_are_obeyed = refl

pub discarded_frames_are_counted_gives : side_gives network_rules call_control_alone four_and_sabme
    (new_network call_control_alone (64 ∷ []))
    ≡ Ok no_effects ∷ Ok no_effects ∷ Ok no_effects ∷ Ok no_effects
    ∷ Ok (record {
      frames = (0x00 ∷ 0x81 ∷ 0x73 ∷ []) ∷ [];
      primitives = Of (of_sapi Call 64) what.Established ∷ [];
    }) ∷ []
unfolding computed_side
discarded_frames_are_counted_gives = refl

pub discarded_frames_are_counted_counts :
    (side_run network_rules call_control_alone four_and_sabme
    (new_network call_control_alone (64 ∷ []))).discarded ≡ 4
unfolding computed_side
discarded_frames_are_counted_counts = refl

pub vain_requests_are_released : side_gives user_rules call_control_alone vain_want
    (new_user call_control_alone None random)
    ≡ Ok (record { frames = asking 0 ∷ []; primitives = [] })
    ∷ Ok (record { frames = asking (reference 1) ∷ []; primitives = [] })
    ∷ Ok (record { frames = asking (reference 2) ∷ []; primitives = [] })
    ∷ Ok (record {
      frames = [];
      primitives = Management tei.Failed ∷ Of (of_sapi Call 127) what.Released ∷ [];
    })
    ∷ []
unfolding computed_side
vain_requests_are_released = refl

pub pending_establishments_are_done_outputs : side_gives user_rules call_control_alone want_and_tei
    (new_user call_control_alone None random)
    ≡ Ok (record { frames = asking 0 ∷ []; primitives = [] })
    ∷ Ok (record {
      frames = (0x00 ∷ 0x81 ∷ 0x7F ∷ []) ∷ [];
      primitives = Management (tei.Got 64) ∷ [];
    }) ∷ []
unfolding computed_side
pending_establishments_are_done_outputs = refl

pub pending_establishments_are_done_t202 : deadline_of T202
    (side_run user_rules call_control_alone want_and_tei
    (new_user call_control_alone None random)).served.timers ≡ None
unfolding computed_side
pending_establishments_are_done_t202 = refl

pub pending_establishments_are_done_t200 : ends_at T200
    ((side_run user_rules call_control_alone want_and_tei
    (new_user call_control_alone None random)).served.links (of_sapi Call 64)) ≡ Some 1100
unfolding computed_side
pending_establishments_are_done_t200 = refl
