-- A terminal without the TEI discards frames of its link, just as it discards empty octets.
use Rattle.std.proofs.Common.{◌≡◌, ℕ, ◌<◌, ◌==◌, List, [], Bool, true, false, if◌then◌else◌, Option, Some, None, Result, Ok, Err, refl, sym, ap, subst, ◌∙◌, arith}
use Rattle.std.proofs.lemmas.Bool.Decides.{nat_tests}
use Rattle.lapd_frame.specs.declared.Address.{Address}
use Rattle.lapd_frame.specs.declared.Side.TheVariants as side
use Rattle.lapd_frame.specs.declared.fault_kind.FaultKind.{FaultKind}
use Rattle.lapd_frame.specs.declared.frame_fault.FrameFault.{FrameFault}
use Rattle.lapd_frame.specs.Frame.{Fields}
use Rattle.lapd_frame.specs.Reading.{frame_at}
use Rattle.lapd_link_definition.specs.Input.{Input, Heard, Faulty}
use Rattle.lapd_tei.specs.Message.{message_at, group_tei}
use Rattle.lapd_table.specs.declared.link_id.LinkId.{LinkId}
use Rattle.lapd_table.specs.LinkId.{id_of_address}
use Rattle.lapd_table.specs.Octets.{event_by, fault_for}
use Rattle.lapd_table.proofs.Ids.{same_id_eq}
use Rattle.lapd_sides_links.specs.Links.{Links, Reaction}
use Rattle.lapd_sides_links.specs.declared.side_fault.SideKind.{SideKind}
use Rattle.lapd_sides.specs.Management.{is_management, is_ui}
use Rattle.lapd_sides.specs.SideState.{among_links, data_received, discards, link_of, message_received, or_discarded, received, takes, unit_from_group}
use Rattle.lapd_sides.specs.User.{User, user_rules}
use Rattle.lapd_side_events.specs.Interface.{Configs}
use Rattle.lapd_two_side_laws.specs.Addressed.{is_for, is_named}
use Rattle.lapd_two_side_laws.proofs.LinkParts.{absent_refuses}
use Rattle.lapd_two_side_laws.proofs.Managed.{and_not}
use Rattle.lapd_two_side_laws.proofs.Users.{user_meant}

-- ---- Octets of the link are discarded as empty ones are.

module _ (c : Configs) (id : LinkId) (low : id.tei < 127) where
  abbrev pub without_old : List ℕ → List ℕ
  without_old octets = if is_for side.Network id octets then [] else octets

  module _ (now : ℕ) (s : User) (none : s.served.links id ≡ None) where
    refused : (other : LinkId) (input : Input) (octets : List ℕ) → id ≡ other
        → or_discarded s (link_of side.User now other input octets s) ≡ discards s
    unfolding link_of
    refused other input octets same = ap (λ (r : Result (Reaction Links) SideKind).
        or_discarded s (among_links s r))
        (absent_refuses side.User other s.served.links now input octets
        (subst (λ (k : LinkId). s.served.links k ≡ None) same none))

    frame_discarded : (f : Fields) → id ≡ id_of_address f.address
        → received user_rules c.user now (Ok f) s ≡ discards s
    frame_discarded f same =
        let its : id.tei ≡ f.address.tei = ap (λ (k : LinkId). k.tei) same in
        let apart : (f.address.tei == group_tei) ≡ false = grind (arith, nat_tests, its, low) in
        let unit = and_not (is_ui f.control) (f.address.tei == group_tei) apart in
        ap (λ (b : Bool). if b then message_received user_rules c.user now (message_at f.info) s
        else data_received user_rules c.user now f s)
        (and_not (is_management f.address.sapi) _ unit)
        ∙ ap (λ (b : Bool). if b then unit_from_group f.address.sapi f.info s
        else or_discarded s (link_of side.User now (id_of_address f.address)
        (Heard f.control f.address.role) f.info s)) ((user_meant c.user).spares f unit)
        ∙ refused (id_of_address f.address) (Heard f.control f.address.role) f.info same

    fault_discarded : (kind : FaultKind) (address : Option Address)
        → is_named id (fault_for address kind) ≡ true
        → received user_rules c.user now (Err (record { kind = kind; address = address })) s
        ≡ discards s
    fault_discarded kind None named = cc
    fault_discarded kind (Some a) named =
        refused (id_of_address a) (Faulty kind) [] (same_id_eq id (id_of_address a) named)

    any_discarded : (r : Result Fields FrameFault) → is_named id (event_by r) ≡ true
        → received user_rules c.user now r s ≡ discards s
    any_discarded (Ok f) named = frame_discarded f (same_id_eq id (id_of_address f.address) named)
    any_discarded (Err fault) named = fault_discarded fault.kind fault.address named

    pub taken_so : (octets : List ℕ) → takes user_rules c.user (without_old octets) now s
        ≡ takes user_rules c.user octets now s
    unfolding takes
    taken_so octets = by (is_for side.Network id octets) refl
      where
        by : (test : Bool) → is_for side.Network id octets ≡ test
            → takes user_rules c.user (if test then [] else octets) now s
            ≡ takes user_rules c.user octets now s
        by true named = sym (any_discarded (frame_at side.Network octets) named)
        by false apart = refl
