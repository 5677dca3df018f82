-- Unit data that is too long.
use Rattle.std.proofs.Common.{◌≡◌, ℕ, ◌<◌, List, length, Option, Some, None, Err, IsSome, refl}
use Rattle.std.proofs.lemmas.Bool.{lt-ltb}
use Rattle.std.specs.Prelude.{IsSomeAnd}
use Rattle.lapd_frame.specs.declared.Side.{Side}
use Rattle.lapd_link.specs.Link.{Refuses}
use Rattle.lapd_link.specs.declared.link.Link.{Link}
use Rattle.lapd_link_definition.specs.declared.event.LinkFault.TheVariants.{TooLong}
use Rattle.lapd_link_definition.specs.Input.{UnitData}
use Rattle.lapd_link_definition.specs.Table.{step}
use Rattle.lapd_table.specs.declared.link_id.LinkId.{LinkId}
use Rattle.lapd_table.specs.declared.link_key.LinkKey.{LinkKey}
use Rattle.lapd_table.specs.LinkTable.{link_at, IsKey}
use Rattle.lapd_table.proofs.Tables.{key_is_of_link}
use Rattle.lapd_sides_links.specs.declared.link_set.LinkSet.{LinkSet}
use Rattle.lapd_sides_links.specs.declared.side_fault.SideKind.TheVariants as kind
use Rattle.lapd_sides_links.specs.Links.{Links, link_acts, in_links}
use Rattle.lapd_sides_links.specs.Shown.{ShowLinks}
use Rattle.lapd_sides_links.proofs.Acting.{refuses_found}

-- each link refuses it
link_refuses : (link : Link) (n : ℕ) → 260 < n → Refuses link (UnitData n) TooLong
unfolding step
link_refuses link n h = λ e represented. rw (lt-ltb 260 n h) refl

refused_there : (at : Option Link) (n : ℕ) → IsSome at → 260 < n
    → IsSomeAnd at (λ k. Refuses k (UnitData n) TooLong)
refused_there None n there h = absurd (cc)
refused_there (Some link) n there h = link_refuses link n h

pub long_is_refused : (side : Side) (s : LinkSet) (links : Links) (id : LinkId) (key : LinkKey)
    (now : ℕ) (octets : List ℕ)
    → (key.id ≡ id) × IsKey s.table key → 260 < length octets
    → ShowLinks side s links
    → in_links id (link_acts side id now (UnitData (length octets)) octets) links
    ≡ Err (kind.Link TooLong)
long_is_refused side s links id key now octets found h shown =
    refuses_found side s links key.id id now (UnitData (length octets)) octets TooLong found.0
    (refused_there (link_at s.table key.id) (length octets) (key_is_of_link s.table key found.1) h)
    shown
