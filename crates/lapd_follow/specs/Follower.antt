-- All data links of a line, by SAPI and TEI, and the assignment of TEIs.
use Rattle.std.specs.Prelude.{ℕ, ◌+◌, ◌*◌, ◌==◌, if◌then◌else◌, Bool, false, List, map, set, replicate, slice_get, Option, Some, None}
use Rattle.lapd_frame.specs.declared.Sapi.{Sapi}
use Rattle.lapd_frame.specs.declared.Sapi.TheVariants.{Call, Packet, Management}
use Rattle.lapd_frame.specs.declared.Address.{Address}
use Rattle.lapd_follow.specs.declared.identity.Identity.{Identity}
use Rattle.lapd_follow.specs.declared.remark.Remark.TheVariants.{Manages}
use Rattle.lapd_follow.specs.declared.remarks.Remarks.{Remarks}
use Rattle.lapd_follow.specs.Identities.{identity_of, renewed}
use Rattle.lapd_follow.specs.Link.{LinkKnown, Sighting, is_followed, new_link, said_of, link_after}
use Rattle.lapd_follow.specs.Teis.{TeisKnown, conflict_of, new_teis, teis_after}

-- ---- Links.

-- the window k of all links, if it is known, and each link of which a frame was seen
pub record LinksKnown : Type 0 where
  pub k : Option ℕ
  pub links : List (Option LinkKnown)

abbrev pub sapi_place : Sapi → ℕ
sapi_place Call = 0
sapi_place Packet = 1
sapi_place Management = 2

-- the place of the link with this address: 128 TEIs for each of three SAPIs
abbrev pub place_of : Address → ℕ
place_of a = sapi_place a.sapi * 128 + a.tei

-- nothing was seen
abbrev pub new_links : Option ℕ → LinksKnown
new_links k = record { k = k; links = replicate 384 None }

-- a link that was not seen is new
abbrev pub link_or_new : Option ℕ → Option (Option LinkKnown) → LinkKnown
link_or_new k (Some (Some l)) = l
link_or_new k (Some None) = new_link k
link_or_new k None = new_link k

-- the link at a place, if a frame of it was seen
abbrev pub seen_link : Option (Option LinkKnown) → Option LinkKnown
seen_link (Some link) = link
seen_link None = None

abbrev pub link_at : ℕ → LinksKnown → LinkKnown
link_at place all = link_or_new all.k (slice_get all.links place)

-- the remarks of its own link on a frame
abbrev pub said_on_links : Sighting → LinksKnown → Remarks
said_on_links s all = said_of s (link_at (place_of s.frame.address) all)

-- the links after it: no other link changes
abbrev pub links_after : Sighting → LinksKnown → LinksKnown
links_after s all = record all {
  links = set all.links (place_of s.frame.address)
      (Some (link_after s (link_at (place_of s.frame.address) all)));
}

-- nothing is known of a link
abbrev pub no_link : Option LinkKnown → Option LinkKnown
no_link link = None

-- nothing is known of the links of this TEI; the group TEI stands for all
abbrev pub without_tei : ℕ → List (Option LinkKnown) → List (Option LinkKnown)
without_tei tei links = if tei == 127 then map no_link links
    else set (set (set links tei None) (tei + 128) None) (tei + 256) None

abbrev pub forgotten : Option ℕ → List (Option LinkKnown) → List (Option LinkKnown)
forgotten None links = links
forgotten (Some tei) links = without_tei tei links

-- ---- A line: its links, and its TEIs.

pub record LineKnown : Type 0 where
  pub links : LinksKnown
  pub teis : TeisKnown

abbrev pub new_line : Option ℕ → LineKnown
new_line k = record { links = new_links k; teis = new_teis }

-- the remarks on a frame, with those on its message of TEI management
abbrev pub managed : Identity → TeisKnown → Remarks → Remarks
managed message teis said = record said {
  identity = Some (Manages message);
  conflict = conflict_of message teis;
}

abbrev pub managed_if : Option Identity → TeisKnown → Remarks → Remarks
managed_if None teis said = said
managed_if (Some message) teis said = managed message teis said

-- all remarks on a frame: they depend on its own link and on the messages of TEI management alone
abbrev pub said_on_line : Sighting → LineKnown → Remarks
said_on_line s line =
    managed_if (identity_of s.sender s.frame) line.teis (said_on_links s line.links)

-- The line after a message of TEI management. After the assignment or the removal of a TEI its
-- links are new.
abbrev pub line_with_message : Identity → LineKnown → LineKnown
line_with_message message line = record {
  links = record line.links { links = forgotten (renewed message) line.links.links };
  teis = teis_after message line.teis;
}

abbrev pub line_with_message_if : Option Identity → LineKnown → LineKnown
line_with_message_if None line = line
line_with_message_if (Some message) line = line_with_message message line

-- The line after frames that were not seen. Nothing is known of its links and its TEIs: it is a line
-- whose first frame is still to be seen.
abbrev pub line_anew : LineKnown → LineKnown
line_anew line = record {
  links = record line.links { links = map no_link line.links.links };
  teis = new_teis;
}

-- the numbers of both ends of the link with this address are known
abbrev pub is_seen_followed : Option LinkKnown → Bool
is_seen_followed None = false
is_seen_followed (Some l) = is_followed l

abbrev pub is_followed_on : Address → LineKnown → Bool
is_followed_on a line = is_seen_followed (seen_link (slice_get line.links.links (place_of a)))

-- the line after a frame
abbrev pub line_after : Sighting → LineKnown → LineKnown
line_after s line = line_with_message_if (identity_of s.sender s.frame)
    (record line { links = links_after s line.links })
