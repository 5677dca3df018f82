-- Which frames are printed, by their octets.
use Rattle.std.specs.Prelude.{ℕ, ◌/◌, ◌%◌, ◌==◌, ◌&&◌, ◌||◌, not, Bool, true, false, if◌then◌else◌, List, Option, None, Some, slice_get, option_map}
use Rattle.lapd_filter.specs.declared.filter.Filter.{Filter}

-- no number is requested, or exactly this one was found
abbrev pub is_requested : Option ℕ → Option ℕ → Bool
is_requested None found = true
is_requested (Some number) None = false
is_requested (Some number) (Some found) = number == found

-- the SAPI is in the first octet (Q.921 3.3.3), the TEI in the second (3.3.4)
abbrev pub sapi_in : List ℕ → Option ℕ
sapi_in octets = option_map (λ octet. octet / 4) (slice_get octets 0)

abbrev pub tei_in : List ℕ → Option ℕ
tei_in octets = option_map (λ octet. octet / 2) (slice_get octets 1)

-- whether frames of the kind of this control octet are requested (Q.921 Table 4): bit 1 is 0 in an
-- I frame, bits 2 and 1 are 01 in a supervisory frame; octets without a control octet are requested
-- if all kinds are
abbrev pub is_kind_requested : Filter → Option ℕ → Bool
is_kind_requested filter None = filter.i && (filter.s && filter.u)
is_kind_requested filter (Some control) = if control % 2 == 0 then filter.i else (
    if control % 4 == 1 then filter.s else filter.u)

-- whether these control octets are those of a supervisory frame with P or F 1 (Q.921 Table 4)
abbrev pub is_poll : Option ℕ → Option ℕ → Bool
is_poll None second = false
is_poll (Some first) None = false
is_poll (Some first) (Some second) = (first % 4 == 1) && (second % 2 == 1)

-- whether a frame of these octets is printed
abbrev pub takes : Filter → List ℕ → Bool
takes filter octets = is_requested filter.sapi (sapi_in octets)
    && (is_requested filter.tei (tei_in octets)
    && (is_kind_requested filter (slice_get octets 2)
    && (filter.polls || not (is_poll (slice_get octets 2) (slice_get octets 3)))))
