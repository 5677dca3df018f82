-- The establishment in which a side received each message.
use Rattle.std.specs.Prelude.{◌≡◌, ℕ, ◌<◌, ◌≤◌, nat_le, List, length, slice_get, count_by, option_map, Option, Some}
use Rattle.lapd_pair.specs.declared.received.Received.{Received}

-- the establishment recorded with message number n, from 0
abbrev pub establishment_at : List Received → ℕ → Option ℕ
establishment_at received n = option_map (λ message. message.establishment) (slice_get received n)

-- how many establishments had begun when message number n arrived; for each, `begun` has the number
-- of messages received before it began
abbrev pub begun_at : List ℕ → ℕ → ℕ
begun_at begun n = count_by (λ before. nat_le before n) begun

-- Each message arrived in the establishment that was then the latest. The same holds for the next
-- message, whatever its number.
pub record AreNumbered (received : List Received) (begun : List ℕ) : Type 0 where
  pub arrived : (n : ℕ) → n < length received → establishment_at received n ≡ Some
      (begun_at begun n)
  pub next : (n : ℕ) → length received ≤ n → begun_at begun n ≡ length begun
