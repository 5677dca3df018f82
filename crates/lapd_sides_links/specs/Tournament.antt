-- A tournament of the running timers: of each pair the earlier expiry advances, up to the first of
-- all.
use Rattle.std.specs.Prelude.{◌≡◌, ◌≢◌, ℕ, ◌+◌, ◌*◌, ◌/◌, ◌<◌, ◌≤◌, List, length, get_or, Option, Some, None, ◌⊎◌}
use Rattle.lapd_sides_links.specs.declared.running_timer.RunningTimer.{RunningTimer}
use Rattle.lapd_sides_links.specs.Places.{IsSooner}

-- the expiry at an index, if any
abbrev pub entry : List (Option RunningTimer) → ℕ → Option RunningTimer
entry entries at = get_or entries at None

-- the expiry is at some index
pub record IsEntered (entries : List (Option RunningTimer)) (e : RunningTimer) : Type 0 where
  pub at : ℕ
  pub there : entry entries at ≡ Some e

-- the expiry at a node is the earlier one of its two children
abbrev pub IsWonAt : List (Option RunningTimer) → ℕ → Type 0
IsWonAt nodes n = IsSooner (entry nodes (2 * n)) (entry nodes (2 * n + 1)) (entry nodes n)

-- Each of the nodes 1 to 255 has the earlier expiry of its children, 2n and 2n + 1; nodes 256 to
-- 511 are the slots. The node `open_node` is exempt; it is 0 if none is.
pub record IsWonBut (open_node : ℕ) (nodes : List (Option RunningTimer)) : Type 0 where
  pub size : length nodes ≡ 512
  pub won : (n : ℕ) → n ≢ open_node → 1 ≤ n → n < 256 → IsWonAt nodes n

-- exactly one slot may be occupied, and the nodes above it have not been updated
pub record IsAlone (place : ℕ) (nodes : List (Option RunningTimer)) : Type 0 where
  pub low : 256 ≤ place
  pub high : place < 512
  pub others : (n : ℕ) → 256 ≤ n → n ≢ place → entry nodes n ≡ None
  pub above : entry nodes (place / 2) ≡ None
  pub won : IsWonBut (place / 2) nodes

-- the first expiry is at node 1, or in the only slot that is not empty
abbrev pub HasTop : ℕ → List (Option RunningTimer) → Type 0
HasTop top nodes = ((top ≡ 1) × IsWonBut 0 nodes) ⊎ IsAlone top nodes
