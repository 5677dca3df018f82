-- The configuration of a side, in the form that C passes.
use Rattle.std.specs.Prelude.{◌≡◌, ℕ, List, Bool, Option, Some, None, not, ◌==◌, ◌||◌, nat_lt, if◌then◌else◌}
use Rattle.std.specs.List.{list_all}
use Rattle.lapd_timers.specs.Durations.{Lengths, lengths_of}
use Rattle.lapd_link_definition.specs.Parameters.{Parameters, parameters_of}
use Rattle.lapd_sides_links.specs.declared.config.Config.{Config}
use Rattle.lapd_sides_links.specs.Effects.{no_effects}
use Rattle.lapd_sides.specs.Network.{new_network}
use Rattle.lapd_sides.specs.User.{new_user, seeded}
use Rattle.lapd_sides.specs.ShowsNetwork.{ShowNetwork}
use Rattle.lapd_sides.specs.ShowsUser.{ShowUser}
use Rattle.lapd_sides.specs.declared.either_side.EitherSide.{EitherSide}
use Rattle.lapd_sides.specs.declared.either_side.EitherSide.TheVariants as either
use Rattle.lapd_c.specs.declared.settings.Settings.{Settings}
use Rattle.lapd_c.specs.declared.settings.TheConstants.{SETTINGS_SIZE}
use Rattle.lapd_c.specs.declared.held_side.HeldSide.{HeldSide}
use Rattle.lapd_c.specs.Calls.{waiting}

-- ---- The configuration, if each number is in its range.

abbrev pub config_with : Settings → Option Parameters → Option Parameters → Option Lengths
    → Option Config
config_with s (Some params0) (Some params16) (Some durations) = Some (record {
  sapi16 = not (s.sapi16 == 0);
  params0 = params0;
  params16 = params16;
  durations = durations;
  seed = s.seed;
})
config_with s None params16 durations = None
config_with s (Some params0) None durations = None
config_with s (Some params0) (Some params16) None = None

-- room for settings of later versions
abbrev pub is_0 : ℕ → Bool
is_0 number = number == 0

-- the settings have the size of this version, at least one frame or primitive may wait, and the
-- room is not used
abbrev pub config_of : Settings → Option Config
config_of s = if not (s.size == SETTINGS_SIZE) || ((s.most_waiting == 0)
    || not (list_all is_0 s.reserved)) then None
    else config_with s (parameters_of s.k0 s.n200 s.room) (parameters_of s.k16 s.n200 s.room)
    (lengths_of s.t200 s.t201 s.t202 s.t203)

-- a TEI of 0 to 126
abbrev pub is_own_tei : ℕ → Bool
is_own_tei tei = nat_lt tei 127

abbrev pub own_tei : ℕ → Option ℕ
own_tei tei = if is_own_tei tei then Some tei else None

abbrev pub network_config : Settings → List ℕ → Option Config
network_config settings known = if list_all is_own_tei known then config_of settings else None

-- 255 means that a user side has no fixed TEI
abbrev pub fixed_tei : ℕ → Option ℕ
fixed_tei tei = if tei == 255 then None else Some tei

abbrev pub is_fixed_tei : ℕ → Bool
is_fixed_tei tei = (tei == 255) || is_own_tei tei

abbrev pub user_config : Settings → ℕ → Option Config
user_config settings tei = if is_fixed_tei tei then config_of settings else None

-- ---- The created side.

abbrev pub IsNewNetwork : List ℕ → Config → EitherSide → Type 0
IsNewNetwork known config (either.Network side) = ShowNetwork side config (new_network config known)
IsNewNetwork known config (either.User side) = ⊥

abbrev pub IsNewUser : ℕ → Config → EitherSide → Type 0
IsNewUser tei config (either.Network side) = ⊥
IsNewUser tei config (either.User side) =
    ShowUser side config (new_user config (fixed_tei tei) (seeded config.seed))

-- the side is new, without results, has this limit for waiting results, and does not count
pub record IsNew (config : Config) (IsMade : Config → EitherSide → Type 0) (most : ℕ)
    (held : HeldSide) : Type 0 where
  pub side : IsMade config held.queued.side
  pub waits : waiting held ≡ no_effects
  pub limit : held.most_waiting ≡ most
  pub counts : held.counts ≡ None
