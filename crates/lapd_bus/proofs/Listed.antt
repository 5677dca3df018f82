-- Terminals in code and those of the definition, by index.
use Rattle.std.proofs.Common.{◌≡◌, ℕ, zero, suc, List, [], ◌∷◌, ◌++◌, map, set, length, ◌≤◌, ◌<◌, slice_index_or, Some, None, refl, ap, subst, ◌∙◌, sym, arith}
use Rattle.std.specs.Prelude.{slice_get}
use Rattle.std.proofs.lemmas.Option.{slice_get_past, slice_get_read}
use Rattle.lapd_sides_links.specs.declared.config.Config.{Config}
use Rattle.lapd_sides.specs.User.{User}
use Rattle.lapd_side_events.specs.SideView.{SideView}
use Rattle.lapd_side_events.specs.Bus as bus
use Rattle.lapd_bus.specs.declared.terminal.Terminal.{Terminal}
use Rattle.lapd_bus.specs.Shows.{ShowTerminal, ShowTerminals, reached_by}

-- the terminal in code at an index represents the one of the definition there
pub record IsAt (codes : List Terminal) (config : Config) (i : ℕ) (t : SideView User)
    : Type 0 where
  pub code : Terminal
  pub there : slice_get codes i ≡ Some code
  pub shown : ShowTerminal code config t

same : (t u : SideView User) → Some t ≡ Some u → t ≡ u
same t u e = cc

pub shown_at : (codes : List Terminal) (config : Config) (ts : List (SideView User)) (i : ℕ)
    (t : SideView User) → ShowTerminals codes config ts → slice_get ts i ≡ Some t
    → IsAt codes config i t
shown_at [] config [] i t h at = cc
shown_at [] config (u ∷ us) i t h at = absurd h
shown_at (code ∷ codes) config [] i t h at = absurd h
shown_at (code ∷ codes) config (u ∷ us) zero t h at = record {
  code = code;
  there = refl;
  shown = subst (ShowTerminal code config) (same u t at) h.0;
}
shown_at (code ∷ codes) config (u ∷ us) (suc i) t h at =
    let rest = shown_at codes config us i t h.1 at in
    record { code = rest.code; there = rest.there; shown = rest.shown }

pub shown_set : (codes : List Terminal) (config : Config) (ts : List (SideView User)) (i : ℕ)
    (code : Terminal) (t : SideView User) → ShowTerminals codes config ts
    → ShowTerminal code config t → ShowTerminals (set codes i code) config (set ts i t)
shown_set [] config [] i code t h new = h
shown_set [] config (u ∷ us) i code t h new = absurd h
shown_set (x ∷ xs) config [] i code t h new = absurd h
shown_set (x ∷ xs) config (u ∷ us) zero code t h new = (new, h.1)
shown_set (x ∷ xs) config (u ∷ us) (suc i) code t h new =
    (h.0, shown_set xs config us i code t h.1 new)

pub shown_reached : (codes : List Terminal) (config : Config) (ts : List (SideView User))
    (frames : List (List ℕ)) → ShowTerminals codes config ts
    → ShowTerminals (map (reached_by frames) codes) config (map (bus.reached_by frames) ts)
shown_reached [] config [] frames h = h
shown_reached [] config (u ∷ us) frames h = absurd h
shown_reached (x ∷ xs) config [] frames h = absurd h
shown_reached (x ∷ xs) config (u ∷ us) frames h = (
  record {
    side = h.0.side;
    incoming = ap (λ (line : List (List ℕ)). line ++ frames) h.0.incoming;
    outgoing = h.0.outgoing;
  },
  shown_reached xs config us frames h.1,
)

pub shown_more : (codes : List Terminal) (config : Config) (ts : List (SideView User))
    (code : Terminal) (t : SideView User) → ShowTerminals codes config ts
    → ShowTerminal code config t → ShowTerminals (codes ++ code ∷ []) config (ts ++ t ∷ [])
shown_more [] config [] code t h new = (new, h)
shown_more [] config (u ∷ us) code t h new = absurd h
shown_more (x ∷ xs) config [] code t h new = absurd h
shown_more (x ∷ xs) config (u ∷ us) code t h new = (h.0, shown_more xs config us code t h.1 new)

pub same_count : (codes : List Terminal) (config : Config) (ts : List (SideView User))
    → ShowTerminals codes config ts → length codes ≡ length ts
same_count [] config [] h = refl
same_count [] config (u ∷ us) h = absurd h
same_count (x ∷ xs) config [] h = absurd h
same_count (x ∷ xs) config (u ∷ us) h = ap suc (same_count xs config us h.1)

pub set_same : {X : Type 0} (xs : List X) (i : ℕ) (x : X) → slice_get xs i ≡ Some x
    → set xs i x ≡ xs
set_same [] i x at = refl
set_same {X} (y ∷ ys) zero x at = (let e : x ≡ y = cc in ap (λ (z : X). z ∷ ys) e)
set_same {X} (y ∷ ys) (suc i) x at = ap (λ (zs : List X). y ∷ zs) (set_same ys i x at)

-- the terminal of the definition at the index of one in code
pub record IsShown (code : Terminal) (config : Config) (i : ℕ) (ts : List (SideView User))
    : Type 0 where
  pub terminal : SideView User
  pub there : slice_get ts i ≡ Some terminal
  pub shown : ShowTerminal code config terminal

same_code : (x y : Terminal) → Some x ≡ Some y → x ≡ y
same_code x y e = cc

pub code_at : (codes : List Terminal) (config : Config) (ts : List (SideView User)) (i : ℕ)
    (code : Terminal) → ShowTerminals codes config ts → slice_get codes i ≡ Some code
    → IsShown code config i ts
code_at [] config [] i code h at = cc
code_at [] config (u ∷ us) i code h at = absurd h
code_at (x ∷ xs) config [] i code h at = absurd h
code_at (x ∷ xs) config (u ∷ us) zero code h at = record {
  terminal = u;
  there = refl;
  shown = subst (λ (y : Terminal). ShowTerminal y config u) (same_code x code at) h.0;
}
code_at (x ∷ xs) config (u ∷ us) (suc i) code h at =
    let rest = code_at xs config us i code h.1 at in
    record { terminal = rest.terminal; there = rest.there; shown = rest.shown }

pub none_at : (codes : List Terminal) (config : Config) (ts : List (SideView User)) (i : ℕ)
    → ShowTerminals codes config ts → length codes ≤ i → slice_get ts i ≡ None
none_at codes config ts i h past =
    let none : length ts ≤ i = subst (λ (n : ℕ). n ≤ i) (same_count codes config ts h) past in
    slice_get_past ts i none

-- the terminal in code at an index represents the one of the definition there
pub shown_here : (codes : List Terminal) (config : Config) (ts : List (SideView User)) (i : ℕ)
    (code : Terminal) (t : SideView User) → ShowTerminals codes config ts → i < length codes
    → code ≡ slice_index_or codes i code → slice_get ts i ≡ Some t → ShowTerminal code config t
shown_here codes config ts i code t h within read there =
    let its = code_at codes config ts i code h
    (slice_get_read codes (length codes) i code refl within read) in
    subst (ShowTerminal code config) (same its.terminal t (sym its.there ∙ there)) its.shown

some_code : (x y : Terminal) → Some x ≡ Some y → x ≡ y
some_code x y e = cc

-- two values read at one index are the same
pub same_read : (codes : List Terminal) (i : ℕ) (x y : Terminal) → i < length codes
    → x ≡ slice_index_or codes i x → y ≡ slice_index_or codes i y → x ≡ y
same_read codes i x y within a b = some_code x y
    (sym (slice_get_read codes (length codes) i x refl within a)
    ∙ slice_get_read codes (length codes) i y refl within b)

pub there_at : (codes : List Terminal) (config : Config) (ts : List (SideView User)) (i : ℕ)
    → ShowTerminals codes config ts → i < length codes
    → (t : SideView User) × (slice_get ts i ≡ Some t)
there_at [] config ts i h within = (let no : ⊥ = omega arith in absurd no)
there_at (x ∷ xs) config [] i h within = absurd h
there_at (x ∷ xs) config (u ∷ us) zero h within = (u, refl)
there_at (x ∷ xs) config (u ∷ us) (suc i) h within =
    let rest : i < length xs = omega arith in there_at xs config us i h.1 rest
