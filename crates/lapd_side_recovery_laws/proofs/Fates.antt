-- What an event of a side does to one of its links: no step of it, or one step, by its own frame,
-- timer or request.
use Rattle.std.proofs.Common.{◌≡◌, ◌⊎◌, ℕ, Bool, true, false, List, [], ◌∷◌}
use Rattle.std.specs.Prelude.{is_some}
use Rattle.std.specs.List.{list_any}
use Rattle.lapd_timers.specs.declared.timer.Timer.{Timer}
use Rattle.lapd_timers.specs.declared.timer.Timer.TheVariants.{T200, T203}
use Rattle.lapd_timers.specs.Due.{Timers}
use Rattle.lapd_frame.specs.declared.Side.{Side}
use Rattle.lapd_frame.specs.Address.{other_side}
use Rattle.lapd_link_definition.specs.Input.{Input, Heard, Expiry}
use Rattle.lapd_pair_laws.specs.Line.{Flight}
use Rattle.lapd_pair_laws.specs.Move.{View}
use Rattle.lapd_table.specs.declared.link_id.LinkId.{LinkId}
use Rattle.lapd_sides_links.specs.Effects.{stopped}
use Rattle.lapd_sides_links.specs.Links.{IsOfLink, Links, Reaction}
use Rattle.lapd_side_events.specs.SideView.{Behaviour, SideView, runs_on}
use Rattle.lapd_two_side_laws.specs.Addressed.{all_spelled, is_final_for, is_poll_for, those_for}
use Rattle.lapd_two_side_laws.specs.Owed.{IsStep, IsUnmovedBy, PassesBy}
use Rattle.lapd_two_side_laws.specs.Premises.{is_removal}
use Rattle.lapd_two_side_laws.specs.Primitives.{given_to}

abbrev pub is_203 : Timer → Bool
is_203 T203 = true
is_203 timer = false

-- `idle`: T203 of the link expires. `Leaves`: the event leaves the link alone. `more`: the messages
-- accepted; `line`: the octets that stay in transit to the side.
module _ {S : Type 0} (w : Behaviour S) (side : Side) (id : LinkId) (v : SideView S) (view : View)
    (at : ℕ) (idle : Bool) (Leaves : Type 0) (a : Reaction S) (more : List (LinkId × List ℕ))
    (line : List (List ℕ)) where
  abbrev Before : Links
  Before = (w.served v.now).links

  abbrev After : Links
  After = (w.served a.after).links

  abbrev Passes : Type 0
  Passes = PassesBy side id Before After a.effects

  abbrev StepsBy : Input → List ℕ → (Timers → Timers) → Type 0
  StepsBy input octets change = IsStep side id at input octets change Before After a.effects

  pub record IsOther : Type 0 where
    pub by : IsUnmovedBy side id at (w.fresh id) (list_any (is_removal id.tei) v.delivered) Before
        After a.effects
    pub none_given : given_to id more ≡ []
    pub stays : is_some (Before id) ≡ true → Leaves
        → those_for (other_side side) id line ≡ those_for (other_side side) id v.incoming

  pub record Receives : Type 0 where
    pub frame : Flight
    pub behind : List Flight
    pub are : view.incoming ≡ frame ∷ behind
    pub is_step : StepsBy (Heard frame.control frame.role) frame.info (λ t. t)
    pub none_given : given_to id more ≡ []
    pub tail : those_for (other_side side) id line ≡ all_spelled (other_side side) id behind

  pub record Expires : Type 0 where
    pub timer : Timer
    pub own : IsOfLink timer
    pub counts : is_203 timer ≡ true → idle ≡ true
    pub runs : runs_on timer (Before id) ≡ true
    pub clear : timer ≡ T200 → (list_any (is_poll_for side id) v.outgoing ≡ false)
        × (list_any (is_final_for (other_side side) id) v.incoming ≡ false)
    pub is_step : StepsBy (Expiry timer) [] (stopped timer)
    pub none_given : given_to id more ≡ []
    pub same : line ≡ v.incoming

  pub record IsAsked : Type 0 where
    pub input : Input
    pub octets : List ℕ
    pub is_step : StepsBy input octets (λ t. t)
    pub alone : Leaves → Passes × (given_to id more ≡ [])
    pub same : line ≡ v.incoming

  abbrev pub Fate : Type 0
  Fate = IsOther ⊎ (Receives ⊎ (Expires ⊎ IsAsked))
