-- The effects of the outputs of TEI management.
use Rattle.std.proofs.Common.{◌≡◌, ℕ, List, ◌++◌, [], sym, ap, ◌∙◌}
use Rattle.std.proofs.lemmas.List.{append-nil}
use Rattle.std.specs.List.{filter_map}
use Rattle.lapd_timers.specs.Due.{Timers}
use Rattle.lapd_frame.specs.declared.Side.{Side}
use Rattle.lapd_tei.specs.declared.out.TeiOut.{TeiOut}
use Rattle.lapd_tei.specs.Out.{tei_given, tei_freed}
use Rattle.lapd_sides_links.specs.declared.config.Config.{Config}
use Rattle.lapd_sides_links.specs.declared.link_set.LinkSet.{LinkSet}
use Rattle.lapd_sides_links.specs.declared.primitive.Primitive.{Primitive}
use Rattle.lapd_sides_links.specs.Effects.{Effects, managed, message_sent, outcome_of, no_effects}
use Rattle.lapd_sides.specs.Management.{links_with, links_without, removal_primitives, manages}
use Rattle.lapd_sides_links.specs.Links.{Served}
use Rattle.lapd_sides_links.specs.Shown.{ShowLinks}
use Rattle.lapd_sides.specs.Shows.{HaveServed}
use Rattle.lapd_sides_links.proofs.Acting.{same_effects}

-- the links of a freed TEI are removed, and the primitives are in order
pub carried_out : (side : Side) (config : Config) (now : ℕ) (outs : List TeiOut) (s : Served)
    (links : LinkSet) (timers : Timers) (count : ℕ) (acts : Effects)
    → ShowLinks side links
    (links_without (tei_freed outs) (links_with config (tei_given outs) s.links))
    → timers ≡ managed now outs s.timers
    → acts.frames ≡ filter_map (message_sent side) outs
    → acts.primitives ≡ filter_map outcome_of outs
    ++ removal_primitives (tei_freed outs) (links_with config (tei_given outs) s.links)
    → HaveServed side (record { links = links; timers = timers; discarded = count }) acts
    (manages side config now outs s)
unfolding manages
carried_out side config now outs s links timers count acts shown timed frames primitives = record {
  shown = record { links = shown; timers = timed };
  given = same_effects acts _ _ frames primitives;
}

-- appended to earlier effects, which are empty
pub frames_first : (before first second third : Effects) (frames : List (List ℕ))
    → before ≡ no_effects → first.frames ≡ before.frames ++ frames → second.frames ≡ first.frames
    → third.frames ≡ second.frames → third.frames ≡ frames
frames_first before first second third frames empty is same still =
    still ∙ same ∙ is ∙ ap (λ (e : Effects). e.frames ++ frames) empty

pub primitives_behind : (before first second third : Effects) (outcomes delivered : List Primitive)
    → before ≡ no_effects → first.primitives ≡ before.primitives
    → second.primitives ≡ first.primitives ++ outcomes
    → third.primitives ≡ second.primitives ++ delivered → third.primitives ≡ outcomes ++ delivered
primitives_behind before first second third outcomes delivered empty same is then =
    then
    ∙ ap (λ (l : List Primitive). l ++ delivered)
    (is
    ∙ ap (λ (l : List Primitive). l ++ outcomes)
    (same ∙ ap (λ (e : Effects). e.primitives) empty))

pub behind_nothing : (l : List Primitive) → l ≡ l ++ []
behind_nothing l = sym (append-nil l)
