use Rattle.std.proofs.Common.{List, Option, false, ap, ◌∙◌}
use Rattle.lapd_follow.specs.Follower.{LineKnown, new_line}
use Rattle.lapd_follow.specs.Listening.{Listening}
use Rattle.lapd_follow.specs.declared.link_tally.LinkTally.{LinkTally}
use Rattle.lapd_follow.proofs.listener.Listener.new.Goals as goal

pub returns : goal.returns
returns c =
    let of_line : LineKnown → Listening =
    λ line. record { line = line; tallies = c.in_ok-new-2.field-0; is_violated = false } in
    let of_tallies : List (Option LinkTally) → Listening =
    λ tallies.
    record { line = new_line c.args.k; tallies = tallies; is_violated = false } in
    ap of_line c.in_ok-new.ensures ∙ ap of_tallies c.in_ok-new-2.ensures
