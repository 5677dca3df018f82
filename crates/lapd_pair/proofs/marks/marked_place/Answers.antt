use Rattle.std.proofs.Common.{ℕ, length, rules, tests, sym, ap, ◌∙◌}
use Rattle.std.proofs.lemmas.Iterator.{YieldsList-from_slice}
use Rattle.std.proofs.lemmas.Iterator.Search.{position_from_yields_List}
use Rattle.std.specs.Option.{unwrap_or}
use Rattle.arrayvec.specs.ArrayVec.{ArrayVec}
use Rattle.lapd_frame.specs.Reading.{frame_at}
use Rattle.lapd_pair.specs.Marks.{is_read_marked}
use Rattle.lapd_pair.proofs.Lines.{place_or_all, place_within, position_or_len-map}
use Rattle.lapd_pair.proofs.marks.marked_place.Goals as goal

pub returns : goal.returns
returns c =
    let frames = c.args.frames.now in
    c.unwrap_or.ensures
    ∙ ap (λ o. unwrap_or o (length frames))
    (position_from_yields_List
    (λ (frame : ArrayVec ℕ). is_read_marked c.args.role (frame_at c.args.from frame.items))
    _ _ c.position.result c.position.ensures.ran
    (YieldsList-from_slice frames c.iter.ensures.rest) (λ x b q k. search (rules, tests)))
    ∙ place_or_all _ (length frames) (place_within _ frames)
    ∙ sym (position_or_len-map (λ (frame : ArrayVec ℕ). frame.items)
    (λ octets. is_read_marked c.args.role (frame_at c.args.from octets)) frames)
