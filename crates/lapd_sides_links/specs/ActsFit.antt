-- The fields of `Acts`: there is room for the results of any call, and each frame is one.
use Rattle.std.specs.Prelude.{◌≤◌, length}
use Rattle.std.specs.List.{All}
use Rattle.std.specs.Vec.{vec_capacity}
use Rattle.lapd_sides_links.specs.declared.acts.Acts.TheInside.{Inside}
use Rattle.lapd_sides_links.specs.declared.acts.TheConstants.{MOST_FRAMES, MOST_PRIMITIVES}
use Rattle.lapd_sides_links.specs.Effects.{HasLeastOctets}
use Rattle.lapd_sides_links.specs.WrittenOver.{in_use}

pub record ActsFit (a : Inside) : Type 0 where
  pub frame_room : MOST_FRAMES ≤ vec_capacity a.frames
  pub primitive_room : MOST_PRIMITIVES ≤ vec_capacity a.primitives
  pub frames_begin : a.first_frame ≤ a.frames_end
  pub frames_end : a.frames_end ≤ length a.frames.items
  pub primitives_begin : a.first_primitive ≤ a.primitives_end
  pub primitives_end : a.primitives_end ≤ length a.primitives.items
  pub least : All (λ f. HasLeastOctets f.items) (in_use a.first_frame a.frames_end a.frames.items)
