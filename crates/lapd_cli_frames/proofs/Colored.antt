-- The remarks on a line in color: with names the remark on the kind of a message is left out.
use Rattle.std.proofs.Common.{◌≡◌, ℕ, Bool, true, false, List, refl}
use Rattle.lapd_follow.specs.declared.remarks.Remarks.{Remarks}
use Rattle.lapd_cli_ladder.specs.Words.{said_beside}
use Rattle.lapd_cli_frames.specs.declared.style.Style.TheVariants.{Plain, Named, Brief}
use Rattle.lapd_cli_frames.specs.Frames.{said_if}
use Rattle.lapd_cli_frames.specs.Remarked.{remarked}

pub named_beside : (is_followed : Bool) (said : Remarks) (text : List ℕ)
    → remarked Named (said_if is_followed said) text
    ≡ remarked Plain (said_if is_followed (said_beside true said)) text
named_beside true said text = refl
named_beside false said text = refl

pub brief_beside : (is_followed : Bool) (said : Remarks) (text : List ℕ)
    → remarked Brief (said_if is_followed said) text
    ≡ remarked Plain (said_if is_followed (said_beside true said)) text
brief_beside true said text = refl
brief_beside false said text = refl
