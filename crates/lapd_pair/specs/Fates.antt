-- A list of fates after some of them end.
use Rattle.std.specs.Prelude.{ℕ, ◌+◌, List, ◌++◌, map, take, drop}
use Rattle.lapd_pair.specs.declared.fate.Fate.{Fate}
use Rattle.lapd_pair.specs.declared.fate.Ending.{Ending}

-- a fate with this ending
abbrev pub ended : Ending → Fate → Fate
ended ending fate = record fate { end = ending }

-- the n fates from index `first` on have this ending; the others are unchanged
abbrev pub with_endings : Ending → ℕ → ℕ → List Fate → List Fate
with_endings ending first n fates = take first fates
    ++ map (ended ending) (take n (drop first fates)) ++ drop (first + n) fates
