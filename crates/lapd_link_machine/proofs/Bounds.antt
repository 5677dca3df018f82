-- Frames and timers are not reported to the layers above.
use Rattle.std.proofs.Common.{◌≡◌, ◌≤◌, ◌+◌, ◌++◌, ◌∷◌, [], ℕ, List, Bool, false, length, refl, ap, ◌∙◌, append-nil, arith}
use Rattle.std.specs.List.{filter}
use Rattle.std.proofs.lemmas.List.Elements.{filter-append}
use Rattle.std.proofs.lemmas.List.Sums.{length-filter, count_by-le-length}
use Rattle.lapd_link_definition.specs.declared.out.Out.{Out}
use Rattle.lapd_link_definition.specs.Input.{Input, Heard, Faulty, Expiry, Establish, Release, BusyOn, BusyOff, UnitData, Give}
use Rattle.lapd_link_machine.specs.Bounds.{is_primitive, primitive_count, most_outputs, IsBounded}

pub primitives_among : (outs : List Out) → primitive_count outs ≤ length outs
primitives_among outs = rw (length-filter is_primitive outs) (count_by-le-length is_primitive outs)

-- the outputs of a step, by those of its row, and by whether the link is established then
all_of : (input : Input) (n : ℕ) → n ≤ 136 → (input ≡ Establish → n ≤ 7) → n ≤ most_outputs input
all_of Establish n few brief = brief refl
all_of (Heard control role) n few brief = few
all_of (Faulty kind) n few brief = few
all_of (Expiry timer) n few brief = few
all_of Release n few brief = few
all_of BusyOn n few brief = few
all_of BusyOff n few brief = few
all_of (UnitData len) n few brief = few
all_of (Give message) n few brief = few

pub bounded : (input : Input) (established : Bool) (of_row outs : List Out) → length of_row ≤ 6
    → (input ≡ Establish → established ≡ false) → length outs ≤ 136
    → (established ≡ false → length outs ≤ length of_row + 1)
    → primitive_count outs ≡ primitive_count of_row
    → IsBounded input outs
bounded input established of_row outs six waits few quiet same = record {
  all = all_of input (length outs) few (λ h. let one = quiet (waits h) in omega (arith, one, six));
  reported = let n = primitives_among of_row in rw same (omega (arith, n, six));
}
