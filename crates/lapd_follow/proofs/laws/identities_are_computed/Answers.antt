use Rattle.std.proofs.Common.{refl}
use Rattle.lapd_follow.proofs.laws.identities_are_computed.Goals as goal

pub returns-clause-assigned : goal.returns-clause-assigned
returns-clause-assigned c = refl

pub returns-clause-checked : goal.returns-clause-checked
returns-clause-checked c = refl

pub returns-clause-given_twice : goal.returns-clause-given_twice
returns-clause-given_twice c = refl

pub returns-clause-given_below : goal.returns-clause-given_below
returns-clause-given_below c = refl

pub returns-clause-given_anew : goal.returns-clause-given_anew
returns-clause-given_anew c = refl
