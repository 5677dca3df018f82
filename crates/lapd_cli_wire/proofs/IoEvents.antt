-- Calls, one after another.
use Rattle.std.proofs.Common.{◌≡◌, List, [], ◌++◌, Option, None, Some, sym, ap, subst, ◌∙◌, append_assoc}
use Rattle.std.proofs.lemmas.List.{append-nil}
use Rattle.lapd_cli_wire.specs.IoEvents.{Adds, IoEvent}

pub adds_none : (a : Option (List IoEvent)) → Adds a a []
adds_none None = tt
adds_none (Some before) = sym (append-nil before)

pub adds_same : (a b : Option (List IoEvent)) → b ≡ a → Adds a b []
adds_same a b same = subst (λ (x : Option (List IoEvent)). Adds a x []) (sym same) (adds_none a)

pub adds_both : (a b c : Option (List IoEvent)) (first last : List IoEvent) → Adds a b first
    → Adds b c last → Adds a c (first ++ last)
adds_both None None None first last p q = tt
adds_both None None (Some after) first last p q = absurd q
adds_both None (Some mid) c first last p q = absurd p
adds_both (Some before) None c first last p q = absurd p
adds_both (Some before) (Some mid) None first last p q = absurd q
adds_both (Some before) (Some mid) (Some after) first last p q =
    q ∙ ap (λ (io_events : List IoEvent). io_events ++ last) p ∙ append_assoc before first last
