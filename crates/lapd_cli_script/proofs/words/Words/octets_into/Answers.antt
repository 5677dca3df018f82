use Rattle.std.proofs.Common.{◌≡◌, Option, List, ℕ, sym, ap, subst, ◌∙◌, rules}
use Rattle.lapd_cli_script.specs.Line.{Reads, octets_behind, words_of}
use Rattle.lapd_cli_script.proofs.LastWord.{last_words}
use Rattle.lapd_cli_script.proofs.words.Words.octets_into.Goals as goal

pub returns-in-Some-clause-octets : goal.returns-in-Some-clause-octets
returns-in-Some-clause-octets c =
    let left : c.args.self ≡ words_of c.in-Some.digits.now = search rules in
    subst (λ (parsed : Option (List ℕ)). Reads {X = Unit {0}} {Y = List ℕ}
    (λ done. c.fill_with.new.octets.items) c.fill_with.result parsed)
    (sym (ap octets_behind left ∙ last_words c.in-Some.digits.now)) c.fill_with.ensures.octets
