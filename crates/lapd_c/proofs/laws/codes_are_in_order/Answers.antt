use Rattle.std.proofs.Common.{[]}
use Rattle.lapd_sides.specs.Either.{Takes, Answers, Gives}
use Rattle.lapd_c.proofs.CodeOrder.{of_side, of_link, of_check, of_check_all, of_tei, of_message, of_tick}
use Rattle.lapd_c.proofs.laws.codes_are_in_order.Goals as goal

pub returns : goal.returns
returns c = record {
  frame = λ octets now. of_side (Takes octets now) octets;
  request = λ request now. of_side (Answers request now) [];
  link = λ request now. of_link (λ id. Answers (request id) now);
  give = λ octets now. of_link (λ id. Gives id octets now);
  check = of_check;
  check_all = of_check_all;
  tei = λ request now. of_tei (λ tei. Answers (request tei) now);
  message = λ request now. of_message (λ id message. Answers (request id message) now);
  tick = of_tick;
}
