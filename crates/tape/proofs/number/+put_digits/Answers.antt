use Rattle.std.proofs.Common.{◌≡◌, ◌+◌, ◌/◌, ◌%◌, length, set, decimal, sym, ap, ◌∙◌, arith, rules}
use Rattle.tape.proofs.Laid.{laid_digit, laid_tenth, length_digit, length_tenth}
use Rattle.tape.specs.Writing.{laid}
use Rattle.tape.proofs.number.+put_digits.Goals as goal

pub put_digit-requires : goal.put_digit-requires
put_digit-requires t c = (omega arith, omega (arith, length_digit c.args.n (omega arith)))

pub returns-then-n-lt10 : goal.returns-then-n-lt10
returns-then-n-lt10 t c =
    let one = length_digit c.args.n (omega arith) in
    record {
      next = c.put_digit.ensures.next ∙ sym (ap (λ k. c.args.at + k) one);
      bytes = c.put_digit.ensures.bytes ∙ laid_digit c.args.line.now c.args.at c.args.n (omega arith);
    }

pub put_digits-end-requires : goal.put_digits-end-requires
put_digits-end-requires t c = (search rules, omega (arith, length_tenth c.args.n (omega arith) (omega arith)))

pub put_digit-requires-2 : goal.put_digit-requires-2
put_digit-requires-2 t c = (omega arith, omega (arith, length_tenth c.args.n (omega arith) (omega arith)))

pub returns : goal.returns
returns t c =
    let n = c.args.n in
    let line = c.args.line.now in
    let at = c.args.at in
    let end : c.put_digits-end.result ≡ at + length (decimal (n / 10)) = c.put_digits-end.ensures.next in
    record {
      next = omega (arith, c.put_digit-2.ensures.next, length_tenth n (omega arith) (omega arith));
      bytes =
          c.put_digit-2.ensures.bytes
          ∙ ap (λ b. set b c.put_digits-end.result (48 + n % 10)) c.put_digits-end.ensures.bytes
          ∙ ap (λ k. set (laid line at (decimal (n / 10))) k (48 + n % 10)) end
          ∙ laid_tenth line at n (omega arith) (omega arith);
    }
