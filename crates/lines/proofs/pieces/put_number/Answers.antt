use Rattle.std.proofs.Common.{◌++◌, length, drop, sym, ap, ◌∙◌, arith}
use Rattle.std.proofs.lemmas.Fmt.{decimal_digit}
use Rattle.lines.proofs.pieces.put_number.Goals as goal

pub put_bytes-requires : goal.put_bytes-requires
put_bytes-requires c = omega (arith, ap length (decimal_digit c.args.n c.if-n-lt10.true), c.requires)

pub returns-then-n-lt10-clause-after : goal.returns-then-n-lt10-clause-after
returns-then-n-lt10-clause-after c = c.put_bytes.ensures.after ∙ sym (ap length (decimal_digit c.args.n c.if-n-lt10.true))

pub returns-then-n-lt10-clause-put : goal.returns-then-n-lt10-clause-put
returns-then-n-lt10-clause-put c =
    c.put_bytes.ensures.put ∙ sym (ap (λ t. t ++ drop c.put_bytes.result c.args.line.now) (decimal_digit c.args.n c.if-n-lt10.true))
