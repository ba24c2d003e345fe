use Rattle.std.proofs.Common.{arith}
use Rattle.luau_lexer.proofs.Digits.{decimal_front}
use Rattle.luau_lexer.proofs.strings.decimal_escape.Goals as goal

pub value_of-value-requires-clause-digits : goal.value_of-value-requires-clause-digits
value_of-value-requires-clause-digits c =
    decimal_front c.args.bytes.now c.min-len.result (omega (arith, c.digits_len.ensures.value, c.min-len.ensures))
