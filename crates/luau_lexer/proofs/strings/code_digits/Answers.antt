use Rattle.std.proofs.Common.{arith}
use Rattle.luau_lexer.proofs.Digits.{hex_front}
use Rattle.luau_lexer.proofs.strings.code_digits.Goals as goal

pub value_of-value-requires-clause-digits : goal.value_of-value-requires-clause-digits
value_of-value-requires-clause-digits c =
    hex_front c.args.bytes.now c.hex_digits_len-len.result (omega (arith, c.hex_digits_len-len.ensures.value))
