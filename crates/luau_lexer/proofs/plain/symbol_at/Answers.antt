use Rattle.std.proofs.Common.{sym}
use Rattle.luau_lexer.proofs.Tables.{symbol_read}
use Rattle.luau_lexer.proofs.plain.symbol_at.Goals as goal

pub returns : goal.returns
returns c =
    symbol_read c.args.bytes.now c.in_ok-place.place c.symbol_len.result c.symbol_kind.result (sym c.in_ok-place.ensures.value) c.symbol_kind.ensures c.symbol_len.ensures
