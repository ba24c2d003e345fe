use Rattle.std.proofs.Common.{option_map, length, ap, ◌∙◌, arith}
use Rattle.syntax_tree.specs.Plain.{symbol_at}
use Rattle.luau_lexer.proofs.Findings.{finds_symbol, symbol_len_fits}
use Rattle.luau_lexer.proofs.Tables.{read_symbol}
use Rattle.luau_lexer.proofs.lexer.Lexer.symbol.Goals as goal

pub take-requires : goal.take-requires
take-requires c =
    let read = c.in-Some.ensures ∙ ap (λ l. option_map read_symbol (symbol_at l)) c.rest.ensures.value in
    omega (arith, (symbol_len_fits c.args.self.now c.in-Some.symbol read).1, ap (λ p. length p.bytes) c.in_ok-note_brace.ensures)

pub returns-clause-found : goal.returns-clause-found
returns-clause-found c = λ texts.
    let read = c.in-Some.ensures ∙ ap (λ l. option_map read_symbol (symbol_at l)) c.rest.ensures.value in
    finds_symbol c.args.self.now c.note_brace.new.self c.take.new.self texts c.in-Some.symbol c.take.result c.in_ok-note_brace.ensures c.take.ensures.token c.take.ensures.place read
