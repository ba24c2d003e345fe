use Rattle.std.proofs.Common.{subst}
use Rattle.luau_lexer.proofs.OneTokenList.{lexed}
use Rattle.syntax_tree.specs.Parsed.{IsParsed}
use Rattle.luau_parser.specs.Refusals.{IsRefusal}
use Rattle.luau_cli.proofs.Readings.{refused_reading, without_tokens, without_tree, with_fault, is_read}
use Rattle.luau_cli.proofs.script.read_script.Goals as goal

pub returns-in-Err : goal.returns-in-Err
returns-in-Err c =
    refused_reading _ _ _ c.refused.result c.refused.ensures c.refusal.ensures (without_tokens _ _ c.in-Err.ensures.fault)

pub returns-in-Err-parse : goal.returns-in-Err-parse
returns-in-Err-parse c =
    let spelled = lexed _ _ _ c.in-Ok.tokens.items c.new-names.ensures c.in-Ok.ensures.tokens in
    let refusal = subst (λ ts. IsRefusal ts c.in-Err-parse.error) c.as_slice.ensures.value c.in-Err-parse.ensures.refusal in
    refused_reading _ _ _ c.refused-in-Err-parse.result c.refused-in-Err-parse.ensures c.refusal-in-Err-parse.ensures (without_tree _ _ _ spelled refusal)

pub returns-in-Err-resolve : goal.returns-in-Err-resolve
returns-in-Err-resolve c =
    let spelled = lexed _ _ _ c.in-Ok.tokens.items c.new-names.ensures c.in-Ok.ensures.tokens in
    let parsed = subst (λ ts. IsParsed ts c.in-Ok-parse.tree) c.as_slice.ensures.value c.in-Ok-parse.ensures.tree in
    refused_reading _ _ _ c.refused-in-Err-resolve.result c.refused-in-Err-resolve.ensures c.refusal-in-Err-resolve.ensures
    (with_fault _ _ c.in-Ok-parse.tree _ spelled parsed c.in-Err-resolve.ensures)

pub returns-in-Ok-resolve : goal.returns-in-Ok-resolve
returns-in-Ok-resolve c =
    let parsed = subst (λ ts. IsParsed ts c.in-Ok-parse.tree) c.as_slice.ensures.value c.in-Ok-parse.ensures.tree in
    is_read _ _ _ c.in-Ok.tokens.items _ c.new-names.ensures c.in-Ok.ensures.tokens parsed c.in-Ok-parse.ensures.names c.in-Ok-resolve.ensures
