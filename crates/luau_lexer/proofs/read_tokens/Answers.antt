use Rattle.std.proofs.Common.{subst}
use Rattle.syntax_tree.specs.Spellings.{form_of}
use Rattle.luau_lexer.specs.Finding.{Finds}
use Rattle.luau_lexer.proofs.Courses.{read_gap, read_token, read_all}
use Rattle.luau_lexer.proofs.Texts.{keeps_more}
use Rattle.luau_lexer.proofs.read_tokens.Goals as goal

pub returns-in_err-next-clause-kept : goal.returns-in_err-next-clause-kept
returns-in_err-next-clause-kept c =
    keeps_more c.args.names.now c.loop-tokens.names c.next.new.names c.loop-tokens.invariant.kept c.next.ensures.kept

pub returns-in_err-push-in-Next-clause-kept : goal.returns-in_err-push-in-Next-clause-kept
returns-in_err-push-in-Next-clause-kept c =
    keeps_more c.args.names.now c.loop-tokens.names c.next.new.names c.loop-tokens.invariant.kept c.next.ensures.kept

pub loop-tokens-preserved-in-Passed : goal.loop-tokens-preserved-in-Passed
loop-tokens-preserved-in-Passed c =
    let p = c.loop-tokens.lexer in
    let gap = subst (Finds (form_of p.bytes p.braces) p c.next.new.self c.loop-tokens.names c.next.new.names) c.in-Passed.is c.in_ok-next.ensures.found in
    read_gap c.args.source.now p c.args.names.now c.loop-tokens.names c.loop-tokens.tokens.items c.next.new.self c.next.new.names c.loop-tokens.invariant gap.0 gap.1 c.next.ensures.kept

pub loop-tokens-preserved : goal.loop-tokens-preserved
loop-tokens-preserved c =
    let p = c.loop-tokens.lexer in
    let token = subst (Finds (form_of p.bytes p.braces) p c.next.new.self c.loop-tokens.names c.next.new.names) c.in-Next.is c.in_ok-next.ensures.found in
    read_token c.args.source.now p c.args.names.now c.loop-tokens.names c.loop-tokens.tokens.items c.next.new.self c.next.new.names c.in-Next.token c.push.new.self.items c.in_ok-push-in-Next.ensures.items c.loop-tokens.invariant token c.next.ensures.kept

pub returns-in-Finished-clause-tokens : goal.returns-in-Finished-clause-tokens
returns-in-Finished-clause-tokens c =
    let p = c.loop-tokens.lexer in
    let ends = subst (Finds (form_of p.bytes p.braces) p c.next.new.self c.loop-tokens.names c.next.new.names) c.in-Finished.is c.in_ok-next.ensures.found in
    read_all c.args.source.now p c.args.names.now c.loop-tokens.names c.loop-tokens.tokens.items c.next.new.names c.loop-tokens.invariant ends.0 ends.1 c.next.ensures.kept
