use Rattle.std.proofs.Common.{◌≡◌, ◌+◌, ◌≤◌, length, drop, Some, ap, ◌∙◌, refl, arith, length-drop}
use Rattle.byte_text.specs.Texts.{noted}
use Rattle.syntax_tree.specs.declared.token.TokenKind.TheVariants.{Str}
use Rattle.syntax_tree.specs.declared.form.Form.TheVariants as form
use Rattle.syntax_tree.specs.Plain.{Text}
use Rattle.luau_lexer.proofs.Findings.{finds_token, long_string_stands}
use Rattle.luau_lexer.proofs.lexer.Lexer.long_string.Goals as goal

pub returns-in_ok-id-in-Some-clause-found : goal.returns-in_ok-id-in-Some-clause-found
returns-in_ok-id-in-Some-clause-found c =
    let p = c.args.self.now in
    let level = c.args.level in
    let k = c.in-Some.k in
    let text = c.in_ok-text-in-Some.text.items in
    let after : c.split_at.result.1.now ≡ drop (level + 2) p.bytes = c.split_at.ensures.back ∙ ap (drop (level + 2)) c.rest.ensures.value in
    let stands = long_string_stands p level k c.split_at.result.1.now c.split_at-in-Some.result.0.now text after c.in-Some.ensures.value c.split_at-in-Some.ensures.front c.in_ok-text-in-Some.ensures in
    let within : level + 2 + k + (level + 2) ≤ length p.bytes = omega (arith, c.in-Some.ensures.within, ap length after, length-drop (level + 2) p.bytes, c.requires) in
    finds_token (form.LongString level) p c.take.new.self p.braces c.args.names.now c.note.new.names (Text text) (Str c.in_ok-id-in-Some.id) (level + 2 + k + (level + 2)) c.take.result c.take.ensures.token c.take.ensures.place stands (omega arith) within (record { id = c.in_ok-id-in-Some.id; is = refl; there = c.in_ok-id-in-Some.ensures.there ∙ ap Some c.as_slice.ensures.value }) (c.in_ok-id-in-Some.ensures.grown ∙ ap (noted c.args.names.now) c.as_slice.ensures.value)
