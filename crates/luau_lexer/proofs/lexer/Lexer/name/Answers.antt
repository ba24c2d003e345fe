use Rattle.std.proofs.Common.{◌≡◌, ap, ◌∙◌, arith, slice_get, take, length}
use Rattle.std.specs.Str.{bytes_eq}
use Rattle.syntax_tree.specs.Plain.{reserved, first_entry, word_of, name_len}
use Rattle.syntax_tree.specs.Tokens.{IsKind, texts_behind}
use Rattle.luau_lexer.proofs.Findings.{finds_name, reserved_kind, name_kind, reserved_notes, name_notes}
use Rattle.luau_lexer.proofs.lexer.Lexer.name.Goals as goal
use Rattle.luau_lexer.proofs.lexer.Lexer.name.Goals.{in-Some, in-None+in_ok-note-in-None}

pub returns-clause-found : goal.returns-clause-found
returns-clause-found c =
    let word = c.split_at.result.0.now in
    let texts = c.match-reserved_word.names in
    let rest = c.rest-bytes.ensures.value in
    let kinds : IsKind texts (word_of word) c.match-reserved_word.kind =
    elim c.match-reserved_word.branch [
      | in-Some w ↦ reserved_kind texts word (first_entry (bytes_eq word) reserved) c.match-reserved_word.kind w.in-Some.kind w.in-Some.ensures w.kind-is
      | in-None+in_ok-note-in-None w ↦ name_kind texts word (first_entry (bytes_eq word) reserved) c.match-reserved_word.kind w.in_ok-note-in-None.field-0 w.in-None.ensures w.kind-is (ap (λ ts. slice_get ts w.in_ok-note-in-None.field-0.0) w.names-is ∙ w.in_ok-note-in-None.ensures.there)
    ] in
    let notes : texts ≡ texts_behind c.args.names.now (word_of word) =
    elim c.match-reserved_word.branch [
      | in-Some w ↦ w.names-is ∙ reserved_notes c.args.names.now word (first_entry (bytes_eq word) reserved) w.in-Some.kind w.in-Some.ensures
      | in-None+in_ok-note-in-None w ↦ name_notes c.args.names.now texts word (first_entry (bytes_eq word) reserved) w.in-None.ensures (w.names-is ∙ w.in_ok-note-in-None.ensures.grown)
    ] in
    let len = c.name_len-len.ensures.value ∙ ap name_len rest in
    finds_name c.args.self.now c.take.new.self c.args.names.now texts c.match-reserved_word.kind c.name_len-len.result word c.take.result c.take.ensures.token c.take.ensures.place (c.split_at.ensures.front ∙ ap (take c.name_len-len.result) rest) len c.requires (omega (arith, c.name_len-len.ensures.within, ap length rest)) kinds notes
