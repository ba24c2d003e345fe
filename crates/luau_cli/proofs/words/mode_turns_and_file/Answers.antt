use Rattle.std.proofs.Common.{sym, ◌∙◌, codes, string_bytes}
use Rattle.std.proofs.lemmas.Slice.Eq.{bytes_eq-Decides}
use Rattle.luau_cli.proofs.CommandWords.{four_words}
use Rattle.luau_cli.proofs.words.mode_turns_and_file.Goals as goal

pub returns-in-len4 : goal.returns-in-len4
returns-in-len4 c =
    four_words string_bytes c.args.words.now c.mode-item.result c.option-item.result c.number-item.result c.file-item.result _ _ _ _
    c.in-len4.len_at_least c.in-len4.len_below c.mode-item.is c.option-item.is c.number-item.is c.file-item.is
    (sym c.as_str-in-len4.ensures.value)
    (sym c.as_str.ensures.value ∙ (bytes_eq-Decides c.as_str.result.now (codes "--turns")).0 (sym c.eq.ensures ∙ c.if-eq.true))
    (sym c.as_str-in-len4-2.ensures.value)
    (sym c.as_str-in-len4-3.ensures.value)
