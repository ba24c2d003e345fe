use Rattle.std.proofs.Common.{sym, string_bytes}
use Rattle.luau_cli.proofs.CommandWords.{two_words}
use Rattle.luau_cli.proofs.words.mode_and_file.Goals as goal

pub returns-in-len2 : goal.returns-in-len2
returns-in-len2 c =
    two_words string_bytes c.args.words.now c.mode-item.result c.file-item.result _ _ c.in-len2.len_at_least c.in-len2.len_below c.mode-item.is
    c.file-item.is (sym c.as_str.ensures.value) (sym c.as_str-in-len2.ensures.value)
