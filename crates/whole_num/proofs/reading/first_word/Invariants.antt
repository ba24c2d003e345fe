use Rattle.std.proofs.Common.{◌≡◌, take, true}
use Rattle.std.specs.List.{list_all}
use Rattle.whole_num.specs.NumberTexts.{is_visible}
use Rattle.whole_num.proofs.reading.first_word.Given as goal

-- no blank so far
abbrev pub invariant-loop-i : goal.invariant-loop-i
invariant-loop-i l = list_all is_visible (take l.i l.text) ≡ true
