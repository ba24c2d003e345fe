use Rattle.std.proofs.Common.{◌≡◌, take, true}
use Rattle.std.specs.List.{list_all}
use Rattle.whole_num.specs.NumberTexts.{is_blank}
use Rattle.whole_num.proofs.reading.behind_blanks.Given as goal

-- blanks so far
abbrev pub invariant-loop-i : goal.invariant-loop-i
invariant-loop-i l = list_all is_blank (take l.i l.text) ≡ true
