-- Runs of chunks, computed: code that looks everything up.
use Rattle.std.proofs.Common.{◌≡◌, pos, List, [], ◌∷◌, refl, true, false, map}
use Rattle.std.specs.Prelude.{codes}
use Rattle.op_words.specs.declared.chunk.Const.TheVariants as constant
use Rattle.op_words.specs.Decoding.{insn_of, named}
use Rattle.value_model.specs.Values.{kind_of, is_true}
use Rattle.value_model.specs.Tables.{same, get, set, put, border, next_entry}
use Rattle.value_model.specs.Store.{table_at, with_table}
use Rattle.whole_num.specs.NumberTexts.{read_number, read_with_base}
use Rattle.value_model.specs.Metamethods.{index, newindex, arith, choose, is_function, metamethod, as_number, compare, callee_of, concat_two, length_of}
use Rattle.value_model.specs.Names.{Content, name_of, text_of, as_plain}
use Rattle.value_model.specs.Operators.{calculated}
use Rattle.value_model.specs.Errors.{error_text}
use Rattle.value_model.specs.Library.{lib, go_on}
use Rattle.value_model.specs.Waiting.{wait}
use Rattle.value_model.specs.CoroutineRows.{coroutine_of, with_coroutine}
use Rattle.value_model.specs.Loops.{bounds, goes_on, iteration}
use Rattle.value_model.specs.Fresh.{fresh, look}
use Rattle.value_model.specs.Waits.{Ended, Stopped, Unfinished}
use Rattle.value_model.specs.declared.plain.Plain.TheVariants as plain
use Rattle.whole_num.specs.declared.arithmetic.Stop.TheVariants as stop
use Rattle.std.specs.Fmt.{digits}
use Rattle.machine_meaning.specs.Runs.{imports_of}
use Rattle.machine_meaning.specs.WellFormed.{code_faults}
use Rattle.meaning_examples.proofs.Codes.{Code, outcome, wanted, faults, proto}

-- ``
abbrev empty : Code
empty = record {
  chunk = record { strings = []; protos = (proto 1 0 0 true (63 ∷ 65557 ∷ []) [] []) ∷ []; main = 0 };
  turns = 0;
  moves = 3;
  end = Ended [];
  lines = [];
  looks = 0;
}

-- `print(1 + 2)`
abbrev sum : Code
sum = record {
  chunk = record { strings = codes "print" ∷ []; protos = (proto 3 0 0 true (63 ∷ 6 ∷ 0 ∷ 65795 ∷ 131587 ∷ 33620256 ∷ 16908308 ∷ 65557 ∷ []) ((constant.Str 0) ∷ []) []) ∷ []; main = 0 };
  turns = 0;
  moves = 13;
  end = Ended [];
  lines = ((0, codes "3") ∷ []);
  looks = 2;
}

-- `local a = 1 local function f() a = 10 return 1 end print(a + f(), a)`
abbrev assigned_by_a_call : Code
assigned_by_a_call = record {
  chunk = record { strings = codes "print" ∷ []; protos = (proto 1 0 1 false (655363 ∷ 9 ∷ 65539 ∷ 131093 ∷ 65557 ∷ []) [] []) ∷ (proto 5 0 0 true (63 ∷ 65539 ∷ 274 ∷ 320 ∷ 518 ∷ 0 ∷ 773 ∷ 66565 ∷ 33621012 ∷ 67306272 ∷ 1029 ∷ 16974356 ∷ 65557 ∷ []) ((constant.Str 0) ∷ []) (0 ∷ [])) ∷ []; main = 1 };
  turns = 1;
  moves = 24;
  end = Ended [];
  lines = ((1, codes "2\t10") ∷ []);
  looks = 2;
}

-- `local t = {} for i = 1, 3 do local v = i t[i] = function() return v end v = v + 10 end print(t[1](), t[2](), t[3]())`
abbrev fresh_loop_variables : Code
fresh_loop_variables = record {
  chunk = record { strings = codes "print" ∷ []; protos = (proto 1 0 1 false (8 ∷ 131093 ∷ 65557 ∷ []) [] []) ∷ (proto 9 0 0 true (63 ∷ 56 ∷ 0 ∷ 66563 ∷ 262917 ∷ 197635 ∷ 262405 ∷ 66051 ∷ 917818 ∷ 197637 ∷ 263429 ∷ 1541 ∷ 263941 ∷ 2066 ∷ 328000 ∷ 117835789 ∷ 329221 ∷ 657155 ∷ 117835296 ∷ 394501 ∷ 1290 ∷ 1034 ∷ 4294050107 ∷ 262 ∷ 0 ∷ 517 ∷ 66307 ∷ 50463244 ∷ 33620500 ∷ 773 ∷ 132099 ∷ 67306252 ∷ 33620756 ∷ 1029 ∷ 197891 ∷ 84149260 ∷ 66580 ∷ 16777492 ∷ 65557 ∷ []) ((constant.Str 0) ∷ []) (0 ∷ [])) ∷ []; main = 1 };
  turns = 6;
  moves = 94;
  end = Ended [];
  lines = ((6, codes "11\t12\t13") ∷ []);
  looks = 8;
}

-- `local function f(...) return select("#", ...), ... end print((f(4, nil)), f(4, nil))`
abbrev varargs : Code
varargs = record {
  chunk = record { strings = codes "select" ∷ codes "#" ∷ codes "print" ∷ []; protos = (proto 3 0 0 true (63 ∷ 6 ∷ 0 ∷ 65796 ∷ 574 ∷ 33554452 ∷ 318 ∷ 21 ∷ 65557 ∷ []) ((constant.Str 0) ∷ (constant.Str 1) ∷ []) []) ∷ (proto 6 0 0 true (63 ∷ 18 ∷ 262 ∷ 0 ∷ 517 ∷ 262915 ∷ 1025 ∷ 33751572 ∷ 773 ∷ 263171 ∷ 1281 ∷ 197396 ∷ 16777492 ∷ 65557 ∷ []) ((constant.Str 2) ∷ []) (0 ∷ [])) ∷ []; main = 1 };
  turns = 2;
  moves = 46;
  end = Ended [];
  lines = ((2, codes "2\t2\t4\tnil") ∷ []);
  looks = 6;
}

-- `for i = 1, 10 do end`
abbrev loop_in_ten : Code
loop_in_ten = record {
  chunk = record { strings = []; protos = (proto 4 0 0 true (63 ∷ 66307 ∷ 197125 ∷ 656131 ∷ 196613 ∷ 65795 ∷ 196666 ∷ 131845 ∷ 778 ∷ 4294770747 ∷ 65557 ∷ []) [] []) ∷ []; main = 0 };
  turns = 10;
  moves = 49;
  end = Ended [];
  lines = [];
  looks = 0;
}

-- `for i = 1, 10 do end`
abbrev loop_in_nine : Code
loop_in_nine = record {
  chunk = record { strings = []; protos = (proto 4 0 0 true (63 ∷ 66307 ∷ 197125 ∷ 656131 ∷ 196613 ∷ 65795 ∷ 196666 ∷ 131845 ∷ 778 ∷ 4294770747 ∷ 65557 ∷ []) [] []) ∷ []; main = 0 };
  turns = 9;
  moves = 46;
  end = Unfinished;
  lines = [];
  looks = 0;
}

-- `local i = 0 repeat i += 1 local j = i until j == 3 print(i)`
abbrev repeat_sees_its_local : Code
repeat_sees_its_local = record {
  chunk = record { strings = codes "print" ∷ []; protos = (proto 4 0 0 true (63 ∷ 3 ∷ 261 ∷ 66051 ∷ 33620256 ∷ 65541 ∷ 261 ∷ 66053 ∷ 197379 ∷ 131610 ∷ 3 ∷ 16777730 ∷ 66050 ∷ 131608 ∷ 266 ∷ 4294049815 ∷ 266 ∷ 262 ∷ 0 ∷ 517 ∷ 16908564 ∷ 65557 ∷ []) ((constant.Str 0) ∷ []) []) ∷ []; main = 0 };
  turns = 2;
  moves = 52;
  end = Ended [];
  lines = ((2, codes "3") ∷ []);
  looks = 2;
}

-- `return 1, "x", nil`
abbrev returned : Code
returned = record {
  chunk = record { strings = codes "x" ∷ []; protos = (proto 3 0 0 true (63 ∷ 65539 ∷ 260 ∷ 513 ∷ 262165 ∷ 65557 ∷ []) ((constant.Str 0) ∷ []) []) ∷ []; main = 0 };
  turns = 0;
  moves = 6;
  end = Ended ((Content (plain.Num (pos 1))) ∷ (Content (plain.Text (codes "x"))) ∷ (Content plain.Nil) ∷ []);
  lines = [];
  looks = 0;
}

-- `print(7 / 2)`
abbrev not_whole : Code
not_whole = record {
  chunk = record { strings = codes "print" ∷ []; protos = (proto 3 0 0 true (63 ∷ 6 ∷ 0 ∷ 459011 ∷ 131587 ∷ 33620259 ∷ 16908308 ∷ 65557 ∷ []) ((constant.Str 0) ∷ []) []) ∷ []; main = 0 };
  turns = 0;
  moves = 6;
  end = Stopped stop.NotWhole;
  lines = [];
  looks = 2;
}

-- `local t = {} t.a = 1 t.b = 2 t.a = nil t.c = 3 t.a = 4 for k, v in t do print(k, v) end`
abbrev order_of_insertion : Code
order_of_insertion = record {
  chunk = record { strings = codes "a" ∷ codes "b" ∷ codes "c" ∷ codes "print" ∷ []; protos = (proto 9 0 0 true (63 ∷ 56 ∷ 0 ∷ 261 ∷ 66051 ∷ 66063 ∷ 0 ∷ 261 ∷ 131587 ∷ 66063 ∷ 1 ∷ 261 ∷ 513 ∷ 66063 ∷ 0 ∷ 261 ∷ 197123 ∷ 66063 ∷ 2 ∷ 261 ∷ 262659 ∷ 66063 ∷ 0 ∷ 261 ∷ 513 ∷ 769 ∷ 393532 ∷ 1542 ∷ 3 ∷ 263941 ∷ 329733 ∷ 16975380 ∷ 1034 ∷ 4294508861 ∷ 2 ∷ 65557 ∷ []) ((constant.Str 0) ∷ (constant.Str 1) ∷ (constant.Str 2) ∷ (constant.Str 3) ∷ []) []) ∷ []; main = 0 };
  turns = 4;
  moves = 75;
  end = Ended [];
  lines = ((1, codes "a\t4") ∷ (2, codes "b\t2") ∷ (3, codes "c\t3") ∷ []);
  looks = 11;
}

-- `local log = {} local t = setmetatable({}, {__newindex = function(_, k, v) log[k] = v end}) t.a = 1 print(rawget(t, "a"), log.a)`
abbrev newindex_function : Code
newindex_function = record {
  chunk = record { strings = codes "setmetatable" ∷ codes "__newindex" ∷ codes "a" ∷ codes "print" ∷ codes "rawget" ∷ []; protos = (proto 6 3 1 false (776 ∷ 66565 ∷ 132357 ∷ 67306765 ∷ 65557 ∷ []) [] []) ∷ (proto 6 0 0 true (63 ∷ 56 ∷ 0 ∷ 262 ∷ 0 ∷ 568 ∷ 0 ∷ 824 ∷ 0 ∷ 1042 ∷ 320 ∷ 197647 ∷ 1 ∷ 33751316 ∷ 66053 ∷ 66307 ∷ 131855 ∷ 2 ∷ 518 ∷ 3 ∷ 774 ∷ 4 ∷ 66565 ∷ 132356 ∷ 33751828 ∷ 1029 ∷ 263182 ∷ 2 ∷ 16974356 ∷ 65557 ∷ []) ((constant.Str 0) ∷ (constant.Str 1) ∷ (constant.Str 2) ∷ (constant.Str 3) ∷ (constant.Str 4) ∷ []) (0 ∷ [])) ∷ []; main = 1 };
  turns = 1;
  moves = 44;
  end = Ended [];
  lines = ((1, codes "nil\t1") ∷ []);
  looks = 10;
}

-- `local v = setmetatable({}, {__concat = function(a, b) return "joined" end}) print("a" .. "b" .. v)`
abbrev concat_metamethod : Code
concat_metamethod = record {
  chunk = record { strings = codes "setmetatable" ∷ codes "joined" ∷ codes "__concat" ∷ codes "print" ∷ codes "a" ∷ codes "b" ∷ []; protos = (proto 3 2 0 false (516 ∷ 131605 ∷ 65557 ∷ []) ((constant.Str 1) ∷ []) []) ∷ (proto 5 0 0 true (63 ∷ 6 ∷ 0 ∷ 312 ∷ 0 ∷ 568 ∷ 0 ∷ 786 ∷ 131855 ∷ 1 ∷ 33751060 ∷ 262 ∷ 2 ∷ 197124 ∷ 262916 ∷ 1029 ∷ 67240500 ∷ 16908564 ∷ 65557 ∷ []) ((constant.Str 0) ∷ (constant.Str 2) ∷ (constant.Str 3) ∷ (constant.Str 4) ∷ (constant.Str 5) ∷ []) (0 ∷ [])) ∷ []; main = 1 };
  turns = 1;
  moves = 33;
  end = Ended [];
  lines = ((1, codes "ajoined") ∷ []);
  looks = 5;
}

-- `print(pcall(error, "x"))`
abbrev protected : Code
protected = record {
  chunk = record { strings = codes "print" ∷ codes "pcall" ∷ codes "error" ∷ codes "x" ∷ []; protos = (proto 4 0 0 true (63 ∷ 6 ∷ 0 ∷ 262 ∷ 1 ∷ 518 ∷ 2 ∷ 197380 ∷ 196884 ∷ 16777236 ∷ 65557 ∷ []) ((constant.Str 0) ∷ (constant.Str 1) ∷ (constant.Str 2) ∷ (constant.Str 3) ∷ []) []) ∷ []; main = 0 };
  turns = 1;
  moves = 21;
  end = Ended [];
  lines = ((1, codes "false\tx") ∷ []);
  looks = 6;
}

-- `local t = setmetatable({}, {__index = function(_, k) local ok, v = pcall(function() return coroutine.yield(k) end) return v end}) local co = coroutine.create(function() return t.x .. "!" end) print(coroutine.resume(co)) print(coroutine.resume(co, "y")) print(coroutine.status(co))`
abbrev yield_across_a_protected_call : Code
yield_across_a_protected_call = record {
  chunk = record { strings = codes "setmetatable" ∷ codes "pcall" ∷ codes "coroutine" ∷ codes "yield" ∷ codes "__index" ∷ codes "create" ∷ codes "x" ∷ codes "!" ∷ codes "print" ∷ codes "resume" ∷ codes "y" ∷ codes "status" ∷ []; protos = (proto 2 0 1 false (6 ∷ 0 ∷ 14 ∷ 1 ∷ 264 ∷ 131092 ∷ 21 ∷ 65557 ∷ []) ((constant.Str 2) ∷ (constant.Str 3) ∷ []) []) ∷ (proto 5 2 0 false (518 ∷ 0 ∷ 786 ∷ 65856 ∷ 50463252 ∷ 197637 ∷ 132117 ∷ 65557 ∷ []) ((constant.Str 1) ∷ []) (0 ∷ [])) ∷ (proto 2 0 1 false (8 ∷ 14 ∷ 0 ∷ 65796 ∷ 16777268 ∷ 131093 ∷ 65557 ∷ []) ((constant.Str 6) ∷ (constant.Str 7) ∷ []) []) ∷ (proto 6 0 0 true (63 ∷ 6 ∷ 0 ∷ 312 ∷ 0 ∷ 568 ∷ 0 ∷ 786 ∷ 131855 ∷ 1 ∷ 33751060 ∷ 262 ∷ 2 ∷ 65806 ∷ 3 ∷ 66066 ∷ 320 ∷ 33685780 ∷ 518 ∷ 4 ∷ 774 ∷ 2 ∷ 197390 ∷ 5 ∷ 66565 ∷ 131860 ∷ 16777748 ∷ 518 ∷ 4 ∷ 774 ∷ 2 ∷ 197390 ∷ 5 ∷ 66565 ∷ 394500 ∷ 197396 ∷ 16777748 ∷ 518 ∷ 4 ∷ 774 ∷ 2 ∷ 197390 ∷ 7 ∷ 66565 ∷ 131860 ∷ 16777748 ∷ 65557 ∷ []) ((constant.Str 0) ∷ (constant.Str 4) ∷ (constant.Str 2) ∷ (constant.Str 5) ∷ (constant.Str 8) ∷ (constant.Str 9) ∷ (constant.Str 10) ∷ (constant.Str 11) ∷ []) (1 ∷ 2 ∷ [])) ∷ []; main = 3 };
  turns = 5;
  moves = 105;
  end = Ended [];
  lines = ((4, codes "true\tx") ∷ (5, codes "true\ty!") ∷ (5, codes "dead") ∷ []);
  looks = 27;
}

abbrev codes_run : List Code
codes_run = empty ∷ sum ∷ assigned_by_a_call ∷ fresh_loop_variables ∷ varargs ∷ loop_in_ten ∷ loop_in_nine ∷ repeat_sees_its_local ∷ returned ∷ not_whole ∷ order_of_insertion ∷ newindex_function ∷ concat_metamethod ∷ protected ∷ yield_across_a_protected_call ∷ []

-- each runs so
all_run : map outcome codes_run ≡ map wanted codes_run
unfolding wait lib go_on choose index newindex arith compare callee_of concat_two length_of is_function metamethod as_number read_number read_with_base calculated table_at with_table same get set put border next_entry kind_of is_true name_of text_of as_plain error_text fresh look bounds goes_on iteration coroutine_of with_coroutine digits insn_of named imports_of code_faults
all_run = refl

-- each is well formed
all_well_formed : map faults codes_run ≡ map (λ c. []) codes_run
unfolding wait lib go_on choose index newindex arith compare callee_of concat_two length_of is_function metamethod as_number read_number read_with_base calculated table_at with_table same get set put border next_entry kind_of is_true name_of text_of as_plain error_text fresh look bounds goes_on iteration coroutine_of with_coroutine digits insn_of named imports_of code_faults
all_well_formed = refl
