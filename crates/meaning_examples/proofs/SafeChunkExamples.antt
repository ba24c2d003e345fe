-- Runs of chunks, computed: imports and fast calls, which a changed environment turns off.
use Rattle.std.proofs.Common.{◌≡◌, List, [], ◌∷◌, refl, true, false, map}
use Rattle.std.specs.Prelude.{codes}
use Rattle.op_words.specs.declared.chunk.Const.TheVariants as constant
use Rattle.op_words.specs.Decoding.{insn_of, named}
use Rattle.value_model.specs.Values.{kind_of, is_true}
use Rattle.value_model.specs.Tables.{same, get, set, put, border, next_entry}
use Rattle.value_model.specs.Store.{table_at, with_table}
use Rattle.whole_num.specs.NumberTexts.{read_number, read_with_base}
use Rattle.value_model.specs.Metamethods.{index, newindex, arith, choose, is_function, metamethod, as_number, compare, callee_of, concat_two, length_of}
use Rattle.value_model.specs.Names.{name_of, text_of, as_plain}
use Rattle.value_model.specs.Operators.{calculated}
use Rattle.value_model.specs.Errors.{error_text}
use Rattle.value_model.specs.Library.{lib, go_on}
use Rattle.value_model.specs.Waiting.{wait}
use Rattle.value_model.specs.CoroutineRows.{coroutine_of, with_coroutine}
use Rattle.value_model.specs.Loops.{bounds, goes_on, iteration}
use Rattle.value_model.specs.Fresh.{fresh, look}
use Rattle.value_model.specs.Waits.{Ended}
use Rattle.std.specs.Fmt.{digits}
use Rattle.machine_meaning.specs.Runs.{imports_of}
use Rattle.machine_meaning.specs.WellFormed.{code_faults}
use Rattle.meaning_examples.proofs.Codes.{Code, outcome, wanted, faults, proto}

-- `print(math.max(1, 2), type("x"))`
abbrev safe_fast_call : Code
safe_fast_call = record {
  chunk = record { strings = codes "print" ∷ codes "math" ∷ codes "max" ∷ codes "type" ∷ codes "x" ∷ []; protos = (proto 4 0 0 true (63 ∷ 65547 ∷ 1073741824 ∷ 262411 ∷ 2149583872 ∷ 66051 ∷ 131843 ∷ 33688387 ∷ 3 ∷ 65797 ∷ 33751316 ∷ 393739 ∷ 1078984704 ∷ 459524 ∷ 16777537 ∷ 131589 ∷ 131604 ∷ 16777236 ∷ 65557 ∷ []) ((constant.Str 0) ∷ (constant.Import 1073741824) ∷ (constant.Str 1) ∷ (constant.Str 2) ∷ (constant.Import 2149583872) ∷ (constant.Str 3) ∷ (constant.Import 1078984704) ∷ (constant.Str 4) ∷ []) []) ∷ []; main = 0 };
  turns = 0;
  moves = 15;
  end = Ended [];
  lines = ((0, codes "2\tstring") ∷ []);
  looks = 0;
}

-- `local function g() getfenv().math = {max = function() return 7 end} return 1 end print(math.max(g(), 5), math.max(1, 2))`
abbrev safe_environment_changed : Code
safe_environment_changed = record {
  chunk = record { strings = codes "getfenv" ∷ codes "max" ∷ codes "math" ∷ codes "print" ∷ []; protos = (proto 1 0 0 false (458755 ∷ 131093 ∷ 65557 ∷ []) [] []) ∷ (proto 3 0 0 false (65547 ∷ 1073741824 ∷ 33619988 ∷ 312 ∷ 0 ∷ 530 ∷ 66063 ∷ 2 ∷ 271 ∷ 3 ∷ 65539 ∷ 131093 ∷ 65557 ∷ []) ((constant.Str 0) ∷ (constant.Import 1073741824) ∷ (constant.Str 1) ∷ (constant.Str 2) ∷ []) (0 ∷ [])) ∷ (proto 6 0 0 true (63 ∷ 18 ∷ 65803 ∷ 1073741824 ∷ 262667 ∷ 2149583872 ∷ 773 ∷ 33620756 ∷ 328707 ∷ 33753923 ∷ 4 ∷ 131589 ∷ 33751572 ∷ 262923 ∷ 2149583872 ∷ 66563 ∷ 132355 ∷ 16780097 ∷ 197381 ∷ 197396 ∷ 16777492 ∷ 65557 ∷ []) ((constant.Str 3) ∷ (constant.Import 1073741824) ∷ (constant.Str 2) ∷ (constant.Str 1) ∷ (constant.Import 2149583872) ∷ []) (1 ∷ [])) ∷ []; main = 2 };
  turns = 2;
  moves = 51;
  end = Ended [];
  lines = ((2, codes "5\t7") ∷ []);
  looks = 4;
}

-- `print(string.len("abc"), math.huge)`
abbrev safe_import : Code
safe_import = record {
  chunk = record { strings = codes "print" ∷ codes "string" ∷ codes "len" ∷ codes "abc" ∷ codes "math" ∷ codes "huge" ∷ []; protos = (proto 3 0 0 true (63 ∷ 65547 ∷ 1073741824 ∷ 262411 ∷ 2149583872 ∷ 328196 ∷ 16912450 ∷ 65797 ∷ 33685780 ∷ 524811 ∷ 2153782272 ∷ 16973844 ∷ 65557 ∷ []) ((constant.Str 0) ∷ (constant.Import 1073741824) ∷ (constant.Str 1) ∷ (constant.Str 2) ∷ (constant.Import 2149583872) ∷ (constant.Str 3) ∷ (constant.Str 4) ∷ (constant.Str 5) ∷ (constant.Import 2153782272) ∷ []) []) ∷ []; main = 0 };
  turns = 0;
  moves = 17;
  end = Ended [];
  lines = ((0, codes "3\tnil") ∷ []);
  looks = 3;
}

-- `print(pcall(function() return math.abs("x") end))`
abbrev safe_error_in_a_fast_call : Code
safe_error_in_a_fast_call = record {
  chunk = record { strings = codes "print" ∷ codes "pcall" ∷ codes "math" ∷ codes "abs" ∷ codes "x" ∷ []; protos = (proto 2 0 0 false (131083 ∷ 2147484672 ∷ 196868 ∷ 16844354 ∷ 5 ∷ 131092 ∷ 21 ∷ 65557 ∷ []) ((constant.Str 2) ∷ (constant.Str 3) ∷ (constant.Import 2147484672) ∷ (constant.Str 4) ∷ []) []) ∷ (proto 3 0 0 true (63 ∷ 65547 ∷ 1073741824 ∷ 196875 ∷ 1075838976 ∷ 530 ∷ 131348 ∷ 16777236 ∷ 65557 ∷ []) ((constant.Str 0) ∷ (constant.Import 1073741824) ∷ (constant.Str 1) ∷ (constant.Import 1075838976) ∷ []) (0 ∷ [])) ∷ []; main = 1 };
  turns = 1;
  moves = 24;
  end = Ended [];
  lines = ((1, codes "false\tinvalid argument #1 to 'abs' (number expected, got string)") ∷ []);
  looks = 0;
}

-- `math = nil print(math.max(1, 2))`
abbrev safe_global_gone : Code
safe_global_gone = record {
  chunk = record { strings = codes "math" ∷ codes "print" ∷ codes "max" ∷ []; protos = (proto 4 0 0 true (63 ∷ 1 ∷ 7 ∷ 0 ∷ 131083 ∷ 1074790400 ∷ 262 ∷ 0 ∷ 65806 ∷ 3 ∷ 66051 ∷ 131843 ∷ 196884 ∷ 16777236 ∷ 65557 ∷ []) ((constant.Str 0) ∷ (constant.Str 1) ∷ (constant.Import 1074790400) ∷ (constant.Str 2) ∷ []) []) ∷ []; main = 0 };
  turns = 0;
  moves = 21;
  end = Ended [];
  lines = ((0, codes "2") ∷ []);
  looks = 4;
}

abbrev codes_run : List Code
codes_run = safe_fast_call ∷ safe_environment_changed ∷ safe_import ∷ safe_error_in_a_fast_call ∷ safe_global_gone ∷ []

-- each runs so
all_run : map outcome codes_run ≡ map wanted codes_run
unfolding wait lib go_on choose index newindex arith compare callee_of concat_two length_of is_function metamethod as_number read_number read_with_base calculated table_at with_table same get set put border next_entry kind_of is_true name_of text_of as_plain error_text fresh look bounds goes_on iteration coroutine_of with_coroutine digits insn_of named imports_of code_faults
all_run = refl

-- each is well formed
all_well_formed : map faults codes_run ≡ map (λ c. []) codes_run
unfolding wait lib go_on choose index newindex arith compare callee_of concat_two length_of is_function metamethod as_number read_number read_with_base calculated table_at with_table same get set put border next_entry kind_of is_true name_of text_of as_plain error_text fresh look bounds goes_on iteration coroutine_of with_coroutine digits insn_of named imports_of code_faults
all_well_formed = refl
