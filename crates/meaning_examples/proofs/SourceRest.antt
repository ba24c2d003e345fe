-- Runs of scripts, computed: protected calls, coroutines, environments, and what else there is.
use Rattle.std.proofs.Common.{◌≡◌, pos, List, [], ◌∷◌, refl, true, false, map}
use Rattle.std.specs.Prelude.{codes}
use Rattle.syntax_tree.specs.declared.tree.BinOp.TheVariants as op
use Rattle.syntax_tree.specs.declared.tree.UnOp.TheVariants as unary
use Rattle.syntax_tree.specs.declared.tree.FuncBody.{roll-FuncBody, out-FuncBody}
use Rattle.syntax_tree.specs.declared.tree.Arm.{roll-Arm, out-Arm}
use Rattle.syntax_tree.specs.declared.tree.ExprKind.{out-ExprKind}
use Rattle.syntax_tree.specs.declared.tree.FieldKind.{out-FieldKind}
use Rattle.syntax_tree.specs.declared.tree.StatKind.{out-StatKind}
use Rattle.syntax_tree.specs.declared.tree.ExprKind as expr
use Rattle.syntax_tree.specs.declared.tree.StatKind as stat
use Rattle.syntax_tree.specs.declared.tree.ExprKind.TheBlock.{hidden-the_row-Expr-0, hidden-the_row-Expr-1, hidden-the_row-Field-2, hidden-the_row-ExprArm-3, hidden-the_row-Stat-4, hidden-the_row-Arm-5, shape-the_row-Expr-0, shape-the_row-Expr-1, shape-the_row-Field-2, shape-the_row-ExprArm-3, shape-the_row-Stat-4, shape-the_row-Arm-5, shown-the_row-Expr-0, shown-the_row-Expr-1, shown-the_row-Field-2, shown-the_row-ExprArm-3, shown-the_row-Stat-4, shown-the_row-Arm-5}
use Rattle.value_model.specs.Values.{kind_of, is_true}
use Rattle.value_model.specs.Tables.{same, get, set, put, border, next_entry}
use Rattle.value_model.specs.Store.{table_at, with_table}
use Rattle.whole_num.specs.NumberTexts.{read_number, read_with_base}
use Rattle.value_model.specs.Metamethods.{index, newindex, arith, choose, is_function, metamethod, as_number, compare, callee_of, concat_two, length_of}
use Rattle.value_model.specs.Names.{name_of, text_of, as_plain}
use Rattle.value_model.specs.Operators.{calculated}
use Rattle.value_model.specs.Errors.{error_text}
use Rattle.value_model.specs.Library.{lib, go_on}
use Rattle.value_model.specs.Waiting.{wait}
use Rattle.value_model.specs.CoroutineRows.{coroutine_of, with_coroutine}
use Rattle.value_model.specs.Loops.{bounds, goes_on, iteration}
use Rattle.value_model.specs.Fresh.{fresh, look}
use Rattle.value_model.specs.Waits.{Ended, Stopped}
use Rattle.whole_num.specs.declared.arithmetic.Stop.TheVariants as stop
use Rattle.std.specs.Fmt.{digits}
use Rattle.meaning_examples.proofs.Scripts.{Script, outcome, wanted, word, e, s, func, arm_value, named}

-- `print(pcall(error, "x"))`
abbrev protected : Script
protected = record {
  texts = codes "print" ∷ codes "pcall" ∷ codes "error" ∷ codes "x" ∷ [];
  main = (func 0 [] true (((s 1 (stat.Call (e 2 (expr.Call (e 3 (expr.Name (word 0))) (((e 4 (expr.Call (e 5 (expr.Name (word 1))) ((e 6 (expr.Name (word 2))) ∷ (e 7 (expr.Str (word 3))) ∷ [])))) ∷ [])))))) ∷ []));
  turns = 1;
  moves = 34;
  end = Ended [];
  lines = ((1, codes "false\tx") ∷ []);
  looks = 6;
}

-- `print(xpcall(function() error("x") end, function(m) return m .. "!" end))`
abbrev handled : Script
handled = record {
  texts = codes "print" ∷ codes "xpcall" ∷ codes "error" ∷ codes "x" ∷ codes "m" ∷ codes "!" ∷ [];
  main = (func 0 [] true (((s 1 (stat.Call (e 2 (expr.Call (e 3 (expr.Name (word 0))) (((e 4 (expr.Call (e 5 (expr.Name (word 1))) (((e 6 (expr.Function (func 7 [] false (((s 8 (stat.Call (e 9 (expr.Call (e 10 (expr.Name (word 2))) ((e 11 (expr.Str (word 3))) ∷ [])))))) ∷ []))))) ∷ ((e 12 (expr.Function (func 13 ((word 4) ∷ []) false (((s 14 (stat.Return (((e 15 (expr.Concat ((e 16 (expr.Name (word 4))) ∷ (e 17 (expr.Str (word 5))) ∷ [])))) ∷ [])))) ∷ []))))) ∷ [])))) ∷ [])))))) ∷ []));
  turns = 2;
  moves = 62;
  end = Ended [];
  lines = ((2, codes "false\tx!") ∷ []);
  looks = 6;
}

-- `print(pcall(function() return 9007199254740992 + 1 end))`
abbrev stops_pass : Script
stops_pass = record {
  texts = codes "print" ∷ codes "pcall" ∷ [];
  main = (func 0 [] true (((s 1 (stat.Call (e 2 (expr.Call (e 3 (expr.Name (word 0))) (((e 4 (expr.Call (e 5 (expr.Name (word 1))) (((e 6 (expr.Function (func 7 [] false (((s 8 (stat.Return ((e 9 (expr.Binary op.Add (e 10 (expr.Num (pos 9007199254740992))) (e 11 (expr.Num (pos 1))))) ∷ [])))) ∷ []))))) ∷ [])))) ∷ [])))))) ∷ []));
  turns = 1;
  moves = 27;
  end = Stopped stop.OutOfRange;
  lines = [];
  looks = 4;
}

-- `print(pcall(function() local a = nil return a.b end))`
abbrev index_nil : Script
index_nil = record {
  texts = codes "print" ∷ codes "pcall" ∷ codes "a" ∷ codes "b" ∷ [];
  main = (func 0 [] true (((s 1 (stat.Call (e 2 (expr.Call (e 3 (expr.Name (word 0))) (((e 4 (expr.Call (e 5 (expr.Name (word 1))) (((e 6 (expr.Function (func 7 [] false (((s 8 (stat.Local ((word 2) ∷ []) ((e 9 expr.Nil) ∷ [])))) ∷ ((s 10 (stat.Return ((e 11 (expr.Member (e 12 (expr.Name (word 2))) (word 3))) ∷ [])))) ∷ []))))) ∷ [])))) ∷ [])))))) ∷ []));
  turns = 1;
  moves = 48;
  end = Ended [];
  lines = ((1, codes "false\tattempt to index nil with 'b'") ∷ []);
  looks = 4;
}

-- `local t = setmetatable({}, {__index = function(_, k) local ok, v = pcall(function() return coroutine.yield(k) end) return v end}) local co = coroutine.create(function() return t.x .. "!" end) print(coroutine.resume(co)) print(coroutine.resume(co, "y")) print(coroutine.status(co))`
abbrev yield_across_a_protected_call : Script
yield_across_a_protected_call = record {
  texts = codes "t" ∷ codes "setmetatable" ∷ codes "__index" ∷ codes "_" ∷ codes "k" ∷ codes "ok" ∷ codes "v" ∷ codes "pcall" ∷ codes "coroutine" ∷ codes "yield" ∷ codes "co" ∷ codes "create" ∷ codes "x" ∷ codes "!" ∷ codes "print" ∷ codes "resume" ∷ codes "y" ∷ codes "status" ∷ [];
  main = (func 0 [] true (((s 1 (stat.Local ((word 0) ∷ []) (((e 2 (expr.Call (e 3 (expr.Name (word 1))) ((e 4 (expr.Table [])) ∷ ((e 5 (expr.Table (((named (word 2) (e 6 (expr.Function (func 7 ((word 3) ∷ (word 4) ∷ []) false (((s 8 (stat.Local ((word 5) ∷ (word 6) ∷ []) (((e 9 (expr.Call (e 10 (expr.Name (word 7))) (((e 11 (expr.Function (func 12 [] false (((s 13 (stat.Return (((e 14 (expr.Call (e 15 (expr.Member (e 16 (expr.Name (word 8))) (word 9))) ((e 17 (expr.Name (word 4))) ∷ [])))) ∷ [])))) ∷ []))))) ∷ [])))) ∷ [])))) ∷ ((s 18 (stat.Return ((e 19 (expr.Name (word 6))) ∷ [])))) ∷ [])))))) ∷ [])))) ∷ [])))) ∷ [])))) ∷ ((s 20 (stat.Local ((word 10) ∷ []) (((e 21 (expr.Call (e 22 (expr.Member (e 23 (expr.Name (word 8))) (word 11))) (((e 24 (expr.Function (func 25 [] false (((s 26 (stat.Return (((e 27 (expr.Concat ((e 28 (expr.Member (e 29 (expr.Name (word 0))) (word 12))) ∷ (e 30 (expr.Str (word 13))) ∷ [])))) ∷ [])))) ∷ []))))) ∷ [])))) ∷ [])))) ∷ ((s 31 (stat.Call (e 32 (expr.Call (e 33 (expr.Name (word 14))) (((e 34 (expr.Call (e 35 (expr.Member (e 36 (expr.Name (word 8))) (word 15))) ((e 37 (expr.Name (word 10))) ∷ [])))) ∷ [])))))) ∷ ((s 38 (stat.Call (e 39 (expr.Call (e 40 (expr.Name (word 14))) (((e 41 (expr.Call (e 42 (expr.Member (e 43 (expr.Name (word 8))) (word 15))) ((e 44 (expr.Name (word 10))) ∷ (e 45 (expr.Str (word 16))) ∷ [])))) ∷ [])))))) ∷ ((s 46 (stat.Call (e 47 (expr.Call (e 48 (expr.Name (word 14))) (((e 49 (expr.Call (e 50 (expr.Member (e 51 (expr.Name (word 8))) (word 17))) ((e 52 (expr.Name (word 10))) ∷ [])))) ∷ [])))))) ∷ []));
  turns = 5;
  moves = 211;
  end = Ended [];
  lines = ((4, codes "true\tx") ∷ (5, codes "true\ty!") ∷ (5, codes "dead") ∷ []);
  looks = 27;
}

-- `local function g() getfenv().math = {max = function() return 7 end} return 1 end print(math.max(g(), 5), math.max(1, 2))`
abbrev environment_changed : Script
environment_changed = record {
  texts = codes "g" ∷ codes "getfenv" ∷ codes "math" ∷ codes "max" ∷ codes "print" ∷ [];
  main = (func 0 [] true (((s 1 (stat.LocalFunction (word 0) (func 2 [] false (((s 3 (stat.Assign ((e 4 (expr.Member (e 5 (expr.Call (e 6 (expr.Name (word 1))) [])) (word 2))) ∷ []) (((e 7 (expr.Table (((named (word 3) (e 8 (expr.Function (func 9 [] false (((s 10 (stat.Return ((e 11 (expr.Num (pos 7))) ∷ [])))) ∷ [])))))) ∷ [])))) ∷ [])))) ∷ ((s 12 (stat.Return ((e 13 (expr.Num (pos 1))) ∷ [])))) ∷ []))))) ∷ ((s 14 (stat.Call (e 15 (expr.Call (e 16 (expr.Name (word 4))) (((e 17 (expr.Call (e 18 (expr.Member (e 19 (expr.Name (word 2))) (word 3))) ((e 20 (expr.Call (e 21 (expr.Name (word 0))) [])) ∷ (e 22 (expr.Num (pos 5))) ∷ [])))) ∷ ((e 23 (expr.Call (e 24 (expr.Member (e 25 (expr.Name (word 2))) (word 3))) ((e 26 (expr.Num (pos 1))) ∷ (e 27 (expr.Num (pos 2))) ∷ [])))) ∷ [])))))) ∷ []));
  turns = 2;
  moves = 106;
  end = Ended [];
  lines = ((2, codes "5\t7") ∷ []);
  looks = 11;
}

-- `print(nil and 1, false or "x", 1 and 2, not nil, if false then 1 elseif true then 2 else 3)`
abbrev and_or_not : Script
and_or_not = record {
  texts = codes "print" ∷ codes "x" ∷ [];
  main = (func 0 [] true (((s 1 (stat.Call (e 2 (expr.Call (e 3 (expr.Name (word 0))) ((e 4 (expr.Binary op.And (e 5 expr.Nil) (e 6 (expr.Num (pos 1))))) ∷ (e 7 (expr.Binary op.Or (e 8 expr.False) (e 9 (expr.Str (word 1))))) ∷ (e 10 (expr.Binary op.And (e 11 (expr.Num (pos 1))) (e 12 (expr.Num (pos 2))))) ∷ (e 13 (expr.Unary unary.Not (e 14 expr.Nil))) ∷ ((e 15 (expr.If ((arm_value (e 16 expr.False) (e 17 (expr.Num (pos 1)))) ∷ (arm_value (e 18 expr.True) (e 19 (expr.Num (pos 2)))) ∷ []) (e 20 (expr.Num (pos 3)))))) ∷ [])))))) ∷ []));
  turns = 0;
  moves = 43;
  end = Ended [];
  lines = ((0, codes "nil\tx\t2\ttrue\t2") ∷ []);
  looks = 2;
}

-- `local n = "two" print(`{n}% of {true}`)`
abbrev interpolated : Script
interpolated = record {
  texts = codes "n" ∷ codes "two" ∷ codes "print" ∷ codes "" ∷ codes "% of " ∷ [];
  main = (func 0 [] true (((s 1 (stat.Local ((word 0) ∷ []) ((e 2 (expr.Str (word 1))) ∷ [])))) ∷ ((s 3 (stat.Call (e 4 (expr.Call (e 5 (expr.Name (word 2))) (((e 6 (expr.Interp ((word 3) ∷ (word 4) ∷ (word 3) ∷ []) ((e 7 (expr.Name (word 0))) ∷ (e 8 expr.True) ∷ [])))) ∷ [])))))) ∷ []));
  turns = 0;
  moves = 39;
  end = Ended [];
  lines = ((0, codes "two% of true") ∷ []);
  looks = 3;
}

-- `local v = setmetatable({}, {__tostring = function() return "t" end}) print(v)`
abbrev tostring_metamethod : Script
tostring_metamethod = record {
  texts = codes "v" ∷ codes "setmetatable" ∷ codes "__tostring" ∷ codes "t" ∷ codes "print" ∷ [];
  main = (func 0 [] true (((s 1 (stat.Local ((word 0) ∷ []) (((e 2 (expr.Call (e 3 (expr.Name (word 1))) ((e 4 (expr.Table [])) ∷ ((e 5 (expr.Table (((named (word 2) (e 6 (expr.Function (func 7 [] false (((s 8 (stat.Return ((e 9 (expr.Str (word 3))) ∷ [])))) ∷ [])))))) ∷ [])))) ∷ [])))) ∷ [])))) ∷ ((s 10 (stat.Call (e 11 (expr.Call (e 12 (expr.Name (word 4))) ((e 13 (expr.Name (word 0))) ∷ [])))))) ∷ []));
  turns = 1;
  moves = 54;
  end = Ended [];
  lines = ((1, codes "t") ∷ []);
  looks = 5;
}

-- `local v = setmetatable({}, {__tostring = function() return "t" end}) print(v)`
abbrev tostring_one_turn_short : Script
tostring_one_turn_short = record {
  texts = codes "v" ∷ codes "setmetatable" ∷ codes "__tostring" ∷ codes "t" ∷ codes "print" ∷ [];
  main = (func 0 [] true (((s 1 (stat.Local ((word 0) ∷ []) (((e 2 (expr.Call (e 3 (expr.Name (word 1))) ((e 4 (expr.Table [])) ∷ ((e 5 (expr.Table (((named (word 2) (e 6 (expr.Function (func 7 [] false (((s 8 (stat.Return ((e 9 (expr.Str (word 3))) ∷ [])))) ∷ [])))))) ∷ [])))) ∷ [])))) ∷ [])))) ∷ ((s 10 (stat.Call (e 11 (expr.Call (e 12 (expr.Name (word 4))) ((e 13 (expr.Name (word 0))) ∷ [])))))) ∷ []));
  turns = 1;
  moves = 54;
  end = Ended [];
  lines = ((1, codes "t") ∷ []);
  looks = 5;
}

-- `local next_value = coroutine.wrap(function(a) local b = coroutine.yield(a) return b end) print(next_value(1), next_value(2))`
abbrev wrapped : Script
wrapped = record {
  texts = codes "next_value" ∷ codes "coroutine" ∷ codes "wrap" ∷ codes "a" ∷ codes "b" ∷ codes "yield" ∷ codes "print" ∷ [];
  main = (func 0 [] true (((s 1 (stat.Local ((word 0) ∷ []) (((e 2 (expr.Call (e 3 (expr.Member (e 4 (expr.Name (word 1))) (word 2))) (((e 5 (expr.Function (func 6 ((word 3) ∷ []) false (((s 7 (stat.Local ((word 4) ∷ []) (((e 8 (expr.Call (e 9 (expr.Member (e 10 (expr.Name (word 1))) (word 5))) ((e 11 (expr.Name (word 3))) ∷ [])))) ∷ [])))) ∷ ((s 12 (stat.Return ((e 13 (expr.Name (word 4))) ∷ [])))) ∷ []))))) ∷ [])))) ∷ [])))) ∷ ((s 14 (stat.Call (e 15 (expr.Call (e 16 (expr.Name (word 6))) (((e 17 (expr.Call (e 18 (expr.Name (word 0))) ((e 19 (expr.Num (pos 1))) ∷ [])))) ∷ ((e 20 (expr.Call (e 21 (expr.Name (word 0))) ((e 22 (expr.Num (pos 2))) ∷ [])))) ∷ [])))))) ∷ []));
  turns = 3;
  moves = 96;
  end = Ended [];
  lines = ((3, codes "1\t2") ∷ []);
  looks = 8;
}

abbrev scripts : List Script
scripts = protected ∷ handled ∷ stops_pass ∷ index_nil ∷ yield_across_a_protected_call ∷ environment_changed ∷ and_or_not ∷ interpolated ∷ tostring_metamethod ∷ tostring_one_turn_short ∷ wrapped ∷ []

-- each runs so
all_run : map outcome scripts ≡ map wanted scripts
unfolding out-ExprKind out-Arm roll-Arm out-StatKind out-FieldKind out-FuncBody roll-FuncBody denote.Hole.Carrier.out denote.Hole.Carrier.roll denote.Hole.Carrier.shown denote.Hole.Carrier.hidden hidden-the_row-Expr-0 hidden-the_row-Expr-1 hidden-the_row-Field-2 hidden-the_row-ExprArm-3 hidden-the_row-Stat-4 hidden-the_row-Arm-5 shape-the_row-Expr-0 shape-the_row-Expr-1 shape-the_row-Field-2 shape-the_row-ExprArm-3 shape-the_row-Stat-4 shape-the_row-Arm-5 shown-the_row-Expr-0 shown-the_row-Expr-1 shown-the_row-Field-2 shown-the_row-ExprArm-3 shown-the_row-Stat-4 shown-the_row-Arm-5 wait lib go_on choose index newindex arith compare callee_of concat_two length_of is_function metamethod as_number read_number read_with_base calculated table_at with_table same get set put border next_entry kind_of is_true name_of text_of as_plain error_text fresh look bounds goes_on iteration coroutine_of with_coroutine digits
all_run = refl
