-- Runs of scripts, computed: tables and metamethods.
use Rattle.std.proofs.Common.{◌≡◌, pos, List, [], ◌∷◌, refl, None, true, false, map}
use Rattle.std.specs.Prelude.{codes}
use Rattle.syntax_tree.specs.declared.tree.BinOp.TheVariants as op
use Rattle.syntax_tree.specs.declared.tree.UnOp.TheVariants as unary
use Rattle.syntax_tree.specs.declared.tree.FuncBody.{roll-FuncBody, out-FuncBody}
use Rattle.syntax_tree.specs.declared.tree.Arm.{roll-Arm, out-Arm}
use Rattle.syntax_tree.specs.declared.tree.ExprKind.{out-ExprKind}
use Rattle.syntax_tree.specs.declared.tree.FieldKind.{out-FieldKind}
use Rattle.syntax_tree.specs.declared.tree.StatKind.{out-StatKind}
use Rattle.syntax_tree.specs.declared.tree.ExprKind as expr
use Rattle.syntax_tree.specs.declared.tree.StatKind as stat
use Rattle.syntax_tree.specs.declared.tree.ExprKind.TheBlock.{hidden-the_row-Expr-0, hidden-the_row-Expr-1, hidden-the_row-Field-2, hidden-the_row-ExprArm-3, hidden-the_row-Stat-4, hidden-the_row-Arm-5, shape-the_row-Expr-0, shape-the_row-Expr-1, shape-the_row-Field-2, shape-the_row-ExprArm-3, shape-the_row-Stat-4, shape-the_row-Arm-5, shown-the_row-Expr-0, shown-the_row-Expr-1, shown-the_row-Field-2, shown-the_row-ExprArm-3, shown-the_row-Stat-4, shown-the_row-Arm-5}
use Rattle.value_model.specs.Values.{kind_of, is_true}
use Rattle.value_model.specs.Tables.{same, get, set, put, border, next_entry}
use Rattle.value_model.specs.Store.{table_at, with_table}
use Rattle.whole_num.specs.NumberTexts.{read_number, read_with_base}
use Rattle.value_model.specs.Metamethods.{index, newindex, arith, choose, is_function, metamethod, as_number, compare, callee_of, concat_two, length_of}
use Rattle.value_model.specs.Names.{name_of, text_of, as_plain}
use Rattle.value_model.specs.Operators.{calculated}
use Rattle.value_model.specs.Errors.{error_text}
use Rattle.value_model.specs.Library.{lib, go_on}
use Rattle.value_model.specs.Waiting.{wait}
use Rattle.value_model.specs.CoroutineRows.{coroutine_of, with_coroutine}
use Rattle.value_model.specs.Loops.{bounds, goes_on, iteration}
use Rattle.value_model.specs.Fresh.{fresh, look}
use Rattle.value_model.specs.Waits.{Ended}
use Rattle.std.specs.Fmt.{digits}
use Rattle.meaning_examples.proofs.Scripts.{Script, outcome, wanted, word, e, s, func, arm, item, named, keyed}

-- `local t = {} t.a = 1 t.b = 2 t.a = nil t.c = 3 t.a = 4 for k, v in t do print(k, v) end`
abbrev order_of_insertion : Script
order_of_insertion = record {
  texts = codes "t" ∷ codes "a" ∷ codes "b" ∷ codes "c" ∷ codes "k" ∷ codes "v" ∷ codes "print" ∷ [];
  main = (func 0 [] true (((s 1 (stat.Local ((word 0) ∷ []) ((e 2 (expr.Table [])) ∷ [])))) ∷ ((s 3 (stat.Assign ((e 4 (expr.Member (e 5 (expr.Name (word 0))) (word 1))) ∷ []) ((e 6 (expr.Num (pos 1))) ∷ [])))) ∷ ((s 7 (stat.Assign ((e 8 (expr.Member (e 9 (expr.Name (word 0))) (word 2))) ∷ []) ((e 10 (expr.Num (pos 2))) ∷ [])))) ∷ ((s 11 (stat.Assign ((e 12 (expr.Member (e 13 (expr.Name (word 0))) (word 1))) ∷ []) ((e 14 expr.Nil) ∷ [])))) ∷ ((s 15 (stat.Assign ((e 16 (expr.Member (e 17 (expr.Name (word 0))) (word 3))) ∷ []) ((e 18 (expr.Num (pos 3))) ∷ [])))) ∷ ((s 19 (stat.Assign ((e 20 (expr.Member (e 21 (expr.Name (word 0))) (word 1))) ∷ []) ((e 22 (expr.Num (pos 4))) ∷ [])))) ∷ ((s 23 (stat.GenFor ((word 4) ∷ (word 5) ∷ []) ((e 24 (expr.Name (word 0))) ∷ []) (((s 25 (stat.Call (e 26 (expr.Call (e 27 (expr.Name (word 6))) ((e 28 (expr.Name (word 4))) ∷ (e 29 (expr.Name (word 5))) ∷ [])))))) ∷ [])))) ∷ []));
  turns = 4;
  moves = 178;
  end = Ended [];
  lines = ((1, codes "a\t4") ∷ (2, codes "b\t2") ∷ (3, codes "c\t3") ∷ []);
  looks = 11;
}

-- `local function f() return 7, 8 end local t = {x = 1, f(), [3] = 5, f()} print(t.x, t[1], t[2], t[3], #t)`
abbrev constructor : Script
constructor = record {
  texts = codes "f" ∷ codes "t" ∷ codes "x" ∷ codes "print" ∷ [];
  main = (func 0 [] true (((s 1 (stat.LocalFunction (word 0) (func 2 [] false (((s 3 (stat.Return ((e 4 (expr.Num (pos 7))) ∷ (e 5 (expr.Num (pos 8))) ∷ [])))) ∷ []))))) ∷ ((s 6 (stat.Local ((word 1) ∷ []) (((e 7 (expr.Table ((named (word 2) (e 8 (expr.Num (pos 1)))) ∷ (item (e 9 (expr.Call (e 10 (expr.Name (word 0))) []))) ∷ (keyed (e 11 (expr.Num (pos 3))) (e 12 (expr.Num (pos 5)))) ∷ (item (e 13 (expr.Call (e 14 (expr.Name (word 0))) []))) ∷ [])))) ∷ [])))) ∷ ((s 15 (stat.Call (e 16 (expr.Call (e 17 (expr.Name (word 3))) ((e 18 (expr.Member (e 19 (expr.Name (word 1))) (word 2))) ∷ (e 20 (expr.Index (e 21 (expr.Name (word 1))) (e 22 (expr.Num (pos 1))))) ∷ (e 23 (expr.Index (e 24 (expr.Name (word 1))) (e 25 (expr.Num (pos 2))))) ∷ (e 26 (expr.Index (e 27 (expr.Name (word 1))) (e 28 (expr.Num (pos 3))))) ∷ (e 29 (expr.Unary unary.Len (e 30 (expr.Name (word 1))))) ∷ [])))))) ∷ []));
  turns = 2;
  moves = 109;
  end = Ended [];
  lines = ((2, codes "1\t7\t7\t8\t3") ∷ []);
  looks = 8;
}

-- `print(#{1, 2, nil, 4})`
abbrev first_gap : Script
first_gap = record {
  texts = codes "print" ∷ [];
  main = (func 0 [] true (((s 1 (stat.Call (e 2 (expr.Call (e 3 (expr.Name (word 0))) (((e 4 (expr.Unary unary.Len (e 5 (expr.Table ((item (e 6 (expr.Num (pos 1)))) ∷ (item (e 7 (expr.Num (pos 2)))) ∷ (item (e 8 expr.Nil)) ∷ (item (e 9 (expr.Num (pos 4)))) ∷ [])))))) ∷ [])))))) ∷ []));
  turns = 0;
  moves = 36;
  end = Ended [];
  lines = ((0, codes "2") ∷ []);
  looks = 2;
}

-- `local base = {a = 1} local t = setmetatable({}, {__index = base}) print(t.a, t.b)`
abbrev index_chain : Script
index_chain = record {
  texts = codes "base" ∷ codes "a" ∷ codes "t" ∷ codes "setmetatable" ∷ codes "__index" ∷ codes "print" ∷ codes "b" ∷ [];
  main = (func 0 [] true (((s 1 (stat.Local ((word 0) ∷ []) (((e 2 (expr.Table ((named (word 1) (e 3 (expr.Num (pos 1)))) ∷ [])))) ∷ [])))) ∷ ((s 4 (stat.Local ((word 2) ∷ []) (((e 5 (expr.Call (e 6 (expr.Name (word 3))) ((e 7 (expr.Table [])) ∷ ((e 8 (expr.Table ((named (word 4) (e 9 (expr.Name (word 0)))) ∷ [])))) ∷ [])))) ∷ [])))) ∷ ((s 10 (stat.Call (e 11 (expr.Call (e 12 (expr.Name (word 5))) ((e 13 (expr.Member (e 14 (expr.Name (word 2))) (word 1))) ∷ (e 15 (expr.Member (e 16 (expr.Name (word 2))) (word 6))) ∷ [])))))) ∷ []));
  turns = 0;
  moves = 65;
  end = Ended [];
  lines = ((0, codes "1\tnil") ∷ []);
  looks = 10;
}

-- `local t = setmetatable({}, {__index = function(_, k) return k end}) print(t.x)`
abbrev index_function : Script
index_function = record {
  texts = codes "t" ∷ codes "setmetatable" ∷ codes "__index" ∷ codes "_" ∷ codes "k" ∷ codes "print" ∷ codes "x" ∷ [];
  main = (func 0 [] true (((s 1 (stat.Local ((word 0) ∷ []) (((e 2 (expr.Call (e 3 (expr.Name (word 1))) ((e 4 (expr.Table [])) ∷ ((e 5 (expr.Table (((named (word 2) (e 6 (expr.Function (func 7 ((word 3) ∷ (word 4) ∷ []) false (((s 8 (stat.Return ((e 9 (expr.Name (word 4))) ∷ [])))) ∷ [])))))) ∷ [])))) ∷ [])))) ∷ [])))) ∷ ((s 10 (stat.Call (e 11 (expr.Call (e 12 (expr.Name (word 5))) ((e 13 (expr.Member (e 14 (expr.Name (word 0))) (word 6))) ∷ [])))))) ∷ []));
  turns = 1;
  moves = 57;
  end = Ended [];
  lines = ((1, codes "x") ∷ []);
  looks = 6;
}

-- `local log = {} local t = setmetatable({}, {__newindex = function(_, k, v) log[k] = v end}) t.a = 1 print(rawget(t, "a"), log.a)`
abbrev newindex_function : Script
newindex_function = record {
  texts = codes "log" ∷ codes "t" ∷ codes "setmetatable" ∷ codes "__newindex" ∷ codes "_" ∷ codes "k" ∷ codes "v" ∷ codes "a" ∷ codes "print" ∷ codes "rawget" ∷ [];
  main = (func 0 [] true (((s 1 (stat.Local ((word 0) ∷ []) ((e 2 (expr.Table [])) ∷ [])))) ∷ ((s 3 (stat.Local ((word 1) ∷ []) (((e 4 (expr.Call (e 5 (expr.Name (word 2))) ((e 6 (expr.Table [])) ∷ ((e 7 (expr.Table (((named (word 3) (e 8 (expr.Function (func 9 ((word 4) ∷ (word 5) ∷ (word 6) ∷ []) false (((s 10 (stat.Assign ((e 11 (expr.Index (e 12 (expr.Name (word 0))) (e 13 (expr.Name (word 5))))) ∷ []) ((e 14 (expr.Name (word 6))) ∷ [])))) ∷ [])))))) ∷ [])))) ∷ [])))) ∷ [])))) ∷ ((s 15 (stat.Assign ((e 16 (expr.Member (e 17 (expr.Name (word 1))) (word 7))) ∷ []) ((e 18 (expr.Num (pos 1))) ∷ [])))) ∷ ((s 19 (stat.Call (e 20 (expr.Call (e 21 (expr.Name (word 8))) (((e 22 (expr.Call (e 23 (expr.Name (word 9))) ((e 24 (expr.Name (word 1))) ∷ (e 25 (expr.Str (word 7))) ∷ [])))) ∷ (e 26 (expr.Member (e 27 (expr.Name (word 0))) (word 7))) ∷ [])))))) ∷ []));
  turns = 1;
  moves = 111;
  end = Ended [];
  lines = ((1, codes "nil\t1") ∷ []);
  looks = 10;
}

-- `local m = {__add = function(a, b) return "sum" end, __unm = function() return "minus" end} local v = setmetatable({}, m) print(v + 1, 1 + v, -v)`
abbrev arith_metamethod : Script
arith_metamethod = record {
  texts = codes "m" ∷ codes "__add" ∷ codes "a" ∷ codes "b" ∷ codes "sum" ∷ codes "__unm" ∷ codes "minus" ∷ codes "v" ∷ codes "setmetatable" ∷ codes "print" ∷ [];
  main = (func 0 [] true (((s 1 (stat.Local ((word 0) ∷ []) (((e 2 (expr.Table (((named (word 1) (e 3 (expr.Function (func 4 ((word 2) ∷ (word 3) ∷ []) false (((s 5 (stat.Return ((e 6 (expr.Str (word 4))) ∷ [])))) ∷ [])))))) ∷ ((named (word 5) (e 7 (expr.Function (func 8 [] false (((s 9 (stat.Return ((e 10 (expr.Str (word 6))) ∷ [])))) ∷ [])))))) ∷ [])))) ∷ [])))) ∷ ((s 11 (stat.Local ((word 7) ∷ []) (((e 12 (expr.Call (e 13 (expr.Name (word 8))) ((e 14 (expr.Table [])) ∷ (e 15 (expr.Name (word 0))) ∷ [])))) ∷ [])))) ∷ ((s 16 (stat.Call (e 17 (expr.Call (e 18 (expr.Name (word 9))) ((e 19 (expr.Binary op.Add (e 20 (expr.Name (word 7))) (e 21 (expr.Num (pos 1))))) ∷ (e 22 (expr.Binary op.Add (e 23 (expr.Num (pos 1))) (e 24 (expr.Name (word 7))))) ∷ (e 25 (expr.Unary unary.Minus (e 26 (expr.Name (word 7))))) ∷ [])))))) ∷ []));
  turns = 3;
  moves = 103;
  end = Ended [];
  lines = ((3, codes "sum\tsum\tminus") ∷ []);
  looks = 6;
}

-- `local m = {__lt = function() return true end, __le = function() return false end, __eq = function() return true end} local a, b = setmetatable({}, m), setmetatable({}, m) print(a < b, a <= b, a == b, a ~= b)`
abbrev compare_metamethod : Script
compare_metamethod = record {
  texts = codes "m" ∷ codes "__lt" ∷ codes "__le" ∷ codes "__eq" ∷ codes "a" ∷ codes "b" ∷ codes "setmetatable" ∷ codes "print" ∷ [];
  main = (func 0 [] true (((s 1 (stat.Local ((word 0) ∷ []) (((e 2 (expr.Table (((named (word 1) (e 3 (expr.Function (func 4 [] false (((s 5 (stat.Return ((e 6 expr.True) ∷ [])))) ∷ [])))))) ∷ ((named (word 2) (e 7 (expr.Function (func 8 [] false (((s 9 (stat.Return ((e 10 expr.False) ∷ [])))) ∷ [])))))) ∷ ((named (word 3) (e 11 (expr.Function (func 12 [] false (((s 13 (stat.Return ((e 14 expr.True) ∷ [])))) ∷ [])))))) ∷ [])))) ∷ [])))) ∷ ((s 15 (stat.Local ((word 4) ∷ (word 5) ∷ []) (((e 16 (expr.Call (e 17 (expr.Name (word 6))) ((e 18 (expr.Table [])) ∷ (e 19 (expr.Name (word 0))) ∷ [])))) ∷ ((e 20 (expr.Call (e 21 (expr.Name (word 6))) ((e 22 (expr.Table [])) ∷ (e 23 (expr.Name (word 0))) ∷ [])))) ∷ [])))) ∷ ((s 24 (stat.Call (e 25 (expr.Call (e 26 (expr.Name (word 7))) ((e 27 (expr.Binary op.Lt (e 28 (expr.Name (word 4))) (e 29 (expr.Name (word 5))))) ∷ (e 30 (expr.Binary op.Le (e 31 (expr.Name (word 4))) (e 32 (expr.Name (word 5))))) ∷ (e 33 (expr.Binary op.Eq (e 34 (expr.Name (word 4))) (e 35 (expr.Name (word 5))))) ∷ (e 36 (expr.Binary op.Ne (e 37 (expr.Name (word 4))) (e 38 (expr.Name (word 5))))) ∷ [])))))) ∷ []));
  turns = 4;
  moves = 142;
  end = Ended [];
  lines = ((4, codes "true\tfalse\ttrue\tfalse") ∷ []);
  looks = 9;
}

-- `local v = setmetatable({}, {__concat = function(a, b) return "joined" end}) print("a" .. "b" .. v)`
abbrev concat_metamethod : Script
concat_metamethod = record {
  texts = codes "v" ∷ codes "setmetatable" ∷ codes "__concat" ∷ codes "a" ∷ codes "b" ∷ codes "joined" ∷ codes "print" ∷ [];
  main = (func 0 [] true (((s 1 (stat.Local ((word 0) ∷ []) (((e 2 (expr.Call (e 3 (expr.Name (word 1))) ((e 4 (expr.Table [])) ∷ ((e 5 (expr.Table (((named (word 2) (e 6 (expr.Function (func 7 ((word 3) ∷ (word 4) ∷ []) false (((s 8 (stat.Return ((e 9 (expr.Str (word 5))) ∷ [])))) ∷ [])))))) ∷ [])))) ∷ [])))) ∷ [])))) ∷ ((s 10 (stat.Call (e 11 (expr.Call (e 12 (expr.Name (word 6))) (((e 13 (expr.Concat ((e 14 (expr.Str (word 3))) ∷ (e 15 (expr.Str (word 4))) ∷ (e 16 (expr.Name (word 0))) ∷ [])))) ∷ [])))))) ∷ []));
  turns = 1;
  moves = 65;
  end = Ended [];
  lines = ((1, codes "ajoined") ∷ []);
  looks = 5;
}

-- `local v = setmetatable({}, {__len = function() return 5 end, __call = function(self, x) return x end}) print(#v, v("arg"))`
abbrev length_and_call : Script
length_and_call = record {
  texts = codes "v" ∷ codes "setmetatable" ∷ codes "__len" ∷ codes "__call" ∷ codes "self" ∷ codes "x" ∷ codes "print" ∷ codes "arg" ∷ [];
  main = (func 0 [] true (((s 1 (stat.Local ((word 0) ∷ []) (((e 2 (expr.Call (e 3 (expr.Name (word 1))) ((e 4 (expr.Table [])) ∷ ((e 5 (expr.Table (((named (word 2) (e 6 (expr.Function (func 7 [] false (((s 8 (stat.Return ((e 9 (expr.Num (pos 5))) ∷ [])))) ∷ [])))))) ∷ ((named (word 3) (e 10 (expr.Function (func 11 ((word 4) ∷ (word 5) ∷ []) false (((s 12 (stat.Return ((e 13 (expr.Name (word 5))) ∷ [])))) ∷ [])))))) ∷ [])))) ∷ [])))) ∷ [])))) ∷ ((s 14 (stat.Call (e 15 (expr.Call (e 16 (expr.Name (word 6))) ((e 17 (expr.Unary unary.Len (e 18 (expr.Name (word 0))))) ∷ ((e 19 (expr.Call (e 20 (expr.Name (word 0))) ((e 21 (expr.Str (word 7))) ∷ [])))) ∷ [])))))) ∷ []));
  turns = 2;
  moves = 80;
  end = Ended [];
  lines = ((2, codes "5\targ") ∷ []);
  looks = 6;
}

-- `for i, v in ipairs({"a", "b"}) do print(i, v) end for k, v in next, {x = 1} do print(k, v) end`
abbrev generic_loop : Script
generic_loop = record {
  texts = codes "i" ∷ codes "v" ∷ codes "ipairs" ∷ codes "a" ∷ codes "b" ∷ codes "print" ∷ codes "k" ∷ codes "next" ∷ codes "x" ∷ [];
  main = (func 0 [] true (((s 1 (stat.GenFor ((word 0) ∷ (word 1) ∷ []) (((e 2 (expr.Call (e 3 (expr.Name (word 2))) (((e 4 (expr.Table ((item (e 5 (expr.Str (word 3)))) ∷ (item (e 6 (expr.Str (word 4)))) ∷ [])))) ∷ [])))) ∷ []) (((s 7 (stat.Call (e 8 (expr.Call (e 9 (expr.Name (word 5))) ((e 10 (expr.Name (word 0))) ∷ (e 11 (expr.Name (word 1))) ∷ [])))))) ∷ [])))) ∷ ((s 12 (stat.GenFor ((word 6) ∷ (word 1) ∷ []) ((e 13 (expr.Name (word 7))) ∷ ((e 14 (expr.Table ((named (word 8) (e 15 (expr.Num (pos 1)))) ∷ [])))) ∷ []) (((s 16 (stat.Call (e 17 (expr.Call (e 18 (expr.Name (word 5))) ((e 19 (expr.Name (word 6))) ∷ (e 20 (expr.Name (word 1))) ∷ [])))))) ∷ [])))) ∷ []));
  turns = 5;
  moves = 127;
  end = Ended [];
  lines = ((1, codes "1\ta") ∷ (2, codes "2\tb") ∷ (4, codes "x\t1") ∷ []);
  looks = 11;
}

-- `local t = setmetatable({}, {__iter = function(t) return function(_, c) if c == nil then return 1 end end end}) for i in t do print(i) end`
abbrev iter_metamethod : Script
iter_metamethod = record {
  texts = codes "t" ∷ codes "setmetatable" ∷ codes "__iter" ∷ codes "_" ∷ codes "c" ∷ codes "i" ∷ codes "print" ∷ [];
  main = (func 0 [] true (((s 1 (stat.Local ((word 0) ∷ []) (((e 2 (expr.Call (e 3 (expr.Name (word 1))) ((e 4 (expr.Table [])) ∷ ((e 5 (expr.Table (((named (word 2) (e 6 (expr.Function (func 7 ((word 0) ∷ []) false (((s 8 (stat.Return (((e 9 (expr.Function (func 10 ((word 3) ∷ (word 4) ∷ []) false (((s 11 (stat.If (((arm (e 12 (expr.Binary op.Eq (e 13 (expr.Name (word 4))) (e 14 expr.Nil))) (((s 15 (stat.Return ((e 16 (expr.Num (pos 1))) ∷ [])))) ∷ []))) ∷ []) None))) ∷ []))))) ∷ [])))) ∷ [])))))) ∷ [])))) ∷ [])))) ∷ [])))) ∷ ((s 17 (stat.GenFor ((word 5) ∷ []) ((e 18 (expr.Name (word 0))) ∷ []) (((s 19 (stat.Call (e 20 (expr.Call (e 21 (expr.Name (word 6))) ((e 22 (expr.Name (word 5))) ∷ [])))))) ∷ [])))) ∷ []));
  turns = 5;
  moves = 107;
  end = Ended [];
  lines = ((3, codes "1") ∷ []);
  looks = 5;
}

-- `local t = {n = 2} function t:get(k) return self[k] end print(t:get("n"))`
abbrev methods : Script
methods = record {
  texts = codes "t" ∷ codes "n" ∷ codes "get" ∷ codes "self" ∷ codes "k" ∷ codes "print" ∷ [];
  main = (func 0 [] true (((s 1 (stat.Local ((word 0) ∷ []) (((e 2 (expr.Table ((named (word 1) (e 3 (expr.Num (pos 2)))) ∷ [])))) ∷ [])))) ∷ ((s 4 (stat.Assign ((e 5 (expr.Member (e 6 (expr.Name (word 0))) (word 2))) ∷ []) (((e 7 (expr.Function (func 8 ((word 3) ∷ (word 4) ∷ []) false (((s 9 (stat.Return ((e 10 (expr.Index (e 11 (expr.Name (word 3))) (e 12 (expr.Name (word 4))))) ∷ [])))) ∷ []))))) ∷ [])))) ∷ ((s 13 (stat.Call (e 14 (expr.Call (e 15 (expr.Name (word 5))) (((e 16 (expr.Method (e 17 (expr.Name (word 0))) (word 2) ((e 18 (expr.Str (word 1))) ∷ [])))) ∷ [])))))) ∷ []));
  turns = 1;
  moves = 70;
  end = Ended [];
  lines = ((1, codes "2") ∷ []);
  looks = 6;
}

-- `local i, t = 1, {} i, t[i] = 2, "first" print(i, t[1], t[2])`
abbrev assigned_from_the_left : Script
assigned_from_the_left = record {
  texts = codes "i" ∷ codes "t" ∷ codes "first" ∷ codes "print" ∷ [];
  main = (func 0 [] true (((s 1 (stat.Local ((word 0) ∷ (word 1) ∷ []) ((e 2 (expr.Num (pos 1))) ∷ (e 3 (expr.Table [])) ∷ [])))) ∷ ((s 4 (stat.Assign ((e 5 (expr.Name (word 0))) ∷ (e 6 (expr.Index (e 7 (expr.Name (word 1))) (e 8 (expr.Name (word 0))))) ∷ []) ((e 9 (expr.Num (pos 2))) ∷ (e 10 (expr.Str (word 2))) ∷ [])))) ∷ ((s 11 (stat.Call (e 12 (expr.Call (e 13 (expr.Name (word 3))) ((e 14 (expr.Name (word 0))) ∷ (e 15 (expr.Index (e 16 (expr.Name (word 1))) (e 17 (expr.Num (pos 1))))) ∷ (e 18 (expr.Index (e 19 (expr.Name (word 1))) (e 20 (expr.Num (pos 2))))) ∷ [])))))) ∷ []));
  turns = 0;
  moves = 67;
  end = Ended [];
  lines = ((0, codes "2\tfirst\tnil") ∷ []);
  looks = 5;
}

abbrev scripts : List Script
scripts = order_of_insertion ∷ constructor ∷ first_gap ∷ index_chain ∷ index_function ∷ newindex_function ∷ arith_metamethod ∷ compare_metamethod ∷ concat_metamethod ∷ length_and_call ∷ generic_loop ∷ iter_metamethod ∷ methods ∷ assigned_from_the_left ∷ []

-- each runs so
all_run : map outcome scripts ≡ map wanted scripts
unfolding out-ExprKind out-Arm roll-Arm out-StatKind out-FieldKind out-FuncBody roll-FuncBody denote.Hole.Carrier.out denote.Hole.Carrier.roll denote.Hole.Carrier.shown denote.Hole.Carrier.hidden hidden-the_row-Expr-0 hidden-the_row-Expr-1 hidden-the_row-Field-2 hidden-the_row-ExprArm-3 hidden-the_row-Stat-4 hidden-the_row-Arm-5 shape-the_row-Expr-0 shape-the_row-Expr-1 shape-the_row-Field-2 shape-the_row-ExprArm-3 shape-the_row-Stat-4 shape-the_row-Arm-5 shown-the_row-Expr-0 shown-the_row-Expr-1 shown-the_row-Field-2 shown-the_row-ExprArm-3 shown-the_row-Stat-4 shown-the_row-Arm-5 wait lib go_on choose index newindex arith compare callee_of concat_two length_of is_function metamethod as_number read_number read_with_base calculated table_at with_table same get set put border next_entry kind_of is_true name_of text_of as_plain error_text fresh look bounds goes_on iteration coroutine_of with_coroutine digits
all_run = refl
