-- The instructions that are emitted fit where their registers are those of the function.
use Rattle.std.proofs.Common.{◌≡◌, ℕ, zero, suc, ◌+◌, ◌-◌, ◌<◌, ◌≤◌, ◌^◌, ℤ, Bool, true, false, not, min, refl, arith, rules}
use Rattle.std.specs.Prelude.{pos, FitsSigned}
use Rattle.std.specs.Int.{w16}
use Rattle.std.proofs.lemmas.Int.{ints}
use Rattle.op_words.specs.declared.insn.Insn.TheVariants as i
use Rattle.machine_meaning.specs.Needs.{listed}
use Rattle.syntax_tree.specs.declared.tree.BinOp.{BinOp}
use Rattle.syntax_tree.specs.declared.tree.BinOp.TheVariants as op
use Rattle.syntax_tree.specs.declared.tree.UnOp.{UnOp}
use Rattle.syntax_tree.specs.declared.tree.UnOp.TheVariants as unary
use Rattle.emit_expr.specs.Puts.{narrow, short, long}
use Rattle.emit_expr.specs.Operators as operators
use Rattle.operand_laws.specs.Fitting.{Fits}

-- a signed number of 16 bits that is none below zero
pub short_fits : (n : ℕ) → n < 2 ^ 15 → FitsSigned w16 (pos n)
short_fits n lt = search (rules, arith, ints)

module _ (count : ℕ) (most : count ≤ 250) where
  pub load_nil : (a : ℕ) → a + 1 ≤ count → Fits count (i.LoadNil a)
  load_nil a p = record { fit = record { fields = (omega (arith, p, most), omega arith, omega arith); aux = tt }; registers = (p, tt) }

  pub load_bool : (a v s : ℕ) → a + 1 ≤ count → v ≤ 1 → s ≤ 1 → Fits count (i.LoadB a v s)
  load_bool a v s p q r =
      record { fit = record { fields = (omega (arith, p, most), omega (arith, q), omega (arith, r)); aux = tt }; registers = (p, tt) }

  pub load_number : (a : ℕ) (z : ℤ) → a + 1 ≤ count → FitsSigned w16 z → Fits count (i.LoadN a z)
  load_number a z p f = record { fit = record { fields = (omega (arith, p, most), f); aux = tt }; registers = (p, tt) }

  pub load_constant : (a n : ℕ) → a + 1 ≤ count → Fits count (i.LoadK a (short n))
  load_constant a n p =
      record { fit = record { fields = (omega (arith, p, most), short_fits (min n 32767) (omega arith)); aux = tt }; registers = (p, tt) }

  pub new_closure : (a n : ℕ) → a + 1 ≤ count → Fits count (i.NewClosure a (short n))
  new_closure a n p =
      record { fit = record { fields = (omega (arith, p, most), short_fits (min n 32767) (omega arith)); aux = tt }; registers = (p, tt) }

  pub move : (a b : ℕ) → a + 1 ≤ count → b + 1 ≤ count → Fits count (i.Move a b)
  move a b p q =
      record { fit = record { fields = (omega (arith, p, most), omega (arith, q, most), omega arith); aux = tt }; registers = (p, (q, tt)) }

  pub get_global : (a n : ℕ) → a + 1 ≤ count → Fits count (i.GetGlobal a (long n))
  get_global a n p =
      record { fit = record { fields = (omega (arith, p, most), omega arith, omega arith); aux = omega arith }; registers = (p, tt) }

  pub set_global : (a n : ℕ) → a + 1 ≤ count → Fits count (i.SetGlobal a (long n))
  set_global a n p =
      record { fit = record { fields = (omega (arith, p, most), omega arith, omega arith); aux = omega arith }; registers = (p, tt) }

  pub get_upvalue : (a n : ℕ) → a + 1 ≤ count → Fits count (i.GetUpvalue a (narrow n))
  get_upvalue a n p =
      record { fit = record { fields = (omega (arith, p, most), omega arith, omega arith); aux = tt }; registers = (p, tt) }

  pub set_upvalue : (a n : ℕ) → a + 1 ≤ count → Fits count (i.SetUpvalue a (narrow n))
  set_upvalue a n p =
      record { fit = record { fields = (omega (arith, p, most), omega arith, omega arith); aux = tt }; registers = (p, tt) }

  pub capture_register : (a : ℕ) → a + 1 ≤ count → Fits count (i.Capture 1 a)
  capture_register a p =
      record { fit = record { fields = (omega arith, omega (arith, p, most), omega arith); aux = tt }; registers = (p, tt) }

  pub capture_upvalue : (n : ℕ) → Fits count (i.Capture 2 (narrow n))
  capture_upvalue n = record { fit = record { fields = (omega arith, omega arith, omega arith); aux = tt }; registers = tt }

  pub close : (a : ℕ) → a ≤ 250 → Fits count (i.CloseUpvalues a)
  close a p = record { fit = record { fields = (omega (arith, p), omega arith, omega arith); aux = tt }; registers = tt }

  pub prep : (a : ℕ) → a ≤ 250 → Fits count (i.PrepVarargs a)
  prep a p = record { fit = record { fields = (omega (arith, p), omega arith, omega arith); aux = tt }; registers = tt }

  pub concat : (a b c : ℕ) → a + 1 ≤ count → b + 1 ≤ count → c + 1 ≤ count → Fits count (i.Concat a b c)
  concat a b c p q r =
      record { fit = record { fields = (omega (arith, p, most), omega (arith, q, most), omega (arith, r, most)); aux = tt }; registers = (p, (q, (r, tt))) }

  pub jump : Fits count (i.Jump (pos 0))
  jump = record { fit = record { fields = (omega arith, short_fits 0 (omega arith)); aux = tt }; registers = tt }

  pub jump_back : Fits count (i.JumpBack (pos 0))
  jump_back = record { fit = record { fields = (omega arith, short_fits 0 (omega arith)); aux = tt }; registers = tt }

  pub jump_if : (a : ℕ) → a + 1 ≤ count → Fits count (i.JumpIf a (pos 0))
  jump_if a p = record { fit = record { fields = (omega (arith, p, most), short_fits 0 (omega arith)); aux = tt }; registers = (p, tt) }

  pub jump_if_not : (a : ℕ) → a + 1 ≤ count → Fits count (i.JumpIfNot a (pos 0))
  jump_if_not a p = record { fit = record { fields = (omega (arith, p, most), short_fits 0 (omega arith)); aux = tt }; registers = (p, tt) }

  pub prepare_loop : (a : ℕ) → a + 3 ≤ count → Fits count (i.ForNPrep a (pos 0))
  prepare_loop a p = record { fit = record { fields = (omega (arith, p, most), short_fits 0 (omega arith)); aux = tt }; registers = (p, tt) }

  pub turn_loop : (a : ℕ) → a + 3 ≤ count → Fits count (i.ForNLoop a (pos 0))
  turn_loop a p = record { fit = record { fields = (omega (arith, p, most), short_fits 0 (omega arith)); aux = tt }; registers = (p, tt) }

  -- ---- lists of values

  listed_fits : (from n : ℕ) → (n ≡ 0 → from + 1 ≤ count) → from + (n - 1) ≤ count → (listed from n).0 + (listed from n).1 ≤ count
  listed_fits from zero some p = some refl
  listed_fits from (suc n) some p = let q : from + (suc n - 1) ≤ count = p in omega (arith, q)

  pub varargs : (a n : ℕ) → a + 1 ≤ count → a + (n - 1) ≤ count → Fits count (i.GetVarargs a n)
  varargs a n p q =
      record { fit = record { fields = (omega (arith, p, most), omega (arith, p, q, most), omega arith); aux = tt }; registers = (listed_fits a n (λ e. p) q, tt) }

  pub return_list : (a n : ℕ) → (n ≡ 0 → a + 1 ≤ count) → a + (n - 1) ≤ count → Fits count (i.Return a n)
  return_list a n p q =
      record { fit = record { fields = (omega (arith, q, most), omega (arith, q, most), omega arith); aux = tt }; registers = (listed_fits a n p q, tt) }

  pub call : (a m n : ℕ) → a + 1 ≤ count → (m ≡ 0 → a + 1 + 1 ≤ count) → a + 1 + (m - 1) ≤ count → a + (n - 1) ≤ count → Fits count (i.Call a m n)
  call a m n p q r s =
      record {
        fit = record { fields = (omega (arith, p, most), omega (arith, r, most), omega (arith, s, most)); aux = tt };
        registers = (p, (listed_fits (a + 1) m q r, (listed_fits a n (λ e. p) s, tt)));
      }

  -- ---- operators

  module _ (a b c : ℕ) (p : a + 1 ≤ count) (q : b + 1 ≤ count) (r : c + 1 ≤ count) where
    three : (a < 2 ^ 8) × (b < 2 ^ 8) × (c < 2 ^ 8)
    three = (omega (arith, p, most), omega (arith, q, most), omega (arith, r, most))

    none : (a < 2 ^ 8) × (0 < 2 ^ 8) × (0 < 2 ^ 8)
    none = (omega (arith, p, most), omega arith, omega arith)

    pub arithmetic : (z : BinOp) → Fits count (operators.arithmetic z a b c)
    arithmetic op.Add = record { fit = record { fields = three; aux = tt }; registers = (p, (q, (r, tt))) }
    arithmetic op.Sub = record { fit = record { fields = three; aux = tt }; registers = (p, (q, (r, tt))) }
    arithmetic op.Mul = record { fit = record { fields = three; aux = tt }; registers = (p, (q, (r, tt))) }
    arithmetic op.Div = record { fit = record { fields = three; aux = tt }; registers = (p, (q, (r, tt))) }
    arithmetic op.Idiv = record { fit = record { fields = three; aux = tt }; registers = (p, (q, (r, tt))) }
    arithmetic op.Mod = record { fit = record { fields = three; aux = tt }; registers = (p, (q, (r, tt))) }
    arithmetic op.Pow = record { fit = record { fields = three; aux = tt }; registers = (p, (q, (r, tt))) }
    arithmetic op.Or = record { fit = record { fields = none; aux = tt }; registers = (p, tt) }
    arithmetic op.And = record { fit = record { fields = none; aux = tt }; registers = (p, tt) }
    arithmetic op.Lt = record { fit = record { fields = none; aux = tt }; registers = (p, tt) }
    arithmetic op.Gt = record { fit = record { fields = none; aux = tt }; registers = (p, tt) }
    arithmetic op.Le = record { fit = record { fields = none; aux = tt }; registers = (p, tt) }
    arithmetic op.Ge = record { fit = record { fields = none; aux = tt }; registers = (p, tt) }
    arithmetic op.Ne = record { fit = record { fields = none; aux = tt }; registers = (p, tt) }
    arithmetic op.Eq = record { fit = record { fields = none; aux = tt }; registers = (p, tt) }
    arithmetic op.Concat = record { fit = record { fields = none; aux = tt }; registers = (p, tt) }

  module _ (a b c : ℕ) (p : a + 1 ≤ count) (q : b + 1 ≤ count) (r : c ≤ 255) where
    two : (a < 2 ^ 8) × (b < 2 ^ 8) × (c < 2 ^ 8)
    two = (omega (arith, p, most), omega (arith, q, most), omega (arith, r))

    only : (a < 2 ^ 8) × (0 < 2 ^ 8) × (0 < 2 ^ 8)
    only = (omega (arith, p, most), omega arith, omega arith)

    pub arithmetic_constant : (z : BinOp) → Fits count (operators.arithmetic_constant z a b c)
    arithmetic_constant op.Add = record { fit = record { fields = two; aux = tt }; registers = (p, (q, tt)) }
    arithmetic_constant op.Sub = record { fit = record { fields = two; aux = tt }; registers = (p, (q, tt)) }
    arithmetic_constant op.Mul = record { fit = record { fields = two; aux = tt }; registers = (p, (q, tt)) }
    arithmetic_constant op.Div = record { fit = record { fields = two; aux = tt }; registers = (p, (q, tt)) }
    arithmetic_constant op.Idiv = record { fit = record { fields = two; aux = tt }; registers = (p, (q, tt)) }
    arithmetic_constant op.Mod = record { fit = record { fields = two; aux = tt }; registers = (p, (q, tt)) }
    arithmetic_constant op.Pow = record { fit = record { fields = two; aux = tt }; registers = (p, (q, tt)) }
    arithmetic_constant op.Or = record { fit = record { fields = only; aux = tt }; registers = (p, tt) }
    arithmetic_constant op.And = record { fit = record { fields = only; aux = tt }; registers = (p, tt) }
    arithmetic_constant op.Lt = record { fit = record { fields = only; aux = tt }; registers = (p, tt) }
    arithmetic_constant op.Gt = record { fit = record { fields = only; aux = tt }; registers = (p, tt) }
    arithmetic_constant op.Le = record { fit = record { fields = only; aux = tt }; registers = (p, tt) }
    arithmetic_constant op.Ge = record { fit = record { fields = only; aux = tt }; registers = (p, tt) }
    arithmetic_constant op.Ne = record { fit = record { fields = only; aux = tt }; registers = (p, tt) }
    arithmetic_constant op.Eq = record { fit = record { fields = only; aux = tt }; registers = (p, tt) }
    arithmetic_constant op.Concat = record { fit = record { fields = only; aux = tt }; registers = (p, tt) }

  module _ (a b c : ℕ) (p : a + 1 ≤ count) (q : b ≤ 255) (r : c + 1 ≤ count) where
    sides : (a < 2 ^ 8) × (b < 2 ^ 8) × (c < 2 ^ 8)
    sides = (omega (arith, p, most), omega (arith, q), omega (arith, r, most))

    alone : (a < 2 ^ 8) × (0 < 2 ^ 8) × (0 < 2 ^ 8)
    alone = (omega (arith, p, most), omega arith, omega arith)

    pub from_constant : (z : BinOp) → Fits count (operators.from_constant z a b c)
    from_constant op.Sub = record { fit = record { fields = sides; aux = tt }; registers = (p, (r, tt)) }
    from_constant op.Div = record { fit = record { fields = sides; aux = tt }; registers = (p, (r, tt)) }
    from_constant op.Add = record { fit = record { fields = alone; aux = tt }; registers = (p, tt) }
    from_constant op.Mul = record { fit = record { fields = alone; aux = tt }; registers = (p, tt) }
    from_constant op.Idiv = record { fit = record { fields = alone; aux = tt }; registers = (p, tt) }
    from_constant op.Mod = record { fit = record { fields = alone; aux = tt }; registers = (p, tt) }
    from_constant op.Pow = record { fit = record { fields = alone; aux = tt }; registers = (p, tt) }
    from_constant op.Or = record { fit = record { fields = alone; aux = tt }; registers = (p, tt) }
    from_constant op.And = record { fit = record { fields = alone; aux = tt }; registers = (p, tt) }
    from_constant op.Lt = record { fit = record { fields = alone; aux = tt }; registers = (p, tt) }
    from_constant op.Gt = record { fit = record { fields = alone; aux = tt }; registers = (p, tt) }
    from_constant op.Le = record { fit = record { fields = alone; aux = tt }; registers = (p, tt) }
    from_constant op.Ge = record { fit = record { fields = alone; aux = tt }; registers = (p, tt) }
    from_constant op.Ne = record { fit = record { fields = alone; aux = tt }; registers = (p, tt) }
    from_constant op.Eq = record { fit = record { fields = alone; aux = tt }; registers = (p, tt) }
    from_constant op.Concat = record { fit = record { fields = alone; aux = tt }; registers = (p, tt) }

  module _ (a b : ℕ) (p : a + 1 ≤ count) (q : b + 1 ≤ count) where
    pair : (a < 2 ^ 8) × (b < 2 ^ 8) × (0 < 2 ^ 8)
    pair = (omega (arith, p, most), omega (arith, q, most), omega arith)

    pub unary_insn : (z : UnOp) → Fits count (operators.unary_insn z a b)
    unary_insn unary.Not = record { fit = record { fields = pair; aux = tt }; registers = (p, (q, tt)) }
    unary_insn unary.Len = record { fit = record { fields = pair; aux = tt }; registers = (p, (q, tt)) }
    unary_insn unary.Minus = record { fit = record { fields = pair; aux = tt }; registers = (p, (q, tt)) }

    test : (a < 2 ^ 8) × FitsSigned w16 (pos 0)
    test = (omega (arith, p, most), short_fits 0 (omega arith))

    near : b < 2 ^ 32
    near = omega (arith, q, most)

    equality : (so : Bool) → Fits count (operators.equality so a b)
    equality true = record { fit = record { fields = test; aux = near }; registers = (p, (q, tt)) }
    equality false = record { fit = record { fields = test; aux = near }; registers = (p, (q, tt)) }

    less : (so : Bool) → Fits count (operators.less so a b)
    less true = record { fit = record { fields = test; aux = near }; registers = (p, (q, tt)) }
    less false = record { fit = record { fields = test; aux = near }; registers = (p, (q, tt)) }

    at_most : (so : Bool) → Fits count (operators.at_most so a b)
    at_most true = record { fit = record { fields = test; aux = near }; registers = (p, (q, tt)) }
    at_most false = record { fit = record { fields = test; aux = near }; registers = (p, (q, tt)) }

  pub comparison : (z : BinOp) (so : Bool) (a b : ℕ) → a + 1 ≤ count → b + 1 ≤ count → Fits count (operators.comparison z so a b)
  comparison op.Eq so a b p q = equality a b p q so
  comparison op.Ne so a b p q = equality a b p q (not so)
  comparison op.Lt so a b p q = less a b p q so
  comparison op.Gt so a b p q = less b a q p so
  comparison op.Le so a b p q = at_most a b p q so
  comparison op.Ge so a b p q = at_most b a q p so
  comparison op.Or so a b p q = jump
  comparison op.And so a b p q = jump
  comparison op.Concat so a b p q = jump
  comparison op.Add so a b p q = jump
  comparison op.Sub so a b p q = jump
  comparison op.Mul so a b p q = jump
  comparison op.Div so a b p q = jump
  comparison op.Idiv so a b p q = jump
  comparison op.Mod so a b p q = jump
  comparison op.Pow so a b p q = jump

  pub truth : (so : Bool) (a : ℕ) → a + 1 ≤ count → Fits count (operators.truth so a)
  truth true a p = jump_if a p
  truth false a p = jump_if_not a p
