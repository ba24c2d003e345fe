-- Operators on values that a script may use mean those on the values that they mean.
use Rattle.std.proofs.Common.{◌≡◌, ℤ, pos, Bool, true, false, cond, not, ◌&&◌, List, [], ◌∷◌, Option, Some, None, Result, Ok, Err, slice_get, codes, refl, sym, ◌∙◌, ap}
use Rattle.std.specs.Prelude.{int_lt, int_le, if◌then◌else◌}
use Rattle.value_model.specs.Choices as choice
use Rattle.value_model.specs.Errors as error
use Rattle.value_model.specs.Metamethods as model
use Rattle.value_model.specs.Operators.{calculated}
use Rattle.value_model.specs.Parts.{meant, meant_error, table_ref}
use Rattle.value_model.specs.Store.{Store}
use Rattle.value_model.specs.Tables.{same, border}
use Rattle.value_model.specs.Store as store
use Rattle.value_model.specs.Values as m
use Rattle.value_model.specs.Values.{Bytes, kind_of}
use Rattle.value_model.specs.declared.error.RunErr.TheVariants as err
use Rattle.value_model.specs.declared.ids.Owner.{Owner}
use Rattle.value_model.specs.declared.ids.TableId.{TableId}
use Rattle.value_model.specs.declared.operator.ArithOp.{ArithOp}
use Rattle.value_model.specs.declared.operator.ArithOp.TheVariants as op
use Rattle.value_model.specs.declared.operator.CompareOp.TheVariants as order
use Rattle.value_model.specs.declared.value.Value.{Value}
use Rattle.value_model.specs.declared.value.Value.TheVariants as value
use Rattle.whole_num.specs.NumberTexts.{ReadNumber}
use Rattle.whole_num.specs.declared.arithmetic.Stop.{Stop}
use Rattle.value_arena.specs.Arenas.{ArenaView}
use Rattle.value_arena.specs.Tables as tables
use Rattle.luau_tables.specs.Own.{IsOwn, MayUse}
use Rattle.luau_tables.specs.Part.{store_of}
use Rattle.luau_tables.specs.declared.globals.Globals.{Globals}
use Rattle.luau_tables.proofs.OwnTables.{border_part, own_value}
use Rattle.luau_tables.proofs.Sameness.{same_kept}
use Rattle.meta_ops.specs.OnIds as kept
use Rattle.meta_ops.specs.Outcomes.{meant_outcome, IsChosen, OfOutcome}
use Rattle.meta_ops.specs.declared.outcome.Outcome.{Outcome}
use Rattle.meta_ops.specs.declared.outcome.Outcome.TheVariants.{Done, RunError}
use Rattle.meta_ops.proofs.CallsKept.{Means, two_kinds, one, two, chosen_is}
use Rattle.meta_ops.proofs.MetamethodsKept.{is_function_kept, kind_kept, metamethod_part, metamethod_usable}

calculate_kept : (texts : List Bytes) (o : ArithOp) (x y : Result ℤ Stop) → model.calculate o x y ≡ meant_outcome texts (kept.calculate o x y)
unfolding meant_outcome meant
calculate_kept texts o (Err s) y = refl
calculate_kept texts o (Ok x) (Err s) = refl
calculate_kept texts o (Ok x) (Ok y) = by (calculated o x y)
  where
    by : (r : Result ℤ Stop) → model.numbered r ≡ meant_outcome texts (kept.numbered r)
    by (Ok z) = refl
    by (Err s) = refl

-- the order of two numbers or of two strings
ordered_kept : (numbers : ℤ → ℤ → Bool) (strings : Bytes → Bytes → Bool) (texts : List Bytes) (v u : Value) →
    model.ordered numbers strings (meant texts v) (meant texts u) ≡ kept.ordered numbers strings texts v u
unfolding meant
ordered_kept numbers strings texts (value.Num x) (value.Num y) = refl
ordered_kept numbers strings texts (value.Num x) _ = refl
ordered_kept numbers strings texts (value.Str x) (value.Str y) = refl
ordered_kept numbers strings texts (value.Str x) _ = refl
ordered_kept numbers strings texts _ _ = refl

-- a test of two tables for difference
different_is : (texts : List Bytes) (v u : Value) →
    model.is_different_table (meant texts v) (meant texts u) ≡ (kept.both_tables v u && not (same (meant texts v) (meant texts u)))
unfolding meant same
different_is texts (value.Table t) (value.Table u) = refl
different_is texts (value.Table t) _ = refl
different_is texts _ _ = refl

module _ (texts : List Bytes) (g : Globals) (a : ArenaView) (w : Owner) (own : IsOwn texts g a w) where
  abbrev part : Store
  part = store_of texts g a w

  abbrev May : Value → Type 0
  May v = MayUse texts a w v

  abbrev Of : Outcome → Type 0
  Of o = OfOutcome texts (MayUse texts a w) o

  -- ---- arithmetic

  arith_named : (o : ArithOp) → slice_get texts (kept.arith_name o g.meta).0 ≡ Some (model.arith_name o)
  arith_named op.Add = own.globals.names.add
  arith_named op.Sub = own.globals.names.sub
  arith_named op.Mul = own.globals.names.mul
  arith_named op.Div = own.globals.names.div
  arith_named op.Idiv = own.globals.names.idiv
  arith_named op.Mod = own.globals.names.mod_
  arith_named op.Pow = own.globals.names.pow
  arith_named op.Unm = own.globals.names.unm

  calculated_usable : (o : ArithOp) (x y : Result ℤ Stop) → Of (kept.calculate o x y)
  calculated_usable o (Err s) y = tt
  calculated_usable o (Ok x) (Err s) = tt
  calculated_usable o (Ok x) (Ok y) = by (calculated o x y)
    where
      by : (r : Result ℤ Stop) → Of (kept.numbered r)
      by (Ok z) = (tt, tt)
      by (Err s) = tt

  numbers : (o : ArithOp) (x y : Result ℤ Stop) → Means texts a w (model.calculate o x y) (kept.calculate o x y)
  numbers o x y = record { meant = calculate_kept texts o x y; usable = calculated_usable o x y }

  no_numbers : (o : ArithOp) (v u : Value) →
      Means texts a w (choice.Errs (error.Arithmetic o (kind_of (meant texts v)) (kind_of (meant texts u)))) (kept.arithmetic_error o v u)
  unfolding meant_error
  no_numbers o v u = record { meant = two_kinds texts v u (error.Arithmetic o) (err.Arithmetic o) (λ l r. refl); usable = tt }

  of_two_means : (o : ArithOp) (v u : Value) → May v → May u → (x y : ReadNumber) →
      Means texts a w (model.arith_numbers part o (meant texts v) (meant texts u) x y) (kept.of_two a g o v u x y)
  of_two_means o v u h k (Some x) (Some y) = numbers o x y
  of_two_means o v u h k (Some x) None = two texts g a w own (kept.arith_name o g.meta) (model.arith_name o) (arith_named o) v u h k _ _ (no_numbers o v u)
  of_two_means o v u h k None y = two texts g a w own (kept.arith_name o g.meta) (model.arith_name o) (arith_named o) v u h k _ _ (no_numbers o v u)

  minus_means : (v : Value) → May v → (x : ReadNumber) → Means texts a w (model.minus_number part (meant texts v) x) (kept.minus a g v x)
  minus_means v h (Some x) = numbers op.Unm x x
  minus_means v h None = one texts g a w own g.meta.unm (codes "__unm") own.globals.names.unm v h _ _ (no_numbers op.Unm v v)

  -- ---- comparison

  answered : (b : Bool) → Means texts a w (choice.Done (m.Boolean b)) (kept.answer b)
  unfolding meant meant_outcome
  answered b = record { meant = refl; usable = (tt, tt) }

  equal_means : (v u : Value) → May v → May u → Means texts a w (model.equal part (meant texts v) (meant texts u)) (kept.equal a g v u)
  equal_means v u h k =
      let asks : Means texts a w
      (model.call_or_else (model.metamethod_of_two part (meant texts v) (meant texts u) (codes "__eq")) (meant texts v ∷ meant texts u ∷ []) (choice.Done (m.Boolean false))) (kept.different a g v u) = two texts g a w own g.meta.eq (codes "__eq") own.globals.names.eq v u h k _ _ (answered false) in
      by (kept.both_tables v u) (same (meant texts v) (meant texts u)) (tables.same v u) (model.is_different_table (meant texts v) (meant texts u))
      (different_is texts v u)
      (same_kept texts w own.interned.distinct v u (own_value texts g a w own v h) (own_value texts g a w own u k)) _ _ asks
    where
      by : (both s t d : Bool) → d ≡ (both && not s) → s ≡ t → (p : choice.Outcome) (o : Outcome) → Means texts a w p o →
          Means texts a w (if d then p else choice.Done (m.Boolean s)) (cond t (kept.answer true) (cond both o (kept.answer false)))
      by true true t d e f p o n = rw (e, ← f) (answered true)
      by true false t d e f p o n = rw (e, ← f) n
      by false true t d e f p o n = rw (e, ← f) (answered true)
      by false false t d e f p o n = rw (e, ← f) (answered false)

  less_means : (v u : Value) → May v → May u → (x : Option Bool) →
      Means texts a w
      (model.or_metamethod part (meant texts v) (meant texts u) (codes "__lt") (error.CompareLess (kind_of (meant texts v)) (kind_of (meant texts u))) x) (kept.less a g v u x)
  unfolding meant_error
  less_means v u h k (Some b) = answered b
  less_means v u h k None =
      two texts g a w own g.meta.lt (codes "__lt") own.globals.names.lt v u h k _ _
      (record { meant = two_kinds texts v u error.CompareLess err.CompareLess (λ l r. refl); usable = tt })

  less_or_equal_means : (v u : Value) → May v → May u → (x : Option Bool) →
      Means texts a w
      (model.or_metamethod part (meant texts v) (meant texts u) (codes "__le") (error.CompareLessOrEqual (kind_of (meant texts v)) (kind_of (meant texts u))) x) (kept.less_or_equal a g v u x)
  unfolding meant_error
  less_or_equal_means v u h k (Some b) = answered b
  less_or_equal_means v u h k None =
      two texts g a w own g.meta.le (codes "__le") own.globals.names.le v u h k _ _
      (record { meant = two_kinds texts v u error.CompareLessOrEqual err.CompareLessOrEqual (λ l r. refl); usable = tt })

  -- ---- length

  no_length : (v : Value) → Means texts a w (choice.Errs (error.LengthOf (kind_of (meant texts v)))) (RunError (err.LengthOf (kept.kind_of v)))
  unfolding meant_outcome meant_error
  no_length v = record { meant = ap (λ k. choice.Errs (error.LengthOf k)) (kind_kept texts v); usable = tt }

  border_means : (t : TableId) → May (value.Table t) →
      Means texts a w (choice.Done (m.Number (pos (border (store.table_at part (table_ref t)))))) (kept.border_of a t)
  unfolding meant_outcome meant
  border_means t h = record { meant = ap (λ n. choice.Done (m.Number (pos n))) (border_part texts g a w own t h); usable = (tt, tt) }

  length_means : (v : Value) → May v → Means texts a w (model.length_of part (meant texts v)) (kept.length_of texts a g v)
  unfolding model.length_of meant meant_outcome kept.metamethod
  length_means (value.Str x) h = record { meant = refl; usable = (tt, tt) }
  length_means (value.Table t) h = one texts g a w own g.meta.len (codes "__len") own.globals.names.len (value.Table t) h _ _ (border_means t h)
  length_means v h = no_length v

  -- ---- calls

  not_called : (v : Value) → Means texts a w (choice.Errs (error.CallOf (kind_of (meant texts v)))) (RunError (err.CallOf (kept.kind_of v)))
  unfolding meant_outcome meant_error
  not_called v = record { meant = ap (λ k. choice.Errs (error.CallOf k)) (kind_kept texts v); usable = tt }

  callable_means : (v h : Value) → May v → May h → Means texts a w (model.callable (meant texts v) (meant texts h)) (kept.callable v h)
  unfolding meant_outcome
  callable_means v h k l = by (model.is_function (meant texts h)) (kept.is_function h) (is_function_kept texts h)
    where
      by : (b c : Bool) → b ≡ c →
          Means texts a w (if b then choice.CallThis (meant texts h) (meant texts v ∷ []) else choice.Errs (error.CallOf (kind_of (meant texts v))))
          (cond c (kept.call_one h v) (RunError (err.CallOf (kept.kind_of v))))
      by true c e = rw (← e) (record { meant = refl; usable = (l, (k, ((tt, tt), ((tt, tt), tt)))) })
      by false c e = rw (← e) (not_called v)

  callee_means : (v : Value) → May v → Means texts a w (model.callee_of part (meant texts v)) (kept.callee_of a g v)
  unfolding model.callee_of meant_outcome
  callee_means v h =
      by (model.is_function (meant texts v)) (kept.is_function v) (is_function_kept texts v) (model.metamethod part (meant texts v) (codes "__call"))
      (metamethod_part texts g a w own g.meta.call (codes "__call") own.globals.names.call v h)
    where
      by : (b c : Bool) → b ≡ c → (f : m.Value) → f ≡ meant texts (kept.metamethod a g v g.meta.call) →
          Means texts a w (if b then choice.Done (meant texts v) else model.callable (meant texts v) f)
          (cond c (Done v) (kept.callable v (kept.metamethod a g v g.meta.call)))
      by true c e f k = rw (← e) (record { meant = refl; usable = h })
      by false c e f k = rw (← e, k) (callable_means v (kept.metamethod a g v g.meta.call) h (metamethod_usable texts g a w own v g.meta.call h))

  -- ---- so it is chosen

  pub minus_chosen : (v u : Value) → MayUse texts a w v → (outcome : Outcome) → outcome ≡ kept.minus a g v (model.as_number (meant texts v)) →
      IsChosen texts g a w (choice.Arith op.Unm (meant texts v) (meant texts u)) outcome 0
  unfolding model.choose model.arith
  minus_chosen v u h outcome e =
      chosen_is texts g a w own (choice.Arith op.Unm (meant texts v) (meant texts u)) _ _ outcome refl (minus_means v h (model.as_number (meant texts v))) e

  is_two : (o : ArithOp) (v u : m.Value) → (o ≡ op.Unm → ⊥) →
      model.choose (choice.Arith o v u) part ≡ model.chosen part 0 (model.arith_numbers part o v u (model.as_number v) (model.as_number u))
  unfolding model.choose model.arith
  is_two op.Unm v u n = absurd (n refl)
  is_two op.Add v u n = refl
  is_two op.Sub v u n = refl
  is_two op.Mul v u n = refl
  is_two op.Div v u n = refl
  is_two op.Idiv v u n = refl
  is_two op.Mod v u n = refl
  is_two op.Pow v u n = refl

  pub of_two_chosen : (o : ArithOp) (v u : Value) → (o ≡ op.Unm → ⊥) → MayUse texts a w v → MayUse texts a w u → (outcome : Outcome) →
      outcome ≡ kept.of_two a g o v u (model.as_number (meant texts v)) (model.as_number (meant texts u)) →
      IsChosen texts g a w (choice.Arith o (meant texts v) (meant texts u)) outcome 0
  of_two_chosen o v u n h k outcome e =
      chosen_is texts g a w own (choice.Arith o (meant texts v) (meant texts u)) _ _ outcome (is_two o (meant texts v) (meant texts u) n)
      (of_two_means o v u h k (model.as_number (meant texts v)) (model.as_number (meant texts u))) e

  pub equal_chosen : (v u : Value) → MayUse texts a w v → MayUse texts a w u → (outcome : Outcome) → outcome ≡ kept.equal a g v u →
      IsChosen texts g a w (choice.Compare order.Eq (meant texts v) (meant texts u)) outcome 0
  unfolding model.choose model.compare
  equal_chosen v u h k outcome e = chosen_is texts g a w own (choice.Compare order.Eq (meant texts v) (meant texts u)) _ _ outcome refl (equal_means v u h k) e

  pub less_chosen : (v u : Value) → MayUse texts a w v → MayUse texts a w u → (outcome : Outcome) →
      outcome ≡ kept.less a g v u (kept.ordered int_lt model.bytes_less texts v u) →
      IsChosen texts g a w (choice.Compare order.Lt (meant texts v) (meant texts u)) outcome 0
  unfolding model.choose model.compare
  less_chosen v u h k outcome e =
      chosen_is texts g a w own (choice.Compare order.Lt (meant texts v) (meant texts u)) _ _ outcome refl
      (less_means v u h k (model.ordered int_lt model.bytes_less (meant texts v) (meant texts u)))
      (e ∙ ap (kept.less a g v u) (sym (ordered_kept int_lt model.bytes_less texts v u)))

  pub less_or_equal_chosen : (v u : Value) → MayUse texts a w v → MayUse texts a w u → (outcome : Outcome) →
      outcome ≡ kept.less_or_equal a g v u (kept.ordered int_le (λ x y. not (model.bytes_less y x)) texts v u) →
      IsChosen texts g a w (choice.Compare order.Le (meant texts v) (meant texts u)) outcome 0
  unfolding model.choose model.compare
  less_or_equal_chosen v u h k outcome e =
      chosen_is texts g a w own (choice.Compare order.Le (meant texts v) (meant texts u)) _ _ outcome refl
      (less_or_equal_means v u h k (model.ordered int_le (λ x y. not (model.bytes_less y x)) (meant texts v) (meant texts u)))
      (e ∙ ap (kept.less_or_equal a g v u) (sym (ordered_kept int_le (λ x y. not (model.bytes_less y x)) texts v u)))

  pub length_chosen : (v : Value) → MayUse texts a w v → (outcome : Outcome) → outcome ≡ kept.length_of texts a g v →
      IsChosen texts g a w (choice.Length (meant texts v)) outcome 0
  unfolding model.choose
  length_chosen v h outcome e = chosen_is texts g a w own (choice.Length (meant texts v)) _ _ outcome refl (length_means v h) e

  pub callee_chosen : (v : Value) → MayUse texts a w v → (outcome : Outcome) → outcome ≡ kept.callee_of a g v →
      IsChosen texts g a w (choice.Callee (meant texts v)) outcome 0
  unfolding model.choose
  callee_chosen v h outcome e = chosen_is texts g a w own (choice.Callee (meant texts v)) _ _ outcome refl (callee_means v h) e
