-- A function whose code fits so far, and each step that puts something into it.
use Rattle.std.proofs.Common.{◌≡◌, ℕ, zero, suc, ◌+◌, ◌≤◌, Bool, true, false, List, [], ◌∷◌, ◌++◌, take, drop, Option, Some, None, nat_eq, if◌then◌else◌, refl, arith}
use Rattle.std.specs.Prelude.{unwrap_or}
use Rattle.byte_text.specs.declared.fixed.StrId.{StrId}
use Rattle.op_words.specs.declared.chunk.Const.{Const}
use Rattle.op_words.specs.declared.insn.Insn.{Insn}
use Rattle.op_words.specs.declared.insn.Insn.TheVariants as i
use Rattle.code_link.specs.declared.item.Item.{Item}
use Rattle.code_link.specs.declared.item.Item.TheVariants as item
use Rattle.syntax_tree.specs.declared.bindings.Bindings.{Bindings}
use Rattle.syntax_tree.specs.declared.bindings.Bound.{Bound}
use Rattle.syntax_tree.specs.declared.bindings.Bound.TheVariants as bound
use Rattle.emit_expr.specs.declared.draft.Emitter.{Emitter}
use Rattle.emit_expr.specs.declared.draft.Mark.{Mark}
use Rattle.emit_expr.specs.declared.draft.Variable.{Variable}
use Rattle.emit_expr.specs.Puts as puts
use Rattle.emit_expr.specs.Puts.{with_constant, with_string, declare, forget}
use Rattle.emit_expr.specs.Puts.{put as put_item}
use Rattle.emit_expr.specs.Names as names
use Rattle.operand_laws.specs.Fitting.{Fits, AllFit}
use Rattle.operand_laws.specs.Laws.{AreFitting}
use Rattle.operand_laws.proofs.Instructions as insns

abbrev pub AreUnder : (count : ℕ) → List Variable → Type 0
AreUnder count [] = Unit {0}
AreUnder count (v ∷ vs) = (v.register + 1 ≤ count) × AreUnder count vs

-- the function that is emitted has that number and so many registers, and those that are done fit theirs
pub record Fine (count func : ℕ) (d : Emitter) : Type 0 where
  pub items : AllFit count d.draft.items
  pub variables : AreUnder count d.draft.variables
  pub named : d.draft.func ≡ func
  pub protos : AreFitting d.protos

all_both : (count : ℕ) (xs ys : List Item) → AllFit count xs → AllFit count ys → AllFit count (xs ++ ys)
all_both count [] ys a b = b
all_both count (item.Insn x ∷ xs) ys a b = (a.0, all_both count xs ys a.1 b)
all_both count (item.Branch x l ∷ xs) ys a b = (a.0, all_both count xs ys a.1 b)
all_both count (item.Label l ∷ xs) ys a b = all_both count xs ys a b

under_both : (count : ℕ) (xs ys : List Variable) → AreUnder count xs → AreUnder count ys → AreUnder count (xs ++ ys)
under_both count [] ys a b = b
under_both count (x ∷ xs) ys a b = (a.0, under_both count xs ys a.1 b)

under_take : (count n : ℕ) (xs : List Variable) → AreUnder count xs → AreUnder count (take n xs)
under_take count zero [] a = tt
under_take count (suc n) [] a = tt
under_take count zero (x ∷ xs) a = tt
under_take count (suc n) (x ∷ xs) a = (a.0, under_take count n xs a.1)

module _ (count func : ℕ) where
  pub insn : (x : Insn) (d : Emitter) → Fits count x → Fine count func d → Fine count func (puts.insn x d)
  unfolding put_item
  insn x d fit f = record { items = all_both count d.draft.items (item.Insn x ∷ []) f.items (fit, tt); variables = f.variables; named = f.named; protos = f.protos }

  pub branch : (x : Insn) (l : ℕ) (d : Emitter) → Fits count x → Fine count func d → Fine count func (puts.branch x l d)
  unfolding put_item
  branch x l d fit f = record { items = all_both count d.draft.items (item.Branch x l ∷ []) f.items (fit, tt); variables = f.variables; named = f.named; protos = f.protos }

  pub place : (l : ℕ) (d : Emitter) → Fine count func d → Fine count func (puts.place l d)
  unfolding put_item
  place l d f = record { items = all_both count d.draft.items (item.Label l ∷ []) f.items tt; variables = f.variables; named = f.named; protos = f.protos }

  pub constant : (k : Const) (d : Emitter) → Fine count func d → Fine count func (puts.with_constant k d)
  unfolding with_constant
  constant k d f = record { items = f.items; variables = f.variables; named = f.named; protos = f.protos }

  pub string : (t : StrId) (d : Emitter) → Fine count func d → Fine count func (puts.with_string t d)
  unfolding with_string
  string t d f = record { items = f.items; variables = f.variables; named = f.named; protos = f.protos }

  pub text : (t : StrId) (d : Emitter) → Fine count func d → Fine count func (puts.with_text t d)
  text t d f = constant (puts.text_constant t d) (puts.with_string t d) (string t d f)

  pub variable : (number register : ℕ) (d : Emitter) → register + 1 ≤ count → Fine count func d → Fine count func (puts.declare number register d)
  unfolding declare
  variable number register d lt f = record { items = f.items; variables = under_both count d.draft.variables (record { number = number; register = register } ∷ []) f.variables (lt, tt); named = f.named; protos = f.protos }

  pub forgotten : (left : ℕ) (d : Emitter) → Fine count func d → Fine count func (puts.forget left d)
  unfolding forget
  forgotten left d f = record { items = f.items; variables = under_take count left d.draft.variables f.variables; named = f.named; protos = f.protos }

  -- ---- names

  register_found : (k : ℕ) (vs : List Variable) → AreUnder count vs → (r : ℕ) → names.register_in k vs ≡ Some r → r + 1 ≤ count
  register_found k [] h r e = cc
  register_found k (v ∷ vs) h r e = which (λ p. register_found k vs h.1 r p) (nat_eq v.number k) e
    where
      which : (names.register_in k vs ≡ Some r → r + 1 ≤ count) → (z : Bool) → (if z then Some v.register else names.register_in k vs) ≡ Some r → r + 1 ≤ count
      which later true p = let same : v.register ≡ r = cc in let a = h.0 in omega (arith, a, same)
      which later false p = later p

  pub register_fits : (k : ℕ) (d : Emitter) → 1 ≤ count → Fine count func d → names.register_of k d + 1 ≤ count
  register_fits k d one f = which (names.register_in k d.draft.variables) refl
    where
      which : (o : Option ℕ) → names.register_in k d.draft.variables ≡ o → unwrap_or o 0 + 1 ≤ count
      which (Some r) e = register_found k d.draft.variables f.variables r e
      which None e = omega (arith, one)

module _ (count func : ℕ) (most : count ≤ 250) (b : Bindings) where
  pub name_fine : (x : Bound) (name : StrId) (to : ℕ) (d : Emitter) → to + 1 ≤ count → Fine count func d → Fine count func (names.name_run b x name to d)
  name_fine (bound.Local k) name to d lt f = insn count func _ d (insns.move count most to (names.register_of k d) lt (register_fits count func k d (omega (arith, lt)) f)) f
  name_fine (bound.Up k) name to d lt f = insn count func _ d (insns.get_upvalue count most to _ lt) f
  name_fine bound.Global name to d lt f = insn count func _ (puts.with_text name d) (insns.get_global count most to _ lt) (text count func name d f)

  pub assign_fine : (x : Bound) (name : StrId) (from : ℕ) (d : Emitter) → from + 1 ≤ count → Fine count func d → Fine count func (names.assign_run b x name from d)
  assign_fine (bound.Local k) name from d lt f = insn count func _ d (insns.move count most (names.register_of k d) from (register_fits count func k d (omega (arith, lt)) f) lt) f
  assign_fine (bound.Up k) name from d lt f = insn count func _ d (insns.set_upvalue count most from _ lt) f
  assign_fine bound.Global name from d lt f = insn count func _ (puts.with_text name d) (insns.set_global count most from _ lt) (text count func name d f)

  pub close_fine : (m : Mark) (d : Emitter) → m.free ≤ 250 → Fine count func d → Fine count func (names.close_run b m d)
  close_fine m d le f = which (names.any_captured b (drop m.variables d.draft.variables))
    where
      which : (z : Bool) → Fine count func (if z then puts.insn (i.CloseUpvalues m.free) d else d)
      which true = insn count func (i.CloseUpvalues m.free) d (insns.close count most m.free le) f
      which false = f

  pub ended_fine : (m : Mark) (d : Emitter) → m.free ≤ 250 → Fine count func d → Fine count func (names.ended b m d)
  ended_fine m d le f = forgotten count func m.variables (names.close_run b m d) (close_fine m d le f)

  pub capture_fine : (k : ℕ) (d : Emitter) → Fine count func d → Fine count func (names.capture b k d)
  capture_fine k d f = which (names.register_in k d.draft.variables) refl
    where
      which : (o : Option ℕ) → names.register_in k d.draft.variables ≡ o → Fine count func (names.capture_of b k o d)
      which (Some r) e = insn count func _ d (insns.capture_register count most r (register_found count func k d.draft.variables f.variables r e)) f
      which None e = insn count func _ d (insns.capture_upvalue count most _) f

  pub captures_fine : (ks : List ℕ) (d : Emitter) → Fine count func d → Fine count func (names.captures b ks d)
  captures_fine [] d f = f
  captures_fine (k ∷ ks) d f = captures_fine ks _ (capture_fine k d f)

  pub declared_fine : (number register n : ℕ) (d : Emitter) → register + n ≤ count → Fine count func d → Fine count func (names.declare_all number register n d)
  declared_fine number register zero d le f = f
  declared_fine number register (suc n) d le f =
      declared_fine (names.next_number number) (register + 1) n _ (omega (arith, le)) (variable count func number register d (omega (arith, le)) f)
