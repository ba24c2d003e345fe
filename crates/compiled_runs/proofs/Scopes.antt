-- The locals that a function sees, its registers, and the variables of its code: which of them stand for one another.
use Rattle.std.proofs.Common.{◌≡◌, ℕ, ◌<◌, ◌≤◌, ◌==◌, Bool, true, false, List, [], ◌∷◌, ◌++◌, length, Option, Some, None, refl, sym, ap, ◌∙◌, arith, subst, nat_eq, if◌then◌else◌}
use Rattle.std.proofs.lemmas.Bool.{eq-eqb, ne_eqb}
use Rattle.byte_text.specs.declared.fixed.StrId.{StrId}
use Rattle.syntax_tree.specs.declared.bindings.Bindings.{Bindings}
use Rattle.syntax_tree.specs.declared.notes.Visible.{Visible}
use Rattle.syntax_tree.specs.Scope.{look, unless_later}
use Rattle.emit_expr.specs.declared.draft.Variable.{Variable}
use Rattle.emit_expr.specs.Names.{is_captured, register_in}
use Rattle.code_simulation.specs.Slots.{Slot, Var, Temp, Local, local_at}

pub same_some : {A : Type 0} {x y : A} → Some x ≡ Some y → x ≡ y
same_some e = cc

pub some_none : {A B : Type 0} {x : A} → None ≡ Some x → B
some_none e = cc

-- ---- looking up from the newest on

abbrev newest : Bool → ℕ → Option ℕ → Option ℕ
newest same local older = if same then Some local else older

later_newest : (same older : Bool) (local n : ℕ) (o : Option ℕ) → unless_later older n (newest same local o) ≡ newest same local (unless_later older n o)
later_newest true older local n o = refl
later_newest false older local n o = refl

only_newest : (same : Bool) (local : ℕ) → unless_later same local None ≡ newest same local None
only_newest true local = refl
only_newest false local = refl

look_last : (x : StrId) (v : Visible) (ws : List Visible) → look x (ws ++ v ∷ []) ≡ newest (v.name.0 == x.0) v.local (look x ws)
look_last x v [] = only_newest (v.name.0 == x.0) v.local
look_last x v (w ∷ ws) =
    ap (unless_later (w.name.0 == x.0) w.local) (look_last x v ws)
    ∙ later_newest (v.name.0 == x.0) (w.name.0 == x.0) v.local w.local (look x ws)

-- ---- variables by their numbers

abbrev pub AllBelow : ℕ → List Variable → Type 0
AllBelow n [] = Unit {0}
AllBelow n (w ∷ ws) = (w.number < n) × AllBelow n ws

abbrev pub AllFrom : ℕ → List Variable → Type 0
AllFrom n [] = Unit {0}
AllFrom n (w ∷ ws) = (n ≤ w.number) × AllFrom n ws

pub below_later : (n m : ℕ) (ws : List Variable) → n ≤ m → AllBelow n ws → AllBelow m ws
below_later n m [] le h = tt
below_later n m (w ∷ ws) le h = (omega (arith, h.0, le), below_later n m ws le h.1)

pub below_one : (n : ℕ) (ws : List Variable) (v : Variable) → AllBelow n ws → v.number < n → AllBelow n (ws ++ v ∷ [])
below_one n [] v h lt = (lt, tt)
below_one n (w ∷ ws) v h lt = (h.0, below_one n ws v h.1 lt)

from_one : (n : ℕ) (ws : List Variable) (v : Variable) → AllFrom n ws → n ≤ v.number → AllFrom n (ws ++ v ∷ [])
from_one n [] v h le = (le, tt)
from_one n (w ∷ ws) v h le = (h.0, from_one n ws v h.1 le)

register_new : (k : ℕ) (v : Variable) (ws : List Variable) → v.number ≡ k → AllBelow k ws → register_in k (ws ++ v ∷ []) ≡ Some v.register
register_new k v [] e h = ap (λ b. if b then Some v.register else None) (eq-eqb v.number k e)
register_new k v (w ∷ ws) e h =
    ap (λ b. if b then Some w.register else register_in k (ws ++ v ∷ [])) (ne_eqb w.number k (λ z. omega (arith, z, h.0)))
    ∙ register_new k v ws e h.1

pub register_old : (k r : ℕ) (ws more : List Variable) → register_in k ws ≡ Some r → register_in k (ws ++ more) ≡ Some r
register_old k r [] more e = some_none e
register_old k r (w ∷ ws) more e = by (nat_eq w.number k) e (register_old k r ws more)
  where
    by : (b : Bool) → (if b then Some w.register else register_in k ws) ≡ Some r → (register_in k ws ≡ Some r → register_in k (ws ++ more) ≡ Some r)
        → (if b then Some w.register else register_in k (ws ++ more)) ≡ Some r
    by true e below = e
    by false e below = below e

pub register_none : (k n : ℕ) (ws : List Variable) → AllFrom n ws → k < n → register_in k ws ≡ None
register_none k n [] h lt = refl
register_none k n (w ∷ ws) h lt =
    ap (λ b. if b then Some w.register else register_in k ws) (ne_eqb w.number k (λ z. omega (arith, z, h.0, lt))) ∙ register_none k n ws h.1 lt

-- ---- slots, names and variables

-- the newest variable is that of the newest name, in the register above the others
pub record Newest (b : Bindings) (first : ℕ) (x : StrId) (cap : Bool) (register : ℕ) (vs : List Visible) (ws : List Variable)
    (Others : List Visible → List Variable → Type 0) : Type 0 where
  pub local : ℕ
  pub older : List Visible
  pub variables : List Variable
  pub is : vs ≡ older ++ record { name = x; local = local } ∷ []
  pub declared : ws ≡ variables ++ record { number = local; register = register } ∷ []
  pub flag : cap ≡ is_captured b local
  pub own : first ≤ local
  pub new : AllBelow local variables
  pub others : Others older variables

module _ (b : Bindings) (outer : List Visible) (first : ℕ) where
  -- the slots' variables are the names in scope behind those around the function, and the variables of the code
  abbrev pub Aligned : List Slot → List Visible → List Variable → Type 0
  Aligned [] vs ws = (vs ≡ outer) × (ws ≡ [])
  Aligned (Temp v ∷ l) vs ws = Aligned l vs ws
  Aligned (Var x c cap ∷ l) vs ws = Newest b first x cap (length l) vs ws (Aligned l)

  -- a variable of the function is found by its name and by its number
  pub record Found (l : List Slot) (ws : List Variable) (x : StrId) (k : ℕ) : Type 0 where
    pub local : Local
    pub at : local_at l x ≡ Some local
    pub flag : local.captured ≡ is_captured b k
    pub register : register_in k ws ≡ Some local.register

  -- the names around the function stand for older locals
  abbrev pub AroundBelow : Type 0
  AroundBelow = (x : StrId) (k : ℕ) → look x outer ≡ Some k → k < first

  found_later : (x : StrId) (k c : ℕ) (y : StrId) (cap : Bool) (l : List Slot) (older : List Variable) (v : Variable)
      → (nat_eq y.0 x.0) ≡ false → Found l older x k → Found (Var y c cap ∷ l) (older ++ v ∷ []) x k
  found_later x k c y cap l older v ne h = record {
    local = h.local;
    at = ap (λ t. if t then Some (record { register = length l; cell = c; captured = cap }) else local_at l x) ne ∙ h.at;
    flag = h.flag;
    register = register_old k h.local.register older (v ∷ []) h.register;
  }

  pub found : (x : StrId) (k : ℕ) (l : List Slot) (vs : List Visible) (ws : List Variable) → AroundBelow → Aligned l vs ws → look x vs ≡ Some k
      → first ≤ k → Found l ws x k
  found x k [] vs ws around a e le =
      let lt = around x k (sym (ap (look x) a.0) ∙ e) in absurd (omega (arith, lt, le))
  found x k (Temp v ∷ l) vs ws around a e le =
      let f = found x k l vs ws around a e le in record { local = f.local; at = f.at; flag = f.flag; register = f.register }
  found x k (Var y c cap ∷ l) vs ws around a e le =
      subst (λ us. Found (Var y c cap ∷ l) us x k) (sym a.declared)
      (by (nat_eq y.0 x.0) refl (sym (look_last x (record { name = y; local = a.local }) a.older) ∙ ap (look x) (sym a.is) ∙ e)
      (λ e. found x k l a.older a.variables around a.others e le))
    where
      v : Variable
      v = record { number = a.local; register = length l }

      by : (t : Bool) → nat_eq y.0 x.0 ≡ t → newest t a.local (look x a.older) ≡ Some k → (look x a.older ≡ Some k → Found l a.variables x k)
          → Found (Var y c cap ∷ l) (a.variables ++ v ∷ []) x k
      by true is e below = record {
        local = record { register = length l; cell = c; captured = cap };
        at = ap (λ t. if t then Some (record { register = length l; cell = c; captured = cap }) else local_at l x) is;
        flag = a.flag ∙ ap (is_captured b) (same_some e);
        register = register_new k v a.variables (same_some e) (subst (λ n. AllBelow n a.variables) (same_some e) a.new);
      }
      by false is e below = found_later x k c y cap l a.variables v is (below e)

  -- what a name stands for, where that is no local of the function
  abbrev pub IsOutside : Option ℕ → Type 0
  IsOutside None = Unit {0}
  IsOutside (Some k) = k < first

  pub record Missing (l : List Slot) (x : StrId) (o : Option ℕ) : Type 0 where
    pub at : local_at l x ≡ None
    pub around : look x outer ≡ o

  pub missing : (x : StrId) (o : Option ℕ) (l : List Slot) (vs : List Visible) (ws : List Variable) → Aligned l vs ws → look x vs ≡ o → IsOutside o
      → Missing l x o
  missing x o [] vs ws a e out = record { at = refl; around = sym (ap (look x) a.0) ∙ e }
  missing x o (Temp v ∷ l) vs ws a e out = let m = missing x o l vs ws a e out in record { at = m.at; around = m.around }
  missing x o (Var y c cap ∷ l) vs ws a e out =
      by (nat_eq y.0 x.0) refl (sym (look_last x (record { name = y; local = a.local }) a.older) ∙ ap (look x) (sym a.is) ∙ e)
      (λ e. missing x o l a.older a.variables a.others e out)
    where
      inside : (o : Option ℕ) → Some a.local ≡ o → IsOutside o → ⊥
      inside None e out = some_none (sym e)
      inside (Some k) e out = let is = same_some e in omega (arith, a.own, out, is)

      by : (t : Bool) → nat_eq y.0 x.0 ≡ t → newest t a.local (look x a.older) ≡ o → (look x a.older ≡ o → Missing l x o)
          → Missing (Var y c cap ∷ l) x o
      by true is e below = absurd (inside o e out)
      by false is e below =
          let m = below e in
          record { at = ap (λ t. if t then Some (record { register = length l; cell = c; captured = cap }) else local_at l x) is ∙ m.at; around = m.around }

  -- all variables of the code are the function's own
  pub own_numbers : (l : List Slot) (vs : List Visible) (ws : List Variable) → Aligned l vs ws → AllFrom first ws
  own_numbers [] vs ws a = subst (AllFrom first) (sym a.1) tt
  own_numbers (Temp v ∷ l) vs ws a = own_numbers l vs ws a
  own_numbers (Var x c cap ∷ l) vs ws a =
      subst (AllFrom first) (sym a.declared)
      (from_one first a.variables (record { number = a.local; register = length l }) (own_numbers l a.older a.variables a.others) a.own)

  -- a new variable
  pub declared : (x : StrId) (c k : ℕ) (cap : Bool) (l : List Slot) (vs : List Visible) (ws : List Variable) → cap ≡ is_captured b k → first ≤ k
      → AllBelow k ws → Aligned l vs ws
      → Aligned (Var x c cap ∷ l) (vs ++ record { name = x; local = k } ∷ []) (ws ++ record { number = k; register = length l } ∷ [])
  declared x c k cap l vs ws flag own new a =
      record { local = k; older = vs; variables = ws; is = refl; declared = refl; flag = flag; own = own; new = new; others = a }
