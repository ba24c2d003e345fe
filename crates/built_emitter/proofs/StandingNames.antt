-- What names are bound to where they stand, and the registers of their locals.
use Rattle.std.proofs.Common.{◌≡◌, ◌∙◌, ℕ, ◌<◌, ◌==◌, Bool, true, false, List, [], ◌∷◌, length, reverse, Option, Some, None, IsSome, refl, sym, ap, ap₂, subst, rules, arith, if◌then◌else◌}
use Rattle.std.specs.Prelude.{nat_lt}
use Rattle.std.proofs.lemmas.Bool.{le-ltb, eq-eqb, ne_eqb}
use Rattle.std.proofs.lemmas.List.{reverse-append}
use Rattle.byte_text.specs.declared.fixed.StrId.{StrId}
use Rattle.syntax_tree.specs.declared.bindings.Bindings.{Bindings}
use Rattle.syntax_tree.specs.declared.bindings.Bound.TheVariants as variant
use Rattle.syntax_tree.specs.declared.notes.Visible.{Visible}
use Rattle.syntax_tree.specs.declared.tree.Expr.{Expr}
use Rattle.syntax_tree.specs.declared.tree.ExprKind.{out-ExprKind}
use Rattle.syntax_tree.specs.declared.tree.ExprKind as expr_kind
use Rattle.syntax_tree.specs.Numbers.{numbered}
use Rattle.syntax_tree.specs.Scope.{look, bound_in}
use Rattle.scope_laws.specs.Sight.{Part, expr}
use Rattle.scope_laws.proofs.Seen.{names_in_scope}
use Rattle.built_emitter.specs.Names.{register_of}
use Rattle.built_emitter.specs.Standing.{entry, bound_at, names_of, AreBelow, Stand, StandsAt, register_at, register_bound}
use Rattle.built_emitter.proofs.NewestNames.{newest, look_last, newest_register, newest_first}

same_some : {n m : ℕ} → Some n ≡ Some m → n ≡ m
same_some h = search rules

no_none : {n : ℕ} → Some n ≡ None → ⊥
no_none h = search rules

no_some : {n : ℕ} → None ≡ Some n → ⊥
no_some h = search rules

not_local : {k : ℕ} → Some variant.Global ≡ Some (variant.Local k) → ⊥
not_local h = search rules

not_global : {k : ℕ} → Some (variant.Local k) ≡ Some variant.Global → ⊥
not_global h = search rules

pub names_length : (vs : List Visible) → length (names_of vs) ≡ length vs
names_length [] = refl
names_length (v ∷ vs) = omega (arith, names_length vs)

-- what a name is bound to
pub name_bound : (b : Bindings) (vs : List Visible) (e : Expr) (after : List Part) (x : StrId) → Stand b vs (expr e ∷ after) →
    e.kind ≡ expr_kind.Name x → bound_at b e.id ≡ Some (bound_in 0 (look x (reverse vs)))
name_bound b vs e after x s k =
    ap (λ (b : Bindings). bound_at b e.id) s.is
    ∙ ap entry (names_in_scope s.main (numbered s.main) s.sight e after x refl s.seen k)
    ∙ ap₂ (λ first scope. Some (bound_in first (look x scope))) s.first s.scope

-- ---- looking up

pub look_first : (x : StrId) (v : Visible) (vs : List Visible) → look x (reverse (v ∷ vs)) ≡ newest (v.name.0 == x.0) v.local (look x (reverse vs))
look_first x v vs = ap (look x) (reverse-append (v ∷ []) vs) ∙ look_last x v (reverse vs)

-- a name has a register exactly where it stands for a local
pub record SameFound (o r : Option ℕ) : Type 0 where
  pub none : o ≡ None → r ≡ None
  pub some : (k : ℕ) → o ≡ Some k → IsSome r

found_by : (same : Bool) (local register : ℕ) (o r : Option ℕ) → SameFound o r → SameFound (newest same local o) (if same then Some register else r)
found_by true local register o r h = record { none = λ e. absurd (no_none e); some = λ k e. refl }
found_by false local register o r h = h

pub look_register : (x : StrId) (vs : List Visible) → SameFound (look x (reverse vs)) (newest_register (names_of vs) x)
look_register x [] = record { none = λ e. refl; some = λ k e. absurd (no_some e) }
look_register x (v ∷ vs) =
    subst (λ o. SameFound o (newest_register (names_of (v ∷ vs)) x)) (sym (look_first x v vs))
    (found_by (v.name.0 == x.0) v.local (length (names_of vs)) (look x (reverse vs)) (newest_register (names_of vs) x) (look_register x vs))

-- what a name's binding says of its register
pub is_registered : (o r : Option ℕ) (k : ℕ) → SameFound o r → Some (bound_in 0 o) ≡ Some (variant.Local k) → IsSome r
is_registered None r k h e = absurd (not_local e)
is_registered (Some j) r k h e = h.some j refl

-- the main function sees no local of a function around
pub in_main : (j : ℕ) → Some (bound_in 0 (Some j)) ≡ Some (variant.Local j)
in_main j = ap (λ b. Some (if b then variant.Up j else variant.Local j)) (not_below j) where
  not_below : (j : ℕ) → nat_lt j 0 ≡ false
  not_below j = le-ltb j 0 (omega arith)

pub global_register : (o r : Option ℕ) → SameFound o r → Some (bound_in 0 o) ≡ Some variant.Global → r ≡ None
global_register None r h e = h.none refl
global_register (Some j) r h e = absurd (not_global (sym (in_main j) ∙ e))

-- ---- registers

-- a local that is found is one of those in scope
look_below : (x : StrId) (n : ℕ) (vs : List Visible) (k : ℕ) → AreBelow n vs → look x (reverse vs) ≡ Some k → k < n
look_below x n [] k h e = absurd (no_some e)
look_below x n (v ∷ vs) k h e = by (v.name.0 == x.0) (sym (look_first x v vs) ∙ e) (look_below x v.local vs k h.1) where
  by : (b : Bool) → newest b v.local (look x (reverse vs)) ≡ Some k → (look x (reverse vs) ≡ Some k → k < v.local) → k < n
  by true e older = omega (arith, h.0, same_some e)
  by false e older = omega (arith, h.0, older e)

-- the register of a name is that of the local for which it stands
pub registers_same : (x : StrId) (n : ℕ) (vs : List Visible) (k : ℕ) → AreBelow n vs → look x (reverse vs) ≡ Some k →
    newest_register (names_of vs) x ≡ register_at vs k
registers_same x n [] k h e = absurd (no_some e)
registers_same x n (v ∷ vs) k h e = by (v.name.0 == x.0) refl (sym (look_first x v vs) ∙ e) (registers_same x v.local vs k h.1) (look_below x
    v.local vs k h.1) where
      by : (b : Bool) → (v.name.0 == x.0) ≡ b → newest b v.local (look x (reverse vs)) ≡ Some k →
          (look x (reverse vs) ≡ Some k → newest_register (names_of vs) x ≡ register_at vs k) → (look x (reverse vs) ≡ Some k → k < v.local) →
          newest_register (names_of (v ∷ vs)) x ≡ register_at (v ∷ vs) k
      by true is e same lower =
          ap (λ b. if b then Some (length (names_of vs)) else newest_register (names_of vs) x) is
          ∙ sym (ap (λ b. if b then Some (length (names_of vs)) else register_at vs k) (eq-eqb v.local k (same_some e)))
      by false is e same lower =
          ap (λ b. if b then Some (length (names_of vs)) else newest_register (names_of vs) x) is ∙ same e
          ∙ sym (ap (λ b. if b then Some (length (names_of vs)) else register_at vs k) (ne_eqb v.local k (λ z. omega (arith, z, lower e))))

bound_register : (x : StrId) (n : ℕ) (vs : List Visible) (o : Option ℕ) → AreBelow n vs → look x (reverse vs) ≡ o →
    register_bound vs (Some (bound_in 0 o)) ≡ newest_register (names_of vs) x
bound_register x n vs None h e = sym ((look_register x vs).none e)
bound_register x n vs (Some k) h e = ap (register_bound vs) (in_main k) ∙ sym (registers_same x n vs k h e)

pub name_register : (b : Bindings) (vs : List Visible) (e : Expr) (x : StrId) → StandsAt b vs (expr e) → e.kind ≡ expr_kind.Name x →
    register_bound vs (bound_at b e.id) ≡ register_of (names_of vs) x
name_register b vs e x s k =
    ap (register_bound vs) (name_bound b vs e s.0 x s.1 k)
    ∙ bound_register x s.1.sight.declared vs (look x (reverse vs)) s.1.below refl ∙ sym (newest_first (names_of vs) x)
