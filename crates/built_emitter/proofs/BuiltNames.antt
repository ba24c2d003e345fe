-- What a name that is built stands for, where it stands.
use Rattle.std.proofs.Common.{◌≡◌, ◌∙◌, ◌==◌, ◌&&◌, ℕ, List, ◌∷◌, reverse, Bool, true, false, Option, Some, None, IsSome, refl, sym, ap, rules}
use Rattle.std.proofs.lemmas.Bool.{eqb-true}
use Rattle.byte_text.specs.declared.fixed.StrId.{StrId}
use Rattle.syntax_tree.specs.declared.bindings.Bindings.{Bindings}
use Rattle.syntax_tree.specs.declared.bindings.Bound.{Bound}
use Rattle.syntax_tree.specs.declared.bindings.Bound.TheVariants as variant
use Rattle.syntax_tree.specs.declared.notes.Visible.{Visible}
use Rattle.syntax_tree.specs.declared.tree.Expr.{Expr}
use Rattle.syntax_tree.specs.declared.tree.ExprKind.{out-ExprKind, roll-ExprKind}
use Rattle.syntax_tree.specs.declared.tree.ExprKind as expr_kind
use Rattle.syntax_tree.specs.declared.tree.ExprKind.TheFolds as folds
use Rattle.syntax_tree.specs.declared.tree.ExprKind.TheOpen as level
use Rattle.syntax_tree.specs.declared.tree.ExprKind.TheViews as views
use Rattle.syntax_tree.specs.Scope.{look}
use Rattle.scope_laws.specs.Sight.{Part, expr}
use Rattle.built_values.specs.Globals.{print_name}
use Rattle.built_emitter.specs.Names.{register_of}
use Rattle.built_emitter.specs.Standing.{bound_at, names_of, Stand}
use Rattle.built_emitter.specs.Unbuilt.{ExprUses, steps, is_local, is_global, kind_uses, uses_of}
use Rattle.built_emitter.proofs.NewestNames.{newest_register, newest_first, some_newest}
use Rattle.built_emitter.proofs.NodeLevels.{ExprKindNode, kind_level, of_kind}
use Rattle.built_emitter.proofs.StandingNames.{name_bound, look_register, is_registered, global_register}

pub name_kind : (e : Expr) (x : StrId) → out-ExprKind e.kind ≡ level.Name x → e.kind ≡ expr_kind.Name x
name_kind e x h =
    let same : roll-ExprKind (out-ExprKind e.kind) ≡ e.kind = search (rules, folds.the_lemmas, views.the_lemmas) in
    sym same ∙ ap roll-ExprKind h ∙ views.rolls-Name x

a_local : (o : Option Bound) → is_local o ≡ true → (k : ℕ) × (o ≡ Some (variant.Local k))
a_local (Some (variant.Local k)) h = (k, refl)
a_local _ h = cc

a_global : (o : Option Bound) → is_global o ≡ true → o ≡ Some variant.Global
a_global (Some variant.Global) h = refl
a_global _ h = cc

both_hold : (s t : Bool) → (s && t) ≡ true → (s ≡ true) × (t ≡ true)
both_hold true t h = (refl, h)
both_hold false t h = cc

same_name : (x y : StrId) → (x.0 == y.0) ≡ true → x ≡ y
same_name x y h = λ i. record { 0 = eqb-true x.0 y.0 h i }

module _ (b : Bindings) where
  -- ---- the name of a local

  -- a name, which is bound to a local
  abbrev pub IsLocalName : Expr → Type 0
  IsLocalName e = (x : StrId) × (out-ExprKind e.kind ≡ level.Name x) × (is_local (bound_at b e.id) ≡ true)

  pub local_name : (e : Expr) → (uses_of b e).local ≡ true → IsLocalName e
  local_name e h =
      by (out-ExprKind e.kind) refl (sym (ap (λ (u : ExprUses). u.local) (of_kind (steps b) e (out-ExprKind e.kind) refl)) ∙ h) where
        by : (l : ExprKindNode) → out-ExprKind e.kind ≡ l → (kind_uses b (kind_level (steps b) l) e.id e.at).local ≡ true → IsLocalName e
        by (level.Name x) k u = (x, k, u)
        by _ k u = cc

  pub registered : (vs : List Visible) (e : Expr) (after : List Part) (x : StrId) → Stand b vs (expr e ∷ after) →
      out-ExprKind e.kind ≡ level.Name x → is_local (bound_at b e.id) ≡ true → IsSome (register_of (names_of vs) x)
  registered vs e after x s k local =
      let found = a_local (bound_at b e.id) local in
      some_newest (names_of vs) x (is_registered (look x (reverse vs)) (newest_register (names_of vs) x) found.0 (look_register x vs) (sym
      (name_bound b vs e after x s (name_kind e x k)) ∙ found.1))

  -- ---- the name of the library's function

  -- the name of `print`, which no local has taken
  abbrev pub IsPrintName : Expr → Type 0
  IsPrintName e = (out-ExprKind e.kind ≡ level.Name print_name) × (bound_at b e.id ≡ Some variant.Global)

  pub print_name_of : (e : Expr) → (uses_of b e).print ≡ true → IsPrintName e
  print_name_of e h =
      by (out-ExprKind e.kind) refl (sym (ap (λ (u : ExprUses). u.print) (of_kind (steps b) e (out-ExprKind e.kind) refl)) ∙ h) where
        by : (l : ExprKindNode) → out-ExprKind e.kind ≡ l → (kind_uses b (kind_level (steps b) l) e.id e.at).print ≡ true → IsPrintName e
        by (level.Name x) k u =
            let both = both_hold (x.0 == print_name.0) (is_global (bound_at b e.id)) u in
            (k ∙ ap level.Name (same_name x print_name both.0), a_global (bound_at b e.id) both.1)
        by _ k u = cc

  pub print_free : (vs : List Visible) (e : Expr) (after : List Part) → Stand b vs (expr e ∷ after) → IsPrintName e →
      register_of (names_of vs) print_name ≡ None
  print_free vs e after s p =
      newest_first (names_of vs) print_name
      ∙ global_register (look print_name (reverse vs)) (newest_register (names_of vs) print_name) (look_register print_name vs) (sym
      (name_bound b vs e after print_name s (name_kind e print_name p.0)) ∙ p.1)
