-- What a function knows of what is around it, from where its text begins: what it captures, the places of its upvalues, and the names
-- that stand for no local.
use Rattle.std.proofs.Common.{◌≡◌, ℕ, zero, suc, ◌+◌, ◌<◌, ◌≤◌, Bool, true, false, List, [], ◌∷◌, ◌++◌, length, Some, refl, sym, ap, ◌∙◌, arith, subst, min, nat_eq, if◌then◌else◌}
use Rattle.std.specs.Prelude.{slice_get, unwrap_or}
use Rattle.std.specs.List.{Contains}
use Rattle.std.proofs.lemmas.Option.{slice_get-get_or}
use Rattle.std.proofs.lemmas.Bool.{eqb-true, eq-eqb}
use Rattle.byte_text.specs.declared.fixed.StrId.{StrId}
use Rattle.syntax_tree.specs.declared.bindings.Bindings.{Bindings}
use Rattle.syntax_tree.specs.declared.notes.Visible.{Visible}
use Rattle.syntax_tree.specs.declared.tree.FuncBody.{FuncBody, out-FuncBody}
use Rattle.syntax_tree.specs.Numbers.{numbered}
use Rattle.syntax_tree.specs.Scope.{look}
use Rattle.emit_expr.specs.declared.draft.Emitter.{Emitter}
use Rattle.emit_expr.specs.Names.{upvalues_at, place_in, upvalue_in}
use Rattle.scope_laws.specs.Sight.{Part, function, Sees}
use Rattle.scope_laws.specs.Captured.{Captured}
use Rattle.scope_laws.proofs.Capturing.{functions_capture}
use Rattle.code_simulation.specs.Slots.{Slot}
use Rattle.code_simulation.specs.Relation.{Setting}
use Rattle.code_simulation.proofs.Along.{Here}
use Rattle.compiled_runs.proofs.Numbers.{Rising, sound, one_name}
use Rattle.compiled_runs.proofs.Scopes.{same_some, some_none}
use Rattle.compiled_runs.proofs.Standing as standing
use Rattle.compiled_runs.proofs.Standing.{Script, AtSome}
use Rattle.compiled_runs.proofs.Nodes.{Runs}
use Rattle.compiled_runs.proofs.Parentheses.{true_false}
use Rattle.compiled_runs.proofs.Captures.{Named}

-- ---- the place of an upvalue

-- a captured local's name stands at the place of the local
named_place : (vs : List Visible) (ks : List ℕ) (xs : List StrId) (x : StrId) (k i : ℕ) → Rising vs → Named vs ks xs → look x vs ≡ Some k
    → slice_get ks i ≡ Some k → slice_get xs (place_in k ks) ≡ Some x
named_place vs [] [] x k i up n e at = some_none at
named_place vs [] (y ∷ xs) x k i up n e at = absurd n
named_place vs (j ∷ ks) [] x k i up n e at = absurd n
named_place vs (j ∷ ks) (y ∷ xs) x k i up n e at = by (nat_eq j k) refl (rest i at (λ q a. named_place vs ks xs x k q up n.1 e a))
  where
    same : j ≡ k → Some y ≡ Some x
    same is = ap (λ (n : ℕ). Some (record { 0 = n })) (one_name y x k vs up (n.0 ∙ ap Some is) e)

    rest : (i : ℕ) → slice_get (j ∷ ks) i ≡ Some k → ((q : ℕ) → slice_get ks q ≡ Some k → slice_get xs (place_in k ks) ≡ Some x)
        → nat_eq j k ≡ false → slice_get xs (place_in k ks) ≡ Some x
    rest zero at more ne = absurd (true_false (sym (eq-eqb j k (same_some at)) ∙ ne))
    rest (suc i) at more ne = more i at

    by : (t : Bool) → nat_eq j k ≡ t → (nat_eq j k ≡ false → slice_get xs (place_in k ks) ≡ Some x)
        → slice_get (y ∷ xs) (if t then 0 else 1 + place_in k ks) ≡ Some x
    by true is more = same (eqb-true j k is)
    by false ne more =
        let one : suc (place_in k ks) ≡ 1 + place_in k ks = omega arith in
        subst (λ m. slice_get (y ∷ xs) m ≡ Some x) one (more ne)

place_within : (k i : ℕ) (ks : List ℕ) → slice_get ks i ≡ Some k → place_in k ks < length ks
place_within k i [] at = some_none at
place_within k i (j ∷ ks) at = by (nat_eq j k) refl (rest i at (λ q a. place_within k q ks a))
  where
    rest : (i : ℕ) → slice_get (j ∷ ks) i ≡ Some k → ((q : ℕ) → slice_get ks q ≡ Some k → place_in k ks < length ks) → nat_eq j k ≡ false
        → place_in k ks < length ks
    rest zero at more ne = absurd (true_false (sym (eq-eqb j k (same_some at)) ∙ ne))
    rest (suc i) at more ne = more i at

    by : (t : Bool) → nat_eq j k ≡ t → (nat_eq j k ≡ false → place_in k ks < length ks) → (if t then 0 else 1 + place_in k ks) < length (j ∷ ks)
    by true is more = omega arith
    by false ne more = let lt = more ne in omega (arith, lt)

contained : (xs : List ℕ) (x : ℕ) → Contains xs x → (i : ℕ) × (slice_get xs i ≡ Some x)
contained xs x c = (c.0, slice_get-get_or xs c.0 x c.1 ∙ ap Some c.2)

-- there the function that was entered finds the variable
pub named_upvalue : (b : Bindings) (func : ℕ) (vs : List Visible) (xs : List StrId) (x : StrId) (k : ℕ) → Rising vs → Named vs (upvalues_at b func) xs
    → look x vs ≡ Some k → Contains (upvalues_at b func) k → length (upvalues_at b func) ≤ 256 → slice_get xs (upvalue_in b func k) ≡ Some x
named_upvalue b func vs xs x k up n e c few =
    let at = contained (upvalues_at b func) k c in
    let lt = place_within k at.0 (upvalues_at b func) at.1 in
    let near : min (place_in k (upvalues_at b func)) 255 ≡ place_in k (upvalues_at b func) = omega (arith, lt, few) in
    ap (slice_get xs) near ∙ named_place vs (upvalues_at b func) xs x k at.0 up n e at.1

-- ---- where its text stands

module _ (p : Setting) (most : ℕ) (b : Bindings) (whole : Emitter) (script : Script p b whole) (h : Here p most)
    (r : Runs p most b whole script h) (f : FuncBody) (ps : List Part) (l : List Slot) (d : Emitter)
    (a : AtSome p most b whole script h r (function f ∷ ps) l d) where
  pub function_sees : (after : List Part) × Sees (numbered script.main).main a.sight (function f ∷ after)
  function_sees = let s = standing.sees p most b whole script h r (function f ∷ ps) l d a in (ps ++ s.0, s.1)

  pub function_captures : (c : Captured a.sight f) × (upvalues_at b (out-FuncBody f).id ≡ c.locals)
  unfolding function_sees
  function_captures =
      let c = functions_capture script.main (numbered script.main) a.sight f function_sees.0 refl function_sees.1 in
      (c.0, ap (λ (b : Bindings). upvalues_at b (out-FuncBody f).id) script.is ∙ ap (λ o. unwrap_or o []) c.1)

  pub function_rising : Rising a.sight.scope
  function_rising = (sound (numbered script.main).main a.sight (function f ∷ function_sees.0) function_sees.1).0.rising
