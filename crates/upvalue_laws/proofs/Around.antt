-- The function around a place of the text, and what it captures.
use Rattle.std.proofs.Common.{◌≡◌, ℕ, zero, suc, ◌+◌, ◌-◌, ◌<◌, ◌≤◌, ◌^◌, ◌==◌, Bool, true, false, nat_eq, nat_lt, List, [], ◌∷◌, ◌++◌, length, Option, Some, None, if◌then◌else◌, refl, sym, ap, ◌∙◌, subst, arith, ◌⊎◌, inl, inr, ⊎_elim}
use Rattle.std.specs.Prelude.{slice_get, unwrap_or}
use Rattle.std.specs.List.{Contains}
use Rattle.std.proofs.lemmas.Option.{slice_get-get_or}
use Rattle.std.proofs.lemmas.Bool.{eq-eqb}
use Rattle.std.proofs.lemmas.Bool.Decides.{nat_tests}
use Rattle.byte_text.specs.declared.fixed.StrId.{StrId}
use Rattle.syntax_tree.specs.declared.bindings.Bindings.{Bindings}
use Rattle.syntax_tree.specs.declared.bindings.Bound.TheVariants as bound
use Rattle.syntax_tree.specs.declared.notes.Visible.{Visible}
use Rattle.syntax_tree.specs.declared.tree.Expr.{Expr}
use Rattle.syntax_tree.specs.declared.tree.ExprKind as expr_kind
use Rattle.syntax_tree.specs.declared.tree.ExprKind.TheOpen as level
use Rattle.syntax_tree.specs.declared.tree.FuncBody.{FuncBody, out-FuncBody}
use Rattle.syntax_tree.specs.declared.tree.StatKind.{out-StatKind}
use Rattle.syntax_tree.specs.Bound as bindings
use Rattle.syntax_tree.specs.Numbers.{numbered}
use Rattle.syntax_tree.specs.Scope.{look, bound_in, unless_later}
use Rattle.emit_expr.specs.declared.draft.Variable.{Variable}
use Rattle.emit_expr.specs.Names as names
use Rattle.emit_expr.specs.Names.{upvalues_at, bound_at, bound_or, first_at}
use Rattle.scope_laws.specs.Captured.{Captured}
use Rattle.scope_laws.specs.Captured as scope_captured
use Rattle.scope_laws.specs.Declared.{node_of, own_names}
use Rattle.scope_laws.specs.Sight.{Sight, Part, expr, stat, function, arm, expr_arm, field, block, StatLevel, in_stat, in_part, Within, itself, next, enter, NameWithin, Sees}
use Rattle.scope_laws.proofs.Capturing.{functions_capture}
use Rattle.scope_laws.proofs.Gains.{contains_at}
use Rattle.scope_laws.proofs.Seen.{names_in_scope, nodes_have_firsts}
use Rattle.scope_laws.proofs.Told.{declared_have_entries}
use Rattle.compiled_runs.proofs.Sights.{deep, further, IsWhole}
use Rattle.compiled_runs.proofs.Numbers.{AreUnder, sound, look_more}
use Rattle.upvalue_laws.proofs.States.{HasVar, Covered, register_there}
use Rattle.upvalue_laws.proofs.Uses.{IsUp, FitBound, AllUp}

-- ---- lists

get_within : {A : Type 0} (xs : List A) (j : ℕ) (x : A) → slice_get xs j ≡ Some x → j < length xs
get_within [] j x e = cc
get_within (y ∷ xs) zero x e = omega arith
get_within (y ∷ xs) (suc j) x e = let h = get_within xs j x e in omega (arith, h)

get_some : {A : Type 0} (xs : List A) (j : ℕ) → j < length xs → (x : A) × (slice_get xs j ≡ Some x)
get_some [] j lt = absurd (omega (arith, lt))
get_some (x ∷ xs) zero lt = (x, refl)
get_some (x ∷ xs) (suc j) lt = get_some xs j (omega (arith, lt))

place_within : (k j : ℕ) (ks : List ℕ) → slice_get ks j ≡ Some k → names.place_in k ks < length ks
place_within k j [] at = cc
place_within k j (x ∷ ks) at = by (nat_eq x k) refl j at (λ q a. place_within k q ks a)
  where
    by : (t : Bool) → nat_eq x k ≡ t → (j : ℕ) → slice_get (x ∷ ks) j ≡ Some k → ((q : ℕ) → slice_get ks q ≡ Some k → names.place_in k ks < length ks)
        → (if t then 0 else 1 + names.place_in k ks) < length (x ∷ ks)
    by true is j at more = omega arith
    by false ne (suc q) at more = let lt = more q at in omega (arith, lt)
    by false ne zero at more =
        let same : x ≡ k = cc in
        let t : nat_eq x k ≡ true = eq-eqb x k same in
        cc

contained : (k : ℕ) (ks : List ℕ) → Contains ks k → names.place_in k ks < length ks
contained k ks c = place_within k c.0 ks (slice_get-get_or ks c.0 k c.1 ∙ ap Some c.2)

unless_some : (t : Bool) (n k : ℕ) (o : Option ℕ) → unless_later t n o ≡ Some k → (o ≡ Some k) ⊎ (n ≡ k)
unless_some t n k (Some j) e = inl e
unless_some true n k None e = let same : n ≡ k = cc in inr same
unless_some false n k None e = cc

-- a name that is covered
look_has : (x : StrId) (k first : ℕ) (vs : List Variable) (us : List Visible) → Covered first vs us → look x us ≡ Some k → first ≤ k → HasVar k vs
look_has x k first vs [] c e le = cc
look_has x k first vs (v ∷ us) c e le =
    ⊎_elim (λ o. look_has x k first vs us c.1 o le) (λ same. subst (λ n. HasVar n vs) same (c.0 (omega (arith, le, same))))
    (unless_some (v.name.0 == x.0) v.local k (look x us) e)

-- names for locals that are declared before the function
pub below_covered : (first : ℕ) (vs : List Variable) (us : List Visible) → AreUnder first us → Covered first vs us
below_covered first vs [] h = tt
below_covered first vs (v ∷ us) h = ((λ le. let lt = h.0 in absurd (omega (arith, lt, le))), below_covered first vs us h.1)

-- ---- the function around

stat_same : (l : StatLevel) (s : Sight) → ((in_stat l s).sight.func ≡ s.func) × ((in_stat l s).sight.first ≡ s.first)
stat_same (level.Local xs es) s = (refl, refl)
stat_same (level.LocalFunction x f) s = (refl, refl)
stat_same (level.NumFor x a c e body) s = (refl, refl)
stat_same (level.GenFor xs es body) s = (refl, refl)
stat_same (level.Repeat body c) s = (refl, refl)
stat_same (level.While c body) s = (refl, refl)
stat_same (level.StatKind::If arms other) s = (refl, refl)
stat_same (level.Do body) s = (refl, refl)
stat_same (level.Assign ts es) s = (refl, refl)
stat_same (level.Compound op t e) s = (refl, refl)
stat_same (level.StatKind::Call e) s = (refl, refl)
stat_same (level.Return es) s = (refl, refl)
stat_same level.Break s = (refl, refl)
stat_same level.Continue s = (refl, refl)

whole_rest : (p : Part) (ps : List Part) → IsWhole (p ∷ ps) → IsWhole ps
whole_rest (function f) ps h = h
whole_rest (expr e) ps h = absurd h
whole_rest (stat x) ps h = absurd h
whole_rest (arm a) ps h = absurd h
whole_rest (expr_arm a) ps h = absurd h
whole_rest (field f) ps h = absurd h
whole_rest (block names body) ps h = absurd h

module _ (main : FuncBody) where
  pub record Around (s : Sight) (ps : List Part) : Type 0 where
    pub func : FuncBody
    pub from : Sight
    pub after : List Part
    pub sees : Sees (numbered main).main from (function func ∷ after)
    pub within : Within from (function func) s ps
    pub named : (out-FuncBody func).id ≡ s.func
    pub first : s.first ≡ from.declared

  -- a part that is no function, in the function around it
  deeper : (s : Sight) (p : Part) (ps : List Part) → (in_part p s).sight.func ≡ s.func → (in_part p s).sight.first ≡ s.first → Around s (p ∷ ps)
      → Around (in_part p s).sight (in_part p s).parts
  deeper s p ps e f a = record {
    func = a.func;
    from = a.from;
    after = a.after;
    sees = a.sees;
    within = enter s p ps a.within;
    named = a.named ∙ sym e;
    first = f ∙ a.first;
  }

  pub around : (s : Sight) (ps : List Part) → Sees (numbered main).main s ps → (IsWhole ps × (s.first ≡ 0)) ⊎ Around s ps
  around _ _ itself = inl (tt, refl)
  around _ _ (next s p ps j) =
      ⊎_elim (λ w. inl (whole_rest p ps w.0, w.1))
      (λ a. inr (record { func = a.func; from = a.from; after = a.after; sees = a.sees; within = next s p ps a.within; named = a.named; first = a.first }))
      (around s (p ∷ ps) j)
  around _ _ (enter s (function f) ps j) =
      inr (record { func = f; from = s; after = ps; sees = j; within = enter s (function f) [] itself; named = refl; first = refl })
  around _ _ (enter s (expr e) ps j) = ⊎_elim (λ w. absurd w.0) (λ a. inr (deeper s (expr e) ps refl refl a)) (around s (expr e ∷ ps) j)
  around _ _ (enter s (stat x) ps j) =
      let same = stat_same (out-StatKind x.kind) s in
      ⊎_elim (λ w. absurd w.0) (λ a. inr (deeper s (stat x) ps same.0 same.1 a)) (around s (stat x ∷ ps) j)
  around _ _ (enter s (arm x) ps j) = ⊎_elim (λ w. absurd w.0) (λ a. inr (deeper s (arm x) ps refl refl a)) (around s (arm x ∷ ps) j)
  around _ _ (enter s (expr_arm x) ps j) = ⊎_elim (λ w. absurd w.0) (λ a. inr (deeper s (expr_arm x) ps refl refl a)) (around s (expr_arm x ∷ ps) j)
  around _ _ (enter s (field x) ps j) = ⊎_elim (λ w. absurd w.0) (λ a. inr (deeper s (field x) ps refl refl a)) (around s (field x ∷ ps) j)
  around _ _ (enter s (block us body) ps j) = ⊎_elim (λ w. absurd w.0) (λ a. inr (deeper s (block us body) ps refl refl a)) (around s (block us body ∷ ps) j)

  abbrev b : Bindings
  b = bindings.bound (numbered main)

  -- what a name in the function stands for, from outside the function, is an upvalue
  up_by : (s : Sight) (ps : List Part) (a : Around s ps) (n : NameWithin a.from (function a.func)) (k : ℕ) → look n.name n.sight.scope ≡ Some k → k < s.first
      → IsUp b s.func k
  up_by s ps a n k e lt =
      let c = functions_capture main (numbered main) a.from a.func a.after refl a.sees in
      let first = a.first in
      let has : Contains c.0.locals k = (c.0.each k).1 (record { name = n; stands = e; outside = omega (arith, lt, first) }) in
      let listed : upvalues_at b s.func ≡ c.0.locals = ap (upvalues_at b) (sym a.named) ∙ ap (λ o. unwrap_or o []) c.1 in
      subst (λ ks. names.place_in k ks < length ks) (sym listed) (contained k c.0.locals has)

  is_below : (k n : ℕ) → nat_lt k n ≡ true → k < n
  is_below k n e = grind (arith, nat_tests)

  not_below : (k n : ℕ) → nat_lt k n ≡ false → n ≤ k
  not_below k n e = grind (arith, nat_tests)

  -- a name is bound to a local of the function, or to one of its upvalues
  pub bound_fit : (s : Sight) (e : Expr) (ps : List Part) (x : StrId) → Sees (numbered main).main s (expr e ∷ ps) → e.kind ≡ expr_kind.Name x
      → FitBound b s.func (bound_at b e.id)
  bound_fit s e ps x sees kind =
      let told : bound_at b e.id ≡ bound_in s.first (look x s.scope) = ap bound_or (names_in_scope main (numbered main) s e ps x refl sees kind) in
      subst (FitBound b s.func) (sym told) (by (look x s.scope) refl)
    where
      up : (k : ℕ) → look x s.scope ≡ Some k → k < s.first → IsUp b s.func k
      up k at lt =
          ⊎_elim (λ w. absurd w.0)
          (λ (a : Around s (expr e ∷ ps)). up_by s (expr e ∷ ps) a (record { node = e; name = x; is = kind; sight = s; after = ps; seen = a.within }) k at lt)
          (around s (expr e ∷ ps) sees)

      test : (k : ℕ) → look x s.scope ≡ Some k → (t : Bool) → nat_lt k s.first ≡ t → FitBound b s.func (if t then bound.Up k else bound.Local k)
      test k at true lt = up k at (is_below k s.first lt)
      test k at false ge = tt

      by : (o : Option ℕ) → look x s.scope ≡ o → FitBound b s.func (bound_in s.first o)
      by None at = tt
      by (Some k) at = test k at (nat_lt k s.first) refl

  -- each local that a function captures has a variable, or is an upvalue of the function around
  pub captured_fit : (s : Sight) (f : FuncBody) (ps : List Part) (vs : List Variable) → Sees (numbered main).main s (function f ∷ ps)
      → Covered s.first vs s.scope
      → AllUp b s.func vs (upvalues_at b (out-FuncBody f).id)
  captured_fit s f ps vs sees covered =
      let c = functions_capture main (numbered main) s f ps refl sees in
      let listed : upvalues_at b (out-FuncBody f).id ≡ c.0.locals = ap (λ o. unwrap_or o []) c.1 in
      subst (AllUp b s.func vs) (sym listed) (each c.0.locals (λ j k at. one k ((c.0.each k).0 (contains_at c.0.locals j k at))))
    where
      by : (k : ℕ) → scope_captured.Captures s f k → (t : Bool) → nat_lt k s.first ≡ t → names.register_in k vs ≡ None → IsUp b s.func k
      by k t true lt none =
          ⊎_elim (λ w. let zero_first = w.1 in let l = is_below k s.first lt in absurd (omega (arith, zero_first, l)))
          (λ (a : Around s (function f ∷ ps)).
          let n = t.name in
          let seen = further a.from (function a.func) s (function f) ps a.within n.sight (expr n.node ∷ n.after) n.seen in
          up_by s (function f ∷ ps) a (record { node = n.node; name = n.name; is = n.is; sight = n.sight; after = n.after ++ seen.0; seen = seen.1 }) k
          t.stands (is_below k s.first lt))
          (around s (function f ∷ ps) sees)
      by k t false ge none =
          let n = t.name in
          let m = (deep s f n.sight (expr n.node ∷ n.after) n.seen).more in
          let outside : look n.name s.scope ≡ Some k = look_more n.name s.declared k s.scope m.more m.new (ap (look n.name) (sym m.is) ∙ t.stands) t.outside in
          absurd (register_there k vs (look_has n.name k s.first vs s.scope covered outside (not_below k s.first ge)) none)

      one : (k : ℕ) → scope_captured.Captures s f k → names.register_in k vs ≡ None → IsUp b s.func k
      one k t = by k t (nat_lt k s.first) refl

      each : (ks : List ℕ) → ((j k : ℕ) → slice_get ks j ≡ Some k → names.register_in k vs ≡ None → IsUp b s.func k) → AllUp b s.func vs ks
      each [] h = tt
      each (k ∷ ks) h = (h 0 k refl, each ks (λ j l at. h (suc j) l at))

  -- ---- numbers

  pub first_is : (s : Sight) (p : Part) (ps : List Part) (number : ℕ) → Sees (numbered main).main s (p ∷ ps) → node_of p ≡ Some number
      → first_at b number ≡ s.declared
  first_is s p ps number sees node = ap (λ o. unwrap_or o 0) (nodes_have_firsts main (numbered main) s p ps number refl sees node)

  pub few_own : length b.locals < 2 ^ 64 → (s : Sight) (p : Part) (ps : List Part) (xs : List StrId) → own_names p ≡ xs → Sees (numbered main).main s (p ∷ ps)
      → (j : ℕ) → j < length xs → s.declared + j < 2 ^ 64 - 1
  few_own few s p ps xs own sees j lt =
      let named = get_some xs j lt in
      let entry = declared_have_entries main (numbered main) (s.declared + j) refl (record {
        sight = s;
        part = p;
        after = ps;
        seen = sees;
        place = j;
        name = named.0;
        named = ap (λ ns. slice_get ns j) own ∙ named.1;
        number = refl;
      }) in
      let within = get_within b.locals (s.declared + j) entry.info entry.at in
      omega (arith, within, few)

  -- names in scope stand for locals that are declared before
  pub names_under : (s : Sight) (ps : List Part) → Sees (numbered main).main s ps → AreUnder s.declared s.scope
  names_under s ps sees = (sound (numbered main).main s ps sees).0.under
