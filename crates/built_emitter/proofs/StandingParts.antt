-- What stands in a part, and behind it.
use Rattle.std.proofs.Common.{◌≡◌, ◌∙◌, ℕ, ◌+◌, ◌≤◌, List, [], ◌∷◌, ◌++◌, map, length, reverse, Option, Some, refl, sym, ap, subst, arith, append-nil, append_assoc}
use Rattle.std.proofs.lemmas.List.{reverse-append, reverse-reverse, map-append}
use Rattle.byte_text.specs.declared.fixed.StrId.{StrId}
use Rattle.syntax_tree.specs.declared.bindings.Bindings.{Bindings}
use Rattle.syntax_tree.specs.declared.notes.Visible.{Visible}
use Rattle.syntax_tree.specs.declared.tree.Arm.{Arm, out-Arm}
use Rattle.syntax_tree.specs.declared.tree.BinOp.{BinOp}
use Rattle.syntax_tree.specs.declared.tree.Expr.{Expr}
use Rattle.syntax_tree.specs.declared.tree.ExprKind.{out-ExprKind}
use Rattle.syntax_tree.specs.declared.tree.ExprKind as expr_kind
use Rattle.syntax_tree.specs.declared.tree.ExprKind.TheOpen as level
use Rattle.syntax_tree.specs.declared.tree.ExprKind.TheViews as views
use Rattle.syntax_tree.specs.declared.tree.Stat.{Stat}
use Rattle.syntax_tree.specs.declared.tree.StatKind.{out-StatKind}
use Rattle.syntax_tree.specs.Lists.{or_zero}
use Rattle.syntax_tree.specs.Numbers.{numbered}
use Rattle.scope_laws.specs.Declares.{steps, declares_stat}
use Rattle.scope_laws.specs.Sight.{Sight, Part, ExprLevel, StatLevel, expr, stat, arm, block, shows, stat_shows, behind, visible, Inside, inside, else_block, expr_parts, in_stat, in_part, Sees, next, enter}
use Rattle.scope_laws.proofs.Levels.{at_stat_level, stat_is, stat_kind_is}
use Rattle.scope_laws.proofs.Seen.{nodes_have_firsts}
use Rattle.built_emitter.specs.Names.{names_after, names_beyond}
use Rattle.built_emitter.specs.Standing.{first_at, names_of, scope_after, AreBelow, Stand, StandsAt}

-- ---- numbers of locals

pub below_more : (n m : ℕ) (vs : List Visible) → n ≤ m → AreBelow n vs → AreBelow m vs
below_more n m [] le h = tt
below_more n m (v ∷ vs) le h = (omega (arith, le, h.0), h.1)

-- new locals, which are numbered from n on
below_new : (n : ℕ) (xs : List StrId) (vs : List Visible) → AreBelow n vs → AreBelow (n + length xs) (reverse (visible n xs) ++ vs)
below_new n [] vs h = below_more n (n + 0) vs (omega arith) h
below_new n (x ∷ xs) vs h =
    let v : Visible = record { name = x; local = n } in
    let more : AreBelow (n + 1 + length xs) (reverse (visible (n + 1) xs) ++ v ∷ vs) = below_new (n + 1) xs (v ∷ vs) (omega arith, h) in
    let same : reverse (visible (n + 1) xs) ++ v ∷ vs ≡ reverse (v ∷ visible (n + 1) xs) ++ vs =
    sym (append_assoc (reverse (visible (n + 1) xs)) (v ∷ []) vs) ∙ ap (λ l. l ++ vs) (sym (reverse-append (v ∷ []) (visible (n + 1) xs))) in
    below_more (n + 1 + length xs) (n + length (x ∷ xs)) (reverse (v ∷ visible (n + 1) xs) ++ vs) (omega arith) (subst (AreBelow (n + 1
    + length xs)) same more)

pub visible_length : (n : ℕ) (xs : List StrId) → length (visible n xs) ≡ length xs
visible_length n [] = refl
visible_length n (x ∷ xs) = omega (arith, visible_length (n + 1) xs)

in_reverse : {A : Type 0} (xs ys : List A) → reverse xs ++ ys ≡ reverse (reverse ys ++ xs)
in_reverse xs ys = sym (reverse-append (reverse ys) xs ∙ ap (λ z. reverse xs ++ z) (reverse-reverse ys))

visible_names : (n : ℕ) (xs : List StrId) → names_of (visible n xs) ≡ xs
visible_names n [] = refl
visible_names n (x ∷ xs) = ap (λ z. x ∷ z) (visible_names (n + 1) xs)

map-reverse : {A B : Type 0} (f : A → B) (xs : List A) → map f (reverse xs) ≡ reverse (map f xs)
map-reverse f [] = refl
map-reverse f (x ∷ xs) =
    ap (map f) (reverse-append (x ∷ []) xs) ∙ map-append f (reverse xs) (x ∷ []) ∙ ap (λ z. z ++ f x ∷ []) (map-reverse f xs)
    ∙ sym (reverse-append (f x ∷ []) (map f xs))

reversed_names : (n : ℕ) (xs : List StrId) (vs : List Visible) → names_of (reverse (visible n xs) ++ vs) ≡ reverse xs ++ names_of vs
reversed_names n xs vs =
    map-append (λ (v : Visible). v.name) (reverse (visible n xs)) vs
    ∙ ap (λ z. z ++ names_of vs) (map-reverse (λ (v : Visible). v.name) (visible n xs) ∙ ap reverse (visible_names n xs))

-- ---- inside a part

pub in_expr : (b : Bindings) (vs : List Visible) (e : Expr) (after : List Part) (l : ExprLevel) → Stand b vs (expr e ∷ after) →
    out-ExprKind e.kind ≡ l → Stand b vs (expr_parts l)
in_expr b vs e after l s h = record {
  main = s.main;
  is = s.is;
  sight = s.sight;
  seen = subst (λ l. Sees (numbered s.main).main s.sight (expr_parts l)) h (enter s.sight (expr e) after s.seen);
  scope = s.scope;
  first = s.first;
  below = s.below;
}

-- behind a part that makes nothing visible
pub behind_quiet : (b : Bindings) (vs : List Visible) (p : Part) (ps : List Part) → ((n : ℕ) → shows p n ≡ []) → Stand b vs (p ∷ ps) →
    Stand b vs ps
behind_quiet b vs p ps quiet s = record {
  main = s.main;
  is = s.is;
  sight = behind p s.sight;
  seen = next s.sight p ps s.seen;
  scope = ap (λ l. s.sight.scope ++ l) (quiet s.sight.declared) ∙ append-nil s.sight.scope ∙ s.scope;
  first = s.first;
  below = below_more s.sight.declared (behind p s.sight).declared vs (omega arith) s.below;
}

-- a statement whose parts see what it sees
pub record SeesSame (l : StatLevel) : Type 0 where
  pub scope : (s : Sight) → (in_stat l s).sight.scope ≡ s.scope
  pub first : (s : Sight) → (in_stat l s).sight.first ≡ s.first
  pub declared : (s : Sight) → s.declared ≤ (in_stat l s).sight.declared

pub in_statement : (b : Bindings) (vs : List Visible) (x : Stat) (after : List Part) (l : StatLevel) (parts : List Part) → SeesSame l →
    ((s : Sight) → (in_stat l s).parts ≡ parts) → Stand b vs (stat x ∷ after) → out-StatKind x.kind ≡ l → Stand b vs parts
in_statement b vs x after l parts same are s h = record {
  main = s.main;
  is = s.is;
  sight = (in_stat l s.sight).sight;
  seen = subst (Sees (numbered s.main).main (in_stat l s.sight).sight) (are s.sight)
      (subst (λ l. Sees (numbered s.main).main (in_stat l s.sight).sight (in_stat l s.sight).parts) h (enter s.sight (stat x) after s.seen));
  scope = same.scope s.sight ∙ s.scope;
  first = same.first s.sight ∙ s.first;
  below = below_more s.sight.declared (in_stat l s.sight).sight.declared vs (same.declared s.sight) s.below;
}

-- a statement that declares nothing before its parts
pub in_quiet : (b : Bindings) (vs : List Visible) (x : Stat) (after : List Part) (l : StatLevel) (parts : List Part) →
    ((s : Sight) → in_stat l s ≡ inside s parts) → Stand b vs (stat x ∷ after) → out-StatKind x.kind ≡ l → Stand b vs parts
in_quiet b vs x after l parts same s k =
    in_statement b vs x after l parts (record {
      scope = λ s. ap (λ (i : Inside). i.sight.scope) (same s);
      first = λ s. ap (λ (i : Inside). i.sight.first) (same s);
      declared = λ s. let e = ap (λ (i : Inside). i.sight.declared) (same s) in omega (arith, e);
    })
    (λ s. ap (λ (i : Inside). i.parts) (same s)) s k

pub in_arm : (b : Bindings) (vs : List Visible) (a : Arm) (after : List Part) → Stand b vs (arm a ∷ after) →
    Stand b vs (expr (out-Arm a).cond ∷ block [] (out-Arm a).body ∷ [])
in_arm b vs a after s = record {
  main = s.main;
  is = s.is;
  sight = s.sight;
  seen = enter s.sight (arm a) after s.seen;
  scope = s.scope;
  first = s.first;
  below = s.below;
}

pub in_block : (b : Bindings) (vs : List Visible) (body : List Stat) (after : List Part) → Stand b vs (block [] body ∷ after) →
    Stand b vs (map stat body)
in_block b vs body after s = record {
  main = s.main;
  is = s.is;
  sight = (in_part (block [] body) s.sight).sight;
  seen = enter s.sight (block [] body) after s.seen;
  scope = append-nil s.sight.scope ∙ s.scope;
  first = s.first;
  below = s.below;
}

-- the block behind a condition
pub behind_condition : (b : Bindings) (vs : List Visible) (cond : Expr) (body : List Stat) → Stand b vs (expr cond ∷ block [] body ∷ []) →
    Stand b vs (map stat body)
behind_condition b vs cond body s = in_block b vs body [] (behind_quiet b vs (expr cond) (block [] body ∷ []) (λ n. refl) s)

-- a block as it is seen
pub block_seen : (b : Bindings) (vs : List Visible) (body seen : List Stat) → seen ≡ body → Stand b vs (map stat body) →
    Stand b vs (map stat seen)
block_seen b vs body seen same s = subst (λ (l : List Stat). Stand b vs (map stat l)) (sym same) s

-- ---- behind a statement

level_declares : (l : StatLevel) (n : ℕ) → length (stat_shows l n) ≤ at_stat_level steps l
level_declares (level.Local xs es) n = omega (arith, visible_length n xs)
level_declares (level.LocalFunction x f) n = omega arith
level_declares (level.Assign ts es) n = omega arith
level_declares (level.Compound op a c) n = omega arith
level_declares (level.StatKind::Call c) n = omega arith
level_declares (level.Do body) n = omega arith
level_declares (level.While a body) n = omega arith
level_declares (level.Repeat body a) n = omega arith
level_declares (level.StatKind::If arms other) n = omega arith
level_declares (level.NumFor x a c by body) n = omega arith
level_declares (level.GenFor xs es body) n = omega arith
level_declares (level.Return es) n = omega arith
level_declares level.Break n = omega arith
level_declares level.Continue n = omega arith

-- what a statement makes visible are new locals
level_below : (l : StatLevel) (n m : ℕ) (vs : List Visible) → length (stat_shows l n) ≤ m → AreBelow n vs → AreBelow (n + m) (reverse
    (stat_shows l n) ++ vs)
level_below (level.Local xs es) n m vs le h =
    below_more (n + length xs) (n + m) (reverse (visible n xs) ++ vs) (omega (arith, le, visible_length n xs)) (below_new n xs vs h)
level_below (level.LocalFunction x f) n m vs le h = below_more (n + 1) (n + m) (record { name = x; local = n } ∷ vs) (omega (arith, le)) (
  omega
      arith,
  h,
)
level_below _ n m vs le h = below_more n (n + m) vs (omega arith) h

first_is : (b : Bindings) (vs : List Visible) (x : Stat) (after : List Part) (s : Stand b vs (stat x ∷ after)) →
    first_at b x.id ≡ s.sight.declared
first_is b vs x after s =
    ap (λ (b : Bindings). first_at b x.id) s.is
    ∙ ap or_zero (nodes_have_firsts s.main (numbered s.main) s.sight (stat x) after x.id refl s.seen refl)

pub behind_statement : (b : Bindings) (vs : List Visible) (x : Stat) (after : List Part) → Stand b vs (stat x ∷ after) →
    Stand b (scope_after b vs x) after
behind_statement b vs x after s =
    let l : StatLevel = out-StatKind x.kind in
    let n : ℕ = s.sight.declared in
    let declares : declares_stat x ≡ at_stat_level steps l = stat_is steps x ∙ stat_kind_is steps x.kind in
    let is : reverse (stat_shows l n) ++ vs ≡ scope_after b vs x = ap (λ n. reverse (stat_shows l n) ++ vs) (sym (first_is b vs x after s)) in
    subst (λ vs. Stand b vs after) is
    (record {
      main = s.main;
      is = s.is;
      sight = behind (stat x) s.sight;
      seen = next s.sight (stat x) after s.seen;
      scope = ap (λ z. z ++ stat_shows l n) s.scope ∙ in_reverse vs (stat_shows l n);
      first = s.first;
      below = level_below l n (declares_stat x) vs (omega (arith, declares, level_declares l n)) s.below;
    })

-- ---- names

level_names : (l : StatLevel) (n : ℕ) (vs : List Visible) → names_of (reverse (stat_shows l n) ++ vs) ≡ names_beyond l (names_of vs)
level_names (level.Local xs es) n vs = reversed_names n xs vs ∙ ap (λ z. reverse z ++ names_of vs) (sym (visible_names 0 xs))
level_names (level.LocalFunction x f) n vs = refl
level_names _ n vs = refl

pub names_behind : (b : Bindings) (vs : List Visible) (x : Stat) → names_of (scope_after b vs x) ≡ names_after (names_of vs) x
names_behind b vs x = level_names (out-StatKind x.kind) (first_at b x.id) vs

-- ---- what stands in an expression

pub operands : (b : Bindings) (vs : List Visible) (e l r : Expr) (op : BinOp) → e.kind ≡ expr_kind.Binary op l r →
    StandsAt b vs (expr e) → Stand b vs (expr l ∷ expr r ∷ [])
operands b vs e l r op k s = in_expr b vs e s.0 (level.Binary op l r) s.1 (ap out-ExprKind k ∙ views.outs-Binary op l r)

pub right_one : (b : Bindings) (vs : List Visible) (l r : Expr) → Stand b vs (expr l ∷ expr r ∷ []) → StandsAt b vs (expr r)
right_one b vs l r s = ([], behind_quiet b vs (expr l) (expr r ∷ []) (λ n. refl) s)

pub left_operand : (b : Bindings) (vs : List Visible) (e l r seen : Expr) (op : BinOp) → e.kind ≡ expr_kind.Binary op l r → seen ≡ l →
    StandsAt b vs (expr e) → StandsAt b vs (expr seen)
left_operand b vs e l r seen op k same s =
    subst (λ (z : Expr). StandsAt b vs (expr z)) (sym same) (expr r ∷ [], operands b vs e l r op k s)

pub right_operand : (b : Bindings) (vs : List Visible) (e l r seen : Expr) (op : BinOp) → e.kind ≡ expr_kind.Binary op l r → seen ≡ r →
    StandsAt b vs (expr e) → StandsAt b vs (expr seen)
right_operand b vs e l r seen op k same s =
    subst (λ (z : Expr). StandsAt b vs (expr z)) (sym same) (right_one b vs l r (operands b vs e l r op k s))
