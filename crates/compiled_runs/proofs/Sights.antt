-- What is seen in a function, and where the parts of its parts stand.
use Rattle.std.proofs.Common.{◌≡◌, ℕ, ◌+◌, ◌≤◌, List, [], ◌∷◌, ◌++◌, map, Option, Some, None, refl, sym, ap, ◌∙◌, arith, subst, append-nil, append_assoc, ◌⊎◌, inl, inr, ⊎_elim}
use Rattle.byte_text.specs.declared.fixed.StrId.{StrId}
use Rattle.syntax_tree.specs.declared.notes.Visible.{Visible}
use Rattle.syntax_tree.specs.declared.tree.Expr.{Expr}
use Rattle.syntax_tree.specs.declared.tree.ExprKind.{out-ExprKind}
use Rattle.syntax_tree.specs.declared.tree.ExprKind.TheOpen as level
use Rattle.syntax_tree.specs.declared.tree.FieldKind.{out-FieldKind}
use Rattle.syntax_tree.specs.declared.tree.FuncBody.{FuncBody, out-FuncBody}
use Rattle.syntax_tree.specs.declared.tree.Stat.{Stat}
use Rattle.syntax_tree.specs.declared.tree.StatKind.{out-StatKind}
use Rattle.scope_laws.specs.Sight.{Sight, Part, expr, stat, function, arm, expr_arm, field, block, ExprLevel, FieldLevel, StatLevel, visible, stat_shows, shows, behind, step, else_block, expr_parts, field_parts, in_stat, in_part, Within, itself, next, enter}

-- ---- a part of a part is a part

pub further : (a : Sight) (w : Part) (from : Sight) (whole : Part) (rest : List Part) → Within a w from (whole ∷ rest) → (s : Sight) (ps : List Part)
    → Within from whole s ps → (others : List Part) × Within a w s (ps ++ others)
further a w from whole rest h _ _ itself = (rest, h)
further a w from whole rest h _ _ (next s p ps i) =
    let r = further a w from whole rest h s (p ∷ ps) i in (r.0, next s p (ps ++ r.0) r.1)
further a w from whole rest h _ _ (enter s p ps i) =
    let r = further a w from whole rest h s (p ∷ ps) i in
    ([], subst (λ l. Within a w (in_part p s).sight l) (sym (append-nil (in_part p s).parts)) (enter s p (ps ++ r.0) r.1))

-- ---- new names

-- these locals are numbered from n on
abbrev pub AreFrom : ℕ → List Visible → Type 0
AreFrom n [] = Unit {0}
AreFrom n (v ∷ vs) = (n ≤ v.local) × AreFrom n vs

-- and so are those that are visible in the blocks of these parts besides
abbrev pub BlocksFrom : ℕ → List Part → Type 0
BlocksFrom n [] = Unit {0}
BlocksFrom n (block names body ∷ ps) = AreFrom n names × BlocksFrom n ps
BlocksFrom n (p ∷ ps) = BlocksFrom n ps

pub from_both : (n : ℕ) (vs us : List Visible) → AreFrom n vs → AreFrom n us → AreFrom n (vs ++ us)
from_both n [] us a b = b
from_both n (v ∷ vs) us a b = (a.0, from_both n vs us a.1 b)

from_visible : (n m : ℕ) (xs : List StrId) → n ≤ m → AreFrom n (visible m xs)
from_visible n m [] le = tt
from_visible n m (x ∷ xs) le = (le, from_visible n (m + 1) xs (omega (arith, le)))

from_shows : (n m : ℕ) (l : StatLevel) → n ≤ m → AreFrom n (stat_shows l m)
from_shows n m (level.Local xs es) le = from_visible n m xs le
from_shows n m (level.LocalFunction x f) le = from_visible n m (x ∷ []) le
from_shows n m (level.Assign ts es) le = tt
from_shows n m (level.Compound op t e) le = tt
from_shows n m (level.StatKind::Call e) le = tt
from_shows n m (level.Do body) le = tt
from_shows n m (level.While c body) le = tt
from_shows n m (level.Repeat body c) le = tt
from_shows n m (level.StatKind::If arms other) le = tt
from_shows n m (level.NumFor x a b c body) le = tt
from_shows n m (level.GenFor xs es body) le = tt
from_shows n m (level.Return es) le = tt
from_shows n m level.Break le = tt
from_shows n m level.Continue le = tt

pub from_part : (n m : ℕ) (p : Part) → n ≤ m → AreFrom n (shows p m)
from_part n m (stat s) le = from_shows n m (out-StatKind s.kind) le
from_part n m (expr e) le = tt
from_part n m (function f) le = tt
from_part n m (arm a) le = tt
from_part n m (expr_arm a) le = tt
from_part n m (field f) le = tt
from_part n m (block names body) le = tt

-- ---- parts without names of their own

exprs_from : (n : ℕ) (es : List Expr) (ps : List Part) → BlocksFrom n ps → BlocksFrom n (map expr es ++ ps)
exprs_from n [] ps h = h
exprs_from n (e ∷ es) ps h = exprs_from n es ps h

only_exprs : (n : ℕ) (es : List Expr) → BlocksFrom n (map expr es)
only_exprs n [] = tt
only_exprs n (e ∷ es) = only_exprs n es

stats_from : (n : ℕ) (ss : List Stat) (ps : List Part) → BlocksFrom n ps → BlocksFrom n (map stat ss ++ ps)
stats_from n [] ps h = h
stats_from n (s ∷ ss) ps h = stats_from n ss ps h

only_stats : (n : ℕ) (ss : List Stat) → BlocksFrom n (map stat ss)
only_stats n [] = tt
only_stats n (s ∷ ss) = only_stats n ss

quiet : {A : Type 0} (n : ℕ) (part : A → Part) → ((a : A) (ps : List Part) → BlocksFrom n ps → BlocksFrom n (part a ∷ ps)) → (xs : List A)
    (ps : List Part) → BlocksFrom n ps → BlocksFrom n (map part xs ++ ps)
quiet n part h [] ps b = b
quiet n part h (x ∷ xs) ps b = h x (map part xs ++ ps) (quiet n part h xs ps b)

quiet_alone : {A : Type 0} (n : ℕ) (part : A → Part) → ((a : A) (ps : List Part) → BlocksFrom n ps → BlocksFrom n (part a ∷ ps)) → (xs : List A)
    → BlocksFrom n (map part xs)
quiet_alone n part h [] = tt
quiet_alone n part h (x ∷ xs) = h x (map part xs) (quiet_alone n part h xs)

expr_from : (n : ℕ) (l : ExprLevel) → BlocksFrom n (expr_parts l)
expr_from n level.Nil = tt
expr_from n level.True = tt
expr_from n level.False = tt
expr_from n (level.Num v) = tt
expr_from n (level.Str t) = tt
expr_from n level.Vararg = tt
expr_from n (level.Name x) = tt
expr_from n (level.Paren e) = tt
expr_from n (level.Unary op e) = tt
expr_from n (level.Binary op a b) = tt
expr_from n (level.Concat es) = only_exprs n es
expr_from n (level.Index a b) = tt
expr_from n (level.Member a x) = tt
expr_from n (level.ExprKind::Call f es) = only_exprs n es
expr_from n (level.Method f x es) = only_exprs n es
expr_from n (level.Table fs) = quiet_alone n field (λ a ps h. h) fs
expr_from n (level.Function f) = tt
expr_from n (level.ExprKind::If arms e) = quiet n expr_arm (λ a ps h. h) arms (expr e ∷ []) tt
expr_from n (level.Interp ts es) = only_exprs n es

field_from : (n : ℕ) (l : FieldLevel) → BlocksFrom n (field_parts l)
field_from n (level.Item e) = tt
field_from n (level.Named x e) = tt
field_from n (level.Keyed a b) = tt

else_from : (n : ℕ) (o : Option (List Stat)) → BlocksFrom n (else_block o)
else_from n None = tt
else_from n (Some body) = (tt, tt)

step_from : (n : ℕ) (o : Option Expr) (ps : List Part) → BlocksFrom n ps → BlocksFrom n (step o ++ ps)
step_from n None ps h = h
step_from n (Some e) ps h = h

stat_from : (n : ℕ) (l : StatLevel) (s : Sight) → n ≤ s.declared → BlocksFrom n (in_stat l s).parts
stat_from n (level.Local xs es) s le = only_exprs n es
stat_from n (level.LocalFunction x f) s le = tt
stat_from n (level.NumFor x a b c body) s le =
    step_from n c (block (visible s.declared (x ∷ [])) body ∷ []) (from_visible n s.declared (x ∷ []) le, tt)
stat_from n (level.GenFor xs es body) s le =
    exprs_from n es (block (visible s.declared xs) body ∷ []) (from_visible n s.declared xs le, tt)
stat_from n (level.Repeat body c) s le = stats_from n body (expr c ∷ []) tt
stat_from n (level.While c body) s le = (tt, tt)
stat_from n (level.StatKind::If arms other) s le = quiet n arm (λ a ps h. h) arms (else_block other) (else_from n other)
stat_from n (level.Do body) s le = (tt, tt)
stat_from n (level.Assign ts es) s le = exprs_from n ts (map expr es) (only_exprs n es)
stat_from n (level.Compound op t e) s le = tt
stat_from n (level.StatKind::Call e) s le = tt
stat_from n (level.Return es) s le = only_exprs n es
stat_from n level.Break s le = tt
stat_from n level.Continue s le = tt

part_from : (n : ℕ) (p : Part) (s : Sight) → n ≤ s.declared → BlocksFrom n (in_part p s).parts
part_from n (expr e) s le = expr_from n (out-ExprKind e.kind)
part_from n (stat x) s le = stat_from n (out-StatKind x.kind) s le
part_from n (function f) s le = only_stats n (out-FuncBody f).body
part_from n (arm a) s le = (tt, tt)
part_from n (expr_arm a) s le = tt
part_from n (field f) s le = field_from n (out-FieldKind f.kind)
part_from n (block names body) s le = only_stats n body

-- ---- inside a part more is in scope

-- behind or in a part the names from before are visible, and new locals
pub record More (n : ℕ) (s t : Sight) : Type 0 where
  pub more : List Visible
  pub is : t.scope ≡ s.scope ++ more
  pub new : AreFrom n more
  pub rises : s.declared ≤ t.declared

same_more : (n : ℕ) (s t : Sight) → t.scope ≡ s.scope → s.declared ≤ t.declared → More n s t
same_more n s t e le = record { more = []; is = e ∙ sym (append-nil s.scope); new = tt; rises = le }

stat_more : (n : ℕ) (l : StatLevel) (s : Sight) → n ≤ s.declared → More n s (in_stat l s).sight
stat_more n (level.Local xs es) s le = same_more n s _ refl (omega arith)
stat_more n (level.LocalFunction x f) s le =
    record { more = visible s.declared (x ∷ []); is = refl; new = from_visible n s.declared (x ∷ []) le; rises = omega arith }
stat_more n (level.NumFor x a b c body) s le = same_more n s _ refl (omega arith)
stat_more n (level.GenFor xs es body) s le = same_more n s _ refl (omega arith)
stat_more n (level.Repeat body c) s le = same_more n s _ refl (omega arith)
stat_more n (level.While c body) s le = same_more n s _ refl (omega arith)
stat_more n (level.StatKind::If arms other) s le = same_more n s _ refl (omega arith)
stat_more n (level.Do body) s le = same_more n s _ refl (omega arith)
stat_more n (level.Assign ts es) s le = same_more n s _ refl (omega arith)
stat_more n (level.Compound op t e) s le = same_more n s _ refl (omega arith)
stat_more n (level.StatKind::Call e) s le = same_more n s _ refl (omega arith)
stat_more n (level.Return es) s le = same_more n s _ refl (omega arith)
stat_more n level.Break s le = same_more n s _ refl (omega arith)
stat_more n level.Continue s le = same_more n s _ refl (omega arith)

in_more : (n : ℕ) (p : Part) (ps : List Part) (s : Sight) → n ≤ s.declared → BlocksFrom n (p ∷ ps) → More n s (in_part p s).sight
in_more n (expr e) ps s le b = same_more n s _ refl (omega arith)
in_more n (stat x) ps s le b = stat_more n (out-StatKind x.kind) s le
in_more n (function f) ps s le b = record {
  more = visible s.declared (out-FuncBody f).params;
  is = refl;
  new = from_visible n s.declared (out-FuncBody f).params le;
  rises = omega arith;
}
in_more n (arm a) ps s le b = same_more n s _ refl (omega arith)
in_more n (expr_arm a) ps s le b = same_more n s _ refl (omega arith)
in_more n (field f) ps s le b = same_more n s _ refl (omega arith)
in_more n (block names body) ps s le b = record { more = names; is = refl; new = b.0; rises = omega arith }

blocks_rest : (n : ℕ) (p : Part) (ps : List Part) → BlocksFrom n (p ∷ ps) → BlocksFrom n ps
blocks_rest n (expr e) ps b = b
blocks_rest n (stat x) ps b = b
blocks_rest n (function f) ps b = b
blocks_rest n (arm a) ps b = b
blocks_rest n (expr_arm a) ps b = b
blocks_rest n (field f) ps b = b
blocks_rest n (block names body) ps b = b.1

more_then : (n : ℕ) (s t u : Sight) → More n s t → More n t u → More n s u
more_then n s t u p q = record {
  more = p.more ++ q.more;
  is = q.is ∙ ap (λ l. l ++ q.more) p.is ∙ append_assoc s.scope p.more q.more;
  new = from_both n p.more q.more p.new q.new;
  rises = omega (arith, p.rises, q.rises);
}

-- the parts are the function itself, or nothing
abbrev pub IsWhole : List Part → Type 0
IsWhole [] = Unit {0}
IsWhole (function f ∷ ps) = IsWhole ps
IsWhole (p ∷ ps) = ⊥

whole_rest : (p : Part) (ps : List Part) → IsWhole (p ∷ ps) → IsWhole ps
whole_rest (function f) ps h = h
whole_rest (expr e) ps h = absurd h
whole_rest (stat x) ps h = absurd h
whole_rest (arm a) ps h = absurd h
whole_rest (expr_arm a) ps h = absurd h
whole_rest (field f) ps h = absurd h
whole_rest (block names body) ps h = absurd h

stat_first : (l : StatLevel) (s : Sight) → (in_stat l s).sight.first ≡ s.first
stat_first (level.Local xs es) s = refl
stat_first (level.LocalFunction x f) s = refl
stat_first (level.NumFor x a b c body) s = refl
stat_first (level.GenFor xs es body) s = refl
stat_first (level.Repeat body c) s = refl
stat_first (level.While c body) s = refl
stat_first (level.StatKind::If arms other) s = refl
stat_first (level.Do body) s = refl
stat_first (level.Assign ts es) s = refl
stat_first (level.Compound op t e) s = refl
stat_first (level.StatKind::Call e) s = refl
stat_first (level.Return es) s = refl
stat_first level.Break s = refl
stat_first level.Continue s = refl

in_first : (n : ℕ) (p : Part) (ps : List Part) (s : Sight) → n ≤ s.declared → (n ≤ s.first) ⊎ IsWhole (p ∷ ps) → n ≤ (in_part p s).sight.first
in_first n (function f) ps s le h = le
in_first n (expr e) ps s le h = ⊎_elim (λ a. a) (λ w. absurd w) h
in_first n (stat x) ps s le h = ⊎_elim (λ a. subst (λ m. n ≤ m) (sym (stat_first (out-StatKind x.kind) s)) a) (λ w. absurd w) h
in_first n (arm a) ps s le h = ⊎_elim (λ a. a) (λ w. absurd w) h
in_first n (expr_arm a) ps s le h = ⊎_elim (λ a. a) (λ w. absurd w) h
in_first n (field f) ps s le h = ⊎_elim (λ a. a) (λ w. absurd w) h
in_first n (block names body) ps s le h = ⊎_elim (λ a. a) (λ w. absurd w) h

-- what is seen in a function, where it begins where `from` is seen
pub record Deep (from s : Sight) (ps : List Part) : Type 0 where
  pub more : More from.declared from s
  pub blocks : BlocksFrom from.declared ps
  pub first : (from.declared ≤ s.first) ⊎ IsWhole ps

pub deep : (from : Sight) (f : FuncBody) (s : Sight) (ps : List Part) → Within from (function f) s ps → Deep from s ps
deep from f _ _ itself = record { more = same_more from.declared from from refl (omega arith); blocks = tt; first = inr tt }
deep from f _ _ (next s p ps i) =
    let h = deep from f s (p ∷ ps) i in
    record {
      more = more_then from.declared from s (behind p s) h.more (record {
        more = shows p s.declared;
        is = refl;
        new = from_part from.declared s.declared p h.more.rises;
        rises = omega arith;
      });
      blocks = blocks_rest from.declared p ps h.blocks;
      first = ⊎_elim (λ a. inl a) (λ w. inr (whole_rest p ps w)) h.first;
    }
deep from f _ _ (enter s p ps i) =
    let h = deep from f s (p ∷ ps) i in
    record {
      more = more_then from.declared from s (in_part p s).sight h.more (in_more from.declared p ps s h.more.rises h.blocks);
      blocks = part_from from.declared p s h.more.rises;
      first = inl (in_first from.declared p ps s h.more.rises h.first);
    }
