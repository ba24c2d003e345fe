-- The locals in scope have numbers that rise, below the number of locals declared so far: so each has one name.
use Rattle.std.proofs.Common.{◌≡◌, ℕ, ◌+◌, ◌<◌, ◌≤◌, ◌==◌, Bool, true, false, List, [], ◌∷◌, ◌++◌, length, map, Option, Some, None, refl, sym, ap, ◌∙◌, arith, subst, append-nil, ◌⊎◌, inl, inr, ⊎_elim}
use Rattle.std.proofs.lemmas.Bool.{eqb-true}
use Rattle.byte_text.specs.declared.fixed.StrId.{StrId}
use Rattle.syntax_tree.specs.declared.notes.Visible.{Visible}
use Rattle.syntax_tree.specs.declared.tree.Arm.{out-Arm}
use Rattle.syntax_tree.specs.declared.tree.Expr.{Expr}
use Rattle.syntax_tree.specs.declared.tree.ExprKind.{out-ExprKind}
use Rattle.syntax_tree.specs.declared.tree.ExprKind.TheOpen as level
use Rattle.syntax_tree.specs.declared.tree.FieldKind.{out-FieldKind}
use Rattle.syntax_tree.specs.declared.tree.FuncBody.{FuncBody, out-FuncBody}
use Rattle.syntax_tree.specs.declared.tree.Stat.{Stat}
use Rattle.syntax_tree.specs.declared.tree.StatKind.{out-StatKind}
use Rattle.syntax_tree.specs.Scope.{look, unless_later}
use Rattle.scope_laws.specs.Sight.{Sight, Part, expr, stat, function, arm, expr_arm, field, block, ExprLevel, FieldLevel, StatLevel, visible, stat_shows, shows, behind, step, else_block, expr_parts, field_parts, in_stat, in_part, itself, next, enter, Sees}
use Rattle.scope_laws.proofs.Counts.{part_count}
use Rattle.compiled_runs.proofs.Sights.{AreFrom}
use Rattle.compiled_runs.proofs.Scopes.{same_some, some_none}

abbrev pub AreUnder : ℕ → List Visible → Type 0
AreUnder n [] = Unit {0}
AreUnder n (v ∷ vs) = (v.local < n) × AreUnder n vs

abbrev pub Rising : List Visible → Type 0
Rising [] = Unit {0}
Rising (v ∷ vs) = AreFrom (v.local + 1) vs × Rising vs

under_later : (n m : ℕ) (vs : List Visible) → n ≤ m → AreUnder n vs → AreUnder m vs
under_later n m [] le h = tt
under_later n m (v ∷ vs) le h = (omega (arith, h.0, le), under_later n m vs le h.1)

under_both : (n : ℕ) (vs us : List Visible) → AreUnder n vs → AreUnder n us → AreUnder n (vs ++ us)
under_both n [] us a b = b
under_both n (v ∷ vs) us a b = (a.0, under_both n vs us a.1 b)

from_later : (n m : ℕ) (vs : List Visible) → m ≤ n → AreFrom n vs → AreFrom m vs
from_later n m [] le h = tt
from_later n m (v ∷ vs) le h = (omega (arith, h.0, le), from_later n m vs le h.1)

from_both : (n : ℕ) (vs us : List Visible) → AreFrom n vs → AreFrom n us → AreFrom n (vs ++ us)
from_both n [] us a b = b
from_both n (v ∷ vs) us a b = (a.0, from_both n vs us a.1 b)

rising_both : (n : ℕ) (vs us : List Visible) → Rising vs → AreUnder n vs → Rising us → AreFrom n us → Rising (vs ++ us)
rising_both n [] us a b c d = c
rising_both n (v ∷ vs) us a b c d =
    (from_both (v.local + 1) vs us a.0 (from_later n (v.local + 1) us (omega (arith, b.0)) d), rising_both n vs us a.1 b.1 c d)

visible_under : (n m : ℕ) (xs : List StrId) → n + length xs ≤ m → AreUnder m (visible n xs)
visible_under n m [] le = tt
visible_under n m (x ∷ xs) le = (omega (arith, le), visible_under (n + 1) m xs (omega (arith, le)))

visible_from : (n m : ℕ) (xs : List StrId) → n ≤ m → AreFrom n (visible m xs)
visible_from n m [] le = tt
visible_from n m (x ∷ xs) le = (le, visible_from n (m + 1) xs (omega (arith, le)))

visible_rising : (n : ℕ) (xs : List StrId) → Rising (visible n xs)
visible_rising n [] = tt
visible_rising n (x ∷ xs) = (visible_from (n + 1) (n + 1) xs (omega arith), visible_rising (n + 1) xs)

-- ---- at a place of the text

pub record Sound (s : Sight) : Type 0 where
  pub under : AreUnder s.declared s.scope
  pub rising : Rising s.scope

-- so many more locals are declared, and names for some of them are visible
with_new : (s t : Sight) (xs : List StrId) → t.scope ≡ s.scope ++ visible s.declared xs → s.declared + length xs ≤ t.declared → Sound s → Sound t
with_new s t xs e le h = record {
  under = subst (AreUnder t.declared) (sym e)
      (under_both t.declared s.scope (visible s.declared xs) (under_later s.declared t.declared s.scope (omega (arith, le)) h.under)
      (visible_under s.declared t.declared xs le));
  rising = subst Rising (sym e)
      (rising_both s.declared s.scope (visible s.declared xs) h.rising h.under (visible_rising s.declared xs)
      (visible_from s.declared s.declared xs (omega arith)));
}

with_none : (s t : Sight) → t.scope ≡ s.scope → s.declared ≤ t.declared → Sound s → Sound t
with_none s t e le h = with_new s t [] (e ∙ sym (append-nil s.scope)) (omega (arith, le)) h

-- ---- blocks with names of their own

abbrev pub IsFine : Sight → Part → Type 0
IsFine s (block names body) = AreUnder s.declared names × Rising (s.scope ++ names)
IsFine s p = Unit {0}

abbrev pub AreFine : Sight → List Part → Type 0
AreFine s [] = Unit {0}
AreFine s (p ∷ ps) = IsFine s p × AreFine (behind p s) ps

-- what is fine from any place with the same names on
abbrev FineBehind : Sight → List Part → Type 0
FineBehind s ps = (t : Sight) → t.scope ≡ s.scope → s.declared ≤ t.declared → AreFine t ps

list_fine : {A : Type 0} (part : A → Part) → ((a : A) (s : Sight) → IsFine s (part a)) → ((a : A) (n : ℕ) → shows (part a) n ≡ []) → (xs : List A)
    (ps : List Part) (s : Sight) → FineBehind s ps → FineBehind s (map part xs ++ ps)
list_fine part fine quiet [] ps s h t e le = h t e le
list_fine part fine quiet (x ∷ xs) ps s h t e le = (
  fine x t,
  list_fine part fine quiet xs ps s h (behind (part x) t)
      (ap (λ us. t.scope ++ us) (quiet x t.declared) ∙ append-nil t.scope ∙ e) (omega (arith, le)),
)

alone_fine : {A : Type 0} (part : A → Part) → ((a : A) (s : Sight) → IsFine s (part a)) → (xs : List A) (s : Sight) → AreFine s (map part xs)
alone_fine part fine [] s = tt
alone_fine part fine (x ∷ xs) s = (fine x s, alone_fine part fine xs (behind (part x) s))

stats_fine : (ss : List Stat) (e : Expr) (s : Sight) → AreFine s (map stat ss ++ expr e ∷ [])
stats_fine [] e s = (tt, tt)
stats_fine (x ∷ ss) e s = (tt, stats_fine ss e (behind (stat x) s))

loop_fine : (s : Sight) (xs : List StrId) (body : List Stat) → Sound s → (t : Sight) → t.scope ≡ s.scope → s.declared + length xs ≤ t.declared
    → AreFine t (block (visible s.declared xs) body ∷ [])
loop_fine s xs body h t e le = (
  (
    visible_under s.declared t.declared xs le,
    subst (λ vs. Rising (vs ++ visible s.declared xs)) (sym e)
        (rising_both s.declared s.scope (visible s.declared xs) h.rising h.under (visible_rising s.declared xs)
        (visible_from s.declared s.declared xs (omega arith))),
  ),
  tt,
)

plain_fine : (s : Sight) (body : List Stat) → Sound s → IsFine s (block [] body)
plain_fine s body h = (tt, subst Rising (sym (append-nil s.scope)) h.rising)

-- behind a part without names
sound_quiet : (p : Part) (s : Sight) → shows p s.declared ≡ [] → Sound s → Sound (behind p s)
sound_quiet p s e h = with_none s (behind p s) (ap (λ us. s.scope ++ us) e ∙ append-nil s.scope) (omega arith) h

else_fine : (o : Option (List Stat)) (s : Sight) → Sound s → AreFine s (else_block o)
else_fine None s h = tt
else_fine (Some body) s h = (plain_fine s body h, tt)

arms_fine : {A : Type 0} (part : A → Part) → ((a : A) (s : Sight) → IsFine s (part a)) → ((a : A) (n : ℕ) → shows (part a) n ≡ []) → (xs : List A)
    (o : Option (List Stat)) (s : Sight) → Sound s → AreFine s (map part xs ++ else_block o)
arms_fine part fine quiet [] o s h = else_fine o s h
arms_fine part fine quiet (x ∷ xs) o s h =
    (fine x s, arms_fine part fine quiet xs o (behind (part x) s) (sound_quiet (part x) s (quiet x s.declared) h))

expr_fine : (l : ExprLevel) (s : Sight) → AreFine s (expr_parts l)
expr_fine level.Nil s = tt
expr_fine level.True s = tt
expr_fine level.False s = tt
expr_fine (level.Num v) s = tt
expr_fine (level.Str t) s = tt
expr_fine level.Vararg s = tt
expr_fine (level.Name x) s = tt
expr_fine (level.Paren e) s = (tt, tt)
expr_fine (level.Unary op e) s = (tt, tt)
expr_fine (level.Binary op a b) s = (tt, (tt, tt))
expr_fine (level.Concat es) s = alone_fine expr (λ a s. tt) es s
expr_fine (level.Index a b) s = (tt, (tt, tt))
expr_fine (level.Member a x) s = (tt, tt)
expr_fine (level.ExprKind::Call f es) s = (tt, alone_fine expr (λ a s. tt) es (behind (expr f) s))
expr_fine (level.Method f x es) s = (tt, alone_fine expr (λ a s. tt) es (behind (expr f) s))
expr_fine (level.Table fs) s = alone_fine field (λ a s. tt) fs s
expr_fine (level.Function f) s = (tt, tt)
expr_fine (level.ExprKind::If arms e) s =
    list_fine expr_arm (λ a s. tt) (λ a n. refl) arms (expr e ∷ []) s (λ t q le. (tt, tt)) s refl (omega arith)
expr_fine (level.Interp ts es) s = alone_fine expr (λ a s. tt) es s

field_fine : (l : FieldLevel) (s : Sight) → AreFine s (field_parts l)
field_fine (level.Item e) s = (tt, tt)
field_fine (level.Named x e) s = (tt, tt)
field_fine (level.Keyed a b) s = (tt, (tt, tt))

-- the parts of a numeric loop
bounds_fine : (s : Sight) (x : StrId) (a b : Expr) (c : Option Expr) (body : List Stat) → Sound s → (t : Sight) → t.scope ≡ s.scope
    → s.declared + 1 ≤ t.declared → AreFine t (expr a ∷ expr b ∷ step c ++ block (visible s.declared (x ∷ [])) body ∷ [])
bounds_fine s x a b None body h t e le =
    (tt, (tt, loop_fine s (x ∷ []) body h (behind (expr b) (behind (expr a) t)) (append-nil _ ∙ append-nil t.scope ∙ e) (omega (arith, le))))
bounds_fine s x a b (Some c) body h t e le =
    (tt, (tt, (tt, loop_fine s (x ∷ []) body h (behind (expr c) (behind (expr b) (behind (expr a) t))) (append-nil _ ∙ append-nil _ ∙ append-nil t.scope ∙ e) (omega (arith, le)))))

stat_fine : (l : StatLevel) (s : Sight) → Sound s → Sound (in_stat l s).sight × AreFine (in_stat l s).sight (in_stat l s).parts
stat_fine (level.Local xs es) s h = (with_none s _ refl (omega arith) h, alone_fine expr (λ a s. tt) es _)
stat_fine (level.LocalFunction x f) s h = (with_new s _ (x ∷ []) refl (omega arith) h, (tt, tt))
stat_fine (level.NumFor x a b c body) s h = (with_none s _ refl (omega arith) h, bounds_fine s x a b c body h _ refl (omega arith))
stat_fine (level.GenFor xs es body) s h = (
  with_none s _ refl (omega arith) h,
  list_fine expr (λ a s. tt) (λ a n. refl) es (block (visible s.declared xs) body ∷ [])
      (record s { declared = s.declared + length xs }) (λ t e le. loop_fine s xs body h t e (omega (arith, le))) _ refl (omega arith),
)
stat_fine (level.Repeat body c) s h = (h, stats_fine body c s)
stat_fine (level.While c body) s h = (h, (tt, (plain_fine (behind (expr c) s) body (sound_quiet (expr c) s refl h), tt)))
stat_fine (level.StatKind::If arms other) s h = (h, arms_fine arm (λ a s. tt) (λ a n. refl) arms other s h)
stat_fine (level.Do body) s h = (h, (plain_fine s body h, tt))
stat_fine (level.Assign ts es) s h =
    (h, list_fine expr (λ a s. tt) (λ a n. refl) ts (map expr es) s (λ t e le. alone_fine expr (λ a s. tt) es t) s refl (omega arith))
stat_fine (level.Compound op t e) s h = (h, (tt, (tt, tt)))
stat_fine (level.StatKind::Call e) s h = (h, (tt, tt))
stat_fine (level.Return es) s h = (h, alone_fine expr (λ a s. tt) es s)
stat_fine level.Break s h = (h, tt)
stat_fine level.Continue s h = (h, tt)

part_fine : (p : Part) (s : Sight) → Sound s → IsFine s p → Sound (in_part p s).sight × AreFine (in_part p s).sight (in_part p s).parts
part_fine (expr e) s h f = (h, expr_fine (out-ExprKind e.kind) s)
part_fine (stat x) s h f = stat_fine (out-StatKind x.kind) s h
part_fine (function g) s h f =
    (with_new s _ (out-FuncBody g).params refl (omega arith) h, alone_fine stat (λ a s. tt) (out-FuncBody g).body _)
part_fine (arm a) s h f =
    (h, (tt, (plain_fine (behind (expr (out-Arm a).cond) s) (out-Arm a).body (sound_quiet (expr (out-Arm a).cond) s refl h), tt)))
part_fine (expr_arm a) s h f = (h, (tt, (tt, tt)))
part_fine (field g) s h f = (h, field_fine (out-FieldKind g.kind) s)
part_fine (block names body) s h f =
    (record { under = under_both s.declared s.scope names h.under f.0; rising = f.1 }, alone_fine stat (λ a s. tt) body _)

-- ---- behind a part

shown : (l : StatLevel) (s t : Sight) → t.scope ≡ s.scope ++ stat_shows l s.declared → (in_stat l s).sight.declared ≤ t.declared → Sound s → Sound t
shown (level.Local xs es) s t e le h = with_new s t xs e le h
shown (level.LocalFunction x f) s t e le h = with_new s t (x ∷ []) e le h
shown (level.NumFor x a b c body) s t e le h = with_none s t (e ∙ append-nil s.scope) (omega (arith, le)) h
shown (level.GenFor xs es body) s t e le h = with_none s t (e ∙ append-nil s.scope) (omega (arith, le)) h
shown (level.Repeat body c) s t e le h = with_none s t (e ∙ append-nil s.scope) (omega (arith, le)) h
shown (level.While c body) s t e le h = with_none s t (e ∙ append-nil s.scope) (omega (arith, le)) h
shown (level.StatKind::If arms other) s t e le h = with_none s t (e ∙ append-nil s.scope) (omega (arith, le)) h
shown (level.Do body) s t e le h = with_none s t (e ∙ append-nil s.scope) (omega (arith, le)) h
shown (level.Assign ts es) s t e le h = with_none s t (e ∙ append-nil s.scope) (omega (arith, le)) h
shown (level.Compound op x y) s t e le h = with_none s t (e ∙ append-nil s.scope) (omega (arith, le)) h
shown (level.StatKind::Call x) s t e le h = with_none s t (e ∙ append-nil s.scope) (omega (arith, le)) h
shown (level.Return es) s t e le h = with_none s t (e ∙ append-nil s.scope) (omega (arith, le)) h
shown level.Break s t e le h = with_none s t (e ∙ append-nil s.scope) (omega (arith, le)) h
shown level.Continue s t e le h = with_none s t (e ∙ append-nil s.scope) (omega (arith, le)) h

-- what a part declares itself is declared behind it
pub own_declared : (p : Part) (s : Sight) → (in_part p s).sight.declared ≤ (behind p s).declared
own_declared p s = omega (arith, part_count p s)

sound_behind : (p : Part) (s : Sight) → Sound s → Sound (behind p s)
sound_behind (stat x) s h = shown (out-StatKind x.kind) s (behind (stat x) s) refl (own_declared (stat x) s) h
sound_behind (expr e) s h = sound_quiet (expr e) s refl h
sound_behind (function f) s h = sound_quiet (function f) s refl h
sound_behind (arm a) s h = sound_quiet (arm a) s refl h
sound_behind (expr_arm a) s h = sound_quiet (expr_arm a) s refl h
sound_behind (field f) s h = sound_quiet (field f) s refl h
sound_behind (block names body) s h = sound_quiet (block names body) s refl h

pub sound : (main : FuncBody) (s : Sight) (ps : List Part) → Sees main s ps → Sound s × AreFine s ps
sound main _ _ itself = (record { under = tt; rising = tt }, (tt, tt))
sound main _ _ (next s p ps i) =
    let h = sound main s (p ∷ ps) i in (sound_behind p s h.0, h.1.1)
sound main _ _ (enter s p ps i) =
    let h = sound main s (p ∷ ps) i in part_fine p s h.0 h.1.0

-- ---- a local has one name

unless_some : (same : Bool) (n k : ℕ) (o : Option ℕ) → unless_later same n o ≡ Some k → (o ≡ Some k) ⊎ ((same ≡ true) × (n ≡ k))
unless_some same n k (Some j) e = inl e
unless_some true n k None e = inr (refl, same_some e)
unless_some false n k None e = some_none e

pub look_under : (x : StrId) (n k : ℕ) (vs : List Visible) → AreUnder n vs → look x vs ≡ Some k → k < n
look_under x n k [] h e = some_none e
look_under x n k (v ∷ vs) h e =
    ⊎_elim (λ o. look_under x n k vs h.1 o) (λ b. let i = b.1 in omega (arith, h.0, i)) (unless_some (v.name.0 == x.0) v.local k (look x vs) e)

look_from : (x : StrId) (n k : ℕ) (vs : List Visible) → AreFrom n vs → look x vs ≡ Some k → n ≤ k
look_from x n k [] h e = some_none e
look_from x n k (v ∷ vs) h e =
    ⊎_elim (λ o. look_from x n k vs h.1 o) (λ b. let i = b.1 in omega (arith, h.0, i)) (unless_some (v.name.0 == x.0) v.local k (look x vs) e)

pub one_name : (x y : StrId) (k : ℕ) (vs : List Visible) → Rising vs → look x vs ≡ Some k → look y vs ≡ Some k → x.0 ≡ y.0
one_name x y k [] h e f = some_none e
one_name x y k (v ∷ vs) h e f =
    ⊎_elim
    (λ o. ⊎_elim (λ q. one_name x y k vs h.1 o q)
    (λ b. let le = look_from x (v.local + 1) k vs h.0 o in let i = b.1 in absurd (omega (arith, le, i)))
    (unless_some (v.name.0 == y.0) v.local k (look y vs) f))
    (λ b. ⊎_elim
    (λ q. let le = look_from y (v.local + 1) k vs h.0 q in let i = b.1 in absurd (omega (arith, le, i)))
    (λ c. sym (eqb-true v.name.0 x.0 b.0) ∙ eqb-true v.name.0 y.0 c.0)
    (unless_some (v.name.0 == y.0) v.local k (look y vs) f))
    (unless_some (v.name.0 == x.0) v.local k (look x vs) e)

-- names that are in scope further outside
look_none : (x : StrId) (vs more : List Visible) → look x (vs ++ more) ≡ None → look x vs ≡ None
look_none x [] more e = refl
look_none x (v ∷ vs) more e = by (v.name.0 == x.0) (look x (vs ++ more)) (look x vs) (look_none x vs more) e
  where
    by : (same : Bool) (o q : Option ℕ) → (o ≡ None → q ≡ None) → unless_later same v.local o ≡ None → unless_later same v.local q ≡ None
    by same (Some j) q h e = some_none (sym e)
    by true None q h e = some_none (sym e)
    by false None q h e = ap (unless_later false v.local) (h refl)

pub look_more : (x : StrId) (n k : ℕ) (vs more : List Visible) → AreFrom n more → look x (vs ++ more) ≡ Some k → k < n → look x vs ≡ Some k
look_more x n k [] more h e lt = let le = look_from x n k more h e in absurd (omega (arith, le, lt))
look_more x n k (v ∷ vs) more h e lt =
    by (look x (vs ++ more)) (look x vs) (look_none x vs more) (λ o. look_more x n k vs more h o lt) e
  where
    by : (o q : Option ℕ) → (o ≡ None → q ≡ None) → (o ≡ Some k → q ≡ Some k) → unless_later (v.name.0 == x.0) v.local o ≡ Some k
        → unless_later (v.name.0 == x.0) v.local q ≡ Some k
    by (Some j) q none some e = ap (unless_later (v.name.0 == x.0) v.local) (some e)
    by None q none some e = ap (unless_later (v.name.0 == x.0) v.local) (none refl) ∙ e
