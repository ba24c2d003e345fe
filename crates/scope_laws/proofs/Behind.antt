-- What is seen behind some parts.
use Rattle.std.proofs.Common.{◌≡◌, ◌∙◌, ℕ, ◌+◌, zero, suc, List, [], ◌∷◌, ◌++◌, length, map, take, refl, sym, ap, ap₂, arith, append-nil, append_assoc}
use Rattle.std.proofs.Math.Seq.{take-append_seam}
use Rattle.syntax_tree.specs.declared.notes.Visible.{Visible}
use Rattle.syntax_tree.specs.declared.tree.ExprKind.TheOpen as level
use Rattle.scope_laws.specs.Sight.{Sight, Part, expr, function, expr_arm, field, ExprLevel, FieldLevel, declares, shows, behind, expr_parts, field_parts}

-- the function around
abbrev pub around : Sight → ℕ × ℕ
around s = (s.first, s.func)

pub sight_by : (a b : Sight) → a.scope ≡ b.scope → a.declared ≡ b.declared → around a ≡ around b → a ≡ b
sight_by a b p q r = ap₂ (λ x y. record { scope = x; declared = y; first = a.first; func = a.func }) p q ∙ ap (λ z. record {
  scope = b.scope;
  declared = b.declared;
  first = z.0;
  func = z.1;
}) r

abbrev pub all_behind : List Part → Sight → Sight
all_behind [] s = s
all_behind (p ∷ ps) s = all_behind ps (behind p s)

abbrev pub all_declare : List Part → ℕ
all_declare [] = 0
all_declare (p ∷ ps) = declares p + all_declare ps

pub behind_around : (ps : List Part) (s : Sight) → around (all_behind ps s) ≡ around s
behind_around [] s = refl
behind_around (p ∷ ps) s = behind_around ps (behind p s)

pub behind_declared : (ps : List Part) (s : Sight) → (all_behind ps s).declared ≡ s.declared + all_declare ps
behind_declared [] s = omega arith
behind_declared (p ∷ ps) s = omega (arith, behind_declared ps (behind p s))

-- what was visible stays in front
pub behind_scope : (ps : List Part) (s : Sight) (a b : List Visible) → s.scope ≡ a ++ b → take (length a) (all_behind ps s).scope ≡ a
behind_scope [] s a b h = ap (take (length a)) h ∙ take-append_seam a b
behind_scope (p ∷ ps) s a b h = behind_scope ps (behind p s) a (b ++ shows p s.declared) (ap (λ l. l ++ shows p s.declared) h
    ∙ append_assoc a b (shows p s.declared))

-- a shorter list than one that was taken
pub take_again : {A : Type 0} (n : ℕ) (xs a : List A) → take n xs ≡ a → take (length a) xs ≡ a
take_again n xs a h = ap (λ l. take (length l) xs) (sym h) ∙ again n xs ∙ h where
  again : {A : Type 0} (n : ℕ) (xs : List A) → take (length (take n xs)) xs ≡ take n xs
  again zero xs = refl
  again (suc n) [] = refl
  again (suc n) (x ∷ xs) = ap (λ l. x ∷ l) (again n xs)

-- ---- parts that make nothing visible

abbrev pub AreQuiet : List Part → Type 0
AreQuiet ps = (s : Sight) → (all_behind ps s).scope ≡ s.scope

pub quiet_more : (p : Part) (ps : List Part) → ((n : ℕ) → shows p n ≡ []) → AreQuiet ps → AreQuiet (p ∷ ps)
quiet_more p ps h rest s = rest (behind p s) ∙ ap (λ l. s.scope ++ l) (h s.declared) ∙ append-nil s.scope

pub quiet_list : {A : Type 0} (part : A → Part) → ((a : A) (n : ℕ) → shows (part a) n ≡ []) → (xs : List A) (ps : List Part) →
    AreQuiet ps → AreQuiet (map part xs ++ ps)
quiet_list part h [] ps rest = rest
quiet_list part h (x ∷ xs) ps rest = quiet_more (part x) (map part xs ++ ps) (h x) (quiet_list part h xs ps rest)

pub quiet_all : {A : Type 0} (part : A → Part) → ((a : A) (n : ℕ) → shows (part a) n ≡ []) → (xs : List A) → AreQuiet (map part xs)
quiet_all part h [] = λ s. refl
quiet_all part h (x ∷ xs) = quiet_more (part x) (map part xs) (h x) (quiet_all part h xs)

pub quiet_one : (p : Part) → ((n : ℕ) → shows p n ≡ []) → AreQuiet (p ∷ [])
quiet_one p h = quiet_more p [] h (λ s. refl)

pub quiet_expr : (l : ExprLevel) → AreQuiet (expr_parts l)
quiet_expr level.Nil = λ s. refl
quiet_expr level.True = λ s. refl
quiet_expr level.False = λ s. refl
quiet_expr (level.Num v) = λ s. refl
quiet_expr (level.Str x) = λ s. refl
quiet_expr level.Vararg = λ s. refl
quiet_expr (level.Name x) = λ s. refl
quiet_expr (level.Paren e) = quiet_one (expr e) (λ n. refl)
quiet_expr (level.Unary op e) = quiet_one (expr e) (λ n. refl)
quiet_expr (level.Binary op a b) = quiet_more (expr a) (expr b ∷ []) (λ n. refl) (quiet_one (expr b) (λ n. refl))
quiet_expr (level.Concat es) = quiet_all expr (λ a n. refl) es
quiet_expr (level.Index a b) = quiet_more (expr a) (expr b ∷ []) (λ n. refl) (quiet_one (expr b) (λ n. refl))
quiet_expr (level.Member a x) = quiet_one (expr a) (λ n. refl)
quiet_expr (level.ExprKind::Call a es) = quiet_more (expr a) (map expr es) (λ n. refl) (quiet_all expr (λ a n. refl) es)
quiet_expr (level.Method a x es) = quiet_more (expr a) (map expr es) (λ n. refl) (quiet_all expr (λ a n. refl) es)
quiet_expr (level.Table fs) = quiet_all field (λ a n. refl) fs
quiet_expr (level.Function f) = quiet_one (function f) (λ n. refl)
quiet_expr (level.ExprKind::If arms e) = quiet_list expr_arm (λ a n. refl) arms (expr e ∷ []) (quiet_one (expr e) (λ n. refl))
quiet_expr (level.Interp xs es) = quiet_all expr (λ a n. refl) es

pub quiet_field : (l : FieldLevel) → AreQuiet (field_parts l)
quiet_field (level.Item e) = quiet_one (expr e) (λ n. refl)
quiet_field (level.Named x e) = quiet_one (expr e) (λ n. refl)
quiet_field (level.Keyed a b) = quiet_more (expr a) (expr b ∷ []) (λ n. refl) (quiet_one (expr b) (λ n. refl))
