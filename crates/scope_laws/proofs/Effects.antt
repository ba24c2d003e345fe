-- What is known after some parts, and what each part adds to the text's locals and to what is visible.
use Rattle.std.proofs.Common.{◌≡◌, ◌∙◌, ℕ, ◌+◌, zero, suc, Bool, true, false, List, [], ◌∷◌, ◌++◌, length, map, refl, sym, ap, arith, append-nil, append_assoc, length-append}
use Rattle.byte_text.specs.declared.fixed.StrId.{StrId}
use Rattle.syntax_tree.specs.declared.bindings.LocalInfo.{LocalInfo}
use Rattle.syntax_tree.specs.declared.notes.Visible.{Visible}
use Rattle.syntax_tree.specs.declared.tree.Expr.{Expr}
use Rattle.syntax_tree.specs.declared.tree.Stat.{Stat}
use Rattle.syntax_tree.specs.Names.{Known, names_expr, names_stat, names_func, names_arm, names_expr_arm, names_field, closed, local, locals, visible, all_visible}
use Rattle.syntax_tree.specs.Names as names
use Rattle.scope_laws.specs.Sight.{Sight, Part, expr, stat, function, arm, expr_arm, field, block}
use Rattle.scope_laws.specs.Sight as sight
use Rattle.scope_laws.proofs.Behind.{around}

-- what is seen where this is known
abbrev pub sight_of : Known → Sight
sight_of k = record { scope = k.scope; declared = length k.locals; first = k.first; func = k.func }

-- the function around
abbrev pub around_known : Known → ℕ × ℕ
around_known k = around (sight_of k)

-- these names become visible
abbrev pub shown : List Visible → Known → Known
shown [] k = k
shown (v ∷ vs) k = record k { scope = k.scope ++ v ∷ vs }

-- what is known after a part, which may be the target of an assignment
abbrev pub names_part : Part → Bool → Known → Known
names_part (expr e) target k = names_expr e target k
names_part (stat x) target k = names_stat x k
names_part (function f) target k = names_func f k
names_part (arm a) target k = names_arm a k
names_part (expr_arm a) target k = names_expr_arm a k
names_part (field f) target k = names_field f k
names_part (block vs body) target k = closed (λ k. names.block (map names_stat body) (shown vs k)) k

abbrev pub is_target : ℕ → Bool
is_target zero = false
is_target (suc n) = true

abbrev pub less : ℕ → ℕ
less zero = zero
less (suc n) = n

-- what is known after some parts, of which so many are targets
abbrev pub names_parts : List Part → ℕ → Known → Known
names_parts [] targets k = k
names_parts (p ∷ ps) targets k = names_parts ps (less targets) (names_part p (is_target targets) k)

-- ---- lists

pub parts_join : (ps qs : List Part) (k : Known) → names_parts (ps ++ qs) 0 k ≡ names_parts qs 0 (names_parts ps 0 k)
parts_join [] qs k = refl
parts_join (p ∷ ps) qs k = parts_join ps qs (names_part p false k)

pub exprs_known : (es : List Expr) (k : Known) → names.all false (map names_expr es) k ≡ names_parts (map expr es) 0 k
exprs_known [] k = refl
exprs_known (e ∷ es) k = exprs_known es (names_expr e false k)

pub targets_known : (es : List Expr) (ps : List Part) (k : Known) → names_parts (map expr es ++ ps) (length es) k ≡ names_parts ps 0
    (names.all true (map names_expr es) k)
targets_known [] ps k = refl
targets_known (e ∷ es) ps k = targets_known es ps (names_expr e true k)

-- parts that are no expressions
pub list_known : {A : Type 0} (part : A → Part) (f : A → Known → Known) → ((a : A) (k : Known) → names_part (part a) false k ≡ f a k) →
    (xs : List A) (k : Known) → names.block (map f xs) k ≡ names_parts (map part xs) 0 k
list_known part f h [] k = refl
list_known part f h (x ∷ xs) k = list_known part f h xs (f x k) ∙ ap (names_parts (map part xs) 0) (sym (h x k))

pub stats_known : (body : List Stat) (k : Known) → names.block (map names_stat body) k ≡ names_parts (map stat body) 0 k
stats_known body k = list_known stat names_stat (λ a k. refl) body k

-- ---- declaring

-- new locals of the function around
abbrev pub infos : ℕ → List StrId → List LocalInfo
infos func [] = []
infos func (name ∷ names) = record { name = name; func = func; captured = false; assigned = false } ∷ infos func names

infos_length : (func : ℕ) (xs : List StrId) → length (infos func xs) ≡ length xs
infos_length func [] = refl
infos_length func (x ∷ xs) = omega (arith, infos_length func xs)

locals_known : (xs : List StrId) (k : Known) → locals xs k ≡ record k { locals = k.locals ++ infos k.func xs }
locals_known [] k = ap (λ l. record k { locals = l }) (sym (append-nil k.locals))
locals_known (x ∷ xs) k = locals_known xs (local x k) ∙ ap (λ l. record k { locals = l }) (append_assoc k.locals (record {
  name =
      x;
  func = k.func;
  captured = false;
  assigned = false;
} ∷ []) (infos k.func xs))

pub locals_count : (xs : List StrId) (k : Known) → length (locals xs k).locals ≡ length k.locals + length xs
locals_count xs k = ap (λ (t : Known). length t.locals) (locals_known xs k) ∙ length-append k.locals (infos k.func xs)
    ∙ omega (arith, infos_length k.func xs)

pub locals_new : (xs : List StrId) (k : Known) → (locals xs k).locals ≡ k.locals ++ infos k.func xs
locals_new xs k = ap (λ (t : Known). t.locals) (locals_known xs k)

pub locals_notes : (xs : List StrId) (k : Known) → (locals xs k).notes ≡ k.notes
locals_notes xs k = ap (λ (t : Known). t.notes) (locals_known xs k)

pub locals_faults : (xs : List StrId) (k : Known) → (locals xs k).faults ≡ k.faults
locals_faults xs k = ap (λ (t : Known). t.faults) (locals_known xs k)

pub locals_leaps : (xs : List StrId) (k : Known) → (locals xs k).leaps ≡ k.leaps
locals_leaps xs k = ap (λ (t : Known). t.leaps) (locals_known xs k)

pub locals_scope : (xs : List StrId) (k : Known) → (locals xs k).scope ≡ k.scope
locals_scope xs k = ap (λ (t : Known). t.scope) (locals_known xs k)

pub locals_around : (xs : List StrId) (k : Known) → around_known (locals xs k) ≡ around_known k
locals_around xs k = ap around_known (locals_known xs k)

pub visible_known : (n : ℕ) (xs : List StrId) (k : Known) → all_visible n xs k ≡ record k { scope = k.scope ++ sight.visible n xs }
visible_known n [] k = ap (λ l. record k { scope = l }) (sym (append-nil k.scope))
visible_known n (x ∷ xs) k = visible_known (n + 1) xs (visible n x k) ∙ ap (λ l. record k {
  scope =
      l;
}) (append_assoc k.scope (record { name = x; local = n } ∷ []) (sight.visible (n + 1) xs))

pub shown_known : (vs : List Visible) (k : Known) → shown vs k ≡ record k { scope = k.scope ++ vs }
shown_known [] k = ap (λ l. record k { scope = l }) (sym (append-nil k.scope))
shown_known (v ∷ vs) k = refl

pub visible_shown : (n : ℕ) (xs : List StrId) (k : Known) → all_visible n xs k ≡ shown (sight.visible n xs) k
visible_shown n xs k = visible_known n xs k ∙ sym (shown_known (sight.visible n xs) k)
