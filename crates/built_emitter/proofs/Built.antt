-- What is not built in a node, by what is not built in its parts.
use Rattle.std.proofs.Common.{◌≡◌, List, map, ap, ℕ, ◌<◌, ◌≤◌, [], ◌∷◌, length, get_or, Bool, true, false, Some, None, refl, arith}
use Rattle.syntax_tree.specs.declared.tree.Stat.{Stat}
use Rattle.syntax_tree.specs.declared.bindings.Bindings.{Bindings}
use Rattle.built_emitter.specs.Unbuilt.{Found, or_else, provided, block, unbuilt_in_stat, first_unbuilt}

-- ---- where nothing is found
pub or_else_none : (f g : Found) → or_else f g ≡ None → (f ≡ None) × (g ≡ None)
or_else_none None g h = (refl, h)
or_else_none (Some at) g h = cc

pub provided_none : (holds : Bool) (at : ℕ) (f : Found) → provided holds at f ≡ None → (holds ≡ true) × (f ≡ None)
provided_none true at f h = (refl, h)
provided_none false at f h = cc

module _ (b : Bindings) where
  -- ---- blocks
  pub block_is : (ss : List Stat) → block (map (unbuilt_in_stat b) ss) ≡ first_unbuilt b ss
  block_is [] = refl
  block_is (s ∷ ss) = ap (or_else (unbuilt_in_stat b s)) (block_is ss)

-- ---- lists of one
pub only : {X : Type 0} → (xs : List X) (x : X) → 1 ≤ length xs → length xs < 2 → x ≡ get_or xs 0 x → xs ≡ x ∷ []
only [] x least most h = absurd (omega arith)
only (y ∷ []) x least most h = cc
only (y ∷ z ∷ xs) x least most h = absurd (omega arith)
