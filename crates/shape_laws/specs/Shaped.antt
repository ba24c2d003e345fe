-- Functions of a shape: what they name is there, and their instructions stand in order.
use Rattle.std.specs.Prelude.{◌≡◌, ◌<◌, ◌≤◌, ◌^◌, ℕ, List, [], ◌∷◌, ◌++◌, length, Some, slice_get}
use Rattle.op_words.specs.declared.insn.Insn.TheVariants.{Return}
use Rattle.code_link.specs.declared.item.Item.{Item}
use Rattle.code_link.specs.declared.item.Item.TheVariants.{Insn}
use Rattle.code_link.specs.Labels.{word_count}
use Rattle.syntax_tree.specs.declared.bindings.Bindings.{Bindings}
use Rattle.emit_expr.specs.declared.draft.Prototype.{Prototype}
use Rattle.emit_expr.specs.Names.{upvalues_at}
use Rattle.shape_laws.specs.Order.{Nothing, walk}
use Rattle.shape_laws.specs.Jumps.{Jumps}
use Rattle.shape_laws.specs.Named.{Body, AreConstants}

-- a child: one of the functions before, which captures so many variables
pub record IsChild (b : Bindings) (before : List Prototype) (number count : ℕ) : Type 0 where
  pub below : number < length before
  pub proto : Prototype
  -- where functions are few enough to have numbers
  pub at : length before ≤ 2 ^ 32 → slice_get before number ≡ Some proto
  pub captures : count ≡ length (upvalues_at b proto.func)

abbrev pub AreChildren : Bindings → (before : List Prototype) → (children counts : List ℕ) → Type 0
AreChildren b before [] [] = Unit {0}
AreChildren b before (c ∷ cs) (n ∷ ns) = IsChild b before c n × AreChildren b before cs ns
AreChildren b before [] (n ∷ ns) = ⊥
AreChildren b before (c ∷ cs) [] = ⊥

-- A function, in a chunk of so many strings, behind these functions. Constants and children that are named are there where they are
-- few enough to have numbers; they are no more than the words of the code.
pub record IsShaped (b : Bindings) (strings : ℕ) (before : List Prototype) (p : Prototype) : Type 0 where
  -- how many variables each child captures
  pub counts : List ℕ
  pub order : length p.children < 2 ^ 15 → walk counts Nothing p.items ≡ Some Nothing
  pub body : length p.constants < 2 ^ 15 → Body p.vararg p.params p.constants p.items
  pub constants_few : length p.constants ≤ word_count p.items
  pub children_few : length p.children ≤ word_count p.items
  pub jumps : Jumps [] [] p.items
  pub constants : AreConstants strings p.constants
  pub children : AreChildren b before p.children counts
  -- it returns at its end
  pub front : List Item
  pub ends : p.items ≡ front ++ Insn (Return 0 1) ∷ []

abbrev pub AreShaped : Bindings → (strings : ℕ) → (before : List Prototype) → List Prototype → Type 0
AreShaped b strings before [] = Unit {0}
AreShaped b strings before (p ∷ ps) = IsShaped b strings before p × AreShaped b strings (before ++ p ∷ []) ps
