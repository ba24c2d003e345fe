-- The code of each function names few constants and children, and the function captures few variables.
use Rattle.std.proofs.Common.{ℕ, ◌<◌, ◌≤◌, ◌^◌, List, [], ◌∷◌, ◌++◌, length, arith}
use Rattle.syntax_tree.specs.declared.bindings.Bindings.{Bindings}
use Rattle.emit_expr.specs.declared.draft.Prototype.{Prototype}
use Rattle.emit_expr.specs.Names.{upvalues_at}
use Rattle.link_laws.specs.Laws.{AreLinkable}
use Rattle.shape_laws.specs.Shaped.{AreShaped}

-- there are so few that fields of 15 bits, and of 8, tell each of them
pub record HasFew (b : Bindings) (p : Prototype) : Type 0 where
  pub constants : length p.constants < 2 ^ 15
  pub children : length p.children < 2 ^ 15
  pub upvalues : length (upvalues_at b p.func) ≤ 200

abbrev pub HaveFew : Bindings → List Prototype → Type 0
HaveFew b [] = Unit {0}
HaveFew b (p ∷ ps) = HasFew b p × HaveFew b ps

-- no more than words, of which there are few
pub have_few : (b : Bindings) (strings : ℕ) (before ps : List Prototype) → AreLinkable ps → AreShaped b strings before ps
    → ((func : ℕ) → length (upvalues_at b func) ≤ 200) → HaveFew b ps
have_few b strings before [] links shapes captured = tt
have_few b strings before (p ∷ ps) links shapes captured =
    let words = links.0.short in
    let constants = shapes.0.constants_few in
    let children = shapes.0.children_few in (
      record {
        constants = omega (arith, words, constants);
        children = omega (arith, words, children);
        upvalues = captured p.func;
      },
      have_few b strings (before ++ p ∷ []) ps links.1 shapes.1 captured,
    )
