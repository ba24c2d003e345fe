-- Values that the script may use.
use Rattle.std.proofs.Common.{◌≡◌, List, [], ◌∷◌, ◌++◌, sym, ◌∙◌, ap, subst}
use Rattle.std.specs.List.{AllByRecursion}
use Rattle.luau_tables.specs.Answers.{Answered}
use Rattle.luau_tables.specs.Worlds.{Keeps, MayUseIn}
use Rattle.luau_tables.specs.declared.answer.LibAnswer.{LibAnswer}
use Rattle.luau_tables.specs.declared.globals.LibWorld.{LibWorld}
use Rattle.luau_tables.proofs.WorldsKept.{all_use_on}
use Rattle.value_model.specs.Answers as model
use Rattle.value_model.specs.Waits as wait
use Rattle.value_model.specs.declared.value.Value.{Value}

pub none_used : (w : LibWorld) (vs : List Value) → vs ≡ [] → AllByRecursion (MayUseIn w) vs
none_used w vs e = subst (AllByRecursion (MayUseIn w)) (sym e) tt

all_and : (w : LibWorld) (vs : List Value) (v : Value) → AllByRecursion (MayUseIn w) vs → MayUseIn w v → AllByRecursion (MayUseIn w) (vs ++ v ∷ [])
all_and w [] v h p = (p, tt)
all_and w (x ∷ vs) v h p = (h.0, all_and w vs v h.1 p)

-- one value more, in the world that is left
pub one_more : (before after : LibWorld) (vs more : List Value) (v : Value) → Keeps before after → AllByRecursion (MayUseIn before) vs → MayUseIn after v → more ≡ vs ++ v ∷ [] → AllByRecursion (MayUseIn after) more
one_more before after vs more v kept h p e = subst (AllByRecursion (MayUseIn after)) (sym e) (all_and after vs v (all_use_on before after kept vs h) p)

-- the values that a call gives
pub given_used : (before after : LibWorld) (rs more : List Value) (answer : LibAnswer) (origin : wait.Origin) (row : model.LibAnswer) → rs ≡ [] → Answered before after rs more answer origin row → AllByRecursion (MayUseIn after) more
given_used before after rs more answer origin row e h = subst (AllByRecursion (MayUseIn after)) (sym (h.appended ∙ ap (λ xs. xs ++ h.given) e)) h.values
