-- Values that the script may use.
use Rattle.std.proofs.Common.{◌≡◌, Bool, true, false, List, [], ◌∷◌, ◌++◌, Some, sym, ◌∙◌, ap, subst}
use Rattle.std.proofs.lemmas.Option.{slice_get_within}
use Rattle.std.specs.List.{AllByRecursion}
use Rattle.std.specs.Prelude.{codes}
use Rattle.luau_tables.specs.Answers.{Answered}
use Rattle.luau_tables.specs.Rules as rule
use Rattle.luau_tables.specs.Worlds.{IsWorld, Keeps, MayUseIn}
use Rattle.luau_tables.specs.declared.answer.LibAnswer.{LibAnswer}
use Rattle.luau_tables.specs.declared.globals.LibWorld.{LibWorld}
use Rattle.luau_tables.proofs.WorldsKept.{all_use_on, keeps_self, meta_keeps, put_keeps}
use Rattle.value_model.specs.Answers as model
use Rattle.value_model.specs.Waits as wait
use Rattle.value_model.specs.declared.ids.TableId.{TableId}
use Rattle.value_model.specs.declared.value.Value.{Value}
use Rattle.value_model.specs.declared.value.Value.TheVariants as value
use Rattle.value_arena.specs.Arenas.{ArenaView, table_at, with_table}

pub none_used : (w : LibWorld) (vs : List Value) → vs ≡ [] → AllByRecursion (MayUseIn w) vs
none_used w vs e = subst (AllByRecursion (MayUseIn w)) (sym e) tt

all_and : (w : LibWorld) (vs : List Value) (v : Value) → AllByRecursion (MayUseIn w) vs → MayUseIn w v → AllByRecursion (MayUseIn w) (vs ++ v ∷ [])
all_and w [] v h p = (p, tt)
all_and w (x ∷ vs) v h p = (h.0, all_and w vs v h.1 p)

-- one value more, in the world that is left
pub one_more : (before after : LibWorld) (vs more : List Value) (v : Value) → Keeps before after → AllByRecursion (MayUseIn before) vs → MayUseIn after v →
    more ≡ vs ++ v ∷ [] → AllByRecursion (MayUseIn after) more
one_more before after vs more v kept h p e = subst (AllByRecursion (MayUseIn after)) (sym e) (all_and after vs v (all_use_on before after kept vs h) p)

-- the values that a call gives
pub given_used : (before after : LibWorld) (rs more : List Value) (answer : LibAnswer) (origin : wait.Origin) (row : model.LibAnswer) → rs ≡ [] →
    Answered before after rs more answer origin row → AllByRecursion (MayUseIn after) more
given_used before after rs more answer origin row e h = subst (AllByRecursion (MayUseIn after)) (sym (h.appended ∙ ap (λ xs. xs ++ h.given) e)) h.values

-- ---- a table whose metatable is protected

module _ (w : LibWorld) (world : IsWorld w) (t : TableId) (a : ArenaView) (may : MayUseIn w (value.Table t)) where
  pub named_keeps : (table_at w.arena t).is_frozen ≡ false → a ≡ with_table w.arena t
      (rule.put (table_at w.arena t) (value.Str w.globals.meta.metatable) (value.Bool true)) → Keeps w (record w { arena = a })
  named_keeps thawed is =
      subst (λ (a : ArenaView). Keeps w (record w { arena = a })) (sym is)
      (put_keeps w world t (value.Str w.globals.meta.metatable) (value.Bool true) may thawed
      (tt, slice_get_within w.names w.globals.meta.metatable.0 (codes "__metatable") world.own.globals.names.metatable) (tt, tt))

  pub meta_set_keeps : (m : TableId) → MayUseIn w (value.Table m) → (table_at w.arena t).is_frozen ≡ false →
      a ≡ with_table w.arena t (record (table_at w.arena t) { meta = Some m }) → Keeps w (record w { arena = a })
  meta_set_keeps m used thawed is = subst (λ (a : ArenaView). Keeps w (record w { arena = a })) (sym is) (meta_keeps w world t (Some m) may thawed used)

  pub same_keeps : a ≡ w.arena → Keeps w (record w { arena = a })
  same_keeps is = subst (λ (a : ArenaView). Keeps w (record w { arena = a })) (sym is) (keeps_self w world)
