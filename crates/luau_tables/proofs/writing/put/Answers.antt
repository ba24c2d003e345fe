use Rattle.std.proofs.Common.{◌≡◌, refl, ap, sym, ◌∙◌, cond, Some, None, ◌∷◌, ◌++◌, [], Bool, true, false, rules}
use Rattle.indexmap.specs.IndexMap.{set_value_at}
use Rattle.value_model.specs.declared.value.Value.{Value}
use Rattle.value_model.specs.declared.value.Value.TheVariants.{Nil}
use Rattle.indexmap.proofs.MapLemmas.{Found-position, Missing-position}
use Rattle.value_arena.specs.Tables.{TableView, same, is_nil, place_of}
use Rattle.luau_tables.specs.Rules as rule
use Rattle.value_arena.proofs.Places as places
use Rattle.luau_tables.proofs.writing.put.Goals as goal

in_place : (t : TableView) (key v : Value) (i : _) → place_of key t.entries ≡ Some i → record t { entries = set_value_at t.entries i v } ≡ rule.put t key v
unfolding rule.put
in_place t key v i at =
    ap (λ es. record t { entries = es }) (places.found_written same is_nil Nil key v t.entries i (Found-position (same key) t.entries i at).first)

added : (t : TableView) (key v : Value) (b : Bool) → place_of key t.entries ≡ None → is_nil v ≡ b → record t { entries = cond b t.entries (t.entries ++ (key, v) ∷ []) } ≡ rule.put t key v
unfolding rule.put
added t key v b at e =
    ap (λ es. record t { entries = es })
    (sym (places.absent_written same is_nil Nil key v t.entries (Missing-position (same key) t.entries at).absent ∙ ap (λ b. cond b t.entries (t.entries ++ (key, v) ∷ [])) e))

pub returns-in-Some-clause-ok : goal.returns-in-Some-clause-ok
returns-in-Some-clause-ok c = c.write.ensures ∙ in_place c.args.table.now c.args.key c.args.v c.in-Some.place (sym c.in-Some.ensures.place)

pub returns-then-is_nil-clause-ok : goal.returns-then-is_nil-clause-ok
returns-then-is_nil-clause-ok c =
    let at : place_of c.args.key c.args.table.now.entries ≡ None = search rules in
    let nil : is_nil c.args.v ≡ true = sym c.is_nil.ensures ∙ c.if-is_nil.true in
    added c.args.table.now c.args.key c.args.v true at nil

pub returns-in-Ok-clause-ok : goal.returns-in-Ok-clause-ok
returns-in-Ok-clause-ok c =
    let at : place_of c.args.key c.args.table.now.entries ≡ None = search rules in
    let not_nil : is_nil c.args.v ≡ false = sym c.is_nil.ensures ∙ c.if-is_nil.false in
    c.in-Ok.ensures.ok ∙ added c.args.table.now c.args.key c.args.v false at not_nil

pub returns-in-Err-clause-memory : goal.returns-in-Err-clause-memory
returns-in-Err-clause-memory c =
    let at : place_of c.args.key c.args.table.now.entries ≡ None = search rules in
    let not_nil : is_nil c.args.v ≡ false = sym c.is_nil.ensures ∙ c.if-is_nil.false in
    (refl, at, not_nil)
