use Rattle.std.proofs.Common.{◌≡◌, ap, sym, ◌∙◌, cond, Bool, Some, None, ◌∷◌, ◌++◌, [], true, false, Ok, Err, OnOk, Result, rules}
use Rattle.indexmap.specs.IndexMap.{set_value_at}
use Rattle.value_model.specs.declared.value.Value.{Value}
use Rattle.value_model.specs.declared.value.Value.TheVariants.{Nil}
use Rattle.indexmap.proofs.MapLemmas.{Found-position, Missing-position}
use Rattle.value_arena.specs.Tables.{TableView, same, is_nil, place_of}
use Rattle.luau_tables.specs.Rules as rule
use Rattle.value_arena.proofs.Places as places
use Rattle.table_lists.proofs.element.put.Goals as goal

in_place : (t : TableView) (key v : Value) (i : _) → place_of key t.entries ≡ Some i → record t { entries = set_value_at t.entries i v } ≡ rule.put t key v
unfolding rule.put
in_place t key v i at =
    ap (λ es. record t { entries = es }) (places.found_written same is_nil Nil key v t.entries i (Found-position (same key) t.entries i at).first)

added : (t : TableView) (key v : Value) (b : Bool) → place_of key t.entries ≡ None → is_nil v ≡ b → record t { entries = cond b t.entries (t.entries ++ (key, v) ∷ []) } ≡ rule.put t key v
unfolding rule.put
added t key v b at e =
    ap (λ es. record t { entries = es })
    (sym (places.absent_written same is_nil Nil key v t.entries (Missing-position (same key) t.entries at).absent ∙ ap (λ b. cond b t.entries (t.entries ++ (key, v) ∷ [])) e))

on_ok : {E : Type 0} (r : Result (Unit {0}) E) (now then wanted : TableView) → OnOk r (now ≡ then) → then ≡ wanted → OnOk r (now ≡ wanted)
on_ok (Ok x) now then wanted h e = h ∙ e
on_ok (Err x) now then wanted h e = h

pub returns-in-Some-clause-ok : goal.returns-in-Some-clause-ok
returns-in-Some-clause-ok c = c.write.ensures ∙ in_place c.args.table.now c.args.key c.args.v c.in-Some.place (sym c.in-Some.ensures.place)

pub returns-then-is_nil-clause-ok : goal.returns-then-is_nil-clause-ok
returns-then-is_nil-clause-ok c =
    let at : place_of c.args.key c.args.table.now.entries ≡ None = search rules in
    let nil : is_nil c.args.v ≡ true = sym c.is_nil.ensures ∙ c.if-is_nil.true in
    added c.args.table.now c.args.key c.args.v true at nil

pub returns-clause-ok : goal.returns-clause-ok
returns-clause-ok c =
    let at : place_of c.args.key c.args.table.now.entries ≡ None = search rules in
    let not_nil : is_nil c.args.v ≡ false = sym c.is_nil.ensures ∙ c.if-is_nil.false in
    on_ok c.push.result c.push.new.self (record c.args.table.now { entries = c.args.table.now.entries ++ (c.args.key, c.args.v) ∷ [] }) (rule.put c.args.table.now c.args.key c.args.v) c.push.ensures.ok (added c.args.table.now c.args.key c.args.v false at not_nil)
