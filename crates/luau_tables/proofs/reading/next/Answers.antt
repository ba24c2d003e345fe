use Rattle.std.proofs.Common.{◌≡◌, suc, ◌+◌, ap, sym, ◌∙◌, drop, cond, Some, None, position, Bool, true, false, arith}
use Rattle.std.specs.Map.{keys_of}
use Rattle.value_model.specs.declared.value.Value.{Value}
use Rattle.value_model.specs.declared.value.Value.TheVariants.{Nil}
use Rattle.indexmap.proofs.MapLemmas.{Found-position, Missing-position}
use Rattle.value_arena.specs.Tables.{TableView, same, is_nil}
use Rattle.luau_tables.specs.Rules as rule
use Rattle.value_model.specs.Pairs as pairs
use Rattle.value_arena.proofs.Places as places
use Rattle.luau_tables.proofs.reading.next.Goals as goal

-- what follows, by whether the key is nil
follows : (t : TableView) (key : Value) (b : Bool) → is_nil key ≡ b → rule.next t key ≡ cond b (Some (rule.first t.entries)) (pairs.entry_after same is_nil Nil t.entries key)
unfolding rule.next
follows t key b e = ap (λ b. cond b (Some (rule.first t.entries)) (pairs.entry_after same is_nil Nil t.entries key)) e

pub returns-then-is_nil : goal.returns-then-is_nil
returns-then-is_nil c =
    ap (λ t. rule.next t c.args.key) (sym c.table-table.ensures)
    ∙ follows c.table-table.result.now c.args.key true (sym c.is_nil.ensures ∙ c.if-is_nil.true) ∙ ap Some (sym c.first_from.ensures)

pub overflow_add-place : goal.overflow_add-place
overflow_add-place c = omega (arith, c.in-Some.ensures.small)

pub returns-in-Some : goal.returns-in-Some
returns-in-Some c =
    let t = c.table-table.result.now in
    let more : suc c.in-Some.place ≡ c.in-Some.place + 1 = omega arith in
    let at : position (same c.args.key) (keys_of t.entries) ≡ Some c.in-Some.place = sym c.in-Some.ensures.place in
    ap (λ t. rule.next t c.args.key) (sym c.table-table.ensures)
    ∙ follows t c.args.key false (sym c.is_nil.ensures ∙ c.if-is_nil.false)
    ∙ places.found_after same is_nil Nil c.args.key t.entries c.in-Some.place (Found-position (same c.args.key) t.entries c.in-Some.place at).first
    ∙ ap (λ n. Some (rule.first (drop n t.entries))) more ∙ ap Some (sym c.first_from-in-Some.ensures)

pub returns-in-None : goal.returns-in-None
returns-in-None c =
    let t = c.table-table.result.now in
    let at : position (same c.args.key) (keys_of t.entries) ≡ None = sym c.in-None.ensures.place in
    ap (λ t. rule.next t c.args.key) (sym c.table-table.ensures)
    ∙ follows t c.args.key false (sym c.is_nil.ensures ∙ c.if-is_nil.false)
    ∙ places.absent_after same is_nil Nil c.args.key t.entries (Missing-position (same c.args.key) t.entries at).absent
