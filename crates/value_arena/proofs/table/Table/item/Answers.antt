use Rattle.std.proofs.Common.{◌≡◌, sym, ◌∙◌, ap, rules}
use Rattle.value_model.specs.declared.value.Value.TheVariants.{Num}
use Rattle.value_arena.specs.Tables as spec
use Rattle.value_arena.proofs.Keys.{none_out_of_range}
use Rattle.value_arena.proofs.table.Table.item.Goals as goal

pub returns-in-Some-clause-value : goal.returns-in-Some-clause-value
returns-in-Some-clause-value c =
    let same : c.in-Some.number ≡ c.args.number = search rules in
    c.value.ensures ∙ ap (λ (t : spec.TableView). spec.value_in t.entries (Num c.in-Some.number)) c.self.view_is ∙ ap (λ z. spec.value_in c.args.self.now.entries (Num z)) same

pub returns-in-None-clause-value : goal.returns-in-None-clause-value
returns-in-None-clause-value c =
    let out : spec.IsKey (Num c.args.number) → ⊥ = search rules in
    none_out_of_range c.self.inside.entries.entries c.args.number c.self.invariant.2 out ∙ ap (λ (t : spec.TableView). spec.value_in t.entries (Num c.args.number)) c.self.view_is
