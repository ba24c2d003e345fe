use Rattle.std.proofs.Common.{◌≡◌, ◌-◌, ◌++◌, length, take, replicate, vec_len, sym, ◌∙◌, ap}
use Rattle.value_model.specs.declared.value.Value.TheVariants.{Nil}
use Rattle.machine_flow.proofs.Gathered.{as_many_all, as_many_less}
use Rattle.machine_flow.proofs.lists.adjust.Goals as goal

pub returns-in_ok-resize : goal.returns-in_ok-resize
returns-in_ok-resize c =
    let vs = c.args.values.now.items in
    let n = c.from.result in
    let many : vec_len c.args.values.now ≡ length vs = sym c.as_slice-held.ensures.len ∙ ap length c.as_slice-held.ensures.value in
    c.in_ok-resize.ensures.items
    ∙ ap (λ k. take n vs ++ replicate (n - k) Nil) many
    ∙ ap (λ n. take n vs ++ replicate (n - length vs) Nil) c.from.ensures
    ∙ sym (as_many_less c.args.count vs c.if-count-gt0.true)

pub returns-else-count-gt0 : goal.returns-else-count-gt0
returns-else-count-gt0 c = as_many_all c.args.count c.args.values.now.items c.if-count-gt0.false
