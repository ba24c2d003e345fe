use Rattle.std.proofs.Common.{◌∙◌, ◌<◌, ◌∷◌, [], ◌++◌, length, true, false, arith, sym, ap}
use Rattle.table_lists.proofs.Copies.{are_filled}
use Rattle.table_lists.proofs.Wholes.{filled_more, filled_all}
use Rattle.table_lists.proofs.copy.entries.Goals as goal
use Rattle.table_lists.proofs.copy.entries.Goals.{then-not-is_nil+in_ok-push, else-not-is_nil}

pub loop-place-preserved : goal.loop-place-preserved
loop-place-preserved c =
    let es = c.args.table.now.entries in
    let e = c.at-entry.result in
    let l : c.loop-place.place < length es = omega (arith, c.loop-place-test.true, c.len-place-end.ensures.len) in
    elim c.if-not-is_nil.branch [
      | then-not-is_nil+in_ok-push w ↦
          ap (λ v. v.items) w.kept-is
          ∙ w.in_ok-push.ensures.items
          ∙ ap (λ kept. kept ++ e ∷ []) c.loop-place.invariant
          ∙ sym (filled_more es c.loop-place.place e false l c.at-entry.ensures (sym c.is_nil.ensures ∙ w.if-not-is_nil.true))
      | else-not-is_nil w ↦
          ap (λ v. v.items) w.kept-is
          ∙ c.loop-place.invariant
          ∙ sym (filled_more es c.loop-place.place e true l c.at-entry.ensures (sym c.is_nil.ensures ∙ w.if-not-is_nil.false))
    ]

pub returns-clause-entries : goal.returns-clause-entries
returns-clause-entries c =
    c.loop-place.invariant
    ∙ filled_all c.args.table.now.entries c.loop-place.place (omega (arith, c.loop-place-test.false, c.len-place-end.ensures.len))

pub returns-clause-keys : goal.returns-clause-keys
returns-clause-keys c =
    are_filled c.loop-place.kept.items c.args.table.now.entries
    (c.loop-place.invariant
    ∙ filled_all c.args.table.now.entries c.loop-place.place (omega (arith, c.loop-place-test.false, c.len-place-end.ensures.len)))
    c.len-place-end.ensures.keys c.len-place-end.ensures.distinct
