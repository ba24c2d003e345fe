use Rattle.std.proofs.Common.{◌≡◌, ◌≤◌, length, Some, slice_get, ap, sym, ◌∙◌, subst}
use Rattle.indexmap.specs.Layout.{length-set_value_at}
use Rattle.value_arena.specs.Tables as spec
use Rattle.value_arena.specs.Borders.{IsBorderBut}
use Rattle.value_arena.proofs.Written.{replaced}
use Rattle.value_arena.proofs.Borders.{put, value_put, border_put}
use Rattle.value_arena.proofs.Keys.{keys_written}
use Rattle.value_arena.proofs.table.Table.write.Goals as goal

pub border_after-self-inside-requires-clause-few : goal.border_after-self-inside-requires-clause-few
border_after-self-inside-requires-clause-few c =
    subst (λ n. n ≤ spec.most_entries) (sym (ap length c.write.ensures.written ∙ length-set_value_at c.self.inside.entries.entries c.args.place c.args.value)) c.self.invariant.1

pub border_after-self-inside-requires-clause-before : goal.border_after-self-inside-requires-clause-before
border_after-self-inside-requires-clause-before c =
    let es = c.self.inside.entries.entries in
    let key = c.at.result.0 in
    let at : slice_get es c.args.place ≡ Some (key, c.at.result.1) = ap (λ (t : spec.TableView). slice_get t.entries c.args.place) c.self.view_is ∙ c.at.ensures in
    let now : c.write.new.entries.entries ≡ put es key c.args.value = c.write.ensures.written ∙ replaced es key c.at.result.1 c.args.value c.args.place c.write.ensures.distinct at in
    subst (λ es. IsBorderBut es key c.self.inside.border) (sym now)
    (subst (IsBorderBut (put es key c.args.value) key) (sym c.self.invariant.0) (border_put es key c.args.value))

pub border_after-self-inside-requires-clause-written : goal.border_after-self-inside-requires-clause-written
border_after-self-inside-requires-clause-written c =
    let es = c.self.inside.entries.entries in
    let key = c.at.result.0 in
    let at : slice_get es c.args.place ≡ Some (key, c.at.result.1) = ap (λ (t : spec.TableView). slice_get t.entries c.args.place) c.self.view_is ∙ c.at.ensures in
    let now : c.write.new.entries.entries ≡ put es key c.args.value = c.write.ensures.written ∙ replaced es key c.at.result.1 c.args.value c.args.place c.write.ensures.distinct at in
    ap (λ es. spec.value_in es key) now ∙ value_put es key c.args.value

pub invariant_of-self : goal.invariant_of-self
invariant_of-self c = (
  c.border_after-self-inside.ensures,
  subst (λ n. n ≤ spec.most_entries) (sym (ap length c.write.ensures.written ∙ length-set_value_at c.self.inside.entries.entries c.args.place c.args.value)) c.self.invariant.1,
  subst spec.HasKeys (sym c.write.ensures.written) (keys_written c.self.inside.entries.entries c.args.place c.args.value c.self.invariant.2),
)
