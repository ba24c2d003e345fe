use Rattle.std.proofs.Common.{◌≡◌, ◌≤◌, length, length-append, arith, ◌++◌, ◌∷◌, [], ap, sym, ◌∙◌, subst}
use Rattle.value_arena.specs.Tables as spec
use Rattle.value_arena.specs.Borders.{IsBorderBut}
use Rattle.value_arena.proofs.Written.{inserted, pushed}
use Rattle.value_arena.proofs.Borders.{put, value_put, border_put}
use Rattle.value_arena.proofs.Keys.{key_behind}
use Rattle.value_arena.proofs.table.Table.push.Goals as goal

pub border_after-self-inside-requires-clause-before : goal.border_after-self-inside-requires-clause-before
border_after-self-inside-requires-clause-before c =
    let es = c.self.inside.entries.entries in
    let was : spec.place_of c.args.key es ≡ spec.place_of c.args.key c.args.self.now.entries = ap (λ (t : spec.TableView). spec.place_of c.args.key t.entries) c.self.view_is in
    let now : c.insert.new.self.entries ≡ put es c.args.key c.args.value = c.in_ok-insert.ensures.entries ∙ pushed es c.args.key c.args.value (was ∙ c.requires.new) c.requires.value in
    subst (λ es. IsBorderBut es c.args.key c.self.inside.border) (sym now)
    (subst (IsBorderBut (put es c.args.key c.args.value) c.args.key) (sym c.self.invariant.0) (border_put es c.args.key c.args.value))

pub border_after-self-inside-requires-clause-written : goal.border_after-self-inside-requires-clause-written
border_after-self-inside-requires-clause-written c =
    let es = c.self.inside.entries.entries in
    let was : spec.place_of c.args.key es ≡ spec.place_of c.args.key c.args.self.now.entries = ap (λ (t : spec.TableView). spec.place_of c.args.key t.entries) c.self.view_is in
    let now : c.insert.new.self.entries ≡ put es c.args.key c.args.value = c.in_ok-insert.ensures.entries ∙ pushed es c.args.key c.args.value (was ∙ c.requires.new) c.requires.value in
    ap (λ es. spec.value_in es c.args.key) now ∙ value_put es c.args.key c.args.value

pub returns-clause-ok : goal.returns-clause-ok
returns-clause-ok c =
    let es = c.self.inside.entries.entries in
    let was : spec.place_of c.args.key es ≡ spec.place_of c.args.key c.args.self.now.entries = ap (λ (t : spec.TableView). spec.place_of c.args.key t.entries) c.self.view_is in
    ap (λ es. record { entries = es; meta = c.self.inside.meta; is_frozen = c.self.inside.is_frozen; is_marked = c.self.inside.is_marked })
    (c.in_ok-insert.ensures.entries ∙ inserted es c.args.key c.args.value (was ∙ c.requires.new))
    ∙ ap (λ (t : spec.TableView). record t { entries = t.entries ++ (c.args.key, c.args.value) ∷ [] }) c.self.view_is

pub invariant_of-self-2 : goal.invariant_of-self-2
invariant_of-self-2 c =
    let es = c.self.inside.entries.entries in
    let was : spec.place_of c.args.key es ≡ spec.place_of c.args.key c.args.self.now.entries = ap (λ (t : spec.TableView). spec.place_of c.args.key t.entries) c.self.view_is in
    let now : c.insert.new.self.entries ≡ es ++ (c.args.key, c.args.value) ∷ [] = c.in_ok-insert.ensures.entries ∙ inserted es c.args.key c.args.value (was ∙ c.requires.new) in
    let few : length c.insert.new.self.entries ≤ spec.most_entries = omega (arith, ap length now, length-append es ((c.args.key, c.args.value) ∷ [])) in
    (c.border_after-self-inside.ensures, few, subst spec.HasKeys (sym now) (key_behind es c.args.key c.args.value c.self.invariant.2 c.key_in_range.ensures))
