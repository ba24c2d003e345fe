use Rattle.std.proofs.Common.{◌≡◌, ◌++◌, OnOk, codes, sym, ◌∙◌, ap, subst, map}
use Rattle.value_model.specs.Names.{path_among}
use Rattle.value_model.specs.Parts.{bytes_at, table_ref}
use Rattle.value_model.specs.Values.{Shared}
use Rattle.luau_tables.specs.Globals.{globals_of}
use Rattle.luau_tables.proofs.Texts.{global_text, strings_text, path_text}
use Rattle.luau_tables.proofs.plain.shared_into.Goals as goal

pub returns-then-is_shared-clause-ok : goal.returns-then-is_shared-clause-ok
returns-then-is_shared-clause-ok c =
    subst (λ t. OnOk c.append.result (c.append.new.out.items ≡ c.args.out.now.items ++ t))
    (global_text (globals_of c.args.names.now c.args.globals.now) (Shared c.args.place) (sym c.if-is_shared.true ∙ c.is_shared.ensures.there))
    c.append.ensures.ok

pub returns-then-is_shared-2-clause-ok : goal.returns-then-is_shared-2-clause-ok
returns-then-is_shared-2-clause-ok c =
    subst (λ t. OnOk c.append-then-is_shared-2.result (c.append-then-is_shared-2.new.out.items ≡ c.args.out.now.items ++ t))
    (strings_text (globals_of c.args.names.now c.args.globals.now) (Shared c.args.place) (sym c.if-is_shared.false ∙ c.is_shared.ensures.there) (sym c.if-is_shared-2.true ∙ c.is_shared-2.ensures.there))
    c.append-then-is_shared-2.ensures.ok

pub returns-clause-ok : goal.returns-clause-ok
returns-clause-ok c =
    subst (λ t. OnOk c.append_two.result (c.append_two.new.out.items ≡ c.args.out.now.items ++ t))
    (ap (λ p. codes "table: " ++ p) (c.table_path.ensures ∙ ap (λ ps. path_among (map (λ p. (table_ref p.0, bytes_at c.args.names.now p.1.0)) ps) (Shared c.args.place)) c.as_slice.ensures.value) ∙ path_text (globals_of c.args.names.now c.args.globals.now) (Shared c.args.place) (sym c.if-is_shared.false ∙ c.is_shared.ensures.there) (sym c.if-is_shared-2.false ∙ c.is_shared-2.ensures.there))
    c.append_two.ensures.ok
