use Rattle.std.proofs.Common.{◌≡◌, ◌++◌, OnOk, sym, subst}
use Rattle.value_model.specs.Names.{text_of, name_of, table_name}
use Rattle.value_model.specs.Parts.{meant, by_owner}
use Rattle.luau_tables.specs.Globals.{globals_of, plain_text}
use Rattle.luau_tables.proofs.plain.table_into.Goals as goal

pub returns-in-Frozen-clause-ok : goal.returns-in-Frozen-clause-ok
unfolding plain_text name_of meant
returns-in-Frozen-clause-ok c =
    subst (λ w. OnOk c.shared_into.result (c.shared_into.new.out.items ≡ c.args.out.now.items ++ text_of (table_name (globals_of c.args.names.now c.args.globals.now) (by_owner w c.args.id.place))))
    (sym c.in-Frozen.is) c.shared_into.ensures.ok

pub returns-in-Script-clause-ok : goal.returns-in-Script-clause-ok
unfolding plain_text name_of meant
returns-in-Script-clause-ok c =
    subst (λ w. OnOk c.own_into.result (c.own_into.new.out.items ≡ c.args.out.now.items ++ text_of (table_name (globals_of c.args.names.now c.args.globals.now) (by_owner w c.args.id.place))))
    (sym c.in-Script.is) c.own_into.ensures.ok
