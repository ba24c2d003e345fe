use Rattle.std.proofs.Common.{sym, subst, get_or, set}
use Rattle.value_model.specs.Parts.{meant}
use Rattle.value_model.specs.Store.{empty_table}
use Rattle.value_model.specs.Tables as model
use Rattle.value_arena.specs.Arenas.{table_at}
use Rattle.luau_tables.specs.Rules as rule
use Rattle.frozen_libs.specs.Made.{Holds, IsOpen}
use Rattle.frozen_libs.proofs.Holding.{held_put, open_written, put_thawed}
use Rattle.frozen_libs.proofs.making.put.Goals as goal

pub returns-in-Ok-clause-writable : goal.returns-in-Ok-clause-writable
returns-in-Ok-clause-writable c =
    let a = c.args.arena.now in
    subst (λ a. IsOpen a c.args.t) (sym c.in-Ok.ensures.ok)
    (open_written a c.args.t (rule.put (table_at a c.args.t) c.args.key c.args.v) c.requires.writable (put_thawed (table_at a c.args.t) c.args.key c.args.v))

pub returns-in-Ok-clause-made : goal.returns-in-Ok-clause-made
returns-in-Ok-clause-made c texts ts d h k l =
    let p = c.args.t.place in
    subst (λ a. Holds texts a (set ts p (model.put (get_or ts p empty_table) (meant texts c.args.key) (meant texts c.args.v)))) (sym c.in-Ok.ensures.ok)
    (held_put texts c.args.arena.now ts h c.args.t c.requires.writable.owner c.args.key c.args.v d k l)
