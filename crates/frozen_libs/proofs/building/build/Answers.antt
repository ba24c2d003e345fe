use Rattle.std.proofs.Common.{◌≡◌, ℕ, Result, Ok, ap, subst, arith}
use Rattle.value_model.specs.Fresh.{built, fresh, standard, HostFields, NoField}
use Rattle.value_model.specs.declared.ids.TableId.{TableId}
use Rattle.frozen_libs.specs.Frozen.{Starts}
use Rattle.frozen_libs.specs.HostForm.{host_form}
use Rattle.frozen_libs.specs.Made.{IsBuilt, Holds}
use Rattle.frozen_libs.proofs.Starting.{built_starts, unowned_after}
use Rattle.frozen_libs.proofs.StandardTables.{frozen_is, all_frozen}
use Rattle.frozen_libs.proofs.building.build.Goals as goal

none_given : (given : Result HostFields ℕ) (fields : HostFields) → given ≡ Ok NoField → given ≡ Ok fields → NoField ≡ fields
none_given given fields e f = cc

pub returns-clause-starts : goal.returns-clause-starts
unfolding fresh
returns-clause-starts c fields e =
    let g = c.in_ok-globals.globals in
    let made = c.in_ok-globals.ensures.built in
    let texts = c.standard.new.names in
    let held : Holds texts c.freeze.new.arena (built NoField).tables =
    subst (Holds texts c.freeze.new.arena) (frozen_is g.table.place (ap (λ (t : TableId). t.place) made.table))
    (c.freeze.ensures texts standard.tables made.holds) in
    let all : IsBuilt texts c.freeze.new.arena g (built NoField) =
    record { holds = held; table = made.table; string_meta = made.string_meta; names = made.names; paths = made.paths; hosts = made.hosts } in
    subst (λ fields. Starts texts g c.freeze.new.arena (fresh fields)) (none_given (host_form c.args.names.now c.args._host.now).top fields c.requires.host e)
    (built_starts texts g c.freeze.new.arena (built NoField) all (omega arith) all_frozen c.standard.ensures.texts)

pub returns-clause-unowned : goal.returns-clause-unowned
returns-clause-unowned c =
    let made = c.in_ok-globals.ensures.built in
    unowned_after c.standard.new.names c.freeze.new.arena _ (c.freeze.ensures c.standard.new.names standard.tables made.holds)
