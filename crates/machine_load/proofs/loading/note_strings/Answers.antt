use Rattle.std.proofs.Common.{refl}
use Rattle.machine_load.proofs.Noted.{bare_after, store_after}
use Rattle.machine_load.proofs.loading.note_strings.Goals as goal

pub returns-clause-bare : goal.returns-clause-bare
returns-clause-bare c =
    bare_after c.args.world.now c.requires c.args.strings.now c.numbers.new.names c.in_ok-found.ensures.adds (c.if-not-are_short.ensures refl) c.count-distinct.ensures.distinct

pub returns-clause-store : goal.returns-clause-store
returns-clause-store c =
    store_after c.args.world.now c.requires c.args.strings.now c.numbers.new.names c.in_ok-found.ensures.adds (c.if-not-are_short.ensures refl) c.count-distinct.ensures.distinct
