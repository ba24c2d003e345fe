use Rattle.value_model.specs.Parts.{meant_error}
use Rattle.value_model.specs.declared.error.RunErr.TheVariants.{StringTooLarge}
use Rattle.luau_tables.specs.Worlds.{store_in}
use Rattle.lib_string.proofs.FormatAnswers.{too_long}
use Rattle.lib_string.proofs.WholeRows.{error_ends}
use Rattle.lib_string.proofs.format.give_filled.Goals as goal

pub returns-then-bytes-gt-LONGEST_STRING-clause-runs : goal.returns-then-bytes-gt-LONGEST_STRING-clause-runs
unfolding meant_error
returns-then-bytes-gt-LONGEST_STRING-clause-runs c =
    error_ends c.args.world.now c.args.results.now.items StringTooLarge _ tt (too_long (store_in c.args.world.now) c.args.bytes.now c.if-bytes-gt-LONGEST_STRING.true)
