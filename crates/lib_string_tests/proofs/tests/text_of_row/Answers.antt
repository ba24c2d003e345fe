use Rattle.lib_string_tests.proofs.tests.text_of_row.Goals as goal

pub called-requires-clause-args : goal.called-requires-clause-args
called-requires-clause-args g c =
    (c.in_ok-text.ensures.usable, (c.number.ensures c.text.new.world, (c.number-2.ensures c.text.new.world, tt)))
