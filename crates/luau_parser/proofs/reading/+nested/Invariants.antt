use Rattle.luau_parser.proofs.reading.+nested.Given as goal

abbrev pub decreases-nested : goal.decreases-nested
decreases-nested l = l.room
