use Rattle.std.proofs.Common.{◌≡◌, drop, map}
use Rattle.value_model.specs.Names.{path_among}
use Rattle.value_model.specs.Parts.{bytes_at, table_ref}
use Rattle.value_model.specs.Values.{Shared}
use Rattle.luau_tables.proofs.plain.table_path.Given as goal

abbrev pub invariant-loop-path : goal.invariant-loop-path
invariant-loop-path l =
    path_among (map (λ p. (table_ref p.0, bytes_at l.fn.names p.1.0)) l.fn.paths) (Shared l.fn.place)
    ≡ path_among (map (λ p. (table_ref p.0, bytes_at l.fn.names p.1.0)) (drop l.path-index l.fn.paths)) (Shared l.fn.place)
