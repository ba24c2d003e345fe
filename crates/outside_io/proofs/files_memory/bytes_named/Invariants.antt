use Rattle.std.proofs.Common.{◌≡◌, map, drop}
use Rattle.outside_io.specs.MemFiles.{bytes_named, file_of}
use Rattle.outside_io.proofs.files_memory.bytes_named.Given as goal

abbrev pub invariant-loop-known : goal.invariant-loop-known
invariant-loop-known l = bytes_named (map file_of l.files) l.name ≡ bytes_named (map file_of (drop l.known-index l.files)) l.name
