-- The listing of the empty script's chunk, and a string in quotes.
use Rattle.std.proofs.Common.{◌≡◌, refl, [], ◌∷◌, true, codes}
use Rattle.std.specs.Fmt.{digits}
use Rattle.op_words.specs.Chunks.{ChunkOf}
use Rattle.op_words.specs.Decoding.{insn_of, named}
use Rattle.op_words.specs.Names.{name_of, fields_of, operand}
use Rattle.chunk_listing.specs.Listing.{listing, instructions, quoted}

abbrev empty_script : ChunkOf
empty_script =
    record {
      strings = [];
      protos =
          record { registers = 1; params = 0; upvalues = 0; vararg = true; code = 63 ∷ 65557 ∷ []; consts = []; children = [] }
          ∷ [];
      main = 0;
    }

listed : listing empty_script ≡ codes "proto 0 1 0 0 1\n0 PREPVARARGS 0\n1 RETURN 0 1\nmain 0\n"
unfolding listing instructions insn_of named name_of fields_of operand digits
listed = refl

in_quotes : quoted (codes "a \"\\\n~") ≡ codes "\"a \\22\\5c\\0a~\""
in_quotes = refl
