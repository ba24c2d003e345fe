-- Whether a chunk can be spelled, as a test: whether each count fits, and each length of a string.
use Rattle.std.specs.Prelude.{Bool, ◌&&◌, nat_lt, List, length}
use Rattle.std.specs.List.{list_all}
use Rattle.op_words.specs.Chunks.{ChunkOf, ProtoOf}
use Rattle.chunk_file.specs.Spelling.{most_number}

abbrev pub is_count : {A : Type 0} → List A → Bool
is_count xs = nat_lt (length xs) most_number

abbrev pub has_counts_in : ProtoOf → Bool
has_counts_in p = is_count p.code && (is_count p.consts && is_count p.children)

abbrev pub has_counts : ChunkOf → Bool
has_counts c =
    is_count c.strings && (list_all (λ s. is_count s) c.strings && (is_count c.protos && list_all has_counts_in c.protos))
