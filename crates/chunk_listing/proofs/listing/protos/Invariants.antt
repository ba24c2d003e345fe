use Rattle.std.proofs.Common.{◌≡◌, ◌++◌, take}
use Rattle.std.specs.String.{string_bytes}
use Rattle.op_words.specs.Chunks.{proto_of}
use Rattle.chunk_listing.specs.Listing.{text_of, proto_lines}
use Rattle.chunk_listing.proofs.Listed.{each}
use Rattle.chunk_listing.proofs.listing.protos.Given as goal

abbrev pub invariant-loop-number : goal.invariant-loop-number
invariant-loop-number l =
    string_bytes l.out ≡ string_bytes l.initial.out ++ each (λ n p. text_of (proto_lines l.strings n (proto_of p))) 0 (take l.number l.protos)
