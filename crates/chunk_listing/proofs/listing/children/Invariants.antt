use Rattle.std.proofs.Common.{◌≡◌, ◌++◌, take}
use Rattle.std.specs.String.{string_bytes}
use Rattle.chunk_listing.specs.Listing.{line_text, child_line}
use Rattle.chunk_listing.proofs.Listed.{each}
use Rattle.chunk_listing.proofs.listing.children.Given as goal

abbrev pub invariant-loop-number : goal.invariant-loop-number
invariant-loop-number l =
    string_bytes l.out ≡ string_bytes l.initial.out ++ each (λ n x. line_text (child_line n x)) 0 (take l.number l.children)
