use Rattle.std.proofs.Common.{◌≡◌, sym}
use Rattle.std.specs.List.{AllByRecursion}
use Rattle.op_words.specs.Decoding.{table, named}
use Rattle.op_words.proofs.Rows.{looked_up-none}
use Rattle.op_words.proofs.decoding.Parts.named.Goals as goal

pub returns-in_default : goal.returns-in_default
unfolding named
returns-in_default c =
    let others : AllByRecursion (λ r. c.args.self.now.opcode ≡ r.0 → ⊥) table = assumption c.in_default in
    sym (looked_up-none table c.args.self.now others)
