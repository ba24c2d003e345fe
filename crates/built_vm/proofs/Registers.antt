-- The registers that an array stands for.
use Rattle.std.proofs.Common.{◌≡◌, ℕ, replicate, ⊎_elim}
use Rattle.std.specs.Prelude.{slice_index_or}
use Rattle.std.proofs.lemmas.List.{get_or-replicate, get_or_past}
use Rattle.std.proofs.lemmas.Bool.{cases_lt}
use mathlib.Core.Path.{fun_ext}
use Rattle.built_values.specs.declared.value.Value.TheVariants.{Nil}
use Rattle.built_machine.specs.States.{start}
use Rattle.built_vm.specs.Moves.{registers_of}

pub registers_start : registers_of (replicate 256 Nil) ≡ start.registers
registers_start = fun_ext (λ q. holds_nil q)
  where
    holds_nil : (q : ℕ) → slice_index_or (replicate 256 Nil) q Nil ≡ Nil
    holds_nil q =
        ⊎_elim
        (λ below. get_or-replicate 256 q Nil Nil below)
        (λ above. get_or_past (replicate 256 Nil) q Nil above)
        (cases_lt q 256)
