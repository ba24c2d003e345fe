-- Faults as the code keeps them, and the earlier one of two.
use Rattle.std.specs.Prelude.{ℕ, Option, Some, None, option_map}
use Rattle.machine_meaning.specs.WellFormed.{CodeFault, earlier}
use Rattle.machine_meaning.specs.WellFormed as rules
use Rattle.chunk_check.specs.declared.faults.Fault.{Fault}
use Rattle.chunk_check.specs.declared.rules.Before.{Before}

abbrev pub fault_of : Fault → CodeFault
fault_of f = record { proto = f.proto; place = f.place; rule = f.rule }

-- the first one of two
abbrev pub sooner : Option CodeFault → Option CodeFault → Option CodeFault
sooner None b = b
sooner (Some a) b = Some (earlier a b)

-- a rule of an instruction, with its function and place
abbrev pub located : (proto place : ℕ) → Option ℕ → Option CodeFault
located n place rule = option_map (λ r. record { proto = n; place = place; rule = r }) rule

abbrev pub before_of : Before → rules.Before
before_of b =
    record {
      fast = b.fast;
      fast_two = b.fast_two;
      closes = b.closes;
      sets = b.sets;
      sets_two = b.sets_two;
      sets_three = b.sets_three;
    }
