use Rattle.std.proofs.Common.{subst, sym, []}
use Rattle.value_model.specs.Parts.{meant}
use Rattle.value_model.specs.declared.builtin.Builtin.TheVariants as builtin
use Rattle.luau_tables.proofs.MoreTexts.{extends_on}
use Rattle.frozen_libs.specs.Made.{Holds}
use Rattle.frozen_libs.proofs.Filling.{next_function}
use Rattle.frozen_libs.proofs.making.put_functions.Goals as goal

pub loop-function-preserved : goal.loop-function-preserved
unfolding meant
loop-function-preserved c =
    let before = c.loop-function.invariant in
    let now = c.in_ok-put_named.ensures in
    record {
      writable = now.writable;
      texts = now.texts;
      extends = extends_on c.args.names.now c.loop-function.names c.put_named.new.names before.extends now.extends;
      made = λ ts h. next_function c.args.functions.now c.loop-function.function-index (record { ref_ptr = (0, 0); now = [] }, builtin.Print) (λ f.
          (f.0.now, f.1))
          c.loop-function-test.true c.args.names.now c.put_named.new.names c.args.arena.now c.put_named.new.arena ts c.args.t h c.requires.writable
          c.as_bytes.result.now c.as_bytes.ensures.value
          (λ us e. now.made us (subst (Holds c.loop-function.names c.loop-function.arena) (sym e) (before.made ts h)) tt);
    }
