-- More texts in the interner.
use Rattle.std.proofs.Common.{◌≡◌, refl, sym, ap, ◌∙◌, ℕ, ◌+◌, ◌<◌, List, [], ◌∷◌, ◌++◌, length, map, arith, length-append}
use Rattle.std.specs.List.{AllByRecursion}
use Rattle.std.proofs.lemmas.List.{get_or_append_left}
use Rattle.op_words.specs.declared.chunk.Const.{Const}
use Rattle.op_words.specs.Chunks.{ChunkOf, ProtoOf}
use Rattle.value_model.specs.Parts.{meant}
use Rattle.value_model.specs.Values.{Bytes, Text}
use Rattle.value_model.specs.declared.value.Value.{Value}
use Rattle.value_model.specs.declared.value.Value.TheVariants as value
use Rattle.machine_code.specs.declared.code.Code.{Code}
use Rattle.machine_code.specs.declared.code.Function.{Function}
use Rattle.machine_code.specs.Code.{IsConstant, AreConstantsOf, IsFunctionOf, IsCodeOf}

module _ (texts more : List Bytes) where
  means_same : (v : Value) → IsConstant texts v → meant (texts ++ more) v ≡ meant texts v
  unfolding meant
  means_same value.Nil is = refl
  means_same (value.Bool b) is = refl
  means_same (value.Num z) is = refl
  means_same (value.Str x) is = ap Text (get_or_append_left texts more [] x.0 is)
  means_same (value.Table t) is = absurd is
  means_same (value.Closure f) is = absurd is
  means_same (value.Native f) is = absurd is
  means_same (value.Host h) is = absurd is
  means_same (value.Wrap t) is = absurd is
  means_same (value.Thread t) is = absurd is

  stays : (v : Value) → IsConstant texts v → IsConstant (texts ++ more) v
  stays value.Nil is = tt
  stays (value.Bool b) is = tt
  stays (value.Num z) is = tt
  stays (value.Str x) is = omega (arith, length-append texts more, is)
  stays (value.Table t) is = absurd is
  stays (value.Closure f) is = absurd is
  stays (value.Native f) is = absurd is
  stays (value.Host h) is = absurd is
  stays (value.Wrap t) is = absurd is
  stays (value.Thread t) is = absurd is

  all_same : (vs : List Value) → AllByRecursion (IsConstant texts) vs → map (meant (texts ++ more)) vs ≡ map (meant texts) vs
  all_same [] all = refl
  all_same (v ∷ vs) all =
      ap (λ u. u ∷ map (meant (texts ++ more)) vs) (means_same v all.0) ∙ ap (λ us. meant texts v ∷ us) (all_same vs all.1)

  all_stay : (vs : List Value) → AllByRecursion (IsConstant texts) vs → AllByRecursion (IsConstant (texts ++ more)) vs
  all_stay [] all = tt
  all_stay (v ∷ vs) all = (stays v all.0, all_stay vs all.1)

  pub constants_stay : (chunk : ChunkOf) (cs : List Const) (vs : List Value) → AreConstantsOf chunk texts cs vs → AreConstantsOf chunk (texts ++ more) cs vs
  constants_stay chunk cs vs are = record { values = all_same vs are.plain ∙ are.values; plain = all_stay vs are.plain }

  pub function_stays : (chunk : ChunkOf) (p : ProtoOf) (f : Function) → IsFunctionOf chunk texts p f → IsFunctionOf chunk (texts ++ more) p f
  function_stays chunk p f is = record {
    registers = is.registers;
    params = is.params;
    upvalues = is.upvalues;
    vararg = is.vararg;
    lines = is.lines;
    consts = constants_stay chunk p.consts f.consts is.consts;
    imports = is.imports;
    children = is.children;
  }

  pub code_stays : (chunk : ChunkOf) (code : Code) → IsCodeOf chunk texts code → IsCodeOf chunk (texts ++ more) code
  code_stays chunk code is = record {
    count = is.count;
    functions = λ n p f at there. function_stays chunk p f (is.functions n p f at there);
    main = is.main;
  }
