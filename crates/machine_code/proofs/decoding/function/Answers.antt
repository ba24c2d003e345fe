use Rattle.std.proofs.Common.{rules, ◌≡◌, refl, sym, ap, ◌∙◌, subst, length, map, None}
use Rattle.std.proofs.lemmas.List.{length-replicate}
use Rattle.op_words.specs.Chunks.{proto_of}
use Rattle.machine_code.specs.Kept.{kept}
use Rattle.machine_code.specs.Code.{AreLinesOf, AreConstantsOf}
use Rattle.machine_code.proofs.Values.{constants_kept}
use Rattle.machine_code.proofs.decoding.function.Goals as goal

pub returns-clause-code : goal.returns-clause-code
returns-clause-code c = λ chunk texts are.
    let p = proto_of c.args.proto.now in
    let lines : AreLinesOf p.code c.in_ok-lines.lines = search rules in
    let consts : c.in_ok-consts.consts ≡ map (kept c.args.numbers.now) p.consts = search rules in
    let count : c.len.result ≡ length p.consts = search rules in
    let imports : length c.in_ok-imports.imports ≡ length p.consts =
    ap length c.in_ok-imports.ensures ∙ length-replicate c.len.result None ∙ count in
    record {
      registers = refl;
      params = refl;
      upvalues = refl;
      vararg = refl;
      lines = lines;
      consts = subst (λ vs. AreConstantsOf chunk texts p.consts vs) (sym consts) (constants_kept chunk texts c.args.numbers.now are p.consts);
      imports = imports;
      children = search rules;
    }
