use Rattle.std.proofs.Common.{rules, ◌≡◌, ◌∙◌, sym, ap, length, map}
use Rattle.std.proofs.lemmas.List.{length-map}
use Rattle.op_words.specs.Chunks.{proto_of}
use Rattle.machine_load.specs.Imports.{import_of}
use Rattle.machine_load.proofs.loading.decoded.Goals as goal

pub returns : goal.returns
returns c = λ chunk numbers.
    let w = c.args.world.now in
    let f = c.in_ok-plain.plain in
    let p = c.args.proto.now in
    let code = c.in_ok-plain.ensures.code chunk w.names numbers in
    let imports : c.in_ok-imports.imports ≡ map (import_of w f.consts) p.consts.items = search rules in
    let many = ap length imports ∙ length-map p.consts.items (import_of w f.consts) ∙ sym code.imports in
    record { code = c.imports_keep_code.ensures chunk w.names (proto_of p) f c.in_ok-imports.imports many code; imports = imports; usable = c.in_ok-imports.ensures.usable }
