use Rattle.std.proofs.Common.{◌≡◌, refl, ap, ◌∙◌, length, get_or, Some}
use Rattle.std.specs.Prelude.{slice_get}
use Rattle.std.proofs.lemmas.Option.{slice_get_read}
use Rattle.value_model.specs.Parts.{meant}
use Rattle.machine_code.proofs.Reading.{constant_known}
use Rattle.machine_code.proofs.code.Function.constant.Goals as goal

pub returns-clause-known : goal.returns-clause-known
returns-clause-known c = λ chunk texts p is n u at e.
    let f = c.args.self.now in
    let k = c.args.index in
    let v = c.index-as_slice-index.result in
    let found = constant_known chunk texts p f is k u n at e in
    let there : slice_get f.consts k ≡ Some v =
    slice_get_read f.consts (length f.consts) k v refl c.requires (c.index-as_slice-index.is ∙ ap (λ vs. get_or vs k v) c.as_slice.ensures) in
    let same : v ≡ found.value = let got = found.there in cc in
    ap (meant texts) same ∙ found.means
