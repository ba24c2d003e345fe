use Rattle.std.proofs.Common.{refl, arith}
use Rattle.std.specs.Ordering.{nat_cmp, is_lt}
use Rattle.std.proofs.lemmas.Bool.Decides.{nat_tests}
use Rattle.std.proofs.lemmas.Cmp.{same_from_slice_cmp_tested}
use Rattle.value_model.specs.Metamethods.{bytes_less}
use Rattle.meta_ops.proofs.comparing.bytes_less.Goals as goal

pub returns : goal.returns
returns c =
    let by = same_from_slice_cmp_tested nat_cmp is_lt bytes_less refl (λ _ _. refl) (λ _ _. refl) (λ x y xs ys o h. grind (arith, nat_tests)) in
    by c.args.a.now c.args.b.now c.lt.result c.lt.ensures
