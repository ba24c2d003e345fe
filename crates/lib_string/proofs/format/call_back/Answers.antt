use Rattle.std.proofs.Common.{[], ◌∷◌, ◌++◌, ap, ◌∙◌}
use Rattle.lib_string.proofs.FormatAnswers.{asking_answered}
use Rattle.lib_string.proofs.format.call_back.Goals as goal

pub returns : goal.returns
returns c = λ w rs may used.
    let g = c.in_ok-push.ensures.items ∙ ap (λ vs. vs ++ c.args.asking.value ∷ []) c.new-given.ensures.items in
    asking_answered w rs c.args.asking c.args.at c.args.args.now c.args.bytes.now c.push.new.self c.in_ok-args.args c.in_ok-text.text may used g c.in_ok-args.ensures.items c.in_ok-text.ensures
