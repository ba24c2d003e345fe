use Rattle.std.proofs.lemmas.Result.{err_from_is_err_and}
use Rattle.type_skip.proofs.Exits.{reads_in}
use Rattle.type_skip.proofs.Atoms.{deep_typeof, typeof_balanced, typeof_closed, typeof_within}
use Rattle.type_skip.proofs.parts.typeof_end.Goals as goal

pub returns-in_err-inner : goal.returns-in_err-inner
returns-in_err-inner c =
    let ts = c.args.tokens.now in
    let p = err_from_is_err_and c.from_residual.result c.from_residual.ensures.1 in
    let e = c.in_err-inner.ensures in
    rw (p.1, p.2, e.1) (deep_typeof ts c.args.room c.args.at e.0 c.requires.there (typeof_within ts c.args.at c.requires.there))

pub returns : goal.returns
returns c =
    let ts = c.args.tokens.now in
    reads_in c.args.room c.balanced_end.result c.in_ok-inner.ensures (typeof_balanced ts c.in_ok-inner.inner c.args.at c.requires.there) (λ j q. typeof_closed ts c.in_ok-inner.inner c.args.at j c.requires.there q) c.balanced_end.ensures
