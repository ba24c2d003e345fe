use Rattle.std.proofs.Common.{◌≡◌, ◌++◌, OnOk, sym, subst}
use Rattle.value_model.specs.Names.{text_of, own_name}
use Rattle.luau_tables.proofs.Texts.{own_text}
use Rattle.luau_tables.proofs.plain.own_into.Goals as goal

pub returns-then-place-eq0-clause-ok : goal.returns-then-place-eq0-clause-ok
unfolding text_of
returns-then-place-eq0-clause-ok c =
    subst (λ n. OnOk c.append.result (c.append.new.out.items ≡ c.args.out.now.items ++ text_of (own_name n))) (sym c.if-place-eq0.true) c.append.ensures.ok

pub returns-then-place-eq1-clause-ok : goal.returns-then-place-eq1-clause-ok
unfolding text_of
returns-then-place-eq1-clause-ok c =
    subst (λ n. OnOk c.append-then-place-eq1.result (c.append-then-place-eq1.new.out.items ≡ c.args.out.now.items ++ text_of (own_name n))) (sym c.if-place-eq1.true) c.append-then-place-eq1.ensures.ok

pub returns-clause-ok : goal.returns-clause-ok
returns-clause-ok c =
    subst (λ t. OnOk c.append_number.result (c.append_number.new.out.items ≡ c.args.out.now.items ++ t)) (sym (own_text c.args.place c.if-place-eq0.false c.if-place-eq1.false)) c.append_number.ensures.ok
