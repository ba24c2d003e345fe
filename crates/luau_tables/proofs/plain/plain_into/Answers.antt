use Rattle.std.proofs.Common.{◌≡◌, ◌++◌, OnOk, codes, sym, ◌∙◌, ap, subst}
use Rattle.value_model.specs.declared.value.Value.TheVariants as kept
use Rattle.value_model.specs.Names.{text_of, name_of}
use Rattle.value_model.specs.Parts.{meant}
use Rattle.luau_tables.specs.Globals.{plain_text}
use Rattle.luau_tables.proofs.Texts.{function_text, library_text}
use Rattle.luau_tables.proofs.plain.plain_into.Goals as goal

pub returns-in-Nil-clause-ok : goal.returns-in-Nil-clause-ok
unfolding plain_text text_of name_of meant
returns-in-Nil-clause-ok c =
    subst (λ v. OnOk c.append.result (c.append.new.out.items ≡ c.args.out.now.items ++ plain_text c.args.names.now c.args.globals.now v)) (sym c.in-Nil.is)
    (c.append.ensures.ok)

pub returns-in-Bool-true-clause-ok : goal.returns-in-Bool-true-clause-ok
unfolding plain_text text_of name_of meant
returns-in-Bool-true-clause-ok c =
    subst (λ v. OnOk c.append-in-Bool-true.result (c.append-in-Bool-true.new.out.items ≡ c.args.out.now.items ++ plain_text c.args.names.now c.args.globals.now v))
    (sym (c.in-Bool-true.is ∙ ap kept.Bool c.in-Bool-true.field-0-test)) c.append-in-Bool-true.ensures.ok

pub returns-in-Bool-false-clause-ok : goal.returns-in-Bool-false-clause-ok
unfolding plain_text text_of name_of meant
returns-in-Bool-false-clause-ok c =
    subst (λ v. OnOk c.append-in-Bool-false.result (c.append-in-Bool-false.new.out.items ≡ c.args.out.now.items ++ plain_text c.args.names.now c.args.globals.now v))
    (sym (c.in-Bool-false.is ∙ ap kept.Bool c.in-Bool-false.field-0-test)) c.append-in-Bool-false.ensures.ok

pub returns-in-Num-clause-ok : goal.returns-in-Num-clause-ok
unfolding plain_text text_of name_of meant
returns-in-Num-clause-ok c =
    subst (λ v. OnOk c.print_into.result (c.print_into.new.out.items ≡ c.args.out.now.items ++ plain_text c.args.names.now c.args.globals.now v)) (sym c.in-Num.is)
    (c.print_into.ensures.ok)

pub returns-in-Str-clause-ok : goal.returns-in-Str-clause-ok
unfolding plain_text text_of name_of meant
returns-in-Str-clause-ok c =
    subst (λ v. OnOk c.append-in-Str.result (c.append-in-Str.new.out.items ≡ c.args.out.now.items ++ plain_text c.args.names.now c.args.globals.now v)) (sym c.in-Str.is)
    (subst (λ t. OnOk c.append-in-Str.result (c.append-in-Str.new.out.items ≡ c.args.out.now.items ++ t)) c.text_at.ensures c.append-in-Str.ensures.ok)

pub returns-in-Closure-clause-ok : goal.returns-in-Closure-clause-ok
unfolding plain_text text_of name_of meant
returns-in-Closure-clause-ok c =
    subst (λ v. OnOk c.append_number.result (c.append_number.new.out.items ≡ c.args.out.now.items ++ plain_text c.args.names.now c.args.globals.now v)) (sym c.in-Closure.is)
    (subst (λ t. OnOk c.append_number.result (c.append_number.new.out.items ≡ c.args.out.now.items ++ t)) (sym (function_text c.in-Closure.id.place)) c.append_number.ensures.ok)

pub returns-in-Native-clause-ok : goal.returns-in-Native-clause-ok
unfolding plain_text text_of name_of meant
returns-in-Native-clause-ok c =
    subst (λ v. OnOk c.append_two.result (c.append_two.new.out.items ≡ c.args.out.now.items ++ plain_text c.args.names.now c.args.globals.now v)) (sym c.in-Native.is)
    (subst (λ t. OnOk c.append_two.result (c.append_two.new.out.items ≡ c.args.out.now.items ++ t)) (ap (λ p. codes "function: " ++ p) (c.as_bytes.ensures.value ∙ c.path.ensures) ∙ sym (library_text c.in-Native.builtin)) c.append_two.ensures.ok)

pub returns-in-Host-clause-ok : goal.returns-in-Host-clause-ok
unfolding plain_text text_of name_of meant
returns-in-Host-clause-ok c =
    subst (λ v. OnOk c.append_two-in-Host.result (c.append_two-in-Host.new.out.items ≡ c.args.out.now.items ++ plain_text c.args.names.now c.args.globals.now v)) (sym c.in-Host.is)
    (subst (λ t. OnOk c.append_two-in-Host.result (c.append_two-in-Host.new.out.items ≡ c.args.out.now.items ++ (codes "function: " ++ t))) c.host_path.ensures c.append_two-in-Host.ensures.ok)

pub returns-in-Wrap-clause-ok : goal.returns-in-Wrap-clause-ok
unfolding plain_text text_of name_of meant
returns-in-Wrap-clause-ok c =
    subst (λ v. OnOk c.append_number-in-Wrap.result (c.append_number-in-Wrap.new.out.items ≡ c.args.out.now.items ++ plain_text c.args.names.now c.args.globals.now v)) (sym c.in-Wrap.is)
    (c.append_number-in-Wrap.ensures.ok)

pub returns-in-Thread-clause-ok : goal.returns-in-Thread-clause-ok
unfolding plain_text text_of name_of meant
returns-in-Thread-clause-ok c =
    subst (λ v. OnOk c.append_number-in-Thread.result (c.append_number-in-Thread.new.out.items ≡ c.args.out.now.items ++ plain_text c.args.names.now c.args.globals.now v)) (sym c.in-Thread.is)
    (c.append_number-in-Thread.ensures.ok)
