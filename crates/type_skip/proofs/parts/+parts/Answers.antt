use Rattle.std.proofs.Common.{◌≡◌, ◌+◌, ℕ, suc, refl, sym, subst, arith}
use Rattle.std.proofs.lemmas.Result.{err_from_is_err_and}
use Rattle.syntax_tree.specs.declared.token.TokenKind.TheVariants as token
use Rattle.syntax_tree.specs.Places.{Has, Lacks}
use Rattle.syntax_tree.specs.Types.{IsType, IsParts, last_part, part, IsAtom, literal, named, no_arguments, plain_item, IsField, generic, no_default}
use Rattle.type_skip.specs.declared.fault.Fault.TheVariants.{Unexpected}
use Rattle.type_skip.specs.declared.parts.Step.{Step}
use Rattle.type_skip.specs.declared.parts.Step.TheVariants as step
use Rattle.type_skip.specs.Reading.{Fails}
use Rattle.type_skip.specs.Inner.{IsStep, IsEntered}
use Rattle.type_skip.specs.Words.{token_of}
use Rattle.type_skip.proofs.Forward.{atom_forward, marks_forward, item_forward, field_forward, generic_forward}
use Rattle.type_skip.proofs.Leading.{Exactly, leads_fails, exactly_fails, exactly_then, same_self}
use Rattle.type_skip.proofs.Types.{behind_bar, into_part, into_result, into_more, into_atom}
use Rattle.type_skip.proofs.Atoms as atoms
use Rattle.type_skip.proofs.Lists as lists
use Rattle.type_skip.proofs.GoingOn.{has_within}
use Rattle.type_skip.proofs.Exits.{reads_through, reads_exactly, reads_closed, reads_as, fails_in, reads_in, room_fails}
use Rattle.type_skip.proofs.parts.+parts.Goals as goal

pub arguments_end-returns-then-not-stands : goal.arguments_end-returns-then-not-stands
arguments_end-returns-then-not-stands t c = no_arguments c.args.room c.args.at (c.if-not-stands.ensures.absent refl)

pub arguments_end-returns-in_err-inner : goal.arguments_end-returns-in_err-inner
arguments_end-returns-in_err-inner t c =
    let p = err_from_is_err_and c.from_residual.result c.from_residual.ensures.1 in
    let e = c.in_err-inner.ensures in
    rw (p.1, p.2, e.1) (atoms.deep_arguments c.args.tokens.now c.args.room c.args.at e.0 (c.if-not-stands.ensures.there refl) (c.if-not-stands.ensures.within refl))

pub arguments_end-returns : goal.arguments_end-returns
arguments_end-returns t c =
    let ts = c.args.tokens.now in
    let n = c.in_ok-inner.inner in
    let less = c.if-not-stands.ensures.there refl in
    reads_in c.args.room c.items_end.result c.in_ok-inner.ensures (atoms.arguments_items ts n c.args.at less) (λ j q. atoms.arguments_closed ts n c.args.at j less q) c.items_end.ensures

pub atom-returns-then-is_literal : goal.atom-returns-then-is_literal
atom-returns-then-is_literal t c = literal c.args.room c.args.at (sym c.if-is_literal.ensures.value)

pub atom-returns : goal.atom-returns
atom-returns t c = atoms.no_atom c.args.tokens.now c.args.room c.args.at (sym c.if-is_literal.ensures.value) (c.if-stands.ensures.absent refl) (sym c.if-is_name.ensures.value) (c.if-stands-2.ensures.absent refl) (c.if-stands-3.ensures.absent refl) (c.if-stands-4.ensures.absent refl)

pub default_end-returns-then-stands : goal.default_end-returns-then-stands
default_end-returns-then-stands t c = reads_exactly c.type_end.result (atoms.default_type c.args.tokens.now c.args.room c.args.at (c.if-stands.ensures.there refl)) c.type_end.ensures

pub default_end-returns-else-stands : goal.default_end-returns-else-stands
default_end-returns-else-stands t c = no_default c.args.room c.args.at (c.if-stands.ensures.absent refl)

pub field_end-returns-then-not-stands : goal.field_end-returns-then-not-stands
field_end-returns-then-not-stands t c = reads_exactly c.item_end.result (lists.field_item c.args.tokens.now c.args.room c.args.at (c.if-not-stands.ensures.absent refl)) c.item_end.ensures

pub field_end-returns-in_err-inner : goal.field_end-returns-in_err-inner
field_end-returns-in_err-inner t c =
    let p = err_from_is_err_and c.from_residual.result c.from_residual.ensures.1 in
    let e = c.in_err-inner.ensures in
    rw (p.1, p.2, e.1) (lists.deep_field c.args.tokens.now c.args.room c.args.at e.0 (c.if-not-stands.ensures.there refl) (c.if-not-stands.ensures.within refl))

pub field_end-returns-in_err-key : goal.field_end-returns-in_err-key
field_end-returns-in_err-key t c =
    let ts = c.args.tokens.now in
    let p = err_from_is_err_and c.from_residual-in_err-key.result c.from_residual-in_err-key.ensures.1 in
    let f = c.in_err-key.field-0.0 in
    rw (p.1, p.2) (fails_in c.args.room c.in_ok-inner.ensures (lists.field_key ts c.in_ok-inner.inner c.args.at (c.if-not-stands.ensures.there refl)) f c.in_err-key.ensures)

pub field_end-returns-in_err-bracket : goal.field_end-returns-in_err-bracket
field_end-returns-in_err-bracket t c =
    let ts = c.args.tokens.now in
    let p = err_from_is_err_and c.from_residual-in_err-bracket.result c.from_residual-in_err-bracket.ensures.1 in
    let k = c.in_ok-key.key in
    let e = c.in_err-bracket.ensures in
    rw (p.1, p.2, e.1) (room_fails IsField ts c.in_ok-inner.inner c.args.at c.args.room c.in_ok-inner.ensures (Unexpected k) (lists.stuck_bracket ts c.in_ok-inner.inner c.args.at k (c.if-not-stands.ensures.there refl) c.in_ok-key.ensures e.0))

pub field_end-returns-in_err-value : goal.field_end-returns-in_err-value
field_end-returns-in_err-value t c =
    let ts = c.args.tokens.now in
    let p = err_from_is_err_and c.from_residual-in_err-value.result c.from_residual-in_err-value.ensures.1 in
    let k = c.in_ok-key.key in
    let b = c.in_ok-bracket.ensures in
    let e = c.in_err-value.ensures in
    rw (p.1, p.2, e.1, b.1) (room_fails IsField ts c.in_ok-inner.inner c.args.at c.args.room c.in_ok-inner.ensures (Unexpected (k + 1)) (lists.stuck_colon ts c.in_ok-inner.inner c.args.at k (c.if-not-stands.ensures.there refl) c.in_ok-key.ensures b.0 (subst (λ (x : ℕ). Lacks ts x token.Colon) b.1 e.0)))

pub field_end-returns : goal.field_end-returns
field_end-returns t c =
    let ts = c.args.tokens.now in
    let n = c.in_ok-inner.inner in
    let k = c.in_ok-key.key in
    let b = c.in_ok-bracket.ensures in
    let v = c.in_ok-value.ensures in
    let room : suc n ≡ c.args.room = omega (arith, c.in_ok-inner.ensures) in
    let place : k + 2 ≡ c.in_ok-value.value = omega (arith, b.1, v.1) in
    let colon : Has ts (k + 1) token.Colon = subst (λ (x : ℕ). Has ts x token.Colon) b.1 v.0 in
    let lead : Exactly IsField IsType ts c.args.room c.args.at c.in_ok-value.value =
    subst (λ (x : ℕ). Exactly IsField IsType ts c.args.room c.args.at x) place
    (subst (λ (x : ℕ). Exactly IsField IsType ts x c.args.at (k + 2)) room (lists.field_value ts n c.args.at k (c.if-not-stands.ensures.there refl) c.in_ok-key.ensures b.0 colon)) in
    reads_exactly c.type_end-2.result lead c.type_end-2.ensures

pub fields_end-returns-in_err-end : goal.fields_end-returns-in_err-end
fields_end-returns-in_err-end t c =
    let ts = c.args.tokens.now in
    let p = err_from_is_err_and c.from_residual.result c.from_residual.ensures.1 in
    let f = c.in_err-end.field-0.0 in
    rw (p.1, p.2) (exactly_fails c.loop-at.invariant f (leads_fails (lists.fields_field ts c.args.room c.loop-at.begin (c.loop-at-test.ensures.absent refl)) f c.in_err-end.ensures))

pub fields_end-returns-then-not-is_separator : goal.fields_end-returns-then-not-is_separator
fields_end-returns-then-not-is_separator t c =
    let ts = c.args.tokens.now in
    let k = c.in_ok-end.end in
    let b = c.loop-at.begin in
    let g = c.in_ok-end.ensures in
    let apart = sym c.if-not-is_separator.ensures.value in
    reads_exactly c.closed.result c.loop-at.invariant (reads_closed token.CloseBrace k c.closed.result (λ h. lists.last_of_fields ts c.args.room b k g apart h) (λ h. lists.stuck_fields ts c.args.room b k g apart h) c.closed.ensures)

pub fields_end-loop-at-smaller : goal.fields_end-loop-at-smaller
fields_end-loop-at-smaller t c =
    let less = field_forward c.in_ok-end.ensures in
    omega (arith, less, c.loop-at.auto.begin-fits)

pub fields_end-loop-at-preserved : goal.fields_end-loop-at-preserved
fields_end-loop-at-preserved t c = exactly_then c.loop-at.invariant (lists.next_field c.args.tokens.now c.args.room c.loop-at.begin c.in_ok-end.end c.in_ok-end.ensures (sym c.if-not-is_separator.ensures.value))

pub fields_end-returns : goal.fields_end-returns
fields_end-returns t c =
    let ts = c.args.tokens.now in
    let b = c.loop-at.begin in
    c.loop-at.invariant.forth ts c.args.room (b + 1) (omega arith) (same_self ts) (lists.no_more_fields ts c.args.room b (c.loop-at-test.ensures.there refl))

pub function_step-returns-else-stands : goal.function_step-returns-else-stands
function_step-returns-else-stands t c = atoms.head_only c.args.tokens.now c.args.room c.args.at c.in_ok-end.end c.in_ok-end.ensures (c.if-stands.ensures.absent refl)

pub generic_end-returns-then-not-is_name : goal.generic_end-returns-then-not-is_name
generic_end-returns-then-not-is_name t c = atoms.stuck_generic c.args.tokens.now c.args.room c.args.at (sym c.if-not-is_name.ensures.value)

pub generic_end-returns : goal.generic_end-returns
generic_end-returns t c =
    let ts = c.args.tokens.now in
    let n = c.args.room in
    let k = c.dots_end.result in
    let name = sym c.if-not-is_name.ensures.value in
    reads_through c.default_end.result (λ j d. generic n c.args.at k j name c.dots_end.ensures d) (λ f h. leads_fails (atoms.generic_default ts n c.args.at k name c.dots_end.ensures) f h) c.default_end.ensures

pub generic_list_end-returns-in_err-end : goal.generic_list_end-returns-in_err-end
generic_list_end-returns-in_err-end t c =
    let ts = c.args.tokens.now in
    let p = err_from_is_err_and c.from_residual.result c.from_residual.ensures.1 in
    let f = c.in_err-end.field-0.0 in
    rw (p.1, p.2) (exactly_fails c.loop-end.invariant f (leads_fails (atoms.list_generic ts c.args.room c.loop-end.begin) f c.in_err-end.ensures))

pub generic_list_end-returns-in_err-open : goal.generic_list_end-returns-in_err-open
generic_list_end-returns-in_err-open t c =
    let ts = c.args.tokens.now in
    let p = err_from_is_err_and c.from_residual-in_err-open.result c.from_residual-in_err-open.ensures.1 in
    let k = c.in_ok-end.end in
    let e = c.in_err-open.ensures in
    rw (p.1, p.2, e.1) (exactly_fails c.loop-end.invariant (Unexpected k) (atoms.stuck_greater ts c.args.room c.loop-end.begin k c.in_ok-end.ensures (c.if-not-stands.ensures.absent refl) e.0))

pub generic_list_end-returns-then-not-stands : goal.generic_list_end-returns-then-not-stands
generic_list_end-returns-then-not-stands t c =
    let ts = c.args.tokens.now in
    let k = c.in_ok-end.end in
    let b = c.loop-end.begin in
    let g = c.in_ok-end.ensures in
    let o = c.in_ok-open.ensures in
    let comma = c.if-not-stands.ensures.absent refl in
    let read = rw o.1 at c.closed-then-not-stands.ensures in
    reads_exactly c.closed-then-not-stands.result c.loop-end.invariant (reads_closed token.OpenParen (k + 1) c.closed-then-not-stands.result (λ h. atoms.last_of_generics ts c.args.room b k g comma o.0 h) (λ h. atoms.stuck_paren ts c.args.room b k g comma o.0 h) read)

pub generic_list_end-loop-end-smaller : goal.generic_list_end-loop-end-smaller
generic_list_end-loop-end-smaller t c =
    let less = generic_forward c.in_ok-end.ensures in
    omega (arith, less, c.if-not-stands.ensures.within refl, c.if-not-stands.ensures.few)

pub generic_list_end-loop-end-preserved : goal.generic_list_end-loop-end-preserved
generic_list_end-loop-end-preserved t c = exactly_then c.loop-end.invariant (atoms.next_generic c.args.tokens.now c.args.room c.loop-end.begin c.in_ok-end.end c.in_ok-end.ensures (c.if-not-stands.ensures.there refl))

pub generics_end-returns-then-stands : goal.generics_end-returns-then-stands
generics_end-returns-then-stands t c = atoms.opened_at_once c.args.tokens.now c.args.room c.args.at (c.if-stands.ensures.there refl)

pub generics_end-overflow_add-at : goal.generics_end-overflow_add-at
generics_end-overflow_add-at t c =
    let ts = c.args.tokens.now in
    let less = atoms.begin_within ts c.args.at c.requires in
    omega (arith, less, c.if-stands.ensures.few)

pub generics_end-returns : goal.generics_end-returns
generics_end-returns t c =
    let ts = c.args.tokens.now in
    let less = atoms.not_paren ts c.args.at c.requires (c.if-stands.ensures.absent refl) in
    let n = c.args.room in
    reads_as c.generic_list_end.result (λ j q. atoms.generics_opened ts n c.args.at j less q)
    (λ f h. fails_in (n + 1) refl (atoms.opened_generics ts n c.args.at less) f h) c.generic_list_end.ensures

pub head_end-returns-in_err-inner : goal.head_end-returns-in_err-inner
head_end-returns-in_err-inner t c =
    let ts = c.args.tokens.now in
    let p = err_from_is_err_and c.from_residual.result c.from_residual.ensures.1 in
    let e = c.in_err-inner.ensures in
    rw (p.1, p.2, e.1) (atoms.deep_head ts c.args.room c.args.at e.0 c.requires (atoms.begin_within ts c.args.at c.requires))

pub head_end-returns-in_err-begin : goal.head_end-returns-in_err-begin
head_end-returns-in_err-begin t c =
    let ts = c.args.tokens.now in
    let p = err_from_is_err_and c.from_residual-in_err-begin.result c.from_residual-in_err-begin.ensures.1 in
    let f = c.in_err-begin.field-0.0 in
    let fails : Fails IsEntered ts c.args.room c.args.at f =
    subst (λ (x : ℕ). Fails IsEntered ts x c.args.at f) c.in_ok-inner.ensures c.in_err-begin.ensures in
    rw (p.1, p.2) (leads_fails (atoms.function_opened ts c.args.room c.args.at c.requires) f fails)

pub head_end-returns : goal.head_end-returns
head_end-returns t c =
    let ts = c.args.tokens.now in
    let n = c.in_ok-inner.inner in
    let k = c.in_ok-begin.begin in
    let o = c.in_ok-begin.ensures in
    reads_as c.items_end.result
    (λ j q. record { inner = n; begin = k; room = omega (arith, c.in_ok-inner.ensures); opened = o; items = q })
    (λ f h. fails_in c.args.room c.in_ok-inner.ensures (atoms.function_parameters ts n c.args.at k c.requires o) f h) c.items_end.ensures

pub item_end-returns-then-is_label : goal.item_end-returns-then-is_label
item_end-returns-then-is_label t c = reads_exactly c.type_end.result (lists.item_label c.args.tokens.now c.args.room c.args.at (sym c.if-is_label.ensures.value)) c.type_end.ensures

pub item_end-returns-else-is_label : goal.item_end-returns-else-is_label
item_end-returns-else-is_label t c =
    let ts = c.args.tokens.now in
    let label = sym c.if-is_label.ensures.value in
    reads_through c.type_end-else-is_label.result (λ j type. plain_item c.args.room c.args.at j label type) (λ f h. lists.plain_item_fails ts c.args.room c.args.at label f h) c.type_end-else-is_label.ensures

pub item_list_end-returns-in_err-end : goal.item_list_end-returns-in_err-end
item_list_end-returns-in_err-end t c =
    let ts = c.args.tokens.now in
    let p = err_from_is_err_and c.from_residual.result c.from_residual.ensures.1 in
    let f = c.in_err-end.field-0.0 in
    rw (p.1, p.2) (exactly_fails c.loop-end.invariant f (leads_fails (lists.list_item ts (token_of c.args.close) c.args.room c.loop-end.begin c.requires) f c.in_err-end.ensures))

pub item_list_end-returns-then-not-stands : goal.item_list_end-returns-then-not-stands
item_list_end-returns-then-not-stands t c =
    let ts = c.args.tokens.now in
    let k = c.in_ok-end.end in
    let b = c.loop-end.begin in
    let g = c.in_ok-end.ensures in
    let close = token_of c.args.close in
    let comma = c.if-not-stands.ensures.absent refl in
    reads_exactly c.closed.result c.loop-end.invariant (reads_closed close k c.closed.result (λ h. lists.last_of_items ts close c.args.room b k g comma h) (λ h. lists.stuck_items ts close c.args.room b k c.requires g comma h) c.closed.ensures)

pub item_list_end-loop-end-smaller : goal.item_list_end-loop-end-smaller
item_list_end-loop-end-smaller t c =
    let less = item_forward c.in_ok-end.ensures in
    omega (arith, less, c.if-not-stands.ensures.within refl, c.if-not-stands.ensures.few)

pub item_list_end-loop-end-preserved : goal.item_list_end-loop-end-preserved
item_list_end-loop-end-preserved t c = exactly_then c.loop-end.invariant (lists.next_item c.args.tokens.now (token_of c.args.close) c.args.room c.loop-end.begin c.in_ok-end.end c.in_ok-end.ensures (c.if-not-stands.ensures.there refl))

pub items_end-returns-then-stands : goal.items_end-returns-then-stands
items_end-returns-then-stands t c = lists.closed_at_once c.args.tokens.now (token_of c.args.close) c.args.room c.args.at (c.if-stands.ensures.there refl)

pub items_end-returns : goal.items_end-returns
items_end-returns t c = reads_exactly c.item_list_end.result (lists.items_item_list c.args.tokens.now (token_of c.args.close) c.args.room c.args.at c.requires (c.if-stands.ensures.absent refl)) c.item_list_end.ensures

pub name_end-returns-in_err-member : goal.name_end-returns-in_err-member
name_end-returns-in_err-member t c =
    let ts = c.args.tokens.now in
    let p = err_from_is_err_and c.from_residual.result c.from_residual.ensures.1 in
    let f = c.in_err-member.field-0.0 in
    rw (p.1, p.2) (leads_fails (atoms.name_member ts c.args.room c.args.at c.requires.name c.requires.no_typeof) f (c.in_err-member.ensures c.args.room))

pub name_end-returns-in_err-end : goal.name_end-returns-in_err-end
name_end-returns-in_err-end t c =
    let ts = c.args.tokens.now in
    let p = err_from_is_err_and c.from_residual-in_err-end.result c.from_residual-in_err-end.ensures.1 in
    let f = c.in_err-end.field-0.0 in
    rw (p.1, p.2) (leads_fails (atoms.name_arguments ts c.args.room c.args.at c.in_ok-member.member c.requires.name c.requires.no_typeof (c.in_ok-member.ensures c.args.room)) f c.in_err-end.ensures)

pub name_end-returns : goal.name_end-returns
name_end-returns t c = named c.args.room c.args.at c.in_ok-member.member c.in_ok-end.end c.dots_end.result c.requires.name c.requires.no_typeof (c.in_ok-member.ensures c.args.room) c.in_ok-end.ensures c.dots_end.ensures

pub table_end-returns-in_err-inner : goal.table_end-returns-in_err-inner
table_end-returns-in_err-inner t c =
    let ts = c.args.tokens.now in
    let p = err_from_is_err_and c.from_residual.result c.from_residual.ensures.1 in
    let e = c.in_err-inner.ensures in
    rw (p.1, p.2, e.1) (atoms.deep_table ts c.args.room c.args.at e.0 c.requires.there (has_within ts c.args.at token.OpenBrace c.requires.there))

pub table_end-returns : goal.table_end-returns
table_end-returns t c =
    let ts = c.args.tokens.now in
    let n = c.in_ok-inner.inner in
    reads_in c.args.room c.fields_end.result c.in_ok-inner.ensures (atoms.table_fields ts n c.args.at c.requires.there) (λ j q. atoms.table_closed ts n c.args.at j c.requires.there q) c.fields_end.ensures

pub type_end-loop-next-init : goal.type_end-loop-next-init
type_end-loop-next-init t c = behind_bar c.args.tokens.now c.args.room c.args.at c.behind_bar-at.result c.behind_bar-at.ensures

pub type_end-returns-in_err-next : goal.type_end-returns-in_err-next
type_end-returns-in_err-next t c =
    let ts = c.args.tokens.now in
    let p = err_from_is_err_and c.from_residual.result c.from_residual.ensures.1 in
    let f = c.in_err-next.field-0.0 in
    rw (p.1, p.2) (exactly_fails c.loop-next.invariant f (leads_fails (into_atom ts c.args.room c.loop-next.at) f c.in_err-next.ensures))

pub type_end-loop-next-preserved-in-Part : goal.type_end-loop-next-preserved-in-Part
type_end-loop-next-preserved-in-Part t c =
    let ts = c.args.tokens.now in
    let i = c.loop-next.at in
    let step : IsStep ts c.args.room i (step.Part c.in-Part.next) = subst (λ (x : Step). IsStep ts c.args.room i x) c.in-Part.is c.in_ok-next.ensures in
    let lead : Exactly IsParts IsParts ts c.args.room i c.in-Part.next = subst (λ (x : ℕ). Exactly IsParts IsParts ts c.args.room i x) (sym step.1) (into_part ts c.args.room i step.0) in
    exactly_then c.loop-next.invariant lead

pub type_end-loop-next-smaller-in-Result : goal.type_end-loop-next-smaller-in-Result
type_end-loop-next-smaller-in-Result t c =
    let ts = c.args.tokens.now in
    let i = c.loop-next.at in
    let step : IsStep ts c.args.room i (step.Result c.in-Result.next) = subst (λ (x : Step). IsStep ts c.args.room i x) c.in-Result.is c.in_ok-next.ensures in
    let less = atoms.head_forward ts c.args.room i step.0 step.1 in
    let bar = behind_bar ts c.args.room c.in-Result.next c.behind_bar-at-in-Result.result c.behind_bar-at-in-Result.ensures in
    omega (arith, less, step.3, bar.from, c.loop-next.auto.at-fits)

pub type_end-loop-next-preserved-in-Result : goal.type_end-loop-next-preserved-in-Result
type_end-loop-next-preserved-in-Result t c =
    let ts = c.args.tokens.now in
    let i = c.loop-next.at in
    let step : IsStep ts c.args.room i (step.Result c.in-Result.next) = subst (λ (x : Step). IsStep ts c.args.room i x) c.in-Result.is c.in_ok-next.ensures in
    let less = atoms.head_forward ts c.args.room i step.0 step.1 in
    let lead : Exactly IsParts IsType ts c.args.room i c.in-Result.next = subst (λ (x : ℕ). Exactly IsParts IsType ts c.args.room i x) (sym step.3) (into_result ts c.args.room i step.0 (omega (arith, less)) step.1 step.2) in
    exactly_then (exactly_then c.loop-next.invariant lead) (behind_bar ts c.args.room c.in-Result.next c.behind_bar-at-in-Result.result c.behind_bar-at-in-Result.ensures)

pub type_end-returns-then-not-is_bar : goal.type_end-returns-then-not-is_bar
type_end-returns-then-not-is_bar t c =
    let ts = c.args.tokens.now in
    let i = c.loop-next.at in
    let atom : IsAtom ts c.args.room i c.in-Ended.next = subst (λ (x : Step). IsStep ts c.args.room i x) c.in-Ended.is c.in_ok-next.ensures in
    let k = c.marks_end-at.result in
    c.loop-next.invariant.forth ts c.args.room k (omega arith) (same_self ts) (last_part c.args.room i k (part c.args.room i c.in-Ended.next k atom c.marks_end-at.ensures) (sym c.if-not-is_bar.ensures.value))

pub type_end-loop-next-smaller : goal.type_end-loop-next-smaller
type_end-loop-next-smaller t c =
    let ts = c.args.tokens.now in
    let i = c.loop-next.at in
    let atom : IsAtom ts c.args.room i c.in-Ended.next = subst (λ (x : Step). IsStep ts c.args.room i x) c.in-Ended.is c.in_ok-next.ensures in
    let less = atom_forward atom in
    let more = marks_forward c.marks_end-at.ensures in
    omega (arith, less, more, c.if-not-is_bar.ensures.within refl, c.if-not-is_bar.ensures.few)

pub type_end-loop-next-preserved : goal.type_end-loop-next-preserved
type_end-loop-next-preserved t c =
    let ts = c.args.tokens.now in
    let i = c.loop-next.at in
    let atom : IsAtom ts c.args.room i c.in-Ended.next = subst (λ (x : Step). IsStep ts c.args.room i x) c.in-Ended.is c.in_ok-next.ensures in
    exactly_then c.loop-next.invariant (into_more ts c.args.room i c.in-Ended.next c.marks_end-at.result atom c.marks_end-at.ensures (sym c.if-not-is_bar.ensures.value))
