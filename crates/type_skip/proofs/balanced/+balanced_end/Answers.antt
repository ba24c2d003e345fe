use Rattle.std.proofs.Common.{◌≡◌, ◌+◌, ℕ, suc, sym, ap, ◌∙◌, subst, arith}
use Rattle.std.proofs.lemmas.Result.{err_from_is_err_and}
use Rattle.syntax_tree.specs.Places.{kind_at}
use Rattle.type_skip.specs.declared.balanced.Turn.TheVariants.{Pass, Nest, Done, Stuck}
use Rattle.type_skip.specs.declared.fault.Fault.TheVariants.{Unexpected, TooDeep}
use Rattle.type_skip.specs.Balance.{class_of, turn_of}
use Rattle.type_skip.specs.Reading.{Fails}
use Rattle.type_skip.specs.Inner.{IsClosedStrings}
use Rattle.type_skip.specs.Words.{token_of}
use Rattle.type_skip.proofs.Forward.{balanced_forward}
use Rattle.type_skip.proofs.Leading.{leads_in_fails, exactly_fails, exactly_then, Exactly, same_self}
use Rattle.type_skip.proofs.Strings.{pass, pass_count, done, nests, open_of, nest_leads, nest_exactly, deep_nest, stuck_balanced, turns_within}
use Rattle.type_skip.proofs.balanced.+balanced_end.Goals as goal

pub loop-now-preserved-in-Pass : goal.loop-now-preserved-in-Pass
loop-now-preserved-in-Pass t c =
    let ts = c.args.tokens.now in
    let i = c.loop-now.at in
    let s = c.loop-now.strings in
    let turn : turn_of (class_of (kind_at ts i)) s c.args.close ≡ Pass c.in-Pass.now = ap (λ x. turn_of x s c.args.close) (sym c.class_at.ensures.value) ∙ sym c.next_turn.ensures ∙ c.in-Pass.is in
    let there = turns_within ts i s c.args.close (λ e. let both : Pass c.in-Pass.now ≡ Stuck = sym turn ∙ e in cc) in
    let more = pass_count ts c.args.close s c.in-Pass.now i turn in
    record {
      lead = exactly_then c.loop-now.invariant.lead (pass ts (token_of c.args.close) c.args.close c.args.room s c.in-Pass.now i turn);
      few = omega (arith, more, c.loop-now.invariant.few);
      short = omega (arith, more, there, c.loop-now.invariant.few);
    }

pub returns-in_err-opened-in-Nest : goal.returns-in_err-opened-in-Nest
returns-in_err-opened-in-Nest t c =
    let ts = c.args.tokens.now in
    let i = c.loop-now.at in
    let s = c.loop-now.strings in
    let turn : turn_of (class_of (kind_at ts i)) s c.args.close ≡ Nest c.in-Nest.inner = ap (λ x. turn_of x s c.args.close) (sym c.class_at.ensures.value) ∙ sym c.next_turn.ensures ∙ c.in-Nest.is in
    let there = turns_within ts i s c.args.close (λ e. let both : Nest c.in-Nest.inner ≡ Stuck = sym turn ∙ e in cc) in
    let opens = nests ts c.args.close c.in-Nest.inner s i turn in
    let p = err_from_is_err_and c.from_residual.result c.from_residual.ensures.1 in
    let e = c.in_err-opened-in-Nest.ensures in
    rw (p.1, p.2, e.1) (exactly_fails c.loop-now.invariant.lead (TooDeep i) (deep_nest ts (token_of c.args.close) c.in-Nest.inner c.args.room s i e.0 c.requires opens there))

pub balanced_end-requires : goal.balanced_end-requires
balanced_end-requires t c =
    let ts = c.args.tokens.now in
    let i = c.loop-now.at in
    let s = c.loop-now.strings in
    let turn : turn_of (class_of (kind_at ts i)) s c.args.close ≡ Nest c.in-Nest.inner = ap (λ x. turn_of x s c.args.close) (sym c.class_at.ensures.value) ∙ sym c.next_turn.ensures ∙ c.in-Nest.is in
    let inner = open_of (kind_at ts i) c.in-Nest.inner (nests ts c.args.close c.in-Nest.inner s i turn) in
    (omega (arith, c.in_ok-opened-in-Nest.ensures, c.decreases), inner.1)

pub returns-in_err-at-in-Nest : goal.returns-in_err-at-in-Nest
returns-in_err-at-in-Nest t c =
    let ts = c.args.tokens.now in
    let i = c.loop-now.at in
    let s = c.loop-now.strings in
    let turn : turn_of (class_of (kind_at ts i)) s c.args.close ≡ Nest c.in-Nest.inner = ap (λ x. turn_of x s c.args.close) (sym c.class_at.ensures.value) ∙ sym c.next_turn.ensures ∙ c.in-Nest.is in
    let opens = nests ts c.args.close c.in-Nest.inner s i turn in
    let inner = c.in_ok-opened-in-Nest.field-0 in
    let room : suc inner ≡ c.args.room = omega (arith, c.in_ok-opened-in-Nest.ensures) in
    let p = err_from_is_err_and c.from_residual-in_err-at-in-Nest.result c.from_residual-in_err-at-in-Nest.ensures.1 in
    let f = c.in_err-at-in-Nest.field-0.0 in
    let fails : Fails (IsClosedStrings s (token_of c.args.close)) ts c.args.room i f =
    subst (λ (n : ℕ). Fails (IsClosedStrings s (token_of c.args.close)) ts n i f) room
    (leads_in_fails (nest_leads ts (token_of c.args.close) c.in-Nest.inner inner s i c.requires opens) f c.in_err-at-in-Nest.ensures) in
    rw (p.1, p.2) (exactly_fails c.loop-now.invariant.lead f fails)

pub loop-now-preserved : goal.loop-now-preserved
loop-now-preserved t c =
    let ts = c.args.tokens.now in
    let i = c.loop-now.at in
    let s = c.loop-now.strings in
    let k = c.in_ok-at-in-Nest.at in
    let turn : turn_of (class_of (kind_at ts i)) s c.args.close ≡ Nest c.in-Nest.inner = ap (λ x. turn_of x s c.args.close) (sym c.class_at.ensures.value) ∙ sym c.next_turn.ensures ∙ c.in-Nest.is in
    let opens = nests ts c.args.close c.in-Nest.inner s i turn in
    let inner = c.in_ok-opened-in-Nest.field-0 in
    let room : suc inner ≡ c.args.room = omega (arith, c.in_ok-opened-in-Nest.ensures) in
    let q = c.in_ok-at-in-Nest.ensures in
    let less = balanced_forward q.inside in
    let lead : Exactly (IsClosedStrings s (token_of c.args.close)) (IsClosedStrings s (token_of c.args.close)) ts c.args.room i k =
    subst (λ (n : ℕ). Exactly (IsClosedStrings s (token_of c.args.close)) (IsClosedStrings s (token_of c.args.close)) ts n i k) room
    (nest_exactly ts (token_of c.args.close) c.in-Nest.inner inner s i k opens q) in
    record {
      lead = exactly_then c.loop-now.invariant.lead lead;
      few = omega (arith, less, q.behind, c.loop-now.invariant.few);
      short = c.loop-now.invariant.short;
    }

pub loop-now-smaller : goal.loop-now-smaller
loop-now-smaller t c =
    let less = balanced_forward c.in_ok-at-in-Nest.ensures.inside in
    omega (arith, less, c.in_ok-at-in-Nest.ensures.behind, c.loop-now.auto.at-fits)

pub returns-in-Done : goal.returns-in-Done
returns-in-Done t c =
    let ts = c.args.tokens.now in
    let i = c.loop-now.at in
    let s = c.loop-now.strings in
    let turn : turn_of (class_of (kind_at ts i)) s c.args.close ≡ Done = ap (λ x. turn_of x s c.args.close) (sym c.class_at.ensures.value) ∙ sym c.next_turn.ensures ∙ c.in-Done.is in
    c.loop-now.invariant.lead.forth ts c.args.room (i + 1) (omega arith) (same_self ts) (done ts c.args.close c.args.room s i c.requires turn)

pub returns-in-Stuck : goal.returns-in-Stuck
returns-in-Stuck t c =
    let ts = c.args.tokens.now in
    let i = c.loop-now.at in
    let s = c.loop-now.strings in
    let turn : turn_of (class_of (kind_at ts i)) s c.args.close ≡ Stuck = ap (λ x. turn_of x s c.args.close) (sym c.class_at.ensures.value) ∙ sym c.next_turn.ensures ∙ c.in-Stuck.is in
    exactly_fails c.loop-now.invariant.lead (Unexpected i) (stuck_balanced ts c.args.close c.args.room s i c.requires turn)
