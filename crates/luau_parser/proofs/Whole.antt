-- What the turns of a whole script say of its trees.
use Rattle.std.proofs.Common.{◌≡◌, ◌≢◌, ◌≤◌, ◌<◌, ◌+◌, ℕ, suc, true, List, [], ◌∷◌, ◌++◌, length, take, zero, Option, Some, None, ◌⊎◌, inl, inr, refl, sym, ap, ◌∙◌, arith, true≢false}
use Rattle.syntax_tree.specs.declared.token.Token.{Token}
use Rattle.syntax_tree.specs.declared.token.TokenKind.{TokenKind}
use Rattle.syntax_tree.specs.declared.token.TokenKind.TheVariants as token
use Rattle.syntax_tree.specs.declared.tree.Stat.{Stat}
use Rattle.syntax_tree.specs.Calls.{OpensLate, IsLateCall}
use Rattle.syntax_tree.specs.Derivations.{IsChunk, main_function}
use Rattle.syntax_tree.specs.Nest.{nest, nest_func}
use Rattle.syntax_tree.specs.Numbers.{numbered}
use Rattle.syntax_tree.specs.Places.{kind_at, Has}
use Rattle.syntax_tree.specs.Types.{IsType}
use Rattle.type_skip.specs.Reading.{SameBelow}
use Rattle.type_skip.proofs.Passing.{same_kinds, taken_front}
use Rattle.parse_steps.specs.Items.{Item, suffixes, arguments, block, a_type}
use Rattle.parse_steps.specs.Turns.{Turn, turn, stops, stays, takes}
use Rattle.parse_steps.specs.Steps as steps
use Rattle.parse_steps.specs.Steps.{asks, Runs, here, stay, pass, most, InTime, Leads, Reaches, IsStuck, no_turn, no_type, left_over, IsDeep, deep_node, deep_type, IsLate}
use Rattle.parse_steps.proofs.Together.{places_grow, onward, passes, one_end, form, two_forms}
use Rattle.parse_steps.proofs.Deepness.{nest_most}
use Rattle.parse_steps.proofs.Forward.{chunk_runs, chunk_asks}
use Rattle.luau_parser.proofs.NumberedNest.{nest_numbered}

same_sym : (ts us : List Token) (k : ℕ) → SameBelow k ts us → SameBelow k us ts
same_sym ts us k same = λ q less. sym (same q less)

-- ---- no arguments open late where a run within all limits goes on

-- an item that asks takes a `(`
takes_paren : (t : Option TokenKind) (v : ℕ) (x : Item) (k : List Item) → t ≡ Some token.OpenParen → asks x ≡ true → form (turn t v x k) ≡ form (takes 0 0 [])
takes_paren t v (suffixes c u) k paren opens = ap (λ (o : Option TokenKind). form (turn o v (suffixes c u) k)) paren
takes_paren t v arguments k paren opens = ap (λ (o : Option TokenKind). form (turn o v arguments k)) paren
takes_paren t v _ k paren opens = absurd (true≢false (sym opens))

-- a run within all limits does not go on where arguments open late
not_late : {ts : List Token} {i v j w p : ℕ} {x : Item} {k l : List Item} → Leads ts i v (x ∷ k) j w l → (i ≢ j) → asks x ≡ true → i ≡ p + 1 → OpensLate ts p → Has ts i token.OpenParen → ⊥
not_late (here i v k) moved opens place late paren = moved refl
not_late (stay i v u j w x k more l e rest) moved opens place late paren = two_forms e (λ same. absurd (impossible (sym (takes_paren _ v x k paren opens) ∙ same)))
  where
    impossible : form (takes 0 0 []) ≡ form (stays 0 []) → ⊥
    impossible h = absurd (omega (arith, h))
not_late (steps.take i v u j w r (suffixes c d) k more l e le fine rest) moved opens place late paren = fine _ place late
not_late (steps.take i v u j w r arguments k more l e le fine rest) moved opens place late paren = fine _ place late
not_late (steps.take i v u j w r _ k more l e le fine rest) moved opens place late paren = absurd (true≢false (sym opens))
not_late (pass i v h j w k l t rest) moved opens place late paren = absurd (true≢false (sym opens))

pub kinds_there : (ts : List Token) (i j : ℕ) (k : TokenKind) → kind_at ts i ≡ Some k → kind_at ts j ≡ None → i < j
kinds_there [] i j k there past = absurd cc
kinds_there (t ∷ ts) i zero k there past = absurd cc
kinds_there (t ∷ ts) zero (suc j) k there past = omega arith
kinds_there (t ∷ ts) (suc i) (suc j) k there past = let less = kinds_there ts i j k there past in omega (arith, less)

pub there_within : (ts : List Token) (i : ℕ) (k : TokenKind) → kind_at ts i ≡ Some k → i < length ts
there_within [] i k there = absurd cc
there_within (t ∷ ts) zero k there = omega arith
there_within (t ∷ ts) (suc i) k there = let less = there_within ts i k there in omega (arith, less)

pub no_late_call : {ts : List Token} {j w : ℕ} {l : List Item} (p : ℕ) → Leads ts 0 0 (block ∷ []) j w l → p + 1 < j → IsLateCall ts p → ⊥
no_late_call {ts = ts} {j = j} p run beyond late =
    let c = late.call in
    let asked = chunk_asks {b = nest_func (main_function c.block)} {p = p + 1} c.derived (omega arith) c.called in
    let within = there_within ts (p + 1) token.OpenParen late.late.opens in
    let us : List Token = take (p + 1 + 1) ts ++ c.more in
    let same : SameBelow (p + 1 + 1) ts us = same_kinds ts us (p + 1 + 1) (taken_front (p + 1 + 1) ts c.more (omega (arith, within))) in
    either asked.1 (onward asked.3 (same_sym ts us (p + 1 + 1) same) run) asked.4
  where
    either : {us : List Token} {n b v w : ℕ} {F : ℕ → Type 0} {k m : List Item} (x : Item) → Leads ts (p + 1) v (x ∷ k) j w m ⊎ Runs us n b F j w m (p + 1) v (x ∷ k) → asks x ≡ true → ⊥
    either x (inl rest) opens = not_late rest (λ e. absurd (omega (arith, e, beyond))) opens refl late.late late.late.opens
    either x (inr back) opens = let le = places_grow back in absurd (omega (arith, le, beyond))

-- ---- where no turn follows, no tree does

first_stops : {us : List Token} {n b i v j w : ℕ} {F : ℕ → Type 0} {x : Item} {k : List Item} → Runs us n b F i v (x ∷ k) j w [] → turn (kind_at us i) v x k ≡ stops → x ≢ a_type → ⊥
first_stops (stay i v u j w x k more l e rest) stop other = two_forms (sym stop ∙ e) (λ h. absurd (omega (arith, h)))
first_stops (steps.take i v u j w r x k more l e le fine rest) stop other = two_forms (sym stop ∙ e) (λ h. absurd (omega (arith, h)))
first_stops (pass i v h j w k l t rest) stop other = other refl

first_type : {us : List Token} {n b i v j w : ℕ} {F : ℕ → Type 0} {k : List Item} → Runs us n b F i v (a_type ∷ k) j w [] → (h : ℕ) × IsType us n i h
first_type (stay i v u j w x k more l e rest) = two_forms e (λ h. absurd (omega (arith, h)))
first_type (steps.take i v u j w r x k more l e le fine rest) = two_forms e (λ h. absurd (omega (arith, h)))
first_type (pass i v h j w k l t rest) = (h, t)

first_reach : {us : List Token} {n b i v j w r u : ℕ} {F : ℕ → Type 0} {x : Item} {k more : List Item} → Runs us n b F i v (x ∷ k) j w [] → turn (kind_at us i) v x k ≡ takes r u more → r ≤ b
first_reach (stay i v u j w x k more l e rest) takes_it = two_forms (sym takes_it ∙ e) (λ h. absurd (omega (arith, h)))
first_reach (steps.take i v u j w r x k more l e le fine rest) takes_it = same_reach (sym takes_it ∙ e) le
  where
    reach_of : Turn → ℕ
    reach_of (takes r u more) = r
    reach_of _ = 0

    same_reach : {r s u z b : ℕ} {m o : List Item} → takes r u m ≡ takes s z o → s ≤ b → r ≤ b
    same_reach e le = let same = ap reach_of e in omega (arith, same, le)
first_reach (pass i v h j w k l t rest) takes_it = two_forms takes_it (λ h. absurd (omega (arith, h)))

ends_here : {us : List Token} {n b i v j w : ℕ} {F : ℕ → Type 0} → Runs us n b F i v [] j w [] → i ≡ j
ends_here (here i v k) = refl

below : (ts us : List Token) (i k : ℕ) → i ≤ k → SameBelow (k + 1) ts us → SameBelow (i + 1) ts us
below ts us i k le same = λ q less. same q (omega (arith, less, le))

stuck_from : {ts : List Token} {i v p : ℕ} {k : List Item} → IsStuck ts i v k p → i ≤ p
stuck_from (no_turn i v x k e other) = omega arith
stuck_from (no_type i v p k stuck) = stuck.from
stuck_from (left_over i v e) = omega arith

stuck_stops : {ts us : List Token} {n b i v j w p : ℕ} {F : ℕ → Type 0} {k : List Item} → IsStuck ts i v k p → SameBelow (p + 1) ts us → Runs us n b F i v k j w [] → kind_at us j ≡ None → ⊥
stuck_stops {us = us} (no_turn i v x k e other) same run end = first_stops run (ap (λ o. turn o v x k) (same i (omega arith)) ∙ e) other
stuck_stops {us = us} {n = n} (no_type i v p k stuck) same run end = let t = first_type run in stuck.none us n t.0 same t.1
stuck_stops {us = us} (left_over i v e) same run end = e (sym (same i (omega arith)) ∙ ap (λ q. kind_at us q) (ends_here run) ∙ end)

pub no_chunk : (ts us : List Token) (n p : ℕ) (b : List Stat) → Reaches ts 0 0 (block ∷ []) (λ j w l. IsStuck ts j w l p) → SameBelow (p + 1) ts us → IsChunk us n b → ⊥
no_chunk ts us n p b r same c =
    let run : Runs us n (nest_func (main_function b)) (λ i. Unit {0}) 0 0 (block ∷ []) c.stop (nest_func (main_function b)) [] = chunk_runs c (omega arith) in
    stuck_stops r.ends same (passes r.run (below ts us r.at p (stuck_from r.ends) same) run) c.whole

-- ---- where a node or a bracket too many opens, no tree is shallow

deep_from : {ts : List Token} {i v p : ℕ} {k : List Item} → IsDeep ts i v k p → i ≤ p
deep_from (deep_node i v r u x k more e less) = omega arith
deep_from (deep_type i v p k deep) = deep.from

deep_stops : {ts us : List Token} {i v j w p : ℕ} {F : ℕ → Type 0} {k : List Item} → IsDeep ts i v k p → SameBelow (p + 1) ts us → Runs us most most F i v k j w [] → ⊥
deep_stops (deep_node i v r u x k more e less) same run = let le = first_reach run (ap (λ o. turn o v x k) (same i (omega arith)) ∙ e) in absurd (omega (arith, le, less))
deep_stops {us = us} (deep_type i v p k deep) same run = let t = first_type run in deep.none us t.0 same t.1

pub no_shallow_chunk : (ts us : List Token) (p : ℕ) (b : List Stat) → Reaches ts 0 0 (block ∷ []) (λ j w l. IsDeep ts j w l p) → SameBelow (p + 1) ts us → IsChunk us most b → nest_func (main_function b) ≤ most → ⊥
no_shallow_chunk ts us p b r same c shallow = deep_stops r.ends same (passes r.run (below ts us r.at p (deep_from r.ends) same) (chunk_runs c shallow))

-- ---- a script that was read

pub read_nests : (ts : List Token) (v : ℕ) (b : List Stat) (c : IsChunk ts most b) → Leads ts 0 0 (block ∷ []) c.stop v [] → nest (numbered (main_function b)) ≤ most
read_nests ts v b c run =
    let whole : Runs ts most (nest_func (main_function b)) (λ i. Unit {0}) 0 0 (block ∷ []) c.stop (nest_func (main_function b)) [] = chunk_runs c (omega arith) in
    let same = one_end run whole in
    let le = nest_most run in
    let kept = nest_numbered (main_function b) in
    omega (arith, same.1, le, kept)
