-- From the reading of a script to the answers of `parse`.
use Rattle.std.proofs.Common.{◌≡◌, ◌≢◌, ◌≤◌, ◌<◌, ◌+◌, ℕ, zero, suc, List, [], ◌∷◌, length, Option, Some, None, Ok, Err, ◌⊎◌, inl, inr, refl, sym, ap, ◌∙◌, subst, arith}
use Rattle.std.specs.Prelude.{unwrap_or, option_map}
use Rattle.std.proofs.lemmas.Bool.{cases_lt}
use Rattle.syntax_tree.specs.declared.token.Token.{Token}
use Rattle.syntax_tree.specs.declared.token.TokenKind.{TokenKind}
use Rattle.syntax_tree.specs.declared.token.TokenKind.TheVariants as token
use Rattle.syntax_tree.specs.declared.tree.Tree.{Tree}
use Rattle.syntax_tree.specs.Calls.{OpensCall, Ambiguous}
use Rattle.syntax_tree.specs.Derivations.{IsChunk, main_function, Derives}
use Rattle.syntax_tree.specs.Nest.{nest, nest_func}
use Rattle.syntax_tree.specs.Numbers.{numbered}
use Rattle.syntax_tree.specs.Places.{kind_at, Has}
use Rattle.type_skip.specs.Reading.{SameBelow}
use Rattle.syntax_tree.specs.Places.{offset_at, end_of, BeginsAs}
use Rattle.type_skip.proofs.Passing.{same_kinds, there_or_past, offset_within, first_wrong, ends_early}
use Rattle.parse_steps.specs.Items.{Item, block}
use Rattle.parse_steps.specs.Steps.{most, Leads, IsStuck, no_turn, no_type, left_over, IsDeep, deep_node, deep_type}
use Rattle.parse_steps.specs.Turns.{turn}
use Rattle.parse_steps.proofs.CanGoOn.{GoesOn, can_go_on, can_go_on_typed, can_go_on_early}
use Rattle.parse_steps.proofs.CanOpen.{can_open}
use Rattle.parse_steps.proofs.Deepness.{deep_counted, takes_within, fits_most}
use Rattle.parse_steps.proofs.Kept.{keeps}
use Rattle.parse_steps.proofs.WithinText.{runs_within}
use Rattle.expression_parser.specs.declared.parts.Block.{Block}
use Rattle.expression_parser.specs.declared.fault.Fault.{Fault}
use Rattle.expression_parser.specs.declared.fault.Fault.TheVariants as fault
use Rattle.syntax_tree.specs.Parsed.{IsShallow, IsParsed, IsUnexpected, IsTooDeep}
use Rattle.expression_parser.specs.Reading.{FindsBlock}
use Rattle.luau_parser.specs.Statements.{ReadsScript}
use Rattle.luau_parser.proofs.NumberedNest.{nest_numbered}
use Rattle.luau_parser.proofs.Whole.{no_late_call, no_chunk, no_shallow_chunk, read_nests, kinds_there, there_within}

-- the offset of a token, or of the end of all
abbrev pub shown : List Token → ℕ → ℕ
shown ts k = unwrap_or (offset_at ts k) (end_of ts)

same_self : {k : ℕ} (ts : List Token) → SameBelow k ts ts
same_self ts = λ q less. refl

-- ---- a tree

pub parsed : (ts : List Token) (b : Block) (tree : Tree) → ReadsScript ts (Ok b) → tree ≡ numbered (main_function b.stats) → IsParsed ts tree
parsed ts b tree r numbers =
    let c : IsChunk ts most b.stats = record { stop = b.end; derived = r.0; whole = r.1 } in
    let nests : nest tree ≤ most = subst (λ (t : Tree). nest t ≤ most) (sym numbers) (read_nests ts b.nest b.stats c r.2) in (
      record { block = b.stats; derived = c; numbers = numbers; nests = nests },
      λ i late. no_late_call i r.2 (kinds_there ts (i + 1) b.end token.OpenParen late.late.opens r.1) late,
    )

-- ---- refusals

-- the tokens before the one that nothing goes on with
goes_on_before : (ts : List Token) (k : ℕ) → ReadsScript ts (Err (fault.Unexpected k)) → k < length ts → GoesOn ts k
goes_on_before ts k r less = by_end r.run r.ends
  where
    by_end : {i v : ℕ} {m : List Item} → Leads ts 0 0 (block ∷ []) i v m → IsStuck ts i v m k → GoesOn ts k
    by_end run (no_turn i v x m e other) = can_go_on run
    by_end run (no_type i v p m stuck) = can_go_on_typed run (first_wrong ts i p stuck less)
    by_end run (left_over i v e) = can_go_on run

-- all tokens, where nothing goes on behind them
goes_on_behind : (ts : List Token) (k : ℕ) → ReadsScript ts (Err (fault.Unexpected k)) → length ts ≤ k → GoesOn ts (length ts)
goes_on_behind ts k r past = by_end r.run r.ends
  where
    all_read : {i v : ℕ} {m : List Item} → Leads ts 0 0 (block ∷ []) i v m → length ts ≤ i → GoesOn ts (length ts)
    all_read run le =
        let within = runs_within ts run (omega arith) in
        subst (λ (x : ℕ). GoesOn ts x) (omega (arith, le, within)) (can_go_on run)

    by_end : {i v : ℕ} {m : List Item} → Leads ts 0 0 (block ∷ []) i v m → IsStuck ts i v m k → GoesOn ts (length ts)
    by_end run (no_turn i v x m e other) = all_read run past
    by_end run (no_type i v p m stuck) = can_go_on_early run (ends_early ts i p stuck past)
    by_end run (left_over i v e) = all_read run past

goes_to_tree : {ts : List Token} {k : ℕ} → GoesOn ts k → (us : List Token) × (tree : Tree) × BeginsAs ts k us × Derives us tree
goes_to_tree g =
    (g.tokens, numbered (main_function g.block), g.begins, record { brackets = g.brackets; block = g.block; derived = g.derived; numbers = refl })

pub unexpected : (ts : List Token) (k : ℕ) → ReadsScript ts (Err (fault.Unexpected k)) → IsUnexpected ts (shown ts k)
unexpected ts k r = by_place (there_or_past ts k (cases_lt k (length ts)))
  where
    by_place : ((x : ℕ) × (offset_at ts k ≡ Some x)) ⊎ ((length ts ≤ k) × (offset_at ts k ≡ None)) → IsUnexpected ts (shown ts k)
    by_place (inl there) =
        inl (
          k,
          there.1 ∙ ap (λ o. Some (unwrap_or o (end_of ts))) (sym there.1),
          record {
            none = λ us tree begins d. no_chunk ts us d.brackets k d.block r (same_kinds ts us (k + 1) begins) d.derived;
            before = goes_to_tree (goes_on_before ts k r (offset_within ts k there.0 there.1));
          },
        )
    by_place (inr past) =
        inr (
          record {
            none = λ tree d. no_chunk ts ts d.brackets k d.block r (same_self ts) d.derived;
            before = goes_to_tree (goes_on_behind ts k r past.0);
          },
          ap (λ o. unwrap_or o (end_of ts)) past.1,
        )

-- so no tree derives
pub without_tree : (ts : List Token) (at : ℕ) → IsUnexpected ts at → (tree : Tree) → Derives ts tree → ⊥
without_tree ts at (inl wrong) tree d = wrong.2.none ts tree refl d
without_tree ts at (inr early) tree d = early.0.none tree d

shallow_func : {us : List Token} {tree : Tree} (s : IsShallow us tree) → nest_func (main_function s.block) ≤ most
shallow_func {tree = tree} s =
    let kept = nest_numbered (main_function s.block) in
    let same : nest tree ≡ nest (numbered (main_function s.block)) = ap nest s.numbers in
    let le = s.nests in
    omega (arith, kept, same, le)

pub too_deep : (ts : List Token) (k : ℕ) → ReadsScript ts (Err (fault.TooDeep k)) → k < length ts → IsTooDeep ts (shown ts k)
too_deep ts k r within = by_place (there_or_past ts k (inl within))
  where
    by_place : ((x : ℕ) × (offset_at ts k ≡ Some x)) ⊎ ((length ts ≤ k) × (offset_at ts k ≡ None)) → IsTooDeep ts (shown ts k)
    by_place (inl there) = record {
      place = k;
      offset = there.1 ∙ ap (λ o. Some (unwrap_or o (end_of ts))) (sym there.1);
      many = deep_counted r.run r.ends;
      none = λ us tree begins s. no_shallow_chunk ts us k s.block r (same_kinds ts us (k + 1) begins) s.derived (shallow_func s);
    }
    by_place (inr past) = absurd (omega (arith, past.0, within))

-- a token stands where a node or a bracket too many opens
pub deep_within : (ts : List Token) (k : ℕ) → ReadsScript ts (Err (fault.TooDeep k)) → k < length ts
deep_within ts k r = by_end r.run r.ends
  where
    by_end : {i v : ℕ} {m : List Item} → Leads ts 0 0 (block ∷ []) i v m → IsDeep ts i v m k → k < length ts
    by_end run (deep_node i v reach u x m more e less) = by_token (kind_at ts i) refl
      where
        by_token : (t : Option TokenKind) → kind_at ts i ≡ t → i < length ts
        by_token (Some t) there = there_within ts i t there
        by_token None past =
            let kept = takes_within (keeps most v x m None (fits_most run)) (sym (ap (λ t. turn t v x m) past) ∙ e) in
            absurd (omega (arith, kept.0, less))
    by_end run (deep_type i v p m deep) = deep.there

-- ---- arguments that open late

pub ambiguous : (ts : List Token) (k : ℕ) → ReadsScript ts (Err (fault.Late k)) → Ambiguous ts (shown ts k)
ambiguous ts k r =
    let late = r.ends.1 in
    let here : k ≡ late.before + 1 = sym r.ends.0 ∙ late.place in
    record {
      place = late.before;
      call = record {
        late = late.late;
        call =
            subst (λ (i : ℕ). OpensCall ts i) late.place
            (can_open (at_item r.run late.stack) late.opens (subst (λ (i : ℕ). Has ts i token.OpenParen) (sym late.place) late.late.opens));
      };
      first = λ i less earlier. no_late_call i r.run (omega (arith, less, late.place)) earlier;
      offset = sym (ap (λ i. shown ts i) here ∙ ap (λ o. unwrap_or (option_map (λ (t : Token). t.at) o) (end_of ts)) late.late.stands);
    }
  where
    at_item : {i v : ℕ} {m k : List Item} {x : Item} → Leads ts 0 0 (block ∷ []) i v m → m ≡ x ∷ k → Leads ts 0 0 (block ∷ []) i v (x ∷ k)
    at_item {i = i} {v = v} run e = subst (λ (l : List Item). Leads ts 0 0 (block ∷ []) i v l) e run

-- ---- the block that is read first

no_kind : (ts : List Token) (i : ℕ) → length ts ≤ i → kind_at ts i ≡ None
no_kind [] i le = refl
no_kind (t ∷ ts) zero le = absurd (omega (arith, le))
no_kind (t ∷ ts) (suc i) le = no_kind ts i (omega (arith, le))

some_kind : (ts : List Token) (i : ℕ) → i < length ts → kind_at ts i ≢ None
some_kind [] i less = absurd (omega (arith, less))
some_kind (t ∷ ts) zero less = λ none. absurd cc
some_kind (t ∷ ts) (suc i) less = some_kind ts i (omega (arith, less))

pub whole_fault : (ts : List Token) (f : Fault) → FindsBlock ts most 0 (Err f) → ReadsScript ts (Err f)
whole_fault ts f fails = fails 0 [] refl

pub left_over_block : (ts : List Token) (b : Block) → FindsBlock ts most 0 (Ok b) → b.end < length ts → ReadsScript ts (Err (fault.Unexpected b.end))
left_over_block ts b found less = record { at = b.end; nest = _; todo = []; run = found.1 0 [] refl; ends = left_over _ _ (some_kind ts b.end less) }

pub whole_block : (ts : List Token) (b : Block) → FindsBlock ts most 0 (Ok b) → length ts ≤ b.end → ReadsScript ts (Ok b)
whole_block ts b found le = (found.0.0, no_kind ts b.end le, subst (λ (n : ℕ). Leads ts 0 0 (block ∷ []) b.end n []) (omega arith) (found.1 0 [] refl))
