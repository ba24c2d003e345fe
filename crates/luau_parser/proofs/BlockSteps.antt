-- What a block goes on with, one after the other.
use Rattle.std.proofs.Common.{◌≡◌, ◌≢◌, ◌≤◌, ◌<◌, ◌+◌, ◌-◌, ℕ, max, Bool, true, false, ◌&&◌, ◌||◌, List, [], ◌∷◌, ◌++◌, refl, sym, ap, ◌∙◌, subst, arith, Option, Some, None, Ok, Err, length, slice_get, option_map, true≢false, append-nil, append_assoc}
use Rattle.std.proofs.lemmas.Option.{slice_get_within}
use Rattle.byte_text.specs.declared.StrId.{StrId}
use Rattle.syntax_tree.specs.declared.token.Token.{Token}
use Rattle.syntax_tree.specs.declared.token.TokenKind.{TokenKind}
use Rattle.syntax_tree.specs.declared.token.TokenKind.TheVariants as token
use Rattle.syntax_tree.specs.declared.tree.Stat.{Stat}
use Rattle.syntax_tree.specs.Grammar.{IsBlock, no_stat, typing_stat, more_stats, last_stat, IsStat}
use Rattle.syntax_tree.specs.Places.{kind_at, kind_of, is_name, is_named}
use Rattle.syntax_tree.specs.Words.{continue_name, type_name, export_name, ends_last, opens_type}
use Rattle.parse_steps.specs.declared.classes.Opening.{Opening}
use Rattle.parse_steps.specs.declared.classes.Opening.TheVariants as opens
use Rattle.parse_steps.specs.Classes.{opening}
use Rattle.parse_steps.specs.Items as item
use Rattle.parse_steps.specs.Items.{Item, depth}
use Rattle.parse_steps.specs.Steps.{most, Leads, here}
use Rattle.parse_steps.specs.Turns.{block_turn}
use Rattle.expression_parser.specs.declared.fault.Fault.{Fault}
use Rattle.luau_parser.specs.declared.parts.Statement.{Statement}
use Rattle.luau_parser.specs.declared.parts.Step.TheVariants as step
use Rattle.expression_parser.specs.Reading.{FindsBlock}
use Rattle.luau_parser.specs.Statements.{FindsStat, FindsStep, IsBehindSemicolon}
use Rattle.expression_parser.proofs.Leading.{then_leads, then_fails, staying, nest_to}
use Rattle.luau_parser.proofs.LastTurns.{ends_of_opening, stat_ends}
use Rattle.luau_parser.proofs.OneTree.{stat_form, form_t_is, form_t_some}

-- ---- one step

-- nothing more
pub ends_found : (ts : List Token) (room i : ℕ) → opening (kind_at ts i) ≡ opens.Ends → FindsStep ts room i (Ok step.Ends)
ends_found ts room i h = (ends_of_opening (kind_at ts i) h, λ v k deep. staying (ap (λ (o : Opening). block_turn o v k) h))

-- a statement that does not begin with a name
no_name_there : (t u : Option TokenKind) (last : Bool) → ((x : StrId) → opening t ≢ opens.Name x)
    → ((is_named type_name t && is_name u) || (is_named export_name t && is_named type_name u) ≡ false) ×
    (is_named continue_name t && last ≡ false)
no_name_there (Some (token.Name x)) u last h = absurd (h x refl)
no_name_there _ u last h = (refl, refl)

pub stat_found : (ts : List Token) (room i end : ℕ) (s : Statement) → ((x : StrId) → opening (kind_at ts i) ≢ opens.Name x)
    → FindsStat ts room i (Ok s) → IsBehindSemicolon ts s.end end
    → FindsStep ts room i (Ok (step.Stat (record { stat = s.stat; nest = s.nest; end = end })))
stat_found ts room i end s no_name found behind =
    let none = no_name_there (kind_at ts i) (kind_at ts (i + 1)) (ends_last ts (i + 1)) no_name in (
      ((none.0, none.1, (s.end, found.0.0, behind.0)), (found.0.1.0, omega (arith, found.0.1.1, behind.1))),
      λ v k deep. then_leads (found.1 v k deep) (stat_ends ts (max v s.nest) k behind.0),
    )

-- ---- where a statement begins, a token stands

pub stat_within : (ts : List Token) (i j : ℕ) (s : Stat) → IsStat ts most i s j → i < length ts
stat_within ts i j s d = decide (slice_get ts i) refl
  where
    decide : (o : Option Token) → slice_get ts i ≡ o → i < length ts
    decide (Some t) e = slice_get_within ts i t e
    decide None e =
        let none : stat_form (kind_at ts i) ≡ 0 = ap (λ (o : Option Token). stat_form (option_map kind_of o)) e in
        absurd (omega (arith, form_t_some d, form_t_is d, none))

pub type_within : (ts : List Token) (i : ℕ) → opens_type ts i ≡ true → i < length ts
type_within ts i h = decide (slice_get ts i) refl
  where
    decide : (o : Option Token) → slice_get ts i ≡ o → i < length ts
    decide (Some t) e = slice_get_within ts i t e
    decide None e =
        let none : opens_type ts i ≡ false =
        ap (λ (o : Option Token). (is_named type_name (option_map kind_of o) && is_name (kind_at ts (i + 1))) ||
        (is_named export_name (option_map kind_of o) && is_named type_name (kind_at ts (i + 1)))) e in
        absurd (true≢false (sym h ∙ none))

-- ---- statements so far

pub record BlockSoFar (ts : List Token) (room i : ℕ) (stats : List Stat) (nest end : ℕ) : Type 0 where
  pub whole : (rest : List Stat) (j : ℕ) → IsBlock ts most end rest j → IsBlock ts most i (stats ++ rest) j
  pub runs : (v : ℕ) (k : List Item) → depth k + room ≡ most → Leads ts i v (item.block ∷ k) end (max v nest) (item.block ∷ k)
  pub low : nest ≤ room
  pub onward : i ≤ end

pub no_stats_yet : (ts : List Token) (room i : ℕ) (stats : List Stat) → stats ≡ [] → BlockSoFar ts room i stats 0 i
no_stats_yet ts room i stats none = record {
  whole = λ rest j d. subst (λ (s : List Stat). IsBlock ts most i (s ++ rest) j) (sym none) d;
  runs = λ v k deep. nest_to (omega arith) (here _ _ _);
  low = omega arith;
  onward = omega arith;
}

pub one_type : (ts : List Token) (room i : ℕ) (stats : List Stat) (nest end behind : ℕ) → BlockSoFar ts room i stats nest end
    → FindsStep ts room end (Ok (step.Types behind)) → BlockSoFar ts room i stats nest behind
one_type ts room i stats nest end behind so_far found = record {
  whole = λ rest j d. so_far.whole rest j (typing_stat end found.0.0.1.0 behind j rest found.0.0.0 found.0.0.1.1 found.0.0.1.2 d);
  runs = λ v k deep. then_leads (so_far.runs v k deep) (found.1 (max v nest) k deep);
  low = so_far.low;
  onward = omega (arith, so_far.onward, found.0.1);
}

-- statements behind one more
joined : (stats rest : List Stat) (s : Stat) (all : List Stat) → all ≡ stats ++ (s ∷ []) → stats ++ (s ∷ rest) ≡ all ++ rest
joined stats rest s all e = sym (ap (λ (l : List Stat). l ++ rest) e ∙ append_assoc stats (s ∷ []) rest)

pub one_stat : (ts : List Token) (room i : ℕ) (stats all : List Stat) (nest end greatest : ℕ) (s : Statement)
    → BlockSoFar ts room i stats nest end → FindsStep ts room end (Ok (step.Stat s)) → all ≡ stats ++ (s.stat ∷ [])
    → greatest ≡ max nest s.nest
    → BlockSoFar ts room i all greatest s.end
one_stat ts room i stats all nest end greatest s so_far found pushed most_of_all = record {
  whole = λ rest j d.
      subst (λ (l : List Stat). IsBlock ts most i l j) (joined stats rest s.stat all pushed)
      (so_far.whole (s.stat ∷ rest) j
      (more_stats end found.0.0.2.0 s.end j s.stat rest found.0.0.0 found.0.0.1 found.0.0.2.1 found.0.0.2.2 d));
  runs = λ v k deep. nest_to (omega (arith, most_of_all)) (then_leads (so_far.runs v k deep) (found.1 (max v nest) k deep));
  low = omega (arith, most_of_all, so_far.low, found.0.1.0);
  onward = omega (arith, so_far.onward, found.0.1.1);
}

-- what is left grows less
pub less_behind_type : (ts : List Token) (room end behind : ℕ) → FindsStep ts room end (Ok (step.Types behind))
    → length ts - behind < length ts - end
less_behind_type ts room end behind found = omega (arith, type_within ts end found.0.0.0, found.0.1)

pub less_behind_stat : (ts : List Token) (room end : ℕ) (s : Statement) → FindsStep ts room end (Ok (step.Stat s))
    → length ts - s.end < length ts - end
less_behind_stat ts room end s found = omega (arith, stat_within ts end found.0.0.2.0 s.stat found.0.0.2.1, found.0.1.1)

pub no_more_stats : (ts : List Token) (room i : ℕ) (stats : List Stat) (nest end : ℕ) → BlockSoFar ts room i stats nest end
    → FindsStep ts room end (Ok step.Ends) → FindsBlock ts room i (Ok (record { stats = stats; nest = nest; end = end }))
no_more_stats ts room i stats nest end so_far found = (
  (
    subst (λ (l : List Stat). IsBlock ts most i l end) (append-nil stats)
        (so_far.whole [] end (no_stat end found.0)),
    so_far.low,
    so_far.onward,
  ),
  λ v k deep. then_leads (so_far.runs v k deep) (found.1 (max v nest) k deep),
)

pub one_last : (ts : List Token) (room i : ℕ) (stats all : List Stat) (nest end greatest : ℕ) (s : Statement)
    → BlockSoFar ts room i stats nest end → FindsStep ts room end (Ok (step.Last s)) → all ≡ stats ++ (s.stat ∷ [])
    → greatest ≡ max nest s.nest
    → FindsBlock ts room i (Ok (record { stats = all; nest = greatest; end = s.end }))
one_last ts room i stats all nest end greatest s so_far found pushed most_of_all = (
  (
    subst (λ (l : List Stat). IsBlock ts most i l s.end) (sym pushed)
        (so_far.whole (s.stat ∷ []) s.end (last_stat end found.0.0.0 s.end s.stat found.0.0.1 found.0.0.2 found.0.0.3)),
    omega (arith, most_of_all, so_far.low, found.0.1.0),
    omega (arith, so_far.onward, found.0.1.1),
  ),
  λ v k deep. nest_to (omega (arith, most_of_all)) (then_leads (so_far.runs v k deep) (found.1 (max v nest) k deep)),
)

pub step_fails : (ts : List Token) (room i : ℕ) (stats : List Stat) (nest end : ℕ) (f : Fault) → BlockSoFar ts room i stats nest end
    → FindsStep ts room end (Err f) → FindsBlock ts room i (Err f)
step_fails ts room i stats nest end f so_far found = λ v k deep. then_fails (so_far.runs v k deep) f (found (max v nest) k deep)
