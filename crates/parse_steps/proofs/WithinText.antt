-- Turns lead to no place behind the text.
use Rattle.std.proofs.Common.{◌≡◌, ℕ, ◌+◌, ◌≤◌, Bool, true, false, if◌then◌else◌, IsTrue, nat_eq, List, length, Option, Some, None, refl, sym, ap, ◌∙◌, arith, rules, true≢false}
use Rattle.syntax_tree.specs.declared.token.Token.{Token}
use Rattle.syntax_tree.specs.declared.token.TokenKind.{TokenKind}
use Rattle.syntax_tree.specs.Grammar.{PrefixEnd, in_target, in_call, in_paren}
use Rattle.syntax_tree.specs.Places.{kind_at}
use Rattle.syntax_tree.specs.Words.{continue_name, type_name, export_name}
use Rattle.type_skip.proofs.Ends.{type_ends}
use Rattle.type_skip.proofs.GoingOn.{has_within}
use Rattle.parse_steps.specs.declared.levels.Rank.TheVariants as rank
use Rattle.type_skip.specs.declared.words.Word.{Word}
use Rattle.parse_steps.specs.Items.{Item, PrefixUse, in_expression, first_target, later_target}
use Rattle.parse_steps.specs.Items as item
use Rattle.parse_steps.specs.Steps as steps
use Rattle.parse_steps.specs.Steps.{Runs}
use Rattle.parse_steps.specs.Turns.{Turn, turn, stops, stays, takes, named_stat}
use Rattle.type_skip.specs.Words.{token_of, is_word}
use Rattle.type_skip.proofs.WordTests.{has}

-- no token is taken
abbrev pub quiet : Turn → Bool
quiet stops = true
quiet (stays u more) = true
quiet (takes reach u more) = false

no_word : (w : Word) (b : Bool) → is_word w None ≡ b → (t : Turn) → IsTrue (quiet (if b then t else stops))
no_word w false e t = refl
no_word w true e t = absurd (no_token w (has w None e))
  where
    no_token : (w : Word) → None ≡ Some (token_of w) → ⊥
    no_token w e = search (rules, e)

quiet_suffixes : (c : PrefixEnd) (u : PrefixUse) (v : ℕ) (k : List Item) → IsTrue (quiet (turn None v (item.suffixes c u) k))
quiet_suffixes c in_expression v k = refl
quiet_suffixes in_target first_target v k = refl
quiet_suffixes in_call first_target v k = refl
quiet_suffixes in_paren first_target v k = refl
quiet_suffixes in_target later_target v k = refl
quiet_suffixes in_call later_target v k = refl
quiet_suffixes in_paren later_target v k = refl

quiet_names : (a b c : Bool) (v : ℕ) (k : List Item) → IsTrue (quiet (if a then stays v k else if b then named_stat v k else if c then named_stat v k else named_stat v k))
quiet_names true b c v k = refl
quiet_names false true c v k = refl
quiet_names false false true v k = refl
quiet_names false false false v k = refl

quiet_end : (v : ℕ) (x : Item) (k : List Item) → IsTrue (quiet (turn None v x k))
quiet_end v (item.expects w) k = no_word w (is_word w None) refl (takes 0 v k)
quiet_end v (item.operations rank.Ors) k = refl
quiet_end v (item.operations rank.Ands) k = refl
quiet_end v (item.operations rank.Comparisons) k = refl
quiet_end v (item.operations rank.Sums) k = refl
quiet_end v (item.operations rank.Products) k = refl
quiet_end v (item.suffixes c u) k = quiet_suffixes c u v k
quiet_end v (item.after_name x) k = quiet_names (nat_eq x.0 continue_name.0) (nat_eq x.0 type_name.0) (nat_eq x.0 export_name.0) v k
quiet_end v _ k = refl

-- a token that is taken stands there
taken_within : (ts : List Token) (i v reach u : ℕ) (x : Item) (k more : List Item) (t : Option TokenKind) → kind_at ts i ≡ t → turn t v x k ≡ takes reach u more → i + 1 ≤ length ts
taken_within ts i v reach u x k more (Some kind) h e = omega (arith, has_within ts i kind h)
taken_within ts i v reach u x k more None h e = absurd (true≢false (sym (quiet_end v x k) ∙ ap quiet e))

pub runs_within : (ts : List Token) {n b : ℕ} {Fine : ℕ → Type 0} {i v j w : ℕ} {k l : List Item} → Runs ts n b Fine i v k j w l → i ≤ length ts → j ≤ length ts
runs_within ts (steps.here i v k) le = le
runs_within ts (steps.stay i v u j w x k more l e r) le = runs_within ts r le
runs_within ts (steps.take i v u j w reach x k more l e fits fine r) le = runs_within ts r (taken_within ts i v reach u x k more (kind_at ts i) refl e)
runs_within ts (steps.pass i v h j w k l t r) le = runs_within ts r (type_ends ts t)
