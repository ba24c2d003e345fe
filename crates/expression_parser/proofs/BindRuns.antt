-- Names with types, one after the other.
use Rattle.std.proofs.Common.{◌≡◌, ◌≤◌, ◌+◌, ℕ, true, false, List, [], ◌∷◌, ◌++◌, append_assoc, sym, ap, ◌∙◌, subst, arith, Ok, Err}
use Rattle.byte_text.specs.declared.StrId.{StrId}
use Rattle.syntax_tree.specs.declared.token.Token.{Token}
use Rattle.syntax_tree.specs.Grammar.{IsBind, IsBinds, last_bind, more_binds}
use Rattle.syntax_tree.specs.Places.{kind_at}
use Rattle.type_skip.specs.declared.words.Word.TheVariants as words
use Rattle.parse_steps.specs.Items as item
use Rattle.parse_steps.specs.Items.{Item}
use Rattle.parse_steps.specs.Turns.{stays, takes}
use Rattle.type_skip.specs.Words.{is_word}
use Rattle.parse_steps.specs.Steps.{most, Leads, here}
use Rattle.type_skip.proofs.WordTests.{has, lacks}
use Rattle.expression_parser.specs.declared.fault.Fault.{Fault}
use Rattle.expression_parser.specs.declared.parts.Bind.{Bind}
use Rattle.expression_parser.specs.Reading.{FindsBind, FindsBinds}
use Rattle.expression_parser.proofs.Leading.{then_leads, then_fails, staying, taking}
use Rattle.expression_parser.proofs.SameTurns.{word_taken, word_missing}

-- what was read so far: names up to the last one, which begins at a place
pub record BindsSoFar (ts : List Token) (begin stop : ℕ) (names : List StrId) (end : ℕ) : Type 0 where
  pub before : List StrId
  pub place : ℕ
  pub last : StrId
  pub all : names ≡ before ++ (last ∷ [])
  pub one : IsBind ts most place last end
  pub whole : (xs : List StrId) (j : ℕ) → IsBinds ts most place xs j → IsBinds ts most begin (before ++ xs) j
  pub runs : (v : ℕ) (k : List Item) → Leads ts stop v (item.bind_more ∷ k) end v (item.bind_more ∷ k)
  pub onward : stop ≤ end

pub one_name : (ts : List Token) (begin : ℕ) (x : StrId) (end : ℕ) (names : List StrId) → names ≡ x ∷ [] → IsBind ts most begin x end
    → BindsSoFar ts begin end names end
one_name ts begin x end names all one = record {
  before = [];
  place = begin;
  last = x;
  all = all;
  one = one;
  whole = λ xs j d. d;
  runs = λ v k. here _ _ _;
  onward = omega arith;
}

comma_turn : (ts : List Token) (i v : ℕ) (k : List Item) → is_word words.Comma (kind_at ts i) ≡ true
    → Leads ts i v (item.bind_more ∷ k) (i + 1) v (item.bind ∷ item.bind_more ∷ k)
comma_turn ts i v k stands = taking (word_taken words.Comma (kind_at ts i) (takes 0 v (item.bind ∷ item.bind_more ∷ k)) (stays v k) stands)
    (omega arith) tt

pub next_name : (ts : List Token) (begin stop : ℕ) (names more : List StrId) (end : ℕ) (next : Bind) → BindsSoFar ts begin stop names end
    → is_word words.Comma (kind_at ts end) ≡ true → FindsBind ts (end + 1) (Ok next) → more ≡ names ++ (next.name ∷ [])
    → BindsSoFar ts begin stop more next.end
next_name ts begin stop names more end next so_far stands found all = record {
  before = so_far.before ++ (so_far.last ∷ []);
  place = end + 1;
  last = next.name;
  all = all ∙ ap (λ (xs : List StrId). xs ++ (next.name ∷ [])) so_far.all;
  one = found.0.0;
  whole = λ xs j d. subst (λ (ys : List StrId). IsBinds ts most begin ys j) (sym (append_assoc so_far.before (so_far.last ∷ []) xs))
      (so_far.whole (so_far.last ∷ xs) j (more_binds so_far.place end j so_far.last xs so_far.one (has words.Comma (kind_at ts end) stands)
      d));
  runs = λ v k. then_leads (so_far.runs v k) (then_leads (comma_turn ts end v k stands) (found.1 v (item.bind_more ∷ k)));
  onward = omega (arith, so_far.onward, found.0.1);
}

pub faulty_name : (ts : List Token) (begin stop : ℕ) (names : List StrId) (end : ℕ) (f : Fault) → BindsSoFar ts begin stop names end
    → is_word words.Comma (kind_at ts end) ≡ true → FindsBind ts (end + 1) (Err f) → FindsBinds ts begin stop (Err f)
faulty_name ts begin stop names end f so_far stands found = λ v k. then_fails (then_leads (so_far.runs v k) (comma_turn ts end v k stands))
    f (found v (item.bind_more ∷ k))

pub all_names : (ts : List Token) (begin stop : ℕ) (names : List StrId) (end : ℕ) → BindsSoFar ts begin stop names end
    → is_word words.Comma (kind_at ts end) ≡ false → FindsBinds ts begin stop (Ok (record { names = names; end = end }))
all_names ts begin stop names end so_far stands =
    let whole = so_far.whole (so_far.last ∷ []) end (last_bind so_far.place end so_far.last so_far.one
    (lacks words.Comma (kind_at ts end) stands)) in (
      (subst (λ (ys : List StrId). IsBinds ts most begin ys end) (sym so_far.all) whole, so_far.onward),
      λ v k. then_leads (so_far.runs v k) (staying (word_missing words.Comma (kind_at ts end) (takes 0 v (item.bind ∷ item.bind_more ∷ k))
          (stays v k) stands)),
    )
