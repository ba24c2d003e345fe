-- The pieces of an interpolated string, one after the other.
use Rattle.std.proofs.Common.{◌≡◌, ◌≤◌, ◌<◌, ◌+◌, ◌++◌, ℕ, max, List, [], ◌∷◌, ap, ◌∙◌, arith, Option, Some, None, Ok}
use Rattle.std.proofs.lemmas.List.{append_assoc}
use Rattle.byte_text.specs.declared.StrId.{StrId}
use Rattle.syntax_tree.specs.declared.token.Token.{Token}
use Rattle.syntax_tree.specs.declared.tree.Expr.{Expr}
use Rattle.syntax_tree.specs.Grammar.{IsExpr, IsPieces, last_piece, more_pieces}
use Rattle.syntax_tree.specs.Places.{kind_at}
use Rattle.parse_steps.specs.Classes.{middle_of, end_of}
use Rattle.parse_steps.specs.Items as item
use Rattle.parse_steps.specs.Items.{Item, depth, expression}
use Rattle.parse_steps.specs.Turns.{turn, stops, takes, name_turn}
use Rattle.parse_steps.specs.Steps.{most, Leads, here}
use Rattle.expression_parser.specs.declared.fault.Fault.TheVariants as fault
use Rattle.expression_parser.specs.Reading.{Fails}
use Rattle.expression_parser.specs.Inner.{FindsPieces}
use Rattle.expression_parser.proofs.ClassesToTokens.{has_middle, has_end}
use Rattle.expression_parser.proofs.Leading.{then_leads, taking, stuck_here, nest_to}

-- what was read behind the first text
pub record PiecesSoFar (ts : List Token) (room at : ℕ) (text : StrId) (texts : List StrId) (values : List Expr) (nest end : ℕ) : Type 0 where
  pub others : List StrId
  pub begun : texts ≡ text ∷ others
  pub whole : (xs : List StrId) (es : List Expr) (j : ℕ) → IsPieces ts most end xs es j → IsPieces ts most at (others ++ xs)
      (values ++ es) j
  pub runs : (v : ℕ) (k : List Item) → depth k + room ≡ most → Leads ts at v (expression ∷ item.pieces ∷ k) end (max v nest)
      (expression ∷ item.pieces ∷ k)
  pub small : nest ≤ room
  pub onward : at ≤ end

pub no_piece_yet : (ts : List Token) (room at : ℕ) (text : StrId) (texts : List StrId) (values : List Expr) → texts ≡ text ∷ []
    → values ≡ [] → PiecesSoFar ts room at text texts values 0 at
no_piece_yet ts room at text texts values e none = record { others = []; begun = e; whole = λ xs es j d. rw none d; runs = λ v k deep. nest_to (omega arith) (here _ _ _); small = omega arith; onward = omega arith }

-- ---- turns behind an expression

pub to_next_piece : (ts : List Token) (x : StrId) (i v : ℕ) (k : List Item) → middle_of (kind_at ts i) ≡ Some x
    → Leads ts i v (item.pieces ∷ k) (i + 1) v (expression ∷ item.pieces ∷ k)
to_next_piece ts x i v k e =
    taking
    (ap (λ (o : Option StrId). name_turn o (takes 0 v (expression ∷ item.pieces ∷ k)) (name_turn (end_of (kind_at ts i)) (takes 0 v k) stops)) e)
    (omega arith) tt

not_a_middle : (ts : List Token) (x : StrId) (i : ℕ) → end_of (kind_at ts i) ≡ Some x → middle_of (kind_at ts i) ≡ None
not_a_middle ts x i e = ap middle_of (has_end (kind_at ts i) x e)

piece_end : (ts : List Token) (i v : ℕ) (k : List Item) (o : Option StrId) → middle_of (kind_at ts i) ≡ None → end_of (kind_at ts i) ≡ o
    → turn (kind_at ts i) v item.pieces k ≡ name_turn o (takes 0 v k) stops
piece_end ts i v k o m e =
    ap
    (λ (a : Option StrId). name_turn a (takes 0 v (expression ∷ item.pieces ∷ k)) (name_turn (end_of (kind_at ts i)) (takes 0 v k) stops))
    m ∙ ap (λ (a : Option StrId). name_turn a (takes 0 v k) stops) e

pub past_last_piece : (ts : List Token) (x : StrId) (i v : ℕ) (k : List Item) → end_of (kind_at ts i) ≡ Some x
    → Leads ts i v (item.pieces ∷ k) (i + 1) v k
past_last_piece ts x i v k e = taking (piece_end ts i v k (Some x) (not_a_middle ts x i e) e) (omega arith) tt

pub no_piece : (ts : List Token) (i v : ℕ) (k : List Item) → middle_of (kind_at ts i) ≡ None → end_of (kind_at ts i) ≡ None
    → Fails ts i v (item.pieces ∷ k) (fault.Unexpected i)
no_piece ts i v k m e = stuck_here (piece_end ts i v k None m e) (λ clash. absurd cc)

-- ---- a piece more

-- to what is behind a further expression
pub past_value : (ts : List Token) (room at : ℕ) (text : StrId) (texts : List StrId) (values : List Expr) (nest end n j : ℕ)
    → PiecesSoFar ts room at text texts values nest end
    → ((v : ℕ) (k : List Item) → depth k + room ≡ most → Leads ts end v (expression ∷ k) j (max v n) k) → (v : ℕ) (k : List Item)
    → depth k + room ≡ most → Leads ts at v (expression ∷ item.pieces ∷ k) j (max v (max nest n)) (item.pieces ∷ k)
past_value ts room at text texts values nest end n j so_far inner v k deep =
    nest_to (omega arith) (then_leads (so_far.runs v k deep) (inner (max v nest) (item.pieces ∷ k) deep))

pub one_piece : (ts : List Token) (room at : ℕ) (text x : StrId) (texts texts' : List StrId) (values values' : List Expr)
    (nest nest' end n j : ℕ) (e : Expr) → PiecesSoFar ts room at text texts values nest end → IsExpr ts most end e j → n ≤ room
    → end < j → ((v : ℕ) (k : List Item) → depth k + room ≡ most → Leads ts end v (expression ∷ k) j (max v n) k)
    → middle_of (kind_at ts j) ≡ Some x → texts' ≡ texts ++ x ∷ [] → values' ≡ values ++ e ∷ [] → nest' ≡ max nest n
    → PiecesSoFar ts room at text texts' values' nest' (j + 1)
one_piece ts room at text x texts texts' values values' nest nest' end n j e so_far found small onward inner middle more_texts more_values deeper = record {
  others = so_far.others ++ x ∷ [];
  begun = more_texts ∙ ap (λ (l : List StrId). l ++ x ∷ []) so_far.begun;
  whole = λ xs es m d. rw (more_values, append_assoc so_far.others (x ∷ []) xs, append_assoc values (e ∷ []) es) (so_far.whole (x ∷ xs) (e ∷ es) m (more_pieces end j m x xs e es found (has_middle (kind_at ts j) x middle) d));
  runs = λ v k deep. nest_to (omega (arith, deeper)) (then_leads (past_value ts room at text texts values nest end n j so_far inner v k deep) (to_next_piece ts x j (max v (max nest n)) k middle));
  small = omega (arith, deeper, so_far.small, small);
  onward = omega (arith, onward, so_far.onward);
}

pub all_pieces : (ts : List Token) (room at : ℕ) (text x : StrId) (texts texts' : List StrId) (values values' : List Expr)
    (nest nest' end n j : ℕ) (e : Expr) → PiecesSoFar ts room at text texts values nest end → IsExpr ts most end e j → n ≤ room
    → end < j → ((v : ℕ) (k : List Item) → depth k + room ≡ most → Leads ts end v (expression ∷ k) j (max v n) k)
    → end_of (kind_at ts j) ≡ Some x → texts' ≡ texts ++ x ∷ [] → values' ≡ values ++ e ∷ [] → nest' ≡ max nest n
    → FindsPieces ts room at text (Ok (record { texts = texts'; values = values'; nest = nest'; end = j + 1 }))
all_pieces ts room at text x texts texts' values values' nest nest' end n j e so_far found small onward inner last more_texts more_values deeper =
    let read = so_far.whole (x ∷ []) (e ∷ []) (j + 1) (last_piece end j x e found (has_end (kind_at ts j) x last)) in (
      ((so_far.others ++ x ∷ [], more_texts ∙ ap (λ (l : List StrId). l ++ x ∷ []) so_far.begun, rw more_values read), (omega (arith, deeper, so_far.small, small), omega (arith, onward, so_far.onward))),
      λ v k deep. nest_to (omega (arith, deeper)) (then_leads (past_value ts room at text texts values nest end n j so_far inner v k deep) (past_last_piece ts x j (max v (max nest n)) k last)),
    )
