-- The name of a function, member by member.
use Rattle.std.proofs.Common.{◌≡◌, ◌≤◌, ◌<◌, ◌+◌, ℕ, List, [], ◌∷◌, refl, sym, ap, ◌∙◌, subst, arith, Ok, Err, inl, inr}
use Rattle.byte_text.specs.declared.StrId.{StrId}
use Rattle.syntax_tree.specs.declared.token.Token.{Token}
use Rattle.syntax_tree.specs.declared.token.TokenKind.TheVariants as token
use Rattle.syntax_tree.specs.declared.tree.Expr.{Expr}
use Rattle.syntax_tree.specs.declared.tree.ExprKind as expr
use Rattle.syntax_tree.specs.Grammar.{IsMembers, no_member, more_members, IsFunctionName, function_name, method_name}
use Rattle.syntax_tree.specs.Nodes.{expr_at}
use Rattle.syntax_tree.specs.Places.{kind_at, Has, Lacks}
use Rattle.syntax_tree.specs.Words.{self_name}
use Rattle.type_skip.specs.declared.words.Word.TheVariants as word
use Rattle.parse_steps.specs.Items as item
use Rattle.parse_steps.specs.Items.{Item, depth}
use Rattle.parse_steps.specs.Steps.{most, Leads}
use Rattle.parse_steps.specs.Turns.{turn, stays, takes, word_or, next_reach}
use Rattle.expression_parser.specs.declared.fault.Fault.{Fault}
use Rattle.expression_parser.specs.declared.fault.Fault.TheVariants as fault
use Rattle.expression_parser.specs.declared.parts.Part.{Part}
use Rattle.expression_parser.specs.Reading.{FindsName}
use Rattle.luau_parser.specs.declared.parts.FunctionName.{FunctionName}
use Rattle.luau_parser.specs.Statements.{FindsFunctionName, FindsMemberName, IsMethodName}
use Rattle.expression_parser.proofs.Leading.{then_leads, then_fails, staying, taking, deep_here, nest_to, place_to}
use Rattle.expression_parser.proofs.WordTurns.{no_word}

-- ---- the turns

member_leads : (ts : List Token) (i v room : ℕ) (k : List Item) → Has ts i token.Dot → v < room → depth k + room ≡ most
    → Leads ts i v (item.members ∷ k) (i + 1) v (item.a_name ∷ item.wrap ∷ item.members ∷ k)
member_leads ts i v room k stands less deep = taking (ap (λ t. turn t v item.members k) stands) (omega (arith, less, deep)) tt

method_leads : (ts : List Token) (i v room : ℕ) (k : List Item) → Has ts i token.Colon → v < room → depth k + room ≡ most
    → Leads ts i v (item.members ∷ k) (i + 1) v (item.a_name ∷ item.wrap ∷ k)
method_leads ts i v room k stands less deep = taking (ap (λ t. turn t v item.members k) stands) (omega (arith, less, deep)) tt

no_more_members : (ts : List Token) (i v : ℕ) (k : List Item) → Lacks ts i token.Dot → Lacks ts i token.Colon
    → Leads ts i v (item.members ∷ k) i v k
no_more_members ts i v k no_dot no_colon =
    let method = takes (next_reach v k) v (item.a_name ∷ item.wrap ∷ k) in
    let other = word_or word.Colon (kind_at ts i) method (stays v k) in
    let member = takes (next_reach v k) v (item.a_name ∷ item.wrap ∷ item.members ∷ k) in
    staying (no_word ts i word.Dot member other no_dot ∙ no_word ts i word.Colon method (stays v k) no_colon)

-- ---- what was read so far

-- a name that begins at place b, up to a member
pub record MembersSoFar (ts : List Token) (room b : ℕ) (e : Expr) (nest end : ℕ) : Type 0 where
  pub first : StrId
  pub stands : Has ts b (token.Name first)
  pub whole : (a : Expr) (j : ℕ) → IsMembers ts b end e a j → IsMembers ts b (b + 1) (expr_at ts b (expr.Name first)) a j
  pub runs : (k : List Item) → depth k + room ≡ most → Leads ts b 0 (item.a_name ∷ item.members ∷ k) end nest (item.members ∷ k)
  pub small : nest ≤ room
  pub onward : b < end

pub no_first_name : (ts : List Token) (room b : ℕ) (f : Fault) → FindsName ts b (Err f) → FindsFunctionName ts room b (Err f)
no_first_name ts room b f found = λ v k deep. found 0 (item.members ∷ k)

pub first_name : (ts : List Token) (room b : ℕ) (x : StrId) (e : Expr) → FindsName ts b (Ok x) → e ≡ expr_at ts b (expr.Name x)
    → MembersSoFar ts room b e 0 (b + 1)
first_name ts room b x e found node = record {
  first = x;
  stands = found.0;
  whole = λ a j d. subst (λ (y : Expr). IsMembers ts b (b + 1) y a j) node d;
  runs = λ k deep. found.1 0 (item.members ∷ k);
  small = omega arith;
  onward = omega arith;
}

-- ---- a member

deep_name : (ts : List Token) (room b : ℕ) (e : Expr) (nest end : ℕ) → MembersSoFar ts room b e nest end → Has ts end token.Dot
    → room ≤ nest → FindsFunctionName ts room b (Err (fault.TooDeep end))
deep_name ts room b e nest end so_far dot le = λ v k deep. then_fails (so_far.runs k deep) (fault.TooDeep end)
    (deep_here (ap (λ t. turn t nest item.members k) dot) (omega (arith, le, deep)))

faulty_member : (ts : List Token) (room b : ℕ) (e : Expr) (nest end : ℕ) (f : Fault) → MembersSoFar ts room b e nest end
    → Has ts end token.Dot → nest < room → FindsName ts (end + 1) (Err f) → FindsFunctionName ts room b (Err f)
faulty_member ts room b e nest end f so_far dot less found = λ v k deep. then_fails
    (then_leads (so_far.runs k deep) (member_leads ts end nest room k dot less deep)) f (found nest (item.wrap ∷ item.members ∷ k))

next_member : (ts : List Token) (room b : ℕ) (e more : Expr) (x : StrId) (nest end : ℕ) → MembersSoFar ts room b e nest end
    → Has ts end token.Dot → nest < room → FindsName ts (end + 1) (Ok x) → more ≡ expr_at ts b (expr.Member e x)
    → MembersSoFar ts room b more (nest + 1) (end + 2)
next_member ts room b e more x nest end so_far dot less found node = record {
  first = so_far.first;
  stands = so_far.stands;
  whole = λ a j d. so_far.whole a j (more_members end j x e a dot found.0 (subst (λ (y : Expr). IsMembers ts b (end + 2) y a j) node d));
  runs = λ k deep.
      let one = then_leads (member_leads ts end nest room k dot less deep)
      (then_leads (found.1 nest (item.wrap ∷ item.members ∷ k)) (staying refl)) in
      nest_to (omega arith) (place_to (omega arith) (then_leads (so_far.runs k deep) one));
  small = omega (arith, less);
  onward = omega (arith, so_far.onward);
}

-- ---- the end of the name

-- the same name, with equal parts
abbrev Named : List Token → (room b : ℕ) → Expr → List StrId → (nest end : ℕ) → Type 0
Named ts room b e added nest end = FindsFunctionName ts room b (Ok (record { expr = e; added = added; nest = nest; end = end }))

same_name : (ts : List Token) (room b : ℕ) (d e : Expr) (xs ys : List StrId) (m n i j : ℕ) → d ≡ e → xs ≡ ys → m ≡ n → i ≡ j
    → Named ts room b e ys n j → Named ts room b d xs m i
same_name ts room b d e xs ys m n i j node added nest end found =
    let ends = subst (λ (h : ℕ). Named ts room b e ys n h) (sym end) found in
    let nests = subst (λ (h : ℕ). Named ts room b e ys h i) (sym nest) ends in
    subst (λ (x : Expr). Named ts room b x xs m i) (sym node) (subst (λ (zs : List StrId). Named ts room b e zs m i) (sym added) nests)

pub name_found : (ts : List Token) (room b : ℕ) (e : Expr) (nest end : ℕ) (added : List StrId) → MembersSoFar ts room b e nest end
    → Lacks ts end token.Dot → Lacks ts end token.Colon → added ≡ []
    → FindsFunctionName ts room b (Ok (record { expr = e; added = added; nest = nest; end = end }))
name_found ts room b e nest end added so_far no_dot no_colon none =
    let good : IsFunctionName ts b e [] end = function_name b end so_far.first e so_far.stands (so_far.whole e end (no_member end e no_dot))
    no_colon in (
      (subst (λ (xs : List StrId). IsFunctionName ts b e xs end) (sym none) good, (so_far.small, so_far.onward)),
      λ v k deep. then_leads (so_far.runs k deep) (no_more_members ts end nest k no_dot no_colon),
    )

deep_method_name : (ts : List Token) (room b : ℕ) (e : Expr) (nest end : ℕ) → MembersSoFar ts room b e nest end → Has ts end token.Colon
    → room ≤ nest → FindsFunctionName ts room b (Err (fault.TooDeep end))
deep_method_name ts room b e nest end so_far colon le = λ v k deep. then_fails (so_far.runs k deep) (fault.TooDeep end)
    (deep_here (ap (λ t. turn t nest item.members k) colon) (omega (arith, le, deep)))

faulty_method_name : (ts : List Token) (room b : ℕ) (e : Expr) (nest end : ℕ) (f : Fault) → MembersSoFar ts room b e nest end
    → Has ts end token.Colon → nest < room → FindsName ts (end + 1) (Err f) → FindsFunctionName ts room b (Err f)
faulty_method_name ts room b e nest end f so_far colon less found = λ v k deep. then_fails
    (then_leads (so_far.runs k deep) (method_leads ts end nest room k colon less deep)) f (found nest (item.wrap ∷ k))

method_name_found : (ts : List Token) (room b : ℕ) (e more : Expr) (x : StrId) (nest end : ℕ) (added : List StrId)
    → MembersSoFar ts room b e nest end → Lacks ts end token.Dot → Has ts end token.Colon → nest < room → FindsName ts (end + 1) (Ok x)
    → more ≡ expr_at ts b (expr.Member e x) → added ≡ self_name ∷ [] → FindsFunctionName ts room b
    (Ok (record { expr = more; added = added; nest = nest + 1; end = end + 2 }))
method_name_found ts room b e more x nest end added so_far no_dot colon less found node one =
    let good : IsFunctionName ts b (expr_at ts b (expr.Member e x)) (self_name ∷ []) (end + 2) = method_name b end so_far.first x e
    so_far.stands (so_far.whole e end (no_member end e no_dot)) colon found.0 in (
      (
        subst (λ (xs : List StrId). IsFunctionName ts b more xs (end + 2)) (sym one)
            (subst (λ (y : Expr). IsFunctionName ts b y (self_name ∷ []) (end + 2)) (sym node) good),
        (omega (arith, less), omega (arith, so_far.onward)),
      ),
      λ v k deep.
          let last = then_leads (method_leads ts end nest room k colon less deep)
          (then_leads (found.1 nest (item.wrap ∷ k)) (staying refl)) in
          nest_to (omega arith) (place_to (omega arith) (then_leads (so_far.runs k deep) last)),
    )

-- ---- the same, by what a further name says

pub next_name : (ts : List Token) (room b : ℕ) (left p : Part) → MembersSoFar ts room b left.expr left.nest left.end
    → Has ts left.end token.Dot → FindsMemberName ts room b left (Ok p) → MembersSoFar ts room b p.expr p.nest p.end
next_name ts room b left p so_far dot found =
    let next = next_member ts room b left.expr p.expr found.1.0 left.nest left.end so_far dot found.0 found.1.1 found.1.2 in
    subst (λ (n : ℕ). MembersSoFar ts room b p.expr n p.end) (sym found.2)
    (subst (λ (j : ℕ). MembersSoFar ts room b p.expr (left.nest + 1) j) (sym found.3) next)

pub no_next_name : (ts : List Token) (room b : ℕ) (left : Part) (f : Fault) → MembersSoFar ts room b left.expr left.nest left.end
    → Has ts left.end token.Dot → FindsMemberName ts room b left (Err f) → FindsFunctionName ts room b (Err f)
no_next_name ts room b left f so_far dot (inl (le, deep)) =
    subst (λ (g : Fault). FindsFunctionName ts room b (Err g)) (sym deep)
    (deep_name ts room b left.expr left.nest left.end so_far dot le)
no_next_name ts room b left f so_far dot (inr (less, found)) =
    faulty_member ts room b left.expr left.nest left.end f so_far dot less found

pub no_method : (ts : List Token) (room b : ℕ) (left : Part) (f : Fault) → MembersSoFar ts room b left.expr left.nest left.end
    → Has ts left.end token.Colon → FindsMemberName ts room b left (Err f) → FindsFunctionName ts room b (Err f)
no_method ts room b left f so_far colon (inl (le, deep)) =
    subst (λ (g : Fault). FindsFunctionName ts room b (Err g)) (sym deep)
    (deep_method_name ts room b left.expr left.nest left.end so_far colon le)
no_method ts room b left f so_far colon (inr (less, found)) =
    faulty_method_name ts room b left.expr left.nest left.end f so_far colon less found

pub whole_method : (ts : List Token) (room b : ℕ) (left p : Part) (n : FunctionName)
    → MembersSoFar ts room b left.expr left.nest left.end → Lacks ts left.end token.Dot → Has ts left.end token.Colon
    → FindsMemberName ts room b left (Ok p) → IsMethodName p n → FindsFunctionName ts room b (Ok n)
whole_method ts room b left p n so_far no_dot colon found made =
    same_name ts room b n.expr p.expr n.added (self_name ∷ []) n.nest (left.nest + 1) n.end (left.end + 2) made.0 made.1
    (made.2 ∙ found.2) (made.3 ∙ found.3) (method_name_found ts room b left.expr p.expr found.1.0 left.nest left.end
    (self_name ∷ []) so_far no_dot colon found.0 found.1.1 found.1.2 refl)
