-- What a run reads for a block.
use Rattle.std.proofs.Common.{◌≡◌, ◌≢◌, ℕ, suc, ◌+◌, ◌&&◌, ◌||◌, Bool, true, false, if◌then◌else◌, IsTrue, IsFalse, nat_eq, List, [], ◌∷◌, Option, Some, None, refl, sym, ap, ◌∙◌, true≢false}
use Rattle.std.proofs.lemmas.Bool.{eqb-true}
use Rattle.byte_text.specs.declared.StrId.{StrId}
use Rattle.syntax_tree.specs.declared.token.TokenKind.{TokenKind}
use Rattle.syntax_tree.specs.declared.token.TokenKind.TheVariants as token
use Rattle.syntax_tree.specs.declared.tree.ExprKind as expr
use Rattle.syntax_tree.specs.declared.tree.Stat.{Stat}
use Rattle.syntax_tree.specs.declared.tree.StatKind as stat
use Rattle.syntax_tree.specs.Grammar as grammar
use Rattle.syntax_tree.specs.Grammar.{in_target, in_paren, IsStat, IsLast, IsTypeDefinition, IsBlock}
use Rattle.syntax_tree.specs.Nodes.{expr_at, stat_at}
use Rattle.syntax_tree.specs.Places.{kind_at, Has, Lacks, is_name, is_named, Optional, taken, absent}
use Rattle.syntax_tree.specs.Words.{continue_name, type_name, export_name, ends_block, is_semicolon, ends_last, is_continue, opens_type}
use Rattle.type_skip.specs.declared.words.Word.TheVariants as word
use Rattle.parse_steps.proofs.CallPlaces.{calls_stat, calls_stats}
use Rattle.parse_steps.specs.Classes as classes
use Rattle.parse_steps.specs.Items.{Item, first_target}
use Rattle.parse_steps.specs.Items as item
use Rattle.parse_steps.specs.Turns.{block_turn, ending_turn, return_turn, after_continue, after_type, after_export, named_stat, type_items}
use Rattle.parse_steps.proofs.Accepting.{Text, Rest, After, Passes, Reads, turned, turned_once, by_word, read_word, read_name, raised, wrapped, anything, in_order, same, named}
use Rattle.parse_steps.proofs.NodeCalls.{calls_name, calls_paren, calls_return}
use Rattle.parse_steps.proofs.Readings.{All}
use Rattle.parse_steps.proofs.ReadBodies.{read_generics}
use Rattle.parse_steps.proofs.ReadLevels.{from, below_greater, below_wrap, read_expr}
use Rattle.parse_steps.proofs.ReadParts.{two_places, read_list, nameless}
use Rattle.parse_steps.proofs.ReadStatements.{read_first, read_do, read_while, read_repeat, read_if, read_for, read_function, read_local}

-- ---- tests of names

unnamed : (id : StrId) (t : Option TokenKind) → IsFalse (is_name t) → IsFalse (is_named id t)
unnamed id (Some (token.Name x)) h = absurd (true≢false h)
unnamed id _ h = refl

neither : (a b c d : Bool) → IsFalse a → IsFalse c → IsFalse ((a && b) || (c && d))
neither false b false d h g = refl
neither true b c d h g = absurd (true≢false h)
neither false b true d h g = absurd (true≢false g)

neither_second : (a b c d : Bool) → IsFalse b → IsFalse c → IsFalse ((a && b) || (c && d))
neither_second false false false d h g = refl
neither_second true false false d h g = refl
neither_second a true c d h g = absurd (true≢false h)
neither_second a false true d h g = absurd (true≢false g)

neither_last : (a b c d : Bool) → IsFalse a → IsFalse d → IsFalse ((a && b) || (c && d))
neither_last false b false false h g = refl
neither_last false b true false h g = refl
neither_last true b c d h g = absurd (true≢false h)
neither_last false b c true h g = absurd (true≢false g)

first_both : (a b c d : Bool) → IsTrue a → IsTrue b → IsTrue ((a && b) || (c && d))
first_both true true c d h g = refl
first_both false b c d h g = absurd (true≢false (sym h))
first_both true false c d h g = absurd (true≢false (sym g))

second_both : (a b c d : Bool) → IsTrue c → IsTrue d → IsTrue ((a && b) || (c && d))
second_both true true true true h g = refl
second_both true false true true h g = refl
second_both false b true true h g = refl
second_both a b false d h g = absurd (true≢false (sym h))
second_both a b true false h g = absurd (true≢false (sym g))

not_both : (a b : Bool) → IsFalse a → IsFalse (a && b)
not_both false b h = refl
not_both true b h = absurd (true≢false h)

not_second : (a b : Bool) → IsFalse b → IsFalse (a && b)
not_second true false h = refl
not_second false false h = refl
not_second a true h = absurd (true≢false h)

both_true : (a b : Bool) → IsTrue a → IsTrue b → IsTrue (a && b)
both_true true true h g = refl
both_true false b h g = absurd (true≢false (sym h))
both_true true false h g = absurd (true≢false (sym g))

-- what ends a last statement: the end of a block, or a `;` before one
ends_now : (a b c : Bool) → IsTrue a → IsTrue (a || (b && c))
ends_now true b c h = refl
ends_now false b c h = absurd (true≢false (sym h))

ends_then : (a b c : Bool) → IsTrue b → IsTrue c → IsTrue (a || (b && c))
ends_then true b c h g = refl
ends_then false true true h g = refl
ends_then false false c h g = absurd (true≢false (sym h))
ends_then false true false h g = absurd (true≢false (sym g))

ends_not : (a b c : Bool) → IsFalse a → IsFalse b → IsFalse (a || (b && c))
ends_not false false c h g = refl
ends_not true b c h g = absurd (true≢false h)
ends_not false true c h g = absurd (true≢false g)

no_semicolon : (t : Option TokenKind) → t ≢ Some token.Semicolon → IsFalse (is_semicolon t)
no_semicolon (Some token.Semicolon) h = absurd (h refl)
no_semicolon _ h = refl

ends_with_none : (s : Text) (i : ℕ) → IsTrue (ends_block (kind_at s.tokens i)) → Lacks s.tokens i token.Semicolon
ends_with_none s i h there = true≢false (sym h ∙ ap ends_block there)

-- a word begins no definition of a type and no `continue`
no_type_word : (s : Text) (i : ℕ) (t : TokenKind) → Has s.tokens i t → IsFalse (is_name (Some t)) → IsFalse (opens_type s.tokens i)
no_type_word s i t h g =
    neither (is_named type_name (kind_at s.tokens i)) (is_name (kind_at s.tokens (i + 1))) (is_named export_name (kind_at s.tokens i)) (is_named type_name (kind_at s.tokens (i + 1)))
    (unnamed type_name (kind_at s.tokens i) (ap is_name h ∙ g)) (unnamed export_name (kind_at s.tokens i) (ap is_name h ∙ g))

no_continue_word : (s : Text) (i : ℕ) (t : TokenKind) → Has s.tokens i t → IsFalse (is_name (Some t)) → IsFalse (is_continue s.tokens i)
no_continue_word s i t h g = not_both (is_named continue_name (kind_at s.tokens i)) (ends_last s.tokens (i + 1)) (unnamed continue_name (kind_at s.tokens i) (ap is_name h ∙ g))

-- ---- behind a statement

record Goes (s : Text) (i : ℕ) (b : List Stat) (stop : ℕ) : Type 0 where
  pub middle : ℕ
  pub semicolon : Optional s.tokens token.Semicolon i middle
  pub is : IsBlock s.tokens s.brackets middle b stop

read_stat_end : {s : Text} {g i : ℕ} {k : List Item} {f : Bool} → All s g → Rest s g i (item.stat_end ∷ k) f → Reads s (List Stat) (λ b j. Goes s i b j) calls_stats [] g k f
read_stat_end {i = i} h r =
    by_word word.Semicolon _ _ (turned_once r)
    (λ stands rest.
    let b = h.block rest in
    record { tree = b.tree; stop = b.stop; is = record { middle = i + 1; semicolon = taken i stands; is = b.is }; owed = b.owed; owes = b.owes; rest = b.rest })
    (λ lacks rest.
    let b = h.block rest.rest in
    record { tree = b.tree; stop = b.stop; is = record { middle = i; semicolon = absent i lacks; is = b.is }; owed = b.owed; owes = b.owes; rest = b.rest })

-- a statement, and the block behind it
read_more : {s : Text} {g i : ℕ} {k : List Item} {f : Bool} → All s g → IsFalse (opens_type s.tokens i) → IsFalse (is_continue s.tokens i) → Reads s Stat (λ q j. IsStat s.tokens s.brackets i q j) calls_stat [] g (item.stat_end ∷ k) f → Reads s (List Stat) (λ b j. IsBlock s.tokens s.brackets i b j) calls_stats [] g k f
read_more {i = i} h no_type no_continue q =
    let b = read_stat_end h q.rest in
    record { tree = q.tree ∷ b.tree; stop = b.stop; is = grammar.more_stats i q.stop b.is.middle b.stop q.tree b.tree no_type no_continue q.is b.is.semicolon b.is.is; owed = b.owed; owes = in_order (calls_stat q.tree) (calls_stats b.tree) q.owes b.owes; rest = b.rest }

-- one that a word begins
read_word_stat : {s : Text} {g i : ℕ} {k : List Item} {f : Bool} → All s g → (t : TokenKind) → Has s.tokens i t → IsFalse (is_name (Some t)) → Reads s Stat (λ q j. IsStat s.tokens s.brackets i q j) calls_stat [] g (item.stat_end ∷ k) f → Reads s (List Stat) (λ b j. IsBlock s.tokens s.brackets i b j) calls_stats [] g k f
read_word_stat {s = s} {i = i} h t stands other q = read_more h (no_type_word s i t stands other) (no_continue_word s i t stands other) q

-- ---- last statements

read_ending : {s : Text} {g i : ℕ} {k : List Item} {f : Bool} (b : Bool) (v : ℕ) → After s g i ⊥ false f (ending_turn b v k) → IsTrue b × Rest s g i k f
read_ending true v a = (refl, a.rest)
read_ending false v a = absurd a.rest

read_block_end : {s : Text} {g i : ℕ} {k : List Item} {f : Bool} → Rest s g i (item.block_end ∷ k) f → IsTrue (ends_block (kind_at s.tokens i)) × Rest s g i k f
read_block_end {s = s} {i = i} r = read_ending (ends_block (kind_at s.tokens i)) r.nest (turned_once r)

record Ends (s : Text) (i stop : ℕ) : Type 0 where
  pub semicolon : Optional s.tokens token.Semicolon i stop
  pub ends : IsTrue (ends_block (kind_at s.tokens stop))

read_last_end : {s : Text} {g i : ℕ} {k : List Item} {f : Bool} → Rest s g i (item.last_end ∷ k) f → Passes s (Unit {0}) (λ u j. Ends s i j) g k f
read_last_end {s = s} {i = i} r =
    by_word word.Semicolon _ _ (turned_once r)
    (λ stands rest.
    let e = read_block_end rest in
    record { tree = tt; stop = i + 1; is = record { semicolon = taken i stands; ends = e.0 }; rest = e.1 })
    (λ lacks rest.
    let e = read_ending (ends_block (kind_at s.tokens i)) r.nest rest in
    record { tree = tt; stop = i; is = record { semicolon = absent i lacks; ends = e.0 }; rest = e.1 })

-- a last statement, and the end of its block
read_last : {s : Text} {g i : ℕ} {k : List Item} {f : Bool} → Reads s Stat (λ q j. IsLast s.tokens s.brackets i q j) calls_stat [] g (item.last_end ∷ k) f → Reads s (List Stat) (λ b j. IsBlock s.tokens s.brackets i b j) calls_stats [] g k f
read_last {i = i} q =
    let e = read_last_end q.rest in
    record { tree = q.tree ∷ []; stop = e.stop; is = grammar.last_stat i q.stop e.stop q.tree q.is e.is.semicolon e.is.ends; owed = q.owed; owes = in_order (calls_stat q.tree) [] q.owes (λ o. o); rest = e.rest }

-- a last statement without parts
bare_last : {s : Text} {g i : ℕ} {k : List Item} {f : Bool} (q : Stat) (j stop : ℕ) → IsLast s.tokens s.brackets i q j → Optional s.tokens token.Semicolon j stop → IsTrue (ends_block (kind_at s.tokens stop)) → Rest s g stop k f → Reads s (List Stat) (λ b j. IsBlock s.tokens s.brackets i b j) calls_stats [] g k f
bare_last {i = i} {f = f} q j stop d o e r = record { tree = q ∷ []; stop = stop; is = grammar.last_stat i j stop q d o e; owed = f; owes = anything (calls_stats (q ∷ [])); rest = r }

read_return_by : {s : Text} {g : ℕ} {k : List Item} {f : Bool} → All s g → (i v : ℕ) → Has s.tokens i token.Return → (b : Bool) → ends_block (kind_at s.tokens (i + 1)) ≡ b → After s g (i + 1) ⊥ false f (return_turn b (kind_at s.tokens (i + 1)) v k) → Reads s (List Stat) (λ q j. IsBlock s.tokens s.brackets i q j) calls_stats [] g k f
read_return_by {s = s} h i v stands true e a =
    bare_last (stat_at s.tokens i (stat.Return [])) (i + 1) (i + 1) (grammar.bare_return i stands (ends_now _ (is_semicolon (kind_at s.tokens (i + 1))) (ends_block (kind_at s.tokens (i + 1 + 1))) e)) (absent (i + 1) (ends_with_none s (i + 1) e)) e a.rest
read_return_by {s = s} h i v stands false e a =
    by_word word.Semicolon _ _ a
    (λ semicolon rest.
    let n = read_block_end rest in
    bare_last (stat_at s.tokens i (stat.Return [])) (i + 1) (i + 1 + 1) (grammar.bare_return i stands (ends_then (ends_block (kind_at s.tokens (i + 1))) _ _ (ap is_semicolon semicolon) n.0)) (taken (i + 1) semicolon) n.0 n.1)
    (λ lacks rest.
    let l = read_list h rest.rest in
    read_last (record { tree = stat_at s.tokens i (stat.Return l.tree); stop = l.stop; is = grammar.return i l.stop l.tree stands (ends_not _ _ (ends_block (kind_at s.tokens (i + 1 + 1))) e (no_semicolon (kind_at s.tokens (i + 1)) lacks)) l.is; owed = l.owed; owes = λ o. same (calls_return s.tokens i l.tree) (l.owes o); rest = l.rest }))

read_return : {s : Text} {g : ℕ} {k : List Item} {f : Bool} → All s g → (i : ℕ) → Has s.tokens i token.Return → Rest s g (i + 1) (item.return_list ∷ k) f → Reads s (List Stat) (λ q j. IsBlock s.tokens s.brackets i q j) calls_stats [] g k f
read_return {s = s} h i stands r = read_return_by h i r.nest stands (ends_block (kind_at s.tokens (i + 1))) refl (turned_once r)

read_break : {s : Text} {g : ℕ} {k : List Item} {f : Bool} (i : ℕ) → Has s.tokens i token.Break → Rest s g (i + 1) (item.last_end ∷ k) f → Reads s (List Stat) (λ q j. IsBlock s.tokens s.brackets i q j) calls_stats [] g k f
read_break {s = s} {f = f} i stands r = read_last (record { tree = stat_at s.tokens i stat.Break; stop = i + 1; is = grammar.break i stands; owed = f; owes = anything (calls_stat (stat_at s.tokens i stat.Break)); rest = r })

-- ---- statements that begin with a name

-- an assignment or a call
read_named_stat : {s : Text} {g v : ℕ} {k : List Item} {f : Bool} → All s g → (i : ℕ) (x : StrId) → Has s.tokens i (token.Name x) → IsFalse (opens_type s.tokens i) → IsFalse (is_continue s.tokens i) → Rest s g (i + 1) (item.suffixes in_target first_target ∷ item.greater v ∷ item.stat_end ∷ k) f → Reads s (List Stat) (λ b j. IsBlock s.tokens s.brackets i b j) calls_stats [] g k f
read_named_stat {s = s} h i x name no_type no_continue r = read_more h no_type no_continue (below_greater (from (λ o. same (calls_name s.tokens i x) o) (read_first h i in_target (expr_at s.tokens i (expr.Name x)) (λ e d j is. grammar.name i j x e d name is) r)))

-- the definition of a type, behind its words
record Defines (s : Text) (i : ℕ) (b : List Stat) (stop : ℕ) : Type 0 where
  pub end : ℕ
  pub definition : IsTypeDefinition s.tokens s.brackets i end
  pub goes : Goes s end b stop

read_definition : {s : Text} {g : ℕ} {k : List Item} {f : Bool} → All s g → (i : ℕ) (x : StrId) → Has s.tokens i (token.Name x) → Rest s g (i + 1) (type_items k) f → Reads s (List Stat) (λ b j. Defines s i b j) calls_stats [] g k f
read_definition h i x name r =
    let p = read_generics h r in
    let q = read_word word.Equal p.rest in
    let t = (turned_once q.1).rest in
    let b = read_stat_end h t.rest in
    record { tree = b.tree; stop = b.stop; is = record { end = t.stop; definition = grammar.type_definition i p.stop t.stop x name p.is q.0 t.is; goes = b.is }; owed = b.owed; owes = b.owes; rest = b.rest }

named_tests : (s : Text) (i : ℕ) (x id : StrId) → Has s.tokens i (token.Name x) → is_named id (kind_at s.tokens i) ≡ nat_eq x.0 id.0
named_tests s i x id name = ap (is_named id) name

same_name : (x id : StrId) → nat_eq x.0 id.0 ≡ true → x ≡ id
same_name x id h = ap (λ (n : ℕ). let y : StrId = record { 0 = n } in y) (eqb-true x.0 id.0 h)

read_continue : {s : Text} {g : ℕ} {k : List Item} {f : Bool} → All s g → (i v : ℕ) (x : StrId) → Has s.tokens i (token.Name x) → x ≡ continue_name → (b : Bool) → ends_block (kind_at s.tokens (i + 1)) ≡ b → After s g (i + 1) ⊥ false f (after_continue b (kind_at s.tokens (i + 1)) v k) → Reads s (List Stat) (λ q j. IsBlock s.tokens s.brackets i q j) calls_stats [] g k f
read_continue {s = s} h i v x name e true n a =
    bare_last (stat_at s.tokens i stat.Continue) (i + 1) (i + 1) (grammar.continue i (both_true _ _ (ap (is_named continue_name) name ∙ ap (λ (y : StrId). nat_eq y.0 2) e) (ends_now _ (is_semicolon (kind_at s.tokens (i + 1))) (ends_block (kind_at s.tokens (i + 1 + 1))) n))) (absent (i + 1) (ends_with_none s (i + 1) n)) n a.rest
read_continue {s = s} h i v x name e false n a =
    by_word word.Semicolon _ _ a
    (λ semicolon rest.
    let m = read_block_end rest in
    bare_last (stat_at s.tokens i stat.Continue) (i + 1) (i + 1 + 1) (grammar.continue i (both_true _ _ (ap (is_named continue_name) name ∙ ap (λ (y : StrId). nat_eq y.0 2) e) (ends_then (ends_block (kind_at s.tokens (i + 1))) _ _ (ap is_semicolon semicolon) m.0))) (taken (i + 1) semicolon) m.0 m.1)
    (λ lacks rest.
    read_named_stat h i x name
    (neither _ (is_name (kind_at s.tokens (i + 1))) _ (is_named type_name (kind_at s.tokens (i + 1))) (ap (is_named type_name) name ∙ ap (λ (y : StrId). nat_eq y.0 3) e) (ap (is_named export_name) name ∙ ap (λ (y : StrId). nat_eq y.0 4) e))
    (not_second (is_named continue_name (kind_at s.tokens i)) _ (ends_not _ _ (ends_block (kind_at s.tokens (i + 1 + 1))) n (no_semicolon (kind_at s.tokens (i + 1)) lacks)))
    rest.rest)

read_type_stat : {s : Text} {g : ℕ} {k : List Item} {f : Bool} → All s g → (i v : ℕ) (x : StrId) → Has s.tokens i (token.Name x) → x ≡ type_name → (o : Option StrId) → classes.name_of (kind_at s.tokens (i + 1)) ≡ o → After s g (i + 1) ⊥ false f (after_type o v k) → Reads s (List Stat) (λ q j. IsBlock s.tokens s.brackets i q j) calls_stats [] g k f
read_type_stat {s = s} h i v x name e (Some y) n a =
    let there = named (kind_at s.tokens (i + 1)) y n in
    let b = read_definition h (i + 1) y there a.rest in
    record {
      tree = b.tree;
      stop = b.stop;
      is = grammar.typing_stat i b.is.end b.is.goes.middle b.stop b.tree (first_both _ _ _ (is_named type_name (kind_at s.tokens (i + 1))) (ap (is_named type_name) name ∙ ap (λ (y : StrId). nat_eq y.0 3) e) (ap is_name there)) (grammar.private_type i b.is.end (name ∙ ap (λ (y : StrId). Some (token.Name y)) e) b.is.definition) b.is.goes.semicolon b.is.goes.is;
      owed = b.owed;
      owes = b.owes;
      rest = b.rest;
    }
read_type_stat {s = s} h i v x name e None n a =
    read_named_stat h i x name
    (neither_second (is_named type_name (kind_at s.tokens i)) _ _ (is_named type_name (kind_at s.tokens (i + 1))) (nameless (kind_at s.tokens (i + 1)) n) (ap (is_named export_name) name ∙ ap (λ (y : StrId). nat_eq y.0 4) e))
    (not_both _ (ends_last s.tokens (i + 1)) (ap (is_named continue_name) name ∙ ap (λ (y : StrId). nat_eq y.0 2) e))
    a.rest

is_type_name : (t : Option TokenKind) → is_named type_name t ≡ true → t ≡ Some (token.Name type_name)
is_type_name (Some (token.Name x)) h = ap (λ (y : StrId). Some (token.Name y)) (same_name x type_name h)
is_type_name _ h = absurd (true≢false (sym h))

read_export : {s : Text} {g : ℕ} {k : List Item} {f : Bool} → All s g → (i v : ℕ) (x : StrId) → Has s.tokens i (token.Name x) → x ≡ export_name → (b : Bool) → is_named type_name (kind_at s.tokens (i + 1)) ≡ b → After s g (i + 1) ⊥ false f (after_export b v k) → Reads s (List Stat) (λ q j. IsBlock s.tokens s.brackets i q j) calls_stats [] g k f
read_export {s = s} h i v x name e true n a =
    let there = is_type_name (kind_at s.tokens (i + 1)) n in
    let y = read_name (two_places i a.rest) in
    let b = read_definition h (i + 2) y.0 y.1 y.2 in
    record {
      tree = b.tree;
      stop = b.stop;
      is = grammar.typing_stat i b.is.end b.is.goes.middle b.stop b.tree (second_both (is_named type_name (kind_at s.tokens i)) (is_name (kind_at s.tokens (i + 1))) _ _ (ap (is_named export_name) name ∙ ap (λ (y : StrId). nat_eq y.0 4) e) n) (grammar.exported_type i b.is.end (name ∙ ap (λ (y : StrId). Some (token.Name y)) e) there b.is.definition) b.is.goes.semicolon b.is.goes.is;
      owed = b.owed;
      owes = b.owes;
      rest = b.rest;
    }
read_export {s = s} h i v x name e false n a =
    read_named_stat h i x name
    (neither_last _ (is_name (kind_at s.tokens (i + 1))) (is_named export_name (kind_at s.tokens i)) _ (ap (is_named type_name) name ∙ ap (λ (y : StrId). nat_eq y.0 3) e) n)
    (not_both _ (ends_last s.tokens (i + 1)) (ap (is_named continue_name) name ∙ ap (λ (y : StrId). nat_eq y.0 2) e))
    a.rest

read_name_by : {s : Text} {g : ℕ} {k : List Item} {f : Bool} → All s g → (i v : ℕ) (x : StrId) → Has s.tokens i (token.Name x) → (a b c : Bool) → nat_eq x.0 continue_name.0 ≡ a → nat_eq x.0 type_name.0 ≡ b → nat_eq x.0 export_name.0 ≡ c → After s g (i + 1) ⊥ false f (if a then after_continue (ends_block (kind_at s.tokens (i + 1))) (kind_at s.tokens (i + 1)) v k else if b then after_type (classes.name_of (kind_at s.tokens (i + 1))) v k else if c then after_export (is_named type_name (kind_at s.tokens (i + 1))) v k else named_stat v k) → Reads s (List Stat) (λ q j. IsBlock s.tokens s.brackets i q j) calls_stats [] g k f
read_name_by {s = s} h i v x name true b c ea eb ec t = read_continue h i v x name (same_name x continue_name ea) (ends_block (kind_at s.tokens (i + 1))) refl t
read_name_by {s = s} h i v x name false true c ea eb ec t = read_type_stat h i v x name (same_name x type_name eb) (classes.name_of (kind_at s.tokens (i + 1))) refl t
read_name_by {s = s} h i v x name false false true ea eb ec t = read_export h i v x name (same_name x export_name ec) (is_named type_name (kind_at s.tokens (i + 1))) refl t
read_name_by {s = s} h i v x name false false false ea eb ec t =
    read_named_stat h i x name
    (neither _ (is_name (kind_at s.tokens (i + 1))) _ (is_named type_name (kind_at s.tokens (i + 1))) (ap (is_named type_name) name ∙ eb) (ap (is_named export_name) name ∙ ec))
    (not_both _ (ends_last s.tokens (i + 1)) (ap (is_named continue_name) name ∙ ea))
    t.rest

read_after_name : {s : Text} {g : ℕ} {k : List Item} {f : Bool} → All s g → (i : ℕ) (x : StrId) → Has s.tokens i (token.Name x) → Rest s g (i + 1) (item.after_name x ∷ k) f → Reads s (List Stat) (λ q j. IsBlock s.tokens s.brackets i q j) calls_stats [] g k f
read_after_name h i x name r = read_name_by h i r.nest x name (nat_eq x.0 continue_name.0) (nat_eq x.0 type_name.0) (nat_eq x.0 export_name.0) refl refl refl (turned_once r)

-- ---- blocks

read_nothing : {s : Text} {g i : ℕ} {k : List Item} {f : Bool} → IsTrue (ends_block (kind_at s.tokens i)) → Rest s g i k f → Reads s (List Stat) (λ q j. IsBlock s.tokens s.brackets i q j) calls_stats [] g k f
read_nothing {i = i} {f = f} e r = record { tree = []; stop = i; is = grammar.no_stat i e; owed = f; owes = λ o. o; rest = r }

read_paren_stat : {s : Text} {g v : ℕ} {k : List Item} {f : Bool} → All s g → (i : ℕ) → Has s.tokens i token.OpenParen → Rest s g (i + 1) (item.expression ∷ item.expects word.CloseParen ∷ item.wrap ∷ item.suffixes in_paren first_target ∷ item.greater v ∷ k) f → Reads s Stat (λ q j. IsStat s.tokens s.brackets i q j) calls_stat [] g k f
read_paren_stat {s = s} h i opens r =
    let m = read_expr h r in
    let c = read_word word.CloseParen m.rest in
    below_greater (from (λ o. same (calls_paren s.tokens i m.tree) (m.owes o)) (read_first h i in_paren (expr_at s.tokens i (expr.Paren m.tree)) (λ e d j is. grammar.paren i m.stop j m.tree e d opens m.is c.0 is) (wrapped c.1)))

read_block_by : {s : Text} {g i : ℕ} {k : List Item} {f : Bool} → All s g → (v : ℕ) (t : Option TokenKind) → kind_at s.tokens i ≡ t → After s g i ⊥ false f (block_turn (classes.opening t) v k) → Reads s (List Stat) (λ q j. IsBlock s.tokens s.brackets i q j) calls_stats [] g k f
read_block_by h v None e a = read_nothing (ap ends_block e) a.rest
read_block_by h v (Some token.End) e a = read_nothing (ap ends_block e) a.rest
read_block_by h v (Some token.Else) e a = read_nothing (ap ends_block e) a.rest
read_block_by h v (Some token.ElseIf) e a = read_nothing (ap ends_block e) a.rest
read_block_by h v (Some token.Until) e a = read_nothing (ap ends_block e) a.rest
read_block_by {i = i} h v (Some token.Return) e a = read_return h i e a.rest
read_block_by {i = i} h v (Some token.Break) e a = read_break i e a.rest
read_block_by {i = i} h v (Some token.Do) e a = read_word_stat h token.Do e refl (below_greater (below_wrap (read_do h i e a.rest)))
read_block_by {i = i} h v (Some token.While) e a = read_word_stat h token.While e refl (below_greater (below_wrap (read_while h i e a.rest)))
read_block_by {i = i} h v (Some token.Repeat) e a = read_word_stat h token.Repeat e refl (below_greater (below_wrap (read_repeat h i e a.rest)))
read_block_by {i = i} h v (Some token.If) e a = read_word_stat h token.If e refl (below_greater (below_wrap (read_if h i e a.rest)))
read_block_by {i = i} h v (Some token.For) e a = read_word_stat h token.For e refl (below_greater (below_wrap (read_for h i e a.rest)))
read_block_by {i = i} h v (Some token.Function) e a = read_word_stat h token.Function e refl (below_greater (read_function h i e a.rest))
read_block_by {i = i} h v (Some token.Local) e a = read_word_stat h token.Local e refl (read_local h i e a.rest)
read_block_by {i = i} h v (Some (token.Name x)) e a = read_after_name h i x e a.rest
read_block_by {i = i} h v (Some token.OpenParen) e a = read_word_stat h token.OpenParen e refl (read_paren_stat h i e a.rest)
read_block_by h v _ e a = absurd a.rest

pub block_step : {s : Text} {g i : ℕ} {k : List Item} {f : Bool} → All s g → Rest s (suc g) i (item.block ∷ k) f → Reads s (List Stat) (λ q j. IsBlock s.tokens s.brackets i q j) calls_stats [] (suc g) k f
block_step {s = s} {i = i} h r = raised (read_block_by h r.nest (kind_at s.tokens i) refl (turned r))
