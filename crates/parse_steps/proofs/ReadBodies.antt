-- What a run reads for generics, parameters and the body of a function.
use Rattle.std.proofs.Common.{ℕ, suc, ◌+◌, Bool, true, false, IsTrue, List, [], ◌∷◌, refl, sym, ap, subst}
use Rattle.byte_text.specs.declared.StrId.{StrId}
use Rattle.syntax_tree.specs.declared.token.TokenKind.TheVariants as token
use Rattle.syntax_tree.specs.declared.tree.Stat.{Stat}
use Rattle.syntax_tree.specs.Grammar as grammar
use Rattle.syntax_tree.specs.Grammar.{IsTyping, IsBind, IsBinds, IsParams, IsParamList, IsBody}
use Rattle.syntax_tree.specs.Places.{kind_at, is_name, Optional, taken, absent}
use Rattle.syntax_tree.specs.Types as types
use Rattle.syntax_tree.specs.Types.{IsGenerics, IsGenericList, IsGeneric}
use Rattle.type_skip.specs.declared.words.Word.TheVariants as word
use Rattle.parse_steps.proofs.CallPlaces.{calls_stats}
use Rattle.parse_steps.specs.Items.{Item}
use Rattle.parse_steps.specs.Items as item
use Rattle.parse_steps.specs.Turns.{parameter_turn}
use Rattle.parse_steps.proofs.Accepting.{Text, Rest, After, Passes, Reads, turned, turned_once, by_word, by_name, read_word, sooner, raised_pass}
use Rattle.parse_steps.proofs.Readings.{All, Closed}

-- ---- generics

read_generic_more : {s : Text} {g i : ℕ} {k : List Item} {f : Bool} → All s g → (b : ℕ) → IsGeneric s.tokens s.brackets b i → Rest s g i (item.generic_more ∷ k) f → Passes s (Unit {0}) (λ u j. Closed s token.Greater (λ m. IsGenericList s.tokens s.brackets b m) j) g k f
read_generic_more {s = s} {i = i} h b d r =
    by_word word.Comma _ _ (turned_once r)
    (λ stands rest.
    let m = h.generic rest in
    record { tree = tt; stop = m.stop; is = record { close = m.is.close; is = types.more_generics s.brackets b i m.is.close d stands m.is.is; stands = m.is.stands; there = m.is.there }; rest = m.rest })
    (λ lacks other.
    by_word word.Greater _ _ other
    (λ stands rest. record { tree = tt; stop = i + 1; is = record { close = i; is = types.last_generic s.brackets b i d lacks; stands = stands; there = refl }; rest = rest })
    (λ nothing rest. absurd rest.rest))

read_generic_default : {s : Text} {g i : ℕ} {k : List Item} {f : Bool} → All s g → (b : ℕ) → IsTrue (is_name (kind_at s.tokens b)) → Optional s.tokens token.TripleDot (b + 1) i → Rest s g i (item.generic_default ∷ k) f → Passes s (Unit {0}) (λ u j. Closed s token.Greater (λ m. IsGenericList s.tokens s.brackets b m) j) g k f
read_generic_default {s = s} {i = i} h b name dots r =
    by_word word.Equal _ _ (turned_once r)
    (λ stands rest.
    let t = (turned_once rest).rest in
    read_generic_more h b (types.generic s.brackets b i t.stop name dots (types.default s.brackets i t.stop stands t.is)) t.rest)
    (λ lacks rest. read_generic_more h b (types.generic s.brackets b i i name dots (types.no_default s.brackets i lacks)) rest.rest)

pub generic_step : {s : Text} {g i : ℕ} {k : List Item} {f : Bool} → All s g → Rest s (suc g) i (item.generic ∷ k) f → Passes s (Unit {0}) (λ u j. Closed s token.Greater (λ m. IsGenericList s.tokens s.brackets i m) j) (suc g) k f
generic_step {s = s} {i = i} h r =
    by_name _ _ (turned r)
    (λ x name rest.
    by_word word.TripleDot _ _ (turned_once rest)
    (λ stands more. raised_pass (read_generic_default h i (ap is_name name) (taken (i + 1) stands) more))
    (λ lacks more. raised_pass (read_generic_default h i (ap is_name name) (absent (i + 1) lacks) more.rest)))
    (λ nothing rest. absurd rest.rest)

pub read_generics : {s : Text} {g i : ℕ} {k : List Item} {f : Bool} → All s g → Rest s g i (item.generics ∷ k) f → Passes s (Unit {0}) (λ u j. IsGenerics s.tokens s.brackets i j) g k f
read_generics {s = s} {i = i} h r =
    by_word word.Less _ _ (turned_once r)
    (λ stands rest.
    let m = h.generic rest in
    record { tree = tt; stop = m.stop; is = subst (λ (j : ℕ). IsGenerics s.tokens s.brackets i j) (sym m.is.there) (types.generics s.brackets i m.is.close stands m.is.is m.is.stands); rest = m.rest })
    (λ lacks rest. record { tree = tt; stop = i; is = types.no_generics s.brackets i lacks; rest = rest.rest })

-- ---- names with types

pub read_typing : {s : Text} {g i : ℕ} {k : List Item} {f : Bool} → Rest s g i (item.typing ∷ k) f → Passes s (Unit {0}) (λ u j. IsTyping s.tokens s.brackets i j) g k f
read_typing {i = i} r =
    by_word word.Colon _ _ (turned_once r)
    (λ stands rest.
    let t = (turned_once rest).rest in
    record { tree = tt; stop = t.stop; is = grammar.typed i t.stop stands t.is; rest = t.rest })
    (λ lacks rest. record { tree = tt; stop = i; is = grammar.untyped i lacks; rest = rest.rest })

pub read_bind : {s : Text} {g i : ℕ} {k : List Item} {f : Bool} → Rest s g i (item.bind ∷ k) f → Passes s StrId (λ x j. IsBind s.tokens s.brackets i x j) g k f
read_bind {i = i} r =
    by_name _ _ (turned_once r)
    (λ x name rest.
    let t = read_typing rest in
    record { tree = x; stop = t.stop; is = grammar.bind i t.stop x name t.is; rest = t.rest })
    (λ nothing rest. absurd rest.rest)

pub binds_step : {s : Text} {g i : ℕ} {k : List Item} {f : Bool} → All s g → (b : ℕ) (x : StrId) → IsBind s.tokens s.brackets b x i → Rest s (suc g) i (item.bind_more ∷ k) f → Passes s (List StrId) (λ xs j. IsBinds s.tokens s.brackets b (x ∷ xs) j) (suc g) k f
binds_step {i = i} h b x d r =
    by_word word.Comma _ _ (turned r)
    (λ stands rest.
    let y = read_bind rest in
    let m = h.binds (i + 1) y.tree y.is y.rest in
    record { tree = y.tree ∷ m.tree; stop = m.stop; is = grammar.more_binds b i m.stop x (y.tree ∷ m.tree) d stands m.is; rest = sooner m.rest })
    (λ lacks rest. record { tree = []; stop = i; is = grammar.last_bind b i x d lacks; rest = sooner rest.rest })

-- ---- parameters

read_parameter_more : {s : Text} {g i : ℕ} {k : List Item} {f : Bool} → All s g → (b : ℕ) (x : StrId) → IsBind s.tokens s.brackets b x i → Rest s g i (item.parameter_more ∷ k) f → Passes s (List StrId × Bool) (λ p j. Closed s token.CloseParen (λ m. IsParams s.tokens s.brackets b p.0 p.1 m) j) g k f
read_parameter_more {i = i} h b x d r =
    by_word word.Comma _ _ (turned_once r)
    (λ stands rest.
    let m = h.parameter rest in
    record { tree = (x ∷ m.tree.0, m.tree.1); stop = m.stop; is = record { close = m.is.close; is = grammar.more_params b i m.is.close x m.tree.0 m.tree.1 d stands m.is.is; stands = m.is.stands; there = m.is.there }; rest = m.rest })
    (λ lacks other.
    by_word word.CloseParen _ _ other
    (λ stands rest. record { tree = (x ∷ [], false); stop = i + 1; is = record { close = i; is = grammar.last_param b i x d lacks; stands = stands; there = refl }; rest = rest })
    (λ nothing rest. absurd rest.rest))

read_params : {s : Text} {g i : ℕ} {k : List Item} {f : Bool} → All s g → (v : ℕ) → After s g i ⊥ false f (parameter_turn (kind_at s.tokens i) v k) → Passes s (List StrId × Bool) (λ p j. Closed s token.CloseParen (λ m. IsParams s.tokens s.brackets i p.0 p.1 m) j) g k f
read_params {i = i} h v a =
    by_word word.TripleDot _ _ a
    (λ stands rest.
    let t = read_typing rest in
    let c = read_word word.CloseParen t.rest in
    record { tree = ([], true); stop = t.stop + 1; is = record { close = t.stop; is = grammar.dots i t.stop stands t.is; stands = c.0; there = refl }; rest = c.1 })
    (λ lacks other.
    by_name _ _ other
    (λ x name rest.
    let t = read_typing rest in
    read_parameter_more h i x (grammar.bind i t.stop x name t.is) t.rest)
    (λ nothing rest. absurd rest.rest))

pub parameter_step : {s : Text} {g i : ℕ} {k : List Item} {f : Bool} → All s g → Rest s (suc g) i (item.parameter ∷ k) f → Passes s (List StrId × Bool) (λ p j. Closed s token.CloseParen (λ m. IsParams s.tokens s.brackets i p.0 p.1 m) j) (suc g) k f
parameter_step h r = raised_pass (read_params h r.nest (turned r))

read_parameters : {s : Text} {g i : ℕ} {k : List Item} {f : Bool} → All s g → Rest s g i (item.parameters ∷ k) f → Passes s (List StrId × Bool) (λ p j. Closed s token.CloseParen (λ m. IsParamList s.tokens s.brackets i p.0 p.1 m) j) g k f
read_parameters {i = i} h r =
    by_word word.CloseParen _ _ (turned_once r)
    (λ stands rest. record { tree = ([], false); stop = i + 1; is = record { close = i; is = grammar.no_params i stands; stands = stands; there = refl }; rest = rest })
    (λ lacks other.
    let p = read_params h r.nest other in
    record { tree = p.tree; stop = p.stop; is = record { close = p.is.close; is = grammar.params i p.is.close p.tree.0 p.tree.1 lacks p.is.is; stands = p.is.stands; there = p.is.there }; rest = p.rest })

-- ---- the body

abbrev pub Body : Type 0
Body = List StrId × Bool × List Stat

pub read_body : {s : Text} {g i : ℕ} {k : List Item} {f : Bool} → All s g → Rest s g i (item.body ∷ k) f → Reads s Body (λ b j. IsBody s.tokens s.brackets i b.0 b.1 b.2 j) (λ b. calls_stats b.2) [] g k f
read_body {s = s} {i = i} h r =
    let t = read_generics h (turned_once r).rest in
    let o = read_word word.OpenParen t.rest in
    let p = read_parameters h o.1 in
    let y = read_typing p.rest in
    let b = h.block y.rest in
    let e = read_word word.End b.rest in
    record {
      tree = (p.tree.0, p.tree.1, b.tree);
      stop = b.stop + 1;
      is = grammar.body i t.stop p.is.close y.stop b.stop p.tree.0 p.tree.1 b.tree t.is o.0 p.is.is p.is.stands (subst (λ (j : ℕ). IsTyping s.tokens s.brackets j y.stop) p.is.there y.is) b.is e.0;
      owed = b.owed;
      owes = b.owes;
      rest = e.1;
    }
