-- What a run reads for the statements.
use Rattle.std.proofs.Common.{◌≡◌, ℕ, suc, ◌+◌, IsFalse, Bool, true, List, [], ◌∷◌, ◌++◌, Option, Some, None, refl, sym, ap, ◌∙◌, subst, rules, arith}
use Rattle.std.proofs.lemmas.List.{append_assoc}
use Rattle.byte_text.specs.declared.StrId.{StrId}
use Rattle.syntax_tree.specs.declared.token.TokenKind.{TokenKind}
use Rattle.syntax_tree.specs.declared.token.TokenKind.TheVariants as token
use Rattle.syntax_tree.specs.declared.tree.Arm.{Arm}
use Rattle.syntax_tree.specs.declared.tree.BinOp.{BinOp}
use Rattle.syntax_tree.specs.declared.tree.BinOp.TheVariants as binary
use Rattle.syntax_tree.specs.declared.tree.Expr.{Expr}
use Rattle.syntax_tree.specs.declared.tree.ExprKind as expr
use Rattle.syntax_tree.specs.declared.tree.Stat.{Stat}
use Rattle.syntax_tree.specs.declared.tree.StatKind as stat
use Rattle.syntax_tree.specs.Calls.{Places}
use Rattle.syntax_tree.specs.Grammar as grammar
use Rattle.syntax_tree.specs.Grammar.{PrefixEnd, in_target, in_call, in_paren, IsExpr, IsPrefix, IsSuffixes, IsTargets, IsMembers, IsFunctionName, IsBody, IsStat, IsStep, IsArms, IsBlock}
use Rattle.syntax_tree.specs.Nodes.{expr_at, stat_at, function_at, arm}
use Rattle.syntax_tree.specs.Operators.{compound_operator}
use Rattle.syntax_tree.specs.Places.{kind_at, Has, Lacks}
use Rattle.syntax_tree.specs.Types.{is_open_paren}
use Rattle.syntax_tree.specs.Words.{self_name}
use Rattle.type_skip.specs.declared.words.Word.TheVariants as word
use Rattle.parse_steps.proofs.CallPlaces.{calls_expr, calls_exprs, calls_stat, calls_stats, calls_arm, calls_arms, calls_step, calls_other}
use Rattle.parse_steps.specs.Items.{Item, first_target, later_target}
use Rattle.parse_steps.specs.Items as item
use Rattle.parse_steps.specs.Turns.{prefix_turn}
use Rattle.parse_steps.proofs.Accepting.{Text, Rest, After, Opened, Owes, Passes, Reads, turned, turned_once, by_word, by_name, read_word, read_name, sooner, raised, wrapped, greater, behind, in_order, same, unopened}
use Rattle.parse_steps.proofs.NodeCalls.{calls_name, calls_paren, calls_member, calls_function, calls_function_at, calls_of_arm, calls_local, calls_assign, calls_compound, calls_call_stat, calls_do, calls_while, calls_repeat, calls_if, calls_num_for, calls_gen_for, calls_local_function}
use Rattle.parse_steps.proofs.Readings.{All, Assigns}
use Rattle.parse_steps.proofs.ReadBodies.{Body, read_body, read_bind}
use Rattle.parse_steps.proofs.ReadLevels.{from, below_greater, read_expr}
use Rattle.parse_steps.proofs.ReadParts.{two_places, read_list}

-- ---- assignments and calls

-- a part that is gone on with to a whole prefix
abbrev pub Whole : Text → (b i : ℕ) → Expr → PrefixEnd → Type 0
Whole s b i a c = (e : Expr) (d : PrefixEnd) (j : ℕ) → IsSuffixes s.tokens s.brackets b i a c e d j → IsPrefix s.tokens s.brackets b e d j

no_comma : (s : Text) (i : ℕ) → Has s.tokens i token.Equal → Lacks s.tokens i token.Comma
no_comma s i h there = no_clash (sym h ∙ there)
  where
    no_clash : Some token.Equal ≡ Some token.Comma → ⊥
    no_clash e = search (rules, e)

-- further targets behind a first one
joined_owes : {s : Text} {f g : Bool} (e : Expr) (es vs : List Expr) → (Owes s [] f → Owes s (calls_exprs es ++ calls_exprs vs) g) → Owes s (calls_expr e) f → Owes s (calls_exprs (e ∷ es) ++ calls_exprs vs) g
joined_owes e es vs rest o = same (append_assoc (calls_expr e) (calls_exprs es) (calls_exprs vs)) (behind (calls_expr e) (calls_exprs es ++ calls_exprs vs) rest o)

single_owes : {s : Text} {f g : Bool} (e : Expr) (vs : List Expr) → (Owes s [] f → Owes s (calls_exprs vs) g) → Owes s (calls_expr e) f → Owes s (calls_exprs (e ∷ []) ++ calls_exprs vs) g
single_owes e vs rest o = joined_owes e [] vs rest o

read_later_end : {s : Text} {g i : ℕ} {k : List Item} {f : Bool} → All s g → (b : ℕ) (v : ℕ) (d : PrefixEnd) (e : Expr) → IsPrefix s.tokens s.brackets b e d i → After s g i ⊥ true f (prefix_turn later_target d (kind_at s.tokens i) v k) → Reads s (List Expr × List Expr) (λ p j. Assigns s b p.0 p.1 j) (λ p. calls_exprs p.0 ++ calls_exprs p.1) (calls_expr e) g k f
read_later_end h b v in_call e p a = absurd a.rest
read_later_end h b v in_paren e p a = absurd a.rest
read_later_end {s = s} {i = i} h b v in_target e p a =
    by_word word.Equal _ _ a
    (λ stands rest.
    let l = read_list h (unopened token.Equal refl stands rest) in
    record { tree = (e ∷ [], l.tree); stop = l.stop; is = record { close = i; targets = grammar.last_target b i e p (no_comma s i stands); stands = stands; values = l.is }; owed = l.owed; owes = single_owes e l.tree l.owes; rest = l.rest })
    (λ lacks other.
    by_word word.Comma _ _ other
    (λ stands rest.
    let m = h.targets (unopened token.Comma refl stands rest) in
    record { tree = (e ∷ m.tree.0, m.tree.1); stop = m.stop; is = record { close = m.is.close; targets = grammar.more_targets b i m.is.close e m.tree.0 p stands m.is.targets; stands = m.is.stands; values = m.is.values }; owed = m.owed; owes = joined_owes e m.tree.0 m.tree.1 m.owes; rest = m.rest })
    (λ nothing rest. absurd rest.rest))

read_later : {s : Text} {g i : ℕ} {k : List Item} {f : Bool} → All s g → (b : ℕ) (c : PrefixEnd) (a : Expr) → Whole s b i a c → Rest s g i (item.suffixes c later_target ∷ k) f → Reads s (List Expr × List Expr) (λ p j. Assigns s b p.0 p.1 j) (λ p. calls_exprs p.0 ++ calls_exprs p.1) (calls_expr a) g k f
read_later h b c a whole r =
    let p = h.suffixes c later_target b a r in
    from p.owes (read_later_end h b p.nest p.end p.tree (whole p.tree p.end p.stop p.is) p.rest)

pub targets_step : {s : Text} {g i : ℕ} {k : List Item} {f : Bool} → All s g → Rest s (suc g) i (item.target ∷ k) f → Reads s (List Expr × List Expr) (λ p j. Assigns s i p.0 p.1 j) (λ p. calls_exprs p.0 ++ calls_exprs p.1) [] (suc g) k f
targets_step {s = s} {i = i} h r =
    by_word word.OpenParen _ _ (turned r)
    (λ opens rest.
    let m = read_expr h rest in
    let c = read_word word.CloseParen m.rest in
    raised (below_greater (from (λ o. same (calls_paren s.tokens i m.tree) (m.owes o)) (read_later h i in_paren (expr_at s.tokens i (expr.Paren m.tree)) (λ e d j is. grammar.paren i m.stop j m.tree e d opens m.is c.0 is) (wrapped c.1)))))
    (λ lacks other.
    by_name _ _ other
    (λ x name rest. raised (below_greater (from (λ o. same (calls_name s.tokens i x) o) (read_later h i in_target (expr_at s.tokens i (expr.Name x)) (λ e d j is. grammar.name i j x e d name is) rest))))
    (λ nothing rest. absurd rest.rest))

read_compound : {s : Text} {g i : ℕ} {k : List Item} {f : Bool} → All s g → (b : ℕ) (e : Expr) (t : TokenKind) (op : BinOp) → IsPrefix s.tokens s.brackets b e in_target i → Has s.tokens i t → compound_operator (Some t) ≡ Some op → IsFalse (is_open_paren (Some t)) → Opened s g i (item.expression ∷ k) f → Reads s Stat (λ q j. IsStat s.tokens s.brackets b q j) calls_stat (calls_expr e) g k f
read_compound {s = s} {i = i} h b e t op p stands eq other a =
    let m = read_expr h (unopened t other stands a) in
    record { tree = stat_at s.tokens b (stat.Compound op e m.tree); stop = m.stop; is = grammar.compound b i m.stop op e m.tree p (ap compound_operator stands ∙ eq) m.is; owed = m.owed; owes = λ o. same (calls_compound s.tokens b op e m.tree) (behind (calls_expr e) (calls_expr m.tree) m.owes o); rest = m.rest }

read_target_end : {s : Text} {g i : ℕ} {k : List Item} {f : Bool} → All s g → (b v : ℕ) (e : Expr) (t : Option TokenKind) → kind_at s.tokens i ≡ t → IsPrefix s.tokens s.brackets b e in_target i → After s g i ⊥ true f (prefix_turn first_target in_target t v k) → Reads s Stat (λ q j. IsStat s.tokens s.brackets b q j) calls_stat (calls_expr e) g k f
read_target_end {s = s} {i = i} h b v e (Some token.Equal) stands p a =
    let l = read_list h (unopened token.Equal refl stands a.rest) in
    record { tree = stat_at s.tokens b (stat.Assign (e ∷ []) l.tree); stop = l.stop; is = grammar.assign b i l.stop (e ∷ []) l.tree (grammar.last_target b i e p (no_comma s i stands)) stands l.is; owed = l.owed; owes = λ o. same (calls_assign s.tokens b (e ∷ []) l.tree) (single_owes e l.tree l.owes o); rest = l.rest }
read_target_end {s = s} {i = i} h b v e (Some token.Comma) stands p a =
    let m = h.targets (unopened token.Comma refl stands a.rest) in
    record { tree = stat_at s.tokens b (stat.Assign (e ∷ m.tree.0) m.tree.1); stop = m.stop; is = grammar.assign b m.is.close m.stop (e ∷ m.tree.0) m.tree.1 (grammar.more_targets b i m.is.close e m.tree.0 p stands m.is.targets) m.is.stands m.is.values; owed = m.owed; owes = λ o. same (calls_assign s.tokens b (e ∷ m.tree.0) m.tree.1) (joined_owes e m.tree.0 m.tree.1 m.owes o); rest = m.rest }
read_target_end {s = s} {i = i} h b v e (Some token.PlusEqual) stands p a = read_compound h b e token.PlusEqual binary.Add p stands refl refl a.rest
read_target_end {s = s} {i = i} h b v e (Some token.MinusEqual) stands p a = read_compound h b e token.MinusEqual binary.Sub p stands refl refl a.rest
read_target_end {s = s} {i = i} h b v e (Some token.StarEqual) stands p a = read_compound h b e token.StarEqual binary.Mul p stands refl refl a.rest
read_target_end {s = s} {i = i} h b v e (Some token.SlashEqual) stands p a = read_compound h b e token.SlashEqual binary.Div p stands refl refl a.rest
read_target_end {s = s} {i = i} h b v e (Some token.DoubleSlashEqual) stands p a = read_compound h b e token.DoubleSlashEqual binary.Idiv p stands refl refl a.rest
read_target_end {s = s} {i = i} h b v e (Some token.PercentEqual) stands p a = read_compound h b e token.PercentEqual binary.Mod p stands refl refl a.rest
read_target_end {s = s} {i = i} h b v e (Some token.CaretEqual) stands p a = read_compound h b e token.CaretEqual binary.Pow p stands refl refl a.rest
read_target_end {s = s} {i = i} h b v e (Some token.DoubleDotEqual) stands p a = read_compound h b e token.DoubleDotEqual binary.Concat p stands refl refl a.rest
read_target_end h b v e _ stands p a = absurd a.rest

read_first_end : {s : Text} {g i : ℕ} {k : List Item} {f : Bool} → All s g → (b v : ℕ) (d : PrefixEnd) (e : Expr) → IsPrefix s.tokens s.brackets b e d i → After s g i ⊥ true f (prefix_turn first_target d (kind_at s.tokens i) v k) → Reads s Stat (λ q j. IsStat s.tokens s.brackets b q j) calls_stat (calls_expr e) g k f
read_first_end {s = s} {i = i} {f = f} h b v in_call e p a = record { tree = stat_at s.tokens b (stat.Call e); stop = i; is = grammar.call_stat b i e p; owed = f; owes = λ o. same (calls_call_stat s.tokens b e) o; rest = a.rest }
read_first_end h b v in_paren e p a = absurd a.rest
read_first_end {s = s} {i = i} h b v in_target e p a = read_target_end h b v e (kind_at s.tokens i) refl p a

-- an assignment or a call, behind a part of its first prefix
pub read_first : {s : Text} {g i : ℕ} {k : List Item} {f : Bool} → All s g → (b : ℕ) (c : PrefixEnd) (a : Expr) → Whole s b i a c → Rest s g i (item.suffixes c first_target ∷ k) f → Reads s Stat (λ q j. IsStat s.tokens s.brackets b q j) calls_stat (calls_expr a) g k f
read_first h b c a whole r =
    let p = h.suffixes c first_target b a r in
    from p.owes (read_first_end h b p.nest p.end p.tree (whole p.tree p.end p.stop p.is) p.rest)

-- ---- loops and blocks

pub read_do : {s : Text} {g : ℕ} {k : List Item} {f : Bool} → All s g → (i : ℕ) → Has s.tokens i token.Do → Rest s g (i + 1) (item.block ∷ item.expects word.End ∷ k) f → Reads s Stat (λ q j. IsStat s.tokens s.brackets i q j) calls_stat [] g k f
read_do {s = s} h i stands r =
    let b = h.block r in
    let e = read_word word.End b.rest in
    record { tree = stat_at s.tokens i (stat.Do b.tree); stop = b.stop + 1; is = grammar.do_stat i b.stop b.tree stands b.is e.0; owed = b.owed; owes = λ o. same (calls_do s.tokens i b.tree) (b.owes o); rest = e.1 }

pub read_while : {s : Text} {g : ℕ} {k : List Item} {f : Bool} → All s g → (i : ℕ) → Has s.tokens i token.While → Rest s g (i + 1) (item.expression ∷ item.expects word.Do ∷ item.block ∷ item.expects word.End ∷ k) f → Reads s Stat (λ q j. IsStat s.tokens s.brackets i q j) calls_stat [] g k f
read_while {s = s} h i stands r =
    let c = read_expr h r in
    let d = read_word word.Do c.rest in
    let b = h.block d.1 in
    let e = read_word word.End b.rest in
    record { tree = stat_at s.tokens i (stat.While c.tree b.tree); stop = b.stop + 1; is = grammar.while_stat i c.stop b.stop c.tree b.tree stands c.is d.0 b.is e.0; owed = b.owed; owes = λ o. same (calls_while s.tokens i c.tree b.tree) (in_order (calls_expr c.tree) (calls_stats b.tree) c.owes b.owes o); rest = e.1 }

pub read_repeat : {s : Text} {g : ℕ} {k : List Item} {f : Bool} → All s g → (i : ℕ) → Has s.tokens i token.Repeat → Rest s g (i + 1) (item.block ∷ item.expects word.Until ∷ item.expression ∷ k) f → Reads s Stat (λ q j. IsStat s.tokens s.brackets i q j) calls_stat [] g k f
read_repeat {s = s} h i stands r =
    let b = h.block r in
    let u = read_word word.Until b.rest in
    let c = read_expr h u.1 in
    record { tree = stat_at s.tokens i (stat.Repeat b.tree c.tree); stop = c.stop; is = grammar.repeat_stat i b.stop c.stop b.tree c.tree stands b.is u.0 c.is; owed = c.owed; owes = λ o. same (calls_repeat s.tokens i b.tree c.tree) (in_order (calls_stats b.tree) (calls_expr c.tree) b.owes c.owes o); rest = c.rest }

-- ---- arms

arms_owe : {s : Text} {f g h q : Bool} (c : Expr) (b : List Stat) (arms : List Arm) (other : Option (List Stat)) → (Owes s [] f → Owes s (calls_expr c) g) → (Owes s [] g → Owes s (calls_stats b) h) → (Owes s [] h → Owes s (calls_arms arms ++ calls_other other) q) → Owes s [] f → Owes s (calls_arms (arm c b ∷ arms) ++ calls_other other) q
arms_owe c b arms other one two three o = same regroup (in_order (calls_expr c ++ calls_stats b) (calls_arms arms ++ calls_other other) (in_order (calls_expr c) (calls_stats b) one two) three o)
  where
    regroup : (calls_arm (arm c b) ++ calls_arms arms) ++ calls_other other ≡ (calls_expr c ++ calls_stats b) ++ (calls_arms arms ++ calls_other other)
    regroup = ap (λ (x : Places). (x ++ calls_arms arms) ++ calls_other other) (calls_of_arm c b) ∙ append_assoc (calls_expr c ++ calls_stats b) (calls_arms arms) (calls_other other)

read_arms : {s : Text} {g i : ℕ} {k : List Item} {f : Bool} → All s g → Rest s g i (item.expression ∷ item.expects word.Then ∷ item.block ∷ item.arm_more ∷ k) f → Reads s (List Arm × Option (List Stat)) (λ p j. IsArms s.tokens s.brackets i p.0 p.1 j) (λ p. calls_arms p.0 ++ calls_other p.1) [] g k f
read_arms {i = i} h r =
    let c = read_expr h r in
    let t = read_word word.Then c.rest in
    let b = h.block t.1 in
    let m = h.arms i c.stop c.tree b.tree c.is t.0 b.is b.rest in
    record {
      tree = (arm c.tree b.tree ∷ m.tree.0, m.tree.1);
      stop = m.stop;
      is = m.is;
      owed = m.owed;
      owes = arms_owe c.tree b.tree m.tree.0 m.tree.1 c.owes b.owes m.owes;
      rest = m.rest;
    }

pub arms_step : {s : Text} {g i : ℕ} {k : List Item} {f : Bool} → All s g → (b l : ℕ) (c : Expr) (q : List Stat) → IsExpr s.tokens s.brackets b c l → Has s.tokens l token.Then → IsBlock s.tokens s.brackets (l + 1) q i → Rest s (suc g) i (item.arm_more ∷ k) f → Reads s (List Arm × Option (List Stat)) (λ p j. IsArms s.tokens s.brackets b (arm c q ∷ p.0) p.1 j) (λ p. calls_arms p.0 ++ calls_other p.1) [] (suc g) k f
arms_step {i = i} {f = f} h b l c q d t e r =
    by_word word.ElseIf _ _ (turned r)
    (λ stands rest.
    let m = read_arms h rest in
    record { tree = m.tree; stop = m.stop; is = grammar.more_arms b l i m.stop c q m.tree.0 m.tree.1 d t e stands m.is; owed = m.owed; owes = m.owes; rest = sooner m.rest })
    (λ lacks other.
    by_word word.Else _ _ other
    (λ stands rest.
    let o = h.block rest in
    let n = read_word word.End o.rest in
    record { tree = ([], Some o.tree); stop = o.stop + 1; is = grammar.else_arm b l i o.stop c q o.tree d t e stands o.is n.0; owed = o.owed; owes = o.owes; rest = sooner n.1 })
    (λ lacks_else others.
    by_word word.End _ _ others
    (λ stands rest. record { tree = ([], None); stop = i + 1; is = grammar.last_arm b l i c q d t e stands; owed = f; owes = λ o. o; rest = sooner rest })
    (λ nothing rest. absurd rest.rest)))

pub read_if : {s : Text} {g : ℕ} {k : List Item} {f : Bool} → All s g → (i : ℕ) → Has s.tokens i token.If → Rest s g (i + 1) (item.expression ∷ item.expects word.Then ∷ item.block ∷ item.arm_more ∷ k) f → Reads s Stat (λ q j. IsStat s.tokens s.brackets i q j) calls_stat [] g k f
read_if {s = s} h i stands r =
    let m = read_arms h r in
    record { tree = stat_at s.tokens i (stat.If m.tree.0 m.tree.1); stop = m.stop; is = grammar.if_stat i m.stop m.tree.0 m.tree.1 stands m.is; owed = m.owed; owes = λ o. same (calls_if s.tokens i m.tree.0 m.tree.1) (m.owes o); rest = m.rest }

-- ---- `for`

read_step : {s : Text} {g i : ℕ} {k : List Item} {f : Bool} → All s g → Rest s g i (item.for_step ∷ k) f → Reads s (Option Expr) (λ e j. IsStep s.tokens s.brackets i e j) calls_step [] g k f
read_step {i = i} {f = f} h r =
    by_word word.Comma _ _ (turned_once r)
    (λ stands rest.
    let e = read_expr h rest in
    record { tree = Some e.tree; stop = e.stop; is = grammar.step i e.stop e.tree stands e.is; owed = e.owed; owes = e.owes; rest = e.rest })
    (λ lacks rest. record { tree = None; stop = i; is = grammar.no_step i lacks; owed = f; owes = λ o. o; rest = rest.rest })

num_for_owes : {s : Text} {f g h q u : Bool} (i : ℕ) (x : StrId) (a z : Expr) (p : Option Expr) (b : List Stat) → (Owes s [] f → Owes s (calls_expr a) g) → (Owes s [] g → Owes s (calls_expr z) h) → (Owes s [] h → Owes s (calls_step p) q) → (Owes s [] q → Owes s (calls_stats b) u) → Owes s [] f → Owes s (calls_stat (stat_at s.tokens i (stat.NumFor x a z p b))) u
num_for_owes {s = s} i x a z p b one two three four o =
    same (calls_num_for s.tokens i x a z p b)
    (in_order (calls_expr a ++ calls_expr z ++ calls_step p) (calls_stats b) (in_order (calls_expr a ++ calls_expr z) (calls_step p) (in_order (calls_expr a) (calls_expr z) one two) three) four o)

read_num_for : {s : Text} {g j : ℕ} {k : List Item} {f : Bool} → All s g → (i : ℕ) (x : StrId) → Has s.tokens i token.For → grammar.IsBind s.tokens s.brackets (i + 1) x j → Has s.tokens j token.Equal → Rest s g (j + 1) (item.expression ∷ item.expects word.Comma ∷ item.expression ∷ item.for_step ∷ item.expects word.Do ∷ item.block ∷ item.expects word.End ∷ k) f → Reads s Stat (λ q m. IsStat s.tokens s.brackets i q m) calls_stat [] g k f
read_num_for {s = s} {j = j} h i x stands d equal r =
    let a = read_expr h r in
    let c = read_word word.Comma a.rest in
    let z = read_expr h c.1 in
    let p = read_step h z.rest in
    let w = read_word word.Do p.rest in
    let b = h.block w.1 in
    let e = read_word word.End b.rest in
    record {
      tree = stat_at s.tokens i (stat.NumFor x a.tree z.tree p.tree b.tree);
      stop = b.stop + 1;
      is = grammar.num_for i j a.stop z.stop p.stop b.stop x a.tree z.tree p.tree b.tree stands d equal a.is c.0 z.is p.is w.0 b.is e.0;
      owed = b.owed;
      owes = num_for_owes i x a.tree z.tree p.tree b.tree a.owes z.owes p.owes b.owes;
      rest = e.1;
    }

pub read_for : {s : Text} {g : ℕ} {k : List Item} {f : Bool} → All s g → (i : ℕ) → Has s.tokens i token.For → Rest s g (i + 1) (item.bind ∷ item.for_what ∷ k) f → Reads s Stat (λ q j. IsStat s.tokens s.brackets i q j) calls_stat [] g k f
read_for {s = s} h i stands r =
    let x = read_bind r in
    by_word word.Equal _ _ (turned_once x.rest)
    (λ equal rest. read_num_for h i x.tree stands x.is equal rest)
    (λ lacks rest.
    let m = h.binds (i + 1) x.tree x.is rest.rest in
    let n = read_word word.In m.rest in
    let l = read_list h n.1 in
    let w = read_word word.Do l.rest in
    let b = h.block w.1 in
    let e = read_word word.End b.rest in
    record {
      tree = stat_at s.tokens i (stat.GenFor (x.tree ∷ m.tree) l.tree b.tree);
      stop = b.stop + 1;
      is = grammar.gen_for i m.stop l.stop b.stop (x.tree ∷ m.tree) l.tree b.tree stands m.is n.0 l.is w.0 b.is e.0;
      owed = b.owed;
      owes = λ o. same (calls_gen_for s.tokens i (x.tree ∷ m.tree) l.tree b.tree) (in_order (calls_exprs l.tree) (calls_stats b.tree) l.owes b.owes o);
      rest = e.1;
    })

-- ---- functions

pub members_step : {s : Text} {g i : ℕ} {k : List Item} {f : Bool} → All s g → (b : ℕ) (x : StrId) (a : Expr) → Has s.tokens b (token.Name x) → ((e : Expr) (j : ℕ) → IsMembers s.tokens b i a e j → IsMembers s.tokens b (b + 1) (expr_at s.tokens b (expr.Name x)) e j) → calls_expr a ≡ [] → Rest s (suc g) i (item.members ∷ k) f → Passes s (Expr × List StrId) (λ p j. IsFunctionName s.tokens b p.0 p.1 j × (calls_expr p.0 ≡ [])) (suc g) k f
members_step {s = s} {i = i} h b x a name whole none r =
    by_word word.Dot _ _ (turned r)
    (λ dot rest.
    let y = read_name rest in
    let m = h.members b x (expr_at s.tokens b (expr.Member a y.0)) name (λ e j d. whole e j (grammar.more_members i j y.0 a e dot y.1 d)) (calls_member s.tokens b a y.0 ∙ none) (two_places i (wrapped y.2)) in
    record { tree = m.tree; stop = m.stop; is = m.is; rest = sooner m.rest })
    (λ no_dot other.
    by_word word.Colon _ _ other
    (λ colon rest.
    let y = read_name rest in
    record { tree = (expr_at s.tokens b (expr.Member a y.0), self_name ∷ []); stop = i + 2; is = (grammar.method_name b i x y.0 a name (whole a i (grammar.no_member i a no_dot)) colon y.1, calls_member s.tokens b a y.0 ∙ none); rest = sooner (two_places i (wrapped y.2)) })
    (λ no_colon rest. record { tree = (a, []); stop = i; is = (grammar.function_name b i x a name (whole a i (grammar.no_member i a no_dot)) no_colon, none); rest = sooner rest.rest }))

-- the function that is assigned to a name
as_assigned : {s : Text} {g v j : ℕ} {k : List Item} {f : Bool} (i : ℕ) (e : Expr) (added : List StrId) → Has s.tokens i token.Function → IsFunctionName s.tokens (i + 1) e added j → calls_expr e ≡ [] → Reads s Body (λ b m. IsBody s.tokens s.brackets j b.0 b.1 b.2 m) (λ b. calls_stats b.2) [] g (item.wrap ∷ item.greater v ∷ k) f → Reads s Stat (λ q m. IsStat s.tokens s.brackets i q m) calls_stat [] g k f
as_assigned {s = s} {j = j} i e added stands name none b =
    let function = function_at s.tokens i (added ++ b.tree.0) b.tree.1 b.tree.2 in
    record {
      tree = stat_at s.tokens i (stat.Assign (e ∷ []) (expr_at s.tokens i (expr.Function function) ∷ []));
      stop = b.stop;
      is = grammar.function_stat i j b.stop e added b.tree.0 b.tree.1 b.tree.2 stands name b.is;
      owed = b.owed;
      owes = λ o. same (calls_assign s.tokens i (e ∷ []) (expr_at s.tokens i (expr.Function function) ∷ []) ∙ alone e (expr_at s.tokens i (expr.Function function)) (calls_stats b.tree.2) none (calls_function s.tokens i function ∙ calls_function_at s.tokens i (added ++ b.tree.0) b.tree.1 b.tree.2)) (b.owes o);
      rest = greater (wrapped b.rest);
    }
  where
    alone : (e q : Expr) (cs : Places) → calls_expr e ≡ [] → calls_expr q ≡ cs → calls_exprs (e ∷ []) ++ calls_exprs (q ∷ []) ≡ cs
    alone e q cs h t = search (rules, h, t)

pub read_function : {s : Text} {g : ℕ} {k : List Item} {f : Bool} → All s g → (i : ℕ) → Has s.tokens i token.Function → Rest s g (i + 1) (item.a_name ∷ item.members ∷ item.assigned_function ∷ k) f → Reads s Stat (λ q j. IsStat s.tokens s.brackets i q j) calls_stat [] g k f
read_function {s = s} h i stands r =
    let x = read_name r in
    let m = h.members (i + 1) x.0 (expr_at s.tokens (i + 1) (expr.Name x.0)) x.1 (λ e j d. d) (calls_name s.tokens (i + 1) x.0) x.2 in
    as_assigned i m.tree.0 m.tree.1 stands m.is.0 m.is.1 (read_body h (turned_once m.rest).rest)

-- ---- `local`

three_places : {s : Text} {g : ℕ} {k : List Item} {f : Bool} (i : ℕ) → Rest s g (i + 2 + 1) k f → Rest s g (i + 3) k f
three_places {s = s} {g = g} {k = k} {f = f} i r = let e : i + 2 + 1 ≡ i + 3 = omega arith in subst (λ (j : ℕ). Rest s g j k f) e r

read_local_function : {s : Text} {g v : ℕ} {k : List Item} {f : Bool} → All s g → (i : ℕ) → Has s.tokens i token.Local → Has s.tokens (i + 1) token.Function → Rest s g (i + 1 + 1) (item.a_name ∷ item.body ∷ item.wrap ∷ item.greater v ∷ k) f → Reads s Stat (λ q j. IsStat s.tokens s.brackets i q j) calls_stat [] g k f
read_local_function {s = s} h i stands function r =
    let x = read_name (two_places i r) in
    let b = read_body h (three_places i x.2) in
    record {
      tree = stat_at s.tokens i (stat.LocalFunction x.0 (function_at s.tokens (i + 1) b.tree.0 b.tree.1 b.tree.2));
      stop = b.stop;
      is = grammar.local_function i b.stop x.0 b.tree.0 b.tree.1 b.tree.2 stands function x.1 b.is;
      owed = b.owed;
      owes = λ o. same (calls_local_function s.tokens i x.0 (function_at s.tokens (i + 1) b.tree.0 b.tree.1 b.tree.2) ∙ calls_function_at s.tokens (i + 1) b.tree.0 b.tree.1 b.tree.2) (b.owes o);
      rest = greater (wrapped b.rest);
    }

pub read_local : {s : Text} {g : ℕ} {k : List Item} {f : Bool} → All s g → (i : ℕ) → Has s.tokens i token.Local → Rest s g (i + 1) (item.local_what ∷ k) f → Reads s Stat (λ q j. IsStat s.tokens s.brackets i q j) calls_stat [] g (item.stat_end ∷ k) f
read_local {s = s} {f = f} h i stands r =
    by_word word.Function _ _ (turned_once r)
    (λ function rest. read_local_function h i stands function rest)
    (λ no_function rest.
    let x = read_bind rest.rest in
    let m = h.binds (i + 1) x.tree x.is x.rest in
    by_word word.Equal _ _ (turned_once m.rest)
    (λ equal more.
    let l = read_list h more in
    record { tree = stat_at s.tokens i (stat.Local (x.tree ∷ m.tree) l.tree); stop = l.stop; is = grammar.local i m.stop l.stop (x.tree ∷ m.tree) l.tree stands m.is equal l.is; owed = l.owed; owes = λ o. same (calls_local s.tokens i (x.tree ∷ m.tree) l.tree) (l.owes o); rest = l.rest })
    (λ lacks more. record { tree = stat_at s.tokens i (stat.Local (x.tree ∷ m.tree) []); stop = m.stop; is = grammar.bare_local i m.stop (x.tree ∷ m.tree) stands m.is lacks; owed = f; owes = λ o. same (calls_local s.tokens i (x.tree ∷ m.tree) []) o; rest = more.rest }))
