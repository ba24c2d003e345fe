-- How turns read blocks and the statements that begin with a reserved word, where they read the parts.
use Rattle.std.proofs.Common.{◌≡◌, ◌≤◌, ◌+◌, ℕ, suc, max, Bool, true, false, ◌&&◌, if◌then◌else◌, IsTrue, IsFalse, nat_eq, List, [], ◌∷◌, ◌++◌, Option, Some, None, refl, sym, ap, ◌∙◌, arith, true≢false}
use Rattle.byte_text.specs.declared.StrId.{StrId}
use Rattle.syntax_tree.specs.declared.token.Token.{Token}
use Rattle.syntax_tree.specs.declared.token.TokenKind.{TokenKind}
use Rattle.syntax_tree.specs.declared.token.TokenKind.TheVariants as token
use Rattle.syntax_tree.specs.declared.tree.Arm.{Arm}
use Rattle.syntax_tree.specs.declared.tree.Expr.{Expr}
use Rattle.syntax_tree.specs.declared.tree.ExprKind as expr
use Rattle.syntax_tree.specs.declared.tree.Stat.{Stat}
use Rattle.syntax_tree.specs.declared.tree.StatKind as stat
use Rattle.syntax_tree.specs.Grammar.{IsTyping, IsBind, bind, IsBinds, last_bind, more_binds, IsParamList, IsTypeStat, IsMembers, no_member, more_members, IsFunctionName, function_name, method_name}
use Rattle.syntax_tree.specs.Nodes.{expr_at, stat_at, function_at, arm}
use Rattle.syntax_tree.specs.Places.{kind_at, Has, Lacks, is_named, Optional, taken, absent}
use Rattle.syntax_tree.specs.Types.{IsGenerics}
use Rattle.syntax_tree.specs.Words.{continue_name, type_name, export_name, ends_block, is_semicolon, ends_last, is_continue}
use Rattle.type_skip.specs.declared.words.Word.TheVariants as word
use Rattle.parse_steps.specs.Classes as classes
use Rattle.parse_steps.specs.Items.{Item, depth, expression}
use Rattle.parse_steps.specs.Items as item
use Rattle.parse_steps.specs.Turns.{Turn, turn, stops, stays, takes, word_or, next_reach, block_turn, ending_turn, return_turn, after_continue, after_type, after_export, named_stat}
use Rattle.parse_steps.specs.Turns as turns
use Rattle.parse_steps.proofs.ForwardCourse.{Course, Way, after, fork, cut, join, same, empty, word_past, takes_at, steps_at, stays_at, expects_goes, name_goes, wrap_goes, greater_goes, at_nest, at_place}
use Rattle.parse_steps.proofs.ForwardNodes.{deep, deep_list, deep_step, deep_other, deep_arms, deep_stat, deep_block, asked, asked_list, asked_step, asked_other, asked_arms, asked_stat, asked_block, deep_of_name, asked_of_name, deep_of_member, asked_of_member, deep_of_function, asked_of_function, deep_of_no_list, asked_of_no_list, deep_of_more_list, asked_of_more_list, deep_of_no_block, asked_of_no_block, deep_of_more_block, asked_of_more_block, deep_of_no_arms, asked_of_no_arms, deep_of_more_arms, asked_of_more_arms, deep_of_no_step, asked_of_no_step, deep_of_a_step, asked_of_a_step, deep_of_no_other, asked_of_no_other, deep_of_an_other, asked_of_an_other, deep_of_assign, asked_of_assign, deep_of_do, asked_of_do, deep_of_while, asked_of_while, deep_of_repeat, asked_of_repeat, deep_of_if, asked_of_if, deep_of_num_for, asked_of_num_for, deep_of_gen_for, asked_of_gen_for, deep_of_local, asked_of_local, deep_of_local_function, asked_of_local_function, deep_of_return, asked_of_return, deep_of_break, asked_of_break, deep_of_continue, asked_of_continue}
use Rattle.parse_steps.proofs.ForwardAssignments.{StatAdds, left_of_or}
use Rattle.parse_steps.proofs.ForwardOperators.{Adds}
use Rattle.parse_steps.proofs.ForwardPrefixes.{BodyAdds}
use Rattle.parse_steps.proofs.ForwardTables.{ExprAdds, ListAdds}
use Rattle.parse_steps.proofs.ForwardTypes.{typing_goes, bind_goes, binds_goes, for_names_goes, param_list_goes, generics_goes, type_stat_goes}

-- what ends a block
ends_there : (t : Option TokenKind) (v : ℕ) (k : List Item) → ends_block t ≡ true → block_turn (classes.opening t) v k ≡ stays v k
ends_there None v k h = refl
ends_there (Some token.End) v k h = refl
ends_there (Some token.Else) v k h = refl
ends_there (Some token.ElseIf) v k h = refl
ends_there (Some token.Until) v k h = refl
ends_there _ v k h = absurd (true≢false (sym h))

left_of_and : (a c : Bool) → a && c ≡ true → a ≡ true
left_of_and true c h = refl
left_of_and false c h = h

named_there : (y : StrId) (t : Option TokenKind) → is_named y t ≡ true → (x : StrId) × (t ≡ Some (token.Name x)) × (nat_eq x.0 y.0 ≡ true)
named_there y (Some (token.Name x)) h = (x, refl, h)
named_there y None h = absurd (true≢false (sym h))
named_there y _ h = absurd (true≢false (sym h))

bind_name : {ts : List Token} {n i j : ℕ} {x : StrId} → IsBind ts n i x j → (y : StrId) × Has ts i (token.Name y)
bind_name (bind i j x h t) = (x, h)

first_name : {ts : List Token} {n i j : ℕ} {xs : List StrId} → IsBinds ts n i xs j → (x : StrId) × Has ts i (token.Name x)
first_name (last_bind i j x a h) = bind_name a
first_name (more_binds i j k x xs a h bs) = bind_name a

members_stop : {ts : List Token} {q i j : ℕ} {a e : Expr} → IsMembers ts q i a e j → Lacks ts j token.Dot
members_stop (no_member i a h) = h
members_stop (more_members i j x a e h f m) = members_stop m

members_nest : {ts : List Token} {q i j : ℕ} {a e : Expr} → IsMembers ts q i a e j → deep a ≤ deep e
members_nest (no_member i a h) = omega arith
members_nest {ts = ts} {q = q} (more_members i j x a e h f m) = omega (arith, members_nest m, deep_of_member ts q a x)

-- of a function that is assigned
abbrev function_node : List Token → ℕ → List StrId → Bool → List Stat → Expr
function_node ts i xs u block = expr_at ts i (expr.Function (function_at ts i xs u block))

assigned_nest : (ts : List Token) (i : ℕ) (e : Expr) (xs : List StrId) (u : Bool) (block : List Stat)
    → deep_stat (stat_at ts i (stat.Assign (e ∷ []) (function_node ts i xs u block ∷ []))) ≡ max (deep e) (suc (deep_block block))
assigned_nest ts i e xs u block =
    omega (
      arith,
      deep_of_assign ts i (e ∷ []) (function_node ts i xs u block ∷ []),
      deep_of_more_list e [],
      deep_of_more_list
          (function_node ts i xs u block) [],
      deep_of_no_list,
      deep_of_function ts i xs u block,
    )

module _ {ts : List Token} {n b p : ℕ} (C : Course ts n b p) where
  abbrev pub BlockAdds : (i : ℕ) (block : List Stat) (j : ℕ) → Type 0
  BlockAdds i block j = Adds C (λ k. item.block ∷ k) i (deep_block block) (asked_block block) j

  -- a last statement, up to the end of its block
  abbrev pub LastAdds : (i : ℕ) (s : Stat) (j : ℕ) → Type 0
  LastAdds i s j = Adds C (λ k. item.block ∷ k) i (deep_stat s) (asked_stat s) j

  -- ---- functions

  pub body_step : (i j l m r : ℕ) (xs : List StrId) (w : Bool) (block : List Stat) → IsGenerics ts n i j → Has ts j token.OpenParen
      → IsParamList ts n (j + 1) xs w l → Has ts l token.CloseParen → IsTyping ts n (l + 1) m → Has ts r token.End
      → BlockAdds m block r → BodyAdds C i block (r + 1)
  body_step i j l m r xs w block g h a c t e inner v k fits way =
      C.stay refl (generics_goes C g (expects_goes C word.OpenParen h
      (param_list_goes C a c (typing_goes C t (inner v (item.expects word.End ∷ k) fits
      (after C (λ goal. expects_goes C word.End e goal) way))))))

  members_go : {q i j : ℕ} {a e : Expr} → IsMembers ts q i a e j → (k : List Item) → depth k + deep e ≤ b
      → Way C (asked e) (C.Goal j (deep e) (item.members ∷ k)) → Way C (asked a) (C.Goal i (deep a) (item.members ∷ k))
  members_go (no_member i a h) k fits w = w
  members_go {q = q} (more_members i j x a e h f m) k fits w =
      after C (λ g. takes_at C token.Dot h refl (omega (arith, fits, deep_of_member ts q a x, members_nest m))
      (name_goes C x f (wrap_goes C (at_nest C (deep_of_member ts q a x) (at_place C (omega arith) g)))))
      (same C (asked_of_member ts q a x) (members_go m k fits w))

  pub function_name_goes : {i j : ℕ} {e : Expr} {added : List StrId} → IsFunctionName ts i e added j → (k : List Item)
      → depth k + deep e ≤ b → Way C (asked e) (C.Goal j (deep e) k) → C.Goal i 0 (item.a_name ∷ item.members ∷ k)
  function_name_goes (function_name i j x e h m c) k fits w =
      name_goes C x h (at_nest C (deep_of_name ts i x)
      (empty C (asked_of_name ts i x) (members_go m k fits (after C (λ g. C.stay ends g) w))))
    where
      ends : turn (kind_at ts j) (deep e) item.members k ≡ stays (deep e) k
      ends =
          word_past word.Dot (takes (next_reach (deep e) k) (deep e) (item.a_name ∷ item.wrap ∷ item.members ∷ k))
          (word_or word.Colon (kind_at ts j) (takes (next_reach (deep e) k) (deep e) (item.a_name ∷ item.wrap ∷ k))
          (stays (deep e) k)) (members_stop m)
          ∙ word_past word.Colon (takes (next_reach (deep e) k) (deep e) (item.a_name ∷ item.wrap ∷ k)) (stays (deep e) k) c
  function_name_goes (method_name i j x y e h m c f) k fits w =
      name_goes C x h (at_nest C (deep_of_name ts i x)
      (empty C (asked_of_name ts i x) (members_go m k (omega (arith, fits, deep_of_member ts i e y))
      (after C (λ g. takes_at C token.Colon c refl (omega (arith, fits, deep_of_member ts i e y))
      (name_goes C y f (wrap_goes C (at_nest C (deep_of_member ts i e y) (at_place C (omega arith) g)))))
      (same C (asked_of_member ts i e y) w)))))

  -- ---- blocks

  stat_end_goes : {i j v : ℕ} {k : List Item} → Optional ts token.Semicolon i j → C.Goal j v (item.block ∷ k)
      → C.Goal i v (item.stat_end ∷ k)
  stat_end_goes (taken i h) g = steps_at C token.Semicolon h refl g
  stat_end_goes {v = v} {k = k} (absent i h) g = C.stay
      (word_past word.Semicolon (takes 0 v (item.block ∷ k)) (stays v (item.block ∷ k)) h) g

  pub no_stat_step : (i : ℕ) → IsTrue (ends_block (kind_at ts i)) → BlockAdds i [] i
  no_stat_step i h v k fits w = C.stay (ends_there (kind_at ts i) v k h)
      (at_nest C (omega (arith, deep_of_no_block)) (empty C asked_of_no_block w))

  pub typing_stat_step : (i j m l : ℕ) (block : List Stat) → IsTypeStat ts n i j → Optional ts token.Semicolon j m → BlockAdds m block l
      → BlockAdds i block l
  typing_stat_step i j m l block t o rest v k fits w = type_stat_goes C t (stat_end_goes o (rest v k fits w))

  pub more_stats_step : (i j m l : ℕ) (s : Stat) (block : List Stat) → Optional ts token.Semicolon j m → StatAdds C i s j
      → BlockAdds m block l → BlockAdds i (s ∷ block) l
  more_stats_step i j m l s block o first rest v k fits w =
      first v k (omega (arith, fits, deep_of_more_block s block))
      (after C (λ w2. stat_end_goes o (rest (max v (deep_stat s)) k (omega (arith, fits, deep_of_more_block s block))
      (after C (at_nest C (omega (arith, deep_of_more_block s block))) w2)))
      (fork C (asked_of_more_block s block) w))

  pub last_stat_step : (i j : ℕ) (s : Stat) → LastAdds i s j → BlockAdds i (s ∷ []) j
  last_stat_step i j s last v k fits w =
      last v k (omega (arith, fits, deep_of_more_block s []))
      (after C (λ w2. at_nest C (omega (arith, deep_of_more_block s [], deep_of_no_block)) (empty C asked_of_no_block w2))
      (fork C (asked_of_more_block s []) w))

  -- ---- last statements

  block_end_goes : {i v : ℕ} {k : List Item} → ends_block (kind_at ts i) ≡ true → C.Goal i v k → C.Goal i v (item.block_end ∷ k)
  block_end_goes {v = v} {k = k} e g = C.stay (ap (λ ends. ending_turn ends v k) e) g

  last_end_goes : {i j v : ℕ} {k : List Item} → Optional ts token.Semicolon i j → ends_block (kind_at ts j) ≡ true → C.Goal j v k
      → C.Goal i v (item.last_end ∷ k)
  last_end_goes (taken i h) e g = steps_at C token.Semicolon h refl (block_end_goes e g)
  last_end_goes {v = v} {k = k} (absent i h) e g =
      C.stay (word_past word.Semicolon (takes 0 v (item.block_end ∷ k)) (ending_turn (ends_block (kind_at ts i)) v k) h ∙ ap
      (λ ends. ending_turn ends v k) e) g

  bare_return_goes : {i j v : ℕ} {k : List Item} → Optional ts token.Semicolon i j → ends_block (kind_at ts j) ≡ true → C.Goal j v k
      → C.Goal i v (item.return_list ∷ k)
  bare_return_goes (taken i h) e g = steps_at C token.Semicolon h refl (block_end_goes e g)
  bare_return_goes {v = v} {k = k} (absent i h) e g = C.stay (ap (λ ends. return_turn ends (kind_at ts i) v k) e) g

  pub bare_return_step : (i m : ℕ) → Has ts i token.Return → Optional ts token.Semicolon (i + 1) m → ends_block (kind_at ts m) ≡ true
      → LastAdds i (stat_at ts i (stat.Return [])) m
  bare_return_step i m h o e v k fits w =
      steps_at C token.Return h refl (bare_return_goes o e
      (at_nest C (omega (arith, deep_of_return ts i [], deep_of_no_list))
      (empty C asked_of_no_list (same C (asked_of_return ts i []) w))))

  pub return_step : (i j m : ℕ) (es : List Expr) → Has ts i token.Return → IsFalse (ends_last ts (i + 1))
      → Lacks ts (i + 1) token.Semicolon → Optional ts token.Semicolon j m → ends_block (kind_at ts m) ≡ true → ListAdds C (i + 1) es j
      → LastAdds i (stat_at ts i (stat.Return es)) m
  return_step i j m es h f s o e list v k fits w =
      steps_at C token.Return h refl (C.stay listed (list v (item.last_end ∷ k) (omega (arith, fits, deep_of_return ts i es))
      (after C (λ g. last_end_goes o e (at_nest C (ap (max v) (deep_of_return ts i es)) g)) (same C (asked_of_return ts i es) w))))
    where
      listed : turn (kind_at ts (i + 1)) v item.return_list k ≡ stays v (expression ∷ item.list_more ∷ item.last_end ∷ k)
      listed =
          ap (λ ends. return_turn ends (kind_at ts (i + 1)) v k)
          (left_of_or (ends_block (kind_at ts (i + 1))) (is_semicolon (kind_at ts (i + 1)) && ends_block (kind_at ts (i + 1 + 1))) f)
          ∙ word_past word.Semicolon (takes 0 v (item.block_end ∷ k)) (stays v (expression ∷ item.list_more ∷ item.last_end ∷ k)) s

  pub break_step : (i m : ℕ) → Has ts i token.Break → Optional ts token.Semicolon (i + 1) m → ends_block (kind_at ts m) ≡ true
      → LastAdds i (stat_at ts i stat.Break) m
  break_step i m h o e v k fits w = steps_at C token.Break h refl
      (last_end_goes o e (at_nest C (omega (arith, deep_of_break ts i)) (empty C (asked_of_break ts i) w)))

  continue_goes : {i j v : ℕ} {k : List Item} (x : StrId) → nat_eq x.0 continue_name.0 ≡ true → Optional ts token.Semicolon i j
      → ends_block (kind_at ts j) ≡ true → C.Goal j v k → C.Goal i v (item.after_name x ∷ k)
  continue_goes {v = v} {k = k} x named o e g = by_end o e g
    where
      continues : (t : Option TokenKind) → turns.after_name x t v k ≡ after_continue (ends_block t) t v k
      continues t = ap (λ is. if is then after_continue (ends_block t) t v k else if nat_eq x.0 type_name.0 then after_type
          (classes.name_of t) v k else if nat_eq x.0 export_name.0 then after_export (is_named type_name t) v k else named_stat v k) named

      by_end : {i j : ℕ} → Optional ts token.Semicolon i j → ends_block (kind_at ts j) ≡ true → C.Goal j v k
          → C.Goal i v (item.after_name x ∷ k)
      by_end (taken i h) e g = C.take (continues (kind_at ts i) ∙ ap (λ o. after_continue (ends_block o) o v k) h) (omega arith)
          (block_end_goes e g)
      by_end (absent i h) e g = C.stay (continues (kind_at ts i) ∙ ap (λ ends. after_continue ends (kind_at ts i) v k) e) g

  pub continue_step : (i m : ℕ) → IsTrue (is_continue ts i) → Optional ts token.Semicolon (i + 1) m → ends_block (kind_at ts m) ≡ true
      → LastAdds i (stat_at ts i stat.Continue) m
  continue_step i m h o e v k fits w =
      let there = named_there continue_name (kind_at ts i) (left_of_and (is_named continue_name (kind_at ts i)) (ends_last ts (i + 1)) h)
      in
      steps_at C (token.Name there.0) there.1 refl
      (continue_goes there.0 there.2 o e (at_nest C (omega (arith, deep_of_continue ts i)) (empty C (asked_of_continue ts i) w)))

  -- ---- statements

  -- behind the parts of a statement whose node is around them
  node_ends : {j u v d : ℕ} {k : List Item} → d ≡ suc u → C.Goal j (max v d) (item.stat_end ∷ k)
      → C.Goal j u (item.wrap ∷ item.greater v ∷ item.stat_end ∷ k)
  node_ends {v = v} e g = wrap_goes C (greater_goes C v (at_nest C (ap (max v) e) g))

  pub do_step : (i j : ℕ) (block : List Stat) → Has ts i token.Do → Has ts j token.End → BlockAdds (i + 1) block j
      → StatAdds C i (stat_at ts i (stat.Do block)) (j + 1)
  do_step i j block h c inner v k fits w =
      takes_at C token.Do h refl (omega (arith, fits, deep_of_do ts i block))
      (inner 0 (item.expects word.End ∷ item.wrap ∷ item.greater v ∷ item.stat_end ∷ k) (omega (arith, fits, deep_of_do ts i block))
      (after C (λ g. expects_goes C word.End c (node_ends (omega (arith, deep_of_do ts i block)) g)) (same C (asked_of_do ts i block) w)))

  pub while_step : (i j m : ℕ) (c : Expr) (block : List Stat) → Has ts i token.While → Has ts j token.Do → Has ts m token.End
      → ExprAdds C (i + 1) c j → BlockAdds (j + 1) block m → StatAdds C i (stat_at ts i (stat.While c block)) (m + 1)
  while_step i j m c block h f e test inner v k fits w =
      takes_at C token.While h refl (omega (arith, fits, nests))
      (test 0 (item.expects word.Do ∷ item.block ∷ item.expects word.End ∷ item.wrap ∷ item.greater v ∷ item.stat_end ∷ k)
      (omega (arith, fits, nests))
      (after C (λ w2. expects_goes C word.Do f
      (inner (max 0 (deep c)) (item.expects word.End ∷ item.wrap ∷ item.greater v ∷ item.stat_end ∷ k) (omega (arith, fits, nests))
      (after C (λ g. expects_goes C word.End e (node_ends (omega (arith, nests)) g)) w2)))
      (fork C (asked_of_while ts i c block) w)))
    where
      nests : deep_stat (stat_at ts i (stat.While c block)) ≡ suc (max (deep c) (deep_block block))
      nests = deep_of_while ts i c block

  pub repeat_step : (i j m : ℕ) (block : List Stat) (c : Expr) → Has ts i token.Repeat → Has ts j token.Until → BlockAdds (i + 1) block j
      → ExprAdds C (j + 1) c m → StatAdds C i (stat_at ts i (stat.Repeat block c)) m
  repeat_step i j m block c h f inner test v k fits w =
      takes_at C token.Repeat h refl (omega (arith, fits, nests))
      (inner 0 (item.expects word.Until ∷ expression ∷ item.wrap ∷ item.greater v ∷ item.stat_end ∷ k) (omega (arith, fits, nests))
      (after C (λ w2. expects_goes C word.Until f
      (test (max 0 (deep_block block)) (item.wrap ∷ item.greater v ∷ item.stat_end ∷ k) (omega (arith, fits, nests))
      (after C (λ g. node_ends (omega (arith, nests)) g) w2)))
      (fork C (asked_of_repeat ts i block c) w)))
    where
      nests : deep_stat (stat_at ts i (stat.Repeat block c)) ≡ suc (max (deep_block block) (deep c))
      nests = deep_of_repeat ts i block c

  -- ---- arms

  abbrev pub ArmsAdd : (i : ℕ) (arms : List Arm) (other : Option (List Stat)) (j : ℕ) → Type 0
  ArmsAdd i arms other j = Adds C (λ k. expression ∷ item.expects word.Then ∷ item.block ∷ item.arm_more ∷ k) i
      (max (deep_arms arms) (deep_other other)) (asked_arms arms ++ asked_other other) j

  -- the places of an arm, and of what is behind it
  arm_places : {G : Type 0} (c : Expr) (block : List Stat) (arms : List Arm) (other : Option (List Stat))
      → Way C (asked_arms (arm c block ∷ arms) ++ asked_other other) G
      → Way C (asked c) (Way C (asked_block block) (Way C (asked_arms arms ++ asked_other other) G))
  arm_places c block arms other w = first (fork C (asked_of_more_arms c block arms)
      (cut C (asked_arms (arm c block ∷ arms)) (asked_other other) w))
    where
      rejoin : {G : Type 0} → Way C (asked_arms arms) (Way C (asked_other other) G) → Way C (asked_arms arms ++ asked_other other) G
      rejoin x = join C (asked_arms arms) (asked_other other) x

      first : {G : Type 0} → Way C (asked c ++ asked_block block) (Way C (asked_arms arms) (Way C (asked_other other) G))
          → Way C (asked c) (Way C (asked_block block) (Way C (asked_arms arms ++ asked_other other) G))
      first x = after C (after C rejoin) (cut C (asked c) (asked_block block) x)

  no_arms_left : {G : Type 0} (other : Option (List Stat)) → Way C (asked_arms [] ++ asked_other other) G → Way C (asked_other other) G
  no_arms_left other x = empty C asked_of_no_arms (cut C (asked_arms []) (asked_other other) x)

  -- an arm, and then what reads the rest
  arm_goes : {G : Type 0} (i j m : ℕ) (c : Expr) (block : List Stat) → Has ts j token.Then → ExprAdds C i c j → BlockAdds (j + 1) block m
      → (v : ℕ) (k : List Item) → depth k + max (deep c) (deep_block block) ≤ b → Way C (asked c) (Way C (asked_block block) G)
      → (G → C.Goal m (max (max v (deep c)) (deep_block block)) (item.arm_more ∷ k))
      → C.Goal i v (expression ∷ item.expects word.Then ∷ item.block ∷ item.arm_more ∷ k)
  arm_goes i j m c block h test inner v k fits w rest =
      test v (item.expects word.Then ∷ item.block ∷ item.arm_more ∷ k) (omega (arith, fits))
      (after C (λ w2. expects_goes C word.Then h (inner (max v (deep c)) (item.arm_more ∷ k) (omega (arith, fits)) (after C rest w2))) w)

  pub last_arm_step : (i j m : ℕ) (c : Expr) (block : List Stat) → Has ts j token.Then → Has ts m token.End → ExprAdds C i c j
      → BlockAdds (j + 1) block m → ArmsAdd i (arm c block ∷ []) None (m + 1)
  last_arm_step i j m c block h e test inner v k fits w =
      arm_goes i j m c block h test inner v k (omega (arith, fits, deep_of_more_arms c block [])) (arm_places c block [] None w)
      (λ w2. steps_at C token.End e refl (at_nest C (omega (arith, deep_of_more_arms c block [], deep_of_no_arms, deep_of_no_other))
      (empty C asked_of_no_other (no_arms_left None w2))))

  pub else_arm_step : (i j m l : ℕ) (c : Expr) (block other : List Stat) → Has ts j token.Then → Has ts m token.Else → Has ts l token.End
      → ExprAdds C i c j → BlockAdds (j + 1) block m → BlockAdds (m + 1) other l → ArmsAdd i (arm c block ∷ []) (Some other) (l + 1)
  else_arm_step i j m l c block other h f e test inner last v k fits w =
      arm_goes i j m c block h test inner v k (omega (arith, fits, deep_of_more_arms c block [])) (arm_places c block [] (Some other) w)
      (λ w2. steps_at C token.Else f refl (last (max (max v (deep c)) (deep_block block)) (item.expects word.End ∷ k)
      (omega (arith, fits, deep_of_an_other other))
      (after C (λ g. expects_goes C word.End e
      (at_nest C (omega (arith, deep_of_more_arms c block [], deep_of_no_arms, deep_of_an_other other)) g))
      (same C (asked_of_an_other other) (no_arms_left (Some other) w2)))))

  pub more_arms_step : (i j m l : ℕ) (c : Expr) (block : List Stat) (arms : List Arm) (other : Option (List Stat)) → Has ts j token.Then
      → Has ts m token.ElseIf → ExprAdds C i c j → BlockAdds (j + 1) block m → ArmsAdd (m + 1) arms other l
      → ArmsAdd i (arm c block ∷ arms) other l
  more_arms_step i j m l c block arms other h f test inner more v k fits w =
      arm_goes i j m c block h test inner v k (omega (arith, fits, deep_of_more_arms c block arms)) (arm_places c block arms other w)
      (λ w2. steps_at C token.ElseIf f refl (more (max (max v (deep c)) (deep_block block)) k
      (omega (arith, fits, deep_of_more_arms c block arms)) (after C (at_nest C (omega (arith, deep_of_more_arms c block arms))) w2)))

  pub if_step : (i j : ℕ) (arms : List Arm) (other : Option (List Stat)) → Has ts i token.If → ArmsAdd (i + 1) arms other j
      → StatAdds C i (stat_at ts i (stat.If arms other)) j
  if_step i j arms other h inner v k fits w =
      takes_at C token.If h refl (omega (arith, fits, deep_of_if ts i arms other))
      (inner 0 (item.wrap ∷ item.greater v ∷ item.stat_end ∷ k) (omega (arith, fits, deep_of_if ts i arms other))
      (after C (λ g. node_ends (omega (arith, deep_of_if ts i arms other)) g) (same C (asked_of_if ts i arms other) w)))

  -- ---- `for`

  abbrev pub StepAdds : (i : ℕ) (step : Option Expr) (j : ℕ) → Type 0
  StepAdds i step j = Adds C (λ k. item.for_step ∷ k) i (deep_step step) (asked_step step) j

  pub no_step_step : (i : ℕ) → Lacks ts i token.Comma → StepAdds i None i
  no_step_step i h v k fits w = C.stay (word_past word.Comma (takes 0 v (expression ∷ k)) (stays v k) h)
      (at_nest C (omega (arith, deep_of_no_step)) (empty C asked_of_no_step w))

  pub a_step_step : (i j : ℕ) (e : Expr) → Has ts i token.Comma → ExprAdds C (i + 1) e j → StepAdds i (Some e) j
  a_step_step i j e h inner v k fits w =
      steps_at C token.Comma h refl (inner v k (omega (arith, fits, deep_of_a_step e))
      (after C (at_nest C (ap (max v) (deep_of_a_step e))) (same C (asked_of_a_step e) w)))

  pub num_for_step : (i j m l q r : ℕ) (x : StrId) (start limit : Expr) (step : Option Expr) (block : List Stat)
      → Has ts i token.For → IsBind ts n (i + 1) x j → Has ts j token.Equal → Has ts m token.Comma → Has ts q token.Do
      → Has ts r token.End
      → ExprAdds C (j + 1) start m → ExprAdds C (m + 1) limit l → StepAdds l step q → BlockAdds (q + 1) block r
      → StatAdds C i (stat_at ts i (stat.NumFor x start limit step block)) (r + 1)
  num_for_step i j m l q r x start limit step block h a f c d e read_start read_limit read_step inner v k fits w =
      takes_at C token.For h refl (omega (arith, fits, nests)) (bind_goes C a (steps_at C token.Equal f refl
      (read_start 0 (item.expects word.Comma ∷ expression ∷ item.for_step ∷ item.expects word.Do ∷ item.block ∷ item.expects word.End ∷
      item.wrap ∷ item.greater v ∷ item.stat_end ∷ k) (omega (arith, fits, nests))
      (after C (λ w2. expects_goes C word.Comma c
      (read_limit (max 0 (deep start)) (item.for_step ∷ item.expects word.Do ∷ item.block ∷ item.expects word.End ∷ item.wrap ∷
      item.greater v ∷ item.stat_end ∷ k) (omega (arith, fits, nests))
      (after C (λ w3. read_step (max (max 0 (deep start)) (deep limit))
      (item.expects word.Do ∷ item.block ∷ item.expects word.End ∷ item.wrap ∷ item.greater v ∷ item.stat_end ∷ k)
      (omega (arith, fits, nests))
      (after C (λ w4. expects_goes C word.Do d
      (inner (max (max (max 0 (deep start)) (deep limit)) (deep_step step))
      (item.expects word.End ∷ item.wrap ∷ item.greater v ∷ item.stat_end ∷ k) (omega (arith, fits, nests))
      (after C (λ g. expects_goes C word.End e (node_ends (omega (arith, nests)) g)) w4))) w3)) w2)))
      (cut C (asked start) (asked limit) (cut C (asked start ++ asked limit) (asked_step step)
      (fork C (asked_of_num_for ts i x start limit step block) w)))))))
    where
      nests : deep_stat (stat_at ts i (stat.NumFor x start limit step block)) ≡ suc
          (max (max (deep start) (deep limit)) (max (deep_step step) (deep_block block)))
      nests = deep_of_num_for ts i x start limit step block

  pub gen_for_step : (i j m l : ℕ) (xs : List StrId) (es : List Expr) (block : List Stat)
      → Has ts i token.For → IsBinds ts n (i + 1) xs j → Has ts j token.In → Has ts m token.Do → Has ts l token.End
      → ListAdds C (j + 1) es m → BlockAdds (m + 1) block l → StatAdds C i (stat_at ts i (stat.GenFor xs es block)) (l + 1)
  gen_for_step i j m l xs es block h a f d e list inner v k fits w =
      takes_at C token.For h refl (omega (arith, fits, nests)) (for_names_goes C a f (expects_goes C word.In f
      (list 0 (item.expects word.Do ∷ item.block ∷ item.expects word.End ∷ item.wrap ∷ item.greater v ∷ item.stat_end ∷ k)
      (omega (arith, fits, nests))
      (after C (λ w2. expects_goes C word.Do d
      (inner (max 0 (deep_list es)) (item.expects word.End ∷ item.wrap ∷ item.greater v ∷ item.stat_end ∷ k)
      (omega (arith, fits, nests))
      (after C (λ g. expects_goes C word.End e (node_ends (omega (arith, nests)) g)) w2)))
      (fork C (asked_of_gen_for ts i xs es block) w)))))
    where
      nests : deep_stat (stat_at ts i (stat.GenFor xs es block)) ≡ suc (max (deep_list es) (deep_block block))
      nests = deep_of_gen_for ts i xs es block

  -- ---- functions with a name, and locals

  assigned_places : {G : Type 0} (i : ℕ) (e : Expr) (xs : List StrId) (u : Bool) (block : List Stat)
      → Way C (asked_stat (stat_at ts i (stat.Assign (e ∷ []) (function_node ts i xs u block ∷ [])))) G
      → Way C (asked e) (Way C (asked_block block) G)
  assigned_places i e xs u block w = after C value
      (fork C (asked_of_more_list e []) (fork C (asked_of_assign ts i (e ∷ []) (function_node ts i xs u block ∷ [])) w))
    where
      value : {G : Type 0} → Way C (asked_list []) (Way C (asked_list (function_node ts i xs u block ∷ [])) G)
          → Way C (asked_block block) G
      value x = same C (asked_of_function ts i xs u block)
          (after C (empty C asked_of_no_list) (fork C (asked_of_more_list (function_node ts i xs u block) [])
          (empty C asked_of_no_list x)))

  pub function_stat_step : (i j m : ℕ) (e : Expr) (added xs : List StrId) (u : Bool) (block : List Stat) → Has ts i token.Function
      → IsFunctionName ts (i + 1) e added j → BodyAdds C j block m
      → StatAdds C i (stat_at ts i (stat.Assign (e ∷ []) (expr_at ts i (expr.Function (function_at ts i (added ++ xs) u block)) ∷ []))) m
  function_stat_step i j m e added xs u block h f inner v k fits w =
      takes_at C token.Function h refl (omega (arith, fits, nests))
      (function_name_goes f (item.assigned_function ∷ item.greater v ∷ item.stat_end ∷ k) (omega (arith, fits, nests))
      (after C (λ w2. C.stay refl (inner 0 (item.wrap ∷ item.greater (deep e) ∷ item.greater v ∷ item.stat_end ∷ k)
      (omega (arith, fits, nests))
      (after C (λ g. wrap_goes C (greater_goes C (deep e) (greater_goes C v (at_nest C (omega (arith, nests)) g)))) w2))) ready))
    where
      nests : deep_stat (stat_at ts i (stat.Assign (e ∷ [])
          (expr_at ts i (expr.Function (function_at ts i (added ++ xs) u block)) ∷ []))) ≡ max (deep e) (suc (deep_block block))
      nests = assigned_nest ts i e (added ++ xs) u block

      ready : Way C (asked e) (Way C (asked_block block)
          (C.Goal m (max v (deep_stat (stat_at ts i
          (stat.Assign (e ∷ []) (expr_at ts i (expr.Function (function_at ts i (added ++ xs) u block)) ∷ []))))) (item.stat_end ∷ k)))
      ready = assigned_places i e (added ++ xs) u block w

  pub local_function_step : (i j : ℕ) (x : StrId) (xs : List StrId) (u : Bool) (block : List Stat) → Has ts i token.Local
      → Has ts (i + 1) token.Function → Has ts (i + 2) (token.Name x) → BodyAdds C (i + 3) block j
      → StatAdds C i (stat_at ts i (stat.LocalFunction x (function_at ts (i + 1) xs u block))) j
  local_function_step i j x xs u block h f g inner v k fits w =
      steps_at C token.Local h refl (takes_at C token.Function f refl (omega (arith, fits, nests))
      (at_place C (omega arith) (name_goes C x g (at_place C (omega arith)
      (inner 0 (item.wrap ∷ item.greater v ∷ item.stat_end ∷ k) (omega (arith, fits, nests))
      (after C (λ goal. node_ends (omega (arith, nests)) goal) (same C (asked_of_local_function ts i (i + 1) x xs u block) w)))))))
    where
      nests : deep_stat (stat_at ts i (stat.LocalFunction x (function_at ts (i + 1) xs u block))) ≡ suc (deep_block block)
      nests = deep_of_local_function ts i (i + 1) x xs u block

  locals_go : {i j v : ℕ} {xs : List StrId} {k : List Item} → IsBinds ts n i xs j → C.Goal j v (item.local_values ∷ item.stat_end ∷ k)
      → C.Goal i v (item.local_what ∷ k)
  locals_go a g = let there = first_name a in stays_at C (token.Name there.0) there.1 refl (binds_goes C a g)

  pub bare_local_step : (i j : ℕ) (xs : List StrId) → Has ts i token.Local → IsBinds ts n (i + 1) xs j → Lacks ts j token.Equal
      → StatAdds C i (stat_at ts i (stat.Local xs [])) j
  bare_local_step i j xs h a f v k fits w =
      steps_at C token.Local h refl (locals_go a
      (C.stay (word_past word.Equal (takes 0 v (expression ∷ item.list_more ∷ item.stat_end ∷ k)) (stays v (item.stat_end ∷ k)) f)
      (at_nest C (omega (arith, deep_of_local ts i xs [], deep_of_no_list))
      (empty C asked_of_no_list (same C (asked_of_local ts i xs []) w)))))

  pub local_step : (i j m : ℕ) (xs : List StrId) (es : List Expr) → Has ts i token.Local → IsBinds ts n (i + 1) xs j
      → Has ts j token.Equal → ListAdds C (j + 1) es m → StatAdds C i (stat_at ts i (stat.Local xs es)) m
  local_step i j m xs es h a f list v k fits w =
      steps_at C token.Local h refl (locals_go a
      (steps_at C token.Equal f refl (list v (item.stat_end ∷ k) (omega (arith, fits, deep_of_local ts i xs es))
      (after C (at_nest C (ap (max v) (deep_of_local ts i xs es))) (same C (asked_of_local ts i xs es) w)))))
