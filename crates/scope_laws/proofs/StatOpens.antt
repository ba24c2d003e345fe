-- What is known where the parts of a statement begin, and behind the statement.
use Rattle.std.proofs.Common.{◌≡◌, ◌∙◌, ℕ, ◌+◌, true, false, List, [], ◌∷◌, ◌++◌, length, map, take, Option, Some, None, refl, sym, ap, append-nil}
use Rattle.byte_text.specs.declared.fixed.StrId.{StrId}
use Rattle.syntax_tree.specs.declared.notes.Visible.{Visible}
use Rattle.syntax_tree.specs.declared.tree.Expr.{Expr}
use Rattle.syntax_tree.specs.declared.tree.ExprKind.TheOpen as level
use Rattle.syntax_tree.specs.declared.tree.FuncBody.{FuncBody}
use Rattle.syntax_tree.specs.declared.tree.Stat.{Stat}
use Rattle.syntax_tree.specs.Names.{Known, names_expr, names_stat, names_func, names_arm, local, locals, visible, all_visible, opened}
use Rattle.syntax_tree.specs.Names as names
use Rattle.scope_laws.specs.Declared.{stat_names, stat_targets}
use Rattle.scope_laws.specs.Declares as counts
use Rattle.scope_laws.specs.Sight.{Sight, Part, expr, stat, function, arm, block, StatLevel, stat_shows, in_stat}
use Rattle.scope_laws.specs.Sight as sight
use Rattle.scope_laws.proofs.Behind.{around, sight_by, all_behind, behind_around, behind_declared, behind_scope, take_again, AreQuiet, quiet_more, quiet_list, quiet_all, quiet_one}
use Rattle.scope_laws.proofs.Counts.{stat_count}
use Rattle.scope_laws.proofs.Effects.{sight_of, around_known, shown, names_part, names_parts, parts_join, exprs_known, targets_known, list_known, stats_known, locals_count, infos, locals_new, locals_notes, locals_faults, locals_leaps, locals_scope, locals_around, visible_known, visible_shown}
use Rattle.scope_laws.proofs.Levels.{at_stat_level}
use Rattle.scope_laws.proofs.Places.{Front, front_same, front_from, front_to}

-- what is known after a statement of this kind, whose own note stands already
abbrev pub stat_known : StatLevel → ℕ → Known → Known
stat_known l place k = at_stat_level names.steps l place k

abbrev pub behind_stat : StatLevel → Sight → Sight
behind_stat l s = record s { scope = s.scope ++ stat_shows l s.declared; declared = s.declared + at_stat_level counts.steps l }

pub record StatOpens (l : StatLevel) (place : ℕ) (k : Known) : Type 0 where
  -- what is known where the first of the parts begins, of which so many are targets
  pub into : Known
  pub targets : ℕ
  pub begins : sight_of into ≡ (in_stat l (sight_of k)).sight
  pub notes : into.notes ≡ k.notes
  pub new : into.locals ≡ k.locals ++ infos k.func (stat_names l)
  pub sets : targets ≡ length (stat_targets l)
  -- the parts make the notes and the other locals, and what is seen behind the last of them says what is seen behind the statement
  pub same : (stat_known l place k).notes ≡ (names_parts (in_stat l (sight_of k)).parts targets into).notes
  pub locals : (stat_known l place k).locals ≡ (names_parts (in_stat l (sight_of k)).parts targets into).locals
  pub ends : sight_of (names_parts (in_stat l (sight_of k)).parts targets into) ≡ all_behind (in_stat l (sight_of k)).parts (in_stat l
      (sight_of k)).sight → sight_of (stat_known l place k) ≡ behind_stat l (sight_of k)
  -- the faults of the parts are faults of the statement, and no `continue` before it is forgotten
  pub begun : into.faults ≡ k.faults
  pub faults : Front (names_parts (in_stat l (sight_of k)).parts targets into).faults (stat_known l place k).faults
  pub leaps : Front into.leaps (names_parts (in_stat l (sight_of k)).parts targets into).leaps → Front k.leaps (stat_known l place k).leaps

closing : (l : StatLevel) (s r : Sight) → r.scope ≡ s.scope ++ stat_shows l s.declared →
    r.declared ≡ (all_behind (in_stat l s).parts (in_stat l s).sight).declared → around r ≡ around s → r ≡ behind_stat l s
closing l s r scope declared first =
    sight_by r (behind_stat l s) scope (declared ∙ behind_declared (in_stat l s).parts (in_stat l s).sight ∙ stat_count l s) first

-- a statement behind which nothing more is visible
quiet_closing : (l : StatLevel) (s r : Sight) → stat_shows l s.declared ≡ [] → r.scope ≡ s.scope →
    r.declared ≡ (all_behind (in_stat l s).parts (in_stat l s).sight).declared → around r ≡ around s → r ≡ behind_stat l s
quiet_closing l s r nothing scope declared first =
    closing l s r (scope ∙ sym (append-nil s.scope) ∙ ap (λ vs. s.scope ++ vs) (sym nothing)) declared first

-- a statement that declares nothing
no_new : (l : StatLevel) (k : Known) → stat_names l ≡ [] → k.locals ≡ k.locals ++ infos k.func (stat_names l)
no_new l k none = sym (append-nil k.locals) ∙ ap (λ xs. k.locals ++ infos k.func xs) (sym none)

-- a statement whose parts see what it sees, and make nothing visible
plain : (l : StatLevel) (place : ℕ) (k : Known) (targets : ℕ) → stat_names l ≡ [] → targets ≡ length (stat_targets l) → (in_stat l (sight_of k)).sight ≡ sight_of k →
    stat_shows l (length k.locals) ≡ [] → AreQuiet (in_stat l (sight_of k)).parts →
    stat_known l place k ≡ names_parts (in_stat l (sight_of k)).parts targets k → StatOpens l place k
plain l place k targets none sets same nothing quiet e = record {
  into = k;
  targets = targets;
  begins = sym same;
  notes = refl;
  new = no_new l k none;
  sets = sets;
  same = ap (λ (t : Known). t.notes) e;
  locals = ap (λ (t : Known). t.locals) e;
  ends = λ h.
      let end : sight_of (stat_known l place k) ≡ all_behind (in_stat l (sight_of k)).parts (in_stat l (sight_of k)).sight =
      ap sight_of e ∙ h in
      quiet_closing l (sight_of k) (sight_of (stat_known l place k)) nothing
      (ap (λ (s : Sight). s.scope) end ∙ quiet (in_stat l (sight_of k)).sight ∙ ap (λ (s : Sight). s.scope) same)
      (ap (λ (s : Sight). s.declared) end)
      (ap around end ∙ behind_around (in_stat l (sight_of k)).parts (in_stat l (sight_of k)).sight
      ∙ ap around same);
  begun = refl;
  faults = front_to (front_same _) (ap (λ (t : Known). t.faults) e);
  leaps = λ f. front_to f (ap (λ (t : Known). t.leaps) e);
}

exprs_quiet : (es : List Expr) → AreQuiet (map expr es)
exprs_quiet es = quiet_all expr (λ a n. refl) es

block_quiet : (vs : List Visible) (body : List Stat) → AreQuiet (block vs body ∷ [])
block_quiet vs body = quiet_one (block vs body) (λ n. refl)

then_block_quiet : (e : Expr) (vs : List Visible) (body : List Stat) → AreQuiet (expr e ∷ block vs body ∷ [])
then_block_quiet e vs body = quiet_more (expr e) (block vs body ∷ []) (λ n. refl) (block_quiet vs body)

-- ---- declarations

declares_names : (xs : List StrId) (es : List Expr) (place : ℕ) (k : Known) → StatOpens (level.Local xs es) place k
declares_names xs es place k =
    let known : Known = names.all false (map names_expr es) (locals xs k) in
    let e : known ≡ names_parts (map expr es) 0 (locals xs k) = exprs_known es (locals xs k) in
    let v : all_visible (length k.locals) xs known ≡ record known { scope = known.scope ++ sight.visible (length k.locals) xs } =
    visible_known (length k.locals) xs known in
    let at_start : Sight = (in_stat (level.Local xs es) (sight_of k)).sight in
    record {
      into = locals xs k;
      targets = 0;
      begins = sight_by (sight_of (locals xs k)) at_start (locals_scope xs k) (locals_count xs k) (locals_around xs k);
      notes = locals_notes xs k;
      new = locals_new xs k;
      sets = refl;
      same = ap (λ (t : Known). t.notes) v ∙ ap (λ (t : Known). t.notes) e;
      locals = ap (λ (t : Known). t.locals) v ∙ ap (λ (t : Known). t.locals) e;
      ends = λ h.
          let end : sight_of known ≡ all_behind (map expr es) at_start = ap sight_of e ∙ h in
          closing (level.Local xs es) (sight_of k) (sight_of (all_visible (length k.locals) xs known))
          (ap (λ (t : Known). t.scope) v ∙ ap (λ (s : Sight). s.scope ++ sight.visible (length k.locals) xs) end
          ∙ ap (λ l. l ++ sight.visible (length k.locals) xs) (exprs_quiet es at_start))
          (ap (λ (t : Known). length t.locals) v ∙ ap (λ (s : Sight). s.declared) end)
          (ap around_known v ∙ ap around end ∙ behind_around (map expr es) at_start);
      begun = locals_faults xs k;
      faults = front_to (front_same _) (ap (λ (t : Known). t.faults) v ∙ ap (λ (t : Known). t.faults) e);
      leaps = λ f. front_from (sym (locals_leaps xs k)) (front_to f (ap (λ (t : Known). t.leaps) v ∙ ap (λ (t : Known). t.leaps) e));
    }

declares_function : (x : StrId) (f : FuncBody) (place : ℕ) (k : Known) → StatOpens (level.LocalFunction x f) place k
declares_function x f place k =
    let within : Known = visible (length k.locals) x (local x k) in
    let at_start : Sight = (in_stat (level.LocalFunction x f) (sight_of k)).sight in
    record {
      into = within;
      targets = 0;
      begins = sight_by (sight_of within) at_start refl (locals_count (x ∷ []) k) refl;
      notes = refl;
      new = refl;
      sets = refl;
      same = refl;
      locals = refl;
      ends = λ h.
          closing (level.LocalFunction x f) (sight_of k) (sight_of (names_func f within))
          (ap (λ (s : Sight). s.scope) h ∙ append-nil at_start.scope) (ap (λ (s : Sight). s.declared) h) (ap around h);
      begun = refl;
      faults = front_same _;
      leaps = λ f. f;
    }

-- ---- loops

-- a loop is over, in which X was visible last
looped : (l : StatLevel) (place : ℕ) (k : Known) (end r : Sight) → stat_shows l (length k.locals) ≡ [] →
    end ≡ all_behind (in_stat l (sight_of k)).parts (in_stat l (sight_of k)).sight → r.declared ≡ end.declared → around r ≡ around_known k →
    r.scope ≡ k.scope → r ≡ behind_stat l (sight_of k)
looped l place k end r nothing h declared first scope =
    quiet_closing l (sight_of k) r nothing scope (declared ∙ ap (λ (s : Sight). s.declared) h) first

while_loop : (a : Expr) (body : List Stat) (place : ℕ) (k : Known) → StatOpens (level.While a body) place k
while_loop a body place k =
    let known : Known = names_expr a false (opened k) in
    let last : Known = names.block (map names_stat body) known in
    let end : Known = names_part (block [] body) false known in
    record {
      into = opened k;
      targets = 0;
      begins = refl;
      notes = refl;
      new = no_new (level.While a body) k refl;
      sets = refl;
      same = refl;
      locals = refl;
      ends = λ h. looped (level.While a body) place k (sight_of end) (sight_of (stat_known (level.While a body) place k)) refl h refl refl
          (take_again (length known.scope) last.scope k.scope (ap (λ (s : Sight). s.scope) h ∙ then_block_quiet a [] body (sight_of k)));
      begun = refl;
      faults = front_same _;
      leaps = λ f. front_same _;
    }

repeat_loop : (body : List Stat) (a : Expr) (place : ℕ) (k : Known) → StatOpens (level.Repeat body a) place k
repeat_loop body a place k =
    let known : Known = names_expr a false (names.block (map names_stat body) (opened k)) in
    let end : Known = names_parts (map stat body ++ expr a ∷ []) 0 (opened k) in
    let e : known ≡ end = ap (names_expr a false) (stats_known body (opened k))
    ∙ sym (parts_join (map stat body) (expr a ∷ []) (opened k)) in
    record {
      into = opened k;
      targets = 0;
      begins = refl;
      notes = refl;
      new = no_new (level.Repeat body a) k refl;
      sets = refl;
      same = ap (λ (t : Known). t.notes) e;
      locals = ap (λ (t : Known). t.locals) e;
      ends = λ h. looped (level.Repeat body a) place k (sight_of end) (sight_of (stat_known (level.Repeat body a) place k)) refl h (ap (λ
          (t : Known). length t.locals) e) refl
          (ap (λ (t : Known). take (length k.scope) t.scope) e ∙ ap (λ (s : Sight). take (length k.scope) s.scope) h
          ∙ behind_scope (map stat body ++ expr a ∷ []) (sight_of k) k.scope [] (sym (append-nil k.scope)));
      begun = refl;
      faults = front_from (sym (ap (λ (t : Known). t.faults) e)) (record { more = _; is = refl });
      leaps = λ f. front_same _;
    }

-- a loop whose variables are declared before its first values
for_loop : (l : StatLevel) (place : ℕ) (k into known : Known) (vs : List Visible) (body : List Stat) (end : Known) → into.faults ≡ k.faults →
    into.locals ≡ k.locals ++ infos k.func (stat_names l) → 0 ≡ length (stat_targets l) →
    stat_shows l (length k.locals) ≡ [] → sight_of into ≡ (in_stat l (sight_of k)).sight → into.notes ≡ k.notes →
    (in_stat l (sight_of k)).sight.scope ≡ k.scope → AreQuiet (in_stat l (sight_of k)).parts →
    names_parts (in_stat l (sight_of k)).parts 0 into ≡ names_part (block vs body) false known →
    stat_known l place k ≡ names.outside (length k.scope) k.leaps k.func k.first (names.block (map names_stat body) (shown vs known)) →
    StatOpens l place k
for_loop l place k into known vs body end begun new sets nothing begins notes scope quiet e is =
    let last : Known = names.block (map names_stat body) (shown vs known) in
    record {
      into = into;
      targets = 0;
      begins = begins;
      notes = notes;
      new = new;
      sets = sets;
      same = ap (λ (t : Known). t.notes) is ∙ sym (ap (λ (t : Known). t.notes) e);
      locals = ap (λ (t : Known). t.locals) is ∙ sym (ap (λ (t : Known). t.locals) e);
      ends = λ h.
          let ended : sight_of (names_part (block vs body) false known) ≡ all_behind (in_stat l (sight_of k)).parts (in_stat l
          (sight_of k)).sight = ap sight_of (sym e) ∙ h in
          looped l place k (sight_of (names_part (block vs body) false known)) (sight_of (stat_known l place k)) nothing ended (ap (λ
          (t : Known). length t.locals) is) (ap around_known is)
          (ap (λ (t : Known). t.scope) is ∙ take_again (length known.scope) last.scope k.scope (ap (λ (s : Sight). s.scope) ended
          ∙ quiet (in_stat l (sight_of k)).sight ∙ scope));
      begun = begun;
      faults = front_to (front_same _) (ap (λ (t : Known). t.faults) is ∙ sym (ap (λ (t : Known). t.faults) e));
      leaps = λ f. front_to (front_same _) (ap (λ (t : Known). t.leaps) is);
    }

numeric_loop : (x : StrId) (a b : Expr) (by : Option Expr) (body : List Stat) (place : ℕ) (k : Known) →
    StatOpens (level.NumFor x a b by body) place k
numeric_loop x a b None body place k =
    let into : Known = local x (opened k) in
    let known : Known = names_expr b false (names_expr a false into) in
    for_loop (level.NumFor x a b None body) place k into known (sight.visible (length k.locals) (x ∷ [])) body known refl refl refl refl
    (sight_by (sight_of into) (in_stat (level.NumFor x a b None body) (sight_of k)).sight refl (locals_count (x ∷ [])
    (opened k)) refl) refl refl
    (quiet_more (expr a) (expr b ∷ block (sight.visible (length k.locals) (x ∷ [])) body ∷ []) (λ n. refl) (then_block_quiet b
    (sight.visible (length k.locals) (x ∷ [])) body)) refl refl
numeric_loop x a b (Some c) body place k =
    let into : Known = local x (opened k) in
    let known : Known = names_expr c false (names_expr b false (names_expr a false into)) in
    for_loop (level.NumFor x a b (Some c) body) place k into known (sight.visible (length k.locals) (x ∷ [])) body known refl refl refl refl
    (sight_by (sight_of into) (in_stat (level.NumFor x a b (Some c) body) (sight_of k)).sight refl (locals_count (x ∷ [])
    (opened k)) refl) refl refl
    (quiet_more (expr a) (expr b ∷ expr c ∷ block (sight.visible (length k.locals) (x ∷ [])) body ∷ []) (λ n. refl)
    (quiet_more (expr b) (expr c ∷ block (sight.visible (length k.locals) (x ∷ [])) body ∷ []) (λ n. refl) (then_block_quiet c
    (sight.visible (length k.locals) (x ∷ [])) body))) refl refl

general_loop : (xs : List StrId) (es : List Expr) (body : List Stat) (place : ℕ) (k : Known) → StatOpens (level.GenFor xs es body) place k
general_loop xs es body place k =
    let into : Known = locals xs (opened k) in
    let vs : List Visible = sight.visible (length k.locals) xs in
    let known : Known = names_parts (map expr es) 0 into in
    let l : StatLevel = level.GenFor xs es body in
    for_loop l place k into known vs body known (locals_faults xs (opened k)) (locals_new xs (opened k)) refl refl
    (sight_by (sight_of into) (in_stat l (sight_of k)).sight (locals_scope xs (opened k)) (locals_count xs (opened k)) (locals_around xs
    (opened k))) (locals_notes xs (opened k)) refl
    (quiet_list expr (λ a n. refl) es (block vs body ∷ []) (block_quiet vs body))
    (parts_join (map expr es) (block vs body ∷ []) into)
    (ap (λ t. names.outside (length k.scope) k.leaps k.func k.first (names.block (map names_stat body) t))
    (ap (all_visible (length k.locals) xs) (exprs_known es into) ∙ visible_shown (length k.locals) xs known))

-- ---- every statement

pub stat_opens : (l : StatLevel) (place : ℕ) (k : Known) → StatOpens l place k
stat_opens (level.Local xs es) place k = declares_names xs es place k
stat_opens (level.Assign ts es) place k =
    plain (level.Assign ts es) place k (length ts) refl refl refl refl (quiet_list expr (λ a n. refl) ts (map expr es) (exprs_quiet es))
    (exprs_known es (names.all true (map names_expr ts) k) ∙ sym (targets_known ts (map expr es) k))
stat_opens (level.Compound op a b) place k =
    plain (level.Compound op a b) place k 1 refl refl refl refl (quiet_more (expr a) (expr b ∷ []) (λ n. refl) (quiet_one (expr b) (λ n. refl))) refl
stat_opens (level.StatKind::Call e) place k = plain (level.StatKind::Call e) place k 0 refl refl refl refl (quiet_one (expr e) (λ n. refl)) refl
stat_opens (level.Do body) place k = plain (level.Do body) place k 0 refl refl refl refl (block_quiet [] body) refl
stat_opens (level.While a body) place k = while_loop a body place k
stat_opens (level.Repeat body a) place k = repeat_loop body a place k
stat_opens (level.StatKind::If arms None) place k =
    plain (level.StatKind::If arms None) place k 0 refl refl refl refl (quiet_list arm (λ a n. refl) arms [] (λ s. refl))
    (list_known arm names_arm (λ a k. refl) arms k ∙ sym (parts_join (map arm arms) [] k))
stat_opens (level.StatKind::If arms (Some body)) place k =
    plain (level.StatKind::If arms (Some body)) place k 0 refl refl refl refl (quiet_list arm (λ a n. refl) arms (block [] body ∷ [])
    (block_quiet [] body))
    (ap (names_part (block [] body) false) (list_known arm names_arm (λ a k. refl) arms k)
    ∙ sym (parts_join (map arm arms) (block [] body ∷ []) k))
stat_opens (level.NumFor x a b by body) place k = numeric_loop x a b by body place k
stat_opens (level.GenFor xs es body) place k = general_loop xs es body place k
stat_opens (level.LocalFunction x f) place k = declares_function x f place k
stat_opens (level.Return es) place k = plain (level.Return es) place k 0 refl refl refl refl (exprs_quiet es) (exprs_known es k)
stat_opens level.Break place k = plain level.Break place k 0 refl refl refl refl (λ s. refl) refl
stat_opens level.Continue place k = record {
  into = names.leap place k;
  targets = 0;
  begins = refl;
  notes = refl;
  new = no_new level.Continue k refl;
  sets = refl;
  same = refl;
  locals = refl;
  ends = λ h. looped level.Continue place k (sight_of (names.leap place k)) (sight_of (names.leap place k)) refl h refl refl refl;
  begun = refl;
  faults = front_same _;
  leaps = λ f. record { more = _; is = refl };
}
