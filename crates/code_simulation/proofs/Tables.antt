-- Table constructors, whose fields without keys are stored one by one.
use Rattle.std.proofs.Common.{Bool, true, false, ◌≡◌, ℕ, zero, suc, ◌+◌, ◌≤◌, pos, List, [], ◌∷◌, length, Ok, Err, refl, sym, ap, ◌∙◌, subst, arith, ◌⊎◌, ⊎_elim, inl, inr}
use Rattle.std.specs.Prelude.{if◌then◌else◌, slice_set, slice_index_or}
use Rattle.syntax_tree.specs.declared.tree.Expr.{Expr}
use Rattle.syntax_tree.specs.declared.tree.ExprKind.{out-ExprKind}
use Rattle.syntax_tree.specs.declared.tree.ExprKind.TheOpen as level
use Rattle.syntax_tree.specs.declared.tree.Field.{Field}
use Rattle.syntax_tree.specs.declared.tree.FieldKind.{out-FieldKind}
use Rattle.value_model.specs.Values.{Value, Number, Table, TableRef, Shared, Own}
use Rattle.value_model.specs.Errors.{RunError, ReadonlyTable}
use Rattle.value_model.specs.Store.{Store, TableOf, empty_table, table_at, with_table, next_table, with_new_table}
use Rattle.value_model.specs.Tables.{set, put as put_key}
use Rattle.source_meaning.specs.Levels.{FieldLevel}
use Rattle.source_meaning.specs.States.{Node, of_expr}
use Rattle.source_meaning.specs.States as source
use Rattle.source_meaning.specs.Expressions as expressions
use Rattle.source_meaning.specs.Steps as source_steps
use Rattle.op_words.specs.declared.insn.Insn.TheVariants as insn
use Rattle.machine_meaning.specs.States.{Val, held}
use Rattle.machine_meaning.specs.States as machine
use Rattle.machine_meaning.specs.Moves as machine_moves
use Rattle.machine_meaning.specs.Effects as effects
use Rattle.machine_meaning.specs.Steps as machine_steps
use Rattle.code_simulation.specs.Slots.{Slot, Temp, temps, Steady}
use Rattle.code_simulation.specs.Relation.{Dyn, cells_m, store_s, stored, Setting}
use Rattle.code_simulation.proofs.Along.{Alike, CallsGo, File, Here, inside, frame, env_of, Reads, source_at, machine_at, Has, Same}
use Rattle.code_simulation.proofs.Parts.{ExprRuns, AllRuns}
use Rattle.code_simulation.proofs.Names.{steady_all, steady_on, steady_put}
use Rattle.code_simulation.proofs.World.{push, pop, pop_all, temp_reg, fits_temps}
use Rattle.code_simulation.proofs.Changes.{store_changed}
use Rattle.code_simulation.proofs.Stores.{table_keeps}
use Rattle.code_simulation.proofs.Moving.{source_goes, target_goes}
use Rattle.code_simulation.proofs.Waiting.{fault_here}
use Rattle.code_simulation.proofs.Registers.{row_here, with_register, give_is, listed}
use Rattle.code_simulation.proofs.Conditions.{begin_row}

-- ---- one table of a store

-- what is written at a place is there, or nothing is written
set_cases : {A : Type 0} (xs : List A) (i : ℕ) (z : A) → ((x : A) → slice_index_or (slice_set xs i x) i z ≡ x) ⊎ ((x : A) → slice_set xs i x ≡ xs)
set_cases [] i z = inr (λ x. refl)
set_cases (y ∷ ys) zero z = inl (λ x. refl)
set_cases (y ∷ ys) (suc i) z = ⊎_elim (λ f. inl f) (λ f. inr (λ x. ap (λ xs. y ∷ xs) (f x))) (set_cases ys i z)

set_twice : {A : Type 0} (xs : List A) (i : ℕ) (x y : A) → slice_set (slice_set xs i x) i y ≡ slice_set xs i y
set_twice [] i x y = refl
set_twice (z ∷ zs) zero x y = refl
set_twice (z ∷ zs) (suc i) x y = ap (λ xs. z ∷ xs) (set_twice zs i x y)

set_same : {A : Type 0} (xs : List A) (i : ℕ) (z : A) → slice_set xs i (slice_index_or xs i z) ≡ xs
set_same [] i z = refl
set_same (x ∷ xs) zero z = refl
set_same (x ∷ xs) (suc i) z = ap (λ ys. x ∷ ys) (set_same xs i z)

table_cases : (s : Store) (r : TableRef) → ((t : TableOf) → table_at (with_table s r t) r ≡ t) ⊎ ((t : TableOf) → with_table s r t ≡ s)
unfolding table_at with_table
table_cases s (Shared i) = ⊎_elim (λ f. inl f) (λ f. inr (λ t. ap (λ ts. record s { shared = ts }) (f t))) (set_cases s.shared i empty_table)
table_cases s (Own i) = ⊎_elim (λ f. inl f) (λ f. inr (λ t. ap (λ ts. record s { tables = ts }) (f t))) (set_cases s.tables i empty_table)

table_twice : (s : Store) (r : TableRef) (t u : TableOf) → with_table (with_table s r t) r u ≡ with_table s r u
unfolding with_table
table_twice s (Shared i) t u = ap (λ ts. record s { shared = ts }) (set_twice s.shared i t u)
table_twice s (Own i) t u = ap (λ ts. record s { tables = ts }) (set_twice s.tables i t u)

table_same_again : (s : Store) (r : TableRef) → with_table s r (table_at s r) ≡ s
unfolding table_at with_table
table_same_again s (Shared i) = ap (λ ts. record s { shared = ts }) (set_same s.shared i empty_table)
table_same_again s (Own i) = ap (λ ts. record s { tables = ts }) (set_same s.tables i empty_table)

-- a change of the table behind a change is one change
changed_again : (s : Store) (r : TableRef) (t : TableOf) (g : TableOf → TableOf)
    → with_table (with_table s r t) r (g (table_at (with_table s r t) r)) ≡ with_table s r (g t)
changed_again s r t g =
    ⊎_elim
    (λ f. table_twice s r t (g (table_at (with_table s r t) r)) ∙ ap (λ u. with_table s r (g u)) (f t))
    (λ f. table_twice s r t (g (table_at (with_table s r t) r)) ∙ f (g (table_at (with_table s r t) r)) ∙ sym (f (g t)))
    (table_cases s r)

frozen_still : (s : Store) (r : TableRef) (t : TableOf) (b : Bool) → (table_at s r).frozen ≡ b → t.frozen ≡ b
    → (table_at (with_table s r t) r).frozen ≡ b
frozen_still s r t b e f =
    ⊎_elim
    (λ g. ap (λ (u : TableOf). u.frozen) (g t) ∙ f)
    (λ g. ap (λ s. (table_at s r).frozen) (g t) ∙ e)
    (table_cases s r)

-- ---- values under numbers

put_frozen : (t : TableOf) (key v : Value) → (put_key t key v).frozen ≡ t.frozen
unfolding put_key
put_frozen t key v = refl

set_free : (t : TableOf) (n : ℕ) (v : Value) → t.frozen ≡ false → set t (Number (pos n)) v ≡ Ok (put_key t (Number (pos n)) v)
unfolding set
set_free t n v e = ap (λ b. if b then Err ReadonlyTable else Ok (put_key t (Number (pos n)) v)) e

set_frozen : (t : TableOf) (n : ℕ) (v : Value) → t.frozen ≡ true → set t (Number (pos n)) v ≡ Err ReadonlyTable
unfolding set
set_frozen t n v e = ap (λ b. if b then Err ReadonlyTable else Ok (put_key t (Number (pos n)) v)) e

abbrev puts_from : ℕ → List Value → TableOf → TableOf
puts_from n [] t = t
puts_from n (v ∷ vs) t = puts_from (suc n) vs (put_key t (Number (pos n)) v)

list_free : (vs : List Value) (n : ℕ) (t : TableOf) → t.frozen ≡ false → effects.set_list (Ok t) n vs ≡ Ok (puts_from n vs t)
list_free [] n t e = refl
list_free (v ∷ vs) n t e =
    ap (λ x. effects.set_list x (suc n) vs) (set_free t n v e)
    ∙ list_free vs (suc n) (put_key t (Number (pos n)) v) (put_frozen t (Number (pos n)) v ∙ e)

list_refused : (vs : List Value) (n : ℕ) (e : RunError) → effects.set_list (Err e) n vs ≡ Err e
list_refused [] n e = refl
list_refused (v ∷ vs) n e = refl

module _ (p : Setting) (most : ℕ) where
  -- the rest of a table's fields are stored, of which the next one without a key has this place
  abbrev pub FillRuns : List Field → Here p most → List Slot → (place : ℕ) → (from to : ℕ) → Type 0
  FillRuns ds h l n from to =
      (left : ℕ) → left ≤ most → (node : Node) (r : TableRef) (k : List source.Frame) (d : Dyn) (file : File) (s : source.State)
      → source_steps.step p.texts s ≡ expressions.fill p.texts node r n ds (inside p most h) k (env_of p most h l) d.script
      → Has p most h left (Temp (Table r) ∷ l) d file
      → ((i : ℕ) → i ≤ left → (d2 : Dyn) (file2 : File) → Has p most h i (Temp (Table r) ∷ l) d2 file2 → Steady l file.registers file2.registers
      → Same p most h i (source.Give (Table r)) k l d2 to file2) → Alike p left s (machine_at p most h from file d)

  pub fill_none : (h : Here p most) (l : List Slot) (n from : ℕ) → FillRuns [] h l n from from
  fill_none h l n from left le node r k d file s row w go = source_goes p row (go left (omega arith) d file w (steady_all l file.registers))

  -- the script's row of a field
  field_row : (f : Field) (ds : List Field) (x : FieldLevel) (node : Node) (r : TableRef) (n : ℕ) (h : Here p most) (l : List Slot)
      (k : List source.Frame) (d : Dyn) → out-FieldKind f.kind ≡ x
      → expressions.fill p.texts node r n (f ∷ ds) (inside p most h) k (env_of p most h l) d.script
      ≡ expressions.field p.texts x node r n ds (inside p most h) k (env_of p most h l) d.script
  field_row f ds x node r n h l k d kind =
      ap (λ (y : FieldLevel). expressions.field p.texts y node r n ds (inside p most h) k (env_of p most h l) d.script) kind

  -- the code's row of values that are stored from a key on
  store_row : {i : ℕ} (h : Here p most) (l : List Slot) (place next count n : ℕ) (r : TableRef) (vs : List Value) (d : Dyn) (file : File)
      → Reads p most h place (insn.SetList (length l) (suc (length l)) count n) next → Has p most h i (temps vs (Temp (Table r) ∷ l)) d file
      → effects.list_from count (suc (length l)) (frame p most h place file) d.code ≡ vs
      → machine_steps.step p.chunk (machine_at p most h place file d)
      ≡ effects.stored (effects.set_list (Ok (table_at (store_s d) r)) n vs) r next (frame p most h place file) h.below_m (stored d (store_s d)).code
  store_row h l place next count n r vs d file reads w list =
      let fr = frame p most h place file in
      row_here p most h place next file d (insn.SetList (length l) (suc (length l)) count n) reads
      ∙ ap (λ x. effects.store_list (held (cells_m d) x) n (effects.list_from count (suc (length l)) fr d.code) next fr h.below_m d.code)
      (temp_reg (fits_temps vs (Temp (Table r) ∷ l) w.fits))
      ∙ ap (λ us. effects.store_list (Table r) n us next fr h.below_m d.code) list
      ∙ ap (λ s. effects.stored (effects.set_list (Ok (table_at s r)) n vs) r next fr h.below_m (machine_moves.with_store s d.code)) (sym w.ok.base.store)

  -- the script stores all values, one after the other, in a table that is not frozen
  spread_goes : (vs : List Value) (node : Node) (r : TableRef) (n left : ℕ) (h : Here p most) (k : List source.Frame) (env : source.Environment)
      (d : Dyn) (s : source.State) (m : machine.State) → (table_at (store_s d) r).frozen ≡ false
      → source_steps.step p.texts s ≡ expressions.fill_values node r n vs (inside p most h) k env d.script
      → Alike p left (source_at p most h (source.Give (Table r)) k env (stored d (with_table (store_s d) r (puts_from n vs (table_at (store_s d) r))))) m
      → Alike p left s m
  spread_goes [] node r n left h k env d s m free row go =
      source_goes p row
      (subst (λ st. Alike p left (source_at p most h (source.Give (Table r)) k env (stored d st)) m) (table_same_again (store_s d) r) go)
  spread_goes (v ∷ vs) node r n left h k env d s m free row go =
      let t = put_key (table_at (store_s d) r) (Number (pos n)) v in
      let d2 = stored d (with_table (store_s d) r t) in
      source_goes p
      (row ∙ ap (λ x. expressions.stored x [] r (source.Spread node r (n + 1) vs) node (inside p most h) k env d.script)
      (set_free (table_at (store_s d) r) n v free))
      (spread_goes vs node r (n + 1) left h k env d2 _ m
      (frozen_still (store_s d) r t false free (put_frozen (table_at (store_s d) r) (Number (pos n)) v ∙ free)) refl
      (subst (λ st. Alike p left (source_at p most h (source.Give (Table r)) k env (stored d st)) m)
      (sym (changed_again (store_s d) r t (puts_from (n + 1) vs)
      ∙ ap (λ i. with_table (store_s d) r (puts_from i vs t)) (omega arith))) go))

module _ (p : Setting) (most : ℕ) (calls : (i : ℕ) → i ≤ most → CallsGo p i) where
  -- both store values in registers, where the script stores them one after the other
  values_stored : (vs : List Value) (node : Node) (r : TableRef) (n count : ℕ) (h : Here p most) (l : List Slot) (place next left : ℕ) → left ≤ most
      → (k : List source.Frame) (d : Dyn) (file : File) (s : source.State)
      → Reads p most h place (insn.SetList (length l) (suc (length l)) count n) next
      → effects.list_from count (suc (length l)) (frame p most h place file) d.code ≡ vs
      → Has p most h left (temps vs (Temp (Table r) ∷ l)) d file
      → source_steps.step p.texts s ≡ expressions.fill_values node r n vs (inside p most h) k (env_of p most h l) d.script
      → ((d2 : Dyn) → Has p most h left (Temp (Table r) ∷ l) d2 file → Same p most h left (source.Give (Table r)) k l d2 next file)
      → Alike p left s (machine_at p most h place file d)
  values_stored vs node r n count h l place next left le k d file s reads list w row go = by_frozen vs list w row (table_at (store_s d) r).frozen refl
    where
      free : (vs : List Value) → effects.list_from count (suc (length l)) (frame p most h place file) d.code ≡ vs
          → Has p most h left (temps vs (Temp (Table r) ∷ l)) d file
          → source_steps.step p.texts s ≡ expressions.fill_values node r n vs (inside p most h) k (env_of p most h l) d.script
          → (table_at (store_s d) r).frozen ≡ false → Alike p left s (machine_at p most h place file d)
      free vs list w row e =
          let st = with_table (store_s d) r (puts_from n vs (table_at (store_s d) r)) in
          let kept = table_keeps (store_s d) r (puts_from n vs (table_at (store_s d) r)) in
          target_goes p
          (store_row p most h l place next count n r vs d file reads w list
          ∙ ap (λ x. effects.stored x r next (frame p most h place file) h.below_m (stored d (store_s d)).code) (list_free vs n (table_at (store_s d) r) e))
          (spread_goes p most vs node r n left h k (env_of p most h l) d s _ e row
          (go (stored d st) (store_changed st kept.running kept.coroutines (pop_all vs (Temp (Table r) ∷ l) w))))

      by_frozen : (vs : List Value) → effects.list_from count (suc (length l)) (frame p most h place file) d.code ≡ vs
          → Has p most h left (temps vs (Temp (Table r) ∷ l)) d file
          → source_steps.step p.texts s ≡ expressions.fill_values node r n vs (inside p most h) k (env_of p most h l) d.script
          → (b : Bool) → (table_at (store_s d) r).frozen ≡ b → Alike p left s (machine_at p most h place file d)
      by_frozen vs list w row false e = free vs list w row e
      by_frozen [] list w row true e =
          target_goes p (store_row p most h l place next count n r [] d file reads w list)
          (source_goes p row
          (subst (λ st. Alike p left (source_at p most h (source.Give (Table r)) k (env_of p most h l) d)
          (machine_at p most h next file (stored d st))) (sym (table_same_again (store_s d) r))
          (go (stored d (store_s d)) (store_changed (store_s d) refl refl w))))
      by_frozen (v ∷ vs) list w row true e =
          let refused = set_frozen (table_at (store_s d) r) n v e in
          source_goes p
          (row ∙ ap (λ x. expressions.stored x [] r (source.Spread node r (n + 1) vs) node (inside p most h) k (env_of p most h l) d.script) refused)
          (target_goes p
          (store_row p most h l place next count n r (v ∷ vs) d file reads w list
          ∙ ap (λ x. effects.stored (effects.set_list x (suc n) vs) r next (frame p most h place file) h.below_m (stored d (store_s d)).code) refused
          ∙ ap (λ x. effects.stored x r next (frame p most h place file) h.below_m (stored d (store_s d)).code) (list_refused vs (suc n) ReadonlyTable)
          ∙ ap (λ st. machine_moves.fault ReadonlyTable (frame p most h place file) h.below_m (machine_moves.with_store st d.code)) w.ok.base.store)
          (fault_here p most calls ReadonlyTable h l left le (source.Awaits node (source.Wants source.One) ∷ k) machine.Idle place file d
          (pop (pop_all (v ∷ vs) (Temp (Table r) ∷ l) w))))

  -- a field without a key, behind which there are others: its value is stored at once
  pub fill_item : (f g : Field) (ds : List Field) (e : Expr) (h : Here p most) (l : List Slot) (n from mid next to : ℕ)
      → out-FieldKind f.kind ≡ level.Item e → ((r : TableRef) → ExprRuns p most e h (Temp (Table r) ∷ l) from mid)
      → Reads p most h mid (insn.SetList (length l) (suc (length l)) 2 n) next → FillRuns p most (g ∷ ds) h l (n + 1) next to
      → FillRuns p most (f ∷ g ∷ ds) h l n from to
  fill_item f g ds e h l n from mid next to kind runs reads rest left le node r k d file s row w go =
      source_goes p (row ∙ field_row p most f (g ∷ ds) _ node r n h l k d kind)
      (runs r left le (source.ItemField node r n (g ∷ ds) ∷ k) d file w
      (λ i lt v d2 file2 w2 steady. one_stored i lt v d2 file2 w2 steady))
    where
      one_stored : (i : ℕ) → i ≤ left → (v : Value) (d2 : Dyn) (file2 : File) → Has p most h i (Temp v ∷ Temp (Table r) ∷ l) d2 file2
          → Steady (Temp (Table r) ∷ l) file.registers file2.registers
          → Same p most h i (source.Give v) (source.ItemField node r n (g ∷ ds) ∷ k) l d2 mid file2
      one_stored i lt v d2 file2 w2 steady = by_frozen (table_at (store_s d2) r).frozen refl
        where
          list : effects.list_from 2 (suc (length l)) (frame p most h mid file2) d2.code ≡ v ∷ []
          list = ap (λ x. held (cells_m d2) x ∷ []) (temp_reg w2.fits)

          by_frozen : (b : Bool) → (table_at (store_s d2) r).frozen ≡ b
              → Same p most h i (source.Give v) (source.ItemField node r n (g ∷ ds) ∷ k) l d2 mid file2
          by_frozen false e =
              let t = put_key (table_at (store_s d2) r) (Number (pos n)) v in
              let kept = table_keeps (store_s d2) r t in
              source_goes p
              (ap (λ x. expressions.stored x [] r (source.Fill node r (n + 1) (g ∷ ds)) node (inside p most h) k (env_of p most h l) d2.script)
              (set_free (table_at (store_s d2) r) n v e))
              (target_goes p
              (store_row p most h l mid next 2 n r (v ∷ []) d2 file2 reads w2 list
              ∙ ap (λ x. effects.stored x r next (frame p most h mid file2) h.below_m (stored d2 (store_s d2)).code)
              (list_free (v ∷ []) n (table_at (store_s d2) r) e))
              (rest i (omega (arith, le, lt)) node r k (stored d2 (with_table (store_s d2) r t)) file2 _ refl
              (store_changed (with_table (store_s d2) r t) kept.running kept.coroutines (pop w2))
              (λ m lt2 d3 file3 w3 steady2. go m (omega (arith, lt, lt2)) d3 file3 w3 (steady_on l _ _ _ steady steady2))))
          by_frozen true e =
              let refused = set_frozen (table_at (store_s d2) r) n v e in
              source_goes p
              (ap (λ x. expressions.stored x [] r (source.Fill node r (n + 1) (g ∷ ds)) node (inside p most h) k (env_of p most h l) d2.script) refused)
              (target_goes p
              (store_row p most h l mid next 2 n r (v ∷ []) d2 file2 reads w2 list
              ∙ ap (λ x. effects.stored (effects.set_list x (suc n) []) r next (frame p most h mid file2) h.below_m (stored d2 (store_s d2)).code) refused
              ∙ ap (λ st. machine_moves.fault ReadonlyTable (frame p most h mid file2) h.below_m (machine_moves.with_store st d2.code)) w2.ok.base.store)
              (fault_here p most calls ReadonlyTable h l i (omega (arith, le, lt)) (source.Awaits node (source.Wants source.One) ∷ k) machine.Idle mid file2 d2
              (pop (pop w2))))

  -- the last field, where it has no key: all its values are stored
  pub fill_last : (f : Field) (e : Expr) (h : Here p most) (l : List Slot) (n count from mid to : ℕ) → out-FieldKind f.kind ≡ level.Item e
      → ((r : TableRef) → AllRuns p most e h (Temp (Table r) ∷ l) from mid count (λ vs. vs))
      → Reads p most h mid (insn.SetList (length l) (suc (length l)) count n) to → FillRuns p most (f ∷ []) h l n from to
  fill_last f e h l n count from mid to kind runs reads left le node r k d file s row w go =
      source_goes p (row ∙ field_row p most f [] _ node r n h l k d kind)
      (runs r left le (source.LastField node r n ∷ k) d file w
      (λ i lt vs d2 file2 w2 c steady.
      values_stored vs node r n count h l mid to i (omega (arith, le, lt)) k d2 file2 _ reads
      (listed (frame p most h mid file2) d2.code count vs (Temp (Table r) ∷ l) w2.fits c) w2 refl
      (λ d3 w3. go i lt d3 file2 w3 steady)))

  -- a table constructor: the table is made first
  pub table_same : (e : Expr) (ds : List Field) (h : Here p most) (l : List Slot) (from next to : ℕ) → out-ExprKind e.kind ≡ level.Table ds
      → Reads p most h from (insn.NewTable (length l)) next → FillRuns p most ds h l 1 next to → ExprRuns p most e h l from to
  table_same e ds h l from next to kind reads fills left le k d file w go =
      let free = w.clear (length l) (omega arith) in
      let r = next_table (store_s d) in
      let st = with_new_table (store_s d) empty_table in
      let d1 = stored d st in
      let w1 = store_changed st refl refl w in
      source_goes p (begin_row p most e _ h l k d kind)
      (target_goes p
      (row_here p most h from next file d (insn.NewTable (length l)) reads
      ∙ ap (λ s. effects.new_table (length l) next (frame p most h from file) h.below_m (machine_moves.with_store s d.code)) (sym w.ok.base.store)
      ∙ give_is p most h machine.Idle (length l) next from (Table r) free.0 file d1.code free.1)
      (fills left le (of_expr e) r k d1 (with_register p most file (length l) (Table r)) _ refl (push (Table r) w1)
      (λ i lt d2 file2 w2 steady. go i lt (Table r) d2 file2 w2
      (steady_on l _ _ _ (steady_put l file.registers (length l) (Val (Table r)) (omega arith)) steady))))
