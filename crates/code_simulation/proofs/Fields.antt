-- Assignments to what tables hold under names and keys, alone or beside names; compound ones too.
use Rattle.std.proofs.Common.{Bool, true, ◌≡◌, ℕ, zero, suc, ◌+◌, ◌≤◌, List, [], ◌∷◌, ◌++◌, length, Some, refl, sym, ap, ◌∙◌, subst, arith}
use Rattle.byte_text.specs.declared.fixed.StrId.{StrId}
use Rattle.syntax_tree.specs.declared.tree.BinOp.{BinOp}
use Rattle.syntax_tree.specs.declared.tree.Expr.{Expr}
use Rattle.syntax_tree.specs.declared.tree.ExprKind.{out-ExprKind}
use Rattle.syntax_tree.specs.declared.tree.ExprKind.TheOpen as level
use Rattle.syntax_tree.specs.declared.tree.Stat.{Stat}
use Rattle.syntax_tree.specs.declared.tree.StatKind.{out-StatKind}
use Rattle.value_model.specs.Values.{Value, Nil, Text, Bytes}
use Rattle.value_model.specs.Choices.{Index, Newindex}
use Rattle.source_meaning.specs.Levels.{ExprLevel}
use Rattle.source_meaning.specs.States.{Node, Target, ToField, of_expr, of_stat, cell_of}
use Rattle.source_meaning.specs.States as source
use Rattle.source_meaning.specs.Moves as source_moves
use Rattle.source_meaning.specs.Expressions.{text_of}
use Rattle.source_meaning.specs.Statements as statements
use Rattle.source_meaning.specs.Steps as source_steps
use Rattle.op_words.specs.declared.insn.Insn.TheVariants as insn
use Rattle.machine_meaning.specs.Constants.{name_at}
use Rattle.machine_meaning.specs.States.{Val, Registers, held}
use Rattle.machine_meaning.specs.States as machine
use Rattle.machine_meaning.specs.Effects as effects
use Rattle.code_simulation.specs.Slots.{Slot, Temp, local_at, temps, Tags, Fits}
use Rattle.code_simulation.specs.Relation.{Dyn, cells_m, Setting}
use Rattle.code_simulation.proofs.Along.{Alike, CallsGo, File, Here, inside, frame, env_of, Reads, source_at, machine_at, Has, Same}
use Rattle.code_simulation.proofs.Parts.{Sight, in_register, ExprRuns, OperandRuns, ListRuns}
use Rattle.code_simulation.proofs.Names.{binds_temps, local_temps, length_temps, steady_all}
use Rattle.code_simulation.proofs.World.{drop_slot, temp_reg, fits_temps, top_is, pop, pop_all}
use Rattle.code_simulation.proofs.Moving.{source_goes, target_goes}
use Rattle.code_simulation.proofs.Registers.{row_here}
use Rattle.code_simulation.proofs.Operations.{operation_here, value_here}
use Rattle.code_simulation.proofs.Values.{own_stays}
use Rattle.code_simulation.proofs.Blocks.{Jumps, StatRuns, stat_row}
use Rattle.code_simulation.proofs.Assigns.{Writes, write_same}
use Rattle.code_simulation.proofs.Updates.{StoreRuns, Finishes, updates}
use Rattle.code_simulation.proofs.Indexing.{table_operates, name_row}

-- ---- targets

-- a name; or a table's place under a name, or under a key
pub data Form : Type 0 where
  AtName : (x : StrId) → Form
  AtMember : (x : StrId) → Form
  AtIndex : Form

-- the values that one keeps in registers until it is stored to
abbrev pub values : Form → (table key : Value) → List Value
values (AtName x) v u = []
values (AtMember x) v u = v ∷ []
values AtIndex v u = v ∷ u ∷ []

-- the first register behind these
abbrev pub behind : Form → ℕ → ℕ
behind (AtName x) n = n
behind (AtMember x) n = suc n
behind AtIndex n = suc (suc n)

abbrev pub all_behind : List Form → ℕ
all_behind [] = 0
all_behind (f ∷ fs) = behind f (all_behind fs)

abbrev pub meant : List Bytes → source.Environment → Form → (table key : Value) → Target
meant texts env (AtName x) v u = statements.target_of (cell_of env x) x
meant texts env (AtMember x) v u = ToField v (Text (text_of texts x))
meant texts env AtIndex v u = ToField v u

-- the registers of its values from one on hold them
abbrev pub Seen : Form → (table key : Value) → (base : ℕ) → Registers → Type 0
Seen (AtName x) v u base regs = Unit {0}
Seen (AtMember x) v u base regs = regs base ≡ Val v
Seen AtIndex v u base regs = (regs base ≡ Val v) × (regs (suc base) ≡ Val u)

-- a target whose table and key are there
pub record Aimed : Type 0 where
  pub node : Node
  pub form : Form
  pub table : Value
  pub key : Value

abbrev pub forms : List Aimed → List Form
forms [] = []
forms (x ∷ xs) = x.form ∷ forms xs

abbrev pub targets : List Bytes → source.Environment → List Aimed → List (Node × Target)
targets texts env [] = []
targets texts env (x ∷ xs) = (x.node, meant texts env x.form x.table x.key) ∷ targets texts env xs

-- so many of the values, from the first on
abbrev pub firsts : ℕ → List Value → List Value
firsts zero vs = []
firsts (suc n) vs = source_moves.first vs ∷ firsts n (source_moves.rest vs)

firsts_are : (n : ℕ) (vs : List Value) → machine.adjusted n vs ≡ firsts n vs
firsts_are zero vs = refl
firsts_are (suc n) [] = ap (λ us. Nil ∷ us) (firsts_are n [])
firsts_are (suc n) (v ∷ vs) = ap (λ us. v ∷ us) (firsts_are n vs)

length_firsts : (n : ℕ) (vs : List Value) → length (firsts n vs) ≡ n
length_firsts zero vs = refl
length_firsts (suc n) vs = ap suc (length_firsts n (source_moves.rest vs))

append_all : {A : Type 0} (xs : List A) (y : A) (zs : List A) → (xs ++ y ∷ []) ++ zs ≡ xs ++ (y ∷ zs)
append_all [] y zs = refl
append_all (x ∷ xs) y zs = ap (λ ys. x ∷ ys) (append_all xs y zs)

nothing_more : {A : Type 0} (xs : List A) → xs ++ [] ≡ xs
nothing_more [] = refl
nothing_more (x ∷ xs) = ap (λ ys. x ∷ ys) (nothing_more xs)

module _ (p : Setting) (most : ℕ) where
  -- ---- the table and the key of a target are evaluated

  abbrev pub AimRuns : Expr → Form → Here p most → List Slot → (from to : ℕ) → Type 0
  AimRuns t f h l from to =
      (left : ℕ) → left ≤ most → (k : List source.Frame) (d : Dyn) (file : File) → Has p most h left l d file
      → ((i : ℕ) → i ≤ left → (v u : Value) (d2 : Dyn) (file2 : File) → Has p most h i (temps (values f v u) l) d2 file2
      → Same p most h i (source.Aimed (of_expr t) (meant p.texts (env_of p most h l) f v u)) k l d2 to file2)
      → Same p most h left (source.Aim t) k l d from file

  aim_row : (t : Expr) (x : ExprLevel) (h : Here p most) (l : List Slot) (k : List source.Frame) (d : Dyn) → out-ExprKind t.kind ≡ x
      → source_steps.step p.texts (source_at p most h (source.Aim t) k (env_of p most h l) d) ≡ statements.aim x (of_expr t)
      (inside p most h) k (env_of p most h l) d.script
  aim_row t x h l k d kind =
      ap (λ (y : ExprLevel). statements.aim y (of_expr t) (inside p most h) k (env_of p most h l) d.script) kind

  pub aim_name : (t : Expr) (x : StrId) (h : Here p most) (l : List Slot) (from : ℕ) → out-ExprKind t.kind ≡ level.Name x
      → AimRuns t (AtName x) h l from from
  aim_name t x h l from kind left le k d file w go =
      source_goes p (aim_row t _ h l k d kind) (go left (omega arith) Nil Nil d file w)

  pub aim_member : (t table : Expr) (x : StrId) (h : Here p most) (l : List Slot) (from to : ℕ) → out-ExprKind t.kind ≡ level.Member table x
      → ExprRuns p most table h l from to → AimRuns t (AtMember x) h l from to
  aim_member t table x h l from to kind runs left le k d file w go =
      source_goes p (aim_row t _ h l k d kind)
      (runs left le (source.TargetMember (of_expr t) x ∷ k) d file w
      (λ i lt v d2 file2 w2 steady. source_goes p refl (go i lt v Nil d2 file2 w2)))

  pub aim_index : (t table key : Expr) (h : Here p most) (l : List Slot) (from mid to : ℕ) → out-ExprKind t.kind ≡ level.Index table key
      → ExprRuns p most table h l from mid → ((v : Value) → ExprRuns p most key h (Temp v ∷ l) mid to) → AimRuns t AtIndex h l from to
  aim_index t table key h l from mid to kind runs key_runs left le k d file w go =
      source_goes p (aim_row t _ h l k d kind)
      (runs left le (source.TargetTable (of_expr t) key ∷ k) d file w
      (λ i lt v d2 file2 w2 steady. source_goes p refl
      (key_runs v i (omega (arith, le, lt)) (source.TargetKey (of_expr t) v ∷ k) d2 file2 w2
      (λ n lt2 u d3 file3 w3 steady2. source_goes p refl (go n (omega (arith, lt, lt2)) v u d3 file3 w3)))))

  -- those of all targets, one behind the other
  abbrev pub AllAim : Here p most → List Expr → List Form → List Slot → (from to : ℕ) → Type 0
  AllAim h [] [] l from to = from ≡ to
  AllAim h (t ∷ ts) (f ∷ fs) l from to =
      (mid : ℕ) × AimRuns t f h l from mid × ((v u : Value) → AllAim h ts fs (temps (values f v u) l) mid to)
  AllAim h [] (f ∷ fs) l from to = ⊥
  AllAim h (t ∷ ts) [] l from to = ⊥

  -- where these slots fit, the values of each target are in its registers
  abbrev pub AllSeen : Here p most → List Aimed → (base : ℕ) → List Slot → Type 0
  AllSeen h [] base l = Unit {0}
  AllSeen h (x ∷ xs) base l =
      ((tag : Tags) (regs : Registers) → Fits h.co (length h.roots) tag regs l → Seen x.form x.table x.key base regs) × AllSeen h xs (behind x.form base) l

  seen_over : (h : Here p most) (xs : List Aimed) (base : ℕ) (l : List Slot) (v : Value) → AllSeen h xs base l → AllSeen h xs base (Temp v ∷ l)
  seen_over h [] base l v s = tt
  seen_over h (x ∷ xs) base l v s = (λ tag regs f. s.0 tag regs (drop_slot f), seen_over h xs (behind x.form base) l v s.1)

  -- all targets are there, and the values come
  abbrev pub WithTargets : List Expr → List Form → List (Node × Target) → List Expr → Here p most → ℕ → List Slot → List source.Frame → (to : ℕ) → Type 0
  WithTargets ts fs done es h left l k to =
      (i : ℕ) → i ≤ left → (us : List Value) (xs : List Aimed) (d : Dyn) (file : File) → forms xs ≡ fs → length us ≡ all_behind fs
      → AllSeen h xs (length l) (temps us l) → Has p most h i (temps us l) d file
      → Same p most h i (source.EvaluateList [] es) (source.Assigns (done ++ targets p.texts (env_of p most h l) xs) ∷ k) l d to file

  aims_same : (ts : List Expr) (fs : List Form) (done : List (Node × Target)) (es : List Expr) (h : Here p most) (l : List Slot)
      (from to left : ℕ) → left ≤ most → (k : List source.Frame) (d : Dyn) (file : File) (s : source.State) → AllAim h ts fs l from to
      → Has p most h left l d file → source_steps.step p.texts s ≡ statements.aim_all done ts es (inside p most h) k (env_of p most h l) d.script
      → WithTargets ts fs done es h left l k to → Alike p left s (machine_at p most h from file d)
  aims_same [] [] done es h l from to left le k d file s all w row go =
      source_goes p row
      (subst (λ n. Same p most h left (source.EvaluateList [] es) (source.Assigns done ∷ k) l d n file) (sym all)
      (subst (λ ts. Same p most h left (source.EvaluateList [] es) (source.Assigns ts ∷ k) l d to file) (nothing_more done)
      (go left (omega arith) [] [] d file refl refl tt w)))
  aims_same [] (f ∷ fs) done es h l from to left le k d file s all w row go = absurd all
  aims_same (t ∷ ts) [] done es h l from to left le k d file s all w row go = absurd all
  aims_same (t ∷ ts) (AtName x ∷ fs) done es h l from to left le k d file s all w row go =
      let env = env_of p most h l in
      source_goes p row
      (all.1 left le (source.Aims done ts es ∷ k) d file w
      (λ i lt v u d2 file2 w2.
      let y : Aimed = record { node = of_expr t; form = AtName x; table = v; key = u } in
      let target : Node × Target = (of_expr t, meant p.texts env (AtName x) v u) in
      aims_same ts fs (done ++ target ∷ []) es h l all.0 to i (omega (arith, le, lt)) k d2 file2 _ (all.2 v u) w2 refl
      (λ n lt2 us xs d3 file3 is long seen w3.
      subst (λ ts. Same p most h n (source.EvaluateList [] es) (source.Assigns ts ∷ k) l d3 to file3) (sym (append_all done target (targets p.texts env xs)))
      (go n (omega (arith, lt, lt2)) us (y ∷ xs) d3 file3 (ap (λ fs. AtName x ∷ fs) is) long (λ tag regs f. tt, seen) w3))))
  aims_same (t ∷ ts) (AtMember x ∷ fs) done es h l from to left le k d file s all w row go =
      let env = env_of p most h l in
      source_goes p row
      (all.1 left le (source.Aims done ts es ∷ k) d file w
      (λ i lt v u d2 file2 w2.
      let y : Aimed = record { node = of_expr t; form = AtMember x; table = v; key = u } in
      let target : Node × Target = (of_expr t, meant p.texts env (AtMember x) v u) in
      aims_same ts fs (done ++ target ∷ []) es h (Temp v ∷ l) all.0 to i (omega (arith, le, lt)) k d2 file2 _ (all.2 v u) w2 refl
      (λ n lt2 us xs d3 file3 is long seen w3.
      subst (λ ts. Same p most h n (source.EvaluateList [] es) (source.Assigns ts ∷ k) l d3 to file3) (sym (append_all done target (targets p.texts env xs)))
      (go n (omega (arith, lt, lt2)) (v ∷ us) (y ∷ xs) d3 file3 (ap (λ fs. AtMember x ∷ fs) is) (ap suc long)
      (λ tag regs f. temp_reg (fits_temps us (Temp v ∷ l) f), seen) w3))))
  aims_same (t ∷ ts) (AtIndex ∷ fs) done es h l from to left le k d file s all w row go =
      let env = env_of p most h l in
      source_goes p row
      (all.1 left le (source.Aims done ts es ∷ k) d file w
      (λ i lt v u d2 file2 w2.
      let y : Aimed = record { node = of_expr t; form = AtIndex; table = v; key = u } in
      let target : Node × Target = (of_expr t, meant p.texts env AtIndex v u) in
      aims_same ts fs (done ++ target ∷ []) es h (Temp u ∷ Temp v ∷ l) all.0 to i (omega (arith, le, lt)) k d2 file2 _ (all.2 v u) w2 refl
      (λ n lt2 us xs d3 file3 is long seen w3.
      subst (λ ts. Same p most h n (source.EvaluateList [] es) (source.Assigns ts ∷ k) l d3 to file3) (sym (append_all done target (targets p.texts env xs)))
      (go n (omega (arith, lt, lt2)) (v ∷ u ∷ us) (y ∷ xs) d3 file3 (ap (λ fs. AtIndex ∷ fs) is) (ap (λ n. suc (suc n)) long)
      (λ tag regs f. let g = fits_temps us (Temp u ∷ Temp v ∷ l) f in (temp_reg (drop_slot g), temp_reg g), seen) w3))))

  -- ---- a value is stored

  -- an instruction stores the value of one register, where the target's values stand from another one on
  pub data WritesTo (h : Here p most) (l : List Slot) (base r place next : ℕ) : Form → Type 0 where
    to_name : {x : StrId} → Writes p most h l x r place next → WritesTo h l base r place next (AtName x)
    to_member : {x : StrId} → (c : ℕ) → name_at p.chunk h.number c ≡ Some (text_of p.texts x) → Reads p most h place (insn.SetTableKS r base c) next
        → WritesTo h l base r place next (AtMember x)
    to_index : Reads p most h place (insn.SetTable r base (suc base)) next → WritesTo h l base r place next AtIndex

  -- the values of registers from one on are stored, from left to right
  abbrev pub AllWriteTo : Here p most → List Slot → List Form → (base r place next : ℕ) → Type 0
  AllWriteTo h l [] base r place next = place ≡ next
  AllWriteTo h l (f ∷ fs) base r place next =
      (mid : ℕ) × WritesTo h l base r place mid f × AllWriteTo h l fs (behind f base) (suc r) mid next

module _ (p : Setting) (most : ℕ) (calls : (i : ℕ) → i ≤ most → CallsGo p i) where
  store_same : (f : Form) (v u z : Value) (node : Node) (base r : ℕ) (h : Here p most) (l l1 : List Slot) (place next left : ℕ) → left ≤ most
      → (k : List source.Frame) (ts : List (Node × Target)) (vs : List Value) (d : Dyn) (file : File) → WritesTo p most h l base r place next f
      → ((x : StrId) → local_at l1 x ≡ local_at l x) → env_of p most h l1 ≡ env_of p most h l → length l1 ≤ h.proto.registers
      → Seen f v u base file.registers → file.registers r ≡ Val z → Has p most h left l1 d file
      → ((i : ℕ) → i ≤ left → (d2 : Dyn) (file2 : File) → Has p most h i l1 d2 file2 → Same p most h i (source.Store ts vs) k l1 d2 next file2)
      → (s : source.State) → source_steps.step p.texts s ≡ statements.store_one p.texts (meant p.texts (env_of p most h l1) f v u) z node ts vs
      (inside p most h) k (env_of p most h l1) d.script → Alike p left s (machine_at p most h place file d)
  store_same _ v u z node base r h l l1 place next left le k ts vs d file (to_name {x} writes) locals envs room seen see w go s row =
      write_same p most calls x node r h l l1 place next left le k ts vs z d file writes (locals x) envs room see w go s row
  store_same _ v u z node base r h l l1 place next left le k ts vs d file (to_member {x} c name reads) locals envs room seen see w go s row =
      operation_here p most calls (Newindex v (Text (text_of p.texts x)) z) h l1 left le node (source.Stores ts vs) k
      (machine.Stores next) place file file d room w (steady_all l1 file.registers)
      (λ i lt us d2 file2 w2 steady. source_goes p refl (target_goes p refl (go i lt d2 file2 w2))) _ _ row
      (row_here p most h place next file d (insn.SetTableKS r base c) reads
      ∙ ap (λ o. effects.with_name o (λ y. effects.newindex (held (cells_m d) (file.registers base)) (Text y)
      (held (cells_m d) (file.registers r)) next) (frame p most h place file) h.below_m d.code) name
      ∙ ap (λ y. effects.newindex (held (cells_m d) y) (Text (text_of p.texts x)) (held (cells_m d) (file.registers r)) next
      (frame p most h place file) h.below_m d.code) seen
      ∙ ap (λ y. effects.newindex v (Text (text_of p.texts x)) (held (cells_m d) y) next (frame p most h place file) h.below_m d.code) see)
  store_same _ v u z node base r h l l1 place next left le k ts vs d file (to_index reads) locals envs room seen see w go s row =
      operation_here p most calls (Newindex v u z) h l1 left le node (source.Stores ts vs) k
      (machine.Stores next) place file file d room w (steady_all l1 file.registers)
      (λ i lt us d2 file2 w2 steady. source_goes p refl (target_goes p refl (go i lt d2 file2 w2))) _ _ row
      (row_here p most h place next file d (insn.SetTable r base (suc base)) reads
      ∙ ap (λ y. effects.newindex (held (cells_m d) y) (held (cells_m d) (file.registers (suc base))) (held (cells_m d) (file.registers r)) next
      (frame p most h place file) h.below_m d.code) seen.0
      ∙ ap (λ y. effects.newindex v (held (cells_m d) y) (held (cells_m d) (file.registers r)) next (frame p most h place file) h.below_m d.code) seen.1
      ∙ ap (λ y. effects.newindex v u (held (cells_m d) y) next (frame p most h place file) h.below_m d.code) see)

  stores_same : (xs : List Aimed) (vs : List Value) (h : Here p most) (l l0 : List Slot) (base place next left : ℕ) → left ≤ most
      → (k : List source.Frame) (d : Dyn) (file : File) → AllWriteTo p most h l (forms xs) base (length l0) place next → AllSeen p most h xs base l0
      → ((x : StrId) → local_at l0 x ≡ local_at l x) → env_of p most h l0 ≡ env_of p most h l → length l0 + length xs ≤ h.proto.registers
      → Has p most h left (temps (firsts (length xs) vs) l0) d file
      → ((i : ℕ) → i ≤ left → (us : List Value) (d2 : Dyn) (file2 : File) → Has p most h i (temps us l0) d2 file2
      → Same p most h i source.Done k l d2 next file2)
      → Same p most h left (source.Store (targets p.texts (env_of p most h l) xs) vs) k l d place file
  stores_same [] vs h l l0 base place next left le k d file writes seen locals envs room w go =
      source_goes p refl (subst (λ n. Same p most h left source.Done k l d n file) (sym writes) (go left (omega arith) [] d file w))
  stores_same (x ∷ xs) vs h l l0 base place next left le k d file writes seen locals envs room w go =
      let us = firsts (length xs) (source_moves.rest vs) in
      let z = source_moves.first vs in
      let l1 = temps us (Temp z ∷ l0) in
      let fits = fits_temps us (Temp z ∷ l0) w.fits in
      let same_env : env_of p most h l1 ≡ env_of p most h l = ap (λ b. b ++ h.act.outer) (binds_temps us (Temp z ∷ l0)) ∙ envs in
      subst (λ env. Alike p left (source_at p most h (source.Store (targets p.texts (env_of p most h l) (x ∷ xs)) vs) k env d)
      (machine_at p most h place file d)) same_env
      (store_same x.form x.table x.key z x.node base (length l0) h l l1 place writes.0 left le k (targets p.texts (env_of p most h l) xs)
      (source_moves.rest vs) d file writes.1 (λ y. local_temps us (Temp z ∷ l0) y ∙ locals y) same_env
      (let n = length_temps us (Temp z ∷ l0) in let m = length_firsts (length xs) (source_moves.rest vs) in omega (arith, n, m, room))
      (seen.0 d.tag file.registers (drop_slot fits)) (temp_reg fits) w
      (λ i lt d2 file2 w2.
      subst (λ env. Alike p i (source_at p most h (source.Store (targets p.texts (env_of p most h l) xs) (source_moves.rest vs)) k env d2)
      (machine_at p most h writes.0 file2 d2)) (sym same_env)
      (stores_same xs (source_moves.rest vs) h l (Temp z ∷ l0) (behind x.form base) writes.0 next i (omega (arith, le, lt)) k d2 file2 writes.2
      (seen_over p most h xs (behind x.form base) l0 z seen.1) (λ y. locals y) envs (omega (arith, room)) w2
      (λ n lt2 ws d3 file3 w3. go n (omega (arith, lt, lt2)) (z ∷ ws) d3 file3 w3)))
      _
      (ap (λ e. statements.store_one p.texts (meant p.texts e x.form x.table x.key) z x.node (targets p.texts (env_of p most h l) xs)
      (source_moves.rest vs) (inside p most h) k (env_of p most h l1) d.script) (sym same_env)))

  length_forms : (xs : List Aimed) → length (forms xs) ≡ length xs
  length_forms [] = refl
  length_forms (x ∷ xs) = ap suc (length_forms xs)

  -- an assignment to any targets
  pub assign_all_same : (s : Stat) (ts es : List Expr) (fs : List Form) (h : Here p most) (l : List Slot) (j : Jumps) (from mid last to : ℕ)
      → out-StatKind s.kind ≡ level.Assign ts es → AllAim p most h ts fs l from mid
      → ((us : List Value) → length us ≡ all_behind fs → ListRuns p most es h (temps us l) mid last (suc (length fs)) (machine.adjusted (length fs)))
      → AllWriteTo p most h l fs (length l) (length l + all_behind fs) last to → length l + all_behind fs + length fs ≤ h.proto.registers
      → StatRuns p most s h l j from to (λ c. l)
  assign_all_same s ts es fs h l j from mid last to kind aims runs writes room left le k d file w ways go =
      aims_same p most ts fs [] es h l from mid left le k d file _ aims w (stat_row p most s _ h l k d kind)
      (λ i lt us xs d2 file2 is long seen w2. stored i lt us xs d2 file2 is long seen w2)
    where
      stored : WithTargets p most ts fs [] es h left l k mid
      stored i lt us xs d2 file2 is long seen w2 =
          let above = length_temps us l in
          let many : length fs ≡ length xs = ap length (sym is) ∙ length_forms xs in
          let place : length (temps us l) ≡ length l + all_behind fs = omega (arith, above, long) in
          let envs : env_of p most h (temps us l) ≡ env_of p most h l = ap (λ b. b ++ h.act.outer) (binds_temps us l) in
          subst (λ env. Alike p i (source_at p most h (source.EvaluateList [] es) (source.Assigns (targets p.texts (env_of p most h l) xs) ∷ k) env d2)
          (machine_at p most h mid file2 d2)) envs
          (runs us long i (omega (arith, le, lt)) [] (source.Assigns (targets p.texts (env_of p most h l) xs) ∷ k) d2 file2 _ refl w2
          (λ n lt2 vs d3 file3 w3 c steady.
          subst (λ env. Alike p n (source_at p most h (source.GiveAll vs) (source.Assigns (targets p.texts (env_of p most h l) xs) ∷ k) env d3)
          (machine_at p most h last file3 d3)) (sym envs)
          (source_goes p refl
          (stores_same xs vs h l (temps us l) (length l) last to n (omega (arith, le, lt, lt2)) k d3 file3
          (subst (λ fs. AllWriteTo p most h l fs (length l) (length (temps us l)) last to) (sym is)
          (subst (λ r. AllWriteTo p most h l fs (length l) r last to) (sym place) writes))
          seen (local_temps us l) envs (omega (arith, place, many, room))
          (subst (λ us2. Has p most h n (temps us2 (temps us l)) d3 file3) (ap (λ n. machine.adjusted n vs) many ∙ firsts_are (length xs) vs) w3)
          (λ m lt3 ws d4 file4 w4. go m (omega (arith, lt, lt2, lt3)) 0 d4 file4 (pop_all us l (pop_all ws (temps us l) w4)))))))

  -- ---- compound assignments

  -- what is in the first free register is stored where a target's values stand below it
  pub store_member : (node : Node) (v : Value) (x : StrId) (h : Here p most) (l : List Slot) (next to : ℕ)
      → WritesTo p most h l (length l) (suc (length l)) next to (AtMember x) → suc (suc (length l)) ≤ h.proto.registers
      → StoreRuns p most calls node (ToField v (Text (text_of p.texts x))) h (Temp v ∷ l) next to
  store_member node v x h l next to writes room left le k z d file w go =
      store_same (AtMember x) v Nil z node (length l) (suc (length l)) h l (Temp z ∷ Temp v ∷ l) next to left le k [] [] d file writes (λ y. refl) refl room
      (temp_reg (drop_slot w.fits)) (top_is w) w go _ refl

  pub store_index : (node : Node) (v u : Value) (h : Here p most) (l : List Slot) (next to : ℕ)
      → WritesTo p most h l (length l) (suc (suc (length l))) next to AtIndex → suc (suc (suc (length l))) ≤ h.proto.registers
      → StoreRuns p most calls node (ToField v u) h (Temp u ∷ Temp v ∷ l) next to
  store_index node v u h l next to writes room left le k z d file w go =
      store_same AtIndex v u z node (length l) (suc (suc (length l))) h l (Temp z ∷ Temp u ∷ Temp v ∷ l) next to left le k [] [] d file writes
      (λ y. refl) refl room (temp_reg (drop_slot (drop_slot w.fits)), temp_reg (drop_slot w.fits)) (top_is w) w go _ refl

  -- to what a table holds under a name
  pub compound_member_same : (s : Stat) (o : BinOp) (t b : Expr) (x : StrId) (c : ℕ) (own2 : Bool) (sees2 : Sight) (h : Here p most) (l : List Slot)
      (j : Jumps) (from mid on last to : ℕ) → out-StatKind s.kind ≡ level.Compound o t b → AimRuns p most t (AtMember x) h l from mid
      → name_at p.chunk h.number c ≡ Some (text_of p.texts x) → Reads p most h mid (insn.GetTableKS (suc (length l)) (length l) c) on
      → ((v old : Value) → OperandRuns p most b h (Temp old ∷ Temp v ∷ l) on last own2 sees2)
      → ((v : Value) → Finishes p most calls (of_stat s) o (ToField v (Text (text_of p.texts x))) h (Temp v ∷ l) (in_register (suc (length l))) sees2 last to)
      → suc (length l) ≤ h.proto.registers → StatRuns p most s h l j from to (λ c. l)
  compound_member_same s o t b x c own2 sees2 h l j from mid on last to kind aims name reads b_runs finishes room left le k d file w ways go =
      let key = Text (text_of p.texts x) in
      source_goes p (stat_row p most s _ h l k d kind)
      (aims left le (source.Updates (of_stat s) o b ∷ k) d file w
      (λ i lt v u d2 file2 w2.
      value_here p most calls (Index v key) h (Temp v ∷ l) i (omega (arith, le, lt)) (of_stat s) (source.Reads (of_stat s) o (ToField v key) b ∷ k) mid on
      file2 file2 d2 room w2 (steady_all (Temp v ∷ l) file2.registers)
      (λ n lt2 old d3 file3 w3 steady.
      updates p most calls (of_stat s) o b (ToField v key) true (in_register (suc (length l))) own2 sees2 h (Temp v ∷ l) on last to n
      (omega (arith, le, lt, lt2)) k old d3 file3 w3 (top_is w3) (own_stays p most h (Temp v ∷ l)) (b_runs v) (finishes v)
      (λ m lt3 d4 file4 w4. go m (omega (arith, lt, lt2, lt3)) 0 d4 file4 (pop w4)))
      _ _ refl
      (name_row p most h mid (length l) c (suc (length l)) on v (text_of p.texts x) d2 file2 reads name (top_is w2))))

  -- and under a key
  pub compound_index_same : (s : Stat) (o : BinOp) (t b : Expr) (own2 : Bool) (sees2 : Sight) (h : Here p most) (l : List Slot) (j : Jumps)
      (from mid on last to : ℕ) → out-StatKind s.kind ≡ level.Compound o t b → AimRuns p most t AtIndex h l from mid
      → Reads p most h mid (insn.GetTable (suc (suc (length l))) (length l) (suc (length l))) on
      → ((v u old : Value) → OperandRuns p most b h (Temp old ∷ Temp u ∷ Temp v ∷ l) on last own2 sees2)
      → ((v u : Value) → Finishes p most calls (of_stat s) o (ToField v u) h (Temp u ∷ Temp v ∷ l) (in_register (suc (suc (length l)))) sees2 last to)
      → suc (suc (length l)) ≤ h.proto.registers → StatRuns p most s h l j from to (λ c. l)
  compound_index_same s o t b own2 sees2 h l j from mid on last to kind aims reads b_runs finishes room left le k d file w ways go =
      source_goes p (stat_row p most s _ h l k d kind)
      (aims left le (source.Updates (of_stat s) o b ∷ k) d file w
      (λ i lt v u d2 file2 w2.
      let l2 : List Slot = Temp u ∷ Temp v ∷ l in
      value_here p most calls (Index v u) h l2 i (omega (arith, le, lt)) (of_stat s) (source.Reads (of_stat s) o (ToField v u) b ∷ k) mid on
      file2 file2 d2 room w2 (steady_all l2 file2.registers)
      (λ n lt2 old d3 file3 w3 steady.
      updates p most calls (of_stat s) o b (ToField v u) true (in_register (suc (suc (length l)))) own2 sees2 h l2 on last to n
      (omega (arith, le, lt, lt2)) k old d3 file3 w3 (top_is w3) (own_stays p most h l2) (b_runs v u) (finishes v u)
      (λ m lt3 d4 file4 w4. go m (omega (arith, lt, lt2, lt3)) 0 d4 file4 (pop (pop w4))))
      _ _ refl
      (table_operates p most h mid (length l) (suc (length l)) (suc (suc (length l))) on reads v u d2 file2 (temp_reg (drop_slot w2.fits)) (top_is w2))))
