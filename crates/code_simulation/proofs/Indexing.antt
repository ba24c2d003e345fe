-- What a table holds under a key or a name; values that are moved to a register below.
use Rattle.std.proofs.Common.{Bool, ◌≡◌, ℕ, suc, ◌+◌, ◌≤◌, pos, List, [], ◌∷◌, length, Some, refl, sym, ap, ◌∙◌, arith}
use Rattle.byte_text.specs.declared.fixed.StrId.{StrId}
use Rattle.syntax_tree.specs.declared.tree.Expr.{Expr}
use Rattle.syntax_tree.specs.declared.tree.ExprKind.{out-ExprKind}
use Rattle.syntax_tree.specs.declared.tree.ExprKind.TheOpen as level
use Rattle.value_model.specs.Values.{Value, Number, Text}
use Rattle.value_model.specs.Waits.{Wait}
use Rattle.value_model.specs.Choices.{Index}
use Rattle.value_model.specs.Metamethods.{choose}
use Rattle.source_meaning.specs.States.{of_expr}
use Rattle.source_meaning.specs.States as source
use Rattle.source_meaning.specs.Expressions.{text_of}
use Rattle.op_words.specs.declared.insn.Insn.TheVariants as insn
use Rattle.machine_meaning.specs.Constants.{name_at}
use Rattle.machine_meaning.specs.States.{Val, Registers, put, held}
use Rattle.machine_meaning.specs.States as machine
use Rattle.machine_meaning.specs.Moves as machine_moves
use Rattle.machine_meaning.specs.Effects as effects
use Rattle.machine_meaning.specs.Steps as machine_steps
use Rattle.code_simulation.specs.Slots.{Slot, Temp, temps, Tags, Fits, temp}
use Rattle.code_simulation.specs.Relation.{Dyn, cells_m, store_m, Setting, Act, Desc, Holds}
use Rattle.code_simulation.proofs.Along.{Alike, CallsGo, File, Here, frame, Reads, machine_at, Has}
use Rattle.code_simulation.proofs.Parts.{Sight, in_register, constant, ExprRuns, OperandRuns, Operates}
use Rattle.code_simulation.proofs.Names.{put_same, put_other, length_temps, steady_on}
use Rattle.code_simulation.proofs.World.{fits_put, drop_slot, temp_reg, fits_temps, pop, top_is}
use Rattle.code_simulation.proofs.Moving.{source_goes, target_goes}
use Rattle.code_simulation.proofs.Registers.{row_here, with_register, give_is}
use Rattle.code_simulation.proofs.Operations.{value_here}
use Rattle.code_simulation.proofs.Conditions.{begin_row}
use Rattle.code_simulation.proofs.Operators.{under}

-- ---- a value below others is replaced

-- a change below values, by a change of a register below them
fits_under : {co depth : ℕ} {tag : Tags} {regs regs' : Registers} → (vs : List Value) (l l' : List Slot)
    → length l ≡ length l' → ((r : ℕ) → length l ≤ r → regs' r ≡ regs r)
    → (Fits co depth tag regs l → Fits co depth tag regs' l')
    → Fits co depth tag regs (temps vs l) → Fits co depth tag regs' (temps vs l')
fits_under [] l l' e kept g f = g f
fits_under {regs = regs} {regs' = regs'} (v ∷ vs) l l' e kept g f =
    fits_under vs (Temp v ∷ l) (Temp v ∷ l') (ap suc e) (λ r le. kept r (omega (arith, le)))
    (λ h. temp (ap regs' (sym e) ∙ kept (length l) (omega arith) ∙ temp_reg h) (g (drop_slot h)))
    f

-- a register that holds a value is given another one
pub set_temp : {p : Setting} {turns co : ℕ} {ws : List Wait} {roots : List Desc} {a : Act} {d : Dyn} {regs : Registers}
    → (vs : List Value) (l : List Slot) (old v : Value)
    → Holds p turns co ws roots a (temps vs (Temp old ∷ l)) d regs
    → Holds p turns co ws roots a (temps vs (Temp v ∷ l)) d (put regs (length l) (Val v))
set_temp {regs = regs} vs l old v w =
    let above = length_temps vs (Temp old ∷ l) in
    let as_long = length_temps vs (Temp v ∷ l) in
    record {
      ok = w.ok;
      fits = fits_under vs (Temp old ∷ l) (Temp v ∷ l) refl
          (λ r le. put_other regs (length l) (Val v) r (λ e. omega (arith, le, e)))
          (λ f. temp (put_same regs (length l) (Val v)) (fits_put (length l) (Val v) (omega arith) (drop_slot f))) w.fits;
      clear = λ r le. let z = w.clear r (omega (arith, above, as_long, le)) in
          (z.0, put_other regs (length l) (Val v) r (λ e. omega (arith, as_long, le, e)) ∙ z.1);
      alike = w.alike;
    }

module _ (p : Setting) (most : ℕ) where
  -- the value on top is moved to a register below, where another value was
  pub move_down : (vs : List Value) (h : Here p most) (l : List Slot) (old v : Value) (place next left from : ℕ)
      (s : source.State) (d : Dyn) (file : File)
      → Reads p most h place (insn.Move (length l) from) next → file.registers from ≡ Val v
      → Has p most h left (temps vs (Temp old ∷ l)) d file
      → (Has p most h left (temps vs (Temp v ∷ l)) d (with_register p most file (length l) v)
      → Alike p left s (machine_at p most h next (with_register p most file (length l) v) d))
      → Alike p left s (machine_at p most h place file d)
  move_down vs h l old v place next left from s d file reads see w go =
      target_goes p
      (row_here p most h place next file d (insn.Move (length l) from) reads
      ∙ ap (λ x. machine_moves.give (length l) (held (cells_m d) x) next (frame p most h place file) h.below_m d.code) see
      ∙ give_is p most h machine.Idle (length l) next place v old file d.code (temp_reg (fits_temps vs (Temp old ∷ l) w.fits)))
      (go (set_temp vs l old v w))

  -- ---- instructions that index

  pub table_operates : (h : Here p most) (place a b to next : ℕ) → Reads p most h place (insn.GetTable to a b) next
      → Operates p most h place Index (in_register a) (in_register b) to next
  table_operates h place a b to next reads v u d file x y =
      row_here p most h place next file d (insn.GetTable to a b) reads
      ∙ ap (λ z. effects.index (held (cells_m d) z) (held (cells_m d) (file.registers b)) to next (frame p most h place file) h.below_m d.code) x
      ∙ ap (λ z. effects.index v (held (cells_m d) z) to next (frame p most h place file) h.below_m d.code) y

  pub number_operates : (h : Here p most) (place a n to next : ℕ) → Reads p most h place (insn.GetTableN to a n) next
      → Operates p most h place Index (in_register a) (constant (Number (pos (n + 1)))) to next
  number_operates h place a n to next reads v u d file x y =
      row_here p most h place next file d (insn.GetTableN to a n) reads
      ∙ ap (λ z. effects.index (held (cells_m d) z) (Number (pos (n + 1))) to next (frame p most h place file) h.below_m d.code) x
      ∙ ap (λ z. effects.index v z to next (frame p most h place file) h.below_m d.code) (sym y)

  -- the code's row of a name's value in a table
  pub name_row : (h : Here p most) (place a c to next : ℕ) (v : Value) (bs : List ℕ) (d : Dyn) (file : File)
      → Reads p most h place (insn.GetTableKS to a c) next → name_at p.chunk h.number c ≡ Some bs → file.registers a ≡ Val v
      → machine_steps.step p.chunk (machine_at p most h place file d)
      ≡ machine_moves.settle (choose (Index v (Text bs)) (store_m d)) (machine.Into to next) (frame p most h place file) h.below_m d.code
  name_row h place a c to next v bs d file reads name see =
      row_here p most h place next file d (insn.GetTableKS to a c) reads
      ∙ ap (λ o. effects.with_name o (λ x. effects.index (held (cells_m d) (file.registers a)) (Text x) to next)
      (frame p most h place file) h.below_m d.code) name
      ∙ ap (λ z. effects.index (held (cells_m d) z) (Text bs) to next (frame p most h place file) h.below_m d.code) see

module _ (p : Setting) (most : ℕ) (calls : (i : ℕ) → i ≤ most → CallsGo p i) where
  -- a table's value under a key, where the table has a register of its own
  pub index_same : (e table key : Expr) (own2 : Bool) (sees2 : Sight) (h : Here p most) (l : List Slot) (from mid last to : ℕ)
      → out-ExprKind e.kind ≡ level.Index table key → ExprRuns p most table h l from mid
      → ((v : Value) → OperandRuns p most key h (Temp v ∷ l) mid last own2 sees2)
      → Operates p most h last Index (in_register (length l)) sees2 (length l) to
      → length l ≤ h.proto.registers → ExprRuns p most e h l from to
  index_same e table key own2 sees2 h l from mid last to kind table_runs key_runs operates room left le k d file w go =
      source_goes p (begin_row p most e _ h l k d kind)
      (table_runs left le (source.Indexed (of_expr e) key ∷ k) d file w
      (λ i lt v d2 file2 w2 steady. source_goes p refl
      (key_runs v i (omega (arith, le, lt)) (source.Key (of_expr e) v ∷ k) d2 file2 w2
      (λ j lt2 u d3 file3 w3 see steady2.
      let w4 = under p most own2 u h (Temp v ∷ l) d3 file3 w3 in
      value_here p most calls (Index v u) h l j (omega (arith, le, lt, lt2)) (of_expr e) k last to file file3 d3 room
      (pop w4) (steady_on l _ _ _ steady steady2) (λ n lt3. go n (omega (arith, lt, lt2, lt3))) _ _ refl
      (operates v u d3 file3 (top_is w4) see)))))

  -- its value under a name
  pub member_same : (e table : Expr) (x : StrId) (own : Bool) (r c : ℕ) (h : Here p most) (l : List Slot) (from last to : ℕ)
      → out-ExprKind e.kind ≡ level.Member table x → OperandRuns p most table h l from last own (in_register r)
      → Reads p most h last (insn.GetTableKS (length l) r c) to → name_at p.chunk h.number c ≡ Some (text_of p.texts x)
      → length l ≤ h.proto.registers → ExprRuns p most e h l from to
  member_same e table x own r c h l from last to kind runs reads name room left le k d file w go =
      source_goes p (begin_row p most e _ h l k d kind)
      (runs left le (source.Member (of_expr e) x ∷ k) d file w
      (λ i lt v d2 file2 w2 see steady.
      value_here p most calls (Index v (Text (text_of p.texts x))) h l i (omega (arith, le, lt)) (of_expr e) k last to file file2 d2 room
      (under p most own v h l d2 file2 w2) steady (λ j lt2. go j (omega (arith, lt, lt2))) _ _ refl
      (name_row p most h last r c (length l) to v (text_of p.texts x) d2 file2 reads name see)))
