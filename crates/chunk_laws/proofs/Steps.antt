-- What the order of instructions gives the lines: captures behind closures, and takers behind lists without an end.
use Rattle.std.proofs.Common.{◌≡◌, ℕ, zero, suc, ◌+◌, ℤ, Bool, true, false, List, [], ◌∷◌, length, drop, Option, Some, None, is_some, if◌then◌else◌, refl, sym, ap, ◌∙◌, subst, ◌⊎◌, inl, inr, ⊎_elim}
use Rattle.std.specs.Prelude.{option_map}
use Rattle.op_words.specs.declared.insn.Insn.{Insn as Instruction}
use Rattle.op_words.specs.declared.insn.Insn.TheVariants as i
use Rattle.op_words.specs.Encoding.{encoded}
use Rattle.code_link.specs.declared.item.Item.{Item}
use Rattle.code_link.specs.declared.item.Item.TheVariants.{Insn, Branch, Label}
use Rattle.code_link.specs.Linking.{jumping}
use Rattle.machine_meaning.specs.Needs.{Line, is_capture, reads_top, sets_top, is_fast}
use Rattle.machine_meaning.specs.WellFormed.{Before, passing, is_closure_or_capture, leading, at_least, reader_of, first_insn, past_fast}
use Rattle.shape_laws.specs.Order.{Owed, Nothing, AList, Captures, AWord, captures, closure_of, skipped, is_load, count_at, owed, owed_by, skips, unless_bound, step, walk}
use Rattle.chunk_laws.proofs.Distances.{same_jump}
use Rattle.chunk_laws.proofs.Lines.{LinesOf}
use Rattle.chunk_laws.proofs.Landings.{AllSlow, first_step, not_bound}

-- ---- kinds of instructions

capture_plain : (y : Instruction) → is_capture y ≡ true → (reads_top y ≡ None) × (sets_top y ≡ None) × (closure_of y ≡ None) × (is_load y ≡ false)
capture_plain (i.Capture a c) e = (refl, refl, refl, refl)
capture_plain y e = cc

load_owes : (cs : List ℕ) (y : Instruction) → is_load y ≡ true → owed_by cs y ≡ Some Nothing
load_owes cs (i.LoadB a v zero) e = refl
load_owes cs y e = cc

load_reads : (y : Instruction) → is_load y ≡ true → reads_top y ≡ None
load_reads (i.LoadB a v zero) e = refl
load_reads y e = cc

closure_closes : (y : Instruction) (d : ℤ) → closure_of y ≡ Some d → is_closure_or_capture y ≡ true
closure_closes (i.NewClosure a z) d e = refl
closure_closes y d e = cc

capture_closes : (y : Instruction) → is_capture y ≡ true → is_closure_or_capture y ≡ true
capture_closes (i.Capture a c) e = refl
capture_closes y e = cc

-- ---- a step

-- what stands before fits what is owed
pub record Stands (o : Owed) (b : Before) : Type 0 where
  pub closes : (m : ℕ) → o ≡ Captures m → b.closes ≡ true
  pub sets : (f : ℕ) → o ≡ AList f → b.sets ≡ true

-- an instruction owes by itself, or is one of the captures
pub owes : (cs : List ℕ) (o p : Owed) (y : Instruction) → step cs o y ≡ Some p → (owed_by cs y ≡ Some p) ⊎ (is_capture y ≡ true)
owes cs Nothing p y e = by (is_capture y) (reads_top y) e
  where
    by : (c : Bool) (r : Option ℕ) → unless_bound c r (owed_by cs y) ≡ Some p → (owed_by cs y ≡ Some p) ⊎ (is_capture y ≡ true)
    by true r f = cc
    by false (Some n) f = cc
    by false None f = inl f
owes cs (AList from) p y e = by (at_least (reads_top y) from) e
  where
    by : (t : Bool) → (if t then owed_by cs y else None) ≡ Some p → (owed_by cs y ≡ Some p) ⊎ (is_capture y ≡ true)
    by true f = inl f
    by false f = cc
owes cs (Captures m) p y e = by (is_capture y) refl e
  where
    by : (t : Bool) → is_capture y ≡ t → (if t then Some (captures m) else None) ≡ Some p → (owed_by cs y ≡ Some p) ⊎ (is_capture y ≡ true)
    by true c f = inr c
    by false c f = cc
owes cs AWord p y e = by (is_load y) refl e
  where
    by : (t : Bool) → is_load y ≡ t → (if t then Some Nothing else None) ≡ Some p → (owed_by cs y ≡ Some p) ⊎ (is_capture y ≡ true)
    by true c f = inl (load_owes cs y c ∙ f)
    by false c f = cc

owed_set : (cs : List ℕ) (p : Owed) (y : Instruction) (a : ℕ) → sets_top y ≡ Some a → owed_by cs y ≡ Some p → p ≡ AList a
owed_set cs p y a s e =
    let there : owed_by cs y ≡ Some (AList a) = ap (λ t. owed cs t (closure_of y) (skipped y)) s in
    let both : Some p ≡ Some (AList a) = sym e ∙ there in
    cc

pub sets_owes : (cs : List ℕ) (o p : Owed) (y : Instruction) (a : ℕ) → sets_top y ≡ Some a → step cs o y ≡ Some p → p ≡ AList a
sets_owes cs o p y a s e =
    ⊎_elim (λ f. owed_set cs p y a s f) (λ c. let none = (capture_plain y c).1 in cc) (owes cs o p y e)

-- a capture stands behind a closure or another one
pub capture_behind : (cs : List ℕ) (o p : Owed) (b : Before) (y : Instruction) → Stands o b → step cs o y ≡ Some p → is_capture y ≡ true → b.closes ≡ true
capture_behind cs Nothing p b y h e c = let n = (not_bound cs Nothing p y refl e).0 in cc
capture_behind cs AWord p b y h e c = let n = (not_bound cs AWord p y refl e).0 in cc
capture_behind cs (AList from) p b y h e c = let none : at_least (reads_top y) from ≡ false = ap (λ r. at_least r from) (capture_plain y c).0 in cc
capture_behind cs (Captures m) p b y h e c = h.closes m refl

-- what takes a list stands behind what sets its end
pub taker_behind : (cs : List ℕ) (o p : Owed) (b : Before) (y : Instruction) (f : ℕ) → Stands o b → step cs o y ≡ Some p → reads_top y ≡ Some f → b.sets ≡ true
taker_behind cs Nothing p b y f h e r = let n = (not_bound cs Nothing p y refl e).1 in cc
taker_behind cs AWord p b y f h e r = let n = (not_bound cs AWord p y refl e).1 in cc
taker_behind cs (AList from) p b y f h e r = h.sets from refl
taker_behind cs (Captures m) p b y f h e r = by (is_capture y) refl e
  where
    by : (t : Bool) → is_capture y ≡ t → (if t then Some (captures m) else None) ≡ Some p → b.sets ≡ true
    by true c g = let none = (capture_plain y c).0 in cc
    by false c g = cc

-- and so on behind it
skip_none : (n m : ℕ) → skips n ≡ Some (Captures m) → ⊥
skip_none zero m e = cc
skip_none (suc zero) m e = cc
skip_none (suc (suc n)) m e = cc

skip_list : (n m : ℕ) → skips n ≡ Some (AList m) → ⊥
skip_list zero m e = cc
skip_list (suc zero) m e = cc
skip_list (suc (suc n)) m e = cc

count_list : (o : Option ℕ) (m : ℕ) → option_map captures o ≡ Some (AList m) → ⊥
count_list None m e = cc
count_list (Some zero) m e = cc
count_list (Some (suc n)) m e = cc

owed_closure : (cs : List ℕ) (list : Option ℕ) (closure : Option ℤ) (n m : ℕ) → owed cs list closure n ≡ Some (Captures m) → (d : ℤ) × (closure ≡ Some d)
owed_closure cs (Some f) closure n m e = cc
owed_closure cs None (Some d) n m e = (d, refl)
owed_closure cs None None n m e = absurd (skip_none n m e)

owed_list : (cs : List ℕ) (list : Option ℕ) (closure : Option ℤ) (n m : ℕ) → owed cs list closure n ≡ Some (AList m) → list ≡ Some m
owed_list cs (Some f) closure n m e = let same : f ≡ m = cc in ap Some same
owed_list cs None (Some d) n m e = absurd (count_list (count_at cs d) m e)
owed_list cs None None n m e = absurd (skip_list n m e)

captures_list : (n m : ℕ) → captures n ≡ AList m → ⊥
captures_list zero m e = cc
captures_list (suc n) m e = cc

-- a capture owes the captures behind it
capture_owes : (cs : List ℕ) (o p : Owed) (y : Instruction) → step cs o y ≡ Some p → is_capture y ≡ true → (m : ℕ) × (p ≡ captures m)
capture_owes cs Nothing p y e c = let n = (not_bound cs Nothing p y refl e).0 in cc
capture_owes cs AWord p y e c = let n = (not_bound cs AWord p y refl e).0 in cc
capture_owes cs (AList from) p y e c = let none : at_least (reads_top y) from ≡ false = ap (λ r. at_least r from) (capture_plain y c).0 in cc
capture_owes cs (Captures m) p y e c = let there : Some (captures m) ≡ Some p = sym (ap (λ t. if t then Some (captures m) else None) c)
    ∙ e in let same : p ≡ captures m = cc in (m, same)

pub passes : (cs : List ℕ) (o p : Owed) (b : Before) (y : Instruction) → step cs o y ≡ Some p → Stands p (passing b y)
passes cs o p b y e = record {
  closes = λ m is. ⊎_elim (λ f. let c = owed_closure cs (sets_top y) (closure_of y) (skipped y) m (f ∙ ap Some is) in closure_closes y c.0 c.1)
      (λ c. capture_closes y c) (owes cs o p y e);
  sets = λ m is. ⊎_elim (λ f. ap is_some (owed_list cs (sets_top y) (closure_of y) (skipped y) m (f ∙ ap Some is)))
      (λ c. let q = capture_owes cs o p y e c in absurd (captures_list q.0 m (sym q.1 ∙ is))) (owes cs o p y e);
}

-- ---- the lines behind

-- the first line
module _ (cs : List ℕ) (place : ℕ → Option ℕ) where
  list_step : (a : ℕ) (p : Owed) (y : Instruction) → step cs (AList a) y ≡ Some p → at_least (reads_top y) a ≡ true
  list_step a p y e = by (at_least (reads_top y) a) e
    where
      by : (t : Bool) → (if t then owed_by cs y else None) ≡ Some p → t ≡ true
      by true f = refl
      by false f = cc

  first_reads : (a : ℕ) (line : Line) (ls : List Line) (y : Instruction) → line.insn ≡ y → is_fast y ≡ false → at_least (reads_top y) a ≡ true
      → at_least (reader_of (first_insn (past_fast (line ∷ ls)))) a ≡ true
  first_reads a line ls y is slow e =
      ap (λ t. at_least (reader_of (first_insn (if t then drop 1 ls else line ∷ ls))) a) (ap is_fast is ∙ slow) ∙ ap (λ z. at_least (reads_top z) a) is ∙ e

  pub list_taken : (is : List Item) (from a : ℕ) (ls : List Line) → walk cs (AList a) is ≡ Some Nothing → AllSlow is → LinesOf place from is ls
      → at_least (reader_of (first_insn (past_fast ls))) a ≡ true
  list_taken [] from a ls w s h = cc
  list_taken (Insn y ∷ is) from a [] w s h = absurd h
  list_taken (Insn y ∷ is) from a (line ∷ ls) w s h =
      let f = first_step cs (AList a) (Insn y) is w in
      first_reads a line ls y (ap (λ (x : Line). x.insn) h.0) s.0 (list_step a f.owes y f.here)
  list_taken (Branch y l ∷ is) from a [] w s h = absurd h
  list_taken (Branch y l ∷ is) from a (line ∷ ls) w s h =
      let f = first_step cs (AList a) (Branch y l) is w in
      let j = h.0 in
      let same = same_jump y j.by s.0.1 in
      first_reads a line ls (jumping y j.by) (ap (λ (x : Line). x.insn) j.is) (same.fast ∙ s.0.0) (ap (λ r. at_least r a) same.reads
      ∙ list_step a f.owes y f.here)
  list_taken (Label l ∷ is) from a ls w s h = cc

  capture_step : (m : ℕ) (p : Owed) (y : Instruction) → step cs (Captures m) y ≡ Some p → (is_capture y ≡ true) × (p ≡ captures m)
  capture_step m p y e = by (is_capture y) e
    where
      by : (t : Bool) → (if t then Some (captures m) else None) ≡ Some p → (t ≡ true) × (p ≡ captures m)
      by true f = let same : p ≡ captures m = cc in (refl, same)
      by false f = cc

  -- as many captures stand first as are owed
  pub captures_lead : (is : List Item) (from m : ℕ) (ls : List Line) → walk cs (captures m) is ≡ Some Nothing → AllSlow is → LinesOf place from is ls
      → leading ls ≡ m
  captures_lead [] from zero [] w s h = refl
  captures_lead [] from zero (line ∷ ls) w s h = absurd h
  captures_lead [] from (suc m) ls w s h = cc
  captures_lead (Insn y ∷ is) from m [] w s h = absurd h
  captures_lead (Insn y ∷ is) from zero (line ∷ ls) w s h =
      let f = first_step cs Nothing (Insn y) is w in
      let n = not_bound cs Nothing f.owes y refl f.here in
      ap (λ (x : Line). if is_capture x.insn then suc (leading ls) else 0) h.0 ∙ ap (λ t. if t then suc (leading ls) else 0) n.0
  captures_lead (Insn y ∷ is) from (suc m) (line ∷ ls) w s h =
      let f = first_step cs (Captures m) (Insn y) is w in
      let c = capture_step m f.owes y f.here in
      ap (λ (x : Line). if is_capture x.insn then suc (leading ls) else 0) h.0 ∙ ap (λ t. if t then suc (leading ls) else 0) c.0
      ∙ ap suc (captures_lead is (from + length (encoded y)) m ls (subst (λ q. walk cs q is ≡ Some Nothing) c.1 f.rest) s.1 h.1)
  captures_lead (Branch y l ∷ is) from m [] w s h = absurd h
  captures_lead (Branch y l ∷ is) from zero (line ∷ ls) w s h =
      let f = first_step cs Nothing (Branch y l) is w in
      let n = not_bound cs Nothing f.owes y refl f.here in
      let j = h.0 in
      let same = same_jump y j.by s.0.1 in
      ap (λ (x : Line). if is_capture x.insn then suc (leading ls) else 0) j.is ∙ ap (λ t. if t then suc (leading ls) else 0) (same.capture ∙ n.0)
  captures_lead (Branch y l ∷ is) from (suc m) (line ∷ ls) w s h =
      let f = first_step cs (Captures m) (Branch y l) is w in
      let c = capture_step m f.owes y f.here in
      let j = h.0 in
      let same = same_jump y j.by s.0.1 in
      ap (λ (x : Line). if is_capture x.insn then suc (leading ls) else 0) j.is ∙ ap (λ t. if t then suc (leading ls) else 0) (same.capture ∙ c.0)
      ∙ ap suc (captures_lead is (from + length (encoded y)) m ls (subst (λ q. walk cs q is ≡ Some Nothing) c.1 f.rest) s.1 h.1)
  captures_lead (Label l ∷ is) from zero ls w s h = captures_lead is from zero ls w s h.1
  captures_lead (Label l ∷ is) from (suc m) ls w s h = cc

-- a closure owes as many captures as its child has
pub closure_owes : (cs : List ℕ) (o p : Owed) (y : Instruction) (d : ℤ) → closure_of y ≡ Some d → sets_top y ≡ None → step cs o y ≡ Some p
    → (m : ℕ) × (count_at cs d ≡ Some m) × (p ≡ captures m)
closure_owes cs o p y d c none e = ⊎_elim (λ f. by (count_at cs d) refl (sym (ap (λ t. owed cs t (closure_of y) (skipped y)) none ∙ ap (λ t. owed cs None t
    (skipped y)) c) ∙ f)) (λ x. let z = (capture_plain y x).2 in cc) (owes cs o p y e)
  where
    by : (r : Option ℕ) → count_at cs d ≡ r → option_map captures r ≡ Some p → (m : ℕ) × (count_at cs d ≡ Some m) × (p ≡ captures m)
    by None g f = cc
    by (Some m) g f = let same : p ≡ captures m = cc in (m, g, same)
