-- What keeps the two states together: assignments, declarations, captures, new closures, another store.
use Rattle.std.proofs.Common.{◌≡◌, ◌≢◌, ℕ, zero, suc, ◌+◌, Bool, true, List, [], ◌∷◌, ◌++◌, length, Some, refl, sym, ap, ◌∙◌, subst, arith, length-append, ◌⊎◌, ⊎_elim, inl, inr}
use Rattle.std.specs.Prelude.{slice_get, slice_set}
use Rattle.std.proofs.lemmas.Bool.{cases_eq}
use Rattle.std.proofs.lemmas.List.{get_or-set_same, get_or-set_other, length-set}
use Rattle.std.proofs.Math.ListN.{get_or-append}
use Rattle.std.proofs.Math.Seq.{get_or-append_seam}
use Rattle.byte_text.specs.declared.fixed.StrId.{StrId}
use Rattle.value_model.specs.Values.{Value, Nil, TableRef}
use Rattle.value_model.specs.Store.{Store, with_new_closure}
use Rattle.value_model.specs.Waits.{Wait}
use Rattle.source_meaning.specs.States.{Environment, cell_of}
use Rattle.source_meaning.specs.States as source
use Rattle.machine_meaning.specs.States.{Register, Val, Open, Registers, put}
use Rattle.machine_meaning.specs.States as machine
use Rattle.code_simulation.specs.Slots.{Slot, Var, Temp, Local, local_at, temps, vars, IsApart, Tag, Of, Taken, Tags, mark, Match, Fits, none, temp, var, Clear}
use Rattle.code_simulation.specs.Relation.{at, Dyn, cells_s, cells_m, bodies_s, bodies_m, store_s, changed, stored, Keeps, Setting, UpsAlike, FuncAlike, Base, Act, Desc, Ok, Holds}
use Rattle.code_simulation.proofs.Names.{same_some, none_some, local_cases, below, apart_at, length_over, mark_same, mark_other, put_same, put_other}
use Rattle.code_simulation.proofs.World.{keeps_all, ups_keep, func_keep, ok_keep, fits_put, drop_slot, temp_reg, fits_over}

-- ---- lists
pub get_append : {A : Type 0} (xs : List A) (x : A) (i : ℕ) (y : A) → slice_get xs i ≡ Some y → slice_get (xs ++ x ∷ []) i ≡ Some y
get_append [] x i y e = none_some e
get_append (z ∷ xs) x zero y e = e
get_append (z ∷ xs) x (suc i) y e = get_append xs x i y e

pub get_last : {A : Type 0} (xs : List A) (x : A) → slice_get (xs ++ x ∷ []) (length xs) ≡ Some x
get_last [] x = refl
get_last (z ∷ xs) x = get_last xs x

pub get_append_cases : {A : Type 0} (xs : List A) (x : A) (i : ℕ) (y : A) → slice_get (xs ++ x ∷ []) i ≡ Some y
    → (slice_get xs i ≡ Some y) ⊎ ((i ≡ length xs) × (x ≡ y))
get_append_cases [] x zero y e = inr (refl, same_some e)
get_append_cases [] x (suc i) y e = inl e
get_append_cases (z ∷ xs) x zero y e = inl e
get_append_cases (z ∷ xs) x (suc i) y e =
    ⊎_elim (λ a. inl a) (λ b. inr (ap suc b.0, b.1)) (get_append_cases xs x i y e)

pub append_nil : {A : Type 0} (xs : List A) → xs ++ [] ≡ xs
append_nil [] = refl
append_nil (x ∷ xs) = ap (λ ys. x ∷ ys) (append_nil xs)

pub append_one : {A : Type 0} (xs : List A) (y : A) (zs : List A) → (xs ++ y ∷ []) ++ zs ≡ xs ++ (y ∷ zs)
append_one [] y zs = refl
append_one (x ∷ xs) y zs = ap (λ ys. x ∷ ys) (append_one xs y zs)

-- ---- the tag of a cell
mark_cases : (tag : Tags) (c : ℕ) (X : Tag) (q : ℕ) (Y : Tag) → mark tag c X q ≡ Y → ((q ≡ c) × (X ≡ Y)) ⊎ ((q ≢ c) × (tag q ≡ Y))
mark_cases tag c X q Y e =
    ⊎_elim
    (λ same. inl (same, sym (mark_same tag c X) ∙ ap (mark tag c X) (sym same) ∙ e))
    (λ other. inr (other, sym (mark_other tag c X q other) ∙ e))
    (cases_eq q c)

of_of : {co co' depth depth' : ℕ} {v v' : Value} → Of co depth v ≡ Of co' depth' v' → (co ≡ co') × (depth ≡ depth') × (v ≡ v')
of_of e = (cc, cc, cc)

of_taken : {A : Type 0} {co depth k : ℕ} {v : Value} → Of co depth v ≡ Taken k → A
of_taken e = cc

taken_taken : {k k' : ℕ} → Taken k ≡ Taken k' → k ≡ k'
taken_taken e = cc

-- the running function's own cell, or a new one
abbrev Mine : (co depth : ℕ) → Tags → ℕ → Type 0
Mine co depth tag c =
    ((k : ℕ) → tag c ≡ Taken k → ⊥) × ((co' depth' : ℕ) (v : Value) → tag c ≡ Of co' depth' v → (co' ≡ co) × (depth' ≡ depth))

keeps_mark : {co depth : ℕ} {tag : Tags} → (c : ℕ) (X : Tag) → Mine co depth tag c → Keeps co depth tag (mark tag c X)
keeps_mark {co} {depth} {tag} c X mine = record {
  of = λ q co' depth' v e ne. ⊎_elim
      (λ same. let m = mine.1 co' depth' v (ap tag (sym same) ∙ e) in absurd (ne m.0 m.1))
      (λ other. mark_other tag c X q other ∙ e)
      (cases_eq q c);
  taken = λ q k e. ⊎_elim
      (λ same. absurd (mine.0 k (ap tag (sym same) ∙ e)))
      (λ other. mark_other tag c X q other ∙ e)
      (cases_eq q c);
}

mine_of : (co depth : ℕ) (tag : Tags) (c : ℕ) (v : Value) → tag c ≡ Of co depth v → Mine co depth tag c
mine_of co depth tag c v e =
    (λ k d. of_taken (sym e ∙ d), λ co' depth' v' d. let o = of_of (sym d ∙ e) in (o.0, o.1))

fits_mark : {co depth : ℕ} {tag : Tags} {regs : Registers} {l : List Slot} → (c : ℕ) (X : Tag) → IsApart l c → Fits co depth tag regs l
    → Fits co depth (mark tag c X) regs l
fits_mark c X a none = none
fits_mark c X a (temp e f) = temp e (fits_mark c X a f)
fits_mark {co} {depth} {tag} {regs} c X a (var {c = e} {cap = cap} {l = l} m b f) =
    var (subst (λ g. Match co depth cap g (regs (length l))) (sym (mark_other tag c X e a.0)) m) b (fits_mark c X a.1 f)

-- a variable's cell and its register change
fits_at : {co depth : ℕ} {tag : Tags} {regs : Registers} {l : List Slot} → (x : StrId) (o : Local) (X : Tag) (Y : Register) → local_at l x ≡ Some o
    → Match co depth o.captured X Y → Fits co depth tag regs l → Fits co depth (mark tag o.cell X) (put regs o.register Y) l
fits_at x o X Y h new none = none
fits_at {regs = regs} x o X Y h new (temp {l = l} e f) =
    let b = below l x o h in
    temp (put_other regs o.register Y (length l) (omega (arith, b)) ∙ e) (fits_at x o X Y h new f)
fits_at {co} {depth} {tag} {regs} x o X Y h new (var {x = y} {c = c} {cap = cap} {l = l} m a f) =
    ⊎_elim
    (λ q.
    subst (λ z. Fits co depth (mark tag z.cell X) (put regs z.register Y) (Var y c cap ∷ l)) q.1
    (var (subst (λ g. Match co depth cap g (put regs (length l) Y (length l))) (sym (mark_same tag c X))
    (subst (Match co depth cap X) (sym (put_same regs (length l) Y)) (subst (λ z. Match co depth z.captured X Y) (sym q.1) new))) a
    (fits_put (length l) Y (omega arith) (fits_mark c X a f))))
    (λ q.
    let b = below l x o q.1 in
    let other : c ≢ o.cell = λ r. apart_at l c x o a q.1 (sym r) in
    var (subst (λ g. Match co depth cap g (put regs o.register Y (length l))) (sym (mark_other tag o.cell X c other))
    (subst (Match co depth cap (tag c)) (sym (put_other regs o.register Y (length l) (omega (arith, b)))) m)) a
    (fits_at x o X Y q.1 new f))
    (local_cases y x _ (local_at l x) o h)

-- ---- the cells
abbrev pub source_set : Dyn → (c co depth : ℕ) → Value → Dyn
source_set d c co depth v = changed d (mark d.tag c (Of co depth v)) (slice_set (cells_s d) c v) (cells_m d)

abbrev pub both_set : Dyn → (c k : ℕ) → Value → Dyn
both_set d c k v = changed d d.tag (slice_set (cells_s d) c v) (slice_set (cells_m d) k v)

abbrev pub source_more : Dyn → (co depth : ℕ) → Value → Dyn
source_more d co depth v = changed d (mark d.tag (length (cells_s d)) (Of co depth v)) (cells_s d ++ v ∷ []) (cells_m d)

abbrev pub opens : Dyn → (c : ℕ) → Value → Dyn
opens d c v = changed d (mark d.tag c (Taken (length (cells_m d)))) (cells_s d) (cells_m d ++ v ∷ [])

-- a new closure on both sides
abbrev pub makes : Dyn → TableRef → source.Body → machine.Body → Dyn
makes d env f m =
    record {
      tag = d.tag;
      script = record d.script { objects = with_new_closure d.script.objects env f };
      code = record d.code
          { objects = with_new_closure d.code.objects env m };
    }

base_set : {p : Setting} {d : Dyn} → (c co depth : ℕ) (old v : Value) → d.tag c ≡ Of co depth old → Base p d → Base p (source_set d c co depth v)
base_set {p} {d} c co depth old v own o = record {
  store = o.store;
  waits = o.waits;
  replies = o.replies;
  safe = o.safe;
  cells = λ q co' depth' w e. ⊎_elim
      (λ same. let b = o.cells c co depth old own in (
        omega (arith, b.0, length-set (cells_s d) c v, same.0),
        ap (at (slice_set (cells_s d) c v)) same.0 ∙ get_or-set_same (cells_s d) c v Nil b.0
            ∙ (of_of same.1).2,
      ))
      (λ other. let b = o.cells q co' depth' w other.1 in (
        omega (arith, b.0, length-set (cells_s d) c v),
        get_or-set_other
            (cells_s d) c q v Nil other.0 ∙ b.1,
      ))
      (mark_cases d.tag c (Of co depth v) q (Of co' depth' w) e);
  taken = λ q k e. ⊎_elim
      (λ same. of_taken same.1)
      (λ other. let b = o.taken q k other.1 in (omega (arith, b.0, length-set (cells_s d) c v), b.1, get_or-set_other (cells_s d) c q v Nil other.0 ∙ b.2))
      (mark_cases d.tag c (Of co depth v) q (Taken k) e);
  once = λ q q' k e e'. ⊎_elim
      (λ same. of_taken same.1)
      (λ other. ⊎_elim (λ same'. of_taken same'.1) (λ other'. o.once q q' k other.1 other'.1) (mark_cases d.tag c (Of co depth v) q' (Taken k) e'))
      (mark_cases d.tag c (Of co depth v) q (Taken k) e);
  made = o.made;
  alike = λ i f e. let r = o.alike i f e in (
    r.0,
    r.1,
    func_keep p d.tag (mark d.tag c (Of co depth v)) f r.0
        (keeps_mark {tag = d.tag} c (Of co depth v) (mine_of co depth d.tag c old own)).taken r.2,
  );
}

base_both : {p : Setting} {d : Dyn} → (c k : ℕ) (v : Value) → d.tag c ≡ Taken k → Base p d → Base p (both_set d c k v)
base_both {p} {d} c k v m o = record {
  store = o.store;
  waits = o.waits;
  replies = o.replies;
  safe = o.safe;
  cells = λ q co depth w e. let b = o.cells q co depth w e in
      let ne : q ≢ c = λ same. of_taken (sym e ∙ ap d.tag same ∙ m) in
      (omega (arith, b.0, length-set (cells_s d) c v), get_or-set_other (cells_s d) c q v Nil ne ∙ b.1);
  taken = λ q j e. let a = o.taken q j e in let b = o.taken c k m in (
    omega (arith, a.0, length-set (cells_s d) c v),
    omega (arith, a.1, length-set (cells_m d) k v),
    ⊎_elim
        (λ same. let j_is : j ≡ k = taken_taken (sym e ∙ ap d.tag same ∙ m) in
        ap (at (slice_set (cells_s d) c v)) same ∙ get_or-set_same (cells_s d) c v Nil b.0 ∙ sym (get_or-set_same (cells_m d) k v Nil b.1)
        ∙ ap (at (slice_set (cells_m d) k v)) (sym j_is))
        (λ ne. let other : j ≢ k = λ same. ne (o.once q c k (e ∙ ap Taken same) m) in
        get_or-set_other (cells_s d) c q v Nil ne ∙ a.2 ∙ sym (get_or-set_other (cells_m d) k j v Nil other))
        (cases_eq q c),
  );
  once = o.once;
  made = o.made;
  alike = o.alike;
}

mine_new : {p : Setting} {d : Dyn} → (co depth : ℕ) → Base p d → Mine co depth d.tag (length (cells_s d))
mine_new {d = d} co depth o = (
  λ k e. let b = o.taken (length (cells_s d)) k e in absurd (omega (arith, b.0)),
  λ co' depth' v e. let b = o.cells (length (cells_s d)) co' depth' v e in absurd (omega (arith, b.0)),
)

base_more : {p : Setting} {d : Dyn} → (co depth : ℕ) (v : Value) → Base p d → Base p (source_more d co depth v)
base_more {p} {d} co depth v o = record {
  store = o.store;
  waits = o.waits;
  replies = o.replies;
  safe = o.safe;
  cells = λ q co' depth' w e. ⊎_elim
      (λ same. (
        omega (arith, same.0, length-append (cells_s d) (v ∷ [])),
        ap (at (cells_s d ++ v ∷ [])) same.0
            ∙ get_or-append_seam (cells_s d) v [] Nil ∙ (of_of same.1).2,
      ))
      (λ other. let b = o.cells q co' depth' w other.1 in (
        omega (arith, b.0, length-append (cells_s d) (v ∷ [])),
        get_or-append (cells_s d)
            (v ∷ []) Nil q b.0 ∙ b.1,
      ))
      (mark_cases d.tag (length (cells_s d)) (Of co depth v) q (Of co' depth' w) e);
  taken = λ q k e. ⊎_elim
      (λ same. of_taken same.1)
      (λ other. let b = o.taken q k other.1 in (
        omega (arith, b.0, length-append (cells_s d) (v ∷ [])),
        b.1,
        get_or-append (cells_s d)
            (v ∷ []) Nil q b.0 ∙ b.2,
      ))
      (mark_cases d.tag (length (cells_s d)) (Of co depth v) q (Taken k) e);
  once = λ q q' k e e'. ⊎_elim
      (λ same. of_taken same.1)
      (λ other. ⊎_elim (λ same'. of_taken same'.1) (λ other'. o.once q q' k other.1 other'.1)
      (mark_cases d.tag (length (cells_s d)) (Of co depth v) q' (Taken k) e'))
      (mark_cases d.tag (length (cells_s d)) (Of co depth v) q (Taken k) e);
  made = o.made;
  alike = λ i f e. let r = o.alike i f e in (
    r.0,
    r.1,
    func_keep p d.tag (mark d.tag (length (cells_s d)) (Of co depth v)) f r.0
        (keeps_mark {tag = d.tag} (length (cells_s d)) (Of co depth v) (mine_new co depth o)).taken r.2,
  );
}

base_opens : {p : Setting} {d : Dyn} → (c co depth : ℕ) (v : Value) → d.tag c ≡ Of co depth v → Base p d → Base p (opens d c v)
base_opens {p} {d} c co depth v own o = record {
  store = o.store;
  waits = o.waits;
  replies = o.replies;
  safe = o.safe;
  cells = λ q co' depth' w e. ⊎_elim
      (λ same. of_taken (sym same.1))
      (λ other. o.cells q co' depth' w other.1)
      (mark_cases d.tag c (Taken (length (cells_m d))) q (Of co' depth' w) e);
  taken = λ q k e. ⊎_elim
      (λ same. let b = o.cells c co depth v own in let k_is = taken_taken same.1 in (
        omega (arith, b.0, same.0),
        omega (arith, k_is, length-append (cells_m d) (v ∷ [])),
        ap (at (cells_s d)) same.0 ∙ b.1
            ∙ sym (get_or-append_seam (cells_m d) v [] Nil) ∙ ap (at (cells_m d ++ v ∷ [])) k_is,
      ))
      (λ other. let a = o.taken q k other.1 in (
        a.0,
        omega (arith, a.1, length-append (cells_m d) (v ∷ [])),
        a.2
            ∙ sym (get_or-append (cells_m d) (v ∷ []) Nil k a.1),
      ))
      (mark_cases d.tag c (Taken (length (cells_m d))) q (Taken k) e);
  once = λ q q' k e e'. ⊎_elim
      (λ same. ⊎_elim
      (λ same'. same.0 ∙ sym same'.0)
      (λ other'. let b = o.taken q' k other'.1 in let k_is = taken_taken same.1 in absurd (omega (arith, b.1, k_is)))
      (mark_cases d.tag c (Taken (length (cells_m d))) q' (Taken k) e'))
      (λ other. ⊎_elim
      (λ same'. let b = o.taken q k other.1 in let k_is = taken_taken same'.1 in absurd (omega (arith, b.1, k_is)))
      (λ other'. o.once q q' k other.1 other'.1)
      (mark_cases d.tag c (Taken (length (cells_m d))) q' (Taken k) e'))
      (mark_cases d.tag c (Taken (length (cells_m d))) q (Taken k) e);
  made = o.made;
  alike = λ i f e. let r = o.alike i f e in (
    r.0,
    r.1,
    func_keep p d.tag (mark d.tag c (Taken (length (cells_m d)))) f r.0
        (keeps_mark {tag = d.tag} c (Taken (length (cells_m d))) (mine_of co depth d.tag c v own)).taken r.2,
  );
}

base_makes : {p : Setting} {d : Dyn} → (env : TableRef) (f : source.Body) (m : machine.Body) → FuncAlike p d.tag f m → Base p d → Base p (makes d env f m)
base_makes {p} {d} env f m a o = record {
  store = ap (λ (s : Store). record s { closures = s.closures ++ env ∷ [] }) o.store;
  waits = o.waits;
  replies = o.replies;
  safe = o.safe;
  cells = o.cells;
  taken = o.taken;
  once = o.once;
  made = length-append (bodies_s d) (f ∷ []) ∙ ap (λ n. n + 1) o.made ∙ sym (length-append (bodies_m d) (m ∷ []));
  alike = λ i g e. ⊎_elim
      (λ old. let r = o.alike i g old in (r.0, get_append (bodies_m d) m i r.0 r.1, r.2))
      (λ new. (
        m,
        subst (λ n. slice_get (bodies_m d ++ m ∷ []) n ≡ Some m) (sym (new.0 ∙ o.made)) (get_last (bodies_m d) m),
        subst
            (λ g. FuncAlike p d.tag g m) new.1 a,
      ))
      (get_append_cases (bodies_s d) f i g e);
}

-- an operation has left this store on both sides
pub base_stored : {p : Setting} {d : Dyn} → (s : Store) → Base p d → Base p (stored d s)
base_stored s o = record {
  store = refl;
  waits = o.waits;
  replies = o.replies;
  safe = o.safe;
  cells = o.cells;
  taken = o.taken;
  once = o.once;
  made = o.made;
  alike = o.alike;
}

-- the cells of variables are not new
pub apart_new : {p : Setting} {co depth : ℕ} {d : Dyn} {regs : Registers} {l : List Slot} → Base p d → Fits co depth d.tag regs l
    → IsApart l (length (cells_s d))
apart_new o none = tt
apart_new o (temp e f) = apart_new o f
apart_new {p} {co} {depth} {d} o (var {c = c} {l = l} m a f) = (
  ⊎_elim
      (λ q. let b = o.cells c co depth q.0 q.1 in λ e. absurd (omega (arith, b.0, e)))
      (λ s. let b = o.taken c s.0 s.1 in λ e. absurd (omega (arith, b.0, e)))
      m,
  apart_new o f,
)

module _ {p : Setting} {turns co : ℕ} {ws : List Wait} {roots : List Desc} {a : Act} {l : List Slot} {d : Dyn} {regs : Registers} where
  -- a variable that no closure has taken is assigned: in its cell and in its register
  pub assign_private : (x : StrId) (o : Local) (old v : Value) → local_at l x ≡ Some o → d.tag o.cell ≡ Of co (length roots) old
      → Holds p turns co ws roots a l d regs → Holds p turns co ws roots a l (source_set d o.cell co (length roots) v) (put regs o.register (Val v))
  assign_private x o old v h own w =
      let b = below l x o h in
      let keeps = keeps_mark {tag = d.tag} o.cell (Of co (length roots) v) (mine_of co (length roots) d.tag o.cell old own) in
      record {
        ok = ok_keep (source_set d o.cell co (length roots) v) (base_set o.cell co (length roots) old v own w.ok.base) keeps refl refl refl refl refl w.ok;
        fits = fits_at x o (Of co (length roots) v) (Val v) h (inl (v, refl, refl)) w.fits;
        clear = λ r le. let z = w.clear r le in (z.0, put_other regs o.register (Val v) r (omega (arith, b, le)) ∙ z.1);
        alike = ups_keep _ _ a.outer keeps.taken a.ups a.cells w.alike;
      }

  -- one that was taken is assigned in both cells
  pub assign_shared : (c k : ℕ) (v : Value) → d.tag c ≡ Taken k → Holds p turns co ws roots a l d regs → Holds p turns co ws roots a l (both_set d c k v) regs
  assign_shared c k v m w = record {
    ok = ok_keep (both_set d c k v) (base_both c k v m w.ok.base) keeps_all refl refl refl refl refl w.ok;
    fits = w.fits;
    clear = w.clear;
    alike = w.alike;
  }

  -- a closure takes a variable, whose register is then open
  pub open_cell : (x : StrId) (o : Local) (v : Value) → local_at l x ≡ Some o → o.captured ≡ true → d.tag o.cell ≡ Of co (length roots) v
      → Holds p turns co ws roots a l d regs → Holds p turns co ws roots a l (opens d o.cell v) (put regs o.register (Open (length (cells_m d))))
  open_cell x o v h cap own w =
      let b = below l x o h in
      let keeps = keeps_mark {tag = d.tag} o.cell (Taken (length (cells_m d))) (mine_of co (length roots) d.tag o.cell v own) in
      record {
        ok = ok_keep (opens d o.cell v) (base_opens o.cell co (length roots) v own w.ok.base) keeps refl refl refl refl refl w.ok;
        fits = fits_at x o (Taken (length (cells_m d))) (Open (length (cells_m d))) h (inr (length (cells_m d), refl, refl, cap)) w.fits;
        clear = λ r le. let z = w.clear r le in (z.0, put_other regs o.register (Open (length (cells_m d))) r (omega (arith, b, le)) ∙ z.1);
        alike = ups_keep _ _ a.outer keeps.taken a.ups a.cells w.alike;
      }

  -- a closure is made
  pub make_closure : (env : TableRef) (f : source.Body) (m : machine.Body) → FuncAlike p d.tag f m → Holds p turns co ws roots a l d regs
      → Holds p turns co ws roots a l (makes d env f m) regs
  make_closure env f m al w = record {
    ok = ok_keep (makes d env f m) (base_makes env f m al w.ok.base) keeps_all refl refl refl refl refl w.ok;
    fits = w.fits;
    clear = w.clear;
    alike = w.alike;
  }

  -- an operation has changed the store, but no coroutine
  pub store_changed : (s : Store) → s.running ≡ (store_s d).running → s.coroutines ≡ (store_s d).coroutines → Holds p turns co ws roots a l d regs
      → Holds p turns co ws roots a l (stored d s) regs
  store_changed s running coroutines w = record {
    ok = ok_keep (stored d s) (base_stored s w.ok.base) keeps_all running coroutines refl refl refl w.ok;
    fits = w.fits;
    clear = w.clear;
    alike = w.alike;
  }

-- what was taken stays taken where a cell is opened
pub opened_keeps : (d : Dyn) (c co depth : ℕ) (v : Value) → d.tag c ≡ Of co depth v → (q k : ℕ) → d.tag q ≡ Taken k → (opens d c v).tag q ≡ Taken k
opened_keeps d c co depth v own =
    (keeps_mark {tag = d.tag} c (Taken (length (cells_m d))) (mine_of co depth d.tag c v own)).taken

-- ---- values become variables, in order

-- a value becomes a variable's, also below other values
pub declare : {p : Setting} {turns co : ℕ} {ws : List Wait} {roots : List Desc} {a : Act} {d : Dyn} {regs : Registers}
    → (l : List Slot) (x : StrId) (cap : Bool) (v : Value) (vs : List Value) → Holds p turns co ws roots a (temps vs (Temp v ∷ l)) d regs
    → Holds p turns co ws roots a (temps vs (Var x (length (cells_s d)) cap ∷ l)) (source_more d co (length roots) v) regs
declare {p} {turns} {co} {ws} {roots} {a} {d} {regs} l x cap v vs w =
    let c = length (cells_s d) in
    let keeps = keeps_mark {tag = d.tag} c (Of co (length roots) v) (mine_new co (length roots) w.ok.base) in
    record {
      ok = ok_keep (source_more d co (length roots) v) (base_more co (length roots) v w.ok.base) keeps refl refl refl refl refl w.ok;
      fits = fits_over vs (Temp v ∷ l) (Var x c cap ∷ l) refl (λ f. let new = apart_new w.ok.base (drop_slot f) in var
          (inl (v, mark_same d.tag c (Of co (length roots) v), temp_reg f)) new (fits_mark c (Of co (length roots) v) new (drop_slot f))) w.fits;
      clear = subst (Clear regs) (length_over vs (Temp v ∷ l) (Var x c cap ∷ l) refl) w.clear;
      alike = ups_keep _ _ a.outer keeps.taken a.ups a.cells w.alike;
    }

-- with new variables, whose cells are the next ones
pub record Declared (p : Setting) (turns co : ℕ) (ws : List Wait) (roots : List Desc) (a : Act) (captured : ℕ → Bool) (xs : List StrId)
    (l : List Slot) (d : Dyn) (vs : List Value) (regs : Registers) : Type 0 where
  pub tag : Tags
  pub holds : Holds p turns co ws roots a (vars captured xs (length (cells_s d)) l) (changed d tag (cells_s d ++ vs) (cells_m d)) regs

module _ (p : Setting) (turns co : ℕ) (ws : List Wait) (roots : List Desc) (a : Act) (captured : ℕ → Bool) (regs : Registers) where
  pub declare_all : (xs : List StrId) (vs : List Value) → length vs ≡ length xs → (l : List Slot) (d : Dyn)
      → Holds p turns co ws roots a (temps vs l) d regs → Declared p turns co ws roots a captured xs l d vs regs
  declare_all [] [] e l d w =
      record { tag = d.tag; holds = subst (λ cs. Holds p turns co ws roots a l (changed d d.tag cs (cells_m d)) regs) (sym (append_nil (cells_s d))) w }
  declare_all (x ∷ xs) (v ∷ vs) e l d w =
      let cap = captured (length l) in
      let r = declare_all xs vs (omega (arith, e)) (Var x (length (cells_s d)) cap ∷ l) (source_more d co (length roots) v) (declare l x cap v vs w) in
      record {
        tag = r.tag;
        holds = subst (λ c. Holds p turns co ws roots a (vars captured xs c (Var x (length (cells_s d)) cap ∷ l))
            (changed d r.tag (cells_s d ++ (v ∷ vs)) (cells_m d)) regs) (omega (arith, length-append (cells_s d) (v ∷ [])))
            (subst (λ cs. Holds p turns co ws roots a (vars captured xs (length (cells_s d ++ v ∷ [])) (Var x (length (cells_s d)) cap ∷ l))
            (changed d r.tag cs (cells_m d)) regs) (append_one (cells_s d) v vs) r.holds);
      }
  declare_all [] (v ∷ vs) e l d w = absurd (omega (arith, e))
  declare_all (x ∷ xs) [] e l d w = absurd (omega (arith, e))

-- ---- a function is begun
pub start_holds : (p : Setting) (turns co : ℕ) (ws : List Wait) (roots : List Desc) (a : Act) (d : Dyn) (regs : Registers) → Ok p turns co ws roots d
    → UpsAlike d.tag a.outer a.ups a.cells → ((r : ℕ) → (v : Value) × (regs r ≡ Val v)) → Holds p turns co ws roots a [] d regs
start_holds p turns co ws roots a d regs o u c = record { ok = o; fits = none; clear = λ r le. c r; alike = u }
