-- A function that was emitted and linked breaks no rule.
use Rattle.std.proofs.Common.{◌≡◌, ℕ, zero, suc, ◌+◌, ◌<◌, ◌≤◌, ℤ, pos, negsuc, Bool, true, false, ◌&&◌, ◌||◌, not, nat_eq, nat_lt, nat_le, List, [], ◌∷◌, ◌++◌, length, Option, Some, is_some, if◌then◌else◌, refl, sym, ap, ◌∙◌, subst, arith, inl, inr, ⊎_elim}
use Rattle.std.specs.Prelude.{slice_get}
use Rattle.std.specs.List.{list_any, list_all}
use Rattle.std.proofs.lemmas.Bool.{eq-eqb, eqb-true}
use Rattle.std.proofs.lemmas.Bool.Decides.{nat_tests}
use Rattle.op_words.specs.declared.chunk.Const.{Const}
use Rattle.op_words.specs.declared.chunk.Const.TheVariants as constant
use Rattle.op_words.specs.declared.insn.Insn.TheVariants as i
use Rattle.op_words.specs.Chunks.{ChunkOf, ProtoOf}
use Rattle.op_words.specs.Encoding.{encoded}
use Rattle.code_link.specs.declared.item.Item.{Item}
use Rattle.code_link.specs.declared.item.Item.TheVariants.{Insn, Branch, Label}
use Rattle.code_link.specs.Labels.{labels, word_count, place_in, AreJumps}
use Rattle.code_link.specs.Linking.{Stands}
use Rattle.machine_meaning.specs.Chunks.{proto_at}
use Rattle.machine_meaning.specs.Needs.{Line, Range, lines, behind, registers_of, fits_range, child_of, is_sound}
use Rattle.machine_meaning.specs.WellFormed.{CodeFault, at_start, landings, at_place, unless, is_end, fall_faults, end_faults, is_prep, is_any_prep, has_no_prep, is_prepared, is_proto, upvalues_at}
use Rattle.syntax_tree.specs.declared.bindings.Bindings.{Bindings}
use Rattle.emit_expr.specs.declared.draft.Prototype.{Prototype}
use Rattle.compiled_runs.proofs.Reading as reading
use Rattle.operand_laws.specs.Fitting.{AreBelow, AllFit}
use Rattle.shape_laws.specs.Order.{Nothing, count_at}
use Rattle.shape_laws.specs.Jumps.{Among}
use Rattle.shape_laws.specs.Named.{AllPlain, Body, IsConstant, AreConstants}
use Rattle.shape_laws.specs.Shaped.{IsChild, AreChildren}
use Rattle.upvalue_laws.specs.Laws.{AreUpvalues}
use Rattle.chunk_laws.specs.Laws.{IsReady, FunctionsWellFormed}
use Rattle.chunk_laws.proofs.Distances.{same_jump}
use Rattle.chunk_laws.proofs.Lines.{LinesOf, lines_are, lines_behind}
use Rattle.chunk_laws.proofs.Landings.{AllSlow, Ends, ends_rest, branch_ends, label_ends, labels_land}
use Rattle.chunk_laws.proofs.Faults.{slow_of, AllFacts, lines_none}

-- ---- tests

both : (s t : Bool) → s ≡ true → t ≡ true → (s && t) ≡ true
both s t e f = ap (λ u. u && t) e ∙ f

at_most : (a c : ℕ) → a ≤ c → nat_le a c ≡ true
at_most a c le = grind (arith, nat_tests, le)

below : (a c : ℕ) → a < c → nat_lt a c ≡ true
below a c lt = grind (arith, nat_tests, lt)

no_more : (faults more : List CodeFault) → faults ≡ [] → more ≡ [] → faults ++ more ≡ []
no_more faults more e f = ap (λ l. l ++ more) e ∙ f

-- ---- instructions

fitting : (count : ℕ) (rs : List Range) → AreBelow count rs → list_all (fits_range count) rs ≡ true
fitting count [] h = refl
fitting count (r ∷ rs) h = both (fits_range count r) (list_all (fits_range count) rs) (one (nat_eq r.1 0)) (fitting count rs h.1)
  where
    one : (t : Bool) → (t || nat_le (r.0 + r.1) count) ≡ true
    one true = refl
    one false = at_most (r.0 + r.1) count h.0

module _ (chunk : ChunkOf) (n : ℕ) (q : ProtoOf) (there : proto_at chunk n ≡ Some q) where
  facts_of : (place : ℕ → Option ℕ) (is : List Item) → AllPlain q.consts is → AllFit q.registers is → AreUpvalues q.upvalues is → AreJumps place is
      → AllFacts chunk n q there is
  facts_of place [] p f u j = tt
  facts_of place (Insn y ∷ is) p f u j = (
    record {
      fact = record {
        known = p.0.0.known;
        own = p.0.0.own;
        named = p.0.0.finds;
        slow = slow_of y p.0.0.single;
        registers = fitting q.registers (registers_of y) f.0.registers;
        upvalue = u.0;
      };
      single = p.0.0.single;
      still = p.0.1;
    },
    facts_of place is p.1 f.1 u.1 j,
  )
  facts_of place (Branch y l ∷ is) p f u j = (
    record {
      fact = record {
        known = p.0.known;
        own = p.0.own;
        named = p.0.finds;
        slow = slow_of y p.0.single;
        registers = fitting q.registers (registers_of y) f.0.registers;
        upvalue = u.0;
      };
      single = p.0.single;
      jump = j.0;
    },
    facts_of place is p.1 f.1 u.1 j.2,
  )
  facts_of place (Label l ∷ is) p f u j = facts_of place is p.1 f u j

  body_facts : (place : ℕ → Option ℕ) (vararg : Bool) (params : ℕ) (is : List Item) → Body vararg params q.consts is → AllFit q.registers is
      → AreUpvalues q.upvalues is → AreJumps place is → AllFacts chunk n q there is
  body_facts place false params is p f u j = facts_of place is p f u j
  body_facts place true params [] p f u j = absurd p
  body_facts place true params (x ∷ is) p f u j =
      subst (λ (z : Item). AllFit q.registers (z ∷ is) → AreUpvalues q.upvalues (z ∷ is) → AreJumps place (z ∷ is)
      → AllFacts chunk n q there (z ∷ is)) (sym p.0)
      (λ f u j. (
        record {
          fact = record { known = refl; own = refl; named = refl; slow = refl; registers = refl; upvalue = tt };
          single = refl;
          still = refl;
        },
        facts_of place is p.1 f.1 u.1 j,
      )) f u j

  slow_items : (is : List Item) → AllFacts chunk n q there is → AllSlow is
  slow_items [] h = tt
  slow_items (Insn y ∷ is) h = (h.0.fact.slow, slow_items is h.1)
  slow_items (Branch y l ∷ is) h = ((h.0.fact.slow, h.0.jump), slow_items is h.1)
  slow_items (Label l ∷ is) h = slow_items is h

-- ---- places

placed_among : (is : List Item) (from l t : ℕ) → place_in is from l ≡ Some t → Among l (labels is) × (from ≤ t)
placed_among [] from l t e = cc
placed_among (Insn y ∷ is) from l t e = let r = placed_among is (from + length (encoded y)) l t e in let le = r.1 in (r.0, omega (arith, le))
placed_among (Branch y m ∷ is) from l t e = let r = placed_among is (from + length (encoded y)) l t e in let le = r.1 in (r.0, omega (arith, le))
placed_among (Label m ∷ is) from l t e = by (nat_eq m l) refl (λ f. placed_among is from l t f) e
  where
    by : (z : Bool) → nat_eq m l ≡ z → (place_in is from l ≡ Some t → Among l (labels is) × (from ≤ t)) → (if z then Some from else place_in is from l) ≡ Some t
        → Among l (m ∷ labels is) × (from ≤ t)
    by true same more f = let at : from ≡ t = cc in (inl (sym (eqb-true m l same)), omega (arith, at))
    by false other more f = let r = more f in (inr r.0, r.1)

-- in a function of any number of arguments no label is first
not_first : (consts : List Const) (params : ℕ) (is : List Item) (l t : ℕ) → Body true params consts is → place_in is 0 l ≡ Some t → t ≡ 0 → ⊥
not_first consts params [] l t p e z = absurd p
not_first consts params (x ∷ is) l t p e z =
    let r = placed_among is (0 + length (encoded (i.PrepVarargs params))) l t (ap (λ (y : Item). place_in (y ∷ is) 0 l) (sym p.0) ∙ e) in
    let le = r.1 in
    omega (arith, le, z)

ends_at : (code : List ℕ) (place : ℕ → Option ℕ) (is : List Item) (from to : ℕ) → Stands code place from is to → from + word_count is ≡ to
ends_at code place [] from to h = omega (arith, h)
ends_at code place (Insn y ∷ is) from to h = let r = ends_at code place is (from + length (encoded y)) to h.1 in omega (arith, r)
ends_at code place (Branch y l ∷ is) from to h = let r = ends_at code place is (from + length (encoded y)) to h.1 in omega (arith, r)
ends_at code place (Label l ∷ is) from to h = ends_at code place is from to h.1

only_fit : (count : ℕ) (is : List Item) → AllFit count is → reading.AllFit is
only_fit count [] f = tt
only_fit count (Insn y ∷ is) f = (f.0.fit, only_fit count is f.1)
only_fit count (Branch y l ∷ is) f = (f.0.fit, only_fit count is f.1)
only_fit count (Label l ∷ is) f = only_fit count is f

-- ---- the end

fall_more : (n : ℕ) (line : Line) (ls : List Line) → fall_faults n ls ≡ [] → fall_faults n (line ∷ ls) ≡ []
fall_more n line [] e = cc
fall_more n line (m ∷ ls) e = e

fall_none : (n : ℕ) (place : ℕ → Option ℕ) (is : List Item) (from : ℕ) (ls : List Line) → LinesOf place from is ls → Ends is → fall_faults n ls ≡ []
fall_none n place [] from ls h e = by e.front e.last
  where
    by : (front : List Item) → [] ≡ front ++ Insn (i.Return 0 1) ∷ [] → fall_faults n ls ≡ []
    by [] p = cc
    by (y ∷ front) p = cc
fall_none n place (Insn y ∷ is) from [] h e = absurd h
fall_none n place (Insn y ∷ is) from (line ∷ ls) h e =
    ⊎_elim (λ p. last is ls p.0 p.1 h.1) (λ r. fall_more n line ls (fall_none n place is (from + length (encoded y)) ls h.1 r)) (ends_rest (Insn y) is e)
  where
    last : (js : List Item) (ms : List Line) → js ≡ [] → Insn y ≡ Insn (i.Return 0 1) → LinesOf place (from + length (encoded y)) js ms
        → fall_faults n (line ∷ ms) ≡ []
    last [] [] none is_last g =
        let same : y ≡ i.Return 0 1 = cc in
        let stops : is_end line.insn ≡ true = ap (λ (x : Line). is_end x.insn) h.0 ∙ ap is_end same in
        ap (λ t. at_place n line.place (unless t 10)) stops
    last [] (m ∷ ms) none is_last g = absurd g
    last (x ∷ js) ms none is_last g = cc
fall_none n place (Branch y l ∷ is) from [] h e = absurd h
fall_none n place (Branch y l ∷ is) from (line ∷ ls) h e = fall_more n line ls (fall_none n place is (from + length (encoded y)) ls h.1 (branch_ends y l is e))
fall_none n place (Label l ∷ is) from ls h e = fall_none n place is from ls h.1 (label_ends l is e)

-- ---- constants, children and the beginning

sound_all : (chunk : ChunkOf) (n : ℕ) (ks : List Const) → AreConstants (length chunk.strings) ks → list_all (is_sound chunk n) ks ≡ true
sound_all chunk n [] h = refl
sound_all chunk n (k ∷ ks) h = both (is_sound chunk n k) (list_all (is_sound chunk n) ks) (one k h.0) (sound_all chunk n ks h.1)
  where
    one : (c : Const) → IsConstant (length chunk.strings) c → is_sound chunk n c ≡ true
    one constant.Nil x = refl
    one constant.False x = refl
    one constant.True x = refl
    one (constant.Num z) x = refl
    one (constant.Str s) x = below s (length chunk.strings) x
    one (constant.Import w) x = absurd x

module _ (b : _) (before : _) where
  children_below : (cs ns : List ℕ) → AreChildren b before cs ns → (n : ℕ) → length before ≡ n → list_all (λ c. nat_lt c n) cs ≡ true
  children_below [] [] h n e = refl
  children_below (c ∷ cs) (m ∷ ns) h n e =
      let lt = h.0.below in both (nat_lt c n) (list_all (λ c. nat_lt c n) cs) (below c n (omega (arith, lt, e))) (children_below cs ns h.1 n e)
  children_below [] (m ∷ ns) h n e = absurd h
  children_below (c ∷ cs) [] h n e = absurd h

  child_at : (cs ns : List ℕ) → AreChildren b before cs ns → (k m : ℕ) → slice_get ns k ≡ Some m → (c : ℕ) × (slice_get cs k ≡ Some c) × IsChild b before c m
  child_at [] [] h k m e = cc
  child_at (c ∷ cs) (x ∷ ns) h zero m e = let same : x ≡ m = cc in (c, refl, subst (IsChild b before c) same h.0)
  child_at (c ∷ cs) (x ∷ ns) h (suc k) m e = child_at cs ns h.1 k m e
  child_at [] (x ∷ ns) h k m e = absurd h
  child_at (c ∷ cs) [] h k m e = absurd h

no_prep : (consts : List Const) (place : ℕ → Option ℕ) (is : List Item) (from : ℕ) (ls : List Line) → AllPlain consts is → AllSlow is → LinesOf place from is ls
    → list_any (λ (l : Line). is_any_prep l.insn) ls ≡ false
no_prep consts place [] from [] p s h = refl
no_prep consts place [] from (line ∷ ls) p s h = absurd h
no_prep consts place (Insn y ∷ is) from [] p s h = absurd h
no_prep consts place (Insn y ∷ is) from (line ∷ ls) p s h =
    ap (λ t. t || list_any (λ (l : Line). is_any_prep l.insn) ls) (ap (λ (l : Line). is_any_prep l.insn) h.0 ∙ p.0.0.other)
    ∙ no_prep consts place is (from + length (encoded y)) ls p.1 s.1 h.1
no_prep consts place (Branch y l ∷ is) from [] p s h = absurd h
no_prep consts place (Branch y l ∷ is) from (line ∷ ls) p s h =
    ap (λ t. t || list_any (λ (l : Line). is_any_prep l.insn) ls) (ap (λ (l : Line). is_any_prep l.insn) h.0.is ∙ (same_jump y h.0.by s.0.1).prep ∙ p.0.other)
    ∙ no_prep consts place is (from + length (encoded y)) ls p.1 s.1 h.1
no_prep consts place (Label l ∷ is) from ls p s h = no_prep consts place is from ls p.1 s h.1

prepared : (consts : List Const) (place : ℕ → Option ℕ) (vararg : Bool) (params : ℕ) (is : List Item) (ls : List Line) → Body vararg params consts is
    → AllSlow is → LinesOf place 0 is ls
    → is_prepared params vararg ls ≡ true
prepared consts place false params is ls p s h = ap not (no_prep consts place is 0 ls p s h)
prepared consts place true params [] ls p s h = absurd p
prepared consts place true params (Label l ∷ is) ls p s h = let wrong = p.0 in cc
prepared consts place true params (Branch y l ∷ is) ls p s h = let wrong = p.0 in cc
prepared consts place true params (Insn y ∷ is) [] p s h = absurd h
prepared consts place true params (Insn y ∷ is) (line ∷ ls) p s h =
    let wrong = p.0 in
    let same : y ≡ i.PrepVarargs params = cc in
    let first : is_prep params line.insn ≡ true = ap (λ (l : Line). is_prep params l.insn) h.0 ∙ ap (is_prep params) same ∙ eq-eqb params params refl in
    both (is_prep params line.insn) (has_no_prep ls) first (ap not (no_prep consts place is (0 + length (encoded y)) ls p.1 s.1 h.1))

-- ---- all rules

pub function_none : FunctionsWellFormed
function_none chunk n q b before p r =
    let s = r.shaped in
    let short = r.linkable.short in
    let children_few = s.children_few in
    let constants_few = s.constants_few in
    let place = place_in p.items 0 in
    let order = s.order (omega (arith, short, children_few)) in
    let named : Body p.vararg p.params q.consts p.items = subst (λ ks. Body p.vararg p.params ks p.items) (sym r.consts) (s.body (omega
    (arith, short, constants_few))) in
    let facts = body_facts chunk n q r.there place p.vararg p.params p.items named r.fits r.upvalues r.linkable.jumps in
    let slow = slow_items chunk n q r.there p.items facts in
    let all = lines q.code in
    let size = ends_at q.code place p.items 0 (length q.code) r.code in
    let are : LinesOf place 0 p.items all = lines_are place q.code p.items (length q.code) 0 (omega (arith, size)) size (reading.linked_read p.items q.code
    (only_fit q.registers p.items r.fits) r.code) in
    let ends : Ends p.items = record { front = s.front; last = s.ends } in
    let kids = kids_of chunk n q b before p r in
    let labelled : (l t : ℕ) → place l ≡ Some t → (list_any (nat_eq t) (landings false false all) ≡ true) × (q.vararg ≡ true → t ≡ 0
    → ⊥) = λ l t e. (
      labels_land s.counts place p.items 0 all Nothing order slow ends are l
          (placed_among p.items 0 l t e).0 t e,
      λ v z. outside p q.consts q.vararg r.vararg l t named e v z,
    ) in
    let lines_ok = lines_none chunk n q r.there s.counts kids place all (landings false false all) labelled p.items 0 all Nothing at_start [] order facts slow
    (inr ends) are s.jumps
    (record { closes = λ m e. cc; sets = λ m e. cc }) (record { low = λ m a u e. absurd a; sub = λ t e. e; skip = λ t lt. refl }) in
    let whole : nat_eq (behind all 0) (length q.code) ≡ true = let e = lines_behind place p.items 0 all are in eq-eqb (behind all 0) (length q.code) (omega
    (arith, e, size)) in
    let end : end_faults (nat_eq (behind all 0) (length q.code)) n all ≡ [] = ap (λ t. end_faults t n all) whole ∙ fall_none n place p.items 0 all are ends in
    let sound : list_all (is_sound chunk n) q.consts ≡ true = ap (list_all (is_sound chunk n)) r.consts ∙ sound_all chunk n p.constants s.constants in
    let kids_below : list_all (λ c. nat_lt c n) q.children ≡ true = ap (list_all (λ c. nat_lt c n)) r.children
    ∙ children_below b before p.children s.counts s.children n r.number in
    let first : is_prepared q.params q.vararg all ≡ true = ap (λ v. is_prepared q.params v all) r.vararg ∙ ap (λ k. is_prepared k p.vararg all) r.params
    ∙ prepared q.consts place p.vararg p.params p.items all named slow are in
    let proto : is_proto n q all ≡ true = five (nat_le 1 q.registers) (nat_le q.registers 250) (nat_le q.params q.registers) _ _
    (at_most 1 q.registers r.some) (at_most q.registers 250 r.few) (at_most q.params q.registers r.room) kids_below first in
    no_more _ _ (no_more _ _ lines_ok end) (rest_none n (list_all (is_sound chunk n) q.consts) (is_proto n q all) sound proto)
  where
    rest_none : (n : ℕ) (u v : Bool) → u ≡ true → v ≡ true → at_place n 0 (unless u 3 ++ unless v 11) ≡ []
    rest_none n true true e f = refl
    rest_none n false v e f = cc
    rest_none n true false e f = cc

    five : (a c d e f : Bool) → a ≡ true → c ≡ true → d ≡ true → e ≡ true → f ≡ true → (a && c && d && e && f) ≡ true
    five a c d e f p1 p2 p3 p4 p5 = rw p1 (rw p2 (rw p3 (rw p4 (rw p5 refl))))

    outside : (p : Prototype) (consts : List Const) (v : Bool) → v ≡ p.vararg → (l t : ℕ) → Body p.vararg p.params consts p.items
        → place_in p.items 0 l ≡ Some t → v ≡ true → t ≡ 0 → ⊥
    outside p consts v is l t body e is_true z =
        let so : p.vararg ≡ true = sym is ∙ is_true in
        not_first consts p.params p.items l t (subst (λ w. Body w p.params consts p.items) so body) e z

    kids_of : (chunk : ChunkOf) (n : ℕ) (q : ProtoOf) (b : Bindings) (before : List Prototype) (p : Prototype) (r : IsReady chunk n q b before p) (d : ℤ)
        (m : ℕ) → count_at r.shaped.counts d ≡ Some m
        → (upvalues_at chunk (child_of q d) ≡ m) × (is_some (child_of q d) ≡ true)
    kids_of chunk n q b before p r (negsuc k) m e = cc
    kids_of chunk n q b before p r (pos k) m e =
        let c = child_at b before p.children r.shaped.counts r.shaped.children k m e in
        let there : child_of q (pos k) ≡ Some c.0 = ap (λ cs. slice_get cs k) r.children ∙ c.1 in
        (ap (upvalues_at chunk) there ∙ r.captured c.0 m c.2, ap is_some there)
