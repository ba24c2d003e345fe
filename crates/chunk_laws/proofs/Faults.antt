-- No line of linked code breaks a rule.
use Rattle.std.proofs.Common.{◌≡◌, ℕ, ◌+◌, ◌<◌, ◌≤◌, ℤ, pos, negsuc, Bool, true, false, ◌&&◌, ◌||◌, not, nat_eq, nat_lt, List, [], ◌∷◌, ◌++◌, length, Option, Some, None, is_some, refl, sym, ap, ◌∙◌, subst, arith, ◌⊎◌, inl, inr, ⊎_elim}
use Rattle.std.specs.Prelude.{slice_get, option_and_then, int_le}
use Rattle.std.specs.List.{list_any, list_all}
use Rattle.std.proofs.lemmas.Bool.{eq-eqb}
use Rattle.std.proofs.lemmas.Bool.Decides.{nat_tests}
use Rattle.op_words.specs.declared.insn.Insn.{Insn as Instruction}
use Rattle.op_words.specs.declared.insn.Insn.TheVariants as i
use Rattle.op_words.specs.Chunks.{ChunkOf, ProtoOf}
use Rattle.op_words.specs.Encoding.{encoded}
use Rattle.code_link.specs.declared.item.Item.{Item}
use Rattle.code_link.specs.declared.item.Item.TheVariants.{Insn, Branch, Label}
use Rattle.code_link.specs.Labels.{is_jump}
use Rattle.code_link.specs.Linking.{jumping}
use Rattle.machine_meaning.specs.Chunks.{proto_at}
use Rattle.machine_meaning.specs.Constants.{constant_at}
use Rattle.machine_meaning.specs.Needs.{Line, Want, is_known, is_own, is_wanted, registers_of, fits_range, constants_of, finds, upvalue_of, all_below, child_of, has_child, jump_of, target, goes_back, is_fast, is_capture, sets_top, reads_top}
use Rattle.machine_meaning.specs.WellFormed.{CodeFault, Before, passing, landings, may_land, line_before, is_numeric_loop, same_truth, turns_well, pairs_well, calls_well, captures_well, leading, upvalues_at, is_read, is_set, unless, broken, at_place, line_faults, past_fast, reader_of, first_insn, at_least}
use Rattle.shape_laws.specs.Order.{Owed, Nothing, captures, closure_of, count_at, step, walk}
use Rattle.shape_laws.specs.Jumps.{Among, Await, Ahead, Around, awaited, labelled, closes, ends_loop, Closes, met, Jumps}
use Rattle.shape_laws.specs.Jumps as jumps
use Rattle.shape_laws.specs.Named.{const_at, holds, is_paired, leap}
use Rattle.upvalue_laws.specs.Laws.{IsUpvalue}
use Rattle.chunk_laws.proofs.Distances.{Same, same_jump, same_step, jumps_by}
use Rattle.chunk_laws.proofs.Lines.{LinesOf, label_from}
use Rattle.chunk_laws.proofs.Landings.{AllSlow, Ends, ends_rest, branch_ends, label_ends, first_step, same_owed, later_lands}
use Rattle.chunk_laws.proofs.Jumps.{turn_ahead, turn_back, lands_there, leaps, skip_more, closes_from, loop_before}
use Rattle.chunk_laws.proofs.Steps.{Stands, sets_owes, capture_behind, taker_behind, passes, list_taken, captures_lead, closure_owes}

-- ---- tests

none_more : (front : List ℕ) (t : Bool) (k : ℕ) → front ≡ [] → t ≡ true → front ++ unless t k ≡ []
none_more front true k f e = ap (λ (l : List ℕ). l ++ []) f
none_more front false k f e = cc

none_last : (t : Bool) (k : ℕ) → t ≡ true → unless t k ≡ []
none_last true k e = refl
none_last false k e = cc

both : (s t : Bool) → s ≡ true → t ≡ true → (s && t) ≡ true
both s t e f = ap (λ u. u && t) e ∙ f

either : (s t : Bool) → (s ≡ true → t ≡ true) → (not s || t) ≡ true
either true t f = f refl
either false t f = refl

no_more : (faults more : List CodeFault) → faults ≡ [] → more ≡ [] → faults ++ more ≡ []
no_more faults more e f = ap (λ l. l ++ more) e ∙ f

below : (a c : ℕ) → a < c → nat_lt a c ≡ true
below a c lt = grind (arith, nat_tests, lt)

-- ---- kinds of instructions

pub slow_of : (y : Instruction) → is_paired y ≡ false → is_fast y ≡ false
slow_of (i.ForGPrep a z) e = refl
slow_of y e = e

calls_none : (from : ℕ) (ls : List Line) (y : Instruction) → is_fast y ≡ false → calls_well from ls y ≡ true
calls_none from ls (i.FastCall a c) e = cc
calls_none from ls (i.FastCall1 a c d) e = cc
calls_none from ls (i.FastCall2 a c d x) e = cc
calls_none from ls (i.FastCall2K a c d x) e = cc
calls_none from ls y e = refl

child_there : (q : ProtoOf) (y : Instruction) → ((d : ℤ) → closure_of y ≡ Some d → is_some (child_of q d) ≡ true) → has_child q y ≡ true
child_there q (i.NewClosure a d) h = h d refl
child_there q y h = refl

captures_there : (chunk : ChunkOf) (q : ProtoOf) (ls : List Line) (y : Instruction) → ((d : ℤ) → closure_of y ≡ Some d
    → leading ls ≡ upvalues_at chunk (child_of q d)) → captures_well chunk q ls y ≡ true
captures_there chunk q ls (i.NewClosure a d) h = eq-eqb (leading ls) (upvalues_at chunk (child_of q d)) (h d refl)
captures_there chunk q ls y h = refl

closure_sets : (y : Instruction) (d : ℤ) → closure_of y ≡ Some d → sets_top y ≡ None
closure_sets (i.NewClosure a z) d e = refl
closure_sets y d e = cc

-- an instruction that leads nowhere else stands in no pair
still_pairs : (all : List Line) (from : ℕ) (y : Instruction) → is_paired y ≡ false → jump_of y ≡ leap y → pairs_well all from y ≡ true
still_pairs all from (i.ForGPrep a z) p e = cc
still_pairs all from (i.ForNPrep a z) p e = cc
still_pairs all from y p e = refl

-- ---- the rules of a line

module _ (chunk : ChunkOf) (n : ℕ) (q : ProtoOf) (there : proto_at chunk n ≡ Some q) where
  constant_there : (z : ℤ) → constant_at chunk n z ≡ const_at q.consts z
  constant_there (pos k) = ap (option_and_then (λ (f : ProtoOf). slice_get f.consts k)) there
  constant_there (negsuc k) = refl

  found : (ks : List (ℤ × Want)) → list_all (holds q.consts) ks ≡ true → list_all (finds chunk n) ks ≡ true
  found [] e = refl
  found (k ∷ ks) e = by (λ g. found ks g) (holds q.consts k) refl e
    where
      by : (list_all (holds q.consts) ks ≡ true → list_all (finds chunk n) ks ≡ true) → (t : Bool) → holds q.consts k ≡ t
          → (t && list_all (holds q.consts) ks) ≡ true
          → (finds chunk n k && list_all (finds chunk n) ks) ≡ true
      by rest true f g = both (finds chunk n k) (list_all (finds chunk n) ks) (ap (is_wanted k.1) (constant_there k.0) ∙ f) (rest g)
      by rest false f g = cc

  -- what is known of an instruction of the function
  pub record Fact (y : Instruction) : Type 0 where
    pub known : is_known y ≡ true
    pub own : is_own y ≡ true
    pub named : list_all (holds q.consts) (constants_of y) ≡ true
    pub slow : is_fast y ≡ false
    pub registers : list_all (fits_range q.registers) (registers_of y) ≡ true
    pub upvalue : IsUpvalue q.upvalues (upvalue_of y)

  pub record Plainly (y : Instruction) : Type 0 where
    pub fact : Fact y
    pub single : is_paired y ≡ false
    pub still : jump_of y ≡ leap y

  pub record Branching (y : Instruction) : Type 0 where
    pub fact : Fact y
    pub single : is_paired y ≡ false
    pub jump : is_jump y ≡ true

  abbrev pub AllFacts : List Item → Type 0
  AllFacts [] = Unit {0}
  AllFacts (Insn y ∷ is) = Plainly y × AllFacts is
  AllFacts (Branch y l ∷ is) = Branching y × AllFacts is
  AllFacts (Label l ∷ is) = AllFacts is

  same_fact : (y z : Instruction) → Same z y → Fact y → Fact z
  same_fact y z s f = record {
    known = s.known ∙ f.known;
    own = s.own ∙ f.own;
    named = ap (list_all (holds q.consts)) s.wants ∙ f.named;
    slow = s.fast ∙ f.slow;
    registers = ap (list_all (fits_range q.registers)) s.registers ∙ f.registers;
    upvalue = subst (IsUpvalue q.upvalues) (sym s.upvalue) f.upvalue;
  }

  upvalue_there : (o : Option ℕ) → IsUpvalue q.upvalues o → all_below q.upvalues o ≡ true
  upvalue_there None u = refl
  upvalue_there (Some k) u = below k q.upvalues u

  module _ (cs : List ℕ) (kids : (d : ℤ) (m : ℕ) → count_at cs d ≡ Some m → (upvalues_at chunk (child_of q d) ≡ m) × (is_some (child_of q d) ≡ true))
      (place : ℕ → Option ℕ) (all : List Line) (places : List ℕ)
      (labelled : (l t : ℕ) → place l ≡ Some t → (list_any (nat_eq t) places ≡ true) × (q.vararg ≡ true → t ≡ 0 → ⊥)) where
    set_there : (b : Before) (o : Option ℕ) → ((f : ℕ) → o ≡ Some f → b.sets ≡ true) → is_set b.sets b.fast_two b.sets_three o ≡ true
    set_there b None h = refl
    set_there b (Some f) h = ap (λ t. t || (b.fast_two && b.sets_three)) (h f refl)

    read_there : (o : Option ℕ) (ls : List Line) → ((a : ℕ) → o ≡ Some a → at_least (reader_of (first_insn (past_fast ls))) a ≡ true) → is_read o ls ≡ true
    read_there None ls h = refl
    read_there (Some a) ls h = h a refl

    capture_there : (t c : Bool) → (t ≡ true → c ≡ true) → (not t || c) ≡ true
    capture_there true c h = h refl
    capture_there false c h = refl

    line_none : (y : Instruction) (from next : ℕ) (is : List Item) (ls : List Line) (b : Before) (o p : Owed) → Fact y → Stands o b → step cs o y ≡ Some p
        → walk cs p is ≡ Some Nothing → AllSlow is
        → LinesOf place next is ls → may_land q.vararg places from (jump_of y) ≡ true → turns_well from y (jump_of y) ≡ true → pairs_well all from y ≡ true
        → broken chunk n q all places b (record { place = from; insn = y; next = next }) ls ≡ []
    line_none y from next is ls b o p f h s w slow lines land turn pair =
        none_more _ (is_read (sets_top y) ls && is_set b.sets b.fast_two b.sets_three (reads_top y)) 9
        (none_more _ (captures_well chunk q ls y && (not (is_capture y) || b.closes) && calls_well from ls y) 8
        (none_more _ (turns_well from y (jump_of y) && pairs_well all from y) 7
        (none_more _ (may_land q.vararg places from (jump_of y)) 6
        (none_more _ (has_child q y) 5
        (none_more _ (all_below q.upvalues (upvalue_of y)) 4
        (none_more _ (list_all (finds chunk n) (constants_of y)) 3
        (none_more _ (list_all (fits_range q.registers) (registers_of y) && is_own y) 2 (none_last (is_known y) 1 f.known) (both _ _ f.registers f.own))
        (found (constants_of y) f.named)) (upvalue_there (upvalue_of y) f.upvalue))
        (child_there q y (λ d c. let m = closure_owes cs o p y d c (closure_sets y d c) s in (kids d m.0 m.1).1))) land) (both _ _ turn pair))
        (third captured behind calls)) (both _ _ read set)
      where
        captured : captures_well chunk q ls y ≡ true
        captured = captures_there chunk q ls y (λ d c.
            let m = closure_owes cs o p y d c (closure_sets y d c) s in
            let rest : walk cs (captures m.0) is ≡ Some Nothing = subst (λ (z : Owed). walk cs z is ≡ Some Nothing) m.2 w in
            captures_lead cs place is next m.0 ls rest slow lines ∙ sym (kids d m.0 m.1).0)

        behind : (not (is_capture y) || b.closes) ≡ true
        behind = capture_there (is_capture y) b.closes (λ c. capture_behind cs o p b y h s c)

        calls : calls_well from ls y ≡ true
        calls = calls_none from ls y f.slow

        third : captures_well chunk q ls y ≡ true → (not (is_capture y) || b.closes) ≡ true → calls_well from ls y ≡ true
            → (captures_well chunk q ls y && (not (is_capture y) || b.closes) && calls_well from ls y) ≡ true
        third u v x = rw u (rw v (rw x refl))

        read : is_read (sets_top y) ls ≡ true
        read = read_there (sets_top y) ls (λ a e. list_taken cs place is next a ls (subst (λ (z : Owed). walk cs z is ≡ Some Nothing)
            (sets_owes cs o p y a e s) w) slow lines)

        set : is_set b.sets b.fast_two b.sets_three (reads_top y) ≡ true
        set = set_there b (reads_top y) (λ g e. taker_behind cs o p b y g h s e)

    -- ---- all of them

    tail_ends : (y : Instruction) (is : List Item) → Ends (Insn y ∷ is) → (is ≡ []) ⊎ Ends is
    tail_ends y is e = ⊎_elim (λ p. inl p.0) (λ r. inr r) (ends_rest (Insn y) is e)

    some_ends : (x : Item) (is : List Item) → (x ∷ is ≡ []) ⊎ Ends (x ∷ is) → Ends (x ∷ is)
    some_ends x is e = ⊎_elim (λ p. cc) (λ r. r) e

    -- a branch ahead leads behind itself
    leads_ahead : (y : Instruction) (l t next : ℕ) (is : List Item) (ls : List Line) → is_jump y ≡ true → met (awaited y l) is → LinesOf place next is ls
        → place l ≡ Some t → next ≤ t
    leads_ahead (i.ForNPrep a z) l t next is ls j m h at = let lt = closes_from place a l t is next ls m h at in omega (arith, lt)
    leads_ahead y l t next is ls j m h at = label_from place is next ls h l m t at

    pairs_there : (y : Instruction) (l t from next : ℕ) (by : ℤ) (placed : List ℕ) (is : List Item) (ls : List Line) → is_paired y ≡ false
        → jumps.lands (goes_back y) placed [] (awaited y l) l is → LinesOf place next is ls
        → place l ≡ Some t → target from by ≡ pos t → ((u : ℕ) → next < u → line_before all (pos u) ≡ line_before ls (pos u))
        → pairs_well all from (jumping y by) ≡ true
    pairs_there (i.ForNPrep a z) l t from next by placed is ls e m h at r skip =
        ⊎_elim
        (λ c.
        let lt = closes_from place a l t is next ls c h at in
        ap (λ w. is_numeric_loop a (line_before all w)) r ∙ ap (is_numeric_loop a) (skip t lt) ∙ loop_before place a l t is next ls c h at)
        (λ w. absurd w) m
    pairs_there (i.ForGPrep a z) l t from next by placed is ls e m h at r skip = cc
    pairs_there y l t from next by placed is ls e m h at r skip = refl

    turns_there : (y : Instruction) (l t from next : ℕ) (by : ℤ) (placed : List ℕ) (is : List Item) (ls : List Line) → is_jump y ≡ true
        → jumps.lands (goes_back y) placed [] (awaited y l) l is → LinesOf place next is ls
        → place l ≡ Some t → target from by ≡ pos t → from < next → ((m : ℕ) → Among m placed → (u : ℕ) → place m ≡ Some u → u ≤ from)
        → turns_well from (jumping y by) (jump_of (jumping y by)) ≡ true
    turns_there y l t from next by placed is ls j m h at r lt low =
        ap (turns_well from (jumping y by)) (jumps_by y by j) ∙ which (goes_back y) refl m
      where
        same : Same (jumping y by) y
        same = same_jump y by j

        which : (g : Bool) → goes_back y ≡ g → jumps.lands g placed [] (awaited y l) l is
            → same_truth (goes_back (jumping y by)) (int_le (target from by) (pos from)) ≡ true
        which true e p = turn_back (jumping y by) from by t (same.back ∙ e) r (low l p t at)
        which false e p =
            let le : next ≤ t = ⊎_elim (λ w. leads_ahead y l t next is ls j w h at) (λ w. absurd w) p in
            turn_ahead (jumping y by) from by t (same.back ∙ e) r (omega (arith, le, lt))

    -- what is known of the lines so far
    pub record Before_them (from : ℕ) (ls : List Line) (placed : List ℕ) : Type 0 where
      pub low : (m : ℕ) → Among m placed → (u : ℕ) → place m ≡ Some u → u ≤ from
      pub sub : (t : ℕ) → list_any (nat_eq t) (landings false false ls) ≡ true → list_any (nat_eq t) places ≡ true
      pub skip : (t : ℕ) → from < t → line_before all (pos t) ≡ line_before ls (pos t)

    one_more : (from next : ℕ) (line : Line) (ls : List Line) (placed : List ℕ) → from ≤ next → line.next ≡ next → is_fast line.insn ≡ false
        → Before_them from (line ∷ ls) placed → Before_them next ls placed
    one_more from next line ls placed le is slow k = record {
      low = λ m a u e. let h = k.low m a u e in omega (arith, h, le);
      sub = λ t e. k.sub t (later_lands t line ls slow e);
      skip = skip_more all from next line ls le is k.skip;
    }

    pub lines_none : (is : List Item) (from : ℕ) (ls : List Line) (o : Owed) (b : Before) (placed : List ℕ) → walk cs o is ≡ Some Nothing → AllFacts is
        → AllSlow is → (is ≡ []) ⊎ Ends is → LinesOf place from is ls
        → Jumps placed [] is → Stands o b → Before_them from ls placed → line_faults chunk n q all places b ls ≡ []
    lines_none [] from [] o b placed w f s e h j st k = refl
    lines_none [] from (line ∷ ls) o b placed w f s e h j st k = absurd h
    lines_none (Insn y ∷ is) from [] o b placed w f s e h j st k = absurd h
    lines_none (Insn y ∷ is) from (line ∷ ls) o b placed w f s e h j st k =
        let x = first_step cs o (Insn y) is w in
        let next = from + length (encoded y) in
        let ends = some_ends (Insn y) is e in
        let slow = ap (λ (z : Line). is_fast z.insn) h.0 ∙ s.0 in
        let k' = one_more from next line ls placed (omega arith) (ap (λ (z : Line). z.next) h.0) slow k in
        let go = leaps q.vararg places cs place y from is ls o x.owes f.0.still x.here x.rest s.1 ends h.1 k'.sub in
        let none = line_none y from next is ls b o x.owes f.0.fact st x.here x.rest s.1 h.1 go.0 go.1 (still_pairs all from y f.0.single f.0.still) in
        let rest = lines_none is next ls x.owes (passing b y) placed x.rest f.1 s.1 (tail_ends y is ends) h.1 j (passes cs o x.owes b y x.here) k' in
        subst (λ (z : Line). at_place n z.place (broken chunk n q all places b z ls) ++ line_faults chunk n q all places (passing b z.insn) ls ≡ []) (sym h.0)
        (no_more _ _ (ap (at_place n from) none) rest)
    lines_none (Branch y l ∷ is) from [] o b placed w f s e h j st k = absurd h
    lines_none (Branch y l ∷ is) from (line ∷ ls) o b placed w f s e h j st k =
        let x = first_step cs o (Branch y l) is w in
        let g = h.0 in
        let z = jumping y g.by in
        let same = same_jump y g.by f.0.jump in
        let next = from + length (encoded y) in
        let ends = branch_ends y l is (some_ends (Branch y l) is e) in
        let here : step cs o z ≡ Some x.owes = same_step cs o z y same ∙ x.here in
        let slow = ap (λ (u : Line). is_fast u.insn) g.is ∙ same.fast ∙ s.0.0 in
        let k' = one_more from next line ls placed (omega arith) (ap (λ (u : Line). u.next) g.is) slow k in
        let told = labelled l g.target g.placed in
        let land = ap (may_land q.vararg places from) (jumps_by y g.by f.0.jump) ∙ lands_there q.vararg places
        (target from g.by) g.target g.reaches told.0 told.1 in
        let turn = turns_there y l g.target from next g.by placed is ls f.0.jump j.0 h.1 g.placed g.reaches (omega arith) k.low in
        let pair = pairs_there y l g.target from next g.by placed is ls f.0.single j.0 h.1 g.placed g.reaches k'.skip in
        let none = line_none z from next is ls b o x.owes (same_fact y z same f.0.fact) st here x.rest s.1 h.1 land turn pair in
        let rest = lines_none is next ls x.owes (passing b z) placed x.rest f.1 s.1 (inr ends) h.1 j.1 (passes cs o x.owes b z here) k' in
        subst (λ (u : Line). at_place n u.place (broken chunk n q all places b u ls) ++ line_faults chunk n q all places (passing b u.insn) ls ≡ []) (sym g.is)
        (no_more _ _ (ap (at_place n from) none) rest)
    lines_none (Label l ∷ is) from ls o b placed w f s e h j st k =
        let x = first_step cs o (Label l) is w in
        let same = same_owed o x.owes x.here in
        lines_none is from ls o b (l ∷ placed) (subst (λ (z : Owed). walk cs z is ≡ Some Nothing) same.1 x.rest) f s (inr (label_ends l is (some_ends
        (Label l) is e))) h.1 j st (record {
          low = λ m a u at. ⊎_elim (λ is_l. let there : Some from ≡ Some u = sym h.0 ∙ ap place (sym is_l) ∙ at in let here : from ≡ u = cc in omega
              (arith, here)) (λ r. k.low m r u at) a;
          sub = k.sub;
          skip = k.skip;
        })
