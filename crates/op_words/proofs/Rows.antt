-- Each row and its instruction give each other back.
use Rattle.std.proofs.Common.{◌≡◌, refl, sym, ap, ◌∙◌, subst, ℕ, ◌^◌, ◌<◌, ℤ, Bool, true, false, ◌&&◌, List, [], ◌∷◌, Option, Some, None, arith, nat_eq, if◌then◌else◌}
use Rattle.std.specs.List.{AllByRecursion}
use Rattle.std.specs.Option.{option_and_then}
use Rattle.std.specs.Ordering.{int_eq}
use Rattle.std.proofs.lemmas.Bool.{eqb-true, eq-eqb, ne_eqb, and_parts, and_from}
use Rattle.std.proofs.lemmas.Bool.Decides.{Decides-int_eq}
use Rattle.op_words.specs.declared.insn.Insn.{Insn}
use Rattle.op_words.specs.declared.insn.Insn.TheVariants.{LoadN}
use Rattle.op_words.specs.declared.encoding.Fields.{Fields}
use Rattle.op_words.specs.declared.encoding.Fields.TheVariants.{Abc, Ad, E}
use Rattle.op_words.specs.declared.encoding.Row.{Row}
use Rattle.op_words.specs.declared.decoding.Parts.{Parts}
use Rattle.op_words.specs.Encoding.{row}
use Rattle.op_words.specs.Decoding.{looked_up, named, has_fields, is_followed, has_parts, insn_of}

-- a row's second word, or what follows where it has none
abbrev pub following : (aux next : Option ℕ) → Option ℕ
following None next = next
following (Some x) next = Some x

-- parts with a row's fields, and otherwise those of `p`
abbrev pub parts_with : (opcode : ℕ) → Fields → (aux : Option ℕ) → Parts → Parts
parts_with opcode (Abc a b c) aux p =
    record { opcode = opcode; a = a; b = b; c = c; d = p.d; e = p.e; aux = following aux p.aux }
parts_with opcode (Ad a d) aux p =
    record { opcode = opcode; a = a; b = p.b; c = p.c; d = d; e = p.e; aux = following aux p.aux }
parts_with opcode (E e) aux p =
    record { opcode = opcode; a = p.a; b = p.b; c = p.c; d = p.d; e = e; aux = following aux p.aux }

-- the parts are those of the row
abbrev pub HasParts : Row → Parts → Type 0
HasParts r p = parts_with r.opcode r.fields r.aux p ≡ p

-- the one rule of the table: an instruction is named by its row's parts, whatever it does not name
named-row : (insn : Insn) (p : Parts) → let r = row insn in named (parts_with r.opcode r.fields r.aux p) ≡ Some insn
unfolding named
named-row (LoadN to value) p = refl
named-row insn p = refl

pub opcode_fits : (insn : Insn) → (row insn).opcode < 2 ^ 8
opcode_fits (LoadN to value) = omega arith
opcode_fits insn = omega arith

-- no row has the opcode
pub looked_up-none : (rows : List (ℕ × (Parts → Insn))) (p : Parts) → AllByRecursion (λ r. p.opcode ≡ r.0 → ⊥) rows → looked_up rows p ≡ None
looked_up-none [] p h = refl
looked_up-none (r ∷ rs) p h =
    ap (λ t. if t then Some (r.1 p) else looked_up rs p) (ne_eqb p.opcode r.0 h.0) ∙ looked_up-none rs p h.1

-- ---- the test of the parts

-- parts are the same where their fields are
pub same_parts : (p : Parts) (o a b c : ℕ) (d e : ℤ) (x : Option ℕ) → o ≡ p.opcode → a ≡ p.a → b ≡ p.b → c ≡ p.c → d ≡ p.d → e ≡ p.e → x ≡ p.aux → let q : Parts = record { opcode = o; a = a; b = b; c = c; d = d; e = e; aux = x } in q ≡ p
same_parts p o a b c d e x f g h i j k l =
    let made : (o a b c : ℕ) → (d e : ℤ) → Option ℕ → Parts = λ o a b c d e x. record { opcode = o; a = a; b = b; c = c; d = d; e = e; aux = x } in
    ap (λ n. made n a b c d e x) f ∙ ap (λ n. made p.opcode n b c d e x) g ∙ ap (λ n. made p.opcode p.a n c d e x) h
    ∙ ap (λ n. made p.opcode p.a p.b n d e x) i ∙ ap (λ n. made p.opcode p.a p.b p.c n e x) j
    ∙ ap (λ n. made p.opcode p.a p.b p.c p.d n x) k ∙ ap (made p.opcode p.a p.b p.c p.d p.e) l

followed_same : (aux next : Option ℕ) → is_followed aux next ≡ true → following aux next ≡ next
followed_same None next t = refl
followed_same (Some x) None t = cc
followed_same (Some x) (Some y) t = ap Some (eqb-true x y t)

same_followed : (aux next : Option ℕ) → following aux next ≡ next → is_followed aux next ≡ true
same_followed None next e = refl
same_followed (Some x) None e = cc
same_followed (Some x) (Some y) e = eq-eqb x y cc

-- the test finds that the parts are those of a row
tested_same : (o : ℕ) (fields : Fields) (aux : Option ℕ) (p : Parts) → o ≡ p.opcode → has_fields fields p ≡ true → following aux p.aux ≡ p.aux → parts_with o fields aux p ≡ p
tested_same o (Abc a b c) aux p e t f =
    let h = and_parts (nat_eq a p.a) (nat_eq b p.b && nat_eq c p.c) t in
    let k = and_parts (nat_eq b p.b) (nat_eq c p.c) h.1 in
    same_parts p o a b c p.d p.e (following aux p.aux) e (eqb-true a p.a h.0) (eqb-true b p.b k.0) (eqb-true c p.c k.1) refl refl f
tested_same o (Ad a d) aux p e t f =
    let h = and_parts (nat_eq a p.a) (int_eq d p.d) t in
    same_parts p o a p.b p.c d p.e (following aux p.aux) e (eqb-true a p.a h.0) refl refl ((Decides-int_eq d p.d).0 h.1) refl f
tested_same o (E n) aux p e t f =
    same_parts p o p.a p.b p.c p.d n (following aux p.aux) e refl refl refl refl ((Decides-int_eq n p.e).0 t) f

same_tested : (o : ℕ) (fields : Fields) (aux : Option ℕ) (p : Parts) → parts_with o fields aux p ≡ p → nat_eq o p.opcode && (has_fields fields p && is_followed aux p.aux) ≡ true
same_tested o (Abc a b c) aux p e =
    and_from _ _ (eq-eqb o p.opcode (ap (λ q. q.opcode) e)) (and_from _ _ (and_from _ _ (eq-eqb a p.a (ap (λ q. q.a) e)) (and_from _ _ (eq-eqb b p.b (ap (λ q. q.b) e)) (eq-eqb c p.c (ap (λ q. q.c) e)))) (same_followed aux p.aux (ap (λ q. q.aux) e)))
same_tested o (Ad a d) aux p e =
    and_from _ _ (eq-eqb o p.opcode (ap (λ q. q.opcode) e)) (and_from _ _ (and_from _ _ (eq-eqb a p.a (ap (λ q. q.a) e)) ((Decides-int_eq d p.d).1 (ap (λ q. q.d) e))) (same_followed aux p.aux (ap (λ q. q.aux) e)))
same_tested o (E n) aux p e =
    and_from _ _ (eq-eqb o p.opcode (ap (λ q. q.opcode) e)) (and_from _ _ ((Decides-int_eq n p.e).1 (ap (λ q. q.e) e)) (same_followed aux p.aux (ap (λ q. q.aux) e)))

has_parts-same : (r : Row) (p : Parts) → has_parts r p ≡ true → HasParts r p
has_parts-same r p t =
    let h = and_parts (nat_eq r.opcode p.opcode) (has_fields r.fields p && is_followed r.aux p.aux) t in
    let k = and_parts (has_fields r.fields p) (is_followed r.aux p.aux) h.1 in
    tested_same r.opcode r.fields r.aux p (eqb-true r.opcode p.opcode h.0) k.0 (followed_same r.aux p.aux k.1)

-- ---- an instruction is read exactly of its row's parts

pub insn_of-parts : (insn : Insn) (p : Parts) → HasParts (row insn) p → insn_of p ≡ Some insn
unfolding insn_of
insn_of-parts insn p e =
    let by_name : named p ≡ Some insn = ap named (sym e) ∙ named-row insn p in
    let r = row insn in
    ap (option_and_then (λ i. if has_parts (row i) p then Some i else None)) by_name
    ∙ ap (λ t. if t then Some insn else None) (same_tested r.opcode r.fields r.aux p e)

read_parts : (p : Parts) (insn i : Insn) (t : Bool) → (t ≡ true → HasParts (row i) p) → (if t then Some i else None) ≡ Some insn → HasParts (row insn) p
read_parts p insn i true h e = let same : i ≡ insn = cc in subst (λ x. HasParts (row x) p) same (h refl)
read_parts p insn i false h e = cc

named_parts : (p : Parts) (insn : Insn) (o : Option Insn) → option_and_then (λ i. if has_parts (row i) p then Some i else None) o ≡ Some insn → HasParts (row insn) p
named_parts p insn None e = cc
named_parts p insn (Some i) e = read_parts p insn i (has_parts (row i) p) (has_parts-same (row i) p) e

pub parts-insn_of : (p : Parts) (insn : Insn) → insn_of p ≡ Some insn → HasParts (row insn) p
unfolding insn_of
parts-insn_of p insn e = named_parts p insn (named p) e
