-- The places of labels, and the words made, as far as a loop over the items has come.
use Rattle.std.proofs.Common.{◌≡◌, refl, sym, ap, ◌∙◌, subst, ℕ, suc, add-one, ◌+◌, ◌<◌, ℤ, Bool, true, false, List, [], ◌∷◌, ◌++◌, length, drop, drop-cons, get_or, Option, Some, None, arith, nat_eq, append_assoc, length-append, if◌then◌else◌, ◌^◌}
use Rattle.std.specs.Prelude.{unwrap_or}
use Rattle.std.specs.List.{AllByRecursion, IsDistinct}
use Rattle.std.specs.Option.{option_or}
use Rattle.std.proofs.lemmas.Bool.{eqb-true}
use Rattle.std.proofs.lemmas.Bool.Decides.{nat_tests}
use Rattle.op_words.specs.declared.insn.Insn.{Insn as Instruction}
use Rattle.op_words.specs.declared.insn.Insn.TheVariants.{Jump}
use Rattle.op_words.specs.Encoding.{encoded}
use Rattle.code_link.specs.declared.item.Item.{Item}
use Rattle.code_link.specs.declared.item.Item.TheVariants.{Insn, Branch, Label}
use Rattle.code_link.specs.Labels.{word_count, place_in, labels, AreJumps}
use Rattle.code_link.specs.Linking.{jumping}
use Rattle.code_link.specs.Making.{distance, linked}

-- the item at an index is the first of those from there on
pub drop_item : (items : List Item) (i : ℕ) (item d : Item) → i < length items → get_or items i d ≡ item → drop i items ≡ item ∷ drop (i + 1) items
drop_item items i item d h e = drop-cons items i d h ∙ ap (λ x. x ∷ drop (suc i) items) e ∙ ap (λ n. item ∷ drop n items) (sym (add-one i))

-- a label that is not placed has no place
pub place_in-none : (is : List Item) (from l : ℕ) → AllByRecursion (λ m. nat_eq l m ≡ false) (labels is) → place_in is from l ≡ None
place_in-none [] from l h = refl
place_in-none (Insn i ∷ is) from l h = place_in-none is (from + length (encoded i)) l h
place_in-none (Branch i m ∷ is) from l h = place_in-none is (from + length (encoded i)) l h
place_in-none (Label m ∷ is) from l h =
    let other : nat_eq m l ≡ false = apart l m h.0 in
    rw other (place_in-none is from l h.1)
  where
    apart : (a b : ℕ) → nat_eq a b ≡ false → nat_eq b a ≡ false
    apart a b e = grind (arith, nat_tests)

-- ---- the places of labels

-- a table of places, which has those of the items passed, leads to the places of all
pub record Places (items rest : List Item) (here : ℕ) (table : ℕ → Option ℕ) : Type 0 where
  pub room : here + word_count rest ≡ word_count items
  pub once : IsDistinct nat_eq (labels rest)
  pub all : (q : ℕ) → option_or (place_in rest here q) (table q) ≡ place_in items 0 q

pub places_insn : (items rest : List Item) (here : ℕ) (table : ℕ → Option ℕ) (i : Instruction) → Places items (Insn i ∷ rest) here table → Places items rest (here + length (encoded i)) table
places_insn items rest here table i p =
    let room = p.room in record { room = omega (arith, room); once = p.once; all = p.all }

pub places_branch : (items rest : List Item) (here : ℕ) (table : ℕ → Option ℕ) (i : Instruction) (l : ℕ) → Places items (Branch i l ∷ rest) here table → Places items rest (here + length (encoded i)) table
places_branch items rest here table i l p =
    let room = p.room in record { room = omega (arith, room); once = p.once; all = p.all }

pub places_label : (items rest : List Item) (here : ℕ) (table after : ℕ → Option ℕ) (l : ℕ) → Places items (Label l ∷ rest) here table → ((q : ℕ) → after q ≡ (if nat_eq l q then Some here else table q)) → Places items rest here after
unfolding IsDistinct
places_label items rest here table after l p h =
    record {
      room = p.room;
      once = p.once.1;
      all = λ q. ap (option_or (place_in rest here q)) (h q) ∙ by_test q (nat_eq l q) refl ∙ p.all q;
    }
  where
    by_test : (q : ℕ) (t : Bool) → nat_eq l q ≡ t → option_or (place_in rest here q) (if nat_eq l q then Some here else table q) ≡ option_or (if nat_eq l q then Some here else place_in rest here q) (table q)
    by_test q true e =
        let none : place_in rest here q ≡ None = subst (λ m. place_in rest here m ≡ None) (eqb-true l q e) (place_in-none rest here l p.once.0) in
        rw (e, none) refl
    by_test q false e = rw e refl

-- ---- the words made

-- the distance of a jump changes no count of words
pub length-jumping : (i : Instruction) (by : ℤ) → length (encoded (jumping i by)) ≡ length (encoded i)
length-jumping (Jump _) by = refl
length-jumping i by = refl

-- the words of the items passed, with those of the rest, are those of all
pub record Makes (place : ℕ → Option ℕ) (items rest : List Item) (code : List ℕ) : Type 0 where
  pub jumps : AreJumps place rest
  pub room : length code + word_count rest < 2 ^ 15
  pub all : code ++ linked place (length code) rest ≡ linked place 0 items

made_more : (place : ℕ → Option ℕ) (rest : List Item) (code more : List ℕ) → (code ++ more) ++ linked place (length (code ++ more)) rest ≡ code ++ (more ++ linked place (length code + length more) rest)
made_more place rest code more =
    append_assoc code more _ ∙ ap (λ n. code ++ (more ++ linked place n rest)) (length-append code more)

pub makes_insn : (place : ℕ → Option ℕ) (items rest : List Item) (code after : List ℕ) (i : Instruction) → Makes place items (Insn i ∷ rest) code → after ≡ code ++ encoded i → Makes place items rest after
makes_insn place items rest code after i m e =
    subst (λ c. Makes place items rest c) (sym e) (record {
      jumps = m.jumps;
      room = let room = m.room in omega (arith, room, length-append code (encoded i));
      all = made_more place rest code (encoded i) ∙ m.all;
    })

pub makes_branch : (place : ℕ → Option ℕ) (items rest : List Item) (code after : List ℕ) (i jump : Instruction) (l p : ℕ) → Makes place items (Branch i l ∷ rest) code → place l ≡ Some p → jump ≡ jumping i (distance (length code) p) → after ≡ code ++ encoded jump → Makes place items rest after
makes_branch place items rest code after i jump l p m there j e =
    let aimed = jumping i (distance (length code) p) in
    let count = length-jumping i (distance (length code) p) in
    let known : p ≡ unwrap_or (place l) 0 = ap (λ o. unwrap_or o 0) (sym there) in
    subst (λ c. Makes place items rest c) (sym (e ∙ ap (λ k. code ++ encoded k) j)) (record {
      jumps = m.jumps.2;
      room = let room = m.room in omega (arith, room, length-append code (encoded aimed), count);
      all = made_more place rest code (encoded aimed)
          ∙ ap (λ n. code ++ (encoded aimed ++ linked place (length code + n) rest)) count
          ∙ ap (λ n. code ++ (encoded (jumping i (distance (length code) n)) ++ linked place (length code + length (encoded i)) rest)) known
          ∙ m.all;
    })

pub makes_label : (place : ℕ → Option ℕ) (items rest : List Item) (code : List ℕ) (l : ℕ) → Makes place items (Label l ∷ rest) code → Makes place items rest code
makes_label place items rest code l m = record { jumps = m.jumps; room = m.room; all = m.all }
