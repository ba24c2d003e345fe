-- The border, kept as a number.
use Rattle.std.proofs.Common.{◌≡◌, ◌≢◌, ℕ, zero, suc, ◌+◌, ◌<◌, ◌≤◌, pos, ℤ, Bool, true, false, cond, [], ◌∷◌, length, refl, sym, ◌∙◌, ap, subst, arith, ◌⊎◌, inl, inr}
use Rattle.std.proofs.lemmas.Bool.{cases_eq}
use Rattle.value_model.proofs.Pairs.{written_here, written_else}
use Rattle.value_model.specs.Pairs as pairs
use Rattle.value_model.specs.declared.value.Value.{Value}
use Rattle.value_model.specs.declared.value.Value.TheVariants.{Nil, Num}
use Rattle.value_arena.specs.Tables.{Entries, same, is_nil, number, value_in, border_of}
use Rattle.value_arena.specs.Borders.{item_behind, IsFilled, IsBorderBut}
use Rattle.value_arena.proofs.Sameness.{value_is, is_value}

clash : false ≡ true → ⊥
clash e = absurd (cc)

abbrev under : Entries → Value → Value
under es key = pairs.value_under same is_nil Nil es key

-- what does not hold decides
not_same : (a b : Value) → (a ≡ b → ⊥) → same a b ≡ false
not_same a b h = by (same a b) refl
  where
    by : (c : Bool) → same a b ≡ c → c ≡ false
    by true e = absurd (h (value_is a b e))
    by false e = refl

number_is : (i j : ℕ) → number (pos i) ≡ number (pos j) → i ≡ j
number_is i j e = cc

-- other whole numbers are other keys
apart : (i j : ℕ) → i ≢ j → same (number (pos i)) (number (pos j)) ≡ false
apart i j h = not_same (number (pos i)) (number (pos j)) (λ e. h (number_is i j e))

pub same_content : (a b : ℤ) → Num a ≡ Num b → a ≡ b
same_content a b e = cc

-- a key that is two whole numbers
pub same_number : (m n : ℕ) (key : Value) → number (pos (suc m)) ≡ key → number (pos (suc n)) ≡ key → m ≡ n
same_number m n key a b = omega (arith, number_is (suc m) (suc n) (a ∙ sym b))

-- ---- there are as many pairs as the border says, at least

-- the entries without that of the key
abbrev without : Entries → Value → Entries
without [] key = []
without (e ∷ es) key = cond (same key e.0) es (e ∷ without es key)

other_kept : (es : Entries) (key k : Value) → same k key ≡ false → under (without es key) k ≡ under es k
other_kept [] key k h = refl
other_kept (e ∷ es) key k h = by (other_kept es key k h) (same key e.0) refl
  where
    by : under (without es key) k ≡ under es k → (b : Bool) → same key e.0 ≡ b → under (cond b es (e ∷ without es key)) k ≡ under (e ∷ es) k
    by rest true s = sym (ap (λ c. cond c e.1 (under es k)) (subst (λ q. same k q ≡ false) (value_is key e.0 s) h))
    by rest false s = ap (λ v. cond (same k e.0) e.1 v) rest

shorter : (es : Entries) (key : Value) → is_nil (under es key) ≡ false → length (without es key) + 1 ≡ length es
shorter [] key h = absurd (clash (sym h))
shorter (e ∷ es) key h = by (λ full. shorter es key full) (same key e.0) refl
  where
    by : (is_nil (under es key) ≡ false → length (without es key) + 1 ≡ length es) → (b : Bool) → same key e.0 ≡ b → length (cond b es (e ∷ without es key)) + 1 ≡ suc (length es)
    by rest true s = omega arith
    by rest false s =
        let more = rest (subst (λ b. is_nil (cond b e.1 (under es key)) ≡ false) s h) in
        omega (arith, more)

few : (n : ℕ) (es : Entries) → ((k : ℕ) → k < n → is_nil (under es (number (pos (suc k)))) ≡ false) → n ≤ length es
few zero es h = omega arith
few (suc n) es h =
    let key = number (pos (suc n)) in
    let less = few n (without es key) (λ k l. subst (λ v. is_nil v ≡ false) (sym (other_kept es key (number (pos (suc k))) (apart (suc k) (suc n) (λ e. absurd (omega (arith, e, l)))))) (h k (omega (arith, l)))) in
    omega (arith, less, shorter es key (h n (omega arith)))

pub as_many : (es : Entries) (n : ℕ) → IsFilled es n → n ≤ length es
unfolding value_in
as_many es n h = few n es h

-- ---- the border is the least number behind which there is nil

abbrev seek : ℕ → Entries → ℕ → ℕ
seek more es k = pairs.border_from same is_nil Nil number more es k

found : (more : ℕ) (es : Entries) (k b : ℕ) → ((k : ℕ) → k < b → is_nil (under es (number (pos (suc k)))) ≡ false) → is_nil (under es (number (pos (suc b)))) ≡ true → k ≤ b → b ≤ k + more → seek more es k ≡ b
found zero es k b f e l u = omega (arith, l, u)
found (suc m) es k b f e l u =
    elim (cases_eq k b) [
      | inl is ↦
          ap (λ c. cond c k (seek m es (suc k))) (subst (λ n. is_nil (under es (number (pos (suc n)))) ≡ true) (sym is) e) ∙ is
      | inr other ↦
          let less : k < b = omega (arith, l, other) in
          ap (λ c. cond c k (seek m es (suc k))) (f k less) ∙ found m es (suc k) b f e (omega (arith, less)) (omega (arith, u))
    ]

-- a number up to which each has a value, and behind which there is nil, is the border
pub is_border : (es : Entries) (b : ℕ) → IsFilled es b → is_nil (item_behind es b) ≡ true → border_of es ≡ b
unfolding value_in border_of
is_border es b f e = found (length es) es 0 b f e (omega arith) (omega (arith, as_many es b f))

abbrev Sought : ℕ → Entries → ℕ → ℕ → Type 0
Sought more es k b = ((j : ℕ) → j < b → is_nil (under es (number (pos (suc j)))) ≡ false) × ((is_nil (under es (number (pos (suc b)))) ≡ true) ⊎ (b ≡ k + more))

seeks : (more : ℕ) (es : Entries) (k : ℕ) → ((j : ℕ) → j < k → is_nil (under es (number (pos (suc j)))) ≡ false) → Sought more es k (seek more es k)
seeks zero es k f = (f, inr (omega arith))
seeks (suc m) es k f = by (λ full. seeks m es (suc k) full) (is_nil (under es (number (pos (suc k))))) refl
  where
    by : (((j : ℕ) → j < suc k → is_nil (under es (number (pos (suc j)))) ≡ false) → Sought m es (suc k) (seek m es (suc k))) → (c : Bool) → is_nil (under es (number (pos (suc k)))) ≡ c → Sought (suc m) es k (cond c k (seek m es (suc k)))
    by rest true e = (f, inl e)
    by rest false e =
        let then = rest (λ j l. elim (cases_eq j k) [
          | inl is ↦ subst (λ n. is_nil (under es (number (pos (suc n)))) ≡ false) (sym is) e
          | inr other ↦ f j (omega (arith, l, other))
        ]) in
        (then.0, elim then.1 [ inl nil ↦ inl nil | inr end ↦ inr (omega (arith, end)) ])

-- up to the border each whole number has a value, and behind it there is nil
pub border_found : (es : Entries) → IsFilled es (border_of es) × (is_nil (item_behind es (border_of es)) ≡ true)
unfolding value_in border_of
border_found es =
    let b = seek (length es) es 0 in
    let s = seeks (length es) es 0 (λ j l. absurd (omega (arith, l))) in (
      s.0,
      elim s.1 [
        | inl nil ↦ nil
        | inr end ↦ by b end s.0 (is_nil (under es (number (pos (suc b))))) refl
      ],
    )
  where
    by : (b : ℕ) → b ≡ 0 + length es → ((j : ℕ) → j < b → is_nil (under es (number (pos (suc j)))) ≡ false) → (c : Bool) → is_nil (under es (number (pos (suc b)))) ≡ c → is_nil (under es (number (pos (suc b)))) ≡ true
    by b end f true e = e
    by b end f false e =
        let more = few (suc b) es (λ j l. elim (cases_eq j b) [
          | inl is ↦ subst (λ n. is_nil (under es (number (pos (suc n)))) ≡ false) (sym is) e
          | inr other ↦ f j (omega (arith, l, other))
        ]) in
        absurd (omega (arith, more, end))

-- ---- what a write does

abbrev pub put : Entries → Value → Value → Entries
put es key v = pairs.written same is_nil Nil es key v

nil_is : (v : Value) → is_nil v ≡ true → v ≡ Nil
nil_is Nil h = refl
nil_is _ h = absurd (clash h)

-- what was written stands under its key
pub value_put : (es : Entries) (key v : Value) → value_in (put es key v) key ≡ v
unfolding value_in
value_put es key v = written_here same is_nil Nil value_is (λ a. is_value a a refl) nil_is es key v

-- and the border is the old one, but for that key
pub border_put : (es : Entries) (key v : Value) → IsBorderBut (put es key v) key (border_of es)
unfolding value_in
border_put es key v =
    record {
      below = λ k l h. ap is_nil (written_else same is_nil Nil value_is (λ a. is_value a a refl) nil_is es key v (number (pos (suc k))) h) ∙ (border_found es).0 k l;
      behind = λ h. ap is_nil (written_else same is_nil Nil value_is (λ a. is_value a a refl) nil_is es key v (number (pos (suc (border_of es)))) h) ∙ (border_found es).1;
    }

-- The border stays, where the key's own number does not stand against it.
pub stays : (es : Entries) (key : Value) (b : ℕ) → IsBorderBut es key b → ((k : ℕ) → k < b → number (pos (suc k)) ≡ key → is_nil (value_in es key) ≡ false) → (number (pos (suc b)) ≡ key → is_nil (value_in es key) ≡ true) → border_of es ≡ b
stays es key b but below behind =
    is_border es b
    (λ k l. by_below k l (same (number (pos (suc k))) key) refl)
    (by_behind (same (number (pos (suc b))) key) refl)
  where
    by_below : (k : ℕ) → k < b → (c : Bool) → same (number (pos (suc k))) key ≡ c → is_nil (item_behind es k) ≡ false
    by_below k l true s =
        let is = value_is (number (pos (suc k))) key s in
        subst (λ q. is_nil (value_in es q) ≡ false) (sym is) (below k l is)
    by_below k l false s = but.below k l s

    by_behind : (c : Bool) → same (number (pos (suc b))) key ≡ c → is_nil (item_behind es b) ≡ true
    by_behind true s =
        let is = value_is (number (pos (suc b))) key s in
        subst (λ q. is_nil (value_in es q) ≡ true) (sym is) (behind is)
    by_behind false s = but.behind s

-- A hole below the border is the new border.
pub falls : (es : Entries) (key : Value) (b n : ℕ) → IsBorderBut es key b → number (pos (suc n)) ≡ key → n < b → is_nil (value_in es key) ≡ true → border_of es ≡ n
falls es key b n but is l nil =
    is_border es n
    (λ k m. but.below k (omega (arith, l, m)) (subst (λ q. same (number (pos (suc k))) q ≡ false) is (apart (suc k) (suc n) (λ e. absurd (omega (arith, e, m))))))
    (subst (λ q. is_nil (value_in es q) ≡ true) (sym is) nil)

-- A value behind the border moves it on.
pub rises : (es : Entries) (key : Value) (b : ℕ) → IsBorderBut es key b → number (pos (suc b)) ≡ key → is_nil (value_in es key) ≡ false → IsFilled es (suc b)
rises es key b but is full k l =
    elim (cases_eq k b) [
      | inl equal ↦ subst (λ n. is_nil (value_in es (number (pos (suc n)))) ≡ false) (sym equal) (subst (λ q. is_nil (value_in es q) ≡ false) (sym is) full)
      | inr other ↦
          but.below k (omega (arith, l, other)) (subst (λ q. same (number (pos (suc k))) q ≡ false) is (apart (suc k) (suc b) (λ e. absurd (omega (arith, e, other)))))
    ]

-- of a list that is full up to its end, the border is its length
pub full : (es : Entries) (b : ℕ) → IsFilled es b → length es ≤ b → border_of es ≡ b
full es b f l = is_border es b f (by (is_nil (item_behind es b)) refl)
  where
    by : (c : Bool) → is_nil (item_behind es b) ≡ c → is_nil (item_behind es b) ≡ true
    by true e = e
    by false e =
        let more = as_many es (suc b) (λ j m. elim (cases_eq j b) [
          | inl is ↦ subst (λ n. is_nil (item_behind es n) ≡ false) (sym is) e
          | inr other ↦ f j (omega (arith, m, other))
        ]) in
        absurd (omega (arith, more, l))
