-- Readers, and what they read: what is spelled is read, what is read is spelled, and where the bytes end a spelling goes on.
use Rattle.std.proofs.Common.{◌≡◌, ◌≢◌, ℕ, zero, suc, List, [], ◌∷◌, ◌++◌, refl, sym, ◌∙◌, ap, subst}
use Rattle.std.proofs.lemmas.List.{append_assoc}
use Rattle.chunk_file.specs.Laws.{AreBytes}
use Rattle.chunk_file.specs.Reading.{Found, Read, Ends, Wrong, behind, read_times}

-- the bytes that a value was read from, which stand in front of the rest
pub record IsReadFrom {A : Type 0} (Is : A → List ℕ → Type 0) (bs : List ℕ) (a : A) (rest : List ℕ) : Type 0 where
  pub front : List ℕ
  pub is : Is a front
  pub bytes : bs ≡ front ++ rest

-- the bytes begin a value's, and end before it does
pub record Begins {A : Type 0} (Is : A → List ℕ → Type 0) (bs : List ℕ) : Type 0 where
  pub value : A
  pub bytes : List ℕ
  pub is : Is value bytes
  pub more : List ℕ
  pub some : more ≢ []
  pub begins : bytes ≡ bs ++ more

-- some value with its bytes
pub record Example {A : Type 0} (Is : A → List ℕ → Type 0) : Type 0 where
  pub value : A
  pub bytes : List ℕ
  pub is : Is value bytes

-- a wrong field was met
abbrev pub IsWrong : {A : Type 0} → Found A → Type 0
IsWrong (Wrong from) = Unit {0}
IsWrong f = ⊥

pub record IsReader {A : Type 0} (read : List ℕ → Found A) (Is : A → List ℕ → Type 0) : Type 0 where
  pub forward : (a : A) (front rest : List ℕ) → Is a front → read (front ++ rest) ≡ Read a rest
  pub back : (bs : List ℕ) → AreBytes bs → (a : A) (rest : List ℕ) → read bs ≡ Read a rest → IsReadFrom Is bs a rest
  pub ends : (bs : List ℕ) → AreBytes bs → read bs ≡ Ends → Begins Is bs
  pub wrong : (bs more : List ℕ) → AreBytes (bs ++ more) → IsWrong (read bs) → IsWrong (read (bs ++ more))
  pub bytes : (a : A) (front : List ℕ) → Is a front → AreBytes front
  pub example : Example Is

-- the same of what is spelled alike
pub converted : {A : Type 0} (read : List ℕ → Found A) (Is Is' : A → List ℕ → Type 0) → ((a : A) (bytes : List ℕ) → Is a bytes → Is' a bytes) → ((a : A) (bytes : List ℕ) → Is' a bytes → Is a bytes) → IsReader read Is → IsReader read Is'
converted read Is Is' to from reads =
    record {
      forward = λ a front rest is. reads.forward a front rest (from a front is);
      back = λ bs are a rest e. let r = reads.back bs are a rest e in record { front = r.front; is = to a r.front r.is; bytes = r.bytes };
      ends = λ bs are e. let r = reads.ends bs are e in record {
        value = r.value;
        bytes = r.bytes;
        is = to r.value r.bytes r.is;
        more = r.more;
        some = r.some;
        begins = r.begins;
      };
      wrong = reads.wrong;
      bytes = λ a front is. reads.bytes a front (from a front is);
      example = let r = reads.example in record { value = r.value; bytes = r.bytes; is = to r.value r.bytes r.is };
    }

-- ---- bytes

pub bytes_behind : (front rest : List ℕ) → AreBytes (front ++ rest) → AreBytes rest
bytes_behind [] rest h = h
bytes_behind (b ∷ bs) rest h = bytes_behind bs rest h.1

pub bytes_in_front : (front rest : List ℕ) → AreBytes (front ++ rest) → AreBytes front
bytes_in_front [] rest h = tt
bytes_in_front (b ∷ bs) rest h = (h.0, bytes_in_front bs rest h.1)

pub bytes_joined : (xs ys : List ℕ) → AreBytes xs → AreBytes ys → AreBytes (xs ++ ys)
bytes_joined [] ys h k = k
bytes_joined (x ∷ xs) ys h k = (h.0, bytes_joined xs ys h.1 k)

pub not_empty : (xs ys : List ℕ) → xs ≢ [] → xs ++ ys ≢ []
not_empty [] ys some e = some refl
not_empty (x ∷ xs) ys some e = absurd (cc)

-- ---- nothing is read

pub record IsNothing {A : Type 0} (a b : A) (bytes : List ℕ) : Type 0 where
  pub value : b ≡ a
  pub none : bytes ≡ []

abbrev pub only : {A : Type 0} → A → List ℕ → Found A
only a bs = Read a bs

only_inner : {A : Type 0} (a b : A) (bs rest : List ℕ) → only a bs ≡ Read b rest → (b ≡ a) × (bs ≡ rest)
only_inner a b bs rest e = (cc, cc)

pub only_reads : {A : Type 0} (a : A) → IsReader (only a) (IsNothing a)
only_reads a =
    record {
      forward = λ b front rest is. ap (λ f. Read a (f ++ rest)) is.none ∙ ap (λ x. Read x rest) (sym is.value);
      back = λ bs are b rest e. let h = only_inner a b bs rest e in record { front = []; is = record { value = h.0; none = refl }; bytes = h.1 };
      ends = λ bs are e. absurd (cc);
      wrong = λ bs more are w. absurd w;
      bytes = λ b front is. subst AreBytes (sym is.none) tt;
      example = record { value = a; bytes = []; is = record { value = refl; none = refl } };
    }

-- ---- one reader, and then another

pub record Then {A B : Type 0} (IsA : A → List ℕ → Type 0) (IsB : A → B → List ℕ → Type 0) (b : B) (bytes : List ℕ) : Type 0 where
  pub first : A
  pub front : List ℕ
  pub back : List ℕ
  pub is : IsA first front
  pub then : IsB first b back
  pub joined : bytes ≡ front ++ back

module _ {A B : Type 0} (ra : List ℕ → Found A) (k : A → List ℕ → Found B) (IsA : A → List ℕ → Type 0) (IsB : A → B → List ℕ → Type 0) (reads : IsReader ra IsA) (then : (a : A) → IsReader (k a) (IsB a)) where
  abbrev both : List ℕ → Found B
  both bs = behind (ra bs) k

  both_forward : (b : B) (bytes rest : List ℕ) → Then IsA IsB b bytes → both (bytes ++ rest) ≡ Read b rest
  both_forward b bytes rest t =
      ap (λ bs. both (bs ++ rest)) t.joined ∙ ap both (append_assoc t.front t.back rest)
      ∙ ap (λ f. behind f k) (reads.forward t.first t.front (t.back ++ rest) t.is)
      ∙ (then t.first).forward b t.back rest t.then

  back_from : (bs : List ℕ) → AreBytes bs → (b : B) (rest : List ℕ) (f : Found A) → ra bs ≡ f → behind f k ≡ Read b rest → IsReadFrom (Then IsA IsB) bs b rest
  back_from bs are b rest Ends e h = absurd (cc)
  back_from bs are b rest (Wrong from) e h = absurd (cc)
  back_from bs are b rest (Read a middle) e h =
      let first = reads.back bs are a middle e in
      let second = (then a).back middle (bytes_behind first.front middle (subst AreBytes first.bytes are)) b rest h in
      record {
        front = first.front ++ second.front;
        is = record { first = a; front = first.front; back = second.front; is = first.is; then = second.is; joined = refl };
        bytes = first.bytes ∙ ap (λ m. first.front ++ m) second.bytes ∙ sym (append_assoc first.front second.front rest);
      }

  ends_from : (bs : List ℕ) → AreBytes bs → (f : Found A) → ra bs ≡ f → behind f k ≡ Ends → Begins (Then IsA IsB) bs
  ends_from bs are Ends e h =
      let first = reads.ends bs are e in
      let second = (then first.value).example in
      record {
        value = second.value;
        bytes = first.bytes ++ second.bytes;
        is = record { first = first.value; front = first.bytes; back = second.bytes; is = first.is; then = second.is; joined = refl };
        more = first.more ++ second.bytes;
        some = not_empty first.more second.bytes first.some;
        begins = ap (λ bs. bs ++ second.bytes) first.begins ∙ append_assoc bs first.more second.bytes;
      }
  ends_from bs are (Wrong from) e h = absurd (cc)
  ends_from bs are (Read a middle) e h =
      let first = reads.back bs are a middle e in
      let second = (then a).ends middle (bytes_behind first.front middle (subst AreBytes first.bytes are)) h in
      record {
        value = second.value;
        bytes = first.front ++ second.bytes;
        is = record { first = a; front = first.front; back = second.bytes; is = first.is; then = second.is; joined = refl };
        more = second.more;
        some = second.some;
        begins = ap (λ m. first.front ++ m) second.begins ∙ sym (append_assoc first.front middle second.more) ∙ ap (λ bs. bs ++ second.more) (sym first.bytes);
      }

  wrong_from : (bs more : List ℕ) → AreBytes (bs ++ more) → (f : Found A) → ra bs ≡ f → IsWrong (behind f k) → IsWrong (both (bs ++ more))
  wrong_from bs more are Ends e w = absurd w
  wrong_from bs more are (Wrong from) e w = by (ra (bs ++ more)) (reads.wrong bs more are (subst IsWrong (sym e) tt))
    where
      by : (f : Found A) → IsWrong f → IsWrong (behind f k)
      by Ends w = absurd w
      by (Read a rest) w = absurd w
      by (Wrong from) w = tt
  wrong_from bs more are (Read a middle) e w =
      let first = reads.back bs (bytes_in_front bs more are) a middle e in
      let split : bs ++ more ≡ first.front ++ (middle ++ more) = ap (λ x. x ++ more) first.bytes ∙ append_assoc first.front middle more in
      let again : ra (bs ++ more) ≡ Read a (middle ++ more) = ap ra split ∙ reads.forward a first.front (middle ++ more) first.is in
      subst (λ f. IsWrong (behind f k)) (sym again) ((then a).wrong middle more (bytes_behind first.front (middle ++ more) (subst AreBytes split are)) w)

  pub then_reads : IsReader (λ bs. behind (ra bs) k) (Then IsA IsB)
  then_reads =
      record {
        forward = both_forward;
        back = λ bs are b rest e. back_from bs are b rest (ra bs) refl e;
        ends = λ bs are e. ends_from bs are (ra bs) refl e;
        wrong = λ bs more are w. wrong_from bs more are (ra bs) refl w;
        bytes = λ b front t. subst AreBytes (sym t.joined) (bytes_joined t.front t.back (reads.bytes t.first t.front t.is) ((then t.first).bytes b t.back t.then));
        example = let first = reads.example in let second = (then first.value).example in record {
          value = second.value;
          bytes = first.bytes ++ second.bytes;
          is = record { first = first.value; front = first.bytes; back = second.bytes; is = first.is; then = second.is; joined = refl };
        };
      }

-- ---- so many, one after another

abbrev pub Times : {A : Type 0} → (A → List ℕ → Type 0) → (count : ℕ) → List A → List ℕ → Type 0
Times Is zero = IsNothing []
Times Is (suc n) = Then Is (λ a. Then (Times Is n) (λ as'. IsNothing (a ∷ as')))

pub times_reads : {A : Type 0} (read : List ℕ → Found A) (Is : A → List ℕ → Type 0) → IsReader read Is → (count : ℕ) → IsReader (read_times read count) (Times Is count)
times_reads read Is reads zero = only_reads []
times_reads read Is reads (suc n) =
    then_reads read (λ a rest. behind (read_times read n rest) (λ as' rest. Read (a ∷ as') rest)) Is (λ a. Then (Times Is n) (λ as'. IsNothing (a ∷ as'))) reads (λ a. then_reads (read_times read n) (λ as' rest. Read (a ∷ as') rest) (Times Is n) (λ as'. IsNothing (a ∷ as')) (times_reads read Is reads n) (λ as'. only_reads (a ∷ as')))
