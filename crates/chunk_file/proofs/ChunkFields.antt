-- Readers of prototypes and of chunks.
use Rattle.std.proofs.Common.{◌≡◌, ℕ, Bool, List, [], ◌∷◌, ◌++◌, refl, sym, ◌∙◌, ap, subst}
use Rattle.std.proofs.lemmas.List.{append-nil, append_assoc}
use Rattle.op_words.specs.Chunks.{ProtoOf}
use Rattle.op_words.specs.declared.chunk.Const.{Const}
use Rattle.chunk_file.specs.Spelling.{IsNumber, HasBits, HasBitsIn, HasCountsIn, number, word, constant, flag, counted, proto}
use Rattle.chunk_file.specs.Reading.{read_number, read_word, read_constant, read_counted, read_proto}
use Rattle.chunk_file.proofs.Readers.{IsReader, IsNothing, Then, converted, only_reads, then_reads}
use Rattle.chunk_file.proofs.Fields.{IsOneByte, byte_reads, IsFlag, flag_reads}
use Rattle.chunk_file.proofs.NumberFields.{IsNumberOf, number_reads}
use Rattle.chunk_file.proofs.WordFields.{IsWord, word_reads}
use Rattle.chunk_file.proofs.ConstantFields.{IsConstant, constant_reads}
use Rattle.chunk_file.proofs.ListFields.{Spelled, MayCount, counted_reads}

-- ---- the lists in a prototype

words_read : IsReader (read_counted read_word) (Spelled (MayCount read_word IsNumber word) (counted word))
words_read =
    counted_reads read_word IsNumber word
    (converted read_word IsWord (Spelled IsNumber word) (λ w bytes is. record { may = is.small; spelled = is.spelled }) (λ w bytes is. record { small = is.may; spelled = is.spelled }) word_reads)

numbers_read : IsReader (read_counted read_number) (Spelled (MayCount read_number IsNumber number) (counted number))
numbers_read =
    counted_reads read_number IsNumber number
    (converted read_number IsNumberOf (Spelled IsNumber number) (λ n bytes is. record { may = is.small; spelled = is.spelled }) (λ n bytes is. record { small = is.may; spelled = is.spelled }) number_reads)

constants_read : IsReader (read_counted read_constant) (Spelled (MayCount read_constant HasBits constant) (counted constant))
constants_read =
    counted_reads read_constant HasBits constant
    (converted read_constant IsConstant (Spelled HasBits constant) (λ k bytes is. record { may = is.bits; spelled = is.spelled }) (λ k bytes is. record { bits = is.may; spelled = is.spelled }) constant_reads)

-- ---- a prototype

abbrev of_parts : (registers params upvalues : ℕ) → (vararg : Bool) → (code : List ℕ) → (consts : List Const) → (children : List ℕ) → ProtoOf
of_parts registers params upvalues vararg code consts children =
    record { registers = registers; params = params; upvalues = upvalues; vararg = vararg; code = code; consts = consts; children = children }

abbrev Children : (r p u : ℕ) → Bool → List ℕ → List Const → ProtoOf → List ℕ → Type 0
Children r p u v code consts = Then (Spelled (MayCount read_number IsNumber number) (counted number)) (λ children. IsNothing (of_parts r p u v code consts children))

abbrev Consts : (r p u : ℕ) → Bool → List ℕ → ProtoOf → List ℕ → Type 0
Consts r p u v code = Then (Spelled (MayCount read_constant HasBits constant) (counted constant)) (Children r p u v code)

abbrev Code : (r p u : ℕ) → Bool → ProtoOf → List ℕ → Type 0
Code r p u v = Then (Spelled (MayCount read_word IsNumber word) (counted word)) (Consts r p u v)

abbrev Flag : (r p u : ℕ) → ProtoOf → List ℕ → Type 0
Flag r p u = Then IsFlag (Code r p u)

abbrev Upvalues : (r p : ℕ) → ProtoOf → List ℕ → Type 0
Upvalues r p = Then IsOneByte (Flag r p)

abbrev Params : (r : ℕ) → ProtoOf → List ℕ → Type 0
Params r = Then IsOneByte (Upvalues r)

abbrev Parts : ProtoOf → List ℕ → Type 0
Parts = Then IsOneByte Params

parts_read : IsReader read_proto Parts
parts_read =
    then_reads _ _ _ _ byte_reads (λ r.
    then_reads _ _ _ _ byte_reads (λ p.
    then_reads _ _ _ _ byte_reads (λ u.
    then_reads _ _ _ _ flag_reads (λ v.
    then_reads _ _ _ _ words_read (λ code.
    then_reads _ _ _ _ constants_read (λ consts.
    then_reads _ _ _ _ numbers_read (λ children. only_reads (of_parts r p u v code consts children))))))))

pub record MayProto (p : ProtoOf) : Type 0 where
  pub bits : HasBitsIn p
  pub counts : HasCountsIn p

spelled_parts : (a b c d : ℕ) (code consts children : List ℕ) → a ∷ b ∷ c ∷ d ∷ (code ++ (consts ++ (children ++ []))) ≡ a ∷ b ∷ c ∷ d ∷ code ++ consts ++ children
spelled_parts a b c d code consts children =
    ap (λ x. a ∷ b ∷ c ∷ d ∷ x) (ap (λ x. code ++ (consts ++ x)) (append-nil children) ∙ sym (append_assoc code consts children))

parts_to : (p : ProtoOf) (bytes : List ℕ) → Parts p bytes → Spelled MayProto proto p bytes
parts_to p bytes t =
    let t2 = t.then in
    let t3 = t2.then in
    let t4 = t3.then in
    let t5 = t4.then in
    let t6 = t5.then in
    let t7 = t6.then in
    let made = of_parts t.first t2.first t3.first t4.first t5.first t6.first t7.first in
    subst (λ p. Spelled MayProto proto p bytes) (sym t7.then.value)
    (record {
      may = record {
        bits = record { registers = t.is.byte; params = t2.is.byte; upvalues = t3.is.byte; code = t5.is.may.may; consts = t6.is.may.may; children = t7.is.may.may };
        counts = record { code = t5.is.may.few; consts = t6.is.may.few; children = t7.is.may.few };
      };
      spelled = t.joined ∙ ap (λ f. f ++ t.back) t.is.one
          ∙ ap (λ b. t.first ∷ b) (t2.joined ∙ ap (λ f. f ++ t2.back) t2.is.one)
          ∙ ap (λ b. t.first ∷ t2.first ∷ b) (t3.joined ∙ ap (λ f. f ++ t3.back) t3.is.one)
          ∙ ap (λ b. t.first ∷ t2.first ∷ t3.first ∷ b) (t4.joined ∙ ap (λ f. f ++ t4.back) t4.is)
          ∙ ap (λ b. t.first ∷ t2.first ∷ t3.first ∷ flag t4.first ∷ b)
          (t5.joined ∙ ap (λ f. f ++ t5.back) t5.is.spelled
          ∙ ap (λ b. counted word t5.first ++ b)
          (t6.joined ∙ ap (λ f. f ++ t6.back) t6.is.spelled
          ∙ ap (λ b. counted constant t6.first ++ b) (t7.joined ∙ ap (λ f. f ++ t7.back) t7.is.spelled ∙ ap (λ b. counted number t7.first ++ b) t7.then.none)))
          ∙ spelled_parts t.first t2.first t3.first (flag t4.first) (counted word t5.first) (counted constant t6.first) (counted number t7.first);
    })

parts_from : (p : ProtoOf) (bytes : List ℕ) → Spelled MayProto proto p bytes → Parts p bytes
parts_from p bytes is =
    let children = counted number p.children in
    let consts = counted constant p.consts in
    let code = counted word p.code in
    record {
      first = p.registers;
      front = p.registers ∷ [];
      back = p.params ∷ p.upvalues ∷ flag p.vararg ∷ (code ++ (consts ++ (children ++ [])));
      is = record { byte = is.may.bits.registers; one = refl };
      then = record {
        first = p.params;
        front = p.params ∷ [];
        back = p.upvalues ∷ flag p.vararg ∷ (code ++ (consts ++ (children ++ [])));
        is = record { byte = is.may.bits.params; one = refl };
        then = record {
          first = p.upvalues;
          front = p.upvalues ∷ [];
          back = flag p.vararg ∷ (code ++ (consts ++ (children ++ [])));
          is = record { byte = is.may.bits.upvalues; one = refl };
          then = record {
            first = p.vararg;
            front = flag p.vararg ∷ [];
            back = code ++ (consts ++ (children ++ []));
            is = refl;
            then = record {
              first = p.code;
              front = code;
              back = consts ++ (children ++ []);
              is = record { may = record { few = is.may.counts.code; may = is.may.bits.code }; spelled = refl };
              then = record {
                first = p.consts;
                front = consts;
                back = children ++ [];
                is = record { may = record { few = is.may.counts.consts; may = is.may.bits.consts }; spelled = refl };
                then = record {
                  first = p.children;
                  front = children;
                  back = [];
                  is = record { may = record { few = is.may.counts.children; may = is.may.bits.children }; spelled = refl };
                  then = record { value = refl; none = refl };
                  joined = refl;
                };
                joined = refl;
              };
              joined = refl;
            };
            joined = refl;
          };
          joined = refl;
        };
        joined = refl;
      };
      joined = is.spelled ∙ sym (spelled_parts p.registers p.params p.upvalues (flag p.vararg) code consts children);
    }

pub proto_reads : IsReader read_proto (Spelled MayProto proto)
proto_reads = converted read_proto Parts (Spelled MayProto proto) parts_to parts_from parts_read
