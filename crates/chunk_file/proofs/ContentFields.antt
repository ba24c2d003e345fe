-- The reader of what stands behind the version.
use Rattle.std.proofs.Common.{ℕ, List, [], ◌∷◌, ◌++◌, refl, sym, ◌∙◌, ap, subst}
use Rattle.std.proofs.lemmas.List.{append-nil, append_assoc}
use Rattle.std.specs.List.{AllByRecursion}
use Rattle.op_words.specs.Chunks.{ChunkOf, ProtoOf}
use Rattle.chunk_file.specs.Laws.{AreBytes}
use Rattle.chunk_file.specs.Spelling.{HasBitsIn, HasCountsIn, HasCounts, IsSized, IsCount, number, text, counted, proto}
use Rattle.chunk_file.specs.Reading.{read_text, read_proto, read_contents}
use Rattle.chunk_file.proofs.Readers.{IsReader, IsNothing, Then, converted, only_reads, then_reads}
use Rattle.chunk_file.proofs.NumberFields.{IsNumberOf, number_reads}
use Rattle.chunk_file.proofs.ListFields.{Spelled, MayCount, counted_reads, IsText, text_reads}
use Rattle.chunk_file.proofs.ChunkFields.{MayProto, proto_reads}

-- ---- two things of each

module _ {A : Type 0} (P Q R : A → Type 0) where
  all_first : ((a : A) → P a → Q a) → (xs : List A) → AllByRecursion P xs → AllByRecursion Q xs
  all_first f [] h = tt
  all_first f (x ∷ xs) h = (f x h.0, all_first f xs h.1)

  all_both : ((a : A) → Q a → R a → P a) → (xs : List A) → AllByRecursion Q xs → AllByRecursion R xs → AllByRecursion P xs
  all_both f [] h k = tt
  all_both f (x ∷ xs) h k = (f x h.0 k.0, all_both f xs h.1 k.1)

-- ---- the contents

abbrev pub spelled_contents : ChunkOf → List ℕ
spelled_contents c = counted text c.strings ++ counted proto c.protos ++ number c.main

pub record MayChunk (c : ChunkOf) : Type 0 where
  pub sized : IsSized c
  pub counts : HasCounts c

abbrev of_parts : (strings : List (List ℕ)) → (protos : List ProtoOf) → (main : ℕ) → ChunkOf
of_parts strings protos main = record { strings = strings; protos = protos; main = main }

abbrev Main : List (List ℕ) → List ProtoOf → ChunkOf → List ℕ → Type 0
Main strings protos = Then IsNumberOf (λ main. IsNothing (of_parts strings protos main))

abbrev Protos : List (List ℕ) → ChunkOf → List ℕ → Type 0
Protos strings = Then (Spelled (MayCount read_proto MayProto proto) (counted proto)) (Main strings)

abbrev Contents : ChunkOf → List ℕ → Type 0
Contents = Then (Spelled (MayCount read_text IsText text) (counted text)) Protos

parts_read : IsReader read_contents Contents
parts_read =
    then_reads _ _ _ _ (counted_reads read_text IsText text text_reads) (λ strings.
    then_reads _ _ _ _ (counted_reads read_proto MayProto proto proto_reads) (λ protos.
    then_reads _ _ _ _ number_reads (λ main. only_reads (of_parts strings protos main))))

contents_to : (c : ChunkOf) (bytes : List ℕ) → Contents c bytes → Spelled MayChunk spelled_contents c bytes
contents_to c bytes t =
    let t2 = t.then in
    let t3 = t2.then in
    subst (λ c. Spelled MayChunk spelled_contents c bytes) (sym t3.then.value)
    (record {
      may = record {
        sized = record {
          strings = all_first IsText AreBytes AreBytes (λ s h. h.are) t.first t.is.may.may;
          protos = all_first MayProto HasBitsIn HasBitsIn (λ p h. h.bits) t2.first t2.is.may.may;
          main = t3.is.small;
        };
        counts = record {
          strings = t.is.may.few;
          lengths = all_first IsText (λ s. IsCount s) (λ s. IsCount s) (λ s h. h.few) t.first t.is.may.may;
          protos = t2.is.may.few;
          counts = all_first MayProto HasCountsIn HasCountsIn (λ p h. h.counts) t2.first t2.is.may.may;
        };
      };
      spelled = t.joined ∙ ap (λ f. f ++ t.back) t.is.spelled
          ∙ ap (λ b. counted text t.first ++ b)
          (t2.joined ∙ ap (λ f. f ++ t2.back) t2.is.spelled
          ∙ ap (λ b. counted proto t2.first ++ b) (t3.joined ∙ ap (λ f. f ++ t3.back) t3.is.spelled ∙ ap (λ b. number t3.first ++ b) t3.then.none ∙ append-nil (number t3.first)))
          ∙ sym (append_assoc (counted text t.first) (counted proto t2.first) (number t3.first));
    })

contents_from : (c : ChunkOf) (bytes : List ℕ) → Spelled MayChunk spelled_contents c bytes → Contents c bytes
contents_from c bytes is =
    record {
      first = c.strings;
      front = counted text c.strings;
      back = counted proto c.protos ++ number c.main;
      is = record {
        may = record {
          few = is.may.counts.strings;
          may = all_both IsText (λ s. IsCount s) AreBytes (λ s h k. record { few = h; are = k }) c.strings is.may.counts.lengths is.may.sized.strings;
        };
        spelled = refl;
      };
      then = record {
        first = c.protos;
        front = counted proto c.protos;
        back = number c.main;
        is = record {
          may = record {
            few = is.may.counts.protos;
            may = all_both MayProto HasBitsIn HasCountsIn (λ p h k. record { bits = h; counts = k }) c.protos is.may.sized.protos is.may.counts.counts;
          };
          spelled = refl;
        };
        then = record {
          first = c.main;
          front = number c.main;
          back = [];
          is = record { small = is.may.sized.main; spelled = refl };
          then = record { value = refl; none = refl };
          joined = sym (append-nil (number c.main));
        };
        joined = refl;
      };
      joined = is.spelled ∙ append_assoc (counted text c.strings) (counted proto c.protos) (number c.main);
    }

pub contents_reads : IsReader read_contents (Spelled MayChunk spelled_contents)
contents_reads = converted read_contents Contents (Spelled MayChunk spelled_contents) contents_to contents_from parts_read
