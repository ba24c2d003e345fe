-- The test of a chunk's counts says whether they fit.
use Rattle.std.proofs.Common.{◌≡◌, ◌↔◌, Bool, true, IsTrue, List, [], ◌∷◌, length, sym, ◌∙◌, refl}
use Rattle.std.proofs.lemmas.Bool.{and_parts, and_from, ltb-true, lt-ltb}
use Rattle.std.specs.List.{list_all, AllByRecursion}
use Rattle.op_words.specs.Chunks.{ChunkOf, ProtoOf}
use Rattle.chunk_file.specs.Counting.{is_count, has_counts_in, has_counts}
use Rattle.chunk_file.specs.Spelling.{HasCounts, HasCountsIn, IsCount, most_number}

-- a test of all holds exactly where it holds of each
all_hold : {A : Type 0} (test : A → Bool) (P : A → Type 0) → ((x : A) → test x ≡ true → P x) → (xs : List A) → list_all test xs ≡ true → AllByRecursion P xs
all_hold test P each [] h = tt
all_hold test P each (x ∷ xs) h =
    let both = and_parts (test x) (list_all test xs) h in (each x both.0, all_hold test P each xs both.1)

they_hold : {A : Type 0} (test : A → Bool) (P : A → Type 0) → ((x : A) → P x → test x ≡ true) → (xs : List A) → AllByRecursion P xs → list_all test xs ≡ true
they_hold test P each [] h = refl
they_hold test P each (x ∷ xs) h = and_from (test x) (list_all test xs) (each x h.0) (they_hold test P each xs h.1)

fits : {A : Type 0} (xs : List A) → is_count xs ≡ true → IsCount xs
fits xs h = ltb-true (length xs) most_number h

is_fit : {A : Type 0} (xs : List A) → IsCount xs → is_count xs ≡ true
is_fit xs h = lt-ltb (length xs) most_number h

proto_fits : (p : ProtoOf) → has_counts_in p ≡ true → HasCountsIn p
proto_fits p h =
    let code = and_parts (is_count p.code) _ h in
    let rest = and_parts (is_count p.consts) _ code.1 in
    record { code = fits p.code code.0; consts = fits p.consts rest.0; children = fits p.children rest.1 }

proto_is_fit : (p : ProtoOf) → HasCountsIn p → has_counts_in p ≡ true
proto_is_fit p h =
    and_from (is_count p.code) _ (is_fit p.code h.code) (and_from (is_count p.consts) _ (is_fit p.consts h.consts) (is_fit p.children h.children))

chunk_fits : (c : ChunkOf) → has_counts c ≡ true → HasCounts c
chunk_fits c h =
    let strings = and_parts (is_count c.strings) _ h in
    let lengths = and_parts (list_all (λ s. is_count s) c.strings) _ strings.1 in
    let protos = and_parts (is_count c.protos) _ lengths.1 in
    record {
      strings = fits c.strings strings.0;
      lengths = all_hold (λ s. is_count s) (λ s. IsCount s) fits c.strings lengths.0;
      protos = fits c.protos protos.0;
      counts = all_hold has_counts_in HasCountsIn proto_fits c.protos protos.1;
    }

chunk_is_fit : (c : ChunkOf) → HasCounts c → has_counts c ≡ true
chunk_is_fit c h =
    and_from (is_count c.strings) _ (is_fit c.strings h.strings)
    (and_from (list_all (λ s. is_count s) c.strings) _ (they_hold (λ s. is_count s) (λ s. IsCount s) is_fit c.strings h.lengths)
    (and_from (is_count c.protos) _ (is_fit c.protos h.protos) (they_hold has_counts_in HasCountsIn proto_is_fit c.protos h.counts)))

pub counted : (c : ChunkOf) (b : Bool) → b ≡ has_counts c → IsTrue b ↔ HasCounts c
counted c b is = (λ h. chunk_fits c (sym is ∙ h), λ h. is ∙ chunk_is_fit c h)
