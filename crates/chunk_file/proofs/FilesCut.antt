-- Files that are cut off.
use Rattle.std.proofs.Common.{◌≡◌, ◌≢◌, ℕ, Bool, true, false, nat_eq, List, [], ◌∷◌, ◌++◌, length, refl, sym, ◌∙◌, ap, subst, if◌then◌else◌}
use Rattle.std.proofs.lemmas.Bool.{eqb-true, eq-eqb}
use Rattle.std.proofs.lemmas.List.{append-nil, append_assoc}
use Rattle.op_words.specs.Chunks.{ChunkOf}
use Rattle.chunk_file.specs.Laws.{AreBytes, BeginsChunk, ReadsBeginnings, HasOneChunk, NoPrefix}
use Rattle.chunk_file.specs.Spelling.{spelling, magic, version}
use Rattle.chunk_file.specs.Reading.{Found, Read, Ends, Wrong, IsChunk, Truncated, BadMagic, BadVersion, read_contents, whole_file, contents, read_version, read_magic, read_file, place}
use Rattle.chunk_file.proofs.Readers.{IsWrong, not_empty}
use Rattle.chunk_file.proofs.ContentFields.{MayChunk, spelled_contents, contents_reads}
use Rattle.chunk_file.proofs.FilesRead.{body, as_spelled, body_bytes, spelled_read}

-- ---- where bytes are cut off

-- cut off in the magic, or behind it
data CutMagic (file ms bs : List ℕ) (at : ℕ) : Type 0 where
  inside : (more : List ℕ) → more ≢ [] → ms ≡ bs ++ more → CutMagic file ms bs at
  later : (rest : List ℕ) → bs ≡ ms ++ rest → read_version file rest ≡ Truncated at → CutMagic file ms bs at

magic_cut : (file ms bs : List ℕ) (at : ℕ) → read_magic file ms bs ≡ Truncated at → CutMagic file ms bs at
magic_cut file [] bs at e = later bs refl e
magic_cut file (m ∷ ms) [] at e = inside (m ∷ ms) (λ h. absurd (cc)) refl
magic_cut file (m ∷ ms) (b ∷ bs) at e = by (magic_cut file ms bs at) (nat_eq m b) refl e
  where
    further : m ≡ b → CutMagic file ms bs at → CutMagic file (m ∷ ms) (b ∷ bs) at
    further same (inside more some split) = inside more some (ap (λ x. m ∷ x) split ∙ ap (λ x. x ∷ (bs ++ more)) same)
    further same (later rest split e) = later rest (ap (λ x. x ∷ bs) (sym same) ∙ ap (λ x. m ∷ x) split) e

    by : (read_magic file ms bs ≡ Truncated at → CutMagic file ms bs at) → (t : Bool) → nat_eq m b ≡ t → (if t then read_magic file ms bs else BadMagic (place file (b ∷ bs))) ≡ Truncated at → CutMagic file (m ∷ ms) (b ∷ bs) at
    by next true h e = further (eqb-true m b h) (next e)
    by next false h e = absurd (cc)

-- a chunk whose bytes go on where these end
goes_on : (bytes : List ℕ) (c : ChunkOf) (more : List ℕ) → MayChunk c → more ≢ [] → spelling c ≡ bytes ++ more → BeginsChunk bytes
goes_on bytes c more m some e = record { chunk = c; counts = m.counts; sized = m.sized; more = more; some = some; begins = e }

contents_cut : (file rest : List ℕ) (at : ℕ) → AreBytes rest → file ≡ magic ++ (version ∷ rest) → contents file (read_contents rest) ≡ Truncated at → BeginsChunk file
contents_cut file rest at are split e = by (read_contents rest) refl e
  where
    whole_never : (c : ChunkOf) (left : List ℕ) → whole_file file c left ≡ Truncated at → ⊥
    whole_never c [] e = absurd (cc)
    whole_never c (b ∷ bs) e = absurd (cc)

    by : (f : Found ChunkOf) → read_contents rest ≡ f → contents file f ≡ Truncated at → BeginsChunk file
    by (Read c left) h e = absurd (whole_never c left e)
    by (Wrong from) h e = absurd (cc)
    by Ends h e =
        let r = contents_reads.ends rest are h in
        goes_on file r.value r.more r.is.may r.some
        (ap (λ x. magic ++ (version ∷ x)) (sym r.is.spelled ∙ r.begins) ∙ ap (λ x. x ++ r.more) (sym split))

version_cut : (file rest : List ℕ) (at : ℕ) → AreBytes file → file ≡ magic ++ rest → read_version file rest ≡ Truncated at → BeginsChunk file
version_cut file [] at are split e =
    let r = contents_reads.example in
    goes_on file r.value (body r.value) r.is.may (λ h. absurd (cc)) (ap (λ x. x ++ body r.value) (sym split))
version_cut file (b ∷ bs) at are split e = by (nat_eq b version) refl e
  where
    by : (t : Bool) → nat_eq b version ≡ t → (if t then contents file (read_contents bs) else BadVersion (place file (b ∷ bs))) ≡ Truncated at → BeginsChunk file
    by true h e =
        let split' : file ≡ magic ++ (version ∷ bs) = split ∙ ap (λ x. magic ++ (x ∷ bs)) (eqb-true b version h) in
        contents_cut file bs at (body_bytes file bs are split') split' e
    by false h e = absurd (cc)

cut_begins : (bytes : List ℕ) (at : ℕ) → AreBytes bytes → CutMagic bytes magic bytes at → BeginsChunk bytes
cut_begins bytes at are (inside more some split) =
    let r = contents_reads.example in
    goes_on bytes r.value (more ++ body r.value) r.is.may (not_empty more (body r.value) some)
    (ap (λ x. x ++ body r.value) split ∙ append_assoc bytes more (body r.value))
cut_begins bytes at are (later rest split e) = version_cut bytes rest at are split e

pub truncated_begins : (bytes : List ℕ) (at : ℕ) → AreBytes bytes → read_file bytes ≡ Truncated at → BeginsChunk bytes
unfolding read_file
truncated_begins bytes at are e = cut_begins bytes at are (magic_cut bytes magic bytes at e)

-- ---- bytes that begin a chunk's are cut off

-- of two ways in which bytes are joined one goes further
data Joined (xs ys bs more : List ℕ) : Type 0 where
  shorter : (left : List ℕ) → left ≢ [] → xs ≡ bs ++ left → Joined xs ys bs more
  further : (rest : List ℕ) → bs ≡ xs ++ rest → ys ≡ rest ++ more → Joined xs ys bs more

joined : (xs ys bs more : List ℕ) → xs ++ ys ≡ bs ++ more → Joined xs ys bs more
joined [] ys bs more e = further bs refl e
joined (x ∷ xs) ys [] more e = shorter (x ∷ xs) (λ h. absurd (cc)) refl
joined (x ∷ xs) ys (b ∷ bs) more e =
    let same : x ≡ b = cc in
    let left : xs ++ ys ≡ bs ++ more = cc in
    by same (joined xs ys bs more left)
  where
    by : x ≡ b → Joined xs ys bs more → Joined (x ∷ xs) ys (b ∷ bs) more
    by same (shorter left some e) = shorter left some (ap (λ y. y ∷ xs) same ∙ ap (λ y. b ∷ y) e)
    by same (further rest e f) = further rest (ap (λ y. y ∷ bs) (sym same) ∙ ap (λ y. x ∷ y) e) f

magic_short : (file ms bs left : List ℕ) → left ≢ [] → ms ≡ bs ++ left → read_magic file ms bs ≡ Truncated (length file)
magic_short file [] [] left some e = absurd (some (sym e))
magic_short file [] (b ∷ bs) left some e = absurd (cc)
magic_short file (m ∷ ms) [] left some e = refl
magic_short file (m ∷ ms) (b ∷ bs) left some e =
    let same : m ≡ b = cc in
    let inner : ms ≡ bs ++ left = cc in
    ap (λ t. if t then read_magic file ms bs else BadMagic (place file (b ∷ bs))) (eq-eqb m b same) ∙ magic_short file ms bs left some inner

magic_past : (file ms rest : List ℕ) → read_magic file ms (ms ++ rest) ≡ read_version file rest
magic_past file [] rest = refl
magic_past file (m ∷ ms) rest =
    ap (λ b. if b then read_magic file ms (ms ++ rest) else BadMagic (place file (m ∷ (ms ++ rest)))) (eq-eqb m m refl) ∙ magic_past file ms rest

read_is : (f g : Found ChunkOf) → f ≡ g → IsWrong f → IsWrong g
read_is f g e w = subst IsWrong e w

contents_short : (file rest more : List ℕ) (c : ChunkOf) → MayChunk c → more ≢ [] → spelled_contents c ≡ rest ++ more → contents file (read_contents rest) ≡ Truncated (length file)
contents_short file rest more c m some e = by (read_contents rest) refl
  where
    are : AreBytes (rest ++ more)
    are = subst AreBytes e (contents_reads.bytes c (spelled_contents c) (as_spelled c m))

    whole : read_contents (rest ++ more) ≡ Read c []
    whole = ap read_contents (sym e ∙ sym (append-nil (spelled_contents c))) ∙ contents_reads.forward c (spelled_contents c) [] (as_spelled c m)

    in_front : (xs ys : List ℕ) → AreBytes (xs ++ ys) → AreBytes xs
    in_front [] ys h = tt
    in_front (x ∷ xs) ys h = (h.0, in_front xs ys h.1)

    none_left : (left : List ℕ) → left ++ more ≡ [] → more ≡ []
    none_left [] h = h
    none_left (x ∷ xs) h = absurd (cc)

    by : (f : Found ChunkOf) → read_contents rest ≡ f → contents file (read_contents rest) ≡ Truncated (length file)
    by Ends h = ap (contents file) h
    by (Wrong from) h = absurd (read_is (read_contents (rest ++ more)) (Read c []) whole (contents_reads.wrong rest more are (subst IsWrong (sym h) tt)))
    by (Read d left) h =
        let r = contents_reads.back rest (in_front rest more are) d left h in
        let again : read_contents (rest ++ more) ≡ Read d (left ++ more) = ap read_contents (ap (λ x. x ++ more) r.bytes ∙ append_assoc r.front left more) ∙ contents_reads.forward d r.front (left ++ more) r.is in
        let both : Read d (left ++ more) ≡ Read c [] = sym again ∙ whole in
        let none : left ++ more ≡ [] = cc in
        absurd (some (none_left left none))

body_short : (file rest more : List ℕ) (c : ChunkOf) → MayChunk c → more ≢ [] → body c ≡ rest ++ more → read_version file rest ≡ Truncated (length file)
body_short file [] more c m some e = refl
body_short file (b ∷ bs) more c m some e =
    let same : version ≡ b = cc in
    let inner : spelled_contents c ≡ bs ++ more = cc in
    ap (λ t. if t then contents file (read_contents bs) else BadVersion (place file (b ∷ bs))) (eq-eqb b version (sym same)) ∙ contents_short file bs more c m some inner

file_short : (bytes : List ℕ) (b : BeginsChunk bytes) → Joined magic (body b.chunk) bytes b.more → read_magic bytes magic bytes ≡ Truncated (length bytes)
file_short bytes b (shorter left some e) = magic_short bytes magic bytes left some e
file_short bytes b (further rest e f) =
    ap (λ bs. read_magic bytes magic bs) e ∙ magic_past bytes magic rest
    ∙ body_short bytes rest b.more b.chunk (record { sized = b.sized; counts = b.counts }) b.some f

pub begins_truncated : (bytes : List ℕ) → BeginsChunk bytes → read_file bytes ≡ Truncated (length bytes)
unfolding read_file
begins_truncated bytes b = file_short bytes b (joined magic (body b.chunk) bytes b.more b.begins)

pub beginnings : ReadsBeginnings
beginnings bytes are = (truncated_begins bytes (length bytes) are, begins_truncated bytes)

-- ---- one chunk, and no other spelling behind it

pub one_chunk : HasOneChunk
one_chunk bytes c d s t =
    let both : IsChunk c ≡ IsChunk d = sym (spelled_read bytes c s) ∙ spelled_read bytes d t in
    cc

pub no_prefix : NoPrefix
no_prefix bytes c s b =
    let both : IsChunk c ≡ Truncated (length bytes) = sym (spelled_read bytes c s) ∙ begins_truncated bytes b in
    absurd (cc)
