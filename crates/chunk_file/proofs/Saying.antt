-- What an answer says of the bytes.
use Rattle.std.proofs.Common.{◌≡◌, ℕ, suc, ◌<◌, List, [], ◌∷◌, length, get_or, Result, Ok, Err, sym, ◌∙◌}
use Rattle.op_words.specs.Chunks.{chunk_of}
use Rattle.op_words.specs.declared.chunk.Chunk.{Chunk}
use Rattle.chunk_file.specs.Answers.{Answers, Says}
use Rattle.chunk_file.specs.Laws.{AreBytes}
use Rattle.chunk_file.specs.Reading.{IsChunk, Truncated, BadMagic, BadVersion, BadField, read_file}
use Rattle.chunk_file.specs.declared.error.ChunkErr.{ChunkErr}
use Rattle.chunk_file.specs.declared.error.ChunkErr.TheVariants as errors
use Rattle.chunk_file.proofs.FilesRead.{spelled_read, spellings, trailings}
use Rattle.chunk_file.proofs.FilesCut.{truncated_begins, begins_truncated}

pub bytes_are : (bs : List ℕ) → ((i : ℕ) → get_or bs i 0 < 256) → AreBytes bs
bytes_are [] h = tt
bytes_are (b ∷ bs) h = (h 0, bytes_are bs (λ i. h (suc i)))

cut_at : (bytes : List ℕ) (at : ℕ) → AreBytes bytes → read_file bytes ≡ Truncated at → at ≡ length bytes
cut_at bytes at are e =
    let both : Truncated at ≡ Truncated (length bytes) = sym e ∙ begins_truncated bytes (truncated_begins bytes at are e) in
    cc

pub says : (bytes : List ℕ) (result : Result Chunk ChunkErr) → AreBytes bytes → Answers (read_file bytes) result → Says bytes result
says bytes (Ok chunk) are e = (spellings bytes (chunk_of chunk) are).0 e
says bytes (Err (errors.Truncated at)) are e = (truncated_begins bytes at are e, cut_at bytes at are e)
says bytes (Err (errors.Trailing at)) are e = (trailings bytes at are).0 e
says bytes (Err errors.OutOfMemory) are e = tt
says bytes (Err (errors.BadMagic at)) are e = (
  λ c s. let both : BadMagic at ≡ IsChunk c = sym e ∙ spelled_read bytes c s in absurd (cc),
  λ b. let both : BadMagic at ≡ Truncated (length bytes) = sym e ∙ begins_truncated bytes b in absurd (cc),
)
says bytes (Err (errors.BadVersion at)) are e = (
  λ c s. let both : BadVersion at ≡ IsChunk c = sym e ∙ spelled_read bytes c s in absurd (cc),
  λ b. let both : BadVersion at ≡ Truncated (length bytes) = sym e ∙ begins_truncated bytes b in absurd (cc),
)
says bytes (Err (errors.BadField at)) are e = (
  λ c s. let both : BadField at ≡ IsChunk c = sym e ∙ spelled_read bytes c s in absurd (cc),
  λ b. let both : BadField at ≡ Truncated (length bytes) = sym e ∙ begins_truncated bytes b in absurd (cc),
)
