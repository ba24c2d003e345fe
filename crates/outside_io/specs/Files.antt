-- What is told of files, and what a read of them answers.
use Rattle.std.specs.Prelude.{ℕ, List, Option, Some, None, [], Result, Ok, Err, Vec, ◌≡◌, ◌<◌, ◌≤◌, length, take, drop}
use Rattle.std.specs.declared.alloc.Global.{Global}
use Rattle.outside_io.specs.declared.reading.ReadAtErr.{ReadAtErr}
use Rattle.outside_io.specs.declared.reading.ReadAtErr.TheVariants.{Missing, Failed}
use Rattle.outside_io.specs.declared.reading.ReadErr.{ReadErr}
use Rattle.outside_io.specs.declared.reading.ReadErr.TheVariants.{Missing as NoFile, ReadFault, TooLarge, OutOfMemory}
use Rattle.resource.specs.Faults.{Rose}

-- what is told of files: the contents of each name, or nothing at all
abbrev pub Contents : Type 0
Contents = Option (List ℕ → Option (List ℕ))

-- A read of the file at an offset into a buffer: the front of the buffer is then the file's bytes from there on.
-- Nothing is read into a buffer that is not empty only at the file's end.
abbrev pub ReadsAt : Option (List ℕ) → (at : ℕ) → (old new : List ℕ) → Result ℕ ReadAtErr → Type 0
ReadsAt None at old new r = r ≡ Err Missing
ReadsAt (Some bytes) at old new (Ok count) =
    (take count new ≡ take count (drop at bytes)) × (count ≡ 0 → 0 < length old → length bytes ≤ at)
ReadsAt (Some bytes) at old new (Err Missing) = ⊥
ReadsAt (Some bytes) at old new (Err Failed) = Unit {0}

-- only a failed read raises the count of faults
abbrev pub ReadAtFaults : Result ℕ ReadAtErr → (before now : ℕ) → Type 0
ReadAtFaults (Ok count) before now = now ≡ before
ReadAtFaults (Err Missing) before now = now ≡ before
ReadAtFaults (Err Failed) before now = Rose before now

-- the whole contents, or why they were not given; want of memory may come at any time
abbrev pub ReadsAll : Option (List ℕ) → (limit : ℕ) → Result (Vec ℕ Global) ReadErr → Type 0
ReadsAll None limit (Ok v) = ⊥
ReadsAll None limit (Err NoFile) = Unit {0}
ReadsAll None limit (Err ReadFault) = ⊥
ReadsAll None limit (Err TooLarge) = ⊥
ReadsAll None limit (Err OutOfMemory) = Unit {0}
ReadsAll (Some bytes) limit (Ok v) = (v.items ≡ bytes) × (length bytes ≤ limit)
ReadsAll (Some bytes) limit (Err NoFile) = ⊥
ReadsAll (Some bytes) limit (Err ReadFault) = Unit {0}
ReadsAll (Some bytes) limit (Err TooLarge) = limit < length bytes
ReadsAll (Some bytes) limit (Err OutOfMemory) = Unit {0}

-- only a read fault raises the count of faults; want of memory leaves it
abbrev pub ReadFaults : {A : Type 0} → Result A ReadErr → (before now : ℕ) → Type 0
ReadFaults (Ok v) before now = now ≡ before
ReadFaults (Err NoFile) before now = now ≡ before
ReadFaults (Err ReadFault) before now = Rose before now
ReadFaults (Err TooLarge) before now = now ≡ before
ReadFaults (Err OutOfMemory) before now = now ≡ before

-- the error of the whole reading that an error of one read becomes
abbrev pub read_err_of : ReadAtErr → ReadErr
read_err_of Missing = NoFile
read_err_of Failed = ReadFault

-- these bytes are the front of the file; of no file nothing was read
abbrev pub IsFrontOf : List ℕ → Option (List ℕ) → Type 0
IsFrontOf front None = front ≡ []
IsFrontOf front (Some bytes) = front ≡ take (length front) bytes

-- One more piece of the file was appended to a front of it, or why not. None comes only at the end.
abbrev pub ReadsOn : Option (List ℕ) → (old new : List ℕ) → Result ℕ ReadErr → Type 0
ReadsOn None old new (Ok count) = ⊥
ReadsOn None old new (Err NoFile) = Unit {0}
ReadsOn None old new (Err ReadFault) = ⊥
ReadsOn None old new (Err TooLarge) = ⊥
ReadsOn None old new (Err OutOfMemory) = ⊥
ReadsOn (Some bytes) old new (Ok count) =
    (IsFrontOf old (Some bytes) → IsFrontOf new (Some bytes)) × (count ≡ 0 → new ≡ old × length bytes ≤ length old)
ReadsOn (Some bytes) old new (Err NoFile) = ⊥
ReadsOn (Some bytes) old new (Err ReadFault) = Unit {0}
ReadsOn (Some bytes) old new (Err TooLarge) = ⊥
ReadsOn (Some bytes) old new (Err OutOfMemory) = Unit {0}
