-- Files in memory, and when a read of them fails.
use Rattle.std.specs.Prelude.{ℕ, ◌+◌, ◌-◌, ◌^◌, min, nat_eq, Bool, true, false, if◌then◌else◌, List, [], ◌∷◌, length, Option, Some, None, Result, Ok, Err, Vec, String, string_bytes}
use Rattle.std.specs.List.{list_any}
use Rattle.std.specs.Str.{bytes_eq}
use Rattle.std.specs.declared.alloc.Global.{Global}
use Rattle.outside_io.specs.declared.reading.ReadAtErr.{ReadAtErr}
use Rattle.outside_io.specs.declared.reading.ReadAtErr.TheVariants.{Missing, Failed}

-- a file in memory
pub record File : Type 0 where
  pub name : List ℕ
  pub bytes : List ℕ

-- the files, the numbers of the calls that are to fail, and how many calls and faults came so far
pub record Folder : Type 0 where
  pub files : List File
  pub fails : List ℕ
  pub calls : ℕ
  pub faults : ℕ

-- the file of a pair of a name and bytes
abbrev pub file_of : String Global × Vec ℕ Global → File
file_of pair = record { name = string_bytes pair.0; bytes = pair.1.items }

-- the bytes of the first file of this name
abbrev pub bytes_named : List File → (name : List ℕ) → Option (List ℕ)
bytes_named [] name = None
bytes_named (file ∷ others) name = if bytes_eq file.name name then Some file.bytes else bytes_named others name

-- one more, in a count of 64 bits that stays at its last value
abbrev pub counted : ℕ → ℕ
counted count = min (count + 1) (2 ^ 64 - 1)

-- the call of this number is to fail
abbrev pub is_to_fail : (fails : List ℕ) → (call : ℕ) → Bool
is_to_fail fails call = list_any (λ listed. nat_eq listed call) fails

-- A read at an offset into a buffer of this length gives as much as there is and fits.
-- It fails where it is to fail and the name is there, and nowhere else.
abbrev pub read_answer : Option (List ℕ) → (fails : Bool) → (at room : ℕ) → Result ℕ ReadAtErr
read_answer None fails at room = Err Missing
read_answer (Some bytes) true at room = Err Failed
read_answer (Some bytes) false at room = Ok (min room (length bytes - at))

-- the count of faults after an answer
abbrev pub faults_after : Result ℕ ReadAtErr → ℕ → ℕ
faults_after (Ok count) faults = faults
faults_after (Err Missing) faults = faults
faults_after (Err Failed) faults = counted faults
