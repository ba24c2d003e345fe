-- A sink in memory, and when it fails.
use Rattle.std.specs.Prelude.{ℕ, ◌-◌, min, nat_eq, nat_lt, ◌&&◌, ◌||◌, if◌then◌else◌, List, length, Result, Ok, Err}
use Rattle.outside_io.specs.declared.writing.Failed.{Failed}
use Rattle.outside_io.specs.MemFiles.{counted, is_to_fail}

-- the bytes taken, how many there may be, the numbers of the calls that are to fail, and how many calls and faults came so far
pub record Store : Type 0 where
  pub bytes : List ℕ
  pub room : ℕ
  pub fails : List ℕ
  pub calls : ℕ
  pub faults : ℕ

-- how many more bytes there is room for
abbrev pub room_left : Store → ℕ
room_left store = store.room - length store.bytes

-- A piece of this length is taken as far as there is room. It fails where it is to fail, and
-- where it is not empty and the room is full, and nowhere else.
abbrev pub put_answer : Store → (size : ℕ) → Result ℕ Failed
put_answer store size =
    if is_to_fail store.fails (counted store.calls) || (nat_lt 0 size && nat_eq (room_left store) 0)
    then Err (record {}) else Ok (min size (room_left store))
