-- Examples of calls and of what waits for them, computed.
use Rattle.std.proofs.Common.{◌≡◌, pos, List, [], ◌∷◌, ◌++◌, refl, Some, None, true, false}
use Rattle.std.specs.Prelude.{codes}
use Rattle.value_model.specs.Values.{Shared, Own, Value, Nil, Table, Closure, Native, Host, Wrap, Thread, kind_of, is_true}
use Rattle.value_model.specs.Tables.{same, get, set, put, border, next_entry}
use Rattle.value_model.specs.Store.{Store, TableOf, table_at, with_table}
use Rattle.whole_num.specs.NumberTexts.{read_number, read_with_base}
use Rattle.value_model.specs.Metamethods.{index, newindex, arith, choose, is_function, metamethod, as_number, compare, callee_of, concat_two, length_of}
use Rattle.value_model.specs.Names.{name_of, text_of, as_plain}
use Rattle.value_model.specs.Operators.{calculated}
use Rattle.value_model.specs.Errors.{error_text}
use Rattle.value_model.specs.Library.{lib, go_on}
use Rattle.value_model.specs.Waiting.{wait}
use Rattle.value_model.specs.CoroutineRows.{coroutine_of, with_coroutine}
use Rattle.value_model.specs.Loops.{bounds, goes_on, iteration}
use Rattle.value_model.specs.Fresh.{fresh, look}
use Rattle.std.specs.Fmt.{digits}
use Rattle.value_model.specs.declared.builtin.Builtin.TheVariants as f
use Rattle.value_model.proofs.Examples.{n, t, yes, no, start, tables, own}
use Rattle.value_model.specs.Store.{empty_table}
use Rattle.value_model.specs.Waits.{ByError, Elsewise}
use Rattle.whole_num.specs.declared.arithmetic.Stop.TheVariants.{NotWhole}
use Rattle.value_model.specs.declared.kind.Kind.TheVariants as kind
use Rattle.value_model.specs.declared.error.Wanted.TheVariants as wanted
use Rattle.value_model.specs.Errors.{CallOf, InvalidArgument, DeadCoroutine, CloseRunning, YieldOutside, NotStringByTostring, NoReply}
use Rattle.value_model.specs.Choices.{Done}
use Rattle.value_model.specs.Waits.{Runs, ByScript, ByLibrary, Case, Called, Given, Passed, Fails, Raises, Answer, Gives, Enters, Calls, Throws, Stops, Finishes, Dies, Waited, value_thrown}
use Rattle.value_model.specs.declared.event.EventKind.TheVariants as event
use Rattle.value_model.specs.declared.event.Reply.TheVariants as answered
use Rattle.value_model.specs.declared.plain.Plain.TheVariants as plain
use Rattle.value_model.specs.Fresh.{first_waits, NoField, Field, HostPlain, HostFunction, HostTable}

-- one step from a script's start with these tables
abbrev first : List TableOf → Case → Waited
first ts c = wait first_waits (tables ts) c None

-- the step after
abbrev then_ : Waited → Case → Waited
then_ w c = wait w.waits w.store c None

-- a call by the script or by a library function
abbrev by_script : Value → List Value → Case
by_script v args = Called ByScript v args

abbrev by_library : Value → List Value → Case
by_library v args = Called ByLibrary v args

-- the call that an answer is, to be made next
abbrev next_case : Answer → Case
next_case (Calls by v args) = Called by v args
next_case (Throws e) = Passed (value_thrown e)
next_case (Gives vs) = Given vs
next_case a = Given []

abbrev on : Waited → Waited
on w = then_ w (next_case w.answer)

-- a table whose `__tostring` is a library function
abbrev telling : Value → List TableOf
telling h = record empty_table { meta = Some (Own 3) } ∷ record empty_table { entries = (t (codes "__tostring"), h) ∷ [] } ∷ []

-- with a host's table `db` of one function, and a number
abbrev hosted : Store
hosted = fresh (Field (plain.Text (codes "db")) (HostTable (Field (plain.Text (codes "get")) HostFunction NoField)) (Field (plain.Text (codes "limit")) (HostPlain (plain.Num (pos 3))) NoField))

-- a coroutine with a library function was made
abbrev made : Waited
made = first [] (by_script (Native f.CoroutineCreate) (Native f.MathMax ∷ []))

abbrev yields : Waited
yields = first [] (by_script (Native f.CoroutineCreate) (Native f.CoroutineYield ∷ []))

pub waits_1 :
    ((first [] (by_script (Closure 0) (n 1 ∷ []))).charged ≡ true)
    × ((first [] (by_script (Closure 0) (n 1 ∷ []))).answer ≡ Enters 0 (n 1 ∷ []))
    × ((first [] (by_script (Closure 0) [])).waits ≡ (Runs 0 ∷ Runs 0 ∷ []) ∷ [])
    × ((first [] (by_script (Native f.Type) (Nil ∷ []))).charged ≡ false)
    × ((first [] (by_script (Native f.Type) (Nil ∷ []))).answer ≡ Gives (t (codes "nil") ∷ []))
    × ((first [] (by_library (Native f.Type) (Nil ∷ []))).charged ≡ true)
    × ((first [] (by_library (Native f.Type) (Nil ∷ []))).answer ≡ Calls ByScript (Native f.Type) (Nil ∷ []))
    × ((first [] (by_script (Native f.Print) (n 5 ∷ []))).event ≡ Some (event.Print (codes "5")))
unfolding lib go_on choose index newindex arith compare callee_of concat_two length_of is_function metamethod as_number read_number read_with_base calculated table_at with_table same get set put border next_entry kind_of is_true name_of text_of as_plain error_text fresh look wait coroutine_of with_coroutine bounds goes_on iteration digits
waits_1 = (refl, refl, refl, refl, refl, refl, refl, refl)

pub waits_2 :
    ((first [] (by_script Nil [])).answer ≡ Throws (Fails (CallOf kind.Nil)))
    × ((first [] (by_script (Native f.MathAbs) (t (codes "0.5") ∷ []))).answer ≡ Stops NotWhole)
    × ((first [] (by_script (Native f.Pcall) (Native f.Error ∷ n 1 ∷ []))).answer ≡ Calls ByLibrary (Native f.Error) (n 1 ∷ []))
    × ((on (first [] (by_script (Native f.Pcall) (Native f.Error ∷ n 1 ∷ [])))).charged ≡ true)
    × ((on (on (first [] (by_script (Native f.Pcall) (Native f.Error ∷ n 1 ∷ []))))).answer ≡ Throws (Raises (n 1) (ByError false)))
    × ((on (on (on (first [] (by_script (Native f.Pcall) (Native f.Error ∷ n 1 ∷ [])))))).answer ≡ Gives (no ∷ n 1 ∷ []))
    × ((on (on (on (first [] (by_script (Native f.Pcall) (Native f.Error ∷ n 1 ∷ [])))))).waits ≡ first_waits)
    × ((on (on (first [] (by_script (Native f.Pcall) (Nil ∷ []))))).answer ≡ Gives (no ∷ t (codes "attempt to call a nil value") ∷ []))
unfolding lib go_on choose index newindex arith compare callee_of concat_two length_of is_function metamethod as_number read_number read_with_base calculated table_at with_table same get set put border next_entry kind_of is_true name_of text_of as_plain error_text fresh look wait coroutine_of with_coroutine bounds goes_on iteration digits
waits_2 = (refl, refl, refl, refl, refl, refl, refl, refl)

pub waits_3 :
    ((on (on (on (first [] (by_script (Native f.Pcall) (Native f.MathAbs ∷ n 2 ∷ [])))))).answer ≡ Gives (yes ∷ n 2 ∷ []))
    × ((on (on (first [] (by_script (Native f.Pcall) (Native f.MathAbs ∷ t (codes "0.5") ∷ []))))).answer ≡ Stops NotWhole)
    × ((on (on (on (first [] (by_script (Native f.Xpcall) (Native f.Error ∷ Native f.Type ∷ n 1 ∷ [])))))).answer ≡ Calls ByLibrary (Native f.Type) (n 1 ∷ []))
    × ((on (on (on (on (on (on (first [] (by_script (Native f.Xpcall) (Native f.Error ∷ Native f.Type ∷ n 1 ∷ []))))))))).answer ≡ Gives (no ∷ t (codes "number") ∷ []))
    × ((on (on (on (on (on (on (first [] (by_script (Native f.Xpcall) (Native f.Error ∷ Native f.Error ∷ n 1 ∷ []))))))))).answer ≡ Gives (no ∷ n 1 ∷ []))
    × ((first (telling (Native f.Tostring)) (by_script (Native f.Print) (own 0 ∷ []))).answer ≡ Calls ByLibrary (Native f.Tostring) (own 0 ∷ []))
    × ((on (first (telling (Native f.Tostring)) (by_script (Native f.Print) (own 0 ∷ [])))).charged ≡ true)
    × ((on (on (first (telling (Native f.Tostring)) (by_script (Native f.Print) (own 0 ∷ []))))).answer ≡ Calls ByLibrary (Native f.Tostring) (own 0 ∷ []))
unfolding lib go_on choose index newindex arith compare callee_of concat_two length_of is_function metamethod as_number read_number read_with_base calculated table_at with_table same get set put border next_entry kind_of is_true name_of text_of as_plain error_text fresh look wait coroutine_of with_coroutine bounds goes_on iteration digits
waits_3 = (refl, refl, refl, refl, refl, refl, refl, refl)

pub waits_4 :
    ((on (on (on (first (telling (Native f.Tostring)) (by_script (Native f.Print) (own 0 ∷ [])))))).charged ≡ true)
    × ((on (on (on (first (telling (Native f.Type)) (by_script (Native f.Print) (n 1 ∷ own 0 ∷ own 0 ∷ [])))))).answer ≡ Calls ByLibrary (Native f.Type) (own 0 ∷ []))
    × ((on (on (on (on (on (on (first (telling (Native f.Type)) (by_script (Native f.Print) (n 1 ∷ own 0 ∷ own 0 ∷ []))))))))).event ≡ Some (event.Print (codes "1" ++ 9 ∷ codes "table" ++ 9 ∷ codes "table")))
    × ((on (on (on (first (telling (Native f.Type)) (by_script (Native f.StringFormat) (t (codes "%7s|") ∷ own 0 ∷ [])))))).answer ≡ Gives (t (codes "  table|") ∷ []))
    × ((on (on (on (first (telling (Native f.Rawlen)) (by_script (Native f.Tostring) (own 0 ∷ [])))))).answer ≡ Throws (Fails NotStringByTostring))
    × (made.answer ≡ Gives (Thread 1 ∷ []))
    × ((then_ made (by_script (Native f.CoroutineStatus) (Thread 1 ∷ []))).answer ≡ Gives (t (codes "suspended") ∷ []))
    × ((then_ made (by_script (Native f.CoroutineResume) (Thread 1 ∷ n 4 ∷ n 9 ∷ []))).charged ≡ true)
unfolding lib go_on choose index newindex arith compare callee_of concat_two length_of is_function metamethod as_number read_number read_with_base calculated table_at with_table same get set put border next_entry kind_of is_true name_of text_of as_plain error_text fresh look wait coroutine_of with_coroutine bounds goes_on iteration digits
waits_4 = (refl, refl, refl, refl, refl, refl, refl, refl)

pub waits_5 :
    ((then_ made (by_script (Native f.CoroutineResume) (Thread 1 ∷ n 4 ∷ n 9 ∷ []))).answer ≡ Calls ByLibrary (Native f.MathMax) (n 4 ∷ n 9 ∷ []))
    × ((on (then_ made (by_script (Native f.CoroutineResume) (Thread 1 ∷ n 4 ∷ n 9 ∷ [])))).charged ≡ true)
    × ((on (on (on (on (then_ made (by_script (Native f.CoroutineResume) (Thread 1 ∷ n 4 ∷ n 9 ∷ []))))))).answer ≡ Gives (yes ∷ n 9 ∷ []))
    × ((then_ (on (on (on (on (then_ made (by_script (Native f.CoroutineResume) (Thread 1 ∷ n 4 ∷ n 9 ∷ []))))))) (by_script (Native f.CoroutineResume) (Thread 1 ∷ []))).answer ≡ Gives (no ∷ t (codes "cannot resume dead coroutine") ∷ []))
    × ((on (on (on (on (then_ made (by_script (Native f.CoroutineResume) (Thread 1 ∷ []))))))).answer ≡ Gives (no ∷ t (codes "missing argument #1 to 'max' (number expected)") ∷ []))
    × ((then_ (on (on (on (on (then_ made (by_script (Native f.CoroutineResume) (Thread 1 ∷ []))))))) (by_script (Native f.CoroutineClose) (Thread 1 ∷ []))).answer ≡ Gives (no ∷ t (codes "missing argument #1 to 'max' (number expected)") ∷ []))
    × ((then_ made (by_script (Native f.CoroutineClose) (Thread 1 ∷ []))).answer ≡ Gives (yes ∷ []))
    × ((then_ made (by_script (Wrap 1) (n 3 ∷ []))).answer ≡ Calls ByLibrary (Native f.MathMax) (n 3 ∷ []))
unfolding lib go_on choose index newindex arith compare callee_of concat_two length_of is_function metamethod as_number read_number read_with_base calculated table_at with_table same get set put border next_entry kind_of is_true name_of text_of as_plain error_text fresh look wait coroutine_of with_coroutine bounds goes_on iteration digits
waits_5 = (refl, refl, refl, refl, refl, refl, refl, refl)

pub waits_6 :
    ((then_ (then_ made (by_script (Native f.CoroutineClose) (Thread 1 ∷ []))) (by_script (Wrap 1) [])).answer ≡ Throws (Fails DeadCoroutine))
    × ((on (on (on (then_ yields (by_script (Native f.CoroutineResume) (Thread 1 ∷ n 7 ∷ [])))))).answer ≡ Gives (yes ∷ n 7 ∷ []))
    × ((then_ (on (on (on (then_ yields (by_script (Native f.CoroutineResume) (Thread 1 ∷ n 7 ∷ [])))))) (by_script (Native f.CoroutineStatus) (Thread 1 ∷ []))).answer ≡ Gives (t (codes "suspended") ∷ []))
    × ((then_ (on (on (on (then_ yields (by_script (Native f.CoroutineResume) (Thread 1 ∷ n 7 ∷ [])))))) (by_script (Native f.CoroutineResume) (Thread 1 ∷ n 8 ∷ []))).answer ≡ Gives (n 8 ∷ []))
    × ((first [] (by_script (Native f.CoroutineYield) [])).answer ≡ Throws (Fails YieldOutside))
    × ((then_ (then_ made (by_script (Native f.CoroutineResume) (Thread 1 ∷ n 4 ∷ []))) (by_script (Native f.CoroutineResume) (Thread 1 ∷ []))).answer ≡ Gives (no ∷ t (codes "cannot resume non-suspended coroutine") ∷ []))
    × ((then_ (then_ made (by_script (Native f.CoroutineResume) (Thread 1 ∷ n 4 ∷ []))) (by_script (Native f.CoroutineClose) (Thread 1 ∷ []))).answer ≡ Throws (Fails CloseRunning))
    × ((then_ (then_ made (by_script (Native f.CoroutineResume) (Thread 1 ∷ n 4 ∷ []))) (by_script (Native f.CoroutineRunning) [])).answer ≡ Gives (Thread 1 ∷ []))
unfolding lib go_on choose index newindex arith compare callee_of concat_two length_of is_function metamethod as_number read_number read_with_base calculated table_at with_table same get set put border next_entry kind_of is_true name_of text_of as_plain error_text fresh look wait coroutine_of with_coroutine bounds goes_on iteration digits
waits_6 = (refl, refl, refl, refl, refl, refl, refl, refl)

pub waits_7 :
    ((then_ (then_ made (by_script (Native f.CoroutineResume) (Thread 1 ∷ n 4 ∷ []))) (by_script (Native f.CoroutineIsyieldable) [])).answer ≡ Gives (yes ∷ []))
    × ((first [] (by_script (Native f.Getfenv) [])).environment ≡ Some (Own 0))
    × ((first [] (by_script (Native f.Setfenv) (n 1 ∷ own 0 ∷ []))).answer ≡ Gives (Closure 0 ∷ []))
    × ((first [] (by_script (Native f.Setfenv) (n 1 ∷ own 0 ∷ []))).environment ≡ Some (Own 2))
    × ((first [] (by_script (Native f.Setfenv) (n 1 ∷ own 0 ∷ []))).store.closures ≡ Own 2 ∷ [])
    × ((on (then_ (first [] (by_script (Native f.Setfenv) (n 1 ∷ own 0 ∷ []))) (by_script (Native f.Getfenv) (Native f.Print ∷ [])))).answer ≡ Gives (Table (Own 0) ∷ []))
    × ((look hosted (Own 0) (codes "limit")).outcome ≡ Done (n 3))
    × ((look hosted (Own 0) (codes "db")).outcome ≡ Done (Table (Shared 6)))
unfolding lib go_on choose index newindex arith compare callee_of concat_two length_of is_function metamethod as_number read_number read_with_base calculated table_at with_table same get set put border next_entry kind_of is_true name_of text_of as_plain error_text fresh look wait coroutine_of with_coroutine bounds goes_on iteration digits
waits_7 = (refl, refl, refl, refl, refl, refl, refl, refl)

pub waits_8 :
    (text_of (name_of hosted.globals (Table (Shared 6))) ≡ codes "table: db")
    × (text_of (name_of hosted.globals (Host 0)) ≡ codes "function: db.get")
    × ((wait first_waits hosted (by_script (Host 0) (t (codes "k") ∷ [])) (Some (answered.Values (plain.Text (codes "x") ∷ plain.Num (pos 5) ∷ [])))).answer ≡ Gives (t (codes "x") ∷ n 5 ∷ []))
    × ((wait first_waits hosted (by_script (Host 0) (t (codes "z") ∷ [])) None).answer ≡ Throws (Fails NoReply))
    × ((wait first_waits hosted (by_script (Host 0) (t (codes "z") ∷ [])) None).event ≡ Some (event.Host (codes "db.get") (plain.Text (codes "z") ∷ []) None))
    × ((wait first_waits hosted (by_script (Host 0) (n 1 ∷ Table (Own 0) ∷ [])) None).answer ≡ Throws (Fails (InvalidArgument 2 (codes "get") wanted.PlainValue kind.Table)))
    × ((wait first_waits hosted (by_script (Host 0) []) (Some (answered.Raise plain.Nil))).answer ≡ Throws (Raises Nil Elsewise))
    × ((wait ([] ∷ []) start (Given (n 1 ∷ [])) None).answer ≡ Finishes (n 1 ∷ []))
unfolding lib go_on choose index newindex arith compare callee_of concat_two length_of is_function metamethod as_number read_number read_with_base calculated table_at with_table same get set put border next_entry kind_of is_true name_of text_of as_plain error_text fresh look wait coroutine_of with_coroutine bounds goes_on iteration digits
waits_8 = (refl, refl, refl, refl, refl, refl, refl, refl)

pub waits_9 :
    (wait ([] ∷ []) start (Passed (n 1)) None).answer ≡ Dies (n 1)
unfolding lib go_on choose index newindex arith compare callee_of concat_two length_of is_function metamethod as_number read_number read_with_base calculated table_at with_table same get set put border next_entry kind_of is_true name_of text_of as_plain error_text fresh look wait coroutine_of with_coroutine bounds goes_on iteration digits
waits_9 = refl
