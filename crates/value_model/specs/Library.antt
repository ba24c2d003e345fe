-- The library: a row for each function.
use Rattle.std.specs.Prelude.{ℕ, suc, List, ◌++◌, drop, map, reverse}
use Rattle.std.specs.Int.{int_min, int_max, int_signum}
use Rattle.std.specs.Char.{to_ascii_lowercase, to_ascii_uppercase}
use Rattle.value_model.specs.declared.builtin.Builtin.{Builtin}
use Rattle.value_model.specs.declared.builtin.Builtin.TheVariants as builtin
use Rattle.value_model.specs.Values.{Value, Text}
use Rattle.value_model.specs.Store.{Store}
use Rattle.value_model.specs.Waits.{Continue}
use Rattle.value_model.specs.Answers.{LibAnswer}
use Rattle.value_model.specs.CoreRows as core
use Rattle.value_model.specs.CoroutineRows as co
use Rattle.value_model.specs.MathRows as math
use Rattle.value_model.specs.StringRows as string
use Rattle.value_model.specs.FormatRows as format
use Rattle.value_model.specs.TableRows as table

unfoldable pub lib : Builtin → List Value → Store → LibAnswer
lib builtin.Print args s = core.print_row args s
lib builtin.Type args s = core.type_row builtin.Type args s
lib builtin.Typeof args s = core.type_row builtin.Typeof args s
lib builtin.Tostring args s = core.tostring_row args s
lib builtin.Tonumber args s = core.tonumber_row args s
lib builtin.Assert args s = core.assert_row args s
lib builtin.Error args s = core.error_row args s
lib builtin.Pcall args s = core.pcall_row args s
lib builtin.Xpcall args s = core.xpcall_row args s
lib builtin.Select args s = core.select_row args s
lib builtin.Next args s = core.next_row args s
lib builtin.Pairs args s = core.pairs_row args s
lib builtin.Ipairs args s = core.ipairs_row args s
lib builtin.IpairsIterator args s = core.ipairs_iterator_row args s
lib builtin.Rawget args s = core.rawget_row args s
lib builtin.Rawset args s = core.rawset_row args s
lib builtin.Rawequal args s = core.rawequal_row args s
lib builtin.Rawlen args s = core.rawlen_row args s
lib builtin.Getmetatable args s = core.getmetatable_row args s
lib builtin.Setmetatable args s = core.setmetatable_row args s
lib builtin.Getfenv args s = core.getfenv_row args s
lib builtin.Setfenv args s = core.setfenv_row args s
lib builtin.MathAbs args s = math.of_number builtin.MathAbs math.absolute args s
lib builtin.MathCeil args s = math.of_number builtin.MathCeil (λ z. z) args s
lib builtin.MathFloor args s = math.of_number builtin.MathFloor (λ z. z) args s
lib builtin.MathRound args s = math.of_number builtin.MathRound (λ z. z) args s
lib builtin.MathSign args s = math.of_number builtin.MathSign int_signum args s
lib builtin.MathMax args s = math.best_row builtin.MathMax int_max args s
lib builtin.MathMin args s = math.best_row builtin.MathMin int_min args s
lib builtin.MathClamp args s = math.clamp_row args s
lib builtin.StringByte args s = string.byte_row args s
lib builtin.StringChar args s = string.char_row args s
lib builtin.StringLen args s = string.len_row args s
lib builtin.StringSub args s = string.sub_row args s
lib builtin.StringLower args s = string.of_text builtin.StringLower (map to_ascii_lowercase) args s
lib builtin.StringUpper args s = string.of_text builtin.StringUpper (map to_ascii_uppercase) args s
lib builtin.StringRep args s = string.rep_row args s
lib builtin.StringReverse args s = string.of_text builtin.StringReverse reverse args s
lib builtin.StringSplit args s = string.split_row args s
lib builtin.StringFormat args s = format.format_row args s
lib builtin.TableInsert args s = table.insert_row args s
lib builtin.TableRemove args s = table.remove_row args s
lib builtin.TableConcat args s = table.concat_row args s
lib builtin.TableUnpack args s = table.unpack_row args s
lib builtin.TablePack args s = table.pack_row args s
lib builtin.TableCreate args s = table.create_row args s
lib builtin.TableFind args s = table.find_row args s
lib builtin.TableClear args s = table.clear_row args s
lib builtin.TableClone args s = table.clone_row args s
lib builtin.TableFreeze args s = table.freeze_row args s
lib builtin.TableIsfrozen args s = table.isfrozen_row args s
lib builtin.TableMove args s = table.move_row args s
lib builtin.TableSort args s = table.sort_row args s
lib builtin.CoroutineCreate args s = co.create_row args s
lib builtin.CoroutineResume args s = co.resume_row args s
lib builtin.CoroutineYield args s = co.yield_row args s
lib builtin.CoroutineStatus args s = co.status_row args s
lib builtin.CoroutineWrap args s = co.wrap_row args s
lib builtin.CoroutineIsyieldable args s = co.isyieldable_row args s
lib builtin.CoroutineRunning args s = co.running_row args s
lib builtin.CoroutineClose args s = co.close_row args s

-- a library function goes on with the text that it asked for
abbrev pub goes_on : Builtin → Continue → Store → List ℕ → LibAnswer
goes_on builtin.Print c s bs = core.prints s c.arguments (suc c.at) (c.text ++ bs) (drop (suc c.at) c.arguments)
goes_on builtin.StringFormat c s bs = format.format_goes_on c s bs
goes_on f c s bs = core.gives s (Text bs)

unfoldable pub go_on : Continue → Value → Store → LibAnswer
go_on c v s = core.text_given v (goes_on c.builtin c s)
