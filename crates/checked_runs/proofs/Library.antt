-- The library makes no function, and names no coroutine but those that it was given, has made or runs in.
use Rattle.std.proofs.Common.{◌≡◌, refl, sym, ap, ◌∙◌, ℕ, suc, Bool, true, false, List, [], ◌∷◌, map, reverse, Option, Some, nat_eq}
use Rattle.std.specs.Prelude.{if◌then◌else◌}
use Rattle.std.specs.Int.{int_min, int_max, int_signum}
use Rattle.std.specs.Char.{to_ascii_lowercase, to_ascii_uppercase}
use Rattle.value_model.specs.declared.builtin.Builtin.{Builtin}
use Rattle.value_model.specs.declared.builtin.Builtin.TheVariants as builtin
use Rattle.value_model.specs.Values.{Bytes, Value, Text}
use Rattle.value_model.specs.Store.{Store}
use Rattle.value_model.specs.Waits.{Continue}
use Rattle.value_model.specs.Library.{lib, go_on, goes_on}
use Rattle.value_model.specs.MathRows as math
use Rattle.machine_meaning.specs.Effects.{under, numbered}
use Rattle.checked_runs.specs.Safe.{Each, IsMade, AreMade, IsStore}
use Rattle.checked_runs.specs.Keeps.{AnswersAreMade, LibraryKeeps}
use Rattle.checked_runs.proofs.Elements.{each_drop}
use Rattle.checked_runs.proofs.Arguments.{Holds}
use Rattle.checked_runs.proofs.Reading as reading
use Rattle.checked_runs.proofs.Texts as texts
use Rattle.checked_runs.proofs.Writing as writing

-- ---- the functions that have numbers

abbrev is_numbered : Builtin → Bool
is_numbered builtin.Type = true
is_numbered builtin.Typeof = true
is_numbered builtin.Rawget = true
is_numbered builtin.Rawequal = true
is_numbered builtin.Rawlen = true
is_numbered builtin.MathAbs = true
is_numbered builtin.MathCeil = true
is_numbered builtin.MathFloor = true
is_numbered builtin.MathRound = true
is_numbered builtin.MathSign = true
is_numbered builtin.MathMax = true
is_numbered builtin.MathMin = true
is_numbered builtin.MathClamp = true
is_numbered builtin.StringByte = true
is_numbered builtin.StringChar = true
is_numbered builtin.StringLen = true
is_numbered builtin.StringSub = true
is_numbered _ = false

under_one : (t : Bool) (c b : Builtin) (o : Option Builtin) → is_numbered c ≡ true → (o ≡ Some b → is_numbered b ≡ true)
    → (if t then Some c else o) ≡ Some b → is_numbered b ≡ true
under_one true c b o i h e = let same : c ≡ b = cc in ap is_numbered (sym same) ∙ i
under_one false c b o i h e = h e

under_numbered : (bs : List (ℕ × Builtin)) (k : ℕ) (b : Builtin) → Each (λ e. is_numbered e.1 ≡ true) bs → under bs k ≡ Some b → is_numbered b ≡ true
under_numbered [] k b i e = absurd cc
under_numbered (c ∷ bs) k b i e = under_one (nat_eq c.0 k) c.1 b (under bs k) i.0 (under_numbered bs k b i.1) e

all_numbered : Each (λ (e : ℕ × Builtin). is_numbered e.1 ≡ true) numbered
all_numbered =
    (refl, (refl, (refl, (refl, (refl, (refl, (refl, (refl, (refl, (refl, (refl, (refl, (refl, (refl, (refl, (refl, (refl, tt)))))))))))))))))

module _ (n : ℕ) (s : Store) (is : IsStore n s) (P : List Value → Store → Type 0) (stays : (vs : List Value) → AreMade n vs → P vs s) where
  fast_made : (b : Builtin) (args : List Value) → is_numbered b ≡ true → AreMade n args → Holds P n (lib b args s)
  unfolding lib
  fast_made builtin.Type args e m = reading.type_row n s is P stays builtin.Type args m
  fast_made builtin.Typeof args e m = reading.type_row n s is P stays builtin.Typeof args m
  fast_made builtin.Rawget args e m = reading.rawget_row n s is P stays args m
  fast_made builtin.Rawequal args e m = reading.rawequal_row n s is P stays args m
  fast_made builtin.Rawlen args e m = reading.rawlen_row n s is P stays args m
  fast_made builtin.MathAbs args e m = texts.of_number n s is P stays builtin.MathAbs math.absolute args m
  fast_made builtin.MathCeil args e m = texts.of_number n s is P stays builtin.MathCeil (λ z. z) args m
  fast_made builtin.MathFloor args e m = texts.of_number n s is P stays builtin.MathFloor (λ z. z) args m
  fast_made builtin.MathRound args e m = texts.of_number n s is P stays builtin.MathRound (λ z. z) args m
  fast_made builtin.MathSign args e m = texts.of_number n s is P stays builtin.MathSign int_signum args m
  fast_made builtin.MathMax args e m = texts.best_row n s is P stays builtin.MathMax int_max args m
  fast_made builtin.MathMin args e m = texts.best_row n s is P stays builtin.MathMin int_min args m
  fast_made builtin.MathClamp args e m = texts.clamp_row n s is P stays args m
  fast_made builtin.StringByte args e m = texts.byte_row n s is P stays args m
  fast_made builtin.StringChar args e m = texts.char_row n s is P stays args m
  fast_made builtin.StringLen args e m = texts.len_row n s is P stays args m
  fast_made builtin.StringSub args e m = texts.sub_row n s is P stays args m
  fast_made b args e m = absurd cc

module _ (n : ℕ) (s : Store) (is : IsStore n s) where
  stays : (vs : List Value) → AreMade n vs → AnswersAreMade n s vs s
  stays vs m = writing.stays n s is vs m

  lib_made : (b : Builtin) (args : List Value) → AreMade n args → Holds (AnswersAreMade n s) n (lib b args s)
  unfolding lib
  lib_made builtin.Print args m = reading.prints n s is (AnswersAreMade n s) stays args 0 [] args m m
  lib_made builtin.Tostring args m = reading.tostring_row n s is (AnswersAreMade n s) stays args m
  lib_made builtin.Tonumber args m = reading.tonumber_row n s is (AnswersAreMade n s) stays args m
  lib_made builtin.Assert args m = reading.assert_row n s is (AnswersAreMade n s) stays args m
  lib_made builtin.Error args m = reading.error_row n s is (AnswersAreMade n s) stays args m
  lib_made builtin.Pcall args m = reading.pcall_row n s is (AnswersAreMade n s) stays args m
  lib_made builtin.Xpcall args m = reading.xpcall_row n s is (AnswersAreMade n s) stays args m
  lib_made builtin.Select args m = reading.select_row n s is (AnswersAreMade n s) stays args m
  lib_made builtin.Next args m = reading.next_row n s is (AnswersAreMade n s) stays args m
  lib_made builtin.Pairs args m = reading.pairs_row n s is (AnswersAreMade n s) stays args m
  lib_made builtin.Ipairs args m = reading.ipairs_row n s is (AnswersAreMade n s) stays args m
  lib_made builtin.IpairsIterator args m = reading.ipairs_iterator_row n s is (AnswersAreMade n s) stays args m
  lib_made builtin.Rawset args m = writing.rawset_row n s is args m
  lib_made builtin.Getmetatable args m = reading.getmetatable_row n s is (AnswersAreMade n s) stays args m
  lib_made builtin.Setmetatable args m = writing.setmetatable_row n s is args m
  lib_made builtin.Getfenv args m = reading.getfenv_row n s is (AnswersAreMade n s) stays args m
  lib_made builtin.Setfenv args m = reading.setfenv_row n s is (AnswersAreMade n s) stays args m
  lib_made builtin.StringLower args m = texts.of_text n s is (AnswersAreMade n s) stays builtin.StringLower (map to_ascii_lowercase) args m
  lib_made builtin.StringUpper args m = texts.of_text n s is (AnswersAreMade n s) stays builtin.StringUpper (map to_ascii_uppercase) args m
  lib_made builtin.StringRep args m = texts.rep_row n s is (AnswersAreMade n s) stays args m
  lib_made builtin.StringReverse args m = texts.of_text n s is (AnswersAreMade n s) stays builtin.StringReverse reverse args m
  lib_made builtin.StringSplit args m = writing.split_row n s is args m
  lib_made builtin.StringFormat args m = texts.format_row n s is (AnswersAreMade n s) stays args m
  lib_made builtin.TableInsert args m = writing.insert_row n s is args m
  lib_made builtin.TableRemove args m = writing.remove_row n s is args m
  lib_made builtin.TableConcat args m = texts.concat_row n s is (AnswersAreMade n s) stays args m
  lib_made builtin.TableUnpack args m = texts.unpack_row n s is (AnswersAreMade n s) stays args m
  lib_made builtin.TablePack args m = writing.pack_row n s is args m
  lib_made builtin.TableCreate args m = writing.create_row n s is args m
  lib_made builtin.TableFind args m = texts.find_row n s is (AnswersAreMade n s) stays args m
  lib_made builtin.TableClear args m = writing.clear_row n s is args m
  lib_made builtin.TableClone args m = writing.clone_row n s is args m
  lib_made builtin.TableFreeze args m = writing.freeze_row n s is args m
  lib_made builtin.TableIsfrozen args m = texts.isfrozen_row n s is (AnswersAreMade n s) stays args m
  lib_made builtin.TableMove args m = writing.move_row n s is args m
  lib_made builtin.TableSort args m = writing.sort_row n s is args m
  lib_made builtin.CoroutineCreate args m = writing.co_create_row n s is args m
  lib_made builtin.CoroutineResume args m = texts.resume_row n s is (AnswersAreMade n s) stays args m
  lib_made builtin.CoroutineYield args m = texts.yield_row n s is (AnswersAreMade n s) stays args m
  lib_made builtin.CoroutineStatus args m = texts.status_row n s is (AnswersAreMade n s) stays args m
  lib_made builtin.CoroutineWrap args m = writing.co_wrap_row n s is args m
  lib_made builtin.CoroutineIsyieldable args m = texts.isyieldable_row n s is (AnswersAreMade n s) stays args m
  lib_made builtin.CoroutineRunning args m = texts.running_row n s is (AnswersAreMade n s) stays args m
  lib_made builtin.CoroutineClose args m = texts.close_row n s is (AnswersAreMade n s) stays args m
  lib_made b args m = fast_made n s is (AnswersAreMade n s) stays b args refl m

  goes_on_made : (b : Builtin) (c : Continue) (bs : Bytes) → AreMade n c.arguments → Holds (AnswersAreMade n s) n (goes_on b c s bs)
  goes_on_made builtin.Print c bs m =
      reading.prints n s is (AnswersAreMade n s) stays c.arguments (suc c.at) _ _ m (each_drop (IsMade n) (suc c.at) c.arguments m)
  goes_on_made builtin.StringFormat c bs m = texts.format_goes_on n s is (AnswersAreMade n s) stays c bs m
  goes_on_made b c bs m = reading.gives n s is (AnswersAreMade n s) stays (Text bs) tt

  go_on_made : (c : Continue) (v : Value) → AreMade n c.arguments → Holds (AnswersAreMade n s) n (go_on c v s)
  unfolding go_on
  go_on_made c v m = reading.text_given n s is (AnswersAreMade n s) stays v (goes_on c.builtin c s) (λ bs. goes_on_made c.builtin c bs m)

pub library_keeps : LibraryKeeps
library_keeps = record {
  calls = λ n s b args is m. (lib_made n s is b args m).holds;
  goes_on = λ n s c v is m j. (go_on_made n s is c v m).holds;
  fast =
      λ n s k b args e is m. (fast_made n s is (λ vs t. AreMade n vs × (t ≡ s)) (λ vs m. (m, refl)) b args (under_numbered numbered k b all_numbered e) m).holds;
}
