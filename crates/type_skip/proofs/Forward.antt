-- No part of a type ends before the place where it begins.
use Rattle.std.proofs.Common.{◌≤◌, ◌<◌, ℕ, List, arith}
use Rattle.syntax_tree.specs.declared.token.Token.{Token}
use Rattle.syntax_tree.specs.declared.token.TokenKind.{TokenKind}
use Rattle.syntax_tree.specs.Places.{Optional, taken, absent}
use Rattle.syntax_tree.specs.Types.{IsType, plain_type, barred_type, IsParts, last_part, more_parts, IsPart, part, IsMarks, no_mark, mark, IsMember, no_member, member, IsBalanced, balanced, plain, interp_begin, interp_mid, interp_end, bracket, IsAtom, literal, variadic, named, type_of, table, function, IsArguments, no_arguments, arguments, IsResult, no_result, result, IsItems, no_items, items, IsItemList, last_item, more_items, IsItem, plain_item, labelled_item, IsFields, no_fields, last_field, more_fields, IsField, keyed_field, item_field, IsGenerics, no_generics, generics, IsGenericList, last_generic, more_generics, IsGeneric, generic, IsDefault, no_default, default}

pub optional_forward : {ts : List Token} {kind : TokenKind} {i j : ℕ} → Optional ts kind i j → i ≤ j
optional_forward (taken i h) = omega arith
optional_forward (absent i h) = omega arith

pub marks_forward : {ts : List Token} {i j : ℕ} → IsMarks ts i j → i ≤ j
marks_forward (no_mark i h) = omega arith
marks_forward (mark i j h m) = omega (arith, marks_forward m)

pub member_forward : {ts : List Token} {i j : ℕ} → IsMember ts i j → i ≤ j
member_forward (no_member i h) = omega arith
member_forward (member i h g) = omega arith

pub balanced_forward : {ts : List Token} {n s i j : ℕ} → IsBalanced ts n s i j → i ≤ j
balanced_forward (balanced n i h) = omega arith
balanced_forward (plain n s i j h b) = omega (arith, balanced_forward b)
balanced_forward (interp_begin n s i j x h b) = omega (arith, balanced_forward b)
balanced_forward (interp_mid n s i j x h b) = omega (arith, balanced_forward b)
balanced_forward (interp_end n s i j x h b) = omega (arith, balanced_forward b)
balanced_forward (bracket n s i j k c h b g d) = omega (arith, balanced_forward b, balanced_forward d)

mutual
  pub type_forward : {ts : List Token} {n i j : ℕ} → IsType ts n i j → i < j
  type_forward (plain_type n i j h p) = parts_forward p
  type_forward (barred_type n i j h p) = omega (arith, parts_forward p)

  pub parts_forward : {ts : List Token} {n i j : ℕ} → IsParts ts n i j → i < j
  parts_forward (last_part n i j p h) = part_forward p
  parts_forward (more_parts n i j k p h ps) = omega (arith, part_forward p, parts_forward ps)

  pub part_forward : {ts : List Token} {n i j : ℕ} → IsPart ts n i j → i < j
  part_forward (part n i j k a m) = omega (arith, atom_forward a, marks_forward m)

  pub atom_forward : {ts : List Token} {n i j : ℕ} → IsAtom ts n i j → i < j
  atom_forward (literal n i h) = omega arith
  atom_forward (variadic n i j h p) = omega (arith, part_forward p)
  atom_forward (named n i j k l h g m a d) = omega (arith, member_forward m, arguments_forward a, optional_forward d)
  atom_forward (type_of n i j h b g) = omega (arith, balanced_forward b)
  atom_forward (table n i j h f g) = omega (arith, fields_forward f)
  atom_forward (function n i j k l g h p q r) = omega (arith, generics_forward g, items_forward p, result_forward r)

  pub arguments_forward : {ts : List Token} {n i j : ℕ} → IsArguments ts n i j → i ≤ j
  arguments_forward (no_arguments n i h) = omega arith
  arguments_forward (arguments n i j h p g) = omega (arith, items_forward p)

  pub result_forward : {ts : List Token} {n i j : ℕ} → IsResult ts n i j → i ≤ j
  result_forward (no_result n i h) = omega arith
  result_forward (result n i j h t) = omega (arith, type_forward t)

  pub items_forward : {ts : List Token} {c : TokenKind} {n i j : ℕ} → IsItems ts c n i j → i ≤ j
  items_forward (no_items c n i h) = omega arith
  items_forward (items c n i j h p) = omega (arith, item_list_forward p)

  pub item_list_forward : {ts : List Token} {n i j : ℕ} → IsItemList ts n i j → i < j
  item_list_forward (last_item n i j p h) = item_forward p
  item_list_forward (more_items n i j k p h ps) = omega (arith, item_forward p, item_list_forward ps)

  pub item_forward : {ts : List Token} {n i j : ℕ} → IsItem ts n i j → i < j
  item_forward (plain_item n i j h t) = type_forward t
  item_forward (labelled_item n i j h t) = omega (arith, type_forward t)

  pub fields_forward : {ts : List Token} {n i j : ℕ} → IsFields ts n i j → i ≤ j
  fields_forward (no_fields n i h) = omega arith
  fields_forward (last_field n i j h f g) = omega (arith, field_forward f)
  fields_forward (more_fields n i j k h f g fs) = omega (arith, field_forward f, fields_forward fs)

  pub field_forward : {ts : List Token} {n i j : ℕ} → IsField ts n i j → i < j
  field_forward (keyed_field n i j k h t g e u) = omega (arith, type_forward t, type_forward u)
  field_forward (item_field n i j h p) = item_forward p

  pub generics_forward : {ts : List Token} {n i j : ℕ} → IsGenerics ts n i j → i ≤ j
  generics_forward (no_generics n i h) = omega arith
  generics_forward (generics n i j h g e) = omega (arith, generic_list_forward g)

  pub generic_list_forward : {ts : List Token} {n i j : ℕ} → IsGenericList ts n i j → i < j
  generic_list_forward (last_generic n i j g h) = generic_forward g
  generic_list_forward (more_generics n i j k g h gs) = omega (arith, generic_forward g, generic_list_forward gs)

  pub generic_forward : {ts : List Token} {n i j : ℕ} → IsGeneric ts n i j → i < j
  generic_forward (generic n i j k h o d) = omega (arith, optional_forward o, default_forward d)

  pub default_forward : {ts : List Token} {n i j : ℕ} → IsDefault ts n i j → i ≤ j
  default_forward (no_default n i h) = omega arith
  default_forward (default n i j h t) = omega (arith, type_forward t)
