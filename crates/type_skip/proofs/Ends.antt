-- No part of a type goes beyond the last token.
use Rattle.std.proofs.Common.{◌≤◌, ◌+◌, ℕ, List, length, refl, arith}
use Rattle.syntax_tree.specs.declared.token.Token.{Token}
use Rattle.syntax_tree.specs.declared.token.TokenKind.{TokenKind}
use Rattle.syntax_tree.specs.declared.token.TokenKind.TheVariants as token
use Rattle.syntax_tree.specs.Places.{is_name, Optional, taken, absent}
use Rattle.syntax_tree.specs.Types.{is_literal, IsType, plain_type, barred_type, IsParts, last_part, more_parts, IsPart, part, IsMarks, no_mark, mark, IsMember, no_member, member, IsAtom, literal, variadic, named, type_of, table, function, IsArguments, no_arguments, arguments, IsResult, no_result, result, IsItem, plain_item, labelled_item, IsField, keyed_field, item_field, IsGeneric, generic, IsDefault, no_default, default}
use Rattle.type_skip.proofs.GoingOn.{within, has_within}

pub optional_ends : (ts : List Token) {kind : TokenKind} {i j : ℕ} → Optional ts kind i j → i ≤ length ts → j ≤ length ts
optional_ends ts {kind = kind} (taken i h) le = omega (arith, has_within ts i kind h)
optional_ends ts (absent i h) le = le

pub marks_end : (ts : List Token) {i j : ℕ} → IsMarks ts i j → i ≤ length ts → j ≤ length ts
marks_end ts (no_mark i h) le = le
marks_end ts (mark i j h m) le = marks_end ts m (omega (arith, has_within ts i token.Question h))

pub member_ends : (ts : List Token) {i j : ℕ} → IsMember ts i j → i ≤ length ts → j ≤ length ts
member_ends ts (no_member i h) le = le
member_ends ts (member i h g) le = omega (arith, within is_name ts (i + 1) refl g)

mutual
  pub type_ends : (ts : List Token) {n i j : ℕ} → IsType ts n i j → j ≤ length ts
  type_ends ts (plain_type n i j h p) = parts_end ts p
  type_ends ts (barred_type n i j h p) = parts_end ts p

  pub parts_end : (ts : List Token) {n i j : ℕ} → IsParts ts n i j → j ≤ length ts
  parts_end ts (last_part n i j p h) = part_ends ts p
  parts_end ts (more_parts n i j k p h ps) = parts_end ts ps

  pub part_ends : (ts : List Token) {n i j : ℕ} → IsPart ts n i j → j ≤ length ts
  part_ends ts (part n i j k a m) = marks_end ts m (atom_ends ts a)

  pub atom_ends : (ts : List Token) {n i j : ℕ} → IsAtom ts n i j → j ≤ length ts
  atom_ends ts (literal n i h) = omega (arith, within is_literal ts i refl h)
  atom_ends ts (variadic n i j h p) = part_ends ts p
  atom_ends ts (named n i j k l h g m a d) = optional_ends ts d (arguments_end ts a (member_ends ts m (omega (arith, within is_name ts i refl h))))
  atom_ends ts (type_of n i j h b g) = omega (arith, has_within ts j token.CloseParen g)
  atom_ends ts (table n i j h f g) = omega (arith, has_within ts j token.CloseBrace g)
  atom_ends ts (function n i j k l g h p q r) = result_ends ts r (omega (arith, has_within ts k token.CloseParen q))

  pub arguments_end : (ts : List Token) {n i j : ℕ} → IsArguments ts n i j → i ≤ length ts → j ≤ length ts
  arguments_end ts (no_arguments n i h) le = le
  arguments_end ts (arguments n i j h p g) le = omega (arith, has_within ts j token.Greater g)

  pub result_ends : (ts : List Token) {n i j : ℕ} → IsResult ts n i j → i ≤ length ts → j ≤ length ts
  result_ends ts (no_result n i h) le = le
  result_ends ts (result n i j h t) le = type_ends ts t

pub item_ends : (ts : List Token) {n i j : ℕ} → IsItem ts n i j → j ≤ length ts
item_ends ts (plain_item n i j h t) = type_ends ts t
item_ends ts (labelled_item n i j h t) = type_ends ts t

pub field_ends : (ts : List Token) {n i j : ℕ} → IsField ts n i j → j ≤ length ts
field_ends ts (keyed_field n i j k h t g e u) = type_ends ts u
field_ends ts (item_field n i j h p) = item_ends ts p

default_ends : (ts : List Token) {n i j : ℕ} → IsDefault ts n i j → i ≤ length ts → j ≤ length ts
default_ends ts (no_default n i h) le = le
default_ends ts (default n i j h t) le = type_ends ts t

pub generic_ends : (ts : List Token) {n i j : ℕ} → IsGeneric ts n i j → j ≤ length ts
generic_ends ts (generic n i j k h o d) = default_ends ts d (optional_ends ts o (omega (arith, within is_name ts i refl h)))
