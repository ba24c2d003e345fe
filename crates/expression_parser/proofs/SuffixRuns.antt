-- Suffixes behind a part of a prefix, one after the other.
use Rattle.std.proofs.Common.{◌≡◌, ◌≤◌, ◌<◌, ◌+◌, ◌-◌, ℕ, length, Bool, true, false, List, ◌∷◌, Ok, Err, refl, sym, ap, ◌∙◌, arith}
use Rattle.syntax_tree.specs.declared.token.Token.{Token}
use Rattle.syntax_tree.specs.Grammar.{no_suffix}
use Rattle.syntax_tree.specs.Places.{kind_at}
use Rattle.type_skip.proofs.GoingOn.{within}
use Rattle.parse_steps.specs.declared.classes.Suffix.{Suffix}
use Rattle.parse_steps.specs.declared.classes.Suffix.TheVariants as class
use Rattle.parse_steps.specs.Classes.{suffix}
use Rattle.parse_steps.specs.Items as item
use Rattle.parse_steps.specs.Items.{Item, PrefixUse, depth}
use Rattle.parse_steps.specs.Steps.{most, Leads, here}
use Rattle.expression_parser.specs.declared.fault.Fault.{Fault}
use Rattle.expression_parser.specs.declared.parts.Prefix.{Prefix}
use Rattle.expression_parser.specs.Reading.{ending_of, FindsSuffixes}
use Rattle.expression_parser.specs.Inner.{IsOneSuffix, FindsSuffix}
use Rattle.expression_parser.proofs.Leading.{then_leads, then_fails}
use Rattle.expression_parser.proofs.SuffixTurns.{opens_none}

-- turns between two parts of a prefix
abbrev pub Between : List Token → (room : ℕ) → (first prefix : Prefix) → Type 0
Between ts room first prefix = (u : PrefixUse) (k : List Item) → depth k + room ≡ most
    → Leads ts first.part.end first.part.nest (item.suffixes (ending_of first.ending) u ∷ k) prefix.part.end prefix.part.nest
    (item.suffixes (ending_of prefix.ending) u ∷ k)

-- what was read since the first part
pub record SuffixesSoFar (ts : List Token) (room b : ℕ) (first prefix : Prefix) : Type 0 where
  pub whole : IsOneSuffix ts b first prefix
  pub runs : Between ts room first prefix
  pub nest : prefix.part.nest ≤ room
  pub onward : first.part.end ≤ prefix.part.end

pub no_suffix_yet : (ts : List Token) (room b : ℕ) (first : Prefix) → first.part.nest ≤ room → SuffixesSoFar ts room b first first
no_suffix_yet ts room b first le = record { whole = λ e d j rest. rest; runs = λ u k deep. here _ _ _; nest = le; onward = omega arith }

-- one suffix more
pub one_suffix : (ts : List Token) (room b : ℕ) (first prefix further : Prefix) → SuffixesSoFar ts room b first prefix
    → FindsSuffix ts room b prefix (Ok further) → SuffixesSoFar ts room b first further
one_suffix ts room b first prefix further so_far found = record {
  whole = λ e d j rest. so_far.whole e d j ((found item.in_expression).0.0 e d j rest);
  runs = λ u k deep. then_leads (so_far.runs u k deep) ((found u).1 0 k deep);
  nest = (found item.in_expression).0.1;
  onward = omega (arith, so_far.onward, (found item.in_expression).0.2);
}

-- a suffix that cannot be read
pub no_further : (ts : List Token) (room b : ℕ) (first prefix : Prefix) (f : Fault) → SuffixesSoFar ts room b first prefix
    → FindsSuffix ts room b prefix (Err f) → FindsSuffixes ts room b first (Err f)
no_further ts room b first prefix f so_far found u v k deep = then_fails (so_far.runs u k deep) f (found u v k deep)

-- no suffix more
pub all_suffixes : (ts : List Token) (room b : ℕ) (first prefix : Prefix) → SuffixesSoFar ts room b first prefix
    → suffix (kind_at ts prefix.part.end) ≡ class.Nothing → FindsSuffixes ts room b first (Ok prefix)
all_suffixes ts room b first prefix so_far none u = (
  (
    (
      so_far.whole prefix.part.expr (ending_of prefix.ending) prefix.part.end
          (no_suffix b prefix.part.end prefix.part.expr (ending_of prefix.ending) (opens_none (kind_at ts prefix.part.end) none)),
      none,
    ),
    so_far.nest,
    so_far.onward,
  ),
  λ v k deep. so_far.runs u k deep,
)

-- less is left behind a suffix
abbrev pub is_one : Suffix → Bool
is_one class.Nothing = false
is_one _ = true

pub less_left : (ts : List Token) (room b : ℕ) (prefix further : Prefix) (s : Suffix) → s ≡ suffix (kind_at ts prefix.part.end)
    → is_one s ≡ true → FindsSuffix ts room b prefix (Ok further) → length ts - further.part.end < length ts - prefix.part.end
less_left ts room b prefix further s class_is one found =
    let there = within (λ t. is_one (suffix t)) ts prefix.part.end refl (ap is_one (sym class_is) ∙ one) in
    let on = (found item.in_expression).0.2 in
    omega (arith, there, on)
