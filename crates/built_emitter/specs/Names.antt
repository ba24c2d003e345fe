-- The names of the locals in scope, the newest first, and their registers.
use Rattle.std.specs.Prelude.{ℕ, List, ◌++◌, reverse, Option}
use Rattle.byte_text.specs.declared.fixed.StrId.{StrId}
use Rattle.syntax_tree.specs.declared.tree.Stat.{Stat}
use Rattle.syntax_tree.specs.declared.tree.StatKind.{out-StatKind}
use Rattle.syntax_tree.specs.Scope.{look}
use Rattle.scope_laws.specs.Sight.{StatLevel, visible, stat_shows}
use Rattle.built_emitter.specs.Standing.{names_of}

-- the register of the local that a name stands for; the locals in scope have registers from 0 on, the oldest first
abbrev pub register_of : List StrId → StrId → Option ℕ
register_of names x = look x (visible 0 (reverse names))

-- the names that a statement makes visible behind it come in front
abbrev pub names_beyond : StatLevel → List StrId → List StrId
names_beyond l names = reverse (names_of (stat_shows l 0)) ++ names

-- the names in scope after a statement
abbrev pub names_after : List StrId → Stat → List StrId
names_after names s = names_beyond (out-StatKind s.kind) names
