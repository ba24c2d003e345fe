use Rattle.std.proofs.Common.{refl, sym}
use Rattle.syntax_tree.specs.Types.{no_member, member}
use Rattle.type_skip.proofs.Atoms.{stuck_member}
use Rattle.type_skip.proofs.parts.member_end.Goals as goal

pub returns-then-not-stands : goal.returns-then-not-stands
returns-then-not-stands c = λ room. no_member c.args.at (c.if-not-stands.ensures.absent refl)

pub returns-then-not-is_name : goal.returns-then-not-is_name
returns-then-not-is_name c = λ room. stuck_member c.args.tokens.now room c.args.at (c.if-not-stands.ensures.there refl) (sym c.if-not-is_name.ensures.value)

pub returns : goal.returns
returns c = λ room. member c.args.at (c.if-not-stands.ensures.there refl) (sym c.if-not-is_name.ensures.value)
