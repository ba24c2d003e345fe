use Rattle.std.proofs.Common.{◌≡◌, sym, ap, subst, ◌+◌, ◌∷◌, ◌++◌, drop, length, nat_eq, Some, rules}
use Rattle.std.specs.HashMap as hash
use Rattle.std.specs.Int.{w16}
use Rattle.std.specs.Prelude.{FitsSigned}
use Rattle.std.proofs.lemmas.Int.{to_z-of_z}
use Rattle.op_words.specs.Encoding.{encoded}
use Rattle.code_link.specs.declared.item.Item.{Item}
use Rattle.code_link.specs.declared.item.Item.TheVariants.{Insn, Branch, Label}
use Rattle.code_link.specs.Linking.{jumping}
use Rattle.code_link.specs.Making.{distance}
use Rattle.code_link.proofs.Placing.{drop_item, Makes, makes_insn, makes_branch, makes_label}
use Rattle.code_link.proofs.linking.resolve.Goals as goal
use Rattle.code_link.proofs.linking.resolve.Goals.{in-Insn+in_ok-push_words-in-Insn, in-Branch+in_ok-push_words-in-Branch, in-Label}

pub loop-item-preserved : goal.loop-item-preserved
loop-item-preserved c =
    let items = c.args.items.now in
    let at = c.loop-item.item-index in
    let rest = drop (at + 1) items in
    let place = hash.get nat_eq c.args.places.now in
    let code = c.loop-item.code.items in
    let from : (item : Item) → drop at items ≡ item ∷ rest → Makes place items (item ∷ rest) code = λ item e. subst (λ is. Makes place items is code) e c.loop-item.invariant in
    elim c.match-item.branch [
      | in-Insn+in_ok-push_words-in-Insn w ↦
          let more : c.match-item.code.items ≡ code ++ encoded w.in-Insn.insn = rw w.code-is w.in_ok-push_words-in-Insn.ensures in
          makes_insn place items rest code c.match-item.code.items w.in-Insn.insn (from (Insn w.in-Insn.insn) (drop_item items at _ _ c.loop-item-test.true w.in-Insn.is)) more
      | in-Branch+in_ok-push_words-in-Branch w ↦
          let more : c.match-item.code.items ≡ code ++ encoded w.jumping-jump.result = rw w.code-is w.in_ok-push_words-in-Branch.ensures in
          let there : place w.in-Branch.label ≡ Some w.unwrap-place.result = search rules in
          let by : w.distance.result ≡ distance (length code) w.unwrap-place.result = search rules in
          let fits : FitsSigned w16 w.distance.result = search rules in
          let jump : w.jumping-jump.result ≡ jumping w.in-Branch.insn (distance (length code) w.unwrap-place.result) = rw (← by) (let j = w.jumping-jump.ensures in simp to_z-of_z at j) in
          makes_branch place items rest code c.match-item.code.items w.in-Branch.insn w.jumping-jump.result w.in-Branch.label w.unwrap-place.result (from (Branch w.in-Branch.insn w.in-Branch.label) (drop_item items at _ _ c.loop-item-test.true w.in-Branch.is)) there jump more
      | in-Label w ↦
          subst (λ ws. Makes place items rest ws) (ap (λ v. v.items) (sym w.code-is)) (makes_label place items rest code w.in-Label.field-0 (from (Label w.in-Label.field-0) (drop_item items at _ _ c.loop-item-test.true w.in-Label.is)))
    ]
