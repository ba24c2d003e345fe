use Rattle.std.proofs.Common.{◌≡◌, sym, ap, ◌∙◌, subst, ℕ, ◌+◌, ◌∷◌, Option, drop, length, nat_eq, inl, inr}
use Rattle.std.specs.HashMap as hash
use Rattle.op_words.specs.Encoding.{encoded}
use Rattle.code_link.specs.declared.item.Item.{Item}
use Rattle.code_link.specs.declared.item.Item.TheVariants.{Insn, Branch, Label}
use Rattle.code_link.proofs.Placing.{drop_item, Places, places_insn, places_branch, places_label}
use Rattle.code_link.proofs.linking.places_of.Goals as goal
use Rattle.code_link.proofs.linking.places_of.Goals.{in-Label+in_ok-insert-in-Label, in-Insn2}

pub loop-item-preserved : goal.loop-item-preserved
loop-item-preserved c =
    let items = c.args.items.now in
    let at = c.loop-item.item-index in
    let rest = drop (at + 1) items in
    let table = hash.get nat_eq c.loop-item.places in
    let from : (item : Item) → drop at items ≡ item ∷ rest → Places items (item ∷ rest) c.loop-item.here table = λ item e. subst (λ is. Places items is c.loop-item.here table) e c.loop-item.invariant in
    let after : (here : ℕ) (t : ℕ → Option ℕ) → here ≡ c.match-item.here → t ≡ hash.get nat_eq c.match-item.places → Places items rest here t → Places items rest c.match-item.here (hash.get nat_eq c.match-item.places) = λ here t e f p. subst (λ h. Places items rest h (hash.get nat_eq c.match-item.places)) e (subst (λ g. Places items rest here g) f p) in
    elim c.match-item.branch [
      | in-Label+in_ok-insert-in-Label w ↦
          after c.loop-item.here (hash.get nat_eq w.insert.new.self) (sym w.here-is) (ap (hash.get nat_eq) (sym w.places-is))
          (places_label items rest c.loop-item.here table (hash.get nat_eq w.insert.new.self) w.in-Label.label (from (Label w.in-Label.label) (drop_item items at _ _ c.loop-item-test.true w.in-Label.is)) w.in_ok-insert-in-Label.ensures.updates.0)
      | in-Insn2 w ↦
          after (c.loop-item.here + length (encoded w.in-Insn.insn)) table (ap (λ n. c.loop-item.here + n) (sym w.word_count-here.ensures) ∙ sym w.here-is) (ap (hash.get nat_eq) (sym w.places-is))
          (elim w.in-Insn.is [
            | inl e ↦ places_insn items rest c.loop-item.here table w.in-Insn.insn (from (Insn w.in-Insn.insn) (drop_item items at _ _ c.loop-item-test.true e))
            | inr e ↦ places_branch items rest c.loop-item.here table w.in-Insn.insn e.0 (from (Branch w.in-Insn.insn e.0) (drop_item items at _ _ c.loop-item-test.true e.1))
          ])
    ]
