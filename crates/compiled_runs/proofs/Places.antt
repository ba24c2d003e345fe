-- Where what is emitted stands in the code of its function.
use Rattle.std.proofs.Common.{◌≡◌, ℕ, ◌+◌, ◌≤◌, List, [], ◌∷◌, ◌++◌, length, Some, refl, sym, ap, ◌∙◌, arith, subst, append_assoc}
use Rattle.op_words.specs.declared.insn.Insn.{Insn as Instruction}
use Rattle.op_words.specs.Encoding.{encoded}
use Rattle.op_words.specs.Decoding.{insn_at}
use Rattle.code_link.specs.declared.item.Item.{Item}
use Rattle.code_link.specs.declared.item.Item.TheVariants as item
use Rattle.code_link.specs.Labels.{word_count, place_in}
use Rattle.emit_expr.specs.declared.draft.Draft.{Draft}
use Rattle.emit_expr.specs.declared.draft.Emitter.{Emitter}
use Rattle.byte_text.specs.declared.fixed.StrId.{StrId}
use Rattle.op_words.specs.declared.chunk.Const.{Const}
use Rattle.emit_expr.specs.Puts.{put, insn, place, branch, with_constant, with_string, with_text, text_constant}
use Rattle.emit_laws.specs.Growing.{Prefix, Grows}
use Rattle.emit_laws.proofs.Grows as grows
use Rattle.compiled_runs.proofs.Reading.{ReadsJump, AreRead, read_behind, words_more}

-- where the next item comes to stand
abbrev pub here : Emitter → ℕ
here d = word_count d.draft.items

-- What was emitted at some time stands in the function that is done, and in all that was emitted
pub record Inside (final : Draft) (whole d : Emitter) : Type 0 where
  pub func : final.func ≡ d.draft.func
  pub items : Prefix d.draft.items final.items
  pub constants : Prefix d.draft.constants final.constants
  pub children : Prefix d.draft.children final.children
  pub protos : Prefix d.protos whole.protos
  pub strings : Prefix d.strings whole.strings

-- what was emitted before does too
pub before : (final : Draft) (whole d d' : Emitter) → Grows d d' → Inside final whole d' → Inside final whole d
before final whole d d' g i = record {
  func = i.func ∙ g.func;
  items = grows.longer d.draft.items d'.draft.items final.items g.items i.items;
  constants = grows.longer d.draft.constants d'.draft.constants final.constants g.constants i.constants;
  children = grows.longer d.draft.children d'.draft.children final.children g.children i.children;
  protos = grows.longer d.protos d'.protos whole.protos g.protos i.protos;
  strings = grows.longer d.strings d'.strings whole.strings g.strings i.strings;
}

pub before_put : (final : Draft) (whole : Emitter) (x : Item) (d : Emitter) → Inside final whole (put x d) → Inside final whole d
before_put final whole x d i = before final whole d (put x d) (grows.put x d d (grows.none d)) i

-- ---- places

items_put : (x : Item) (d : Emitter) → (put x d).draft.items ≡ d.draft.items ++ x ∷ []
unfolding put
items_put x d = refl

here_put : (x : Item) (d : Emitter) → here (put x d) ≡ here d + word_count (x ∷ [])
here_put x d = ap word_count (items_put x d) ∙ words_more d.draft.items (x ∷ [])

pub here_insn : (i : Instruction) (d : Emitter) → here (insn i d) ≡ here d + length (encoded i)
here_insn i d = omega (arith, here_put (item.Insn i) d)

pub here_branch : (i : Instruction) (l : ℕ) (d : Emitter) → here (branch i l d) ≡ here d + length (encoded i)
here_branch i l d = omega (arith, here_put (item.Branch i l) d)

pub here_place : (l : ℕ) (d : Emitter) → here (place l d) ≡ here d
here_place l d = omega (arith, here_put (item.Label l) d)

-- constants and texts take no place
pub here_constant : (k : Const) (d : Emitter) → here (with_constant k d) ≡ here d
unfolding with_constant
here_constant k d = refl

here_string : (t : StrId) (d : Emitter) → here (with_string t d) ≡ here d
unfolding with_string
here_string t d = refl

pub here_text : (t : StrId) (d : Emitter) → here (with_text t d) ≡ here d
here_text t d = here_constant (text_constant t d) (with_string t d) ∙ here_string t d

-- places rise
pub rises : (d d' : Emitter) → Grows d d' → here d ≤ here d'
rises d d' g =
    let e : here d' ≡ here d + word_count g.items.more = ap word_count g.items.is ∙ words_more d.draft.items g.items.more in
    omega (arith, e)

-- ---- what is read there

module _ (final : Draft) (whole : Emitter) (code : List ℕ) (read : AreRead code (place_in final.items 0) 0 final.items) where
  -- an item and those behind it
  item_read : (x : Item) (d : Emitter) → Inside final whole (put x d)
      → (more : List Item) × AreRead code (place_in final.items 0) (here d) (x ∷ more)
  item_read x d i =
      let is : final.items ≡ d.draft.items ++ x ∷ i.items.more =
      i.items.is ∙ ap (λ l. l ++ i.items.more) (items_put x d) ∙ append_assoc d.draft.items (x ∷ []) i.items.more in
      let there : AreRead code (place_in final.items 0) (0 + here d) (x ∷ i.items.more) =
      read_behind code (place_in final.items 0) d.draft.items (x ∷ i.items.more) 0 (subst (AreRead code (place_in final.items 0) 0) is read) in
      let zero_more : 0 + here d ≡ here d = omega arith in
      (i.items.more, subst (λ n. AreRead code (place_in final.items 0) n (x ∷ i.items.more)) zero_more there)

  pub insn_read : (i : Instruction) (d : Emitter) → Inside final whole (insn i d) → insn_at code (here d) ≡ Some (i, here (insn i d))
  insn_read i d s = (item_read (item.Insn i) d s).1.0 ∙ ap (λ n. Some (i, n)) (sym (here_insn i d))

  pub branch_read : (i : Instruction) (l : ℕ) (d : Emitter) → Inside final whole (branch i l d)
      → ReadsJump code (here d) i (place_in final.items 0 l)
  branch_read i l d s = (item_read (item.Branch i l) d s).1.0

  pub label_read : (l : ℕ) (d : Emitter) → Inside final whole (place l d) → place_in final.items 0 l ≡ Some (here d)
  label_read l d s = (item_read (item.Label l) d s).1.0
