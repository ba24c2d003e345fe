-- What a part's code adds to the function: its labels, its branches, its words; and the functions that are done are as before, or more of them.
use Rattle.std.proofs.Common.{◌≡◌, ℕ, ◌+◌, ◌*◌, ◌≤◌, ◌<◌, ◌^◌, Bool, [], ◌∷◌, length, refl, ◌∙◌, subst, arith, IsTrue}
use Rattle.byte_text.specs.declared.fixed.StrId.{StrId}
use Rattle.op_words.specs.declared.chunk.Const.{Const}
use Rattle.op_words.specs.declared.insn.Insn.{Insn}
use Rattle.op_words.specs.Encoding.{encoded}
use Rattle.code_link.specs.declared.item.Item.TheVariants as item
use Rattle.code_link.specs.Labels.{is_jump, word_count}
use Rattle.emit_expr.specs.declared.draft.Emitter.{Emitter}
use Rattle.emit_expr.specs.Puts as puts
use Rattle.emit_expr.specs.Puts.{label, with_constant, with_string, declare, forget}
use Rattle.emit_expr.specs.Puts.{put as put_item}
use Rattle.link_laws.specs.Laws.{AreLinkable}
use Rattle.link_laws.proofs.Items.{hits, times, Covers, Jumps, times_insn, times_branch, times_label, words_insn, words_branch, words_label, covers_front, covers_last, jumps_both}
use Rattle.link_laws.proofs.Numbers.{none, label_is}

-- Labels are placed so often at most, and there are at most so many words more. Where what is needed holds, and each label that is
-- placed then is among F's, each branch leads to one of these.
pub record Adds (F : ℕ → Bool) (N : Type 0) (c : ℕ → ℕ) (w : ℕ) (d d' : Emitter) : Type 0 where
  pub labels : (l : ℕ) → times l d'.draft.items ≤ times l d.draft.items + c l
  pub words : word_count d'.draft.items ≤ word_count d.draft.items + w
  pub back : Covers F d'.draft.items → Covers F d.draft.items
  pub on : N → Covers F d'.draft.items → Jumps F d.draft.items → Jumps F d'.draft.items
  pub func : d'.draft.func ≡ d.draft.func
  pub protos : AreLinkable d.protos → AreLinkable d'.protos

pub nothing : (F : ℕ → Bool) (N : Type 0) (d : Emitter) → Adds F N none 0 d d
nothing F N d = record {
  labels = λ l. omega arith;
  words = omega arith;
  back = λ h. h;
  on = λ n h j. j;
  func = refl;
  protos = λ h. h;
}

pub both : {F : ℕ → Bool} {N : Type 0} {c1 c2 : ℕ → ℕ} {w1 w2 : ℕ} {d1 d2 d3 : Emitter} → Adds F N c1 w1 d1 d2 → Adds F N c2 w2 d2 d3
    → Adds F N (λ l. c1 l + c2 l) (w1 + w2) d1 d3
both p q = record {
  labels = λ l. let a = p.labels l in let b = q.labels l in omega (arith, a, b);
  words = let a = p.words in let b = q.words in omega (arith, a, b);
  back = λ h. p.back (q.back h);
  on = λ n h j. q.on n h (p.on n (q.back h) j);
  func = q.func ∙ p.func;
  protos = λ h. q.protos (p.protos h);
}

-- at most as much
pub fit : {F : ℕ → Bool} {N : Type 0} {c1 c2 : ℕ → ℕ} {w1 w2 : ℕ} {d1 d2 : Emitter} → Adds F N c1 w1 d1 d2 → ((l : ℕ) → c1 l ≤ c2 l) → w1 ≤ w2
    → Adds F N c2 w2 d1 d2
fit p few short = record {
  labels = λ l. let a = p.labels l in let b = few l in omega (arith, a, b);
  words = let a = p.words in omega (arith, a, short);
  back = p.back;
  on = p.on;
  func = p.func;
  protos = p.protos;
}

-- less is needed, where it is known what is placed then
pub sure : {F : ℕ → Bool} {N M : Type 0} {c : ℕ → ℕ} {w : ℕ} {d1 d2 : Emitter} → Adds F N c w d1 d2 → (M → Covers F d2.draft.items → N) → Adds F M c w d1 d2
sure p f = record {
  labels = p.labels;
  words = p.words;
  back = p.back;
  on = λ m h j. p.on (f m h) h j;
  func = p.func;
  protos = p.protos;
}

pub given : {F : ℕ → Bool} {N M : Type 0} {c : ℕ → ℕ} {w : ℕ} {d1 d2 : Emitter} → Adds F N c w d1 d2 → (M → N) → Adds F M c w d1 d2
given p f = sure p (λ m h. f m)

-- ---- an item

pub insn : (F : ℕ → Bool) (N : Type 0) (i : Insn) (d : Emitter) → Adds F N none (length (encoded i)) d (puts.insn i d)
unfolding put_item
insn F N i d = record {
  labels = λ l. let a = times_insn l d.draft.items i in omega (arith, a);
  words = let a = words_insn d.draft.items i in omega (arith, a);
  back = covers_front F d.draft.items (item.Insn i ∷ []);
  on = λ n h j. jumps_both F d.draft.items (item.Insn i ∷ []) j tt;
  func = refl;
  protos = λ h. h;
}

pub branch : (F : ℕ → Bool) (N : Type 0) (i : Insn) (k : ℕ) (d : Emitter) → IsTrue (is_jump i) → (N → IsTrue (F k))
    → Adds F N none (length (encoded i)) d (puts.branch i k d)
unfolding put_item
branch F N i k d is to = record {
  labels = λ l. let a = times_branch l d.draft.items i k in omega (arith, a);
  words = let a = words_branch d.draft.items i k in omega (arith, a);
  back = covers_front F d.draft.items (item.Branch i k ∷ []);
  on = λ n h j. jumps_both F d.draft.items (item.Branch i k ∷ []) j ((is, to n), tt);
  func = refl;
  protos = λ h. h;
}

pub place_at : (F : ℕ → Bool) (N : Type 0) (k : ℕ) (d : Emitter) → Adds F N (hits k) 0 d (puts.place k d)
unfolding put_item
place_at F N k d = record {
  labels = λ l. let a = times_label l d.draft.items k in omega (arith, a);
  words = let a = words_label d.draft.items k in omega (arith, a);
  back = covers_front F d.draft.items (item.Label k ∷ []);
  on = λ n h j. jumps_both F d.draft.items (item.Label k ∷ []) j tt;
  func = refl;
  protos = λ h. h;
}

-- a label of a node
pub place : (F : ℕ → Bool) (N : Type 0) (id spot : ℕ) (d : Emitter) → id < 2 ^ 62 → spot ≤ 3
    → Adds F N (hits (id * 4 + spot)) 0 d (puts.place (label id spot) d)
place F N id spot d lt le =
    subst (λ k. Adds F N (hits k) 0 d (puts.place (label id spot) d)) (label_is id spot lt le) (place_at F N (label id spot) d)

-- what is placed last is among F's
pub placed_last : (F : ℕ → Bool) (k : ℕ) (d : Emitter) → Covers F (puts.place k d).draft.items → IsTrue (F k)
unfolding put_item
placed_last F k d h = covers_last F d.draft.items k h

-- ---- what puts no item

pub constant : (F : ℕ → Bool) (N : Type 0) (k : Const) (d : Emitter) → Adds F N none 0 d (puts.with_constant k d)
unfolding with_constant
constant F N k d = record {
  labels = λ l. omega arith;
  words = omega arith;
  back = λ h. h;
  on = λ n h j. j;
  func = refl;
  protos = λ h. h;
}

pub string : (F : ℕ → Bool) (N : Type 0) (t : StrId) (d : Emitter) → Adds F N none 0 d (puts.with_string t d)
unfolding with_string
string F N t d = record {
  labels = λ l. omega arith;
  words = omega arith;
  back = λ h. h;
  on = λ n h j. j;
  func = refl;
  protos = λ h. h;
}

pub text : (F : ℕ → Bool) (N : Type 0) (t : StrId) (d : Emitter) → Adds F N none 0 d (puts.with_text t d)
text F N t d = fit (both (string F N t d) (constant F N (puts.text_constant t d) (puts.with_string t d))) (λ l. omega arith) (omega arith)

pub variable : (F : ℕ → Bool) (N : Type 0) (number register : ℕ) (d : Emitter) → Adds F N none 0 d (puts.declare number register d)
unfolding declare
variable F N number register d = record {
  labels = λ l. omega arith;
  words = omega arith;
  back = λ h. h;
  on = λ n h j. j;
  func = refl;
  protos = λ h. h;
}

pub forgotten : (F : ℕ → Bool) (N : Type 0) (left : ℕ) (d : Emitter) → Adds F N none 0 d (puts.forget left d)
unfolding forget
forgotten F N left d = record {
  labels = λ l. omega arith;
  words = omega arith;
  back = λ h. h;
  on = λ n h j. j;
  func = refl;
  protos = λ h. h;
}

-- ---- instructions of a word

pub one : (F : ℕ → Bool) (N : Type 0) (i : Insn) (d : Emitter) → length (encoded i) ≡ 1 → Adds F N none 1 d (puts.insn i d)
one F N i d e = subst (λ w. Adds F N none w d (puts.insn i d)) e (insn F N i d)

pub jump : (F : ℕ → Bool) (N : Type 0) (i : Insn) (k : ℕ) (d : Emitter) → length (encoded i) ≡ 1 → IsTrue (is_jump i) → (N → IsTrue (F k))
    → Adds F N none 1 d (puts.branch i k d)
jump F N i k d e is to = subst (λ w. Adds F N none w d (puts.branch i k d)) e (branch F N i k d is to)
