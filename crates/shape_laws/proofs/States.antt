-- A function of a shape so far, and each step that puts something into it.
use Rattle.std.proofs.Common.{◌≡◌, ℕ, ◌+◌, ◌<◌, ◌≤◌, ◌^◌, ℤ, Bool, true, false, List, [], ◌∷◌, ◌++◌, length, Some, refl, sym, ap, ◌∙◌, subst, arith, min, ◌⊎◌, inl, inr, ⊎_elim, append_assoc}
use Rattle.std.specs.Prelude.{slice_get}
use Rattle.byte_text.specs.declared.fixed.StrId.{StrId}
use Rattle.op_words.specs.declared.chunk.Const.{Const}
use Rattle.op_words.specs.declared.chunk.Const.TheVariants as constant
use Rattle.op_words.specs.declared.insn.Insn.{Insn}
use Rattle.op_words.specs.declared.insn.Insn.TheVariants as i
use Rattle.op_words.specs.Encoding.{encoded}
use Rattle.code_link.specs.declared.item.Item.{Item}
use Rattle.code_link.specs.declared.item.Item.TheVariants as item
use Rattle.code_link.specs.Labels.{word_count}
use Rattle.syntax_tree.specs.declared.bindings.Bindings.{Bindings}
use Rattle.machine_meaning.specs.Needs as needs
use Rattle.machine_meaning.specs.Needs.{is_wanted, goes_back}
use Rattle.emit_expr.specs.declared.draft.Emitter.{Emitter}
use Rattle.emit_expr.specs.declared.draft.Prototype.{Prototype}
use Rattle.emit_expr.specs.Puts as puts
use Rattle.emit_expr.specs.Puts.{with_constant, with_string, declare, forget}
use Rattle.emit_expr.specs.Puts.{put as put_item}
use Rattle.emit_laws.proofs.Grows as grows
use Rattle.link_laws.proofs.Items.{words_insn, words_branch, words_label}
use Rattle.shape_laws.specs.Order.{Owed, Nothing, past_label, step, walk}
use Rattle.shape_laws.specs.Jumps.{Among, Await, Ahead, Around, awaited, Jumps}
use Rattle.shape_laws.specs.Named.{PlainItem, Body, IsConstant, AreConstants}
use Rattle.shape_laws.specs.Shaped.{AreChildren, AreShaped}
use Rattle.shape_laws.proofs.Lists.{body_last, body_more, get_front, get_within, found_first, found_text, is_added, one_added, constants_added, constants_more, shaped_more, prefix_length}
use Rattle.shape_laws.proofs.Walking.{walk_last, seen, seen_both, jumps_insn, jumps_ahead, jumps_back, jumps_label, jumps_end, jumps_await}
use Rattle.shape_laws.proofs.Simple.{Simple, Calm, free_step, simple_plain, calm_plain, insn_by, Onward, one_wanted}

-- What is known of the function around: the labels that are placed, what is pending, the places of some constants, by how many the
-- constants are more than the words, and how the function begins
pub record Frame : Type 0 where
  pub placed : List ℕ
  pub pending : List Await
  pub kept : List (ℕ × Const)
  pub credit : ℕ
  pub vararg : Bool
  pub params : ℕ

abbrev pub awaiting : Await → Frame → Frame
awaiting w k = record { placed = k.placed; pending = w ∷ k.pending; kept = k.kept; credit = k.credit; vararg = k.vararg; params = k.params }

abbrev pub placing : ℕ → Frame → Frame
placing l k = record { placed = l ∷ k.placed; pending = k.pending; kept = k.kept; credit = k.credit; vararg = k.vararg; params = k.params }

abbrev pub owing : Frame → Frame
owing k = record { placed = k.placed; pending = k.pending; kept = k.kept; credit = k.credit + 1; vararg = k.vararg; params = k.params }

abbrev pub keeping : (ℕ × Const) → Frame → Frame
keeping x k = record { placed = k.placed; pending = k.pending; kept = x ∷ k.kept; credit = k.credit; vararg = k.vararg; params = k.params }

-- The function has the shape so far, where these functions are put behind those that are done
pub record Full (b : Bindings) (later : List Prototype) (k : Frame) (o : Owed) (d : Emitter) : Type 0 where
  pub counts : List ℕ
  pub order : length d.draft.children < 2 ^ 15 → walk counts Nothing d.draft.items ≡ Some o
  pub body : length d.draft.constants < 2 ^ 15 → Body k.vararg k.params d.draft.constants d.draft.items
  pub constants_few : length d.draft.constants ≤ k.credit + word_count d.draft.items
  pub children_few : length d.draft.children ≤ word_count d.draft.items
  pub jumps : Jumps [] k.pending d.draft.items
  pub placed : (l : ℕ) → Among l k.placed → Among l (seen [] d.draft.items)
  pub kept : (x : ℕ × Const) → Among x k.kept → slice_get d.draft.constants x.0 ≡ Some x.1
  pub constants : AreConstants (length d.strings) d.draft.constants
  pub children : AreChildren b (d.protos ++ later) d.draft.children counts
  pub protos : AreShaped b (length d.strings) [] d.protos
  pub behind : AreShaped b (length d.strings) d.protos later

abbrev pub State : Bindings → Frame → Owed → Emitter → Type 0
State b k o d = Full b [] k o d

seen_grows : (l : ℕ) (ps : List ℕ) (is : List Item) → Among l ps → Among l (seen ps is)
seen_grows l ps [] h = h
seen_grows l ps (item.Insn x ∷ is) h = seen_grows l ps is h
seen_grows l ps (item.Branch x m ∷ is) h = seen_grows l ps is h
seen_grows l ps (item.Label m ∷ is) h = seen_grows l (m ∷ ps) is (inr h)

pub seen_more : (l : ℕ) (is : List Item) (x : Item) → Among l (seen [] is) → Among l (seen [] (is ++ x ∷ []))
seen_more l is x h = subst (λ ps. Among l ps) (sym (seen_both [] is (x ∷ []))) (seen_grows l (seen [] is) (x ∷ []) h)

seen_last : (l : ℕ) (is : List Item) → Among l (seen [] (is ++ item.Label l ∷ []))
seen_last l is = subst (λ ps. Among l ps) (sym (seen_both [] is (item.Label l ∷ []))) (inl refl)

-- each instruction has a word
one_word : (x : Insn) → 1 ≤ length (encoded x)
one_word x = omega arith

module _ (b : Bindings) where
  -- ---- items

  module _ (later : List Prototype) (k k' : Frame) (same : k'.pending ≡ k.pending) (held : k'.placed ≡ k.placed) (still : k'.kept ≡ k.kept)
      (is_vararg : k'.vararg ≡ k.vararg) (is_params : k'.params ≡ k.params) (less : k.credit ≤ k'.credit + 1) where
    put : (o q : Owed) (x : Insn) (d : Emitter) → ((cs : List ℕ) → step cs o x ≡ Some q) → (length d.draft.constants < 2 ^ 15
        → PlainItem d.draft.constants (item.Insn x))
        → Full b later k o d → Full b later k' q (puts.insn x d)
    unfolding put_item
    put o q x d s p f =
        let w = words_insn d.draft.items x in
        let one = one_word x in
        let few = f.constants_few in
        let some = f.children_few in
        record {
          counts = f.counts;
          order = λ low. walk_last f.counts Nothing o q d.draft.items (item.Insn x) (f.order low) (s f.counts);
          body = λ low. subst (λ v. Body v k'.params d.draft.constants (d.draft.items ++ item.Insn x ∷ [])) (sym is_vararg)
              (subst (λ n. Body k.vararg n d.draft.constants (d.draft.items ++ item.Insn x ∷ [])) (sym is_params)
              (body_last k.vararg k.params d.draft.constants d.draft.items (item.Insn x) (f.body low) (p low)));
          constants_few = omega (arith, w, one, few, less);
          children_few = omega (arith, w, some);
          jumps = jumps_insn [] k'.pending d.draft.items x (subst (λ ws. Jumps [] ws d.draft.items) (sym same) f.jumps);
          placed = λ l h. seen_more l d.draft.items (item.Insn x) (f.placed l (subst (λ ps. Among l ps) held h));
          kept = λ x h. f.kept x (subst (λ ps. Among x ps) still h);
          constants = f.constants;
          children = f.children;
          protos = f.protos;
          behind = f.behind;
        }

  pub insn : (later : List Prototype) (k : Frame) (o q : Owed) (x : Insn) (d : Emitter) → ((cs : List ℕ) → step cs o x ≡ Some q)
      → (length d.draft.constants < 2 ^ 15 → PlainItem d.draft.constants (item.Insn x)) → Full b later k o d → Full b later k q (puts.insn x d)
  insn later k o q x d s p f = put later k k refl refl refl refl refl (omega arith) o q x d s p f

  -- the word of an instruction makes up for a constant
  pub spend : (k : Frame) (o q : Owed) (x : Insn) (d : Emitter) → ((cs : List ℕ) → step cs o x ≡ Some q)
      → (length d.draft.constants < 2 ^ 15 → PlainItem d.draft.constants (item.Insn x)) → State b (owing k) o d → State b k q (puts.insn x d)
  spend k o q x d s p f = put [] (owing k) k refl refl refl refl refl (omega arith) o q x d s p f

  pub simple : (k : Frame) (x : Insn) (d : Emitter) → Calm x → State b k Nothing d → State b k Nothing (puts.insn x d)
  simple k x d s f = insn [] k Nothing Nothing x d (free_step x s.simple.free) (λ low. calm_plain x s d.draft.constants) f

  branch : (k : Frame) (x : Insn) (l : ℕ) (d : Emitter) → Simple x → Jumps [] k.pending (d.draft.items ++ item.Branch x l ∷ []) → State b k Nothing d
      → State b k Nothing (puts.branch x l d)
  unfolding put_item
  branch k x l d s j f =
      let w = words_branch d.draft.items x l in
      let few = f.constants_few in
      let some = f.children_few in
      record {
        counts = f.counts;
        order = λ low. walk_last f.counts Nothing Nothing Nothing d.draft.items (item.Branch x l) (f.order low) (free_step x s.free f.counts);
        body = λ low. body_last k.vararg k.params d.draft.constants d.draft.items (item.Branch x l) (f.body low) (simple_plain x s d.draft.constants);
        constants_few = omega (arith, w, few);
        children_few = omega (arith, w, some);
        jumps = j;
        placed = λ m h. seen_more m d.draft.items (item.Branch x l) (f.placed m h);
        kept = f.kept;
        constants = f.constants;
        children = f.children;
        protos = f.protos;
        behind = f.behind;
      }

  pub ahead : (k : Frame) (x : Insn) (l : ℕ) (d : Emitter) → Simple x → goes_back x ≡ false → Among (awaited x l) k.pending → State b k Nothing d
      → State b k Nothing (puts.branch x l d)
  ahead k x l d s e p f = branch k x l d s (jumps_ahead [] k.pending d.draft.items x l e p f.jumps) f

  pub onward : (k : Frame) (x : Insn) (l : ℕ) (d : Emitter) → Onward x → Among (Ahead l) k.pending → State b k Nothing d
      → State b k Nothing (puts.branch x l d)
  onward k x l d s p f = ahead k x l d s.simple s.ahead (subst (λ (w : Await). Among w k.pending) (sym (s.waits l)) p) f

  pub back : (k : Frame) (x : Insn) (l : ℕ) (d : Emitter) → Simple x → goes_back x ≡ true → Among l k.placed → State b k Nothing d
      → State b k Nothing (puts.branch x l d)
  back k x l d s e p f = branch k x l d s (jumps_back [] k.pending d.draft.items x l e (f.placed l p) f.jumps) f

  -- ---- labels

  placed_by : (k k' : Frame) (l : ℕ) (o : Owed) (d : Emitter) → ((m : ℕ) → Among m k'.placed → (m ≡ l) ⊎ Among m k.placed) → k'.kept ≡ k.kept
      → k'.vararg ≡ k.vararg → k'.params ≡ k.params → k.credit ≤ k'.credit
      → past_label o ≡ Some o → Jumps [] k'.pending (d.draft.items ++ item.Label l ∷ []) → State b k o d → State b k' o (puts.place l d)
  unfolding put_item
  placed_by k k' l o d held still is_vararg is_params less past j f =
      let w = words_label d.draft.items l in
      let few = f.constants_few in
      let some = f.children_few in
      record {
        counts = f.counts;
        order = λ low. walk_last f.counts Nothing o o d.draft.items (item.Label l) (f.order low) past;
        body = λ low. subst (λ v. Body v k'.params d.draft.constants (d.draft.items ++ item.Label l ∷ [])) (sym is_vararg)
            (subst (λ n. Body k.vararg n d.draft.constants (d.draft.items ++ item.Label l ∷ [])) (sym is_params)
            (body_last k.vararg k.params d.draft.constants d.draft.items (item.Label l) (f.body low) tt));
        constants_few = omega (arith, w, few, less);
        children_few = omega (arith, w, some);
        jumps = j;
        placed = λ m h. ⊎_elim (λ e. subst (λ n. Among n (seen [] (d.draft.items ++ item.Label l ∷ []))) (sym e) (seen_last l d.draft.items))
            (λ p. seen_more m d.draft.items (item.Label l) (f.placed m p)) (held m h);
        kept = λ x h. f.kept x (subst (λ ps. Among x ps) still h);
        constants = f.constants;
        children = f.children;
        protos = f.protos;
        behind = f.behind;
      }

  -- what waits for a label has it
  pub place : (k : Frame) (l : ℕ) (o : Owed) (d : Emitter) → past_label o ≡ Some o → State b (awaiting (Ahead l) k) o d → State b k o (puts.place l d)
  place k l o d past f =
      placed_by (awaiting (Ahead l) k) k l o d (λ m h. inr h) refl refl refl (omega arith) past (jumps_label [] k.pending d.draft.items l f.jumps) f

  pub await : (k : Frame) (w : Await) (o : Owed) (d : Emitter) → State b k o d → State b (awaiting w k) o d
  await k w o d f = record {
    counts = f.counts;
    order = f.order;
    body = f.body;
    constants_few = f.constants_few;
    children_few = f.children_few;
    jumps = jumps_await [] w k.pending d.draft.items f.jumps;
    placed = f.placed;
    kept = f.kept;
    constants = f.constants;
    children = f.children;
    protos = f.protos;
    behind = f.behind;
  }

  -- a label to which branches lead back
  pub mark : (k : Frame) (l : ℕ) (d : Emitter) → State b k Nothing d → State b (placing l k) Nothing (puts.place l d)
  mark k l d f =
      let g = await k (Ahead l) Nothing d f in
      placed_by (awaiting (Ahead l) k) (placing l k) l Nothing d (λ m h. h) refl refl refl (omega arith) refl
      (jumps_label [] k.pending d.draft.items l g.jumps) g

  pub unmark : (k : Frame) (l : ℕ) (o : Owed) (d : Emitter) → State b (placing l k) o d → State b k o d
  unmark k l o d f = record {
    counts = f.counts;
    order = f.order;
    body = f.body;
    constants_few = f.constants_few;
    children_few = f.children_few;
    jumps = f.jumps;
    placed = λ m h. f.placed m (inr h);
    kept = f.kept;
    constants = f.constants;
    children = f.children;
    protos = f.protos;
    behind = f.behind;
  }

  -- the end of a numeric loop
  pub loop_end : (k : Frame) (a l m : ℕ) (z : ℤ) (d : Emitter) → Simple (i.ForNLoop a z) → Among m k.placed
      → State b (awaiting (Around a l) (awaiting (Ahead l) k)) Nothing d
      → State b k Nothing (puts.place l (puts.branch (i.ForNLoop a z) m d))
  unfolding put_item
  loop_end k a l m z d s p f =
      let k2 = awaiting (Around a l) (awaiting (Ahead l) k) in
      let g = back k2 (i.ForNLoop a z) m d s refl p f in
      let j = jumps_end [] k.pending d.draft.items a l m z (f.placed m p) f.jumps in
      placed_by k2 k l Nothing (puts.branch (i.ForNLoop a z) m d) (λ n h. inr h) refl refl refl (omega arith) refl
      (subst (λ is. Jumps [] k.pending is) (sym (append_assoc d.draft.items (item.Branch (i.ForNLoop a z) m ∷ []) (item.Label l ∷ []))) j) g

  -- ---- what puts no item

  pub variable : (k : Frame) (o : Owed) (number register : ℕ) (d : Emitter) → State b k o d → State b k o (puts.declare number register d)
  unfolding declare
  variable k o number register d f = record {
    counts = f.counts;
    order = f.order;
    body = f.body;
    constants_few = f.constants_few;
    children_few = f.children_few;
    jumps = f.jumps;
    placed = f.placed;
    kept = f.kept;
    constants = f.constants;
    children = f.children;
    protos = f.protos;
    behind = f.behind;
  }

  pub forgotten : (k : Frame) (o : Owed) (left : ℕ) (d : Emitter) → State b k o d → State b k o (puts.forget left d)
  unfolding forget
  forgotten k o left d f = record {
    counts = f.counts;
    order = f.order;
    body = f.body;
    constants_few = f.constants_few;
    children_few = f.children_few;
    jumps = f.jumps;
    placed = f.placed;
    kept = f.kept;
    constants = f.constants;
    children = f.children;
    protos = f.protos;
    behind = f.behind;
  }

  -- ---- constants

  pub new_constant : (k : Frame) (o : Owed) (c : Const) (d : Emitter) → IsConstant (length d.strings) c → State b k o d
      → State b (owing k) o (puts.with_constant c d)
  unfolding with_constant
  new_constant k o c d is f =
      let n = puts.constant_place c d in
      let p = grows.added c n d.draft.constants in
      let more = prefix_length d.draft.constants (puts.added c n d.draft.constants) p in
      let one = one_added c n d.draft.constants in
      let few = f.constants_few in
      record {
        counts = f.counts;
        order = f.order;
        body = λ low. subst (λ cs. Body k.vararg k.params cs d.draft.items) (sym p.is)
            (body_more k.vararg k.params d.draft.constants p.more d.draft.items (f.body (omega (arith, more, low))));
        constants_few = omega (arith, few, one);
        children_few = f.children_few;
        jumps = f.jumps;
        placed = f.placed;
        kept = λ x h. ap (λ cs. slice_get cs x.0) p.is ∙ get_front d.draft.constants p.more x.0 x.1 (f.kept x h);
        constants = constants_added (length d.strings) c n d.draft.constants f.constants is;
        children = f.children;
        protos = f.protos;
        behind = f.behind;
      }

  string : (k : Frame) (o : Owed) (t : StrId) (d : Emitter) → State b k o d → State b k o (puts.with_string t d)
  unfolding with_string
  string k o t d f =
      let more = prefix_length d.strings (puts.added t (puts.place_of_text t d.strings) d.strings) (grows.added t (puts.place_of_text t d.strings) d.strings) in
      record {
        counts = f.counts;
        order = f.order;
        body = f.body;
        constants_few = f.constants_few;
        children_few = f.children_few;
        jumps = f.jumps;
        placed = f.placed;
        kept = f.kept;
        constants = constants_more (length d.strings) _ more d.draft.constants f.constants;
        children = f.children;
        protos = shaped_more b (length d.strings) _ more [] d.protos f.protos;
        behind = tt;
      }

  there : (t : StrId) (d : Emitter) → puts.place_of_text t d.strings < length (puts.with_string t d).strings
  unfolding with_string
  there t d = get_within _ _ t (is_added t (puts.place_of_text t d.strings) d.strings (found_text t d.strings))

  pub text : (k : Frame) (o : Owed) (t : StrId) (d : Emitter) → State b k o d → State b (owing k) o (puts.with_text t d)
  text k o t d f =
      let lt = there t d in
      new_constant k o (puts.text_constant t d) (puts.with_string t d) (omega (arith, lt)) (string k o t d f)

  -- a constant whose place is known while more is emitted
  pub keep : (k : Frame) (o : Owed) (x : ℕ × Const) (d : Emitter) → slice_get d.draft.constants x.0 ≡ Some x.1 → State b k o d → State b (keeping x k) o d
  keep k o x d at f = record {
    counts = f.counts;
    order = f.order;
    body = f.body;
    constants_few = f.constants_few;
    children_few = f.children_few;
    jumps = f.jumps;
    placed = f.placed;
    kept = λ y h. ⊎_elim (λ e. subst (λ (z : ℕ × Const). slice_get d.draft.constants z.0 ≡ Some z.1) (sym e) at) (λ r. f.kept y r) h;
    constants = f.constants;
    children = f.children;
    protos = f.protos;
    behind = f.behind;
  }

  pub unkeep : (k : Frame) (o : Owed) (x : ℕ × Const) (d : Emitter) → State b (keeping x k) o d → State b k o d
  unkeep k o x d f = record {
    counts = f.counts;
    order = f.order;
    body = f.body;
    constants_few = f.constants_few;
    children_few = f.children_few;
    jumps = f.jumps;
    placed = f.placed;
    kept = λ y h. f.kept y (inr h);
    constants = f.constants;
    children = f.children;
    protos = f.protos;
    behind = f.behind;
  }

  pub constant_there : (c : Const) (d : Emitter) → slice_get (puts.with_constant c d).draft.constants (puts.constant_place c d) ≡ Some c
  unfolding with_constant
  constant_there c d = is_added c (puts.constant_place c d) d.draft.constants (found_first c d.draft.constants)

  -- where a constant is found
  pub record Found (c : Const) (n : ℕ) (consts : List Const) : Type 0 where
    pub few : n < 2 ^ 15
    pub at : slice_get consts n ≡ Some c

  pub found : (c : Const) (d : Emitter) → length (puts.with_constant c d).draft.constants < 2 ^ 15
      → Found c (puts.constant_place c d) (puts.with_constant c d).draft.constants
  unfolding with_constant
  found c d low =
      let n = puts.constant_place c d in
      let at = is_added c n d.draft.constants (found_first c d.draft.constants) in
      let lt = get_within _ n c at in
      record { few = omega (arith, lt, low); at = at }

  pub found_string : (t : StrId) (d : Emitter) → length (puts.with_text t d).draft.constants < 2 ^ 15
      → Found (puts.text_constant t d) (puts.text_place t d) (puts.with_text t d).draft.constants
  unfolding with_string
  found_string t d low = found (puts.text_constant t d) (puts.with_string t d) low

  -- ---- instructions that name one

  pub load_plain : (consts : List Const) (c : Const) (n a : ℕ) → is_wanted needs.AValue (Some c) ≡ true → Found c n consts
      → PlainItem consts (item.Insn (i.LoadK a (puts.short n)))
  load_plain consts c n a value f =
      let few = f.few in
      let same : min n 32767 ≡ n = omega (arith, few) in
      let e : is_wanted needs.AValue (slice_get consts (min n 32767)) ≡ true = ap (λ m. is_wanted needs.AValue (slice_get consts m)) same ∙ ap
      (is_wanted needs.AValue) f.at ∙ value in
      insn_by consts _ refl refl (one_wanted consts needs.AValue (min n 32767) e) refl refl refl

  name_at : (consts : List Const) (s n : ℕ) → Found (constant.Str s) n consts → is_wanted needs.AName (slice_get consts (puts.long n)) ≡ true
  name_at consts s n f =
      let few = f.few in
      let same : min n 4294967295 ≡ n = omega (arith, few) in
      ap (λ m. is_wanted needs.AName (slice_get consts m)) same ∙ ap (is_wanted needs.AName) f.at

  pub get_global_plain : (consts : List Const) (s n a : ℕ) → Found (constant.Str s) n consts → PlainItem consts (item.Insn (i.GetGlobal a (puts.long n)))
  get_global_plain consts s n a f = insn_by consts _ refl refl (one_wanted consts needs.AName (puts.long n)
      (name_at consts s n f)) refl refl refl

  pub set_global_plain : (consts : List Const) (s n a : ℕ) → Found (constant.Str s) n consts → PlainItem consts (item.Insn (i.SetGlobal a (puts.long n)))
  set_global_plain consts s n a f = insn_by consts _ refl refl (one_wanted consts needs.AName (puts.long n)
      (name_at consts s n f)) refl refl refl
