-- Where the locals of a script are declared.
use Rattle.std.proofs.Common.{◌≡◌, ◌⊎◌, inl, inr, ◌∙◌, ℕ, ◌+◌, ◌-◌, ◌<◌, ◌≤◌, List, [], ◌∷◌, ◌++◌, length, Some, refl, sym, ap, subst, arith, slice_get, length-append}
use Rattle.std.proofs.lemmas.Option.{slice_get_within}
use Rattle.byte_text.specs.declared.fixed.StrId.{StrId}
use Rattle.syntax_tree.specs.declared.bindings.LocalInfo.{LocalInfo}
use Rattle.syntax_tree.specs.declared.tree.FuncBody.{FuncBody}
use Rattle.syntax_tree.specs.Bound.{known}
use Rattle.syntax_tree.specs.Names.{Known, start}
use Rattle.syntax_tree.specs.Numbers.{numbered}
use Rattle.scope_laws.specs.Declared.{own_names, declarer, DeclaredWithin, HasEntry}
use Rattle.scope_laws.specs.Sight.{Sight, Part, function, in_part, Sees, Within, itself, next, enter, nothing}
use Rattle.scope_laws.proofs.Covering.{below_or}
use Rattle.scope_laws.proofs.Effects.{sight_of, names_part, names_parts, is_target, less, infos}
use Rattle.scope_laws.proofs.Entries.{Named, entry_named}
use Rattle.scope_laws.proofs.Numbering.{script_walk}
use Rattle.scope_laws.proofs.Opens.{Opens, opens}
use Rattle.scope_laws.proofs.Passing.{Passes, passes, single}
use Rattle.scope_laws.proofs.Places.{get_behind, Front, front_to, front_get}
use Rattle.scope_laws.proofs.Seen.{Here, Into, into_first, here}
use Rattle.scope_laws.proofs.Walks.{Walk, done, passed, inner}

module _ (from : Sight) (whole : Part) where
  -- the declaration of a local, which the entry says
  pub record Declares (i : ℕ) (info : LocalInfo) : Type 0 where
    pub declared : DeclaredWithin from whole i
    pub name : info.name ≡ declared.name
    pub func : info.func ≡ declarer declared.part declared.sight

  -- a local that a part declares itself
  itself_declares : (p : Part) (ps : List Part) (k : Known) (into : List LocalInfo) (i : ℕ) (info : LocalInfo) →
      into ≡ k.locals ++ infos (declarer p (sight_of k)) (own_names p) → Within from whole (sight_of k) (p ∷ ps) →
      length k.locals ≤ i → slice_get into i ≡ Some info → Declares i info
  itself_declares p ps k into i info is w low at =
      let func : ℕ = declarer p (sight_of k) in
      let j : ℕ = i - length k.locals in
      let place : length k.locals + j ≡ i = omega (arith, low) in
      let n : Named func (own_names p) j info = entry_named func (own_names p) j info
      (sym (get_behind k.locals (infos func (own_names p)) j) ∙ ap (slice_get (k.locals ++ infos func (own_names p))) place
      ∙ ap (λ l. slice_get l i) (sym is) ∙ at) in
      record {
        declared = record {
          sight = sight_of k;
          part = p;
          after = ps;
          seen = w;
          place = j;
          name = n.name;
          named = n.at;
          number = sym place;
        };
        name = ap (λ (l : LocalInfo). l.name) n.is;
        func = ap (λ (l : LocalInfo). l.func) n.is;
      }

  -- a local is declared by a part, in it, or behind it
  sought : {F : Type 0} (i own all : ℕ) → (i < own → F) → (own ≤ i → i < all → F) → (all ≤ i → F) → F
  sought {F} i own all here deeper later = by (below_or i own) (below_or i all) where
    by : (i < own) ⊎ (own ≤ i) → (i < all) ⊎ (all ≤ i) → F
    by (inl lt) side = here lt
    by (inr le) (inl lt) = deeper le lt
    by (inr le) (inr past) = later past

  pub declares : {n m : ℕ} {ps : List Part} → Walk n ps m → (targets : ℕ) (k : Known) → length k.notes ≡ n →
      Within from whole (sight_of k) ps → (i : ℕ) (info : LocalInfo) → length k.locals ≤ i →
      slice_get (names_parts ps targets k).locals i ≡ Some info → Declares i info
  declares (done n) targets k h w i info low at = absurd (omega (arith, low, slice_get_within k.locals i info at))
  declares (passed n m r p ps num inside rest) targets k h w i info low at =
      let o : Opens p (is_target targets) k = opens p (is_target targets) k in
      let parts : List Part = (in_part p (sight_of k)).parts in
      let t : Known = names_part p (is_target targets) k in
      let count : length o.into.notes ≡ inner p n = o.count ∙ ap (inner p) h in
      let inner_parts : Passes (inner p n) m parts o.into (names_parts parts o.targets o.into) =
      passes (inside (sight_of k)) o.targets o.into count in
      let one : Passes n m (p ∷ []) k t = single n m p (is_target targets) k o h inner_parts in
      let others : Passes m r ps t (names_parts (p ∷ ps) targets k) = passes rest (less targets) t one.count in
      let front : Front o.into.locals t.locals = front_to inner_parts.locals o.locals in
      let there : i < length t.locals → slice_get t.locals i ≡ Some info = λ lt. sym (front_get i others.locals lt) ∙ at in
      let within : i < length o.into.locals → i < length t.locals = λ lt. omega (
        arith,
        lt,
        ap length front.is,
        length-append o.into.locals front.more,
      ) in
      sought i (length o.into.locals) (length t.locals)
      (λ lt. itself_declares p ps k o.into.locals i info o.new w low (sym (front_get i front lt) ∙ there (within lt)))
      (λ le lt. declares (inside (sight_of k)) o.targets o.into count (subst (λ s. Within from whole s parts) (sym o.begins) (enter
      (sight_of k) p ps w)) i info le (ap (λ l. slice_get l i) (sym o.locals) ∙ there lt))
      (λ le. declares rest (less targets) t one.count (subst (λ s. Within from whole s ps) (sym one.ends) (next
      (sight_of k) p ps w)) i info le at)

-- ---- a script

pub declared_in : (main : FuncBody) (i : ℕ) (info : LocalInfo) → slice_get (known (numbered main)).locals i ≡ Some info →
    Declares nothing (function (numbered main).main) i info
declared_in main i info at =
    declares nothing (function (numbered main).main) (script_walk main) 0 start refl itself i info (omega arith) at

-- the entry of a declared local, by what is known where its declaration stands
entry_here : (main : FuncBody) (s : Sight) (p : Part) (after : List Part) (place : ℕ) (x : StrId) → Sees (numbered main).main s (p ∷ after) →
    slice_get (own_names p) place ≡ Some x → HasEntry (known (numbered main)).locals (s.declared + place) x (declarer p s)
entry_here main s p after place x w at =
    let final : Known = known (numbered main) in
    let h : Here final 0 (numbered main).nodes s (p ∷ after) = here main s (p ∷ after) w in
    let into : Into final 0 (numbered main).nodes p (is_target h.targets) h.before = into_first final 0 (numbered main).nodes s p after h in
    subst (λ z. HasEntry final.locals (z.declared + place) x (declarer p z)) h.sees (into.entry place x at)

pub has_entry : (main : FuncBody) (local : ℕ) (d : DeclaredWithin nothing (function (numbered main).main) local) →
    HasEntry (known (numbered main)).locals local d.name (declarer d.part d.sight)
has_entry main local d =
    subst (λ i. HasEntry (known (numbered main)).locals i d.name (declarer d.part d.sight)) (sym d.number)
    (entry_here main d.sight d.part d.after d.place d.name d.seen d.named)
