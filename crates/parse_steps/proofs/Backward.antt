-- A run to the end of a text reads, for each item, a part of the grammar; and where the run owes an answer, arguments open in the part
-- or behind it.
use Rattle.std.proofs.Common.{IsTrue, ◌≡◌, ℕ, zero, suc, Bool, false, List, [], ◌∷◌, None, refl, arith, true≢false, Contains, subst, ◌∙◌, sym}
use Rattle.syntax_tree.specs.declared.tree.Stat.{Stat}
use Rattle.syntax_tree.specs.Calls.{call_places}
use Rattle.syntax_tree.specs.Derivations.{IsChunk, main_function}
use Rattle.syntax_tree.specs.Places.{kind_at}
use Rattle.parse_steps.proofs.CallPlaces.{calls_stats}
use Rattle.parse_steps.specs.Items.{Item}
use Rattle.parse_steps.specs.Items as item
use Rattle.parse_steps.proofs.Accepting.{Text, Accepts, over, Rest, Owes, in_part, further}
use Rattle.parse_steps.proofs.NodeCalls.{calls_main, calls_are_places}
use Rattle.parse_steps.proofs.Readings.{All}
use Rattle.parse_steps.proofs.ReadLevels.{level_step, operations_step, run_more_step}
use Rattle.parse_steps.proofs.ReadParts.{list_more_step, pieces_step, choices_step, fields_step}
use Rattle.parse_steps.proofs.ReadPrefixes.{unary_step, suffixes_step}
use Rattle.parse_steps.proofs.ReadBodies.{generic_step, parameter_step, binds_step}
use Rattle.parse_steps.proofs.ReadStatements.{targets_step, members_step, arms_step}
use Rattle.parse_steps.proofs.ReadBlocks.{block_step}

over_yet : {A : Type 0} {s : Text} {i : ℕ} {k : List Item} {f : Bool} → Rest s zero i k f → A
over_yet r = absurd (omega (arith, r.less))

pub all : (s : Text) (g : ℕ) → All s g
all s zero = record {
  unary = λ r. over_yet r;
  level = λ l r. over_yet r;
  operations = λ r b a t. over_yet t;
  run_more = λ b e d r. over_yet r;
  list_more = λ b e d r. over_yet r;
  pieces = λ b e d r. over_yet r;
  choices = λ b l c e d t q r. over_yet r;
  suffixes = λ c u b a r. over_yet r;
  fields = λ r. over_yet r;
  generic = λ r. over_yet r;
  parameter = λ r. over_yet r;
  block = λ r. over_yet r;
  targets = λ r. over_yet r;
  binds = λ b x d r. over_yet r;
  members = λ b x a n w e r. over_yet r;
  arms = λ b l c q d t e r. over_yet r;
}
all s (suc g) =
    let h = all s g in
    record {
      unary = λ r. unary_step h r;
      level = λ l r. level_step h l r;
      operations = λ r b a t. operations_step h r b a t;
      run_more = λ b e d r. run_more_step h b e d r;
      list_more = λ b e d r. list_more_step h b e d r;
      pieces = λ b e d r. pieces_step h b e d r;
      choices = λ b l c e d t q r. choices_step h b l c e d t q r;
      suffixes = λ c u b a r. suffixes_step h c u b a r;
      fields = λ r. fields_step h r;
      generic = λ r. generic_step h r;
      parameter = λ r. parameter_step h r;
      block = λ r. block_step h r;
      targets = λ r. targets_step h r;
      binds = λ b x d r. binds_step h b x d r;
      members = λ b x a n w e r. members_step h b x a n w e r;
      arms = λ b l c q d t e r. arms_step h b l c q d t e r;
    }

-- the text has a tree, in which arguments open at its place where that is owed
pub record Answers (s : Text) (f : Bool) : Type 0 where
  pub block : List Stat
  pub derived : IsChunk s.tokens s.brackets block
  pub called : IsTrue f → Contains (call_places (main_function block)) s.place

ended : {s : Text} {m i v : ℕ} {f : Bool} → Accepts s m i v [] f → (kind_at s.tokens i ≡ None) × (f ≡ false)
ended (over i v h) = (h, refl)

-- a run over a whole text
pub backward : (s : Text) (m v : ℕ) (f : Bool) → Accepts s m 0 v (item.block ∷ []) f → Answers s f
backward s m v f a =
    let h = all s (suc m) in
    let b = h.block {i = 0} {k = []} {f = f} (record { left = m; nest = v; less = omega arith; run = a }) in
    let e = ended b.rest.run in
    record {
      block = b.tree;
      derived = record { stop = b.stop; derived = b.is; whole = e.0 };
      called = λ owed. subst (λ (places : List ℕ). Contains places s.place) (sym (calls_main b.tree) ∙ calls_are_places (main_function b.tree)) (in_tree b.tree b.owed e.1 (b.owes (further owed)));
    }
  where
    in_tree : (b : List Stat) (f : Bool) → f ≡ false → Owes s (calls_stats b) f → Contains (calls_stats b) s.place
    in_tree b f none (in_part c) = c
    in_tree b f none (further t) = absurd (true≢false (sym t ∙ none))
