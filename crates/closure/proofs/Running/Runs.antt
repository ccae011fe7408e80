-- Every state of every run is sound, and a given term in use stands for each of its vertices.
use mathlib.Core.Bool.{not}
use mathlib.Core.List.{List}
use mathlib.Core.Logic.{◌⊎◌, inl, inr, ⊎_elim}
use mathlib.Core.Path.{◌≡◌, sym, subst}
use Prim.Native.Nat.{ℕ}
use lib.Dec.{T}
use Rattle.tables.specs.Terms.{Term, term_at}
use Rattle.tables.specs.Parts.{LowerArguments}
use Rattle.tables.specs.declared.Literal.{Literal}
use Rattle.tables.specs.declared.Side.{Side}
use Rattle.tables.specs.declared.Side.TheVariants.{A, B}
use Rattle.tables.specs.Colours.{colourable}
use Rattle.tables.proofs.Words.{and_left}
use Rattle.tables.proofs.Colours.{SidesWithin}
use Rattle.closure.specs.Graph.{EdgeKind, basic, derived}
use Rattle.closure.specs.Steps.{State, begin, table_of, vertex, congruent, with_edge, middle_term, placed, tied, tied_both, with_middle, colourable_only, Chosen, Step, basic_step, derived_step, middle_step, Run, start, next}
use Rattle.closure.proofs.Running.States.{SoundState, Known, Ties, ties_sound, known_edge, known_through, tied_either, tied_joined, begin_vertex, begin_sound, given_known, basic_sound}
use Rattle.closure.proofs.Running.MiddleStep.{with_term_cases, with_term_known, placed_either, MiddleEnds, tied_ties, middle_ready, middle_sound}

-- ---- every run

-- a term that is colourable on one side only is colourable on it
pub only_colour : (ts : List Term) (ls : List Literal) (X Y : Side) (table : List Term) (v : ℕ) → T (colourable_only ts ls X Y table v) → T (colourable ts ls X table v)
unfolding colourable_only
only_colour ts ls X Y table v h = and_left (colourable ts ls X table v) (not (colourable ts ls Y table v)) h

-- what a middle step asks of its ends
pub middle_ends : (ts : List Term) (ls : List Literal) (st : State) (s t : ℕ) (chosen : List ℕ) → T (vertex ts ls st s) → T (vertex ts ls st t) → T (congruent (table_of ts st) st.graph s t) → T (colourable_only ts ls A B (table_of ts st) s) → T (colourable_only ts ls B A (table_of ts st) t) → Chosen ts ls (table_of ts st) st.graph (term_at (table_of ts st) s).arguments (term_at (table_of ts st) t).arguments chosen → MiddleEnds ts ls st s t chosen
middle_ends ts ls st s t chosen vs vt c oa ob ch = record { left_vertex = vs; right_vertex = vt; alike = c; left_colour = only_colour ts ls A B (table_of ts st) s oa; right_colour = only_colour ts ls B A (table_of ts st) t ob; choice = ch }

-- what is known of all vertices but n, when s, which is congruent to n, is tied to n, is known of all
module _ (ts : List Term) (ls : List Literal) (s n : ℕ) where
  -- every vertex is known, or is n
  abbrev KnownBut : State → Type 0
  KnownBut z = (v : ℕ) → T (vertex ts ls z v) → Known ts ls z v ⊎ (v ≡ n)

  -- one edge more changes nothing of it
  known_but_edge : (st : State) → KnownBut st → (u w : ℕ) (X : Side) (k : EdgeKind) → KnownBut (with_edge st u w X k)
  unfolding vertex
  known_but_edge st f u w X k v h = ⊎_elim (λ q. inl (known_edge ts ls st v q u w X k)) (λ e. inr e) (f v h)

  -- then every vertex is known, n too
  known_tied : (st : State) (X : Side) → KnownBut st → Known ts ls st s → Ties ts ls st X s n → (v : ℕ) → T (vertex ts ls (tied st s n X) v) → Known ts ls (tied st s n X) v
  known_tied st X f q c v h =
      let z = tied st s n X in
      let but : KnownBut z = tied_either KnownBut st s n X (λ j. f) (λ u. known_but_edge st f s n X derived) in
      let left : Known ts ls z s = tied_either (λ z. Known ts ls z s) st s n X (λ j. q) (λ u. known_edge ts ls st s q s n X derived) in
      let new : Known ts ls z n = known_through ts ls z s n left (tied_joined st s n X) (tied_ties ts ls st X X s s n c).alike in
      ⊎_elim (λ k. k) (λ e. subst (Known ts ls z) (sym e) new) (but v h)

module _ (ts : List Term) (ls : List Literal) (low : LowerArguments ts) (within : SidesWithin ts ls) where
  -- a state stays sound under every step
  pub step_sound : (st : State) {after : State} → SoundState ts ls st → Step ts ls st after → SoundState ts ls after
  step_sound st r (basic_step l s t m k h n) = basic_sound ts ls low within st r l s t m k h n
  step_sound st r (derived_step s t X vs vt n c e) = ties_sound ts ls st r X s t (record { left_vertex = vs; right_vertex = vt; alike = c; colours = e }) n
  step_sound st r (middle_step s t chosen vs vt n c oa ob ch) = middle_sound ts ls st r s t chosen (middle_ends ts ls st s t chosen vs vt c oa ob ch)

  -- every state of a run is sound
  pub run_sound : {k : ℕ} {st : State} → Run ts ls k st → SoundState ts ls st
  run_sound start = begin_sound ts ls low within
  run_sound (next {st = st} run step) = step_sound st (run_sound run) step

  -- after a middle step every vertex is known where every vertex was
  middle_known : (st : State) → SoundState ts ls st → ((v : ℕ) → T (vertex ts ls st v) → Known ts ls st v) → (s t : ℕ) (chosen : List ℕ) → MiddleEnds ts ls st s t chosen → (v : ℕ) → T (vertex ts ls (with_middle ts ls st s t chosen) v) → Known ts ls (with_middle ts ls st s t chosen) v
  unfolding with_middle tied_both vertex
  middle_known st r f s t chosen ends v h =
      let m = middle_term (table_of ts st) s chosen in
      let p = placed ts ls st m in
      let n = p.number in
      let ready = middle_ready ts ls st r s t chosen ends in
      let one = tied p.state s n A in
      let all : (v : ℕ) → T (vertex ts ls one v) → Known ts ls one v = known_tied ts ls s n p.state A (after_placed m s ends.left_vertex).0 (after_placed m s ends.left_vertex).1 ready.left in
      tied_either (λ z. (v : ℕ) → T (vertex ts ls z v) → Known ts ls z v) one t n B (λ j. all) (λ u w k. known_edge ts ls one w (all w k) t n B derived) v h
    where
      after_placed : (m : Term) (s : ℕ) → T (vertex ts ls st s) → KnownBut ts ls s (placed ts ls st m).number (placed ts ls st m).state × Known ts ls (placed ts ls st m).state s
      after_placed m s vs =
          placed_either ts ls st m (λ p. KnownBut ts ls s p.number p.state × Known ts ls p.state s)
          (λ v hv e. ((λ w k. inl (f w k)), f s vs))
          ((λ w k. ⊎_elim (λ o. inl (with_term_known ts ls st m low within w o (f w o))) (λ e. inr e) (with_term_cases ts ls st m w k)), with_term_known ts ls st m low within s vs (f s vs))

  -- every vertex stays known under every step
  pub step_known : (st : State) {after : State} → SoundState ts ls st → ((v : ℕ) → T (vertex ts ls st v) → Known ts ls st v) → Step ts ls st after → (v : ℕ) → T (vertex ts ls after v) → Known ts ls after v
  unfolding vertex
  step_known st r f (basic_step l s t m k h n) v w = known_edge ts ls st v (f v w) s t l.side basic
  step_known st r f (derived_step s t X vs vt n c e) v w = known_edge ts ls st v (f v w) s t X derived
  step_known st r f (middle_step s t chosen vs vt n c oa ob ch) v w = middle_known st r f s t chosen (middle_ends ts ls st s t chosen vs vt c oa ob ch) v w

  -- in every state of a run, a given term in use stands for each vertex
  pub run_known : {k : ℕ} {st : State} → Run ts ls k st → (v : ℕ) → T (vertex ts ls st v) → Known ts ls st v
  run_known start v h = given_known ts ls low within begin v (begin_vertex ts ls low within v h)
  run_known (next {st = st} run step) v h = step_known st (run_sound run) (λ w k. run_known run w k) step v h
