-- Where the parent paths of the last graph's edges begin and end, as the clause layer is handed them.
use mathlib.Core.Bool.{Bool, true, false, cond}
use mathlib.Core.List.{List, []}
use mathlib.Core.Path.{◌≡◌, refl, ap, ap₂, ◌∙◌}
use Prim.Native.Nat.{ℕ, ◌+◌, ◌*◌, ◌/◌, ◌%◌, ◌≤◌, ◌<◌}
use native.Mathlib.Omega.{arith}
use borrow.Author.Tests.{lt-ltb, le-ltb}
use lib.ListN.{length, get_or}
use Rattle.tables.specs.Terms.{Term, term_at}
use Rattle.tables.specs.declared.Literal.{Literal}
use Rattle.closure.specs.declared.Edge.{Edge}
use Rattle.closure.specs.declared.EdgeKind.{EdgeKind}
use Rattle.closure.specs.declared.EdgeKind.TheVariants.{Basic, Derived}
use Rattle.closure.specs.Graph.{Graph}
use Rattle.closure.specs.Forests.{Each}
use Rattle.closure.specs.Steps.{State, table_of}
use Rattle.closure.proofs.Walking.Invariant.{SoundGraph}
use Rattle.closure.proofs.Walking.Walks.{each_over, older_fewer}
use Rattle.closure.proofs.Walking.Parents.{hop_sound}
use Rattle.running.specs.declared.state.State.{State as Arrays}
use Rattle.running.specs.Shown.{Shows}
use Rattle.running.proofs.Arrays.{padded_at}
use Rattle.running.proofs.Showing.{shown_arity, shown_row}
use Rattle.marking.specs.Drawn.{is_derived, parents_for, PartsAt, EdgeAt}
use Rattle.marking.specs.declared.edges.Columns.{Columns}
use Rattle.marking.proofs.Owing.{places_few}
use Rattle.engine.specs.Ending.{PlacesOf, ParentsOf, parent_at}

-- a count of arguments by an edge's kind
places_by : (k : EdgeKind) (n : ℕ) → cond (is_derived k) n 0 ≡ parents_for k n
places_by Basic n = refl
places_by Derived n = refl

-- one of two ends is low where both are
pub either_low : (b : Bool) (left right : ℕ) → left < 511 → right < 511 → cond b left right < 511
either_low true left right l r = l
either_low false left right l r = r

-- the field of a left end's argument, and that of a right end's
parent_left : (rows : List (List ℕ)) (lefts rights : List ℕ) (i k : ℕ) → k < 4 → parent_at rows lefts rights (8 * i + k) ≡ get_or (get_or rows (get_or lefts i 0) []) k 0
parent_left rows lefts rights i k h =
    let edge : (8 * i + k) / 8 ≡ i = omega arith in
    let place : (8 * i + k) % 4 ≡ k = omega arith in
    let first : (8 * i + k) % 8 < 4 = omega arith in
    ap (λ (b : Bool). get_or (get_or rows (cond b (get_or lefts ((8 * i + k) / 8) 0) (get_or rights ((8 * i + k) / 8) 0)) []) ((8 * i + k) % 4) 0) (lt-ltb ((8 * i + k) % 8) 4 first) ∙
    ap₂ (λ (e j : ℕ). get_or (get_or rows (get_or lefts e 0) []) j 0) edge place

parent_right : (rows : List (List ℕ)) (lefts rights : List ℕ) (i k : ℕ) → k < 4 → parent_at rows lefts rights (8 * i + 4 + k) ≡ get_or (get_or rows (get_or rights i 0) []) k 0
parent_right rows lefts rights i k h =
    let edge : (8 * i + 4 + k) / 8 ≡ i = omega arith in
    let place : (8 * i + 4 + k) % 4 ≡ k = omega arith in
    let second : 4 ≤ (8 * i + 4 + k) % 8 = omega arith in
    ap (λ (b : Bool). get_or (get_or rows (cond b (get_or lefts ((8 * i + 4 + k) / 8) 0) (get_or rights ((8 * i + 4 + k) / 8) 0)) []) ((8 * i + 4 + k) % 4) 0) (le-ltb ((8 * i + 4 + k) % 8) 4 second) ∙
    ap₂ (λ (e j : ℕ). get_or (get_or rows (get_or rights e 0) []) j 0) edge place

module _ (ts : List Term) (ls : List Literal) (st : State) (s : Arrays) (h : Shows ts ls st s) (small : (v : ℕ) → v < length (table_of ts st) → length (term_at (table_of ts st) v).arguments ≤ 4) where
  abbrev table : List Term
  table = table_of ts st

  -- the fields of a term's row are its arguments
  field_at : (v k : ℕ) → v < length table → get_or (get_or s.rows v []) k 0 ≡ get_or (term_at table v).arguments k 0
  field_at v k l = ap (λ (r : List ℕ). get_or r k 0) (shown_row ts ls st s h v l) ∙ padded_at (term_at table v).arguments k

  -- so each edge's colour, count and ends stand under its number
  pub edges_drawn : (c : Columns) (places parents : List ℕ) → SoundGraph ts ls table st.graph → PlacesOf c.lefts c.derived s.arities s.graph.count places → ParentsOf s.rows c.lefts c.rights s.graph.count parents → Each (PartsAt c.lefts c.rights c.inb c.derived) st.graph → Each (EdgeAt table c.inb places parents) st.graph
  edges_drawn c places parents sound counts ends =
      each_over (PartsAt c.lefts c.rights c.inb c.derived) (EdgeAt table c.inb places parents) st.graph
      (λ G e walked at. let k = hop_sound ts ls table walked sound in edge_drawn G e (omega (arith, older_fewer walked, h.count)) k.from_within k.to_within at)
    where
      edge_drawn : (G : Graph) (e : Edge) → length G < s.graph.count → e.left < length table → e.right < length table → PartsAt c.lefts c.rights c.inb c.derived G e → EdgeAt table c.inb places parents G e
      edge_drawn G e low left right at =
          let n = length (term_at table e.left).arguments in
          let count : get_or places (length G) 0 ≡ parents_for e.kind n = counts (length G) low ∙ ap₂ (λ (b : Bool) (v : ℕ). cond b (get_or s.arities v 0) 0) at.kind_at at.left_at ∙ ap (λ (m : ℕ). cond (is_derived e.kind) m 0) (shown_arity ts ls st s h e.left left) ∙ places_by e.kind n in
          let few : get_or places (length G) 0 ≤ 4 = omega (arith, count, places_few e.kind n (small e.left left)) in
          record {
            colour_at = at.colour_at;
            places_at = count;
            left_at = λ k l. let four : k < 4 = omega (arith, l, few) in ends (8 * length G + k) (omega (arith, low, four)) ∙ parent_left s.rows c.lefts c.rights (length G) k four ∙ ap (λ (v : ℕ). get_or (get_or s.rows v []) k 0) at.left_at ∙ field_at e.left k left;
            right_at = λ k l. let four : k < 4 = omega (arith, l, few) in ends (8 * length G + 4 + k) (omega (arith, low, four)) ∙ parent_right s.rows c.lefts c.rights (length G) k four ∙ ap (λ (v : ℕ). get_or (get_or s.rows v []) k 0) at.right_at ∙ field_at e.right k right;
          }
