-- Laws of the array of labels: one edge more changes it by one rule.
use mathlib.Core.Bool.{cond}
use mathlib.Core.List.{List, [], ◌∷◌, map, map-map}
use mathlib.Core.Path.{◌≡◌, sym, ◌∙◌}
use Prim.Native.Nat.{ℕ, ◌<◌}
use native.Mathlib.Omega.{arith}
use lib.Dec.{eqb}
use lib.ListN.{length, get_or}
use lib.Seq.{ext_get_or}
use Rattle.tables.specs.Words.{below}
use Rattle.tables.proofs.Terms.{map_agree}
use Rattle.tables.proofs.Filled.{length_map_below, map_below_at}
use Rattle.closure.specs.Graph.{Graph, label}
use Rattle.closure.specs.declared.Edge.{Edge}
use Rattle.closure.proofs.Walking.Joined.{label_nothing, label_edge}
use Rattle.graphs.specs.Layout.{labels_of}

-- ---- labels

-- the label of a term
pub label_at : (G : Graph) (v d : ℕ) → v < 511 → get_or (labels_of G) v d ≡ label G v
unfolding labels_of
label_at G v d h = map_below_at (label G) 511 v d h

-- there are 511 of them
pub labels_length : (G : Graph) → length (labels_of G) ≡ 511
unfolding labels_of
labels_length G = length_map_below (label G) 511

-- one edge more: those at its right end get the number of its left end
pub labels_edge : (e : Edge) (G : Graph) → map (λ x. cond (eqb x (label G e.right)) (label G e.left) x) (labels_of G) ≡ labels_of (e ∷ G)
unfolding labels_of
labels_edge e G = map-map _ _ (below 511) ∙ map_agree _ _ (below 511) (λ v m. sym (label_edge e G v))

-- without edges each term has its own
pub own_labels : (xs : List ℕ) → length xs ≡ 511 → ((i : ℕ) → i < 511 → get_or xs i 0 ≡ i) → xs ≡ labels_of []
own_labels xs l f = ext_get_or 0 xs (labels_of []) (l ∙ sym (labels_length [])) (λ i h. let b : i < 511 = omega arith in f i b ∙ sym (label_at [] i 0 b ∙ label_nothing i))
