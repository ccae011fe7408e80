-- Vertices are reached one by one, each by an edge from one that was; when no edge leads on, all are.
use mathlib.Core.Bool.{Bool, true, false}
use mathlib.Core.List.{List, [], ◌∷◌}
use mathlib.Core.Logic.{◌⊎◌, inl, inr, ⊎_elim}
use mathlib.Core.Path.{◌≡◌, refl, sym, ap, subst, ◌∙◌}
use Prim.Native.Nat.{ℕ, zero, suc, ◌+◌, ◌≤◌, ◌<◌}
use native.Mathlib.Nat.{not-suc-le-zero, eq-zero-or-pos}
use native.Mathlib.Numerals.{add-one}
use native.Mathlib.Omega.{arith}
use lib.Dec.{T, eqb}
use lib.ListN.{length, get_or, set, replicate, length-set, length-replicate}
use lib.Seq.{get_or-set_same, get_or-set_other}
use Rattle.std.proofs.lemmas.Bool.{true≢false}
use borrow.Author.Tests.{eqb-true, eqb-false}
use Rattle.tables.proofs.Words.{by_test}
use Rattle.closure.specs.Graph.{Graph, Hop, Path, label}
use Rattle.closure.specs.declared.Edge.{Edge}
use Rattle.closure.specs.Walks.{HopOf, onward, backward, earlier, Walk, stay, hop}
use Rattle.closure.specs.Forests.{EndsBelow}
use Rattle.graphs.specs.Layout.{no_edge, last_first, newest_first, labels_of}
use Rattle.graphs.specs.Rooting.{number, Toward, Leads, RootedBy, positives, Growing, grown, Closed}
use Rattle.graphs.specs.declared.rooting.Rooting.{Rooting}
use Rattle.closure.proofs.Walking.Joined.{label_nothing, label_joined, label_cases}
use Rattle.closure.proofs.Walking.Walks.{path_walk}
use Rattle.closure.proofs.Walking.Count.{label_label}
use Rattle.graphs.proofs.LabelArray.{label_at}
use Rattle.graphs.proofs.Numbered.{last_first_length, forth_by, back_by, hops_by, each_by}

-- two numbers are the same or not
pub same_or_not : (m n : ℕ) → (m ≡ n) ⊎ (m ≡ n → ⊥)
same_or_not m n = by_test (eqb m n) (λ q. inl (eqb-true m n q)) (λ q. inr (eqb-false m n q))

-- ---- how many are reached

-- no more than there are
pub positives_length : (xs : List ℕ) → positives xs ≤ length xs
unfolding positives
positives_length [] = omega arith
positives_length (zero ∷ xs) = omega (arith, positives_length xs)
positives_length (suc x ∷ xs) = omega (arith, positives_length xs)

-- one more after a store where 0 stood
pub positives_set : (xs : List ℕ) (v k : ℕ) → v < length xs → get_or xs v 0 ≡ 0 → positives (set xs v (k + 1)) ≡ positives xs + 1
unfolding positives
positives_set [] v k h z = absurd (not-suc-le-zero h)
positives_set (zero ∷ xs) zero k h z = rw (add-one k, add-one (positives xs))
positives_set (suc x ∷ xs) zero k h z = absurd (let e : suc x ≡ 0 = z in omega arith)
positives_set (zero ∷ xs) (suc v) k h z = positives_set xs v k (omega arith) z
positives_set (suc x ∷ xs) (suc v) k h z = omega (arith, positives_set xs v k (omega arith) z)

-- one of them is enough to count
pub positives_some : (xs : List ℕ) (v : ℕ) → 0 < get_or xs v 0 → 0 < positives xs
unfolding positives
positives_some [] v h = absurd (not-suc-le-zero h)
positives_some (zero ∷ xs) zero h = absurd (not-suc-le-zero h)
positives_some (suc x ∷ xs) zero h = omega arith
positives_some (zero ∷ xs) (suc v) h = positives_some xs v h
positives_some (suc x ∷ xs) (suc v) h = omega arith

-- there are 511 of them
pub rank_within : {G : Graph} {r : Rooting} → Growing G r → {v : ℕ} → v < 511 → get_or r.rank v 0 ≤ 511
rank_within {r = r} g {v} h = omega (arith, g.long, g.bounded v h, positives_length r.rank)

-- ---- the roots

-- what holds when the roots among the first v numbers are marked, and nothing else is
pub record Marking (labels rank : List ℕ) (v : ℕ) : Type 0 where
  pub long : length rank ≡ 511
  pub marked : (w : ℕ) → w < v → get_or labels w 0 ≡ w → get_or rank w 0 ≡ 1
  pub only : (w : ℕ) → 0 < get_or rank w 0 → (w < v) × (get_or labels w 0 ≡ w) × (get_or rank w 0 ≡ 1)

-- 0 stands everywhere in an array of zeros
zeros_at : (n w : ℕ) → ◌≡◌ {A = ℕ} (get_or (replicate n 0) w 0) 0
zeros_at zero w = refl
zeros_at (suc n) zero = refl
zeros_at (suc n) (suc w) = zeros_at n w

-- at the start nothing is marked
pub marking_none : (labels : List ℕ) → Marking labels (replicate 511 0) 0
marking_none labels = record { long = length-replicate {A = ℕ} 511 0; marked = λ w h. absurd (not-suc-le-zero h); only = λ w h. absurd (omega (arith, zeros_at 511 w)) }

-- the roots of a graph alone are reached
pub marking_growing : (G : Graph) (r : Rooting) {labels : List ℕ} → labels ≡ labels_of G → Marking labels r.rank 511 → Growing G r
marking_growing G r {labels} q m =
    let here : (v : ℕ) → v < 511 → get_or labels v 0 ≡ label G v = λ v b. ap (λ (l : List ℕ). get_or l v 0) q ∙ label_at G v 0 b in
    record {
      long = m.long;
      bounded = λ v b. ⊎_elim (λ z. omega (arith, z)) (λ k. omega (arith, (m.only v k).2, positives_some r.rank v k)) (eq-zero-or-pos (get_or r.rank v 0));
      roots = λ v b e. omega (arith, m.marked v b (here v b ∙ e));
      leads = λ v b k. let o = m.only v k in inl (sym (here v b) ∙ o.1, o.2);
    }

-- ---- one vertex more

-- an edge toward the root stays, where its three numbers and the rank of where it leads do
toward_kept : {G : Graph} {r : Rooting} (r' : Rooting) {w : ℕ} → get_or r'.toward w 0 ≡ get_or r.toward w 0 → get_or r'.by w 0 ≡ get_or r.by w 0 → get_or r'.rank w 0 ≡ get_or r.rank w 0 → get_or r'.rank (get_or r.toward w 0) 0 ≡ get_or r.rank (get_or r.toward w 0) 0 → Toward G r w → Toward G r' w
toward_kept {r = r} r' {w} p q k s T =
    let s' : get_or r'.rank (get_or r'.toward w 0) 0 ≡ get_or r.rank (get_or r.toward w 0) 0 = ap (λ (x : ℕ). get_or r'.rank x 0) p ∙ s in
    record {
      within = subst (λ (x : ℕ). x < 511) (sym p) T.within;
      lower = omega (arith, T.lower);
      reached = omega (arith, T.reached);
      way = T.way;
      way_of = T.way_of;
      way_from = T.way_from;
      way_to = T.way_to ∙ sym p;
      way_number = T.way_number ∙ sym q;
    }

module _ {G : Graph} {r : Rooting} (long : (length r.toward ≡ 511) × (length r.by ≡ 511)) (g : Growing G r) (v from : ℕ) (h : Hop) (m : HopOf h G) (hf : h.from ≡ v) (ht : h.to ≡ from) (bv : v < 511) (bf : from < 511) (free : get_or r.rank v 0 ≡ 0) (stood : 0 < get_or r.rank from 0) where
  abbrev r' : Rooting
  r' = grown r v from (number h)

  -- every other vertex keeps its rank
  rank_other : (w : ℕ) → (w ≡ v → ⊥) → get_or r'.rank w 0 ≡ get_or r.rank w 0
  rank_other w d = get_or-set_other r.rank v w (get_or r.rank from 0 + 1) 0 d

  -- the vertex that is reached has one more than its neighbour
  rank_here : get_or r'.rank v 0 ≡ get_or r.rank from 0 + 1
  rank_here = get_or-set_same r.rank v (get_or r.rank from 0 + 1) 0 (omega (arith, g.long))

  -- what was reached is another vertex
  reached_other : (w : ℕ) → 0 < get_or r.rank w 0 → w ≡ v → ⊥
  reached_other w k q = let z : get_or r.rank w 0 ≡ 0 = ap (λ (x : ℕ). get_or r.rank x 0) q ∙ free in omega arith

  -- it has its edge
  leads_here : Toward G r' v
  leads_here =
      let t : get_or (set r.toward v from) v 0 ≡ from = get_or-set_same r.toward v from 0 (omega (arith, long.0)) in
      let k : get_or r'.rank (get_or (set r.toward v from) v 0) 0 ≡ get_or r.rank from 0 = ap (λ (x : ℕ). get_or r'.rank x 0) t ∙ rank_other from (reached_other from stood) in
      record {
        within = omega arith;
        lower = omega (arith, rank_here);
        reached = omega arith;
        way = h;
        way_of = m;
        way_from = hf;
        way_to = ht ∙ sym t;
        way_number = sym (get_or-set_same r.by v (number h) 0 (omega (arith, long.1)));
      }

  -- the others keep theirs
  leads_other : (w : ℕ) → (w ≡ v → ⊥) → Leads G r w → Leads G r' w
  leads_other w d (inl p) = inl (p.0, rank_other w d ∙ p.1)
  leads_other w d (inr T) =
      inr
      (toward_kept r' (get_or-set_other r.toward v w from 0 d)
      (get_or-set_other r.by v w (number h) 0 d)
      (rank_other w d)
      (rank_other (get_or r.toward w 0) (reached_other (get_or r.toward w 0) T.reached))
      T)

  -- one more is reached
  pub positives_more : positives r'.rank ≡ positives r.rank + 1
  positives_more = positives_set r.rank v (get_or r.rank from 0) (omega (arith, g.long)) free

  -- all that holds while vertices are reached holds again
  pub growing_more : Growing G r'
  growing_more =
      let more = positives_more in
      record {
        long = length-set r.rank v (get_or r.rank from 0 + 1) ∙ g.long;
        bounded = λ w b. ⊎_elim (λ q. let e : get_or r'.rank w 0 ≡ get_or r.rank from 0 + 1 = ap (λ (x : ℕ). get_or r'.rank x 0) q ∙ rank_here in omega (arith, more, g.bounded from bf)) (λ d. omega (arith, more, rank_other w d, g.bounded w b)) (same_or_not w v);
        roots = λ w b q. ⊎_elim (λ e. let z : get_or r.rank w 0 ≡ 0 = ap (λ (x : ℕ). get_or r.rank x 0) e ∙ free in absurd (omega (arith, g.roots w b q))) (λ d. omega (arith, rank_other w d, g.roots w b q)) (same_or_not w v);
        leads = λ w b k.
            ⊎_elim (λ q. subst (Leads G r') (sym q) (inr leads_here))
            (λ d. leads_other w d (g.leads w b (omega (arith, rank_other w d))))
            (same_or_not w v);
      }

-- ---- all vertices

-- a label is as small as the ends of the edges
pub label_below : (n : ℕ) (G : Graph) → EndsBelow n G → (v : ℕ) → v < n → label G v < n
label_below n [] ends v h = subst (λ (x : ℕ). x < n) (sym (label_nothing v)) h
label_below n (e ∷ G) ends v h = ⊎_elim (λ c. subst (λ (x : ℕ). x < n) (sym c.1) (label_below n G ends.1 e.left ends.0.0)) (λ c. subst (λ (x : ℕ). x < n) (sym c.1) (label_below n G ends.1 v h)) (label_cases e G v)

-- one edge more leads nowhere new, where both its ends are reached or neither
pub closed_more : (es : List Edge) (i : ℕ) (rank : List ℕ) → Closed (newest_first i es) rank → (0 < get_or rank (get_or es i no_edge).left 0 → 0 < get_or rank (get_or es i no_edge).right 0) → (0 < get_or rank (get_or es i no_edge).right 0 → 0 < get_or rank (get_or es i no_edge).left 0) → Closed (newest_first (i + 1) es) rank
unfolding last_first
closed_more es i rank c f b h k = go (subst (λ (n : ℕ). HopOf h (newest_first n es)) (add-one i) k)
  where
    go : HopOf h (newest_first (suc i) es) → 0 < get_or rank h.from 0 → 0 < get_or rank h.to 0
    go (onward q) = subst (λ (g : Hop). 0 < get_or rank g.from 0 → 0 < get_or rank g.to 0) (sym q) f
    go (backward q) = subst (λ (g : Hop). 0 < get_or rank g.from 0 → 0 < get_or rank g.to 0) (sym q) b
    go (earlier m) = c h m

-- what holds in a pass when the first i edges have been looked at: start is how many were reached before
pub record Passing (es : List Edge) (n start : ℕ) (r : Rooting) (more : Bool) (i : ℕ) : Type 0 where
  pub growing : Growing (newest_first n es) r
  pub least : start ≤ positives r.rank
  pub grew : more ≡ true → start < positives r.rank
  pub closed : more ≡ false → Closed (newest_first i es) r.rank

-- the ends of an edge are vertices
pub ends_here : (es : List Edge) {n i : ℕ} → i < n → EndsBelow 511 (newest_first n es) → ((get_or es i no_edge).left < 511) × ((get_or es i no_edge).right < 511)
ends_here es {n} {i} h ends = each_by (λ G e. (e.left < 511) × (e.right < 511)) es i n h ends

-- the next edge: where just one end is reached, the other is reached from it
module _ {es : List Edge} {n start : ℕ} {r : Rooting} {more : Bool} {i : ℕ} (long : (length r.toward ≡ 511) × (length r.by ≡ 511)) (p : Passing es n start r more i) (h : i < n) (ends : EndsBelow 511 (newest_first n es)) where
  -- by a hop over it
  reach_by : (g : Hop) → HopOf g (newest_first n es) → number g ≡ i → g.from < 511 → g.to < 511 → get_or r.rank g.from 0 ≡ 0 → 0 < get_or r.rank g.to 0 → Passing es n start (grown r g.from g.to i) true (i + 1)
  reach_by g m q bf bt z k =
      subst (λ (x : ℕ). Passing es n start (grown r g.from g.to x) true (i + 1)) q
      (record {
        growing = growing_more long p.growing g.from g.to g m refl refl bf bt z k;
        least = omega (arith, p.least, positives_more long p.growing g.from g.to g m refl refl bf bt z k);
        grew = λ e. omega (arith, p.least, positives_more long p.growing g.from g.to g m refl refl bf bt z k);
        closed = λ e. absurd (true≢false e);
      })

  -- its left end is reached
  pub reach_left : get_or r.rank (get_or es i no_edge).left 0 ≡ 0 → (get_or r.rank (get_or es i no_edge).right 0 ≡ 0 → ⊥) → Passing es n start (grown r (get_or es i no_edge).left (get_or es i no_edge).right i) true (i + 1)
  reach_left z k = reach_by (forth_by es i) (hops_by es i n h).0 (last_first_length no_edge i es) (ends_here es h ends).0 (ends_here es h ends).1 z (omega arith)

  -- its right end is reached
  pub reach_right : (get_or r.rank (get_or es i no_edge).left 0 ≡ 0 → ⊥) → get_or r.rank (get_or es i no_edge).right 0 ≡ 0 → Passing es n start (grown r (get_or es i no_edge).right (get_or es i no_edge).left i) true (i + 1)
  reach_right k z = reach_by (back_by es i) (hops_by es i n h).1 (last_first_length no_edge i es) (ends_here es h ends).1 (ends_here es h ends).0 z (omega arith)

  -- where both are reached or neither, nothing changes
  pub reach_none : (0 < get_or r.rank (get_or es i no_edge).left 0 → 0 < get_or r.rank (get_or es i no_edge).right 0) → (0 < get_or r.rank (get_or es i no_edge).right 0 → 0 < get_or r.rank (get_or es i no_edge).left 0) → Passing es n start r more (i + 1)
  reach_none f b = record { growing = p.growing; least = p.least; grew = p.grew; closed = λ e. closed_more es i r.rank (p.closed e) f b }

-- the same of what is the same
pub passing_same : {es : List Edge} {n start : ℕ} {r r' : Rooting} {more more' : Bool} {i : ℕ} → r' ≡ r → more' ≡ more → Passing es n start r more i → Passing es n start r' more' i
passing_same {es} {n} {start} {r} {r'} {more} {more'} {i} p q w = subst (λ (x : Rooting). Passing es n start x more' i) (sym p) (subst (λ (b : Bool). Passing es n start r b i) (sym q) w)

-- where no edge leads on, all of a walk from a vertex that is reached is
walk_reached : {G : Graph} (rank : List ℕ) → Closed G rank → {u v : ℕ} {π : Path} → Walk G u v π → 0 < get_or rank u 0 → 0 < get_or rank v 0
walk_reached rank c (stay q) h = subst (λ (x : ℕ). 0 < get_or rank x 0) q h
walk_reached rank c (hop {h = g} k q w) h = walk_reached rank c w (c g k (subst (λ (x : ℕ). 0 < get_or rank x 0) q h))

-- so every vertex is reached, from its label
pub all_rooted : (G : Graph) (r : Rooting) → EndsBelow 511 G → Growing G r → Closed G r.rank → RootedBy G r
all_rooted G r ends g c v h =
    let l = label G v in
    let w = path_walk G l v (label_joined G l v (label_label G v)) in
    let k = walk_reached r.rank c w (g.roots l (label_below 511 G ends v h) (label_label G v)) in
    (k, g.leads v h k)
