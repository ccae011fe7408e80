-- Reading the parent paths of marked edges, from the newest to the oldest: what is owed stays the same until all of it is marked.
use mathlib.Core.Bool.{Bool, true, false}
use mathlib.Core.List.{List, [], ◌∷◌, map, Memᴰ}
use mathlib.Core.Logic.{◌⊎◌, inl, inr, ⊎_elim, ◌↔◌}
use mathlib.Core.Path.{◌≡◌, refl, sym, ap, ap₂, subst, ◌∙◌}
use Prim.Native.Nat.{ℕ, zero, suc, ◌+◌, ◌-◌, ◌*◌, ◌≤◌, ◌<◌}
use native.Mathlib.Nat.{not-suc-le-zero, eq-zero-or-pos}
use native.Mathlib.Omega.{arith}
use lib.Dec.{T}
use lib.ListN.{length, get_or}
use lib.Seq.{get_or-take}
use Rattle.std.proofs.lemmas.Bool.{false≢true}
use Rattle.tables.specs.Words.{Pair}
use Rattle.tables.specs.Terms.{Term, term_at}
use Rattle.tables.specs.declared.Literal.{Literal}
use Rattle.tables.proofs.Words.{get_d_mem, below_or_is, passes}
use Rattle.closure.specs.declared.Edge.{Edge}
use Rattle.closure.specs.declared.EdgeKind.{EdgeKind}
use Rattle.closure.specs.declared.EdgeKind.TheVariants.{Basic, Derived}
use Rattle.graphs.specs.declared.paths.Trail.{Trail}
use Rattle.closure.specs.Graph.{Graph, Hop, Path, forth, vertices, joined, path, parent_paths}
use Rattle.closure.specs.Walks.{HopOf, onward, earlier, Walk, stay, hop}
use Rattle.closure.specs.Forests.{Each}
use Rattle.graphs.specs.Rooting.{number}
use Rattle.graphs.specs.Trails.{Joining, TrailOf}
use Rattle.closure.proofs.Walking.Walks.{hop_each, older_fewer, older_joined, path_walk}
use Rattle.closure.proofs.Walking.OnePath.{path_older}
use Rattle.closure.proofs.Walking.Parents.{SoundHop, hop_sound, path_hop, parent_hop}
use Rattle.closure.proofs.Walking.Places.{basic_parents, joined_place, place_parent, parent_place}
use Rattle.closure.proofs.Walking.ParentPaths.{sound_forest}
use Rattle.marking.specs.declared.drawing.Drawing.{Drawing}
use Rattle.marking.specs.declared.marks.Marks.{Marks}
use Rattle.marking.specs.Marks.{is_b, Reached, end_of, across, along, EdgeReached, PairWithin, Marked, Covered, Owed, Trailed, done, step, Within, RowsOf, Wanted}
use Rattle.marking.specs.Drawn.{parents_for, EdgeAt, Drawn, DrawnSome, EdgeSettled}
use Rattle.marking.proofs.Squares.{same_or_not}
use Rattle.marking.proofs.Reached.{edge_parents, wants_owed, owed_kept, reached_owed}

-- ---- edges by number

-- the edge of a number, over the older ones
pub record Numbered (P : Graph → Edge → Type 0) (G : Graph) (i : ℕ) : Type 0 where
  pub edge : Edge
  pub older : Graph
  pub has : P older edge
  pub walked : HopOf (forth edge older) G
  pub count : length older ≡ i

-- each number below the count of edges is that of an edge
pub numbered : (P : Graph → Edge → Type 0) (G : Graph) (i : ℕ) → Each P G → i < length G → Numbered P G i
numbered P [] i p h = absurd (not-suc-le-zero h)
numbered P (e ∷ G) i p h =
    same_or_not i (length G)
    (λ q. record { edge = e; older = G; has = p.0; walked = onward refl; count = sym q })
    (λ d. let r = numbered P G i p.1 (omega (arith, h, d)) in record { edge = r.edge; older = r.older; has = r.has; walked = earlier r.walked; count = r.count })

-- the colour of a hop stands under its edge's number
pub hop_colour : (table : List Term) (inb : List Bool) (places parents : List ℕ) (G : Graph) → Each (EdgeAt table inb places parents) G → {h : Hop} → HopOf h G → get_or inb (length h.older) false ≡ is_b h.colour
hop_colour table inb places parents G p {h} of =
    let r = hop_each (EdgeAt table inb places parents) of p in
    ⊎_elim (λ q. r.1.colour_at ∙ ap (λ (g : Hop). is_b g.colour) (sym q)) (λ q. r.1.colour_at ∙ ap (λ (g : Hop). is_b g.colour) (sym q)) r.2

-- ---- a path of the closure layer as a trail

module _ (inb : List Bool) (trail : Trail) (hi : ℕ) (G : Graph) (colours : (h : Hop) → HopOf h G → get_or inb (length h.older) false ≡ is_b h.colour) where
  -- a walk whose stops and edges stand in the lists from place lo on
  walk_trailed : {u v : ℕ} {π : Path} (lo : ℕ) → Walk G u v π → lo + length π ≡ hi → ((k : ℕ) → k ≤ length π → get_or trail.stops (lo + k) 0 ≡ get_or (vertices u π) k 0) → ((k : ℕ) → k < length π → get_or trail.edges (lo + k) 0 ≡ get_or (map number π) k 0) → Trailed inb trail hi lo π
  walk_trailed lo (stay q) e S E = let at : lo ≡ hi = omega (arith, e) in done at
  walk_trailed {u} lo (hop {h = h} {π = π} k q w) e S E =
      let here : lo + 0 ≡ lo = omega arith in
      let next : (n : ℕ) → lo + suc n ≡ suc lo + n = λ n. omega arith in
      let at : get_or trail.edges lo 0 ≡ length h.older = ap (λ (n : ℕ). get_or trail.edges n 0) (sym here) ∙ E 0 (omega arith) in
      step (ap (λ (n : ℕ). get_or trail.stops n 0) (sym here) ∙ S 0 (omega arith) ∙ q)
      (ap (λ (n : ℕ). get_or trail.stops n 0) (omega arith) ∙ S 1 (omega arith)) at
      (ap (λ (n : ℕ). get_or inb n false) at ∙ colours h k)
      (walk_trailed (suc lo) w (omega (arith, e)) (λ n l. ap (λ (m : ℕ). get_or trail.stops m 0) (sym (next n)) ∙ S (suc n) (omega (arith, l))) (λ n l. ap (λ (m : ℕ). get_or trail.edges m 0) (sym (next n)) ∙ E (suc n) (omega (arith, l))))

-- the members of the vertices of a walk and the numbers of its edges are in range
walk_stops : (G : Graph) (n m : ℕ) → ((h : Hop) → HopOf h G → (h.to < n) × (length h.older < m)) → {u v : ℕ} {π : Path} → u < n → Walk G u v π → ((k : ℕ) → k ≤ length π → get_or (vertices u π) k 0 < n) × ((k : ℕ) → k < length π → get_or (map number π) k 0 < m)
walk_stops G n m low {u} h (stay q) = (λ k l. stops k l, λ k l. absurd (not-suc-le-zero l))
  where
    stops : (k : ℕ) → k ≤ 0 → get_or (vertices u []) k 0 < n
    stops zero l = h
    stops (suc k) l = absurd (not-suc-le-zero l)
walk_stops G n m low {u} h (hop {h = g} {π = π} of q w) = go (walk_stops G n m low (low g of).0 w)
  where
    go : ((k : ℕ) → k ≤ length π → get_or (vertices g.to π) k 0 < n) × ((k : ℕ) → k < length π → get_or (map number π) k 0 < m) → ((k : ℕ) → k ≤ length (g ∷ π) → get_or (vertices u (g ∷ π)) k 0 < n) × ((k : ℕ) → k < length (g ∷ π) → get_or (map number (g ∷ π)) k 0 < m)
    go ih = (stops, numbers)
      where
        stops : (k : ℕ) → k ≤ length (g ∷ π) → get_or (vertices u (g ∷ π)) k 0 < n
        stops zero l = h
        stops (suc k) l = ih.0 k (omega (arith, l))

        numbers : (k : ℕ) → k < length (g ∷ π) → get_or (map number (g ∷ π)) k 0 < m
        numbers zero l = (low g of).1
        numbers (suc k) l = ih.1 k (omega (arith, l))

-- ---- the arrays

-- how many parent paths an edge has
abbrev pub paths_at : Drawing → ℕ → ℕ
paths_at arrays i = get_or arrays.places i 0

-- where the one of place k begins, at an argument of the edge's left end
abbrev pub left_end_at : Drawing → ℕ → ℕ → ℕ
left_end_at arrays i k = get_or arrays.parents (8 * i + k) 0

-- and ends, at an argument of its right end
abbrev pub right_end_at : Drawing → ℕ → ℕ → ℕ
right_end_at arrays i k = get_or arrays.parents (8 * i + 4 + k) 0

-- no more than arguments
pub places_few : (k : EdgeKind) (n : ℕ) → n ≤ 4 → parents_for k n ≤ 4
places_few Basic n h = omega arith
places_few Derived n h = h

-- an edge that has a parent path is derived
has_derived : (k : EdgeKind) (n j : ℕ) → j < parents_for k n → (k ≡ Derived) × (j < n)
has_derived Basic n j l = absurd (not-suc-le-zero l)
has_derived Derived n j l = (refl, l)

module _ (arrays : Drawing) (ts : List Term) (ls : List Literal) (table : List Term) (G : Graph) (d : Drawn arrays ts ls table G) where
  -- the path between joined vertices as the closure layer hands it out
  pub record PathRead (u v : ℕ) (r : Trail) : Type 0 where
    pub within : Within r 0 r.hops
    pub trailed : Trailed arrays.inb r r.hops 0 (path G u v)
    pub in_table : (k : ℕ) → k ≤ r.hops → get_or r.stops k 0 < length table

  -- its trail and its range
  pub path_read : (u v : ℕ) → u < length table → T (joined G u v) → (r : Trail) → TrailOf G u v r → PathRead u v r
  path_read u v low j r t =
      let w = path_walk G u v j in
      let range : (h : Hop) → HopOf h G → (h.to < length table) × (length h.older < 510) = λ h of. ((hop_sound ts ls table of d.sound).to_within, omega (arith, older_fewer of, d.counted, d.few)) in
      let in-range = walk_stops G (length table) 510 range low w in
      let S : (k : ℕ) → k ≤ length (path G u v) → get_or r.stops k 0 ≡ get_or (vertices u (path G u v)) k 0 = λ k l. sym (get_or-take (r.hops + 1) r.stops k 0 (omega (arith, t.hops, l))) ∙ ap (λ (x : List ℕ). get_or x k 0) t.stops in
      let E : (k : ℕ) → k < length (path G u v) → get_or r.edges k 0 ≡ get_or (map number (path G u v)) k 0 = λ k l. sym (get_or-take r.hops r.edges k 0 (omega (arith, t.hops, l))) ∙ ap (λ (x : List ℕ). get_or x k 0) t.edges in
      let none : (k : ℕ) → 0 + k ≡ k = λ k. omega arith in
      let in_table : (k : ℕ) → k ≤ r.hops → get_or r.stops k 0 < length table = λ k l. subst (λ (x : ℕ). x < length table) (sym (S k (omega (arith, t.hops, l)))) (in-range.0 k (omega (arith, t.hops, l))) in
      record {
        within = record { forward = omega arith; short = t.within; stops_low = λ k l. omega (arith, in_table k l, d.small); edges_low = λ k l. subst (λ (x : ℕ). x < 510) (sym (E k (omega (arith, t.hops, l)))) (in-range.1 k (omega (arith, t.hops, l))) };
        trailed = walk_trailed arrays.inb r r.hops G (λ h of. hop_colour table arrays.inb arrays.places arrays.parents G d.edges of) 0 w (omega (arith, t.hops)) (λ k l. ap (λ (m : ℕ). get_or r.stops m 0) (none k) ∙ S k l) (λ k l. ap (λ (m : ℕ). get_or r.edges m 0) (none k) ∙ E k l);
        in_table = in_table;
      }

  -- a square with a row for each vertex has the row of each stop
  pub path_rows : {u v : ℕ} {r : Trail} (size : ℕ) → 511 * length table ≤ size → PathRead u v r → RowsOf size r r.hops
  path_rows size h w = record { row = λ k l. omega (arith, w.in_table k l) }

  -- an edge by its number
  pub record EdgeRead (i : ℕ) : Type 0 where
    pub edge : Edge
    pub older : Graph
    pub walked : HopOf (forth edge older) G
    pub count_is : length older ≡ i
    pub places_is : paths_at arrays i ≡ parents_for edge.kind (length (term_at table edge.left).arguments)
    pub left_is : (k : ℕ) → k < paths_at arrays i → left_end_at arrays i k ≡ get_or (term_at table edge.left).arguments k 0
    pub right_is : (k : ℕ) → k < paths_at arrays i → right_end_at arrays i k ≡ get_or (term_at table edge.right).arguments k 0

  -- each number below the count has one
  pub edge_read : (i : ℕ) → i < arrays.count → EdgeRead i
  edge_read i h =
      let n = numbered (EdgeAt table arrays.inb arrays.places arrays.parents) G i d.edges (omega (arith, d.counted)) in
      let e = n.edge in
      let at = subst (λ (x : ℕ). (paths_at arrays x ≡ parents_for e.kind (length (term_at table e.left).arguments)) × ((k : ℕ) → k < paths_at arrays x → left_end_at arrays x k ≡ get_or (term_at table e.left).arguments k 0) × ((k : ℕ) → k < paths_at arrays x → right_end_at arrays x k ≡ get_or (term_at table e.right).arguments k 0)) n.count (n.has.places_at, n.has.left_at, n.has.right_at) in
      record { edge = e; older = n.older; walked = n.walked; count_is = n.count; places_is = at.0; left_is = at.1; right_is = at.2 }

  -- what the ends of the parent path at place k of an edge are
  pub record Paired (i k : ℕ) (h : Hop) : Type 0 where
    pub left_low : left_end_at arrays i k < length table
    pub right_low : right_end_at arrays i k < length table
    pub join : T (joined G (left_end_at arrays i k) (right_end_at arrays i k))
    pub is_parent : Memᴰ (path G (left_end_at arrays i k) (right_end_at arrays i k)) (parent_paths table h)

  -- a derived edge's arguments are joined pair by pair, and the paths between them are its parent paths
  module _ (i : ℕ) (h : i < arrays.count) where
    -- the edge
    abbrev edge_i : Edge
    edge_i = (edge_read i h).edge

    -- the hop over it from its left end
    abbrev pub hop_i : Hop
    hop_i = forth (edge_read i h).edge (edge_read i h).older

    -- the arguments of its left end
    abbrev xs : List ℕ
    xs = (term_at table edge_i.left).arguments

    -- the arguments of its right end
    abbrev ys : List ℕ
    ys = (term_at table edge_i.right).arguments

    -- it is sound
    hop_is : SoundHop ts ls table hop_i
    hop_is = hop_sound ts ls table (edge_read i h).walked d.sound

    -- where the edge is derived, the arguments at a place are joined by the older edges
    joined_here : edge_i.kind ≡ Derived → (k : ℕ) → k < length xs → (k < length ys) × T (joined hop_i.older (get_or xs k 0) (get_or ys k 0))
    joined_here is = joined_place ts ls table hop_i hop_is is edge_i.left edge_i.right refl refl

    -- and so are the ends of the parent path there
    joined_ends : (k : ℕ) → k < paths_at arrays i → (is : edge_i.kind ≡ Derived) → k < length xs → T (joined hop_i.older (left_end_at arrays i k) (right_end_at arrays i k))
    joined_ends k l is within =
        let r = edge_read i h in
        subst (λ (y : ℕ). T (joined hop_i.older (left_end_at arrays i k) y)) (sym (r.right_is k l)) (subst (λ (y : ℕ). T (joined hop_i.older y (get_or ys k 0))) (sym (r.left_is k l)) (joined_here is k within).1)

    -- the path between them is the one between the arguments
    same_path : (k : ℕ) (l : k < paths_at arrays i) (is : edge_i.kind ≡ Derived) (within : k < length xs) → path hop_i.older (get_or xs k 0) (get_or ys k 0) ≡ path G (left_end_at arrays i k) (right_end_at arrays i k)
    same_path k l is within =
        let r = edge_read i h in
        ap₂ (path hop_i.older) (sym (r.left_is k l)) (sym (r.right_is k l)) ∙ path_older (left_end_at arrays i k) (right_end_at arrays i k) r.walked (joined_ends k l is within)

    -- at each place
    pub paired : (k : ℕ) → k < paths_at arrays i → Paired i k hop_i
    paired k l =
        let r = edge_read i h in
        let has = has_derived edge_i.kind (length xs) k (omega (arith, l, r.places_is)) in
        let x = joined_here has.0 k has.1 in
        let in_left = d.lower edge_i.left hop_is.from_within (get_or xs k 0) (get_d_mem xs k 0 has.1) in
        let in_right = d.lower edge_i.right hop_is.to_within (get_or ys k 0) (get_d_mem ys k 0 x.0) in
        record {
          left_low = omega (arith, in_left, r.left_is k l, hop_is.from_within);
          right_low = omega (arith, in_right, r.right_is k l, hop_is.to_within);
          join = older_joined (left_end_at arrays i k) (right_end_at arrays i k) r.walked (joined_ends k l has.0 has.1);
          is_parent = subst (λ (π : Path). Memᴰ π (parent_paths table hop_i)) (same_path k l has.0 has.1) (place_parent ts ls table hop_i hop_is has.0 edge_i.left edge_i.right refl refl k has.1);
        }

    -- and there is no other parent path
    pub parent_paired : {π : Path} → Memᴰ π (parent_paths table hop_i) → (k : ℕ) × (k < paths_at arrays i) × (π ≡ path G (left_end_at arrays i k) (right_end_at arrays i k))
    parent_paired {π} m = go edge_i.kind refl
      where
        go : (k : EdgeKind) → edge_i.kind ≡ k → (k : ℕ) × (k < paths_at arrays i) × (π ≡ path G (left_end_at arrays i k) (right_end_at arrays i k))
        go Basic is = absurd (basic_parents table hop_i is m)
        go Derived is =
            let q = parent_place ts ls table hop_i hop_is is edge_i.left edge_i.right refl refl m in
            let l : q.0 < paths_at arrays i = omega (arith, q.1, (edge_read i h).places_is ∙ ap (λ (k : EdgeKind). parents_for k (length xs)) is) in
            (q.0, l, q.2 ∙ same_path q.0 l is q.1)

    -- what the parent paths of the edge reach is what the paths at its places reach
    pub paired_reached : (b mode : Bool) (p : Pair) → EdgeReached table G b p mode i ↔ ((k : ℕ) × (k < paths_at arrays i) × Reached table b p mode (path G (left_end_at arrays i k) (right_end_at arrays i k)))
    paired_reached b mode p =
        let r = edge_read i h in
        (λ x. let t = edge_parents ts ls table G d.sound b p mode hop_i r.walked (subst (EdgeReached table G b p mode) (sym r.count_is) x) in let q = parent_paired t.1 in (q.0, q.1, subst (Reached table b p mode) q.2 t.2), λ x. (hop_i, r.walked, r.count_is, (path G (left_end_at arrays i x.0) (right_end_at arrays i x.0), (paired x.0 x.1).is_parent, x.2)))

    -- a parent path has edges of lower numbers
    pub paired_lower : (k : ℕ) → k < paths_at arrays i → (g : Hop) → Memᴰ g (path G (left_end_at arrays i k) (right_end_at arrays i k)) → length g.older < i
    paired_lower k l g m = omega (arith, older_fewer (parent_hop table hop_i (paired k l).is_parent m), (edge_read i h).count_is)

-- ---- the turns over the arguments of one edge

module _ (arrays : Drawing) (i : ℕ) (b mode : Bool) where
  -- the arrays hold this graph
  abbrev DrawnAs : List Term → List Literal → List Term → Graph → Type 0
  DrawnAs ts ls table G = Drawn arrays ts ls table G

  -- the paths between the first j arguments are read
  pub record EdgeTo (pairs₀ : List Bool) (marks₀ : Marks) (j : ℕ) (pairs : List Bool) (marks : Marks) : Type 0 where
    pub same : length pairs ≡ length pairs₀
    pub cover : Covered pairs₀ marks₀.rows → Covered pairs marks.rows
    pub owed : (ts : List Term) (ls : List Literal) (table : List Term) (G : Graph) → DrawnAs ts ls table G → (p : Pair) → PairWithin 511 p → Owed table G b pairs marks i p ↔ (Owed table G b pairs₀ marks₀ i p ⊎ ((k : ℕ) × (k < j) × Reached table b p mode (path G (left_end_at arrays i k) (right_end_at arrays i k))))

  module _ (h : i < arrays.count) (pairs₀ : List Bool) (marks₀ : Marks) where
    -- one argument more
    pub edge_more : (j : ℕ) (pairs : List Bool) (marks : Marks) (pairs' : List Bool) (marks' : Marks) (r : Trail) → j < paths_at arrays i → ((ts : List Term) (ls : List Literal) (table : List Term) (G : Graph) → DrawnAs ts ls table G → Trailed arrays.inb r r.hops 0 (path G (left_end_at arrays i j) (right_end_at arrays i j))) → EdgeTo pairs₀ marks₀ j pairs marks → Wanted arrays.inb r 0 r.hops b mode pairs marks pairs' marks' → EdgeTo pairs₀ marks₀ (j + 1) pairs' marks'
    edge_more j pairs marks pairs' marks' r l trail x w =
        record {
          same = w.same ∙ x.same;
          cover = λ c. w.cover (x.cover c);
          owed = λ ts ls table G d p v. (λ y. to ts ls table G d p v y, λ y. from ts ls table G d p v y);
        }
      where
        Reads : List Term → Graph → Pair → ℕ → Type 0
        Reads table G p n = (k : ℕ) × (k < n) × Reached table b p mode (path G (left_end_at arrays i k) (right_end_at arrays i k))

        over : (G : Graph) → (g : Hop) → Memᴰ g (path G (left_end_at arrays i j) (right_end_at arrays i j)) → HopOf g G
        over G g m = path_hop G (left_end_at arrays i j) (right_end_at arrays i j) m

        low : (ts : List Term) (ls : List Literal) (table : List Term) (G : Graph) → DrawnAs ts ls table G → (g : Hop) → Memᴰ g (path G (left_end_at arrays i j) (right_end_at arrays i j)) → length g.older < i
        low ts ls table G d g m = paired_lower arrays ts ls table G d i h j l g m

        to : (ts : List Term) (ls : List Literal) (table : List Term) (G : Graph) → DrawnAs ts ls table G → (p : Pair) → PairWithin 511 p → Owed table G b pairs' marks' i p → Owed table G b pairs₀ marks₀ i p ⊎ Reads table G p (j + 1)
        to ts ls table G d p v y =
            ⊎_elim
            (λ z. ⊎_elim inl (λ q. inr (q.0, omega (arith, q.1), q.2)) ((x.owed ts ls table G d p v).0 z))
            (λ z. inr (j, omega arith, z))
            (wants_owed ts ls table G d.sound b p mode (path G (left_end_at arrays i j) (right_end_at arrays i j)) (over G) pairs marks pairs' marks' i v (w.wants _ (trail ts ls table G d)) y)

        from : (ts : List Term) (ls : List Literal) (table : List Term) (G : Graph) → DrawnAs ts ls table G → (p : Pair) → PairWithin 511 p → Owed table G b pairs₀ marks₀ i p ⊎ Reads table G p (j + 1) → Owed table G b pairs' marks' i p
        from ts ls table G d p v y =
            let wants = w.wants _ (trail ts ls table G d) in
            let kept : Owed table G b pairs marks i p → Owed table G b pairs' marks' i p = λ z. owed_kept ts ls table G d.sound b p mode (path G (left_end_at arrays i j) (right_end_at arrays i j)) (over G) pairs marks pairs' marks' i v wants z in
            ⊎_elim
            (λ z. kept ((x.owed ts ls table G d p v).1 (inl z)))
            (λ q. ⊎_elim (λ (m : q.0 < j). kept ((x.owed ts ls table G d p v).1 (inr (q.0, m, q.2)))) (λ (e : q.0 ≡ j). reached_owed ts ls table G d.sound b p mode (path G (left_end_at arrays i j) (right_end_at arrays i j)) (over G) pairs marks pairs' marks' i v wants (low ts ls table G d) (subst (λ (k : ℕ). Reached table b p mode (path G (left_end_at arrays i k) (right_end_at arrays i k))) e q.2)) (below_or_is q.0 j (omega (arith, q.1))))
            y

    -- all of them
    pub edge_all : (j : ℕ) (pairs : List Bool) (marks : Marks) → j ≡ paths_at arrays i → EdgeTo pairs₀ marks₀ j pairs marks → EdgeSettled arrays i b mode pairs₀ marks₀ pairs marks
    edge_all j pairs marks e x =
        record {
          same = x.same;
          cover = x.cover;
          owed = λ ts ls table G d p v. let y = x.owed ts ls table G d p v in let r = paired_reached arrays ts ls table G d i h b mode p in (λ z. ⊎_elim inl (λ q. inr (r.1 (q.0, omega (arith, q.1, e), q.2))) (y.0 z), λ z. y.1 (⊎_elim inl (λ q. let t = r.0 q in inr (t.0, omega (arith, t.1, e), t.2)) z));
        }

-- ---- what the code needs of the arrays

-- joined vertices, in the rooted forest
pub joins : (arrays : Drawing) (ts : List Term) (ls : List Literal) (table : List Term) (G : Graph) → Drawn arrays ts ls table G → {u v : ℕ} → T (joined G u v) → Joining arrays.forest u v G
joins arrays ts ls table G d j = record { forest = sound_forest ts ls table G d.sound; rooted = d.rooted; join = j }

module _ (arrays : Drawing) (i : ℕ) (h : i < arrays.count) where
  -- it has a number of the arrays, and no more parent paths than arguments
  pub record Bounds : Type 0 where
    pub number_low : i < 510
    pub places_low : paths_at arrays i ≤ 4

  -- where a graph is drawn
  pub bounds : (size : ℕ) → DrawnSome arrays size → Bounds
  bounds size s =
      let d = s.4 in
      let r = edge_read arrays s.0 s.1 s.2 s.3 d i h in
      record {
        number_low = omega (arith, d.few);
        places_low = omega (arith, r.places_is, places_few r.edge.kind _ (d.arity r.edge.left (hop_sound s.0 s.1 s.2 r.walked d.sound).from_within));
      }

  module _ (j : ℕ) (l : j < paths_at arrays i) where
    -- the paired arguments are joined in the rooted forest
    pub joining : (ts : List Term) (ls : List Literal) (table : List Term) (G : Graph) → Drawn arrays ts ls table G → Joining arrays.forest (left_end_at arrays i j) (right_end_at arrays i j) G
    joining ts ls table G d = joins arrays ts ls table G d (paired arrays ts ls table G d i h j l).join

    -- so the path between them is asked for
    pub path_asked : (size : ℕ) → DrawnSome arrays size → (left_end_at arrays i j < 511) × (right_end_at arrays i j < 511) × ((G : Graph) × Joining arrays.forest (left_end_at arrays i j) (right_end_at arrays i j) G)
    path_asked size s =
        let p = paired arrays s.0 s.1 s.2 s.3 s.4 i h j l in
        (omega (arith, p.left_low, s.4.small), omega (arith, p.right_low, s.4.small), (s.3, joining s.0 s.1 s.2 s.3 s.4))

    -- and read
    pub path_given : (r : Trail) → ((G : Graph) → Joining arrays.forest (left_end_at arrays i j) (right_end_at arrays i j) G → TrailOf G (left_end_at arrays i j) (right_end_at arrays i j) r) → (ts : List Term) (ls : List Literal) (table : List Term) (G : Graph) (d : Drawn arrays ts ls table G) → PathRead arrays ts ls table G d (left_end_at arrays i j) (right_end_at arrays i j) r
    path_given r t ts ls table G d =
        let p = paired arrays ts ls table G d i h j l in
        path_read arrays ts ls table G d (left_end_at arrays i j) (right_end_at arrays i j) p.left_low p.join r (t G (joining ts ls table G d))

-- ---- the pass over the edges

-- what is reached without a path's own factors is reached with them
pub reached_more : {table : List Term} {b : Bool} {p : Pair} {mode : Bool} {π : Path} → Reached table b p mode π → Reached table b p true π
reached_more (end_of k e q) = end_of k e q
reached_more (across m e o r) = across m e o r
reached_more (along x m e o r) = along x m e o r

-- what is owed below n is owed below n - 1, or by the edge of that number
abbrev pub OwedBy : List Term → Graph → Bool → Marks → ℕ → Pair → Type 0
OwedBy table G b marks i p = (Marked marks.inside i × EdgeReached table G b p true i) ⊎ (Marked marks.under i × EdgeReached table G b p false i)

-- what is owed below n, in two parts
owed_split : (table : List Term) (G : Graph) (b : Bool) (pairs : List Bool) (marks : Marks) (n i : ℕ) (p : Pair) → n ≡ i + 1 → Owed table G b pairs marks n p ↔ (Owed table G b pairs marks i p ⊎ OwedBy table G b marks i p)
owed_split table G b pairs marks n i p e = (to, from)
  where
    to : Owed table G b pairs marks n p → Owed table G b pairs marks i p ⊎ OwedBy table G b marks i p
    to (inl m) = inl (inl m)
    to (inr (k, l, x)) = ⊎_elim (λ (m : k < i). inl (inr (k, m, x))) (λ (q : k ≡ i). inr (subst (λ (y : ℕ). OwedBy table G b marks y p) q x)) (below_or_is k i (omega (arith, l, e)))

    from : Owed table G b pairs marks i p ⊎ OwedBy table G b marks i p → Owed table G b pairs marks n p
    from (inl (inl m)) = inl m
    from (inl (inr (k, l, x))) = inr (k, omega (arith, l, e), x)
    from (inr x) = inr (i, omega (arith, e), x)

module _ (arrays : Drawing) (b : Bool) where
  -- the edges from number i on are read
  pub record SettledTo (pairs₀ : List Bool) (marks₀ : Marks) (i : ℕ) (pairs : List Bool) (marks : Marks) : Type 0 where
    pub within : i ≤ arrays.count
    pub same : length pairs ≡ length pairs₀
    pub cover : Covered pairs₀ marks₀.rows → Covered pairs marks.rows
    pub owed : (ts : List Term) (ls : List Literal) (table : List Term) (G : Graph) → Drawn arrays ts ls table G → (p : Pair) → PairWithin 511 p → Owed table G b pairs marks i p ↔ Owed table G b pairs₀ marks₀ arrays.count p

  module _ (pairs₀ : List Bool) (marks₀ : Marks) (n : ℕ) (pairs : List Bool) (marks : Marks) (some : 0 < n) (x : SettledTo pairs₀ marks₀ n pairs marks) where
    -- a turn at the edge n - 1 after which what is owed below it is what was, and what the edge owed
    settle_turn : (pairs' : List Bool) (marks' : Marks) → length pairs' ≡ length pairs → (Covered pairs marks.rows → Covered pairs' marks'.rows) → ((ts : List Term) (ls : List Literal) (table : List Term) (G : Graph) → Drawn arrays ts ls table G → (p : Pair) → PairWithin 511 p → Owed table G b pairs' marks' (n - 1) p ↔ (Owed table G b pairs marks (n - 1) p ⊎ OwedBy table G b marks (n - 1) p)) → SettledTo pairs₀ marks₀ (n - 1) pairs' marks'
    settle_turn pairs' marks' e c f =
        record {
          within = omega (arith, x.within);
          same = e ∙ x.same;
          cover = λ y. c (x.cover y);
          owed = λ ts ls table G d p w. let s = owed_split table G b pairs marks n (n - 1) p (omega arith) in let g = f ts ls table G d p w in let y = x.owed ts ls table G d p w in (λ z. y.0 (s.1 (g.0 z)), λ z. g.1 (s.0 (y.1 z)));
        }

    -- an edge whose parent paths are read whole: that covers their premises' clauses
    settle_whole : (pairs' : List Bool) (marks' : Marks) → get_or marks.inside (n - 1) false ≡ true → EdgeSettled arrays (n - 1) b true pairs marks pairs' marks' → SettledTo pairs₀ marks₀ (n - 1) pairs' marks'
    settle_whole pairs' marks' e s =
        settle_turn pairs' marks' s.same s.cover
        (λ ts ls table G d p w. let y = s.owed ts ls table G d p w in (λ z. ⊎_elim inl (λ q. inr (inl (passes (get_or marks.inside (n - 1) false) e, q))) (y.0 z), λ z. y.1 (⊎_elim inl (λ q. inr (⊎_elim (λ a. a.1) (λ a. (a.1.0, a.1.1, a.1.2, (a.1.3.0, a.1.3.1, reached_more a.1.3.2))) q)) z)))

    -- an edge whose parent paths' own factors do not count
    settle_under : (pairs' : List Bool) (marks' : Marks) → get_or marks.inside (n - 1) false ≡ false → get_or marks.under (n - 1) false ≡ true → EdgeSettled arrays (n - 1) b false pairs marks pairs' marks' → SettledTo pairs₀ marks₀ (n - 1) pairs' marks'
    settle_under pairs' marks' e u s =
        settle_turn pairs' marks' s.same s.cover
        (λ ts ls table G d p w. let y = s.owed ts ls table G d p w in (λ z. ⊎_elim inl (λ q. inr (inr (passes (get_or marks.under (n - 1) false) u, q))) (y.0 z), λ z. y.1 (⊎_elim inl (λ q. inr (⊎_elim (λ a. absurd (subst T e a.0)) (λ a. a.1) q)) z)))

    -- an edge that is not marked
    settle_unmarked : get_or marks.inside (n - 1) false ≡ false → get_or marks.under (n - 1) false ≡ false → SettledTo pairs₀ marks₀ (n - 1) pairs marks
    settle_unmarked e u =
        settle_turn pairs marks refl (λ c. c)
        (λ ts ls table G d p w. (inl, λ z. ⊎_elim (λ y. y) (λ q. absurd (⊎_elim (λ a. subst T e a.0) (λ a. subst T u a.0) q)) z))

    -- an edge without a parent path
    settle_bare : (0 < paths_at arrays (n - 1) → ⊥) → SettledTo pairs₀ marks₀ (n - 1) pairs marks
    settle_bare e =
        settle_turn pairs marks refl (λ c. c)
        (λ ts ls table G d p w. (inl, λ z. ⊎_elim (λ y. y) (λ q. absurd (⊎_elim (λ a. none ts ls table G d true p a.1) (λ a. none ts ls table G d false p a.1) q)) z))
      where
        none : (ts : List Term) (ls : List Literal) (table : List Term) (G : Graph) → Drawn arrays ts ls table G → (mode : Bool) (p : Pair) → EdgeReached table G b p mode (n - 1) → ⊥
        none ts ls table G d mode p r = let t = (paired_reached arrays ts ls table G d (n - 1) (omega (arith, x.within)) b mode p).0 r in e (omega (arith, t.1))

    -- an edge whose parent paths are asked for
    pub settle_asked : (pairs' : List Bool) (marks' : Marks) → (get_or marks.inside (n - 1) false ≡ true) ⊎ (get_or marks.under (n - 1) false ≡ true) → EdgeSettled arrays (n - 1) b (get_or marks.inside (n - 1) false) pairs marks pairs' marks' → SettledTo pairs₀ marks₀ (n - 1) pairs' marks'
    settle_asked pairs' marks' e s = go (get_or marks.inside (n - 1) false) refl e s
      where
        go : (y : Bool) → get_or marks.inside (n - 1) false ≡ y → (y ≡ true) ⊎ (get_or marks.under (n - 1) false ≡ true) → EdgeSettled arrays (n - 1) b y pairs marks pairs' marks' → SettledTo pairs₀ marks₀ (n - 1) pairs' marks'
        go true q e s = settle_whole pairs' marks' q s
        go false q (inl e) s = absurd (false≢true e)
        go false q (inr u) s = settle_under pairs' marks' q u s

    -- one whose are not
    pub settle_left : (0 < paths_at arrays (n - 1) → (get_or marks.inside (n - 1) false ≡ false) × (get_or marks.under (n - 1) false ≡ false)) → SettledTo pairs₀ marks₀ (n - 1) pairs marks
    settle_left f = ⊎_elim (λ z. settle_bare (λ h. omega arith)) (λ h. settle_unmarked (f h).0 (f h).1) (eq-zero-or-pos (paths_at arrays (n - 1)))
