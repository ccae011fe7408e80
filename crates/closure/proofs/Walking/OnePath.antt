-- "a path connects them": in a graph without a cycle the path between joined terms is the only walk that stands on no vertex twice.
use mathlib.Core.Bool.{not}
use mathlib.Core.List.Memᴰ
use mathlib.Core.List.{List, [], ◌∷◌, ◌++◌, map, map-append, append_assoc, append-nil, Memᴰ}
use mathlib.Core.Logic.{◌⊎◌, inl, inr, ⊎_elim, ◌↔◌}
use mathlib.Core.Path.{◌≡◌, refl, sym, ap, subst, ◌∙◌}
use Prim.Native.Nat.{ℕ}
use lib.Dec.{T, T_not, not_T}
use Rattle.tables.proofs.Words.{decide}
use Rattle.closure.specs.Graph.{Edge, Graph, Hop, Path, forth, back, joined, path, vertices}
use Rattle.closure.specs.Walks.{HopOf, onward, backward, earlier, Walk, stay, hop, Once, nothing, new, IsPath}
use Rattle.closure.proofs.Walking.Joined.{joined_sym, joined_trans, joined_cases}
use Rattle.closure.proofs.Walking.Walks.{older_joined, walk_joined, path_aside, path_forward, path_backward, path_walk}
use Rattle.closure.proofs.Walking.Invariant.{Unjoined, Forest}

-- ---- lists without repetition

-- the first half of such a list is one
pub once_left : (xs ys : List ℕ) → Once (xs ++ ys) → Once xs
once_left [] ys o = nothing
once_left (x ∷ xs) ys (new f o) = new (λ m. f (Memᴰ.append_left ys m)) (once_left xs ys o)

-- so is the second
pub once_right : (xs ys : List ℕ) → Once (xs ++ ys) → Once ys
once_right [] ys o = o
once_right (x ∷ xs) ys (new f o) = once_right xs ys o

-- and the halves have no member in common
pub once_apart : (xs ys : List ℕ) → Once (xs ++ ys) → (x : ℕ) → Memᴰ x xs → Memᴰ x ys → ⊥
once_apart [] ys o z m k = Memᴰ.not-nil m
once_apart (x ∷ xs) ys (new f o) z (Memᴰ.head e) k = f (Memᴰ.append_right xs (subst (λ (w : ℕ). Memᴰ w ys) e k))
once_apart (x ∷ xs) ys (new f o) z (Memᴰ.tail m) k = once_apart xs ys o z m k

-- two such lists without a common member make one
pub once_append : {xs ys : List ℕ} → Once xs → Once ys → ((x : ℕ) → Memᴰ x xs → Memᴰ x ys → ⊥) → Once (xs ++ ys)
once_append nothing p d = p
once_append (new {x = x} {xs = xs} f o) p d = new (λ m. ⊎_elim f (d x (Memᴰ.head refl)) (Memᴰ.append_cases xs m)) (once_append o p (λ y m k. d y (Memᴰ.tail m) k))

-- ---- where a walk stands

-- the vertices of two walks, one after the other
pub vertices_append : (u : ℕ) (π ρ : Path) → vertices u (π ++ ρ) ≡ vertices u π ++ map (λ h. h.to) ρ
vertices_append u π ρ = ap (λ (l : List ℕ). u ∷ l) (map-append (λ h. h.to) π ρ)

-- a walk stands on its end
pub walk_end : {G : Graph} {u v : ℕ} {π : Path} → Walk G u v π → Memᴰ v (vertices u π)
walk_end (stay q) = Memᴰ.head (sym q)
walk_end (hop k q w) = Memᴰ.tail (walk_end w)

-- a walk begins where its first hop does
pub walk_from : {G : Graph} {u v : ℕ} {h : Hop} {π : Path} → Walk G u v (h ∷ π) → u ≡ h.from
walk_from (hop k q w) = q

-- a walk over hops in two parts is two walks
pub walk_split : {G : Graph} {u v : ℕ} (π ρ : Path) → Walk G u v (π ++ ρ) → (x : ℕ) × Walk G u x π × Walk G x v ρ
walk_split {u = u} [] ρ w = (u, stay refl, w)
walk_split (h ∷ π) ρ (hop k q w) = let r = walk_split π ρ w in (r.0, hop k q r.1, r.2)

-- a walk is cut in two at each vertex that it stands on
pub walk_at : {G : Graph} {u v x : ℕ} {π : Path} → Walk G u v π → Memᴰ x (vertices u π) → (ρ : Path) × (σ : Path) × (π ≡ ρ ++ σ) × Walk G u x ρ × Walk G x v σ
walk_at (stay q) m = let e = Memᴰ.eq_of_singleton m in ([], [], refl, stay (sym e), stay (e ∙ q))
walk_at {G} {u} {v} {x} (hop {h = h} {π = π} k q w) m = go (Memᴰ.cases_cons m) (λ n. walk_at w n)
  where
    go : (x ≡ u) ⊎ Memᴰ x (vertices h.to π) → (Memᴰ x (vertices h.to π) → (ρ : Path) × (σ : Path) × (π ≡ ρ ++ σ) × Walk G h.to x ρ × Walk G x v σ) → (ρ : Path) × (σ : Path) × (h ∷ π ≡ ρ ++ σ) × Walk G u x ρ × Walk G x v σ
    go (inl e) f = ([], h ∷ π, refl, stay (sym e), hop k (e ∙ q) w)
    go (inr n) f = let r = f n in (h ∷ r.0, r.1, ap (λ (τ : Path). h ∷ τ) r.2, hop k q r.3, r.4)

-- every vertex on a walk is joined to its start
pub vertex_joined : {G : Graph} {u v x : ℕ} {π : Path} → Walk G u v π → Memᴰ x (vertices u π) → T (joined G u x)
vertex_joined w m = walk_joined (walk_at w m).3

-- ---- hops walked the other way

-- a hop from its other end
abbrev pub turned : Hop → Hop
turned h = record { from = h.to; to = h.from; colour = h.colour; kind = h.kind; older = h.older }

-- hops from the other end: the last comes first, and each is walked the other way
unfoldable pub backwards : Path → Path
backwards [] = []
backwards (h ∷ π) = backwards π ++ (turned h ∷ [])

-- a hop and its turned one walk one edge
pub turned_hop : {h : Hop} {G : Graph} → HopOf h G → HopOf (turned h) G
turned_hop (onward q) = backward (ap turned q)
turned_hop (backward q) = onward (ap turned q)
turned_hop (earlier k) = earlier (turned_hop k)

-- of nothing it is nothing, and the first hop comes last
pub backwards_none : backwards [] ≡ []
unfolding backwards
backwards_none = refl

pub backwards_hop : (h : Hop) (π : Path) → backwards (h ∷ π) ≡ backwards π ++ (turned h ∷ [])
unfolding backwards
backwards_hop h π = refl

-- backwards of two parts: the second comes first
pub backwards_append : (π ρ : Path) → backwards (π ++ ρ) ≡ backwards ρ ++ backwards π
unfolding backwards
backwards_append [] ρ = sym (append-nil (backwards ρ))
backwards_append (h ∷ π) ρ = ap (λ (τ : Path). τ ++ (turned h ∷ [])) (backwards_append π ρ) ∙ append_assoc (backwards ρ) (backwards π) (turned h ∷ [])

-- backwards of a path by way of a hop
pub backwards_by_way : (π : Path) (h : Hop) (ρ : Path) → backwards (π ++ (h ∷ ρ)) ≡ backwards ρ ++ (turned h ∷ backwards π)
unfolding backwards
backwards_by_way π h ρ = backwards_append π (h ∷ ρ) ∙ append_assoc (backwards ρ) (turned h ∷ []) (backwards π)

-- backwards twice is the path itself
pub backwards_twice : (π : Path) → backwards (backwards π) ≡ π
unfolding backwards
backwards_twice [] = refl
backwards_twice (h ∷ π) = backwards_append (backwards π) (turned h ∷ []) ∙ ap (λ (τ : Path). h ∷ τ) (backwards_twice π)

-- a hop of the path is met turned on the way back
pub mem_backwards : {h : Hop} {π : Path} → Memᴰ h π → Memᴰ (turned h) (backwards π)
unfolding backwards
mem_backwards (Memᴰ.head {xs = π} e) = Memᴰ.append_right (backwards π) (Memᴰ.head (ap turned e))
mem_backwards (Memᴰ.tail {x = g} m) = Memᴰ.append_left (turned g ∷ []) (mem_backwards m)

-- and what is met on the way back is a turned hop of the path
pub backwards_mem : (h : Hop) (π : Path) → Memᴰ h (backwards π) ↔ Memᴰ (turned h) π
backwards_mem h π = (λ m. subst (λ (τ : Path). Memᴰ (turned h) τ) (backwards_twice π) (mem_backwards m), λ m. mem_backwards m)

-- ---- the newest edge

-- the hop walks the newest edge
abbrev pub Newest : Hop → Edge → Graph → Type 0
Newest h e G = (h ≡ forth e G) ⊎ (h ≡ back e G)

-- turned, it walks the newest edge too
pub newest_turned : {h : Hop} {e : Edge} {G : Graph} → Newest h e G → Newest (turned h) e G
newest_turned (inl q) = inr (ap turned q)
newest_turned (inr q) = inl (ap turned q)

-- the path by way of the newest edge, in either direction
pub path_by_way : (h : Hop) (e : Edge) (G : Graph) (u v : ℕ) → Newest h e G → T (not (joined G u v)) → T (joined G u h.from) → T (joined G h.to v) → path (e ∷ G) u v ≡ path G u h.from ++ (h ∷ path G h.to v)
path_by_way h e G u v (inl q) n a b =
    path_forward e G u v n (subst (λ (g : Hop). T (joined G u g.from)) q a) ∙
    sym (ap (λ (g : Hop). path G u g.from ++ (g ∷ path G g.to v)) q)
path_by_way h e G u v (inr q) n a b =
    path_backward e G u v n (not_T (joined G u e.left) (λ k. T_not (joined G u v) n (joined_trans G u e.left v k (subst (λ (g : Hop). T (joined G g.to v)) q b)))) ∙
    sym (ap (λ (g : Hop). path G u g.from ++ (g ∷ path G g.to v)) q)

-- What holds of the older edges' path where they join the ends, and of every path by way of the newest edge where they do not, holds of the path.
pub path_cases : (P : Path → Type 0) (e : Edge) (G : Graph) (u v : ℕ) → T (joined (e ∷ G) u v) → (T (joined G u v) → P (path G u v)) → ((h : Hop) → Newest h e G → T (not (joined G u v)) → T (joined G u h.from) → T (joined G h.to v) → P (path G u h.from ++ (h ∷ path G h.to v))) → P (path (e ∷ G) u v)
path_cases P e G u v j aside way = go (decide (joined G u v)) (joined_cases e G u v j)
  where
    by : (h : Hop) → Newest h e G → T (not (joined G u v)) → T (joined G u h.from) → T (joined G h.to v) → P (path (e ∷ G) u v)
    by h w n a b = subst P (sym (path_by_way h e G u v w n a b)) (way h w n a b)

    go : T (joined G u v) ⊎ T (not (joined G u v)) → T (joined G u v) ⊎ ((T (joined G u e.left) × T (joined G e.right v)) ⊎ (T (joined G u e.right) × T (joined G e.left v))) → P (path (e ∷ G) u v)
    go (inl k) c = subst P (sym (path_aside e G u v k)) (aside k)
    go (inr n) (inl k) = absurd (T_not (joined G u v) n k)
    go (inr n) (inr (inl k)) = by (forth e G) (inl refl) n k.0 k.1
    go (inr n) (inr (inr k)) = by (back e G) (inr refl) n k.0 k.1

-- ---- the path is one

-- the path stands on no vertex twice: the two parts by the newest edge stand on terms that the older edges do not join
pub path_once : (G : Graph) (u v : ℕ) → T (joined G u v) → Once (vertices u (path G u v))
unfolding path
path_once [] u v j = new (λ m. Memᴰ.not-nil m) nothing
path_once (e ∷ G) u v j = path_cases (λ (π : Path). Once (vertices u π)) e G u v j (λ k. path_once G u v k) (λ h w n a b. way h n a b (path_once G u h.from a) (path_once G h.to v b))
  where
    way : (h : Hop) → T (not (joined G u v)) → T (joined G u h.from) → T (joined G h.to v) → Once (vertices u (path G u h.from)) → Once (vertices h.to (path G h.to v)) → Once (vertices u (path G u h.from ++ (h ∷ path G h.to v)))
    way h n a b o p =
        subst Once (sym (vertices_append u (path G u h.from) (h ∷ path G h.to v)))
        (once_append o p
        (λ x m k.
        let near = vertex_joined (path_walk G u h.from a) m in
        let far = joined_sym G h.to x (vertex_joined (path_walk G h.to v b) k) in
        T_not (joined G u v) n (joined_trans G u x v near (joined_trans G x h.to v far b))))

-- the path between joined terms is a path
pub path_is : (G : Graph) (u v : ℕ) → T (joined G u v) → IsPath G u v (path G u v)
path_is G u v j = record { walk = path_walk G u v j; once = path_once G u v j }

-- the path from the other end is the path walked backwards
pub path_back : (G : Graph) (u v : ℕ) → T (joined G u v) → path G v u ≡ backwards (path G u v)
unfolding path backwards
path_back [] u v j = refl
path_back (e ∷ G) u v j = path_cases (λ (π : Path). path (e ∷ G) v u ≡ backwards π) e G u v j
    (λ k. path_aside e G v u (joined_sym G u v k) ∙ path_back G u v k)
    (λ h w n a b. way h w n a b (path_back G u h.from a) (path_back G h.to v b))
  where
    way : (h : Hop) → Newest h e G → T (not (joined G u v)) → T (joined G u h.from) → T (joined G h.to v) → path G h.from u ≡ backwards (path G u h.from) → path G v h.to ≡ backwards (path G h.to v) → path (e ∷ G) v u ≡ backwards (path G u h.from ++ (h ∷ path G h.to v))
    way h w n a b p q =
        path_by_way (turned h) e G v u (newest_turned w) (not_T (joined G v u) (λ k. T_not (joined G u v) n (joined_sym G v u k))) (joined_sym G h.to v b) (joined_sym G u h.from a) ∙
        ap (λ (τ : Path). τ ++ (turned h ∷ path G h.from u)) q ∙
        ap (λ (τ : Path). backwards (path G h.to v) ++ (turned h ∷ τ)) p ∙
        sym (backwards_by_way (path G u h.from) h (path G h.to v))

-- a path in the edges under the newest one is the path in the graph
path_of_older : (u v : ℕ) (e : Edge) (G : Graph) {H : Graph} → H ≡ G → T (joined H u v) → path H u v ≡ path (e ∷ G) u v
path_of_older u v e G q j = ap (λ (K : Graph). path K u v) q ∙ sym (path_aside e G u v (subst (λ (K : Graph). T (joined K u v)) q j))

-- a path in the edges older than a hop is the path in the graph
pub path_older : {h : Hop} {G : Graph} (u v : ℕ) → HopOf h G → T (joined h.older u v) → path h.older u v ≡ path G u v
path_older u v (onward {e = e} {G = G} q) j = path_of_older u v e G (ap (λ (g : Hop). g.older) q) j
path_older u v (backward {e = e} {G = G} q) j = path_of_older u v e G (ap (λ (g : Hop). g.older) q) j
path_older u v (earlier {e = e} {G = G} k) j = path_older u v k j ∙ sym (path_aside e G u v (older_joined u v k j))

-- ---- the only one

-- a walk that uses the newest edge, cut at the first hop that does
pub record ByWay (e : Edge) (G : Graph) (u v : ℕ) (π : Path) : Type 0 where
  pub before : Path
  pub way : Hop
  pub after : Path
  pub hops : π ≡ before ++ (way ∷ after)
  pub newest : Newest way e G
  pub first : Walk G u way.from before
  pub rest : Walk (e ∷ G) way.to v after

-- a walk uses the older edges alone, or has a first hop over the newest edge
pub walk_newest : {e : Edge} {G : Graph} {u v : ℕ} {π : Path} → Walk (e ∷ G) u v π → Walk G u v π ⊎ ByWay e G u v π
walk_newest (stay q) = inl (stay q)
walk_newest {e} {G} {u} {v} (hop {h = h} {π = π} k q w) = go k (walk_newest w)
  where
    at : Newest h e G → Walk G u v (h ∷ π) ⊎ ByWay e G u v (h ∷ π)
    at n = inr (record { before = []; way = h; after = π; hops = refl; newest = n; first = stay q; rest = w })

    later : HopOf h G → Walk G h.to v π ⊎ ByWay e G h.to v π → Walk G u v (h ∷ π) ⊎ ByWay e G u v (h ∷ π)
    later m (inl z) = inl (hop m q z)
    later m (inr r) = inr (record { before = h ∷ r.before; way = r.way; after = r.after; hops = ap (λ (τ : Path). h ∷ τ) r.hops; newest = r.newest; first = hop m q r.first; rest = r.rest })

    go : HopOf h (e ∷ G) → Walk G h.to v π ⊎ ByWay e G h.to v π → Walk G u v (h ∷ π) ⊎ ByWay e G u v (h ∷ π)
    go (onward m) c = at (inl m)
    go (backward m) c = at (inr m)
    go (earlier m) c = later m c

-- two hops over the newest edge are one, or one turned round
pub newest_two : {g h : Hop} {e : Edge} {G : Graph} → Newest g e G → Newest h e G → (g ≡ h) ⊎ (g ≡ turned h)
newest_two (inl p) (inl q) = inl (p ∙ sym q)
newest_two (inl p) (inr q) = inr (p ∙ ap turned (sym q))
newest_two (inr p) (inl q) = inr (p ∙ ap turned (sym q))
newest_two (inr p) (inr q) = inl (p ∙ sym q)

-- the older edges do not join the ends of a hop over the newest edge
pub newest_unjoined : {h : Hop} {e : Edge} {G : Graph} → Unjoined G e → Newest h e G → T (joined G h.from h.to) → ⊥
newest_unjoined {e = e} {G = G} f (inl q) j = T_not (joined G e.left e.right) f (subst (λ (g : Hop). T (joined G g.from g.to)) q j)
newest_unjoined {e = e} {G = G} f (inr q) j = T_not (joined G e.left e.right) f (joined_sym G e.right e.left (subst (λ (g : Hop). T (joined G g.from g.to)) q j))

-- A walk that stands on no vertex twice uses the newest edge once at most: a second hop over it the same way would need a way back over the
-- older edges, and one the other way would lead back to where the first began.
pub newest_once : {e : Edge} {G : Graph} → Unjoined G e → {u v : ℕ} {π σ : Path} {h : Hop} → Once (vertices u (π ++ (h ∷ σ))) → Newest h e G → Walk G u h.from π → Walk (e ∷ G) h.to v σ → Walk G h.to v σ
newest_once {e} {G} f {u} {v} {π} {σ} {h} o n w z = go (walk_newest z)
  where
    twice : (r : ByWay e G h.to v σ) → (r.way ≡ h) ⊎ (r.way ≡ turned h) → ⊥
    twice r (inl q) = newest_unjoined f n (joined_sym G h.to h.from (subst (λ (g : Hop). T (joined G h.to g.from)) q (walk_joined r.first)))
    twice r (inr q) = once_apart (vertices u π) (vertices h.to σ) (subst Once (vertices_append u π (h ∷ σ)) o) h.from (walk_end w) (Memᴰ.tail (Memᴰ.cast (sym (ap (λ (g : Hop). g.to) q)) (Memᴰ.map (λ g. g.to) (subst (λ (τ : Path). Memᴰ r.way τ) (sym r.hops) (Memᴰ.append_right r.before (Memᴰ.head refl))))))

    go : Walk G h.to v σ ⊎ ByWay e G h.to v σ → Walk G h.to v σ
    go (inl y) = y
    go (inr r) = absurd (twice r (newest_two r.newest n))

-- the path is the only walk that stands on no vertex twice
pub one_path : (G : Graph) → Forest G → {u v : ℕ} {π : Path} → IsPath G u v π → π ≡ path G u v
unfolding path
one_path [] f {u} {v} {π} p = go p.walk
  where
    go : {x y : ℕ} {τ : Path} → Walk [] x y τ → τ ≡ []
    go (stay q) = refl
    go (hop k q w) = elim k [ ]
one_path (e ∷ G) f {u} {v} {π} p = go (λ x y τ q. one_path G f.1 q) (walk_newest p.walk)
  where
    Only : Type 0
    Only = (x y : ℕ) (τ : Path) → IsPath G x y τ → τ ≡ path G x y

    way : Only → (r : ByWay e G u v π) → Once (vertices u (r.before ++ (r.way ∷ r.after))) → π ≡ path (e ∷ G) u v
    way only r o =
        let parts : Once (vertices u r.before ++ vertices r.way.to r.after) = subst Once (vertices_append u r.before (r.way ∷ r.after)) o in
        let rest = newest_once f.0 o r.newest r.first r.rest in
        let near = walk_joined r.first in
        let far = walk_joined rest in
        let apart = not_T (joined G u v) (λ k. newest_unjoined f.0 r.newest (joined_trans G r.way.from u r.way.to (joined_sym G u r.way.from near) (joined_trans G u v r.way.to k (joined_sym G r.way.to v far)))) in
        r.hops ∙
        ap (λ (τ : Path). τ ++ (r.way ∷ r.after)) (only u r.way.from r.before (record { walk = r.first; once = once_left (vertices u r.before) (vertices r.way.to r.after) parts })) ∙
        ap (λ (τ : Path). path G u r.way.from ++ (r.way ∷ τ)) (only r.way.to v r.after (record { walk = rest; once = once_right (vertices u r.before) (vertices r.way.to r.after) parts })) ∙
        sym (path_by_way r.way e G u v r.newest apart near far)

    go : Only → Walk G u v π ⊎ ByWay e G u v π → π ≡ path (e ∷ G) u v
    go only (inl w) = only u v π (record { walk = w; once = p.once }) ∙ sym (path_aside e G u v (walk_joined w))
    go only (inr r) = way only r (subst (λ (τ : Path). Once (vertices u τ)) r.hops p.once)

-- ---- stretches

-- the two parts of a path are paths
pub is_split : {G : Graph} {u v : ℕ} (π ρ : Path) → IsPath G u v (π ++ ρ) → (x : ℕ) × IsPath G u x π × IsPath G x v ρ
is_split {G} {u} {v} π ρ p =
    let r = walk_split π ρ p.walk in
    let parts : Once (vertices u π ++ map (λ h. h.to) ρ) = subst Once (vertices_append u π ρ) p.once in (
      r.0,
      record { walk = r.1; once = once_left (vertices u π) (map (λ h. h.to) ρ) parts },
      record { walk = r.2; once = new (λ m. once_apart (vertices u π) (map (λ h. h.to) ρ) parts r.0 (walk_end r.1) m) (once_right (vertices u π) (map (λ h. h.to) ρ) parts) },
    )

-- a walk over a stretch of a path is a path
pub stretch_is : {G : Graph} {u v x y : ℕ} (π ρ σ : Path) → IsPath G u v (π ++ (ρ ++ σ)) → Walk G x y ρ → IsPath G x y ρ
stretch_is π [] σ p w = record { walk = w; once = new (λ m. Memᴰ.not-nil m) nothing }
stretch_is {x = x} π (h ∷ ρ) σ p w =
    let r = is_split π ((h ∷ ρ) ++ σ) p in
    let s = is_split (h ∷ ρ) σ r.2 in
    let q : r.0 ≡ x = walk_from r.2.walk ∙ sym (walk_from w) in
    record { walk = w; once = subst (λ (z : ℕ). Once (vertices z (h ∷ ρ))) q s.1.once }
