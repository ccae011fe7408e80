-- "Two terms are joined when a path connects them": joined is what walks connect, and `path` is such a walk.
use mathlib.Core.Bool.{not}
use mathlib.Core.List.{[], ◌∷◌, ◌++◌, Memᴰ}
use mathlib.Core.Logic.{◌⊎◌, inl, inr}
use mathlib.Core.Path.{◌≡◌, refl, sym, ap, subst, ◌∙◌}
use Prim.Native.Nat.{ℕ, ◌<◌}
use native.Mathlib.Nat.{le_refl}
use native.Mathlib.Omega.{arith}
use lib.Dec.{T}
use lib.ListN.{length}
use Rattle.tables.proofs.Words.{by_test, passes, fails, passed, failed}
use Rattle.closure.specs.Graph.{Edge, Graph, Hop, Path, forth, back, joined, path}
use Rattle.closure.specs.Walks.{HopOf, onward, backward, earlier, Walk, stay, hop}
use Rattle.closure.proofs.Walking.Joined.{joined_self, joined_sym, joined_trans, joined_more, joined_ends, joined_nothing, joined_cases}
use Rattle.closure.proofs.Walking.Invariant.{Each}

-- ---- hops

-- a hop of a graph walks an edge that has the property that each edge has, over the edges older than it
pub hop_each : (P : Graph → Edge → Type 0) {h : Hop} {G : Graph} → HopOf h G → Each P G → (e : Edge) × P h.older e × ((h ≡ forth e h.older) ⊎ (h ≡ back e h.older))
hop_each P {h} (onward {e = e} {G = G} q) p = (e, subst (λ (H : Graph). P H e) (sym (ap (λ (g : Hop). g.older) q)) p.0, inl (q ∙ ap (forth e) (sym (ap (λ (g : Hop). g.older) q))))
hop_each P {h} (backward {e = e} {G = G} q) p = (e, subst (λ (H : Graph). P H e) (sym (ap (λ (g : Hop). g.older) q)) p.0, inr (q ∙ ap (back e) (sym (ap (λ (g : Hop). g.older) q))))
hop_each P (earlier k) p = hop_each P k p.1

-- the edges older than a hop have that property too
pub older_each : (P : Graph → Edge → Type 0) {h : Hop} {G : Graph} → HopOf h G → Each P G → Each P h.older
older_each P (onward q) p = subst (Each P) (sym (ap (λ (g : Hop). g.older) q)) p.1
older_each P (backward q) p = subst (Each P) (sym (ap (λ (g : Hop). g.older) q)) p.1
older_each P (earlier k) p = older_each P k p.1

-- what each edge has gives each edge of the graph another property
pub each_over : (P Q : Graph → Edge → Type 0) (G : Graph) → ((H : Graph) (e : Edge) → HopOf (forth e H) G → P H e → Q H e) → Each P G → Each Q G
each_over P Q [] f p = tt
each_over P Q (e ∷ G) f p = (f G e (onward refl) p.0, each_over P Q G (λ H x k. f H x (earlier k)) p.1)

-- they are fewer
pub older_fewer : {h : Hop} {G : Graph} → HopOf h G → length h.older < length G
older_fewer (onward {e = e} {G = G} q) = subst (λ (H : Graph). length H < length (e ∷ G)) (sym (ap (λ (g : Hop). g.older) q)) (le_refl (length (e ∷ G)))
older_fewer (backward {e = e} {G = G} q) = subst (λ (H : Graph). length H < length (e ∷ G)) (sym (ap (λ (g : Hop). g.older) q)) (le_refl (length (e ∷ G)))
older_fewer (earlier k) = omega (arith, older_fewer k)

-- what older edges join stays joined
pub older_joined : {h : Hop} {G : Graph} (u v : ℕ) → HopOf h G → T (joined h.older u v) → T (joined G u v)
older_joined u v (onward {e = e} {G = G} q) k = joined_more e G u v (subst (λ (H : Graph). T (joined H u v)) (ap (λ (x : Hop). x.older) q) k)
older_joined u v (backward {e = e} {G = G} q) k = joined_more e G u v (subst (λ (H : Graph). T (joined H u v)) (ap (λ (x : Hop). x.older) q) k)
older_joined u v (earlier {e = e} {G = G} m) k = joined_more e G u v (older_joined u v m k)

-- a hop joins its ends
pub hop_joined : {h : Hop} {G : Graph} → HopOf h G → T (joined G h.from h.to)
hop_joined (onward {e = e} {G = G} q) = subst (λ (x : Hop). T (joined (e ∷ G) x.from x.to)) (sym q) (joined_ends e G)
hop_joined (backward {e = e} {G = G} q) = subst (λ (x : Hop). T (joined (e ∷ G) x.from x.to)) (sym q) (joined_sym (e ∷ G) e.left e.right (joined_ends e G))
hop_joined {h} (earlier {e = e} {G = G} m) = joined_more e G h.from h.to (hop_joined m)

-- ---- walks

pub walk_joined : {G : Graph} {u v : ℕ} {π : Path} → Walk G u v π → T (joined G u v)
walk_joined {G} {u} {v} (stay q) = subst (λ (x : ℕ). T (joined G u x)) q (joined_self G u)
walk_joined {G} {u} {v} (hop {h = h} k q w) = joined_trans G u h.to v (subst (λ (x : ℕ). T (joined G x h.to)) (sym q) (hop_joined k)) (walk_joined w)

pub walk_append : {G : Graph} {u v x : ℕ} {π ρ : Path} → Walk G u v π → Walk G v x ρ → Walk G u x (π ++ ρ)
walk_append {G} {u} {v} {x} {ρ = ρ} (stay q) w = subst (λ (y : ℕ). Walk G y x ρ) (sym q) w
walk_append (hop k q w) z = hop k q (walk_append w z)

-- a walk is one in the graph with an edge more
pub walk_more : {e : Edge} {G : Graph} {u v : ℕ} {π : Path} → Walk G u v π → Walk (e ∷ G) u v π
walk_more (stay q) = stay q
walk_more (hop k q w) = hop (earlier k) q (walk_more w)

-- every hop of a walk is one of the graph
pub walk_hop : {G : Graph} {u v : ℕ} {π : Path} {h : Hop} → Walk G u v π → Memᴰ h π → HopOf h G
walk_hop (stay q) absent = elim absent [ ]
walk_hop {G} (hop k q w) (Memᴰ.head e) = subst (λ (g : Hop). HopOf g G) (sym e) k
walk_hop (hop k q w) (Memᴰ.tail m) = walk_hop w m

-- ---- the path is a walk

-- what the path is under one edge more, by what joins its ends
module _ (e : Edge) (G : Graph) (u v : ℕ) where
  pub path_aside : T (joined G u v) → path (e ∷ G) u v ≡ path G u v
  unfolding path
  path_aside h = rw (passed (joined G u v) h)

  pub path_forward : T (not (joined G u v)) → T (joined G u e.left) → path (e ∷ G) u v ≡ path G u e.left ++ (forth e G ∷ path G e.right v)
  unfolding path
  path_forward h k = rw (failed (joined G u v) h, passed (joined G u e.left) k)

  pub path_backward : T (not (joined G u v)) → T (not (joined G u e.left)) → path (e ∷ G) u v ≡ path G u e.right ++ (back e G ∷ path G e.left v)
  unfolding path
  path_backward h k = rw (failed (joined G u v) h, failed (joined G u e.left) k)

pub path_walk : (G : Graph) (u v : ℕ) → T (joined G u v) → Walk G u v (path G u v)
unfolding path
path_walk [] u v h = stay (joined_nothing u v h)
path_walk (e ∷ G) u v h = go (λ x y k. path_walk G x y k) (joined_cases e G u v h)
  where
    Steps : Type 0
    Steps = (x y : ℕ) → T (joined G x y) → Walk G x y (path G x y)

    forward : Steps → T (not (joined G u v)) → T (joined G u e.left) → T (joined G e.right v) → Walk (e ∷ G) u v (path (e ∷ G) u v)
    forward w n a b = subst (Walk (e ∷ G) u v) (sym (path_forward e G u v n a)) (walk_append (walk_more (w u e.left a)) (hop (onward refl) refl (walk_more (w e.right v b))))

    backwards : Steps → T (not (joined G u v)) → T (not (joined G u e.left)) → T (joined G u e.right) → T (joined G e.left v) → Walk (e ∷ G) u v (path (e ∷ G) u v)
    backwards w n o a b = subst (Walk (e ∷ G) u v) (sym (path_backward e G u v n o)) (walk_append (walk_more (w u e.right a)) (hop (backward refl) refl (walk_more (w e.left v b))))

    aside : Steps → T (joined G u v) → Walk (e ∷ G) u v (path (e ∷ G) u v)
    aside w k = subst (Walk (e ∷ G) u v) (sym (path_aside e G u v k)) (walk_more (w u v k))

    go : Steps → T (joined G u v) ⊎ ((T (joined G u e.left) × T (joined G e.right v)) ⊎ (T (joined G u e.right) × T (joined G e.left v))) → Walk (e ∷ G) u v (path (e ∷ G) u v)
    go w (inl k) = aside w k
    go w (inr (inl k)) = by_test (joined G u v) (λ q. aside w (passes (joined G u v) q)) (λ q. forward w (fails (joined G u v) q) k.0 k.1)
    go w (inr (inr k)) =
        by_test (joined G u v) (λ q. aside w (passes (joined G u v) q))
        (λ q. by_test (joined G u e.left)
        (λ r. let a = passes (joined G u e.left) r in aside w (joined_trans G u e.left v a k.1))
        (λ r. backwards w (fails (joined G u v) q) (fails (joined G u e.left) r) k.0 k.1))
