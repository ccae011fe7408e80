-- A shared term stands on each parent path between an A-colourable and a B-colourable end, so a middle term can always be made.
use Rattle.std.proofs.Common.{Option, Some, None}
use Rattle.std.proofs.lemmas.Option.{none-some}
use mathlib.Core.Bool.{not}
use mathlib.Core.List.{List, [], ◌∷◌, Memᴰ}
use mathlib.Core.Logic.{⊎_elim}
use mathlib.Core.Path.{◌≡◌, refl, sym, subst}
use Prim.Native.Nat.{ℕ, ◌<◌}
use lib.Dec.{T, T_not}
use lib.ListN.{length}
use Rattle.tables.specs.Words.{first_of}
use Rattle.tables.specs.Terms.{Term, term_at}
use Rattle.tables.specs.Parts.{LowerArguments}
use Rattle.tables.specs.declared.Literal.{Literal}
use Rattle.tables.specs.declared.Side.{Side}
use Rattle.tables.specs.declared.Side.TheVariants.{A, B}
use Rattle.tables.specs.Colours.{colourable, shared}
use Rattle.tables.proofs.Words.{decide, first_of_some, first_of_none}
use Rattle.tables.proofs.Colours.{colourable_argument}
use Rattle.closure.specs.Graph.{Graph, Hop, Path, joined, path, vertices, joined_pairwise}
use Rattle.closure.specs.Walks.{HopOf, Walk, stay, hop}
use Rattle.closure.specs.Steps.{congruent, Chosen, chosen_none, chosen_next}
use Rattle.closure.specs.OwnRun.{and_then, first_shared}
use Rattle.closure.proofs.Walking.Invariant.{SoundEdge, SoundGraph}
use Rattle.closure.proofs.Walking.Walks.{hop_each, path_walk}
use Rattle.closure.proofs.Running.Congruent.{pairwise_head, pairwise_tail, congruent_arguments}
use Rattle.closure.proofs.Running.Larger.{sides_shared, edge_left, edge_right}

module _ (ts : List Term) (ls : List Literal) (table : List Term) where
  -- both ends of a hop of a sound graph are colourable in its colour
  pub hop_colours : {h : Hop} {G : Graph} → HopOf h G → SoundGraph ts ls table G → T (colourable ts ls h.colour table h.from) × T (colourable ts ls h.colour table h.to)
  hop_colours {h} k each =
      let r = hop_each (SoundEdge ts ls table) k each in
      let e = r.0 in
      let l = edge_left ts ls table e.colour e.left e.right r.1.coloured in
      let m = edge_right ts ls table e.colour e.left e.right r.1.coloured in
      ⊎_elim
      (λ q. subst (λ (g : Hop). T (colourable ts ls g.colour table g.from) × T (colourable ts ls g.colour table g.to)) (sym q) (l, m))
      (λ q. subst (λ (g : Hop). T (colourable ts ls g.colour table g.from) × T (colourable ts ls g.colour table g.to)) (sym q) (m, l))
      r.2

  -- both colours make a term shared
  both_shared : (v : ℕ) → T (colourable ts ls A table v) → T (colourable ts ls B table v) → T (shared ts ls table v)
  both_shared v a b = sides_shared ts ls table v go
    where
      go : (X : Side) → T (colourable ts ls X table v)
      go A = a
      go B = b

  -- on a walk from an A-colourable to a B-colourable vertex a shared one stands: the first that is B-colourable
  pub shared_on_walk : {G : Graph} {u v : ℕ} {π : Path} → SoundGraph ts ls table G → Walk G u v π → T (colourable ts ls A table u) → T (colourable ts ls B table v) → (m : ℕ) × Memᴰ m (vertices u π) × T (shared ts ls table m)
  shared_on_walk {u = u} each (stay q) a b = (u, Memᴰ.head refl, both_shared u a (subst (λ (x : ℕ). T (colourable ts ls B table x)) (sym q) b))
  shared_on_walk {G} {u} {v} each (hop {h = h} {π = π} k q w) a b = ⊎_elim (λ c. (u, Memᴰ.head refl, both_shared u a c)) (λ n. further (shared_on_walk each w) h.colour (hop_colours k each) n) (decide (colourable ts ls B table u))
    where
      further : (T (colourable ts ls A table h.to) → T (colourable ts ls B table v) → (m : ℕ) × Memᴰ m (vertices h.to π) × T (shared ts ls table m)) → (X : Side) → T (colourable ts ls X table h.from) × T (colourable ts ls X table h.to) → T (not (colourable ts ls B table u)) → (m : ℕ) × Memᴰ m (vertices u (h ∷ π)) × T (shared ts ls table m)
      further f A c n = let r = f c.1 b in (r.0, Memᴰ.tail r.1, r.2)
      further f B c n = absurd (T_not (colourable ts ls B table u) n (subst (λ (x : ℕ). T (colourable ts ls B table x)) (sym q) c.0))

  -- so on the path between two such terms
  pub shared_on_path : (G : Graph) → SoundGraph ts ls table G → (a b : ℕ) → T (joined G a b) → T (colourable ts ls A table a) → T (colourable ts ls B table b) → (m : ℕ) × Memᴰ m (vertices a (path G a b)) × T (shared ts ls table m)
  shared_on_path G each a b j ka kb = shared_on_walk each (path_walk G a b j) ka kb

  -- the first shared terms of the parent paths are chosen terms
  pub first_chosen : (G : Graph) (xs ys : List ℕ) → T (joined_pairwise G xs ys) → (ms : List ℕ) → first_shared ts ls table G xs ys ≡ Some ms → Chosen ts ls table G xs ys ms
  unfolding first_shared joined_pairwise and_then
  first_chosen G [] [] j ms e = subst (Chosen ts ls table G [] []) (cc) chosen_none
  first_chosen G [] (y ∷ ys) j ms e = absurd j
  first_chosen G (x ∷ xs) [] j ms e = absurd j
  first_chosen G (x ∷ xs) (y ∷ ys) j ms e = go (first_of (shared ts ls table) (vertices x (path G x y))) refl (first_shared ts ls table G xs ys) refl e (λ ns q. first_chosen G xs ys (pairwise_tail G x y xs ys j) ns q)
    where
      go : (o : Option ℕ) → first_of (shared ts ls table) (vertices x (path G x y)) ≡ o → (p : Option (List ℕ)) → first_shared ts ls table G xs ys ≡ p → and_then o p ≡ Some ms → ((ns : List ℕ) → first_shared ts ls table G xs ys ≡ Some ns → Chosen ts ls table G xs ys ns) → Chosen ts ls table G (x ∷ xs) (y ∷ ys) ms
      go None q p r w f = absurd (none-some ms w)
      go (Some m) q None r w f = absurd (none-some ms w)
      go (Some m) q (Some ns) r w f =
          let c = first_of_some (shared ts ls table) (vertices x (path G x y)) m q in
          let z : m ∷ ns ≡ ms = cc in
          subst (Chosen ts ls table G (x ∷ xs) (y ∷ ys)) z (chosen_next c.1 c.0 (f ns r))

  -- each parent path has one, where the arguments have these colours
  pub first_shared_found : (G : Graph) → SoundGraph ts ls table G → (xs ys : List ℕ) → T (joined_pairwise G xs ys) → ((a : ℕ) → Memᴰ a xs → T (colourable ts ls A table a)) → ((b : ℕ) → Memᴰ b ys → T (colourable ts ls B table b)) → first_shared ts ls table G xs ys ≡ None → ⊥
  unfolding first_shared joined_pairwise and_then
  first_shared_found G each [] [] j ka kb e = none-some [] (sym e)
  first_shared_found G each [] (y ∷ ys) j ka kb e = j
  first_shared_found G each (x ∷ xs) [] j ka kb e = j
  first_shared_found G each (x ∷ xs) (y ∷ ys) j ka kb e = go (first_of (shared ts ls table) (vertices x (path G x y))) refl (first_shared ts ls table G xs ys) refl e (λ q. first_shared_found G each xs ys (pairwise_tail G x y xs ys j) (λ a m. ka a (Memᴰ.tail m)) (λ b m. kb b (Memᴰ.tail m)) q)
    where
      go : (o : Option ℕ) → first_of (shared ts ls table) (vertices x (path G x y)) ≡ o → (p : Option (List ℕ)) → first_shared ts ls table G xs ys ≡ p → and_then o p ≡ None → (first_shared ts ls table G xs ys ≡ None → ⊥) → ⊥
      go None q p r w f = let m = shared_on_path G each x y (pairwise_head G x y xs ys j) (ka x (Memᴰ.head refl)) (kb y (Memᴰ.head refl)) in first_of_none (shared ts ls table) q m.1 m.2
      go (Some m) q None r w f = f r
      go (Some m) q (Some ns) r w f = none-some (m ∷ ns) (sym w)

  -- so between congruent ends of these colours a middle step can be chosen, and the library's own choice is one
  pub middle_found : LowerArguments table → (G : Graph) → SoundGraph ts ls table G → (s t : ℕ) → s < length table → t < length table → T (congruent table G s t) → T (colourable ts ls A table s) → T (colourable ts ls B table t) → (chosen : List ℕ) × (first_shared ts ls table G (term_at table s).arguments (term_at table t).arguments ≡ Some chosen) × Chosen ts ls table G (term_at table s).arguments (term_at table t).arguments chosen
  middle_found low G each s t hs ht c ka kb = go (first_shared ts ls table G (term_at table s).arguments (term_at table t).arguments) refl
    where
      go : (o : Option (List ℕ)) → first_shared ts ls table G (term_at table s).arguments (term_at table t).arguments ≡ o → (chosen : List ℕ) × (first_shared ts ls table G (term_at table s).arguments (term_at table t).arguments ≡ Some chosen) × Chosen ts ls table G (term_at table s).arguments (term_at table t).arguments chosen
      go (Some ms) q = (ms, q, first_chosen G (term_at table s).arguments (term_at table t).arguments (congruent_arguments table G s t c) ms q)
      go None q = absurd (first_shared_found G each (term_at table s).arguments (term_at table t).arguments (congruent_arguments table G s t c) (λ a m. colourable_argument ts ls A table low s a hs ka m) (λ b m. colourable_argument ts ls B table low t b ht kb m) q)
