-- The outer and the middle stretches of a trail, where the code cuts it.
use mathlib.Core.Bool.{Bool, true, false, cond, not}
use mathlib.Core.List.Memᴰ
use mathlib.Core.List.{List, [], ◌∷◌}
use mathlib.Core.Logic.{⊎_elim}
use mathlib.Core.Path.{◌≡◌, refl, sym, ap, subst, ◌∙◌}
use Prim.Native.Nat.{ℕ, suc, ◌+◌, ◌≤◌, ◌<◌}
use native.Mathlib.Nat.{eq-or-lt_of_le}
use native.Mathlib.Omega.{arith}
use lib.Dec.{T}
use lib.ListN.{get_or}
use Rattle.tables.specs.Words.{any}
use Rattle.tables.proofs.Words.{passed, failed, any_some, some_any, any_empty, any_fails}
use Rattle.closure.specs.Graph.{Path}
use Rattle.marking.specs.Marks.{Trailed, done, step}
use Rattle.clauses.specs.Reading.{Stretches, from_first, stretches}
use Rattle.graphs.specs.declared.paths.Trail.{Trail}
use Rattle.summing.specs.Cutting.{colours_at}
use Rattle.clauses.proofs.Pieces.{from_first_none, from_first_hop, stretches_none, stretches_hop}
use Rattle.marking.proofs.Trails.{trailed_forward}

module _ (in_b : ℕ → Bool) (inb : List Bool) (path : Trail) where
  -- the stop at a place is in B
  abbrev At : ℕ → Bool
  At k = in_b (get_or path.stops k 0)

  -- some stop further on is in B
  trail_some : {i : ℕ} {π : Path} → Trailed inb path path.hops i π → (k : ℕ) → i < k → k ≤ path.hops → T (At k) → T (any (λ g. in_b g.to) π)
  trail_some (done e) k l h t = absurd (omega (arith, e))
  trail_some {i} (step {h = g} {π = π} a b c d x) k l h t =
      ⊎_elim (λ (q : suc i ≡ k). some_any (λ y. in_b y.to) (Memᴰ.head refl) (subst (λ (n : ℕ). T (in_b n)) (ap (λ (n : ℕ). get_or path.stops n 0) (sym q) ∙ b) t))
      (λ (m : suc i < k). let r = any_some (λ y. in_b y.to) π (trail_some x k m h t) in some_any (λ y. in_b y.to) (Memᴰ.tail r.1) r.2) (eq-or-lt_of_le l)

  -- no stop further on is
  trail_none : {i : ℕ} {π : Path} → Trailed inb path path.hops i π → ((k : ℕ) → i < k → k ≤ path.hops → T (not (At k))) → any (λ g. in_b g.to) π ≡ false
  trail_none (done e) f = any_empty (λ g. in_b g.to)
  trail_none {i} (step {h = g} {π = π} a b c d x) f =
      any_fails (λ y. in_b y.to) g π (failed (in_b g.to) (subst (λ (n : ℕ). T (not (in_b n))) b (f (suc i) (omega arith) (trailed_forward inb path path.hops x)))) ∙
      trail_none x (λ k l h. f k (omega (arith, l)) h)

  -- from a stop in B, or from the last stop, the middle stretch ends at r
  pub first_cut : {i : ℕ} {π : Path} (r : ℕ) → i ≤ r → r ≤ path.hops → ((k : ℕ) → r < k → k ≤ path.hops → T (not (At k))) → (i < r → T (At r)) → Trailed inb path path.hops i π → ((from_first in_b π).before ≡ []) × Trailed inb path r i (from_first in_b π).middle × Trailed inb path path.hops r (from_first in_b π).after
  first_cut {i} r h k out found (done e) =
      let q : i ≡ r = omega (arith, e) in
      subst (λ (z : Stretches). (z.before ≡ []) × Trailed inb path r i z.middle × Trailed inb path path.hops r z.after) (sym (from_first_none in_b)) (refl, done q, done (sym q ∙ e))
  first_cut {i} r h k out found (step {h = g} {π = π} a b c d x) =
      subst Good (sym (from_first_hop in_b g π))
      (⊎_elim
      (λ (q : i ≡ r). here (trail_none (step a b c d x) (λ n l m. out n (omega (arith, l, q)) m)) q)
      (λ (l : i < r). there (passed (any (λ y. in_b y.to) (g ∷ π)) (trail_some (step a b c d x) r l k (found l))) (first_cut r l k out (λ m. found (omega (arith, m))) x))
      (eq-or-lt_of_le h))
    where
      middle : Stretches
      middle = record { before = []; middle = g ∷ (from_first in_b π).middle; after = (from_first in_b π).after }

      outer : Stretches
      outer = record { before = []; middle = []; after = g ∷ π }

      Good : Stretches → Type 0
      Good z = (z.before ≡ []) × Trailed inb path r i z.middle × Trailed inb path path.hops r z.after

      here : any (λ y. in_b y.to) (g ∷ π) ≡ false → i ≡ r → Good (cond (any (λ y. in_b y.to) (g ∷ π)) middle outer)
      here e q = subst (λ (y : Bool). Good (cond y middle outer)) (sym e) (refl, done q, subst (λ (n : ℕ). Trailed inb path path.hops n (g ∷ π)) q (step a b c d x))

      there : any (λ y. in_b y.to) (g ∷ π) ≡ true → ((from_first in_b π).before ≡ []) × Trailed inb path r (suc i) (from_first in_b π).middle × Trailed inb path path.hops r (from_first in_b π).after → Good (cond (any (λ y. in_b y.to) (g ∷ π)) middle outer)
      there e ih = subst (λ (y : Bool). Good (cond y middle outer)) (sym e) (refl, step a b c d ih.1, ih.2)

  -- the stretches of a trail: before the first stop in B, up to the last, and after it
  pub stretches_cut : {i : ℕ} {π : Path} (u lo r : ℕ) → u ≡ get_or path.stops i 0 → i ≤ lo → lo ≤ r → r ≤ path.hops → ((k : ℕ) → i ≤ k → k < lo → T (not (At k))) → (lo < path.hops → T (At lo)) → ((k : ℕ) → r < k → k ≤ path.hops → T (not (At k))) → (lo < r → T (At r)) → Trailed inb path path.hops i π → Trailed inb path lo i (stretches in_b u π).before × Trailed inb path r lo (stretches in_b u π).middle × Trailed inb path path.hops r (stretches in_b u π).after
  stretches_cut {i} u lo r eu h l k before first after last (done e) =
      let q : i ≡ lo = omega (arith, e) in
      let p : lo ≡ r = omega (arith, e) in
      subst (λ (z : Stretches). Trailed inb path lo i z.before × Trailed inb path r lo z.middle × Trailed inb path path.hops r z.after) (sym (stretches_none in_b u)) (done q, done p, done (sym p ∙ sym q ∙ e))
  stretches_cut {i} u lo r eu h l k before first after last (step {h = g} {π = π} a b c d x) =
      subst Good (sym (stretches_hop in_b u g π))
      (⊎_elim
      (λ (q : i ≡ lo). here q (first_cut r (omega (arith, q)) k after (λ m. last (omega (arith, m, q))) (step a b c d x)))
      (λ (m : i < lo). there m (stretches_cut g.to lo r (sym b) m l k (λ n y z. before n (omega (arith, y)) z) first after last x))
      (eq-or-lt_of_le h))
    where
      now : Stretches
      now = from_first in_b (g ∷ π)

      rest : Stretches
      rest = stretches in_b g.to π

      later : Stretches
      later = record { before = g ∷ rest.before; middle = rest.middle; after = rest.after }

      Good : Stretches → Type 0
      Good z = Trailed inb path lo i z.before × Trailed inb path r lo z.middle × Trailed inb path path.hops r z.after

      here : i ≡ lo → (now.before ≡ []) × Trailed inb path r i now.middle × Trailed inb path path.hops r now.after → Good (cond (in_b u) now later)
      here q y =
          let t : in_b u ≡ true = passed (in_b u) (subst (λ (n : ℕ). T (in_b n)) (sym (eu ∙ ap (λ (n : ℕ). get_or path.stops n 0) q)) (first (omega (arith, q, trailed_forward inb path path.hops x)))) in
          subst (λ (z : Bool). Good (cond z now later)) (sym t) (subst (λ (z : Path). Trailed inb path lo i z) (sym y.0) (done q), subst (λ (n : ℕ). Trailed inb path r n now.middle) q y.1, y.2)

      there : i < lo → Trailed inb path lo (suc i) rest.before × Trailed inb path r lo rest.middle × Trailed inb path path.hops r rest.after → Good (cond (in_b u) now later)
      there m y =
          let t : in_b u ≡ false = failed (in_b u) (subst (λ (n : ℕ). T (not (in_b n))) (sym eu) (before i (omega arith) m)) in
          subst (λ (z : Bool). Good (cond z now later)) (sym t) (step a b c d y.0, y.1, y.2)

-- ---- the turns that find the stretches' ends

-- the stops before place i are not in B
pub record FirstTo (colours : List ℕ) (path : Trail) (i : ℕ) : Type 0 where
  pub within : i ≤ path.hops
  pub outside : (k : ℕ) → k < i → colours_at colours path k < 2

-- the stops from place i on are not in B
pub record LastTo (colours : List ℕ) (path : Trail) (lo i : ℕ) : Type 0 where
  pub after : lo < i
  pub within : i ≤ path.hops + 1
  pub outside : (k : ℕ) → i ≤ k → k ≤ path.hops → colours_at colours path k < 2
