-- "let the middle stretch run from the first to the last B-colourable vertex on the path; outer stretches lie on both sides, and with no such vertex
-- the whole path is outer": what `stretches` gives for a walk.
use mathlib.Core.Bool.{Bool, true, false, cond, not}
use mathlib.Core.List.Memᴰ
use mathlib.Core.List.{List, [], ◌∷◌, ◌++◌, append_assoc, append-nil, Memᴰ}
use mathlib.Core.Logic.{◌⊎◌, inl, inr, ⊎_elim}
use mathlib.Core.Path.{◌≡◌, refl, sym, ap, subst, ◌∙◌}
use Prim.Native.Nat.{ℕ}
use lib.Dec.{T}
use Rattle.tables.specs.Words.{any}
use Rattle.tables.proofs.Words.{or_cases, passes, fails, decide, some_any}
use Rattle.closure.specs.Graph.{Graph, Hop, Path}
use Rattle.closure.specs.Walks.{Walk, stay, hop, IsPath}
use Rattle.closure.proofs.Walking.OnePath.{stretch_is}
use Rattle.clauses.specs.Clauses.{between, falsum, differs}
use Rattle.clauses.specs.Reading.{Stretches, from_first, stretches, end_of, not_middle}

-- The three stretches of a walk from u to v. `first` and `last` are the ends of the middle stretch. Either both pass the test, or no vertex does and
-- the whole path is outer; outside the middle stretch no vertex passes.
pub record Divided (in_b : ℕ → Bool) (G : Graph) (u v : ℕ) (π : Path) (z : Stretches) : Type 0 where
  pub first : ℕ
  pub last : ℕ
  pub whole : z.before ++ (z.middle ++ z.after) ≡ π
  pub before_walk : Walk G u first z.before
  pub middle_walk : Walk G first last z.middle
  pub after_walk : Walk G last v z.after
  pub before_outside : (h : Hop) → Memᴰ h z.before → T (not (in_b h.from))
  pub after_outside : (h : Hop) → Memᴰ h z.after → T (not (in_b h.to))
  pub ends : (T (in_b first) × T (in_b last)) ⊎ ((z.middle ≡ []) × (z.after ≡ []) × T (not (in_b last)))

-- where no member passes, each fails
none_pass {ℓ} : {X : Type ℓ} (p : X → Bool) (xs : List X) → any p xs ≡ false → (x : X) → Memᴰ x xs → T (not (p x))
none_pass p xs e x m = ⊎_elim (λ h. absurd (subst T e (some_any p m h))) (λ h. h) (decide (p x))

module _ (in_b : ℕ → Bool) (G : Graph) (v : ℕ) where
  -- from a vertex that passes on, or before one: the middle stretch runs to the last one that passes
  from_first_is : (u : ℕ) (π : Path) → T (in_b u) ⊎ T (any (λ g. in_b g.to) π) → Walk G u v π → (y : ℕ) × ((from_first in_b π).before ≡ []) × ((from_first in_b π).middle ++ (from_first in_b π).after ≡ π) × Walk G u y (from_first in_b π).middle × Walk G y v (from_first in_b π).after × T (in_b y) × ((h : Hop) → Memᴰ h (from_first in_b π).after → T (not (in_b h.to)))
  unfolding from_first any
  from_first_is u [] starts (stay q) = (u, refl, refl, stay refl, stay q, ⊎_elim (λ h. h) (λ h. absurd h) starts, λ h m. absurd (Memᴰ.not-nil m))
  from_first_is u (h ∷ π) starts (hop k q w) = go (any (λ g. in_b g.to) (h ∷ π)) refl (λ s. from_first_is h.to π s w)
    where
      rest : Stretches
      rest = from_first in_b π

      Found : ℕ → Path → Stretches → Type 0
      Found x ρ z = (y : ℕ) × (z.before ≡ []) × (z.middle ++ z.after ≡ ρ) × Walk G x y z.middle × Walk G y v z.after × T (in_b y) × ((g : Hop) → Memᴰ g z.after → T (not (in_b g.to)))

      go : (b : Bool) → any (λ g. in_b g.to) (h ∷ π) ≡ b → (T (in_b h.to) ⊎ T (any (λ g. in_b g.to) π) → Found h.to π rest) → Found u (h ∷ π) (cond b (record { before = []; middle = h ∷ rest.middle; after = rest.after }) (record { before = []; middle = []; after = h ∷ π }))
      go true e ih =
          let r = ih (or_cases (in_b h.to) (any (λ g. in_b g.to) π) (passes (any (λ g. in_b g.to) (h ∷ π)) e)) in
          (r.0, refl, ap (λ (ρ : Path). h ∷ ρ) r.2, hop k q r.3, r.4, r.5, r.6)
      go false e ih = (u, refl, refl, stay refl, hop k q w, ⊎_elim (λ x. x) (λ x. absurd (subst T e x)) starts, none_pass (λ g. in_b g.to) (h ∷ π) e)

  -- the stretches of a walk are divided so
  pub stretches_divided : (u : ℕ) (π : Path) → Walk G u v π → Divided in_b G u v π (stretches in_b u π)
  unfolding stretches
  stretches_divided u [] (stay q) =
      record {
        first = u;
        last = u;
        whole = refl;
        before_walk = stay refl;
        middle_walk = stay refl;
        after_walk = stay q;
        before_outside = λ h m. absurd (Memᴰ.not-nil m);
        after_outside = λ h m. absurd (Memᴰ.not-nil m);
        ends = ⊎_elim (λ h. inl (h, h)) (λ h. inr (refl, refl, h)) (decide (in_b u));
      }
  stretches_divided u (h ∷ π) (hop k q w) = go (in_b u) refl (stretches_divided h.to π w)
    where
      rest : Stretches
      rest = stretches in_b h.to π

      go : (b : Bool) → in_b u ≡ b → Divided in_b G h.to v π rest → Divided in_b G u v (h ∷ π) (cond b (from_first in_b (h ∷ π)) (record { before = h ∷ rest.before; middle = rest.middle; after = rest.after }))
      go true e ih =
          let here = passes (in_b u) e in
          let r = from_first_is u (h ∷ π) (inl here) (hop k q w) in
          record {
            first = u;
            last = r.0;
            whole = ap (λ (ρ : Path). ρ ++ ((from_first in_b (h ∷ π)).middle ++ (from_first in_b (h ∷ π)).after)) r.1 ∙ r.2;
            before_walk = subst (Walk G u u) (sym r.1) (stay refl);
            middle_walk = r.3;
            after_walk = r.4;
            before_outside = λ g m. absurd (Memᴰ.not-nil (subst (λ (ρ : Path). Memᴰ g ρ) r.1 m));
            after_outside = r.6;
            ends = inl (here, r.5);
          }
      go false e ih =
          let outside = subst (λ (x : ℕ). T (not (in_b x))) q (fails (in_b u) e) in
          record {
            first = ih.first;
            last = ih.last;
            whole = ap (λ (ρ : Path). h ∷ ρ) ih.whole;
            before_walk = hop k q ih.before_walk;
            middle_walk = ih.middle_walk;
            after_walk = ih.after_walk;
            before_outside = λ g m. ⊎_elim (λ x. subst (λ (y : Hop). T (not (in_b y.from))) (sym x) outside) (λ x. ih.before_outside g x) (Memᴰ.cases_cons m);
            after_outside = ih.after_outside;
            ends = ih.ends;
          }

-- the stretches of a path are paths
module _ {in_b : ℕ → Bool} {G : Graph} {u v : ℕ} {π : Path} {z : Stretches} (div : Divided in_b G u v π z) (p : IsPath G u v π) where
  whole_is : IsPath G u v (z.before ++ (z.middle ++ z.after))
  whole_is = subst (IsPath G u v) (sym div.whole) p

  pub before_is : IsPath G u div.first z.before
  before_is = stretch_is [] z.before (z.middle ++ z.after) whole_is div.before_walk

  pub middle_is : IsPath G div.first div.last z.middle
  middle_is = stretch_is z.before z.middle z.after whole_is div.middle_walk

  pub after_is : IsPath G div.last v z.after
  after_is = stretch_is (z.before ++ z.middle) z.after [] (subst (IsPath G u v) (sym (append_assoc z.before z.middle z.after) ∙ ap (λ (τ : Path). (z.before ++ z.middle) ++ τ) (sym (append-nil z.after))) whole_is) div.after_walk

-- a walk ends where its hops do
pub end_of_walk : {G : Graph} {u v : ℕ} {π : Path} → Walk G u v π → end_of u π ≡ v
unfolding end_of
end_of_walk (stay q) = q
end_of_walk (hop k q w) = end_of_walk w

-- "not [middle]" speaks of the ends of the middle stretch, unless that is empty
pub middle_cases : {G : Graph} {x y : ℕ} {π : Path} → Walk G x y π → ((π ≡ []) × (x ≡ y) × (not_middle π ≡ falsum)) ⊎ (not_middle π ≡ differs (between x y))
unfolding not_middle
middle_cases (stay q) = inl (refl, q, refl)
middle_cases (hop {h = h} {π = π} k q w) = inr (λ i. differs (between (sym q i) (end_of_walk w i)))
