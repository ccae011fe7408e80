-- A path as the code walks it: colours along a trail, and its factors as the stretches that the code finds.
use mathlib.Core.Bool.{Bool, true, false, not, beq}
use mathlib.Core.List.Memᴰ
use mathlib.Core.List.{List, [], ◌∷◌, ◌++◌, Memᴰ}
use mathlib.Core.Logic.{◌⊎◌, inl, inr, ⊎_elim, ◌↔◌}
use mathlib.Core.Path.{◌≡◌, refl, sym, ap, ap₂, subst, ◌∙◌}
use Prim.Native.Nat.{ℕ, suc, ◌≤◌, ◌<◌}
use native.Mathlib.Nat.{eq-or-lt_of_le}
use native.Mathlib.Omega.{arith}
use lib.ListN.{length, get_or}
use Rattle.tables.specs.Words.{Pair}
use Rattle.tables.specs.declared.Side.{Side}
use Rattle.tables.specs.declared.Side.TheVariants.{A, B}
use Rattle.closure.specs.Graph.{Hop, Path}
use Rattle.clauses.specs.Clauses.{between}
use Rattle.clauses.specs.Factors.{Factor, alone, factors}
use Rattle.clauses.specs.Premises.{ends_of}
use Rattle.clauses.specs.Reading.{end_of}
use Rattle.graphs.specs.declared.paths.Trail.{Trail}
use Rattle.marking.specs.Marks.{is_b, EndOf, Trailed, done, step, RowsOf, StretchEnd}
use Rattle.clauses.proofs.Factors.{Alternate, stretch_of, factors_front}
use Rattle.clauses.proofs.Pieces.{alternate_alone, alternate_front, end_of_none, end_of_hop}

-- the colour of the edge at a place of the trail
abbrev pub in_b_at : List Bool → Trail → ℕ → Bool
in_b_at inb trail k = get_or inb (get_or trail.edges k 0) false

-- the edges from place lo to place i have the colour of the first
pub record SameTo (inb : List Bool) (trail : Trail) (lo hi i : ℕ) : Type 0 where
  pub begun : lo < i
  pub within : i ≤ hi
  pub same : (k : ℕ) → lo ≤ k → k < i → in_b_at inb trail k ≡ in_b_at inb trail lo

-- ---- tests of two flags

-- a test that two flags differ
pub flags_differ : (x y : Bool) → not (beq x y) ≡ true → x ≡ y → ⊥
flags_differ true true t e = let z : ◌≡◌ {A = ℕ} 0 1 = cc in omega arith
flags_differ true false t e = let z : ◌≡◌ {A = ℕ} 0 1 = cc in omega arith
flags_differ false true t e = let z : ◌≡◌ {A = ℕ} 0 1 = cc in omega arith
flags_differ false false t e = let z : ◌≡◌ {A = ℕ} 0 1 = cc in omega arith

-- a test that they agree
pub flags_agree : (x y : Bool) → beq x y ≡ true → x ≡ y
flags_agree true true t = refl
flags_agree true false t = cc
flags_agree false true t = cc
flags_agree false false t = refl

-- a test that they agree, failed
pub flags_not : (x y : Bool) → beq x y ≡ false → x ≡ y → ⊥
flags_not x y t = flags_differ x y (ap not t)

-- ---- stretches of a trail

-- a colour is known by its flag
is_b_one : (X Y : Side) → is_b X ≡ is_b Y → X ≡ Y
is_b_one A A e = refl
is_b_one A B e = absurd (flags_differ false true refl e)
is_b_one B A e = absurd (flags_differ true false refl e)
is_b_one B B e = refl

module _ (inb : List Bool) (trail : Trail) (hi : ℕ) where
  -- a trail runs forward
  pub trailed_forward : {lo : ℕ} {π : Path} → Trailed inb trail hi lo π → lo ≤ hi
  trailed_forward (done e) = omega (arith, e)
  trailed_forward (step a b c d t) = omega (arith, trailed_forward t)

  -- the hop is at a place of the trail between two others
  pub record At (lo hi' : ℕ) (h : Hop) : Type 0 where
    pub place : ℕ
    pub after : lo ≤ place
    pub before : place < hi'
    pub number : get_or trail.edges place 0 ≡ length h.older
    pub colour : in_b_at inb trail place ≡ is_b h.colour

  -- a trail in two parts, where it is cut
  pub record Cut (lo r : ℕ) (π : Path) : Type 0 where
    pub front : Path
    pub rest : Path
    pub whole : π ≡ front ++ rest
    pub ahead : Trailed inb trail r lo front
    pub behind : Trailed inb trail hi r rest
    pub places : (h : Hop) → Memᴰ h front → At lo r h
    pub reaches : end_of (get_or trail.stops lo 0) front ≡ get_or trail.stops r 0

  -- each place of a trail cuts it
  pub trailed_cut : {lo : ℕ} {π : Path} (r : ℕ) → lo ≤ r → r ≤ hi → Trailed inb trail hi lo π → Cut lo r π
  trailed_cut {lo} r h k (done e) =
      let q : lo ≡ r = omega (arith, e) in
      record { front = []; rest = []; whole = refl; ahead = done q; behind = done (sym q ∙ e); places = λ g m. absurd (Memᴰ.not-nil m); reaches = end_of_none (get_or trail.stops lo 0) ∙ ap (λ (n : ℕ). get_or trail.stops n 0) q }
  trailed_cut {lo} {π} r h k (step {h = g} {π = σ} a b c d t) = go (eq-or-lt_of_le h) (λ l. trailed_cut r l k t)
    where
      go : (lo ≡ r) ⊎ (lo < r) → (suc lo ≤ r → Cut (suc lo) r σ) → Cut lo r (g ∷ σ)
      go (inl q) ih = record { front = []; rest = g ∷ σ; whole = refl; ahead = done q; behind = subst (λ (n : ℕ). Trailed inb trail hi n (g ∷ σ)) q (step a b c d t); places = λ x m. absurd (Memᴰ.not-nil m); reaches = end_of_none (get_or trail.stops lo 0) ∙ ap (λ (n : ℕ). get_or trail.stops n 0) q }
      go (inr l) ih =
          let i = ih l in
          let here : At lo r g = record { place = lo; after = omega arith; before = l; number = c; colour = d } in
          let later : (x : Hop) → At (suc lo) r x → At lo r x = λ x y. record { place = y.place; after = omega (arith, y.after); before = y.before; number = y.number; colour = y.colour } in
          record {
            front = g ∷ i.front;
            rest = i.rest;
            whole = ap (λ (τ : Path). g ∷ τ) i.whole;
            ahead = step a b c d i.ahead;
            behind = i.behind;
            places = λ x m. ⊎_elim (λ e. subst (At lo r) (sym e) here) (λ n. later x (i.places x n)) (Memᴰ.cases_cons m);
            reaches = end_of_hop (get_or trail.stops lo 0) g i.front ∙ ap (λ (n : ℕ). end_of n i.front) (sym b) ∙ i.reaches;
          }

  -- what is behind the stretch of one colour begins in the other
  stretch_alternate : {r : ℕ} {ρ : Path} (h : Hop) (b : Bool) → is_b h.colour ≡ b → ((r ≡ hi) ⊎ (in_b_at inb trail r ≡ b → ⊥)) → Trailed inb trail hi r ρ → Alternate (alone h ∷ factors ρ)
  stretch_alternate h b e l (done q) = alternate_alone h
  stretch_alternate {r} h b e l (step {h = g} {π = ρ} x y z w t) =
      alternate_front h g ρ
      (λ q. ⊎_elim (λ (m : r ≡ hi). omega (arith, m, trailed_forward t)) (λ n. n (w ∙ ap is_b (sym q) ∙ e)) l)

  -- the first factor of a trail is the stretch that the code finds, and the other factors are those of what is behind it
  pub record FirstFactor (lo r : ℕ) (π : Path) : Type 0 where
    pub rest : Path
    pub behind : Trailed inb trail hi r rest
    pub ends : (b : Bool) (p : Pair) → EndOf b π p ↔ (((in_b_at inb trail lo ≡ b) × (p ≡ between (get_or trail.stops lo 0) (get_or trail.stops r 0))) ⊎ EndOf b rest p)

  -- each trail begins so
  pub first_factor : {lo : ℕ} {π : Path} (r : ℕ) → StretchEnd inb trail lo hi r → Trailed inb trail hi lo π → FirstFactor lo r π
  first_factor {lo} r s (done e) = absurd (omega (arith, e, s.begins, s.inside))
  first_factor {lo} {π} r s (step {h = h} {π = σ} x y z w t) =
      let c = trailed_cut r s.begins s.inside t in
      let one : (g : Hop) → Memᴰ g c.front → g.colour ≡ h.colour = λ g m. let a = c.places g m in is_b_one g.colour h.colour (sym a.colour ∙ s.one_colour a.place (omega (arith, a.after)) a.before ∙ w) in
      let parts : factors (h ∷ σ) ≡ stretch_of h c.front ∷ factors c.rest = ap (λ (τ : Path). factors (h ∷ τ)) c.whole ∙ factors_front h c.front c.rest one (stretch_alternate h (in_b_at inb trail lo) (sym w) s.longest c.behind) in
      let here : ends_of (stretch_of h c.front) ≡ between (get_or trail.stops lo 0) (get_or trail.stops r 0) = ap₂ between (sym x) (ap (λ (n : ℕ). end_of n c.front) (sym y) ∙ c.reaches) in
      record {
        rest = c.rest;
        behind = c.behind;
        ends = λ b p. (λ e. ⊎_elim (λ q. inl (w ∙ ap (λ (f : Factor). is_b f.colour) (sym q) ∙ e.2, e.3 ∙ ap ends_of q ∙ here)) (λ m. inr (e.0, m, e.2, e.3)) (Memᴰ.cases_cons (subst (Memᴰ e.0) parts e.1)), λ e. ⊎_elim (λ q. (stretch_of h c.front, subst (Memᴰ (stretch_of h c.front)) (sym parts) (Memᴰ.head refl), sym w ∙ q.0, q.1 ∙ sym here)) (λ m. (m.0, subst (Memᴰ m.0) (sym parts) (Memᴰ.tail m.1), m.2, m.3)) e);
      }

-- a square that stays as long has the rows of a part of the stops too
pub rows_part : (size size' : ℕ) (trail : Trail) (hops hi : ℕ) → hi ≤ hops → size' ≡ size → RowsOf size trail hops → RowsOf size' trail hi
rows_part size size' trail hops hi h e w = record { row = λ k l. omega (arith, e, w.row k (omega (arith, l))) }
