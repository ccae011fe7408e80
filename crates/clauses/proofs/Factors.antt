-- "A path's factors are its longest stretches of one colour": what `factors` gives, as a reader believes it, and for a walk.
use mathlib.Core.Bool.{Bool, true, false, cond}
use mathlib.Core.List.Memᴰ
use mathlib.Core.List.{List, [], ◌∷◌, ◌++◌, flat_map, Memᴰ}
use mathlib.Core.Logic.{⊎_elim}
use mathlib.Core.Path.{◌≡◌, refl, sym, ap, ap₂, subst, ◌∙◌}
use Prim.Native.Nat.{ℕ}
use lib.Dec.{T}
use Rattle.tables.specs.LiteralTable.{same_side}
use Rattle.tables.specs.declared.Side.{Side}
use Rattle.tables.proofs.Words.{passes, passed, flat_map_mem, mem_flat_map}
use Rattle.tables.proofs.Colours.{same_side_eq, same_side_self}
use Rattle.closure.specs.Graph.{Graph, Hop, Path}
use Rattle.closure.specs.Walks.{Walk, stay, hop}
use Rattle.clauses.specs.Factors.{Factor, alone, longer, in_front, factors}
use Rattle.clauses.specs.Reading.{end_of}

-- ---- the reader's law

-- a stretch of one colour: it has a first hop, its ends are its hops' ends, and its hops have its colour
pub record Stretch (f : Factor) : Type 0 where
  pub first : Hop
  pub rest : Path
  pub hops_are : f.hops ≡ first ∷ rest
  pub from_first_is : f.from ≡ first.from
  pub to_last : f.to ≡ end_of first.to rest
  pub one_colour : (h : Hop) → Memᴰ h f.hops → h.colour ≡ f.colour

-- neighbouring stretches differ in colour, so none could be longer
pub data Alternate : List Factor → Type 0 where
  none_left : Alternate []
  last_one : {f : Factor} → Alternate (f ∷ [])
  other_next : {f g : Factor} {fs : List Factor} → (f.colour ≡ g.colour → ⊥) → Alternate (g ∷ fs) → Alternate (f ∷ g ∷ fs)

-- A property of factor lists that a first hop, a longer first factor and a further first factor keep, holds of all factors.
module _ (P : Path → List Factor → Type 0) (nothing : P [] []) (starts : (h : Hop) (π : Path) → P π [] → P (h ∷ π) (alone h ∷ [])) where
  by_factors : ((h : Hop) (π : Path) (f : Factor) (fs : List Factor) → h.colour ≡ f.colour → P π (f ∷ fs) → P (h ∷ π) (longer h f ∷ fs)) → ((h : Hop) (π : Path) (f : Factor) (fs : List Factor) → (h.colour ≡ f.colour → ⊥) → P π (f ∷ fs) → P (h ∷ π) (alone h ∷ f ∷ fs)) → (π : Path) → P π (factors π)
  unfolding factors in_front
  by_factors lengthens adds [] = nothing
  by_factors lengthens adds (h ∷ π) = go (factors π) (by_factors lengthens adds π)
    where
      pick : (f : Factor) (fs : List Factor) (b : Bool) → same_side h.colour f.colour ≡ b → P π (f ∷ fs) → P (h ∷ π) (cond b (longer h f ∷ fs) (alone h ∷ f ∷ fs))
      pick f fs true e p = lengthens h π f fs (same_side_eq h.colour f.colour (passes (same_side h.colour f.colour) e)) p
      pick f fs false e p = adds h π f fs (λ q. subst T e (subst (λ (X : Side). T (same_side h.colour X)) q (same_side_self h.colour))) p

      go : (fs : List Factor) → P π fs → P (h ∷ π) (in_front h fs)
      go [] p = starts h π p
      go (f ∷ fs) p = pick f fs (same_side h.colour f.colour) refl p

-- the hops of all factors, one factor after the other
abbrev pub all_hops : List Factor → Path
all_hops fs = flat_map (λ f. f.hops) fs

-- the factors of a path are all of it, in its order
pub factors_whole : (π : Path) → all_hops (factors π) ≡ π
unfolding flat_map
factors_whole =
    by_factors (λ π fs. all_hops fs ≡ π) refl (λ h π e. ap (λ (ρ : Path). h ∷ ρ) e) (λ h π f fs c e. ap (λ (ρ : Path). h ∷ ρ) e)
    (λ h π f fs d e. ap (λ (ρ : Path). h ∷ ρ) e)

-- a hop by itself is a stretch of one colour
alone_stretch : (h : Hop) → Stretch (alone h)
unfolding end_of
alone_stretch h = record { first = h; rest = []; hops_are = refl; from_first_is = refl; to_last = refl; one_colour = λ g m. ap (λ (x : Hop). x.colour) (Memᴰ.eq_of_singleton m) }

-- and so is one with a hop of its colour in front
longer_stretch : (h : Hop) (f : Factor) → h.colour ≡ f.colour → Stretch f → Stretch (longer h f)
unfolding end_of
longer_stretch h f c s =
    record {
      first = h;
      rest = f.hops;
      hops_are = refl;
      from_first_is = refl;
      to_last = s.to_last ∙ sym (ap (end_of h.to) s.hops_are);
      one_colour = λ g m. ⊎_elim (λ e. ap (λ (x : Hop). x.colour) e ∙ c) (λ k. s.one_colour g k) (Memᴰ.cases_cons m);
    }

-- each factor is a stretch of one colour
pub factors_stretch : (π : Path) → {f : Factor} → Memᴰ f (factors π) → Stretch f
factors_stretch π {f} m = all π f m
  where
    all : (π : Path) → (f : Factor) → Memᴰ f (factors π) → Stretch f
    all =
        by_factors (λ π fs. (f : Factor) → Memᴰ f fs → Stretch f) (λ f m. absurd (Memᴰ.not-nil m))
        (λ h π p f m. subst Stretch (sym (Memᴰ.eq_of_singleton m)) (alone_stretch h))
        (λ h π g fs c p f m. ⊎_elim (λ e. subst Stretch (sym e) (longer_stretch h g c (p g (Memᴰ.head refl)))) (λ k. p f (Memᴰ.tail k)) (Memᴰ.cases_cons m))
        (λ h π g fs d p f m. ⊎_elim (λ e. subst Stretch (sym e) (alone_stretch h)) (λ k. p f k) (Memᴰ.cases_cons m))

-- only the colour of the first stretch matters for its neighbour
alternate_as : {f : Factor} {fs : List Factor} (g : Factor) → f.colour ≡ g.colour → Alternate (f ∷ fs) → Alternate (g ∷ fs)
alternate_as g e last_one = last_one
alternate_as g e (other_next d a) = other_next (λ q. d (e ∙ q)) a

-- neighbouring factors differ in colour
pub factors_alternate : (π : Path) → Alternate (factors π)
factors_alternate =
    by_factors (λ π fs. Alternate fs) none_left (λ h π a. last_one) (λ h π f fs c a. alternate_as (longer h f) refl a) (λ h π f fs d a. other_next d a)

-- the factors behind the first alternate too
pub alternate_rest : {f : Factor} {fs : List Factor} → Alternate (f ∷ fs) → Alternate fs
alternate_rest last_one = none_left
alternate_rest (other_next d a) = a

-- the longest stretches of one colour: together they are the path, each is of one colour, and none could be longer
pub record LongestStretches (π : Path) (fs : List Factor) : Type 0 where
  pub whole : all_hops fs ≡ π
  pub stretch : (f : Factor) → Memᴰ f fs → Stretch f
  pub alternate : Alternate fs

-- "A path's factors are its longest stretches of one colour."
pub factors_longest : (π : Path) → LongestStretches π (factors π)
factors_longest π = record { whole = factors_whole π; stretch = λ f m. factors_stretch π m; alternate = factors_alternate π }

-- the stretch that has these hops, all of the first one's colour
abbrev pub stretch_of : Hop → Path → Factor
stretch_of h ρ = record { colour = h.colour; from = h.from; to = end_of h.to ρ; hops = h ∷ ρ }

-- a hop lengthens the first factor where that has its colour
in_front_same : (h : Hop) (f : Factor) (fs : List Factor) → h.colour ≡ f.colour → in_front h (f ∷ fs) ≡ longer h f ∷ fs
unfolding in_front
in_front_same h f fs e = ap (λ (b : Bool). cond b (longer h f ∷ fs) (alone h ∷ f ∷ fs)) (passed (same_side h.colour f.colour) (subst (λ (X : Side). T (same_side h.colour X)) e (same_side_self h.colour)))

-- and stands by itself before one of the other colour
in_front_other : (h : Hop) (fs : List Factor) → Alternate (alone h ∷ fs) → in_front h fs ≡ alone h ∷ fs
unfolding in_front
in_front_other h [] a = refl
in_front_other h (f ∷ fs) (other_next d a) = go (same_side h.colour f.colour) refl
  where
    go : (b : Bool) → same_side h.colour f.colour ≡ b → cond b (longer h f ∷ fs) (alone h ∷ f ∷ fs) ≡ alone h ∷ f ∷ fs
    go true e = absurd (d (same_side_eq h.colour f.colour (passes (same_side h.colour f.colour) e)))
    go false e = refl

-- a stretch of one colour before a path whose first factor has the other colour is the first factor of both together
pub factors_front : (h : Hop) (ρ π : Path) → ((g : Hop) → Memᴰ g ρ → g.colour ≡ h.colour) → Alternate (alone h ∷ factors π) → factors ((h ∷ ρ) ++ π) ≡ stretch_of h ρ ∷ factors π
unfolding factors end_of
factors_front h [] π colours a = in_front_other h (factors π) a
factors_front h (g ∷ ρ) π colours a =
    let e = colours g (Memᴰ.head refl) in
    let ih = factors_front g ρ π (λ x m. colours x (Memᴰ.tail m) ∙ sym e) (alternate_as (alone g) (sym e) a) in
    ap (in_front h) ih ∙ in_front_same h (stretch_of g ρ) (factors π) (sym e) ∙ (λ i. record { colour = e i; from = h.from; to = end_of g.to ρ; hops = h ∷ g ∷ ρ } ∷ factors π)

-- a stretch of one colour is what its hops say
stretch_is : (f : Factor) (s : Stretch f) → stretch_of s.first s.rest ≡ f
stretch_is f s =
    let c = s.one_colour s.first (subst (λ (ρ : Path). Memᴰ s.first ρ) (sym s.hops_are) (Memᴰ.head refl)) in
    λ i. record { colour = c i; from = sym s.from_first_is i; to = sym s.to_last i; hops = sym s.hops_are i }

-- stretches of one colour that alternate are the factors of their hops
factors_of : (fs : List Factor) → ((f : Factor) → Memᴰ f fs → Stretch f) → Alternate fs → factors (all_hops fs) ≡ fs
unfolding factors flat_map
factors_of [] stretch a = refl
factors_of (f ∷ fs) stretch a = go (stretch f (Memᴰ.head refl)) (factors_of fs (λ g m. stretch g (Memᴰ.tail m)) (alternate_rest a))
  where
    go : Stretch f → factors (all_hops fs) ≡ fs → factors (f.hops ++ all_hops fs) ≡ f ∷ fs
    go s ih =
        let inside : (g : Hop) → Memᴰ g (s.first ∷ s.rest) → g.colour ≡ f.colour = λ g m. s.one_colour g (subst (λ (ρ : Path). Memᴰ g ρ) (sym s.hops_are) m) in
        let c = inside s.first (Memᴰ.head refl) in
        ap (λ (ρ : Path). factors (ρ ++ all_hops fs)) s.hops_are ∙
        factors_front s.first s.rest (all_hops fs) (λ g m. inside g (Memᴰ.tail m) ∙ sym c) (subst (λ (gs : List Factor). Alternate (alone s.first ∷ gs)) (sym ih) (alternate_as (alone s.first) (sym c) a)) ∙
        ap₂ (λ (g : Factor) (gs : List Factor). g ∷ gs) (stretch_is f s) ih

-- so there is only one way to divide a path into its longest stretches
pub longest_factors : (π : Path) (fs : List Factor) → LongestStretches π fs → factors π ≡ fs
longest_factors π fs l = sym (ap factors l.whole) ∙ factors_of fs l.stretch l.alternate

-- the hops of a factor are hops of the path
pub factor_hop : (π : Path) {f : Factor} {h : Hop} → Memᴰ f (factors π) → Memᴰ h f.hops → Memᴰ h π
factor_hop π {h = h} m k = subst (λ (ρ : Path). Memᴰ h ρ) (factors_whole π) (mem_flat_map (λ (f : Factor). f.hops) m k)

-- every hop of the path is one of a factor
pub hop_factor : (π : Path) {h : Hop} → Memᴰ h π → (f : Factor) × Memᴰ f (factors π) × Memᴰ h f.hops
hop_factor π {h} m = flat_map_mem (λ (f : Factor). f.hops) (factors π) (subst (λ (ρ : Path). Memᴰ h ρ) (sym (factors_whole π)) m)

-- ---- the factors of a walk

-- factors that lead from u to v, each a walk from where the one before ended
pub data Chain (G : Graph) : ℕ → ℕ → List Factor → Type 0 where
  done : {u v : ℕ} → u ≡ v → Chain G u v []
  link : {u v : ℕ} {f : Factor} {fs : List Factor} → u ≡ f.from → Walk G f.from f.to f.hops → Chain G f.to v fs → Chain G u v (f ∷ fs)

module _ (G : Graph) (v : ℕ) where
  -- a hop in front of a chain lengthens its first factor
  chain_lengthen : (h : Hop) (π : Path) (f : Factor) (fs : List Factor) → ((x : ℕ) → Walk G x v π → Chain G x v (f ∷ fs)) → (u : ℕ) → Walk G u v (h ∷ π) → Chain G u v (longer h f ∷ fs)
  chain_lengthen h π f fs p u (hop k q w) = go (p h.to w)
    where
      go : Chain G h.to v (f ∷ fs) → Chain G u v (longer h f ∷ fs)
      go (link e x c) = link q (hop k refl (subst (λ (y : ℕ). Walk G y f.to f.hops) (sym e) x)) c

  -- or is a factor by itself
  chain_add : (h : Hop) (π : Path) (fs : List Factor) → ((x : ℕ) → Walk G x v π → Chain G x v fs) → (u : ℕ) → Walk G u v (h ∷ π) → Chain G u v (alone h ∷ fs)
  chain_add h π fs p u (hop k q w) = link q (hop k refl (stay refl)) (p h.to w)

  -- no hop, no factor
  chain_none : (u : ℕ) → Walk G u v [] → Chain G u v []
  chain_none u (stay q) = done q

  -- the factors of a walk to v lead there
  walk_chain_from : (π : Path) → (u : ℕ) → Walk G u v π → Chain G u v (factors π)
  walk_chain_from =
      by_factors (λ π fs. (u : ℕ) → Walk G u v π → Chain G u v fs) chain_none (λ h π p. chain_add h π [] p) (λ h π f fs c p. chain_lengthen h π f fs p)
      (λ h π f fs d p. chain_add h π (f ∷ fs) p)

-- the factors of a walk lead from its start to its end
pub walk_chain : {G : Graph} {u v : ℕ} {π : Path} → Walk G u v π → Chain G u v (factors π)
walk_chain {G} {u} {v} {π} w = walk_chain_from G v π u w

-- each factor of a chain is a walk
pub chain_walk : {G : Graph} {u v : ℕ} {fs : List Factor} {f : Factor} → Chain G u v fs → Memᴰ f fs → Walk G f.from f.to f.hops
chain_walk (done q) absent = elim absent [ ]
chain_walk {G} (link q w c) (Memᴰ.head e) = subst (λ (x : Factor). Walk G x.from x.to x.hops) (sym e) w
chain_walk (link q w c) (Memᴰ.tail m) = chain_walk c m

-- so each factor of a walk is one
pub factor_walk : {G : Graph} {u v : ℕ} {π : Path} {f : Factor} → Walk G u v π → Memᴰ f (factors π) → Walk G f.from f.to f.hops
factor_walk w m = chain_walk (walk_chain w) m

-- ---- functions of terms along walks

-- a function that has one value at both ends of each hop has it at both ends of the walk
pub walk_agree {ℓ} : {C : Type ℓ} (f : ℕ → C) {G : Graph} {u v : ℕ} {π : Path} → Walk G u v π → ((h : Hop) → Memᴰ h π → f h.from ≡ f h.to) → f u ≡ f v
walk_agree f (stay q) g = ap f q
walk_agree f (hop {h = h} k q w) g = ap f q ∙ g h (Memᴰ.head refl) ∙ walk_agree f w (λ x m. g x (Memᴰ.tail m))

-- likewise by factors
pub chain_agree {ℓ} : {C : Type ℓ} (f : ℕ → C) {G : Graph} {u v : ℕ} {fs : List Factor} → Chain G u v fs → ((x : Factor) → Memᴰ x fs → f x.from ≡ f x.to) → f u ≡ f v
chain_agree f (done q) g = ap f q
chain_agree f (link {f = x} q w c) g = ap f q ∙ g x (Memᴰ.head refl) ∙ chain_agree f c (λ y m. g y (Memᴰ.tail m))
