-- A path walked backwards has its factors backwards, and so the same premises.
use mathlib.Core.List.Memᴰ
use mathlib.Core.List.{List, [], ◌∷◌, ◌++◌, flat_map, append_assoc, append-nil, Memᴰ}
use mathlib.Core.Logic.{⊎_elim, ◌↔◌}
use mathlib.Core.Path.{◌≡◌, refl, sym, ap, subst, ◌∙◌}
use Prim.Native.Nat.{ℕ}
use lib.Dec.{T}
use Rattle.tables.specs.Words.{Pair}
use Rattle.tables.specs.Terms.{Term}
use Rattle.tables.specs.declared.Literal.{Literal}
use Rattle.closure.specs.Graph.{Graph, Hop, Path, joined, path}
use Rattle.closure.specs.Walks.{HopOf}
use Rattle.closure.proofs.Walking.Joined.{joined_sym}
use Rattle.closure.proofs.Walking.Invariant.{SoundGraph}
use Rattle.closure.proofs.Walking.OnePath.{turned, backwards, backwards_none, backwards_hop, backwards_append, mem_backwards, backwards_mem, path_back}
use Rattle.closure.proofs.Walking.Parents.{hop_sound, path_hop, parent_hop}
use Rattle.closure.proofs.Walking.ParentPaths.{parent_back}
use Rattle.clauses.specs.Factors.{Factor, factors}
use Rattle.clauses.specs.Meaning.{Premise, own, parent}
use Rattle.clauses.specs.Reading.{end_of}
use Rattle.clauses.proofs.Factors.{Stretch, Alternate, none_left, last_one, other_next, all_hops, factors_stretch, factors_alternate, factors_whole, longest_factors, factor_hop}
use Rattle.clauses.proofs.Truths.{older_sound}
use Rattle.clauses.proofs.Order.{between_swap}

-- ---- factors backwards

-- a stretch from its other end
abbrev pub turned_factor : Factor → Factor
turned_factor f = record { colour = f.colour; from = f.to; to = f.from; hops = backwards f.hops }

-- the last hop says where hops end
end_of_last : (x : ℕ) (π : Path) (h : Hop) → end_of x (π ++ (h ∷ [])) ≡ h.to
unfolding end_of
end_of_last x [] h = refl
end_of_last x (g ∷ π) h = end_of_last g.to π h

-- hops backwards begin where they ended, and end where they began
backwards_ends : (h : Hop) (π : Path) → (g : Hop) × (ρ : Path) × (backwards (h ∷ π) ≡ g ∷ ρ) × (g.from ≡ end_of h.to π) × (end_of g.to ρ ≡ h.from)
unfolding end_of
backwards_ends h [] = (turned h, [], backwards_hop h [] ∙ ap (λ (ρ : Path). ρ ++ (turned h ∷ [])) backwards_none, refl, refl)
backwards_ends h (k ∷ π) =
    let r = backwards_ends k π in
    (r.0, r.1 ++ (turned h ∷ []), backwards_hop h (k ∷ π) ∙ ap (λ (ρ : Path). ρ ++ (turned h ∷ [])) r.2, r.3, end_of_last r.0.to r.1 (turned h))

-- a stretch of one colour is one from its other end
turned_stretch : {f : Factor} → Stretch f → Stretch (turned_factor f)
turned_stretch {f} s =
    let r = backwards_ends s.first s.rest in
    record {
      first = r.0;
      rest = r.1;
      hops_are = ap backwards s.hops_are ∙ r.2;
      from_first_is = s.to_last ∙ sym r.3;
      to_last = s.from_first_is ∙ sym r.4;
      one_colour = λ h m. s.one_colour (turned h) ((backwards_mem h f.hops).0 m);
    }

-- stretches turned, the last one first, in front of others
back_onto : List Factor → List Factor → List Factor
back_onto [] gs = gs
back_onto (f ∷ fs) gs = back_onto fs (turned_factor f ∷ gs)

-- their hops are the hops backwards
back_onto_hops : (fs gs : List Factor) → all_hops (back_onto fs gs) ≡ backwards (all_hops fs) ++ all_hops gs
unfolding back_onto flat_map
back_onto_hops [] gs = ap (λ (ρ : Path). ρ ++ all_hops gs) (sym backwards_none)
back_onto_hops (f ∷ fs) gs =
    back_onto_hops fs (turned_factor f ∷ gs) ∙ sym (append_assoc (backwards (all_hops fs)) (backwards f.hops) (all_hops gs)) ∙
    ap (λ (ρ : Path). ρ ++ all_hops gs) (sym (backwards_append f.hops (all_hops fs)))

-- neighbours still differ in colour
back_onto_alternate : (f : Factor) (fs gs : List Factor) → Alternate (f ∷ fs) → Alternate (turned_factor f ∷ gs) → Alternate (back_onto (f ∷ fs) gs)
unfolding back_onto
back_onto_alternate f [] gs a b = b
back_onto_alternate f (g ∷ fs) gs (other_next d a) b = back_onto_alternate g fs (turned_factor f ∷ gs) a (other_next (λ q. d (sym q)) b)

-- each is a stretch of one colour
back_onto_stretch : (fs gs : List Factor) → ((f : Factor) → Memᴰ f fs → Stretch f) → ((f : Factor) → Memᴰ f gs → Stretch f) → (f : Factor) → Memᴰ f (back_onto fs gs) → Stretch f
unfolding back_onto
back_onto_stretch [] gs s t f m = t f m
back_onto_stretch (g ∷ fs) gs s t f m =
    back_onto_stretch fs (turned_factor g ∷ gs) (λ x k. s x (Memᴰ.tail k))
    (λ x k. ⊎_elim (λ e. subst Stretch (sym e) (turned_stretch (s g (Memᴰ.head refl)))) (λ n. t x n) (Memᴰ.cases_cons k)) f m

-- the others are there
back_onto_kept : (fs gs : List Factor) {f : Factor} → Memᴰ f gs → Memᴰ f (back_onto fs gs)
unfolding back_onto
back_onto_kept [] gs m = m
back_onto_kept (g ∷ fs) gs m = back_onto_kept fs (turned_factor g ∷ gs) (Memᴰ.tail m)

-- and each stretch is there turned
back_onto_mem : {f : Factor} {fs : List Factor} (gs : List Factor) → Memᴰ f fs → Memᴰ (turned_factor f) (back_onto fs gs)
unfolding back_onto
back_onto_mem {f} gs (Memᴰ.head {x = g} {xs = fs} e) = back_onto_kept fs (turned_factor g ∷ gs) (Memᴰ.head (ap turned_factor e))
back_onto_mem gs (Memᴰ.tail {x = g} m) = back_onto_mem (turned_factor g ∷ gs) m

-- the factors of a path backwards are its factors backwards
factors_backwards : (π : Path) → factors (backwards π) ≡ back_onto (factors π) []
unfolding back_onto flat_map
factors_backwards π =
    longest_factors (backwards π) (back_onto (factors π) [])
    (record {
      whole = back_onto_hops (factors π) [] ∙ append-nil (backwards (all_hops (factors π))) ∙ ap backwards (factors_whole π);
      stretch = back_onto_stretch (factors π) [] (λ f m. factors_stretch π m) (λ f m. absurd (Memᴰ.not-nil m));
      alternate = go (factors π) (factors_alternate π);
    })
  where
    go : (fs : List Factor) → Alternate fs → Alternate (back_onto fs [])
    go [] a = none_left
    go (f ∷ fs) a = back_onto_alternate f fs [] a last_one

-- so a factor of the path is, turned, one of the path backwards
pub turned_factor_is : (π : Path) {f : Factor} → Memᴰ f (factors π) → Memᴰ (turned_factor f) (factors (backwards π))
turned_factor_is π {f} m = subst (λ (fs : List Factor). Memᴰ (turned_factor f) fs) (sym (factors_backwards π)) (back_onto_mem [] m)

-- ---- premises backwards

module _ (ts : List Term) (ls : List Literal) (table : List Term) where
  -- a premise of hops of a sound graph is one of the hops backwards
  pub premise_backwards : (p : Pair) (G : Graph) → SoundGraph ts ls table G → {π : Path} → ((h : Hop) → Memᴰ h π → HopOf h G) → Premise table p π → Premise table p (backwards π)
  premise_backwards p G s over (own {π = π} {f = f} m e q) = own (turned_factor_is π m) e (q ∙ between_swap f.from f.to)
  premise_backwards p G s over (parent {π = π} {h = h} m e n o x) =
      let of = over h (factor_hop π m n) in
      parent (turned_factor_is π m) e (mem_backwards n) (parent_back ts ls table (hop_sound ts ls table of s) o) (premise_backwards p h.older (older_sound ts ls table s of) (λ g k. parent_hop table h o k) x)

  -- so the path from the other end has the same premises
  pub premise_other_end : (G : Graph) → SoundGraph ts ls table G → (u v : ℕ) → T (joined G u v) → (p : Pair) → Premise table p (path G u v) ↔ Premise table p (path G v u)
  premise_other_end G s u v j p = (turn u v j, turn v u (joined_sym G u v j))
    where
      turn : (x y : ℕ) → T (joined G x y) → Premise table p (path G x y) → Premise table p (path G y x)
      turn x y k q = subst (Premise table p) (sym (path_back G x y k)) (premise_backwards p G s (λ h m. path_hop G x y m) q)
