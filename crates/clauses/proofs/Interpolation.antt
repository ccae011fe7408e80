-- The interpolation theorem: the summary of a contradicted disequality uses only shared symbols, follows from A, and contradicts B.
use mathlib.Core.Bool.{Bool, true, false, not}
use mathlib.Core.List.{List, [], ◌∷◌, ◌++◌, flat_map, Memᴰ}
use mathlib.Core.Logic.{◌⊎◌, inl, inr, ⊎_elim}
use mathlib.Core.Path.{◌≡◌, refl, sym, ap, subst, ◌∙◌}
use Prim.Native.Nat.{ℕ}
use native.Mathlib.Nat.{le_refl}
use lib.Dec.{T}
use lib.ListN.{length}
use Rattle.tables.specs.Words.{Pair}
use Rattle.tables.specs.Terms.{Term}
use Rattle.tables.specs.Parts.{LowerArguments, itself}
use Rattle.tables.specs.declared.Literal.{Literal}
use Rattle.tables.specs.declared.Kind.{Kind}
use Rattle.tables.specs.declared.Kind.TheVariants.{Equal, Different}
use Rattle.tables.specs.declared.Side.{Side}
use Rattle.tables.specs.declared.Side.TheVariants.{A, B}
use Rattle.tables.specs.Colours.{colourable}
use Rattle.tables.specs.Interpretations.{Interpretation, value, HoldsAs, Holds, Satisfies}
use Rattle.tables.proofs.Words.{flat_map_mem, mem_flat_map}
use Rattle.tables.proofs.Terms.{value_append, lower_append}
use Rattle.tables.proofs.Colours.{SidesWithin, part_colourable, colourable_append}
use Rattle.closure.specs.Graph.{Graph, Hop, Path, joined, path}
use Rattle.closure.specs.Walks.{Walk}
use Rattle.closure.proofs.Walking.Walks.{path_walk, walk_hop}
use Rattle.closure.proofs.Walking.Invariant.{SoundGraph}
use Rattle.closure.proofs.Walking.Parents.{SoundHop, hop_sound}
use Rattle.clauses.specs.Clauses.{between, Clause, differs}
use Rattle.clauses.specs.Premises.{premises, path_clauses}
use Rattle.clauses.specs.Reading.{Stretches, stretches, not_middle, outer_premises, read_a, read_between, summary}
use Rattle.clauses.specs.Truth.{TrueConclusion, TrueClause, TrueClauses, SharedPair, SharedConclusion, SharedClause}
use Rattle.clauses.proofs.Members.{empty_clauses}
use Rattle.clauses.proofs.Order.{between_true}
use Rattle.clauses.proofs.Truths.{Keeps, premise_path, premises_agree, clauses_hold, clauses_agree}
use Rattle.clauses.proofs.Shared.{Coloured, BothColoured, between_shared, shared_coloured, walk_coloured, premises_shared, clauses_shared}
use Rattle.clauses.proofs.Stretches.{Divided, stretches_divided, middle_cases}

-- ---- what the clauses of a disequality in A are

module _ (ts : List Term) (ls : List Literal) (table : List Term) (G : Graph) (z : Stretches) where
  -- "outer premises imply not [middle]"
  abbrev pub last_clause : Clause
  last_clause = record { premises = outer_premises ts ls table G z; conclusion = not_middle z.middle }

  -- an outer premise is one of the stretch before or of the stretch after
  pub outer_cases : {p : Pair} → Memᴰ p (outer_premises ts ls table G z) → Memᴰ p (premises (length G) table z.before) ⊎ Memᴰ p (premises (length G) table z.after)
  unfolding outer_premises
  outer_cases m = mathlib.Core.List.Memᴰ.append_cases (premises (length G) table z.before) m

  -- a premise of the stretch before is an outer premise
  pub outer_before : {p : Pair} → Memᴰ p (premises (length G) table z.before) → Memᴰ p (outer_premises ts ls table G z)
  unfolding outer_premises
  outer_before m = mathlib.Core.List.Memᴰ.append_left (premises (length G) table z.after) m

  -- so is one of the stretch after
  pub outer_after : {p : Pair} → Memᴰ p (premises (length G) table z.after) → Memᴰ p (outer_premises ts ls table G z)
  unfolding outer_premises
  outer_after m = mathlib.Core.List.Memᴰ.append_right (premises (length G) table z.before) m

  -- "path clauses of the middle stretch and of the outer premises, and a last clause"
  pub data ReadingA (c : Clause) : Type 0 where
    of_middle : Memᴰ c (path_clauses (length G) table z.middle) → ReadingA c
    of_outer_is : {p : Pair} → Memᴰ p (outer_premises ts ls table G z) → Memᴰ c (path_clauses (length G) table (path G p.left p.right)) → ReadingA c
    of_last : c ≡ last_clause → ReadingA c

  -- the path clauses of an outer premise
  abbrev of_outer : Pair → List Clause
  of_outer p = path_clauses (length G) table (path G p.left p.right)

  -- the list holds these alone
  pub read_a_mem : (c : Clause) → Memᴰ c (read_a ts ls table G z) → ReadingA c
  unfolding read_a
  read_a_mem c m =
      let middles = path_clauses (length G) table z.middle in
      let outers = flat_map of_outer (outer_premises ts ls table G z) in
      let outer : Memᴰ c outers → ReadingA c = λ o. let r = flat_map_mem of_outer (outer_premises ts ls table G z) o in of_outer_is r.1 r.2 in
      ⊎_elim (λ k. ⊎_elim of_middle outer (mathlib.Core.List.Memᴰ.append_cases middles k)) (λ k. of_last (mathlib.Core.List.Memᴰ.eq_of_singleton k))
      (mathlib.Core.List.Memᴰ.append_cases (middles ++ outers) m)

  -- and all of them
  pub mem_read_a : (c : Clause) → ReadingA c → Memᴰ c (read_a ts ls table G z)
  unfolding read_a
  mem_read_a c (of_middle m) = mathlib.Core.List.Memᴰ.append_left (last_clause ∷ []) (mathlib.Core.List.Memᴰ.append_left (flat_map of_outer (outer_premises ts ls table G z)) m)
  mem_read_a c (of_outer_is k m) = mathlib.Core.List.Memᴰ.append_left (last_clause ∷ []) (mathlib.Core.List.Memᴰ.append_right (path_clauses (length G) table z.middle) (mem_flat_map of_outer k m))
  mem_read_a c (of_last e) = mathlib.Core.List.Memᴰ.append_right (path_clauses (length G) table z.middle ++ flat_map of_outer (outer_premises ts ls table G z)) (mathlib.Core.List.Memᴰ.head e)

-- ---- the clauses of a disequality in A, of a divided walk

module _ (ts : List Term) (ls : List Literal) (table : List Term) (low : LowerArguments table) (G : Graph) (sound : SoundGraph ts ls table G) (u v : ℕ) (π : Path) (z : Stretches) (div : Divided (colourable ts ls B table) G u v π z) where
  -- a hop with an end that is not B-colourable has colour A
  outer_colour : (h : Hop) → SoundHop ts ls table h → T (not (colourable ts ls B table h.from)) ⊎ T (not (colourable ts ls B table h.to)) → h.colour ≡ A
  outer_colour h s n = go h.colour s.from_coloured s.to_coloured n
    where
      no : (b : Bool) → T b → T (not b) → ⊥
      no true x y = y
      no false x y = x

      go : (X : Side) → Coloured ts ls table X h.from → Coloured ts ls table X h.to → T (not (colourable ts ls B table h.from)) ⊎ T (not (colourable ts ls B table h.to)) → X ≡ A
      go A x y o = refl
      go B x y (inl o) = absurd (no (colourable ts ls B table h.from) x o)
      go B x y (inr o) = absurd (no (colourable ts ls B table h.to) y o)

  -- So the outer stretches are all of colour A, and the first vertex of the middle stretch is A-colourable where the walk's is.
  first_coloured : Coloured ts ls table A u → Coloured ts ls table A div.first
  first_coloured = (walk_coloured ts ls table A sound div.before_walk (λ h m. outer_colour h (hop_sound ts ls table (walk_hop div.before_walk m) sound) (inl (div.before_outside h m)))).0

  -- and so is its last vertex
  last_coloured : Coloured ts ls table A v → Coloured ts ls table A div.last
  last_coloured = (walk_coloured ts ls table A sound div.after_walk (λ h m. outer_colour h (hop_sound ts ls table (walk_hop div.after_walk m) sound) (inr (div.after_outside h m)))).1

  -- the path between the ends of an outer premise is a walk
  outer_path : (p : Pair) → Memᴰ p (outer_premises ts ls table G z) → Walk G p.left p.right (path G p.left p.right)
  outer_path p m = ⊎_elim (λ k. premise_path ts ls table (length G) p sound div.before_walk k) (λ k. premise_path ts ls table (length G) p sound div.after_walk k) (outer_cases ts ls table G z m)

  -- outer premises are shared
  outer_shared : BothColoured ts ls table A u v → (p : Pair) → Memᴰ p (outer_premises ts ls table G z) → SharedPair ts ls table p
  outer_shared ends p m =
      ⊎_elim (λ k. premises_shared ts ls table low (length G) p sound div.before_walk (ends.0, first_coloured ends.0) k)
      (λ k. premises_shared ts ls table low (length G) p sound div.after_walk (last_coloured ends.1, ends.1) k)
      (outer_cases ts ls table G z m)

  -- the last clause's conclusion is shared
  last_shared : BothColoured ts ls table A u v → SharedConclusion ts ls table (not_middle z.middle)
  unfolding not_middle
  last_shared ends = go div.ends
    where
      go : BothColoured ts ls table B div.first div.last ⊎ ((z.middle ≡ []) × (z.after ≡ []) × T (not (colourable ts ls B table div.last))) → SharedConclusion ts ls table (not_middle z.middle)
      go (inl b) = ⊎_elim (λ e. subst (SharedConclusion ts ls table) (sym e.2) tt) (λ e. subst (SharedConclusion ts ls table) (sym e) (between_shared ts ls table div.first div.last (first_coloured ends.0, last_coloured ends.1) b)) (middle_cases div.middle_walk)
      go (inr b) = subst (λ (ρ : Path). SharedConclusion ts ls table (not_middle ρ)) (sym b.0) tt

  -- the path clauses of the middle stretch are shared; where no vertex is B-colourable it has none
  middle_shared : (c : Clause) → Memᴰ c (path_clauses (length G) table z.middle) → SharedClause ts ls table c
  middle_shared c m = go div.ends
    where
      go : BothColoured ts ls table B div.first div.last ⊎ ((z.middle ≡ []) × (z.after ≡ []) × T (not (colourable ts ls B table div.last))) → SharedClause ts ls table c
      go (inl b) = clauses_shared ts ls table low (length G) c sound div.middle_walk b m
      go (inr b) = absurd (empty_clauses (length G) table c (subst (λ (ρ : Path). Memᴰ c (path_clauses (length G) table ρ)) b.0 m))

  -- between A-colourable ends every clause is shared
  read_a_shared : BothColoured ts ls table A u v → (c : Clause) → Memᴰ c (read_a ts ls table G z) → SharedClause ts ls table c
  read_a_shared ends c m = go (read_a_mem ts ls table G z c m)
    where
      go : ReadingA ts ls table G z c → SharedClause ts ls table c
      go (of_middle k) = middle_shared c k
      go (of_outer_is {p = p} k x) =
          let s = outer_shared ends p k in
          clauses_shared ts ls table low (length G) c sound (outer_path p k) (shared_coloured ts ls table p.left s.0, shared_coloured ts ls table p.right s.1) x
      go (of_last e) =
          let parts : SharedClause ts ls table (last_clause ts ls table G z) = (outer_shared ends, last_shared ends) in
          subst (SharedClause ts ls table) (sym e) parts

  module _ (I : Interpretation) where
    -- "not [middle]" says that the ends of the middle stretch differ in value
    not_middle_is : TrueConclusion I table (not_middle z.middle) → value I table div.first ≡ value I table div.last → ⊥
    not_middle_is c q =
        ⊎_elim (λ e. subst (TrueConclusion I table) e.2 c)
        (λ e. let d : TrueConclusion I table (differs (between div.first div.last)) = subst (TrueConclusion I table) e c in d ((between_true I table div.first div.last).1 q))
        (middle_cases div.middle_walk)

    -- and holds where they do
    middle_not : (value I table div.first ≡ value I table div.last → ⊥) → TrueConclusion I table (not_middle z.middle)
    middle_not n =
        ⊎_elim (λ e. subst (TrueConclusion I table) (sym e.2) (n (ap (value I table) e.1)))
        (λ e. let d : TrueConclusion I table (differs (between div.first div.last)) = λ q. n ((between_true I table div.first div.last).0 q) in subst (TrueConclusion I table) (sym e) d)
        (middle_cases div.middle_walk)

    -- A with the disequality gives every clause
    read_a_holds : Keeps ts ls table low I A → (value I table u ≡ value I table v → ⊥) → TrueClauses I table (read_a ts ls table G z)
    read_a_holds keeps breaks c m = go (read_a_mem ts ls table G z c m)
      where
        last : TrueClause I table (last_clause ts ls table G z)
        last given =
            middle_not
            (λ q. breaks (premises_agree ts ls table low I keeps (length G) (le_refl (length G)) sound div.before_walk (λ p k. given p (outer_before ts ls table G z k)) ∙ q ∙ premises_agree ts ls table low I keeps (length G) (le_refl (length G)) sound div.after_walk (λ p k. given p (outer_after ts ls table G z k))))

        go : ReadingA ts ls table G z c → TrueClause I table c
        go (of_middle k) = clauses_hold ts ls table low I keeps (length G) c (le_refl (length G)) sound div.middle_walk k
        go (of_outer_is {p = p} k x) = clauses_hold ts ls table low I keeps (length G) c (le_refl (length G)) sound (outer_path p k) x
        go (of_last e) = subst (TrueClause I table) (sym e) last

    -- B makes not all of them true
    read_a_refutes : Keeps ts ls table low I B → TrueClauses I table (read_a ts ls table G z) → ⊥
    read_a_refutes keeps given =
        let clause : (c : Clause) → ReadingA ts ls table G z c → TrueClause I table c = λ c r. given c (mem_read_a ts ls table G z c r) in
        not_middle_is
        (clause (last_clause ts ls table G z) (of_last refl) (λ p k. clauses_agree ts ls table low I keeps (length G) (le_refl (length G)) sound (outer_path p k) (λ c x. clause c (of_outer_is k x))))
        (clauses_agree ts ls table low I keeps (length G) (le_refl (length G)) sound div.middle_walk (λ c x. clause c (of_middle x)))

-- ---- the theorem

module _ (ts more : List Term) (ls : List Literal) (low : LowerArguments (ts ++ more)) (within : SidesWithin ts ls) where
  -- an interpretation that satisfies a side gives both sides of its equality records one value, also among the added terms
  pub satisfies_keeps : (I : Interpretation) (X : Side) → Satisfies I ts ls X → Keeps ts ls (ts ++ more) low I X
  unfolding Holds HoldsAs
  satisfies_keeps I X holds l m k e =
      let q : HoldsAs I ts Equal l.left l.right = subst (λ (K : Kind). HoldsAs I ts K l.left l.right) k (holds l m e) in
      value_append I ts more (lower_append ts more low) l.left (within l m).0 ∙ q ∙ sym (value_append I ts more (lower_append ts more low) l.right (within l m).1)

  -- and both sides of its disequalities different values
  pub satisfies_breaks : (I : Interpretation) (l : Literal) → Satisfies I ts ls l.side → Memᴰ l ls → l.kind ≡ Different → value I (ts ++ more) l.left ≡ value I (ts ++ more) l.right → ⊥
  unfolding Holds HoldsAs
  satisfies_breaks I l holds m k e =
      let n : HoldsAs I ts Different l.left l.right = subst (λ (K : Kind). HoldsAs I ts K l.left l.right) k (holds l m refl) in
      n (sym (value_append I ts more (lower_append ts more low) l.left (within l m).0) ∙ e ∙ value_append I ts more (lower_append ts more low) l.right (within l m).1)

  -- the sides of a literal are colourable in its own side
  pub sides_coloured : (l : Literal) → Memᴰ l ls → BothColoured ts ls (ts ++ more) l.side l.left l.right
  sides_coloured l m =
      let lows = lower_append ts more low in
      let X = l.side in
      (subst T (sym (colourable_append ts ls X ts more lows l.left (within l m).0)) (part_colourable ts ls lows within X l m refl l.left (inl itself)), subst T (sym (colourable_append ts ls X ts more lows l.right (within l m).1)) (part_colourable ts ls lows within X l m refl l.right (inr itself)))

  -- a disequality between joined sides, in a graph as the steps make it
  module _ (G : Graph) (sound : SoundGraph ts ls (ts ++ more) G) (l : Literal) (stands : Memᴰ l ls) (differ : l.kind ≡ Different) (meet : T (joined G l.left l.right)) where
    -- the path between its sides
    between_sides_walk : Walk G l.left l.right (path G l.left l.right)
    between_sides_walk = path_walk G l.left l.right meet

    -- its stretches
    the_stretches : Stretches
    the_stretches = stretches (colourable ts ls B (ts ++ more)) l.left (path G l.left l.right)

    -- they divide it as 01 says
    divided : Divided (colourable ts ls B (ts ++ more)) G l.left l.right (path G l.left l.right) the_stretches
    unfolding the_stretches
    divided = stretches_divided (colourable ts ls B (ts ++ more)) G l.right l.left (path G l.left l.right) between_sides_walk

    -- the summary uses only shared symbols
    pub summary_shared : (c : Clause) → Memᴰ c (summary ts ls (ts ++ more) G l) → SharedClause ts ls (ts ++ more) c
    unfolding summary read_between the_stretches
    summary_shared c m = go l.side (sides_coloured l stands) m
      where
        go : (X : Side) → BothColoured ts ls (ts ++ more) X l.left l.right → Memᴰ c (read_between ts ls (ts ++ more) G X l.left l.right) → SharedClause ts ls (ts ++ more) c
        go A ends n = read_a_shared ts ls (ts ++ more) low G sound l.left l.right (path G l.left l.right) the_stretches divided ends c n
        go B ends n = clauses_shared ts ls (ts ++ more) low (length G) c sound between_sides_walk ends n

    -- every interpretation that satisfies A makes each of its clauses true
    pub summary_a : (I : Interpretation) → Satisfies I ts ls A → TrueClauses I (ts ++ more) (summary ts ls (ts ++ more) G l)
    unfolding summary read_between the_stretches
    summary_a I holds c m = go l.side refl m
      where
        go : (X : Side) → l.side ≡ X → Memᴰ c (read_between ts ls (ts ++ more) G X l.left l.right) → TrueClause I (ts ++ more) c
        go A e n = read_a_holds ts ls (ts ++ more) low G sound l.left l.right (path G l.left l.right) the_stretches divided I (satisfies_keeps I A holds) (satisfies_breaks I l (subst (Satisfies I ts ls) (sym e) holds) stands differ) c n
        go B e n = clauses_hold ts ls (ts ++ more) low I (satisfies_keeps I A holds) (length G) c (le_refl (length G)) sound between_sides_walk n

    -- no interpretation that satisfies B makes all of them true
    pub summary_b : (I : Interpretation) → Satisfies I ts ls B → TrueClauses I (ts ++ more) (summary ts ls (ts ++ more) G l) → ⊥
    unfolding summary read_between the_stretches
    summary_b I holds given = go l.side refl given
      where
        go : (X : Side) → l.side ≡ X → TrueClauses I (ts ++ more) (read_between ts ls (ts ++ more) G X l.left l.right) → ⊥
        go A e g = read_a_refutes ts ls (ts ++ more) low G sound l.left l.right (path G l.left l.right) the_stretches divided I (satisfies_keeps I B holds) g
        go B e g = satisfies_breaks I l (subst (Satisfies I ts ls) (sym e) holds) stands differ (clauses_agree ts ls (ts ++ more) low I (satisfies_keeps I B holds) (length G) (le_refl (length G)) sound between_sides_walk g)
