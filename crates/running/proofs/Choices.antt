-- The choice of shared terms, argument by argument: the first shared stop on each parent path.
use Rattle.std.proofs.Common.{Option, Some, None, option_map}
use mathlib.Core.Bool.{Bool, cond}
use Rattle.std.specs.List.{All, find}
use mathlib.Core.List.{List, [], ◌∷◌, ◌++◌, append_assoc, append-nil, Memᴰ}
use mathlib.Core.Path.{◌≡◌, refl, sym, ap, ap₂, subst, ◌∙◌}
use Prim.Native.Nat.{ℕ, suc, ◌+◌, ◌-◌, ◌≤◌, ◌<◌}
use native.Mathlib.Numerals.{add-one}
use native.Mathlib.Omega.{arith}
use lib.Dec.{T, eqb, ltb, lt→ltb, ltb→lt}
use lib.ListN.{length, get_or, take, drop, set, replicate, length-append, drop_of_length-le}
use lib.Seq.{drop-cons, set_at}
use Rattle.tables.specs.Words.{first_of}
use Rattle.tables.specs.Colours.{shared}
use Rattle.tables.specs.Read.{colour_number}
use Rattle.tables.proofs.Words.{get_d_mem, first_of_agree}
use Rattle.tables.proofs.Colours.{shared_test}
use Rattle.tables.proofs.Filled.{filled_at}
use Rattle.closure.specs.Graph.{Graph, joined, path, vertices}
use Rattle.closure.specs.OwnRun.{and_then, first_shared}
use Rattle.closure.specs.Forests.{EndsBelow}
use Rattle.running.specs.Shown.{padded}
use Rattle.graphs.specs.Trails.{Joining, TrailOf}
use Rattle.running.specs.Stepping.{Choosing}
use Rattle.running.specs.declared.state.State.{State as Arrays}
use Rattle.graphs.specs.declared.rooting.Rooting.{Rooting}
use Rattle.graphs.specs.declared.paths.Trail.{Trail}
use Rattle.closure.proofs.Walking.Places.{joined_at}
use Rattle.closure.proofs.Walking.ParentPaths.{each_map}
use Rattle.closure.proofs.Running.Vertices.{EndsAmong, walk_among}
use Rattle.closure.proofs.Walking.Walks.{path_walk}
use Rattle.running.proofs.Arrays.{padded_at}

-- ---- the colours, the rows and the parent paths

-- what stands on the path between joined terms is below n where the terms and the ends of the edges are
pub path_below : (n : ℕ) (G : Graph) (u v : ℕ) → EndsBelow n G → u < n → T (joined G u v) → (m : ℕ) → Memᴰ m (vertices u (path G u v)) → m < n
path_below n G u v ends h j m k =
    ltb→lt m n
    (walk_among (λ x. ltb x n) (each_map (λ H e. (e.left < n) × (e.right < n)) (EndsAmong (λ x. ltb x n)) (λ H e p. (lt→ltb e.left n p.0, lt→ltb e.right n p.1)) G ends) (lt→ltb u n h) (path_walk G u v j) m k)

-- a row with one argument more
pub padded_more : (ms : List ℕ) (j m : ℕ) → length ms ≡ j → j < 4 → set (padded ms) j m ≡ padded (ms ++ (m ∷ []))
unfolding padded
padded_more ms j m e h =
    let left : 4 - length ms ≡ suc (4 - length (ms ++ (m ∷ []))) = omega (arith, length-append ms (m ∷ [])) in
    let rest : List ℕ = replicate (4 - length (ms ++ (m ∷ []))) 0 in
    ap (λ (k : ℕ). set (ms ++ replicate k 0) j m) left ∙
    set_at ms 0 rest m j e ∙
    sym (append_assoc ms (m ∷ []) rest)

-- ---- the choice so far

-- the terms chosen first, and then the others, if there are any
unfoldable pub prepend : List ℕ → Option (List ℕ) → Option (List ℕ)
prepend ms None = None
prepend ms (Some ns) = Some (ms ++ ns)

-- one more of them
prepend_more : (ms : List ℕ) (m : ℕ) (o : Option (List ℕ)) → prepend ms (and_then (Some m) o) ≡ prepend (ms ++ (m ∷ [])) o
unfolding prepend and_then
prepend_more ms m None = refl
prepend_more ms m (Some ns) = ap (λ (l : List ℕ). Some l) (sym (append_assoc ms (m ∷ []) ns))

-- what the library finds is the first that passes
found_first : (p : ℕ → Bool) (xs : List ℕ) → find p xs ≡ first_of p xs
unfolding first_of
found_first p [] = refl
found_first p (x ∷ xs) = ap (cond (p x) (Some x)) (found_first p xs)

module _ {a : Arrays} {forest : Rooting} {s t : ℕ} (w : Choosing a forest s t) where
  -- the arity of s
  abbrev arity : ℕ
  arity = get_or a.arities s 0

  -- the choice for the arguments from j on
  abbrev from : ℕ → Option (List ℕ)
  from j = first_shared w.ts w.ls w.table w.graph (drop j w.left) (drop j w.right)

  -- the choice for all arguments
  abbrev pub choice : Option (List ℕ)
  choice = first_shared w.ts w.ls w.table w.graph w.left w.right

  -- the terms chosen for the first j arguments stand in the row
  pub record Chosen (args : List ℕ) (j : ℕ) : Type 0 where
    pub within : j ≤ arity
    pub terms : List ℕ
    pub count : length terms ≡ j
    pub row : args ≡ padded terms
    pub rest : choice ≡ prepend terms (from j)

  -- at first nothing is chosen
  pub chosen_nothing : Chosen (0 ∷ 0 ∷ 0 ∷ 0 ∷ []) 0
  unfolding padded prepend
  chosen_nothing = record { within = omega arith; terms = []; count = refl; row = refl; rest = go choice }
    where
      go : (o : Option (List ℕ)) → o ≡ prepend [] o
      go None = refl
      go (Some ns) = refl

  -- all are chosen
  pub chosen_all : (args : List ℕ) (j : ℕ) → Chosen args j → arity ≤ j → Some args ≡ option_map padded choice
  unfolding first_shared prepend
  chosen_all args j h l =
      ap (λ (l : List ℕ). Some l) h.row ∙
      sym
      (ap (option_map padded)
      (h.rest ∙
      ap₂ (λ (xs ys : List ℕ). prepend h.terms (first_shared w.ts w.ls w.table w.graph xs ys))
      (drop_of_length-le w.left {i = j} (omega (arith, w.left_length)))
      (drop_of_length-le w.right {i = j} (omega (arith, w.right_length))) ∙
      ap (λ (l : List ℕ). Some l) (append-nil h.terms)))

  module _ (j : ℕ) (l : j < arity) where
    -- the two arguments at j
    abbrev u : ℕ
    u = get_or w.left j 0

    -- and of t
    abbrev v : ℕ
    v = get_or w.right j 0

    -- the code reads them off the rows
    pub left_field : get_or (get_or a.rows s []) j 0 ≡ u
    left_field = ap (λ (xs : List ℕ). get_or xs j 0) w.left_is ∙ padded_at w.left j

    -- and so of t
    pub right_field : get_or (get_or a.rows t []) j 0 ≡ v
    right_field = ap (λ (xs : List ℕ). get_or xs j 0) w.right_is ∙ padded_at w.right j

    -- they are terms of the table
    pub left_below : u < length w.table
    left_below = w.left_within u (get_d_mem w.left j 0 (omega (arith, w.left_length)))

    -- and so is the other
    pub right_below : v < length w.table
    right_below = w.right_within v (get_d_mem w.right j 0 (omega (arith, w.right_length)))

    -- which the graph joins
    are_joined : T (joined w.graph u v)
    are_joined = (joined_at w.graph w.left w.right w.join j (omega (arith, w.left_length))).1

    -- so the code can walk between them
    pub walks : Joining forest (get_or (get_or a.rows s []) j 0) (get_or (get_or a.rows t []) j 0) w.graph
    walks = record { forest = w.acyclic; rooted = w.rooted; join = subst (λ (x : ℕ). T (joined w.graph x (get_or (get_or a.rows t []) j 0))) (sym left_field) (subst (λ (y : ℕ). T (joined w.graph u y)) (sym right_field) are_joined) }

    -- what the walk asks for
    pub can_walk : (get_or (get_or a.rows s []) j 0 < 511) × (get_or (get_or a.rows t []) j 0 < 511) × ((G : Graph) × Joining forest (get_or (get_or a.rows s []) j 0) (get_or (get_or a.rows t []) j 0) G)
    can_walk = (omega (arith, left_field, left_below, w.within), omega (arith, right_field, right_below, w.within), (w.graph, walks))

    -- the first shared term on the way
    abbrev pub met : Option ℕ
    met = first_of (shared w.ts w.ls w.table) (vertices u (path w.graph u v))

    -- the choice from j on begins with it
    from_cons : from j ≡ and_then met (from (suc j))
    unfolding first_shared
    from_cons =
        ap₂ (λ (xs ys : List ℕ). first_shared w.ts w.ls w.table w.graph xs ys)
        (drop-cons w.left j 0 (omega (arith, w.left_length)))
        (drop-cons w.right j 0 (omega (arith, w.right_length)))

    -- a parent path has no shared term
    pub chosen_stuck : (args : List ℕ) → Chosen args j → met ≡ None → None ≡ option_map padded choice
    unfolding prepend and_then
    chosen_stuck args h e = sym (ap (option_map padded) (h.rest ∙ ap (prepend h.terms) (from_cons ∙ ap (λ (o : Option ℕ). and_then o (from (suc j))) e)))

    -- one argument more
    pub chosen_more : (args : List ℕ) (m : ℕ) → Chosen args j → met ≡ Some m → Chosen (set args j m) (j + 1)
    chosen_more args m h e =
        record {
          within = omega arith;
          terms = h.terms ++ (m ∷ []);
          count = length-append h.terms (m ∷ []) ∙ ap (λ (k : ℕ). k + 1) h.count;
          row = ap (λ (xs : List ℕ). set xs j m) h.row ∙ padded_more h.terms j m h.count (omega (arith, w.small));
          rest =
              h.rest ∙ ap (prepend h.terms) (from_cons ∙ ap (λ (o : Option ℕ). and_then o (from (suc j))) e) ∙
              prepend_more h.terms m (from (suc j)) ∙
              ap (λ (k : ℕ). prepend (h.terms ++ (m ∷ [])) (from k)) (sym (add-one j));
        }

    module _ (r : Trail) (trail : TrailOf w.graph (get_or (get_or a.rows s []) j 0) (get_or (get_or a.rows t []) j 0) r) where
      -- the stops are those of the path
      stops_are : take (r.hops + 1) r.stops ≡ vertices u (path w.graph u v)
      stops_are = trail.stops ∙ ap₂ (λ (x y : ℕ). vertices x (path w.graph x y)) left_field right_field

      -- they are terms of the table
      pub stops_below : All (λ m. m < 511) (take (r.hops + 1) r.stops)
      stops_below i d h =
          let front = take (r.hops + 1) r.stops in
          omega (arith, w.within, path_below (length w.table) w.graph u v w.ends left_below are_joined (get_or front i d) (subst (Memᴰ (get_or front i d)) stops_are (get_d_mem front i d h)))

      -- what the code meets is the first shared term
      pub met_is : find (λ x. eqb (get_or a.colours x 0) 3) (take (r.hops + 1) r.stops) ≡ met
      met_is =
          ap (find (λ x. eqb (get_or a.colours x 0) 3)) stops_are ∙
          found_first (λ x. eqb (get_or a.colours x 0) 3) (vertices u (path w.graph u v)) ∙
          first_of_agree (λ x. eqb (get_or a.colours x 0) 3) (shared w.ts w.ls w.table) (vertices u (path w.graph u v))
          (λ x m. ap (λ (k : ℕ). eqb k 3)
          (ap (λ (xs : List ℕ). get_or xs x 0) w.coloured ∙
          filled_at (colour_number w.ts w.ls w.table) 511 0 (length w.table) x 0 (path_below (length w.table) w.graph u v w.ends left_below are_joined x m) w.within) ∙
          shared_test w.ts w.ls w.table x)
