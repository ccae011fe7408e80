-- The records of a summary's clauses, from the pairs that its clauses conclude.
use denote.Ref.{Bor}
use mathlib.Core.Bool.{Bool, true, false, cond, not}
use mathlib.Core.List.Memᴰ
use mathlib.Core.List.{List, [], ◌∷◌, ◌++◌, map, flat_map, append-nil, Memᴰ}
use mathlib.Core.Logic.{◌⊎◌, inl, inr, ⊎_elim, ◌↔◌}
use mathlib.Core.Path.{◌≡◌, refl, sym, ap, ap₂, subst, ◌∙◌}
use Prim.Native.Nat.{ℕ, ◌*◌, ◌≤◌, ◌<◌}
use native.Mathlib.Omega.{arith}
use borrow.Author.Tests.{lt-ltb, le-ltb, lt-leb, le-leb}
use lib.Dec.{T, not_T}
use lib.ListN.{length, get_or, drop}
use Rattle.tables.specs.Words.{Pair, keep, pairs_below}
use Rattle.tables.specs.Terms.{Term}
use Rattle.tables.specs.declared.Literal.{Literal}
use Rattle.tables.specs.declared.Side.{Side}
use Rattle.tables.specs.declared.Side.TheVariants.{A, B}
use Rattle.tables.specs.Colours.{colourable}
use Rattle.tables.proofs.Words.{keep_mem, mem_keep, pairs_below_mem, passed, failed, passes, fails, keep_empty, keep_passes, keep_fails, keep_none, flat_map_append}
use Rattle.closure.specs.Graph.{Graph, Path, joined, path}
use Rattle.graphs.specs.declared.paths.Trail.{Trail}
use Rattle.graphs.specs.Trails.{Joining, TrailOf}
use Rattle.closure.specs.Walks.{Walk, hop}
use Rattle.closure.proofs.Walking.Walks.{path_walk, walk_joined, walk_hop}
use Rattle.closure.proofs.Walking.Parents.{path_hop}
use Rattle.closure.proofs.Walking.Invariant.{SoundGraph}
use Rattle.closure.proofs.Walking.OnePath.{path_is, one_path}
use Rattle.closure.proofs.Walking.ParentPaths.{sound_forest}
use Rattle.clauses.specs.Clauses.{between, Clause, equals, differs, falsum}
use Rattle.clauses.specs.Premises.{premises, path_clauses}
use Rattle.clauses.specs.Meaning.{Premise}
use Rattle.clauses.specs.Reading.{Stretches, stretches, end_of, not_middle, clauses_in, outer_premises, read_a, read_between}
use Rattle.clauses.specs.Records.{ascending, concluding, is_last, first_alone, clause_in_order, records_of, clause_records}
use Rattle.marking.specs.declared.drawing.Drawing.{Drawing}
use Rattle.marking.specs.Marks.{Reached, across, along, PairWithin, PairMarked, Within, RowsOf, Trailed, done, step}
use Rattle.summing.specs.declared.stretches.Cut.{Cut}
use Rattle.summing.specs.Cutting.{colours_at, FirstB, LastB, Middle, not_middle_of, Stretch, Outer}
use Rattle.summing.specs.Writing.{marked, Sheet, RecordsPut}
use Rattle.summing.specs.Written.{clause_of, clause_out, Readable, Concluding, OuterPremises, ReadingPut, Clear, Asking, AskingSome, AllPut}
use Rattle.clauses.proofs.Pieces.{equals_kind, middle_kind, end_of_none, end_of_hop, not_middle_none, not_middle_hop, stretches_none, first_none, first_some, records_standing, read_b, read_a_is}
use Rattle.clauses.proofs.Meaning.{path_enough}
use Rattle.clauses.proofs.Stretches.{Divided, stretches_divided, before_is, middle_is, after_is}
use Rattle.clauses.proofs.Interpolation.{last_clause, ReadingA, of_middle, of_outer_is, of_last, read_a_mem, mem_read_a}
use Rattle.clauses.proofs.Order.{concludes_eq, eq_concludes, ascending_agree}
use Rattle.clauses.proofs.OneClause.{OfPath, FromPaths, from_paths_premises, read_from_paths, listed_of_path, walk_enough, premise_within, premises_in_mean, outer_premises_mean}
use Rattle.marking.proofs.Owing.{PathRead, path_read, path_rows, joins}
use Rattle.summing.proofs.RecordsOut.{records_append, puts_fit}
use Rattle.clauses.proofs.Records.{clause_bytes, clause_records_eight}
use Rattle.marking.proofs.Trails.{trailed_forward}
use Rattle.summing.proofs.Stretching.{stretches_cut}
use Rattle.marking.proofs.Reached.{premise_joins, under_premise, premise_under, conclusions_reached}

-- ---- lists of lists

-- a function of a function over a list
flat_map_map {ℓ κ μ} : {X : Type ℓ} {Y : Type κ} {Z : Type μ} (f : Y → List Z) (g : X → Y) (xs : List X) → flat_map f (map g xs) ≡ flat_map (λ x. f (g x)) xs
unfolding flat_map
flat_map_map f g [] = refl
flat_map_map {Z = Z} f g (x ∷ xs) = ap (λ (l : List Z). f (g x) ++ l) (flat_map_map f g xs)

-- a function over a list of lists
flat_map_twice {ℓ κ μ} : {X : Type ℓ} {Y : Type κ} {Z : Type μ} (f : Y → List Z) (g : X → List Y) (xs : List X) → flat_map f (flat_map g xs) ≡ flat_map (λ x. flat_map f (g x)) xs
unfolding flat_map
flat_map_twice f g [] = refl
flat_map_twice {Z = Z} f g (x ∷ xs) = flat_map_append f (g x) (flat_map g xs) ∙ ap (λ (l : List Z). flat_map f (g x) ++ l) (flat_map_twice f g xs)

-- what a function gives on the members that pass a test
flat_map_keep {ℓ κ} : {X : Type ℓ} {Y : Type κ} (p : X → Bool) (f g : X → List Y) (xs : List X) → ((x : X) → Memᴰ x xs → ((p x ≡ true) × (g x ≡ f x)) ⊎ ((p x ≡ false) × (g x ≡ []))) → flat_map g xs ≡ flat_map f (keep p xs)
unfolding flat_map
flat_map_keep p f g [] h = ap (flat_map f) (sym (keep_empty p))
flat_map_keep {X = X} {Y = Y} p f g (x ∷ xs) h = go (h x (Memᴰ.head refl)) (flat_map_keep p f g xs (λ y m. h y (Memᴰ.tail m)))
  where
    go : ((p x ≡ true) × (g x ≡ f x)) ⊎ ((p x ≡ false) × (g x ≡ [])) → flat_map g xs ≡ flat_map f (keep p xs) → g x ++ flat_map g xs ≡ flat_map f (keep p (x ∷ xs))
    go (inl a) e = ap₂ (λ (l k : List Y). l ++ k) a.1 e ∙ ap (flat_map f) (sym (keep_passes p x xs a.0))
    go (inr a) e = ap₂ (λ (l k : List Y). l ++ k) a.1 e ∙ ap (flat_map f) (sym (keep_fails p x xs a.0))

-- ---- the records of clauses that come from paths

-- a list has a first member, or none
first_or_none {ℓ} : {A : Type ℓ} {C : Type 0} (xs : List A) → (xs ≡ [] → C) → ((x : A) (ys : List A) → xs ≡ x ∷ ys → C) → C
first_or_none [] f g = f refl
first_or_none (x ∷ xs) f g = g x xs refl

module _ (table : List Term) (G : Graph) (cs : List Clause) (from : FromPaths table G cs) (n : ℕ) (pairs : List Bool) (small : n ≤ 511) where
  -- the clause is in the list and concludes p
  abbrev Concludes : Pair → Type 0
  Concludes p = (c : Clause) × Memᴰ c cs × (c.conclusion ≡ equals p)

  -- the records of one conclusion
  records_of_is : (p : Pair) → (PairMarked pairs p ↔ Concludes p) → ((marked pairs p ≡ true) × (flat_map (λ c. records_of (clause_in_order n c)) (first_alone (keep (concluding p) cs)) ≡ clause_out n table G p)) ⊎ ((marked pairs p ≡ false) × (flat_map (λ c. records_of (clause_in_order n c)) (first_alone (keep (concluding p) cs)) ≡ []))
  unfolding flat_map clause_out clause_of
  records_of_is p m = first_or_none (keep (concluding p) cs) none some
    where
      g : Clause → List (List ℕ)
      g c = records_of (clause_in_order n c)

      none : keep (concluding p) cs ≡ [] → ((marked pairs p ≡ true) × (flat_map g (first_alone (keep (concluding p) cs)) ≡ clause_out n table G p)) ⊎ ((marked pairs p ≡ false) × (flat_map g (first_alone (keep (concluding p) cs)) ≡ []))
      none e = inr (failed (marked pairs p) (not_T (marked pairs p) (λ t. let r = m.0 t in Memᴰ.not-nil (subst (Memᴰ r.0) e (mem_keep (concluding p) r.1 (eq_concludes p r.0.conclusion r.2))))), ap (λ (l : List Clause). flat_map g (first_alone l)) e ∙ ap (flat_map g) first_none)

      some : (c : Clause) (ds : List Clause) → keep (concluding p) cs ≡ c ∷ ds → ((marked pairs p ≡ true) × (flat_map g (first_alone (keep (concluding p) cs)) ≡ clause_out n table G p)) ⊎ ((marked pairs p ≡ false) × (flat_map g (first_alone (keep (concluding p) cs)) ≡ []))
      some c ds e =
          let k = keep_mem (concluding p) cs (subst (Memᴰ c) (sym e) (Memᴰ.head refl)) in
          let q = concludes_eq p c.conclusion k.1 in
          let same = ascending_agree n c.premises (premises (length G) table (path G p.left p.right)) (λ x. let a = from_paths_premises from k.0 q x in let b = premises_in_mean [] [] table G p.left p.right x in (λ y. b.1 (a.0 y), λ y. a.1 (b.0 y))) in
          let clause : clause_in_order n c ≡ clause_of n table G p = λ i. record { premises = same i; conclusion = q i } in
          inl (passed (marked pairs p) (m.1 (c, k.0, q)), ap (λ (l : List Clause). flat_map g (first_alone l)) e ∙ ap (flat_map g) (first_some c ds) ∙ append-nil (g c) ∙ ap records_of clause)

  -- all records: those of the marked pairs, ascending, and those of a last clause
  pub records_are : ((p : Pair) → PairWithin n p → PairMarked pairs p ↔ Concludes p) → clause_records n cs ≡ flat_map (clause_out n table G) (keep (marked pairs) (pairs_below n)) ++ flat_map (λ c. records_of (clause_in_order n c)) (first_alone (keep (λ c. is_last c.conclusion) cs))
  records_are marks =
      let g : Clause → List (List ℕ) = λ c. records_of (clause_in_order n c) in
      let first : Pair → List Clause = λ p. first_alone (keep (concluding p) cs) in
      let last : List Clause = first_alone (keep (λ c. is_last c.conclusion) cs) in
      records_standing n cs ∙
      flat_map_map records_of (clause_in_order n) (flat_map first (pairs_below n) ++ last) ∙
      flat_map_append g (flat_map first (pairs_below n)) last ∙
      ap (λ (l : List (List ℕ)). l ++ flat_map g last) (flat_map_twice g first (pairs_below n) ∙ flat_map_keep (marked pairs) (clause_out n table G) (λ p. flat_map g (first p)) (pairs_below n) (λ p m. records_of_is p (marks p (pairs_below_mem n p m))))

-- ---- the conclusions of a disequality's clauses

module _ (ts : List Term) (ls : List Literal) (table : List Term) (G : Graph) (s : SoundGraph ts ls table G) (u v : ℕ) (j : T (joined G u v)) where
  -- in B: what the path reaches
  pub conclusions_b : (p : Pair) → ((c : Clause) × Memᴰ c (read_between ts ls table G B u v) × (c.conclusion ≡ equals p)) ↔ Reached table false p true (path G u v)
  conclusions_b p =
      subst (λ (cs : List Clause). ((c : Clause) × Memᴰ c cs × (c.conclusion ≡ equals p)) ↔ Reached table false p true (path G u v)) (sym (read_b ts ls table G u v))
      (conclusions_reached ts ls table p G s u v j refl (length G) (path_enough G u v))

  -- and no clause is a last one
  pub lasts_b : keep (λ c. is_last c.conclusion) (read_between ts ls table G B u v) ≡ []
  lasts_b =
      ap (keep (λ c. is_last c.conclusion)) (read_b ts ls table G u v) ∙
      keep_none (λ c. is_last c.conclusion) (clauses_in ts ls table G (path G u v)) (λ c m. let o = listed_of_path ts ls table c s (path_is G u v j) m in failed (is_last c.conclusion) (not_T (is_last c.conclusion) (equals_kind c.conclusion o.of o.concluded)))

  module _ (in_b : ℕ → Bool) (z : Stretches) (div : Divided in_b G u v (path G u v) z) where
    -- what the stretches reach: the middle one with its own factors, the outer ones without
    abbrev pub Concluded : Pair → Type 0
    Concluded p = Reached table false p true z.middle ⊎ (Reached table false p false z.before ⊎ Reached table false p false z.after)

    -- each stretch is the path between its ends, which are joined
    before_path : T (joined G u div.first) × (z.before ≡ path G u div.first)
    before_path = (walk_joined div.before_walk, one_path G (sound_forest ts ls table G s) (before_is div (path_is G u v j)))

    middle_path : T (joined G div.first div.last) × (z.middle ≡ path G div.first div.last)
    middle_path = (walk_joined div.middle_walk, one_path G (sound_forest ts ls table G s) (middle_is div (path_is G u v j)))

    after_path : T (joined G div.last v) × (z.after ≡ path G div.last v)
    after_path = (walk_joined div.after_walk, one_path G (sound_forest ts ls table G s) (after_is div (path_is G u v j)))

    -- so the ends of an outer premise are joined
    outer_joined : (q : Pair) → Premise table q z.before ⊎ Premise table q z.after → T (joined G q.left q.right)
    outer_joined q = ⊎_elim (premise_joins ts ls table q G s u div.first before_path.0 before_path.1) (premise_joins ts ls table q G s div.last v after_path.0 after_path.1)

    -- an outer premise, and what the path between its ends reaches
    outer_to : (p q : Pair) → Memᴰ q (outer_premises ts ls table G z) → (c : Clause) → Memᴰ c (path_clauses (length G) table (path G q.left q.right)) → c.conclusion ≡ equals p → Concluded p
    outer_to p q k c m e =
        let x = (outer_premises_mean ts ls table G u v z div q).0 k in
        let r = (conclusions_reached ts ls table p G s q.left q.right (outer_joined q x) refl (length G) (path_enough G q.left q.right)).0 (c, m, e) in
        inr (⊎_elim (λ y. inl (premise_under ts ls table p G s u div.first before_path.0 before_path.1 y r)) (λ y. inr (premise_under ts ls table p G s div.last v after_path.0 after_path.1 y r)) x)

    -- the clause that is read off an outer premise
    outer_from : (p q : Pair) → Memᴰ q (outer_premises ts ls table G z) → T (joined G q.left q.right) → Reached table false p true (path G q.left q.right) → (c : Clause) × Memᴰ c (read_a ts ls table G z) × (c.conclusion ≡ equals p)
    outer_from p q k h r =
        let y = (conclusions_reached ts ls table p G s q.left q.right h refl (length G) (path_enough G q.left q.right)).1 r in
        (y.0, mem_read_a ts ls table G z y.0 (of_outer_is k y.1), y.2)

    -- in A: what the stretches reach
    pub conclusions_a : (p : Pair) → ((c : Clause) × Memᴰ c (read_a ts ls table G z) × (c.conclusion ≡ equals p)) ↔ Concluded p
    conclusions_a p = (λ r. to r.0 r.2 (read_a_mem ts ls table G z r.0 r.1), from)
      where
        middles : ((c : Clause) × Memᴰ c (path_clauses (length G) table z.middle) × (c.conclusion ≡ equals p)) ↔ Reached table false p true z.middle
        middles = conclusions_reached ts ls table p G s div.first div.last middle_path.0 middle_path.1 (length G) (walk_enough div.middle_walk)

        to : (c : Clause) → c.conclusion ≡ equals p → ReadingA ts ls table G z c → Concluded p
        to c e (of_middle m) = inl (middles.0 (c, m, e))
        to c e (of_outer_is {p = q} k m) = outer_to p q k c m e
        to c e (of_last q) = absurd (equals_kind c.conclusion p e (subst (λ (x : Clause). T (is_last x.conclusion)) (sym q) (middle_kind z.middle)))

        from : Concluded p → (c : Clause) × Memᴰ c (read_a ts ls table G z) × (c.conclusion ≡ equals p)
        from (inl r) = let y = middles.1 r in (y.0, mem_read_a ts ls table G z y.0 (of_middle y.1), y.2)
        from (inr (inl r)) = let y = under_premise ts ls table p G s u div.first before_path.0 before_path.1 r in outer_from p y.0 ((outer_premises_mean ts ls table G u v z div y.0).1 (inl y.1)) y.2.0 y.2.1
        from (inr (inr r)) = let y = under_premise ts ls table p G s div.last v after_path.0 after_path.1 r in outer_from p y.0 ((outer_premises_mean ts ls table G u v z div y.0).1 (inr y.1)) y.2.0 y.2.1

    -- and the last clause stands alone
    pub lasts_a : first_alone (keep (λ c. is_last c.conclusion) (read_a ts ls table G z)) ≡ last_clause ts ls table G z ∷ []
    lasts_a = first_or_none (keep (λ c. is_last c.conclusion) (read_a ts ls table G z)) none some
      where
        none : keep (λ c. is_last c.conclusion) (read_a ts ls table G z) ≡ [] → first_alone (keep (λ c. is_last c.conclusion) (read_a ts ls table G z)) ≡ last_clause ts ls table G z ∷ []
        none e = absurd (Memᴰ.not-nil (subst (Memᴰ (last_clause ts ls table G z)) e (mem_keep (λ (c : Clause). is_last c.conclusion) (mem_read_a ts ls table G z (last_clause ts ls table G z) (of_last refl)) (middle_kind z.middle))))

        is : (c : Clause) → T (is_last c.conclusion) → ReadingA ts ls table G z c → c ≡ last_clause ts ls table G z
        is c t (of_middle m) = let o = listed_of_path ts ls table c s (middle_is div (path_is G u v j)) m in absurd (equals_kind c.conclusion o.of o.concluded t)
        is c t (of_outer_is {p = q} k m) =
            let h = outer_joined q ((outer_premises_mean ts ls table G u v z div q).0 k) in
            let o = listed_of_path ts ls table c s (path_is G q.left q.right h) m in
            absurd (equals_kind c.conclusion o.of o.concluded t)
        is c t (of_last e) = e

        some : (c : Clause) (ds : List Clause) → keep (λ c. is_last c.conclusion) (read_a ts ls table G z) ≡ c ∷ ds → first_alone (keep (λ c. is_last c.conclusion) (read_a ts ls table G z)) ≡ last_clause ts ls table G z ∷ []
        some c ds e =
            let k = keep_mem (λ (c : Clause). is_last c.conclusion) (read_a ts ls table G z) (subst (Memᴰ c) (sym e) (Memᴰ.head refl)) in
            ap first_alone e ∙ first_some c ds ∙ ap (λ (x : Clause). x ∷ []) (is c k.1 (read_a_mem ts ls table G z c k.0))

-- ---- the code's marks and records

-- an empty stretch reaches nothing without its own factors
nothing_reached : (table : List Term) (b : Bool) (p : Pair) {π : Path} → π ≡ [] → Reached table b p false π → ⊥
nothing_reached table b p e (across {h = h} m c o r) = Memᴰ.not-nil (subst (Memᴰ h) e m)
nothing_reached table b p e (along {h = h} x m c o r) = Memᴰ.not-nil (subst (Memᴰ h) e m)

-- a trail leads from its first stop to its last
trailed_end : (inb : List Bool) (r : Trail) (hi : ℕ) {lo : ℕ} {π : Path} → Trailed inb r hi lo π → end_of (get_or r.stops lo 0) π ≡ get_or r.stops hi 0
trailed_end inb r hi {lo} (done e) = end_of_none (get_or r.stops lo 0) ∙ ap (λ (n : ℕ). get_or r.stops n 0) e
trailed_end inb r hi {lo} (step {h = h} {π = π} a b c d t) = end_of_hop (get_or r.stops lo 0) h π ∙ ap (λ (n : ℕ). end_of n π) (sym b) ∙ trailed_end inb r hi t

-- "not [middle]" off the trail
not_middle_at : (inb : List Bool) (r : Bor Trail) (hi : ℕ) {lo : ℕ} {π : Path} → Trailed inb r.now hi lo π → not_middle π ≡ not_middle_of (record { path = r; lo = lo; hi = hi })
unfolding not_middle_of
not_middle_at inb r hi {lo} (done e) = not_middle_none ∙ sym (ap (λ (t : Bool). cond t (differs (between (get_or r.now.stops lo 0) (get_or r.now.stops hi 0))) falsum) (le-ltb lo hi (omega (arith, e))))
not_middle_at inb r hi {lo} (step {h = h} {π = π} a b c d t) =
    not_middle_hop h π ∙
    ap₂ (λ (x y : ℕ). differs (between x y)) (sym a) (ap (λ (n : ℕ). end_of n π) (sym b) ∙ trailed_end inb r.now hi t) ∙
    sym (ap (λ (t : Bool). cond t (differs (between (get_or r.now.stops lo 0) (get_or r.now.stops hi 0))) falsum) (lt-ltb lo hi (trailed_forward inb r.now hi t)))

module _ (arrays : Drawing) (n : ℕ) (colours : List ℕ) (s t : ℕ) (ts : List Term) (ls : List Literal) (table : List Term) (G : Graph) (x : Asking arrays n colours s t ts ls table G) (c : Cut) (read : PathRead arrays ts ls table G x.drawn s t c.path.now) where
  -- the clauses of a disequality of a side
  abbrev clauses_of : Side → List Clause
  clauses_of X = read_between ts ls table G X s t

  -- one of them concludes p
  abbrev Concludes_of : Side → Pair → Type 0
  Concludes_of X p = (k : Clause) × Memᴰ k (clauses_of X) × (k.conclusion ≡ equals p)

  -- clauses conclude equalities of joined terms
  concluded_joined : (X : Side) (p : Pair) → Concludes_of X p → T (joined G p.left p.right)
  concluded_joined X p r = let from = read_from_paths ts ls table G x.drawn.sound X s t x.join in go from (from.each r.0 r.1)
    where
      go : (from : FromPaths table G (clauses_of X)) → OfPath table G r.0 ⊎ (r.0 ≡ from.last) → T (joined G p.left p.right)
      go from (inl o) = let same : o.of ≡ p = cc (o.concluded, r.2) in subst (λ (q : Pair). T (joined G q.left q.right)) same o.connected
      go from (inr e) = absurd (equals_kind r.0.conclusion p r.2 (subst (λ (k : Clause). T (is_last k.conclusion)) (sym e) from.last_kind))

  -- ---- in B

  -- the path is its own middle stretch, and what is marked is what the clauses conclude
  marks_b : Middle colours B c → (pairs rows : List Bool) → Concluding arrays c pairs rows → (p : Pair) → PairWithin 511 p → PairMarked pairs p ↔ Concludes_of B p
  marks_b e pairs rows k p w =
      let none : (lo hi : ℕ) → lo ≡ hi → Stretch arrays.inb G c.path.now lo hi [] = λ lo hi q. record { over = λ h m. absurd (Memᴰ.not-nil m); trailed = done q } in
      let on : Trailed arrays.inb c.path.now c.hi c.lo (path G s t) = subst (λ (j : ℕ). Trailed arrays.inb c.path.now j c.lo (path G s t)) (sym e.1) (subst (λ (j : ℕ). Trailed arrays.inb c.path.now c.path.now.hops j (path G s t)) (sym e.0) read.trailed) in
      let m = k.marks ts ls table G x.drawn [] (path G s t) [] (record { first = none 0 c.lo (sym e.0); last = none c.hi c.path.now.hops e.1 }) (record { over = λ h m. path_hop G s t m; trailed = on }) p w in
      let r = conclusions_b ts ls table G x.drawn.sound s t x.join p in
      (λ y. r.1 (⊎_elim (λ z. z) (λ z. absurd (⊎_elim (nothing_reached table false p refl) (nothing_reached table false p refl) z)) (m.0 y)), λ y. m.1 (inl (r.0 y)))

  -- ---- in A

  module _ (first : FirstB colours c.path.now c.lo) (last : LastB colours c.path.now c.lo c.hi) where
    -- the stretches of the path between the sides
    abbrev parts : Stretches
    parts = stretches (colourable ts ls B table) s (path G s t)

    -- they divide it
    divided : Divided (colourable ts ls B table) G s t (path G s t) parts
    divided = stretches_divided (colourable ts ls B table) G t s (path G s t) (path_walk G s t x.join)

    -- a colour below 2 is not in B
    outside : (k : ℕ) → k ≤ c.path.now.hops → colours_at colours c.path.now k < 2 → T (not (colourable ts ls B table (get_or c.path.now.stops k 0)))
    outside k l h = fails (colourable ts ls B table (get_or c.path.now.stops k 0)) (x.coloured (get_or c.path.now.stops k 0) (read.in_table k l) ∙ lt-leb 2 (colours_at colours c.path.now k) h)

    -- one of 2 or more is
    inside : (k : ℕ) → k ≤ c.path.now.hops → 2 ≤ colours_at colours c.path.now k → T (colourable ts ls B table (get_or c.path.now.stops k 0))
    inside k l h = passes (colourable ts ls B table (get_or c.path.now.stops k 0)) (x.coloured (get_or c.path.now.stops k 0) (read.in_table k l) ∙ le-leb 2 (colours_at colours c.path.now k) h)

    -- a trail with a hop begins at its first side
    start_at : (π : Path) → Trailed arrays.inb c.path.now c.path.now.hops 0 π → Walk G s t π → (π ≡ []) ⊎ (s ≡ get_or c.path.now.stops 0 0)
    start_at π (done e) w = inl refl
    start_at π (step a b c d y) (hop k q w) = inr (q ∙ sym a)

    -- the stretches of a path where the code cuts it
    abbrev CutAt : Stretches → Type 0
    CutAt z = Trailed arrays.inb c.path.now c.lo 0 z.before × Trailed arrays.inb c.path.now c.hi c.lo z.middle × Trailed arrays.inb c.path.now c.path.now.hops c.hi z.after

    -- they are the code's
    parts_trailed : CutAt parts
    parts_trailed = go (path G s t) (start_at (path G s t) read.trailed (path_walk G s t x.join)) read.trailed
      where
        go : (π : Path) → (π ≡ []) ⊎ (s ≡ get_or c.path.now.stops 0 0) → Trailed arrays.inb c.path.now c.path.now.hops 0 π → CutAt (stretches (colourable ts ls B table) s π)
        go π (inr e) y =
            stretches_cut (colourable ts ls B table) arrays.inb c.path.now s c.lo c.hi e (omega arith) last.after last.within (λ k a l. outside k (omega (arith, l, first.within)) (first.outside k l)) (λ l. inside c.lo (omega (arith, l)) (first.found l)) (λ k l m. outside k m (last.outside k l m)) (λ l. inside c.hi last.within (last.found l)) y
        go π (inl e) y =
            let none : 0 ≡ c.path.now.hops = ends_now π e y in
            let at-lo : 0 ≡ c.lo = omega (arith, none, first.within) in
            let at-hi : c.lo ≡ c.hi = omega (arith, none, first.within, last.within, last.after) in
            let to_end : c.hi ≡ c.path.now.hops = omega (arith, none, last.within) in
            subst (λ (π : Path). CutAt (stretches (colourable ts ls B table) s π)) (sym e) (subst CutAt (sym (stretches_none (colourable ts ls B table) s)) (done at-lo, done at-hi, done to_end))
          where
            ends_now : (π : Path) → π ≡ [] → Trailed arrays.inb c.path.now c.path.now.hops 0 π → 0 ≡ c.path.now.hops
            ends_now π e (done q) = q
            ends_now π e (step {h = h} a b c d y) = absurd (Memᴰ.not-nil (subst (Memᴰ h) e (Memᴰ.head refl)))

    -- in the graph
    parts_outer : Outer arrays.inb G c parts.before parts.after
    parts_outer =
        record {
          first = record { over = λ h k. walk_hop divided.before_walk k; trailed = parts_trailed.0 };
          last = record { over = λ h k. walk_hop divided.after_walk k; trailed = parts_trailed.2 };
        }

    -- what is marked is what the clauses conclude
    marks_a : (pairs rows : List Bool) → Concluding arrays c pairs rows → (p : Pair) → PairWithin 511 p → PairMarked pairs p ↔ Concludes_of A p
    marks_a pairs rows k p w =
        let m = k.marks ts ls table G x.drawn parts.before parts.middle parts.after parts_outer (record { over = λ h j. walk_hop divided.middle_walk j; trailed = parts_trailed.1 }) p w in
        let r = conclusions_a ts ls table G x.drawn.sound s t x.join (colourable ts ls B table) parts divided p in
        subst (λ (cs : List Clause). PairMarked pairs p ↔ ((k : Clause) × Memᴰ k cs × (k.conclusion ≡ equals p))) (sym (read_a_is ts ls table G s t)) (λ y. r.1 (m.0 y), λ y. m.1 (r.0 y))

    -- the last clause, as the code writes it
    abbrev last_here : Clause
    last_here = record { premises = ascending n (outer_premises ts ls table G parts); conclusion = not_middle_of c }

    -- it stands alone behind the others
    last_is : flat_map (λ k. records_of (clause_in_order n k)) (first_alone (keep (λ k. is_last k.conclusion) (clauses_of A))) ≡ records_of last_here
    unfolding flat_map
    last_is =
        let same : clause_in_order n (last_clause ts ls table G parts) ≡ last_here = λ i. record { premises = ascending n (outer_premises ts ls table G parts); conclusion = not_middle_at arrays.inb c.path c.hi parts_trailed.1 i } in
        ap (flat_map (λ k. records_of (clause_in_order n k))) (ap (λ (cs : List Clause). first_alone (keep (λ k. is_last k.conclusion) cs)) (read_a_is ts ls table G s t) ∙ lasts_a ts ls table G x.drawn.sound s t x.join (colourable ts ls B table) parts divided) ∙
        append-nil (records_of (clause_in_order n (last_clause ts ls table G parts))) ∙ ap records_of same

    -- the premises of the last clause are those of the outer stretches
    last_premises : OuterPremises arrays c (outer_premises ts ls table G parts)
    last_premises =
        record { ts = ts; ls = ls; table = table; G = G; drawn = x.drawn; before = parts.before; after = parts.after; outer = parts_outer; mean = λ p. outer_premises_mean ts ls table G s t parts divided p }

    -- and of terms below n
    last_low : (p : Pair) → Memᴰ p (outer_premises ts ls table G parts) → p.right < n
    last_low p m =
        let within = ⊎_elim (premise_within ts ls table p x.drawn.sound (before_is divided (path_is G s t x.join))) (premise_within ts ls table p x.drawn.sound (after_is divided (path_is G s t x.join))) ((outer_premises_mean ts ls table G s t parts divided p).0 m) in
        omega (arith, within.1, x.terms)

  -- ---- of either side

  -- what is marked is what the clauses conclude
  marks_are : (X : Side) → Middle colours X c → (pairs rows : List Bool) → Concluding arrays c pairs rows → (p : Pair) → PairWithin 511 p → PairMarked pairs p ↔ Concludes_of X p
  marks_are A m = marks_a m.0 m.1
  marks_are B m = marks_b m

  module _ (X : Side) (m : Middle colours X c) (pairs rows : List Bool) (k : Concluding arrays c pairs rows) where
    -- so the marked pairs are joined
    pub marked_readable : Readable arrays n (PairMarked pairs) ts ls table G
    marked_readable =
        record { drawn = x.drawn; terms = x.terms; connected = λ p w q. concluded_joined X p ((marks_are X m pairs rows k p (w.0, omega (arith, w.1, x.terms, x.drawn.small))).0 q) }

  -- the records of what is concluded, one behind the other
  abbrev concluded_records : List Bool → List (List ℕ)
  concluded_records pairs = flat_map (clause_out n table G) (keep (marked pairs) (pairs_below n))

  -- all records are those of the marked pairs, and of a last clause
  written_are : (X : Side) → Middle colours X c → (pairs rows : List Bool) → Concluding arrays c pairs rows → clause_records n (clauses_of X) ≡ concluded_records pairs ++ flat_map (λ k. records_of (clause_in_order n k)) (first_alone (keep (λ k. is_last k.conclusion) (clauses_of X)))
  written_are X m pairs rows k =
      records_are table G (clauses_of X) (read_from_paths ts ls table G x.drawn.sound X s t x.join) n pairs (omega (arith, x.terms, x.drawn.small)) (λ p w. marks_are X m pairs rows k p (w.0, omega (arith, w.1, x.terms, x.drawn.small)))

  -- a reading puts the records of the side's clauses
  pub reading_records : (X : Side) → Middle colours X c → (pairs rows : List Bool) → Concluding arrays c pairs rows → (found found' : List Bool) (b b' : Sheet) → ReadingPut arrays n X c pairs found b found' b' → RecordsPut (clause_records n (clauses_of X)) b b'
  unfolding flat_map
  reading_records A m pairs rows k found found' b b' p =
      subst (λ (rs : List (List ℕ)). RecordsPut rs b b')
      (sym (written_are A m pairs rows k ∙ ap (λ (rs : List (List ℕ)). concluded_records pairs ++ rs) (last_is m.0 m.1)))
      (records_append (concluded_records pairs) (records_of (last_here m.0 m.1)) b p.1 b' (p.2.written ts ls table G (marked_readable A m pairs rows k)) (p.3.written _ (last_premises m.0 m.1)))
  reading_records B m pairs rows k found found' b b' p =
      subst (λ (rs : List (List ℕ)). RecordsPut rs b b')
      (sym (written_are B m pairs rows k ∙ ap (λ (l : List Clause). concluded_records pairs ++ flat_map (λ k. records_of (clause_in_order n k)) (first_alone l)) (lasts_b ts ls table G x.drawn.sound s t x.join) ∙ ap (λ (l : List Clause). concluded_records pairs ++ flat_map (λ k. records_of (clause_in_order n k)) l) first_none ∙ append-nil (concluded_records pairs)))
      (p.written ts ls table G (marked_readable B m pairs rows k))

  -- and no premise is left marked
  pub reading_clear : (X : Side) → Middle colours X c → (pairs found found' : List Bool) (b b' : Sheet) → ReadingPut arrays n X c pairs found b found' b' → Clear found'
  reading_clear A m pairs found found' b b' p = p.3.clear _ (last_premises m.0 m.1) (last_low m.0 m.1)
  reading_clear B m pairs found found' b b' p = p.clear

-- ---- what the writer asks

module _ (arrays : Drawing) (n : ℕ) (colours : List ℕ) (s t : ℕ) where
  -- the path between the sides
  pub sides_asked : n ≤ 511 → AskingSome arrays n colours s t → (s < 511) × (t < 511) × ((G : Graph) × Joining arrays.forest s t G)
  sides_asked small a =
      let x = a.4 in
      (omega (arith, x.left_within), omega (arith, x.right_within), (a.3, joins arrays a.0 a.1 a.2 a.3 x.drawn x.join))

  module _ (r : Trail) (given : (G : Graph) → Joining arrays.forest s t G → TrailOf G s t r) where
    -- the trail between the sides
    pub sides_read : (ts : List Term) (ls : List Literal) (table : List Term) (G : Graph) (x : Asking arrays n colours s t ts ls table G) → PathRead arrays ts ls table G x.drawn s t r
    sides_read ts ls table G x =
        path_read arrays ts ls table G x.drawn s t (omega (arith, x.left_within, x.terms)) x.join r (given G (joins arrays ts ls table G x.drawn x.join))

    -- it is within its arrays
    pub sides_within : AskingSome arrays n colours s t → Within r 0 r.hops
    sides_within a = (sides_read a.0 a.1 a.2 a.3 a.4).within

    -- and a square with n rows has those of its stops
    pub sides_rows : (size : ℕ) → 511 * n ≤ size → AskingSome arrays n colours s t → RowsOf size r r.hops
    sides_rows size h a = path_rows arrays a.0 a.1 a.2 a.3 a.4.drawn size (omega (arith, a.4.terms)) (sides_read a.0 a.1 a.2 a.3 a.4)

-- ---- what comes back, and the bytes

-- records that have room are written, and the bytes behind them stay
pub records_written : (n : ℕ) (cs : List Clause) (out : List ℕ) (r : ℕ) (out' : List ℕ) → 8 * length (clause_records n cs) ≤ length out → AllPut (clause_records n cs) out r out' → out' ≡ clause_bytes n cs ++ drop (8 * length (clause_records n cs)) out
records_written n cs out r out' h x = x.bytes h ∙ puts_fit (clause_records n cs) out (clause_records_eight n cs) h
