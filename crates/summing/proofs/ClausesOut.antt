-- What is marked after stretches are read, and the clauses written from the marks.
use denote.Ref.{Bor}
use mathlib.Core.Bool.{Bool, true, false, cond}
use mathlib.Core.List.Memᴰ
use mathlib.Core.List.{List, [], ◌∷◌, ◌++◌, flat_map, append-nil, Memᴰ}
use mathlib.Core.Logic.{◌⊎◌, inl, inr, ⊎_elim, ◌↔◌}
use mathlib.Core.Path.{◌≡◌, refl, sym, ap, subst, ◌∙◌}
use Prim.Native.Nat.{ℕ, zero, suc, ◌+◌, ◌*◌, min, max, ◌≤◌, ◌<◌}
use native.Mathlib.Omega.{arith}
use borrow.Author.Tests.{lt-ltb, le-ltb}
use lib.ListN.{length, get_or, replicate}
use Rattle.tables.specs.Words.{Pair, pair, keep, pairs_below}
use Rattle.tables.specs.Terms.{Term}
use Rattle.tables.specs.declared.Literal.{Literal}
use Rattle.tables.proofs.Words.{passes, same_test, pairs_below_mem, keep_empty, keep_agree, flat_map_append}
use Rattle.graphs.specs.declared.paths.Trail.{Trail}
use Rattle.closure.specs.Graph.{Graph, Hop, Path, path}
use Rattle.closure.proofs.Walking.Walks.{older_fewer}
use Rattle.closure.proofs.Walking.OnePath.{path_is}
use Rattle.closure.proofs.Walking.Parents.{path_hop}
use Rattle.clauses.specs.Clauses.{between, differs, falsum}
use Rattle.clauses.specs.Premises.{premises}
use Rattle.clauses.specs.Meaning.{Premise, own, parent}
use Rattle.clauses.specs.Records.{among_pairs, ascending, clause_record, conclusion_record}
use Rattle.marking.specs.declared.drawing.Drawing.{Drawing}
use Rattle.marking.specs.declared.marks.Marks.{Marks}
use Rattle.marking.specs.Marks.{no_marks, Reached, PairWithin, PairMarked, Marked, Covered, Owed, Trailed, done, Wanted, OuterWanted}
use Rattle.marking.specs.Drawn.{Drawn, Settled}
use Rattle.summing.specs.declared.stretches.Cut.{Cut}
use Rattle.summing.specs.Cutting.{not_middle_of, Stretch}
use Rattle.summing.specs.Writing.{marked, row_pairs, Sheet, RecordsPut, premise_records, AllOut}
use Rattle.summing.specs.Written.{clause_of, clause_out, Clear, Readable, ReadableSome, ClausesPut, Concluding, OuterPremises, PremisesPut, LastPut}
use Rattle.marking.proofs.Reached.{reached_premise, premise_reached, wants_owed, owed_kept, reached_owed}
use Rattle.clauses.proofs.Pieces.{no_factor, records_clause, record_equals, record_differs, record_falsum, ascending_kept, among_mem}
use Rattle.clauses.proofs.OneClause.{premise_within, premises_in_mean}
use Rattle.clauses.proofs.Records.{record_length, conclusion_record_kind}
use Rattle.marking.proofs.Squares.{between_ends}
use Rattle.summing.proofs.RecordsOut.{records_none, records_append, records_length, premises_length, row_empty, row_with, row_without, rows_before, rows_first, rows_with, rows_without, rows_whole}

-- ---- marks

-- nothing is marked at first
pub none_marked : (n k : ℕ) → Marked (replicate n false) k → ⊥
none_marked zero zero m = m
none_marked zero (suc k) m = m
none_marked (suc n) zero m = m
none_marked (suc n) (suc k) m = none_marked n k m

-- so no pair is, and no row has to be
pub none_covered : (pairs : List Bool) → Clear pairs → (rows : List Bool) → Covered pairs rows
none_covered pairs c rows p w m = absurd (c p w m)

module _ (arrays : Drawing) (ts : List Term) (ls : List Literal) (table : List Term) (G : Graph) (d : Drawn arrays ts ls table G) (b : Bool) where
  -- what is owed after a stretch of the graph is read: what was, and what the stretch reaches
  pub owed_wanted : (mode : Bool) {π : Path} {path : Trail} {lo hi : ℕ} {pairs pairs' : List Bool} {marks marks' : Marks} → Stretch arrays.inb G path lo hi π → Wanted arrays.inb path lo hi b mode pairs marks pairs' marks' → (p : Pair) → PairWithin 511 p → Owed table G b pairs' marks' arrays.count p ↔ (Owed table G b pairs marks arrays.count p ⊎ Reached table b p mode π)
  owed_wanted mode {π} {pairs = pairs} {pairs' = pairs'} {marks = marks} {marks' = marks'} t w p v =
      let wants = w.wants π t.trailed in
      let low : (h : Hop) → Memᴰ h π → length h.older < arrays.count = λ h m. omega (arith, older_fewer (t.over h m), d.counted) in
      (λ y. wants_owed ts ls table G d.sound b p mode π t.over pairs marks pairs' marks' arrays.count v wants y, λ y. ⊎_elim (λ z. owed_kept ts ls table G d.sound b p mode π t.over pairs marks pairs' marks' arrays.count v wants z) (λ z. reached_owed ts ls table G d.sound b p mode π t.over pairs marks pairs' marks' arrays.count v wants low z) y)

  -- at first nothing is owed
  pub none_owed : (pairs : List Bool) → Clear pairs → (marks : Marks) → marks ≡ no_marks → (p : Pair) → PairWithin 511 p → Owed table G b pairs marks arrays.count p → ⊥
  none_owed pairs c marks e p w o = none (subst (λ (m : Marks). Owed table G b pairs m arrays.count p) e o)
    where
      none : Owed table G b pairs no_marks arrays.count p → ⊥
      none (inl m) = c p w m
      none (inr (k, l, inl (m, x))) = none_marked 510 k m
      none (inr (k, l, inr (m, x))) = none_marked 510 k m

-- ---- records

-- the member of a list of one
mem_one : {A : Type 0} {x y : A} → Memᴰ x (y ∷ []) → x ≡ y
mem_one (Memᴰ.head e) = e
mem_one (Memᴰ.tail m) = absurd (Memᴰ.not-nil m)

-- the marked pairs in order are the ascending list of what is marked
pub marked_ascending : (n : ℕ) (found : List Bool) (ps : List Pair) → n ≤ 511 → ((p : Pair) → PairWithin 511 p → PairMarked found p ↔ Memᴰ p ps) → keep (marked found) (pairs_below n) ≡ ascending n ps
marked_ascending n found ps small f =
    keep_agree (marked found) (among_pairs ps) (pairs_below n)
    (λ p m. let w = pairs_below_mem n p m in let g = f p (w.0, omega (arith, w.1)) in let a = among_mem ps p in same_test (marked found p) (among_pairs ps p) (λ x. a.1 (g.0 x)) (λ x. g.1 (a.0 x))) ∙
    sym (ascending_kept n ps)

-- ---- the premises of two stretches

module _ (arrays : Drawing) (c : Cut) where
  module _ (n : ℕ) (small : n ≤ 511) (found f₂ f₃ : List Bool) (m m₂ m₃ : Marks) (clear : Clear found) (none : m ≡ no_marks) (o : OuterWanted arrays.inb c.path.now c.lo c.hi true found m f₂ m₂) (s : Settled arrays true f₂ m₂ f₃ m₃) where
    -- the premises of the outer stretches are what is marked
    outer_marked : (qs : List Pair) → OuterPremises arrays c qs → (p : Pair) → PairWithin 511 p → PairMarked f₃ p ↔ Memᴰ p qs
    outer_marked qs q p v =
        let x = owed_wanted arrays q.ts q.ls q.table q.G q.drawn true true q.outer.first o.before p v in
        let y = owed_wanted arrays q.ts q.ls q.table q.G q.drawn true true q.outer.last o.after p v in
        let k = s.marked q.ts q.ls q.table q.G q.drawn p v in
        (λ j. (q.mean p).1 (⊎_elim (λ z. ⊎_elim (λ a. absurd (none_owed arrays q.ts q.ls q.table q.G q.drawn true found clear m none p v a)) (λ a. inl (reached_premise q.table p a)) (x.0 z)) (λ z. inr (reached_premise q.table p z)) (y.0 (k.0 j))), λ j. k.1 (y.1 (⊎_elim (λ z. inl (x.1 (inr (premise_reached q.table p z)))) (λ z. inr (premise_reached q.table p z)) ((q.mean p).0 j))))

    -- they are written
    pub outer_put : (f₄ : List Bool) (b b' : Sheet) → AllOut n f₃ b f₄ b' → PremisesPut arrays n c found b f₄ b'
    outer_put f₄ b b' a =
        record {
          few = a.few;
          same = premises_length (keep (marked f₃) (pairs_below n)) b b' a.premises;
          sized = a.sized ∙ s.same ∙ o.after.same ∙ o.before.same;
          written = λ qs q. subst (λ (ps : List Pair). RecordsPut (premise_records ps) b b') (marked_ascending n f₃ qs small (outer_marked qs q)) a.premises;
          clear = λ qs q low p k m. let y = (a.left_over p k).0 m in omega (arith, y.1, low p ((outer_marked qs q p k).0 y.0));
        }

-- ---- one clause

-- a path all of which stands before its middle stretch
abbrev pub at_end : Bor Trail → Cut
at_end r = record { path = r; lo = r.now.hops; hi = r.now.hops }

-- an empty path has no premise
empty_premise : (table : List Term) (p : Pair) → Premise table p [] → ⊥
empty_premise table p (own m e q) = no_factor m
empty_premise table p (parent m e k n r) = no_factor m

module _ (arrays : Drawing) (n u v : ℕ) (less : u < v) (within : v < n) where
  -- this pair
  abbrev Here : Pair → Type 0
  Here p = p ≡ pair u v

  -- it can be read
  abbrev ReadableHere : List Term → List Literal → List Term → Graph → Type 0
  ReadableHere ts ls table G = Readable arrays n Here ts ls table G

  module _ (r : Bor Trail) (trail : (ts : List Term) (ls : List Literal) (table : List Term) (G : Graph) → ReadableHere ts ls table G → Trailed arrays.inb r.now r.now.hops 0 (path G u v)) (found found' : List Bool) (b b' : Sheet) (y : PremisesPut arrays n (at_end r) found b found' b') where
    -- the path between u and v: all of it stands before its end
    path_outer : (ts : List Term) (ls : List Literal) (table : List Term) (G : Graph) → ReadableHere ts ls table G → OuterPremises arrays (at_end r) (premises (length G) table (path G u v))
    path_outer ts ls table G x =
        let m = premises_in_mean ts ls table G u v in
        record {
          ts = ts;
          ls = ls;
          table = table;
          G = G;
          drawn = x.drawn;
          before = path G u v;
          after = [];
          outer = record { first = record { over = λ h k. path_hop G u v k; trailed = trail ts ls table G x }; last = record { over = λ h k. absurd (Memᴰ.not-nil k); trailed = done refl } };
          mean = λ p. (λ k. inl ((m p).0 k), λ k. ⊎_elim (λ q. (m p).1 q) (λ q. absurd (empty_premise table p q)) k);
        }

    -- its premises are of terms below n
    path_low : (ts : List Term) (ls : List Literal) (table : List Term) (G : Graph) → ReadableHere ts ls table G → (p : Pair) → Memᴰ p (premises (length G) table (path G u v)) → p.right < n
    path_low ts ls table G x p m =
        let q = premise_within ts ls table p x.drawn.sound (path_is G u v (x.connected (pair u v) (less, within) refl)) ((premises_in_mean ts ls table G u v p).0 m) in
        omega (arith, q.1, x.terms)

    -- they are written, and then the pair
    pub clause_put : ReadableSome arrays n Here → (b'' : Sheet) → RecordsPut (clause_record 2 (pair u v) ∷ []) b' b'' → ClausesPut arrays n Here (pair u v ∷ []) 1 found b found' b''
    unfolding clause_out clause_of flat_map
    clause_put some b'' z =
        record {
          few = omega (arith, y.few, z.count);
          same = records_length (clause_record 2 (pair u v) ∷ []) eight b' b'' z ∙ y.same;
          sized = y.sized;
          clear = y.clear _ (path_outer some.0 some.1 some.2 some.3 some.4) (path_low some.0 some.1 some.2 some.3 some.4);
          written = λ ts ls table G x. let ps = ascending n (premises (length G) table (path G u v)) in subst (λ (rs : List (List ℕ)). RecordsPut rs b b'') (sym (append-nil (clause_out n table G (pair u v)) ∙ records_clause (clause_of n table G (pair u v)) ∙ ap (λ (x : List ℕ). premise_records ps ++ (x ∷ [])) (record_equals (pair u v)))) (records_append (premise_records ps) (clause_record 2 (pair u v) ∷ []) b b' b'' (y.written _ (path_outer ts ls table G x)) z);
        }
      where
        eight : (r : List ℕ) → Memᴰ r (clause_record 2 (pair u v) ∷ []) → length r ≡ 8
        eight r m = ap length (mem_one m) ∙ record_length 2 (pair u v)

-- ---- clauses one behind the other

module _ (arrays : Drawing) (n : ℕ) where
  -- the clauses of these pairs are written
  abbrev Put : (Pair → Type 0) → List Pair → ℕ → List Bool → Sheet → List Bool → Sheet → Type 0
  Put C ps most found b found' b' = ClausesPut arrays n C ps most found b found' b'

  -- none yet
  pub clauses_none : (C : Pair → Type 0) (most : ℕ) (found : List Bool) (b : Sheet) → Clear found → Put C [] most found b found b
  unfolding flat_map
  clauses_none C most found b c = record { few = omega arith; same = refl; sized = refl; clear = c; written = λ ts ls table G x. records_none b }

  -- the same pairs, with room for more
  pub clauses_as : (C : Pair → Type 0) (ps qs : List Pair) (most most' : ℕ) (found : List Bool) (b : Sheet) (found' : List Bool) (b' : Sheet) → qs ≡ ps → most ≤ most' → Put C ps most found b found' b' → Put C qs most' found b found' b'
  clauses_as C ps qs most most' found b found' b' e h x =
      record {
        few = omega (arith, x.few);
        same = x.same;
        sized = x.sized;
        clear = x.clear;
        written = λ ts ls table G y. subst (λ (l : List Pair). RecordsPut (flat_map (clause_out n table G) l) b b') (sym e) (x.written ts ls table G y);
      }

  -- some and then others, whose conclusions are among those that are concluded
  pub clauses_append : (C D : Pair → Type 0) (ps qs : List Pair) (most more : ℕ) (found₀ : List Bool) (b : Sheet) (found : List Bool) (b' : Sheet) (found' : List Bool) (b'' : Sheet) → ((p : Pair) → D p → C p) → Put C ps most found₀ b found b' → Put D qs more found b' found' b'' → Put C (ps ++ qs) (most + more) found₀ b found' b''
  clauses_append C D ps qs most more found₀ b found b' found' b'' f x y =
      record {
        few = omega (arith, x.few, y.few);
        same = y.same ∙ x.same;
        sized = y.sized ∙ x.sized;
        clear = y.clear;
        written = λ ts ls table G z. subst (λ (rs : List (List ℕ)). RecordsPut rs b b'') (sym (flat_map_append (clause_out n table G) ps qs)) (records_append (flat_map (clause_out n table G) ps) (flat_map (clause_out n table G) qs) b b' b'' (x.written ts ls table G z) (y.written ts ls table G (record { drawn = z.drawn; terms = z.terms; connected = λ p w m. z.connected p w (f p m) })));
      }

  -- ---- one row

  module _ (pairs : List Bool) (u : ℕ) (found₀ : List Bool) (b₀ : Sheet) where
    -- the clauses of the row up to column v
    pub record RowClauses (v : ℕ) (found : List Bool) (b : Sheet) : Type 0 where
      pub begun : u < v
      pub within : v ≤ n
      pub put : Put (PairMarked pairs) (keep (marked pairs) (row_pairs v u)) v found₀ b₀ found b

    -- no column yet
    pub row_clauses_none : u < n → Clear found₀ → RowClauses (u + 1) found₀ b₀
    row_clauses_none h c =
        record { begun = omega arith; within = omega arith; put = clauses_as (PairMarked pairs) [] (keep (marked pairs) (row_pairs (u + 1) u)) 0 (u + 1) found₀ b₀ found₀ b₀ (ap (keep (marked pairs)) (row_empty u) ∙ keep_empty (marked pairs)) (omega arith) (clauses_none (PairMarked pairs) 0 found₀ b₀ c) }

    module _ (v : ℕ) (found : List Bool) (b : Sheet) (h : v < n) (x : RowClauses v found b) where
      -- a column without a mark
      pub row_clauses_skip : marked pairs (pair u v) ≡ false → RowClauses (v + 1) found b
      row_clauses_skip e =
          record { begun = omega (arith, x.begun); within = omega arith; put = clauses_as (PairMarked pairs) (keep (marked pairs) (row_pairs v u)) (keep (marked pairs) (row_pairs (v + 1) u)) v (v + 1) found₀ b₀ found b (row_without pairs u v x.begun e) (omega arith) x.put }

      -- a column with one: its clause is written
      pub row_clauses_take : (found' : List Bool) (b' : Sheet) → marked pairs (pair u v) ≡ true → Put (λ p. p ≡ pair u v) (pair u v ∷ []) 1 found b found' b' → RowClauses (v + 1) found' b'
      row_clauses_take found' b' e y =
          record { begun = omega (arith, x.begun); within = omega arith; put = clauses_as (PairMarked pairs) (keep (marked pairs) (row_pairs v u) ++ (pair u v ∷ [])) (keep (marked pairs) (row_pairs (v + 1) u)) (v + 1) (v + 1) found₀ b₀ found' b' (row_with pairs u v x.begun e) (omega arith) (clauses_append (PairMarked pairs) (λ p. p ≡ pair u v) (keep (marked pairs) (row_pairs v u)) (pair u v ∷ []) v 1 found₀ b₀ found b found' b' (λ p q. subst (PairMarked pairs) (sym q) (passes (marked pairs (pair u v)) e)) x.put y) }

  -- ---- all rows

  module _ (pairs : List Bool) (found₀ : List Bool) (b₀ : Sheet) where
    -- the clauses of the rows before u
    pub record RowsClauses (u : ℕ) (found : List Bool) (b : Sheet) : Type 0 where
      pub within : u ≤ n
      pub put : Put (PairMarked pairs) (rows_before n pairs u) (511 * u) found₀ b₀ found b

    -- no row yet
    pub rows_clauses_none : Clear found₀ → RowsClauses 0 found₀ b₀
    rows_clauses_none c =
        record { within = omega arith; put = clauses_as (PairMarked pairs) [] (rows_before n pairs 0) 0 (511 * 0) found₀ b₀ found₀ b₀ (rows_first n pairs) (omega arith) (clauses_none (PairMarked pairs) 0 found₀ b₀ c) }

    module _ (u : ℕ) (found : List Bool) (b : Sheet) (small : n ≤ 511) (h : u < n) (x : RowsClauses u found b) where
      -- a row with marks
      pub rows_clauses_take : (found' : List Bool) (b' : Sheet) → Put (PairMarked pairs) (keep (marked pairs) (row_pairs n u)) 511 found b found' b' → RowsClauses (u + 1) found' b'
      rows_clauses_take found' b' y =
          record { within = omega arith; put = clauses_as (PairMarked pairs) (rows_before n pairs u ++ keep (marked pairs) (row_pairs n u)) (rows_before n pairs (u + 1)) (511 * u + 511) (511 * (u + 1)) found₀ b₀ found' b' (rows_with n pairs u) (omega arith) (clauses_append (PairMarked pairs) (PairMarked pairs) (rows_before n pairs u) (keep (marked pairs) (row_pairs n u)) (511 * u) 511 found₀ b₀ found b found' b' (λ p m. m) x.put y) }

      -- a row without marks is passed over
      pub rows_clauses_skip : (rows : List Bool) → Covered pairs rows → get_or rows u false ≡ false → RowsClauses (u + 1) found b
      rows_clauses_skip rows cover e =
          record { within = omega arith; put = clauses_as (PairMarked pairs) (rows_before n pairs u) (rows_before n pairs (u + 1)) (511 * u) (511 * (u + 1)) found₀ b₀ found b (rows_without n pairs u small rows cover e) (omega arith) x.put }

    -- all rows
    pub rows_clauses_all : (u : ℕ) (found : List Bool) (b : Sheet) → n ≤ 511 → n ≤ u → RowsClauses u found b → Put (PairMarked pairs) (keep (marked pairs) (pairs_below n)) 261121 found₀ b₀ found b
    rows_clauses_all u found b small h x =
        clauses_as (PairMarked pairs) (rows_before n pairs u) (keep (marked pairs) (pairs_below n)) (511 * u) 261121 found₀ b₀ found b (rows_whole n pairs u (omega (arith, x.within))) (omega (arith, x.within)) x.put

-- ---- the stretches of a disequality

-- the record of "not [middle]": its ends, the lower one left
pub last_different : (c : Cut) → c.lo < c.hi → conclusion_record (not_middle_of c) ≡ clause_record 3 (pair (min (get_or c.path.now.stops c.lo 0) (get_or c.path.now.stops c.hi 0)) (max (get_or c.path.now.stops c.lo 0) (get_or c.path.now.stops c.hi 0)))
unfolding not_middle_of
last_different c h =
    let a = get_or c.path.now.stops c.lo 0 in
    let b = get_or c.path.now.stops c.hi 0 in
    let ends : between a b ≡ pair (min a b) (max a b) = let e = between_ends a b in λ i. record { left = e.0 i; right = e.1 i } in
    ap (λ (t : Bool). conclusion_record (cond t (differs (between a b)) falsum)) (lt-ltb c.lo c.hi h) ∙ record_differs (between a b) ∙ ap (clause_record 3) ends

-- and where the middle stretch is empty
pub last_empty : (c : Cut) → c.hi ≤ c.lo → conclusion_record (not_middle_of c) ≡ clause_record 4 (pair 0 0)
unfolding not_middle_of
last_empty c h = ap (λ (t : Bool). conclusion_record (cond t (differs (between (get_or c.path.now.stops c.lo 0) (get_or c.path.now.stops c.hi 0))) falsum)) (le-ltb c.lo c.hi h) ∙ record_falsum

module _ (arrays : Drawing) (c : Cut) where
  -- the marks of three stretches, settled
  pub concluded : (pairs p₁ p₃ p₄ : List Bool) (m m₁ m₃ m₄ : Marks) → Clear pairs → m ≡ no_marks → Wanted arrays.inb c.path.now c.lo c.hi false true pairs m p₁ m₁ → OuterWanted arrays.inb c.path.now c.lo c.hi false p₁ m₁ p₃ m₃ → Settled arrays false p₃ m₃ p₄ m₄ → Concluding arrays c p₄ m₄.rows
  concluded pairs p₁ p₃ p₄ m m₁ m₃ m₄ clear none w o s =
      record {
        cover = s.cover (o.after.cover (o.before.cover (w.cover (none_covered pairs clear m.rows))));
        marks = λ ts ls table G d before middle after outer inner p v. let a = owed_wanted arrays ts ls table G d false true inner w p v in let b = owed_wanted arrays ts ls table G d false false outer.first o.before p v in let e = owed_wanted arrays ts ls table G d false false outer.last o.after p v in let k = s.marked ts ls table G d p v in (λ x. ⊎_elim (λ y. ⊎_elim (λ z. ⊎_elim (λ q. absurd (none_owed arrays ts ls table G d false pairs clear m none p v q)) inl (a.0 z)) (λ z. inr (inl z)) (b.0 y)) (λ y. inr (inr y)) (e.0 (k.0 x)), λ x. k.1 (e.1 (⊎_elim (λ y. inl (b.1 (inl (a.1 (inr y))))) (λ y. ⊎_elim (λ z. inl (b.1 (inr z))) (λ z. inr z) y) x)));
      }

  -- the last clause: the premises of its outer stretches, and then its conclusion
  pub last_put : (n : ℕ) (found found' : List Bool) (b b' b'' : Sheet) → PremisesPut arrays n c found b found' b' → RecordsPut (conclusion_record (not_middle_of c) ∷ []) b' b'' → LastPut arrays n c found b found' b''
  last_put n found found' b b' b'' y z =
      record {
        same = records_length (conclusion_record (not_middle_of c) ∷ []) eight b' b'' z ∙ y.same;
        sized = y.sized;
        written = λ qs q. subst (λ (rs : List (List ℕ)). RecordsPut rs b b'') (sym (records_clause (record { premises = ascending n qs; conclusion = not_middle_of c }))) (records_append (premise_records (ascending n qs)) (conclusion_record (not_middle_of c) ∷ []) b b' b'' (y.written qs q) z);
        clear = y.clear;
      }
    where
      eight : (r : List ℕ) → Memᴰ r (conclusion_record (not_middle_of c) ∷ []) → length r ≡ 8
      eight r m = let q = conclusion_record_kind (not_middle_of c) in ap length (mem_one m ∙ q.is) ∙ record_length q.kind q.of
