-- Which equalities a path's clauses conclude and which are its premises, as marks: what is reached along its hops and through their parent paths.
use mathlib.Core.Bool.{Bool, true, false, not}
use mathlib.Core.List.{List, [], ◌∷◌, Memᴰ}
use mathlib.Core.Logic.{◌⊎◌, inl, inr, ⊎_elim, ◌↔◌}
use mathlib.Core.Path.{◌≡◌, refl, sym, ap, subst, ◌∙◌}
use Prim.Native.Nat.{ℕ, zero, suc, ◌≤◌, ◌<◌}
use native.Mathlib.Nat.{le_refl}
use native.Mathlib.Omega.{arith}
use lib.Dec.{T}
use lib.ListN.{length}
use Rattle.tables.specs.Words.{Pair}
use Rattle.tables.specs.Terms.{Term}
use Rattle.tables.specs.declared.Literal.{Literal}
use Rattle.tables.specs.declared.Side.{Side}
use Rattle.tables.specs.declared.Side.TheVariants.{A, B}
use Rattle.closure.specs.declared.Edge.{Edge}
use Rattle.closure.specs.Graph.{Graph, Hop, Path, joined, path, parent_paths}
use Rattle.closure.specs.Walks.{HopOf, onward, backward, earlier}
use Rattle.closure.proofs.Walking.Joined.{joined_sym}
use Rattle.closure.proofs.Walking.Walks.{older_fewer, older_joined, path_walk, walk_joined}
use Rattle.closure.proofs.Walking.Invariant.{Forest, SoundGraph}
use Rattle.closure.proofs.Walking.OnePath.{turned, backwards, mem_backwards, path_back, path_older, path_is, one_path, Newest, newest_two}
use Rattle.closure.proofs.Walking.Parents.{hop_sound, path_hop, parent_hop}
use Rattle.closure.proofs.Walking.ParentPaths.{sound_forest, parent_path, parent_back}
use Rattle.clauses.specs.Clauses.{Clause, equals}
use Rattle.clauses.specs.Factors.{Factor, factors}
use Rattle.clauses.specs.Premises.{ends_of, path_clauses}
use Rattle.clauses.specs.Meaning.{Premise, own, parent, PathClause, inside, whole, under}
use Rattle.marking.specs.declared.marks.Marks.{Marks}
use Rattle.marking.specs.Marks.{is_b, Reached, end_of, across, along, EdgeReached, EndOf, EdgeOf, PairWithin, Wants, Owed}
use Rattle.clauses.proofs.Factors.{factors_stretch, factor_hop, hop_factor}
use Rattle.clauses.proofs.Members.{factor_clause, whole_at, at_clause}
use Rattle.clauses.proofs.Meaning.{Enough, clause_meaning, clause_listed}
use Rattle.clauses.proofs.Truths.{between_sides, sides_between, older_sound}
use Rattle.clauses.proofs.Order.{between_swap}
use Rattle.clauses.proofs.Backwards.{turned_factor_is}
use Rattle.clauses.proofs.OneClause.{factor_is, premise_connected}

-- ---- colours

-- the flag of B
pub is_b_true : (X : Side) → is_b X ≡ true → X ≡ B
is_b_true B e = refl
is_b_true A e = let z : ◌≡◌ {A = ℕ} 0 1 = cc in absurd (omega arith)

-- the flag of A
pub is_b_false : (X : Side) → is_b X ≡ false → X ≡ A
is_b_false A e = refl
is_b_false B e = let z : ◌≡◌ {A = ℕ} 0 1 = cc in absurd (omega arith)

-- true is not false
apart : {C : Type 0} → true ≡ false → C
apart e = let z : ◌≡◌ {A = ℕ} 0 1 = cc in absurd (omega arith)

-- ---- premises

module _ (table : List Term) (p : Pair) where
  -- a premise is what reading the B-factors reaches
  pub premise_reached : {π : Path} → Premise table p π → Reached table true p true π
  premise_reached (own k e q) = end_of k (ap is_b e) q
  premise_reached (parent {π = π} {h = h} k e n o x) = across (factor_hop π k n) (ap is_b ((factors_stretch π k).one_colour h n ∙ e)) o (premise_reached x)

  -- and nothing else is reached
  pub reached_premise : {π : Path} → Reached table true p true π → Premise table p π
  reached_premise (end_of {f = f} k e q) = own k (is_b_true f.colour e) q
  reached_premise (across {π = π} {h = h} m e o r) =
      let s = hop_factor π m in
      parent s.1 (sym ((factors_stretch π s.1).one_colour h s.2) ∙ is_b_false h.colour e) s.2 o (reached_premise r)
  reached_premise (along b m e o r) = apart b

-- ---- a path from its other end

module _ (ts : List Term) (ls : List Literal) (table : List Term) (inb : Bool) (p : Pair) where
  -- what hops of a sound graph reach, they reach backwards
  pub reached_backwards : (G : Graph) → SoundGraph ts ls table G → {m : Bool} {π : Path} → ((h : Hop) → Memᴰ h π → HopOf h G) → Reached table inb p m π → Reached table inb p m (backwards π)
  reached_backwards G s over (end_of {π = π} {f = f} k e q) = end_of (turned_factor_is π k) e (q ∙ between_swap f.from f.to)
  reached_backwards G s over (across {h = h} m e o r) =
      let of = over h m in
      across (mem_backwards m) e (parent_back ts ls table (hop_sound ts ls table of s) o) (reached_backwards h.older (older_sound ts ls table s of) (λ g k. parent_hop table h o k) r)
  reached_backwards G s over (along {h = h} b m e o r) =
      let of = over h m in
      along b (mem_backwards m) e (parent_back ts ls table (hop_sound ts ls table of s) o) (reached_backwards h.older (older_sound ts ls table s of) (λ g k. parent_hop table h o k) r)

  -- so the path from the other end reaches the same
  pub reached_turn : (G : Graph) → SoundGraph ts ls table G → {m : Bool} (u v : ℕ) → T (joined G u v) → Reached table inb p m (path G u v) → Reached table inb p m (path G v u)
  reached_turn G s {m} u v j r = subst (Reached table inb p m) (sym (path_back G u v j)) (reached_backwards G s (λ h k. path_hop G u v k) r)

-- ---- factors of paths

-- a factor of a path is the path between its ends, which are joined
pub factor_path : (G : Graph) → Forest G → (u v : ℕ) → T (joined G u v) → {f : Factor} → Memᴰ f (factors (path G u v)) → T (joined G f.from f.to) × (f.hops ≡ path G f.from f.to)
factor_path G fo u v j m =
    let p = factor_is (path_is G u v j) m in
    (walk_joined p.walk, one_path G fo p)

-- ---- path clauses

module _ (ts : List Term) (ls : List Literal) (table : List Term) (p : Pair) where
  -- a path reaches p with its factors counted
  abbrev Concludes : Path → Type 0
  Concludes π = Reached table false p true π

  -- the path between x and y, which are joined, does
  abbrev ConcludesBetween : Graph → ℕ → ℕ → Type 0
  ConcludesBetween G x y = T (joined G x y) × Concludes (path G x y)

  -- from its other end
  concludes_turn : (G : Graph) → SoundGraph ts ls table G → (x y : ℕ) → ConcludesBetween G x y → ConcludesBetween G y x
  concludes_turn G s x y r = (joined_sym G x y r.0, reached_turn ts ls table false p G s x y r.0 r.1)

  -- over older edges it is the same path
  concludes_older : {h : Hop} {G : Graph} → HopOf h G → (x y : ℕ) → ConcludesBetween h.older x y → ConcludesBetween G x y
  concludes_older of x y r = (older_joined x y of r.0, subst Concludes (path_older x y of r.0) r.1)

  -- what a path reaches without its own factors, a path clause of one of its premises concludes
  pub under_premise : (G : Graph) → SoundGraph ts ls table G → {π : Path} (u v : ℕ) → T (joined G u v) → π ≡ path G u v → Reached table false p false π → (q : Pair) × Premise table q π × ConcludesBetween G q.left q.right
  under_premise G s {π} u v j e (across {h = h} m c o r) =
      let t = hop_factor π m in
      let f = t.0 in
      let k = factor_path G (sound_forest ts ls table G s) u v j (subst (λ (ρ : Path). Memᴰ f (factors ρ)) e t.1) in
      let here : ConcludesBetween G f.from f.to = (k.0, subst Concludes k.1 (across t.2 c o r)) in
      (ends_of f, own t.1 (sym ((factors_stretch π t.1).one_colour h t.2) ∙ is_b_true h.colour c) refl, between_sides (ConcludesBetween G) f.from f.to here (concludes_turn G s f.from f.to here))
  under_premise G s {π} u v j e (along {h = h} b m c o r) =
      let of = path_hop G u v (subst (λ (ρ : Path). Memᴰ h ρ) e m) in
      let a = parent_path ts ls table (hop_sound ts ls table of s) o in
      let i = under_premise h.older (older_sound ts ls table s of) a.0 a.1 a.2 a.3 r in
      let t = hop_factor π m in
      (i.0, parent t.1 (sym ((factors_stretch π t.1).one_colour h t.2) ∙ is_b_false h.colour c) t.2 o i.1, concludes_older of i.0.left i.0.right i.2)

  -- the ends of a premise are joined
  pub premise_joins : (G : Graph) → SoundGraph ts ls table G → {π : Path} (u v : ℕ) → T (joined G u v) → π ≡ path G u v → {q : Pair} → Premise table q π → T (joined G q.left q.right)
  premise_joins G s u v j e {q} x = premise_connected ts ls table q s (path_walk G u v j) (subst (Premise table q) e x)

  -- hops of colour B that reach p lend it to a path that they are on
  b_hops : {ρ π : Path} → Concludes ρ → ((h : Hop) → Memᴰ h ρ → h.colour ≡ B) → ((h : Hop) → Memᴰ h ρ → Memᴰ h π) → Reached table false p false π
  b_hops {ρ} (end_of {f = f} k e q) blue on =
      let t = factors_stretch ρ k in
      let m = subst (λ (τ : Path). Memᴰ t.first τ) (sym t.hops_are) (Memᴰ.head refl) in
      apart (sym (ap is_b (sym (t.one_colour t.first m) ∙ blue t.first (factor_hop ρ k m))) ∙ e)
  b_hops (across {h = h} m c o r) blue on = across (on h m) c o r
  b_hops (along {h = h} b m c o r) blue on = apart (sym (ap is_b (blue h m)) ∙ c)

  -- what a path clause of one of its premises concludes, a path reaches without its own factors
  pub premise_under : {q : Pair} (G : Graph) → SoundGraph ts ls table G → {π : Path} (u v : ℕ) → T (joined G u v) → π ≡ path G u v → Premise table q π → Concludes (path G q.left q.right) → Reached table false p false π
  premise_under {q} G s {π} u v j e (own {f = f} k c t) r =
      let i = factor_path G (sound_forest ts ls table G s) u v j (subst (λ (ρ : Path). Memᴰ f (factors ρ)) e k) in
      let here = subst (λ (x : Pair). ConcludesBetween G x.left x.right) t (premise_joins G s u v j e (own k c t), r) in
      let hops = subst Concludes (sym i.1) (sides_between (ConcludesBetween G) (concludes_turn G s) f.from f.to here).1 in
      b_hops hops (λ h m. (factors_stretch π k).one_colour h m ∙ c) (λ h m. factor_hop π k m)
  premise_under {q} G s {π} u v j e (parent {h = h} k c n o x) r =
      let m = factor_hop π k n in
      let of = path_hop G u v (subst (λ (ρ : Path). Memᴰ h ρ) e m) in
      let a = parent_path ts ls table (hop_sound ts ls table of s) o in
      let y = premise_joins h.older (older_sound ts ls table s of) a.0 a.1 a.2 a.3 x in
      along refl m (ap is_b ((factors_stretch π k).one_colour h n ∙ c)) o (premise_under h.older (older_sound ts ls table s of) a.0 a.1 a.2 a.3 x (subst Concludes (sym (path_older q.left q.right of y)) r))

  -- a path clause concludes p
  abbrev pub SomeClause : Path → Type 0
  SomeClause π = (c : Clause) × PathClause table c π × (c.conclusion ≡ equals p)

  -- paths over fewer edges have a clause for whatever they reach
  abbrev Known : ℕ → Type 0
  Known d = (H : Graph) → length H ≤ d → SoundGraph ts ls table H → (ρ : Path) (x y : ℕ) → T (joined H x y) → ρ ≡ path H x y → Concludes ρ → SomeClause ρ

  -- one step: the hop leads to older edges
  clause_step : (G : Graph) → SoundGraph ts ls table G → {π : Path} (u v : ℕ) → T (joined G u v) → π ≡ path G u v → ((h : Hop) → Memᴰ h π → Known (length h.older)) → Concludes π → SomeClause π
  clause_step G s {π} u v j e known (end_of {f = f} k c q) =
      let c' = factor_clause table (length G) f in
      let enough : Enough (suc (length G)) π = λ h m. let n = older_fewer (path_hop G u v (subst (λ (ρ : Path). Memᴰ h ρ) e m)) in omega arith in
      (c', clause_meaning table (suc (length G)) c' π enough (at_clause table (length G) c' π (whole_at k (is_b_false f.colour c) refl)), ap equals (sym q))
  clause_step G s {π} u v j e known (across {π' = ρ} {h = h} m c o r) =
      let of = path_hop G u v (subst (λ (ρ : Path). Memᴰ h ρ) e m) in
      let a = parent_path ts ls table (hop_sound ts ls table of s) o in
      let i = known h m h.older (le_refl (length h.older)) (older_sound ts ls table s of) ρ a.0 a.1 a.2 a.3 r in
      let t = hop_factor π m in
      (i.0, inside t.1 (sym ((factors_stretch π t.1).one_colour h t.2) ∙ is_b_true h.colour c) t.2 o i.1, i.2)
  clause_step G s {π} u v j e known (along {h = h} b m c o r) =
      let of = path_hop G u v (subst (λ (ρ : Path). Memᴰ h ρ) e m) in
      let s' = older_sound ts ls table s of in
      let a = parent_path ts ls table (hop_sound ts ls table of s) o in
      let x = under_premise h.older s' a.0 a.1 a.2 a.3 r in
      let i = known h m h.older (le_refl (length h.older)) s' (path h.older x.0.left x.0.right) x.0.left x.0.right x.2.0 refl x.2.1 in
      let t = hop_factor π m in
      (i.0, under t.1 (sym ((factors_stretch π t.1).one_colour h t.2) ∙ is_b_false h.colour c) t.2 o x.1 i.1, i.2)

  -- what a path reaches, one of its path clauses concludes
  pub reached_clause : (d : ℕ) → Known d
  reached_clause zero G fits s π u v j e r =
      clause_step G s u v j e (λ h m. absurd (omega (arith, older_fewer (path_hop G u v (subst (λ (ρ : Path). Memᴰ h ρ) e m))))) r
  reached_clause (suc d) G fits s π u v j e r =
      clause_step G s u v j e (λ h m H le. reached_clause d H (omega (arith, older_fewer (path_hop G u v (subst (λ (ρ : Path). Memᴰ h ρ) e m))))) r

  -- and what a path clause concludes is reached
  pub clause_reached : {c : Clause} (G : Graph) → SoundGraph ts ls table G → {π : Path} (u v : ℕ) → T (joined G u v) → π ≡ path G u v → PathClause table c π → c.conclusion ≡ equals p → Concludes π
  clause_reached G s {π} u v j e (inside {h = h} k c n o x) q =
      let m = factor_hop π k n in
      let of = path_hop G u v (subst (λ (ρ : Path). Memᴰ h ρ) e m) in
      let a = parent_path ts ls table (hop_sound ts ls table of s) o in
      across m (ap is_b ((factors_stretch π k).one_colour h n ∙ c)) o (clause_reached h.older (older_sound ts ls table s of) a.0 a.1 a.2 a.3 x q)
  clause_reached G s u v j e (whole k c l y) q = end_of k (ap is_b c) (cc)
  clause_reached G s {π} u v j e (under {h = h} {p = z} k c n o y x) q =
      let m = factor_hop π k n in
      let of = path_hop G u v (subst (λ (ρ : Path). Memᴰ h ρ) e m) in
      let s' = older_sound ts ls table s of in
      let a = parent_path ts ls table (hop_sound ts ls table of s) o in
      let joins = premise_joins h.older s' a.0 a.1 a.2 a.3 y in
      along refl m (ap is_b ((factors_stretch π k).one_colour h n ∙ c)) o (premise_under h.older s' a.0 a.1 a.2 a.3 y (clause_reached h.older s' z.left z.right joins refl x q))

  -- the conclusions of the list of path clauses are what is reached
  pub conclusions_reached : (G : Graph) → SoundGraph ts ls table G → {π : Path} (u v : ℕ) → T (joined G u v) → π ≡ path G u v → (d : ℕ) → Enough d π → ((c : Clause) × Memᴰ c (path_clauses d table π) × (c.conclusion ≡ equals p)) ↔ Concludes π
  conclusions_reached G s {π} u v j e d enough =
      (λ r. clause_reached G s u v j e (clause_meaning table d r.0 π enough r.1) r.2, λ r. let x = reached_clause (length G) G (le_refl (length G)) s π u v j e r in let y = clause_listed table d x.0 enough x.1 in (y.0, y.1, y.2 ∙ x.2))

-- ---- edges by their numbers

-- a hop walks the newest edge or an older one
hop_newest : {h : Hop} {e : Edge} {G : Graph} → HopOf h (e ∷ G) → Newest h e G ⊎ HopOf h G
hop_newest (onward q) = inl (inl q)
hop_newest (backward q) = inl (inr q)
hop_newest (earlier k) = inr k

-- the newest edge has the mode graph below it
newest_older : {h : Hop} {e : Edge} {G : Graph} → Newest h e G → length h.older ≡ length G
newest_older (inl q) = ap (λ (x : Hop). length x.older) q
newest_older (inr q) = ap (λ (x : Hop). length x.older) q

-- hops with as many older edges walk one edge, the same way or the other
pub same_edge : {h g : Hop} (G : Graph) → HopOf h G → HopOf g G → length h.older ≡ length g.older → (h ≡ g) ⊎ (h ≡ turned g)
same_edge [] k m n = absurd (omega (arith, older_fewer k))
same_edge {h} {g} (e ∷ G) k m n = go (hop_newest k) (hop_newest m) (λ a b. same_edge G a b n)
  where
    go : Newest h e G ⊎ HopOf h G → Newest g e G ⊎ HopOf g G → (HopOf h G → HopOf g G → (h ≡ g) ⊎ (h ≡ turned g)) → (h ≡ g) ⊎ (h ≡ turned g)
    go (inl a) (inl b) ih = newest_two a b
    go (inl a) (inr b) ih = absurd (omega (arith, newest_older a, older_fewer b))
    go (inr a) (inl b) ih = absurd (omega (arith, newest_older b, older_fewer a))
    go (inr a) (inr b) ih = ih a b

module _ (ts : List Term) (ls : List Literal) (table : List Term) (G : Graph) (s : SoundGraph ts ls table G) (inb : Bool) (p : Pair) where
  -- what the parent paths of an edge reach, those of each hop that walks it do
  pub edge_parents : (mode : Bool) (h : Hop) → HopOf h G → EdgeReached table G inb p mode (length h.older) → (π : Path) × Memᴰ π (parent_paths table h) × Reached table inb p mode π
  edge_parents mode h of r = go (same_edge G of r.1 (sym r.2))
    where
      g : Hop
      g = r.0

      go : (h ≡ g) ⊎ (h ≡ turned g) → (π : Path) × Memᴰ π (parent_paths table h) × Reached table inb p mode π
      go (inl e) = (r.3.0, subst (λ (x : Hop). Memᴰ r.3.0 (parent_paths table x)) (sym e) r.3.1, r.3.2)
      go (inr e) =
          (backwards r.3.0, subst (λ (x : Hop). Memᴰ (backwards r.3.0) (parent_paths table x)) (sym e) (parent_back ts ls table (hop_sound ts ls table r.1 s) r.3.1), reached_backwards ts ls table inb p g.older (older_sound ts ls table s r.1) (λ x k. parent_hop table g r.3.1 k) r.3.2)

  module _ (mode : Bool) (π : Path) (over : (h : Hop) → Memᴰ h π → HopOf h G) where
    -- an edge of the other colour on the path lends it what its parent paths reach
    across_edge : (k : ℕ) → EdgeOf (not inb) π k → EdgeReached table G inb p true k → Reached table inb p mode π
    across_edge k e r =
        let t = edge_parents true e.0 (over e.0 e.1) (subst (EdgeReached table G inb p true) (sym e.3) r) in
        across e.1 e.2 t.1 t.2

    -- and one of colour A, where clauses are read, what they reach without their own factors
    along_edge : (k : ℕ) → inb ≡ false → EdgeOf inb π k → EdgeReached table G inb p false k → Reached table inb p mode π
    along_edge k b e r =
        let t = edge_parents false e.0 (over e.0 e.1) (subst (EdgeReached table G inb p false) (sym e.3) r) in
        along b e.1 e.2 t.1 t.2

    module _ (pairs : List Bool) (marks : Marks) (pairs' : List Bool) (marks' : Marks) (n : ℕ) (within : PairWithin 511 p) where
      -- what is owed after the path is read was owed, or the path reaches it
      pub wants_owed : Wants inb mode π pairs marks pairs' marks' → Owed table G inb pairs' marks' n p → Owed table G inb pairs marks n p ⊎ Reached table inb p mode π
      wants_owed w (inl m) = ⊎_elim (λ x. inl (inl x)) (λ x. inr (subst (λ (b : Bool). Reached table inb p b π) (sym x.0) (end_of x.1.1 x.1.2 x.1.3))) ((w.ends p within).0 m)
      wants_owed w (inr (k, less, inl (m, r))) = ⊎_elim (λ x. inl (inr (k, less, inl (x, r)))) (λ x. inr (across_edge k x r)) ((w.crossed k).0 m)
      wants_owed w (inr (k, less, inr (m, r))) = ⊎_elim (λ x. inl (inr (k, less, inr (x, r)))) (λ x. inr (along_edge k x.0 x.1 r)) ((w.followed k).0 m)

      -- what was owed still is
      pub owed_kept : Wants inb mode π pairs marks pairs' marks' → Owed table G inb pairs marks n p → Owed table G inb pairs' marks' n p
      owed_kept w (inl m) = inl ((w.ends p within).1 (inl m))
      owed_kept w (inr (k, less, inl (m, r))) = inr (k, less, inl ((w.crossed k).1 (inl m), r))
      owed_kept w (inr (k, less, inr (m, r))) = inr (k, less, inr ((w.followed k).1 (inl m), r))

      -- and what the path reaches, over edges below n, is owed
      pub reached_owed : Wants inb mode π pairs marks pairs' marks' → ((h : Hop) → Memᴰ h π → length h.older < n) → Reached table inb p mode π → Owed table G inb pairs' marks' n p
      reached_owed w low r = go mode π refl refl r
        where
          go : (b : Bool) (ρ : Path) → b ≡ mode → ρ ≡ π → Reached table inb p b ρ → Owed table G inb pairs' marks' n p
          go b ρ eb e (end_of k c q) = inl ((w.ends p within).1 (inr (sym eb, subst (λ (τ : Path). EndOf inb τ p) e (_, k, c, q))))
          go b ρ eb e (across {h = h} m' c o r) =
              let m = subst (λ (τ : Path). Memᴰ h τ) e m' in
              inr (length h.older, low h m, inl ((w.crossed (length h.older)).1 (inr (h, m, c, refl)), (h, over h m, refl, (_, o, r))))
          go b ρ eb e (along {h = h} x m' c o r) =
              let m = subst (λ (τ : Path). Memᴰ h τ) e m' in
              inr (length h.older, low h m, inr ((w.followed (length h.older)).1 (inr (x, (h, m, c, refl))), (h, over h m, refl, (_, o, r))))
