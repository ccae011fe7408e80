-- A middle step keeps what holds of every state: the middle term is shared, its arguments are vertices, and both ends are congruent to it.
use Rattle.std.proofs.Common.{Option, Some, None}
use mathlib.Core.Bool.{◌&&◌}
use mathlib.Core.List.{List, [], ◌∷◌, ◌++◌, append_assoc, append-nil, Memᴰ}
use mathlib.Core.Logic.{◌⊎◌, inl, inr, ⊎_elim}
use mathlib.Core.Path.{◌≡◌, refl, sym, ap, subst, ◌∙◌}
use Prim.Native.Nat.{ℕ, suc, ◌≤◌, ◌<◌}
use native.Mathlib.Omega.{arith}
use lib.Dec.{T, eqb, eqb→eq}
use lib.ListN.{length, length-append}
use lib.Seq.{get_or-append_seam}
use Rattle.tables.specs.Words.{same}
use Rattle.tables.specs.Terms.{Term, no_term, term_at}
use Rattle.tables.specs.Parts.{LowerArguments}
use Rattle.tables.specs.declared.Literal.{Literal}
use Rattle.tables.specs.declared.Side.{Side}
use Rattle.tables.specs.declared.Side.TheVariants.{A, B}
use Rattle.tables.specs.Colours.{occurs_in, colourable, shared}
use Rattle.tables.proofs.Words.{and_left, and_right, same_eq, first_below_some, below_or_is}
use Rattle.tables.proofs.Colours.{SidesWithin, colourable_own, colourable_built}
use Rattle.closure.specs.Graph.{derived, Graph, joined_pairwise}
use Rattle.closure.specs.Steps.{State, table_of, vertex, congruent, middle_term, equal_terms, vertex_equal, Placed, place_as, placed, tied, tied_both, with_middle, Chosen}
use Rattle.closure.proofs.Running.Congruent.{congruent_symbol, congruent_arguments, congruent_made, congruent_sym, congruent_trans}
use Rattle.closure.proofs.Walking.ParentPaths.{each_map}
use Rattle.closure.proofs.Running.Larger.{shared_side, sides_shared, ends_edge, Extends, extends_term, extends_colourable, extends_shared, extends_congruent, extends_sound}
use Rattle.closure.proofs.Running.Vertices.{vertex_cases, used_vertex, added_vertex, vertex_within, vertex_stays, EndsAmong, chosen_shared, chosen_among, chosen_joined}
use Rattle.closure.proofs.Running.States.{SoundState, Known, Ties, ties_sound, ties_edge, tied_either, in_use_vertex}

-- ---- the middle term

-- what the middle term n of s and t is, in a table and a graph
pub record Between (ts : List Term) (ls : List Literal) (table : List Term) (G : Graph) (s t n : ℕ) : Type 0 where
  pub here : n < length table
  pub to_left : T (congruent table G s n)
  pub to_right : T (congruent table G t n)
  pub parts_shared : (a : ℕ) → Memᴰ a (term_at table n).arguments → T (shared ts ls table a)

module _ (ts : List Term) (ls : List Literal) where
  -- a number at which the middle term stands, in the table or in a larger one
  pub between_made : (table larger : List Term) → Extends table larger → LowerArguments table → (G : Graph) (s t n : ℕ) (chosen : List ℕ) → s < length table → t < length table → n < length larger → T (congruent table G s t) → Chosen ts ls table G (term_at table s).arguments (term_at table t).arguments chosen → ((a : ℕ) → Memᴰ a chosen → a < length table) → term_at larger n ≡ middle_term table s chosen → Between ts ls larger G s t n
  between_made table larger ext low G s t n chosen hs ht hn c ch inside e =
      let left : T (congruent larger G s n) = congruent_made larger G s n (ap (λ (x : Term). x.symbol) (extends_term table larger ext s hs) ∙ sym (ap (λ (x : Term). x.symbol) e)) (subst (λ (x : Term). T (joined_pairwise G x.arguments (term_at larger n).arguments)) (sym (extends_term table larger ext s hs)) (subst (λ (x : Term). T (joined_pairwise G (term_at table s).arguments x.arguments)) (sym e) (chosen_joined ts ls table G ch (congruent_arguments table G s t c)))) in
      record {
        here = hn;
        to_left = left;
        to_right = congruent_trans larger G t s n (congruent_sym larger G s t (extends_congruent table larger ext G s t hs ht c)) left;
        parts_shared = λ a m. let k = subst (λ (x : Term). Memᴰ a x.arguments) e m in extends_shared table larger ext ts ls low a (inside a k) (chosen_shared ts ls table G ch a k);
      }

  -- the middle term is colourable where an end congruent to it is
  between_colourable : (table : List Term) → LowerArguments table → (G : Graph) (s n : ℕ) (X : Side) → s < length table → n < length table → T (congruent table G s n) → ((a : ℕ) → Memᴰ a (term_at table n).arguments → T (shared ts ls table a)) → T (colourable ts ls X table s) → T (colourable ts ls X table n)
  between_colourable table low G s n X hs hn c h k = colourable_built ts ls X table low n hn (subst (λ (f : ℕ). T (occurs_in ts ls X f)) (congruent_symbol table G s n c) (colourable_own ts ls X table low s hs k)) (λ a m. shared_side ts ls table X a (h a m))

  -- so it is shared: one end is A-colourable, the other B-colourable
  pub between_shared : (table : List Term) → LowerArguments table → (G : Graph) (s t n : ℕ) → s < length table → t < length table → T (colourable ts ls A table s) → T (colourable ts ls B table t) → Between ts ls table G s t n → T (shared ts ls table n)
  between_shared table low G s t n hs ht ka kb r = sides_shared ts ls table n go
    where
      go : (X : Side) → T (colourable ts ls X table n)
      go A = between_colourable table low G s n A hs r.here r.to_left r.parts_shared ka
      go B = between_colourable table low G t n B ht r.here r.to_right r.parts_shared kb

-- ---- one term more

-- the state with a term added
abbrev pub with_term : State → Term → State
with_term st m = record { added = st.added ++ (m ∷ []); graph = st.graph }

module _ (ts : List Term) (st : State) (m : Term) where
  -- its table has the new term behind the others
  with_term_behind : table_of ts (with_term st m) ≡ table_of ts st ++ (m ∷ [])
  with_term_behind = sym (append_assoc ts st.added (m ∷ []))

  -- so it extends the table
  pub with_term_first : Extends (table_of ts st) (table_of ts (with_term st m))
  with_term_first = (m ∷ [], with_term_behind)

  -- and is one longer
  pub with_term_length : length (table_of ts (with_term st m)) ≡ suc (length (table_of ts st))
  with_term_length = ap length with_term_behind ∙ length-append (table_of ts st) (m ∷ []) ∙ omega arith

  -- the new term has the next number
  pub with_term_last : term_at (table_of ts (with_term st m)) (length (table_of ts st)) ≡ m
  with_term_last = ap (λ (tb : List Term). term_at tb (length (table_of ts st))) with_term_behind ∙ get_or-append_seam (table_of ts st) m [] no_term

module _ (ts : List Term) (ls : List Literal) (st : State) (m : Term) where
  -- a vertex stays one
  pub with_term_vertex : (v : ℕ) → T (vertex ts ls st v) → T (vertex ts ls (with_term st m) v)
  with_term_vertex v h = vertex_stays ts ls st (with_term st m) (omega (arith, with_term_length ts st m)) v h

  -- the new term is one
  pub with_term_new : T (vertex ts ls (with_term st m) (length (table_of ts st)))
  with_term_new = added_vertex ts ls (with_term st m) (length (table_of ts st)) (omega (arith, length-append ts st.added)) (omega (arith, with_term_length ts st m))

  -- and no other is new
  pub with_term_cases : (v : ℕ) → T (vertex ts ls (with_term st m) v) → T (vertex ts ls st v) ⊎ (v ≡ length (table_of ts st))
  with_term_cases v h =
      ⊎_elim (λ c. inl (used_vertex ts ls st v c.0 c.1))
      (λ c. ⊎_elim (λ k. inl (added_vertex ts ls st v c.0 k)) (λ e. inr e) (below_or_is v (length (table_of ts st)) (omega (arith, c.1, with_term_length ts st m))))
      (vertex_cases ts ls (with_term st m) v h)

  -- a known vertex stays known
  pub with_term_known : LowerArguments ts → SidesWithin ts ls → (v : ℕ) → T (vertex ts ls st v) → Known ts ls st v → Known ts ls (with_term st m) v
  with_term_known low within v h q = (q.0, q.1, q.2, extends_congruent (table_of ts st) (table_of ts (with_term st m)) (with_term_first ts st m) st.graph q.0 v (vertex_within ts ls st q.0 (in_use_vertex ts ls low within st q.0 q.1)) (vertex_within ts ls st v h) q.3)

module _ (ts : List Term) (ls : List Literal) (st : State) (r : SoundState ts ls st) (m : Term) (inside : (a : ℕ) → Memᴰ a m.arguments → T (vertex ts ls st a)) where
  -- a term that was there has the arguments that it had
  old_argument : (v a : ℕ) → v < length (table_of ts st) → Memᴰ a (term_at (table_of ts (with_term st m)) v).arguments → Memᴰ a (term_at (table_of ts st) v).arguments
  old_argument v a h k = subst (λ (x : Term). Memᴰ a x.arguments) (extends_term (table_of ts st) (table_of ts (with_term st m)) (with_term_first ts st m) v h) k

  -- the new one has its own
  new_argument : (v a : ℕ) → v ≡ length (table_of ts st) → Memᴰ a (term_at (table_of ts (with_term st m)) v).arguments → Memᴰ a m.arguments
  new_argument v a e k = subst (λ (x : Term). Memᴰ a x.arguments) (ap (term_at (table_of ts (with_term st m))) e ∙ with_term_last ts st m) k

  -- arguments are lower in it too
  pub with_term_lower : LowerArguments (table_of ts (with_term st m))
  with_term_lower v h a k =
      ⊎_elim (λ c. r.lower v c a (old_argument v a c k))
      (λ e. omega (arith, e, vertex_within ts ls st a (inside a (new_argument v a e k))))
      (below_or_is v (length (table_of ts st)) (omega (arith, with_term_length ts st m)))

  -- a state stays sound with one shared term more
  pub with_term_sound : T (shared ts ls (table_of ts (with_term st m)) (length (table_of ts st))) → SoundState ts ls (with_term st m)
  with_term_sound sh =
      record {
        lower = with_term_lower;
        edges = extends_sound (table_of ts st) (table_of ts (with_term st m)) (with_term_first ts st m) ts ls r.lower st.graph r.edges;
        ends = each_map (EndsAmong (vertex ts ls st)) (EndsAmong (vertex ts ls (with_term st m))) (λ H e p. (with_term_vertex ts ls st m e.left p.0, with_term_vertex ts ls st m e.right p.1)) st.graph r.ends;
        arguments = λ v a h k. with_term_vertex ts ls st m a (argument v a (with_term_cases ts ls st m v h) k);
        coloured = λ v h. colour v (with_term_cases ts ls st m v h);
        added_shared = λ v h k. added v h (below_or_is v (length (table_of ts st)) (omega (arith, k, with_term_length ts st m)));
      }
    where
      argument : (v a : ℕ) → T (vertex ts ls st v) ⊎ (v ≡ length (table_of ts st)) → Memᴰ a (term_at (table_of ts (with_term st m)) v).arguments → T (vertex ts ls st a)
      argument v a (inl h) k = r.arguments v a h (old_argument v a (vertex_within ts ls st v h) k)
      argument v a (inr e) k = inside a (new_argument v a e k)

      colour : (v : ℕ) → T (vertex ts ls st v) ⊎ (v ≡ length (table_of ts st)) → T (colourable ts ls A (table_of ts (with_term st m)) v) ⊎ T (colourable ts ls B (table_of ts (with_term st m)) v)
      colour v (inl h) = ⊎_elim (λ c. inl (extends_colourable (table_of ts st) (table_of ts (with_term st m)) (with_term_first ts st m) ts ls A r.lower v (vertex_within ts ls st v h) c)) (λ c. inr (extends_colourable (table_of ts st) (table_of ts (with_term st m)) (with_term_first ts st m) ts ls B r.lower v (vertex_within ts ls st v h) c)) (r.coloured v h)
      colour v (inr e) = inl (subst (λ (x : ℕ). T (colourable ts ls A (table_of ts (with_term st m)) x)) (sym e) (shared_side ts ls (table_of ts (with_term st m)) A (length (table_of ts st)) sh))

      added : (v : ℕ) → length ts ≤ v → (v < length (table_of ts st)) ⊎ (v ≡ length (table_of ts st)) → T (shared ts ls (table_of ts (with_term st m)) v)
      added v h (inl k) = extends_shared (table_of ts st) (table_of ts (with_term st m)) (with_term_first ts st m) ts ls r.lower v k (r.added_shared v h k)
      added v h (inr e) = subst (λ (x : ℕ). T (shared ts ls (table_of ts (with_term st m)) x)) (sym e) sh

-- ---- the middle step

-- terms that the test finds equal are one
pub equal_terms_is : (x y : Term) → T (equal_terms x y) → x ≡ y
unfolding equal_terms
equal_terms_is x y h = λ i. record { symbol = eqb→eq x.symbol y.symbol (and_left (eqb x.symbol y.symbol) (same x.arguments y.arguments) h) i; arguments = same_eq x.arguments y.arguments (and_right (eqb x.symbol y.symbol) (same x.arguments y.arguments) h) i }

-- the middle term is a vertex already, or it becomes one
pub placed_either : (ts : List Term) (ls : List Literal) (st : State) (m : Term) (P : Placed → Type 0) → ((v : ℕ) → T (vertex ts ls st v) → term_at (table_of ts st) v ≡ m → P (record { state = st; number = v })) → P (record { state = with_term st m; number = length (table_of ts st) }) → P (placed ts ls st m)
unfolding placed place_as vertex_equal
placed_either ts ls st m P f g = go (vertex_equal ts ls st m) refl
  where
    go : (o : Option ℕ) → vertex_equal ts ls st m ≡ o → P (place_as ts st m o)
    go (Some v) q =
        let h = (first_below_some (λ (v : ℕ). vertex ts ls st v && equal_terms (term_at (table_of ts st) v) m) (length (table_of ts st)) v q).such in
        f v (and_left (vertex ts ls st v) (equal_terms (term_at (table_of ts st) v) m) h) (equal_terms_is (term_at (table_of ts st) v) m (and_right (vertex ts ls st v) (equal_terms (term_at (table_of ts st) v) m) h))
    go None q = g

-- the middle term is in its place, and each end may be tied to it
pub record Ready (ts : List Term) (ls : List Literal) (s t : ℕ) (p : Placed) : Type 0 where
  pub sound : SoundState ts ls p.state
  pub left : Ties ts ls p.state A s p.number
  pub right : Ties ts ls p.state B t p.number

-- what a middle step asks of its ends, but that they are unjoined
pub record MiddleEnds (ts : List Term) (ls : List Literal) (st : State) (s t : ℕ) (chosen : List ℕ) : Type 0 where
  pub left_vertex : T (vertex ts ls st s)
  pub right_vertex : T (vertex ts ls st t)
  pub alike : T (congruent (table_of ts st) st.graph s t)
  pub left_colour : T (colourable ts ls A (table_of ts st) s)
  pub right_colour : T (colourable ts ls B (table_of ts st) t)
  pub choice : Chosen ts ls (table_of ts st) st.graph (term_at (table_of ts st) s).arguments (term_at (table_of ts st) t).arguments chosen

module _ (ts : List Term) (ls : List Literal) where
  -- where the middle term stands between vertices s and t, each may be tied to it
  between_ready : (p : Placed) (s t : ℕ) → SoundState ts ls p.state → T (vertex ts ls p.state s) → T (vertex ts ls p.state t) → T (vertex ts ls p.state p.number) → T (colourable ts ls A (table_of ts p.state) s) → T (colourable ts ls B (table_of ts p.state) t) → T (shared ts ls (table_of ts p.state) p.number) → Between ts ls (table_of ts p.state) p.state.graph s t p.number → Ready ts ls s t p
  between_ready p s t r vs vt vn ka kb sh b =
      record {
        sound = r;
        left = record { left_vertex = vs; right_vertex = vn; alike = b.to_left; colours = ends_edge ts ls (table_of ts p.state) A s p.number ka (shared_side ts ls (table_of ts p.state) A p.number sh) };
        right = record { left_vertex = vt; right_vertex = vn; alike = b.to_right; colours = ends_edge ts ls (table_of ts p.state) B t p.number kb (shared_side ts ls (table_of ts p.state) B p.number sh) };
      }

  -- tying keeps a state sound
  pub tied_sound : (st : State) (X : Side) (s n : ℕ) → SoundState ts ls st → Ties ts ls st X s n → SoundState ts ls (tied st s n X)
  tied_sound st X s n r q = tied_either (SoundState ts ls) st s n X (λ j. r) (λ u. ties_sound ts ls st r X s n q u)

  -- and the other end may be tied after it
  pub tied_ties : (st : State) (X Y : Side) (s t n : ℕ) → Ties ts ls st Y t n → Ties ts ls (tied st s n X) Y t n
  tied_ties st X Y s t n q = tied_either (λ z. Ties ts ls z Y t n) st s n X (λ j. q) (λ u. ties_edge ts ls st Y t n q s n X derived)

  -- so both ends may be tied
  both_sound : (p : Placed) (s t : ℕ) → Ready ts ls s t p → SoundState ts ls (tied_both p s t)
  unfolding tied_both
  both_sound p s t r = tied_sound (tied p.state s p.number A) B t p.number (tied_sound p.state A s p.number r.sound r.left) (tied_ties p.state A B s t p.number r.right)

module _ (ts : List Term) (ls : List Literal) (st : State) (r : SoundState ts ls st) (s t : ℕ) (chosen : List ℕ) (ends : MiddleEnds ts ls st s t chosen) where
  -- the chosen terms are vertices
  chosen_vertex : (a : ℕ) → Memᴰ a chosen → T (vertex ts ls st a)
  chosen_vertex a m = chosen_among ts ls (table_of ts st) st.graph (vertex ts ls st) r.ends ends.choice (congruent_arguments (table_of ts st) st.graph s t ends.alike) (λ x k. r.arguments s x ends.left_vertex k) a m

  -- where the middle term stands in a table, it stands between s and t
  stands_between : (larger : List Term) → Extends (table_of ts st) larger → (n : ℕ) → n < length larger → term_at larger n ≡ middle_term (table_of ts st) s chosen → Between ts ls larger st.graph s t n
  stands_between larger ext n h e = between_made ts ls (table_of ts st) larger ext r.lower st.graph s t n chosen (vertex_within ts ls st s ends.left_vertex) (vertex_within ts ls st t ends.right_vertex) h ends.alike ends.choice (λ a m. vertex_within ts ls st a (chosen_vertex a m)) e

  -- the middle term is placed so that each end may be tied to it
  pub middle_ready : Ready ts ls s t (placed ts ls st (middle_term (table_of ts st) s chosen))
  middle_ready = placed_either ts ls st middle (Ready ts ls s t) old new
    where
      middle : Term
      middle = middle_term (table_of ts st) s chosen

      hs : s < length (table_of ts st)
      hs = vertex_within ts ls st s ends.left_vertex

      ht : t < length (table_of ts st)
      ht = vertex_within ts ls st t ends.right_vertex

      old : (v : ℕ) → T (vertex ts ls st v) → term_at (table_of ts st) v ≡ middle → Ready ts ls s t (record { state = st; number = v })
      old v h e =
          let b = stands_between (table_of ts st) ([], sym (append-nil (table_of ts st))) v (vertex_within ts ls st v h) e in
          between_ready ts ls (record { state = st; number = v }) s t r ends.left_vertex ends.right_vertex h ends.left_colour ends.right_colour (between_shared ts ls (table_of ts st) r.lower st.graph s t v hs ht ends.left_colour ends.right_colour b) b

      new : Ready ts ls s t (record { state = with_term st middle; number = length (table_of ts st) })
      new =
          let larger = table_of ts (with_term st middle) in
          let ext = with_term_first ts st middle in
          let n = length (table_of ts st) in
          let longer : n < length larger = omega (arith, with_term_length ts st middle) in
          let b = stands_between larger ext n longer (with_term_last ts st middle) in
          let ka = extends_colourable (table_of ts st) larger ext ts ls A r.lower s hs ends.left_colour in
          let kb = extends_colourable (table_of ts st) larger ext ts ls B r.lower t ht ends.right_colour in
          let sh = between_shared ts ls larger (with_term_lower ts ls st r middle chosen_vertex) st.graph s t n (omega (arith, longer, hs)) (omega (arith, longer, ht)) ka kb b in
          between_ready ts ls (record { state = with_term st middle; number = n }) s t (with_term_sound ts ls st r middle chosen_vertex sh) (with_term_vertex ts ls st middle s ends.left_vertex) (with_term_vertex ts ls st middle t ends.right_vertex) (with_term_new ts ls st middle) ka kb sh b

  -- a state stays sound under a middle step
  pub middle_sound : SoundState ts ls (with_middle ts ls st s t chosen)
  unfolding with_middle
  middle_sound = both_sound ts ls (placed ts ls st (middle_term (table_of ts st) s chosen)) s t middle_ready
