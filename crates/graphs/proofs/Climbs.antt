-- Two climbs toward the root, from the ends of a path, until they meet.
use mathlib.Core.List.Memᴰ
use mathlib.Core.List.{List, [], ◌∷◌, ◌++◌, map, map-append, append_assoc, Memᴰ}
use mathlib.Core.Logic.{inl, inr, ⊎_elim}
use mathlib.Core.Path.{◌≡◌, refl, sym, ap, ap₂, subst, ◌∙◌}
use Prim.Native.Nat.{ℕ, suc, ◌+◌, ◌-◌, ◌≤◌, ◌<◌}
use native.Mathlib.Nat.{le_of_lt, lt_irrefl}
use native.Mathlib.Numerals.{add-one}
use native.Mathlib.Omega.{arith}
use lib.Dec.{T}
use lib.ListN.{length, get_or, take, drop, set, length-append, length-set, length-map, length-drop, drop_of_length-le}
use lib.Seq.{take-length, take-paste, length-take-le, take-suc-set, take-set-le, drop-set-lt, drop-cons, get_or-set_same, lt-length-set}
use Rattle.std.specs.List.{copy_within}
use Rattle.closure.specs.Graph.{Graph, Path, joined, path, vertices}
use Rattle.closure.specs.Walks.{Walk, stay, hop, Once, nothing, new}
use Rattle.closure.specs.Forests.{Forest}
use Rattle.graphs.specs.Rooting.{number, Toward, Leads, RootedBy}
use Rattle.graphs.specs.declared.rooting.Rooting.{Rooting}
use Rattle.graphs.specs.Trails.{Joining, TrailOf}
use Rattle.closure.proofs.Walking.Joined.{joined_label, joined_sym, joined_trans}
use Rattle.closure.proofs.Walking.Walks.{walk_joined, walk_append}
use Rattle.closure.proofs.Walking.OnePath.{once_left, once_right, once_apart, once_append, vertices_append, turned, turned_hop, one_path}
use Rattle.closure.proofs.Walking.Count.{once_length}

-- ---- lists

-- one number more at the end of the first ones
pub take_more : (l : List ℕ) (k x : ℕ) → k < length l → take (k + 1) (set l k x) ≡ take k l ++ (x ∷ [])
take_more l k x h = rw (add-one, take-suc-set)

-- one number more before the last ones
pub drop_more : (l : List ℕ) (k x : ℕ) → 0 < k → k ≤ length l → drop (k - 1) (set l (k - 1) x) ≡ x ∷ drop k l
drop_more l k x p h =
    let n : suc (k - 1) ≡ k = omega arith in
    drop-cons (set l (k - 1) x) (k - 1) 0 (lt-length-set l (k - 1) x (omega arith)) ∙
    ap₂ ◌∷◌ (get_or-set_same l (k - 1) x 0 (omega arith)) (drop-set-lt (suc (k - 1)) l (k - 1) x (omega arith) ∙ ap (λ (i : ℕ). drop i l) n)

-- what stands from one place on put behind what stands before another
pub closed_up : (l m : List ℕ) {to from : ℕ} → length l ≡ 511 → to ≤ from → from ≤ 511 → m ≡ copy_within l from (length l) to → take (to + (511 - from)) m ≡ take to l ++ drop from l
closed_up l m {to} {from} long h k e =
    let n : 511 - from ≡ length l - from = omega (arith, long) in
    ap₂ (λ (x : List ℕ) (y : ℕ). take (to + y) x) e n ∙
    take-paste l to (drop from l) (length l - from) (omega (arith, long)) (omega (arith, length-drop from l)) ∙
    ap (λ (x : List ℕ). take to l ++ x) (ap (λ (y : ℕ). take y (drop from l)) (sym (length-drop from l)) ∙ take-length (drop from l))

-- ---- where the climbs have been

-- a list without repetition, with a number that is not in it put between its halves
once_insert : (F R : List ℕ) (z : ℕ) → (Memᴰ z (F ++ R) → ⊥) → Once (F ++ R) → Once (F ++ (z ∷ R))
once_insert F R z d o =
    once_append (once_left F R o) (new (λ m. d (Memᴰ.append_right F m)) (once_right F R o))
    (λ x m k. ⊎_elim (λ e. d (Memᴰ.append_left R (Memᴰ.cast (sym e) m))) (λ n. once_apart F R o x m n) (Memᴰ.cases_cons k))

-- what holds of the number and of the others holds of all
insert_all : (P : ℕ → Type 0) (F R : List ℕ) (z : ℕ) → P z → ((x : ℕ) → Memᴰ x (F ++ R) → P x) → (x : ℕ) → Memᴰ x (F ++ (z ∷ R)) → P x
insert_all P F R z p f x m =
    ⊎_elim (λ n. f x (Memᴰ.append_left R n))
    (λ n. ⊎_elim (λ e. subst P (sym e) p) (λ k. f x (Memᴰ.append_right F k)) (Memᴰ.cases_cons n))
    (Memᴰ.append_cases F m)

-- a vertex that was left: neither climb stands there, and both stand as low or lower
abbrev pub Behind : List ℕ → ℕ → ℕ → ℕ → Type 0
Behind rank a b x = (x < 511) × (x ≡ a → ⊥) × (x ≡ b → ⊥) × (get_or rank a 0 ≤ get_or rank x 0) × (get_or rank b 0 ≤ get_or rank x 0)

-- F was left by one climb, which stands at a, and R by the other, which stands at b: no vertex was left twice
pub record Apart (rank F R : List ℕ) (a b : ℕ) : Type 0 where
  pub a_within : a < 511
  pub b_within : b < 511
  pub once : Once (F ++ R)
  pub behind : (x : ℕ) → Memᴰ x (F ++ R) → Behind rank a b x

-- so they are fewer than 511
pub apart_fewer : (rank F R : List ℕ) {a b : ℕ} → Apart rank F R a b → length F + length R ≤ 510
apart_fewer rank F R {a} {b} p =
    omega (
      arith,
      length-append F (a ∷ R),
      once_length 511 (once_insert F R a (λ m. (p.behind a m).1 refl) p.once) (insert_all (λ x. x < 511) F R a p.a_within (λ x m. (p.behind x m).0)),
    )

-- a vertex of lower rank is another
rank_differs : (rank : List ℕ) {t : ℕ} (x : ℕ) → get_or rank t 0 < get_or rank x 0 → x ≡ t → ⊥
rank_differs rank x h q = lt_irrefl (get_or rank x 0) (subst (λ (y : ℕ). get_or rank y 0 < get_or rank x 0) (sym q) h)

module _ (rank F R : List ℕ) {a b : ℕ} (t : ℕ) (p : Apart rank F R a b) (d : a ≡ b → ⊥) (w : t < 511) where
  -- the first climb goes on from a to t
  pub apart_left : get_or rank b 0 ≤ get_or rank a 0 → get_or rank t 0 < get_or rank a 0 → Apart rank (F ++ (a ∷ [])) R t b
  apart_left h k =
      let same : (F ++ (a ∷ [])) ++ R ≡ F ++ (a ∷ R) = append_assoc F (a ∷ []) R in
      record {
        a_within = w;
        b_within = p.b_within;
        once = subst Once (sym same) (once_insert F R a (λ m. (p.behind a m).1 refl) p.once);
        behind = λ x m.
            insert_all (Behind rank t b) F R a (p.a_within, rank_differs rank a k, d, le_of_lt k, h)
            (λ y n. let o = p.behind y n in (o.0, rank_differs rank y (omega (arith, o.3)), o.2, omega (arith, o.3), o.4))
            x
            (subst (Memᴰ x) same m);
      }

  -- the second climb goes on from b to t
  pub apart_right : get_or rank a 0 ≤ get_or rank b 0 → get_or rank t 0 < get_or rank b 0 → Apart rank F (b ∷ R) a t
  apart_right h k =
      record {
        a_within = p.a_within;
        b_within = w;
        once = once_insert F R b (λ m. (p.behind b m).2 refl) p.once;
        behind = insert_all (Behind rank a t) F R b (p.b_within, λ q. d (sym q), rank_differs rank b k, h, le_of_lt k)
            (λ y n. let o = p.behind y n in (o.0, o.1, rank_differs rank y (omega (arith, o.4)), o.3, omega (arith, o.4)));
      }

-- of two joined vertices one that stands no lower than the other is no root
pub no_root : (G : Graph) (r : Rooting) → RootedBy G r → {a b : ℕ} → a < 511 → b < 511 → T (joined G a b) → (a ≡ b → ⊥) → get_or r.rank b 0 ≤ get_or r.rank a 0 → Toward G r a
no_root G r w {a} {b} ha hb j d h = go (w a ha).1 (w b hb).1
  where
    go : Leads G r a → Leads G r b → Toward G r a
    go (inr t) l = t
    go (inl p) (inl q) = absurd (d (sym p.0 ∙ joined_label G a b j ∙ q.0))
    go (inl p) (inr t) = absurd (omega (arith, p.1, t.lower, t.reached))

-- ---- what they have walked

-- the hops of the first climb, and those of the second turned round: their vertices and numbers are the lists'
pub record Walked (G : Graph) (F FE R RE : List ℕ) (u v a b : ℕ) : Type 0 where
  pub front : Path
  pub rear : Path
  pub there : Walk G u a front
  pub onward : Walk G b v rear
  pub front_stops : F ≡ map (λ h. h.from) front
  pub front_edges : FE ≡ map number front
  pub rear_stops : R ≡ map (λ h. h.to) rear
  pub rear_edges : RE ≡ map number rear

module _ {G : Graph} {r : Rooting} {F FE R RE : List ℕ} {u v a b : ℕ} (w : Walked G F FE R RE u v a b) where
  -- the first goes on
  pub walked_left : Toward G r a → Walked G (F ++ (a ∷ [])) (FE ++ (get_or r.by a 0 ∷ [])) R RE u v (get_or r.toward a 0) b
  walked_left t =
      record {
        front = w.front ++ (t.way ∷ []);
        rear = w.rear;
        there = walk_append w.there (hop t.way_of (sym t.way_from) (stay t.way_to));
        onward = w.onward;
        front_stops = ap₂ (λ (x y : List ℕ). x ++ y) w.front_stops (ap (λ (x : ℕ). x ∷ []) (sym t.way_from)) ∙ sym (map-append (λ h. h.from) w.front (t.way ∷ []));
        front_edges = ap₂ (λ (x y : List ℕ). x ++ y) w.front_edges (ap (λ (x : ℕ). x ∷ []) (sym t.way_number)) ∙ sym (map-append number w.front (t.way ∷ []));
        rear_stops = w.rear_stops;
        rear_edges = w.rear_edges;
      }

  -- the second goes on
  pub walked_right : Toward G r b → Walked G F FE (b ∷ R) (get_or r.by b 0 ∷ RE) u v a (get_or r.toward b 0)
  walked_right t =
      record {
        front = w.front;
        rear = turned t.way ∷ w.rear;
        there = w.there;
        onward = hop (turned_hop t.way_of) (sym t.way_to) (subst (λ (x : ℕ). Walk G x v w.rear) (sym t.way_from) w.onward);
        front_stops = w.front_stops;
        front_edges = w.front_edges;
        rear_stops = ap₂ ◌∷◌ (sym t.way_from) w.rear_stops;
        rear_edges = ap₂ ◌∷◌ (sym t.way_number) w.rear_edges;
      }

-- a walk stands where its hops begin, and on its end
walk_stops : {G : Graph} {u v : ℕ} {π : Path} → Walk G u v π → vertices u π ≡ map (λ h. h.from) π ++ (v ∷ [])
walk_stops (stay q) = ap (λ (x : ℕ). x ∷ []) q
walk_stops (hop k q w) = ap₂ ◌∷◌ q (walk_stops w)

-- where they meet, they have walked the path: it stands on no vertex twice
pub walked_path : (G : Graph) → Forest G → {F FE R RE : List ℕ} {u v a b : ℕ} → Walked G F FE R RE u v a b → a ≡ b → Once (F ++ (a ∷ R)) → (vertices u (path G u v) ≡ F ++ (a ∷ R)) × (map number (path G u v) ≡ FE ++ RE)
walked_path G f {F} {FE} {R} {RE} {u} {v} {a} {b} w q o =
    let π = w.front ++ w.rear in
    let walk : Walk G u v π = walk_append w.there (subst (λ (x : ℕ). Walk G x v w.rear) (sym q) w.onward) in
    let stops : vertices u π ≡ F ++ (a ∷ R) =
    vertices_append u w.front w.rear ∙
    ap (λ (l : List ℕ). l ++ map (λ h. h.to) w.rear) (walk_stops w.there) ∙
    append_assoc (map (λ h. h.from) w.front) (a ∷ []) (map (λ h. h.to) w.rear) ∙
    sym (ap₂ (λ (x y : List ℕ). x ++ (a ∷ y)) w.front_stops w.rear_stops) in
    let one : π ≡ path G u v = one_path G f (record { walk = walk; once = subst Once (sym stops) o }) in (
      ap (vertices u) (sym one) ∙ stops,
      ap (map number) (sym one) ∙ map-append number w.front w.rear ∙ sym (ap₂ (λ (x y : List ℕ). x ++ y) w.front_edges w.rear_edges),
    )

-- ---- the arrays

-- what holds of the code's arrays while the climbs have not met: where the first was stands from their first place on, where the second was before their last
pub record Climbing (r : Rooting) (u v : ℕ) (stops edges : List ℕ) (a b up top : ℕ) : Type 0 where
  pub long : (length stops ≡ 511) × (length edges ≡ 511)
  pub short : (up ≤ 511) × (top ≤ 511)
  pub apart : Apart r.rank (take up stops) (drop top stops) a b
  pub walked : (G : Graph) → Joining r u v G → Walked G (take up stops) (take up edges) (drop top stops) (drop top edges) u v a b

-- at the start
pub climbing_none : (r : Rooting) (u v : ℕ) (stops edges : List ℕ) → (length stops ≡ 511) × (length edges ≡ 511) → u < 511 → v < 511 → Climbing r u v stops edges u v 0 511
climbing_none r u v stops edges l hu hv =
    let s : drop 511 stops ≡ [] = drop_of_length-le stops {i = 511} (omega (arith, l.0)) in
    let e : drop 511 edges ≡ [] = drop_of_length-le edges {i = 511} (omega (arith, l.1)) in
    record {
      long = l;
      short = (omega arith, omega arith);
      apart = record { a_within = hu; b_within = hv; once = subst Once (sym s) nothing; behind = λ x m. absurd (Memᴰ.not-nil (subst (Memᴰ x) s m)) };
      walked = λ G j. record { front = []; rear = []; there = stay refl; onward = stay refl; front_stops = refl; front_edges = refl; rear_stops = s; rear_edges = e };
    }

module _ {r : Rooting} {u v : ℕ} {stops edges : List ℕ} {a b up top : ℕ} (c : Climbing r u v stops edges a b up top) where
  -- the numbers that stand in the arrays
  climbing_counts : (length (take up stops) ≡ up) × (length (take up edges) ≡ up) × (length (drop top stops) ≡ 511 - top) × (length (drop top edges) ≡ 511 - top)
  climbing_counts = (
    length-take-le up stops (omega (arith, c.short, c.long.0)),
    length-take-le up edges (omega (arith, c.short, c.long.1)),
    length-drop top stops ∙ ap (λ (n : ℕ). n - top) c.long.0,
    length-drop top edges ∙ ap (λ (n : ℕ). n - top) c.long.1,
  )

  -- there is room for every stop
  pub climbing_room : up < top
  climbing_room = omega (arith, apart_fewer r.rank (take up stops) (drop top stops) c.apart, climbing_counts, c.short)

  -- the two stand on joined vertices
  climbing_joined : (G : Graph) → Joining r u v G → T (joined G a b)
  climbing_joined G j =
      let w = c.walked G j in
      joined_trans G a u b (joined_sym G u a (walk_joined w.there)) (joined_trans G u v b j.join (joined_sym G b v (walk_joined w.onward)))

  -- the first can go on where it stands no lower
  pub climbs_left : (G : Graph) → Joining r u v G → (a ≡ b → ⊥) → get_or r.rank b 0 ≤ get_or r.rank a 0 → Toward G r a
  climbs_left G j d h = no_root G r j.rooted c.apart.a_within c.apart.b_within (climbing_joined G j) d h

  -- so can the second
  pub climbs_right : (G : Graph) → Joining r u v G → (a ≡ b → ⊥) → get_or r.rank a 0 ≤ get_or r.rank b 0 → Toward G r b
  climbs_right G j d h = no_root G r j.rooted c.apart.b_within c.apart.a_within (joined_sym G a b (climbing_joined G j)) (λ q. d (sym q)) h

  -- the first goes on
  pub climbing_left : (H : Graph) → Joining r u v H → (a ≡ b → ⊥) → get_or r.rank b 0 ≤ get_or r.rank a 0 → Climbing r u v (set stops up a) (set edges up (get_or r.by a 0)) (get_or r.toward a 0) b (up + 1) top
  climbing_left H k d h =
      let t = climbs_left H k d h in
      let room = climbing_room in
      let s : take (up + 1) (set stops up a) ≡ take up stops ++ (a ∷ []) = take_more stops up a (omega (arith, c.long.0, c.short)) in
      let e : take (up + 1) (set edges up (get_or r.by a 0)) ≡ take up edges ++ (get_or r.by a 0 ∷ []) = take_more edges up (get_or r.by a 0) (omega (arith, c.long.1, c.short)) in
      let rs : drop top (set stops up a) ≡ drop top stops = drop-set-lt top stops up a room in
      let re : drop top (set edges up (get_or r.by a 0)) ≡ drop top edges = drop-set-lt top edges up (get_or r.by a 0) room in
      record {
        long = (length-set stops up a ∙ c.long.0, length-set edges up (get_or r.by a 0) ∙ c.long.1);
        short = (omega (arith, c.short), c.short.1);
        apart = rw (s, rs) (apart_left r.rank (take up stops) (drop top stops) (get_or r.toward a 0) c.apart d t.within h t.lower);
        walked = λ G j. rw (s, e, rs, re) (walked_left (c.walked G j) (climbs_left G j d h));
      }

  -- the second goes on
  pub climbing_right : (H : Graph) → Joining r u v H → (a ≡ b → ⊥) → get_or r.rank a 0 ≤ get_or r.rank b 0 → Climbing r u v (set stops (top - 1) b) (set edges (top - 1) (get_or r.by b 0)) a (get_or r.toward b 0) up (top - 1)
  climbing_right H k d h =
      let t = climbs_right H k d h in
      let room = climbing_room in
      let s : take up (set stops (top - 1) b) ≡ take up stops = take-set-le up stops (top - 1) b (omega arith) in
      let e : take up (set edges (top - 1) (get_or r.by b 0)) ≡ take up edges = take-set-le up edges (top - 1) (get_or r.by b 0) (omega arith) in
      let rs : drop (top - 1) (set stops (top - 1) b) ≡ b ∷ drop top stops = drop_more stops top b (omega arith) (omega (arith, c.long.0, c.short)) in
      let re : drop (top - 1) (set edges (top - 1) (get_or r.by b 0)) ≡ get_or r.by b 0 ∷ drop top edges = drop_more edges top (get_or r.by b 0) (omega arith) (omega (arith, c.long.1, c.short)) in
      record {
        long = (length-set stops (top - 1) b ∙ c.long.0, length-set edges (top - 1) (get_or r.by b 0) ∙ c.long.1);
        short = (c.short.0, omega (arith, c.short));
        apart = rw (s, rs) (apart_right r.rank (take up stops) (drop top stops) (get_or r.toward b 0) c.apart d t.within h t.lower);
        walked = λ G j. rw (s, e, rs, re) (walked_right (c.walked G j) (climbs_right G j d h));
      }

  -- they have met: what both have left, with where they stand, is the path
  pub climbing_met : a ≡ b → (s e : List ℕ) → take (up + 1 + (511 - top)) s ≡ take (up + 1) (set stops up a) ++ drop top (set stops up a) → take (up + (511 - top)) e ≡ take up edges ++ drop top edges → (G : Graph) → Joining r u v G → TrailOf G u v (record { stops = s; edges = e; hops = up + (511 - top) })
  climbing_met q s e hs he G j =
      let F = take up stops in
      let R = drop top stops in
      let room = climbing_room in
      let n : up + (511 - top) + 1 ≡ up + 1 + (511 - top) = omega arith in
      let w = walked_path G j.forest (c.walked G j) q (once_insert F R a (λ m. (c.apart.behind a m).1 refl) c.apart.once) in
      let all : take (up + (511 - top) + 1) s ≡ F ++ (a ∷ R) =
      ap (λ (x : ℕ). take x s) n ∙
      hs ∙
      ap₂ (λ (x y : List ℕ). x ++ y) (take_more stops up a (omega (arith, c.long.0, c.short))) (drop-set-lt top stops up a room) ∙
      append_assoc F (a ∷ []) R in
      record {
        within = omega (arith, c.short);
        hops = omega (arith, ap length w.1, length-map (path G u v) number, length-append (take up edges) (drop top edges), climbing_counts);
        stops = all ∙ sym w.0;
        edges = he ∙ sym w.1;
      }
