-- What the partition's bytes say: a class number for each given term.
use Rattle.std.proofs.Common.{Option, Some, None, unwrap_or}
use mathlib.Core.Bool.{Bool, not, ◌&&◌}
use mathlib.Core.List.Memᴰ
use mathlib.Core.List.{List, [], ◌∷◌, ◌++◌, map, flat_map, Memᴰ}
use mathlib.Core.Logic.{◌⊎◌, inl, inr, ◌↔◌}
use mathlib.Core.Path.{◌≡◌, refl, sym, ap, subst, ◌∙◌}
use Prim.Native.Nat.{ℕ, zero, suc, ◌*◌, ◌≤◌, ◌<◌}
use native.Mathlib.Nat.{not-suc-le-zero}
use native.Mathlib.Omega.{arith}
use lib.Dec.{T, lit<}
use lib.ListN.{length, get_or, drop, length-map, get_or-map, get_or-append}
use lib.Seq.{get_or_at}
use Rattle.tables.specs.Words.{below, first_below, First}
use Rattle.tables.specs.Bytes.{word_at, word_bytes}
use Rattle.tables.specs.Terms.{Term}
use Rattle.tables.specs.declared.Literal.{Literal}
use Rattle.tables.specs.Colours.{is_in_use}
use Rattle.tables.proofs.Words.{and_left, and_right, and_both, by_test, passes, fails, passed, failed, below_or_is, length_below, first_below_some, first_below_none, first_one}
use Rattle.tables.proofs.WordBytes.{word_read, record_read, records_length}
use Rattle.closure.specs.Graph.{Graph, joined}
use Rattle.closure.proofs.Walking.Joined.{joined_self, joined_sym, joined_trans}
use Rattle.demands.specs.Buffers.{class_number, partition_bytes, written_over, class_at}

-- one list after the other is the same said of the list of them
pub flat_map_of_map {ℓ κ} : {X : Type ℓ} {Y : Type κ} (f : X → List Y) (xs : List X) → flat_map f xs ≡ flat_map (λ r. r) (map f xs)
unfolding flat_map
flat_map_of_map f [] = refl
flat_map_of_map f (x ∷ xs) = ap (λ l. f x ++ l) (flat_map_of_map f xs)

-- the number at place t of the numbers below n is t
at_below : (n t d : ℕ) → t < n → get_or (below n) t d ≡ t
unfolding below
at_below zero t d h = absurd (not-suc-le-zero h)
at_below (suc n) t d h = go (below_or_is t n h) (λ w. at_below n t d w)
  where
    go : (t < n) ⊎ (t ≡ n) → (t < n → get_or (below n) t d ≡ t) → get_or (below n ++ (n ∷ [])) t d ≡ t
    go (inl w) f = get_or-append (below n) (n ∷ []) d t (subst (λ (k : ℕ). t < k) (sym (length_below n)) w) ∙ f w
    go (inr e) f = get_or_at (below n) n [] d t (length_below n ∙ sym e) ∙ sym e

module _ (ts : List Term) (ls : List Literal) (G : Graph) where
  -- a term of the class of t: in use, and joined to t
  abbrev pub of_class : ℕ → ℕ → Bool
  of_class t u = is_in_use ts ls u && joined G u t

  -- "a term not in use gets 65535"
  pub class_idle : (t : ℕ) → T (not (is_in_use ts ls t)) → class_number ts ls G t ≡ 65535
  unfolding class_number
  class_idle t h = rw (failed (is_in_use ts ls t) h)

  class_used : (t : ℕ) → T (is_in_use ts ls t) → class_number ts ls G t ≡ unwrap_or (first_below (of_class t) (length ts)) 65535
  unfolding class_number
  class_used t h = rw (passed (is_in_use ts ls t) h)

  -- "the lowest number of a given term in its class"
  pub class_lowest : (t : ℕ) → t < length ts → T (is_in_use ts ls t) → First (λ u. T (of_class t u)) (length ts) (class_number ts ls G t)
  class_lowest t w h = go (first_below (of_class t) (length ts)) refl
    where
      go : (o : Option ℕ) → first_below (of_class t) (length ts) ≡ o → First (λ u. T (of_class t u)) (length ts) (class_number ts ls G t)
      go (Some k) e = subst (First (λ u. T (of_class t u)) (length ts)) (sym (class_used t h ∙ ap (λ (o : Option ℕ). unwrap_or o 65535) e)) (first_below_some (of_class t) (length ts) k e)
      go None e = absurd (first_below_none (of_class t) (length ts) e t w (and_both (is_in_use ts ls t) (joined G t t) h (joined_self G t)))

  -- two terms in use have one class number exactly when they are joined
  pub class_joined : (u v : ℕ) → u < length ts → v < length ts → T (is_in_use ts ls u) → T (is_in_use ts ls v) → (class_number ts ls G u ≡ class_number ts ls G v) ↔ T (joined G u v)
  class_joined u v wu wv hu hv = (apart, together)
    where
      same_class : (x : ℕ) (w : x < length ts) (h : T (is_in_use ts ls x)) → T (joined G (class_number ts ls G x) x)
      same_class x w h = and_right (is_in_use ts ls (class_number ts ls G x)) (joined G (class_number ts ls G x) x) (class_lowest x w h).such

      apart : class_number ts ls G u ≡ class_number ts ls G v → T (joined G u v)
      apart e = joined_trans G u (class_number ts ls G u) v (joined_sym G (class_number ts ls G u) u (same_class u wu hu)) (subst (λ (k : ℕ). T (joined G k v)) (sym e) (same_class v wv hv))

      moved : (x y k : ℕ) → T (joined G x y) → T (of_class x k) → T (of_class y k)
      moved x y k j h = and_both (is_in_use ts ls k) (joined G k y) (and_left (is_in_use ts ls k) (joined G k x) h) (joined_trans G k x y (and_right (is_in_use ts ls k) (joined G k x) h) j)

      together : T (joined G u v) → class_number ts ls G u ≡ class_number ts ls G v
      together j =
          let a = class_lowest u wu hu in
          let b = class_lowest v wv hv in
          first_one (λ k. T (of_class u k)) (length ts) (class_number ts ls G u) (class_number ts ls G v) a (record { within = b.within; such = moved v u (class_number ts ls G v) (joined_sym G u v j) b.such; none_before = λ k w h. b.none_before k w (moved u v k j h) })

  -- each class number fits its two bytes
  pub class_fits : (t : ℕ) → length ts ≤ 256 → class_number ts ls G t < 65536
  class_fits t few = by_test (is_in_use ts ls t) (λ e. used (passes (is_in_use ts ls t) e)) (λ e. subst (λ (k : ℕ). k < 65536) (sym (class_idle t (fails (is_in_use ts ls t) e))) (lit< tt))
    where
      found : (o : Option ℕ) → first_below (of_class t) (length ts) ≡ o → unwrap_or o 65535 < 65536
      found (Some k) e = omega (arith, (first_below_some (of_class t) (length ts) k e).within)
      found None e = lit< tt

      used : T (is_in_use ts ls t) → class_number ts ls G t < 65536
      used h = subst (λ (k : ℕ). k < 65536) (sym (class_used t h)) (found (first_below (of_class t) (length ts)) refl)

  -- two bytes for each given term
  pub partition_length : length (partition_bytes ts ls G) ≡ 2 * length ts
  unfolding partition_bytes
  partition_length = records_length 2 (λ (t : ℕ). word_bytes (class_number ts ls G t)) (below (length ts)) (λ t m. refl) ∙ ap (λ (k : ℕ). 2 * k) (length_below (length ts))

  -- what is written is read back
  pub partition_read : (buffer : List ℕ) (t : ℕ) → length ts ≤ 256 → t < length ts → class_at (written_over (partition_bytes ts ls G) buffer) t ≡ class_number ts ls G t
  unfolding partition_bytes written_over
  partition_read buffer t few h =
      let written : ℕ → List ℕ = λ k. word_bytes (class_number ts ls G k) in
      let rest = drop (length (partition_bytes ts ls G)) buffer in
      let records = map written (below (length ts)) in
      let count : length records ≡ length ts = length-map (below (length ts)) written ∙ length_below (length ts) in
      let two : (r : List ℕ) → Memᴰ r records → length r ≡ 2 = λ r m. ap length (sym (Memᴰ.of_map written (below (length ts)) m).2) in
      ap (λ (bytes : List ℕ). class_at (bytes ++ rest) t) (flat_map_of_map written (below (length ts))) ∙
      ap (λ (r : List ℕ). word_at r 0) (record_read 2 records rest two t (subst (λ (k : ℕ). t < k) (sym count) h) (written 0) ∙ get_or-map written (below (length ts)) t 0 ∙ ap written (at_below (length ts) t 0 h)) ∙
      word_read (class_number ts ls G t) [] (class_fits t few)
