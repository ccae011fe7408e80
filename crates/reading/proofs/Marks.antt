-- Laws of marking: what the turns of `mark` keep, and what is marked in the end.
use mathlib.Core.Bool.{Bool, true, false, not}
use mathlib.Core.List.{List, [], Memᴰ}
use mathlib.Core.Logic.{◌⊎◌, inl, inr, ⊎_elim}
use mathlib.Core.Path.{◌≡◌, refl, sym, ap, subst, ◌∙◌}
use Prim.Native.Nat.{ℕ, zero, suc, ◌+◌, ◌≤◌, ◌<◌}
use native.Mathlib.Nat.{not-suc-le-zero}
use native.Mathlib.Omega.{arith}
use lib.Dec.{T, eqb, eqb→eq, eqb_refl, T_not, not_T}
use lib.ListN.{length, get_or, set, replicate, length-set, length-replicate}
use lib.Seq.{get_or-set_same, get_or-set_other, get_or-take, length-take-le}
use Rattle.tables.specs.declared.Literal.{Literal}
use Rattle.reading.specs.Marks.{arguments_in, Marked, LowerRows, Closed, Describes, MarkedToo, StandsIn, Inside, marked_and_missing}
use Rattle.tables.specs.Words.{every}
use Rattle.tables.specs.Tests.{some_below}
use Rattle.tables.specs.Bytes.{word_at}
use Rattle.tables.specs.LiteralTable.{literal_record, literal_of, same_side}
use Rattle.tables.specs.declared.Side.{Side}
use Rattle.tables.specs.Terms.{Term, parts}
use Rattle.tables.specs.Parts.{Part, itself, deeper, LowerArguments}
use Rattle.tables.proofs.Words.{and_left, and_right, and_both, decide, passes, by_test, same_test, get_d_mem, mem_get_d, below_or_is, every_all, all_every, some_below_some, some_some_below}
use Rattle.tables.proofs.Terms.{mem_part, part_mem, part_le}
use Rattle.tables.proofs.Colours.{same_side_eq, same_side_self}

-- ---- one mark more

-- the place that was set is marked
pub marked_set : (marks : List Bool) (t : ℕ) → t < length marks → Marked (set marks t true) t
marked_set marks t h = passes (get_or (set marks t true) t false) (get_or-set_same marks t true false h)

-- what is marked after the setting is the place, or was marked
pub set_marked : (marks : List Bool) (t u : ℕ) → Marked (set marks t true) u → (u ≡ t) ⊎ Marked marks u
set_marked marks t u m =
    by_test (eqb u t)
    (λ e. inl (eqb→eq u t (passes (eqb u t) e)))
    (λ e. inr (subst T (get_or-set_other marks t u true false (λ d. subst (λ (x : Bool). T x) (sym (ap (λ (z : ℕ). eqb u z) (sym d)) ∙ e) (eqb_refl u))) m))

-- what was marked still is
pub kept_set : (marks : List Bool) (t u : ℕ) → t < length marks → Marked marks u → Marked (set marks t true) u
kept_set marks t u h m =
    by_test (eqb u t)
    (λ e. subst (Marked (set marks t true)) (sym (eqb→eq u t (passes (eqb u t) e))) (marked_set marks t h))
    (λ e. subst T (sym (get_or-set_other marks t u true false (λ d. subst (λ (x : Bool). T x) (sym (ap (λ (z : ℕ). eqb u z) (sym d)) ∙ e) (eqb_refl u)))) m)

-- nothing is marked at first
pub none_marked : (n u : ℕ) → Marked (replicate n false) u → ⊥
none_marked zero zero m = m
none_marked zero (suc u) m = m
none_marked (suc n) zero m = m
none_marked (suc n) (suc u) m = none_marked n u m

-- so whatever is marked has its arguments marked
pub none_closed : (n : ℕ) (rows : List (List ℕ)) (arities : List ℕ) → Closed rows arities (replicate n false)
none_closed n rows arities u m a k = absurd (none_marked n u m)

-- ---- rows

-- the first j arguments of t and all their parts are marked too, and nothing else is
pub record MarkedUpTo (rows : List (List ℕ)) (arities : List ℕ) (t j : ℕ) (before after : List Bool) : Type 0 where
  pub sized : length after ≡ length before
  pub closed : Closed rows arities after
  pub reached : (i : ℕ) → i < j → Marked after (get_or (get_or rows t []) i 0)
  pub kept : (u : ℕ) → Marked before u → Marked after u
  pub only : (ts : List Term) → Describes rows arities ts → (u : ℕ) → Marked after u → Marked before u ⊎ Part ts u t

module _ (rows : List (List ℕ)) (arities : List ℕ) (low : LowerRows rows arities) (t : ℕ) (small : t < 256) where
  -- a term has as many arguments as its arity says
  pub length_arguments : length (arguments_in rows arities t) ≡ get_or arities t 0
  length_arguments = length-take-le (get_or arities t 0) (get_or rows t []) (omega (arith, low.four t small, low.arity t small))

  -- a used field of the row is an argument
  pub field_argument : (j : ℕ) → j < get_or arities t 0 → Memᴰ (get_or (get_or rows t []) j 0) (arguments_in rows arities t)
  field_argument j h =
      subst (λ (a : ℕ). Memᴰ a (arguments_in rows arities t)) (get_or-take (get_or arities t 0) (get_or rows t []) j 0 h)
      (get_d_mem (arguments_in rows arities t) j 0 (omega (arith, length_arguments)))

  -- so it is lower than t
  pub field_lower : (j : ℕ) → j < get_or arities t 0 → get_or (get_or rows t []) j 0 < t
  field_lower j h = low.lower t small (get_or (get_or rows t []) j 0) (field_argument j h)

  -- an argument is a used field of the row
  pub argument_field_is : (a : ℕ) → Memᴰ a (arguments_in rows arities t) → (j : ℕ) × (j < get_or arities t 0) × (get_or (get_or rows t []) j 0 ≡ a)
  argument_field_is a m =
      let r = mem_get_d 0 m in
      let h : r.0 < get_or arities t 0 = omega (arith, r.1, length_arguments) in
      (r.0, h, sym (get_or-take (get_or arities t 0) (get_or rows t []) r.0 0 h) ∙ r.2)

  -- ---- the turns of `mark`

  -- one argument more
  pub up_more : (j : ℕ) (before mid after : List Bool) → j < get_or arities t 0 → MarkedUpTo rows arities t j before mid → MarkedToo rows arities (get_or (get_or rows t []) j 0) mid after → MarkedUpTo rows arities t (j + 1) before after
  up_more j before mid after h x y =
      record {
        sized = y.sized ∙ x.sized;
        closed = y.closed;
        reached = λ i l. ⊎_elim (λ (k : i < j). y.kept (get_or (get_or rows t []) i 0) (x.reached i k)) (λ (e : i ≡ j). subst (λ (n : ℕ). Marked after (get_or (get_or rows t []) n 0)) (sym e) y.reached) (below_or_is i j (omega (arith, l)));
        kept = λ u m. y.kept u (x.kept u m);
        only = λ ts d u m. ⊎_elim (λ (k : Marked mid u). x.only ts d u k) (λ (p : Part ts u (get_or (get_or rows t []) j 0)). inr (deeper (subst (Memᴰ (get_or (get_or rows t []) j 0)) (d t) (field_argument j h)) p)) (y.only ts d u m);
      }

  -- all arguments, and then t itself
  pub up_all : (before mid : List Bool) → t < length mid → MarkedUpTo rows arities t (get_or arities t 0) before mid → MarkedToo rows arities t before (set mid t true)
  up_all before mid h x =
      record {
        sized = length-set mid t true ∙ x.sized;
        closed = λ u m a k. kept_set mid t a h (⊎_elim (λ (e : u ≡ t). of_t a (subst (λ (v : ℕ). Memᴰ a (arguments_in rows arities v)) e k)) (λ (l : Marked mid u). x.closed u l a k) (set_marked mid t u m));
        reached = marked_set mid t h;
        kept = λ u m. kept_set mid t u h (x.kept u m);
        only = λ ts d u m. ⊎_elim (λ (e : u ≡ t). inr (subst (Part ts u) e itself)) (λ (l : Marked mid u). x.only ts d u l) (set_marked mid t u m);
      }
    where
      of_t : (a : ℕ) → Memᴰ a (arguments_in rows arities t) → Marked mid a
      of_t a k = let r = argument_field_is a k in subst (Marked mid) r.2 (x.reached r.0 r.1)

-- no argument yet
pub up_none : (rows : List (List ℕ)) (arities : List ℕ) (t : ℕ) (marks : List Bool) → Closed rows arities marks → MarkedUpTo rows arities t 0 marks marks
up_none rows arities t marks x = record { sized = refl; closed = x; reached = λ i h. absurd (not-suc-le-zero h); kept = λ u m. m; only = λ ts d u m. inl m }

-- a term that is marked already
pub already : (rows : List (List ℕ)) (arities : List ℕ) (t : ℕ) (marks : List Bool) → Closed rows arities marks → Marked marks t → MarkedToo rows arities t marks marks
already rows arities t marks x h = record { sized = refl; closed = x; reached = h; kept = λ u m. m; only = λ ts d u m. inl m }

-- ---- the terms inside the literals of a side

module _ (rows : List (List ℕ)) (arities ls : List ℕ) (side : Side) where
  -- the two sides of a record
  abbrev left_of : ℕ → ℕ
  left_of k = word_at (literal_record ls k) 2

  abbrev right_of : ℕ → ℕ
  right_of k = word_at (literal_record ls k) 4

  -- no literal yet
  pub inside_none : Inside rows arities ls side 0 (replicate 256 false)
  inside_none =
      record {
        sized = length-replicate 256 false;
        closed = none_closed 256 rows arities;
        reached = λ k h q. absurd (not-suc-le-zero h);
        only = λ ts d u m. absurd (none_marked 256 u m);
      }

  -- what stands in the first literals stands in one more of them
  stands_more : (ts : List Term) (count u : ℕ) → StandsIn ts ls side count u → StandsIn ts ls side (count + 1) u
  stands_more ts count u r = (r.0, omega (arith, r.1), r.2, r.3)

  -- a literal of the side: its two sides, which were read, are marked
  pub inside_more : (k : ℕ) (l : Literal) → l ≡ literal_of (literal_record ls k) → (marks mid after : List Bool) → same_side l.side side ≡ true → Inside rows arities ls side k marks → MarkedToo rows arities l.left marks mid → MarkedToo rows arities l.right mid after → Inside rows arities ls side (k + 1) after
  unfolding literal_of
  inside_more k l q marks mid after e x v w =
      let y : MarkedToo rows arities (left_of k) marks mid = subst (λ (f : Literal). MarkedToo rows arities f.left marks mid) q v in
      let z : MarkedToo rows arities (right_of k) mid after = subst (λ (f : Literal). MarkedToo rows arities f.right mid after) q w in
      let here : (literal_of (literal_record ls k)).side ≡ side = subst (λ (f : Literal). f.side ≡ side) q (same_side_eq l.side side (passes (same_side l.side side) e)) in
      record {
        sized = z.sized ∙ y.sized ∙ x.sized;
        closed = z.closed;
        reached = λ i h p. ⊎_elim (λ (m : i < k). let r = x.reached i m p in (z.kept (left_of i) (y.kept (left_of i) r.0), z.kept (right_of i) (y.kept (right_of i) r.1))) (λ (m : i ≡ k). subst (λ (n : ℕ). Marked after (left_of n) × Marked after (right_of n)) (sym m) (z.kept (left_of k) y.reached, z.reached)) (below_or_is i k (omega (arith, h)));
        only = λ ts d u m. ⊎_elim (λ (n : Marked mid u). ⊎_elim (λ (r : Marked marks u). stands_more ts k u (x.only ts d u r)) (λ (p : Part ts u (left_of k)). (k, omega arith, here, inl p)) (y.only ts d u n)) (λ (p : Part ts u (right_of k)). (k, omega arith, here, inr p)) (z.only ts d u m);
      }

  -- a literal of the other side: nothing is marked
  pub inside_same : (k : ℕ) (l : Literal) → l ≡ literal_of (literal_record ls k) → (marks : List Bool) → same_side l.side side ≡ false → Inside rows arities ls side k marks → Inside rows arities ls side (k + 1) marks
  inside_same k l q marks n x =
      record {
        sized = x.sized;
        closed = x.closed;
        reached = λ i h p. ⊎_elim (λ (m : i < k). x.reached i m p) (λ (m : i ≡ k). absurd (other (ap (λ (f : Literal). f.side) q ∙ ap (λ (j : ℕ). (literal_of (literal_record ls j)).side) (sym m) ∙ p))) (below_or_is i k (omega (arith, h)));
        only = λ ts d u m. stands_more ts k u (x.only ts d u m);
      }
    where
      other : l.side ≡ side → ⊥
      other e = subst T n (subst (λ (X : Side). T (same_side l.side X)) e (same_side_self l.side))

-- ---- marks and parts

-- where whatever is marked has its arguments marked, the parts of a marked term are marked
pub part_marked : (rows : List (List ℕ)) (arities : List ℕ) (ts : List Term) → Describes rows arities ts → (marks : List Bool) → Closed rows arities marks → {u t : ℕ} → Part ts u t → Marked marks t → Marked marks u
part_marked rows arities ts d marks x itself m = m
part_marked rows arities ts d marks x {u} {t} (deeper {a = a} k p) m = part_marked rows arities ts d marks x p (x t m a (subst (Memᴰ a) (sym (d t)) k))

module _ (rows : List (List ℕ)) (arities : List ℕ) (low : LowerRows rows arities) (ts : List Term) (d : Describes rows arities ts) (small : length ts ≤ 256) where
  -- arguments are lower in the terms, since they are in the rows
  pub lower_terms : LowerArguments ts
  lower_terms t h a m = low.lower t (omega arith) a (subst (Memᴰ a) (sym (d t)) m)

  -- with t and its parts marked and nothing else, no mark up to t is missing where each part passes: the parts are not above t
  pub all_parts : (marks occurring : List Bool) (t : ℕ) → t < length ts → MarkedToo rows arities t (replicate 256 false) marks → not (some_below (marked_and_missing marks occurring) (t + 1)) ≡ every (λ u. get_or occurring u false) (parts ts t)
  all_parts marks occurring t h x = same_test (not (some_below missing (t + 1))) (every occurs (parts ts t)) to from
    where
      missing : ℕ → Bool
      missing = marked_and_missing marks occurring

      occurs : ℕ → Bool
      occurs u = get_or occurring u false

      to : T (not (some_below missing (t + 1))) → T (every occurs (parts ts t))
      to k = all_every occurs (parts ts t) (λ u m. let p = mem_part ts t u m in ⊎_elim (λ (w : T (occurs u)). w) (λ (w : T (not (occurs u))). absurd (T_not (some_below missing (t + 1)) k (some_some_below missing (t + 1) u (omega (arith, part_le ts lower_terms h p)) (and_both (get_or marks u false) (not (occurs u)) (part_marked rows arities ts d marks x.closed p x.reached) w)))) (decide (occurs u)))

      from : T (every occurs (parts ts t)) → T (not (some_below missing (t + 1)))
      from k = not_T (some_below missing (t + 1)) (λ w. let r = some_below_some missing (t + 1) w in let m = and_left (get_or marks r.0 false) (not (occurs r.0)) r.2 in T_not (occurs r.0) (and_right (get_or marks r.0 false) (not (occurs r.0)) r.2) (⊎_elim (λ (z : Marked (replicate 256 false) r.0). absurd (none_marked 256 r.0 z)) (λ (p : Part ts r.0 t). every_all occurs k (part_mem ts lower_terms h p)) (x.only ts d r.0 m)))
