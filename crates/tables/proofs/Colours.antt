-- Laws of terms in use and of colours.
use mathlib.Core.Bool.{Bool, true, false, cond, ◌&&◌}
use mathlib.Core.List.{List, ◌++◌, Memᴰ}
use mathlib.Core.Logic.{◌⊎◌, inl, inr, ⊎_elim}
use mathlib.Core.Path.{◌≡◌, refl, sym, ap, ap₂, subst}
use Prim.Native.Nat.{ℕ, ◌+◌, ◌%◌, ◌<◌}
use native.Mathlib.Omega.{arith}
use lib.Dec.{T, eqb, leb, eqb→eq}
use lib.ListN.{length}
use Rattle.tables.specs.Words.{every, among}
use Rattle.tables.specs.Terms.{Term, term_at, parts, symbols}
use Rattle.tables.specs.Parts.{Part, itself, deeper, LowerArguments}
use Rattle.tables.specs.LiteralTable.{Side, A, B, same_side}
use Rattle.tables.specs.declared.Literal.{Literal}
use Rattle.tables.specs.Colours.{is_in_use, occurs_in, colourable, shared, edge_colourable}
use Rattle.tables.specs.Read.{colour_number}
use Rattle.tables.proofs.Words.{and_left, and_right, and_both, any_some, some_any, every_all, all_every, among_mem, mem_among}
use Rattle.tables.proofs.Terms.{mem_part, part_mem, part_le, part_trans, symbol_of_part, part_symbol, symbols_append}

pub same_side_eq : (X Y : Side) → T (same_side X Y) → X ≡ Y
same_side_eq A A h = refl
same_side_eq A B h = absurd h
same_side_eq B A h = absurd h
same_side_eq B B h = refl

pub same_side_self : (X : Side) → T (same_side X X)
same_side_self A = tt
same_side_self B = tt

-- the sides of every literal are terms of the table
abbrev pub SidesWithin : List Term → List Literal → Type 0
SidesWithin ts ls = (l : Literal) → Memᴰ l ls → (l.left < length ts) × (l.right < length ts)

-- t is a part of a side of the literal
abbrev pub PartOf : List Term → ℕ → Literal → Type 0
PartOf ts t l = Part ts t l.left ⊎ Part ts t l.right

module _ (ts : List Term) (ls : List Literal) (low : LowerArguments ts) (within : SidesWithin ts ls) where
  -- what is a part of a side of a literal stands among the parts of both, and the other way round
  sides_parts : (l : Literal) → Memᴰ l ls → (t : ℕ) → PartOf ts t l → Memᴰ t (parts ts l.left ++ parts ts l.right)
  sides_parts l m t (inl p) = mathlib.Core.List.Memᴰ.append_left (parts ts l.right) (part_mem ts low (within l m).0 p)
  sides_parts l m t (inr p) = mathlib.Core.List.Memᴰ.append_right (parts ts l.left) (part_mem ts low (within l m).1 p)

  -- "Terms in use are the sides of all literals and, repeatedly, their arguments."
  pub in_use_part : (t : ℕ) → T (is_in_use ts ls t) → (l : Literal) × Memᴰ l ls × PartOf ts t l
  unfolding is_in_use
  in_use_part t h =
      let r = any_some (λ (l : Literal). among t (parts ts l.left ++ parts ts l.right)) ls h in
      (r.0, r.1, ⊎_elim (λ m. inl (mem_part ts r.0.left t m)) (λ m. inr (mem_part ts r.0.right t m)) (mathlib.Core.List.Memᴰ.append_cases (parts ts r.0.left) (among_mem t (parts ts r.0.left ++ parts ts r.0.right) r.2)))

  pub part_in_use : (l : Literal) → Memᴰ l ls → (t : ℕ) → PartOf ts t l → T (is_in_use ts ls t)
  unfolding is_in_use
  part_in_use l m t p = some_any (λ (l : Literal). among t (parts ts l.left ++ parts ts l.right)) m (mem_among (sides_parts l m t p))

  pub left_in_use : (l : Literal) → Memᴰ l ls → T (is_in_use ts ls l.left)
  left_in_use l m = part_in_use l m l.left (inl itself)

  pub right_in_use : (l : Literal) → Memᴰ l ls → T (is_in_use ts ls l.right)
  right_in_use l m = part_in_use l m l.right (inr itself)

  pub in_use_within : (t : ℕ) → T (is_in_use ts ls t) → t < length ts
  in_use_within t h =
      let r = in_use_part t h in
      let w = within r.0 r.1 in
      ⊎_elim (λ p. omega (arith, part_le ts low w.0 p, w.0)) (λ p. omega (arith, part_le ts low w.1 p, w.1)) r.2

  pub in_use_argument : (t a : ℕ) → T (is_in_use ts ls t) → Memᴰ a (term_at ts t).arguments → T (is_in_use ts ls a)
  in_use_argument t a h m =
      let r = in_use_part t h in
      part_in_use r.0 r.1 a (⊎_elim (λ p. inl (part_trans ts p (deeper m itself))) (λ p. inr (part_trans ts p (deeper m itself))) r.2)

  -- "occurs in some A literal": it is the symbol of a part of a side of one
  pub occurs_part : (X : Side) (f : ℕ) → T (occurs_in ts ls X f) → (l : Literal) × Memᴰ l ls × (l.side ≡ X) × ((u : ℕ) × PartOf ts u l × ((term_at ts u).symbol ≡ f))
  unfolding occurs_in
  occurs_part X f h =
      let r = any_some (λ (l : Literal). same_side l.side X && among f (symbols ts l.left ++ symbols ts l.right)) ls h in
      let l = r.0 in
      let k = and_right (same_side l.side X) (among f (symbols ts l.left ++ symbols ts l.right)) r.2 in (
        l,
        r.1,
        same_side_eq l.side X (and_left (same_side l.side X) (among f (symbols ts l.left ++ symbols ts l.right)) r.2),
        ⊎_elim (λ m. let q = symbol_of_part ts l.left m in (q.0, inl q.1, q.2)) (λ m. let q = symbol_of_part ts l.right m in (q.0, inr q.1, q.2)) (mathlib.Core.List.Memᴰ.append_cases (symbols ts l.left) (among_mem f (symbols ts l.left ++ symbols ts l.right) k)),
      )

  pub part_occurs : (X : Side) (l : Literal) → Memᴰ l ls → l.side ≡ X → (u : ℕ) → PartOf ts u l → T (occurs_in ts ls X (term_at ts u).symbol)
  unfolding occurs_in
  part_occurs X l m e u p =
      let f = (term_at ts u).symbol in
      let stands : PartOf ts u l → Memᴰ f (symbols ts l.left ++ symbols ts l.right) = ⊎_elim (λ q. mathlib.Core.List.Memᴰ.append_left (symbols ts l.right) (part_symbol ts low (within l m).0 q)) (λ q. mathlib.Core.List.Memᴰ.append_right (symbols ts l.left) (part_symbol ts low (within l m).1 q)) in
      some_any (λ (l : Literal). same_side l.side X && among f (symbols ts l.left ++ symbols ts l.right)) m
      (and_both (same_side l.side X) (among f (symbols ts l.left ++ symbols ts l.right)) (subst (λ (Y : Side). T (same_side Y X)) (sym e) (same_side_self X)) (mem_among (stands p)))

  -- a part of a side of an A literal is A-colourable, one of a B literal B-colourable
  pub part_colourable : (X : Side) (l : Literal) → Memᴰ l ls → l.side ≡ X → (u : ℕ) → PartOf ts u l → T (colourable ts ls X ts u)
  unfolding colourable
  part_colourable X l m e u p =
      all_every (occurs_in ts ls X) (symbols ts u)
      (λ f k. let q = symbol_of_part ts u k in subst (λ (g : ℕ). T (occurs_in ts ls X g)) q.2 (part_occurs X l m e q.0 (⊎_elim (λ r. inl (part_trans ts r q.1)) (λ r. inr (part_trans ts r q.1)) p)))

  -- every term in use is A-colourable or B-colourable, since it stands inside some literal
  pub in_use_colourable : (t : ℕ) → T (is_in_use ts ls t) → T (colourable ts ls A ts t) ⊎ T (colourable ts ls B ts t)
  in_use_colourable t h = let r = in_use_part t h in go r.0.side (λ X e. part_colourable X r.0 r.1 e t r.2) refl
    where
      go : (Y : Side) → ((X : Side) → (in_use_part t h).0.side ≡ X → T (colourable ts ls X ts t)) → (in_use_part t h).0.side ≡ Y → T (colourable ts ls A ts t) ⊎ T (colourable ts ls B ts t)
      go A f e = inl (f A e)
      go B f e = inr (f B e)

-- ---- colours in any table

module _ (ts : List Term) (ls : List Literal) (X : Side) (table : List Term) where
  pub colourable_symbol : (t f : ℕ) → T (colourable ts ls X table t) → Memᴰ f (symbols table t) → T (occurs_in ts ls X f)
  unfolding colourable
  colourable_symbol t f h m = every_all (occurs_in ts ls X) h m

  pub symbols_colourable : (t : ℕ) → ((f : ℕ) → Memᴰ f (symbols table t) → T (occurs_in ts ls X f)) → T (colourable ts ls X table t)
  unfolding colourable
  symbols_colourable t h = all_every (occurs_in ts ls X) (symbols table t) h

  -- each part of a colourable term is colourable
  pub colourable_part : LowerArguments table → (t u : ℕ) → t < length table → T (colourable ts ls X table t) → Part table u t → T (colourable ts ls X table u)
  colourable_part low t u h k p = symbols_colourable u (λ f m. let q = symbol_of_part table u m in subst (λ (g : ℕ). T (occurs_in ts ls X g)) q.2 (colourable_symbol t (term_at table q.0).symbol k (part_symbol table low h (part_trans table p q.1))))

  pub colourable_argument : LowerArguments table → (t a : ℕ) → t < length table → T (colourable ts ls X table t) → Memᴰ a (term_at table t).arguments → T (colourable ts ls X table a)
  colourable_argument low t a h k m = colourable_part low t a h k (deeper m itself)

  -- the own symbol of a colourable term occurs on that side
  pub colourable_own : LowerArguments table → (t : ℕ) → t < length table → T (colourable ts ls X table t) → T (occurs_in ts ls X (term_at table t).symbol)
  colourable_own low t h k = colourable_symbol t (term_at table t).symbol k (part_symbol table low h itself)

  -- a term whose own symbol occurs and whose arguments are colourable is colourable
  pub colourable_built : LowerArguments table → (t : ℕ) → t < length table → T (occurs_in ts ls X (term_at table t).symbol) → ((a : ℕ) → Memᴰ a (term_at table t).arguments → T (colourable ts ls X table a)) → T (colourable ts ls X table t)
  colourable_built low t h k g = symbols_colourable t (λ f m. let q = symbol_of_part table t m in subst (λ (z : ℕ). T (occurs_in ts ls X z)) q.2 (go q.1))
    where
      go : {u : ℕ} → Part table u t → T (occurs_in ts ls X (term_at table u).symbol)
      go itself = k
      go {u} (deeper {a = a} m p) = colourable_symbol a (term_at table u).symbol (g a m) (part_symbol table low (omega (arith, low t h a m)) p)

  pub colourable_append : (more : List Term) → LowerArguments table → (t : ℕ) → t < length table → colourable ts ls X (table ++ more) t ≡ colourable ts ls X table t
  unfolding colourable
  colourable_append more low t h = ap (every (occurs_in ts ls X)) (symbols_append table more low t h)

-- an edge is colourable where both its ends are
pub edge_colourable_ends : (ts : List Term) (ls : List Literal) (X : Side) (table : List Term) (s t : ℕ) → edge_colourable ts ls X table s t ≡ colourable ts ls X table s && colourable ts ls X table t
unfolding edge_colourable
edge_colourable_ends ts ls X table s t = refl

-- ---- a term's colours as one number

-- the colours as one number: it is odd where a term is A-colourable
pub odd_test : (ts : List Term) (ls : List Literal) (table : List Term) (v : ℕ) → eqb (colour_number ts ls table v % 2) 1 ≡ colourable ts ls A table v
unfolding colour_number
odd_test ts ls table v = go (colourable ts ls A table v) (colourable ts ls B table v)
  where
    go : (a b : Bool) → eqb ((cond a 1 0 + cond b 2 0) % 2) 1 ≡ a
    go true true = refl
    go true false = refl
    go false true = refl
    go false false = refl

-- and 2 or more where it is B-colourable
pub two_test : (ts : List Term) (ls : List Literal) (table : List Term) (v : ℕ) → leb 2 (colour_number ts ls table v) ≡ colourable ts ls B table v
unfolding colour_number
two_test ts ls table v = go (colourable ts ls A table v) (colourable ts ls B table v)
  where
    go : (a b : Bool) → leb 2 (cond a 1 0 + cond b 2 0) ≡ b
    go true true = refl
    go true false = refl
    go false true = refl
    go false false = refl

-- and 3 where it is shared
pub shared_test : (ts : List Term) (ls : List Literal) (table : List Term) (v : ℕ) → eqb (colour_number ts ls table v) 3 ≡ shared ts ls table v
unfolding colour_number shared
shared_test ts ls table v = go (colourable ts ls A table v) (colourable ts ls B table v)
  where
    go : (a b : Bool) → eqb (cond a 1 0 + cond b 2 0) 3 ≡ a && b
    go true true = refl
    go true false = refl
    go false true = refl
    go false false = refl

pub shared_number : (ts : List Term) (ls : List Literal) (table : List Term) (v : ℕ) → T (shared ts ls table v) → colour_number ts ls table v ≡ 3
shared_number ts ls table v h = eqb→eq (colour_number ts ls table v) 3 (subst T (sym (shared_test ts ls table v)) h)

-- terms behind the table change no colour
pub number_append : (ts : List Term) (ls : List Literal) (table more : List Term) → LowerArguments table → (v : ℕ) → v < length table → colour_number ts ls (table ++ more) v ≡ colour_number ts ls table v
unfolding colour_number
number_append ts ls table more lower v h =
    ap₂ (λ (a b : Bool). cond a 1 0 + cond b 2 0) (colourable_append ts ls A table more lower v h) (colourable_append ts ls B table more lower v h)
