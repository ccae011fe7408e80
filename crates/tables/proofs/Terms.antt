-- Laws of terms: what is worked out all the way down follows from the arguments, and terms behind the given ones change nothing of it.
use mathlib.Core.List.Memᴰ
use mathlib.Core.List.{List, [], ◌∷◌, ◌++◌, map, flat_map, Memᴰ}
use mathlib.Core.Logic.{◌⊎◌, inl, inr}
use mathlib.Core.Path.{◌≡◌, refl, sym, ap, ap₂, subst, ◌∙◌}
use Prim.Native.Nat.{ℕ, zero, suc, ◌≤◌, ◌<◌}
use native.Mathlib.Nat.{le_refl, not-suc-le-zero}
use native.Mathlib.Omega.{arith}
use lib.ListN.{length, length-append, get_or-append}
use Rattle.tables.specs.Terms.{Term, term_at, down_to, down, parts, symbols}
use Rattle.tables.specs.Parts.{Part, itself, deeper, LowerArguments}
use Rattle.tables.specs.Interpretations.{Interpretation, value}
use Rattle.tables.proofs.Words.{flat_map_mem, mem_flat_map}

-- functions that agree on the members of a list give one list
pub map_agree {ℓ κ} : {A : Type ℓ} {B : Type κ} (f g : A → B) (xs : List A) → ((x : A) → Memᴰ x xs → f x ≡ g x) → map f xs ≡ map g xs
map_agree f g [] h = refl
map_agree f g (x ∷ xs) h = ap₂ (λ a b. a ∷ b) (h x (Memᴰ.head refl)) (map_agree f g xs (λ y m. h y (Memᴰ.tail m)))

-- a given term is the same where more terms stand behind
pub term_at_append : (ts more : List Term) (t : ℕ) → t < length ts → term_at (ts ++ more) t ≡ term_at ts t
term_at_append ts more t h = get_or-append ts more _ t h

pub lower_append : (ts more : List Term) → LowerArguments (ts ++ more) → LowerArguments ts
lower_append ts more low t h a m = low t (omega (arith, length-append ts more)) a (subst (λ x. Memᴰ a x.arguments) (sym (term_at_append ts more t h)) m)

module _ {ℓ} {X : Type ℓ} (f : ℕ → Term → List X → X) (x : X) where
  -- more depth changes nothing
  pub down_to_enough : (ts : List Term) → LowerArguments ts → (d d' t : ℕ) → t < length ts → t < d → t < d' → down_to f x ts d t ≡ down_to f x ts d' t
  unfolding down_to
  down_to_enough ts low zero d' t h k k' = absurd (not-suc-le-zero k)
  down_to_enough ts low (suc d) zero t h k k' = absurd (not-suc-le-zero k')
  down_to_enough ts low (suc d) (suc d') t h k k' = ap (f t (term_at ts t)) (map_agree (down_to f x ts d) (down_to f x ts d') (term_at ts t).arguments (λ a m. down_to_enough ts low d d' a (omega (arith, low t h a m)) (omega (arith, low t h a m)) (omega (arith, low t h a m))))

  -- what is made of a term is made of what its arguments give
  pub down_law : (ts : List Term) → LowerArguments ts → (t : ℕ) → t < length ts → down f x ts t ≡ f t (term_at ts t) (map (down f x ts) (term_at ts t).arguments)
  unfolding down down_to
  down_law ts low t h = ap (f t (term_at ts t)) (map_agree (down_to f x ts t) (down f x ts) (term_at ts t).arguments (λ a m. down_to_enough ts low t (suc a) a (omega (arith, low t h a m)) (low t h a m) (le_refl (suc a))))

  -- terms behind change nothing
  pub down_to_append : (ts more : List Term) → LowerArguments ts → (d t : ℕ) → t < length ts → down_to f x (ts ++ more) d t ≡ down_to f x ts d t
  unfolding down_to
  down_to_append ts more low zero t h = refl
  down_to_append ts more low (suc d) t h =
      ap (λ (u : Term). f t u (map (down_to f x (ts ++ more) d) u.arguments)) (term_at_append ts more t h) ∙
      ap (f t (term_at ts t)) (map_agree (down_to f x (ts ++ more) d) (down_to f x ts d) (term_at ts t).arguments (λ a m. down_to_append ts more low d a (omega (arith, low t h a m))))

  pub down_append : (ts more : List Term) → LowerArguments ts → (t : ℕ) → t < length ts → down f x (ts ++ more) t ≡ down f x ts t
  unfolding down
  down_append ts more low t h = down_to_append ts more low (suc t) t h

-- ---- parts

-- what the list of parts holds is a part
pub parts_part : (ts : List Term) (d t u : ℕ) → Memᴰ u (down_to (λ t term below. t ∷ flat_map (λ ps. ps) below) [] ts d t) → Part ts u t
unfolding down_to
parts_part ts zero t u m = absurd (Memᴰ.not-nil m)
parts_part ts (suc d) t u m = go (Memᴰ.cases_cons m) (λ a k. parts_part ts d a u k)
  where
    step : ℕ → List ℕ
    step = down_to (λ t term below. t ∷ flat_map (λ ps. ps) below) [] ts d

    go : (u ≡ t) ⊎ Memᴰ u (flat_map (λ ps. ps) (map step (term_at ts t).arguments)) → ((a : ℕ) → Memᴰ u (step a) → Part ts u a) → Part ts u t
    go (inl e) f = subst (λ (v : ℕ). Part ts u v) e itself
    go (inr k) f =
        let r = flat_map_mem (λ ps. ps) (map step (term_at ts t).arguments) k in
        let q = Memᴰ.of_map step (term_at ts t).arguments r.1 in
        deeper q.1 (f q.0 (subst (λ l. Memᴰ u l) (sym q.2) r.2))

pub mem_part : (ts : List Term) (t u : ℕ) → Memᴰ u (parts ts t) → Part ts u t
unfolding parts down
mem_part ts t u m = parts_part ts (suc t) t u m

pub parts_law : (ts : List Term) → LowerArguments ts → (t : ℕ) → t < length ts → parts ts t ≡ t ∷ flat_map (λ ps. ps) (map (parts ts) (term_at ts t).arguments)
unfolding parts
parts_law ts low t h = down_law (λ t term below. t ∷ flat_map (λ ps. ps) below) [] ts low t h

-- and the other way round
pub part_mem : (ts : List Term) → LowerArguments ts → {u t : ℕ} → t < length ts → Part ts u t → Memᴰ u (parts ts t)
part_mem ts low {u} {t} h itself = subst (λ l. Memᴰ t l) (sym (parts_law ts low t h)) (Memᴰ.head refl)
part_mem ts low {u} {t} h (deeper {a = a} m p) =
    subst (λ l. Memᴰ u l) (sym (parts_law ts low t h)) (Memᴰ.tail (mem_flat_map (λ ps. ps) (Memᴰ.map (parts ts) m) (part_mem ts low (omega (arith, low t h a m)) p)))

pub part_le : (ts : List Term) → LowerArguments ts → {u t : ℕ} → t < length ts → Part ts u t → u ≤ t
part_le ts low {u} {t} h itself = le_refl t
part_le ts low {u} {t} h (deeper {a = a} m p) = omega (arith, low t h a m, part_le ts low (omega (arith, low t h a m)) p)

pub part_trans : (ts : List Term) {w u t : ℕ} → Part ts u t → Part ts w u → Part ts w t
part_trans ts itself q = q
part_trans ts (deeper m p) q = deeper m (part_trans ts p q)

pub parts_append : (ts more : List Term) → LowerArguments ts → (t : ℕ) → t < length ts → parts (ts ++ more) t ≡ parts ts t
unfolding parts
parts_append ts more low t h = down_append (λ t term below. t ∷ flat_map (λ ps. ps) below) [] ts more low t h

-- ---- symbols

-- a symbol of a term is the symbol of a part
pub symbol_of_part : (ts : List Term) (t : ℕ) {f : ℕ} → Memᴰ f (symbols ts t) → (u : ℕ) × Part ts u t × ((term_at ts u).symbol ≡ f)
unfolding symbols
symbol_of_part ts t m = let r = Memᴰ.of_map (λ u. (term_at ts u).symbol) (parts ts t) m in (r.0, mem_part ts t r.0 r.1, r.2)

pub part_symbol : (ts : List Term) → LowerArguments ts → {t u : ℕ} → t < length ts → Part ts u t → Memᴰ (term_at ts u).symbol (symbols ts t)
unfolding symbols
part_symbol ts low h p = Memᴰ.map (λ u. (term_at ts u).symbol) (part_mem ts low h p)

pub symbols_append : (ts more : List Term) → LowerArguments ts → (t : ℕ) → t < length ts → symbols (ts ++ more) t ≡ symbols ts t
unfolding symbols
symbols_append ts more low t h =
    ap (map (λ u. (term_at (ts ++ more) u).symbol)) (parts_append ts more low t h) ∙
    map_agree (λ u. (term_at (ts ++ more) u).symbol) (λ u. (term_at ts u).symbol) (parts ts t) (λ u m. ap (λ (x : Term). x.symbol) (term_at_append ts more u (omega (arith, part_le ts low h (mem_part ts t u m)))))

-- ---- values

module _ (I : Interpretation) where
  -- "the value of a term": its symbol's function at the values of its arguments
  pub value_law : (ts : List Term) → LowerArguments ts → (t : ℕ) → t < length ts → value I ts t ≡ I.function (term_at ts t).symbol (map (value I ts) (term_at ts t).arguments)
  unfolding value
  value_law ts low t h = down_law (λ t term values. I.function term.symbol values) I.member ts low t h

  pub value_append : (ts more : List Term) → LowerArguments ts → (t : ℕ) → t < length ts → value I (ts ++ more) t ≡ value I ts t
  unfolding value
  value_append ts more low t h = down_append (λ t term values. I.function term.symbol values) I.member ts more low t h

  -- every value lies in the domain
  pub value_in : (ts : List Term) (t : ℕ) → I.Domain (value I ts t)
  unfolding value down down_to
  value_in ts t = go (suc t) t
    where
      go : (d u : ℕ) → I.Domain (down_to (λ t term values. I.function term.symbol values) I.member ts d u)
      go zero u = I.member_in
      go (suc d) u = I.function_in (term_at ts u).symbol (map (down_to (λ t term values. I.function term.symbol values) I.member ts d) (term_at ts u).arguments) (λ y m. let r = Memᴰ.of_map (down_to (λ t term values. I.function term.symbol values) I.member ts d) (term_at ts u).arguments m in subst I.Domain r.2 (go d r.0))
