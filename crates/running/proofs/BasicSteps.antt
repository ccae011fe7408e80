-- The basic steps, one record after the other: what the fields of a record say, one turn more, and a bound on the edges.
use mathlib.Core.Bool.{Bool, true, false, cond, not, ◌&&◌}
use mathlib.Core.List.Memᴰ
use mathlib.Core.List.{List, [], ◌∷◌, ◌++◌, Memᴰ}
use mathlib.Core.Path.{◌≡◌, refl, sym, ap, ap₂, subst, ◌∙◌}
use Prim.Native.Nat.{ℕ, ◌+◌, ◌≤◌, ◌<◌}
use native.Mathlib.Numerals.{add-one}
use native.Mathlib.Omega.{arith}
use lib.Dec.{eqb}
use lib.ListN.{length, get_or, take, drop, take-append-drop}
use lib.Seq.{take-suc, take_all}
use Rattle.tables.specs.Words.{below}
use Rattle.tables.specs.Checks.{Sound, checked}
use Rattle.tables.specs.TermTable.{term_count, terms_of}
use Rattle.tables.specs.LiteralTable.{is_equal, literal_count, literal_record, literal_of, literals_of}
use Rattle.tables.specs.declared.Literal.{Literal}
use Rattle.tables.specs.declared.Kind.TheVariants.{Equal}
use Rattle.tables.specs.declared.Side.TheVariants.{A}
use Rattle.tables.proofs.Words.{and_right, passes, length_below, mem_below}
use Rattle.tables.proofs.Sound.{SoundTables, sound, sound_literal, sides_within, length_terms_of, length_literals_of, literal_at_is}
use Rattle.closure.proofs.Walking.Joined.{joined_by}
use Rattle.closure.specs.Graph.{Graph, joined}
use Rattle.closure.specs.declared.EdgeKind.TheVariants.{Basic as basic}
use Rattle.closure.specs.Steps.{State, begin, with_edge}
use Rattle.closure.specs.OwnRun.{basic_steps}
use Rattle.reading.specs.Fields.{fields_of}
use Rattle.reading.specs.declared.literal.Fields.{Fields}
use Rattle.reading.proofs.Sides.{sides_below}
use Rattle.running.specs.Shown.{Shows}
use Rattle.running.specs.declared.state.State.{State as Arrays}
use Rattle.closure.proofs.Walking.Invariant.{Forest}
use Rattle.closure.proofs.Walking.Count.{EndsIn, once_below, fewer_edges}
use Rattle.running.proofs.Showing.{shown_label}

-- ---- the steps of a list of literals

-- the basic step of one literal, or none
abbrev pub step_by : Literal → State → State
step_by l st = cond (is_equal l.kind && not (joined st.graph l.left l.right)) (with_edge st l.left l.right l.side basic) st

-- first the one list, then the other
steps_append : (xs ys : List Literal) (st : State) → basic_steps (xs ++ ys) st ≡ basic_steps ys (basic_steps xs st)
unfolding basic_steps
steps_append [] ys st = refl
steps_append (x ∷ xs) ys st = steps_append xs ys (step_by x st)

-- one literal more
pub steps_more : (ls : List Literal) (i : ℕ) (d : Literal) (st : State) → i < length ls → basic_steps (take (i + 1) ls) st ≡ step_by (get_or ls i d) (basic_steps (take i ls) st)
unfolding basic_steps
steps_more ls i d st h =
    ap (λ (n : ℕ). basic_steps (take n ls) st) (add-one i) ∙
    ap (λ (xs : List Literal). basic_steps xs st) (take-suc ls i d h) ∙
    steps_append (take i ls) (get_or ls i d ∷ []) st

-- no edge closes a cycle, and all ends are numbers below n
abbrev pub Bounded : ℕ → Graph → Type 0
Bounded n G = Forest G × EndsIn (below n) G

step_bounded : (n : ℕ) (l : Literal) (st : State) → l.left < n → l.right < n → Bounded n st.graph → Bounded n (step_by l st).graph
step_bounded n l st h k w = go (is_equal l.kind && not (joined st.graph l.left l.right)) refl
  where
    go : (b : Bool) → is_equal l.kind && not (joined st.graph l.left l.right) ≡ b → Bounded n (cond b (with_edge st l.left l.right l.side basic) st).graph
    go true e =
        let apart = and_right (is_equal l.kind) (not (joined st.graph l.left l.right)) (passes _ e) in
        ((apart, w.0), ((mem_below n l.left h, mem_below n l.right k), w.1))
    go false e = w

pub steps_bounded : (n : ℕ) (ls : List Literal) (st : State) → ((l : Literal) → Memᴰ l ls → (l.left < n) × (l.right < n)) → Bounded n st.graph → Bounded n (basic_steps ls st).graph
unfolding basic_steps
steps_bounded n [] st f w = w
steps_bounded n (l ∷ ls) st f w =
    let here = f l (Memᴰ.head refl) in
    steps_bounded n ls (step_by l st) (λ x m. f x (Memᴰ.tail m)) (step_bounded n l st here.0 here.1 w)

-- so there are fewer edges than numbers
pub bounded_edges : (n : ℕ) (G : Graph) → Bounded n G → 0 < n → length G < n
bounded_edges n G w h =
    subst (λ (m : ℕ). length G < m) (length_below n) (fewer_edges G w.0 (below n) (once_below n) w.1 (subst (λ (m : ℕ). 0 < m) (sym (length_below n)) h))

-- a member of the first i is a member
pub mem_take : {x : Literal} (i : ℕ) (ls : List Literal) → Memᴰ x (take i ls) → Memᴰ x ls
mem_take {x} i ls m = subst (Memᴰ x) (take-append-drop i ls) (Memᴰ.append_left (drop i ls) m)

-- ---- the records of the literal table

abbrev pub no_literal : Literal
no_literal = record { side = A; kind = Equal; left = 0; right = 0 }

module _ (bs ls : List ℕ) (passed : checked bs ls ≡ Sound) where
  abbrev pub all : List Literal
  all = literals_of ls

  -- what the checks settle
  settled : SoundTables bs ls
  settled = sound bs ls passed

  pub length_literals : length all ≡ literal_count ls
  length_literals = length_literals_of ls

  module _ (k : ℕ) (h : k < literal_count ls) where
    abbrev literal : Literal
    literal = get_or all k no_literal

    -- as it is read
    pub literal_is : {l : Literal} → l ≡ literal_of (literal_record ls k) → l ≡ literal
    literal_is read = read ∙ sym (literal_at_is ls k no_literal h)

    -- its sides are terms of the table
    pub sides_in : {l : Literal} → l ≡ literal_of (literal_record ls k) → (l.left < term_count bs) × (l.right < term_count bs)
    unfolding literal_of
    sides_in read =
        let low = sound_literal bs ls settled k h in
        (subst (λ (l : Literal). l.left < term_count bs) (sym read) low.left, subst (λ (l : Literal). l.right < term_count bs) (sym read) low.right)

    -- and so fit the label array
    pub sides_small : {l : Literal} → l ≡ literal_of (literal_record ls k) → (l.left < 256) × (l.right < 256)
    sides_small read = let low = sides_in read in (omega (arith, low.0, settled.terms_fit), omega (arith, low.1, settled.terms_fit))

    -- and so do those that its fields say
    pub sides_read : {l : Fields} → l ≡ fields_of (literal_record ls k) → (l.left < 256) × (l.right < 256)
    unfolding literal_of
    sides_read read = let small = sides_small refl in sides_below ls k 256 read small.0 small.1

  -- ---- the turns

  -- the state after i records
  abbrev pub after : ℕ → State
  after i = basic_steps (take i all) begin

  -- the arrays show it
  abbrev pub ShowsAfter : ℕ → Arrays → Type 0
  ShowsAfter i s = Shows (terms_of bs) all (after i) s

  -- before the first record nothing is done
  pub after_none : (s : Arrays) → Shows (terms_of bs) all begin s → ShowsAfter 0 s
  unfolding basic_steps
  after_none s h = h

  -- after the last all steps are taken
  pub after_all : (i : ℕ) (s : Arrays) → ShowsAfter i s → literal_count ls ≤ i → Shows (terms_of bs) all (basic_steps all begin) s
  after_all i s h l = subst (λ (xs : List Literal). Shows (terms_of bs) all (basic_steps xs begin) s) (take_all i all (omega (arith, length_literals))) h

  -- it has fewer edges than there are terms
  pub after_edges : (i : ℕ) (s : Arrays) → ShowsAfter i s → i < literal_count ls → s.graph.count < 256
  after_edges i s h l =
      let n = term_count bs in
      let w = steps_bounded n (take i all) begin
      (λ l m. let r = sides_within bs ls settled l (mem_take i all m) in
      (omega (arith, r.0, length_terms_of bs), omega (arith, r.1, length_terms_of bs))) (tt, tt) in
      omega (arith, h.count, bounded_edges n (after i).graph w (omega (arith, (sides_in i l refl).0)), settled.terms_fit)

  module _ (i : ℕ) (h : i < literal_count ls) (l : Literal) (read : l ≡ literal_of (literal_record ls i)) (s : Arrays) (shows : ShowsAfter i s) where
    -- the test that the code makes of a literal
    abbrev pub test : Bool
    test = is_equal l.kind && not (eqb (get_or s.labels l.left 0) (get_or s.labels l.right 0))

    -- is whether a step is taken
    test_is : test ≡ is_equal l.kind && not (joined (after i).graph l.left l.right)
    test_is =
        let small = sides_small i h read in
        let at_left = shown_label (terms_of bs) all (after i) s shows l.left (omega (arith, small.0)) in
        let at_right = shown_label (terms_of bs) all (after i) s shows l.right (omega (arith, small.1)) in
        ap (λ (b : Bool). is_equal l.kind && not b) (ap₂ eqb at_left at_right ∙ sym (joined_by (after i).graph l.left l.right))

    -- the state after one record more
    after_more : after (i + 1) ≡ step_by l (after i)
    after_more = steps_more all i no_literal begin (omega (arith, length_literals)) ∙ ap (λ (x : Literal). step_by x (after i)) (sym (literal_is i h read))

    -- by the test
    step_is : (b : Bool) → test ≡ b → after (i + 1) ≡ cond b (with_edge (after i) l.left l.right l.side basic) (after i)
    step_is b e = after_more ∙ ap (λ (x : Bool). cond x (with_edge (after i) l.left l.right l.side basic) (after i)) (sym test_is ∙ e)

    -- a record whose step is taken
    pub turn_taken : test ≡ true → (r : Arrays) → ((st : State) → Shows (terms_of bs) all st s → Shows (terms_of bs) all (with_edge st l.left l.right l.side basic) r) → ShowsAfter (i + 1) r
    turn_taken e r g = subst (λ (st : State). Shows (terms_of bs) all st r) (sym (step_is true e)) (g (after i) shows)

    -- a record that is skipped
    pub turn_left : test ≡ false → ShowsAfter (i + 1) s
    turn_left e = subst (λ (st : State). Shows (terms_of bs) all st s) (sym (step_is false e)) shows
