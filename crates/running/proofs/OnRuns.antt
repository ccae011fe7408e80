-- What the arrays of a state of a run hold: numbers that fit, rows of four, a rooted forest to choose on, and room for the next step.
use Rattle.std.specs.Option.{ok_or}
use Rattle.std.proofs.Common.{Option, Some, None, option_map, Ok, Err}
use mathlib.Core.Bool.{not}
use mathlib.Core.List.{List, [], ◌∷◌, ◌++◌, append_assoc}
use mathlib.Core.Logic.{⊎_elim}
use mathlib.Core.Path.{◌≡◌, sym, ap, subst, ◌∙◌}
use Prim.Native.Nat.{ℕ, ◌≤◌, ◌<◌}
use native.Mathlib.Omega.{arith}
use lib.Dec.{T, not_T}
use lib.ListN.{length, get_or, length-append, length-map}
use Rattle.tables.specs.Terms.{Term, term_at}
use Rattle.tables.specs.declared.Literal.{Literal}
use Rattle.tables.specs.declared.Side.TheVariants.{A, B}
use Rattle.tables.specs.Colours.{colourable, shared}
use Rattle.tables.proofs.Words.{and_both, below_or_not}
use Rattle.tables.proofs.Colours.{in_use_within}
use Rattle.closure.specs.Graph.{Graph, label, joined, joined_pairwise}
use Rattle.closure.specs.Steps.{State, table_of, vertex, middle_term, vertex_equal, Placed, place_as, placed, tied, tied_both, with_middle, colourable_only, Chosen, Step, middle_step, next}
use Rattle.closure.specs.OwnRun.{first_shared, middle_from}
use Rattle.closure.specs.Forests.{Forest, EndsBelow}
use Rattle.graphs.specs.Layout.{edges_of, labels_of}
use Rattle.graphs.specs.Rooting.{RootedBy}
use Rattle.graphs.specs.declared.rooting.Rooting.{Rooting}
use Rattle.running.specs.Shown.{padded, Shows}
use Rattle.running.specs.Stepping.{Choosing, Placing, OnRun, Apart, Reaches}
use Rattle.running.specs.declared.state.State.{State as Arrays}
use Rattle.running.specs.declared.state.Stuck.{Stuck}
use Rattle.running.proofs.Agreeing.{joined_labels}
use Rattle.closure.proofs.Running.Congruent.{congruent_arguments}
use Rattle.closure.proofs.Running.Larger.{extends_term}
use Rattle.closure.proofs.Walking.ParentPaths.{each_map, sound_forest}
use Rattle.closure.proofs.Running.Vertices.{EndsAmong, added_vertex, vertex_within, chosen_joined}
use Rattle.closure.proofs.Running.States.{SoundState, given_first}
use Rattle.closure.proofs.Running.Runs.{middle_ends, run_sound, run_known}
use Rattle.closure.proofs.Running.SharedTerm.{middle_found}
use Rattle.closure.proofs.Running.MiddleStep.{Ready, middle_ready}
use Rattle.closure.proofs.Running.EdgesAndSteps.{tied_new, tied_added, tied_no_fewer}
use Rattle.closure.proofs.Running.FewSteps.{few_added, few_edges}
use Rattle.running.proofs.Showing.{shown_symbol, shown_arity, shown_row}
use Rattle.running.proofs.Tying.{joined_same}

-- terms joined pair by pair are equally many
pub pairwise_length : (G : Graph) (xs ys : List ℕ) → T (joined_pairwise G xs ys) → length xs ≡ length ys
pairwise_length G xs ys h = sym (length-map xs (label G)) ∙ ap length (joined_labels G xs ys h) ∙ length-map ys (label G)

module _ {a : Arrays} (run : OnRun a) where
  -- the given terms
  abbrev ts : List Term
  ts = run.ts

  -- the literals
  abbrev ls : List Literal
  ls = run.ls

  -- the state that is shown
  abbrev st : State
  st = run.reached

  -- the given and the added terms
  abbrev table : List Term
  table = table_of ts st

  -- the arguments of a term
  abbrev arguments : ℕ → List ℕ
  arguments v = (term_at table v).arguments

  -- every state of a run is sound
  pub on_run_sound : SoundState ts ls st
  on_run_sound = run_sound ts ls run.checked.lower run.checked.sides run.run

  -- a vertex is a number of the arrays
  pub vertex_small : (v : ℕ) → T (vertex ts ls st v) → v < 511
  vertex_small v h = omega (arith, vertex_within ts ls st v h, run.shows.within)

  -- no term has more than four arguments: an added one has as many as the given one that stands for it
  pub arity_small : (v : ℕ) → v < length table → length (arguments v) ≤ 4
  arity_small v h = ⊎_elim (given v) added (below_or_not v (length ts))
    where
      -- a given term
      given : (w : ℕ) → w < length ts → length (arguments w) ≤ 4
      given w l = subst (λ (x : Term). length x.arguments ≤ 4) (sym (extends_term ts table (given_first ts st) w l)) (run.checked.small w l)

      -- an added one
      added : length ts ≤ v → length (arguments v) ≤ 4
      added l =
          let q = run_known ts ls run.checked.lower run.checked.sides run.run v (added_vertex ts ls st v l h) in
          let w = in_use_within ts ls run.checked.lower run.checked.sides q.0 q.1 in
          omega (arith, pairwise_length st.graph (arguments q.0) (arguments v) (congruent_arguments table st.graph q.0 v q.3), given q.0 w)

  -- the graph has no cycle
  pub on_run_forest : Forest st.graph
  on_run_forest = sound_forest ts ls table st.graph on_run_sound.edges

  -- its ends are terms of the table
  pub on_run_ends : EndsBelow (length table) st.graph
  on_run_ends = each_map (EndsAmong (vertex ts ls st)) (λ G e. (e.left < length table) × (e.right < length table)) (λ G e p. (vertex_within ts ls st e.left p.0, vertex_within ts ls st e.right p.1)) st.graph on_run_sound.ends

  -- so it can be rooted
  pub can_root : (a.graph.count ≤ 510) × EndsBelow 511 (edges_of a.graph) × (a.labels ≡ labels_of (edges_of a.graph))
  can_root = (
    omega (arith, run.shows.count, few_edges ts ls run.checked.lower run.checked.sides run.checked.few run.run),
    subst (EndsBelow 511) (sym run.shows.edges) (each_map (λ G e. (e.left < length table) × (e.right < length table)) (λ G e. (e.left < 511) × (e.right < 511)) (λ G e p. (omega (arith, p.0, run.shows.within), omega (arith, p.1, run.shows.within))) st.graph on_run_ends),
    run.shows.labels ∙ ap labels_of (sym run.shows.edges),
  )

  -- a step leads to a state of a run, so it has no more than 510 edges and 255 added terms
  pub step_edges : {after : State} → Step ts ls st after → length after.graph ≤ 510
  step_edges step = few_edges ts ls run.checked.lower run.checked.sides run.checked.few (next run.run step)

  -- and 255 added terms
  pub step_added : {after : State} → Step ts ls st after → length after.added ≤ 255
  step_added step = few_added ts ls run.checked.lower run.checked.sides run.checked.few (next run.run step)

  -- ---- the middle step

  module _ (s t : ℕ) (apart : Apart ts ls st s t) where
    -- s is a term of the table
    s_within : s < length table
    s_within = vertex_within ts ls st s apart.left_vertex

    -- and so is t
    t_within : t < length table
    t_within = vertex_within ts ls st t apart.right_vertex

    -- their arguments are joined pair by pair
    alike_arguments : T (joined_pairwise st.graph (arguments s) (arguments t))
    alike_arguments = congruent_arguments table st.graph s t apart.alike

    -- the choice that the code makes can be made
    pub choosing : (forest : Rooting) → RootedBy (edges_of a.graph) forest → Choosing a forest s t
    choosing forest rooted =
        record {
          ts = ts;
          ls = ls;
          table = table;
          graph = st.graph;
          left = arguments s;
          right = arguments t;
          within = run.shows.within;
          coloured = run.shows.colours;
          acyclic = on_run_forest;
          ends = on_run_ends;
          rooted = subst (λ (G : Graph). RootedBy G forest) run.shows.edges rooted;
          small = omega (arith, shown_arity ts ls st a run.shows s s_within, arity_small s s_within);
          left_is = shown_row ts ls st a run.shows s s_within;
          left_length = sym (shown_arity ts ls st a run.shows s s_within);
          left_within = λ x m. omega (arith, on_run_sound.lower s s_within x m, s_within);
          right_is = shown_row ts ls st a run.shows t t_within;
          right_length = sym (pairwise_length st.graph (arguments s) (arguments t) alike_arguments) ∙ sym (shown_arity ts ls st a run.shows s s_within);
          right_within = λ x m. omega (arith, on_run_sound.lower t t_within x m, t_within);
          join = alike_arguments;
        }

    -- the choice that is there
    pub found : (chosen : List ℕ) × (first_shared ts ls table st.graph (arguments s) (arguments t) ≡ Some chosen) × Chosen ts ls table st.graph (arguments s) (arguments t) chosen
    found = middle_found ts ls table on_run_sound.lower st.graph on_run_sound.edges s t s_within t_within apart.alike apart.left_a apart.right_b

    -- the terms chosen
    abbrev pub terms : List ℕ
    terms = found.0

    -- the middle term
    abbrev pub middle : Term
    middle = middle_term table s terms

    -- s is A-colourable only
    left_only : T (colourable_only ts ls A B table s)
    unfolding colourable_only
    left_only = and_both (colourable ts ls A table s) (not (colourable ts ls B table s)) apart.left_a apart.left_not_b

    -- t is B-colourable only
    right_only : T (colourable_only ts ls B A table t)
    unfolding colourable_only
    right_only = and_both (colourable ts ls B table t) (not (colourable ts ls A table t)) apart.right_b apart.right_not_a

    -- the middle step is a step
    the_step : Step ts ls st (with_middle ts ls st s t terms)
    the_step = middle_step s t terms apart.left_vertex apart.right_vertex apart.unjoined apart.alike left_only right_only found.2

    -- and the one that the library takes
    pub middle_taken : middle_from ts ls st s t ≡ Some (with_middle ts ls st s t terms)
    unfolding middle_from
    middle_taken = ap (option_map (with_middle ts ls st s t)) found.1

    -- each end may be tied to the middle term in its place
    ready : Ready ts ls s t (placed ts ls st middle)
    ready = middle_ready ts ls st on_run_sound s t terms (middle_ends ts ls st s t terms apart.left_vertex apart.right_vertex apart.alike left_only right_only found.2)

    -- the middle term in its place
    abbrev put : Placed
    put = placed ts ls st middle

    -- the ties add no term
    put_added : (with_middle ts ls st s t terms).added ≡ put.state.added
    unfolding with_middle tied_both
    put_added = tied_added (tied put.state s put.number A) t put.number B ∙ tied_added put.state s put.number A

    -- and leave no more than 510 edges
    put_edges : length (tied (tied put.state s put.number A) t put.number B).graph ≤ 510
    unfolding with_middle tied_both
    put_edges = step_edges the_step

    -- where no vertex equals the middle term, it comes behind the table
    new_table : vertex_equal ts ls st middle ≡ None → table_of ts put.state ≡ table ++ (middle ∷ [])
    unfolding placed place_as
    new_table e = ap (λ (o : Option ℕ). table_of ts (place_as ts st middle o).state) e ∙ sym (append_assoc ts st.added (middle ∷ []))

    -- the table that the step leaves fits the arrays
    put_fits : length (table_of ts put.state) ≤ 511
    put_fits = omega (arith, length-append ts put.state.added, ap length put_added, step_added the_step, run.checked.few)

    -- so there is room for the middle term
    new_fits : vertex_equal ts ls st middle ≡ None → length table < 511
    new_fits e = omega (arith, ap length (new_table e), length-append table (middle ∷ []), put_fits)

    -- which is shared
    new_is_shared : vertex_equal ts ls st middle ≡ None → T (shared ts ls (table ++ (middle ∷ [])) (length table))
    new_is_shared e =
        subst (λ (tb : List Term). T (shared ts ls tb (length table))) (new_table e)
        (ready.sound.added_shared (length table) (omega (arith, length-append ts st.added)) (omega (arith, ap length (new_table e), length-append table (middle ∷ []))))

    -- what the code chooses is the middle term's row
    module _ (forest : Rooting) (rooted : RootedBy (edges_of a.graph) forest) (choice : Option (List ℕ)) (chosen : (w : Choosing a forest s t) → choice ≡ option_map padded (first_shared w.ts w.ls w.table w.graph w.left w.right)) {stuck : Stuck} where
      choice_is : choice ≡ Some (padded terms)
      unfolding choosing
      choice_is = chosen (choosing forest rooted) ∙ ap (option_map padded) found.1

      -- so there is one
      pub choice_there : {e : Stuck} → Err e ≡ ok_or choice stuck → ⊥
      choice_there q = let f = choice_is in cc

      module _ (row : List ℕ) (handed : Ok row ≡ ok_or choice stuck) where
        row_is : row ≡ padded terms
        row_is = let f = choice_is in cc

        -- it can be placed
        pub placing : Placing a s row
        placing =
            let lengths : length (arguments s) ≡ length terms = pairwise_length st.graph (arguments s) terms (chosen_joined ts ls table st.graph found.2 alike_arguments) in
            let arity : get_or a.arities s 0 ≡ length (arguments s) = shown_arity ts ls st a run.shows s s_within in
            record {
              ts = ts;
              ls = ls;
              reached = st;
              middle = middle;
              shows = run.shows;
              lower = on_run_sound.lower;
              small = arity_small;
              symbol_is = sym (shown_symbol ts ls st a run.shows s s_within);
              arity_is = sym lengths ∙ sym arity;
              arity_small = omega (arith, arity, arity_small s s_within);
              row_is = row_is;
              room = new_fits;
              new_shared = new_is_shared;
            }

        -- and is in its place then
        pub put_shown : (p : Arrays) (k : ℕ) → ((q : Placing a s row) → Shows q.ts q.ls (placed q.ts q.ls q.reached q.middle).state p × (k ≡ (placed q.ts q.ls q.reached q.middle).number)) → Shows ts ls put.state p × (k ≡ put.number)
        unfolding placing
        put_shown p k h = h placing

    module _ (p : Arrays) (k : ℕ) (shown : Shows ts ls put.state p) (k-is : k ≡ put.number) where
      -- the number of the middle term fits
      pub middle_small : k < 511
      middle_small = omega (arith, vertex_within ts ls put.state put.number ready.left.right_vertex, put_fits)

      -- the state after both ties
      both_edges : length (tied (tied put.state s k A) t k B).graph ≤ 510
      both_edges = subst (λ (x : ℕ). length (tied (tied put.state s x A) t x B).graph ≤ 510) (sym k-is) put_edges

      -- there is room for the first tie, where it is needed
      pub first_room : (get_or p.labels s 0 ≡ get_or p.labels k 0 → ⊥) → p.graph.count < 510
      first_room h =
          let n = not_T (joined put.state.graph s k) (λ j. h (joined_same ts ls put.state p shown s k (vertex_small s apart.left_vertex) middle_small j)) in
          omega (arith, shown.count, ap (λ (z : State). length z.graph) (tied_new put.state s k A n), tied_no_fewer (tied put.state s k A) t k B, both_edges)

      -- and for the second
      pub second_room : (q : Arrays) → Shows ts ls (tied put.state s k A) q → (get_or q.labels t 0 ≡ get_or q.labels k 0 → ⊥) → q.graph.count < 510
      second_room q shown' h =
          let half = tied put.state s k A in
          let n = not_T (joined half.graph t k) (λ j. h (joined_same ts ls half q shown' t k (vertex_small t apart.right_vertex) middle_small j)) in
          omega (arith, shown'.count, ap (λ (z : State). length z.graph) (tied_new half t k B n), both_edges)

      -- what the code hands out is the middle step
      pub middle_outcome : (r : Arrays) → Shows ts ls (tied (tied put.state s k A) t k B) r → Reaches ts ls (middle_from ts ls st s t) r
      unfolding with_middle tied_both
      middle_outcome r whole =
          (with_middle ts ls st s t terms, middle_taken, subst (λ (x : ℕ). Shows ts ls (tied (tied put.state s x A) t x B) r) k-is whole)
