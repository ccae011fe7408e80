-- The last state of the run, as the clause layer is handed it.
use mathlib.Core.Bool.{Bool}
use mathlib.Core.List.{List, ◌++◌}
use mathlib.Core.Path.{◌≡◌, sym, ap, subst, ◌∙◌}
use Prim.Native.Nat.{ℕ, ◌<◌}
use native.Mathlib.Omega.{arith}
use lib.Dec.{T, leb}
use lib.ListN.{get_or, drop}
use Rattle.tables.specs.Terms.{Term}
use Rattle.tables.specs.LiteralTable.{literal_count, literal_record, literal_of}
use Rattle.tables.specs.declared.Literal.{Literal}
use Rattle.tables.specs.declared.Tables.{Tables}
use Rattle.closure.specs.Graph.{Graph, joined}
use Rattle.closure.specs.Steps.{table_of}
use Rattle.closure.specs.Forests.{Each}
use Rattle.running.specs.Opening.{ReadFrom}
use Rattle.graphs.specs.Layout.{newest_first, edges_of}
use Rattle.graphs.specs.declared.graph.Graph.{Graph as Kept}
use Rattle.graphs.proofs.Numbered.{edges_are}
use Rattle.graphs.specs.Rooting.{RootedBy}
use Rattle.running.specs.Stepping.{OnRun}
use Rattle.running.specs.declared.state.State.{State as Arrays}
use Rattle.running.proofs.Beginning.{terms_are}
use Rattle.running.proofs.BasicSteps.{length_literals, literal_is, sides_in}
use Rattle.tables.proofs.Colours.{two_test}
use Rattle.running.proofs.OnRuns.{on_run_sound, arity_small, can_root}
use Rattle.closure.proofs.Walking.Parents.{hop_sound}
use Rattle.closure.proofs.Running.OwnRun.{own_run_is}
use Rattle.running.proofs.OwnTurns.{checks}
use Rattle.running.proofs.Showing.{shown_colour}
use Rattle.marking.specs.Drawn.{PartsAt, EdgeAt, Drawn}
use Rattle.marking.specs.declared.drawing.Drawing.{Drawing}
use Rattle.marking.proofs.Owing.{Numbered, numbered}
use Rattle.clauses.specs.Clauses.{Clause}
use Rattle.clauses.specs.Reading.{literal_at, read_between}
use Rattle.clauses.specs.Records.{clause_records}
use Rattle.summing.specs.Written.{Asking, AllPut}
use Rattle.clauses.proofs.Records.{clause_bytes, clause_bytes_length}
use Rattle.summing.proofs.Summing.{records_written}
use Rattle.marking.specs.declared.edges.Columns.{Columns}
use Rattle.demands.specs.Buffers.{written_over}
use Rattle.demands.proofs.Ways.{records_read}
use Rattle.engine.specs.Ending.{Ends, Decides, terms_in, literals_in, records_for, Written, EndsIn, PlacesOf, ParentsOf}
use Rattle.clauses.proofs.Critical.{critical_found, critical_first}
use Rattle.engine.proofs.AddedRecords.{all_terms}
use Rattle.engine.proofs.ParentEnds.{edges_drawn}

-- the arrays show a state of a run
abbrev pub on_run : {t : Tables} {s : Arrays} → Ends t s → OnRun s
on_run {t} w =
    record {
      ts = terms_in w.from;
      ls = literals_in w.from;
      reached = w.state;
      checked = checks t w.from;
      shows = w.shows;
      steps = (own_run_is (terms_in w.from) (literals_in w.from) (checks t w.from).lower (checks t w.from).sides w.state w.last).0;
      run = (own_run_is (terms_in w.from) (literals_in w.from) (checks t w.from).lower (checks t w.from).sides w.state w.last).1;
    }

-- what the walk says of the edge records, the newest first, it says of the graph's edges
pub columns_drawn : (g : Kept) (c : Columns) → Each (PartsAt c.lefts c.rights c.inb c.derived) (newest_first g.count g.edges) → Each (PartsAt c.lefts c.rights c.inb c.derived) (edges_of g)
columns_drawn g c = subst (Each (PartsAt c.lefts c.rights c.inb c.derived)) (sym (edges_are g))

-- the ends of its edges are terms
pub ends_in : {t : Tables} {s : Arrays} (w : Ends t s) (c : Columns) → Each (PartsAt c.lefts c.rights c.inb c.derived) (edges_of s.graph) → EndsIn c.lefts s.graph.count × EndsIn c.rights s.graph.count
ends_in {s = s} w c laid =
    let ts = terms_in w.from in
    let ls = literals_in w.from in
    let edge : (i : ℕ) → i < s.graph.count → Numbered (PartsAt c.lefts c.rights c.inb c.derived) w.state.graph i = λ i l. numbered (PartsAt c.lefts c.rights c.inb c.derived) w.state.graph i (subst (Each (PartsAt c.lefts c.rights c.inb c.derived)) w.shows.edges laid) (omega (arith, l, w.shows.count)) in (
      λ i l. let n = edge i l in subst (λ (k : ℕ). get_or c.lefts k 0 < 511) n.count (omega (arith, n.has.left_at, (hop_sound ts ls (table_of ts w.state) n.walked (on_run_sound (on_run w)).edges).from_within, w.shows.within)),
      λ i l. let n = edge i l in subst (λ (k : ℕ). get_or c.rights k 0 < 511) n.count (omega (arith, n.has.right_at, (hop_sound ts ls (table_of ts w.state) n.walked (on_run_sound (on_run w)).edges).to_within, w.shows.within)),
    )

-- the arrays that are laid out of a state hold its graph
pub drawn_of : {t : Tables} {s : Arrays} (w : Ends t s) (d : Drawing) (c : Columns) → RootedBy (edges_of s.graph) d.forest → d.inb ≡ c.inb → d.count ≡ s.graph.count → Each (PartsAt c.lefts c.rights c.inb c.derived) (edges_of s.graph) → PlacesOf c.lefts c.derived s.arities s.graph.count d.places → ParentsOf s.rows c.lefts c.rights s.graph.count d.parents → Drawn d (terms_in w.from) (literals_in w.from) (table_of (terms_in w.from) w.state) w.state.graph
drawn_of {t} {s} w d c rooted colours count laid counts ends =
    let ts = terms_in w.from in
    let ls = literals_in w.from in
    let table = table_of ts w.state in
    let sound = on_run_sound (on_run w) in
    record {
      sound = sound.edges;
      lower = sound.lower;
      small = w.shows.within;
      counted = sym w.shows.count ∙ sym count;
      few = omega (arith, count, (can_root (on_run w)).0);
      arity = arity_small (on_run w);
      rooted = subst (λ (G : Graph). RootedBy G d.forest) w.shows.edges rooted;
      edges = subst (λ (bs : List Bool). Each (EdgeAt table bs d.places d.parents) w.state.graph) (sym colours)
          (edges_drawn ts ls w.state s w.shows (arity_small (on_run w)) c d.places d.parents sound.edges counts ends (subst (Each (PartsAt c.lefts c.rights c.inb c.derived)) w.shows.edges laid));
    }

-- records that are put where they have room are written over the buffer there
written_over_is : (n : ℕ) (cs : List Clause) (out : List ℕ) (r : ℕ) (out' : List ℕ) → AllPut (clause_records n cs) out r out' → Written (clause_records n cs) out r out'
unfolding written_over
written_over_is n cs out r out' put =
    record {
      counted = put.count;
      bytes = λ h. records_written n cs out r out' h put ∙ ap (λ (k : ℕ). clause_bytes n cs ++ drop k out) (sym (clause_bytes_length n cs));
      kept = put.kept;
    }

module _ (t : Tables) (s : Arrays) (d : ℕ) (w : Decides t s d) where
  abbrev ts : List Term
  ts = terms_in w.ends.from

  abbrev ls : List Literal
  ls = literals_in w.ends.from

  abbrev table : List Term
  table = table_of ts w.ends.state

  abbrev G : Graph
  G = w.ends.state.graph

  abbrev from : ReadFrom t
  from = w.ends.from

  -- the disequality is a record
  within : d < literal_count from.literals
  within = omega (arith, (critical_first ls G d w.found).within, length_literals from.terms from.literals from.sound)

  -- and so it is of the literals that are lent
  pub decided_within : (literals : List ℕ) → from.literals ≡ literals → d < literal_count literals
  decided_within literals e = subst (λ (x : List ℕ). d < literal_count x) e within

  module _ (literals : List ℕ) (lent : from.literals ≡ literals) (l : Literal) (read : l ≡ literal_of (literal_record literals d)) where
    -- what was read of the record
    read_of : l ≡ literal_of (literal_record from.literals d)
    read_of = read ∙ ap (λ (x : List ℕ). literal_of (literal_record x d)) (sym lent)

    -- is the literal
    literal_read : l ≡ literal_at ls d
    literal_read = literal_is from.terms from.literals from.sound d within read_of

    -- its sides are terms
    sides_shown : (l.left < s.terms) × (l.right < s.terms)
    sides_shown =
        let r = sides_in from.terms from.literals from.sound d within read_of in
        (omega (arith, r.0, all_terms t s w.ends, terms_are t from), omega (arith, r.1, all_terms t s w.ends, terms_are t from))

    -- the clause layer is asked for its records
    pub asking_of : (arrays : Drawing) → Drawn arrays ts ls table G → Asking arrays s.terms s.colours l.left l.right ts ls table G
    asking_of arrays drawn =
        record {
          drawn = drawn;
          terms = sym w.ends.shows.terms;
          join = subst (λ (x : Literal). T (joined G x.left x.right)) (sym literal_read) (critical_found ls G d w.found).meets;
          left_within = sides_shown.0;
          right_within = sides_shown.1;
          coloured = λ v h. sym (ap (leb 2) (shown_colour ts ls w.ends.state s w.ends.shows v h) ∙ two_test ts ls table v);
        }

    -- what it reads
    abbrev clauses : List Clause
    clauses = read_between ts ls table G l.side l.left l.right

    -- is what the definitions read
    records_same : clause_records s.terms clauses ≡ records_for w
    records_same =
        (λ i. clause_records (w.ends.shows.terms i) (read_between ts ls table G (literal_read i).side (literal_read i).left (literal_read i).right)) ∙
        sym (records_read ts ls w.ends.state (literal_at ls d))

    -- so they are counted, and written where they have room
    pub written_of : (out : List ℕ) (r : ℕ) (out' : List ℕ) → AllPut (clause_records s.terms clauses) out r out' → Written (records_for w) out r out'
    written_of out r out' put = subst (λ (rs : List (List ℕ)). Written rs out r out') records_same (written_over_is s.terms clauses out r out' put)
