-- The clauses of a summary as the code writes them: for each pair that is concluded, the premises of the path between its ends, and the pair.
use Rattle.std.specs.Prelude.{Bool, true, false, ◌⊎◌, ◌↔◌, ◌≡◌, ℕ, ◌+◌, ◌*◌, ◌≤◌, ◌<◌, T, leb, length, get_or}
use mathlib.Core.List.{List, flat_map, Memᴰ}
use Rattle.tables.specs.Words.{Pair, keep, pairs_below}
use Rattle.tables.specs.Terms.{Term}
use Rattle.tables.specs.declared.Literal.{Literal}
use Rattle.tables.specs.declared.Side.{Side}
use Rattle.tables.specs.declared.Side.TheVariants.{A, B}
use Rattle.tables.specs.Colours.{colourable}
use Rattle.closure.specs.Graph.{Graph, Path, joined, path}
use Rattle.clauses.specs.Clauses.{Clause, equals}
use Rattle.clauses.specs.Premises.{premises}
use Rattle.clauses.specs.Meaning.{Premise}
use Rattle.clauses.specs.Records.{ascending, records_of, clause_records}
use Rattle.clauses.specs.Reading.{read_between}
use Rattle.graphs.specs.Trails.{Joining, TrailOf}
use Rattle.marking.specs.declared.drawing.Drawing.{Drawing}
use Rattle.marking.specs.Marks.{Reached, PairWithin, PairMarked, Covered}
use Rattle.marking.specs.Drawn.{Drawn}
use Rattle.summing.specs.declared.clause.Conclusions.{Conclusions}
use Rattle.summing.specs.declared.stretches.Cut.{Cut}
use Rattle.summing.specs.Writing.{put_records, marked, Sheet, RecordsPut, premise_records}
use Rattle.summing.specs.Cutting.{Middle, not_middle_of, Stretch, Outer}

-- the clause that concludes p, its premises in ascending order
unfoldable pub clause_of : ℕ → List Term → Graph → Pair → Clause
clause_of n table G p = record { premises = ascending n (premises (length G) table (path G p.left p.right)); conclusion = equals p }

-- its records
unfoldable pub clause_out : ℕ → List Term → Graph → Pair → List (List ℕ)
unfolding clause_of
clause_out n table G p = records_of (clause_of n table G p)

-- no pair is marked
abbrev pub Clear : List Bool → Type 0
Clear found = (p : Pair) → PairWithin 511 p → PairMarked found p → ⊥

-- a square as it is lent: it has a row for each of n vertices, and no pair is marked
pub record Blank (n : ℕ) (found : List Bool) : Type 0 where
  pub rows : 511 * n ≤ length found
  pub clear : Clear found

-- the arrays hold a graph over n terms, and the pairs that are marked are joined in it
pub record Readable (arrays : Drawing) (n : ℕ) (Concluded : Pair → Type 0) (ts : List Term) (ls : List Literal) (table : List Term) (G : Graph) : Type 0 where
  pub drawn : Drawn arrays ts ls table G
  pub terms : length table ≡ n
  pub connected : (p : Pair) → PairWithin n p → Concluded p → T (joined G p.left p.right)

-- they hold some such graph
abbrev pub ReadableSome : Drawing → ℕ → (Pair → Type 0) → Type 0
ReadableSome arrays n Concluded =
    (ts : List Term) × (ls : List Literal) × (table : List Term) × (G : Graph) × Readable arrays n Concluded ts ls table G

-- the clauses of some pairs are written, at most 261122 records for each of `most` pairs, and no premise is left marked
pub record ClausesPut (arrays : Drawing) (n : ℕ) (Concluded : Pair → Type 0) (ps : List Pair) (most : ℕ) (found : List Bool) (s : Sheet) (found' : List Bool) (s' : Sheet) : Type 0 where
  pub few : s'.count ≤ s.count + 261122 * most
  pub same : length s'.bytes ≡ length s.bytes
  pub sized : length found' ≡ length found
  pub clear : Clear found'
  pub written : (ts : List Term) (ls : List Literal) (table : List Term) (G : Graph) → Readable arrays n Concluded ts ls table G → RecordsPut (flat_map (clause_out n table G) ps) s s'

-- the pairs that the clauses of a disequality conclude are marked: what its middle stretch reaches, and what its outer ones reach without their own factors
pub record Concluding (arrays : Drawing) (c : Cut) (pairs' rows' : List Bool) : Type 0 where
  pub cover : Covered pairs' rows'
  pub marks : (ts : List Term) (ls : List Literal) (table : List Term) (G : Graph) → Drawn arrays ts ls table G → (before middle after : Path) → Outer arrays.inb G c before after → Stretch arrays.inb G c.path.now c.lo c.hi middle → (p : Pair) → PairWithin 511 p → PairMarked pairs' p ↔ (Reached table false p true middle ⊎ (Reached table false p false before ⊎ Reached table false p false after))

-- these pairs are the premises of the outer stretches of a cut path, in a graph that the arrays hold
pub record OuterPremises (arrays : Drawing) (c : Cut) (qs : List Pair) : Type 0 where
  pub ts : List Term
  pub ls : List Literal
  pub table : List Term
  pub G : Graph
  pub drawn : Drawn arrays ts ls table G
  pub before : Path
  pub after : Path
  pub outer : Outer arrays.inb G c before after
  pub mean : (p : Pair) → Memᴰ p qs ↔ (Premise table p before ⊎ Premise table p after)

-- the premises of the outer stretches are written; where they are of terms below n, none is left marked
pub record PremisesPut (arrays : Drawing) (n : ℕ) (c : Cut) (found : List Bool) (s : Sheet) (found' : List Bool) (s' : Sheet) : Type 0 where
  pub few : s'.count ≤ s.count + 261121
  pub same : length s'.bytes ≡ length s.bytes
  pub sized : length found' ≡ length found
  pub written : (qs : List Pair) → OuterPremises arrays c qs → RecordsPut (premise_records (ascending n qs)) s s'
  pub clear : (qs : List Pair) → OuterPremises arrays c qs → ((p : Pair) → Memᴰ p qs → p.right < n) → Clear found'

-- the last clause is written: the premises of the outer stretches, and "not [middle]"; where those are of terms below n, none is left marked
pub record LastPut (arrays : Drawing) (n : ℕ) (c : Cut) (found : List Bool) (s : Sheet) (found' : List Bool) (s' : Sheet) : Type 0 where
  pub same : length s'.bytes ≡ length s.bytes
  pub sized : length found' ≡ length found
  pub written : (qs : List Pair) → OuterPremises arrays c qs → RecordsPut (records_of (record { premises = ascending n qs; conclusion = not_middle_of c })) s s'
  pub clear : (qs : List Pair) → OuterPremises arrays c qs → ((p : Pair) → Memᴰ p qs → p.right < n) → Clear found'

-- the clauses of the pairs that are concluded are written, and in A the last clause behind them
abbrev pub ReadingPut : Drawing → ℕ → Side → Cut → List Bool → List Bool → Sheet → List Bool → Sheet → Type 0
ReadingPut arrays n A c pairs found s found' s' =
    (found₁ : List Bool) × (s₁ : Sheet) × ClausesPut arrays n (PairMarked pairs) (keep (marked pairs) (pairs_below n)) 261121 found s found₁ s₁ × LastPut arrays n c found₁ s₁ found' s'
ReadingPut arrays n B c pairs found s found' s' =
    ClausesPut arrays n (PairMarked pairs) (keep (marked pairs) (pairs_below n)) 261121 found s found' s'

-- what is asked of the writer of a summary: the arrays hold a graph over n terms that joins s and t, and the colours of 2 and more are those with B
pub record Asking (arrays : Drawing) (n : ℕ) (colours : List ℕ) (s t : ℕ) (ts : List Term) (ls : List Literal) (table : List Term) (G : Graph) : Type 0 where
  pub drawn : Drawn arrays ts ls table G
  pub terms : length table ≡ n
  pub join : T (joined G s t)
  pub left_within : s < n
  pub right_within : t < n
  pub coloured : (v : ℕ) → v < length table → colourable ts ls B table v ≡ leb 2 (get_or colours v 0)

-- they hold some such graph
abbrev pub AskingSome : Drawing → ℕ → List ℕ → ℕ → ℕ → Type 0
AskingSome arrays n colours s t =
    (ts : List Term) × (ls : List Literal) × (table : List Term) × (G : Graph) × Asking arrays n colours s t ts ls table G

-- what is cut is the path between s and t, at its middle stretch, and the pairs that its clauses conclude are marked
pub record Concluded (arrays : Drawing) (n : ℕ) (colours : List ℕ) (s t : ℕ) (X : Side) (c : Cut) (k : Conclusions) : Type 0 where
  pub asking : AskingSome arrays n colours s t
  pub given : (G : Graph) → Joining arrays.forest s t G → TrailOf G s t c.path.now
  pub middle : Middle colours X c
  pub concluding : Concluding arrays c k.pairs.now k.rows.now

-- it is so for some disequality
abbrev pub ConcludedSome : Drawing → ℕ → Side → Cut → Conclusions → Type 0
ConcludedSome arrays n X c k = (colours : List ℕ) × (s : ℕ) × (t : ℕ) × Concluded arrays n colours s t X c k

-- records are counted, and written from the start of a buffer that has room for all of them; any other stays as it is
pub record AllPut (rs : List (List ℕ)) (out : List ℕ) (r : ℕ) (out' : List ℕ) : Type 0 where
  pub count : r ≡ length rs
  pub bytes : 8 * length rs ≤ length out → out' ≡ put_records 0 rs out
  pub kept : length out < 8 * length rs → out' ≡ out

-- the clause records of a disequality of a side between s and t are written so
pub record Summarised (arrays : Drawing) (n : ℕ) (colours : List ℕ) (s t : ℕ) (X : Side) (out : List ℕ) (r : ℕ) (out' : List ℕ) : Type 0 where
  pub records : (ts : List Term) (ls : List Literal) (table : List Term) (G : Graph) → Asking arrays n colours s t ts ls table G → AllPut (clause_records n (read_between ts ls table G X s t)) out r out'
