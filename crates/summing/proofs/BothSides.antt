-- A summary from its two runs of records: counted in a small buffer, and then copied or written again.
use mathlib.Core.Bool.{Bool}
use mathlib.Core.List.{List, ◌++◌, flat_map}
use mathlib.Core.Path.{◌≡◌, refl, sym, ap, subst, ◌∙◌}
use Prim.Native.Nat.{ℕ, ◌*◌, ◌/◌, ◌≤◌, ◌<◌}
use native.Mathlib.Omega.{arith}
use lib.ListN.{length, take, drop}
use lib.Seq.{take_at}
use Rattle.tables.specs.Terms.{Term}
use Rattle.tables.specs.declared.Literal.{Literal}
use Rattle.tables.specs.declared.Side.{Side}
use Rattle.tables.specs.declared.Side.TheVariants.{A, B}
use Rattle.closure.specs.Graph.{Graph}
use Rattle.graphs.specs.declared.paths.Trail.{Trail}
use Rattle.graphs.specs.Trails.{Joining, TrailOf}
use Rattle.clauses.specs.Records.{clause_records}
use Rattle.clauses.specs.Reading.{read_between}
use Rattle.clauses.proofs.Records.{clause_bytes_length, clause_records_eight}
use Rattle.marking.specs.declared.drawing.Drawing.{Drawing}
use Rattle.marking.specs.Marks.{PairMarked, Within, RowsOf}
use Rattle.summing.specs.declared.clause.Conclusions.{Conclusions}
use Rattle.summing.specs.declared.stretches.Cut.{Cut}
use Rattle.summing.specs.Writing.{Sheet, sheet, RecordsPut}
use Rattle.summing.specs.Cutting.{Middle, InPlace}
use Rattle.summing.specs.Written.{ReadableSome, ReadingPut, Blank, Asking, AskingSome, Concluded, AllPut, Summarised}
use Rattle.summing.proofs.RecordsOut.{puts_fit}
use Rattle.summing.proofs.Summing.{marked_readable, reading_records, reading_clear, sides_read, sides_within, sides_rows}

module _ (arrays : Drawing) (n : ℕ) (colours : List ℕ) (s t : ℕ) (X : Side) (c : Cut) where
  -- the middle stretch lies on the path
  middle_within : (X : Side) → Middle colours X c → (c.lo ≤ c.hi) × (c.hi ≤ c.path.now.hops)
  middle_within A m = (m.1.after, m.1.within)
  middle_within B m = (omega (arith, m.0), omega (arith, m.1))

  -- the path between the sides is within its arrays where it is cut, and a square with n rows has those of its stops
  pub cut_placed : (r : Trail) → c.path.now ≡ r → ((G : Graph) → Joining arrays.forest s t G → TrailOf G s t r) → AskingSome arrays n colours s t → Middle colours X c → (size : ℕ) → 511 * n ≤ size → InPlace size c
  cut_placed r e given a m size h =
      let on = middle_within X m in
      record {
        within = subst (λ (p : Trail). Within p 0 p.hops) (sym e) (sides_within arrays n colours s t r given a);
        forward = on.0;
        inside = on.1;
        rows = subst (λ (p : Trail). RowsOf size p p.hops) (sym e) (sides_rows arrays n colours s t r given size h a);
      }

-- a reading leaves its square and its buffer as long as they were
pub reading_sized : (X : Side) (arrays : Drawing) (n : ℕ) (c : Cut) (pairs found : List Bool) (b : Sheet) (found' : List Bool) (b' : Sheet) → ReadingPut arrays n X c pairs found b found' b' → (length found' ≡ length found) × (length b'.bytes ≡ length b.bytes)
reading_sized A arrays n c pairs found b found' b' p = (p.3.sized ∙ p.2.sized, p.3.same ∙ p.2.same)
reading_sized B arrays n c pairs found b found' b' p = (p.sized, p.same)

module _ (arrays : Drawing) (n : ℕ) (colours : List ℕ) (s t : ℕ) (X : Side) (c : Cut) (z : Conclusions) (w : Concluded arrays n colours s t X c z) where
  -- the pairs that are marked are joined in some graph
  pub readable_some : ReadableSome arrays n (PairMarked z.pairs.now)
  readable_some =
      let a = w.asking in
      (a.0, a.1, a.2, a.3, marked_readable arrays n colours s t a.0 a.1 a.2 a.3 a.4 c (sides_read arrays n colours s t c.path.now w.given a.0 a.1 a.2 a.3 a.4) X w.middle z.pairs.now z.rows.now w.concluding)

  -- the path is within its arrays, and its middle stretch lies on it
  pub in_place : (size : ℕ) → 511 * n ≤ size → InPlace size c
  in_place size h = cut_placed arrays n colours s t X c c.path.now refl w.given w.asking w.middle size h

  -- the records of the side's clauses
  abbrev records_here : List Term → List Literal → List Term → Graph → List (List ℕ)
  records_here ts ls table G = clause_records n (read_between ts ls table G X s t)

  module _ (found : List Bool) (buffer : List ℕ) (k : ℕ) (found' : List Bool) (buffer' : List ℕ) (p : ReadingPut arrays n X c z.pairs.now found (sheet buffer 0) found' (sheet buffer' k)) where
    -- what a reading puts are these
    reading_put : (ts : List Term) (ls : List Literal) (table : List Term) (G : Graph) → Asking arrays n colours s t ts ls table G → RecordsPut (records_here ts ls table G) (sheet buffer 0) (sheet buffer' k)
    reading_put ts ls table G x =
        reading_records arrays n colours s t ts ls table G x c (sides_read arrays n colours s t c.path.now w.given ts ls table G x) X w.middle z.pairs.now z.rows.now w.concluding found found' (sheet buffer 0) (sheet buffer' k) p

    -- and the square is as it was lent
    pub reading_blank : Blank n found → Blank n found'
    reading_blank b =
        let a = w.asking in
        record { rows = omega (arith, (reading_sized X arrays n c z.pairs.now found (sheet buffer 0) found' (sheet buffer' k) p).0, b.rows); clear = reading_clear arrays n colours s t a.0 a.1 a.2 a.3 a.4 c (sides_read arrays n colours s t c.path.now w.given a.0 a.1 a.2 a.3 a.4) X w.middle z.pairs.now found found' (sheet buffer 0) (sheet buffer' k) p }

    -- counted over another buffer, the records are too many for this one
    pub summary_counted : (out : List ℕ) → length out / 8 < k → Summarised arrays n colours s t X out k out
    summary_counted out h = record {
      records = λ ts ls table G x. let q = reading_put ts ls table G x in record { count = omega (arith, q.count); bytes = λ l. absurd (omega (arith, q.count, h, l)); kept = λ l. refl };
    }

    -- or they had room in both, and are copied
    pub summary_copied : (out front : List ℕ) → k ≤ length out / 8 → 8 * k ≤ length buffer → front ≡ take (8 * k) buffer' → Summarised arrays n colours s t X out k (front ++ drop (8 * k) out)
    summary_copied out front h room e = record {
      records = λ ts ls table G x. put ts ls table G (reading_put ts ls table G x);
    }
      where
        put : (ts : List Term) (ls : List Literal) (table : List Term) (G : Graph) → RecordsPut (records_here ts ls table G) (sheet buffer 0) (sheet buffer' k) → AllPut (records_here ts ls table G) out k (front ++ drop (8 * k) out)
        put ts ls table G q =
            let cs = read_between ts ls table G X s t in
            let rs = clause_records n cs in
            let bytes = flat_map (λ (r : List ℕ). r) rs in
            let many : k ≡ length rs = omega (arith, q.count) in
            let written : buffer' ≡ bytes ++ drop (8 * length rs) buffer = q.bytes ∙ puts_fit rs buffer (clause_records_eight n cs) (omega (arith, many, room)) in
            let first : take (8 * k) buffer' ≡ bytes = ap (take (8 * k)) written ∙ take_at bytes (drop (8 * length rs) buffer) (8 * k) (clause_bytes_length n cs ∙ ap (λ (m : ℕ). 8 * m) (sym many)) in
            record {
              count = many;
              bytes = λ l. ap (λ (y : List ℕ). y ++ drop (8 * k) out) (e ∙ first) ∙ ap (λ (m : ℕ). bytes ++ drop (8 * m) out) many ∙ sym (puts_fit rs out (clause_records_eight n cs) l);
              kept = λ l. absurd (omega (arith, many, h, l));
            }

    -- or they have room in this one alone, and are written again
    pub summary_written : (found₂ : List Bool) (out : List ℕ) (k' : ℕ) (found₂' : List Bool) (out' : List ℕ) → k ≤ length out / 8 → ReadingPut arrays n X c z.pairs.now found₂ (sheet out 0) found₂' (sheet out' k') → Summarised arrays n colours s t X out k' out'
    summary_written found₂ out k' found₂' out' h p' = record {
      records = λ ts ls table G x. let q = reading_put ts ls table G x in let q' = reading_records arrays n colours s t ts ls table G x c (sides_read arrays n colours s t c.path.now w.given ts ls table G x) X w.middle z.pairs.now z.rows.now w.concluding found₂ found₂' (sheet out 0) (sheet out' k') p' in record { count = omega (arith, q'.count); bytes = λ l. q'.bytes; kept = λ l. absurd (omega (arith, q.count, h, l)) };
    }
