-- Laws of the clause records: their bytes, and that a reader of them gets back the clauses that stand.
use mathlib.Core.List.Memᴰ
use mathlib.Core.List.{List, [], ◌∷◌, ◌++◌, map, flat_map, append_assoc, append-nil, Memᴰ}
use mathlib.Core.Logic.{⊎_elim, ◌↔◌}
use mathlib.Core.Path.{◌≡◌, refl, sym, ap, subst, ◌∙◌}
use Prim.Native.Nat.{ℕ, ◌*◌, ◌≤◌, ◌<◌}
use native.Mathlib.Omega.{arith}
use lib.ListN.{length}
use borrow.Author.Tests.{eq-eqb, ne_eqb}
use Rattle.tables.specs.Words.{below, Pair, pair}
use Rattle.tables.specs.Bytes.{byte_at, word_at, word_bytes, record_at, AllBytes}
use Rattle.tables.specs.Terms.{Term}
use Rattle.tables.specs.declared.Literal.{Literal}
use Rattle.tables.specs.Interpretations.{Interpretation}
use Rattle.tables.proofs.Words.{flat_map_mem}
use Rattle.tables.proofs.WordBytes.{word_value, bytes_none, bytes_cons, bytes_append, bytes_flat_map, word_bytes_bytes, records_read, records_length}
use Rattle.clauses.specs.Clauses.{Clause, Conclusion, equals, differs, falsum}
use Rattle.clauses.specs.Records.{standing, clause_record, conclusion_record, records_of, clause_records}
use Rattle.clauses.specs.ReadBack.{pair_read, conclusion_read, clauses_after, clauses_read}
use Rattle.clauses.specs.Truth.{TrueClauses, SharedClause}
use Rattle.clauses.proofs.Order.{PairWithin, ConclusionWithin, ClauseWithin, ClausesWithin, LastsWithin, OneEach, within_more, standing_within, standing_true, shared_standing}

-- ---- one record

-- "Clause record, 8 bytes"
pub record_length : (kind : ℕ) (p : Pair) → length (clause_record kind p) ≡ 8
unfolding clause_record
record_length kind p = refl

-- every byte of a record is a byte
pub record_bytes_is : (kind : ℕ) (p : Pair) → kind < 256 → AllBytes (clause_record kind p)
unfolding clause_record
record_bytes_is kind p h =
    let zero-byte : 0 < 256 = omega arith in
    bytes_cons kind (0 ∷ word_bytes p.left ++ word_bytes p.right ++ (0 ∷ 0 ∷ [])) h
    (bytes_cons 0 (word_bytes p.left ++ word_bytes p.right ++ (0 ∷ 0 ∷ [])) zero-byte
    (bytes_append (word_bytes p.left) (word_bytes p.right ++ (0 ∷ 0 ∷ [])) (word_bytes_bytes p.left)
    (bytes_append (word_bytes p.right) (0 ∷ 0 ∷ []) (word_bytes_bytes p.right) (bytes_cons 0 (0 ∷ []) zero-byte (bytes_cons 0 [] zero-byte bytes_none)))))

-- "0 kind"
pub record_kind : (kind : ℕ) (p : Pair) → byte_at (clause_record kind p) 0 ≡ kind
unfolding clause_record
record_kind kind p = refl

-- "1 zero", "6-7 zero"
pub record_zero : (kind : ℕ) (p : Pair) → (byte_at (clause_record kind p) 1 ≡ 0) × (byte_at (clause_record kind p) 6 ≡ 0) × (byte_at (clause_record kind p) 7 ≡ 0)
unfolding clause_record
record_zero kind p = (refl, refl, refl)

-- "2-3 left"
pub record_left : (kind : ℕ) (p : Pair) → p.left < 65536 → word_at (clause_record kind p) 2 ≡ p.left
unfolding clause_record
record_left kind p h = word_value p.left h

-- "4-5 right"
pub record_right : (kind : ℕ) (p : Pair) → p.right < 65536 → word_at (clause_record kind p) 4 ≡ p.right
unfolding clause_record
record_right kind p h = word_value p.right h

-- ---- all records

-- a record of kind 1 to 4
pub record AClauseRecord (r : List ℕ) : Type 0 where
  pub kind : ℕ
  pub of : Pair
  pub kind_low : 0 < kind
  pub kind_high : kind < 5
  pub is : r ≡ clause_record kind of

-- the record of a conclusion is of kind 2, 3 or 4
pub conclusion_record_kind : (k : Conclusion) → AClauseRecord (conclusion_record k)
unfolding conclusion_record
conclusion_record_kind (equals p) = record { kind = 2; of = p; kind_low = omega arith; kind_high = omega arith; is = refl }
conclusion_record_kind (differs p) = record { kind = 3; of = p; kind_low = omega arith; kind_high = omega arith; is = refl }
conclusion_record_kind falsum = record { kind = 4; of = pair 0 0; kind_low = omega arith; kind_high = omega arith; is = refl }

-- the records of a clause are of kind 1 to 4
pub records_of_kind : (c : Clause) (r : List ℕ) → Memᴰ r (records_of c) → AClauseRecord r
unfolding records_of
records_of_kind c r m = ⊎_elim
    (λ k. let q = Memᴰ.of_map (clause_record 1) c.premises k in record { kind = 1; of = q.0; kind_low = omega arith; kind_high = omega arith; is = sym q.2 })
    (λ k. subst AClauseRecord (sym (Memᴰ.eq_of_singleton k)) (conclusion_record_kind c.conclusion))
    (Memᴰ.append_cases (map (clause_record 1) c.premises) m)

-- all records of a summary are of kind 1 to 4
pub clause_records_kind : (n : ℕ) (cs : List Clause) (r : List ℕ) → Memᴰ r (clause_records n cs) → AClauseRecord r
unfolding clause_records
clause_records_kind n cs r m = let q = flat_map_mem records_of (standing n cs) m in records_of_kind q.0 r q.2

-- each has 8 bytes
pub clause_records_eight : (n : ℕ) (cs : List Clause) (r : List ℕ) → Memᴰ r (clause_records n cs) → length r ≡ 8
clause_records_eight n cs r m = let a = clause_records_kind n cs r m in ap length a.is ∙ record_length a.kind a.of

-- the bytes that are written: the records one behind the other
abbrev pub clause_bytes : ℕ → List Clause → List ℕ
clause_bytes n cs = flat_map (λ r. r) (clause_records n cs)

-- they are bytes
pub clause_bytes_bytes : (n : ℕ) (cs : List Clause) → AllBytes (clause_bytes n cs)
clause_bytes_bytes n cs = bytes_flat_map (λ r. r) (clause_records n cs) (λ r m. let a = clause_records_kind n cs r m in let low = a.kind_high in subst AllBytes (sym a.is) (record_bytes_is a.kind a.of (omega arith)))

-- and so many
pub clause_bytes_length : (n : ℕ) (cs : List Clause) → length (clause_bytes n cs) ≡ 8 * length (clause_records n cs)
clause_bytes_length n cs = records_length 8 (λ r. r) (clause_records n cs) (clause_records_eight n cs)

-- ---- reading back

-- the pair of a record
pub pair_back : (kind : ℕ) (p : Pair) → PairWithin 65536 p → pair_read (clause_record kind p) ≡ p
unfolding pair_read
pair_back kind p h = λ i. record { left = record_left kind p (omega arith) i; right = record_right kind p h.1 i }

-- a premise's record adds it to the premises
pub premise_back : (qs : List Pair) (p : Pair) (rs : List (List ℕ)) → PairWithin 65536 p → clauses_after qs (clause_record 1 p ∷ rs) ≡ clauses_after (qs ++ (p ∷ [])) rs
unfolding clauses_after clause_record
premise_back qs p rs h = ap (λ (q : Pair). clauses_after (qs ++ (q ∷ [])) rs) (pair_back 1 p h)

-- the record of a conclusion closes the clause
pub conclusion_back : (qs : List Pair) (k : Conclusion) (rs : List (List ℕ)) → ConclusionWithin 65536 k → clauses_after qs (conclusion_record k ∷ rs) ≡ record { premises = qs; conclusion = k } ∷ clauses_after [] rs
unfolding clauses_after conclusion_read conclusion_record clause_record
conclusion_back qs (equals p) rs h = ap (λ (q : Pair). record { premises = qs; conclusion = equals q } ∷ clauses_after [] rs) (pair_back 2 p h)
conclusion_back qs (differs p) rs h = ap (λ (q : Pair). record { premises = qs; conclusion = differs q } ∷ clauses_after [] rs) (pair_back 3 p h)
conclusion_back qs falsum rs h = refl

-- the records of premises add them all
pub premises_back : (qs ps : List Pair) (rs : List (List ℕ)) → ((p : Pair) → Memᴰ p ps → PairWithin 65536 p) → clauses_after qs (map (clause_record 1) ps ++ rs) ≡ clauses_after (qs ++ ps) rs
premises_back qs [] rs h = ap (λ (us : List Pair). clauses_after us rs) (sym (append-nil qs))
premises_back qs (p ∷ ps) rs h =
    premise_back qs p (map (clause_record 1) ps ++ rs) (h p (Memᴰ.head refl)) ∙
    premises_back (qs ++ (p ∷ [])) ps rs (λ q m. h q (Memᴰ.tail m)) ∙
    ap (λ (us : List Pair). clauses_after us rs) (append_assoc qs (p ∷ []) ps)

-- the records of a clause give the clause
pub clause_back : (c : Clause) (rs : List (List ℕ)) → ClauseWithin 65536 c → clauses_after [] (records_of c ++ rs) ≡ c ∷ clauses_after [] rs
unfolding records_of
clause_back c rs w =
    ap (clauses_after []) (append_assoc (map (clause_record 1) c.premises) (conclusion_record c.conclusion ∷ []) rs) ∙
    premises_back [] c.premises (conclusion_record c.conclusion ∷ rs) w.premises_within ∙
    conclusion_back c.premises c.conclusion rs w.conclusion_within

-- the records of clauses give the clauses
pub clauses_back : (cs : List Clause) → ClausesWithin 65536 cs → clauses_after [] (flat_map records_of cs) ≡ cs
unfolding flat_map clauses_after
clauses_back [] w = refl
clauses_back (c ∷ cs) w = clause_back c (flat_map records_of cs) (w c (Memᴰ.head refl)) ∙ ap (λ (ds : List Clause). c ∷ ds) (clauses_back cs (λ d m. w d (Memᴰ.tail m)))

-- reading the records back gives exactly the clauses that stand
pub read_back : (n : ℕ) (cs : List Clause) → n ≤ 65536 → LastsWithin n cs → clauses_after [] (clause_records n cs) ≡ standing n cs
unfolding clause_records
read_back n cs h lasts = clauses_back (standing n cs) (λ c m. within_more n 65536 c h (standing_within n cs lasts c m))

-- the same of the bytes, whatever follows them
pub read_back_bytes : (n : ℕ) (cs : List Clause) (rest : List ℕ) → n ≤ 65536 → LastsWithin n cs → clauses_read (length (clause_records n cs)) (clause_bytes n cs ++ rest) ≡ standing n cs
unfolding clauses_read
read_back_bytes n cs rest h lasts = ap (clauses_after []) (records_read 8 (clause_records n cs) rest (clause_records_eight n cs)) ∙ read_back n cs h lasts

-- so what a reader of the bytes gets is true exactly where the clauses are
pub bytes_true : (n : ℕ) (cs : List Clause) (rest : List ℕ) → n ≤ 65536 → OneEach n cs → (I : Interpretation) (table : List Term) → TrueClauses I table cs ↔ TrueClauses I table (clauses_read (length (clause_records n cs)) (clause_bytes n cs ++ rest))
bytes_true n cs rest h one I table =
    subst (λ (ds : List Clause). TrueClauses I table cs ↔ TrueClauses I table ds) (sym (read_back_bytes n cs rest h (λ c m l. (one.within c m).conclusion_within))) (standing_true n cs one I table)

-- and uses shared symbols only where the clauses do
pub bytes_shared : (n : ℕ) (cs : List Clause) (rest : List ℕ) → n ≤ 65536 → LastsWithin n cs → (ts : List Term) (ls : List Literal) (table : List Term) → ((c : Clause) → Memᴰ c cs → SharedClause ts ls table c) → (c : Clause) → Memᴰ c (clauses_read (length (clause_records n cs)) (clause_bytes n cs ++ rest)) → SharedClause ts ls table c
bytes_shared n cs rest h lasts ts ls table s c m = shared_standing n cs ts ls table s c (subst (λ (ds : List Clause). Memᴰ c ds) (read_back_bytes n cs rest h lasts) m)

-- 01's case P7: premise 0=1 and conclusion 2=3, read from the two records that it prints
pub late_read : clauses_read 2 (1 ∷ 0 ∷ 0 ∷ 0 ∷ 1 ∷ 0 ∷ 0 ∷ 0 ∷ 2 ∷ 0 ∷ 2 ∷ 0 ∷ 3 ∷ 0 ∷ 0 ∷ 0 ∷ []) ≡ record { premises = pair 0 1 ∷ []; conclusion = equals (pair 2 3) } ∷ []
unfolding clauses_read below clauses_after pair_read conclusion_read
late_read = refl

-- ---- any records, read one by one

-- the two words of a record are its pair
pub pair_words : (r : List ℕ) → pair_read r ≡ pair (word_at r 2) (word_at r 4)
unfolding pair_read
pair_words r = refl

-- kind 2 concludes an equality, kind 3 a disequality, and any other false
pub equal_read : (r : List ℕ) → byte_at r 0 ≡ 2 → conclusion_read r ≡ equals (pair_read r)
unfolding conclusion_read
equal_read r e = simp (eq-eqb (byte_at r 0) 2 e)

pub different_read : (r : List ℕ) → byte_at r 0 ≡ 3 → conclusion_read r ≡ differs (pair_read r)
unfolding conclusion_read
different_read r e = simp (ne_eqb (byte_at r 0) 2 (λ two. omega arith), eq-eqb (byte_at r 0) 3 e)

pub false_read : (r : List ℕ) → (byte_at r 0 ≡ 2 → ⊥) → (byte_at r 0 ≡ 3 → ⊥) → conclusion_read r ≡ falsum
unfolding conclusion_read
false_read r two three = simp (ne_eqb (byte_at r 0) 2 two, ne_eqb (byte_at r 0) 3 three)

-- behind the last record there is no clause
pub after_last : (ps : List Pair) → clauses_after ps [] ≡ []
unfolding clauses_after
after_last ps = refl

-- a premise adds to the open clause
pub after_premise : (ps : List Pair) (r : List ℕ) (rs : List (List ℕ)) → byte_at r 0 ≡ 1 → clauses_after ps (r ∷ rs) ≡ clauses_after (ps ++ (pair_read r ∷ [])) rs
unfolding clauses_after
after_premise ps r rs e = simp (eq-eqb (byte_at r 0) 1 e)

-- any other record ends it
pub after_conclusion : (ps : List Pair) (r : List ℕ) (rs : List (List ℕ)) → (byte_at r 0 ≡ 1 → ⊥) → clauses_after ps (r ∷ rs) ≡ record { premises = ps; conclusion = conclusion_read r } ∷ clauses_after [] rs
unfolding clauses_after
after_conclusion ps r rs e = simp (ne_eqb (byte_at r 0) 1 e)

-- the clauses of the first records of a byte string are read from its start
pub clauses_first : (count : ℕ) (bytes : List ℕ) → clauses_read count bytes ≡ clauses_after [] (map (record_at 8 bytes) (below count))
unfolding clauses_read
clauses_first count bytes = refl
