-- `Records::put` meets its contract: the record is copied over its place where it fits, and nothing is written where it does not.
use denote.Enum.Declared.{tag_of}
use mathlib.Core.List.{[], ◌∷◌}
use mathlib.Core.Path.{◌≡◌, refl, sym, ap, ◌∙◌}
use Prim.Native.Nat.{◌+◌}
use native.Mathlib.Omega.{arith}
use lib.ListN.{get_or}
use Rattle.tables.specs.Words.{pair}
use Rattle.clauses.specs.Records.{clause_record}
use Rattle.clauses.proofs.Records.{record_length}
use Rattle.summing.specs.contracts.writing.Kind.{the_type}
use Rattle.summing.specs.declared.writing.Kind.{Kind}
use Rattle.summing.specs.declared.writing.Kind.TheVariants.{Premise, Equal, Different, False}
use Rattle.summing.specs.declared.writing.Records.{Records}
use Rattle.summing.specs.Writing.{kind_number}
use Rattle.summing.proofs.RecordsOut.{put_over, put_not, records_one}
use Rattle.summing.proofs.writing.Records.put.Goals as goal
use Rattle.summing.proofs.writing.Records.put.Goals.{then-start-self, else-start-self}

-- the kinds are numbered from 1 on
cast_number : (k : Kind) → tag_of the_type k + 1 ≡ kind_number k
cast_number Premise = refl
cast_number Equal = refl
cast_number Different = refl
cast_number False = refl

pub returns-clause-put : goal.returns-clause-put
unfolding clause_record
returns-clause-put c =
    let kind = kind_number c.args.kind in
    let p = pair c.args.left c.args.right in
    let buffer = λ (r : Records). r.out.now in
    elim c.if-start-self.branch [
      | then-start-self w ↦ let bytes : w.copy_from_slice.new.self ≡ clause_record kind p = w.copy_from_slice.ensures.after ∙ (λ i. cast_number c.args.kind i ∷ 0 ∷ get_or (w.to_le_bytes-l.ensures i) 0 0 ∷ get_or (w.to_le_bytes-l.ensures i) 1 0 ∷ get_or (w.to_le_bytes-r.ensures i) 0 0 ∷ get_or (w.to_le_bytes-r.ensures i) 1 0 ∷ 0 ∷ 0 ∷ []) in records_one _ _ _ (ap (λ (r : Records). r.count + 1) w.self-is) (ap buffer w.self-is ∙ put_over c.args.self.now.count _ _ (clause_record kind p) _ bytes (omega arith) (record_length kind p) w.if-start-self.true)
      | else-start-self w ↦ records_one _ _ _ (ap (λ (r : Records). r.count + 1) w.self-is) (ap buffer w.self-is ∙ sym (put_not _ _ _ w.if-start-self.false))
    ]
