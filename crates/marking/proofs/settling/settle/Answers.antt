-- `settle` meets its contract: what is owed stays the same while the marked edges are read, the newest first.
use mathlib.Core.Logic.{inl, inr}
use mathlib.Core.Path.{sym, ◌∙◌}
use native.Mathlib.Omega.{arith}
use Rattle.std.proofs.lemmas.Bool.{true≢false}
use Rattle.marking.proofs.Owing.{settle_asked, settle_left}
use Rattle.marking.proofs.settling.settle.Goals.{then-whole, else-whole, else-drawn-i-gt0-via-then-drawn-i-gt0+else-marks-i, else-drawn-i-gt0-via-else-drawn-i-gt0}
use Rattle.marking.proofs.settling.settle.Goals as goal

pub loop-i-preserved-then-marks-i : goal.loop-i-preserved-then-marks-i
loop-i-preserved-then-marks-i c =
    settle_asked _ _ _ _ _ _ _ (omega (arith, c.loop-i-test.true)) c.loop-i.invariant _ _
    (elim c.if-whole.branch [
      | then-whole w ↦ inl w.if-whole.true
      | else-whole w ↦ inr (sym w.value-is ∙ c.if-marks-i.true)
    ])
    c.settle_edge.ensures

pub loop-i-preserved : goal.loop-i-preserved
loop-i-preserved c =
    settle_left _ _ _ _ _ _ _ (omega (arith, c.loop-i-test.true)) c.loop-i.invariant
    (λ h. elim c.else-drawn-i-gt0.branch [
      | else-drawn-i-gt0-via-then-drawn-i-gt0+else-marks-i w ↦
          elim w.if-whole.branch [
            | then-whole w' ↦ absurd (true≢false (sym w'.if-whole.true ∙ sym w'.value-is ∙ w.if-marks-i.false))
            | else-whole w' ↦ (w'.if-whole.false, sym w'.value-is ∙ w.if-marks-i.false)
          ]
      | else-drawn-i-gt0-via-else-drawn-i-gt0 w ↦ absurd (omega (arith, h, w.if-drawn-i-gt0.false))
    ])
