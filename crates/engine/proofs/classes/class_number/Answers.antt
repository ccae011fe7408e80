-- `engine::classes::class_number` meets its contract: the search goes over the terms by the test of the definition.
use Rattle.std.proofs.Common.{refl, rules, ◌∙◌}
use Rattle.tables.proofs.Searches.{found_first}
use Rattle.engine.proofs.Searches.{alike, class_idle_by, class_used_by}
use Rattle.engine.proofs.classes.class_number.Goals as goal

pub returns-then-not-used-t : goal.returns-then-not-used-t
returns-then-not-used-t c = class_idle_by _ _ _ _ c.if-not-used-t.true

pub returns : goal.returns
returns c =
    c.unwrap_or.ensures ∙
    class_used_by _ _ _ _ c.if-not-used-t.false _
    (found_first (alike c.args.used.now c.args.labels.now c.args.t) _ _ _ _ c.find-lowest.ensures.ran refl (λ x b q k. search rules))
