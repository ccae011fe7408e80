-- Equalities and clauses as the summary has them.
use Rattle.std.specs.Prelude.{cond, List, ℕ, ltb}
use Rattle.tables.specs.Words.{Pair, pair}

-- [p], the equality of a path's ends u and v: "Left is below right"
unfoldable pub between : ℕ → ℕ → Pair
between u v = cond (ltb u v) (pair u v) (pair v u)

-- what a clause concludes: an equality, a disequality, or false
pub data Conclusion : Type 0 where
  equals : Pair → Conclusion
  differs : Pair → Conclusion
  falsum : Conclusion

-- "premises imply conclusion"
pub record Clause : Type 0 where
  pub premises : List Pair
  pub conclusion : Conclusion
