-- Graphs without a cycle, and the form of every invariant of a run.
use Rattle.std.specs.Prelude.{not, [], ◌∷◌, ℕ, ◌<◌, T}
use Rattle.closure.specs.Graph.{Edge, Graph, joined}

-- every edge has the property, over the edges older than it
abbrev pub Each : (Graph → Edge → Type 0) → Graph → Type 0
Each P [] = Unit {0}
Each P (e ∷ G) = P G e × Each P G

-- the edge joins two terms that the older ones do not join
abbrev pub Unjoined : Graph → Edge → Type 0
Unjoined G e = T (not (joined G e.left e.right))

-- a graph without a cycle
abbrev pub Forest : Graph → Type 0
Forest = Each Unjoined

-- both ends of every edge are below n
abbrev pub EndsBelow : ℕ → Graph → Type 0
EndsBelow n = Each (λ G e. (e.left < n) × (e.right < n))
