-- The path between two joined terms as the code hands it out.
use Rattle.std.specs.Prelude.{map, ◌≡◌, ℕ, ◌+◌, ◌≤◌, T, length, take}
use Rattle.closure.specs.Graph.{Graph, joined, path, vertices}
use Rattle.closure.specs.Forests.{Forest}
use Rattle.graphs.specs.Rooting.{number, RootedBy}
use Rattle.graphs.specs.declared.paths.Trail.{Trail}
use Rattle.graphs.specs.declared.rooting.Rooting.{Rooting}

-- the forest is that of a graph without a cycle, which joins u and v
pub record Joining (r : Rooting) (u v : ℕ) (G : Graph) : Type 0 where
  pub forest : Forest G
  pub rooted : RootedBy G r
  pub join : T (joined G u v)

-- the terms that the path from u to v stands on, and the numbers of its edges
pub record TrailOf (G : Graph) (u v : ℕ) (r : Trail) : Type 0 where
  pub within : r.hops ≤ 510
  pub hops : r.hops ≡ length (path G u v)
  pub stops : take (r.hops + 1) r.stops ≡ vertices u (path G u v)
  pub edges : take r.hops r.edges ≡ map number (path G u v)
