-- For closed cases: a theorem that says `unfolding computing` opens all that the definitions of specs/ compute with.
use Rattle.tables.proofs.Computing.{computing as lower}
use Rattle.closure.specs.Graph.{label, joined, path, joined_pairwise, paths_between, parents_of, parent_paths}
use Rattle.closure.specs.Steps.{vertex, congruent, equal_terms, vertex_equal, place_as, placed, tied, tied_both, with_middle, colourable_only}
use Rattle.closure.specs.OwnRun.{basic_steps, derivable, first_pair, and_then, first_shared, middle_from, derived_on, turns_at, own_run}

unfoldable pub computing : Unit {0}
unfolding lower label joined path joined_pairwise paths_between parents_of parent_paths vertex congruent equal_terms vertex_equal place_as placed tied tied_both with_middle colourable_only basic_steps derivable first_pair and_then first_shared middle_from derived_on turns_at own_run
computing = tt
