-- Soundness: joined terms have one value in every interpretation that satisfies the equalities.
use mathlib.Core.Bool.{not}
use mathlib.Core.List.{List, [], ◌∷◌, ◌++◌, Memᴰ}
use mathlib.Core.Logic.{◌⊎◌, inl, inr, ⊎_elim}
use mathlib.Core.Path.{◌≡◌, refl, sym, ap, subst, ◌∙◌}
use Prim.Native.Nat.{ℕ}
use lib.Dec.{T}
use Rattle.tables.specs.Terms.{Term}
use Rattle.tables.specs.Parts.{LowerArguments}
use Rattle.tables.specs.declared.Literal.{Literal}
use Rattle.tables.specs.declared.Kind.{Kind}
use Rattle.tables.specs.declared.Kind.TheVariants.{Equal}
use Rattle.tables.specs.Interpretations.{Interpretation, value, HoldsAs, Holds, SatisfiesEqualities}
use Rattle.tables.proofs.Terms.{value_append}
use Rattle.tables.proofs.Colours.{SidesWithin}
use Rattle.closure.specs.Graph.{Edge, EdgeKind, basic, derived, Graph, label, joined}
use Rattle.closure.specs.Steps.{State, table_of, HasSides}
use Rattle.closure.proofs.Walking.Joined.{joined_label, label_cases}
use Rattle.closure.proofs.Walking.Invariant.{Each, Behind, SoundGraph}
use Rattle.closure.proofs.Running.Congruent.{congruent_value}
use Rattle.closure.proofs.Running.States.{SoundState}

module _ {X : Type 0} (f : ℕ → X) where
  -- both ends of an edge give the same
  abbrev pub Agrees : Graph → Edge → Type 0
  Agrees G e = f e.left ≡ f e.right

  -- what the ends of each edge have in common, a term has in common with its label
  pub label_agrees : (G : Graph) → Each Agrees G → (v : ℕ) → f (label G v) ≡ f v
  unfolding label
  label_agrees [] each v = refl
  label_agrees (e ∷ G) each v = go (λ w. label_agrees G each.1 w) (label_cases e G v)
    where
      go : ((w : ℕ) → f (label G w) ≡ f w) → (T (joined G v e.right) × (label (e ∷ G) v ≡ label G e.left)) ⊎ (T (not (joined G v e.right)) × (label (e ∷ G) v ≡ label G v)) → f (label (e ∷ G) v) ≡ f v
      go g (inl c) = ap f c.1 ∙ g e.left ∙ each.0 ∙ sym (g e.right) ∙ sym (ap f (joined_label G v e.right c.0)) ∙ g v
      go g (inr c) = ap f c.1 ∙ g v

  -- so joined terms have it in common
  pub joined_agrees : (G : Graph) → Each Agrees G → (u v : ℕ) → T (joined G u v) → f u ≡ f v
  joined_agrees G each u v j = sym (label_agrees G each u) ∙ ap f (joined_label G u v j) ∙ label_agrees G each v

-- a literal of kind 1 that holds gives its sides one value
pub holds_equal : (I : Interpretation) (ts : List Term) (l : Literal) → l.kind ≡ Equal → Holds I ts l → value I ts l.left ≡ value I ts l.right
unfolding Holds HoldsAs
holds_equal I ts l e h = subst (λ (k : Kind). HoldsAs I ts k l.left l.right) e h

module _ (ts : List Term) (ls : List Literal) (low : LowerArguments ts) (within : SidesWithin ts ls) (I : Interpretation) (holds : SatisfiesEqualities I ts ls) where
  -- the sides of an equality have one value in a larger table too
  pub sides_value : (more : List Term) (l : Literal) → Memᴰ l ls → l.kind ≡ Equal → (s t : ℕ) → HasSides l s t → value I (ts ++ more) s ≡ value I (ts ++ more) t
  sides_value more l m k s t h = ⊎_elim (λ q. sym (ap V' q.0) ∙ same ∙ ap V' q.1) (λ q. sym (ap V' q.1) ∙ sym same ∙ ap V' q.0) h
    where
      V' : ℕ → I.Carrier
      V' = value I (ts ++ more)

      same : V' l.left ≡ V' l.right
      same = value_append I ts more low l.left (within l m).0 ∙ holds_equal I ts l k (holds l m k) ∙ sym (value_append I ts more low l.right (within l m).1)

  -- the ends of each edge have one value
  pub sound_agrees : (more : List Term) → LowerArguments (ts ++ more) → (G : Graph) → SoundGraph ts ls (ts ++ more) G → Each (Agrees (value I (ts ++ more))) G
  sound_agrees more lower [] each = tt
  sound_agrees more lower (e ∷ G) each = let older = sound_agrees more lower G each.1 in (go e.kind each.0.behind older, older)
    where
      go : (k : EdgeKind) → Behind ls (ts ++ more) G e k → Each (Agrees (value I (ts ++ more))) G → value I (ts ++ more) e.left ≡ value I (ts ++ more) e.right
      go basic b older = sides_value more b.0 b.1 b.2 e.left e.right b.4
      go derived b older = congruent_value (ts ++ more) G I lower (joined_agrees (value I (ts ++ more)) G older) e.left e.right each.0.left_within each.0.right_within b

  -- terms that a sound graph joins have one value
  pub graph_value : (more : List Term) → LowerArguments (ts ++ more) → (G : Graph) → SoundGraph ts ls (ts ++ more) G → (u v : ℕ) → T (joined G u v) → value I (ts ++ more) u ≡ value I (ts ++ more) v
  graph_value more lower G each u v j = joined_agrees (value I (ts ++ more)) G (sound_agrees more lower G each) u v j

  -- in every state of a run, joined terms have one value
  pub joined_value : (st : State) → SoundState ts ls st → (u v : ℕ) → T (joined st.graph u v) → value I (table_of ts st) u ≡ value I (table_of ts st) v
  joined_value st r u v j = graph_value st.added r.lower st.graph r.edges u v j
