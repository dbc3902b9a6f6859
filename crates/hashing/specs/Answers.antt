-- What a public entry gives back, in document 01's words: one number, and the final content of each output.
-- Assumes nothing.
use Rattle.std.specs.Prelude.{Bool, true, false, not, List, [], ◌∷◌, map, ℕ, zero, suc, eqb, length, replicate}

-- a number of document 01's table, and whether it applies
pub record Reason : Type 0 where
  pub applies : Bool
  pub number : ℕ

-- "a wrong length", of an input or an output
unfoldable pub differs : ℕ → ℕ → Bool
differs a b = not (eqb a b)

-- an output buffer: its actual length, and what it is to hold if nothing applies
pub record Output : Type 0 where
  pub room : ℕ
  pub value : List ℕ

-- the answer, and what each output buffer holds afterwards, in the order of the parameters
pub data Outcome : Type 0 where
  gives : ℕ → List (List ℕ) → Outcome

-- "The smallest number that applies is given": the reasons stand in the documents' order, which rises but for key making's 10 before
-- 5; 0, done, where none applies
unfoldable pub first_of : List Reason → ℕ
first_of [] = 0
first_of (reason ∷ rest) = elim reason.applies [ true ↦ reason.number | false ↦ first_of rest ]

-- "Each refusal fills all output buffers, at their actual lengths, with zero"
abbrev pub zeros : Output → List ℕ
zeros output = replicate output.room 0

unfoldable pub content : ℕ → Output → List ℕ
content zero output = output.value
content (suc refusal) output = zeros output

unfoldable pub settle : List Reason → List Output → Outcome
settle reasons outputs = gives (first_of reasons) (map (content (first_of reasons)) outputs)

-- the numbers that an entry reports beside its outputs: zeros, as many, where it refuses
unfoldable pub reported : Outcome → List ℕ → List ℕ
reported (gives answer contents) numbers = content answer (record { room = length numbers; value = numbers })
