-- "Sampler (002, Algorithm 3)". Assumes nothing.
use Rattle.std.specs.Prelude.{true, false, List, [], ◌∷◌, ◌++◌, ℕ, zero, suc, ◌+◌, ◌-◌, ◌*◌, ◌/◌, ◌^◌, get_or}
use Rattle.ring.specs.Polynomials.{bit, listed}

-- "pos = i + floor((len − i)·s_i / 2^32)"
unfoldable pub candidate : ℕ → ℕ → ℕ → ℕ
candidate len i s = i + (len - i) * s / 2 ^ 32

-- "append i if pos is already listed, else pos"
unfoldable pub appended : ℕ → ℕ → List ℕ → List ℕ
appended i pos list = list ++ (elim (listed pos list) [ true ↦ i | false ↦ pos ] ∷ [])

-- "for i from wt−1 down to 0": the steps below i, after those that made the list so far
unfoldable pub sample_below : ℕ → List ℕ → ℕ → List ℕ → List ℕ
sample_below len words zero list = list
sample_below len words (suc i) list = sample_below len words i (appended i (candidate len i (get_or words i 0)) list)

-- "Given len, wt and 32-bit words s_0 .. s_(wt−1)"
unfoldable pub sample : ℕ → ℕ → List ℕ → List ℕ
sample len wt words = sample_below len words wt []

-- CR 2: "the number of steps at which i was used because pos was already listed", over the same steps with the same list
unfoldable pub replaced_below : ℕ → List ℕ → ℕ → List ℕ → ℕ
replaced_below len words zero list = 0
replaced_below len words (suc i) list =
    let pos = candidate len i (get_or words i 0) in bit (listed pos list) + replaced_below len words i (appended i pos list)

unfoldable pub replaced : ℕ → ℕ → List ℕ → ℕ
replaced len wt words = replaced_below len words wt []

-- H's sampler goes by a name of its own; key making draws by `Fair`
unfoldable pub sample_error : ℕ → ℕ → List ℕ → List ℕ
sample_error len wt words = sample len wt words
