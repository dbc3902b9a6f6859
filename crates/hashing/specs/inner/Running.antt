-- What a running hash holds, as a function of what it has absorbed and of how much was squeezed: the contracts of `sponge`.
-- Assumes nothing.
use Rattle.std.specs.Prelude.{◌≡◌, List, [], ◌++◌, ℕ, zero, suc, ◌+◌, ◌/◌, ◌%◌, ◌≤◌, ◌<◌, length, drop}
use Rattle.hashing.specs.declared.sponge.Sponge.{Sponge}
use Rattle.hashing.specs.Sponge.{add_bytes, block, absorbed, soaked, permuted, sponge}

-- M absorbed: all its whole blocks, and the bytes after them already added
unfoldable pub running : ℕ → List ℕ → Sponge
running rate M =
    record {
      lanes = add_bytes (absorbed rate M (length M / rate)) 0 (block rate M (length M / rate));
      place = length M % rate;
    }

-- M padded and absorbed, and n bytes squeezed: the place is past the last of them, in its block
unfoldable pub drawn : ℕ → ℕ → List ℕ → ℕ → Sponge
drawn rate suffix M zero = record { lanes = soaked rate suffix M; place = 0 }
drawn rate suffix M (suc k) = record { lanes = permuted (k / rate) (soaked rate suffix M); place = suc (k % rate) }

-- `after` has absorbed nothing yet
pub record Starts (after : Sponge) : Type 0 where
  pub first : after.place ≡ 0
  pub fresh : (rate : ℕ) → after ≡ running rate []

-- `after` has absorbed `bytes` after what `before` had absorbed
pub record Absorbs (rate : ℕ) (before : Sponge) (bytes : List ℕ) (after : Sponge) : Type 0 where
  pub within : after.place < rate
  pub goes_on : (M : List ℕ) → before ≡ running rate M → after ≡ running rate (M ++ bytes)

-- `after` is ready to be squeezed for what `before` had absorbed
pub record Finishes (rate suffix : ℕ) (before after : Sponge) : Type 0 where
  pub within : after.place ≤ rate
  pub ready : (M : List ℕ) → before ≡ running rate M → after ≡ drawn rate suffix M 0

-- `out` is what comes after the bytes that had been squeezed from `before`
pub record Squeezes (rate : ℕ) (before : Sponge) (out : List ℕ) (after : Sponge) : Type 0 where
  pub within : after.place ≤ rate
  pub gives : (suffix : ℕ) (M : List ℕ) (n : ℕ) → before ≡ drawn rate suffix M n
      → out ≡ drop n (sponge rate suffix M (n + length out))
  pub goes_on : (suffix : ℕ) (M : List ℕ) (n : ℕ) → before ≡ drawn rate suffix M n
      → after ≡ drawn rate suffix M (n + length out)
