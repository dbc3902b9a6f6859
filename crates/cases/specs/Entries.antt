-- The numbers of the entries. Assumes nothing.
use Rattle.std.specs.Prelude.{ℕ, ◌≡◌, ◌<◌, ◌⊎◌, Result, MatchResult}
use Rattle.lines.specs.declared.Fault.{Fault}
use Rattle.cases.specs.declared.entry.Entry.{Entry}
use Rattle.cases.specs.declared.entry.Entry.TheVariants.{Shake256, Sha3_384, Product, Inverse, ErrorOf, Decode, MakeKey, Wrap, Open, ReadRecord, Pack, Unpack, FairPolynomial, WriteMap, AcceptMap, DecodeEarly, RotateKey}

-- an entry's number in a case
abbrev pub number : Entry → ℕ
number Shake256 = 1
number Sha3_384 = 2
number Product = 3
number Inverse = 4
number ErrorOf = 5
number Decode = 6
number MakeKey = 7
number Wrap = 8
number Open = 9
number ReadRecord = 10
number Pack = 11
number Unpack = 12
number FairPolynomial = 13
number WriteMap = 14
number AcceptMap = 15
number DecodeEarly = 16
number RotateKey = 17

-- the result is the entry of this number, or a fault with a number that no entry has
abbrev pub Decodes : ℕ → Result Entry Fault → Type 0
Decodes n r = MatchResult r (λ entry. number entry ≡ n) (λ fault. (n ≡ 0) ⊎ (17 < n))
