-- The refusals by the documents' numbers. Assumes nothing.
use Rattle.std.specs.Prelude.{ℕ, Result, Ok, Err}
use Rattle.hashing.specs.declared.refusal.Refusal.{Refusal}
use Rattle.hashing.specs.declared.refusal.Refusal.TheVariants.{UnknownLevel, WrongLength, PadBit, BadPosition, NoInverse, Undecoded, CutRecord, UnknownKind, WrongBody, WordsRanOut, AnotherTag, AnotherKart, OldCounter, TurnTooFar}

-- document 01's refusals, and document 02's from 10 on
abbrev pub number : Refusal → ℕ
number UnknownLevel = 1
number WrongLength = 2
number PadBit = 3
number BadPosition = 4
number NoInverse = 5
number Undecoded = 6
number CutRecord = 7
number UnknownKind = 8
number WrongBody = 9
number WordsRanOut = 10
number AnotherTag = 11
number AnotherKart = 12
number OldCounter = 13
number TurnTooFar = 15

-- an entry's answer: "0, done", or the number of its refusal
abbrev pub answer : {A : Type 0} → Result A Refusal → ℕ
answer (Ok value) = 0
answer (Err refusal) = number refusal

-- a number that an entry gives where it is done: "0 on a refusal"
abbrev pub given : Result ℕ Refusal → ℕ
given (Ok value) = value
given (Err refusal) = 0
